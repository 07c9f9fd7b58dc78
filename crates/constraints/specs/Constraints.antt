-- The constraints of a policy (paper 01, kind 8, and χ).
use Rattle.std.specs.Prelude.{Bool, not, ◌&&◌, ◌||◌, eqb}
use Rattle.base.specs.Bits.{bit}
use Rattle.policy_image.specs.declared.records.Record.{Record}
use Rattle.policy_image.specs.Layout.{root_of}
use Rattle.policy_image.specs.Policy.{Policy}
use Rattle.policy_image.specs.OfKind.{every}
use Rattle.context.specs.declared.Context.{Context}
use Rattle.context.specs.declared.Event.{Event}
use Rattle.constraints.specs.Eval.{eval_node}

-- "constraint on class a and mask": whether r is a constraint on the event
abbrev pub constrains : Record → Event → Bool
constrains r e = eqb r.a e.class && bit r.mask e.perm

-- "all constraints on it are true; with none it is true": x acts, y is acted on
unfoldable pub constraints_hold : Policy → Event → Context → Context → Bool
constraints_hold p e x y = every p 8 (λ r. not (constrains r e) || eval_node p x y (root_of r))
