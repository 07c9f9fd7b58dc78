use Rattle.std.proofs.Common.{sym, ap, ◌∙◌, arith}
use Rattle.policy_image.specs.Inner.Kinds.{kind_number}
use Rattle.policy_expressions.proofs.UseLaws.{use_right, use_none_right}
use Rattle.policy_expressions.proofs.second_use.Goals as goal

pub returns-in-2-to-3 : goal.returns-in-2-to-3
returns-in-2-to-3 c =
    let i = c.in-Some-Node in
    sym (use_right c.args.r (i.ensures ∙ ap kind_number i.field-0-is) (omega arith) (omega arith))

pub returns-in_default-a : goal.returns-in_default-a
returns-in_default-a c = sym (use_none_right c.args.r (λ k a b. omega arith))

pub returns-in_default-a-2 : goal.returns-in_default-a-2
returns-in_default-a-2 c = sym (use_none_right c.args.r (λ k a b. omega arith))

pub returns-in_default : goal.returns-in_default
returns-in_default c = sym (use_none_right c.args.r (λ k a b. grind arith))

pub returns-in_default-2 : goal.returns-in_default-2
returns-in_default-2 c = sym (use_none_right c.args.r (λ k a b. grind arith))
