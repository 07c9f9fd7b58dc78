use mathlib.Core.Path.{sym, ap, subst, ◌∙◌}
use Rattle.policy_image.specs.Policy.{policy_of}
use Rattle.context.specs.declared.Event.{Event}
use Rattle.context.specs.Inner.Coding.{Coded}
use Rattle.context.proofs.CodeLaws.{coded_of}
use Rattle.access.specs.Authorization.{authorized, clauses_of, all_hold}
use Rattle.access.proofs.authorized.Goals as goal

pub values-requires : goal.values-requires
values-requires c =
    (c.requires.0, subst Coded (sym c.decode.ensures) (coded_of c.args.event c.requires.1))

pub returns : goal.returns
unfolding authorized
returns c =
    let p = policy_of c.args.policy.now in
    c.decide.ensures ∙ ap all_hold c.values.ensures
    ∙ ap (λ (e : Event). all_hold (clauses_of p e c.args.x c.args.y)) c.decode.ensures
