use Rattle.std.proofs.Common.{sym, ap, ◌∙◌, arith}
use Rattle.policy_image.specs.Inner.Kinds.{kind_number}
use Rattle.policy_expressions.proofs.UseLaws.{use_root, use_left, use_none}
use Rattle.policy_expressions.proofs.first_use.Goals as goal

pub returns-in-Some-Constraint : goal.returns-in-Some-Constraint
returns-in-Some-Constraint c =
    let i = c.in-Some-Constraint in
    sym (use_root c.args.r (i.ensures ∙ ap kind_number i.field-0-is))

pub returns-in-1-to-3 : goal.returns-in-1-to-3
returns-in-1-to-3 c =
    let i = c.in-Some-Node in
    sym (use_left c.args.r (i.ensures ∙ ap kind_number i.field-0-is) (omega arith) (omega arith))

pub returns-in_default-a : goal.returns-in_default-a
returns-in_default-a c =
    let i = c.in-Some-Node in
    let k = i.ensures ∙ ap kind_number i.field-0-is in
    sym (use_none c.args.r (omega arith) (λ k a b. omega arith))

pub returns-in_default-a-2 : goal.returns-in_default-a-2
returns-in_default-a-2 c =
    let i = c.in-Some-Node in
    let k = i.ensures ∙ ap kind_number i.field-0-is in
    sym (use_none c.args.r (omega arith) (λ k a b. omega arith))

pub returns-in_default : goal.returns-in_default
returns-in_default c =
    sym (use_none c.args.r (λ k. grind arith) (λ k a b. grind arith))

pub returns-in_default-2 : goal.returns-in_default-2
returns-in_default-2 c =
    sym (use_none c.args.r (λ k. grind arith) (λ k a b. grind arith))
