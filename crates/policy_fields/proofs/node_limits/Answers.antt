use Rattle.policy_fields.specs.Fields.{node_limits, none}
use Rattle.base.proofs.Numbers.{two_of, three_of, table_other}
use lib.ListN.{get_or}
use mathlib.Core.Logic.{⊎_elim}
use mathlib.Core.Path.{◌≡◌, sym, ap, ◌∙◌, refl}
use Prim.Native.Nat.{ℕ}
use native.Mathlib.Omega.{arith}
use Rattle.policy_fields.proofs.node_limits.Goals as goal

pub returns-in-1 : goal.returns-in-1
returns-in-1 c = c.plain.ensures ∙ sym (ap (λ (k : ℕ). get_or (node_limits c.args.n) k none) c.in-1.is)

pub returns-in-2-to-3 : goal.returns-in-2-to-3
returns-in-2-to-3 c = two_of (λ k. c.plain-in-2-to-3.result ≡ get_or (node_limits c.args.n) k none) 2 c.args.op (omega arith) (omega arith) c.plain-in-2-to-3.ensures c.plain-in-2-to-3.ensures

pub returns-in-4-to-6 : goal.returns-in-4-to-6
returns-in-4-to-6 c =
    three_of (λ k. c.plain-in-4-to-6.result ≡ get_or (node_limits c.args.n) k none) 4 c.args.op (omega arith) (omega arith) c.plain-in-4-to-6.ensures c.plain-in-4-to-6.ensures c.plain-in-4-to-6.ensures

pub returns-in-7-to-8 : goal.returns-in-7-to-8
returns-in-7-to-8 c =
    two_of (λ k. c.plain-in-7-to-8.result ≡ get_or (node_limits c.args.n) k none) 7 c.args.op (omega arith) (omega arith) c.plain-in-7-to-8.ensures c.plain-in-7-to-8.ensures

pub returns-in-9-to-10 : goal.returns-in-9-to-10
returns-in-9-to-10 c =
    two_of (λ k. c.plain-in-9-to-10.result ≡ get_or (node_limits c.args.n) k none) 9 c.args.op (omega arith) (omega arith) c.plain-in-9-to-10.ensures c.plain-in-9-to-10.ensures

pub returns-in-11-to-12 : goal.returns-in-11-to-12
returns-in-11-to-12 c =
    two_of (λ k. c.plain-in-11-to-12.result ≡ get_or (node_limits c.args.n) k none) 11 c.args.op (omega arith) (omega arith) c.plain-in-11-to-12.ensures c.plain-in-11-to-12.ensures

pub returns-in_default : goal.returns-in_default
returns-in_default c = c.plain-in_default.ensures ∙ sym (table_other (node_limits c.args.n) none c.args.op refl (λ a b. ⊎_elim (λ w. omega arith) (λ w. omega arith) c.in_default.branch-raw))
