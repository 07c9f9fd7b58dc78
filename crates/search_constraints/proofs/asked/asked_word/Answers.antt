-- What is remembered is the answer of whatever has the key, and what is asked anew is the answer by the leaves.
use Prim.Native.Nat.{◌%◌}
use mathlib.Core.Path.{◌∙◌}
use native.Mathlib.Omega.{arith}
use Rattle.search_constraints.proofs.AskedLaws.{asked_fresh, before_more}
use Rattle.search_constraints.proofs.asked.asked_word.Goals as goal

pub returns-then-memo-slot : goal.returns-then-memo-slot
returns-then-memo-slot c =
    (c.requires.3.at (c.ask_key-key.result % 1021) c.args.a (omega arith) c.requires.4 (c.if-memo-slot.true ∙ c.ask_key-key.ensures), c.requires.3)

pub constraints_word-word-requires : goal.constraints_word-word-requires
constraints_word-word-requires c = (c.requires.0, rw c.decode.ensures (omega arith))

pub returns : goal.returns
returns c =
    let S = c.requires in
    let w = asked_fresh S.1 c.ask_leaves-leaves.ensures c.decode.ensures c.constraints_word-word.ensures in
    (w, before_more S.0.nodes S.2 S.4 S.3 w c.ask_key-key.ensures (omega arith))
