use mathlib.Core.Path.{refl, sym, ◌∙◌}
use Rattle.search_memory.proofs.ShutLaws.{recall_same, no_open}
use Rattle.search_memory.proofs.first.first_step.Goals as goal

pub returns-then-has_member : goal.returns-then-has_member
returns-then-has_member c =
    (record { none = λ _. refl; nearest = λ _. no_open c.requires.2 (sym c.has_member.ensures ∙ c.if-has_member.true) }, recall_same c.requires.2)
