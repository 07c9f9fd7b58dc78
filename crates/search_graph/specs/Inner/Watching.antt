-- What the monitors of a search promise, for every model whose sets the bits give.
use Rattle.std.specs.Prelude.{◌≡◌, Bool, ℕ, suc, ◌+◌, ◌^◌, ◌≤◌, ◌<◌}
use Rattle.base.specs.Bits.{bit}
use Rattle.goal_image.specs.declared.check.Legs.{Legs}
use Rattle.paths.specs.Model.{Model}
use Rattle.search_graph.specs.declared.monitor.Mode.{Mode}
use Rattle.search_graph.specs.declared.monitor.Mode.TheVariants.{Order, Events, Any}
use Rattle.search_graph.specs.Inner.Nodes.{watch_of}

-- l are the model's legs
pub record LegsOf (M : Model) (l : Legs) : Type 0 where
  pub count : M.legs ≡ l.count
  pub repeated : (i : ℕ) → i < M.legs → bit l.repeated i ≡ M.repeated i

-- bit i of into says whether y is in σi
pub record Into (M : Model) (y into : ℕ) : Type 0 where
  pub at : (i : ℕ) → 0 < i → i ≤ M.legs → bit into i ≡ M.σ i y

-- bit 7 + i of by says whether e is in γi
pub record By (M : Model) (e by : ℕ) : Type 0 where
  pub at : (i : ℕ) → i < M.legs → bit by (7 + i) ≡ M.γ i e

-- the stages that a step goes on from, where order is not looked for: none, where any end is
abbrev pub stages_from : Mode → ℕ → ℕ
stages_from Order state = state
stages_from Events state = state
stages_from Any state = 0

pub record Started (m : Mode) (l : Legs) (into r : ℕ) : Type 0 where
  pub small : r < 2 ^ suc l.count
  pub is : (M : Model) (y : ℕ) → LegsOf M l → Into M y into → r ≡ (watch_of m M).start y

pub record Stepped (m : Mode) (l : Legs) (state by into r : ℕ) : Type 0 where
  pub small : r < 2 ^ suc l.count
  pub is : (M : Model) (e y : ℕ) → LegsOf M l → By M e by → Into M y into → r ≡ (watch_of m M).step state e y

pub record Judged (m : Mode) (l : Legs) (state : ℕ) (r : Bool) : Type 0 where
  pub is : (M : Model) → LegsOf M l → r ≡ (watch_of m M).bad state
