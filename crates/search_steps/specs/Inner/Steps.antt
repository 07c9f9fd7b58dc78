-- What the leaves of a search promise: how they find it is theirs.
use Rattle.std.specs.Prelude.{ℕ, ◌+◌, ◌*◌, ◌/◌, ◌%◌, ◌≤◌, ◌<◌, Bool, true, false, ◌&&◌, List, ◌⊎◌, ◌≡◌, length, get_or}
use Rattle.std.specs.Int.Bits.{bit_or}
use Rattle.base.specs.Bits.{bit}
use Rattle.base.specs.Ranges.{Within}
use Rattle.policy_image.specs.Policy.{Policy}
use Rattle.context.specs.declared.Context.{Context}
use Rattle.context.specs.Codes.{event_of}
use Rattle.context.specs.Ranges.{ContextInRange}
use Rattle.relations.specs.Relations.{α, write_like, read_like}
use Rattle.access.specs.Authorization.{flow}
use Rattle.goal_model.specs.Images.{meetsρμ}
use Rattle.plan.specs.Inner.Regions.{block_entries, plan_entries, type_codes}
use Rattle.plan.specs.Inner.Entries.{special_at, first_at, writes_at, reads_at, event_sets_at}
use Rattle.plan.specs.Inner.Plan.{special, Tabled}
use Rattle.search_steps.specs.declared.nearest.Asker.{Asker}
use Rattle.search_steps.specs.declared.nearest.Offer.{Offer}
use Rattle.search_steps.specs.Inner.Nearest.{closed, PassedOver, AllPassedOver, ResumesOf, steps_end}

-- whether the event is special, by the plan
abbrev pub special_by : List ℕ → ℕ → Bool
special_by plan e = bit (special_at plan (e / 32)) (e % 32)

-- the plan has the role changes of the policy
pub record Conditions (p : Policy) (plan : List ℕ) : Type 0 where
  pub size : plan_entries ≤ length plan
  pub tables : Tabled p plan

-- the entry offers the event from the type t to the type o: what α lets t write and o read
pub record Offering (p : Policy) (plan : List ℕ) (t e o entry : ℕ) : Type 0 where
  pub within : entry < block_entries
  pub event : Within 32 (32 * p.counts.classes + 31) e
  pub other : Within 1 p.counts.types o
  pub writes : bit (writes_at plan entry) (e % 32) ≡ (α p t o (event_of e) && write_like p (event_of e))
  pub reads : bit (reads_at plan entry) (e % 32) ≡ (α p o t (event_of e) && read_like p (event_of e))
  pub some : bit (bit_or (writes_at plan entry) (reads_at plan entry)) (e % 32) ≡ true

-- an entry of x's type offers the step of o, and the entries before its start are of classes before the step's
abbrev pub ResumesFrom : List ℕ → Context → Offer → Type 0
ResumesFrom plan x o = ResumesOf plan x.ty o

-- an event that flows from x to y too, and that a search cannot tell from the event i, was asked before
pub record Earlier (p : Policy) (plan : List ℕ) (from i : ℕ) (x y : Context) : Type 0 where
  pub event : ℕ
  pub before : type_codes * event + y.ty < from
  pub sets : event_sets_at plan event ≡ event_sets_at plan i
  pub flows : flow p (event_of event) x y ≡ true

-- r is a step from a step on that an entry offers to x's type and that is not closed, or steps_end, and those that it passes over do not
-- flow from x, or need not be asked. A step is type_codes * event + the target's type
pub record NextOffer (p : Policy) (plan swept : List ℕ) (a : Asker) (x : Context) (from : ℕ) (r : Offer) : Type 0 where
  pub low : from ≤ r.step
  pub high : r.step ≤ steps_end
  pub none : (i : ℕ) (y : Context) → ContextInRange p.counts y → from ≤ type_codes * i + y.ty → type_codes * i + y.ty < r.step → flow p (event_of i) x y ≡ true
      → PassedOver plan swept a i y.ty ⊎ Earlier p plan from i x y
  pub offers : r.step < steps_end → Offering p plan x.ty (r.step / type_codes) (r.step % type_codes) r.entry
  pub unclosed : r.step < steps_end → closed a (event_sets_at plan (r.step / type_codes)) (get_or swept (r.step % type_codes) 0) ≡ false
  pub resumes : r.step < steps_end → ResumesFrom plan x r

-- no step from the type t need be asked
abbrev pub Shut : List ℕ → List ℕ → Asker → ℕ → Type 0
Shut plan swept a t = AllPassedOver plan swept a (first_at plan t) (first_at plan (t + 1))

-- r is the first step from x; where there is none, no step from its type need be asked
pub record FirstOffer (p : Policy) (plan swept : List ℕ) (a : Asker) (x : Context) (r : Offer) : Type 0 where
  pub next : NextOffer p plan swept a x 0 r
  pub shut : steps_end ≤ r.step → Shut plan swept a x.ty

-- x, which meets ρ and μ, faces contexts of the type o by the event: the entry offers it, and c says whether it is special
pub record Facing (p : Policy) (plan : List ℕ) (x : Context) (e o entry : ℕ) (c : Bool) : Type 0 where
  pub meets : meetsρμ p x ≡ true
  pub offering : Offering p plan x.ty e o entry
  pub conditions : c ≡ special p (event_of e)
