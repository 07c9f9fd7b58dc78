-- Models drawn by hand, whose contexts, steps and sets are short lists.
use Rattle.std.specs.Prelude.{Bool, true, false, not, ◌&&◌, ◌||◌, List, [], ◌∷◌, ℕ, eqb, ltb, length, get_or}
use Rattle.paths.specs.Model.{Model}

-- 'x by e to y': flow from x to y by e
pub record Step : Type 0 where
  pub from : ℕ
  pub event : ℕ
  pub into : ℕ

infix 60 ◌by◌to◌
abbrev pub ◌by◌to◌ : ℕ → ℕ → ℕ → Step
◌by◌to◌ x e y = record { from = x; event = e; into = y }

-- a leg by one event of a set, or by one or more
pub data Leg : Type 0 where
  once : List ℕ → Leg
  again : List ℕ → Leg

pub record Drawn : Type 0 where
  -- contexts are the numbers below this
  pub contexts : ℕ
  pub steps : List Step
  -- σ0 to σn
  pub sets : List (List ℕ)
  -- legs 0 to n − 1
  pub legs : List Leg
  -- contexts that do not meet ρ and μ
  pub unheld : List ℕ
  -- σe and γe
  pub exceptions : List ℕ
  pub exceptions_e : List ℕ

-- one with no exceptions, whose contexts all meet ρ and μ
abbrev pub drawn : ℕ → List Step → List (List ℕ) → List Leg → Drawn
drawn k s σs ls = record { contexts = k; steps = s; sets = σs; legs = ls; unheld = []; exceptions = []; exceptions_e = [] }

-- .. with σe and γe; .. with contexts that do not meet ρ and μ
abbrev pub except : List ℕ → List ℕ → Drawn → Drawn
except c e d =
    record {
      contexts = d.contexts;
      steps = d.steps;
      sets = d.sets;
      legs = d.legs;
      unheld = d.unheld;
      exceptions = c;
      exceptions_e = e;
    }

abbrev pub failing : List ℕ → Drawn → Drawn
failing l d =
    record {
      contexts = d.contexts;
      steps = d.steps;
      sets = d.sets;
      legs = d.legs;
      unheld = l;
      exceptions = d.exceptions;
      exceptions_e = d.exceptions_e;
    }

abbrev pub only : ℕ → List ℕ
only a = a ∷ []

abbrev pub any_in : {A : Type 0} → List A → (A → Bool) → Bool
any_in [] f = false
any_in (a ∷ l) f = f a || any_in l f

abbrev pub is_in : List ℕ → ℕ → Bool
is_in l x = any_in l (λ a. eqb a x)

abbrev pub is_step : ℕ → ℕ → ℕ → Step → Bool
is_step x e y s = eqb s.from x && (eqb s.event e && eqb s.into y)

abbrev pub events_of : Leg → List ℕ
events_of (once l) = l
events_of (again l) = l

abbrev pub is_again : Leg → Bool
is_again (once l) = false
is_again (again l) = true

abbrev pub drawn_model : Drawn → Model
drawn_model d = record {
  flow_by = λ x e y. any_in d.steps (is_step x e y);
  context = λ x. ltb x d.contexts;
  held = λ x. not (is_in d.unheld x);
  legs = length d.legs;
  σ = λ i. is_in (get_or d.sets i []);
  γ = λ i. is_in (events_of (get_or d.legs i (once [])));
  repeated = λ i. is_again (get_or d.legs i (once []));
  σe = is_in d.exceptions;
  γe = is_in d.exceptions_e;
}
