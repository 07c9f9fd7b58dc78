-- What the records of a kind state, by lists: of a policy by its records, and of the policy made of a list by that list.
use Prim.Native.Nat.{ℕ, zero, suc, ◌≤◌}
use mathlib.Core.Path.{◌≡◌, refl, sym, ap, ap₂, ◌∙◌}
use mathlib.Core.Bool.{Bool, true, false, not, ◌&&◌, ◌||◌, cond}
use mathlib.Core.List.{List, [], ◌∷◌, ◌++◌, map}
use native.Mathlib.Omega.{arith}
use lib.Dec.{eqb}
use lib.ListN.{length, length-append}
use Rattle.base.specs.Upto.{any_upto, all_upto}
use Rattle.base.proofs.BoolLaws.{or_none, and_yes}
use Rattle.policy_image.specs.declared.counts.Counts.{Counts}
use Rattle.policy_image.specs.declared.records.Record.{Record}
use Rattle.policy_image.specs.Policy.{Policy}
use Rattle.policy_image.specs.OfKind.{some, every}
use Rattle.policy_lists.specs.Inner.Tests.{some_in, every_in, IgnoresNext}
use Rattle.policy_lists.specs.Lists.{records_upto, record_list, of_kind_in, kind_list, record_in, link_in, policy_from}

-- ---- tests of lists one behind the other
or_assoc : (a b c : Bool) → (a || b || c) ≡ (a || (b || c))
or_assoc true b c = refl
or_assoc false b c = refl

and_assoc : (a b c : Bool) → (a && b && c) ≡ (a && (b && c))
and_assoc true b c = refl
and_assoc false b c = refl

pub some_append : (l m : List Record) (f : Record → Bool) → some_in (l ++ m) f ≡ (some_in l f || some_in m f)
some_append [] m f = refl
some_append (r ∷ l) m f = ap (λ (t : Bool). f r || t) (some_append l m f) ∙ sym (or_assoc (f r) (some_in l f) (some_in m f))

pub every_append : (l m : List Record) (f : Record → Bool) → every_in (l ++ m) f ≡ (every_in l f && every_in m f)
every_append [] m f = refl
every_append (r ∷ l) m f = ap (λ (t : Bool). f r && t) (every_append l m f) ∙ sym (and_assoc (f r) (every_in l f) (every_in m f))

pub some_map : (g : Record → Record) (l : List Record) (f : Record → Bool) → some_in (map g l) f ≡ some_in l (λ r. f (g r))
some_map g [] f = refl
some_map g (r ∷ l) f = ap (λ (t : Bool). f (g r) || t) (some_map g l f)

pub every_map : (g : Record → Record) (l : List Record) (f : Record → Bool) → every_in (map g l) f ≡ every_in l (λ r. f (g r))
every_map g [] f = refl
every_map g (r ∷ l) f = ap (λ (t : Bool). f (g r) && t) (every_map g l f)

-- ---- records 1 to n as a list
pub upto_length : (rec : ℕ → Record) (n : ℕ) → length (records_upto rec n) ≡ n
upto_length rec zero = refl
upto_length rec (suc n) =
    length-append (records_upto rec n) (rec (suc n) ∷ []) ∙ (let h = upto_length rec n in omega arith)

some_upto : (rec : ℕ → Record) (f : Record → Bool) (n : ℕ) → any_upto (λ i. f (rec i)) n ≡ some_in (records_upto rec n) f
some_upto rec f zero = refl
some_upto rec f (suc n) =
    ap₂ ◌||◌ (some_upto rec f n) (sym (or_none (f (rec (suc n))) false refl)) ∙ sym (some_append (records_upto rec n) (rec (suc n) ∷ []) f)

every_upto : (rec : ℕ → Record) (f : Record → Bool) (n : ℕ) → all_upto (λ i. f (rec i)) n ≡ every_in (records_upto rec n) f
every_upto rec f zero = refl
every_upto rec f (suc n) =
    ap₂ ◌&&◌ (every_upto rec f n) (sym (and_yes (f (rec (suc n))) true refl)) ∙ sym (every_append (records_upto rec n) (rec (suc n) ∷ []) f)

-- the first record, and the others
upto_first : (rec : ℕ → Record) (n : ℕ) → records_upto rec (suc n) ≡ rec 1 ∷ records_upto (λ i. rec (suc i)) n
upto_first rec zero = refl
upto_first rec (suc n) = ap (λ (l : List Record). l ++ (rec (suc (suc n)) ∷ [])) (upto_first rec n)

upto_same : (rec other : ℕ → Record) (n : ℕ) → ((i : ℕ) → 1 ≤ i → i ≤ n → rec i ≡ other i) → records_upto rec n ≡ records_upto other n
upto_same rec other zero h = refl
upto_same rec other (suc n) h =
    ap₂ (λ (l : List Record) (r : Record). l ++ (r ∷ [])) (upto_same rec other n (λ i a b. h i a (omega arith))) (h (suc n) (omega arith) (omega arith))

pub behind_first : (r : Record) (l : List Record) (i : ℕ) → 1 ≤ i → record_in (r ∷ l) (suc i) ≡ record_in l i
behind_first r l zero h = let z : ⊥ = omega arith in absurd z
behind_first r l (suc i) h = refl

-- the records of a list, by their numbers, are the list
pub records_back : (l : List Record) → records_upto (record_in l) (length l) ≡ l
records_back [] = refl
records_back (r ∷ l) =
    upto_first (record_in (r ∷ l)) (length l)
    ∙ ap (λ (m : List Record). r ∷ m)
    (upto_same (λ i. record_in (r ∷ l) (suc i)) (record_in l) (length l) (λ i a b. behind_first r l i a) ∙ records_back l)

-- ---- the records of a kind
abbrev pub of_kind : ℕ → (Record → Bool) → Record → Bool
of_kind k f r = eqb r.kind k && f r

abbrev pub or_not : ℕ → (Record → Bool) → Record → Bool
or_not k f r = not (eqb r.kind k) || f r

pub some_kind : (l : List Record) (k : ℕ) (f : Record → Bool) → some_in l (of_kind k f) ≡ some_in (of_kind_in k l) f
some_kind [] k f = refl
some_kind (r ∷ l) k f = go (eqb r.kind k) (some_kind l k f)
  where
    go : (t : Bool) → some_in l (of_kind k f) ≡ some_in (of_kind_in k l) f
        → (t && f r || some_in l (of_kind k f)) ≡ some_in (cond t (r ∷ of_kind_in k l) (of_kind_in k l)) f
    go true h = ap (λ (t : Bool). f r || t) h
    go false h = h

pub every_kind : (l : List Record) (k : ℕ) (f : Record → Bool) → every_in l (or_not k f) ≡ every_in (of_kind_in k l) f
every_kind [] k f = refl
every_kind (r ∷ l) k f = go (eqb r.kind k) (every_kind l k f)
  where
    go : (t : Bool) → every_in l (or_not k f) ≡ every_in (of_kind_in k l) f
        → ((not t || f r) && every_in l (or_not k f)) ≡ every_in (cond t (r ∷ of_kind_in k l) (of_kind_in k l)) f
    go true h = ap (λ (t : Bool). f r && t) h
    go false h = h

-- ---- what the records of kind k of a policy state
pub some_list : (p : Policy) (k : ℕ) (f : Record → Bool) → some p k f ≡ some_in (kind_list p k) f
unfolding some
some_list p k f = some_upto p.rec (of_kind k f) p.size ∙ some_kind (record_list p) k f

pub every_list : (p : Policy) (k : ℕ) (f : Record → Bool) → every p k f ≡ every_in (kind_list p k) f
unfolding every
every_list p k f = every_upto p.rec (or_not k f) p.size ∙ every_kind (record_list p) k f

pub not_or : (a b : Bool) → not (a || b) ≡ (not a && not b)
not_or true b = refl
not_or false b = refl

-- every record passes where none fails
all_not : (f g : ℕ → Bool) → ((i : ℕ) → f i ≡ not (g i)) → (n : ℕ) → all_upto f n ≡ not (any_upto g n)
all_not f g h zero = refl
all_not f g h (suc n) = ap₂ ◌&&◌ (all_not f g h n) (h (suc n)) ∙ sym (not_or (any_upto g n) (g (suc n)))

pub every_not : (p : Policy) (k : ℕ) (f : Record → Bool) → every p k f ≡ not (some p k (λ r. not (f r)))
unfolding some every
every_not p k f =
    all_not (λ i. or_not k f (p.rec i)) (λ i. of_kind k (λ r. not (f r)) (p.rec i)) (λ i. go (eqb (p.rec i).kind k) (f (p.rec i))) p.size
  where
    go : (a b : Bool) → (not a || b) ≡ not (a && not b)
    go true true = refl
    go true false = refl
    go false b = refl

-- .. and those of the policy of a list
module _ (c : Counts) (l : List Record) (k : ℕ) (f : Record → Bool) (I : IgnoresNext f) where
  pub some_from : some (policy_from c l) k f ≡ some_in l (λ r. eqb r.kind k && f r)
  unfolding some
  some_from =
      (λ j. any_upto (λ i. eqb (record_in l i).kind k && I (link_in l i) (record_in l i) j) (length l))
      ∙ some_upto (record_in l) (of_kind k f) (length l) ∙ ap (λ (m : List Record). some_in m (of_kind k f)) (records_back l)

  pub every_from : every (policy_from c l) k f ≡ every_in l (λ r. not (eqb r.kind k) || f r)
  unfolding every
  every_from =
      (λ j. all_upto (λ i. not (eqb (record_in l i).kind k) || I (link_in l i) (record_in l i) j) (length l))
      ∙ every_upto (record_in l) (or_not k f) (length l) ∙ ap (λ (m : List Record). every_in m (or_not k f)) (records_back l)
