-- Pairs of named policies: those that are written in the same bytes say the same, and near ones do neither.
use Prim.Native.Nat.{ℕ, zero, suc, ◌<◌}
use mathlib.Core.Bool.{Bool, true, false, not, ◌&&◌, ◌||◌}
use mathlib.Core.List.{List, [], ◌∷◌, ◌++◌, append-nil}
use mathlib.Core.Logic.{⊎_elim}
use mathlib.Core.Path.{◌≡◌, refl, sym, ap, ◌∙◌}
use native.Mathlib.Omega.{arith}
use borrow.Author.Tests.{eqb-false, leb-true, not-true}
use lib.Dec.{eqb, leb}
use lib.ListN.{length, get_or, drop}
use Rattle.base.specs.Bytes.{byte_at}
use Rattle.base.proofs.BoolLaws.{clash, or_cases, and_first, and_second}
use Rattle.policy_image.specs.declared.records.Record.{Record}
use Rattle.policy_image.specs.Cases.Weir.{weir}
use Rattle.policy_lists.specs.Lists.{no_record}
use Rattle.canonical.specs.Canonical.{canonical_image}
use Rattle.canonical_laws.specs.Cases.Theorems.{ImageWritten}
use Rattle.canonical_laws.proofs.Theorems.{equal_bytes}
use Rattle.weir.specs.Cases.Goals.{weir_allow41}
use Rattle.weir.specs.Cases.JoinPolicies.{weir_read}
use Rattle.weir_canonical.specs.Cases.CanonicalPolicies.{by_self, by_type, first_engineer, second_engineer, one_permission_more, other_class, nodes_swapped, children_swapped}
use Rattle.weir_canonical.specs.Cases.Canonical.{CanonicalIs, SayTheSame, SayOtherThings}
use Rattle.weir_canonical.proofs.CanonicalImages as images
use Rattle.weir_canonical.proofs.CanonicalImages.{written}
use Rattle.weir_canonical.proofs.CanonicalQuestions.{enough}

-- ---- bytes that differ at a place that both have: whatever stands behind them, these are not the same
abbrev pub apart_b : List ℕ → List ℕ → Bool
apart_b [] m = false
apart_b (x ∷ l) [] = false
apart_b (x ∷ l) (y ∷ m) = not (eqb x y) || apart_b l m

pub apart : (l m : List ℕ) → apart_b l m ≡ true → (a b : List ℕ) → l ++ a ≡ m ++ b → ⊥
apart [] m e a b h = clash e refl
apart (x ∷ l) [] e a b h = clash e refl
apart (x ∷ l) (y ∷ m) e a b h =
    ⊎_elim
    (λ d. eqb-false x y (not-true (eqb x y) d) (ap (λ (n : List ℕ). get_or n 0 0) h))
    (λ d. apart l m d a b (ap (drop 1) h))
    (or_cases (not (eqb x y)) (apart_b l m) e)

pub bytes_apart : (l m : List ℕ) → apart_b l m ≡ true → l ≡ m → ⊥
bytes_apart l m e h = apart l m e [] [] (append-nil l ∙ h ∙ sym (append-nil m))

images_apart : {s t one two : List ℕ} → CanonicalIs s one → CanonicalIs t two → apart_b one two ≡ true → canonical_image s ≡ canonical_image t → ⊥
images_apart {s} {t} {one} {two} c d e h = bytes_apart one two e (sym c.written ∙ h ∙ d.written)

-- ---- policies of bytes whose canonical images are the same say the same
abbrev bytes_b : List ℕ → Bool
bytes_b [] = true
bytes_b (x ∷ s) = leb x 255 && bytes_b s

all_bytes : (s : List ℕ) → bytes_b s ≡ true → (i : ℕ) → byte_at s i < 256
all_bytes [] e i = omega arith
all_bytes (x ∷ s) e zero = let h = leb-true x 255 (and_first (leb x 255) (bytes_b s) e) in omega arith
all_bytes (x ∷ s) e (suc i) = all_bytes s (and_second (leb x 255) (bytes_b s) e) i

image_written : {s image : List ℕ} → CanonicalIs s image → bytes_b s ≡ true → ImageWritten s
image_written {s} {image} c e = record { bytes = all_bytes s e; output = length image; asked = enough c (length image) (omega arith) }

say_the_same : {s t image : List ℕ} → CanonicalIs s image → CanonicalIs t image → bytes_b s ≡ true → bytes_b t ≡ true → SayTheSame s t
say_the_same {s} {t} c d e f =
    let h = c.written ∙ sym d.written in
    record { same = (equal_bytes s t (image_written c e) (image_written d f)).0 h; bytes = h }

pub engineers_agree : SayTheSame first_engineer second_engineer
engineers_agree = say_the_same images.first images.second refl refl

pub joined_agrees : SayTheSame weir_allow41 weir_read
joined_agrees = say_the_same images.allow_41 images.joined_read refl refl

-- ---- near ones: a fact, a permission, a constraint or a node tells them apart
pub self_not_type : SayOtherThings by_self by_type
unfolding written
self_not_type = record { differ = λ S. clash refl (S.permissions 4 2 0 1 0 refl); bytes = images_apart images.by_self_lem images.by_type_lem refl }

pub one_more : SayOtherThings first_engineer one_permission_more
unfolding written
one_more = record { differ = λ S. clash (S.permissions 4 2 0 2 0 refl) refl; bytes = images_apart images.first images.one_more refl }

pub other_class_lem : SayOtherThings first_engineer other_class
unfolding written
other_class_lem =
    record {
      differ = λ S. let z : ◌≡◌ {A = ℕ} 2 1 = ap (λ (l : List Record). (get_or l 0 no_record).a) S.constraints in omega arith;
      bytes = images_apart images.first images.other_class_lem refl;
    }

pub nodes_swapped_lem : SayOtherThings first_engineer nodes_swapped
unfolding written
nodes_swapped_lem =
    record {
      differ = λ S. let z : ◌≡◌ {A = ℕ} 7 8 = ap (λ (l : List Record). (get_or l 0 no_record).a) S.nodes in omega arith;
      bytes = images_apart images.first images.nodes_swapped_lem refl;
    }

pub children_swapped_lem : SayOtherThings first_engineer children_swapped
unfolding written
children_swapped_lem =
    record {
      differ = λ S. let z : ◌≡◌ {A = ℕ} 131073 65538 = ap (λ (l : List Record). (get_or l 2 no_record).mask) S.nodes in omega arith;
      bytes = images_apart images.first images.children_swapped_lem refl;
    }

pub one_fact_more : SayOtherThings weir weir_allow41
unfolding written
one_fact_more = record { differ = λ S. clash (S.permissions 4 4 1 2 0 refl) refl; bytes = images_apart images.weir_sorted images.allow_41 refl }
