-- The pass that writes a run: what is written after n records.
use Prim.Native.Nat.{ℕ, zero, suc, ◌+◌, ◌≤◌, ◌<◌}
use mathlib.Core.Path.{◌≡◌, refl, sym, ap, subst, ◌∙◌}
use mathlib.Core.Bool.{Bool, true, false, cond}
use mathlib.Core.List.{List, [], ◌++◌}
use mathlib.Core.Logic.{⊎_elim}
use native.Mathlib.Nat.{eq-or-lt_of_le}
use native.Mathlib.Omega.{arith}
use borrow.Author.Tests.{eq-eqb, ne_eqb}
use lib.ListN.{length, get_or, length-append, get_or-append}
use lib.Seq.{get_or-append-add}
use Rattle.base.specs.Bytes.{byte_at}
use Rattle.base.specs.Ranges.{Within}
use Rattle.base.specs.Inner.Fill.{Filled}
use Rattle.base.proofs.BoolLaws.{true_or_false}
use Rattle.base.proofs.FillLaws.{fill_begin, fill_map, fill_then, fill_end}
use Rattle.base.proofs.Numbers.{split_eq}
use Rattle.policy_image.specs.Inner.Kinds.{kind_number}
use Rattle.policy_image.specs.declared.records.Record.{Record}
use Rattle.policy_image.specs.Layout.{record_count, root_of, left_of, right_of}
use Rattle.policy_image.specs.Policy.{Policy, policy_of}
use Rattle.policy_image.specs.Encoding.{record_bytes}
use Rattle.policy_image.specs.Inner.Reading.{Bytes}
use Rattle.policy_image.specs.Inner.Sizes.{stride, size_of, start_of}
use Rattle.policy_image.proofs.EncodingLaws.{record_length}
use Rattle.policy_image.proofs.SizeLaws.{size_none, size_more, start_add}
use Rattle.policy_expressions.specs.Nodes.{has_root, has_left, has_right, Uses}
use Rattle.policy_lists.specs.Lists.{kind_list}
use Rattle.policy_lists.specs.Joined.{nodes_upto, renumbered}
use Rattle.policy_lists.proofs.NodeLaws.{place_length, other_length, upto_more_length}
use Rattle.policy_lists.proofs.RenumberUseLaws.{use_first, use_second, no_root_left, renumbered_agrees}
use Rattle.policy_runs.specs.declared.Run.{Run}
use Rattle.policy_runs.specs.Inner.Runs.{many_upto, run_place, run_record, run_bytes, RunFits, MovableNode, Movable}

module _ (o : Policy) (run : Run) where
  abbrev many : ℕ → ℕ
  many n = many_upto o (kind_number run.kind) n

  -- the run is written up to record n of its policy
  abbrev pub WrittenTo : ℕ → List ℕ → List ℕ → Type 0
  WrittenTo n old new = Filled (λ j v. v ≡ byte_at (run_bytes o run n) j) old new (start_of (suc run.before)) 0 (size_of (many n))

  pub written_start : (old : List ℕ) → WrittenTo 0 old old
  written_start old = fill_end (fill_begin _ old _ 0) (sym size_none)

  pub run_here : (n : ℕ) → (o.rec (suc n)).kind ≡ kind_number run.kind → run_bytes o run (suc n) ≡ run_bytes o run n ++ record_bytes (run_record o run n)
  run_here n e = ap (λ (t : Bool). run_bytes o run n ++ cond t (record_bytes (run_record o run n)) []) (eq-eqb (o.rec (suc n)).kind (kind_number run.kind) e)

  pub run_passed : (n : ℕ) → ((o.rec (suc n)).kind ≡ kind_number run.kind → ⊥) → run_bytes o run (suc n) ≡ run_bytes o run n ++ []
  run_passed n d = ap (λ (t : Bool). run_bytes o run n ++ cond t (record_bytes (run_record o run n)) []) (ne_eqb (o.rec (suc n)).kind (kind_number run.kind) d)

  -- one more of the kind
  pub many_size : (n : ℕ) → (o.rec (suc n)).kind ≡ kind_number run.kind → size_of (many (suc n)) ≡ size_of (many n) + stride
  many_size n e = ap size_of (place_length o.rec (kind_number run.kind) n e) ∙ size_more (many n)

  pub run_length : (n : ℕ) → length (run_bytes o run n) ≡ size_of (many n)
  run_length zero = sym size_none
  run_length (suc n) =
      let h = run_length n in
      ⊎_elim
      (λ e.
      let l = many_size n e in
      let r = record_length (run_record o run n) in
      ap length (run_here n e) ∙ length-append (run_bytes o run n) (record_bytes (run_record o run n)) ∙ omega arith)
      (λ d. let l = ap size_of (other_length o.rec (kind_number run.kind) n d) in ap length (run_passed n d) ∙ length-append (run_bytes o run n) [] ∙ omega arith)
      (split_eq (o.rec (suc n)).kind (kind_number run.kind))

  -- ---- record n + 1
  module _ (n : ℕ) {old mid : List ℕ} (F : WrittenTo n old mid) where
    kept : (rest : List ℕ) (j : ℕ) → j < size_of (many n) → byte_at (run_bytes o run n) j ≡ byte_at (run_bytes o run n ++ rest) j
    kept rest j h = sym (get_or-append (run_bytes o run n) rest 0 j (omega (arith, run_length n, h)))

    -- is of the kind, and is written
    pub written_here : (o.rec (suc n)).kind ≡ kind_number run.kind → (at : ℕ) → at ≡ run_place o run n → (r : Record) → r ≡ run_record o run n → {new : List ℕ}
        → Filled (λ j v. v ≡ byte_at (record_bytes r) j) mid new (start_of at) 0 stride → WrittenTo (suc n) old new
    written_here e at p r m {new} G =
        subst (λ (l : List ℕ). Filled (λ j v. v ≡ byte_at l j) old new (start_of (suc run.before)) 0 (size_of (many (suc n)))) (sym (run_here n e))
        (fill_end
        (fill_then _ (fill_map (λ j v b q. q ∙ kept (record_bytes (run_record o run n)) j b) F) G
        (ap start_of p ∙ start_add run.before (many n)) (omega arith)
        (λ j v b q. q ∙ ap (λ (x : Record). byte_at (record_bytes x) j) m ∙ sym (get_or-append-add (run_bytes o run n) (record_bytes (run_record o run n)) j 0)
        ∙ ap (λ (i : ℕ). byte_at (run_bytes o run n ++ record_bytes (run_record o run n)) (i + j)) (run_length n)))
        (sym (many_size n e)))

    -- is of another kind, and is passed over
    written_passed : ((o.rec (suc n)).kind ≡ kind_number run.kind → ⊥) → WrittenTo (suc n) old mid
    written_passed d =
        subst (λ (l : List ℕ). Filled (λ j v. v ≡ byte_at l j) old mid (start_of (suc run.before)) 0 (size_of (many (suc n)))) (sym (run_passed n d))
        (fill_end (fill_map (λ j v b q. q ∙ kept [] j b) F) (ap size_of (sym (other_length o.rec (kind_number run.kind) n d))))

  pub written_as : {a b : ℕ} {old new : List ℕ} → a ≡ b → WrittenTo a old new → WrittenTo b old new
  written_as {a} {b} {old} {new} e F = subst (λ (x : ℕ). WrittenTo x old new) e F

  -- ---- records of other kinds, up to record m
  abbrev pub NoneTo : ℕ → ℕ → Type 0
  NoneTo n m = (j : ℕ) → n < j → j ≤ m → (o.rec j).kind ≡ kind_number run.kind → ⊥

  pub written_past : (n m : ℕ) → n ≤ m → NoneTo n m → {old new : List ℕ} → WrittenTo n old new → WrittenTo m old new
  written_past n zero h none F = written_as (let e : n ≡ 0 = omega arith in e) F
  written_past n (suc m) h none F =
      ⊎_elim (λ (e : n ≡ suc m). written_as e F)
      (λ (l : n < suc m). written_passed m (written_past n m (omega (arith, l)) (λ j a b. none j a (omega arith)) F) (none (suc m) l (omega arith)))
      (eq-or-lt_of_le h)

  pub many_past : (n m : ℕ) → n ≤ m → NoneTo n m → many m ≡ many n
  many_past n zero h none = ap many (let e : 0 ≡ n = omega arith in e)
  many_past n (suc m) h none =
      ⊎_elim (λ (e : n ≡ suc m). ap many (sym e))
      (λ (l : n < suc m). other_length o.rec (kind_number run.kind) m (none (suc m) l (omega arith)) ∙ many_past n m (omega (arith, l)) (λ j a b. none j a (omega arith)))
      (eq-or-lt_of_le h)

-- record n + 1 is of the kind: it is one more, and has a place
pub many_here : (o : Policy) (k n : ℕ) → (o.rec (suc n)).kind ≡ k → many_upto o k (suc n) ≡ many_upto o k n + 1
many_here o k n e = let l = place_length o.rec k n e in omega arith

pub place_most : (o : Policy) (k n : ℕ) → (o.rec (suc n)).kind ≡ k → suc n ≤ o.size → many_upto o k n + 1 ≤ length (kind_list o k)
place_most o k n e h = let a = many_here o k n e in let b = upto_more_length o.rec k (suc n) o.size h in omega arith

-- ---- the nodes that a record uses
module _ {s t : List ℕ} {run : Run} {room : ℕ} (R : RunFits s t run room) (i : ℕ) (w : Within 1 (record_count s) i) where
  abbrev rec : Record
  rec = (policy_of s).rec i

  use_root : has_root rec ≡ true → Uses (policy_of s) i 0 (root_of rec)
  use_root a = record { low = w.low; high = w.high; at = use_first rec true (has_left rec) a refl }

  use_left : has_left rec ≡ true → Uses (policy_of s) i 0 (left_of rec)
  use_left b =
      record {
        low = w.low;
        high = w.high;
        at = ⊎_elim (λ a. absurd (no_root_left rec a b)) (λ a. use_first rec false true a b) (true_or_false (has_root rec));
      }

  use_right : has_right rec ≡ true → Uses (policy_of s) i 1 (right_of rec)
  use_right c = record { low = w.low; high = w.high; at = use_second rec true c }

  -- a used node is a record of the policy, so the table has its number
  table_has : {p n : ℕ} → Uses (policy_of s) i p n → get_or t n 0 ≡ nodes_upto (policy_of s) n
  table_has U = R.table _ (R.nodes.well i _ _ U).node.high

  movable_node : {p n : ℕ} → Uses (policy_of s) i p n → MovableNode t run.shift n
  movable_node {p} {n} U =
      let h = (R.nodes.well i p n U).node.high in
      let f = R.shifted n h in
      let e = table_has U in
      record { entry = omega (arith, h, R.exact.few); fits = omega (arith, f, e) }

  pub movable : Bytes rec → Movable rec t run.shift
  movable b = record { bytes = b; root = λ a. movable_node (use_root a); left = λ a. movable_node (use_left a); right = λ a. movable_node (use_right a) }

  -- .. and renumbering by the table is renumbering by the count of nodes
  pub by_table : renumbered (λ n. run.shift + get_or t n 0) rec ≡ renumbered (λ n. run.shift + nodes_upto (policy_of s) n) rec
  by_table =
      renumbered_agrees (λ n. run.shift + get_or t n 0) (λ n. run.shift + nodes_upto (policy_of s) n) rec
      (λ a. ap (λ (x : ℕ). run.shift + x) (table_has (use_root a)))
      (λ a. ap (λ (x : ℕ). run.shift + x) (table_has (use_left a)))
      (λ a. ap (λ (x : ℕ). run.shift + x) (table_has (use_right a)))
