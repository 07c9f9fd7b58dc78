-- What is known of two images that can be joined: their records make a policy that can be written, the tables are those of that policy, and the runs
-- of both fit and fill its image.
use Prim.Native.Nat.{ℕ, zero, suc, ◌+◌, ◌-◌, ◌≤◌}
use mathlib.Core.Path.{◌≡◌, refl, sym, ap, ap₂, subst, ◌∙◌}
use mathlib.Core.List.{List, ◌++◌}
use native.Mathlib.Omega.{arith}
use lib.ListN.{length, drop}
use Rattle.base.specs.Bytes.{byte_at}
use Rattle.base.specs.Inner.Fill.{Filled}
use Rattle.policy_image.specs.Inner.Kinds.{kind_number}
use Rattle.policy_image.specs.declared.counts.Counts.{Counts}
use Rattle.policy_image.specs.Layout.{record_count, counts_of}
use Rattle.policy_image.specs.Policy.{Policy, policy_of}
use Rattle.policy_image.specs.Encoding.{image_of}
use Rattle.policy_image.specs.Inner.Sizes.{header_size, size_of, start_of, image_size}
use Rattle.policy_image.proofs.FieldLaws.{counts_same}
use Rattle.policy_image.proofs.EncodingLaws.{image_writable}
use Rattle.policy_lists.specs.Lists.{kind_list}
use Rattle.policy_lists.specs.Joined.{of_kinds_upto, larger_counts, joined_kind, joined}
use Rattle.policy_lists.proofs.JoinTurnLaws.{joined_own, joined_count, joined_size}
use Rattle.policy_lists.proofs.JoinWritableLaws.{joined_few, joined_writable}
use Rattle.policy_lists.proofs.NodeLaws.{most_length}
use Rattle.policy_lists.proofs.PlaceLaws.{ending, endings_rise}
use Rattle.policy_runs.specs.declared.Run.{Run}
use Rattle.policy_runs.specs.Inner.Runs.{KindTable, NodeTable, run_bytes, RunFits}
use Rattle.policy_runs.specs.Inner.Tables.{sum_upto, Summed, FewOfEach}
use Rattle.policy_runs.proofs.TableLaws.{added_up}
use Rattle.policy_runs.proofs.RunImageLaws.{RunIn, RecordsTo, records_more}
use Rattle.policy_runs.proofs.ImageWriteLaws.{WritableLists, EndTable, run_fits, all_put}
use Rattle.join.specs.Inner.Parts.{Joinable}
use Rattle.join.proofs.PlacedLaws.{maker_run, board_run}

module _ {s t : List ℕ} {c d : Counts} {room : ℕ} (G : Joinable s t c d room) where
  abbrev p : Policy
  p = policy_of s

  abbrev q : Policy
  q = policy_of t

  abbrev j : Policy
  j = joined p q

  abbrev ends : ℕ → ℕ
  ends k = ending (joined_kind p q) k

  pub whole_size : j.size ≡ record_count s + record_count t
  whole_size = joined_size p q G.maker.chains G.board.chains

  -- the lists of both, kind by kind, make a policy that can be written
  pub writable_lists : WritableLists (joined_kind p q) (larger_counts p.counts q.counts)
  writable_lists =
      record {
        own = joined_own p q;
        writable = joined_writable p q (joined_few p q G.maker.chains G.board.chains G.few) G.maker.nodes G.board.nodes
            (image_writable s G.maker_bytes G.maker.exact) (image_writable t G.board_bytes G.board.exact);
      }

  -- ---- the tables of both, and the counts
  module _ (a b : List ℕ) (A : KindTable p a) (B : KindTable q b) where
    pub few_of_each : FewOfEach a b
    few_of_each =
        record {
          first = λ k l h. let e = A k l h in let m = most_length p.rec k p.size in omega (arith, e, m, G.few);
          second = λ k l h. let e = B k l h in let m = most_length q.rec k q.size in omega (arith, e, m, G.few);
        }

    sums : (k : ℕ) → k ≤ 9 → sum_upto (added_up a b) k ≡ of_kinds_upto p k + of_kinds_upto q k
    sums zero h = refl
    sums (suc k) h =
        let s = sums k (omega arith) in
        let x = A (suc k) (omega arith) h in
        let y = B (suc k) (omega arith) h in
        omega arith

    pub ends_are : (e : List ℕ) → Summed (added_up a b) e 9 → EndTable (joined_kind p q) e
    ends_are e S k h = S k h ∙ sums k h ∙ sym (joined_count p q k)

  pub counts_are : larger_counts c d ≡ j.counts
  unfolding counts_of
  counts_are =
      ap₂ larger_counts G.makers G.boards
      ∙ counts_same (record { types = refl; roles = refl; users = refl; classes = refl; records = sym whole_size })

  -- there is room for the image
  image_room : (output : ℕ) → room ≤ output → image_size j.size ≤ output
  image_room output long = omega (arith, ap size_of whole_size, G.room, long)

  -- ---- the runs of kind k + 1
  module _ (run : Run) (k : ℕ) (u : suc k ≤ 9) (kind : kind_number run.kind ≡ suc k) (last : run.last ≡ ends (suc k)) where
    next_end : ends (suc k) ≡ ends k + length (kind_list p (suc k)) + length (kind_list q (suc k))
    next_end = let x = joined_count p q (suc k) in let y = joined_count p q k in omega arith

    -- what ends up to the kind's end, or up to the nodes of both, ends up to the last record
    up_to_kind : (n : ℕ) → n ≤ ends (suc k) → n ≤ j.size
    up_to_kind n h = let r = endings_rise (joined_kind p q) (suc k) 9 u in omega arith

    up_to_nodes : (n : ℕ) → n ≤ ends 8 + length (kind_list p 9) + length (kind_list q 9) → n ≤ j.size
    up_to_nodes n h = let x = joined_count p q 8 in let y = joined_count p q 9 in omega arith

    module _ (before : run.before ≡ ends k) (shift : run.shift ≡ ends 8) where
      makers_in : RunIn j p run
      makers_in = maker_run p q run k u kind last before (shift ∙ joined_count p q 8)

      makers_fit : (output : ℕ) (nodes : List ℕ) → room ≤ output → NodeTable p nodes → RunFits s nodes run output
      makers_fit output nodes long =
          let S = G.maker in
          let y = ap (λ (i : ℕ). length (kind_list p i)) kind in
          run_fits writable_lists.writable S.exact S.links S.chains S.nodes run makers_in (up_to_kind _ (omega (arith, next_end, y, before)))
          (up_to_nodes _ (omega (arith, shift))) output nodes (image_room output long)

    module _ (before : run.before ≡ ends k + length (kind_list p (suc k))) (shift : run.shift ≡ ends 8 + length (kind_list p 9)) where
      boards_in : RunIn j q run
      boards_in = board_run p q run k u kind last before (shift ∙ ap (λ (x : ℕ). x + length (kind_list p 9)) (joined_count p q 8))

      boards_fit : (output : ℕ) (nodes : List ℕ) → room ≤ output → NodeTable q nodes → RunFits t nodes run output
      boards_fit output nodes long =
          let S = G.board in
          let y = ap (λ (i : ℕ). length (kind_list q i)) kind in
          run_fits writable_lists.writable S.exact S.links S.chains S.nodes run boards_in (up_to_kind _ (omega (arith, next_end, y, before)))
          (up_to_nodes _ (omega (arith, shift))) output nodes (image_room output long)

  -- ---- one kind after the other
  module _ (k : ℕ) (low : 1 ≤ k) (high : k ≤ 9) (run : Run) (kind : kind_number run.kind ≡ k) (last : run.last ≡ ends k) where
    this : k ≡ suc (k - 1)
    this = omega arith

    up : suc (k - 1) ≤ 9
    up = omega arith

    module _ (before : run.before ≡ ends (k - 1)) (shift : run.shift ≡ ends 8) where
      pub makers_run_fits : (output : ℕ) (nodes : List ℕ) → room ≤ output → NodeTable p nodes → RunFits s nodes run output
      makers_run_fits = makers_fit run (k - 1) up (kind ∙ this) (last ∙ ap ends this) before shift

      pub makers_run_put : {old mid new : List ℕ} → RecordsTo j (ends (k - 1)) old mid
          → Filled (λ i v. v ≡ byte_at (run_bytes p run p.size) i) mid new (start_of (suc run.before)) 0 (size_of (length (kind_list p (kind_number run.kind))))
          → RecordsTo j (ends (k - 1) + length (kind_list p k)) old new
      makers_run_put {old} {mid} {new} F G =
          subst (λ (x : ℕ). RecordsTo j x old new) (ap₂ (λ (x y : ℕ). x + length (kind_list p y)) before kind)
          (records_more j p run (makers_in run (k - 1) up (kind ∙ this) (last ∙ ap ends this) before shift)
          (subst (λ (x : ℕ). RecordsTo j x old mid) (sym before) F) G)

    module _ (before : run.before ≡ ends (k - 1) + length (kind_list p k)) (shift : run.shift ≡ ends 8 + length (kind_list p 9)) where
      behind : run.before ≡ ends (k - 1) + length (kind_list p (suc (k - 1)))
      behind = before ∙ ap (λ (x : ℕ). ends (k - 1) + length (kind_list p x)) this

      pub boards_run_fits : (output : ℕ) (nodes : List ℕ) → room ≤ output → NodeTable q nodes → RunFits t nodes run output
      boards_run_fits = boards_fit run (k - 1) up (kind ∙ this) (last ∙ ap ends this) behind shift

      pub boards_run_put : {old mid new : List ℕ} → RecordsTo j (ends (k - 1) + length (kind_list p k)) old mid
          → Filled (λ i v. v ≡ byte_at (run_bytes q run q.size) i) mid new (start_of (suc run.before)) 0 (size_of (length (kind_list q (kind_number run.kind))))
          → RecordsTo j (ends (k + 1 - 1)) old new
      boards_run_put {old} {mid} {new} F G =
          subst (λ (x : ℕ). RecordsTo j x old new) (ap₂ (λ (x y : ℕ). x + length (kind_list q y)) behind (kind ∙ this) ∙ sym (next_end run (k - 1) up (kind ∙ this) (last ∙ ap ends this))
          ∙ ap ends (let x : suc (k - 1) ≡ k + 1 - 1 = omega arith in x))
          (records_more j q run (boards_in run (k - 1) up (kind ∙ this) (last ∙ ap ends this) behind shift)
          (subst (λ (x : ℕ). RecordsTo j x old mid) (sym before) F) G)

  -- ---- the whole image
  pub joined_put : {old mid new : List ℕ} (k : ℕ) → k ≡ 9 → length new ≡ length old → length old ≡ room → Filled (λ i v. v ≡ byte_at (image_of j) i) old mid 0 0 header_size
      → RecordsTo j (ends k) mid new → new ≡ image_of j ++ drop (image_size (record_count s + record_count t)) old
  joined_put {old} {mid} {new} k e same long F R =
      subst (λ (n : ℕ). new ≡ image_of j ++ drop (image_size n) old) whole_size
      (all_put j same (image_room (length old) (omega arith)) F (subst (λ (n : ℕ). RecordsTo j (ends n) mid new) e R))
