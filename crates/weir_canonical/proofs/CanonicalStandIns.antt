-- The promise of the canonical image keeps out what a misreading of paper 02 (e) would give.
use Prim.Native.Nat.{ℕ, ◌≤◌}
use mathlib.Core.Bool.{true}
use mathlib.Core.List.{List, [], ◌∷◌, ◌++◌}
use mathlib.Core.Path.{◌≡◌, refl, ap, subst, ◌∙◌}
use native.Mathlib.Omega.{arith}
use lib.ListN.{length, get_or, take, drop}
use Rattle.std.proofs.Common.{Result, Ok, Err}
use Rattle.base.specs.declared.refusals.Refusal.{Refusal}
use Rattle.base.specs.declared.refusals.Refusal.TheVariants.{OutputSlice, TooManyRecords}
use Rattle.base.specs.Questions.{RefusedWith}
use Rattle.base.specs.Refusals.{question_number}
use Rattle.base.proofs.QuestionLaws.{passed_not_refused, one_number}
use Rattle.policy_writing.specs.Writing.{WritingPromise}
use Rattle.policy_writing.proofs.WritingLaws.{one_writing, refused_writing}
use Rattle.canonical.specs.Canonical.{canonical_image, canonical_questions, CanonicalPromise}
use Rattle.weir.specs.Cases.Goals.{empty}
use Rattle.weir.specs.Cases.JoinPolicies.{no_type, leaning, blank, blank_then}
use Rattle.weir_canonical.specs.Cases.CanonicalPolicies.{crowded, one_flow}
use Rattle.weir_canonical.specs.Cases.Canonical.{CanonicalIs, CanonicalRefused}
use Rattle.weir_canonical.specs.Cases.CanonicalWrong.{KeptOut, CanonicalStandIns}
use Rattle.weir_canonical.proofs.CanonicalImages as images
use Rattle.weir_canonical.proofs.CanonicalPairs.{apart_b, apart}
use Rattle.weir_canonical.proofs.CanonicalQuestions.{enough}
use Rattle.weir_canonical.proofs.Canonical.{crowded_not_15, canonical_cases, canonical_called}

-- ---- where the canonical image is known and there is room for it, the output begins with it, whatever is answered
only_canonical : {s image : List ℕ} → CanonicalIs s image → (before after : List ℕ) (w : Result ℕ Refusal) → length image ≤ length before → CanonicalPromise s before after w
    → (w ≡ Ok (length image)) × (after ≡ image ++ drop (length image) before)
only_canonical {s} {image} c before after w h p =
    one_writing (canonical_questions s (length before)) image before after (image ++ drop (length image) before) w (Ok (length image))
    (subst (λ (i : List ℕ). WritingPromise (canonical_questions s (length before)) i before after w) c.written p) (enough c (length before) h, refl, refl)

-- so bytes that differ from it are kept out
kept_out : {s image wrong : List ℕ} → CanonicalIs s image → apart_b wrong image ≡ true → KeptOut s wrong
kept_out {s} {image} {wrong} c e =
    record {
      it = λ before rest w h p.
          apart wrong image e rest (drop (length image) before) (only_canonical c before (wrong ++ rest) w (rw c.written at h) p).1;
    }

-- ---- where it is refused, the output is as it was
only_refused : (s before after : List ℕ) (k : ℕ) (w : Result ℕ Refusal) → RefusedWith (canonical_questions s (length before)) k → CanonicalPromise s before after w → after ≡ before
only_refused s before after k w r p =
    (refused_writing (canonical_questions s (length before)) (canonical_image s) before after w k p r).1

-- .. and the number is that one
other_number : {s : List ℕ} {k : ℕ} → CanonicalRefused s k → (before after : List ℕ) (q : Refusal) → CanonicalPromise s before after (Err q)
    → question_number q ≡ k
other_number {s} {k} r before after q p =
    one_number (canonical_questions s (length before)) (question_number q) k p.0 (r (length before))

-- THE THIRTEENTH THEOREM
pub canonical_stand_ins : CanonicalStandIns
canonical_stand_ins =
    record {
      not_as_it_stood = kept_out images.second refl;
      rightly_sorted = refl;
      not_unsorted = kept_out images.weir_sorted refl;
      not_b_first = kept_out images.allows_sorted refl;
      not_c_first = kept_out images.allows_sorted refl;
      not_c_passed_over = kept_out images.allows_sorted refl;
      not_falling = kept_out images.allows_sorted refl;
      not_allows_alone = kept_out images.allows_sorted refl;
      not_classes_united = kept_out images.allows_sorted refl;
      rightly_linked = refl;
      not_unlinked = kept_out images.allows_sorted refl;
      not_linked_across = kept_out images.allows_sorted refl;
      rightly_united = refl;
      not_kept_apart = kept_out images.united refl;
      not_added = kept_out images.united refl;
      not_first_mask = kept_out images.united refl;
      not_last_mask = kept_out images.united refl;
      not_common_bits = kept_out images.united refl;
      not_single_bits = kept_out images.united refl;
      not_low_byte = kept_out images.united refl;
      not_dropped_for_one = kept_out images.united refl;
      not_empty_class = kept_out images.dropped refl;
      not_empty_flow = kept_out images.dropped refl;
      not_empty_allow = kept_out images.dropped refl;
      not_all_dropped = kept_out images.dropped refl;
      not_domain_twice = kept_out images.once refl;
      not_role_type_twice = kept_out images.once refl;
      not_user_role_twice = kept_out images.once refl;
      not_role_change_twice = kept_out images.once refl;
      not_unsplit = kept_out images.split refl;
      not_to_1_alone = kept_out images.split refl;
      not_to_2_alone = kept_out images.split refl;
      not_split_apart = kept_out images.split refl;
      not_put_together = kept_out images.split refl;
      not_self_named = kept_out images.by_self_lem refl;
      not_type_as_self = kept_out images.by_type_lem refl;
      not_self_united = kept_out images.self_and_type_lem refl;
      not_self_as_type = kept_out images.self_and_type_lem refl;
      not_self_last = kept_out images.self_and_type_lem refl;
      not_sorted_constraints = kept_out images.kept refl;
      not_united_constraints = kept_out images.kept refl;
      not_empty_constraint_dropped = kept_out images.kept refl;
      not_unused_dropped = kept_out images.kept refl;
      not_sorted_nodes = kept_out images.kept refl;
      rightly_numbered = refl;
      not_unnumbered = kept_out images.kept refl;
      not_roots_alone = kept_out images.kept refl;
      not_children_alone = kept_out images.kept refl;
      not_left_alone = kept_out images.kept refl;
      not_by_place_alone = kept_out images.kept refl;
      not_by_records_read = kept_out images.kept refl;
      not_in_a_mask = kept_out images.kept refl;
      not_count_read = kept_out images.once refl;
      not_heads_read = kept_out images.once refl;
      not_heads_filled = kept_out images.once refl;
      not_counts_used = kept_out images.counts_kept refl;
      not_cleared = λ w p.
          let e = (only_canonical images.nothing (blank_then 7 9) (empty ++ (0 ∷ 0 ∷ [])) w (omega arith) p).1 in
          let z : ◌≡◌ {A = ℕ} 0 7 = ap (λ (l : List ℕ). get_or l 24 0) e in
          omega arith;
      not_cut_off = λ w p.
          let z : ◌≡◌ {A = ℕ} 24 26 = ap length (only_canonical images.nothing (blank_then 7 9) empty w (omega arith) p).1 in omega arith;
      not_unwritten = λ w p.
          let z : ◌≡◌ {A = ℕ} 170 1 = ap (λ (l : List ℕ). get_or l 0 0) (only_canonical images.nothing (blank 24) (blank 24) w (omega arith) p).1 in omega arith;
      not_written_on_16 = λ w p.
          let z : ◌≡◌ {A = ℕ} 1 170 = ap (λ (l : List ℕ). get_or l 0 0) (only_refused empty (blank 23) (take 23 empty) 16 w canonical_cases.nothing_16 p) in
          omega arith;
      not_written_on_14 = λ w p.
          let z : ◌≡◌ {A = ℕ} 4 0 = ap (λ (l : List ℕ). get_or l 0 0) (only_refused leaning (0 ∷ []) (4 ∷ []) 14 w (canonical_cases.leaning_14 1) p) in omega arith;
      not_written_on_15 = λ w p.
          let e = only_refused (crowded 1 one_flow 4094) (0 ∷ []) (1 ∷ []) 15 w (canonical_cases.crowded_15.1 1) p in
          let z : ◌≡◌ {A = ℕ} 1 0 = ap (λ (l : List ℕ). get_or l 0 0) e in
          omega arith;
      not_15_before_policy = λ before after p. let e = other_number canonical_cases.two_before_15.1 before after TooManyRecords p in omega arith;
      not_16_before_policy = λ after p. let e = other_number canonical_cases.leaning_14 [] after OutputSlice p in omega arith;
      not_16_before_15 = λ before after p. let e = other_number canonical_cases.crowded_15.1 before after OutputSlice p in omega arith;
      not_15_by_records = λ before after n p.
          passed_not_refused (canonical_questions (crowded 1 one_flow 4094) (length before)) 15 p.0 (canonical_cases.crowded_15.1 (length before));
      not_15_by_splitting = λ before after p. crowded_not_15 canonical_cases.crowded_united.0 (omega arith) (length before) p.0;
      not_15_by_empty = λ before after p. crowded_not_15 canonical_cases.crowded_dropped.0 (omega arith) (length before) p.0;
      not_15_at_4095 = λ before after p. crowded_not_15 canonical_cases.crowded_fits.0 (omega arith) (length before) p.0;
      not_refusing = λ after r p. passed_not_refused (canonical_questions empty 24) (question_number r) canonical_cases.nothing_enough p.0;
      not_unaccepted = λ before after n p.
          passed_not_refused (canonical_questions no_type (length before)) 2 p.0 (canonical_cases.no_type_2 (length before));
      not_output_length = λ after n p. p.1 ∙ canonical_cases.nothing_length;
      not_length_alone = λ after G. let z = (canonical_called.nothing_exact after 24 G).0 in omega arith;
    }
