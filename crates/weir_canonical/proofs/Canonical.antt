-- The canonical image on named inputs, from the definitions, and carried to the call by its promise.
use Prim.Native.Nat.{ℕ, ◌+◌, ◌*◌, ◌≤◌, ◌<◌}
use mathlib.Core.Bool.{Bool, true, false}
use mathlib.Core.List.{List, ◌++◌}
use mathlib.Core.Logic.{⊎_elim}
use mathlib.Core.Path.{◌≡◌, refl, sym, ap, subst, ◌∙◌}
use native.Mathlib.Omega.{arith}
use lib.ListN.{length, drop}
use Rattle.std.proofs.Common.{Result, Ok}
use Rattle.base.specs.declared.refusals.Refusal.{Refusal}
use Rattle.base.specs.Questions.{AllYes, RefusedWith}
use Rattle.base.proofs.Numbers.{split_le}
use Rattle.base.proofs.QuestionLaws.{passed_not_refused, one_number}
use Rattle.policy_image.specs.Policy.{policy_of}
use Rattle.policy_image.specs.Inner.Sizes.{header_size, size_of}
use Rattle.policy_image.specs.Cases.Weir.{weir_allow31}
use Rattle.policy_image.proofs.EncodingLaws.{image_length}
use Rattle.policy_check.specs.Questions.{policy_questions}
use Rattle.policy_check.proofs.Cases.{w9_refused}
use Rattle.policy_facts.specs.Canonical.{canonical_of}
use Rattle.policy_writing.specs.Writing.{writing_number}
use Rattle.policy_writing.proofs.WritingLaws.{one_writing, refused_writing}
use Rattle.context.specs.Codes.{context_at as at, event_at as event}
use Rattle.access.specs.Authorization.{authorized}
use Rattle.canonical.specs.Canonical.{canonical_image, canonical_questions, CanonicalPromise}
use Rattle.weir.specs.Cases.JoinPolicies.{no_type, leaning, blank, blank_then}
use Rattle.weir.proofs.StepsPaths.{computed}
use Rattle.weir_canonical.specs.Cases.CanonicalPolicies.{second_engineer, crowded, one_flow, one_flow_again}
use Rattle.weir_canonical.specs.Cases.Canonical.{CanonicalIs, CanonicalRefused, Crowded, CanonicalCases, GivesCanonical, RefusesCanonical, SaysCanonical, SaysTwice, CanonicalCalled}
use Rattle.weir_canonical.proofs.CanonicalImages as images
use Rattle.weir_canonical.proofs.CanonicalQuestions.{policys, refused_15, refused_16, passed, short, enough}
use Rattle.weir_canonical.proofs.CanonicalPairs as pairs
use Rattle.weir_canonical.proofs.CanonicalCrowded.{one_crowded, again_crowded, none_crowded, typeless}

-- ---- what is so of the image that is written out is so of the canonical image
of_canonical : {s image : List ℕ} → CanonicalIs s image → (P : List ℕ → Type 0) → P image → P (canonical_image s)
of_canonical c P h = subst P (sym c.written) h

-- ---- many records
crowded_passed : {s : List ℕ} {records written : ℕ} → Crowded s records written → written ≤ 4095 → (output : ℕ) → 24 + 12 * written ≤ output
    → AllYes (canonical_questions s output)
unfolding header_size size_of
crowded_passed {s} c h output room =
    let e = c.comes_to in
    let l = image_length (canonical_of (policy_of s)) in
    passed s output c.accepted (omega arith) (omega arith)

crowded_refused : {s : List ℕ} {records written : ℕ} → Crowded s records written → 4095 < written → CanonicalRefused s 15
crowded_refused {s} c h output = let e = c.comes_to in refused_15 s output c.accepted (omega arith)

-- what comes to no more than 4,095 records is refused with 15 for no output: it is written, or refused with 16
pub crowded_not_15 : {s : List ℕ} {records written : ℕ} → Crowded s records written → written ≤ 4095 → (output : ℕ)
    → RefusedWith (canonical_questions s output) 15 → ⊥
crowded_not_15 {s} c h output r =
    let e = c.comes_to in
    ⊎_elim
    (λ a. passed_not_refused (canonical_questions s output) 15 (passed s output c.accepted (omega arith) a) r)
    (λ a. let z = one_number (canonical_questions s output) 15 16 r (refused_16 s output c.accepted (omega arith) a) in omega arith)
    (split_le (length (canonical_image s)) output)

-- ---- authorization, by computing
abbrev two_reads_one : List ℕ → Bool
two_reads_one s = authorized (policy_of s) (event 2 0) (at 2 2 1) (at 1 1 1)

abbrev four_reads_one : List ℕ → Bool
four_reads_one s = authorized (policy_of s) (event 2 0) (at 4 2 1) (at 1 1 1)

abbrev two_writes_itself : List ℕ → Bool
two_writes_itself s = authorized (policy_of s) (event 2 1) (at 2 2 1) (at 2 2 1)

abbrev four_writes_itself : List ℕ → Bool
four_writes_itself s = authorized (policy_of s) (event 2 1) (at 4 2 1) (at 4 2 1)

record Answers (s : List ℕ) : Type 0 where
  reads : two_reads_one s ≡ true
  denied : four_reads_one s ≡ false
  self : two_writes_itself s ≡ true
  no_self : four_writes_itself s ≡ false

second_answers : Answers second_engineer
unfolding computed
second_answers = record { reads = refl; denied = refl; self = refl; no_self = refl }

written_answers : Answers (canonical_image second_engineer)
unfolding computed
written_answers = of_canonical images.second Answers (record { reads = refl; denied = refl; self = refl; no_self = refl })

-- THE ELEVENTH THEOREM: the canonical image from the definitions
pub canonical_cases : CanonicalCases
canonical_cases =
    record {
      weir_sorted = images.weir_sorted;
      allows_sorted = images.allows_sorted;
      united = images.united;
      dropped = images.dropped;
      once = images.once;
      split = images.split;
      by_self_lem = images.by_self_lem;
      by_type_lem = images.by_type_lem;
      self_and_type_lem = images.self_and_type_lem;
      self_not_type = pairs.self_not_type;
      kept = images.kept;
      wide_root = images.wide_root;
      wide_left = images.wide_left;
      wide_right = images.wide_right;
      counts_kept = images.counts_kept;
      nothing = images.nothing;
      nothing_length = ap length (images.nothing).written;
      first = images.first;
      second = images.second;
      engineers_agree = pairs.engineers_agree;
      one_more = pairs.one_more;
      other_class_lem = pairs.other_class_lem;
      nodes_swapped_lem = pairs.nodes_swapped_lem;
      children_swapped_lem = pairs.children_swapped_lem;
      allow_41 = images.allow_41;
      joined_read = images.joined_read;
      joined_agrees = pairs.joined_agrees;
      one_fact_more = pairs.one_fact_more;
      reads = second_answers.reads;
      reads_written = written_answers.reads;
      denied = second_answers.denied;
      denied_written = written_answers.denied;
      self = second_answers.self;
      self_written = written_answers.self;
      no_self = second_answers.no_self;
      no_self_written = written_answers.no_self;
      policy_first = λ s k r output. policys s output k r;
      no_type_2 = λ output. policys no_type output 2 (images.no_type_lem).it;
      leaning_14 = λ output. policys leaning output 14 (images.leaning_14).it;
      fifteen = λ s a h output. refused_15 s output a h;
      sixteen = λ s output a f h. refused_16 s output a f h;
      enough = λ s output a f h. passed s output a f h;
      crowded_15 = (one_crowded 4094 (omega arith), crowded_refused (one_crowded 4094 (omega arith)) (omega arith));
      crowded_fits = (one_crowded 4093 (omega arith), crowded_passed (one_crowded 4093 (omega arith)) (omega arith) 49164 (omega arith));
      crowded_united = (again_crowded 4093 (omega arith), crowded_passed (again_crowded 4093 (omega arith)) (omega arith) 49164 (omega arith));
      crowded_dropped = (none_crowded 4094 (omega arith), crowded_passed (none_crowded 4094 (omega arith)) (omega arith) 49152 (omega arith));
      two_before_15 =
          (let t = (typeless 4094 (omega arith)).0 in omega arith, λ output. policys (crowded 0 one_flow 4094) output 2 (typeless 4094 (omega arith)).1);
      nothing_16 = short images.nothing 23 (omega arith);
      nothing_enough = enough images.nothing 24 (omega arith);
    }

-- ---- the answers and the numbers that the call gives
module _ (s before after : List ℕ) (n : ℕ) (G : GivesCanonical s before after n) where
  -- any answer with an output that the promise allows is the one that was given
  given : (last : List ℕ) (w : Result ℕ Refusal) → CanonicalPromise s before last w → (n ≡ writing_number w) × (after ≡ last)
  given last w p =
      let r = one_writing (canonical_questions s (length before)) (canonical_image s) before after last G.answer w G.promised p in
      (G.number ∙ ap writing_number r.0, r.1)

  said_refused : (k : ℕ) → RefusedWith (canonical_questions s (length before)) k → (n ≡ 4 * k + 3) × (after ≡ before)
  said_refused k r =
      let o = refused_writing (canonical_questions s (length before)) (canonical_image s) before after G.answer k G.promised r in
      (G.number ∙ o.0, o.1)

  said_written : AllYes (canonical_questions s (length before))
      → (n ≡ 256 * length (canonical_image s)) × (after ≡ canonical_image s ++ drop (length (canonical_image s)) before)
  said_written a = given (canonical_image s ++ drop (length (canonical_image s)) before) (Ok (length (canonical_image s))) (a, refl, refl)

refuses : (s : List ℕ) (k : ℕ) → CanonicalRefused s k → RefusesCanonical s k
refuses s k r before after n G = said_refused s before after n G k (r (length before))

-- of any policy that passes and comes to no more than 4,095 records
says_any : (s : List ℕ) → AllYes (policy_questions s) → (canonical_of (policy_of s)).size ≤ 4095 → SaysCanonical s (canonical_image s)
says_any s a f =
    record {
      room = λ before after n h G. said_written s before after n G (passed s (length before) a f h);
      no_room = λ before after n h G. said_refused s before after n G 16 (refused_16 s (length before) a f h);
    }

says_canonical : {s image : List ℕ} → CanonicalIs s image → SaysCanonical s image
says_canonical {s} c = subst (SaysCanonical s) c.written (says_any s c.accepted c.few)

-- an image that was written, written again
written_again : {s image : List ℕ} → CanonicalIs s image → CanonicalIs image image
unfolding header_size size_of
written_again {s} {image} c =
    let l = image_length (canonical_of (policy_of s)) in
    let m = image_length (canonical_of (policy_of image)) in
    let e = ap length (c.again ∙ sym c.written) in
    let f = c.few in
    record { accepted = c.passes; few = omega arith; written = c.again; passes = c.passes; again = c.again }

says_twice : {s image : List ℕ} → CanonicalIs s image → SaysTwice s image
says_twice c = (says_canonical c, says_canonical (written_again c))

-- THE TWELFTH THEOREM: the same of the call
pub canonical_called : CanonicalCalled
unfolding header_size size_of
canonical_called =
    record {
      weir_sorted = says_twice images.weir_sorted;
      allows_sorted = says_twice images.allows_sorted;
      united = says_twice images.united;
      dropped = says_twice images.dropped;
      once = says_twice images.once;
      split = says_twice images.split;
      by_self_lem = says_twice images.by_self_lem;
      by_type_lem = says_twice images.by_type_lem;
      self_and_type_lem = says_twice images.self_and_type_lem;
      kept = says_twice images.kept;
      first = says_twice images.first;
      second = says_twice images.second;
      joined_read = says_twice images.joined_read;
      counts_kept = says_twice images.counts_kept;
      nothing = says_twice images.nothing;
      any = says_any;
      nothing_exact = λ after n G. (says_canonical images.nothing).room (blank 24) after n (omega arith) G;
      nothing_longer = λ after n G. (says_canonical images.nothing).room (blank_then 7 9) after n (omega arith) G;
      nothing_short = λ after n G. (says_canonical images.nothing).no_room (blank 23) after n (omega arith) G;
      policy_first = λ s k r. refuses s k (canonical_cases.policy_first s k r);
      no_type_2 = refuses no_type 2 canonical_cases.no_type_2;
      leaning_14 = refuses leaning 14 canonical_cases.leaning_14;
      w9 = refuses weir_allow31 14 (canonical_cases.policy_first weir_allow31 14 w9_refused.it);
      fifteen = λ s a h. refuses s 15 (canonical_cases.fifteen s a h);
      crowded_15 = refuses (crowded 1 one_flow 4094) 15 canonical_cases.crowded_15.1;
      two_before_15 = refuses (crowded 0 one_flow 4094) 2 canonical_cases.two_before_15.1;
      crowded_united = λ before after n h G.
          let c = again_crowded 4093 (omega arith) in
          let e = c.comes_to in
          let l = image_length (canonical_of (policy_of (crowded 1 one_flow_again 4093))) in
          let r = (said_written (crowded 1 one_flow_again 4093) before after n G (crowded_passed c (omega arith) (length before) (omega arith))).0 in
          omega arith;
    }
