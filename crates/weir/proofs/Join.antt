-- The join on named inputs, from the definitions, and carried to the call by its promise.
use Prim.Native.Nat.{ℕ, ◌+◌, ◌*◌, ◌/◌, ◌≤◌, ◌<◌}
use mathlib.Core.Bool.{true, false}
use mathlib.Core.List.{List, [], ◌∷◌, ◌++◌}
use mathlib.Core.Logic.{inl, inr}
use mathlib.Core.Path.{◌≡◌, refl, sym, ap, ap₂, subst, ◌∙◌}
use native.Mathlib.Omega.{arith}
use lib.ListN.{length, take, drop}
use Rattle.std.proofs.Common.{Result, Ok}
use Rattle.base.specs.declared.refusals.Refusal.{Refusal}
use Rattle.base.specs.Questions.{Question, ask, AllYes, RefusedWith}
use Rattle.base.proofs.QuestionLaws.{passed_both, refused_first, refused_then}
use Rattle.policy_image.specs.Layout.{record_count}
use Rattle.policy_image.specs.Policy.{policy_of}
use Rattle.policy_image.specs.Cases.Weir.{weir}
use Rattle.policy_sources.specs.Sources.{domain}
use Rattle.policy_check.specs.Questions.{policy_questions}
use Rattle.policy_check.proofs.Cases.{weir_accepted}
use Rattle.relations.specs.Relations.{ρ}
use Rattle.policy_writing.specs.Writing.{writing_number}
use Rattle.policy_writing.proofs.WritingLaws.{one_writing, refused_writing}
use Rattle.join.specs.Join.{joined_image, join_questions, JoinPromise}
use Rattle.goal_image.specs.Cases.WeirGoal.{goal_g}
use Rattle.paths.specs.Paths.{OrderAt}
use Rattle.witness.specs.declared.unanswered.Unanswered.{Unanswered}
use Rattle.goal_question.specs.declared.goal.Outcome.{Outcome}
use Rattle.goal_question.specs.GoalQuestion.{GoalPromise}
use Rattle.weir.specs.Cases.Weir.{W5Slice, Answered}
use Rattle.weir.specs.Cases.Called.{Gives, SaysBroken, Prints}
use Rattle.weir.specs.Cases.JoinPolicies.{board_read, weir_read, no_type, leaning, beyond, states_many, many_domains, blank, blank_then}
use Rattle.weir.specs.Cases.Join.{JoinIs, JoinRefused, JoinCases, GivesJoin, RefusesJoin, SaysJoined, JoinCalled}
use Rattle.weir.proofs.Accepted.{w1_enough}
use Rattle.weir.proofs.Answers.{w1}
use Rattle.weir.proofs.Theorem.{slice_of_one}
use Rattle.weir.proofs.Called.{says_order, called_path, weir_called}
use Rattle.weir.proofs.JoinImages as images
use Rattle.weir.proofs.JoinAnswers as answers
use Rattle.join_laws.proofs.WrittenLaws.{joined_passes}
use Rattle.weir.proofs.JoinMany.{many_passes, many_count, many_length}

-- ---- the questions: the maker's decide, then the board's, then 15, then 16
module _ (s t : List ℕ) (output : ℕ) where
  abbrev last : List Question
  last = ask 15 (record_count s + record_count t ≤ 4095) ∷ ask 16 (length (joined_image s t) ≤ output) ∷ []

  makers : (k : ℕ) → RefusedWith (policy_questions s) k → RefusedWith (join_questions s t output) k
  makers k r = refused_first (policy_questions s) (policy_questions t ++ last) k r

  module _ (a : AllYes (policy_questions s)) where
    boards : (k : ℕ) → RefusedWith (policy_questions t) k → RefusedWith (join_questions s t output) k
    boards k r = refused_then (policy_questions s) (policy_questions t ++ last) k a (refused_first (policy_questions t) last k r)

    module _ (b : AllYes (policy_questions t)) where
      later : (k : ℕ) → RefusedWith last k → RefusedWith (join_questions s t output) k
      later k r = refused_then (policy_questions s) (policy_questions t ++ last) k a (refused_then (policy_questions t) last k b r)

      pub refused_15 : 4095 < record_count s + record_count t → RefusedWith (join_questions s t output) 15
      refused_15 h = later 15 (inl ((λ f. omega arith), refl))

      pub refused_16 : record_count s + record_count t ≤ 4095 → output < length (joined_image s t) → RefusedWith (join_questions s t output) 16
      refused_16 f h = later 16 (inr (f, inl ((λ r. omega arith), refl)))

      pub passed : record_count s + record_count t ≤ 4095 → length (joined_image s t) ≤ output → AllYes (join_questions s t output)
      passed f h = passed_both (policy_questions s) (policy_questions t ++ last) a (passed_both (policy_questions t) last b (f, (h, tt)))

module _ {s t image : List ℕ} (j : JoinIs s t image) where
  pub short : (output : ℕ) → output < length image → RefusedWith (join_questions s t output) 16
  short output h = refused_16 s t output j.maker j.board j.few (rw j.joined h)

  pub enough : (output : ℕ) → length image ≤ output → AllYes (join_questions s t output)
  enough output h = passed s t output j.maker j.board j.few (rw j.joined h)

-- what is so of the image that is written out is so of the joined image
module _ {s t image : List ℕ} (j : JoinIs s t image) (P : List ℕ → Type 0) where
  of_joined : P image → P (joined_image s t)
  of_joined h = subst P (sym j.joined) h

read_slice : (before after : List ℕ) (r : Result Outcome Unanswered) → 3 ≤ length before → GoalPromise weir_read goal_g 32 32 before after r → W5Slice before after r
read_slice = slice_of_one weir_read answers.read_enough answers.read_order answers.read_covers

-- ---- the two sides of 15: 4,095 records and one more, 4,094 and one more
many_refused : JoinRefused (many_domains 4095) (many_domains 1) 15
many_refused output =
    let x = many_count 4095 (omega arith) in
    let y = many_count 1 (omega arith) in
    refused_15 (many_domains 4095) (many_domains 1) output (many_passes 4095 (omega arith)) (many_passes 1 (omega arith)) (omega arith)

many_passed : (output : ℕ) → 49164 ≤ output → AllYes (join_questions (many_domains 4094) (many_domains 1) output)
many_passed output h =
    let x = many_count 4094 (omega arith) in
    let y = many_count 1 (omega arith) in
    let l = many_length 4094 1 (omega arith) (omega arith) in
    passed (many_domains 4094) (many_domains 1) output (many_passes 4094 (omega arith)) (many_passes 1 (omega arith)) (omega arith) (omega arith)

-- THE EIGHTH THEOREM: the join from the definitions
pub join_cases : JoinCases
unfolding record_count
join_cases =
    record {
      parts = images.parts;
      read = images.read;
      read_before = record { accepted = w1_enough; answer = w1 };
      read_after = of_joined images.read (λ s. Answered s goal_g (λ M. OrderAt M 1)) (record { accepted = answers.read_enough; answer = answers.read_order });
      read_slice = of_joined images.read
          (λ s. (before after : List ℕ) (r : Result Outcome Unanswered) → 3 ≤ length before → GoalPromise s goal_g 32 32 before after r → W5Slice before after r) read_slice;
      taken = images.taken;
      taken_before = answers.taken_before;
      taken_after = of_joined images.taken (λ s. answers.two_reads_one s ≡ false) answers.taken_after;
      taken_other = of_joined images.taken (λ s. answers.four_reads_three s ≡ true) answers.taken_other;
      twice = images.twice;
      twice_makers = answers.twice_makers;
      twice_first = of_joined images.twice (λ s. answers.two_reads_one s ≡ false) answers.twice_first;
      twice_second = of_joined images.twice (λ s. answers.four_reads_three s ≡ false) answers.twice_second;
      guarded = images.guarded;
      guarded_read_lem = of_joined images.guarded (λ s. answers.four_reads_one s ≡ false) answers.guarded_read_lem;
      unguarded_read = of_joined images.read (λ s. answers.four_reads_one s ≡ true) answers.unguarded_read;
      domains = images.domains;
      domain_maker = answers.domain_maker;
      domain_board = of_joined images.domains (λ s. domain (policy_of s) 3 ≡ true) answers.domain_board;
      domain_kept = of_joined images.domains (λ s. domain (policy_of s) 2 ≡ true) answers.domain_kept;
      rho_before = answers.rho_before;
      rho_after = of_joined images.domains (λ s. ρ (policy_of s) 1 3 ≡ false) answers.rho_after;
      write_before = answers.write_before;
      write_after = of_joined images.domains (λ s. answers.two_writes_three s ≡ false) answers.write_after;
      nodes = images.nodes;
      wide_root = images.wide_root;
      wide_left = images.wide_left;
      wide_right = images.wide_right;
      counts = images.counts;
      counts_turned = images.counts_turned;
      nothing = images.nothing;
      nothing_length = ap length (images.nothing).joined;
      passes = joined_passes;
      makers_first = λ s t k r output. makers s t output k r;
      boards_next = λ s t k a r output. boards s t output a k r;
      two_before_1 = ((images.none_1).it, λ output. makers no_type [] output 2 (images.no_type_lem).it);
      one_of_board = λ output. boards weir [] output weir_accepted.it 1 (images.none_1).it;
      board_14 = λ output. boards weir leaning output weir_accepted.it 14 (images.leaning_14).it;
      maker_14 = λ output. makers leaning weir output 14 (images.leaning_14).it;
      board_5 = λ output. boards weir beyond output weir_accepted.it 5 (images.beyond_5).it;
      one_before_15 = (omega arith, λ output. boards weir states_many output weir_accepted.it 1 (images.many_1).it);
      fifteen = λ s t a b h output. refused_15 s t output a b h;
      many = λ n h. (many_passes n h, many_count n h);
      many_15 = many_refused;
      many_enough = many_passed 49164 (omega arith);
      sixteen = λ s t output a b f h. refused_16 s t output a b f h;
      enough = λ s t output a b f h. passed s t output a b f h;
      nothing_16 = short images.nothing 23 (omega arith);
      nothing_enough = enough images.nothing 24 (omega arith);
    }

-- ---- the answers and the numbers that the call gives
module _ (s t before after : List ℕ) (n : ℕ) (G : GivesJoin s t before after n) where
  -- any answer with an output that the promise allows is the one that was given
  given : (last : List ℕ) (w : Result ℕ Refusal) → JoinPromise s t before last w → (n ≡ writing_number w) × (after ≡ last)
  given last w p =
      let r = one_writing (join_questions s t (length before)) (joined_image s t) before after last G.answer w G.promised p in
      (G.number ∙ ap writing_number r.0, r.1)

  said_refused : (k : ℕ) → RefusedWith (join_questions s t (length before)) k → (n ≡ 4 * k + 3) × (after ≡ before)
  said_refused k r =
      let o = refused_writing (join_questions s t (length before)) (joined_image s t) before after G.answer k G.promised r in
      (G.number ∙ o.0, o.1)

  said_written : AllYes (join_questions s t (length before))
      → (n ≡ 256 * length (joined_image s t)) × (after ≡ joined_image s t ++ drop (length (joined_image s t)) before)
  said_written a = given (joined_image s t ++ drop (length (joined_image s t)) before) (Ok (length (joined_image s t))) (a, refl, refl)

pub refuses : (s t : List ℕ) (k : ℕ) → JoinRefused s t k → RefusesJoin s t k
refuses s t k r before after n G = said_refused s t before after n G k (r (length before))

-- of any two policies that pass and have no more than 4,095 records together
says_any : (s t : List ℕ) → AllYes (policy_questions s) → AllYes (policy_questions t) → record_count s + record_count t ≤ 4095 → SaysJoined s t (joined_image s t)
says_any s t a b f =
    record {
      room = λ before after n h G. said_written s t before after n G (passed s t (length before) a b f h);
      no_room = λ before after n h G. said_refused s t before after n G 16 (refused_16 s t (length before) a b f h);
    }

pub says_joined : {s t image : List ℕ} → JoinIs s t image → SaysJoined s t image
says_joined {s} {t} j = subst (SaysJoined s t) j.joined (says_any s t j.maker j.board j.few)

-- ---- what the join of the weir policy and the board's "4 on 1 read" has written
read_written : (before after : List ℕ) (n : ℕ) → 180 ≤ length before → GivesJoin weir board_read before after n → take (n / 256) after ≡ weir_read
read_written before after n h G =
    let r = (says_joined images.read).room before after n h G in
    ap₂ (λ (m : ℕ) (l : List ℕ). take (m / 256) l) r.0 r.1

-- THE NINTH THEOREM: the same of the call
pub join_called : JoinCalled
join_called =
    record {
      parts = says_joined images.parts;
      read = says_joined images.read;
      taken = says_joined images.taken;
      twice = says_joined images.twice;
      guarded = says_joined images.guarded;
      domains = says_joined images.domains;
      nodes = says_joined images.nodes;
      counts = says_joined images.counts;
      counts_turned = says_joined images.counts_turned;
      nothing = says_joined images.nothing;
      any = says_any;
      read_before = weir_called.w1;
      read_after = λ before after n h G.
          subst (λ (s : List ℕ). SaysBroken s goal_g 1 1) (sym (read_written before after n h G)) (says_order weir_read goal_g answers.read_enough answers.read_order);
      read_path = λ before after n h G.
          subst (λ (s : List ℕ). (path path' : List ℕ) (m : ℕ) → 3 ≤ length path → Gives s goal_g 32 32 path path' m → Prints path path')
          (sym (read_written before after n h G)) (called_path weir_read read_slice);
      nothing_exact = λ after n G. (says_joined images.nothing).room (blank 24) after n (omega arith) G;
      nothing_longer = λ after n G. (says_joined images.nothing).room (blank_then 7 9) after n (omega arith) G;
      nothing_short = λ after n G. (says_joined images.nothing).no_room (blank 23) after n (omega arith) G;
      makers_first = λ s t k r. refuses s t k (join_cases.makers_first s t k r);
      boards_next = λ s t k a r. refuses s t k (join_cases.boards_next s t k a r);
      two_before_1 = refuses no_type [] 2 join_cases.two_before_1.1;
      one_of_board = refuses weir [] 1 join_cases.one_of_board;
      board_14 = refuses weir leaning 14 join_cases.board_14;
      maker_14 = refuses leaning weir 14 join_cases.maker_14;
      board_5 = refuses weir beyond 5 join_cases.board_5;
      one_before_15 = refuses weir states_many 1 join_cases.one_before_15.1;
      fifteen = λ s t a b h. refuses s t 15 (join_cases.fifteen s t a b h);
      many_15 = refuses (many_domains 4095) (many_domains 1) 15 many_refused;
      many_written = λ before after n h G.
          let l = many_length 4094 1 (omega arith) (omega arith) in
          let r = (said_written (many_domains 4094) (many_domains 1) before after n G (many_passed (length before) h)).0 in
          omega arith;
    }
