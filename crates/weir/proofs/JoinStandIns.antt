-- Joins and answers that the promise of the join keeps out, each on a named input: what a misreading of paper 02 (c) would give.
use Prim.Native.Nat.{ℕ, ◌+◌, ◌≤◌, ◌<◌}
use mathlib.Core.Bool.{false}
use mathlib.Core.List.{List, [], ◌∷◌, ◌++◌}
use mathlib.Core.Path.{◌≡◌, refl, sym, ap, subst, ◌∙◌}
use native.Mathlib.Omega.{arith}
use lib.ListN.{length, get_or, take, drop, get_or-append}
use Rattle.std.proofs.Common.{Result, Ok, Err}
use Rattle.base.specs.declared.refusals.Refusal.{Refusal}
use Rattle.base.specs.declared.refusals.Refusal.TheVariants.{OutputSlice, PolicyLength, PolicySources, TooManyRecords}
use Rattle.base.specs.Questions.{AllYes}
use Rattle.base.specs.Refusals.{question_number}
use Rattle.base.proofs.RefusalLaws.{same_number}
use Rattle.base.proofs.QuestionLaws.{passed_not_refused, one_number}
use Rattle.policy_image.specs.Layout.{record_count}
use Rattle.policy_image.specs.Policy.{policy_of}
use Rattle.policy_image.specs.Cases.Weir.{weir}
use Rattle.policy_image.specs.Cases.Written.{line, domain, permissions, flow, allow, role_type, user_role, role_change, constraint, node, image, no_chain}
use Rattle.policy_check.specs.Questions.{policy_questions}
use Rattle.policy_writing.specs.Writing.{WritingPromise, writing_number}
use Rattle.policy_writing.proofs.WritingLaws.{one_writing}
use Rattle.join.specs.Join.{joined_image, join_questions, JoinPromise}
use Rattle.context.specs.Codes.{context_at as at, event_at as event}
use Rattle.access.specs.Authorization.{authorized}
use Rattle.weir.specs.Cases.Goals.{weir_allow41, empty}
use Rattle.weir.specs.Cases.JoinPolicies.{board_read, weir_of_two, weir_of_four, weir_guarded, guarded_read, nodes_maker, nodes_board, nodes_joined, counts_maker, counts_board, leaning, beyond, no_type, states_many, blank, blank_then}
use Rattle.weir.specs.Cases.Join.{JoinIs, GivesJoin}
use Rattle.weir.proofs.JoinImages as images
use Rattle.weir.proofs.JoinImages.{written}
use Rattle.weir.proofs.JoinAnswers as answers
use Rattle.weir.proofs.Join.{enough, join_cases, join_called}

-- ---- where the joined image is known and there is room for it, the output begins with it, whatever is answered
only_joined : {s t image : List ℕ} → JoinIs s t image → (before after : List ℕ) (w : Result ℕ Refusal) → length image ≤ length before → JoinPromise s t before after w
    → (w ≡ Ok (length image)) × (after ≡ image ++ drop (length image) before)
only_joined {s} {t} {image} j before after w h p =
    one_writing (join_questions s t (length before)) image before after (image ++ drop (length image) before) w (Ok (length image))
    (subst (λ (i : List ℕ). WritingPromise (join_questions s t (length before)) i before after w) j.joined p) (enough j (length before) h, refl, refl)

-- no answer allows an output with room that begins with these bytes, whatever was there and whatever stands behind them
abbrev KeptOut : List ℕ → List ℕ → List ℕ → Type 0
KeptOut s t wrong = (before rest : List ℕ) (w : Result ℕ Refusal) → length (joined_image s t) ≤ length before → JoinPromise s t before (wrong ++ rest) w → ⊥

-- .. for byte i is another one
differs : {s t image : List ℕ} → JoinIs s t image → (wrong : List ℕ) (i : ℕ) → i < length wrong → i < length image → (get_or wrong i 0 ≡ get_or image i 0 → ⊥)
    → KeptOut s t wrong
differs {s} {t} {image} j wrong i low high n before rest w h p =
    n (sym (get_or-append wrong rest 0 i low) ∙ ap (λ (l : List ℕ). get_or l i 0) (only_joined j before (wrong ++ rest) w (rw j.joined at h) p).1
    ∙ get_or-append image _ 0 i high)

-- ---- "node numbers adjusted": the joined image but for its roots, a constraint's mask, a left of the maker's, and a left and a right of the board's
abbrev numbered : (root root' mask left left' right : ℕ) → List ℕ
numbered root root' mask left left' right =
    image 9 5 2 3 (1 ∷ 0 ∷ 0 ∷ 0 ∷ 0 ∷ 0 ∷ 4 ∷ 6 ∷ 8 ∷ [])
    (domain 2 7
    ∷ domain 3 2
    ∷ domain 0 3
    ∷ role_change 5 1 1
    ∷ role_change 0 5 1
    ∷ constraint 7 1 1 root
    ∷ line 0 8 1 0 0 root' 0 mask 0 1 0
    ∷ node 9 4 0 0 0
    ∷ node 10 1 0 left 0
    ∷ node 11 5 0 0 0
    ∷ node 12 7 2 0 0
    ∷ node 0 2 0 left' right
    ∷ [])

pub rightly_numbered : numbered 9 12 1 8 10 11 ≡ nodes_joined
rightly_numbered = refl

-- as they were; adjusted in roots alone, in children alone; the board's alone, by the number of the maker's records; in a mask, as if it were a left
pub not_unadjusted : KeptOut nodes_maker nodes_board (numbered 3 4 1 1 2 3)
not_unadjusted = differs images.nodes (numbered 3 4 1 1 2 3) 90 (omega arith) (omega arith) (λ (z : ◌≡◌ {A = ℕ} 3 9). omega arith)

pub not_roots_alone : KeptOut nodes_maker nodes_board (numbered 9 12 1 1 2 3)
not_roots_alone = differs images.nodes (numbered 9 12 1 1 2 3) 128 (omega arith) (omega arith) (λ (z : ◌≡◌ {A = ℕ} 1 8). omega arith)

pub not_children_alone : KeptOut nodes_maker nodes_board (numbered 3 4 1 8 10 11)
not_children_alone = differs images.nodes (numbered 3 4 1 8 10 11) 90 (omega arith) (omega arith) (λ (z : ◌≡◌ {A = ℕ} 3 9). omega arith)

pub not_boards_alone : KeptOut nodes_maker nodes_board (numbered 3 9 1 1 7 8)
not_boards_alone = differs images.nodes (numbered 3 9 1 1 7 8) 90 (omega arith) (omega arith) (λ (z : ◌≡◌ {A = ℕ} 3 9). omega arith)

pub not_in_a_mask : KeptOut nodes_maker nodes_board (numbered 9 12 9 8 10 11)
not_in_a_mask = differs images.nodes (numbered 9 12 9 8 10 11) 104 (omega arith) (omega arith) (λ (z : ◌≡◌ {A = ℕ} 9 1). omega arith)

-- ---- "kinds 1 to 9 in turn": the maker's records, then the board's, as they stood, with links and numbers to fit; "each linked in order": the
-- chains of the two not linked; "the maker's first within a kind"
abbrev one_after_the_other : List ℕ
one_after_the_other =
    image 9 5 2 3 (4 ∷ 0 ∷ 0 ∷ 0 ∷ 0 ∷ 0 ∷ 5 ∷ 2 ∷ 1 ∷ [])
    (node 3 4 0 0 0
    ∷ constraint 10 1 1 3
    ∷ node 7 1 0 1 0
    ∷ domain 6 7
    ∷ role_change 12 1 1
    ∷ domain 11 2
    ∷ node 8 5 0 0 0
    ∷ node 9 7 2 0 0
    ∷ node 0 2 0 7 8
    ∷ line 0 8 1 0 0 9 0 1 0 1 0
    ∷ domain 0 3
    ∷ role_change 0 5 1
    ∷ [])

pub not_one_after_the_other : KeptOut nodes_maker nodes_board one_after_the_other
not_one_after_the_other = differs images.nodes one_after_the_other 26 (omega arith) (omega arith) (λ (z : ◌≡◌ {A = ℕ} 9 1). omega arith)

abbrev unlinked : List ℕ
unlinked =
    image 4 2 1 2 (1 ∷ 3 ∷ 4 ∷ 6 ∷ 9 ∷ 11 ∷ 0 ∷ 0 ∷ 0 ∷ [])
    (domain 0 2
    ∷ domain 0 4
    ∷ permissions 0 2 3
    ∷ flow 0 2 2 1
    ∷ flow 0 2 1 2
    ∷ allow 7 2 1 2 1
    ∷ allow 0 2 3 2 2
    ∷ allow 0 4 3 2 1
    ∷ role_type 0 2 2
    ∷ role_type 0 2 4
    ∷ user_role 0 1 2
    ∷ [])

pub not_unlinked : KeptOut weir_of_two weir_of_four unlinked
not_unlinked = differs images.parts unlinked 24 (omega arith) (omega arith) (λ (z : ◌≡◌ {A = ℕ} 0 2). omega arith)

pub not_boards_records_first : KeptOut nodes_maker nodes_board (joined_image nodes_board nodes_maker)
unfolding written
not_boards_records_first = differs images.nodes (joined_image nodes_board nodes_maker) 27 (omega arith) (omega arith) (λ (z : ◌≡◌ {A = ℕ} 2 7). omega arith)

-- ---- the board left out; a record that both have written once, as W5's policy has it
pub not_makers_alone : KeptOut weir board_read weir
not_makers_alone = differs images.read weir 4 (omega arith) (omega arith) (λ (z : ◌≡◌ {A = ℕ} 11 13). omega arith)

pub not_repeated_once : KeptOut weir board_read weir_allow41
not_repeated_once = differs images.read weir_allow41 4 (omega arith) (omega arith) (λ (z : ◌≡◌ {A = ℕ} 12 13). omega arith)

-- ---- the counts: the smaller, the maker's, the board's, both added
pub not_smaller_counts : KeptOut counts_maker counts_board (image 1 1 2 2 no_chain [])
not_smaller_counts = differs images.counts (image 1 1 2 2 no_chain []) 0 (omega arith) (omega arith) (λ (z : ◌≡◌ {A = ℕ} 1 3). omega arith)

pub not_makers_counts : KeptOut counts_maker counts_board counts_maker
not_makers_counts = differs images.counts counts_maker 1 (omega arith) (omega arith) (λ (z : ◌≡◌ {A = ℕ} 1 4). omega arith)

pub not_boards_counts : KeptOut counts_maker counts_board counts_board
not_boards_counts = differs images.counts counts_board 0 (omega arith) (omega arith) (λ (z : ◌≡◌ {A = ℕ} 1 3). omega arith)

pub not_added_counts : KeptOut counts_maker counts_board (image 4 5 7 8 no_chain [])
not_added_counts = differs images.counts (image 4 5 7 8 no_chain []) 0 (omega arith) (omega arith) (λ (z : ◌≡◌ {A = ℕ} 4 3). omega arith)

-- ---- "constraints all apply": the maker's to the maker's allows alone. What is written never authorizes the board's 4 on 1 read
pub not_makers_allows_alone : (before after : List ℕ) (w : Result ℕ Refusal) → 204 ≤ length before → JoinPromise weir_guarded board_read before after w
    → authorized (policy_of (take 204 after)) (event 2 0) (at 4 2 1) (at 1 1 1) ≡ false
not_makers_allows_alone before after w h p =
    let e : take 204 after ≡ guarded_read = ap (take 204) (only_joined images.guarded before after w h p).1 in
    subst (λ (s : List ℕ). answers.four_reads_one s ≡ false) (sym e) answers.guarded_read_lem

-- ---- "bytes past the result are unchanged": cleared; cut off. And an output left as it was
pub not_cleared : (w : Result ℕ Refusal) → JoinPromise empty empty (blank_then 7 9) (empty ++ (0 ∷ 0 ∷ [])) w → ⊥
not_cleared w p =
    let e = (only_joined images.nothing (blank_then 7 9) (empty ++ (0 ∷ 0 ∷ [])) w (omega arith) p).1 in
    let z : ◌≡◌ {A = ℕ} 0 7 = ap (λ (l : List ℕ). get_or l 24 0) e in
    omega arith

pub not_cut_off : (w : Result ℕ Refusal) → JoinPromise empty empty (blank_then 7 9) empty w → ⊥
not_cut_off w p = let z : ◌≡◌ {A = ℕ} 24 26 = ap length (only_joined images.nothing (blank_then 7 9) empty w (omega arith) p).1 in omega arith

pub not_unwritten : (w : Result ℕ Refusal) → JoinPromise empty empty (blank 24) (blank 24) w → ⊥
not_unwritten w p =
    let z : ◌≡◌ {A = ℕ} 170 1 = ap (λ (l : List ℕ). get_or l 0 0) (only_joined images.nothing (blank 24) (blank 24) w (omega arith) p).1 in
    omega arith

-- ---- "A refusal writes nothing": as much as there is room for, on 16; the maker's part, on a refusal of the board's
pub not_written_on_16 : (w : Result ℕ Refusal) → JoinPromise empty empty (blank 23) (take 23 empty) w → ⊥
not_written_on_16 w p =
    let e = (one_writing (join_questions empty empty 23) (joined_image empty empty) (blank 23) (take 23 empty) (blank 23) w (Err OutputSlice) p
    (join_cases.nothing_16, refl)).1 in
    let z : ◌≡◌ {A = ℕ} 1 170 = ap (λ (l : List ℕ). get_or l 0 0) e in
    omega arith

pub not_written_on_14 : (w : Result ℕ Refusal) → JoinPromise weir leaning (0 ∷ []) (4 ∷ []) w → ⊥
not_written_on_14 w p =
    let e = (one_writing (join_questions weir leaning 1) (joined_image weir leaning) (0 ∷ []) (4 ∷ []) (0 ∷ []) w (Err PolicySources) p
    (join_cases.board_14 1, refl)).1 in
    let z : ◌≡◌ {A = ℕ} 4 0 = ap (λ (l : List ℕ). get_or l 0 0) e in
    omega arith

-- ---- the order of the questions: the board's before the maker's; 15 or 16 before the board's; 16 before 15
pub not_board_first : (before after : List ℕ) → JoinPromise no_type [] before after (Err PolicyLength) → ⊥
not_board_first before after p =
    let e = one_number (join_questions no_type [] (length before)) 1 2 p.0 (join_cases.two_before_1.1 (length before)) in omega arith

pub not_15_before_board : (before after : List ℕ) → JoinPromise weir states_many before after (Err TooManyRecords) → ⊥
not_15_before_board before after p =
    let e = one_number (join_questions weir states_many (length before)) 15 1 p.0 (join_cases.one_before_15.1 (length before)) in omega arith

pub not_16_before_board : (after : List ℕ) → JoinPromise weir leaning [] after (Err OutputSlice) → ⊥
not_16_before_board after p = let e = one_number (join_questions weir leaning 0) 16 14 p.0 (join_cases.board_14 0) in omega arith

pub not_16_before_15 : (s t before after : List ℕ) → AllYes (policy_questions s) → AllYes (policy_questions t) → 4095 < record_count s + record_count t
    → JoinPromise s t before after (Err OutputSlice) → ⊥
not_16_before_15 s t before after a b more p =
    let e = one_number (join_questions s t (length before)) 16 15 p.0 (join_cases.fifteen s t a b more (length before)) in omega arith

-- ---- one that refuses all; an output exactly as long refused; a board let pass by what the maker has
pub not_refusing : (after : List ℕ) (r : Refusal) → JoinPromise empty empty (blank 24) after (Err r) → ⊥
not_refusing after r p = passed_not_refused (join_questions empty empty 24) (question_number r) join_cases.nothing_enough p.0

pub not_leaning : (before after : List ℕ) (n : ℕ) → JoinPromise weir leaning before after (Ok n) → ⊥
not_leaning before after n p = passed_not_refused (join_questions weir leaning (length before)) 14 p.0 (join_cases.board_14 (length before))

pub not_beyond : (before after : List ℕ) (n : ℕ) → JoinPromise weir beyond before after (Ok n) → ⊥
not_beyond before after n p = passed_not_refused (join_questions weir beyond (length before)) 5 p.0 (join_cases.board_5 (length before))

-- ---- the length: the output's, or any other
pub not_output_length : (after : List ℕ) (n : ℕ) → JoinPromise empty empty (blank_then 7 9) after (Ok n) → n ≡ 24
not_output_length after n p = p.1 ∙ join_cases.nothing_length

-- ---- the number that C gets: without the factor 256; and two answers never share a number
pub not_length_alone : (after : List ℕ) → GivesJoin empty empty (blank 24) after 24 → ⊥
not_length_alone after G = let z = (join_called.nothing_exact after 24 G).0 in omega arith

pub writing_number_written : writing_number (Ok 24) ≡ 6144
writing_number_written = refl

pub writing_number_refused : writing_number (Err TooManyRecords) ≡ 63
writing_number_refused = refl

pub writing_number_tells : (w v : Result ℕ Refusal) → writing_number w ≡ writing_number v → w ≡ v
writing_number_tells (Ok n) (Ok m) e = ap Ok (omega arith)
writing_number_tells (Ok n) (Err r) e = absurd (omega arith)
writing_number_tells (Err r) (Ok m) e = absurd (omega arith)
writing_number_tells (Err q) (Err r) e = ap Err (same_number q r (omega arith))
