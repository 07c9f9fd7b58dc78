-- Ways to misread the path definitions, each with a small goal that the definitions answer otherwise. A goal has one right answer
-- (`right_unique`), so each theorem rules out what the misreading would answer.
-- specs/Cases/Drawings.antt has the drawings.
use mathlib.Core.List.{[]}
use Prim.Native.Nat.{ℕ, ◌+◌, ◌-◌, ◌%◌, ◌^◌, ◌<◌}
use native.Mathlib.Omega.{arith}
use Rattle.base.specs.Bits.{bit}
use Rattle.paths.specs.Paths.{IsPath, BreaksEvents}
use Rattle.paths.specs.Slice.{contexts_in, events_in, Shows}
use Rattle.paths.specs.Inner.Stages.{Advanced}
use Rattle.paths.specs.Inner.Verdict.{holds, order, events, Right}
use Rattle.paths.specs.Cases.Drawn.{drawn_model, except, failing, only}
use Rattle.paths.specs.Cases.Drawings.{self_release, start_in_first, one_leg, start_too_early, mid_too_early, highest_alone, lowest_alone, one_step_stays, repeated_stays, no_step, middle_event, wrong_place, bad, end_goes_on, out_of_range, met_twice, tie, fewest, past_the_end}
use Rattle.paths.proofs.Drawn.{answer_by}
use Rattle.paths.proofs.Monitors.{events_verdict}
use Rattle.paths.proofs.StageLaws.{stage_step, step_law, low_args}

-- ---- order
-- "has no xl in σi with l < j". Context 1 is in σ1 and in σ2, and nothing before it is in σ1: it does not release itself.
-- Misread as l ≤ j: the goal holds.
pub self_release_lem : Right (drawn_model self_release) (order 3)
unfolding bit
self_release_lem = answer_by self_release (order 3) tt

-- "0 < i < n". The start is in σ1 with nothing in σ0 before it, which is not asked. Misread as 0 ≤ i: order 2.
pub start_in_first_lem : Right (drawn_model start_in_first) holds
unfolding bit
start_in_first_lem = answer_by start_in_first holds tt

-- .. so a goal of one leg never breaks order. Misread as 0 ≤ i: order 0.
pub one_leg_lem : Right (drawn_model one_leg) (events 0)
unfolding bit
one_leg_lem = answer_by one_leg (events 0) tt

-- "some xj": the start is one. It is in σ2, and nothing is before it. Misread as j > 0: the goal holds.
pub start_too_early_lem : Right (drawn_model start_too_early) (order 3)
unfolding bit
start_too_early_lem = answer_by start_too_early (order 3) tt

-- "for some i": every one of σ2 to σn is asked, not σn alone. Context 1 is in σ2 before any is in σ1. Misread as i = n − 1: the
-- goal holds.
pub mid_too_early_lem : Right (drawn_model mid_too_early) (order 4)
unfolding bit
mid_too_early_lem = answer_by mid_too_early (order 4) tt

-- ---- events
-- "Several choices of the pi may be open together". At context 1 stages 0 and 1 are open, and only stage 0 leads on: p1 = 2.
-- With the highest stage alone: events 3.
pub highest_alone_lem : Right (drawn_model highest_alone) holds
unfolding bit
highest_alone_lem = answer_by highest_alone holds tt

-- At context 1 stages 0 and 1 are open again, and only stage 1 leads on: p1 = 1. With the lowest stage alone: events 2.
pub lowest_alone_lem : Right (drawn_model lowest_alone) holds
unfolding bit
lowest_alone_lem = answer_by lowest_alone holds tt

-- "p(i+1) = pi + 1 for a one-step leg". The only way to σ1 takes two steps. Misread as a leg that stays: the goal holds.
pub one_step_stays_lem : Right (drawn_model one_step_stays) (events 2)
unfolding bit
one_step_stays_lem = answer_by one_step_stays (events 2) tt

-- .. and by a repeated leg it is fine
pub repeated_stays_lem : Right (drawn_model repeated_stays) holds
unfolding bit
repeated_stays_lem = answer_by repeated_stays holds tt

-- "p0 < p1": a repeated leg takes at least one step. The start is in σ0 and in σ1, and one step on is σ2. Misread as pi ≤ p(i+1):
-- the goal holds.
pub no_step_lem : Right (drawn_model no_step) (events 1)
unfolding bit
no_step_lem = answer_by no_step (events 1) tt

-- "all events from pi up to before p(i+1)": the second event is in no γ. Misread as the first and the last of a leg: the goal holds.
pub middle_event_lem : Right (drawn_model middle_event) (events 3)
unfolding bit
middle_event_lem = answer_by middle_event (events 3) tt

-- "with x(pi) in σi": leg 0 ends at context 1, and σ1 holds the start alone. Misread as events alone: the goal holds.
pub wrong_place_lem : Right (drawn_model wrong_place) (events 2)
unfolding bit
wrong_place_lem = answer_by wrong_place (events 2) tt

-- ---- paths: every way from 0 to 1 breaks events here, by event 7 where γ0 has 8 alone
pub bad_step : Right (drawn_model bad) (events 1)
unfolding bit
bad_step = answer_by bad (events 1) tt

-- "xm may be in σe". Misread as σe asked of xm: the goal holds.
pub exception_at_end : Right (drawn_model (except (only 1) [] bad)) (events 1)
unfolding bit
exception_at_end = answer_by (except (only 1) [] bad) (events 1) tt

-- "For every j < m, xj is not in σe": the start is asked where m > 0. Misread as 0 < j < m: events 1.
pub exception_at_start : Right (drawn_model (except (only 0) [] bad)) holds
unfolding bit
exception_at_start = answer_by (except (only 0) [] bad) holds tt

-- .. and where m = 0 it is xm. Misread as σe asked of x0: the goal holds.
pub exception_at_both : Right (drawn_model (except (only 0) [] one_leg)) (events 0)
unfolding bit
exception_at_both = answer_by (except (only 0) [] one_leg) (events 0) tt

-- "For every j < m, .. ej not in γe": the last event is e(m−1), and is asked. Misread as j < m − 1: events 1.
pub last_event : Right (drawn_model (except [] (only 7) bad)) holds
unfolding bit
last_event = answer_by (except [] (only 7) bad) holds tt

-- "xm is the first context in σn": a path does not go on from σn. Misread as xm in σn: events 2, by 0, 1, 2.
pub end_goes_on_lem : Right (drawn_model end_goes_on) holds
unfolding bit
end_goes_on_lem = answer_by end_goes_on holds tt

-- "x0 is in σ0 and meets ρ and μ". Misread with no ρ and μ: events 1.
pub start_unheld : Right (drawn_model (failing (only 0) bad)) holds
unfolding bit
start_unheld = answer_by (failing (only 0) bad) holds tt

-- .. which is asked of x0 alone. Misread as asked of every xj: the goal holds.
pub later_unheld : Right (drawn_model (failing (only 1) bad)) (events 1)
unfolding bit
later_unheld = answer_by (failing (only 1) bad) (events 1) tt

-- "their types, roles and users each from 1 to the policy's count": 1 is no context here. Misread with no ranges: events 1.
pub out_of_range_lem : Right (drawn_model out_of_range) holds
unfolding bit
out_of_range_lem = answer_by out_of_range holds tt

-- "with flow from xj to x(j+1)": a path may meet a context twice (decision D21). 0, 0, 1 takes two steps, and leg 0 is a one-step
-- leg. Misread as each context at most once: the goal holds.
pub met_twice_lem : Right (drawn_model met_twice) (events 2)
unfolding bit
met_twice_lem = answer_by met_twice (events 2) tt

-- ---- the answer
-- "so order on a tie": the path breaks both. Misread with events first: events 1.
pub order_on_a_tie : Right (drawn_model tie) (order 1)
unfolding bit
order_on_a_tie = answer_by tie (order 1) tt

-- "every other path that breaks it has at least as many" steps, whatever it breaks: 0, 1 breaks events, 2, 3, 4 order. Misread with
-- order first: order 2.
pub fewest_steps : Right (drawn_model fewest) (events 1)
unfolding bit
fewest_steps = answer_by fewest (events 1) tt

-- ---- stage sets: a step has one result (`advanced_one`), and here it is the one that the byte has, its arguments cut
in_byte : (s r e c n : ℕ) → n < 8 → Advanced s r e c n (stage_step 8 (s % 2 ^ 8) (r % 2 ^ 8) (e % 2 ^ 8) (c % 2 ^ 8) n)
in_byte s r e c n h = low_args h (step_law 8 (s % 2 ^ 8) (r % 2 ^ 8) (e % 2 ^ 8) (c % 2 ^ 8) n h)

-- "Bits above n count for nothing on entry to a step": leg 0 of six goes on and ends, whatever is set besides. Bit 6 is stage n, from
-- which no leg goes on (decision D37), and bit 7 the last that a byte has; misread as counting, they would end as bits 7 and 8.
pub bits_6_7 : Advanced (1 + 2 ^ 6 + 2 ^ 7) 63 (2 ^ 8 - 1) (2 ^ 9 - 1) 6 3
bits_6_7 = in_byte (1 + 2 ^ 6 + 2 ^ 7) 63 (2 ^ 8 - 1) (2 ^ 9 - 1) 6 (omega arith)

-- bit 8 is the first that a byte has not, and bit 31 the last of all
pub bit_8 : Advanced (1 + 2 ^ 8) 63 63 127 6 3
bit_8 = in_byte (1 + 2 ^ 8) 63 63 127 6 (omega arith)

pub bit_31 : Advanced (1 + 2 ^ 31) 63 63 127 6 3
bit_31 = in_byte (1 + 2 ^ 31) 63 63 127 6 (omega arith)

-- .. also those of the memberships: with all bits set in all four, stages 0 to 6 are possible, and no bit above
pub all_bits_lem : Advanced (2 ^ 32 - 1) (2 ^ 32 - 1) (2 ^ 32 - 1) (2 ^ 32 - 1) 6 127
all_bits_lem = in_byte (2 ^ 32 - 1) (2 ^ 32 - 1) (2 ^ 32 - 1) (2 ^ 32 - 1) 6 (omega arith)

-- the last leg of six ends in stage 6, and of seven, which no goal has, in stage 7
pub last_of_six : Advanced (2 ^ 5) 0 (2 ^ 5) (2 ^ 6) 6 (2 ^ 6)
last_of_six = in_byte (2 ^ 5) 0 (2 ^ 5) (2 ^ 6) 6 (omega arith)

pub last_of_seven : Advanced (2 ^ 6) 0 (2 ^ 6) (2 ^ 7) 7 (2 ^ 7)
last_of_seven = in_byte (2 ^ 6) 0 (2 ^ 6) (2 ^ 7) 7 (omega arith)

-- with eight legs bit 8 counts, which is why the step is asked of seven at the most (decision D96)
pub last_of_eight : Advanced (2 ^ 7) 0 (2 ^ 7) (2 ^ 8) 8 (2 ^ 8)
last_of_eight = step_law 32 (2 ^ 7) 0 (2 ^ 7) (2 ^ 8) 8 (omega arith)

-- ---- what stands behind the end of a path counts for nothing
-- "0 = p0 < p1 < .. < pn = m": 0, 1 ends in σ2 after one step, and two legs take two. Misread as pn ≥ m: events are followed by 0, 1, 2,
-- which goes on behind the end.
pub past_the_end_lem : BreaksEvents (drawn_model past_the_end) 1 (λ j. j) (λ j. 7 + j)
unfolding bit
past_the_end_lem = (events_verdict (drawn_model past_the_end) (λ j. j) (λ j. 7 + j) 1 tt).0 tt

-- a slice of no entry has no path, though what stands behind its end is 0, and 0, which is a context here, is a path of 0 steps
pub no_slice : Shows (IsPath (drawn_model one_leg)) 0 [] [] → ⊥
no_slice s = omega (arith, s.room)

pub no_slice_path : IsPath (drawn_model one_leg) 0 (contexts_in []) (events_in [])
no_slice_path =
    record {
      contexts = λ j h. tt;
      flows = λ j h. absurd (omega arith);
      starts = tt;
      meets = tt;
      arrives = tt;
      first = λ j h. absurd (omega arith);
      free = λ j h. absurd (omega arith);
      free_e = λ j h. absurd (omega arith);
    }
