-- "One policy from maker and board" (paper 02, c): its claims, of all images that are joined. What stands in quotes is the paper's.
-- proofs/Theorems.antt proves them.
use Rattle.std.specs.Prelude.{ℕ, ◌<◌, ◌≡◌, List}
use Rattle.base.specs.Bytes.{byte_at}
use Rattle.base.specs.Questions.{AllYes}
use Rattle.policy_image.specs.declared.counts.Counts.{Counts}
use Rattle.policy_image.specs.Layout.{counts_of}
use Rattle.policy_image.specs.Policy.{policy_of}
use Rattle.policy_check.specs.Questions.{policy_questions}
use Rattle.policy_lists.specs.Joined.{larger}
use Rattle.join.specs.Join.{joined_image, join_questions}
use Rattle.context.specs.declared.Context.{Context}
use Rattle.context.specs.declared.Event.{Event}
use Rattle.access.specs.Authorization.{authorized, flow}
use Rattle.join_laws.specs.Cases.Both.{TakenTogether, authorized_both, flow_both}

-- s, the maker's, and t, the board's, are bytes, and the call writes their result: for some length of the output each of its questions is
-- answered yes, 15 among them
pub record ImageJoined (s t : List ℕ) : Type 0 where
  pub maker : (i : ℕ) → byte_at s i < 256
  pub board : (i : ℕ) → byte_at t i < 256
  pub output : ℕ
  pub asked : AllYes (join_questions s t output)

-- the counts of the result, the maker's and the board's: "the larger of each pair"
pub record LargerOfEach (result maker board : Counts) : Type 0 where
  pub types : result.types ≡ larger maker.types board.types
  pub roles : result.roles ≡ larger maker.roles board.roles
  pub users : result.users ≡ larger maker.users board.users
  pub classes : result.classes ≡ larger maker.classes board.classes

pub record JoinClaims : Type 0 where
  -- the result passes the checks, so that every call takes it
  pub passes : (s t : List ℕ) → ImageJoined s t → AllYes (policy_questions (joined_image s t))
  -- "The result's counts are the larger of each pair."
  pub counts : (s t : List ℕ) → ImageJoined s t → LargerOfEach (counts_of (joined_image s t)) (counts_of s) (counts_of t)
  -- "Its relations are those of both record lists taken together: allows add, constraints all apply, and a type that either calls a domain is
  -- one."
  pub together : (s t : List ℕ) → ImageJoined s t → TakenTogether (policy_of (joined_image s t)) (policy_of s) (policy_of t)
  -- "Authorization in the result is judged on this joined list"
  pub authorizes : (s t : List ℕ) → ImageJoined s t → (e : Event) (x y : Context)
      → authorized (policy_of (joined_image s t)) e x y ≡ authorized_both (policy_of s) (policy_of t) e x y
  pub flows : (s t : List ℕ) → ImageJoined s t → (e : Event) (x y : Context)
      → flow (policy_of (joined_image s t)) e x y ≡ flow_both (policy_of s) (policy_of t) e x y
