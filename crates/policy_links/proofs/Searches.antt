-- `any` and `all` over the records of a kind, where the closure computes a test of a record.
use mathlib.Core.Bool.{Bool, true, false}
use mathlib.Core.List.{List, [], ◌∷◌}
use mathlib.Core.Path.{◌≡◌, refl, sym, ap, subst, ◌∙◌}
use denote.Param.Members.{Mut}
use Rattle.base.specs.Inner.Decides.{Decides}
use Prim.Native.Nat.{ℕ}
use Rattle.std.specs.Prelude.{None, Some}
use Rattle.std.specs.Fn.{Called}
use Rattle.std.specs.Iterator.{Yields, ChecksAll, ChecksAny}
use Rattle.std.specs.List.{FoldsTo}
use Rattle.policy_image.specs.declared.records.Record.{Record}
use Rattle.policy_image.specs.declared.kinds.Kind.{Kind}
use Rattle.policy_image.specs.Inner.Kinds.{kind_number}
use Rattle.policy_image.specs.Layout.{policy_head, record_of}
use Rattle.policy_image.specs.Policy.{policy_of}
use Rattle.policy_image.specs.OfKind.{some, every}
use Rattle.policy_links.specs.Chains.{LinksRise, ChainsByKind}
use Rattle.policy_links.specs.declared.records.Records.{Records}
use Rattle.policy_links.specs.Inner.Walking.{GivesRecord, GivesNext}
use Rattle.policy_links.proofs.KindLaws.{some_yes, some_no, every_yes, every_no}
use Rattle.policy_links.proofs.Walking.{Along, given_is, along_start, along_step, along_kind, along_end}

module _ (s : List ℕ) (L : LinksRise (policy_of s)) (C : ChainsByKind (policy_of s)) (k : Kind) (t : Record → Bool) where
  -- the records that have been given pass the test with this answer
  abbrev Answered : Bool → Records → Type 0
  Answered b = Along s k (λ j. t (record_of s j) ≡ b)

  module _ {F : Type 0} (g : Mut F (Record × Unit {0}) Bool) (f : F) (acts : (x : Record) (b : Bool) (q : F) → Called g f (x, tt) b q → (q ≡ f) × (b ≡ t x)) where
    along_answers : (b : Bool) (xs : List Record) (it it' : Records) (p q : F) → Answered b it → Yields GivesRecord it xs it' → p ≡ f
        → FoldsTo (λ p x q. Called g p (x, tt) b q) p xs q → Answered b it' × (q ≡ f)
    along_answers b [] it it' p q a y e z = (subst (Answered b) y a, sym z ∙ e)
    along_answers b (x ∷ xs) it it' p q a y e z =
        let w = acts x b z.0 (subst (λ (h : F). Called g h (x, tt) b z.0) e z.1) in
        along_answers b xs y.0 it' z.0 q (along_step s L k _ a y.1 (ap t (sym (given_is s a.image y.1)) ∙ sym w.1)) y.2 w.0 z.2

    module _ (it : Records) (e : (it.image.now ≡ s) × (it.next ≡ policy_head s (kind_number k))) (r : Bool) (u : Records) where
      start : (b : Bool) → Answered b it
      start b = along_start s L k _ e

      -- the item at which the calls stopped, where they had given b, is answered with b'
      stopped : (b b' : Bool) (v : Records) (x : Record) (q : F) → Answered b v → GivesNext v x u → q ≡ f → ((h : F) × Called g q (x, tt) b' h)
          → t (record_of s v.next) ≡ b'
      stopped b b' v x q a n e c =
          ap t (sym (given_is s a.image n)) ∙ sym (acts x b' c.0 (subst (λ (h : F). Called g h (x, tt) b' c.0) e c.1)).1

      pub all_every : ChecksAll GivesRecord g it f r u → r ≡ every (policy_of s) (kind_number k) t
      all_every (xs, None, q, (v, ys, n), z, e) =
          let a = along_answers true xs it v f q (start true) ys refl z in
          e ∙ sym (every_yes (policy_of s) (kind_number k) t (along_end s L k _ C a.0 n))
      all_every (xs, Some x, q, (v, ys, n), z, e) =
          let a = along_answers true xs it v f q (start true) ys refl z in
          e.0 ∙ sym (every_no (policy_of s) (kind_number k) t v.next (along_kind s L k _ a.0 n C) (stopped true false v x q a.0 n a.1 e.1))

      pub any_some : ChecksAny GivesRecord g it f r u → r ≡ some (policy_of s) (kind_number k) t
      any_some (xs, None, q, (v, ys, n), z, e) =
          let a = along_answers false xs it v f q (start false) ys refl z in
          e ∙ sym (some_no (policy_of s) (kind_number k) t (along_end s L k _ C a.0 n))
      any_some (xs, Some x, q, (v, ys, n), z, e) =
          let a = along_answers false xs it v f q (start false) ys refl z in
          e.0 ∙ sym (some_yes (policy_of s) (kind_number k) t v.next (along_kind s L k _ a.0 n C) (stopped false true v x q a.0 n a.1 e.1))

-- an answer that is a test's decides that the test is true
pub decides_test : {r t : Bool} → r ≡ t → Decides r (t ≡ true)
decides_test {r} {t} e = subst (λ (b : Bool). Decides b (t ≡ true)) (sym e) (at t)
  where
    at : (t : Bool) → Decides t (t ≡ true)
    at true = refl
    at false = λ h. cc
