-- Question 14 of a policy (paper 02, b): the sources of its allow records. "Boards write allow rules whose source is a file type and then
-- wonder why they do nothing. Refuse such a policy."
use Rattle.std.specs.Prelude.{ℕ, ◌≡◌, Bool, true, eqb}
use Rattle.policy_image.specs.Policy.{Policy}
use Rattle.policy_image.specs.OfKind.{some, every}

-- "1: type a is a domain (a process type)." (paper 01)
unfoldable pub domain : Policy → ℕ → Bool
domain p t = some p 1 (λ r. eqb r.a t)

-- Question 14: "Number 14 marks an allow record whose source is no domain": the source of every allow record is one, whatever its target
-- and its mask are, and wherever the record stands that says so
abbrev pub AllowsFromDomains : Policy → Type 0
AllowsFromDomains p = every p 4 (λ r. domain p r.a) ≡ true
