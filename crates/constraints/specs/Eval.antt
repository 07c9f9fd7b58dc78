-- The value of an expression node (paper 01, kind 9). "Suffix 1 is the process's context, 2 the resource's": x is the
-- context that acts, y the one that is acted on.
use Rattle.std.specs.Prelude.{ℕ, zero, suc, Bool, false, not, ◌&&◌, ◌||◌, List, [], ◌∷◌, eqb, get_or}
use Rattle.policy_image.specs.Layout.{left_of, right_of}
use Rattle.policy_image.specs.Policy.{Policy}
use Rattle.context.specs.declared.Context.{Context}

-- a value, from the values of other nodes, the process's context and the resource's
abbrev pub Value : Type 0
Value = (ℕ → Bool) → Context → Context → Bool

abbrev pub never : Value
never v x y = false

-- by the operator, 0 being none: b is the number compared with, l and r are the children
abbrev pub operators : ℕ → ℕ → ℕ → List Value
operators b l r =
    never
    -- 1 not, 2 and, 3 or
    ∷ (λ v x y. not (v l))
    ∷ (λ v x y. v l && v r)
    ∷ (λ v x y. v l || v r)
    -- 4 same type, 5 same role, 6 same user
    ∷ (λ v x y. eqb x.ty y.ty)
    ∷ (λ v x y. eqb x.role y.role)
    ∷ (λ v x y. eqb x.user y.user)
    -- 7 t1 = b, 8 t2 = b, 9 r1 = b, 10 r2 = b, 11 u1 = b, 12 u2 = b
    ∷ (λ v x y. eqb x.ty b)
    ∷ (λ v x y. eqb y.ty b)
    ∷ (λ v x y. eqb x.role b)
    ∷ (λ v x y. eqb y.role b)
    ∷ (λ v x y. eqb x.user b)
    ∷ (λ v x y. eqb y.user b)
    ∷ []

abbrev pub value_of : ℕ → ℕ → ℕ → ℕ → Value
value_of op b l r = get_or (operators b l r) op never

-- node n's value, by at most so many steps down
unfoldable pub eval_at : Policy → Context → Context → ℕ → ℕ → Bool
eval_at p x y zero n = false
eval_at p x y (suc f) n = value_of (p.rec n).a (p.rec n).b (left_of (p.rec n)) (right_of (p.rec n)) (λ m. eval_at p x y f m) x y

-- "left and right stand at lower numbers than the node", so n steps are enough: the law `eval_step` of proofs/EvalLaws.antt
-- gives each operator's equation for every accepted policy, with no steps counted
unfoldable pub eval_node : Policy → Context → Context → ℕ → Bool
eval_node p x y n = eval_at p x y n n
