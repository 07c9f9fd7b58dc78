use Rattle.plan.proofs.SetLaws.{own_few, pair_few, pair_names, sets_few, sets_all}
use native.Mathlib.Omega.{arith}
use Rattle.plan.proofs.sets.sets_at.Goals as goal

pub first_place-requires : goal.first_place-requires
first_place-requires c = (c.requires.0.countable, c.requires.3.type.low, omega (arith, c.requires.3.type.high))

pub overflow_sub-i : goal.overflow_sub-i
overflow_sub-i c = omega (arith, c.first_place.ensures, c.requires.3.low)

pub overflow_add-sets : goal.overflow_add-sets
overflow_add-sets c = omega (arith, own_few c.requires.0 c.requires.3 c.first_place.ensures)

pub offset_bounds-plan-own : goal.offset_bounds-plan-own
offset_bounds-plan-own c = omega (arith, own_few c.requires.0 c.requires.3 c.first_place.ensures)

pub bounds-plan-own : goal.bounds-plan-own
bounds-plan-own c = omega (arith, own_few c.requires.0 c.requires.3 c.first_place.ensures, c.requires.2)

pub overflow_add-sets-2 : goal.overflow_add-sets-2
overflow_add-sets-2 c = omega (arith, pair_few c.requires.0 c.requires.3 c.first_place.ensures)

pub offset_bounds-plan-pair : goal.offset_bounds-plan-pair
offset_bounds-plan-pair c = omega (arith, pair_few c.requires.0 c.requires.3 c.first_place.ensures)

pub bounds-plan-pair : goal.bounds-plan-pair
bounds-plan-pair c = omega (arith, pair_few c.requires.0 c.requires.3 c.first_place.ensures, c.requires.2)

pub overflow_add-own : goal.overflow_add-own
overflow_add-own c = omega (arith, own_few c.requires.0 c.requires.3 c.first_place.ensures)

pub offset_bounds-plan-own-2 : goal.offset_bounds-plan-own-2
offset_bounds-plan-own-2 c = omega (arith, own_few c.requires.0 c.requires.3 c.first_place.ensures)

pub bounds-plan-own-2 : goal.bounds-plan-own-2
bounds-plan-own-2 c = omega (arith, own_few c.requires.0 c.requires.3 c.first_place.ensures, c.requires.2)

pub returns-then-plan-own-eq0 : goal.returns-then-plan-own-eq0
returns-then-plan-own-eq0 c =
    sets_few c.requires.0 c.requires.3 c.first_place.ensures c.requires.1 c.if-plan-own-eq0.true

pub nonzero_div-i : goal.nonzero_div-i
nonzero_div-i c = omega (arith, c.requires.0.countable.users)

pub overflow_add-i : goal.overflow_add-i
overflow_add-i c =
    omega (arith, (pair_names c.requires.0 c.requires.3 c.first_place.ensures).0)

pub nonzero_rem-i : goal.nonzero_rem-i
nonzero_rem-i c = omega (arith, c.requires.0.countable.users)

pub overflow_add-i-2 : goal.overflow_add-i-2
overflow_add-i-2 c =
    omega (arith, (pair_names c.requires.0 c.requires.3 c.first_place.ensures).1)

pub named_sets-requires : goal.named_sets-requires
named_sets-requires c =
    rw c.new-x.ensures (c.requires.1, c.requires.2, own_few c.requires.0 c.requires.3 c.first_place.ensures)

pub returns : goal.returns
returns c =
    sets_all c.requires.0 c.requires.3 c.first_place.ensures _ c.new-x.ensures c.named_sets.ensures
