-- `comparing::improves` meets its contract: `Improving` has each answer from what was read of the two records. Assumes nothing.
use Prim.Native.Nat.{◌<◌}
use mathlib.Core.Path.{sym, ◌∙◌}
use native.Mathlib.Omega.{arith}
use Rattle.comparing.proofs.Improving.{positions_below, cubes, not_so, not_counted, steps_told, heads_there}
use Rattle.comparing.proofs.Improving.{no_plan, edition_one, too_long, decided}
use Rattle.plan.specs.Plan.{move_count}
use Rattle.comparing.proofs.improves.Goals as goal

pub returns-in_default : goal.returns-in_default
returns-in_default c = not_so (λ i. not_counted c.args.order.now c.args.proved.now _ _ _ c.requires c.in_default.ensures)

pub returns-in_default-count_steps : goal.returns-in_default-count_steps
returns-in_default-count_steps c =
    not_so (no_plan c.args.order.now c.args.proved.now c.args.found.now _ _ c.in_default-count_steps.ensures)

pub names_racks-requires : goal.names_racks-requires
names_racks-requires c = (heads_there c.args.order.now _ _ (steps_told _ _ _ c.in-Ok-count_steps.ensures).1).0

pub returns-then-not-names_racks : goal.returns-then-not-names_racks
returns-then-not-names_racks c =
    not_so (edition_one c.args.order.now c.args.proved.now c.args.found.now (sym c.names_racks.ensures ∙ c.if-not-names_racks.true))

pub counts_of-n-requires : goal.counts_of-n-requires
counts_of-n-requires c = (heads_there _ c.args.found.now _ (steps_told _ _ _ c.in-Ok-count_steps.ensures).1).1

pub count_at_head-moves-requires : goal.count_at_head-moves-requires
count_at_head-moves-requires c = (heads_there c.args.order.now _ _ (steps_told _ _ _ c.in-Ok-count_steps.ensures).1).0

pub overflow_mul-n : goal.overflow_mul-n
overflow_mul-n c =
    let small : c.counts_of-n.result.positions < 128 = omega (
      arith,
      c.counts_of-n.ensures.positions_are,
      positions_below
          c.args.order.now,
    ) in
    omega (arith, cubes _ small)

pub overflow_mul-n-2 : goal.overflow_mul-n-2
overflow_mul-n-2 c =
    let small : c.counts_of-n.result.positions < 128 = omega (
      arith,
      c.counts_of-n.ensures.positions_are,
      positions_below
          c.args.order.now,
    ) in
    omega (arith, cubes _ small)

pub overflow_mul-n-3 : goal.overflow_mul-n-3
overflow_mul-n-3 c =
    let small : c.counts_of-n.result.positions < 128 = omega (
      arith,
      c.counts_of-n.ensures.positions_are,
      positions_below
          c.args.order.now,
    ) in
    omega (arith, cubes _ small)

pub returns-then-n-moves : goal.returns-then-n-moves
unfolding move_count
returns-then-n-moves c =
    not_so (too_long c.args.order.now c.args.proved.now c.args.found.now c.counts_of-n.result.positions _
    c.counts_of-n.ensures.positions_are c.count_at_head-moves.ensures c.if-n-moves.true)

pub count_at_head-requires : goal.count_at_head-requires
count_at_head-requires c = (heads_there c.args.order.now c.args.proved.now _ c.requires).0

pub returns : goal.returns
unfolding move_count
returns c =
    let proved = steps_told _ _ _ c.in-Ok.ensures in
    let found = steps_told _ _ _ c.in-Ok-count_steps.ensures in
    decided c.args.order.now c.args.proved.now c.args.found.now c.counts_of-n.result.positions _ c.counts_of-n.ensures.positions_are
    c.count_at_head-moves.ensures _ _ proved.0 found.0 found.1 (sym c.names_racks.ensures ∙ c.if-not-names_racks.false)
    c.if-n-moves.false _ c.count_at_head.ensures c.lt.ensures
