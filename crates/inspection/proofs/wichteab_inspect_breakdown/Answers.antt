-- `inspection::wichteab_inspect_breakdown` meets its contract: `ShownLaws` has what each answer shows. Assumes nothing.
use mathlib.Core.Path.{refl}
use native.Mathlib.Omega.{arith}
use Rattle.tables.proofs.AcceptedLaws.{order_accepted}
use Rattle.floor.proofs.FloorRows.{filled_rows}
use Rattle.inspection.proofs.ShownLaws.{short, order_refused, not_found, small, found}
use Rattle.inspection.proofs.wichteab_inspect_breakdown.Goals as goal

pub returns-then-buffer-lt256 : goal.returns-then-buffer-lt256
returns-then-buffer-lt256 c = short _ _ c.if-buffer-lt256.true

pub returns-in_default : goal.returns-in_default
returns-in_default c =
    order_refused _ _ _ _ c.in_default.ensures.result_value

pub break_down-requires : goal.break_down-requires
break_down-requires c =
    filled_rows (order_accepted c.in-Ok.ensures.result_value) c.in-Ok.ensures.rows_after

pub returns-in_default-break_down : goal.returns-in_default-break_down
returns-in_default-break_down c =
    not_found (order_accepted c.in-Ok.ensures.result_value) c.in-Ok.ensures.rows_after
    c.in_default-break_down.ensures _ refl

pub lay_out-requires : goal.lay_out-requires
lay_out-requires c =
    let order = order_accepted c.in-Ok.ensures.result_value in
    let some = c.in-Some.ensures.0 in
    let fits = small order c.in-Ok.ensures.rows_after c.in-Some.ensures.1 some in
    let long = c.if-buffer-lt256.false in
    (omega arith, omega arith)

pub overflow_mul-result : goal.overflow_mul-result
overflow_mul-result c =
    let order = order_accepted c.in-Ok.ensures.result_value in
    let some = c.in-Some.ensures.0 in
    let fits = small order c.in-Ok.ensures.rows_after c.in-Some.ensures.1 some in
    omega arith

pub overflow_add-result : goal.overflow_add-result
overflow_add-result c =
    let order = order_accepted c.in-Ok.ensures.result_value in
    let some = c.in-Some.ensures.0 in
    let fits = small order c.in-Ok.ensures.rows_after c.in-Some.ensures.1 some in
    omega arith

pub returns : goal.returns
returns c =
    let order = order_accepted c.in-Ok.ensures.result_value in
    let some = c.in-Some.ensures.0 in
    found order c.in-Ok.ensures.rows_after c.in-Some.ensures.1 some _ _ c.if-buffer-lt256.false c.lay_out.ensures
