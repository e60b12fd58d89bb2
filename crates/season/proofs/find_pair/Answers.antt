-- `season::find_pair` meets its contract: `SeasonLaws` says what each place where it stops tells. Assumes nothing.
use borrow.Author.Rules.{rules}
use Rattle.season.proofs.SeasonLaws.{order_room, no_order, no_timetable, within, pair_found}
use Rattle.season.proofs.find_pair.Goals as goal

pub returns-in_err-order : goal.returns-in_err-order
returns-in_err-order c = rw c.from_residual.ensures (no_order _ c.in_err-order.ensures)

pub slice_bounds-record_length-count : goal.slice_bounds-record_length-count
slice_bounds-record_length-count c = order_room _ _ c.in_ok-order.ensures

pub slice_bounds-record_length-start : goal.slice_bounds-record_length-start
slice_bounds-record_length-start c = order_room _ _ c.in_ok-order.ensures

pub returns-in_err-length : goal.returns-in_err-length
returns-in_err-length c = rw c.from_residual-in_err-length.ensures
    (no_timetable _ _ c.in_ok-order.ensures c.in_err-length.ensures)

pub overflow_add-result : goal.overflow_add-result
overflow_add-result c =
    let inside = within _ _ c.in_ok-order.ensures _ c.in_ok-length.ensures in
    search rules

pub returns : goal.returns
returns c = pair_found _ _ c.in_ok-order.ensures _ c.in_ok-length.ensures
