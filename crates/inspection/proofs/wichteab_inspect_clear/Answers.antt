-- `inspection::wichteab_inspect_clear` meets its contract: `ClearedLaws` has what each answer shows. Assumes nothing.
use mathlib.Core.Path.{sym}
use native.Mathlib.Omega.{arith}
use Rattle.inspection.specs.Clear.ClearLeft.{nothing}
use Rattle.inspection.proofs.ClearedLaws.{number_short, number_refused, decoded, rows_right, room_right, off_floor, number_none}
use Rattle.inspection.proofs.ClearedLaws.{told_no_way, told-moves, shown}
use Rattle.inspection.proofs.wichteab_inspect_clear.Goals as goal

pub returns-then-buffer-lt64 : goal.returns-then-buffer-lt64
returns-then-buffer-lt64 c =
    let none = number_short c.args.order.now c.args.held c.args.position _ c.if-buffer-lt64.true in
    record {
      value = sym none;
      clear_left = nothing none;
    }

pub returns-in_default : goal.returns-in_default
returns-in_default c =
    let none = number_refused c.args.order.now c.args.held c.args.position _ c.if-buffer-lt64.false _ _
    (sym c.in_default.ensures.result_value) in
    record {
      value = sym none;
      clear_left = nothing none;
    }

pub returns-then-position-ge64 : goal.returns-then-position-ge64
returns-then-position-ge64 c =
    let order = decoded c.in-Ok.ensures.result_value c.in-Ok.ensures.rows_after c.in-Ok.ensures.starts_after in
    let far = off_floor order c.args.held c.args.position c.if-position-ge64.true in
    let none = number_none order c.args.held c.args.position _ c.if-buffer-lt64.false far in
    record {
      value = sym none;
      clear_left = nothing none;
    }

pub clear-clearing-requires : goal.clear-clearing-requires
clear-clearing-requires c =
    let order = decoded c.in-Ok.ensures.result_value c.in-Ok.ensures.rows_after c.in-Ok.ensures.starts_after in
    record {
      rows = rows_right order;
      p_bound = c.if-position-ge64.false;
      room_to_clear = room_right order c.args.held c.args.position;
    }

pub returns-in_default-moves : goal.returns-in_default-moves
returns-in_default-moves c =
    let order = decoded c.in-Ok.ensures.result_value c.in-Ok.ensures.rows_after c.in-Ok.ensures.starts_after in
    let none = told_no_way order c.args.held c.args.position c.args.buffer.now c.if-buffer-lt64.false c.clear-clearing.ensures
    c.in_default-moves.is in
    record {
      value = sym none;
      clear_left = nothing none;
    }

pub copy_row-requires : goal.copy_row-requires
copy_row-requires c =
    let long = c.if-buffer-lt64.false in
    omega arith

pub overflow_add-result : goal.overflow_add-result
overflow_add-result c =
    let order = decoded c.in-Ok.ensures.result_value c.in-Ok.ensures.rows_after c.in-Ok.ensures.starts_after in
    let told = told-moves order c.args.held c.args.position c.args.buffer.now c.if-buffer-lt64.false c.clear-clearing.ensures
    c.in-Some.is in
    let few = told.1 in
    omega arith

pub returns : goal.returns
returns c =
    let order = decoded c.in-Ok.ensures.result_value c.in-Ok.ensures.rows_after c.in-Ok.ensures.starts_after in
    let told = told-moves order c.args.held c.args.position c.args.buffer.now c.if-buffer-lt64.false c.clear-clearing.ensures
    c.in-Some.is in
    record {
      value = sym told.0;
      clear_left = shown order c.args.held c.args.position c.args.buffer.now c.if-buffer-lt64.false c.clear-clearing.ensures
          c.in-Some.is c.copy_row.ensures;
    }
