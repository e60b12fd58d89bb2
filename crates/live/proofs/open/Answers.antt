-- `live::open` meets its contract: what every call begins with, and each rack at its start. Assumes nothing.
use mathlib.Core.Path.{◌≡◌}
use native.Mathlib.Omega.{arith}
use lib.Dec.{leb}
use borrow.Author.Rules.{rules}
use Rattle.live.specs.Roles.{opening, role_number}
use Rattle.live.proofs.Gate.{gate_told, order_let_in, turned_away}
use Rattle.stepping.proofs.Lending.{order_head_lem, order_gives}
use Rattle.live.proofs.Driving.{opened}
use Rattle.live.proofs.open.Goals as goal

pub returns-in_err-admit : goal.returns-in_err-admit
returns-in_err-admit c =
    let may : c.ge.result ≡ leb 1 (role_number c.args.role) = search rules in
    let all = turned_away opening c.args.role _ _ _ _ _ c.from_residual.ensures.1 (rw may at c.in_err-admit.ensures) in
    record { answer = all.0; picture = all.1 }

pub counts_of-counts-requires : goal.counts_of-counts-requires
counts_of-counts-requires c = order_head_lem _ (order_let_in _ _ _ c.in_ok-admit.ensures)

pub slice_bounds-place_racks-count : goal.slice_bounds-place_racks-count
slice_bounds-place_racks-count c = order_head_lem _ (order_let_in _ _ _ c.in_ok-admit.ensures)

pub slice_bounds-place_racks-start : goal.slice_bounds-place_racks-start
slice_bounds-place_racks-start c = order_head_lem _ (order_let_in _ _ _ c.in_ok-admit.ensures)

pub overflow_mul-counts : goal.overflow_mul-counts
overflow_mul-counts c =
    let g = order_gives _ (order_let_in _ _ _ c.in_ok-admit.ensures) _ _ _ c.counts_of-counts.ensures in
    omega (arith, g.few_edges)

pub place_racks-requires : goal.place_racks-requires
place_racks-requires c =
    let g = order_gives _ (order_let_in _ _ _ c.in_ok-admit.ensures) _ _ _ c.counts_of-counts.ensures in
    (g.few_racks, omega (arith, g.room))

pub overflow_cast-floor : goal.overflow_cast-floor
overflow_cast-floor c =
    let g = order_gives _ (order_let_in _ _ _ c.in_ok-admit.ensures) _ _ _ c.counts_of-counts.ensures in
    omega (arith, g.placed_well.few_positions, g.positions_are)

pub returns : goal.returns
returns c =
    let may : c.ge.result ≡ leb 1 (role_number c.args.role) = search rules in
    let g = order_gives _ (order_let_in _ _ _ c.in_ok-admit.ensures) _ _ _ c.counts_of-counts.ensures in
    let all = opened c.args.role c.args.floor.now _ _ (gate_told _ _ _ _ (rw may at c.in_ok-admit.ensures)) _ _ _ g _
    c.place_racks.ensures in
    record { answer = all.0; picture = all.1 }
