-- `moving::move_rack` meets its contract.
-- Assumes nothing.
use Prim.Native.Nat.{◌+◌}
use native.Mathlib.Omega.{arith}
use Rattle.moving.proofs.JourneyLaws.{move-bytes}
use Rattle.moving.proofs.move_rack.Goals as goal

pub put_listed-requires-clause-j_in_bounds : goal.put_listed-requires-clause-j_in_bounds
put_listed-requires-clause-j_in_bounds c =
    let room = c.requires.space.room in
    let bytes = move-bytes (c.args.state.now.written + 1) in
    omega arith
