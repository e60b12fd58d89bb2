-- `ring::places` meets its contract. The invariant: the racks at the places passed have these. Assumes nothing.
use Prim.Native.Nat.{ℕ, ◌<◌}
use mathlib.Core.Path.{◌≡◌}
use lib.ListN.{length}
use Rattle.graph.specs.Rows.{row}
use Rattle.ring.proofs.StandingLaws.{Placing}
use Rattle.ring.proofs.places.Given as goal

abbrev pub invariant-loop-i : goal.invariant-loop-i
invariant-loop-i l =
    (length l.place ≡ 64) × ((q : ℕ) → row l.place q < l.n) × Placing (row l.circle) (row l.racks) (row l.place) l.i
