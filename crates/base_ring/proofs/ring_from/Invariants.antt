-- `base_ring::ring_from` meets its contract. The invariant: j positions are laid, and zeros stand behind them.
-- Assumes nothing.
use Prim.Native.Nat.{ℕ, ◌-◌, ◌≤◌, ◌<◌}
use mathlib.Core.List.{List, ◌++◌}
use mathlib.Core.Path.{◌≡◌}
use native.Mathlib.Omega.{arith}
use lib.ListN.{replicate}
use Rattle.breakdown.specs.Part.{place_of}
use Rattle.breakdown.proofs.PlaceLaws.{place_of_in}
use Rattle.graph.specs.Rows.{row}
use Rattle.base_ring.specs.From.{round}
use Rattle.base_ring.proofs.ring_from.Given as goal

abbrev pub Laid : List ℕ → ℕ → ℕ → ℕ → List ℕ
Laid order size z j = round (row order) size z j ++ replicate (64 - j) 0

-- the place that was found is on the ring
pub on_ring : (order : List ℕ) (size x z : ℕ) → z ≡ place_of (row order) 0 size x → (0 < size) × (size ≤ 64) → z < size
on_ring order size x z is p = let y = place_of_in (row order) x 0 size p.0 in omega arith

abbrev pub invariant-loop-j : goal.invariant-loop-j
invariant-loop-j l = l.circle ≡ Laid l.order l.size l.z l.j
