-- `farthest::grown` meets its contract. The loop's invariant: the ball of each position before u is one move larger.
-- Assumes nothing.
use Prim.Native.Nat.{ℕ}
use mathlib.Core.List.{List}
use mathlib.Core.Logic.{◌↔◌}
use Rattle.sets.specs.Sets.{Has}
use Rattle.farthest.specs.Balls.{Grows}
use Rattle.farthest.proofs.BallLaws.{Filled}
use Rattle.farthest.proofs.grown.Given as goal

-- the ball of a position, one move larger
abbrev pub Ball : List ℕ → List ℕ → ℕ → ℕ → Type 0
Ball g l a s = (b : ℕ) → Has s b ↔ Grows g l a b

abbrev pub invariant-loop-u : goal.invariant-loop-u
invariant-loop-u l = Filled (Ball l.rows l.balls) l.u l.larger
