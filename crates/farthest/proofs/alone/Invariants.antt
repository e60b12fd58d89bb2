-- `farthest::alone` meets its contract. The loop's invariant: the ball of each position before u is the position alone.
-- Assumes nothing.
use Prim.Native.Nat.{ℕ}
use mathlib.Core.Path.{◌≡◌}
use mathlib.Core.Logic.{◌↔◌}
use Rattle.sets.specs.Sets.{Has}
use Rattle.farthest.proofs.BallLaws.{Filled}
use Rattle.farthest.proofs.alone.Given as goal

-- the position alone
abbrev pub Lone : ℕ → ℕ → Type 0
Lone a s = (b : ℕ) → Has s b ↔ (b ≡ a)

abbrev pub invariant-loop-u : goal.invariant-loop-u
invariant-loop-u l = Filled Lone l.u l.balls
