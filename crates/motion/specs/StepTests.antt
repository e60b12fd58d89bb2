-- What the tests of `Arrangement`, `Move` and `Step` say, as plain statements. proofs/StepTestsLaws.antt has an equivalence for each.
--
--     Ascends ms        of two moves, the one listed first leaves the lower position
--     EnteredOnce ms    two moves, at different places, enter different positions
--     OnFloor F m       both positions are below n and an edge joins them
-- Assumes nothing.
use Rattle.std.specs.Prelude.{ℕ, ◌<◌, ◌≢◌, T}
use mathlib.Core.List.{List, Pairwise}
use Rattle.order.specs.Floor.{Floor, joined}

-- "its moves ascend strictly by position left"
abbrev pub Ascends : List (ℕ × ℕ) → Type 0
Ascends ms = Pairwise (λ (m m' : ℕ × ℕ). m.0 < m'.0) ms

-- "no position is entered twice"
abbrev pub EnteredOnce : List (ℕ × ℕ) → Type 0
EnteredOnce ms = Pairwise (λ (m m' : ℕ × ℕ). m.1 ≢ m'.1) ms

-- "both positions are below n, an edge joins them"
pub record OnFloor (F : Floor) (m : ℕ × ℕ) : Type 0 where
  pub left_below : m.0 < F.positions
  pub entered_below : m.1 < F.positions
  pub edge : T (joined F m.0 m.1)
