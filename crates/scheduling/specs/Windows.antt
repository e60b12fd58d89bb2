-- The steps of a plan, window by window, as the maker writes them.
--
--     rows_of s first         how many of s steps the window of the 4096 steps after step `first` has
--     window_steps ms first   the steps of that window, made of the moves ms
--     windows ms n           the steps of the first n windows
--     all_steps ms            the steps of all windows
--     Counted ms d s n       after n windows s is the number of steps, and before the first one, where no due step of d is known yet, 1
-- Assumes nothing.
use Rattle.std.specs.Prelude.{ℕ, zero, suc, ◌+◌, ◌-◌, ◌*◌, ◌/◌, ◌<◌, min, ◌≡◌, List, [], ◌++◌}
use Rattle.window.specs.Rows.{rows}
use Rattle.window.specs.Filling.{window_of, latest}
use Rattle.passing.specs.Stretches.{Begun}

unfoldable pub rows_of : ℕ → ℕ → ℕ
rows_of s first = min (s - first) 4096

unfoldable pub window_steps : List (ℕ × ℕ) → ℕ → List (List (ℕ × ℕ))
window_steps ms first = rows (window_of ms first) 0 (rows_of (latest ms) first)

unfoldable pub windows : List (ℕ × ℕ) → ℕ → List (List (ℕ × ℕ))
windows ms zero = []
windows ms (suc n) = windows ms n ++ window_steps ms (4096 * n)

unfoldable pub all_steps : List (ℕ × ℕ) → List (List (ℕ × ℕ))
all_steps ms = windows ms (latest ms / 4096 + 1)

pub record Counted (ms : List (ℕ × ℕ)) (d : List ℕ) (s n : ℕ) : Type 0 where
  pub at_first : n ≡ 0 → (s ≡ 1) × Begun d
  pub later : 0 < n → s ≡ latest ms
