-- A plan's moves in stretches, so that a pass for a window leaves out those without a move of it. A book has a row of 128 numbers for each
-- stretch, the tables as they are before its first move, and one row more behind the last. For each stretch there is a due step: before it
-- the stretch has no move that is not yet written.
--
--     stretch_end k n i         how many of k moves the first i of n stretches have
--     before e s k n i         the moves before stretch i, of the k moves of the tail s in the edition e
--     stretch e s k n i        the moves of stretch i
--     RowIn b i P              row i of the book b has the tables of the pass P
--     after ms                 the pass over the moves ms
--     Begun d                  no stretch was passed yet
--     Kept e s k n first b d   what the book b and the due steps d of n stretches tell with the windows up to step `first` filled
--     PlanPassed e s k n first d r w b' d'    a pass over the plan for the window of the steps after step `first` gives the window w,
--                              the book b' and the due steps d', and the greatest step r, if no stretch was passed before
-- Assumes nothing.
use Rattle.std.specs.Prelude.{ℕ, zero, suc, ◌+◌, ◌-◌, ◌*◌, ◌/◌, ◌≤◌, ◌<◌, min, ◌≡◌, Bool, List, [], length, get_or, take, drop}
use Rattle.field.specs.Listed.{move_size, moves_at}
use Rattle.window.specs.Filling.{Pass, started, pass, empty_window, window_of, latest, Due}

-- stretches of k / n + 1 moves; the last ones may have fewer, or none
unfoldable pub stretch_end : ℕ → ℕ → ℕ → ℕ
stretch_end k n zero = 0
stretch_end k n (suc i) = min (stretch_end k n i + (k / n + 1)) k

unfoldable pub before : Bool → List ℕ → ℕ → ℕ → ℕ → List (ℕ × ℕ)
before e s k n i = moves_at e s 0 (stretch_end k n i)

unfoldable pub stretch : Bool → List ℕ → ℕ → ℕ → ℕ → List (ℕ × ℕ)
stretch e s k n i = moves_at e s (6 * (move_size e * stretch_end k n i)) (stretch_end k n (i + 1) - stretch_end k n i)

pub record RowIn (b : List (List ℕ)) (i : ℕ) (P : Pass) : Type 0 where
  pub arrivals : take 64 (get_or b i []) ≡ P.arrived
  pub leavings : drop 64 (get_or b i []) ≡ P.left

unfoldable pub after : List (ℕ × ℕ) → Pass
after ms = pass 0 (started empty_window) ms

pub record Begun (d : List ℕ) : Type 0 where
  pub none : (i : ℕ) → get_or d i 0 ≡ 0

pub record Kept (e : Bool) (s : List ℕ) (k n first : ℕ) (b : List (List ℕ)) (d : List ℕ) : Type 0 where
  pub rows : length b ≡ n + 1
  pub stretches : length d ≡ n
  pub start : RowIn b 0 (after [])
  -- a stretch that was passed left the next one's row
  pub next : (i : ℕ) → i < n → 0 < get_or d i 0 → RowIn b (i + 1) (after (before e s k n (i + 1)))
  pub due : (i : ℕ) → i < n
      → Due first (get_or d i 0) (after (before e s k n i)).arrived (after (before e s k n i)).left (stretch e s k n i)

pub record PlanPassed (e : Bool) (s : List ℕ) (k n first : ℕ) (d : List ℕ) (r : ℕ) (w : List ℕ) (b' : List (List ℕ))
    (d' : List ℕ) : Type 0 where
  pub window_is : w ≡ window_of (moves_at e s 0 k) first
  pub at_most : r ≤ latest (moves_at e s 0 k)
  pub at_first : Begun d → r ≡ latest (moves_at e s 0 k)
  pub kept : Kept e s k n (first + 4096) b' d'
