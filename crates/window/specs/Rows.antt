-- A window of steps as a table: a row of 64 entries for each step, the entry of a position the position that the move from there enters,
-- plus 1, or 0 where no move of the step leaves it. Rows read off in order of position ascend by position left.
--
--     row_from t i p k        the moves of the k entries of row i from position p on
--     row_moves t i           the moves of row i
--     rows t i k             the moves of the k rows from row i on
--     EntriesFit t           every entry is a position, plus 1, or 0
--     Left t m               m has for each row the set of the positions that its moves leave
--     KeepsLeft t m t' m'    where that holds of t and m, it holds of t' and m'
--     step_bytes ms           a step of the timetable record, as bytes
--     steps_bytes l           steps of the timetable record, one after another
-- Assumes nothing.
use Rattle.std.specs.Prelude.{ℕ, zero, suc, ◌+◌, ◌-◌, ◌*◌, ◌≤◌, ◌<◌, cond, List, [], ◌∷◌, ◌++◌, ◌↔◌, ◌≢◌, ◌≡◌, length, get_or, eqb}
use Rattle.field.specs.Packing.{pack}
use Rattle.sets.specs.Sets.{Has}

unfoldable pub row_from : List ℕ → ℕ → ℕ → ℕ → List (ℕ × ℕ)
row_from t i p zero = []
row_from t i p (suc k) =
    let rest = row_from t i (p + 1) k in
    cond (eqb (get_or t (i * 64 + p) 0) 0) rest ((p, get_or t (i * 64 + p) 0 - 1) ∷ rest)

unfoldable pub row_moves : List ℕ → ℕ → List (ℕ × ℕ)
row_moves t i = row_from t i 0 64

unfoldable pub rows : List ℕ → ℕ → ℕ → List (List (ℕ × ℕ))
rows t i zero = []
rows t i (suc k) = row_moves t i ∷ rows t (i + 1) k

unfoldable pub step_bytes : List (ℕ × ℕ) → List ℕ
step_bytes ms = length ms ∷ pack ms

unfoldable pub steps_bytes : List (List (ℕ × ℕ)) → List ℕ
steps_bytes [] = []
steps_bytes (ms ∷ l) = step_bytes ms ++ steps_bytes l

-- every entry of the window is a position below 64, plus 1
pub record EntriesFit (t : List ℕ) : Type 0 where
  pub at_most : (i : ℕ) → get_or t i 0 ≤ 64

-- so that a row's moves are found without looking at the entries in between
pub record Left (t m : List ℕ) : Type 0 where
  pub entries : length t ≡ 262144
  pub sets : length m ≡ 4096
  pub has : (i p : ℕ) → i < 4096 → Has (get_or m i 0) p ↔ ((p < 64) × (get_or t (i * 64 + p) 0 ≢ 0))

abbrev pub KeepsLeft : List ℕ → List ℕ → List ℕ → List ℕ → Type 0
KeepsLeft t m t' m' = Left t m → Left t' m'
