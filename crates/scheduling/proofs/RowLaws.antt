-- Laws of rows read one after another, and of the bytes of steps.
--
--     rows_split, rows_next      the first k rows and those behind them, or the one behind them
--     steps_bytes_append          the bytes of steps and of the steps behind them
-- Assumes nothing.
use Prim.Native.Nat.{ℕ, zero, suc, ◌+◌}
use mathlib.Core.Path.{◌≡◌, refl, sym, ◌∙◌}
use mathlib.Core.List.{List, [], ◌∷◌, ◌++◌, append_assoc}
use native.Mathlib.Omega.{arith}
use native.Mathlib.Nat.{add-zero, zero-add}
use Rattle.window.specs.Rows.{row_moves, rows, step_bytes, steps_bytes}

pub rows_split : (t : List ℕ) (i k l : ℕ) → rows t i (k + l) ≡ rows t i k ++ rows t (i + k) l
unfolding rows
rows_split t i zero l =
    let none : 0 + l ≡ l = zero-add l in
    let here : i + 0 ≡ i = add-zero i in
    rw (none, here) refl
rows_split t i (suc k) l =
    let more : suc k + l ≡ suc (k + l) = omega arith in
    let on : i + 1 + k ≡ i + suc k = omega arith in
    rw (more, rows_split t (i + 1) k l, on) refl

pub rows_next : (t : List ℕ) (k : ℕ) → rows t 0 (k + 1) ≡ rows t 0 k ++ (row_moves t k ∷ [])
unfolding rows
rows_next t k =
    let here : 0 + k ≡ k = zero-add k in
    rows_split t 0 k 1 ∙ rw here refl

pub steps_bytes_append : (x y : List (List (ℕ × ℕ))) → steps_bytes (x ++ y) ≡ steps_bytes x ++ steps_bytes y
unfolding steps_bytes
steps_bytes_append [] y = refl
steps_bytes_append (ms ∷ x) y = rw (steps_bytes_append x y) (sym (append_assoc (step_bytes ms) (steps_bytes x) (steps_bytes y)))
