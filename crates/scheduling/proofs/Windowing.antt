-- The loops that write steps one after another: those of a window's rows, and those of one window after another.
--
--     WroteRows t s n at b next row                  the steps of the first rows of the window t are written into s
--     rows-first, rows-length, rows_room, rows_more, rows_all    from row to row
--     filled_fit, filled_steps, filled_room, filled_wrote    what a filled window has
--     counted-first, counted-later, passed-latest, counted_on, counted_last    the number of steps, known from the first window on
--     WroteWindows ms s b at n                       the steps of the first n windows are written into s
--     windows_none, windows-length, windows_room, windows_more, windows-all      from window to window
-- Assumes nothing.
use Prim.Native.Nat.{ℕ, zero, suc, ◌+◌, ◌-◌, ◌*◌, ◌/◌, ◌≤◌, ◌<◌, min, max}
use mathlib.Core.Path.{◌≡◌, refl, sym, ap, ◌∙◌, subst}
use mathlib.Core.Bool.{Bool}
use mathlib.Core.List.{List, [], ◌∷◌, ◌++◌, append-nil}
use native.Mathlib.Omega.{arith}
use mathlib.Core.Logic.{dite}
use native.Mathlib.Decide.{ℕ_discrete, dec_lt}
use native.Mathlib.Numerals.{add-one}
use native.Mathlib.Nat.{add-zero, le_refl}
use Rattle.field.specs.Bytes.{BelowPairs}
use Rattle.field.specs.Writing.{written, Fits, Wrote}
use Rattle.field.proofs.WritingLaws.{fits_next, wrote_none, wrote_then, wrote_length, fits_as, wrote_as}
use Rattle.window.specs.Filling.{started, window_of, latest}
use Rattle.field.specs.Listed.{moves_at}
use Rattle.field.proofs.ListedLaws.{length-moves}
use Rattle.passing.specs.Stretches.{Begun, PlanPassed}
use Rattle.window.proofs.FillingLaws.{latest-some, entries-empty, entries-pass}
use Rattle.scheduling.specs.Windows.{rows_of, window_steps, windows, all_steps, Counted}
use lib.ListN.{length, length-append}
use Rattle.window.specs.Rows.{EntriesFit, row_moves, rows, step_bytes, steps_bytes}
use Rattle.scheduling.proofs.RowLaws.{rows_split, rows_next, steps_bytes_append}

module _ (t s : List ℕ) (n at : ℕ) where
  unfoldable pub WroteRows : List ℕ → ℕ → ℕ → Type 0
  WroteRows b next row = Wrote s at (steps_bytes (rows t 0 row)) b next

  pub rows-first : WroteRows s at 0
  unfolding WroteRows rows steps_bytes
  rows-first = wrote_none s at

  module _ (fits : Fits s at (steps_bytes (rows t 0 n))) where
    -- the first rows take no more than all
    few : (row : ℕ) → row ≤ n → Fits s at (steps_bytes (rows t 0 row))
    few row h =
        let all : n ≡ row + (n - row) = omega arith in
        let parts : steps_bytes (rows t 0 n) ≡ steps_bytes (rows t 0 row) ++ steps_bytes (rows t (0 + row) (n - row)) =
        ap (λ (k : ℕ). steps_bytes (rows t 0 k)) all ∙ ap steps_bytes (rows_split t 0 row (n - row))
        ∙ steps_bytes_append (rows t 0 row) (rows t (0 + row) (n - row)) in
        record {
          room = omega
              (arith, fits.room, ap length parts, length-append (steps_bytes (rows t 0 row)) (steps_bytes (rows t (0 + row) (n - row))));
        }

    next-bytes : (row : ℕ) → steps_bytes (rows t 0 (row + 1)) ≡ steps_bytes (rows t 0 row) ++ step_bytes (row_moves t row)
    unfolding steps_bytes
    next-bytes row =
        ap steps_bytes (rows_next t row)
        ∙ steps_bytes_append (rows t 0 row) (row_moves t row ∷ [])
        ∙ ap (λ (l : List ℕ). steps_bytes (rows t 0 row) ++ l) (append-nil (step_bytes (row_moves t row)))

    -- and so does the row behind them
    few_more : (row : ℕ) → row < n → Fits s at (steps_bytes (rows t 0 row) ++ step_bytes (row_moves t row))
    few_more row h = subst (Fits s at) (next-bytes row) (few (row + 1) (omega arith))

    module _ (b : List ℕ) (next row : ℕ) (w : WroteRows b next row) where
      pub rows-length : row ≤ n → length b ≡ length s
      unfolding WroteRows
      rows-length h = wrote_length (few row h) w

      pub rows_room : row < n → Fits b next (step_bytes (row_moves t row))
      unfolding WroteRows
      rows_room h = fits_next (steps_bytes (rows t 0 row)) (step_bytes (row_moves t row)) w (few_more row h)

      pub rows_more : row < n → (next' : ℕ) (b' : List ℕ) → Wrote b next (step_bytes (row_moves t row)) b' next'
          → WroteRows b' next' (row + 1)
      unfolding WroteRows
      rows_more h next' b' v =
          wrote_as (sym (next-bytes row)) (wrote_then (steps_bytes (rows t 0 row)) (step_bytes (row_moves t row)) (few_more row h) w v)

      pub rows_all : row ≤ n → n ≤ row → Wrote s at (steps_bytes (rows t 0 n)) b next
      unfolding WroteRows
      rows_all l u =
          let all : n ≡ row = omega arith in
          rw all w

module _ (ms : List (ℕ × ℕ)) (first r : ℕ) (w : List ℕ) (er : r ≡ latest ms) (ew : w ≡ window_of ms first) where
  pub filled_fit : BelowPairs 64 ms → EntriesFit w
  unfolding window_of
  filled_fit b = rw ew (entries-pass first _ b (unfold started in entries-empty))

  module _ (n : ℕ) (e : n ≡ min (r - first) 4096) where
    pub filled_steps : rows w 0 n ≡ window_steps ms first
    unfolding window_steps rows_of
    filled_steps = rw (e, er, ew) refl

    pub filled_room : (at : ℕ) (B : List ℕ) → Fits B at (steps_bytes (window_steps ms first)) → Fits B at (steps_bytes (rows w 0 n))
    filled_room at B fits = fits_as (ap steps_bytes filled_steps) fits

    pub filled_wrote : (at next : ℕ) (B b : List ℕ) → Wrote B at (steps_bytes (rows w 0 n)) b next
        → Wrote B at (steps_bytes (window_steps ms first)) b next
    filled_wrote at next B b v = wrote_as (ap steps_bytes filled_steps) v

-- one window after another

windows_most : (ms : List (ℕ × ℕ)) (n k : ℕ) → length (steps_bytes (windows ms n)) ≤ length (steps_bytes (windows ms (n + k)))
unfolding windows
windows_most ms n zero = let same : n + 0 ≡ n = add-zero n in rw same (le_refl _)
windows_most ms n (suc k) =
    let on : n + suc k ≡ suc (n + k) = omega arith in
    rw on
    (omega (
      arith,
      windows_most ms n k,
      ap length (steps_bytes_append (windows ms (n + k)) (window_steps ms (4096 * (n + k)))),
      length-append (steps_bytes (windows ms (n + k))) (steps_bytes (window_steps ms (4096 * (n + k)))),
    ))

-- how many steps there are is known from the first window on
module _ (ms : List (ℕ × ℕ)) (d : List ℕ) (s n : ℕ) (c : Counted ms d s n) where
  -- the greater of s and what a pass finds
  counted-latest : 0 < length ms → (r : ℕ) → r ≤ latest ms → (Begun d → r ≡ latest ms) → max s r ≡ latest ms
  counted-latest some r h new =
      dite (dec_lt 0 n) (λ k. omega (arith, c.later k))
      (λ k. let none = c.at_first (omega arith) in omega (arith, none.0, new none.1, latest-some ms some))

  pub counted_on : 4096 * n < s → n + 1 ≤ latest ms / 4096 + 1
  counted_on h = dite (dec_lt 0 n) (λ k. omega (arith, c.later k)) (λ k. omega arith)

  pub counted_last : s ≤ 4096 * n → s ≡ latest ms
  counted_last h =
      dite (dec_lt 0 n) (λ k. c.later k)
      (λ k. absurd (omega (arith, (c.at_first (omega arith)).0)))

-- so is it after each pass
pub passed-latest : (e : Bool) (t : List ℕ) (k first : ℕ) (d : List ℕ) (s n r : ℕ) {w d' : List ℕ} {b : List (List ℕ)} → 0 < k
    → Counted (moves_at e t 0 k) d s n → PlanPassed e t k (length d) first d r w b d' → max s r ≡ latest (moves_at e t 0 k)
passed-latest e t k first d s n r some c p =
    counted-latest (moves_at e t 0 k) d s n c (omega (arith, length-moves e t 0 k)) r p.at_most p.at_first

pub counted-first : (ms : List (ℕ × ℕ)) (d : List ℕ) → Begun d → Counted ms d 1 0
counted-first ms d b = record { at_first = λ h. (refl, b); later = λ h. absurd (omega arith) }

pub counted-later : (ms : List (ℕ × ℕ)) (d : List ℕ) (s n : ℕ) → s ≡ latest ms → Counted ms d s (n + 1)
counted-later ms d s n e = record { at_first = λ h. absurd (omega arith); later = λ h. e }

module _ (ms : List (ℕ × ℕ)) (s : List ℕ) where
  unfoldable pub WroteWindows : List ℕ → ℕ → ℕ → Type 0
  WroteWindows b at n = Wrote s 3 (steps_bytes (windows ms n)) b at

  pub windows_none : WroteWindows s 3 0
  unfolding WroteWindows windows steps_bytes
  windows_none = wrote_none s 3

  window_bytes : (n : ℕ) → steps_bytes (windows ms (n + 1)) ≡ steps_bytes (windows ms n) ++ steps_bytes (window_steps ms (4096 * n))
  unfolding windows
  window_bytes n = rw (add-one n) (steps_bytes_append (windows ms n) (window_steps ms (4096 * n)))

  module _ (fits : Fits s 3 (steps_bytes (all_steps ms))) where
    few_windows : (n : ℕ) → n ≤ latest ms / 4096 + 1 → Fits s 3 (steps_bytes (windows ms n))
    unfolding all_steps
    few_windows n h =
        let all : latest ms / 4096 + 1 ≡ n + (latest ms / 4096 + 1 - n) = omega arith in
        record {
          room = omega
              (arith, fits.room, ap (λ (k : ℕ). length (steps_bytes (windows ms k))) all, windows_most ms n (latest ms / 4096 + 1 - n));
        }

    module _ (b : List ℕ) (at n : ℕ) (w : WroteWindows b at n) where
      pub windows-length : n ≤ latest ms / 4096 + 1 → length b ≡ length s
      unfolding WroteWindows
      windows-length h = wrote_length (few_windows n h) w

      module _ (k : n + 1 ≤ latest ms / 4096 + 1) where
        more_fits : Fits s 3 (steps_bytes (windows ms n) ++ steps_bytes (window_steps ms (4096 * n)))
        more_fits = subst (Fits s 3) (window_bytes n) (few_windows (n + 1) k)

        pub windows_room : Fits b at (steps_bytes (window_steps ms (4096 * n)))
        unfolding WroteWindows
        windows_room = fits_next (steps_bytes (windows ms n)) (steps_bytes (window_steps ms (4096 * n))) w more_fits

        pub windows_more : (at' : ℕ) (b' : List ℕ) → Wrote b at (steps_bytes (window_steps ms (4096 * n))) b' at'
            → WroteWindows b' at' (n + 1)
        unfolding WroteWindows
        windows_more at' b' v =
            wrote_as (sym (window_bytes n)) (wrote_then (steps_bytes (windows ms n))
            (steps_bytes (window_steps ms (4096 * n))) more_fits w v)

      module _ (h : n ≤ latest ms / 4096 + 1) (u : latest ms ≤ 4096 * n) where
        -- behind the last step a window has no steps
        none : window_steps ms (4096 * n) ≡ []
        unfolding window_steps rows_of rows
        none = let no : min (latest ms - 4096 * n) 4096 ≡ 0 = omega arith in rw no refl

        last : (n ≡ latest ms / 4096 + 1 → ⊥) → windows ms n ≡ windows ms (latest ms / 4096 + 1)
        unfolding windows
        last d =
            let one : latest ms / 4096 + 1 ≡ suc n = omega arith in
            rw one (sym (ap (λ (l : List (List (ℕ × ℕ))). windows ms n ++ l) none ∙ append-nil (windows ms n)))

        all_steps_lem : windows ms n ≡ all_steps ms
        unfolding all_steps
        all_steps_lem = elim (ℕ_discrete n (latest ms / 4096 + 1)) [ yes z ↦ ap (windows ms) z | no d ↦ last d ]

        pub windows-all : b ≡ written s 3 (steps_bytes (all_steps ms))
        unfolding WroteWindows
        windows-all = w.bytes_are ∙ ap (λ (l : List (List (ℕ × ℕ))). written s 3 (steps_bytes l)) all_steps_lem
