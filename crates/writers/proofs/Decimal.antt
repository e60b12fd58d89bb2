-- Writing a number in decimal: the digits of its tenth part, and the last digit behind them.
--
--     one_fits, one_wrote                 a number of one digit
--     more_fits, last_fits, last_wrote    a longer one
-- Assumes nothing.
use Prim.Native.Nat.{ℕ, ◌+◌, ◌/◌, ◌%◌, ◌≤◌, ◌<◌}
use mathlib.Core.Path.{sym}
use mathlib.Core.List.{List, [], ◌∷◌, ◌++◌}
use Rattle.field.specs.Writing.{Fits, Wrote}
use Rattle.field.proofs.WritingLaws.{fits_front, fits_next, fits_as, wrote_then, wrote_as}
use Rattle.writers.specs.Lines.{decimal}
use Rattle.writers.proofs.DecimalLaws.{decimal_one, decimal_more}

module _ {s : List ℕ} {at : ℕ} (n : ℕ) (f : Fits s at (decimal n)) where
  module _ (h : n < 10) where
    pub one_fits : Fits s at ((48 + n) ∷ [])
    one_fits = fits_as (sym (decimal_one n h)) f

    pub one_wrote : {t : List ℕ} {r : ℕ} → Wrote s at ((48 + n) ∷ []) t r → Wrote s at (decimal n) t r
    one_wrote w = wrote_as (sym (decimal_one n h)) w

  module _ (h : 10 ≤ n) where
    split : Fits s at (decimal (n / 10) ++ ((48 + n % 10) ∷ []))
    split = fits_as (sym (decimal_more n h)) f

    pub more_fits : Fits s at (decimal (n / 10))
    more_fits = fits_front (decimal (n / 10)) ((48 + n % 10) ∷ []) split

    module _ {t : List ℕ} {r : ℕ} (w : Wrote s at (decimal (n / 10)) t r) where
      pub last_fits : Fits t r ((48 + n % 10) ∷ [])
      last_fits = fits_next (decimal (n / 10)) ((48 + n % 10) ∷ []) w split

      pub last_wrote : {u : List ℕ} {q : ℕ} → Wrote t r ((48 + n % 10) ∷ []) u q → Wrote s at (decimal n) u q
      last_wrote v = wrote_as (sym (decimal_more n h)) (wrote_then (decimal (n / 10)) ((48 + n % 10) ∷ []) split w v)
