-- The first number that passes a test.
--
--     first_from f i k     the first of i, i + 1, .. that the test f passes, k of them tried; i + k where none does
-- Assumes nothing.
use Rattle.std.specs.Prelude.{ℕ, zero, suc, Bool, cond}

unfoldable pub first_from : (ℕ → Bool) → ℕ → ℕ → ℕ
first_from f i zero = i
first_from f i (suc k) = cond (f i) i (first_from f (suc i) k)
