-- Writing bytes into a lent byte string, from a byte on: what a writer leaves, byte for byte.
--
--     written s at l       the byte string s with the bytes l written from byte `at` on: what stood before them and behind them stays
--     left_by a r s         what the answer a leaves of the lent byte string s: the record r at its front where it is
--                          accepted, else s as it was
--     Fits s at l          s has room for l from byte `at` on
--     Wrote s at l t r     t is s with l written from byte `at` on, and r is where the next writer begins
-- Assumes nothing.
use Rattle.std.specs.Prelude.{ℕ, ◌+◌, ◌≤◌, ◌≡◌, List, ◌++◌, length, take, drop}
use Rattle.answers.specs.Answer.{Answer, accepted, refused}

unfoldable pub written : List ℕ → ℕ → List ℕ → List ℕ
written s at l = take at s ++ (l ++ drop (at + length l) s)

-- "No lent byte changes on a refusal." "Every record that the product writes begins at the first byte of the lent buffer, and the bytes
-- after the record are unchanged."
abbrev pub left_by : Answer → List ℕ → List ℕ → List ℕ
left_by (accepted counts) r s = written s 0 r
left_by (refused number place) r s = s

pub record Fits (s : List ℕ) (at : ℕ) (l : List ℕ) : Type 0 where
  pub room : at + length l ≤ length s

pub record Wrote (s : List ℕ) (at : ℕ) (l t : List ℕ) (r : ℕ) : Type 0 where
  pub bytes_are : t ≡ written s at l
  pub next_is : r ≡ at + length l
