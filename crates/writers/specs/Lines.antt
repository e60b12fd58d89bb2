-- What the lines of every program are made of, from document 01, "Programs": "with single spaces between and the numbers in decimal". Text
-- is the list of its bytes in ASCII, where a digit d is 48 + d.
--
--     digits k n         the last k digits of n, from the first that is not a leading zero on
--     decimal n          n in decimal, without leading zeros; 0 is `0`
--     refusal_line n p    the line of a refusal with the number n and the place p
-- Assumes nothing.
use Rattle.std.specs.Prelude.{ℕ, zero, suc, ◌+◌, ◌/◌, ◌%◌, cond, List, [], ◌∷◌, ◌++◌, ltb}
use Rattle.answers.specs.Ascii.{ascii}
use Rattle.answers.specs.Family.{family_word}

-- a number below 10 is one digit; of any other the last digit stands behind those of its tenth part
unfoldable pub digits : ℕ → ℕ → List ℕ
digits zero n = []
digits (suc k) n =
    let before = digits k (n / 10) in
    cond (ltb n 10) ((48 + n) ∷ []) (before ++ ((48 + n % 10) ∷ []))

-- "the numbers in decimal": n has fewer than n + 2 digits
unfoldable pub decimal : ℕ → List ℕ
decimal n = digits (suc n) n

-- "one line and no other, `refused`, number, place and family, with single spaces between and the numbers in decimal"
unfoldable pub refusal_line : ℕ → ℕ → List ℕ
refusal_line number place =
    ascii "refused " ++ decimal number ++ ascii " " ++ decimal place ++ ascii " " ++ family_word number ++ ascii "\n"
