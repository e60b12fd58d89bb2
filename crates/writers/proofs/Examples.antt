-- The edges of numbers in decimal and of the line of a refusal, by computation.
--
--     decimals            0, 9, 10, 407 and 65536
--     lengthy, moveless   the refusals 10 at place 0, of the family order, and 33 at place 2, of the family plan
--     room_refusal        a refusal's line has room in 32 bytes
--     left_refusal        22 lent bytes after a refusal's line of 19: the three behind it stay
-- Assumes nothing.
use mathlib.Core.Path.{◌≡◌, refl}
use mathlib.Core.List.{[], ◌∷◌, ◌++◌}
use lib.ListN.{replicate}
use lib.Dec.{lit≤}
use Rattle.answers.specs.Ascii.{ascii}
use Rattle.answers.specs.Family.{family_word, within}
use Rattle.field.specs.Writing.{written, Fits}
use Rattle.writers.specs.Lines.{digits, decimal, refusal_line}

pub decimals : (decimal 0 ≡ 48 ∷ []) × (decimal 9 ≡ 57 ∷ []) × (decimal 10 ≡ 49 ∷ 48 ∷ [])
    × (decimal 407 ≡ 52 ∷ 48 ∷ 55 ∷ []) × (digits 5 65536 ≡ 54 ∷ 53 ∷ 53 ∷ 51 ∷ 54 ∷ [])
unfolding decimal digits
decimals = (refl, refl, refl, refl, refl)

-- refused 10 0 order
pub lengthy : refusal_line 10 0
    ≡ 114 ∷ 101 ∷ 102 ∷ 117 ∷ 115 ∷ 101 ∷ 100 ∷ 32 ∷ 49 ∷ 48 ∷ 32 ∷ 48 ∷ 32 ∷ 111 ∷ 114 ∷ 100 ∷ 101 ∷ 114 ∷ 10 ∷ []
unfolding refusal_line decimal digits family_word within ascii
lengthy = refl

-- refused 33 2 plan
pub moveless : refusal_line 33 2
    ≡ 114 ∷ 101 ∷ 102 ∷ 117 ∷ 115 ∷ 101 ∷ 100 ∷ 32 ∷ 51 ∷ 51 ∷ 32 ∷ 50 ∷ 32 ∷ 112 ∷ 108 ∷ 97 ∷ 110 ∷ 10 ∷ []
unfolding refusal_line decimal digits family_word within ascii
moveless = refl

pub room_refusal : Fits (replicate 32 0) 0 (refusal_line 10 0)
unfolding refusal_line decimal digits family_word within ascii
room_refusal = record { room = lit≤ tt }

pub left_refusal : written (replicate 22 7) 0 (refusal_line 10 0) ≡ refusal_line 10 0 ++ 7 ∷ 7 ∷ 7 ∷ []
unfolding written refusal_line decimal digits family_word within ascii
left_refusal = refl
