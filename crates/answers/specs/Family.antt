-- The family word of a refusal, from document 01, "Programs": "10 to 19 order, 20 to 29 floor, 30 to 39 plan, 40 to 49 timetable."
--
--     within a b n    n is from a to b, both included
--     family_word n    the family word of the refusal number n; a number of no family has the word `other`
-- Assumes nothing.
use Rattle.std.specs.Prelude.{ℕ, Bool, cond, ◌&&◌, List, leb}
use Rattle.answers.specs.Ascii.{ascii}

unfoldable pub within : ℕ → ℕ → ℕ → Bool
within a b n = leb a n && leb n b

unfoldable pub family_word : ℕ → List ℕ
family_word n =
    cond (within 10 19 n) (ascii "order")
    (cond (within 20 29 n) (ascii "floor")
    (cond (within 30 39 n) (ascii "plan")
    (cond (within 40 49 n) (ascii "timetable") (ascii "other"))))
