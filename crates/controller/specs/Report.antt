-- The five numbers of a season report, from include/wichteab.h: "report[0] to report[4] are the pairs accepted, the pairs refused, the
-- steps, the moves and the parallelism", and "with no steps WICHTEAB_PARALLELISM_NONE", all ones.
--
--     or_none p          the parallelism p, a list of one number or of none, as one number
--     numbers v          the five numbers of an accepted season's counts v
--     report_after a l   the five numbers that were lent, l, after the answer a: a refusal changes none of them
-- Assumes nothing.
use Rattle.std.specs.Prelude.{ℕ, ◌-◌, ◌^◌, List, [], ◌∷◌, get_or, drop}
use Rattle.answers.specs.Answer.{Answer, accepted, refused}

abbrev pub or_none : List ℕ → ℕ
or_none p = get_or p 0 (2 ^ 64 - 1)

abbrev pub numbers : List ℕ → List ℕ
numbers v = get_or v 0 0 ∷ get_or v 1 0 ∷ get_or v 2 0 ∷ get_or v 3 0 ∷ or_none (drop 4 v) ∷ []

abbrev pub report_after : Answer → List ℕ → List ℕ
report_after (accepted v) l = numbers v
report_after (refused number place) l = l
