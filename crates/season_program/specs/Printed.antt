-- What the season program prints for its input: document 02, "Season report": "Its program prints the lines `accepted`, `refused`, `steps`,
-- `moves` and `parallelism`, in that order, each followed by a space and its number; with no steps the last reads `parallelism none`."
--
--     count_line w n       the line of the count n, whose word with its space is w
--     quotient_text p      the parallelism p as it is printed: a list of one number, or of none
--     count_lines a r s m  the first four lines, for a pairs accepted and r refused, s steps and m moves
--     parallelism_line p   the last line, for the parallelism p
--     report_text a r s m p    all five
--     report_lines r       those of the report r
--     answer_text a        the text for the answer a: the five lines, or the line of a refusal
--     season_text s        the text for the input s
-- Assumes nothing.
use Rattle.std.specs.Prelude.{ℕ, List, [], ◌∷◌, ◌++◌, get_or, drop}
use Rattle.answers.specs.Answer.{Answer, accepted, refused}
use Rattle.answers.specs.Ascii.{ascii}
use Rattle.writers.specs.Lines.{decimal, refusal_line}
use Rattle.season.specs.Season.{told_by, season_answer}
use Rattle.season.specs.declared.Summary.{Summary}

unfoldable pub count_line : List ℕ → ℕ → List ℕ
count_line word n = word ++ (decimal n ++ ascii "\n")

unfoldable pub quotient_text : List ℕ → List ℕ
quotient_text [] = ascii "none"
quotient_text (n ∷ l) = decimal n

unfoldable pub count_lines : ℕ → ℕ → ℕ → ℕ → List ℕ
count_lines a r s m =
    count_line (ascii "accepted ") a
    ++ (count_line (ascii "refused ") r
    ++ (count_line (ascii "steps ") s
    ++ count_line (ascii "moves ") m))

unfoldable pub parallelism_line : List ℕ → List ℕ
parallelism_line p = ascii "parallelism " ++ (quotient_text p ++ ascii "\n")

unfoldable pub report_text : ℕ → ℕ → ℕ → ℕ → List ℕ → List ℕ
report_text a r s m p = count_lines a r s m ++ parallelism_line p

abbrev pub report_lines : Summary → List ℕ
report_lines r = report_text r.totals.accepted r.totals.refused r.totals.steps r.totals.moves (told_by r.parallelism)

-- an accepted season's counts are the pairs accepted and refused, the steps, the moves and, if there is one, the parallelism
unfoldable pub answer_text : Answer → List ℕ
answer_text (accepted v) = report_text (get_or v 0 0) (get_or v 1 0) (get_or v 2 0) (get_or v 3 0) (drop 4 v)
answer_text (refused number place) = refusal_line number place

unfoldable pub season_text : List ℕ → List ℕ
season_text s = answer_text (season_answer s)
