-- The season report, from document 02, "Season report": "Given up to 65,535 order and timetable pairs, one after another, report how many
-- were accepted, how many refused, and over the accepted ones the exact totals of steps and moves and the parallelism: moves divided by
-- steps, in thousandths rounded down."
--
--     pair_order s, pair_timetable s    the order and the timetable of the pair that s begins with
--     behind_order s, behind_pair s     the bytes behind that order, and behind that pair
--     cut_short s                 s ends before the pair does that it begins with
--     no_totals                   the totals of no pairs
--     counted t a                the totals t and one pair more, for which the timetable checker answers a
--     parallelism s m            moves divided by steps, in thousandths rounded down, as a list of one number; of none without steps
--     reported t                 the report on the totals t: pairs accepted and refused, steps, moves, and the parallelism if there is one
--     ended_or s t a              the answer a, unless s has no bytes: then the report on the totals t
--     season_from k q t s         the answer for the pairs that s begins with, behind q pairs of the totals t, where k more may come
--     season_answer s             the answer for the season s: 46 and 47 with a pair's number, else accepted with the report
--     told_by p, told r, answer_of v    the parallelism p as such a list, what the report r tells, and the result v as an answer
-- Assumes nothing.
use Rattle.std.specs.Prelude.{ℕ, zero, suc, ◌+◌, ◌*◌, ◌/◌, Bool, ◌||◌, List, [], ◌∷◌, get_or, take, drop, eqb, Option, None, Some, Result}
use Rattle.answers.specs.Answer.{Answer, accepted, refused, refuse, answer_by}
use Rattle.order.specs.RecordLength.{whole_order_length}
use Rattle.timetable.specs.RecordLength.{whole_timetable_length}
use Rattle.timetable.specs.Timetable.{timetable_answer}
use Rattle.season.specs.declared.Totals.{Totals}
use Rattle.answers.specs.declared.Refusal.{Refusal}
use Rattle.season.specs.declared.Summary.{Summary}

-- "An order ends where its counts say and a timetable after its last step; the next pair follows directly." Whatever else is wrong with
-- them does not matter here.
unfoldable pub pair_order : List ℕ → List ℕ
pair_order s = take (whole_order_length s) s

unfoldable pub behind_order : List ℕ → List ℕ
behind_order s = drop (whole_order_length s) s

unfoldable pub pair_timetable : List ℕ → List ℕ
pair_timetable s = take (whole_timetable_length (behind_order s)) (behind_order s)

unfoldable pub behind_pair : List ℕ → List ℕ
behind_pair s = drop (whole_timetable_length (behind_order s)) (behind_order s)

-- 46: "the bytes end before the pair does". No record has length 0, which stands for one that is not whole.
unfoldable pub cut_short : List ℕ → Bool
cut_short s = eqb (whole_order_length s) 0 || eqb (whole_timetable_length (behind_order s)) 0

unfoldable pub no_totals : Totals
no_totals = record { accepted = 0; refused = 0; steps = 0; moves = 0 }

-- "A pair that is whole but refused is counted and passed over." The checker's counts are a timetable's steps and its moves.
unfoldable pub counted : Totals → Answer → Totals
counted t (accepted v) =
    record {
      accepted = t.accepted + 1;
      refused = t.refused;
      steps = t.steps + get_or v 0 0;
      moves = t.moves + get_or v 1 0;
    }
counted t (refused number place) =
    record { accepted = t.accepted; refused = t.refused + 1; steps = t.steps; moves = t.moves }

-- "the parallelism: moves divided by steps, in thousandths rounded down"
unfoldable pub parallelism : ℕ → ℕ → List ℕ
parallelism zero moves = []
parallelism (suc steps) moves = 1000 * moves / suc steps ∷ []

abbrev pub reported : Totals → List ℕ
reported t = t.accepted ∷ t.refused ∷ t.steps ∷ t.moves ∷ parallelism t.steps t.moves

-- where no bytes are left, the report
abbrev pub ended_or : List ℕ → Totals → Answer → Answer
ended_or [] t otherwise = accepted (reported t)
ended_or (b ∷ s) t otherwise = otherwise

-- "Turned away, with the pair's number as place: 46 the bytes end before the pair does; 47 bytes follow the pair numbered 65,535; the
-- earliest pair decides." Pairs are counted from 1.
unfoldable pub season_from : ℕ → ℕ → Totals → List ℕ → Answer
season_from zero q t s = ended_or s t (refused 47 q)
season_from (suc k) q t s =
    let pair = timetable_answer (pair_order s) (pair_timetable s) in
    ended_or s t (refuse (cut_short s) 46 (suc q) (season_from k (suc q) (counted t pair) (behind_pair s)))

unfoldable pub season_answer : List ℕ → Answer
season_answer s = season_from 65535 0 no_totals s

abbrev pub told_by : Option ℕ → List ℕ
told_by None = []
told_by (Some n) = n ∷ []

abbrev pub told : Summary → List ℕ
told r = r.totals.accepted ∷ r.totals.refused ∷ r.totals.steps ∷ r.totals.moves ∷ told_by r.parallelism

abbrev pub answer_of : Result Summary Refusal → Answer
answer_of = answer_by told
