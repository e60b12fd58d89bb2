-- The season report on document 01's case book: the definitions computed.
--
--     nothing-reported     no bytes at all: zeros, and no parallelism
--     one_reported         the first case's order with its timetable: two steps, four moves, 2.000
--     refused_counted      a pair without positions is whole, counted as refused and passed over
--     cut_refused          without its last byte the second pair is 46, and no totals are given
--     most_followed        behind so many pairs as there may be, any byte is 47 with the last pair's number
--     rounded_down         five moves in three steps are 1666 thousandths
-- Assumes nothing.
use Prim.Native.Nat.{ℕ}
use mathlib.Core.Path.{◌≡◌, refl}
use mathlib.Core.List.{List, [], ◌∷◌, ◌++◌}
use lib.ListN.{take}
use Rattle.answers.specs.Answer.{Answer, accepted, refused}
use Rattle.recording.specs.Front.{whole_length}
use Rattle.order.specs.RecordLength.{order_length, whole_order_length}
use Rattle.timetable.specs.Timetable.{steps_length, timetable_length}
use Rattle.timetable.specs.RecordLength.{whole_timetable_length}
use Rattle.timetable_check.proofs.Inhabited.{order₁, timetable₁, timetable_open}
use Rattle.season.specs.Season.{pair_order, behind_order, pair_timetable, behind_pair, cut_short, no_totals, counted, parallelism}
use Rattle.season.specs.Season.{season_from, season_answer}
use Rattle.season.specs.declared.Totals.{Totals}

abbrev pair₁ : List ℕ
pair₁ = order₁ ++ timetable₁

-- an order without positions, edges and racks, and a timetable of one step without moves
abbrev empty : List ℕ
empty = 0 ∷ 0 ∷ 0 ∷ 0 ∷ 0 ∷ 4 ∷ 0 ∷ []

pub nothing-reported : season_answer [] ≡ accepted (0 ∷ 0 ∷ 0 ∷ 0 ∷ [])
unfolding season_answer season_from no_totals parallelism
nothing-reported = refl

unfoldable season_open : List ℕ → Answer
unfolding timetable_open season_answer season_from pair_order behind_order pair_timetable behind_pair cut_short
    no_totals counted parallelism
    order_length whole_order_length steps_length timetable_length whole_timetable_length whole_length
season_open s = season_answer s

pub one_reported : season_answer pair₁ ≡ accepted (1 ∷ 0 ∷ 2 ∷ 4 ∷ 2000 ∷ [])
unfolding season_open
one_reported = refl

pub refused_counted : season_answer (empty ++ pair₁) ≡ accepted (1 ∷ 1 ∷ 2 ∷ 4 ∷ 2000 ∷ [])
unfolding season_open
refused_counted = refl

pub cut_refused : season_answer (pair₁ ++ take 24 pair₁) ≡ refused 46 2
unfolding season_open
cut_refused = refl

pub most_followed : (t : Totals) (b : ℕ) (s : List ℕ) → season_from 0 65535 t (b ∷ s) ≡ refused 47 65535
unfolding season_from
most_followed t b s = refl

pub rounded_down : parallelism 3 5 ≡ 1666 ∷ []
unfolding parallelism
rounded_down = refl
