-- How the code finds a pair, and how large the totals can be. Nothing here is part of a promise to a caller of `report`.
--
--     PairEnds s a e      a and e are where the order and the timetable end of the pair that s begins with
--     PairAt s r          r has these ends; it has none where s is cut short
--     Within q t          what q pairs can add up to: each is accepted or refused, with at most 2²² steps and 2³⁰ moves
-- Assumes nothing.
use Rattle.std.specs.Prelude.{ℕ, ◌+◌, ◌*◌, ◌^◌, ◌≤◌, ◌<◌, ◌≡◌, true, false, List, length, Option, None, Some}
use Rattle.order.specs.RecordLength.{whole_order_length}
use Rattle.timetable.specs.RecordLength.{whole_timetable_length}
use Rattle.season.specs.Season.{cut_short, behind_order}
use Rattle.season.specs.declared.Totals.{Totals}
use Rattle.season.specs.declared.Ends.{Ends}

pub record PairEnds (s : List ℕ) (a e : ℕ) : Type 0 where
  pub some : 0 < a
  pub whole : cut_short s ≡ false
  pub order_ends : a ≡ whole_order_length s
  pub timetable_ends : e ≡ a + whole_timetable_length (behind_order s)
  pub ordered : a ≤ e
  pub inside : e ≤ length s

abbrev pub PairAt : List ℕ → Option Ends → Type 0
PairAt s None = cut_short s ≡ true
PairAt s (Some p) = PairEnds s p.order p.timetable

pub record Within (q : ℕ) (t : Totals) : Type 0 where
  pub pairs : t.accepted + t.refused ≡ q
  pub steps : t.steps ≤ q * 2 ^ 22
  pub moves : t.moves ≤ q * 2 ^ 30
