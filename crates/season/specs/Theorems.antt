-- What the theorem on seasons states: the pairs of a byte string are the records that it is made of. "An order ends where its counts say
-- and a timetable after its last step; the next pair follows directly." (document 02, "Season report")
--
--     BeginsWith s o t rest   s begins with an order o and a timetable t that 10 and 40 find of their own lengths, and rest follows
--     OnePair s               s begins with one pair at most: the one that the season report finds, and 46 is met where there is none
-- Assumes nothing.
use Rattle.std.specs.Prelude.{ℕ, ◌≡◌, false, List, ◌++◌}
use Rattle.order.specs.Order.{wrong_length}
use Rattle.timetable.specs.Timetable.{wrong_timetable_length}
use Rattle.season.specs.Season.{pair_order, pair_timetable, behind_pair, cut_short}

pub record BeginsWith (s o t rest : List ℕ) : Type 0 where
  pub is : s ≡ o ++ (t ++ rest)
  pub order_right : wrong_length o ≡ false
  pub timetable_right : wrong_timetable_length t ≡ false

pub record OnePair (s : List ℕ) : Type 0 where
  pub found : cut_short s ≡ false → BeginsWith s (pair_order s) (pair_timetable s) (behind_pair s)
  pub only : (o t rest : List ℕ) → BeginsWith s o t rest
      → (cut_short s ≡ false) × (pair_order s ≡ o) × (pair_timetable s ≡ t) × (behind_pair s ≡ rest)
