-- Laws of what specs/Tables.antt defines.
--
--     decoded_rows_lem, decoded_starts_lem, decoded_goals_lem    the tables of a well-formed order are its floor's rows and its racks
-- Assumes nothing.
use Prim.Native.Nat.{ℕ}
use mathlib.Core.Path.{◌≡◌, ap}
use mathlib.Core.List.{List}
use Rattle.answers.specs.Answer.{Answer}
use Rattle.order.specs.Order.{floor_of, starts_of, goals_of, WellFormed}
use Rattle.order.specs.Tables.{rows_of, racks_at, unless_refused, decoded_rows, decoded_starts, decoded_goals}

module _ (s : List ℕ) (w : WellFormed s) where
  pub decoded_rows_lem : decoded_rows s ≡ rows_of (floor_of s)
  unfolding decoded_rows
  decoded_rows_lem = ap (λ (a : Answer). unless_refused a (rows_of (floor_of s))) w

  pub decoded_starts_lem : decoded_starts s ≡ racks_at (starts_of s)
  unfolding decoded_starts
  decoded_starts_lem = ap (λ (a : Answer). unless_refused a (racks_at (starts_of s))) w

  pub decoded_goals_lem : decoded_goals s ≡ racks_at (goals_of s)
  unfolding decoded_goals
  decoded_goals_lem = ap (λ (a : Answer). unless_refused a (racks_at (goals_of s))) w
