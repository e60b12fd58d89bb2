-- What is proved of order records, as a whole.
--
--     Same s t          s and t describe the same floor, as a set of edges, the same starts and the same goals
--     RecordFor n E starts goals s    s is accepted, and read it gives back n, E, the starts and the goals
--     Choice            what is asked of them: n from 1 to 64, edges between positions below n and at most 255 of them,
--                       distinct starts and goals
-- Assumes nothing.
use Rattle.std.specs.Prelude.{ℕ, ◌≤◌, ◌≡◌, Bool, false, List, length}
use Rattle.answers.specs.Answer.{accepted}
use Rattle.order.specs.Floor.{joined}
use Rattle.order.specs.Order.{floor_of, starts_of, goals_of, counts, order_answer, wrong_places}
use Rattle.order.specs.EdgeSets.{IsRelation, floor_from}

pub record Same (s t : List ℕ) : Type 0 where
  pub positions : (floor_of s).positions ≡ (floor_of t).positions
  pub edges : (a b : ℕ) → joined (floor_of s) a b ≡ joined (floor_of t) a b
  pub starts : starts_of s ≡ starts_of t
  pub goals : goals_of s ≡ goals_of t

-- what an accepted record of a floor E, starts and goals is
pub record RecordFor (n : ℕ) (E : ℕ → ℕ → Bool) (starts goals s : List ℕ) : Type 0 where
  pub is_accepted : order_answer s ≡ accepted (counts s)
  pub positions_back : (floor_of s).positions ≡ n
  pub edges_back : (a b : ℕ) → joined (floor_of s) a b ≡ E a b
  pub starts_back : starts_of s ≡ starts
  pub goals_back : goals_of s ≡ goals

pub record Choice (n : ℕ) (E : ℕ → ℕ → Bool) (starts goals : List ℕ) : Type 0 where
  pub some_position : 1 ≤ n
  pub few_positions : n ≤ 64
  pub relation : IsRelation n E
  pub few_edges : length (floor_from n E).edges ≤ 255
  pub a_goal_each : length goals ≡ length starts
  pub starts_right : wrong_places n starts ≡ false
  pub goals_right : wrong_places n goals ≡ false
