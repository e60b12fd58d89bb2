-- What is proved of one vacancy, as a whole. Request (n): "Show that no plan then exists."
--
--     NoWay o         no list of moves of the order o, of any length and each legal at its turn, leads from the starts to the goals; so
--                     there is no solution of Surynek's Definition 1, and no plan that the plan checker accepts
--     Judged o x      what the answer x, 1 or 0, says of the order o: whichever two colours are taken, 1 is said exactly where the change
--                     is contrary by them, and only where there are two colours
-- Assumes nothing.
use Rattle.std.specs.Prelude.{ℕ, ◌≡◌, Bool, List, ◌↔◌, ◌⊎◌}
use Rattle.answers.specs.Answer.{accepted}
use Rattle.order.specs.Order.{position_count, floor_of, starts_of, goals_of}
use Rattle.motion.specs.Arrangement.{Arrangement}
use Rattle.plan.specs.Plan.{plan_answer}
use Rattle.plan_check.specs.Solutions.{SolutionOf, NoPlan}
use Rattle.floor.specs.FloorAnswer.{Joins}
use Rattle.parity.specs.Colours.{TwoColours, Coloured}
use Rattle.parity.specs.Impossible.{Contrary}

pub record NoWay (o : List ℕ) : Type 0 where
  pub no_moves : NoPlan o
  pub no_solution : (ξ : ℕ) (S : List Arrangement) → SolutionOf o ξ S → ⊥
  pub no_plan : (p v : List ℕ) → plan_answer o p ≡ accepted v → ⊥

pub record Judged (o : List ℕ) (x : ℕ) : Type 0 where
  pub either : (x ≡ 0) ⊎ (x ≡ 1)
  pub by_any : (c : ℕ → Bool) → TwoColours (position_count o) (Joins (floor_of o)) c
      → (x ≡ 1) ↔ Contrary (position_count o) (starts_of o) (goals_of o) c
  pub with_two : x ≡ 1 → Coloured (position_count o) (Joins (floor_of o))
