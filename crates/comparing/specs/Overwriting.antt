-- A buffer between two functions, while the proved method's plan stands in it.
--
--     Overwritten o B f k b    the planner made a plan of k moves for the order o in the buffer B, which is b now, and f is what stood
--                              before in the bytes that the plan takes. It has moves
--     SomeBuffer o f k b       that is so of some buffer
-- Assumes nothing.
use Rattle.std.specs.Prelude.{ℕ, ◌+◌, ◌*◌, ◌/◌, ◌<◌, ◌≡◌, List, [], ◌∷◌, length, take}
use Rattle.answers.specs.Answer.{accepted}
use Rattle.planner.specs.Planner.{PlanMade}

pub record Overwritten (o B f : List ℕ) (k : ℕ) (b : List ℕ) : Type 0 where
  pub plan_made : PlanMade o B (accepted (k ∷ [])) b
  pub some : 0 < k
  pub long : length f ≡ 3 + (9 * k + 3) / 4
  pub front : f ≡ take (length f) B

pub record SomeBuffer (o f : List ℕ) (k : ℕ) (b : List ℕ) : Type 0 where
  pub buffer : List ℕ
  pub overwritten : Overwritten o buffer f k b
