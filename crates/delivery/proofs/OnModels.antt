-- Demand 3 on the floors that are sold by model: with two vacancies every order on such a floor is delivered, whoever wrote it, and so is
-- what a short order is written out as.
--
--     model_delivered     every order on a model's floor
--     short_delivered     what an accepted short order is written out as
-- Each model has such an order: `model_order` (crates/models/proofs/EveryShort.antt).
-- Assumes nothing.
use Prim.Native.Nat.{ℕ, ◌+◌, ◌≤◌}
use mathlib.Core.Path.{◌≡◌}
use mathlib.Core.List.{List}
use lib.ListN.{length}
use Rattle.answers.specs.Answer.{Answer, accepted}
use Rattle.order.specs.Order.{position_count, rack_count}
use Rattle.models.specs.Expansion.{expanded, expand_answer}
use Rattle.models.specs.Theorems.{HasModel}
use Rattle.models.proofs.Theorems.{model_plannable, short_plannable}
use Rattle.planner.specs.Planner.{PlanMade}
use Rattle.delivery.specs.Theorems.{Delivered}
use Rattle.delivery.proofs.DeliveryLaws.{plan_room, delivered}

pub model_delivered : (o : List ℕ) (k : ℕ) → HasModel o k → rack_count o + 2 ≤ position_count o
    → (P : List ℕ) {a : Answer} {P' : List ℕ} → plan_room o ≤ length P → PlanMade o P a P' → Delivered o P a P'
model_delivered o k on vacancies P room m = delivered o P (model_plannable o k on vacancies) room m

pub short_delivered : (s : List ℕ) (n : ℕ) (v : List ℕ) → expand_answer s n ≡ accepted v
    → rack_count (expanded s) + 2 ≤ position_count (expanded s)
    → (P : List ℕ) {a : Answer} {P' : List ℕ} → plan_room (expanded s) ≤ length P → PlanMade (expanded s) P a P'
    → Delivered (expanded s) P a P'
short_delivered s n v a vacancies P room m = delivered (expanded s) P (short_plannable s n v a vacancies) room m
