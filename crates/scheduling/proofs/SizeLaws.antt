-- The size of a made timetable's count, for those who pack it.
--
--     steps_small    the steps that the maker answers are fewer than 2 ^ 22
-- Assumes nothing.
use Prim.Native.Nat.{ℕ, ◌^◌, ◌<◌}
use mathlib.Core.Path.{◌≡◌, sym}
use mathlib.Core.List.{List, [], ◌∷◌, head-eq_of_cons-eq}
use native.Mathlib.Omega.{arith}
use Rattle.answers.specs.Answer.{accepted}
use Rattle.field.proofs.BitLaws.{field_lt}
use Rattle.plan.specs.Plan.{move_count}
use Rattle.plan.proofs.PlanRecord.{moves-counted}
use Rattle.scheduling.specs.Maker.{maker_answer}
use Rattle.scheduling.proofs.MakerLaws.{maker_gave, made_of_lem}

pub steps_small : (o p : List ℕ) (n s : ℕ) → accepted (s ∷ []) ≡ maker_answer o p n → s < 2 ^ 22
unfolding move_count
steps_small o p n s e =
    let gave = maker_gave o p n (s ∷ []) (sym e) in
    let made = made_of_lem o p (move_count p ∷ []) gave.plan_accepted in
    omega (arith, head-eq_of_cons-eq gave.steps_are, made.count, made.few, moves-counted p, field_lt p 0 22)
