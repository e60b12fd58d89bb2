-- That a plan may improve on another, and may not, by computation on the definitions: the case book's plan with the racks named, and a
-- plan for the same order in which rack 1 first goes out and back.
--
--     case_detour            that plan: 0>1, 1>0, and then the case book's moves
--     detour_planned        the plan checker accepts it, so that `comparing::improves` may be asked
--     detour_steps, case_steps    its timetable has four steps, the case book's plan two
--     improves_met          the case book's plan improves on it
--     improves_not          it does not improve on the case book's plan, nor does that on itself
-- Assumes nothing.
use Prim.Native.Nat.{ℕ}
use mathlib.Core.Path.{◌≡◌, refl}
use mathlib.Core.List.{List, [], ◌∷◌}
use native.Mathlib.Omega.{arith}
use lib.Dec.{lit≤}
use Rattle.answers.specs.Answer.{accepted}
use Rattle.plan.specs.Plan.{move_count, plan_answer}
use Rattle.plan_check.proofs.Examples.{case_book, case_named, plan_open}
use Rattle.scheduling.specs.Maker.{made_count}
use Rattle.scheduling.proofs.MakerCases.{maker_open}
use Rattle.comparing.specs.Choosing.{Better, fewer_steps, fewer_moves, Improves}

abbrev case_detour : List ℕ
case_detour =
    0x00 ∷ 0x00 ∷ 0x19 ∷ 0x00 ∷ 0x10 ∷ 0x01 ∷ 0x00 ∷ 0x00 ∷ 0x01 ∷ 0x00 ∷ 0x30 ∷ 0x81 ∷ 0x08 ∷ 0x00 ∷ 0x41 ∷ 0x0C ∷ 0x00 ∷ []

pub detour_planned : plan_answer case_book case_detour ≡ accepted (move_count case_detour ∷ [])
unfolding plan_open
detour_planned = refl

detour_steps : made_count case_book case_detour ≡ 4
unfolding maker_open
detour_steps = refl

case_steps : made_count case_book case_named ≡ 2
unfolding maker_open
case_steps = refl

pub improves_met : Improves case_book case_detour case_named
unfolding plan_open
improves_met = record {
  edition_two = refl;
  checked = refl;
  few = lit≤ tt;
  better = fewer_steps (omega (arith, case_steps, detour_steps));
}

better_not : Better case_book case_named case_detour → ⊥
better_not (fewer_steps less) = omega (arith, case_steps, detour_steps)
better_not (fewer_moves same less) = omega (arith, case_steps, detour_steps)

better_itself : Better case_book case_named case_named → ⊥
better_itself (fewer_steps less) = omega arith
better_itself (fewer_moves same less) = omega arith

pub improves_not : (Improves case_book case_named case_detour → ⊥) × (Improves case_book case_named case_named → ⊥)
improves_not = (λ i. better_not i.better, λ i. better_itself i.better)
