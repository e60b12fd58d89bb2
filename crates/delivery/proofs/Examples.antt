-- Demand 3 on the case book's order, 08 0A 08 00 10 02 04 20 43 08 30 03 0C 00, for any buffers that are long enough: its hypotheses can be
-- met, and so can what the three calls promise.
--
--     order₁, moves₁     the order of "Programs", and the moves of its plan
--     room₁              the plan buffer that 23 asks for it is 1155 bytes long
--     delivered₁         with such a buffer it is delivered; the timetable buffer is 3 × k + 3 bytes long, of the k just planned
--     solves₁            the case book's moves solve it
--     called₁            so the three calls may answer 4 moves, 2 steps, and 2 steps with 4 moves
-- Assumes nothing.
use Prim.Native.Nat.{ℕ, ◌≤◌}
use mathlib.Core.Path.{◌≡◌, refl}
use mathlib.Core.Bool.{true}
use mathlib.Core.List.{List, [], ◌∷◌}
use native.Mathlib.Omega.{arith}
use lib.ListN.{length}
use lib.Dec.{lit≤}
use Rattle.answers.specs.Answer.{Answer, accepted}
use Rattle.field.specs.Bits.{bits, number, bits_of, field}
use Rattle.field.specs.Writing.{written}
use Rattle.order.specs.Order.{position_count, starts_of}
use Rattle.motion.specs.Replay.{replay_moves}
use Rattle.plan.specs.Plan.{plan_record}
use Rattle.plan_check.proofs.Examples.{plan_open}
use Rattle.scheduling.proofs.MakerCases.{maker_open}
use Rattle.scheduling.specs.Maker.{buffer_after}
use Rattle.floor.specs.CaseBookOrders.{three_in_ring}
use Rattle.floor.proofs.ExamplesLaws.{two_racks, plannable_met, ring_met}
use Rattle.method.specs.Moves.{Solves}
use Rattle.planner.specs.Planner.{PlanMade}
use Rattle.delivery.specs.Theorems.{Delivered}
use Rattle.delivery.specs.Delivery.{answered, Called}
use Rattle.delivery.proofs.DeliveryLaws.{plan_room, delivered, callable}

abbrev pub order₁ : List ℕ
order₁ = two_racks

-- 0>1, 3>2, 1>3, 2>0
abbrev pub moves₁ : List (ℕ × ℕ)
moves₁ = (0, 1) ∷ (3, 2) ∷ (1, 3) ∷ (2, 0) ∷ []

pub room₁ : (P : List ℕ) → 1155 ≤ length P → plan_room order₁ ≤ length P
unfolding position_count field number bits_of bits
room₁ P h = h

pub delivered₁ : (P : List ℕ) {a : Answer} {P' : List ℕ} → 1155 ≤ length P → PlanMade order₁ P a P' → Delivered order₁ P a P'
delivered₁ P h m = delivered order₁ P plannable_met (room₁ P h) m

-- and so is the ring of three positions with one rack
pub delivered₂ : (P : List ℕ) {a : Answer} {P' : List ℕ} → 489 ≤ length P → PlanMade three_in_ring P a P' → Delivered three_in_ring P a P'
delivered₂ P h m = delivered three_in_ring P ring_met (unfold position_count field number bits_of bits in h) m

pub solves₁ : Solves order₁ (position_count order₁) moves₁
unfolding plan_open replay_moves
solves₁ = record {
  few = lit≤ tt;
  replayed = refl;
  still = λ e. let z : ◌≡◌ {A = ℕ} 0 3 = cc e in absurd (omega arith);
}

pub called₁ : (P T : List ℕ) → 1155 ≤ length P → 15 ≤ length T
    → Called order₁ P T
    (record { planner = accepted (4 ∷ []); maker = answered (accepted (2 ∷ [])); checker = answered (accepted (2 ∷ 4 ∷ [])) })
    (written P 0 (plan_record true (starts_of order₁) moves₁)) (buffer_after order₁ (plan_record true (starts_of order₁) moves₁) T)
unfolding maker_open
called₁ P T h g = callable order₁ P plannable_met (room₁ P h) moves₁ solves₁ T g 2 refl
