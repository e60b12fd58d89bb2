-- Whether a step is legal, decided by the test `legal_step`. A decision is believed by its type.
--
--     by_test            a test that passes exactly where something holds decides it
--     legal_step? F A ms  the step ms is legal on the arrangement A of the floor F or not
--     fault_any          any two decisions of the same say the same, and give the same fault
--     step_fault_is       the fault of a step by this decision is 0 where the test passes, and 42 where not
-- Assumes nothing.
use Prim.Native.Nat.{ℕ}
use mathlib.Core.Path.{◌≡◌, refl}
use mathlib.Core.Bool.{Bool, true, false, cond}
use mathlib.Core.Logic.{◌↔◌}
use mathlib.Core.List.{List}
use lib.Dec.{T}
use Rattle.answers.specs.Answer.{holds}
use Rattle.order.specs.Floor.{Floor}
use Rattle.motion.specs.Arrangement.{Arrangement}
use Rattle.motion.specs.Step.{legal_step}
use Rattle.motion.specs.LegalStep.{LegalStep}
use Rattle.motion.specs.Replay.{step_fault}
use Rattle.motion.proofs.LegalStepLaws.{legal_step_iff}

unfoldable pub by_test : {L : Type 0} (t : Bool) → T t ↔ L → Dec L
by_test true i = yes (i.0 tt)
by_test false i = no (λ l. i.1 l)

unfoldable pub legal_step? : (F : Floor) (A : Arrangement) (ms : List (ℕ × ℕ)) → Dec (LegalStep F A ms)
unfolding by_test
legal_step? F A ms = by_test (legal_step F A ms) (legal_step_iff F A ms)

pub fault_any : {L : Type 0} (d e : Dec L) → holds d ≡ holds e
fault_any (yes l) (yes k) = refl
fault_any (yes l) (no g) = absurd (g l)
fault_any (no f) (yes k) = absurd (f k)
fault_any (no f) (no g) = refl

pub step_fault_is : (F : Floor) (A : Arrangement) (ms : List (ℕ × ℕ)) → step_fault (legal_step? F) A ms ≡ cond (legal_step F A ms) 0 42
unfolding step_fault legal_step? by_test
step_fault_is F A ms = by_either (legal_step F A ms) (legal_step_iff F A ms)
  where
    by_either : {L : Type 0} (t : Bool) (i : T t ↔ L) → ◌≡◌ {A = ℕ} (cond (holds (by_test t i)) 0 42) (cond t 0 42)
    by_either true i = refl
    by_either false i = refl
