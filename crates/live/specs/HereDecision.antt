-- Whether a step is legal on a picture, decided by tests. A decision is believed by its type.
--
--     knows n m            both positions of the move m are below n
--     legal_test P F ms     the test
--     legal_test_iff        it passes exactly if the step is legal on the picture
--     legal_here? P F ms    the step ms is legal on the picture P by the floor F or not
-- Assumes nothing.
use Rattle.std.specs.Prelude.{ℕ, ◌<◌, Bool, ◌&&◌, ◌↔◌, T, ltb}
use mathlib.Core.List.{List, Memᴰ}
use Rattle.std.proofs.Common.{ltb→lt, lt→ltb}
use Rattle.order.specs.Floor.{Floor}
use Rattle.motion.specs.Step.{every, legal_step}
use Rattle.motion.proofs.Test.{and_parts}
use Rattle.motion.proofs.StepTestsLaws.{every_iff}
use Rattle.motion.proofs.LegalStepLaws.{legal_step_iff}
use Rattle.motion.proofs.StepDecision.{by_test}
use Rattle.live.specs.Picture.{Picture, standing, LegalHere}
use Rattle.stepping.specs.Judging.{knows}

unfoldable pub legal_test : Picture → Floor → List (ℕ × ℕ) → Bool
legal_test P F ms = every (knows P.positions) ms && legal_step F (standing P) ms

knows_iff : (n : ℕ) (m : ℕ × ℕ) → T (knows n m) ↔ ((m.0 < n) × (m.1 < n))
unfolding knows
knows_iff n m = (
  λ t. let w = (and_parts (ltb m.0 n) (ltb m.1 n)).0 t in (ltb→lt m.0 n w.0, ltb→lt m.1 n w.1),
  λ w. (and_parts (ltb m.0 n) (ltb m.1 n)).1 (lt→ltb m.0 n w.0, lt→ltb m.1 n w.1),
)

pub legal_test_iff : (P : Picture) (F : Floor) (ms : List (ℕ × ℕ)) → T (legal_test P F ms) ↔ LegalHere P F ms
unfolding legal_test
legal_test_iff P F ms = (
  λ t.
      let w = (and_parts (every (knows P.positions) ms) (legal_step F (standing P) ms)).0 t in
      record {
        legal = (legal_step_iff F (standing P) ms).0 w.1;
        known = λ m k. (knows_iff P.positions m).0 ((every_iff (knows P.positions) ms).0 w.0 m k);
      },
  λ l.
      (and_parts (every (knows P.positions) ms) (legal_step F (standing P) ms)).1 (
        (every_iff (knows P.positions) ms).1 (λ m k. (knows_iff P.positions m).1 (l.known m k)),
        (legal_step_iff F (standing P) ms).1 l.legal,
      ),
)

unfoldable pub legal_here? : (P : Picture) (F : Floor) (ms : List (ℕ × ℕ)) → Dec (LegalHere P F ms)
unfolding by_test
legal_here? P F ms = by_test (legal_test P F ms) (legal_test_iff P F ms)
