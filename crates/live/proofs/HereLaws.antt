-- A step is legal on a picture exactly if it is legal by the tables.
--
--     held_standing     a rack stands at a position exactly if the picture's table has one there
--     here_is           what is decided is what the tables tell
--     here_yes          a step that is legal on the picture passes
-- Assumes nothing.
use Prim.Native.Nat.{ℕ, zero, suc, ◌+◌, ◌<◌}
use mathlib.Core.Path.{◌≡◌, refl, sym, ap, ◌∙◌}
use mathlib.Core.Bool.{Bool, true, false, not, cond, ◌&&◌}
use mathlib.Core.List.{List, [], ◌∷◌}
use mathlib.Core.Logic.{◌↔◌}
use native.Mathlib.Omega.{arith}
use native.Mathlib.Nat.{add-suc, suc-add, add-zero, zero-add}
use borrow.Author.Tests.{eq-eqb, ne_eqb}
use lib.Dec.{T, eqb}
use Rattle.field.specs.Bytes.{BelowPairs}
use Rattle.order.specs.Floor.{Floor, some}
use Rattle.order.specs.Order.{wrong_edges}
use Rattle.motion.specs.Arrangement.{occupied}
use Rattle.motion.specs.Step.{every}
use Rattle.motion.proofs.StepDecision.{by_test}
use Rattle.tables.specs.Tables.{held_at}
use Rattle.tables.proofs.MovesOnLaws.{matrix_of}
use Rattle.trains.proofs.LegalOn.{legal_step_same}
use Rattle.live.specs.Picture.{Picture, held_from, standing, LegalHere}
use Rattle.stepping.specs.Judging.{knows, legal_on}
use Rattle.live.specs.HereDecision.{legal_test, legal_test_iff, legal_here?}
use Rattle.answers.specs.Answer.{holds}

-- no position below p is listed
below_none : (p : ℕ) (h : List ℕ) (q : ℕ) → q < p → occupied (held_from p h) q ≡ false
unfolding occupied held_from some
below_none p [] q l = refl
below_none p (r ∷ h) q l = on (eqb r 0) (below_none (suc p) h q (omega arith))
  where
    on : (b : Bool) → some (λ x. eqb x q) (held_from (suc p) h) ≡ false
        → some (λ x. eqb x q) (cond b (held_from (suc p) h) (p ∷ held_from (suc p) h)) ≡ false
    on true rest = rest
    on false rest = rw (ne_eqb p q (λ e. omega arith)) rest

held_from_lem : (p : ℕ) (h : List ℕ) (i : ℕ) → occupied (held_from p h) (p + i) ≡ held_at h i
unfolding occupied held_from some held_at
held_from_lem p [] i = refl
held_from_lem p (r ∷ h) zero = rw (add-zero p) (on (eqb r 0))
  where
    on : (b : Bool) → some (λ x. eqb x p) (cond b (held_from (suc p) h) (p ∷ held_from (suc p) h)) ≡ not b
    on true = below_none (suc p) h p (omega arith)
    on false = rw (eq-eqb p p refl) refl
held_from_lem p (r ∷ h) (suc i) = rw (add-suc p i) (on (eqb r 0) (rw (suc-add p i) at (held_from_lem (suc p) h i)))
  where
    on : (b : Bool) → some (λ x. eqb x (suc (p + i))) (held_from (suc p) h) ≡ held_at h i
        → some (λ x. eqb x (suc (p + i))) (cond b (held_from (suc p) h) (p ∷ held_from (suc p) h)) ≡ held_at h i
    on true rest = rest
    on false rest = rw (ne_eqb p (suc (p + i)) (λ e. omega arith)) rest

pub held_standing : (P : Picture) (p : ℕ) → held_at P.racks p ≡ occupied (standing P) p
unfolding standing
held_standing P p = sym (rw (zero-add p) at (held_from_lem 0 P.racks p))

holds_test : {L : Type 0} (t : Bool) (i : T t ↔ L) → holds (by_test t i) ≡ t
unfolding by_test
holds_test true i = refl
holds_test false i = refl

module _ (F : Floor) (below : BelowPairs 64 F.edges) (right : wrong_edges F ≡ false) where
  pub here_is : (P : Picture) {ms : List (ℕ × ℕ)} → BelowPairs 64 ms → holds (legal_here? P F ms) ≡ legal_on F P.positions P.racks ms
  unfolding legal_here? legal_test legal_on
  here_is P {ms} b =
      holds_test (legal_test P F ms) (legal_test_iff P F ms)
      ∙ ap (λ (x : Bool). every (knows P.positions) ms && x)
      (sym (unfold matrix_of in legal_step_same F below right (standing P) P.racks (held_standing P) b))

pub here_yes : (P : Picture) (F : Floor) (ms : List (ℕ × ℕ)) → LegalHere P F ms → holds (legal_here? P F ms) ≡ true
unfolding legal_here?
here_yes P F ms l = holds_test (legal_test P F ms) (legal_test_iff P F ms) ∙ on (legal_test P F ms) ((legal_test_iff P F ms).1 l)
  where
    on : (b : Bool) → T b → b ≡ true
    on true t = refl
    on false t = absurd t
