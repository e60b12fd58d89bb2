-- What every call begins with: 60, then the checker's own numbers.
--
--     gate_lacking, gate_below, gate_passed   the gate's answer at each return
--     Admitted a o t k        an allowed call, with an order and a timetable that the checker accepts, of k steps
--     gate_told               what the gate's acceptance tells; order_let_in: so the order is well-formed
--     refused_below           a refusal by the gate is the call's, and leaves the picture; turned_away: the same of what `?` makes of it;
--                             refused_reading: a refused reading shows nothing
--     admitted_answer, admitted-picture   of an admitted call the rest decides
--     own_refused, own_accepted           the answer and the picture, where the rest is a refusal and where it is none
-- Assumes nothing.
use Prim.Native.Nat.{ℕ, ◌^◌, ◌<◌}
use mathlib.Core.Path.{◌≡◌, refl, sym, ap, ◌∙◌}
use mathlib.Core.Bool.{Bool, true, false, not}
use mathlib.Core.List.{List, [], ◌∷◌}
use native.Mathlib.Omega.{arith}
use Rattle.std.specs.Prelude.{Result, IsErrAnd}
use Rattle.answers.specs.Answer.{Answer, accepted, refused, refused_by, refuse, pass_up, the_count}
use Rattle.answers.proofs.AnswerLaws.{handed_on}
use Rattle.answers.specs.declared.Refusal.{Refusal}
use Rattle.order.specs.Order.{WellFormed}
use Rattle.timetable.specs.Reading.{total}
use Rattle.timetable.specs.Timetable.{step_count, parts_of, timetable_answer}
use Rattle.timetable_check.proofs.SizeLaws.{count_small}
use Rattle.timetable_check.proofs.Leading.{accepted_leads}
use Rattle.live.specs.Picture.{Picture}
use Rattle.live.specs.Roles.{Kind, reading}
use Rattle.live.specs.Calls.{allowed, own_answer, call_answer, changed, by_answer, picture_after, answer_of}
use Rattle.live.specs.Admitting.{gate_answer}
use Rattle.live.specs.declared.Role.{Role}

pub record Admitted (a : Bool) (o t : List ℕ) (k : ℕ) : Type 0 where
  pub is_allowed : a ≡ true
  pub counts : List ℕ
  pub is_accepted : timetable_answer o t ≡ accepted counts
  pub count_is : k ≡ step_count t

refused_not : {x : Type 0} {v : List ℕ} {n p : ℕ} → accepted v ≡ refused n p → x
refused_not e = let z : ◌≡◌ {A = ℕ} 0 1 = cc in absurd (omega arith)

module _ (a : Bool) (o t : List ℕ) where
  pub gate_lacking : a ≡ false → refused 60 0 ≡ gate_answer a o t
  unfolding gate_answer
  gate_lacking e = rw e refl

  pub gate_below : a ≡ true → {r : Answer} → r ≡ pass_up (timetable_answer o t) (accepted (step_count t ∷ [])) → r ≡ gate_answer a o t
  unfolding gate_answer
  gate_below e up = rw e up

  steps_are : (k m : ℕ) → accepted (k ∷ m ∷ []) ≡ timetable_answer o t → k ≡ step_count t
  steps_are k m b =
      let same : step_count t ∷ total (parts_of t) ∷ [] ≡ k ∷ m ∷ [] = ((accepted_leads o t (k ∷ m ∷ [])).0 (sym b)).counted in
      cc

  pub gate_few : (k m : ℕ) → accepted (k ∷ m ∷ []) ≡ timetable_answer o t → k < 2 ^ 32
  gate_few k m b = omega (arith, steps_are k m b, count_small t)

  pub gate_passed : a ≡ true → (k m : ℕ) → accepted (k ∷ m ∷ []) ≡ timetable_answer o t → accepted (k ∷ []) ≡ gate_answer a o t
  unfolding gate_answer
  gate_passed e k m b = rw (e, ← b, steps_are k m b) refl

  pub gate_told : (k : ℕ) → accepted (k ∷ []) ≡ gate_answer a o t → Admitted a o t k
  unfolding gate_answer
  gate_told k e = on a refl (timetable_answer o t) refl e
    where
      on : (b : Bool) → a ≡ b → (x : Answer) → timetable_answer o t ≡ x
          → accepted (k ∷ []) ≡ refuse (not b) 60 0 (pass_up x (accepted (step_count t ∷ []))) → Admitted a o t k
      on true q (accepted v) w e = record { is_allowed = q; counts = v; is_accepted = w; count_is = cc }
      on true q (refused n p) w e = refused_not e
      on false q x w e = refused_not e

  pub order_let_in : {k : ℕ} → accepted (k ∷ []) ≡ gate_answer a o t → WellFormed o
  order_let_in {k} e = let it = gate_told k e in ((accepted_leads o t it.counts).0 it.is_accepted).order_right

module _ (k : Kind) (r : Role) (P : Picture) (o t : List ℕ) where
  -- a refused call leaves the picture
  left_alone : (n p : ℕ) → call_answer k r P o t ≡ refused n p → P ≡ picture_after k r P o t
  unfolding picture_after
  left_alone n p e = rw e refl

  below_is : (n p : ℕ) → refused n p ≡ gate_answer (allowed k r P) o t → refused n p ≡ call_answer k r P o t
  unfolding call_answer gate_answer
  below_is n p e = on (allowed k r P) (timetable_answer o t) (own_answer k P o t) e
    where
      on : (b : Bool) (x own : Answer) → refused n p ≡ refuse (not b) 60 0 (pass_up x (accepted (step_count t ∷ [])))
          → refused n p ≡ refuse (not b) 60 0 (pass_up x own)
      on true (accepted v) own e = refused_not (sym e)
      on true (refused m q) own e = e
      on false x own e = e

  pub refused_below : (n p : ℕ) → refused n p ≡ gate_answer (allowed k r P) o t
      → (refused n p ≡ call_answer k r P o t) × (P ≡ picture_after k r P o t)
  refused_below n p e = let is = below_is n p e in (is, left_alone n p (sym is))

  module _ {c : ℕ} (a : Admitted (allowed k r P) o t c) where
    pub admitted_answer : call_answer k r P o t ≡ own_answer k P o t
    unfolding call_answer
    admitted_answer = rw (a.is_allowed, a.is_accepted) refl

    pub own_refused : (n p : ℕ) → own_answer k P o t ≡ refused n p → (refused n p ≡ call_answer k r P o t) × (P ≡ picture_after k r P o t)
    own_refused n p e = let is = admitted_answer ∙ e in (sym is, left_alone n p is)

    pub own_accepted : (v : List ℕ) → own_answer k P o t ≡ accepted v
        → (accepted v ≡ call_answer k r P o t) × (changed k P o t ≡ picture_after k r P o t)
    unfolding picture_after
    own_accepted v e = let is = admitted_answer ∙ e in (sym is, rw is refl)

-- v is what `?` makes of the gate's refusal e
pub turned_away : (k : Kind) (r : Role) (P : Picture) (o t : List ℕ) (v : Result ℕ Refusal) (e : Refusal) → IsErrAnd v (λ x. x ≡ e)
    → refused_by e.0 e.1 ≡ gate_answer (allowed k r P) o t → (answer_of v ≡ call_answer k r P o t) × (P ≡ picture_after k r P o t)
turned_away k r P o t v e is told =
    let below = refused_below k r P o t _ _ told in
    (handed_on the_count v e is below.0, below.1)

-- a refused reading shows nothing
pub refused_reading : (r : Role) (P : Picture) (o t : List ℕ) (v : Result ℕ Refusal) (e : Refusal) → IsErrAnd v (λ x. x ≡ e)
    → refused_by e.0 e.1 ≡ gate_answer (allowed reading r P) o t → (x : List ℕ)
    → (answer_of v ≡ call_answer reading r P o t) × (x ≡ by_answer (call_answer reading r P o t) P.racks x)
refused_reading r P o t v e is told x =
    let below = refused_below reading r P o t _ _ told in
    (handed_on the_count v e is below.0, rw (← below.0) refl)
