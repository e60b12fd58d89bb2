-- The layers of a checker: the order reader at the bottom, the reader of the record above it, and the judgement on top.
--
--     order_refused, record_refused, all_accepted    the checker's answer, by what the two readers below answered
-- Assumes nothing.
use Prim.Native.Nat.{ℕ}
use mathlib.Core.Path.{◌≡◌, sym, ◌∙◌}
use mathlib.Core.List.{List}
use Rattle.std.specs.Prelude.{Result, IsErrAnd}
use Rattle.answers.specs.Answer.{Answer, accepted, refused_by, pass_up, answer_by}
use Rattle.answers.specs.declared.Refusal.{Refusal}
use Rattle.answers.proofs.AnswerLaws.{handed_up, pass_up_accepted}
use Rattle.order.specs.Order.{order_answer}
use Rattle.tables.specs.Accepted.{OrderGave}
use Rattle.tables.proofs.AcceptedLaws.{gave_accepted}

-- b is the record reader's answer, c the judgement, and r what `?` makes of a refusal e below
module _ (o : List ℕ) {answer : Answer} (b c : Answer) (layers : answer ≡ pass_up (order_answer o) (pass_up b c)) where
  module _ {X : Type 0} (values : X → List ℕ) (r : Result X Refusal) (e : Refusal) (is : IsErrAnd r (λ x. x ≡ e)) where
    pub order_refused : refused_by e.0 e.1 ≡ order_answer o → answer_by values r ≡ answer
    order_refused down = handed_up values r e is down (pass_up b c) ∙ sym layers

  module _ {n e m : ℕ} (gave : OrderGave o n e m) where
    above_order : answer ≡ pass_up b c
    above_order = layers ∙ pass_up_accepted (order_answer o) (pass_up b c) _ (sym (gave_accepted gave))

    pub record_refused : {X : Type 0} (values : X → List ℕ) (r : Result X Refusal) (e : Refusal) → IsErrAnd r (λ x. x ≡ e)
        → refused_by e.0 e.1 ≡ b → answer_by values r ≡ answer
    record_refused values r e is down = handed_up values r e is down c ∙ sym above_order

    pub all_accepted : {w : List ℕ} → accepted w ≡ b → c ≡ answer
    all_accepted {w} record_is = sym (above_order ∙ pass_up_accepted b c w (sym record_is))
