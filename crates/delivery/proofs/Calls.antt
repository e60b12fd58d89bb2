-- The three calls as the code makes them.
--
--     both                what is promised of the calls, and demand 3 with it
--     plan_made           a plan, told by the planner's result
--     few_moves, plan_ends, timetable_ends    the records that are handed on end within their buffers
--     found_there         the timetable that the maker made is found
--     refused_plan        the planner refuses
--     refused_timetable   the maker refuses
--     all_called          the checker answers
-- Assumes nothing.
use Prim.Native.Nat.{ℕ, ◌+◌, ◌*◌, ◌/◌, ◌^◌, ◌≤◌, ◌<◌}
use mathlib.Core.Path.{◌≡◌, sym, ap, ◌∙◌, subst}
use mathlib.Core.List.{List, [], ◌∷◌}
use native.Mathlib.Omega.{arith}
use lib.ListN.{length, take}
use Rattle.std.specs.Prelude.{Result, Ok, Err, Some, None}
use Rattle.answers.specs.Answer.{accepted}
use Rattle.answers.specs.Found.{found}
use Rattle.answers.specs.declared.Refusal.{Refusal}
use Rattle.answers.proofs.AnswerLaws.{some_found, none_found}
use Rattle.field.specs.Units.{record_length}
use Rattle.timetable.specs.Timetable.{timetable_answer}
use Rattle.timetable.specs.RecordLength.{whole_timetable_length}
use Rattle.timetable.specs.Checking.{answer_of_check}
use Rattle.timetable.specs.declared.Counts.{Counts}
use Rattle.scheduling.specs.Maker.{maker_answer, buffer_after, answer_of as answer_of_maker}
use Rattle.planner.specs.Planner.{PlanMade, answer_of}
use Rattle.planner.proofs.PlannerLaws.{moves_few}
use Rattle.delivery.specs.Delivery.{not_reached, answered, Answers, plan_length, plan_alone, Called, unplanned, untimed}
use Rattle.delivery.specs.Delivery.{checked, DeliversBy}
use Rattle.delivery.specs.Theorems.{timetable_alone}
use Rattle.delivery.proofs.DeliveryLaws.{plan-within, length-within, found-made, delivered_by}

pub both : {o P T : List ℕ} {a : Answers} {P' T' : List ℕ} → Called o P T a P' T' → Called o P T a P' T' × DeliversBy o P T a P' T'
both {o} {P} {T} c = (c, delivered_by o P T c)

module _ {o P P' : List ℕ} where
  pub plan_made : {v : Result ℕ Refusal} {k : ℕ} → v ≡ Ok k → PlanMade o P (answer_of v) P' → PlanMade o P (accepted (k ∷ [])) P'
  plan_made e h = subst (λ (v : Result ℕ Refusal). PlanMade o P (answer_of v) P') e h

  module _ {v : Result ℕ Refusal} {k : ℕ} (e : v ≡ Ok k) (h : PlanMade o P (answer_of v) P') where
    pub few_moves : k < 2 ^ 22
    few_moves = moves_few (plan_made e h)

    pub plan_ends : 3 + (6 * (3 * k) + 7) / 8 ≤ length P'
    unfolding plan_length record_length
    plan_ends = plan-within (plan_made e h)

pub timetable_ends : (T : List ℕ) {n : ℕ} → Some n ≡ found (whole_timetable_length T) → n ≤ length T
timetable_ends T e = omega (arith, length-within T, (some_found _ _ e).0)

pub refused_plan : {o P T P' : List ℕ} (v : Result ℕ Refusal) {r : Refusal} → v ≡ Err r → PlanMade o P (answer_of v) P'
    → Called o P T (record { planner = answer_of v; maker = not_reached; checker = not_reached }) P' T
refused_plan (Ok k) e h = absurd (cc e)
refused_plan (Err r) e h = unplanned h

pub found_there : (o p T : List ℕ) {T' : List ℕ} {w : Result ℕ Refusal} {s : ℕ} → w ≡ Ok s → answer_of_maker w ≡ maker_answer o p (length T)
    → T' ≡ buffer_after o p T → None ≡ found (whole_timetable_length T') → ⊥
found_there o p T e answer left none =
    found-made o p T _ (sym answer ∙ ap answer_of_maker e) (sym (ap whole_timetable_length left) ∙ none_found _ none)

-- the maker is handed p, and the checker t
module _ {o P T P' T' : List ℕ} (k : ℕ) (plan : PlanMade o P (accepted (k ∷ [])) P') (w : Result ℕ Refusal) (p : List ℕ)
    (answer : answer_of_maker w ≡ maker_answer o p (length T)) (left : T' ≡ buffer_after o p T) (alone : p ≡ plan_alone k P') where
  pub refused_timetable : {r : Refusal} → w ≡ Err r
      → Called o P T (record { planner = accepted (k ∷ []); maker = answered (answer_of_maker w); checker = not_reached }) P' T'
  refused_timetable e = rw e (untimed plan (rw alone at (sym answer ∙ ap answer_of_maker e)) (rw alone at left))

  pub all_called : {s : ℕ} → w ≡ Ok s → (x : Result Counts Refusal) (t : List ℕ) → answer_of_check x ≡ timetable_answer o t
      → t ≡ timetable_alone T'
      → Called o P T (record {
        planner = accepted (k ∷ []);
        maker = answered (accepted (s ∷ []));
        checker = answered
            (answer_of_check x);
      }) P'
      T'
  all_called e x t ex et =
      checked plan (rw alone at (sym answer ∙ ap answer_of_maker e)) (rw alone at left) (ex ∙ ap (timetable_answer o) et)
