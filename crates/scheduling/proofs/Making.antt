-- The maker's answers: the plan checker's refusal passed up, 44, and the made timetable.
--
--     maker_refused     a refusal of the plan checker is the maker's, and the buffer stays
--     maker_short       44
--     maker_room, head_room  the steps and the head have room
--     maker_made        the answer and the buffer, once steps and head are written
--     steps_refused, steps_counted    the count of steps alone: a refusal of the plan checker passed up, and the count
-- Assumes nothing.
use Prim.Native.Nat.{ℕ, ◌+◌, ◌-◌, ◌*◌, ◌^◌, ◌≤◌, ◌<◌}
use mathlib.Core.Path.{◌≡◌, refl, sym, ap, ◌∙◌}
use mathlib.Core.Bool.{Bool}
use mathlib.Core.List.{List, [], ◌∷◌, ◌++◌}
use native.Mathlib.Omega.{arith}
use borrow.Author.Tests.{lt-ltb, le-ltb}
use lib.ListN.{length, take, drop}
use lib.Dec.{ltb}
use Rattle.std.specs.Prelude.{Result, IsErrAnd}
use Rattle.answers.specs.declared.Refusal.{Refusal}
use Rattle.answers.specs.Answer.{Answer, accepted, refused, refused_by, refuse, the_count}
use Rattle.answers.proofs.AnswerLaws.{pass_up_accepted, pass_up_refused, handed_up}
use Rattle.recording.specs.Head.{head_bytes}
use Rattle.recording.proofs.HeadLaws.{length-head_bytes, front_written}
use Rattle.field.specs.Listed.{moves_at}
use Rattle.field.specs.Writing.{written, left_by, Fits}
use Rattle.field.proofs.WritingLaws.{length-written}
use Rattle.order.specs.Order.{floor_of, starts_of}
use Rattle.plan.specs.Plan.{named, plan_moves, plan_answer}
use Rattle.plan_check.proofs.Accepted.{PlanGave, gave, count_is, count_below, tail-moves}
use Rattle.plan.proofs.PlanRecord.{moves-counted}
use Rattle.timetable.specs.Timetable.{timetable_record}
use Rattle.scheduling.specs.Making.{timed, greatest}
use Rattle.window.specs.Rows.{steps_bytes}
use Rattle.window.specs.Filling.{latest}
use Rattle.window.proofs.FillingLaws.{latest_few}
use Rattle.scheduling.specs.Windows.{all_steps}
use Rattle.scheduling.proofs.TabledSteps.{latest_rule, all_steps-made}
use Rattle.scheduling.proofs.RecordBytes.{record_bytes}
use Rattle.scheduling.specs.Maker.{made_of, maker_answer, buffer_after, made_count, steps_answer, answer_of}
use Rattle.scheduling.proofs.MakerLaws.{made_of_lem, made_packable}

-- the greatest step that a pass over an accepted plan finds is the rule's
rule_count : (o p : List ℕ) (k : ℕ) → accepted (k ∷ []) ≡ plan_answer o p → (n : Bool) → n ≡ named p
    → latest (moves_at n (take (length p - 3) (drop 3 p)) 0 k) ≡ made_count o p
rule_count o p k e n edition =
    let gives = gave o p k e in
    ap latest (tail-moves o p k e n edition)
    ∙ latest_rule (floor_of o) gives.placed_well.few_positions gives.placed_well.starts_sound gives.leads

module _ (o p B : List ℕ) where
  -- an answer of the maker, and what it leaves
  after_refusal : (n q : ℕ) → maker_answer o p (length B) ≡ refused n q → B ≡ buffer_after o p B
  unfolding buffer_after
  after_refusal n q e = sym (ap (λ (a : Answer). left_by a (timetable_record (made_of o p)) B) e)

  -- r is what `?` makes of the plan checker's refusal e
  pub maker_refused : (r : Result ℕ Refusal) (e : Refusal) → IsErrAnd r (λ x. x ≡ e) → refused_by e.0 e.1 ≡ plan_answer o p
      → (answer_of r ≡ maker_answer o p (length B)) × (B ≡ buffer_after o p B)
  unfolding maker_answer
  maker_refused r e is below =
      let up : maker_answer o p (length B) ≡ refused_by e.0 e.1 = sym (pass_up_refused (plan_answer o p) _ _ _ (sym below)) ∙ sym below in
      (handed_up the_count r e is below _, after_refusal _ _ up)

  module _ (k : ℕ) (e : accepted (k ∷ []) ≡ plan_answer o p) where
    gives : PlanGave o p (k ∷ [])
    gives = gave o p k e

    module _ (n : Bool) (edition : n ≡ named p) where
      steps_are : all_steps (moves_at n (take (length p - 3) (drop 3 p)) 0 k) ≡ made_of o p
      unfolding made_of
      steps_are =
          ap all_steps (tail-moves o p k e n edition)
          ∙ all_steps-made (floor_of o) gives.placed_well.few_positions gives.placed_well.starts_sound gives.leads

    answer_is : maker_answer o p (length B)
        ≡ refuse (ltb (length B) (3 * k + 3)) 44 0 (accepted (greatest (timed (starts_of o) [] (plan_moves p)) ∷ []))
    unfolding maker_answer
    answer_is = pass_up_accepted (plan_answer o p) _ (k ∷ []) (sym e) ∙ rw (count_is o p k e) refl

    pub maker_short : length B < 3 * k + 3 → (refused 44 0 ≡ maker_answer o p (length B)) × (B ≡ buffer_after o p B)
    maker_short h =
        let up : maker_answer o p (length B) ≡ refused 44 0 = answer_is ∙ rw (lt-ltb (length B) (3 * k + 3) h) refl in
        (sym up, after_refusal 44 0 up)

    module _ (n : Bool) (edition : n ≡ named p) (room : 3 * k + 3 ≤ length B) where
      up : maker_answer o p (length B) ≡ accepted (greatest (timed (starts_of o) [] (plan_moves p)) ∷ [])
      up = answer_is ∙ rw (le-ltb (length B) (3 * k + 3) room) refl

      few : length (steps_bytes (made_of o p)) ≤ 3 * k
      unfolding made_of
      few = omega (arith, (made_of_lem o p (k ∷ []) (sym e)).short, moves-counted p, (count_is o p k e))

      pub maker_room : Fits B 3 (steps_bytes (all_steps (moves_at n (take (length p - 3) (drop 3 p)) 0 k)))
      maker_room = rw (steps_are n edition) (record { room = omega (arith, few, room) })

      module _ (s : ℕ) (b : List ℕ) (es : s ≡ latest (moves_at n (take (length p - 3) (drop 3 p)) 0 k))
          (eb : b ≡ written B 3 (steps_bytes (all_steps (moves_at n (take (length p - 3) (drop 3 p)) 0 k)))) where
        count_few : s ≤ k
        count_few = omega (
          arith,
          es,
          ap latest (tail-moves o p k e n edition),
          latest_few (plan_moves p),
          moves-counted
              p,
          count_is o p k e,
        )

        pub head_room : (3 ≤ length b) × (s < 2 ^ 22)
        head_room = (
          omega (
            arith,
            ap length eb,
            length-written B 3 (steps_bytes (all_steps (moves_at n (take (length p - 3) (drop 3 p)) 0 k))) maker_room,
            room,
          ),
          omega (arith, count_few, (count_below o p k e)),
        )

        rule : s ≡ greatest (timed (starts_of o) [] (plan_moves p))
        rule = es ∙ rule_count o p k e n edition

        counted : s ≡ length (made_of o p)
        unfolding made_of
        counted = rule ∙ sym (made_of_lem o p (k ∷ []) (sym e)).count

        whole : timetable_record (made_of o p) ≡ head_bytes s 0 ++ steps_bytes (made_of o p)
        whole =
            record_bytes (made_of o p) (made_packable o p (k ∷ []) (sym e))
            ∙ ap (λ (n : ℕ). head_bytes n 0 ++ steps_bytes (made_of o p)) (sym counted)

        pub maker_made : (c : List ℕ) → c ≡ written b 0 (head_bytes s 0)
            → (accepted (s ∷ []) ≡ maker_answer o p (length B)) × (c ≡ buffer_after o p B)
        unfolding buffer_after
        maker_made c ec =
            let x = steps_bytes (made_of o p) in
            let behind : b ≡ written B 3 x = eb ∙ ap (λ (l : List (List (ℕ × ℕ))). written B 3 (steps_bytes l)) (steps_are n edition) in
            let buffer : c ≡ written B 0 (head_bytes s 0 ++ x) =
            ec ∙ ap (λ (l : List ℕ). written l 0 (head_bytes s 0)) behind
            ∙ front_written B (head_bytes s 0) x (length-head_bytes s 0) (omega (arith, few, room)) in (
              ap (λ (n : ℕ). accepted (n ∷ [])) rule ∙ sym up,
              buffer ∙ ap (written B 0) (sym whole) ∙ sym (ap (λ (a : Answer). left_by a (timetable_record (made_of o p)) B) up),
            )

module _ (o p : List ℕ) where
  pub steps_refused : (r : Result ℕ Refusal) (e : Refusal) → IsErrAnd r (λ x. x ≡ e) → refused_by e.0 e.1 ≡ plan_answer o p
      → answer_of r ≡ steps_answer o p
  unfolding steps_answer
  steps_refused r e is below = handed_up the_count r e is below _

  pub steps_counted : (k : ℕ) (e : accepted (k ∷ []) ≡ plan_answer o p) (n : Bool) → n ≡ named p → (s : ℕ)
      → s ≡ latest (moves_at n (take (length p - 3) (drop 3 p)) 0 k) → accepted (s ∷ []) ≡ steps_answer o p
  unfolding steps_answer
  steps_counted k e n edition s es =
      ap (λ (x : ℕ). accepted (x ∷ [])) (es ∙ rule_count o p k e n edition)
      ∙ sym (pass_up_accepted (plan_answer o p) _ (k ∷ []) (sym e))
