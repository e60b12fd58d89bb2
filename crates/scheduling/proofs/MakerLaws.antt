-- The theorem of the timetable maker, on records: for every plan that the plan checker accepts, the record that the maker writes is short
-- enough for its buffer, and the timetable checker accepts it.
--
--     steps_packable                 steps that lead anywhere have room in the record's fields
--     made_of_lem                        the made steps of an accepted plan lead from the starts to the goals
--     made_packable                  so have the made steps
--     Timetabled o p, timetabled     the made record is at most 3 × k + 3 bytes long, and the timetable checker accepts it,
--                                    with s steps and k moves
--     MakerGave o p n v, maker_gave  what acceptance by the maker tells: the plan is accepted, the buffer has room, and the answer is s
--     maker_record                   the buffer afterwards begins with a record that the timetable checker accepts
-- Assumes nothing.
use Prim.Native.Nat.{ℕ, ◌+◌, ◌*◌, ◌^◌, ◌≤◌, ◌<◌}
use mathlib.Core.Path.{◌≡◌, refl, sym, ap, ap₂, ◌∙◌}
use mathlib.Core.List.{List, [], ◌∷◌, ◌++◌, Memᴰ}
use native.Mathlib.Omega.{arith}
use borrow.Author.Tests.{ltb-false}
use lib.ListN.{length, drop, length-append}
use lib.Dec.{ltb}
use Rattle.answers.specs.Answer.{Answer, accepted, refuse}
use Rattle.answers.proofs.AnswerLaws.{refuse_not, refuse_else, pass_up-low, pass_up-high, pass_up_accepted}
use Rattle.recording.specs.Head.{head_bytes}
use Rattle.recording.proofs.HeadLaws.{length-head_bytes}
use Rattle.field.proofs.BitLaws.{field_lt}
use Rattle.field.specs.Bytes.{BelowPairs, none₂, more₂}
use Rattle.order.specs.Floor.{Floor}
use Rattle.field.specs.Writing.{left_by}
use Rattle.field.proofs.WritingLaws.{written_front}
use Rattle.order.specs.Order.{floor_of, starts_of, goals_of, counts, order_answer}
use Rattle.motion.specs.Arrangement.{Arrangement}
use Rattle.motion.specs.Replay.{ended, replay_steps}
use Rattle.motion.proofs.StepDecision.{legal_step?}
use Rattle.motion.proofs.Lawful.{LeadsSteps, still, ◌then◌, replay_steps_ended}
use Rattle.motion.specs.StepTests.{OnFloor}
use Rattle.motion.proofs.LegalStepLaws.{legal_step_iff}
use Rattle.motion.proofs.StepLimits.{step_size}
use Rattle.motion.specs.Judgement.{judged}
use Rattle.motion.proofs.JudgementLaws.{judged_accepted}
use Rattle.plan.specs.Plan.{move_count, plan_moves, plan_answer}
use Rattle.plan.proofs.PlanRecord.{moves-counted}
use Rattle.plan_check.proofs.Accepted.{PlanGave, plan_gave}
use Rattle.timetable.specs.Timetable.{timetable_record, step_count, steps_of, timetable_answer, move_total}
use Rattle.timetable.proofs.TimetableRecord.{Steps, no_steps, one_step, Packable, count_record, steps_of_record, record_well_packed}
use Rattle.scheduling.specs.Making.{timed, greatest, made_steps}
use Rattle.scheduling.proofs.Made.{Made, made}
use Rattle.window.specs.Rows.{steps_bytes}
use Rattle.scheduling.proofs.RecordBytes.{record_bytes}
use Rattle.scheduling.specs.Maker.{made_of, maker_answer, buffer_after, Timetabled}

moves_below : (F : Floor) → F.positions ≤ 64 → (ms : List (ℕ × ℕ)) → ((m : ℕ × ℕ) → Memᴰ m ms → OnFloor F m) → BelowPairs 64 ms
moves_below F few [] h = none₂
moves_below F few (m ∷ ms) h =
    let t = h m (Memᴰ.head refl) in
    more₂ {p = m} (omega (arith, t.left_below)) (omega (arith, t.entered_below)) (moves_below F few ms (λ x k. h x (Memᴰ.tail k)))

pub steps_packable : (F : Floor) → F.positions ≤ 64 → {A B : Arrangement} {steps : List (List (ℕ × ℕ))} → LeadsSteps F A steps B
    → Steps steps
steps_packable F few still = no_steps
steps_packable F few (◌then◌ {A = A} {x = ms} l rest) =
    let s = (legal_step_iff F A ms).0 l in
    one_step {ms = ms} (omega (arith, step_size ms s)) (moves_below F few ms s.joins) (steps_packable F few rest)

module _ (o p v : List ℕ) (e : plan_answer o p ≡ accepted v) where
  gave : PlanGave o p v
  gave = plan_gave o p v e

  pub made_of_lem : Made (floor_of o) (starts_of o) (plan_moves p) (goals_of o)
  made_of_lem = made (floor_of o) gave.placed_well.starts_sound gave.leads

  count_small : move_count p < 2 ^ 22
  unfolding move_count
  count_small = field_lt p 0 22

  pub made_packable : Packable (made_of o p)
  unfolding made_of
  made_packable =
      record {
        few_steps = omega (arith, made_of_lem.few, moves-counted p, count_small);
        steps_fit = steps_packable (floor_of o) gave.placed_well.few_positions
            ((replay_steps_ended (floor_of o) (starts_of o) (made_steps (starts_of o) (plan_moves p)) (goals_of o)).0 made_of_lem.replayed);
      }

  made_short : length (timetable_record (made_of o p)) ≤ 3 * move_count p + 3
  made_short =
      let parts =
      ap length (record_bytes (made_of o p) made_packable) ∙ length-append (head_bytes (length (made_of o p)) 0)
      (steps_bytes (made_of o p)) in
      let few : length (steps_bytes (made_of o p)) ≤ 3 * length (plan_moves p) = unfold made_of in
      made_of_lem.short in omega (arith, parts, length-head_bytes (length (made_of o p)) 0, few, moves-counted p)

  steps_counted : length (made_of o p) ≡ greatest (timed (starts_of o) [] (plan_moves p))
  unfolding made_of
  steps_counted = made_of_lem.count

  moves-total : move_total (made_of o p) ≡ length (plan_moves p)
  unfolding made_of
  moves-total = made_of_lem.moves

  made-counts : step_count (timetable_record (made_of o p)) ∷ move_total (steps_of (timetable_record (made_of o p))) ∷ []
      ≡ greatest (timed (starts_of o) [] (plan_moves p)) ∷ move_count p ∷ []
  made-counts =
      let r = timetable_record (made_of o p) in
      let steps : step_count r ≡ greatest (timed (starts_of o) [] (plan_moves p)) = count_record (made_of o p)
      made_packable ∙ steps_counted in
      let moves : move_total (steps_of r) ≡ move_count p =
      ap move_total (steps_of_record (made_of o p) made_packable) ∙ moves-total ∙ moves-counted p in
      ap₂ (λ (x y : ℕ). x ∷ y ∷ []) steps moves

  made_replayed : replay_steps (legal_step? (floor_of o)) (starts_of o) (steps_of (timetable_record (made_of o p))) ≡ ended (goals_of o)
  made_replayed = rw (steps_of_record (made_of o p) made_packable) (unfold made_of in made_of_lem.replayed)

  at-goals : (v : List ℕ) → judged 43 (goals_of o) v (ended (goals_of o)) ≡ accepted v
  at-goals v =
      (judged_accepted 43 (goals_of o) v v (ended (goals_of o)) (λ A q. let g : goals_of o ≡ A = cc in ap length (sym g))).1 (refl, refl)

  made_checked : timetable_answer o (timetable_record (made_of o p))
      ≡ accepted (greatest (timed (starts_of o) [] (plan_moves p)) ∷ move_count p ∷ [])
  unfolding timetable_answer
  made_checked =
      let r = timetable_record (made_of o p) in
      let w = record_well_packed (made_of o p) made_packable in
      pass_up_accepted (order_answer o) _ (counts o) gave.order_right
      ∙ rw (w.length_right, w.padding_clear, made-counts, made_replayed) (at-goals _)

pub timetabled : (o p v : List ℕ) → plan_answer o p ≡ accepted v → Timetabled o p
timetabled o p v e = record { short = made_short o p v e; checked = made_checked o p v e }

pub record MakerGave (o p : List ℕ) (n : ℕ) (v : List ℕ) : Type 0 where
  pub plan_accepted : plan_answer o p ≡ accepted (move_count p ∷ [])
  pub room : 3 * move_count p + 3 ≤ n
  pub steps_are : v ≡ greatest (timed (starts_of o) [] (plan_moves p)) ∷ []

pub maker_gave : (o p : List ℕ) (n : ℕ) (v : List ℕ) → maker_answer o p n ≡ accepted v → MakerGave o p n v
unfolding maker_answer
maker_gave o p n v e =
    let made = accepted (greatest (timed (starts_of o) [] (plan_moves p)) ∷ []) in
    let above = refuse (ltb n (3 * move_count p + 3)) 44 0 made in
    let low = pass_up-low (plan_answer o p) above v e in
    let high : above ≡ accepted v = pass_up-high (plan_answer o p) above v e in
    let given : made ≡ accepted v = refuse_else (ltb n (3 * move_count p + 3)) 44 0 made v high in
    record {
      plan_accepted = low.1 ∙ ap accepted (sym (plan_gave o p low.0 low.1).counted);
      room = ltb-false n (3 * move_count p + 3) (refuse_not (ltb n (3 * move_count p + 3)) 44 0 made v high);
      steps_are = cc;
    }

-- the record stands in front of the buffer, and is one that the timetable checker accepts
pub maker_record : (o p B v : List ℕ) → maker_answer o p (length B) ≡ accepted v
    → (buffer_after o p B ≡ timetable_record (made_of o p) ++ drop (length (timetable_record (made_of o p))) B) × Timetabled o p
unfolding buffer_after
maker_record o p B v e =
    let r = timetable_record (made_of o p) in (
      ap (λ (a : Answer). left_by a r B) e ∙ written_front B r,
      timetabled o p (move_count p ∷ []) (maker_gave o p (length B) v e).plan_accepted,
    )
