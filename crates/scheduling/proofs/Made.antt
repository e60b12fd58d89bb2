-- The theorem of the timetable maker, from document 01, "Making the timetable": what holds of the steps that the making rule makes of a
-- plan whose moves are each legal at its turn.
--
--     step_short          a step with a move takes at most 3 bytes for each of its moves
--     steps_short         steps with moves take at most 3 bytes for each move
--     steps_few           there are at most as many steps with moves as moves
--     leads_size          a step that is legal at its turn has at most as many moves as there are racks, and fewer than there are positions
--     plan_scheduled      the moves of a plan, timed by the rule, are scheduled
--     steps_made          the made steps are those of the moves latest first
--     history_lefts, made-lefts    no two moves that the rule puts into one step leave the same position
--     Made F A ms B       what holds of the steps made of the plan ms, which leads from A to B on the floor F
--     made                it holds of every plan that leads from a sound arrangement to B
--     made_replayed       so it does of every plan whose replay ends at B
-- Assumes nothing.
use Prim.Native.Nat.{ℕ, zero, suc, ◌+◌, ◌-◌, ◌*◌, ◌≤◌, ◌<◌, min}
use mathlib.Core.Path.{◌≡◌, refl, ◌∙◌, ap}
use mathlib.Core.List.Memᴰ
use mathlib.Core.List.{List, [], ◌∷◌, reverse_aux, Memᴰ}
use native.Mathlib.Omega.{arith}
use lib.ListN.{length, length-append}
use Rattle.order.specs.Floor.{Floor}
use Rattle.motion.specs.Arrangement.{Arrangement, rack_at}
use Rattle.motion.proofs.ArrangementLaws.{rack_at_finds}
use Rattle.motion.proofs.MoveLaws.{legal_parts, after-length}
use Rattle.motion.specs.Replay.{ended, replay_moves, replay_steps}
use Rattle.motion.proofs.StepDecision.{legal_step?}
use Rattle.motion.proofs.Lawful.{Leads, LeadsSteps, still, ◌then◌, replay_moves_ended, replay_steps_ended}
use Rattle.motion.specs.Sound.{Sound}
use Rattle.motion.proofs.ListLaws.{by_member, KeysDiffer}
use Rattle.motion.proofs.StepTestsLaws.{left}
use Rattle.motion.proofs.LegalStepLaws.{legal_step_iff}
use Rattle.motion.proofs.StepLimits.{step_size}
use Rattle.field.proofs.PackingLaws.{length-pack}
use Rattle.timetable.specs.Timetable.{move_total}
use Rattle.window.specs.Rows.{step_bytes, steps_bytes}
use Rattle.scheduling.specs.Making.{Timed, turn_for, timed, greatest, moves_in, in_step, steps_from, made_steps}
use Rattle.scheduling.proofs.Timing.{Ruled, none, ruled_timed, turn_for_by_rule, ruled_filled, length-moves_in, steps_total}
use Rattle.scheduling.proofs.Timing.{steps_length_lem, steps_at, history, history_length, history_greatest, history_made}
use Rattle.scheduling.proofs.Timing.{history_differ}
use Rattle.scheduling.proofs.Schedule.{Scheduled, scheduled_none, scheduled_more, scheduled_leads}

pub step_short : (ms : List (ℕ × ℕ)) → 1 ≤ length ms → length (step_bytes ms) ≤ 3 * length ms
unfolding step_bytes
step_short ms h = omega (arith, length-pack ms)

pub steps_short : (steps : List (List (ℕ × ℕ))) → ((ms : List (ℕ × ℕ)) → Memᴰ ms steps → 1 ≤ length ms)
    → length (steps_bytes steps) ≤ 3 * move_total steps
unfolding steps_bytes move_total
steps_short [] h = omega arith
steps_short (ms ∷ steps) h = omega (
  arith,
  length-append (step_bytes ms) (steps_bytes steps),
  step_short ms (h ms (Memᴰ.head refl)),
  steps_short steps (λ x k. h x (Memᴰ.tail k)),
)

pub steps_few : (steps : List (List (ℕ × ℕ))) → ((ms : List (ℕ × ℕ)) → Memᴰ ms steps → 1 ≤ length ms) → length steps ≤ move_total steps
unfolding move_total
steps_few [] h = omega arith
steps_few (ms ∷ steps) h = omega (arith, h ms (Memᴰ.head refl), steps_few steps (λ x k. h x (Memᴰ.tail k)))

pub leads_size : (F : Floor) {A B : Arrangement} {steps : List (List (ℕ × ℕ))} → LeadsSteps F A steps B → (ms : List (ℕ × ℕ))
    → Memᴰ ms steps → length ms ≤ min (length A) (F.positions - 1)
leads_size F still ms k = absurd (Memᴰ.not-nil k)
leads_size F (◌then◌ {A = A} {x = x} {xs = steps} l p) ms k =
    by_member k (λ e. rw e (omega (arith, step_size x ((legal_step_iff F A x).0 l)))) (λ n. rw (after-length A x) at (leads_size F p ms n))

pub plan_scheduled : {F : Floor} {A B C : Arrangement} {l : List Timed} {ms : List (ℕ × ℕ)} → Scheduled F A l B → Leads F B ms C
    → Scheduled F A (reverse_aux (timed B l ms) l) C
unfolding timed
plan_scheduled s still = s
plan_scheduled {F} {l} s (◌then◌ {A = B} {x = m} legal p) =
    let w = rack_at_finds B m.0 ((legal_parts F B m).0 legal).1 in
    let turn = turn_for l (rack_at B m.0) m in
    let t : Timed = record { rack = rack_at B m.0; move = m; step = turn.0; place = turn.1 } in
    plan_scheduled (scheduled_more s t legal w.0 w.1 w.2 w.3 (turn_for_by_rule l (rack_at B m.0) m)) p

pub record Made (F : Floor) (A : Arrangement) (ms : List (ℕ × ℕ)) (B : Arrangement) : Type 0 where
  -- each step is legal at its turn, and the last comes to where the plan does
  pub replayed : replay_steps (legal_step? F) A (made_steps A ms) ≡ ended B
  -- as many steps as the greatest step given, and at most as many as moves
  pub count : length (made_steps A ms) ≡ greatest (timed A [] ms)
  pub few : length (made_steps A ms) ≤ length ms
  -- as many moves as the plan has
  pub moves : move_total (made_steps A ms) ≡ length ms
  -- each step has a move, at most one for each rack, and fewer than there are positions
  pub filled : (step : List (ℕ × ℕ)) → Memᴰ step (made_steps A ms) → 1 ≤ length step
  pub most : (step : List (ℕ × ℕ)) → Memᴰ step (made_steps A ms) → length step ≤ min (length A) (F.positions - 1)
  -- so with its head of 3 bytes the record fits into "3 × k + 3 bytes"
  pub short : length (steps_bytes (made_steps A ms)) ≤ 3 * length ms

module _ (F : Floor) {A B : Arrangement} {ms : List (ℕ × ℕ)} (sound : Sound F.positions A) (leads : Leads F A ms B) where
  scheduled : Scheduled F A (history A ms) B
  scheduled = plan_scheduled (scheduled_none F A sound) leads

  ruled : Ruled (history A ms)
  ruled = ruled_timed A [] ms none

  pub steps_made : made_steps A ms ≡ steps_from 1 (greatest (history A ms)) (history A ms)
  steps_made = history_made A ms (λ i. (scheduled.steps i).lefts)

  made_leads : LeadsSteps F A (made_steps A ms) B
  made_leads = rw steps_made (scheduled_leads scheduled)

  made_filled : (step : List (ℕ × ℕ)) → Memᴰ step (made_steps A ms) → 1 ≤ length step
  made_filled step k =
      let w = steps_at (greatest (history A ms)) 1 (history A ms) step (rw steps_made at k) in
      has_move w.0 w.1 w.2 w.3
    where
      has_move : (j : ℕ) → 1 ≤ j → j < 1 + greatest (history A ms) → step ≡ moves_in j (history A ms) → 1 ≤ length step
      has_move zero h b e = absurd (omega arith)
      has_move (suc i) h b e = rw (e, length-moves_in (suc i) (history A ms)) (ruled_filled ruled i (omega arith))

  made-total : move_total (made_steps A ms) ≡ length ms
  made-total = ap move_total steps_made ∙ steps_total ruled (greatest (history A ms)) (omega arith) ∙ history_length A ms

  pub history_lefts : (i : ℕ) → KeysDiffer left (in_step (suc i) (history A ms))
  history_lefts i = (scheduled.steps i).lefts

  pub made-lefts : (i : ℕ) → KeysDiffer left (in_step (suc i) (timed A [] ms))
  made-lefts i = history_differ A ms (suc i) (history_lefts i)

  pub made : Made F A ms B
  made =
      record {
        replayed = (replay_steps_ended F A (made_steps A ms) B).1 made_leads;
        count = ap length steps_made ∙ steps_length_lem (greatest (history A ms)) 1 (history A ms) ∙ history_greatest A ms;
        few = omega (arith, steps_few (made_steps A ms) made_filled, made-total);
        moves = made-total;
        filled = made_filled;
        most = leads_size F made_leads;
        short = omega (arith, steps_short (made_steps A ms) made_filled, made-total);
      }

pub made_replayed : (F : Floor) (A : Arrangement) (ms : List (ℕ × ℕ)) (B : Arrangement) → Sound F.positions A
    → replay_moves F A ms ≡ ended B → Made F A ms B
made_replayed F A ms B sound e = made F sound ((replay_moves_ended F A ms B).0 e)
