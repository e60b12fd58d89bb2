-- The theorem: no legal timetable that keeps the routes and visits of a plan has fewer steps than the one made, and the one made is such a
-- timetable. Over lists of steps, and over records.
--
--     legal_leads        steps that are each legal at its turn lead somewhere, and steps that lead somewhere are
--     step_sound         a legal step keeps an arrangement sound
--     other_passes       a legal timetable that keeps routes and visits passes through the plan's
--     shortest           the theorem, for every plan whose moves are each legal at its turn
--     shortest_replayed  so for every plan whose replay ends somewhere
--     plan_shortest      so for every plan that the plan checker accepts
--     shortest_record    the theorem over records: for every plan of which the maker answers s steps
-- Assumes nothing.
use Prim.Native.Nat.{ℕ, suc, ◌≤◌}
use mathlib.Core.Path.{◌≡◌, refl, sym, ◌∙◌, ap, subst}
use mathlib.Core.Logic.{◌↔◌}
use mathlib.Core.List.{List, [], ◌∷◌, head-eq_of_cons-eq}
use native.Mathlib.Omega.{arith}
use lib.Dec.{T}
use lib.ListN.{length, get_or}
use Rattle.answers.specs.Answer.{accepted}
use Rattle.order.specs.Floor.{Floor}
use Rattle.order.specs.Order.{floor_of, starts_of, goals_of}
use Rattle.motion.specs.Arrangement.{Arrangement, rack_at}
use Rattle.motion.specs.Move.{after}
use Rattle.motion.proofs.MoveLaws.{after-length}
use Rattle.motion.specs.Step.{legal_step}
use Rattle.motion.specs.Replay.{ended, replay_moves, trace}
use Rattle.motion.proofs.TraceLaws.{trace_turn, trace_keeps}
use Rattle.motion.proofs.Lawful.{Leads, LeadsSteps, still, ◌then◌, replay_moves_ended, replay_steps_ended}
use Rattle.motion.proofs.LegalStepLaws.{legal_step_iff}
use Rattle.motion.proofs.StepChange.{legal_valid}
use Rattle.motion.proofs.PebbleLaws.{invertible_sound}
use Rattle.motion.proofs.Racks.{place, rack}
use Rattle.motion.specs.Sound.{Sound}
use Rattle.plan.specs.Plan.{move_count, plan_moves, plan_answer}
use Rattle.timetable.specs.Timetable.{timetable_record, steps_of, timetable_answer}
use Rattle.timetable.proofs.ReadingLaws.{count_steps}
use Rattle.timetable_check.proofs.Leading.{accepted_leads}
use Rattle.timetable.proofs.TimetableRecord.{steps_of_record}
use Rattle.scheduling.specs.Making.{timed, greatest, made_steps}
use Rattle.scheduling.specs.Maker.{made_of, maker_answer}
use Rattle.scheduling.proofs.Timing.{history, history_greatest}
use Rattle.scheduling.proofs.Made.{made}
use Rattle.plan_check.proofs.Accepted.{plan_gave}
use Rattle.scheduling.proofs.MakerLaws.{MakerGave, maker_gave, made_of_lem, made_packable, timetabled}
use Rattle.optimality.specs.Routes.{racks_among, visitors, Keeps, LegalInTurn, no_more, one_more}
use Rattle.optimality.specs.Shortest.{Shortest, KeepsRecord, ShortestRecord}
use Rattle.optimality.proofs.Course.{calls, trace-course}
use Rattle.optimality.proofs.Told.{route-place, plan-route, plan-visits}
use Rattle.optimality.proofs.Instants.{Passes}
use Rattle.optimality.proofs.Bound.{behind_none, behind-all}
use Rattle.optimality.proofs.Kept.{made-route, made-visits}

legal_to : {F : Floor} {A : Arrangement} {steps : List (List (ℕ × ℕ))} → LegalInTurn F A steps → (B : Arrangement) × LeadsSteps F A steps B
legal_to {A} no_more = (A, still)
legal_to {F} (one_more {A = A} {ms = ms} s rest) = let w = legal_to rest in (w.0, ((legal_step_iff F A ms).1 s then w.1))

legal_from : {F : Floor} {A B : Arrangement} {steps : List (List (ℕ × ℕ))} → LeadsSteps F A steps B → LegalInTurn F A steps
legal_from still = no_more
legal_from {F} (◌then◌ {A = A} {x = ms} l rest) = one_more ((legal_step_iff F A ms).0 l) (legal_from rest)

pub legal_leads : {F : Floor} {A : Arrangement} {steps : List (List (ℕ × ℕ))}
    → LegalInTurn F A steps ↔ ((B : Arrangement) × LeadsSteps F A steps B)
legal_leads = (legal_to, λ w. legal_from w.1)

pub step_sound : (F : Floor) (A : Arrangement) (ms : List (ℕ × ℕ)) → T (legal_step F A ms) → Sound F.positions A
    → Sound F.positions (after A ms)
step_sound F A ms l s =
    let valid = legal_valid ((invertible_sound F (length A) A).1 (refl, s)) ((legal_step_iff F A ms).0 l) in
    ((invertible_sound F (length A) (after A ms)).0 valid).1

module _ (F : Floor) {A C : Arrangement} {ms : List (ℕ × ℕ)} (sound : Sound F.positions A) (leads : Leads F A ms C) where
  module _ {B : Arrangement} {steps : List (List (ℕ × ℕ))} (legal : LeadsSteps F A steps B) (keeps : Keeps F A ms steps) where
    abbrev Fit : Arrangement → Type 0
    Fit D = Sound F.positions D × (length D ≡ length A)

    fits : (i : ℕ) → i ≤ length steps → Fit (get_or (trace after A steps) i [])
    fits = trace_keeps Fit (λ D x l w. (step_sound F D x l w.0, after-length D x ∙ w.1)) legal (sound, refl)

    pub other_passes : Passes F A (history A ms) (λ i. get_or (trace after A steps) i []) (length steps)
    unfolding calls visitors
    other_passes =
        record {
          start = sound;
          sound = λ i h. (fits i h).0;
          racks = λ i h. (fits i h).1;
          makes =
              λ i h.
              let x = trace_turn legal i h in
              record { moves = x.0; legal = (legal_step_iff F (get_or (trace after A steps) i []) x.0).0 x.1; leads = x.2 };
          routes =
              λ q h.
              sym (route-place (trace after A steps) q ∙ trace-course (λ D. get_or D q 0) after A steps)
              ∙ keeps.routes (suc q) (rack h) ∙ plan-route F sound leads q h;
          visits =
              λ p h.
              sym (ap racks_among (trace-course (λ D. rack_at D p) after A steps)) ∙ keeps.visits p h ∙ plan-visits F sound leads p;
        }

  made_least : (steps : List (List (ℕ × ℕ))) → LegalInTurn F A steps → Keeps F A ms steps → length (made_steps A ms) ≤ length steps
  made_least steps legal keeps =
      let l = legal_leads.0 legal in
      let passes = other_passes l.1 keeps in
      let b = behind-all [] sound leads passes (behind_none F A (λ i. get_or (trace after A steps) i []) (length steps)) in
      omega (arith, b.within, (made F sound leads).count, history_greatest A ms)

  made_keeps : Keeps F A ms (made_steps A ms)
  made_keeps =
      record {
        routes =
            λ r h.
            let w = place h in
            rw w.1 (made-route F sound leads w.0 w.2 ∙ sym (plan-route F sound leads w.0 w.2));
        visits = λ p h. made-visits F sound leads p ∙ sym (plan-visits F sound leads p);
      }

  pub shortest : Shortest F A ms
  shortest =
      record {
        least = made_least;
        legal = legal_leads.1 (C, (replay_steps_ended F A (made_steps A ms) C).0 (made F sound leads).replayed);
        keeps = made_keeps;
      }

pub shortest_replayed : (F : Floor) (A : Arrangement) (ms : List (ℕ × ℕ)) (B : Arrangement) → Sound F.positions A
    → replay_moves F A ms ≡ ended B → Shortest F A ms
shortest_replayed F A ms B sound e = shortest F sound ((replay_moves_ended F A ms B).0 e)

pub plan_shortest : (o p v : List ℕ) → plan_answer o p ≡ accepted v → Shortest (floor_of o) (starts_of o) (plan_moves p)
plan_shortest o p v e = let w = plan_gave o p v e in shortest (floor_of o) w.placed_well.starts_sound w.leads

module _ (o p : List ℕ) (n s : ℕ) (e : maker_answer o p n ≡ accepted (s ∷ [])) where
  gave : MakerGave o p n (s ∷ [])
  gave = maker_gave o p n (s ∷ []) e

  steps_are : s ≡ greatest (timed (starts_of o) [] (plan_moves p))
  steps_are = head-eq_of_cons-eq gave.steps_are

  of_plan : Shortest (floor_of o) (starts_of o) (plan_moves p)
  of_plan = plan_shortest o p (move_count p ∷ []) gave.plan_accepted

  record_least : (t : List ℕ) (i k : ℕ) → timetable_answer o t ≡ accepted (i ∷ k ∷ []) → KeepsRecord o p t → s ≤ i
  record_least t i k a keeps =
      let led = (accepted_leads o t (i ∷ k ∷ [])).0 a in
      let count : i ≡ length (steps_of t) = sym (count_steps t ∙ head-eq_of_cons-eq led.counted) in
      let made-count = (made_of_lem o p (move_count p ∷ []) gave.plan_accepted).count in
      omega (arith, of_plan.least (steps_of t) (legal_leads.1 (goals_of o, led.leads)) keeps, steps_are, made-count)

  record_keeps : KeepsRecord o p (timetable_record (made_of o p))
  unfolding made_of
  record_keeps =
      subst (Keeps (floor_of o) (starts_of o) (plan_moves p))
      (sym (steps_of_record (made_of o p) (made_packable o p (move_count p ∷ []) gave.plan_accepted))) of_plan.keeps

  pub shortest_record : ShortestRecord o p s
  shortest_record =
      record {
        least = record_least;
        checked =
            (timetabled o p (move_count p ∷ []) gave.plan_accepted).checked
            ∙ ap (λ (x : ℕ). accepted (x ∷ move_count p ∷ [])) (sym steps_are);
        keeps = record_keeps;
      }
