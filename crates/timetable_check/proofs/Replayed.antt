-- Accepted timetables and the solutions of Surynek's Definition 2 with trains of at most eight racks, by the arrangements that a replay
-- passes through.
--
--     arrangements o s          the arrangements that the replay of the timetable s for the order o passes through
--     ReplayedTimetable o s v   what acceptance of the timetable s for the order o with the counts v means: 10 to 14, 40 and 41 pass both,
--                               v is the count of steps and of moves, the arrangements of the replay are a solution with as many steps, and
--                               each step lists exactly the moves from one arrangement to the next
--     OnlyTimetable o ζ S       exactly one accepted byte string has the arrangements S as its replay, and it is accepted with ζ steps
--     the_steps, accepted_record, only_timetable    the steps of a solution; of fewer than 2^22 of them the record is accepted, and is the
--                               only one
--     timetable_replayed        a timetable is accepted exactly if it describes a solution, and every solution with fewer than 2^22 steps
--                               has exactly one timetable
-- Assumes nothing.
use Prim.Native.Nat.{ℕ, ◌^◌, ◌≤◌, ◌<◌}
use mathlib.Core.List.{List, [], ◌∷◌, Memᴰ}
use mathlib.Core.Logic.{◌↔◌}
use mathlib.Core.Path.{◌≡◌, refl, sym, ap, ap₂, ◌∙◌, subst}
use native.Mathlib.Omega.{arith}
use lib.ListN.{length}
use Rattle.answers.specs.Answer.{Answer, accepted}
use Rattle.answers.proofs.AnswerLaws.{pass_up-low, pass_up-high, pass_up_accepted}
use Rattle.field.specs.Bytes.{Bytes, BelowPairs, none₂, more₂}
use Rattle.order.specs.Floor.{Floor}
use Rattle.order.specs.Order.{rack_count, floor_of, starts_of, goals_of, counts, order_answer, WellFormed}
use Rattle.order.proofs.OrderLaws.{well_formed}
use Rattle.motion.specs.Arrangement.{Arrangement}
use Rattle.motion.specs.Move.{after}
use Rattle.motion.proofs.MoveLaws.{after-length}
use Rattle.motion.specs.Replay.{Replayed, ended, replay_steps, trace}
use Rattle.motion.proofs.StepDecision.{legal_step?}
use Rattle.motion.proofs.Lawful.{LeadsSteps, still, ◌then◌, replay_steps_ended}
use Rattle.motion.specs.LegalStep.{LegalStep}
use Rattle.motion.proofs.LegalStepLaws.{legal_step_iff}
use Rattle.motion.specs.Judgement.{judged}
use Rattle.motion.proofs.JudgementLaws.{judged_accepted}
use Rattle.motion.proofs.StepLimits.{step_size}
use Rattle.motion.specs.StepSolutions.{steps_between}
use Rattle.motion.proofs.StepSolutionsLaws.{OnlySteps, solution_replay, solutions_iff}
use Rattle.tables.proofs.AcceptedLaws.{well_placed}
use Rattle.timetable.specs.Timetable.{timetable_record, step_count, parts_of, steps_of, timetable_answer, move_total}
use Rattle.timetable.specs.Reading.{reading_answer, WellPacked, total}
use Rattle.timetable.proofs.ReadingLaws.{well_packed, reading_accepted, count_steps, total-moves, timetable_answer_is}
use Rattle.timetable.proofs.TimetableRecord.{Steps, no_steps, one_step, Packable, record_bytes, steps_of_record, record_well_packed}
use Rattle.timetable.proofs.TimetableRecord.{record_only}
use Rattle.timetable_check.specs.Solutions.{SolutionOf}

-- the starts and the last included
abbrev pub arrangements : List ℕ → List ℕ → List Arrangement
arrangements o s = trace after (starts_of o) (steps_of s)

pub record ReplayedTimetable (o s v : List ℕ) : Type 0 where
  pub order_right : WellFormed o
  pub packed_right : WellPacked s
  pub counted : step_count s ∷ total (parts_of s) ∷ [] ≡ v
  pub solution : SolutionOf o (step_count s) (arrangements o s)
  pub listed : steps_of s ≡ steps_between (arrangements o s)

pub record OnlyTimetable (o : List ℕ) (ζ : ℕ) (S : List Arrangement) : Type 0 where
  pub timetable : List ℕ
  pub are_bytes : Bytes timetable
  pub described : arrangements o timetable ≡ S
  pub is_accepted : timetable_answer o timetable ≡ accepted (ζ ∷ move_total (steps_between S) ∷ [])
  pub only : (s v : List ℕ) → Bytes s → timetable_answer o s ≡ accepted v → arrangements o s ≡ S → s ≡ timetable

-- a replay of steps ends with as many racks as it began with
steps_length_lem : (F : Floor) {A B : Arrangement} {steps : List (List (ℕ × ℕ))} → LeadsSteps F A steps B → length B ≡ length A
steps_length_lem F still = refl
steps_length_lem F (◌then◌ {A = A} {x = ms} l rest) = steps_length_lem F rest ∙ after-length A ms

module _ (o s v : List ℕ) where
  abbrev outcome : Replayed
  outcome = replay_steps (legal_step? (floor_of o)) (starts_of o) (steps_of s)

  abbrev judgement : Answer
  judgement = judged 43 (goals_of o) (step_count s ∷ total (parts_of s) ∷ []) outcome

  -- what 42 and 43 leave, for an order that 10 to 14 pass
  judged_solution : WellFormed o
      → (judgement ≡ accepted v)
      ↔ ((step_count s ∷ total (parts_of s) ∷ [] ≡ v) × SolutionOf o (step_count s) (arrangements o s)
      × (steps_of s ≡ steps_between (arrangements o s)))
  judged_solution w =
      let g = well_placed o w in
      let same : (A : Arrangement) → outcome ≡ ended A → length A ≡ length (goals_of o) =
      λ A e. steps_length_lem (floor_of o) ((replay_steps_ended (floor_of o) (starts_of o) (steps_of s) A).0 e) ∙ g.starts_length
      ∙ sym g.goals_length in
      let by = judged_accepted 43 (goals_of o) (step_count s ∷ total (parts_of s) ∷ []) v outcome same in
      let solved = solutions_iff (floor_of o) (rack_count o) (starts_of o) (goals_of o) g.task.initial (steps_of s) (arrangements o s) in (
        λ a.
            let t = solved.0 ((by.0 a).0, refl) in
            ((by.0 a).1, subst (λ (k : ℕ). SolutionOf o k (arrangements o s)) (count_steps s) t.0, t.1),
        λ t. by.1 ((solved.1 (subst (λ (k : ℕ). SolutionOf o k (arrangements o s)) (sym (count_steps s)) t.1, t.2)).0, t.0),
      )

  accepted_to : timetable_answer o s ≡ accepted v → ReplayedTimetable o s v
  accepted_to e =
      let layers = sym (timetable_answer_is o s) ∙ e in
      let low = pass_up-low (order_answer o) _ v layers in
      let w : WellFormed o = well_formed o low.0 low.1 in
      let above = pass_up-high (order_answer o) _ v layers in
      let read = pass_up-low (reading_answer s) judgement v above in
      let t = (judged_solution w).0 (pass_up-high (reading_answer s) judgement v above) in
      record {
        order_right = w;
        packed_right = well_packed s read.0 read.1;
        counted = t.0;
        solution = t.1;
        listed = t.2;
      }

  accepted_from : ReplayedTimetable o s v → timetable_answer o s ≡ accepted v
  accepted_from t =
      timetable_answer_is o s
      ∙ pass_up_accepted (order_answer o) _ (counts o) t.order_right
      ∙ pass_up_accepted (reading_answer s) judgement _ (reading_accepted s t.packed_right)
      ∙ (judged_solution t.order_right).1 (t.counted, t.solution, t.listed)

-- moves of which each is on the floor have positions below 64
all_below : (ms : List (ℕ × ℕ)) → ((m : ℕ × ℕ) → Memᴰ m ms → (m.0 < 64) × (m.1 < 64)) → BelowPairs 64 ms
all_below [] f = none₂
all_below (m ∷ ms) f =
    more₂ {p = m} (f m (Memᴰ.head refl)).0 (f m (Memᴰ.head refl)).1 (all_below ms (λ x k. f x (Memᴰ.tail k)))

-- legal steps can be packed: fewer moves than positions, and positions of the floor
leads_fit : (F : Floor) → F.positions ≤ 64 → {A B : Arrangement} {steps : List (List (ℕ × ℕ))} → LeadsSteps F A steps B → Steps steps
leads_fit F few still = no_steps
leads_fit F few (◌then◌ {A = A} {x = ms} l rest) =
    let s : LegalStep F A ms = (legal_step_iff F A ms).0 l in
    one_step {ms = ms} (omega (arith, (step_size ms s).1))
    (all_below ms (λ m k. (omega (arith, (s.joins m k).left_below), omega (arith, (s.joins m k).entered_below))))
    (leads_fit F few rest)

module _ (o : List ℕ) (w : WellFormed o) (ζ : ℕ) (S : List Arrangement) (few : ζ < 2 ^ 22) (solved : SolutionOf o ζ S) where
  pub the_steps : OnlySteps (floor_of o) (starts_of o) (goals_of o) ζ S
  the_steps = solution_replay (floor_of o) (rack_count o) (starts_of o) (goals_of o) ζ S solved

  can_pack : Packable the_steps.steps
  can_pack = record {
    few_steps = subst (λ (k : ℕ). k < 2 ^ 22) (sym the_steps.count) few;
    steps_fit = leads_fit (floor_of o) (well_placed o w).few_positions
        ((replay_steps_ended (floor_of o) (starts_of o) the_steps.steps (goals_of o)).0 the_steps.accepted);
  }

  abbrev the_record : List ℕ
  the_record = timetable_record the_steps.steps

  the_moves : steps_of the_record ≡ the_steps.steps
  the_moves = steps_of_record the_steps.steps can_pack

  the_count : step_count the_record ≡ ζ
  the_count = sym (count_steps the_record) ∙ ap length the_moves ∙ the_steps.count

  the_total : total (parts_of the_record) ≡ move_total (steps_between S)
  the_total = sym (total-moves the_record) ∙ ap move_total (the_moves ∙ the_steps.between)

  the_trace : arrangements o the_record ≡ S
  the_trace = ap (trace after (starts_of o)) the_moves ∙ the_steps.traced

  pub accepted_record : timetable_answer o the_record ≡ accepted (ζ ∷ move_total (steps_between S) ∷ [])
  accepted_record =
      accepted_from o the_record (ζ ∷ move_total (steps_between S) ∷ [])
      (record {
        order_right = w;
        packed_right = record_well_packed the_steps.steps can_pack;
        counted = ap₂ (λ (k n : ℕ). k ∷ n ∷ []) the_count the_total;
        solution = rw (the_count, the_trace) solved;
        listed = the_moves ∙ the_steps.between ∙ ap steps_between (sym the_trace);
      })

  pub only_timetable : OnlyTimetable o ζ S
  only_timetable =
      record {
        timetable = the_record;
        are_bytes = record_bytes the_steps.steps;
        described = the_trace;
        is_accepted = accepted_record;
        only = λ s v b e d.
            let t = accepted_to o s v e in
            record_only b t.packed_right the_steps.steps (t.listed ∙ ap steps_between d ∙ sym the_steps.between);
      }

-- For every order o: (a) a byte string s is accepted as its timetable, with the counts v, exactly if o is well formed, 40 and 41 pass s, v
-- is the count of s's steps and moves, the arrangements of s's replay are a solution with as many steps, and each step lists exactly the
-- moves from one arrangement to the next; (b) where o is well formed, every solution with fewer than 2^22 steps is described by exactly one
-- byte string that is accepted, and this one is accepted with as many steps.
pub timetable_replayed : (o : List ℕ)
    → ((s v : List ℕ) → (timetable_answer o s ≡ accepted v) ↔ ReplayedTimetable o s v)
    × (WellFormed o → (ζ : ℕ) (S : List Arrangement) → ζ < 2 ^ 22 → SolutionOf o ζ S → OnlyTimetable o ζ S)
timetable_replayed o = (λ s v. (accepted_to o s v, accepted_from o s v), only_timetable o)
