-- An accepted timetable as steps that lead from the starts to the goals: what 42 and 43 leave, as a relation of two arrangements.
--
--     LeadingTimetable o s v   10 to 14, 40 and 41 pass, v is the count of steps and of moves, and the steps, each legal at its turn,
--                              lead from the starts to the goals
--     accepted_leads           a timetable is accepted exactly if it is one
-- Assumes nothing.
use Prim.Native.Nat.{ℕ}
use mathlib.Core.List.{List, [], ◌∷◌}
use mathlib.Core.Logic.{◌↔◌}
use mathlib.Core.Path.{◌≡◌, refl, sym, subst}
use Rattle.answers.specs.Answer.{accepted}
use Rattle.order.specs.Order.{rack_count, floor_of, starts_of, goals_of, WellFormed}
use Rattle.motion.proofs.Lawful.{LeadsSteps, replay_steps_ended}
use Rattle.motion.specs.StepSolutions.{steps_between}
use Rattle.motion.proofs.StepSolutionsLaws.{solutions_iff}
use Rattle.tables.proofs.AcceptedLaws.{well_placed}
use Rattle.timetable.specs.Timetable.{step_count, parts_of, steps_of, timetable_answer}
use Rattle.timetable.specs.Reading.{WellPacked, total}
use Rattle.timetable.proofs.ReadingLaws.{count_steps}
use Rattle.timetable_check.specs.Solutions.{SolutionOf}
use Rattle.timetable_check.proofs.Replayed.{arrangements, ReplayedTimetable, timetable_replayed}

pub record LeadingTimetable (o s v : List ℕ) : Type 0 where
  pub order_right : WellFormed o
  pub packed_right : WellPacked s
  pub counted : step_count s ∷ total (parts_of s) ∷ [] ≡ v
  pub leads : LeadsSteps (floor_of o) (starts_of o) (steps_of s) (goals_of o)

module _ (o s v : List ℕ) where
  -- the solution that the steps describe, and that they lead
  solved_leads : WellFormed o
      → LeadsSteps (floor_of o) (starts_of o) (steps_of s) (goals_of o)
      ↔ (SolutionOf o (step_count s) (arrangements o s) × (steps_of s ≡ steps_between (arrangements o s)))
  solved_leads w =
      let ended_at = replay_steps_ended (floor_of o) (starts_of o) (steps_of s) (goals_of o) in
      let valid = (well_placed o w).task.initial in
      let solved = solutions_iff (floor_of o) (rack_count o) (starts_of o) (goals_of o) valid (steps_of s) (arrangements o s) in (
        λ l. let t = solved.0 (ended_at.1 l, refl) in (subst (λ (k : ℕ). SolutionOf o k (arrangements o s)) (count_steps s) t.0, t.1),
        λ t. ended_at.0 (solved.1 (subst (λ (k : ℕ). SolutionOf o k (arrangements o s)) (sym (count_steps s)) t.0, t.1)).0,
      )

  pub accepted_leads : (timetable_answer o s ≡ accepted v) ↔ LeadingTimetable o s v
  accepted_leads = (
    λ a.
        let t : ReplayedTimetable o s v = ((timetable_replayed o).0 s v).0 a in
        record {
          order_right = t.order_right;
          packed_right = t.packed_right;
          counted = t.counted;
          leads = (solved_leads t.order_right).1 (t.solution, t.listed);
        },
    λ t.
        let found = (solved_leads t.order_right).0 t.leads in
        ((timetable_replayed o).0 s v).1
        (record {
          order_right = t.order_right;
          packed_right = t.packed_right;
          counted = t.counted;
          solution = found.0;
          listed = found.1;
        }),
  )
