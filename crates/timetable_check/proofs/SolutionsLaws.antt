-- Laws of what specs/Solutions.antt defines.
--
--     timetable_solutions       demand 2 for timetables: a byte string is accepted exactly if it is the record of a solution's steps
-- Assumes nothing.
use Prim.Native.Nat.{ℕ}
use mathlib.Core.List.{List, [], ◌∷◌}
use mathlib.Core.Logic.{◌↔◌}
use mathlib.Core.Path.{◌≡◌, sym, ap, ◌∙◌}
use Rattle.answers.specs.Answer.{accepted}
use Rattle.field.specs.Bytes.{Bytes}
use Rattle.timetable.specs.Timetable.{timetable_record, step_count, timetable_answer, move_total}
use Rattle.timetable_check.specs.Solutions.{AcceptedTimetable}
use Rattle.timetable.proofs.ReadingLaws.{total-moves}
use Rattle.timetable_check.proofs.SizeLaws.{count_small}
use Rattle.timetable.proofs.TimetableRecord.{record_steps_of}
use Rattle.timetable_check.proofs.Replayed.{ReplayedTimetable, arrangements, the_steps, accepted_record, timetable_replayed}

solution_of : (o s v : List ℕ) → Bytes s → ReplayedTimetable o s v → AcceptedTimetable o s v
solution_of o s v bytes t =
    record {
      order_right = t.order_right;
      steps = step_count s;
      few = count_small s;
      arrangements = arrangements o s;
      solution = t.solution;
      is = sym (record_steps_of bytes t.packed_right) ∙ ap timetable_record t.listed;
      counted = sym t.counted
          ∙ ap (λ (k : ℕ). step_count s ∷ k ∷ []) (sym (total-moves s) ∙ ap move_total t.listed);
    }

accepted_from : (o s v : List ℕ) → AcceptedTimetable o s v → timetable_answer o s ≡ accepted v
accepted_from o s v t =
    let of = the_steps o t.order_right t.steps t.arrangements t.few t.solution in
    ap (timetable_answer o) (t.is ∙ ap timetable_record (sym of.between))
    ∙ accepted_record o t.order_right t.steps t.arrangements t.few t.solution
    ∙ ap accepted (sym t.counted)

pub timetable_solutions : (o s v : List ℕ) → Bytes s → (timetable_answer o s ≡ accepted v) ↔ AcceptedTimetable o s v
timetable_solutions o s v bytes = (λ e. solution_of o s v bytes (((timetable_replayed o).0 s v).0 e), accepted_from o s v)
