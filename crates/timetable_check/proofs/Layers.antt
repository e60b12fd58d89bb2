-- The timetable checker's layers: the order reader, the reader of 40 and 41, and the judgement on tables.
--
--     judgement o s              42, 43 or acceptance, on arrangements
--     ReadingGave, reading_told  what an accepted reading tells
--     judgement_is               the judgement on tables is document 01's
--     answer_is                  the checker's answer where both readers accept
-- Assumes nothing.
use Prim.Native.Nat.{ℕ, ◌-◌, ◌^◌, ◌<◌}
use mathlib.Core.Path.{◌≡◌, sym, ◌∙◌, subst}
use mathlib.Core.Bool.{false}
use mathlib.Core.List.{List, [], ◌∷◌}
use lib.ListN.{length, take, drop}
use Rattle.answers.specs.Answer.{Answer, accepted}
use Rattle.field.specs.Bytes.{BelowPairs}
use Rattle.order.specs.Order.{floor_of, starts_of, goals_of}
use Rattle.order.proofs.TailLaws.{tail_edges, tail-starts, tail-goals}
use Rattle.motion.specs.Replay.{replay_steps}
use Rattle.motion.proofs.StepDecision.{legal_step?}
use Rattle.motion.specs.Judgement.{judged}
use Rattle.tables.specs.Accepted.{OrderGave}
use Rattle.tables.proofs.Layers.{all_accepted}
use Rattle.tables.proofs.MovesOnLaws.{matrix_of, table_of}
use Rattle.tables.specs.Simulation.{Each}
use Rattle.trains.proofs.StepsOnLaws.{each_map, steps_judged}
use Rattle.timetable.specs.Timetable.{step_count, parts_of, step_moves, steps_of, wrong_timetable_length, timetable_answer}
use Rattle.timetable.specs.Reading.{reading_answer, total}
use Rattle.timetable.proofs.ReadingLaws.{well_packed, reading_gave, timetable_answer_is}
use Rattle.timetable_check.specs.Judging.{table_answer}
use Rattle.timetable_check.proofs.SizeLaws.{count_small}
use Rattle.timetable.proofs.TimetableRecord.{moves-low}

-- 42, 43 and acceptance
abbrev pub judgement : List ℕ → List ℕ → Answer
judgement o s = judged 43 (goals_of o) (step_count s ∷ total (parts_of s) ∷ [])
    (replay_steps (legal_step? (floor_of o)) (starts_of o) (steps_of s))

pub record ReadingGave (s : List ℕ) (steps moves : ℕ) : Type 0 where
  pub accepted_is : accepted (steps ∷ moves ∷ []) ≡ reading_answer s
  pub length_right : wrong_timetable_length s ≡ false
  pub steps_are : steps ≡ step_count s
  pub moves_are : moves ≡ total (parts_of s)
  pub few_steps : steps < 2 ^ 22

pub reading_told : (s : List ℕ) (steps moves : ℕ) → accepted (steps ∷ moves ∷ []) ≡ reading_answer s → ReadingGave s steps moves
reading_told s steps moves a =
    let same = reading_gave s (steps ∷ moves ∷ []) (sym a) in
    let steps_is : steps ≡ step_count s = cc same in
    record {
      accepted_is = a;
      length_right = (well_packed s (steps ∷ moves ∷ []) (sym a)).length_right;
      steps_are = steps_is;
      moves_are = cc same;
      few_steps = subst (λ (k : ℕ). k < 2 ^ 22) (sym steps_is) (count_small s);
    }

-- the moves of each step have positions below 64
steps_low : (s : List ℕ) → Each (BelowPairs 64) (steps_of s)
unfolding steps_of
steps_low s = each_map step_moves moves-low (parts_of s)

module _ {o : List ℕ} {n e m : ℕ} (gave : OrderGave o n e m) {s : List ℕ} {steps moves : ℕ} (read : ReadingGave s steps moves) where
  judgement_is : table_answer (take (length o - 3) (drop 3 o)) e m s (steps ∷ moves ∷ []) ≡ judgement o s
  unfolding table_answer
  judgement_is =
      let w = gave.placed_well in
      let edges = tail_edges o e m gave.edges_are gave.racks_are in
      let starts = tail-starts o e m gave.edges_are gave.racks_are in
      let goals = tail-goals o e m gave.edges_are gave.racks_are in
      rw (edges, starts, goals, read.steps_are, read.moves_are)
      (unfold matrix_of table_of in
      steps_judged (floor_of o) w.few_positions w.edges_below w.edges_right (starts_of o) w.starts_sound (steps_low s) 43
      (goals_of o) (step_count s ∷ total (parts_of s) ∷ []) (w.goals_length ∙ sym w.starts_length))

  pub answer_is : table_answer (take (length o - 3) (drop 3 o)) e m s (steps ∷ moves ∷ []) ≡ timetable_answer o s
  answer_is = judgement_is ∙ all_accepted o (reading_answer s) (judgement o s) (timetable_answer_is o s) gave read.accepted_is
