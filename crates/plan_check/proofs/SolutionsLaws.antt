-- Laws of what specs/Solutions.antt defines.
--
--     replay_moves_lem         the moves of an accepted plan are those between the arrangements of its replay
--     plan_solutions       demand 2 for plans: a byte string is accepted exactly if it is the record of a solution's moves in
--                          one of the editions
-- Assumes nothing.
use Prim.Native.Nat.{ℕ}
use mathlib.Core.List.{List}
use mathlib.Core.Logic.{◌↔◌}
use mathlib.Core.Path.{◌≡◌, sym, ap, ◌∙◌}
use Rattle.answers.specs.Answer.{accepted}
use Rattle.field.specs.Bytes.{Bytes}
use Rattle.field.proofs.BitLaws.{field_lt}
use Rattle.order.specs.Order.{rack_count, floor_of, starts_of, goals_of, WellFormed}
use Rattle.motion.specs.Move.{after_move}
use Rattle.motion.specs.Replay.{ended, replay_moves, listed, trace}
use Rattle.motion.specs.StepSolutions.{moves_between}
use Rattle.motion.proofs.Lawful.{replay_moves_ended}
use Rattle.motion.proofs.PebbleLaws.{pebble_replay}
use Rattle.motion.proofs.BetweenLaws.{moves-between}
use Rattle.tables.proofs.AcceptedLaws.{well_placed}
use Rattle.plan.specs.Plan.{plan_bytes, plan_record, named, move_count, plan_moves, plan_answer}
use Rattle.plan_check.specs.Solutions.{AcceptedPlan}
use Rattle.plan.proofs.PlanRecord.{moves-counted, record_read}
use Rattle.plan_check.proofs.Replayed.{ReplayedPlan, arrangements, the_moves, accepted_record, plan_replayed}

replay_moves_lem : (o : List ℕ) (ms : List (ℕ × ℕ)) → WellFormed o → replay_moves (floor_of o) (starts_of o) ms ≡ ended (goals_of o)
    → moves_between (trace after_move (starts_of o) ms) ≡ ms
replay_moves_lem o ms w e =
    moves-between (floor_of o) (well_placed o w).starts_sound ((replay_moves_ended (floor_of o) (starts_of o) ms (goals_of o)).0 e)

solution_of : (o p v : List ℕ) → Bytes p → ReplayedPlan o p v → AcceptedPlan o p v
unfolding move_count
solution_of o p v bytes t =
    let w = t.order_right in
    let solved = (pebble_replay (floor_of o) (rack_count o) (starts_of o) (goals_of o) (well_placed o w).task).0 (plan_moves p) in
    record {
      order_right = w;
      moves = move_count p;
      few = field_lt p 0 22;
      arrangements = arrangements o p;
      solution = t.solution;
      edition = named p;
      is = sym (record_read p bytes t.length_right t.padding_clear)
          ∙ (unfold plan_record in
          ap (plan_bytes (named p))
          (t.racks_told
          ∙ ap (listed (named p) (starts_of o)) (sym (replay_moves_lem o (plan_moves p) w (solved.1 (rw moves-counted t.solution))))));
      counted = sym t.counted;
    }

accepted_from : (o p v : List ℕ) → AcceptedPlan o p v → plan_answer o p ≡ accepted v
accepted_from o p v t =
    let w = t.order_right in
    let of = the_moves t.edition o w t.moves t.arrangements t.few t.solution in
    let moves_are : moves_between t.arrangements ≡ of.moves =
    ap moves_between (sym of.traced) ∙ replay_moves_lem o of.moves w of.accepted in
    ap (plan_answer o) (t.is ∙ ap (plan_record t.edition (starts_of o)) moves_are)
    ∙ accepted_record t.edition o w t.moves t.arrangements t.few t.solution
    ∙ ap accepted (sym t.counted)

pub plan_solutions : (o p v : List ℕ) → Bytes p → (plan_answer o p ≡ accepted v) ↔ AcceptedPlan o p v
plan_solutions o p v bytes = (λ e. solution_of o p v bytes (((plan_replayed o).0 p v).0 e), accepted_from o p v)
