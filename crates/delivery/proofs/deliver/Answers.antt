-- `delivery::deliver` meets its contract: each call on the record that the one before it wrote. Assumes nothing.
use Prim.Native.Nat.{ℕ}
use mathlib.Core.Path.{refl, sym, ap}
use native.Mathlib.Omega.{arith}
use lib.ListN.{take}
use lib.Seq.{length-take-le}
use Rattle.answers.proofs.AnswerLaws.{some_found}
use Rattle.field.specs.Units.{record_length}
use Rattle.delivery.specs.Delivery.{plan_length, plan_alone}
use Rattle.delivery.specs.Theorems.{timetable_alone}
use Rattle.delivery.proofs.Calls.{both, plan_made, few_moves, plan_ends, timetable_ends, refused_plan, refused_timetable}
use Rattle.delivery.proofs.Calls.{found_there, all_called}
use Rattle.delivery.proofs.deliver.Goals as goal

pub returns-in_default : goal.returns-in_default
returns-in_default c =
    let all = both (refused_plan _ c.in_default.is c.make-planned.ensures) in
    record {
      called = all.0;
      delivered = all.1;
    }

pub overflow_mul-plan_end : goal.overflow_mul-plan_end
overflow_mul-plan_end c =
    omega (arith, few_moves c.in-Ok.is c.make-planned.ensures)

pub overflow_mul-plan_end-2 : goal.overflow_mul-plan_end-2
overflow_mul-plan_end-2 c =
    omega (arith, few_moves c.in-Ok.is c.make-planned.ensures)

pub overflow_add-plan_end : goal.overflow_add-plan_end
overflow_add-plan_end c =
    omega (arith, few_moves c.in-Ok.is c.make-planned.ensures)

pub overflow_add-plan_end-2 : goal.overflow_add-plan_end-2
overflow_add-plan_end-2 c =
    omega (arith, few_moves c.in-Ok.is c.make-planned.ensures)

pub slice_bounds-make-end : goal.slice_bounds-make-end
slice_bounds-make-end c =
    omega (arith, plan_ends c.in-Ok.is c.make-planned.ensures)

pub slice_bounds-make-end-2 : goal.slice_bounds-make-end-2
slice_bounds-make-end-2 c =
    sym (length-take-le _ _ (omega (arith, plan_ends c.in-Ok.is c.make-planned.ensures)))

pub returns-in_default-made : goal.returns-in_default-made
unfolding plan_alone plan_length record_length
returns-in_default-made c =
    let plan = plan_made c.in-Ok.is c.make-planned.ensures in
    let all = both (refused_timetable _ plan _ _ c.make-made.ensures.result_value c.make-made.ensures.buffer_after refl
    c.in_default-made.is) in
    record {
      called = all.0;
      delivered = all.1;
    }

pub unreachable-requires : goal.unreachable-requires
unreachable-requires c =
    found_there _ _ _ c.in-Ok-made.is c.make-made.ensures.result_value c.make-made.ensures.buffer_after c.in_default-record_length.ensures

pub slice_bounds-check-end : goal.slice_bounds-check-end
slice_bounds-check-end c = omega (arith, timetable_ends _ c.in-Some.ensures)

pub slice_bounds-check-end-2 : goal.slice_bounds-check-end-2
slice_bounds-check-end-2 c = sym (length-take-le _ _ (omega (arith, timetable_ends _ c.in-Some.ensures)))

pub returns : goal.returns
unfolding plan_alone plan_length record_length timetable_alone
returns c =
    let plan = plan_made c.in-Ok.is c.make-planned.ensures in
    let all = both
    (all_called _ plan _ _ c.make-made.ensures.result_value c.make-made.ensures.buffer_after refl c.in-Ok-made.is
    c.check-checked.result _ c.check-checked.ensures
    (ap (λ (n : ℕ). take n c.make-made.new.buffer) (some_found _ _ c.in-Some.ensures).0)) in
    record {
      called = all.0;
      delivered = all.1;
    }
