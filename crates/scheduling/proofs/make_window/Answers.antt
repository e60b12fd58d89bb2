-- `scheduling::make_window` meets its contract. Assumes nothing.
use Prim.Native.Nat.{ℕ, ◌*◌, ◌+◌}
use mathlib.Core.Path.{◌≡◌, refl, subst}
use native.Mathlib.Omega.{arith}
use lib.ListN.{length}
use Rattle.field.specs.PlanMoves.{all_moves}
use Rattle.field.proofs.ListedLaws.{moves-at_below}
use Rattle.window.specs.Filling.{latest}
use Rattle.passing.specs.Stretches.{Kept}
use Rattle.window.proofs.FillingLaws.{empty_is}
use Rattle.window.proofs.Leaving.{left-empty}
use Rattle.scheduling.proofs.Windowing.{passed-latest, filled_fit, filled_room, filled_wrote}
use Rattle.scheduling.proofs.make_window.Goals as goal

pub pass_plan-found-requires : goal.pass_plan-found-requires
pass_plan-found-requires c = record {
  first_bound = c.requires.k_nonzero.1;
  due_nonzero = c.requires.due_nonzero;
  window_value = empty_is;
}

pub write_window-next-requires : goal.write_window-next-requires
write_window-next-requires c =
    let ms = all_moves c.args.moves.now in
    let passed = c.pass_plan-found.ensures.plan_passed in
    let all : c.max-steps.result ≡ latest ms =
    omega (
      arith,
      c.max-steps.ensures,
      passed-latest c.args.moves.now.named c.args.moves.now.tail.now c.args.moves.now.count (4096 * c.args.done.windows) c.args.due.now
          c.args.done.steps c.args.done.windows c.pass_plan-found.result c.requires.k_nonzero.0 c.requires.counted.0 passed,
    ) in
    record {
      n_bound = (
        omega arith,
        filled_room ms (4096 * c.args.done.windows) c.max-steps.result c.pass_plan-found.new.window all passed.window_is
            c.min-n.result (omega arith) c.args.done.next c.args.buffer.now c.requires.counted.1,
      );
      entries_fit = (
        filled_fit ms (4096 * c.args.done.windows) c.max-steps.result c.pass_plan-found.new.window all passed.window_is
            (moves-at_below c.args.moves.now.named c.args.moves.now.tail.now 0 c.args.moves.now.count),
        c.pass_plan-found.ensures.keeps_left left-empty,
      );
    }

pub returns : goal.returns
returns c =
    let ms = all_moves c.args.moves.now in
    let passed = c.pass_plan-found.ensures.plan_passed in
    let all : c.max-steps.result ≡ latest ms =
    omega (
      arith,
      c.max-steps.ensures,
      passed-latest c.args.moves.now.named c.args.moves.now.tail.now c.args.moves.now.count (4096 * c.args.done.windows) c.args.due.now
          c.args.done.steps c.args.done.windows c.pass_plan-found.result c.requires.k_nonzero.0 c.requires.counted.0 passed,
    ) in
    let next : 4096 * c.args.done.windows + 4096 ≡ 4096 * (c.args.done.windows + 1) = omega arith in
    record {
      windows_value = (
        refl,
        all,
        subst
            (λ (f : ℕ). Kept c.args.moves.now.named c.args.moves.now.tail.now c.args.moves.now.count (length c.args.due.now) f
            c.pass_plan-found.new.book
            c.pass_plan-found.new.due) next passed.kept,
      );
      wrote = filled_wrote ms (4096 * c.args.done.windows) c.max-steps.result c.pass_plan-found.new.window all passed.window_is
          c.min-n.result (omega arith) c.args.done.next c.write_window-next.result c.args.buffer.now
          c.write_window-next.new.buffer c.write_window-next.ensures;
    }
