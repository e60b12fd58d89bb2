-- `field::position_at` meets its contract: four positions take three bytes, a law of `Sextets` for each place. Assumes nothing.
use native.Mathlib.Omega.{arith}
use Prim.Native.Nat.{◌+◌, ◌*◌, ◌/◌}
use Rattle.field.proofs.Sextets.{sextet_0, sextet_2, sextet_4, sextet_6}
use Rattle.field.proofs.position_at.Goals as goal

pub returns-then-place-eq0 : goal.returns-then-place-eq0
returns-then-place-eq0 c =
    record {
      is = omega (arith, sextet_0 c.args.s.now (6 * c.args.q) (c.args.q / 4 * 3) (omega arith) (omega arith) (omega arith));
      below = omega arith;
    }

pub returns-then-place-eq1 : goal.returns-then-place-eq1
returns-then-place-eq1 c =
    record {
      is = omega (
        arith,
        sextet_6 c.args.s.now (6 * c.args.q) (c.args.q / 4 * 3) (c.args.q / 4 * 3 + 1) (omega arith) (omega arith)
            (omega arith) (omega arith),
      );
      below = omega arith;
    }

pub returns-then-place-eq2 : goal.returns-then-place-eq2
returns-then-place-eq2 c =
    record {
      is = omega (
        arith,
        sextet_4 c.args.s.now (6 * c.args.q) (c.args.q / 4 * 3 + 1) (c.args.q / 4 * 3 + 2) (omega arith) (omega arith) (omega arith)
            (omega arith),
      );
      below = omega arith;
    }

pub returns : goal.returns
returns c =
    record {
      is = omega (
        arith,
        sextet_2 c.args.s.now (6 * c.args.q) (c.args.q / 4 * 3 + 2) (omega arith)
            (omega arith),
      );
      below = omega arith;
    }
