-- `order::counts_of` meets its contract: the laws of `Head`, a count each. Assumes nothing.
use native.Mathlib.Omega.{arith}
use Rattle.order.proofs.Head.{head_positions, head_edges, head_racks}
use Rattle.order.proofs.counts_of.Goals as goal

pub returns : goal.returns
returns c =
    record {
      positions_are = omega (arith, head_positions c.args.order.now (omega arith) (omega arith) (omega arith) (omega arith));
      edges_are = omega (arith, head_edges c.args.order.now (omega arith) (omega arith) (omega arith) (omega arith));
      racks_are = omega (arith, head_racks c.args.order.now (omega arith) (omega arith) (omega arith) (omega arith));
      edges_below = omega arith;
      racks_below = omega arith;
    }
