-- `scheduling::make_steps_in` meets its contract: its book has a row before each stretch and one behind them. Assumes nothing.
use Prim.Native.Nat.{ℕ}
use lib.ListN.{length-replicate}
use Rattle.passing.proofs.Stretching.{begun_first, kept-first}
use Rattle.scheduling.proofs.make_steps_in.Goals as goal

pub make_windows-requires : goal.make_windows-requires
make_windows-requires g c =
    let long = length-replicate {A = ℕ} g.row.STRETCHES 0 in
    record {
      k_nonzero = c.requires.k_nonzero;
      due_nonzero = (
        rw long c.requires.rows.1,
        begun_first g.row.STRETCHES,
        rw (long, c.requires.rows.0)
            (kept-first c.args.moves.now.named c.args.moves.now.tail.now c.args.moves.now.count g.row.STRETCHES),
      );
    }
