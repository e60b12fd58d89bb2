-- `trains::read_moves` meets its contract: as many moves as the buffer has room for are read to its front. Assumes nothing.
use mathlib.Core.Path.{sym}
use mathlib.Core.Bool.{false≢true}
use native.Mathlib.Omega.{arith}
use borrow.Author.Tests.{lt-leb}
use Rattle.trains.proofs.read_moves.Goals as goal

pub returns-then-c-gt64 : goal.returns-then-c-gt64
returns-then-c-gt64 c = record {
  few = sym (lt-leb c.args.c 64 (omega arith));
  all = λ r. absurd (false≢true r);
}
