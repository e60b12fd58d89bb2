-- `recording::put_pair` meets its contract: by the test, each way is one of the two of `put_pair`. Assumes nothing.
use native.Mathlib.Omega.{arith}
use borrow.Author.Tests.{eq-eqb, ne_eqb}
use lib.ListN.{length-set}
use Rattle.field.specs.Packing.{put_pair}
use Rattle.recording.proofs.put_pair.Goals as goal

pub bounds-s-at-then-j-eq0 : goal.bounds-s-at-then-j-eq0
bounds-s-at-then-j-eq0 c = simp length-set (omega arith)

pub returns-then-j-eq0 : goal.returns-then-j-eq0
unfolding put_pair
returns-then-j-eq0 c = simp (eq-eqb _ _ c.if-j-eq0.true)

pub bounds-s-at-4 : goal.bounds-s-at-4
bounds-s-at-4 c = simp length-set (omega arith)

pub returns : goal.returns
unfolding put_pair
returns c = simp (ne_eqb _ _ c.if-j-eq0.false, c.from-begun.ensures)
