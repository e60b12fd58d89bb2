-- `field::units_fit` meets its contract. Assumes nothing.
use native.Mathlib.Omega.{arith}
use mathlib.Core.Path.{ap, sym}
use mathlib.Core.Bool.{not}
use Rattle.field.proofs.UnitLaws.{misfits_short, misfits_not, fits}
use Rattle.field.proofs.units_fit.Goals as goal

pub returns-then-s-lt3 : goal.returns-then-s-lt3
returns-then-s-lt3 c = ap not (sym (misfits_short c.args.s.now c.args.q c.if-s-lt3.true))

pub returns-then-s-q : goal.returns-then-s-q
returns-then-s-q c =
    ap not (sym (misfits_not c.args.s.now c.args.q c.if-s-q.true))

pub returns : goal.returns
returns c =
    ap not (sym (fits c.args.s.now c.args.q (omega arith) c.if-s-q.false))
