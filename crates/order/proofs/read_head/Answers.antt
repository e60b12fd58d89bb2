-- `order::read_head` meets its contract: a law of `Head` at each return. Assumes nothing.
use native.Mathlib.Omega.{arith}
use Rattle.order.proofs.Head.{short, wrong_length_lem, fitted, none, many, padding, sound}
use Rattle.order.proofs.read_head.Goals as goal

pub returns-then-order-lt3 : goal.returns-then-order-lt3
returns-then-order-lt3 c = short c.args.order.now (omega arith)

pub returns-then-not-units_fit : goal.returns-then-not-units_fit
returns-then-not-units_fit c = wrong_length_lem c.counts_of-counts.ensures c.units_fit.ensures c.if-not-units_fit.true

pub returns-then-n-eq0 : goal.returns-then-n-eq0
returns-then-n-eq0 c =
    none c.counts_of-counts.ensures c.units_fit.ensures c.if-not-units_fit.false c.if-n-eq0.true

pub returns-then-n-gt64 : goal.returns-then-n-gt64
returns-then-n-gt64 c =
    many c.counts_of-counts.ensures c.units_fit.ensures c.if-not-units_fit.false (omega arith)

pub returns-then-not-units_clean : goal.returns-then-not-units_clean
returns-then-not-units_clean c =
    padding c.counts_of-counts.ensures c.units_fit.ensures c.if-not-units_fit.false c.if-n-eq0.false (omega arith)
    c.units_clean.ensures c.if-not-units_clean.true

pub returns : goal.returns
returns c =
    sound c.counts_of-counts.ensures c.units_fit.ensures c.if-not-units_fit.false c.if-n-eq0.false (omega arith)
    c.units_clean.ensures c.if-not-units_clean.false
