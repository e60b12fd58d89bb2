-- `shortening::ahead` meets its contract. Assumes nothing.
use Rattle.shortening.proofs.WritingLaws.{ahead-word, ahead_mark}
use Rattle.shortening.proofs.ahead.Goals as goal

pub returns-then-rest-eq0 : goal.returns-then-rest-eq0
returns-then-rest-eq0 c =
    ahead-word c.args.marks.now c.args.i c.args.k c.requires.0 c.minus-rest.result
    c.below.result c.minus-rest.ensures c.below.ensures c.if-rest-eq0.true c.min.result
    c.min.ensures

pub returns : goal.returns
returns c =
    ahead_mark c.args.marks.now c.args.i c.args.k c.requires.0 c.minus-rest.result
    c.below.result c.minus-rest.ensures c.below.ensures c.lowest.result c.lowest.ensures.upper_bound
    c.lowest.ensures.has c.lowest.ensures.by_index c.min-2.result c.min-2.ensures
