-- `field::listed_at` meets its contract: by the test, a move is three positions or two. Assumes nothing.
use Rattle.field.proofs.ListedLaws.{listed_triple, listed_pair, triple_room, pair_room}
use Rattle.field.proofs.listed_at.Goals as goal

pub triple_number-x-requires : goal.triple_number-x-requires
triple_number-x-requires c =
    triple_room c.args.named c.args.j _ c.if-named.true c.requires

pub returns-then-named : goal.returns-then-named
returns-then-named c =
    listed_triple c.args.named c.args.s.now c.args.j c.triple_number-x.result c.if-named.true c.triple_number-x.ensures

pub pair_number-step-requires : goal.pair_number-step-requires
pair_number-step-requires c =
    pair_room c.args.named c.args.j _ c.if-named.false c.requires

pub returns : goal.returns
returns c =
    listed_pair c.args.named c.args.s.now c.args.j c.pair_number-step.result c.if-named.false c.pair_number-step.ensures
