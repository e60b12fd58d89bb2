-- `models::put_edge` meets its contract. Assumes nothing.
use mathlib.Core.Path.{ap}
use Rattle.models.specs.Writing.{edge_if}
use Rattle.models.proofs.PutLaws.{put_nothing, put_one, room_one}
use Rattle.models.proofs.put_edge.Goals as goal

pub returns-then-not-there : goal.returns-then-not-there
returns-then-not-there c =
    put_nothing c.args.tail.now c.args.j (ap (λ b. edge_if b c.args.p c.args.q) c.if-not-there.true)

pub put_pair-requires : goal.put_pair-requires
put_pair-requires c =
    let below = c.requires.below c.if-not-there.false in
    let one = ap (λ b. edge_if b c.args.p c.args.q) c.if-not-there.false in
    (below.0, below.1, room_one c.args.tail.now c.args.j c.args.p c.args.q one c.requires.room)

pub returns : goal.returns
returns c =
    put_one c.args.tail.now c.args.j c.args.p c.args.q c.put_pair.new.s
    (ap (λ b. edge_if b c.args.p c.args.q) c.if-not-there.false) c.put_pair.ensures
