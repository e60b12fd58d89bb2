-- `models::put_pairs` meets its contract. The loop's invariant: what is left to write decides the bytes at the end. Assumes nothing.
use native.Mathlib.Omega.{arith}
use Rattle.field.proofs.RecordLaws.{length_pairs}
use Rattle.models.proofs.PutLaws.{copy-first, copy_room, copy-next, copy_last}
use Rattle.models.proofs.put_pairs.Goals as goal

pub loop-i-init : goal.loop-i-init
loop-i-init c = copy-first c.args.j c.args.from.now c.args.m

pub overflow_add-j : goal.overflow_add-j
overflow_add-j c =
    let room = c.requires.room.room in
    let many = length_pairs c.args.from.now 0 c.args.m in
    record { fits = omega arith }

pub put_pair-requires : goal.put_pair-requires
put_pair-requires c = (
  omega arith,
  omega arith,
  copy_room c.args.from.now c.args.m c.loop-i.i c.loop-i-test.true c.pair_at-pair.result.first
      c.pair_at-pair.result.second c.pair_at-pair.ensures c.loop-i.invariant
      c.requires.room,
)

pub loop-i-preserved : goal.loop-i-preserved
loop-i-preserved c =
    copy-next c.args.from.now c.args.m c.loop-i.i c.loop-i-test.true c.pair_at-pair.result.first c.pair_at-pair.result.second
    c.pair_at-pair.ensures c.loop-i.invariant c.put_pair.new.s c.put_pair.ensures

pub shape_of-tail : goal.shape_of-tail
shape_of-tail c = c.loop-i.invariant.length_same

pub returns : goal.returns
returns c =
    copy_last c.args.from.now c.args.m c.loop-i.i (omega arith) c.loop-i.invariant
