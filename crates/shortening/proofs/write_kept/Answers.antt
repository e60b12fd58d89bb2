-- `shortening::write_kept` meets its contract. The loop's invariant: the kept ones of the moves passed are written. Assumes nothing.
use Prim.Native.Nat.{◌+◌}
use mathlib.Core.Path.{◌≡◌, refl, ◌∙◌}
use native.Mathlib.Omega.{arith}
use Rattle.cancelling.specs.Stack.{laid}
use Rattle.cancelling.specs.Looking.{listing, stack_of}
use Rattle.cancelling.proofs.LookingLaws.{bytes_fewer}
use Rattle.shortening.proofs.WritingLaws.{packed_none, packed_few, stack_ahead}
use Rattle.shortening.proofs.write_kept.Goals as goal

pub loop-i-init : goal.loop-i-init
loop-i-init c = (omega arith, refl, unfold laid stack_of in packed_none _ c.args.room.now)

pub write_one-count-requires : goal.write_one-count-requires
write_one-count-requires c =
    let moves = listing c.args.moves.now in
    let next = c.loop-i.i + 1 in
    let few = packed_few c.args.moves.now.named moves c.args.marks.now c.loop-i.i c.args.room.now
    c.loop-i.count c.loop-i.room c.loop-i.invariant.2 in
    record {
      i_bound = (omega arith, omega arith);
      count_le_i = (
        few,
        rw c.loop-i.invariant.1
            (bytes_fewer c.args.moves.now.named next c.args.moves.now.count _ (omega arith) c.requires.k_in_bounds),
      );
    }

pub ahead-i-requires : goal.ahead-i-requires
ahead-i-requires c = (omega arith, omega arith, omega arith)

pub loop-i-preserved : goal.loop-i-preserved
loop-i-preserved c =
    let moves = listing c.args.moves.now in
    let more = c.write_one-count.ensures c.args.room.now c.loop-i.invariant.1 c.loop-i.invariant.2 in (
      c.ahead-i.ensures.1,
      c.write_one-count.auto.room ∙ c.loop-i.invariant.1,
      rw (stack_ahead moves c.args.marks.now (c.loop-i.i + 1) c.ahead-i.result c.ahead-i.ensures.0 c.ahead-i.ensures.2) more,
    )

pub shape_of-room : goal.shape_of-room
shape_of-room c = c.loop-i.invariant.1

pub returns : goal.returns
returns c =
    let all : c.loop-i.i ≡ c.args.moves.now.count = omega arith in
    rw all at c.loop-i.invariant.2
