-- `shortening::write_one` meets its contract. Assumes nothing.
use Prim.Native.Nat.{◌+◌}
use native.Mathlib.Omega.{arith}
use Rattle.cancelling.proofs.LookingLaws.{never, listed_is, rack_fits, bytes_fewer}
use Rattle.shortening.proofs.WritingLaws.{write_skipped, write_kept}
use Rattle.shortening.proofs.write_one.Goals as goal

pub returns-then-not-has : goal.returns-then-not-has
returns-then-not-has c =
    λ B same p. write_skipped c.args.moves.now.named c.args.moves.now.tail.now c.args.marks.now c.args.i B c.args.count c.args.room.now p
    (λ k. never c.has.result c.if-not-has.true (c.has.ensures.1 k))

pub put_listed-requires : goal.put_listed-requires
put_listed-requires c = record {
  a_bound = (
    c.listed-listed.ensures.left_below,
    c.listed-listed.ensures.entered_below,
    rack_fits _ _ _ _ _ _
        c.listed-listed.ensures,
  );
  j_in_bounds = bytes_fewer c.args.moves.now.named (c.args.count + 1) (c.args.i + 1) _ (omega (arith, c.requires.count_le_i.0))
      c.requires.count_le_i.1;
}

pub returns : goal.returns
returns c =
    let is = listed_is c.args.moves.now.named c.args.moves.now.tail.now c.args.i _ _ _ c.listed-listed.ensures in
    λ B same p. write_kept c.args.moves.now.named c.args.moves.now.tail.now c.args.marks.now c.args.i B c.args.count c.args.room.now p
    (c.has.ensures.0 c.if-not-has.false) _ is
    (bytes_fewer c.args.moves.now.named (c.args.count + 1) (c.args.i + 1) _ (omega (arith, c.requires.count_le_i.0))
    (rw same at c.requires.count_le_i.1))
    c.put_listed.new.s c.put_listed.ensures
