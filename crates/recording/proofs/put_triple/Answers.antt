-- `recording::put_triple` meets its contract. Assumes nothing.
use Rattle.field.proofs.ListedLaws.{put_three}
use Rattle.recording.proofs.put_triple.Goals as goal

pub returns : goal.returns
returns c =
    put_three c.args.s.now c.args.j c.args.a c.args.b c.args.c _ _ _ c.put_position.ensures c.put_position-2.ensures
    c.put_position-3.ensures
