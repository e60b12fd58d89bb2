-- `base_ring::pass_by` meets its contract.
-- Assumes nothing.
use mathlib.Core.Path.{sym, ◌∙◌}
use Rattle.moving.proofs.JourneyLaws.{journey_append, fits_move}
use Rattle.base_ring.proofs.MoveLaws.{passed-by}
use Rattle.base_ring.proofs.pass_by.Goals as goal

pub make_move-requires : goal.make_move-requires
make_move-requires c = record {
  movable = record {
    leaves = c.requires.passable_by.passes;
    enters = c.requires.passable_by.enters;
    held = λ e. c.requires.passable_by.held (sym c.make_move-there.ensures.passed.entered ∙ e);
    vacant = c.make_move-there.ensures.passed.others c.args.to (λ e. c.requires.passable_by.other (sym e))
        (λ e. c.requires.passable_by.beside (sym e)) ∙ c.requires.passable_by.vacant;
  };
  fits = fits_move c.args.from c.args.x 1 c.requires.passable_by.leaves c.requires.fits c.make_move-there.ensures.journey_on;
}

pub returns : goal.returns
returns c = record {
  journey_on = λ g e. journey_append (c.make_move-there.ensures.journey_on g e.there) (c.make_move.ensures.journey_on g e.on);
  passed = passed-by c.requires.passable_by c.make_move-there.ensures.passed c.make_move.ensures.passed;
}
