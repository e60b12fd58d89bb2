-- `field::move_at` meets its contract. Assumes nothing.
use Rattle.field.proofs.move_at.Goals as goal

pub returns : goal.returns
returns c =
    record {
      first_is = c.listed_at-listed.ensures.left_is;
      second_is = c.listed_at-listed.ensures.entered_is;
      first_below = c.listed_at-listed.ensures.left_below;
      second_below = c.listed_at-listed.ensures.entered_below;
    }
