-- `text::order_end` meets its contract: the lesser of the two lengths. Assumes nothing.
use mathlib.Core.Path.{refl}
use Rattle.text.proofs.Split.{end_is}
use Rattle.text.proofs.order_end.Goals as goal

pub returns : goal.returns
returns c = rw (c.unwrap_or.ensures, c.record_length.ensures) (end_is c.args.input.now _ refl)
