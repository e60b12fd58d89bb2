-- `writers::put_word` meets its contract: what is given is the family word. Assumes nothing.
use Rattle.field.proofs.WritingLaws.{fits_as, wrote_as}
use Rattle.writers.proofs.put_word.Goals as goal

pub put_bytes-requires : goal.put_bytes-requires
put_bytes-requires c = fits_as c.family_word.ensures c.requires

pub returns : goal.returns
returns c = wrote_as c.family_word.ensures c.put_bytes.ensures
