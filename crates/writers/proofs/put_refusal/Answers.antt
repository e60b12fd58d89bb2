-- `writers::put_refusal` meets its contract: its parts stand one behind another. Assumes nothing.
use Rattle.writers.proofs.LineLaws.{word_fits, number_fits, gap_fits, place_fits, gap₂_fits, family_fits, end_fits, line_wrote}
use borrow.Author.Rules.{rules}
use Rattle.writers.proofs.put_refusal.Goals as goal

pub put_bytes-at-requires : goal.put_bytes-at-requires
put_bytes-at-requires c = search (word_fits, rules)

pub put_decimal-at-requires : goal.put_decimal-at-requires
put_decimal-at-requires c = search (number_fits, rules)

pub put_byte-at-requires : goal.put_byte-at-requires
put_byte-at-requires c = search (gap_fits, rules)

pub put_decimal-at-requires-2 : goal.put_decimal-at-requires-2
put_decimal-at-requires-2 c = search (place_fits, rules)

pub put_byte-at-requires-2 : goal.put_byte-at-requires-2
put_byte-at-requires-2 c = search (gap₂_fits, rules)

pub put_word-at-requires : goal.put_word-at-requires
put_word-at-requires c =
    family_fits _ _ c.requires c.put_bytes-at.ensures c.put_decimal-at.ensures c.put_byte-at.ensures
    c.put_decimal-at-2.ensures c.put_byte-at-2.ensures

pub put_byte-requires : goal.put_byte-requires
put_byte-requires c =
    end_fits _ _ c.requires c.put_bytes-at.ensures c.put_decimal-at.ensures c.put_byte-at.ensures
    c.put_decimal-at-2.ensures c.put_byte-at-2.ensures c.put_word-at.ensures

pub returns : goal.returns
returns c =
    line_wrote _ _ c.requires c.put_bytes-at.ensures c.put_decimal-at.ensures c.put_byte-at.ensures
    c.put_decimal-at-2.ensures c.put_byte-at-2.ensures c.put_word-at.ensures c.put_byte.ensures
