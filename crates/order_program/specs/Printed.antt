-- What the order program writes for its input, a short order: request (a), "It is written out as a full order", and document 01,
-- "Programs".
--
--     expanded_text a r     the text for the answer a, where r is the full order's record
--     order_text s          the text for the input s: the record, or one line with the refusal
-- Assumes nothing.
use Rattle.std.specs.Prelude.{ℕ, List}
use Rattle.answers.specs.Answer.{Answer, accepted, refused}
use Rattle.writers.specs.Lines.{refusal_line}
use Rattle.models.specs.Expansion.{expanded, expand_answer}

-- "On a refusal a program prints one line and no other"
abbrev pub expanded_text : Answer → List ℕ → List ℕ
expanded_text (accepted counts) r = r
expanded_text (refused number place) r = refusal_line number place

-- no order is longer than 576 bytes, so 1,024 are enough for each, and 52 is never met
unfoldable pub order_text : List ℕ → List ℕ
order_text s = expanded_text (expand_answer s 1024) (expanded s)
