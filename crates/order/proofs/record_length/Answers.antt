-- `order::record_length` meets its contract: the length by the counts, or none. Assumes nothing.
use mathlib.Core.Path.{sym, ap, ◌∙◌}
use native.Mathlib.Omega.{arith}
use Rattle.answers.specs.Found.{found}
use Rattle.answers.proofs.AnswerLaws.{found_some}
use Rattle.field.specs.Units.{record_length}
use Rattle.recording.proofs.FrontLaws.{whole_as, whole_none}
use Rattle.order.specs.Order.{unit_count}
use Rattle.order.specs.RecordLength.{order_length, whole_order_length}
use Rattle.order.proofs.record_length.Goals as goal

pub returns-then-bytes-lt3 : goal.returns-then-bytes-lt3
unfolding whole_order_length order_length record_length
returns-then-bytes-lt3 c = sym (ap found (whole_none _ _ (omega arith)))

pub returns-then-bytes-len : goal.returns-then-bytes-len
unfolding whole_order_length order_length record_length unit_count
returns-then-bytes-len c = sym (ap found (whole_none _ _ (omega arith)))

pub returns : goal.returns
unfolding whole_order_length order_length record_length unit_count
returns c = found_some _ (omega arith) ∙ ap found (whole_as _ _ _ (omega arith) (omega arith))
