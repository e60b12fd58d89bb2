-- `controller::wichteab_order_check` meets its contract: the reader's answer, packed. Assumes nothing.
use mathlib.Core.Path.{ap, ◌∙◌}
use Rattle.order.specs.Order.{order_answer}
use Rattle.order.specs.Verdict.{told}
use Rattle.packing.specs.Packed.{packed, nothing}
use Rattle.controller.proofs.AnswerSizes.{order_sized}
use Rattle.controller.proofs.Judgements.{uncounted_number}
use Rattle.packing.proofs.PackedLaws.{tells, nothing_packs, uncounted_sized, uncounted-same}
use Rattle.controller.proofs.wichteab_order_check.Goals as goal

pub returns : goal.returns
returns c =
    tells nothing_packs (uncounted_sized (order_sized c.args.order.now))
    (c.judged.ensures ∙ uncounted_number told c.read.result ∙ ap (packed nothing) c.read.ensures
    ∙ uncounted-same (order_answer c.args.order.now))
