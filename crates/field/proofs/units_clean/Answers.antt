-- `field::units_clean` meets its contract. Assumes nothing.
use mathlib.Core.Path.{ap, sym, ◌∙◌}
use mathlib.Core.Bool.{not}
use Rattle.field.proofs.UnitLaws.{fitting, unclean_spare, unclean_is}
use Rattle.field.proofs.units_clean.Goals as goal

pub spare_at_head-requires : goal.spare_at_head-requires
spare_at_head-requires c =
    (fitting c.args.s.now c.args.q c.requires).head_there

pub returns-then-spare_at_head-ne0 : goal.returns-then-spare_at_head-ne0
returns-then-spare_at_head-ne0 c =
    ap not (sym (unclean_spare c.args.s.now c.args.q (λ z. c.if-spare_at_head-ne0.true (c.spare_at_head.ensures ∙ z))))

pub pad_clear-requires : goal.pad_clear-requires
pad_clear-requires c = c.requires

pub returns : goal.returns
returns c =
    c.pad_clear.ensures
    ∙ ap not (sym (unclean_is c.args.s.now c.args.q (sym c.spare_at_head.ensures ∙ c.if-spare_at_head-ne0.false)))
