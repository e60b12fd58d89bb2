-- `plan::read_record` meets its contract: `Record` has the answer at each return. Assumes nothing.
use native.Mathlib.Omega.{arith}
use mathlib.Core.Bool.{true}
use Rattle.field.proofs.BitLaws.{field_lt}
use Rattle.plan.proofs.Record.{measured, short, wrong_length_lem, fitted, wrong_spare, padding, sound}
use Rattle.plan.proofs.read_record.Goals as goal

pub returns-then-plan-lt3 : goal.returns-then-plan-lt3
returns-then-plan-lt3 c = short _ c.if-plan-lt3.true

pub units-q-requires : goal.units-q-requires
units-q-requires c =
    omega (arith, c.count_at_head-k.ensures, field_lt c.args.plan.now 0 22)

pub units_fit-requires : goal.units_fit-requires
units_fit-requires c = c.units-q.ensures.1

pub returns-then-not-units_fit : goal.returns-then-not-units_fit
returns-then-not-units_fit c = wrong_length_lem (measured c.count_at_head-k.ensures c.names_racks.ensures
    c.units-q.ensures.0) c.units_fit.ensures c.if-not-units_fit.true

pub returns-then-spare_at_head-gt1 : goal.returns-then-spare_at_head-gt1
returns-then-spare_at_head-gt1 c =
    wrong_spare (measured c.count_at_head-k.ensures c.names_racks.ensures c.units-q.ensures.0) c.units_fit.ensures
    c.if-not-units_fit.false c.spare_at_head.ensures
    c.if-spare_at_head-gt1.true

pub pad_clear-requires : goal.pad_clear-requires
pad_clear-requires c =
    fitted (measured c.count_at_head-k.ensures c.names_racks.ensures c.units-q.ensures.0) c.units_fit.ensures c.if-not-units_fit.false

pub returns-then-not-pad_clear : goal.returns-then-not-pad_clear
returns-then-not-pad_clear c =
    padding (measured c.count_at_head-k.ensures c.names_racks.ensures c.units-q.ensures.0) c.units_fit.ensures
    c.if-not-units_fit.false c.spare_at_head.ensures
    (omega (arith, c.if-spare_at_head-gt1.false)) c.pad_clear.ensures c.if-not-pad_clear.true

pub returns : goal.returns
returns c =
    sound (measured c.count_at_head-k.ensures c.names_racks.ensures c.units-q.ensures.0) c.units_fit.ensures
    c.if-not-units_fit.false c.spare_at_head.ensures
    (omega (arith, c.if-spare_at_head-gt1.false)) c.pad_clear.ensures c.if-not-pad_clear.false
