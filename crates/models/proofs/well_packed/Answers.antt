-- `models::well_packed` meets its contract. Assumes nothing.
use native.Mathlib.Omega.{arith}
use Rattle.models.proofs.ExpansionLaws.{too_short}
use Rattle.models.proofs.JudgeLaws.{not_length, not_spare, pad_room, not_pad, well_packed}
use Rattle.models.proofs.well_packed.Goals as goal

pub returns-then-short-lt2 : goal.returns-then-short-lt2
returns-then-short-lt2 c = too_short c.args.short.now c.if-short-lt2.true

pub returns-then-short-m : goal.returns-then-short-m
returns-then-short-m c = not_length c.args.short.now c.from-b.result (omega arith) c.from-b.ensures
    (omega (arith, c.from-b.ensures, c.type_inv.short 1))
    c.if-short-m.true

pub returns-then-b-ne0 : goal.returns-then-b-ne0
returns-then-b-ne0 c = not_spare c.args.short.now c.from-b.result (omega arith) c.from-b.ensures
    (omega (arith, c.from-b.ensures, c.type_inv.short 1))
    (λ e. c.if-b-ne0.true (omega arith))

pub pad_after-requires : goal.pad_after-requires
pad_after-requires c = pad_room c.args.short.now c.from-b.result (omega arith) c.from-b.ensures
    (omega (arith, c.from-b.ensures, c.type_inv.short 1))
    c.if-short-m.false

pub returns-then-pad_after-ne0 : goal.returns-then-pad_after-ne0
returns-then-pad_after-ne0 c = not_pad c.args.short.now c.from-b.result (omega arith) c.from-b.ensures
    (omega (arith, c.from-b.ensures, c.type_inv.short 1)) c.if-short-m.false
    c.pad_after.result c.pad_after.ensures c.if-pad_after-ne0.true

pub returns : goal.returns
returns c = well_packed c.args.short.now c.from-b.result (omega arith) c.from-b.ensures
    (omega (arith, c.from-b.ensures, c.type_inv.short 1))
    c.if-short-m.false
    c.pad_after.result c.pad_after.ensures (omega arith) c.if-pad_after-ne0.false
