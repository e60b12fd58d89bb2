-- `models::judge` meets its contract. Its stages are named once, with what is known there. Assumes nothing.
use native.Mathlib.Omega.{arith}
use Rattle.models.proofs.ExpansionLaws.{short_fits}
use Rattle.models.proofs.JudgeLaws.{read_head, known_model}
use Rattle.models.proofs.JudgeLaws.{judged_50, passed_50, judged_none, judged_many}
use Rattle.models.proofs.JudgeLaws.{racks_room, judged-racks, judged_short, judged_sound}
use Rattle.models.proofs.judge.Goals as goal

pub returns-then-not-well_packed : goal.returns-then-not-well_packed
returns-then-not-well_packed c =
    judged_50 c.args.lent c.args.short.now c.well_packed.result c.well_packed.ensures c.if-not-well_packed.true

pub bounds-short-0 : goal.bounds-short-0
bounds-short-0 c = let l = ((short_fits c.args.short.now (passed_50 0 c.args.short.now _ c.well_packed.ensures
    c.if-not-well_packed.false)).head_there) in omega arith

pub bounds-short-1 : goal.bounds-short-1
bounds-short-1 c = let l = ((short_fits c.args.short.now (passed_50 0 c.args.short.now _ c.well_packed.ensures
    c.if-not-well_packed.false)).head_there) in omega arith

pub returns-then-model-eq0 : goal.returns-then-model-eq0
returns-then-model-eq0 c = judged_none c.args.lent (passed_50 0 c.args.short.now _ c.well_packed.ensures
    c.if-not-well_packed.false) (read_head c.type_inv.short c.from-model.ensures c.from-m.ensures) (omega arith)

pub returns-then-model-gt5 : goal.returns-then-model-gt5
returns-then-model-gt5 c = judged_many c.args.lent (passed_50 0 c.args.short.now _ c.well_packed.ensures
    c.if-not-well_packed.false) (read_head c.type_inv.short c.from-model.ensures c.from-m.ensures) (omega arith)

pub size_of-size-requires : goal.size_of-size-requires
size_of-size-requires c = (known_model 0 (passed_50 0 c.args.short.now _ c.well_packed.ensures
    c.if-not-well_packed.false) (read_head c.type_inv.short c.from-model.ensures c.from-m.ensures) c.if-model-eq0.false
    c.if-model-gt5.false).known

pub slice_bounds-racks_sound-count : goal.slice_bounds-racks_sound-count
slice_bounds-racks_sound-count c = let l = ((short_fits c.args.short.now (passed_50 0 c.args.short.now _
    c.well_packed.ensures c.if-not-well_packed.false)).head_there) in omega arith

pub slice_bounds-racks_sound-start : goal.slice_bounds-racks_sound-start
slice_bounds-racks_sound-start c = let l = ((short_fits c.args.short.now (passed_50 0 c.args.short.now _
    c.well_packed.ensures c.if-not-well_packed.false)).head_there) in omega arith

pub racks_sound-requires : goal.racks_sound-requires
racks_sound-requires c =
    let enough = racks_room 0 (known_model 0 (passed_50 0 c.args.short.now _ c.well_packed.ensures
    c.if-not-well_packed.false) (read_head c.type_inv.short c.from-model.ensures c.from-m.ensures) c.if-model-eq0.false
    c.if-model-gt5.false) c.size_of-size.ensures in
    record {
      n_bound = enough.0;
      m_bound = enough.1;
      m_bound_2 = enough.2;
    }

pub returns-then-not-racks_sound : goal.returns-then-not-racks_sound
returns-then-not-racks_sound c =
    judged-racks c.args.lent (known_model 0 (passed_50 0 c.args.short.now _ c.well_packed.ensures
    c.if-not-well_packed.false) (read_head c.type_inv.short c.from-model.ensures c.from-m.ensures) c.if-model-eq0.false
    c.if-model-gt5.false) c.size_of-size.ensures c.racks_sound.ensures
    c.if-not-racks_sound.true

pub returns-then-lent-length : goal.returns-then-lent-length
returns-then-lent-length c =
    judged_short c.args.lent (known_model 0 (passed_50 0 c.args.short.now _ c.well_packed.ensures
    c.if-not-well_packed.false) (read_head c.type_inv.short c.from-model.ensures c.from-m.ensures) c.if-model-eq0.false
    c.if-model-gt5.false) c.size_of-size.ensures c.racks_sound.ensures
    c.if-not-racks_sound.false (omega arith)

pub returns : goal.returns
returns c =
    judged_sound c.args.lent (known_model 0 (passed_50 0 c.args.short.now _ c.well_packed.ensures
    c.if-not-well_packed.false) (read_head c.type_inv.short c.from-model.ensures c.from-m.ensures) c.if-model-eq0.false
    c.if-model-gt5.false) c.size_of-size.ensures c.racks_sound.ensures
    c.if-not-racks_sound.false (omega arith)
