-- `models::write_out` meets its contract. Its stages are named once, with what is known there. Assumes nothing.
use native.Mathlib.Omega.{arith}
use Rattle.models.proofs.ExpansionLaws.{short_fits, length-expanded}
use Rattle.models.proofs.JudgeLaws.{read_head}
use Rattle.models.proofs.WrittenOut.{Begun, out_known, out_racks, out_room, out_counts, out_written}
use Rattle.models.proofs.write_out.Goals as goal

pub bounds-short-0 : goal.bounds-short-0
bounds-short-0 c = let l = ((short_fits c.args.short.now c.requires.short_value.0).head_there) in omega arith

pub bounds-short-1 : goal.bounds-short-1
bounds-short-1 c = let l = ((short_fits c.args.short.now c.requires.short_value.0).head_there) in omega arith

pub size_of-size-requires : goal.size_of-size-requires
size_of-size-requires c = out_known ((let it : Begun c.args.short.now c.args.order.now c.from-model.result
    c.from-m.result = record {
      right = c.requires.short_value.0;
      known = c.requires.short_value.1;
      enough =
          c.requires.short_in_bounds;
      head = read_head c.type_inv.short c.from-model.ensures c.from-m.ensures;
    } in it))

pub slice_bounds-put_tail-count : goal.slice_bounds-put_tail-count
slice_bounds-put_tail-count c = let l = length-expanded c.args.short.now in omega arith

pub slice_bounds-put_tail-start : goal.slice_bounds-put_tail-start
slice_bounds-put_tail-start c = let l = length-expanded c.args.short.now in omega arith

pub slice_bounds-put_tail-count-2 : goal.slice_bounds-put_tail-count-2
slice_bounds-put_tail-count-2 c = let l = ((short_fits c.args.short.now c.requires.short_value.0).head_there) in omega arith

pub slice_bounds-put_tail-start-2 : goal.slice_bounds-put_tail-start-2
slice_bounds-put_tail-start-2 c = let l = ((short_fits c.args.short.now c.requires.short_value.0).head_there) in omega arith

pub put_tail-e-requires : goal.put_tail-e-requires
put_tail-e-requires c =
    let o = ((let it : Begun c.args.short.now c.args.order.now c.from-model.result c.from-m.result = record {
      right = c.requires.short_value.0;
      known = c.requires.short_value.1;
      enough = c.requires.short_in_bounds;
      head = read_head c.type_inv.short c.from-model.ensures c.from-m.ensures;
    } in it)) in
    record {
      le_columns = (
        c.size_of-size.ensures.some_column,
        c.size_of-size.ensures.few_columns,
        c.size_of-size.ensures.few,
        out_racks o c.size_of-size.ensures,
      );
      room = out_room o c.size_of-size.ensures;
    }

pub put_head-requires : goal.put_head-requires
put_head-requires c =
    let l = length-expanded c.args.short.now in
    record {
      in_bounds = omega arith;
      n_bound = out_counts ((let it : Begun c.args.short.now c.args.order.now c.from-model.result c.from-m.result =
          record {
            right = c.requires.short_value.0;
            known = c.requires.short_value.1;
            enough =
                c.requires.short_in_bounds;
            head = read_head c.type_inv.short c.from-model.ensures c.from-m.ensures;
          } in it))
          c.size_of-size.ensures _ c.put_tail-e.ensures;
    }

pub returns : goal.returns
returns c =
    out_written ((let it : Begun c.args.short.now c.args.order.now c.from-model.result c.from-m.result = record {
      right = c.requires.short_value.0;
      known = c.requires.short_value.1;
      enough = c.requires.short_in_bounds;
      head = read_head c.type_inv.short c.from-model.ensures c.from-m.ensures;
    } in it)) c.size_of-size.ensures _ c.put_tail-e.ensures
    c.put_head.ensures
