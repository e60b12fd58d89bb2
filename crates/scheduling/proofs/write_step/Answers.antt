-- `scheduling::write_step` meets its contract. The loop's invariant: the moves of the entries passed are packed behind the place of the
-- count, and `rest` has the positions that the others leave. Assumes nothing.
use Prim.Native.Nat.{◌+◌, ◌*◌}
use native.Mathlib.Omega.{arith}
use lib.ListN.{length-set}
use mathlib.Core.Path.{◌≡◌, sym, ◌∙◌}
use Rattle.sets.proofs.CountLaws.{ones-without}
use Rattle.scheduling.proofs.Writing.{part_room, rest-first, rest_some, rest_room, rest_few, rest-next, rest_last}
use Rattle.scheduling.proofs.Writing.{writing_last, count-at_most, at_inside, length_same}
use Rattle.scheduling.proofs.write_step.Goals as goal

pub loop-rest-init : goal.loop-rest-init
loop-rest-init c =
    rest-first c.args.window.now c.args.row c.args.buffer.now c.args.at _ c.requires.entries_fit.1 c.requires.row_bound.0

pub overflow_add-at : goal.overflow_add-at
overflow_add-at c =
    omega (
      arith,
      rest_room _ _ _ _ _ _ _ c.loop-rest.invariant c.lowest-p.result c.lowest-p.ensures.has
          c.lowest-p.ensures.by_index c.requires.row_bound.1,
    )

pub slice_bounds-put_pair-count : goal.slice_bounds-put_pair-count
slice_bounds-put_pair-count c =
    omega (
      arith,
      rest_room _ _ _ _ _ _ _ c.loop-rest.invariant c.lowest-p.result c.lowest-p.ensures.has
          c.lowest-p.ensures.by_index c.requires.row_bound.1,
    )

pub slice_bounds-put_pair-start : goal.slice_bounds-put_pair-start
slice_bounds-put_pair-start c =
    omega (
      arith,
      rest_room _ _ _ _ _ _ _ c.loop-rest.invariant c.lowest-p.result c.lowest-p.ensures.has
          c.lowest-p.ensures.by_index c.requires.row_bound.1,
    )

pub slice_bounds-put_pair-end : goal.slice_bounds-put_pair-end
slice_bounds-put_pair-end c =
    omega (
      arith,
      rest_room _ _ _ _ _ _ _ c.loop-rest.invariant c.lowest-p.result c.lowest-p.ensures.has
          c.lowest-p.ensures.by_index c.requires.row_bound.1,
    )

pub overflow_sub-entry : goal.overflow_sub-entry
overflow_sub-entry c =
    let some : (c.from-entry.result ≡ 0 → ⊥) = λ z. rest_some _ _ _ _ _ _ _ c.loop-rest.invariant c.lowest-p.result
    c.lowest-p.ensures.has c.lowest-p.ensures.by_index (sym c.from-entry.ensures ∙ z) in
    omega arith

pub put_pair-requires : goal.put_pair-requires
put_pair-requires c = (
  c.lowest-p.ensures.upper_bound,
  omega (arith, c.requires.entries_fit.0.at_most (c.args.row * 64 + c.lowest-p.result), c.from-entry.ensures),
  part_room c.loop-rest.buffer _ _ c.lowest-p.result 0
      (rest_room _ _ _ _ _ _ _ c.loop-rest.invariant c.lowest-p.result c.lowest-p.ensures.has
      c.lowest-p.ensures.by_index c.requires.row_bound.1),
)

pub overflow_add-count : goal.overflow_add-count
overflow_add-count c =
    omega (
      arith,
      rest_few _ _ _ _ _ _ _ c.loop-rest.invariant c.lowest-p.result c.lowest-p.ensures.has
          c.lowest-p.ensures.by_index c.requires.row_bound.1,
    )

pub loop-rest-smaller : goal.loop-rest-smaller
loop-rest-smaller c =
    ones-without c.lowest-p.result _ _ c.lowest-p.ensures.has c.without-rest.ensures

pub loop-rest-preserved : goal.loop-rest-preserved
loop-rest-preserved c =
    rest-next _ _ _ _ _ _ _ c.loop-rest.invariant c.lowest-p.result c.lowest-p.ensures.has c.lowest-p.ensures.by_index
    c.requires.row_bound.1 c.from-entry.result
    c.from-entry.ensures c.put_pair.new.s c.put_pair.ensures c.without-rest.result c.without-rest.ensures

pub overflow_cast-buffer : goal.overflow_cast-buffer
overflow_cast-buffer c =
    omega (
      arith,
      count-at_most _ _ _ _ c.requires.row_bound.1 c.loop-rest.count c.loop-rest.buffer
          (rest_last _ _ _ _ _ _ _ c.loop-rest.invariant (omega arith)),
    )

pub bounds-buffer-at : goal.bounds-buffer-at
bounds-buffer-at c =
    at_inside _ _ _ _ c.requires.row_bound.1 c.loop-rest.count c.loop-rest.buffer
    (rest_last _ _ _ _ _ _ _ c.loop-rest.invariant (omega arith))

pub overflow_add-result : goal.overflow_add-result
overflow_add-result c =
    let all = rest_last _ _ _ _ _ _ _ c.loop-rest.invariant (omega arith) in
    omega (
      arith,
      at_inside _ _ _ _ c.requires.row_bound.1 c.loop-rest.count c.loop-rest.buffer all,
      length_same _ _ _ _ c.requires.row_bound.1 c.loop-rest.count c.loop-rest.buffer all,
    )

pub overflow_mul-result : goal.overflow_mul-result
overflow_mul-result c =
    omega (
      arith,
      count-at_most _ _ _ _ c.requires.row_bound.1 c.loop-rest.count c.loop-rest.buffer
          (rest_last _ _ _ _ _ _ _ c.loop-rest.invariant (omega arith)),
    )

pub overflow_add-result-2 : goal.overflow_add-result-2
overflow_add-result-2 c =
    omega (
      arith,
      count-at_most _ _ _ _ c.requires.row_bound.1 c.loop-rest.count c.loop-rest.buffer
          (rest_last _ _ _ _ _ _ _ c.loop-rest.invariant (omega arith)),
    )

pub overflow_add-result-3 : goal.overflow_add-result-3
overflow_add-result-3 c =
    let all = rest_last _ _ _ _ _ _ _ c.loop-rest.invariant (omega arith) in
    omega (
      arith,
      at_inside _ _ _ _ c.requires.row_bound.1 c.loop-rest.count c.loop-rest.buffer all,
      length_same _ _ _ _ c.requires.row_bound.1 c.loop-rest.count c.loop-rest.buffer all,
      count-at_most _ _ _ _ c.requires.row_bound.1 c.loop-rest.count c.loop-rest.buffer all,
    )

pub shape_of-buffer : goal.shape_of-buffer
shape_of-buffer c =
    length-set c.loop-rest.buffer c.args.at c.loop-rest.count
    ∙ length_same _ _ _ _ c.requires.row_bound.1 c.loop-rest.count c.loop-rest.buffer
    (rest_last _ _ _ _ _ _ _ c.loop-rest.invariant (omega arith))

pub returns : goal.returns
returns c =
    writing_last _ _ _ _ c.requires.row_bound.1 c.loop-rest.count c.loop-rest.buffer
    (rest_last _ _ _ _ _ _ _ c.loop-rest.invariant (omega arith))
