-- `decoding::decode_edges` meets its contract: a refusal of the head reader is passed up, and `Layers` has the answers above an accepted
-- head. Assumes nothing.
use mathlib.Core.Path.{refl}
use native.Mathlib.Omega.{arith}
use Rattle.order.specs.Readers.{edges_answer}
use Rattle.answers.proofs.AnswerLaws.{handed_up, err_not}
use Rattle.order.specs.Verdict.{told}
use Rattle.order.proofs.Layers.{head_gave, tail_there, tail_room, tail-rows}
use Rattle.order.proofs.Layers.{edges_wrong, edges_right, none_filled}
use Rattle.decoding.proofs.decode_edges.Goals as goal

pub returns-in_err-counts : goal.returns-in_err-counts
unfolding edges_answer
returns-in_err-counts c = record {
  result_value = handed_up told c.from_residual.result _ c.from_residual.ensures.1 c.in_err-counts.ensures _;
  filled_rows = record { rows_are = λ v up. absurd (err_not told c.from_residual.result c.from_residual.ensures.0 v up) };
}

pub slice_bounds-join_edges-count : goal.slice_bounds-join_edges-count
slice_bounds-join_edges-count c = tail_there (head_gave c.in_ok-counts.ensures)

pub slice_bounds-join_edges-start : goal.slice_bounds-join_edges-start
slice_bounds-join_edges-start c = tail_there (head_gave c.in_ok-counts.ensures)

pub join_edges-requires : goal.join_edges-requires
join_edges-requires c = omega (arith, tail_room (head_gave c.in_ok-counts.ensures))

pub returns-then-not-join_edges : goal.returns-then-not-join_edges
returns-then-not-join_edges c =
    let right = edges_wrong (head_gave c.in_ok-counts.ensures) c.join_edges.ensures.value c.if-not-join_edges.true in
    record {
      result_value = right;
      filled_rows = none_filled _ _ _ 13 0 refl;
    }

pub returns : goal.returns
returns c =
    let g = (head_gave c.in_ok-counts.ensures) in
    let yes = c.if-not-join_edges.false in
    record {
      result_value = edges_right g c.join_edges.ensures.value yes;
      filled_rows = record { rows_are = λ v up. tail-rows g (c.join_edges.ensures.rows_after yes) };
    }
