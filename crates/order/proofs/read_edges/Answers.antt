-- `order::read_edges` meets its contract: a refusal of the head reader is passed up, and `Layers` has the answers above an accepted head.
-- Assumes nothing.
use native.Mathlib.Omega.{arith}
use Rattle.answers.proofs.AnswerLaws.{handed_up}
use Rattle.order.specs.Verdict.{told}
use Rattle.order.specs.Readers.{edges_answer}
use Rattle.order.proofs.Layers.{head_gave, tail_there, tail_room, edges_wrong, edges_right}
use Rattle.order.proofs.read_edges.Goals as goal

pub returns-in_err-counts : goal.returns-in_err-counts
unfolding edges_answer
returns-in_err-counts c = handed_up told c.from_residual.result _ c.from_residual.ensures.1 c.in_err-counts.ensures _

pub slice_bounds-edges_sound-count : goal.slice_bounds-edges_sound-count
slice_bounds-edges_sound-count c = tail_there (head_gave c.in_ok-counts.ensures)

pub slice_bounds-edges_sound-start : goal.slice_bounds-edges_sound-start
slice_bounds-edges_sound-start c = tail_there (head_gave c.in_ok-counts.ensures)

pub edges_sound-requires : goal.edges_sound-requires
edges_sound-requires c = omega (arith, tail_room (head_gave c.in_ok-counts.ensures))

pub returns-then-not-edges_sound : goal.returns-then-not-edges_sound
returns-then-not-edges_sound c =
    edges_wrong (head_gave c.in_ok-counts.ensures) c.edges_sound.ensures c.if-not-edges_sound.true

pub returns : goal.returns
returns c =
    edges_right (head_gave c.in_ok-counts.ensures) c.edges_sound.ensures c.if-not-edges_sound.false
