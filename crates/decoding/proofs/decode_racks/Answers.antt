-- `decoding::decode_racks` meets its contract: a refusal of the edge reader is passed up, and `Layers` has the answers and the tables above
-- its acceptance.
-- Assumes nothing.
use mathlib.Core.Path.{refl}
use native.Mathlib.Omega.{arith}
use Rattle.answers.proofs.AnswerLaws.{err_not, not_both}
use Rattle.order.specs.Verdict.{told}
use Rattle.order.proofs.Layers.{edges_gave, edges_down, tail_there, tail_room, racks_wrong, racks_right}
use Rattle.order.proofs.Layers.{rows_filled, starts_filled, goals_filled}
use Rattle.decoding.proofs.decode_racks.Goals as goal

pub returns-in_err-counts : goal.returns-in_err-counts
returns-in_err-counts c =
    let never = err_not told c.from_residual.result c.from_residual.ensures.0 in
    record {
      result_value = edges_down _ c.from_residual.result _ c.from_residual.ensures.1 c.in_err-counts.ensures.result_value;
      filled = record {
        rows_are = λ v up. absurd (never v up);
        starts_are = λ v up. absurd (never v up);
        goals_are = λ v up. absurd (never v up);
      };
    }

pub slice_bounds-racks_sound-count : goal.slice_bounds-racks_sound-count
slice_bounds-racks_sound-count c = tail_there (edges_gave c.in_ok-counts.ensures.result_value).head

pub slice_bounds-racks_sound-start : goal.slice_bounds-racks_sound-start
slice_bounds-racks_sound-start c = tail_there (edges_gave c.in_ok-counts.ensures.result_value).head

pub racks_sound-requires : goal.racks_sound-requires
racks_sound-requires c =
    let g = (edges_gave c.in_ok-counts.ensures.result_value).head in
    record {
      n_bound = omega arith;
      m_bound = omega arith;
      m_bound_2 = tail_room g;
    }

pub returns-then-not-racks_sound : goal.returns-then-not-racks_sound
returns-then-not-racks_sound c = record {
  result_value = racks_wrong (edges_gave c.in_ok-counts.ensures.result_value) c.racks_sound.ensures c.if-not-racks_sound.true;
  filled = record {
    rows_are = λ v up. absurd (not_both 14 0 v up);
    starts_are = λ v up. absurd (not_both 14 0 v up);
    goals_are = λ v up. absurd (not_both 14 0 v up);
  };
}

pub returns : goal.returns
returns c =
    let gave = edges_gave c.in_ok-counts.ensures.result_value in
    let yes = c.if-not-racks_sound.false in
    record {
      result_value = racks_right gave c.racks_sound.ensures yes;
      filled = record {
        rows_are = λ v up. rows_filled gave c.racks_sound.ensures yes (c.in_ok-counts.ensures.filled_rows.rows_are _ refl);
        starts_are = λ v up. starts_filled gave c.racks_sound.ensures yes;
        goals_are = λ v up. goals_filled gave c.racks_sound.ensures yes;
      };
    }
