-- `solving::fill` meets its contract. The invariant is the record `Filling`.
-- Assumes nothing.
use native.Mathlib.Omega.{arith}
use Rattle.solving.proofs.FillLaws.{filling_begin, filling_some, filling_next, filling_all, filling_end}
use Rattle.solving.proofs.fill.Goals as goal

pub loop-stand_in-init : goal.loop-stand_in-init
loop-stand_in-init c =
    filling_begin _ c.requires.racks_len c.requires.m_bound c.requires.placed c.vacancies-vacant.ensures

pub lowest-p-requires : goal.lowest-p-requires
lowest-p-requires c = filling_some c.loop-stand_in.invariant

pub loop-stand_in-preserved : goal.loop-stand_in-preserved
loop-stand_in-preserved c =
    filling_next _ _ _ _ _ c.requires.n_bound (omega arith) c.loop-stand_in-test.true c.lowest-p.ensures.has
    c.lowest-p.ensures.by_index c.without-vacant.ensures c.loop-stand_in.invariant

pub returns : goal.returns
returns c = record {
  table = filling_end _ _ _ (omega arith) c.loop-stand_in.invariant;
  filled = c.loop-stand_in.invariant.filled;
  racks_len_2 = c.loop-stand_in.invariant.long;
  racks_after = filling_all _ _ _ (omega arith) c.loop-stand_in.invariant;
}
