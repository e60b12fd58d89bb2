-- `solving::fill` meets its contract. The invariant is the record `Filling`.
-- Assumes nothing.
use Prim.Native.Nat.{◌-◌}
use Rattle.solving.proofs.FillLaws.{Filling}
use Rattle.solving.proofs.fill.Given as goal

abbrev pub invariant-loop-stand_in : goal.invariant-loop-stand_in
invariant-loop-stand_in l = Filling l.n l.m l.initial.racks l.racks (l.stand_in - 1) l.vacant
