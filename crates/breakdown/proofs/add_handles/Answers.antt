-- `breakdown::add_handles` meets its contract. The invariant is the record `Building`; what is left of 64 positions falls with each handle.
-- On a bi-connected floor there is a handle to choose (`ExistLaws`).
-- Assumes nothing.
use Prim.Native.Nat.{ℕ, ◌<◌}
use mathlib.Core.Path.{refl}
use native.Mathlib.Omega.{arith}
use Rattle.breakdown.proofs.ExistLaws.{handle_exists}
use Rattle.breakdown.proofs.BuildingLaws.{building_full, building_done}
use Rattle.breakdown.proofs.add_handles.Goals as goal

pub overflow_cast-b : goal.overflow_cast-b
overflow_cast-b c = let f = building_full c.loop-b.invariant.0 in omega arith

pub returns-in_err-pair : goal.returns-in_err-pair
returns-in_err-pair c =
    rw c.from_residual.ensures record {
      found = λ h. absurd (never h);
      none = λ e bi. handle_exists c.requires.rows bi _ _ _ _ _ 0 0 0 c.loop-b.invariant.0 c.loop-b-test.true c.in_err-pair.ensures refl;
    }
  where
    never : {x : ℕ} → x < 0 → ⊥
    never h = omega arith

pub returns : goal.returns
returns c =
    let three = c.loop-b.invariant.0.ring_three in (
      omega arith,
      record {
        found = λ h. building_done c.loop-b.invariant.0 c.loop-b-test.false c.loop-b.invariant.1;
        none = λ e bi. omega arith;
      },
    )
