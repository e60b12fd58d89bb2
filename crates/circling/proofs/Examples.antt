-- What the contracts of crates/circling ask for can be met: three places, rack 1 at place 0, which needs to go one place on.
--
--     driveable_met       it can be driven
--     aimed_met           a number to aim at
--     alike_met           its order is the same at place 1
-- Assumes nothing.
use Prim.Native.Nat.{ℕ, zero, suc, ◌<◌}
use mathlib.Core.Path.{◌≡◌, refl, ap}
use mathlib.Core.List.{[], ◌∷◌}
use mathlib.Core.Logic.{◌≢◌, ⊎_elim}
use native.Mathlib.Omega.{arith}
use Rattle.graph.specs.Rows.{row}
use Rattle.ring.proofs.Examples.{one_rack, circle_met}
use Rattle.circling.specs.Drive.{Driveable}
use Rattle.circling.specs.Needs.{Aimed, RoundAlike}

pub driveable_met : Driveable 3 1 (λ i. i) (row (0 ∷ 1 ∷ [])) (row one_rack)
driveable_met =
    record {
      three = omega arith;
      few = omega arith;
      on = circle_met;
      less = omega arith;
      vacancy = (1, omega arith, refl);
      paced = record { idle = refl; behind = λ i j li lj apart fi fj. absurd (alone i j apart fi fj) };
    }
  where
    alone : (i j : ℕ) → i ≢ j → row one_rack i ≢ 0 → row one_rack j ≢ 0 → ⊥
    alone zero zero apart fi fj = apart refl
    alone zero (suc zero) apart fi fj = fj refl
    alone zero (suc (suc zero)) apart fi fj = fj refl
    alone zero (suc (suc (suc j))) apart fi fj = fj refl
    alone (suc zero) j apart fi fj = fi refl
    alone (suc (suc zero)) j apart fi fj = fi refl
    alone (suc (suc (suc i))) j apart fi fj = fi refl

pub aimed_met : Aimed 3 6 1 7
aimed_met =
    record {
      lands = record { laps = 2; is = refl };
      there = record { first = omega arith; second = omega arith; near = omega arith };
      back = record { first = omega arith; second = omega arith; near = omega arith };
    }

pub alike_met : RoundAlike 3 1 (λ i. i) (row one_rack) (row (0 ∷ 1 ∷ 0 ∷ []))
alike_met p g from to r q s kr kq ks t =
    absurd
    (let a = kr.some in let b = kr.most in let c = kq.some in let d = kq.most in let e = ks.some in let f = ks.most in
    ⊎_elim (λ u. same r q (omega arith) u.0) (λ v. ⊎_elim (λ u. same q s (omega arith) u.0) (λ u. same s r (omega arith) u.0) v) t)
  where
    same : (x y : ℕ) → x ≡ y → p x < p y → ⊥
    same x y e l = let z : p x ≡ p y = ap p e in omega arith
