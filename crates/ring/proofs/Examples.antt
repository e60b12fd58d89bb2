-- What the contracts of crates/ring ask for can be met: three positions in a ring, rack 1 at position 0 or 1.
--
--     one_rack             the table of the rack at 0
--     places_met, order_met, circle_met, standing_met    the racks, their places and their order
-- Assumes nothing.
use Prim.Native.Nat.{ℕ, zero, suc}
use mathlib.Core.Path.{◌≡◌, refl}
use mathlib.Core.List.{List, [], ◌∷◌}
use mathlib.Core.Logic.{◌≢◌, ⊎_elim}
use native.Mathlib.Omega.{arith}
use Rattle.ring.specs.Order.{Rack, Places, SameOrder}
use Rattle.graph.specs.Rows.{row}
use Rattle.ring.specs.Standing.{OnCircle, Standing}
use Rattle.ring.proofs.OrderLaws.{rack_of_lem}
use Rattle.ring.proofs.StandingLaws.{standing_of}

abbrev pub one_rack : List ℕ
one_rack = 1 ∷ 0 ∷ 0 ∷ []

pub places_met : Places 3 1 (λ r. 0)
places_met =
    record {
      below = λ r k. omega arith;
      apart = λ r q kr kq e. let a = kr.some in let b = kr.most in let c = kq.some in let d = kq.most in omega arith;
    }

pub order_met : SameOrder 1 (λ r. 0) (λ r. 1)
order_met r q s kr kq ks t = absurd (⊎_elim (λ u. omega (arith, u.0)) (λ v. ⊎_elim (λ u. omega (arith, u.0)) (λ u. omega
    (arith, u.0)) v) t)

pub circle_met : OnCircle 3 1 (λ i. i) (row one_rack)
circle_met =
    record {
      rack = λ i l held. at i held;
      one = λ i j li lj held e. only i j held e;
      every = λ r k. (0, omega arith, (let a = k.some in let b = k.most in omega arith));
    }
  where
    at : (i : ℕ) → row one_rack i ≢ 0 → Rack 1 (row one_rack i)
    at zero held = rack_of_lem (omega arith) (omega arith)
    at (suc zero) held = absurd (held refl)
    at (suc (suc zero)) held = absurd (held refl)
    at (suc (suc (suc i))) held = absurd (held refl)

    only : (i j : ℕ) → row one_rack i ≢ 0 → row one_rack i ≡ row one_rack j → i ≡ j
    only zero zero held e = refl
    only zero (suc zero) held e = absurd (held e)
    only zero (suc (suc zero)) held e = absurd (held e)
    only zero (suc (suc (suc j))) held e = absurd (held e)
    only (suc zero) j held e = absurd (held refl)
    only (suc (suc zero)) j held e = absurd (held refl)
    only (suc (suc (suc i))) j held e = absurd (held refl)

pub standing_met : Standing 3 (λ i. i) (row one_rack)
standing_met = standing_of circle_met (omega arith) (omega arith) (omega arith) (λ i l. l)
