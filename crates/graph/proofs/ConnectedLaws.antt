-- Laws of whole sets of positions and of bi-connected floors.
--
--     whole_hung              what hangs on a whole set by ways is whole with it
--     whole_same              two sets with the same positions are whole together
--     whole_base              positions that all have a way to one of them are whole
--     third                   three positions hold one that is neither of two given ones
--     bi_connected_without     three positions at least, connected without any one: then bi-connected
-- Assumes nothing.
use Prim.Native.Nat.{ℕ, ◌≤◌, ◌<◌}
use mathlib.Core.Logic.{◌≢◌, by_cases}
use native.Mathlib.Decide.{ℕ_discrete}
use native.Mathlib.Omega.{arith}
use Rattle.graph.specs.Walk.{Way, Symmetric}
use Rattle.graph.proofs.WalkLaws.{way_append, way_inside, way_reverse}
use Rattle.graph.specs.Connected.{Whole, ConnectedWithout, BiConnected}

-- A position q of Q that hangs on P: a way inside Q leads from q to a position of P.
pub record Hangs (E : ℕ → ℕ → Type 0) (P Q : ℕ → Type 0) (q : ℕ) : Type 0 where
  pub at : ℕ
  pub there : P at
  pub way : Way E Q q at

pub whole_hung : {E : ℕ → ℕ → Type 0} {P Q : ℕ → Type 0} → Symmetric E → ((p : ℕ) → P p → Q p) → Whole E P
    → ((q : ℕ) → Q q → Hangs E P Q q) → Whole E Q
whole_hung s sub whole hung u v qu qv =
    let a = hung u qu in
    let b = hung v qv in
    way_append a.way (way_append (way_inside sub (whole a.at b.at a.there b.there)) (way_reverse s b.way))

pub whole_same : {E : ℕ → ℕ → Type 0} {P Q : ℕ → Type 0} → ((p : ℕ) → P p → Q p) → ((p : ℕ) → Q p → P p) → Whole E P → Whole E Q
whole_same to from whole u v qu qv = way_inside to (whole u v (from u qu) (from v qv))

pub whole_base : {E : ℕ → ℕ → Type 0} {P : ℕ → Type 0} → Symmetric E → (b : ℕ) → ((p : ℕ) → P p → Way E P p b) → Whole E P
whole_base s b base u v pu pv = way_append (base u pu) (way_reverse s (base v pv))

pub record Third (u v : ℕ) : Type 0 where
  pub at : ℕ
  pub small : at < 3
  pub first : u ≢ at
  pub second : v ≢ at

pub third : (u v : ℕ) → Third u v
third u v =
    by_cases (ℕ_discrete u 0)
    (λ a. by_cases (ℕ_discrete v 1)
    (λ b. record { at = 2; small = omega arith; first = omega arith; second = omega arith })
    (λ b. record { at = 1; small = omega arith; first = omega arith; second = omega arith }))
    (λ a. by_cases (ℕ_discrete v 0)
    (λ b. by_cases (ℕ_discrete u 1)
    (λ c. record { at = 2; small = omega arith; first = omega arith; second = omega arith })
    (λ c. record { at = 1; small = omega arith; first = omega arith; second = omega arith }))
    (λ b. record { at = 0; small = omega arith; first = omega arith; second = omega arith }))

-- Connected follows: a third position is taken away, and a walk without it is a walk.
pub bi_connected_without : {n : ℕ} {E : ℕ → ℕ → Type 0} → 3 ≤ n → ((x : ℕ) → x < n → ConnectedWithout n E x) → BiConnected n E
bi_connected_without {n} {E} three without =
    record {
      three = three;
      connected = λ u v hu hv.
          let x = third u v in
          way_inside (λ p q. q.there)
          (without x.at (omega arith) u v (record { there = hu; other = x.first }) (record { there = hv; other = x.second }));
      without = without;
    }
