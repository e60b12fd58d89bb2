-- A ring on which the definitions are seen to hold, by computation: what the contracts assume can be met. A ring of four positions with a
-- fifth beside its places 0 and 2; racks 1 and 2 at places 2 and 3 of the ring, rack 3 beside it.
--
--     square, square-rows    the rows of that floor
--     places                 the ring's positions in their order
--     racks, racks-table     the table of racks, which has two vacancies
--     circle, square-ring    the ring, as settling it needs it
--     first_on, second_on, square_open    racks 1 and 2 stand on the ring, and places 0 and 1 are vacant: `base_ring::exchange` can
--                                         exchange them
--     square_ringing         the state in which places from 2 on are settled
--     state, settle_ring_met    what `base_ring::settle_ring` asks for, all of it at once
-- Assumes nothing.
use Prim.Native.Nat.{ℕ, zero, suc, ◌+◌, ◌≤◌, ◌<◌}
use mathlib.Core.Path.{◌≡◌, refl, ◌∙◌}
use mathlib.Core.List.{List, [], ◌∷◌}
use mathlib.Core.Logic.{◌⊎◌, inl, inr, ⊎_elim}
use native.Mathlib.Omega.{arith}
use lib.ListN.{replicate, length-replicate}
use Rattle.sets.specs.Sets.{bit}
use Rattle.graph.specs.Rows.{row, Edge, Rows}
use Rattle.graph.proofs.Examples.{rows_tested}
use Rattle.moving.specs.Journey.{Space}
use Rattle.moving.specs.Table.{Table}
use Rattle.moving.specs.declared.State.{State}
use Rattle.base_ring.specs.declared.Circle.{Circle}
use Rattle.base_ring.specs.Circle.{BaseRing, OnRing, Open, RestSettled, Ringing}
use Rattle.base_ring.specs.Moves.{exchange_moves, ring_moves}

unfoldable pub square : List ℕ
square = 26 ∷ 5 ∷ 26 ∷ 5 ∷ 5 ∷ []

pub square-rows : Rows 5 square
unfolding square bit
square-rows = rows_tested 5 square tt

abbrev pub places : List ℕ
places = 0 ∷ 1 ∷ 2 ∷ 3 ∷ replicate 60 0

abbrev pub racks : List ℕ
racks = 0 ∷ 0 ∷ 1 ∷ 2 ∷ 3 ∷ replicate 59 0

place_is : (i : ℕ) → i < 4 → row places i ≡ i
place_is zero l = refl
place_is (suc zero) l = refl
place_is (suc (suc zero)) l = refl
place_is (suc (suc (suc zero))) l = refl
place_is (suc (suc (suc (suc i)))) l = absurd (omega arith)

none_after : (m i : ℕ) → row (replicate m 0) i ≡ 0
none_after zero i = refl
none_after (suc m) zero = refl
none_after (suc m) (suc i) = none_after m i

rack_is : (p : ℕ) → ((1 < p) × (p < 5) × (row racks p + 1 ≡ p)) ⊎ (((p ≡ 0) ⊎ ((p ≡ 1) ⊎ (5 ≤ p))) × (row racks p ≡ 0))
rack_is zero = inr (inl refl, refl)
rack_is (suc zero) = inr (inr (inl refl), refl)
rack_is (suc (suc zero)) = inl (omega arith, omega arith, refl)
rack_is (suc (suc (suc zero))) = inl (omega arith, omega arith, refl)
rack_is (suc (suc (suc (suc zero)))) = inl (omega arith, omega arith, refl)
rack_is (suc (suc (suc (suc (suc p))))) = inr (inr (inr (omega arith)), none_after 59 p)

pub racks-table : Table 5 (row racks)
racks-table =
    record {
      one = λ p q held same. ⊎_elim
          (λ x. ⊎_elim
          (λ y. let a = x.2 in let b = y.2 in omega arith)
          (λ y. absurd (held (same ∙ y.1))) (rack_is q))
          (λ x. absurd (held x.1)) (rack_is p);
      inside = λ p held. ⊎_elim (λ x. x.1) (λ x. absurd (held x.1)) (rack_is p);
      most = λ p. ⊎_elim (λ x. let a = x.1 in let b = x.2 in omega arith) (λ x. let a = x.1 in omega arith) (rack_is p);
      every = every;
      first = 0;
      second = 1;
      differ = λ e. omega arith;
      first_inside = omega arith;
      second_inside = omega arith;
      first_vacant = refl;
      second_vacant = refl;
      only = only;
    }
  where
    every : (r : ℕ) → 0 < r → r + 2 ≤ 5 → (p : ℕ) × (row racks p ≡ r)
    every zero some few = absurd (omega arith)
    every (suc zero) some few = (2, refl)
    every (suc (suc zero)) some few = (3, refl)
    every (suc (suc (suc zero))) some few = (4, refl)
    every (suc (suc (suc (suc r)))) some few = absurd (omega arith)

    only : (p : ℕ) → p < 5 → row racks p ≡ 0 → (p ≡ 0) ⊎ (p ≡ 1)
    only p l e =
        ⊎_elim
        (λ x. let a = x.0 in let b = x.2 in absurd (omega arith))
        (λ x. ⊎_elim (λ y. inl y) (λ y. ⊎_elim (λ z. inr z) (λ z. absurd (omega arith)) y) x.0)
        (rack_is p)

abbrev pub circle : Circle
circle = record { at = places; positions = 5; size = 4; beside = 4 }

pub square-ring : BaseRing (Edge square) circle
unfolding square bit
square-ring =
    record {
      three = omega arith;
      less = omega arith;
      below = λ i l. let e = place_is i l in omega arith;
      distinct = λ i j h l e. let x = place_is i (omega arith) in let y = place_is j l in omega arith;
      joined = joined;
      closed = refl;
      beside = refl;
      off = λ i l e. let x = place_is i l in omega arith;
    }
  where
    joined : (i : ℕ) → i + 1 < 4 → Edge square (row places i) (row places (i + 1))
    joined zero l = refl
    joined (suc zero) l = refl
    joined (suc (suc zero)) l = refl
    joined (suc (suc (suc i))) l = absurd (omega arith)

pub first_on : OnRing circle 1 (row racks)
first_on = record { rack = λ e. omega arith; at = 2; on = record { place = 2; before = omega arith; is = refl }; there = refl }

pub second_on : OnRing circle 2 (row racks)
second_on = record { rack = λ e. omega arith; at = 3; on = record { place = 3; before = omega arith; is = refl }; there = refl }

pub square_open : Open circle (row racks)
square_open = record { table = racks-table; zero = refl; one = refl }

pub square_ringing : Ringing circle (row racks) 2 (row racks)
square_ringing = record { opened = square_open; goal = square_open; settled = λ j low high. refl; outside = λ p out. refl }

abbrev pub state : State
state = record { racks = racks; real = 3; written = 0; logged = 0 }

pub settle_ring_met :
    Rows 5 square
    × BaseRing (Edge square) circle
    × RestSettled circle (row racks) (row racks)
    × Space state (replicate 972 0) (ring_moves 4)
unfolding exchange_moves
settle_ring_met =
    let h = length-replicate {A = ℕ} 59 0 in
    let t = length-replicate {A = ℕ} 972 0 in (
      square-rows,
      square-ring,
      record { table = racks-table; goal = square_open; outside = λ p out. refl },
      record { racks = omega arith; few_racks = omega arith; room = omega arith },
    )
