-- A breakdown and a ring by computation: what the laws of breakdowns and rings assume can be met.
--
--     in_row, starts, lefts, rights    the floor F of document 01's case book, taken apart: the ring 0, 1, 2 and the handle 1, 3, 2
--     floor_f-breakdown      that is a breakdown of it
--     floor_f_bi_connected    so that F is bi-connected
--     triangle-ring         three positions in a ring are a ring
-- Assumes nothing.
use Prim.Native.Nat.{ℕ, zero, suc, ◌+◌, ◌≤◌, ◌<◌}
use mathlib.Core.List.{List, ◌∷◌}
use mathlib.Core.Path.{◌≡◌, refl, subst}
use native.Mathlib.Omega.{arith}
use lib.Dec.{lit<, lit≤}
use lib.ListN.{replicate}
use Rattle.sets.specs.Sets.{bit}
use Rattle.graph.specs.Connected.{BiConnected, Ring, Robust}
use Rattle.graph.proofs.ConnectedLaws.{whole_same}
use Rattle.graph.specs.Rows.{row, Edge}
use Rattle.graph.specs.EdgeCount.{edge_count}
use Rattle.graph.proofs.Examples.{floor_f, floor_f-rows, triangle, triangle-rows, triangle_edges}
use Rattle.breakdown.specs.Breakdown.{Among, Handle, Breakdown}
use Rattle.breakdown.proofs.StageLaws.{ring_robust, breakdown_bi_connected}

-- the row of F's breakdown: ring, then the inside of handle 0, from place 3 up to place 4, between 1 and 2
abbrev pub in_row : List ℕ
in_row = 0 ∷ 1 ∷ 2 ∷ 3 ∷ replicate 60 0

abbrev pub starts : List ℕ
starts = 3 ∷ 4 ∷ replicate 62 0

abbrev pub lefts : List ℕ
lefts = 1 ∷ replicate 63 0

abbrev pub rights : List ℕ
rights = 2 ∷ replicate 63 0

pub in_row_is : (i : ℕ) → i < 4 → row in_row i ≡ i
in_row_is zero l = refl
in_row_is (suc zero) l = refl
in_row_is (suc (suc zero)) l = refl
in_row_is (suc (suc (suc zero))) l = refl
in_row_is (suc (suc (suc (suc i)))) l = absurd (none l)
  where
    none : suc (suc (suc (suc i))) < 4 → ⊥
    none h = omega arith

floor_f-ring : (i : ℕ) → i + 1 < 3 → Edge floor_f (row in_row i) (row in_row (i + 1))
unfolding floor_f bit
floor_f-ring zero l = refl
floor_f-ring (suc zero) l = refl
floor_f-ring (suc (suc i)) l = absurd (none l)
  where
    none : suc (suc i) + 1 < 3 → ⊥
    none h = omega arith

floor_f_handle : (i : ℕ) → i < 1 → Handle (Edge floor_f) (row in_row) (row starts i) (row starts (i + 1)) (row lefts i) (row rights i)
unfolding floor_f bit
floor_f_handle zero l =
    record {
      inner = lit< tt;
      first = refl;
      joined = λ j a b. absurd (none j a b);
      last = refl;
      ends = λ e. differ e;
      left = record { place = 1; before = lit< tt; is = refl };
      right = record { place = 2; before = lit< tt; is = refl };
    }
  where
    none : (j : ℕ) → 3 ≤ j → j + 1 < 4 → ⊥
    none j a b = omega arith

    differ : ◌≡◌ {A = ℕ} 1 2 → ⊥
    differ e = omega arith
floor_f_handle (suc i) l = absurd (none l)
  where
    none : suc i < 1 → ⊥
    none h = omega arith

pub floor_f-breakdown : Breakdown 4 (Edge floor_f) 3 1 (row in_row) (row starts) (row lefts) (row rights)
unfolding floor_f bit
floor_f-breakdown =
    record {
      ring_three = lit≤ tt;
      ring_less = lit< tt;
      ring_joined = floor_f-ring;
      ring_closed = refl;
      begins = refl;
      handle = floor_f_handle;
      stops = refl;
      below = λ i l. let e = in_row_is i l in omega arith;
      distinct = λ i j l h e. let x = in_row_is i (omega arith) in let y = in_row_is j h in omega arith;
      every = λ p l. record { place = p; before = l; is = in_row_is p l };
    }

pub floor_f_bi_connected : BiConnected 4 (Edge floor_f)
floor_f_bi_connected = breakdown_bi_connected floor_f-rows.symmetric floor_f-breakdown

-- the row 0, 1, 2
abbrev place : ℕ → ℕ
place i = i

in_row_lem : (m p : ℕ) → p < m → Among place m p
in_row_lem m p l = record { place = p; before = l; is = refl }

triangle-joined : (i : ℕ) → i + 1 < 3 → Edge triangle (place i) (place (i + 1))
unfolding triangle bit
triangle-joined zero l = refl
triangle-joined (suc zero) l = refl
triangle-joined (suc (suc i)) l = absurd (none l)
  where
    none : suc (suc i) + 1 < 3 → ⊥
    none h = omega arith

triangle_robust : Robust (Edge triangle) (Among place 3)
unfolding triangle bit
triangle_robust =
    ring_robust place 3 triangle-rows.symmetric (lit≤ tt) triangle-joined refl
    (λ i j l h. omega arith)

pub triangle-ring : Ring 3 (Edge triangle) (edge_count triangle 3)
triangle-ring =
    record {
      bi_connected =
          record {
            three = lit≤ tt;
            connected = whole_same in_floor (in_row_lem 3) triangle_robust.whole;
            without = λ x l.
                whole_same
                (λ p e. record { there = in_floor p e.there; other = e.other })
                (λ p e. record { there = in_row_lem 3 p e.there; other = e.other })
                (triangle_robust.without x (in_row_lem 3 x l));
          };
      count = triangle_edges;
    }
  where
    in_floor : (p : ℕ) → Among place 3 p → p < 3
    in_floor p a = subst (λ (q : ℕ). q < 3) a.is a.before
