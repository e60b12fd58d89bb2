-- The case book's order on floor F (document 01, "Programs": rack 1 from 0 to 3, rack 2 from 3 to 0): its tables have just two vacancies,
-- seen by computation.
--
--     corners x y                 the table with rack x at 0 and rack y at 3
--     none_after                  the rest of it is vacant
--     corners-table               with racks 1 and 2, in either order, it has two vacancies
--     start, goal, start-table, goal-table    the order's tables
-- Assumes nothing.
use Prim.Native.Nat.{ℕ, zero, suc, ◌+◌, ◌≤◌, ◌<◌}
use mathlib.Core.Path.{◌≡◌, refl, sym, ◌∙◌}
use mathlib.Core.List.{List, ◌∷◌}
use mathlib.Core.Logic.{◌≢◌, ◌⊎◌, inl, inr, ⊎_elim}
use native.Mathlib.Omega.{arith}
use lib.Dec.{lit<, lit≤}
use lib.ListN.{replicate}
use Rattle.graph.specs.Rows.{row}
use Rattle.moving.specs.Table.{Table}

abbrev pub corners : ℕ → ℕ → List ℕ
corners x y = x ∷ 0 ∷ 0 ∷ y ∷ replicate 60 0

pub none_after : (m i : ℕ) → row (replicate m 0) i ≡ 0
none_after zero i = refl
none_after (suc m) zero = refl
none_after (suc m) (suc i) = none_after m i

module _ (x y : ℕ) (one : 0 < x) (two : 0 < y) (few : x ≤ 2) (low : y ≤ 2) (differ : x ≢ y) where
  corner_is : (p : ℕ) → ((p ≡ 0) × (row (corners x y) p ≡ x))
      ⊎ (((p ≡ 3) × (row (corners x y) p ≡ y)) ⊎ (((p ≡ 1) ⊎ ((p ≡ 2) ⊎ (4 ≤ p))) × (row (corners x y) p ≡ 0)))
  corner_is zero = inl (refl, refl)
  corner_is (suc zero) = inr (inr (inl refl, refl))
  corner_is (suc (suc zero)) = inr (inr (inr (inl refl), refl))
  corner_is (suc (suc (suc zero))) = inr (inl (refl, refl))
  corner_is (suc (suc (suc (suc p)))) = inr (inr (inr (inr (omega arith)), none_after 60 p))

  pub corners-table : ((r : ℕ) → 0 < r → r + 2 ≤ 4 → (p : ℕ) × (row (corners x y) p ≡ r)) → Table 4 (row (corners x y))
  corners-table every =
      record {
        one = same;
        inside = λ p held. ⊎_elim (λ a. let e = a.0 in omega arith)
            (⊎_elim (λ a. let e = a.0 in omega arith) (λ a. absurd (held a.1))) (corner_is p);
        most = λ p. ⊎_elim (λ a. let e = a.1 in omega arith)
            (⊎_elim (λ a. let e = a.1 in omega arith) (λ a. let e = a.1 in omega arith)) (corner_is p);
        every = every;
        first = 1;
        second = 2;
        differ = λ e. omega arith;
        first_inside = lit< tt;
        second_inside = lit< tt;
        first_vacant = refl;
        second_vacant = refl;
        only = only;
      }
    where
      same : (p q : ℕ) → row (corners x y) p ≢ 0 → row (corners x y) p ≡ row (corners x y) q → p ≡ q
      same p q held e =
          ⊎_elim
          (λ a. ⊎_elim (λ b. a.0 ∙ sym b.0)
          (⊎_elim (λ b. absurd (differ (sym a.1 ∙ e ∙ b.1))) (λ b. absurd (held (e ∙ b.1)))) (corner_is q))
          (⊎_elim
          (λ a. ⊎_elim (λ b. absurd (differ (sym b.1 ∙ sym e ∙ a.1)))
          (⊎_elim (λ b. a.0 ∙ sym b.0) (λ b. absurd (held (e ∙ b.1)))) (corner_is q))
          (λ a. absurd (held a.1))) (corner_is p)

      only : (p : ℕ) → p < 4 → row (corners x y) p ≡ 0 → (p ≡ 1) ⊎ (p ≡ 2)
      only p l e =
          ⊎_elim (λ a. let z = a.1 in absurd (omega arith))
          (⊎_elim (λ a. let z = a.1 in absurd (omega arith))
          (λ a. ⊎_elim (λ z. inl z) (⊎_elim (λ z. inr z) (λ z. absurd (omega arith))) a.0)) (corner_is p)

-- rack 1 at 0, rack 2 at 3
abbrev pub start : List ℕ
start = corners 1 2

abbrev pub goal : List ℕ
goal = corners 2 1

pub start-table : Table 4 (row start)
start-table = corners-table 1 2 (lit< tt) (lit< tt) (lit≤ tt) (lit≤ tt) (λ e. omega arith) every
  where
    every : (r : ℕ) → 0 < r → r + 2 ≤ 4 → (p : ℕ) × (row start p ≡ r)
    every zero some few = absurd (omega arith)
    every (suc zero) some few = (0, refl)
    every (suc (suc zero)) some few = (3, refl)
    every (suc (suc (suc r))) some few = absurd (omega arith)

pub goal-table : Table 4 (row goal)
goal-table = corners-table 2 1 (lit< tt) (lit< tt) (lit≤ tt) (lit≤ tt) (λ e. omega arith) every
  where
    every : (r : ℕ) → 0 < r → r + 2 ≤ 4 → (p : ℕ) × (row goal p ≡ r)
    every zero some few = absurd (omega arith)
    every (suc zero) some few = (3, refl)
    every (suc (suc zero)) some few = (0, refl)
    every (suc (suc (suc r))) some few = absurd (omega arith)
