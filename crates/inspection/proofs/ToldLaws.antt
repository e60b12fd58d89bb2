-- One value of what came of one call.
--
--     chosen-first, chosen-second, chosen_third    which of three it is
--     told_planner, told_maker, told_checker       a value of one of the three calls
-- Assumes nothing.
use Prim.Native.Nat.{ℕ}
use mathlib.Core.Path.{◌≡◌, ap, ◌∙◌}
use mathlib.Core.List.{List}
use borrow.Author.Tests.{eq-eqb, ne_eqb}
use Rattle.delivery.specs.Delivery.{Call, answered, Answers, Called}
use Rattle.inspection.specs.Told.{chosen, value_of, Told}

module _ {A : Type 0} (v : ℕ) (x y z : A) where
  pub chosen-first : v ≡ 0 → x ≡ chosen v x y z
  unfolding chosen
  chosen-first e = simp (eq-eqb v 0 e)

  module _ (n : v ≡ 0 → ⊥) where
    pub chosen-second : v ≡ 1 → y ≡ chosen v x y z
    unfolding chosen
    chosen-second e = simp (ne_eqb v 0 n, eq-eqb v 1 e)

    pub chosen_third : (v ≡ 1 → ⊥) → z ≡ chosen v x y z
    unfolding chosen
    chosen_third m = simp (ne_eqb v 0 n, ne_eqb v 1 m)

module _ {o P T P' T' : List ℕ} {a : Answers} {w v r : ℕ} (c : Called o P T a P' T') where
  pub told_planner : w ≡ 0 → r ≡ value_of v (answered a.planner) → Told o P T w v r P' T'
  told_planner e h = record { answers = a; called = c; value = h ∙ ap (value_of v) (chosen-first w _ _ _ e) }

  module _ (n : w ≡ 0 → ⊥) where
    pub told_maker : w ≡ 1 → r ≡ value_of v a.maker → Told o P T w v r P' T'
    told_maker e h = record { answers = a; called = c; value = h ∙ ap (value_of v) (chosen-second w _ _ _ n e) }

    pub told_checker : (w ≡ 1 → ⊥) → r ≡ value_of v a.checker → Told o P T w v r P' T'
    told_checker m h = record { answers = a; called = c; value = h ∙ ap (value_of v) (chosen_third w _ _ _ n m) }
