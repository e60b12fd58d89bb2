-- Tests taken apart: what a passed test of several parts says of the parts.
--
--     and_parts    a && b passes exactly if both pass
--     or_parts     a || b passes exactly if one passes
--     not_parts    not a passes exactly if a does not
--     eqb_parts    eqb m n passes exactly if m and n are equal
--     decided      a test passes or fails
--     equal?       two numbers are equal or not
--     cond-true    a choice by a test that passes is the first
--     cond-false   by one that fails, the second
--     cond_either  what holds of both holds of the choice
-- Assumes nothing.
use Prim.Native.Nat.{ℕ}
use mathlib.Core.Bool.{Bool, true, false, not, cond, ◌&&◌, ◌||◌}
use mathlib.Core.Logic.{◌↔◌, ◌⊎◌, inl, inr, ⊎_elim, ◌≢◌}
use mathlib.Core.Path.{◌≡◌, refl, subst}
use lib.Dec.{T, T_not, not_T, eqb, eqb→eq, eqb_refl}

pub and_parts : (a b : Bool) → T (a && b) ↔ (T a × T b)
and_parts true b = (λ t. (tt, t), λ t. t.1)
and_parts false b = (λ t. absurd t, λ t. t.0)

pub or_parts : (a b : Bool) → T (a || b) ↔ (T a ⊎ T b)
or_parts true b = (λ t. inl tt, λ t. tt)
or_parts false b = (inr, ⊎_elim (λ t. absurd t) (λ t. t))

pub not_parts : (a : Bool) → T (not a) ↔ (¬ T a)
not_parts a = (T_not a, not_T a)

pub eqb_parts : (m n : ℕ) → T (eqb m n) ↔ (m ≡ n)
eqb_parts m n = (eqb→eq m n, λ e. subst (λ (k : ℕ). T (eqb m k)) e (eqb_refl m))

pub decided : (b : Bool) → T b ⊎ T (not b)
decided true = inl tt
decided false = inr tt

pub equal? : (m n : ℕ) → (m ≡ n) ⊎ (m ≢ n)
equal? m n = ⊎_elim (λ t. inl (eqb→eq m n t)) (λ t. inr (λ e. T_not (eqb m n) t ((eqb_parts m n).1 e))) (decided (eqb m n))

module _ {X : Type 0} where
  pub cond-true : (b : Bool) (x y : X) → T b → cond b x y ≡ x
  cond-true true x y t = refl
  cond-true false x y t = absurd t

  pub cond-false : (b : Bool) (x y : X) → T (not b) → cond b x y ≡ y
  cond-false true x y t = absurd t
  cond-false false x y t = refl

  pub cond_either : (P : X → Type 0) (b : Bool) {x y : X} → P x → P y → P (cond b x y)
  cond_either P true p q = p
  cond_either P false p q = q
