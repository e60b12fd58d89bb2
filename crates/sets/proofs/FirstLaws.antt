-- Laws of what specs/First.antt defines.
--
--     first_most       the first number that passes is among those tried, or the one behind them
--     first_passes     where it is among them, it passes
--     first_least      none before it passes
--     first_good       where one of them passes, it passes
--     first_is         it is the one that passes while none before does
-- Assumes nothing.
use Prim.Native.Nat.{ℕ, zero, suc, ◌+◌, ◌≤◌, ◌<◌}
use mathlib.Core.Path.{◌≡◌, refl, sym, subst}
use mathlib.Core.Bool.{Bool, true, false}
use mathlib.Core.Logic.{◌⊎◌, inl, inr, ⊎_elim, by_cases}
use native.Mathlib.Decide.{ℕ_discrete, dec_lt}
use native.Mathlib.Omega.{arith}
use lib.Dec.{T}
use Rattle.sets.specs.First.{first_from}

told : (b : Bool) → (b ≡ true) ⊎ (b ≡ false)
told true = inl refl
told false = inr refl

told-T : (b : Bool) → b ≡ true → T b
told-T b e = subst T (sym e) tt

none_T : (b : Bool) → b ≡ false → T b → ⊥
none_T b e t = subst T e t

T-told : (b : Bool) → T b → b ≡ true
T-told true t = refl
T-told false t = absurd t

module _ (f : ℕ → Bool) where
  here : (i k : ℕ) → f i ≡ true → first_from f i (suc k) ≡ i
  unfolding first_from
  here i k e = rw e refl

  on : (i k : ℕ) → f i ≡ false → first_from f i (suc k) ≡ first_from f (suc i) k
  unfolding first_from
  on i k e = rw e refl

  none_tried : (i : ℕ) → first_from f i 0 ≡ i
  unfolding first_from
  none_tried i = refl

  pub first_most : (i k : ℕ) → first_from f i k ≤ i + k
  first_most i zero = rw (none_tried i) (omega arith)
  first_most i (suc k) =
      ⊎_elim (λ e. rw (here i k e) (omega arith)) (λ e. rw (on i k e) (omega (arith, first_most (suc i) k))) (told (f i))

  pub first_passes : (i k : ℕ) → first_from f i k < i + k → T (f (first_from f i k))
  first_passes i zero h = absurd (omega (arith, none_tried i))
  first_passes i (suc k) h =
      ⊎_elim
      (λ e. rw (here i k e) (told-T (f i) e))
      (λ e. rw (on i k e) (first_passes (suc i) k (omega (arith, on i k e))))
      (told (f i))

  pub first_least : (i k p : ℕ) → i ≤ p → p < first_from f i k → T (f p) → ⊥
  first_least i zero p l h t = omega (arith, none_tried i)
  first_least i (suc k) p l h t =
      ⊎_elim
      (λ e. omega (arith, here i k e))
      (λ e. by_cases (ℕ_discrete i p)
      (λ s. none_T (f i) e (subst (λ (x : ℕ). T (f x)) (sym s) t))
      (λ s. first_least (suc i) k p (omega arith) (omega (arith, on i k e)) t))
      (told (f i))

  pub first_good : (i k c : ℕ) → i ≤ c → c < i + k → f c ≡ true → f (first_from f i k) ≡ true
  first_good i k c l h e =
      by_cases (dec_lt (first_from f i k) (i + k))
      (λ s. T-told (f (first_from f i k)) (first_passes i k s))
      (λ s. absurd (first_least i k c l (omega arith) (told-T (f c) e)))

  pub first_is : (i k c : ℕ) → i ≤ c → c < i + k → f c ≡ true → ((p : ℕ) → p < c → f p ≡ false) → first_from f i k ≡ c
  first_is i k c l h e low =
      by_cases (dec_lt c (first_from f i k))
      (λ s. absurd (first_least i k c l s (told-T (f c) e)))
      (λ s. by_cases (dec_lt (first_from f i k) c)
      (λ r. absurd (none_T (f (first_from f i k)) (low (first_from f i k) r) (first_passes i k (omega arith))))
      (λ r. omega arith))
