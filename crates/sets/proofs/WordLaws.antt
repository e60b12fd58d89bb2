-- The sets that the functions make, from the words that their operations give.
--
--     word                      the largest word and one
--     only_is, first_some, first_is, all_is    a shifted 1: the set of one position, and less 1 that of the positions below
--     test_is                   a digit tested
--     minus_is, without_is, with_is    differences, and one position less or more
-- Assumes nothing.
use Prim.Native.Nat.{ℕ, ◌-◌, ◌*◌, ◌/◌, ◌%◌, ◌^◌, ◌≤◌, ◌<◌}
use mathlib.Core.Path.{◌≡◌, sym, ap, subst}
use mathlib.Core.Bool.{true}
use mathlib.Core.Logic.{◌↔◌, ◌≢◌, ◌⊎◌, inl, inr, ⊎_elim}
use lib.Bits.{bit_and, bit_or}
use lib.Dec.{T, eqb, eqb→eq}
use lib.Pow.{pow_pos}
use Rattle.sets.specs.Sets.{bit, Has}
use Rattle.sets.proofs.SetLaws.{has_only, shifted, has_first, has_and, has_or, has_not, has_below}

abbrev word : ℕ
word = 18446744073709551616

pub only_is : (v : ℕ) → v < 64 → (p : ℕ) → Has ((1 * 2 ^ v) % word) p ↔ (p ≡ v)
only_is v l p = subst (λ (s : ℕ). Has s p ↔ (p ≡ v)) (sym (shifted v l)) (has_only v p)

pub first_some : (n : ℕ) → n < 64 → 1 ≤ (1 * 2 ^ n) % word
first_some n l = subst (λ (x : ℕ). 1 ≤ x) (sym (shifted n l)) (pow_pos n)

pub first_is : (n : ℕ) → n < 64 → (p : ℕ) → Has ((1 * 2 ^ n) % word - 1) p ↔ (p < n)
first_is n l p = subst (λ (s : ℕ). Has (s - 1) p ↔ (p < n)) (sym (shifted n l)) (has_first n p)

pub all_is : (n : ℕ) → n ≡ 64 → (p : ℕ) → Has 18446744073709551615 p ↔ (p < n)
all_is n e p = subst (λ (k : ℕ). Has 18446744073709551615 p ↔ (p < k)) (sym e) (has_first 64 p)

pub test_is : (s v : ℕ) → (eqb (s / 2 ^ v % 2) 1 ≡ true) ↔ Has s v
unfolding bit
test_is s v = (λ e. eqb→eq _ _ (subst T (sym e) tt), λ e. ap (λ (x : ℕ). eqb x 1) e)

pub minus_is : (s t : ℕ) → s < word → t < word → (p : ℕ) → Has (bit_and s (18446744073709551615 - t)) p ↔ (Has s p × (Has t p → ⊥))
minus_is s t hs ht p =
    let a = has_and s (18446744073709551615 - t) p in
    let n : Has s p → Has (18446744073709551615 - t) p ↔ (Has t p → ⊥) = λ h. has_not 64 t p ht (has_below 64 s p hs h) in
    (λ h. let b = a.0 h in (b.0, (n b.0).0 b.1), λ h. a.1 (h.0, (n h.0).1 h.1))

pub without_is : (s t v r p : ℕ) → Has t p ↔ (p ≡ v) → Has r p ↔ (Has s p × (Has t p → ⊥)) → Has r p ↔ (Has s p × (p ≢ v))
without_is s t v r p o m = (λ h. let b = m.0 h in (b.0, λ e. b.1 (o.1 e)), λ h. m.1 (h.0, λ e. h.1 (o.0 e)))

pub with_is : (s t v p : ℕ) → Has t p ↔ (p ≡ v) → Has (bit_or s t) p ↔ (Has s p ⊎ (p ≡ v))
with_is s t v p o =
    let a = has_or s t p in
    (λ h. ⊎_elim (λ x. inl x) (λ x. inr (o.0 x)) (a.0 h), λ h. a.1 (⊎_elim (λ x. inl x) (λ x. inr (o.1 x)) h))
