-- Laws of sets as words: what the operations on words do to the positions in them.
--
--     bit-low, bit_high       the lowest digit, and the others as those of half the number
--     bit_two, bit-zero       a digit is 0 or 1, and those of 0 are 0
--     has_or_not              a position is in a set or it is not
--     has_below               a word of k digits has no position from k on
--     has_none                nothing is in the empty set
--     has_only, shifted       2 ^ v is the set of v alone, and a 1 that is shifted by v
--     has_first               2 ^ n - 1 is the set of the positions below n
--     has_and, has_or, has_not    `&`, `|` and `!`
--     First, trailing_first   the lowest position of a set
--     has_some, has_positive, none_empty    a set that is not empty has a position, and the other way round
-- Assumes nothing.
use Prim.Native.Nat.{ℕ, zero, suc, ◌+◌, ◌-◌, ◌*◌, ◌/◌, ◌%◌, ◌^◌, ◌≤◌, ◌<◌, min, max}
use mathlib.Core.Path.{◌≡◌, refl, sym, ap, subst, ◌∙◌}
use mathlib.Core.Logic.{◌↔◌, ◌⊎◌, inl, inr, ⊎_elim, by_cases}
use native.Mathlib.Decide.{ℕ_discrete}
use native.Mathlib.Nat.{div-one, one-mul, pow-suc, zero-min, zero-max, not-suc-le-zero}
use native.Mathlib.Numerals.{one-add}
use native.Mathlib.Omega.{arith}
use lib.Bits.{bit_and, bit_or, and_step, or_step, and_shr, or_shr}
use lib.Count.{count_trailing_zeros, under}
use lib.Pow.{shl_exact, shr-shr, pow_pos}
use Rattle.sets.specs.Sets.{bit, Has}

pub bit-low : (s : ℕ) → bit s 0 ≡ s % 2
unfolding bit
bit-low s = ap (λ (x : ℕ). x % 2) (div-one s)

pub bit_high : (s p : ℕ) → bit s (suc p) ≡ bit (s / 2) p
unfolding bit
bit_high s p = ap (λ (x : ℕ). x % 2) (sym (shr-shr s 1 p ∙ ap (λ (k : ℕ). s / 2 ^ k) (one-add p)))

pub bit_two : (s p : ℕ) → bit s p < 2
unfolding bit
bit_two s p = omega arith

pub has_or_not : (s p : ℕ) → Has s p ⊎ (bit s p ≡ 0)
has_or_not s p = let b = bit_two s p in by_cases (ℕ_discrete (bit s p) 1) (λ e. inl e) (λ e. inr (omega arith))

pub bit-zero : (p : ℕ) → bit 0 p ≡ 0
bit-zero zero = bit-low 0
bit-zero (suc p) = bit_high 0 p ∙ bit-zero p

pub has_none : (p : ℕ) → Has 0 p → ⊥
has_none p h = let z = bit-zero p in omega arith

half_lt : (s k : ℕ) → s < 2 ^ suc k → s / 2 < 2 ^ k
half_lt s k h = let e = pow-suc 2 k in omega arith

pub has_below : (k s p : ℕ) → s < 2 ^ k → Has s p → p < k
has_below zero s p l h = absurd (has_none p (subst (λ (x : ℕ). Has x p) (none s l) h))
  where
    none : (s : ℕ) → s < 1 → s ≡ 0
    none s l = omega arith
has_below (suc k) s zero l h = omega arith
has_below (suc k) s (suc p) l h = let r = has_below k (s / 2) p (half_lt s k l) (sym (bit_high s p) ∙ h) in omega arith

pow_half : (v : ℕ) → 2 ^ suc v / 2 ≡ 2 ^ v
pow_half v = let e = pow-suc 2 v in omega arith

bit_only : (v : ℕ) → Has (2 ^ v) v
bit_only zero = bit-low 1
bit_only (suc v) = bit_high (2 ^ suc v) v ∙ ap (λ (x : ℕ). bit x v) (pow_half v) ∙ bit_only v

only_other : (v p : ℕ) → Has (2 ^ v) p → p ≡ v
only_other zero zero h = refl
only_other zero (suc p) h = absurd (has_none p (sym (bit_high 1 p) ∙ h))
only_other (suc v) zero h = let e = pow-suc 2 v in let b = bit-low (2 ^ suc v) in omega arith
only_other (suc v) (suc p) h = ap suc (only_other v p (ap (λ (x : ℕ). bit x p) (sym (pow_half v)) ∙ sym (bit_high (2 ^ suc v) p) ∙ h))

pub has_only : (v p : ℕ) → Has (2 ^ v) p ↔ (p ≡ v)
has_only v p = (only_other v p, λ e. subst (Has (2 ^ v)) (sym e) (bit_only v))

pub shifted : (v : ℕ) → v < 64 → (1 * 2 ^ v) % 18446744073709551616 ≡ 2 ^ v
shifted v l = shl_exact 1 v 64 (omega arith) (omega arith) ∙ one-mul (2 ^ v)

ones_half : (n : ℕ) → (2 ^ suc n - 1) / 2 ≡ 2 ^ n - 1
ones_half n = let e = pow-suc 2 n in let p = pow_pos n in omega arith

pub has_first : (n p : ℕ) → Has (2 ^ n - 1) p ↔ (p < n)
has_first zero p = (λ h. absurd (has_none p h), λ l. absurd (not-suc-le-zero l))
has_first (suc n) zero = (λ h. omega arith, λ l. let e = pow-suc 2 n in let p = pow_pos n in let b = bit-low (2 ^ suc n - 1) in omega arith)
has_first (suc n) (suc p) =
    let same : bit (2 ^ suc n - 1) (suc p) ≡ bit (2 ^ n - 1) p = bit_high (2 ^ suc n - 1) p ∙ ap (λ (x : ℕ). bit x p) (ones_half n) in
    let r = has_first n p in
    (λ h. let l = r.0 (sym same ∙ h) in omega arith, λ l. same ∙ r.1 (omega arith))

-- digits of 0 and 1 against one another
zero_one : ◌≡◌ {A = ℕ} 0 1 → ⊥
zero_one e = omega arith

no_digit : {x : ℕ} → suc (suc x) < 2 → ⊥
no_digit h = omega arith

min-ones : (x y : ℕ) → x < 2 → y < 2 → (min x y ≡ 1) ↔ ((x ≡ 1) × (y ≡ 1))
min-ones zero y hx hy = (λ e. absurd (zero_one (sym (zero-min y) ∙ e)), λ e. absurd (zero_one e.0))
min-ones (suc zero) zero hx hy = (λ e. absurd (zero_one e), λ e. absurd (zero_one e.1))
min-ones (suc zero) (suc zero) hx hy = (λ e. (refl, refl), λ e. refl)
min-ones (suc zero) (suc (suc y)) hx hy = absurd (no_digit hy)
min-ones (suc (suc x)) y hx hy = absurd (no_digit hx)

max-ones : (x y : ℕ) → x < 2 → y < 2 → (max x y ≡ 1) ↔ ((x ≡ 1) ⊎ (y ≡ 1))
max-ones zero y hx hy = (λ e. inr (sym (zero-max y) ∙ e), λ s. ⊎_elim (λ e. absurd (zero_one e)) (λ e. zero-max y ∙ e) s)
max-ones (suc zero) zero hx hy = (λ e. inl refl, λ s. refl)
max-ones (suc zero) (suc zero) hx hy = (λ e. inl refl, λ s. refl)
max-ones (suc zero) (suc (suc y)) hx hy = absurd (no_digit hy)
max-ones (suc (suc x)) y hx hy = absurd (no_digit hx)

low_digit : (q r : ℕ) → r < 2 → (q * 2 + r) % 2 ≡ r
low_digit q r h = omega arith

and_bit : (a b p : ℕ) → bit (bit_and a b) p ≡ min (bit a p) (bit b p)
unfolding bit
and_bit a b p =
    ap (λ (x : ℕ). x % 2) (and_shr a b p ∙ and_step (a / 2 ^ p) (b / 2 ^ p))
    ∙ low_digit (bit_and (a / 2 ^ p / 2) (b / 2 ^ p / 2)) (min (a / 2 ^ p % 2) (b / 2 ^ p % 2)) small
  where
    small : min (a / 2 ^ p % 2) (b / 2 ^ p % 2) < 2
    small = omega arith

or_bit : (a b p : ℕ) → bit (bit_or a b) p ≡ max (bit a p) (bit b p)
unfolding bit
or_bit a b p =
    ap (λ (x : ℕ). x % 2) (or_shr a b p ∙ or_step (a / 2 ^ p) (b / 2 ^ p))
    ∙ low_digit (bit_or (a / 2 ^ p / 2) (b / 2 ^ p / 2)) (max (a / 2 ^ p % 2) (b / 2 ^ p % 2)) small
  where
    small : max (a / 2 ^ p % 2) (b / 2 ^ p % 2) < 2
    small = omega arith

pub has_and : (a b p : ℕ) → Has (bit_and a b) p ↔ (Has a p × Has b p)
has_and a b p =
    let m = min-ones (bit a p) (bit b p) (bit_two a p) (bit_two b p) in
    (λ h. m.0 (sym (and_bit a b p) ∙ h), λ h. and_bit a b p ∙ m.1 h)

pub has_or : (a b p : ℕ) → Has (bit_or a b) p ↔ (Has a p ⊎ Has b p)
has_or a b p =
    let m = max-ones (bit a p) (bit b p) (bit_two a p) (bit_two b p) in
    (λ h. m.0 (sym (or_bit a b p) ∙ h), λ h. or_bit a b p ∙ m.1 h)

-- the digits of a word of k, each turned round
not_bit : (k s p : ℕ) → s < 2 ^ k → p < k → bit (2 ^ k - 1 - s) p + bit s p ≡ 1
not_bit zero s p l h = absurd (not-suc-le-zero h)
not_bit (suc k) s zero l h =
    let e = pow-suc 2 k in
    let a = bit-low s in
    let b = bit-low (2 ^ suc k - 1 - s) in
    omega arith
not_bit (suc k) s (suc p) l h =
    let e = pow-suc 2 k in
    let half : (2 ^ suc k - 1 - s) / 2 ≡ 2 ^ k - 1 - s / 2 = let q = pow_pos k in omega arith in
    let a = bit_high s p in
    let b : bit (2 ^ suc k - 1 - s) (suc p) ≡ bit (2 ^ k - 1 - s / 2) p = bit_high (2 ^ suc k - 1 - s) p ∙ ap (λ (x : ℕ). bit x p) half in
    let r = not_bit k (s / 2) p (half_lt s k l) (omega arith) in
    omega arith

pub has_not : (k s p : ℕ) → s < 2 ^ k → p < k → Has (2 ^ k - 1 - s) p ↔ (Has s p → ⊥)
has_not k s p l h =
    let r = not_bit k s p l h in
    (λ a b. clash a b r, λ f. ⊎_elim (λ a. absurd (f a)) (λ a. omega arith) (has_or_not s p))
  where
    clash : {x y : ℕ} → x ≡ 1 → y ≡ 1 → x + y ≡ 1 → ⊥
    clash a b c = omega arith

-- the lowest digit that is set
pub record First (s t k : ℕ) : Type 0 where
  pub small : t < k
  pub has : Has s t
  pub least : (p : ℕ) → Has s p → t ≤ p

under_first : (k s d t : ℕ) → s % 2 ≡ d → (d ≡ 0 → First (s / 2) t k) → First s (under d t) (suc k)
under_first k s zero t e f =
    let r = f refl in
    record {
      small = (let l = r.small in omega arith);
      has = bit_high s t ∙ r.has;
      least = λ p h. up p h;
    }
  where
    up : (p : ℕ) → Has s p → suc t ≤ p
    up zero h = let b = bit-low s in omega arith
    up (suc p) h = let l = (f refl).least p (sym (bit_high s p) ∙ h) in omega arith
under_first k s (suc d) t e f =
    record { small = omega arith; has = (let b = bit-low s in omega arith); least = λ p h. omega arith }

pub trailing_first : (k s : ℕ) → 0 < s → s < 2 ^ k → First s (count_trailing_zeros k s) k
unfolding count_trailing_zeros
trailing_first zero s some l = absurd (none s some l)
  where
    none : (s : ℕ) → 0 < s → s < 1 → ⊥
    none s h l = omega arith
trailing_first (suc k) s some l =
    under_first k s (s % 2) (count_trailing_zeros k (s / 2)) refl (λ e. trailing_first k (s / 2) (omega arith) (half_lt s k l))

below_pow : (s : ℕ) → s < 2 ^ s
below_pow zero = omega arith
below_pow (suc s) = let r = below_pow s in let e = pow-suc 2 s in omega arith

pub has_some : (s : ℕ) → 0 < s → (p : ℕ) × Has s p
has_some s some = (count_trailing_zeros s s, (trailing_first s s some (below_pow s)).has)

pub has_positive : (s p : ℕ) → Has s p → 0 < s
has_positive s p h = by_cases (ℕ_discrete s 0) (λ e. absurd (has_none p (subst (λ (x : ℕ). Has x p) e h))) (λ e. omega arith)

pub none_empty : (s : ℕ) → ((p : ℕ) → Has s p → ⊥) → s ≡ 0
none_empty s none = by_cases (ℕ_discrete s 0) (λ e. e) (λ e. let h = has_some s (omega arith) in absurd (none h.0 h.1))
