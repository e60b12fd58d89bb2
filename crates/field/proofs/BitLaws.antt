-- Laws of bit fields: what reduces a field to bytes, and what a record's bits give back.
--
--     Bits l                every number of l is a bit
--     below_append, below_take, below_drop    so are those of two such lists, and of a part of one
--     length-bits, length-bits_of, length_part    how many bits a number, a byte string and a part of it have
--     bits_are, bits_of_are  they are bits
--     drop_bits, take-bits  the last and the first bits of a number's
--     bits-within           the bits between, as a quotient and a remainder
--     bits_mod              the last w bits go by the number mod 2^w alone
--     drop-bits_of           the bits from byte k on are those of the part from byte k on
--     number-bits           the number of the w bits of x is x mod 2^w
--     bits-number           the bits of the number of l are l
--     number_append         the number of two runs of bits
--     number_lt, field_lt   a number of w bits, and so a field, is below 2^w
--     bits-field            the bits of a field are the part that it was read from
--     field_at              what stands in the bits is what the field reads
--     field_in_byte         a field inside one byte, as a quotient and a remainder of that byte
--     field-split           a field of v + w bits is two fields, one after the other
--     field_across          a field that ends one byte and begins the next
--     field-drop            a field of the part from byte k on
-- Assumes nothing.
use Prim.Native.Nat.{ℕ, zero, suc, ◌+◌, ◌*◌, ◌/◌, ◌%◌, ◌^◌, ◌≤◌, ◌<◌}
use mathlib.Core.Path.{◌≡◌, refl, sym, ap, ap₂, ◌∙◌, subst}
use mathlib.Core.List.{List, [], ◌∷◌, ◌++◌}
use native.Mathlib.Omega.{arith}
use native.Mathlib.Nat.{mod-lt, mod-one, suc-add, zero-add, add_comm, add_assoc, mul_assoc, add-mul, lt_of_lt_of_le, min-le_left}
use native.Mathlib.Nat.{mod-eq_of_lt, div-one}
use lib.ListN.{length, get_or, take, drop, length-append, length-take, length-drop}
use lib.Seq.{take-add, drop-drop, drop-nil, drop-cons, length-take-le, take-append-le, drop-append-le, take_at, drop_at}
use lib.Arith.{digits_lt}
use lib.Pow.{pow_mono, pow-add, mod-pow-add, mod-mod-pow, shr-shr, high, low, field as pow_field}
use Rattle.field.specs.Bits.{bits, number, bits_of, field}
use Rattle.field.specs.Bytes.{Below, more, none}

abbrev pub Bits : List ℕ → Type 0
Bits l = Below 2 l

pub below_append : {b : ℕ} {s t : List ℕ} → Below b s → Below b t → Below b (s ++ t)
below_append none t = t
below_append (more h s) t = more h (below_append s t)

pub below_take : {b : ℕ} (n : ℕ) {l : List ℕ} → Below b l → Below b (take n l)
below_take zero p = none
below_take (suc n) none = none
below_take (suc n) (more h p) = more h (below_take n p)

pub below_drop : {b : ℕ} (n : ℕ) {l : List ℕ} → Below b l → Below b (drop n l)
below_drop zero p = p
below_drop (suc n) none = none
below_drop (suc n) (more h p) = below_drop n p

pub length-bits : (w x : ℕ) → length (bits w x) ≡ w
unfolding bits
length-bits zero x = refl
length-bits (suc w) x = ap suc (length-bits w x)

pub bits_are : (w x : ℕ) → Bits (bits w x)
unfolding bits
bits_are zero x = none
bits_are (suc w) x = more (mod-lt _ (omega arith)) (bits_are w x)

pub number-bits : (w x : ℕ) → number (bits w x) ≡ x % 2 ^ w
unfolding bits number
number-bits zero x = sym (mod-one x)
number-bits (suc w) x = rw (length-bits w x, number-bits w x) (sym (mod-pow-add x 1 w) ∙ ap (λ (k : ℕ). x % 2 ^ k) (omega arith))

pub drop_bits : (r n x : ℕ) → drop r (bits (r + n) x) ≡ bits n x
unfolding bits
drop_bits zero n x = rw zero-add refl
drop_bits (suc r) n x = rw suc-add (drop_bits r n x)

pub take-bits : (w t x : ℕ) → take w (bits (w + t) x) ≡ bits w (x / 2 ^ t)
unfolding bits
take-bits zero t x = refl
take-bits (suc w) t x =
    rw suc-add
    (ap₂ (λ (h : ℕ) (l : List ℕ). (h % 2) ∷ l) (ap (λ (k : ℕ). x / 2 ^ k) (add_comm w t) ∙ sym (shr-shr x t w)) (take-bits w t x))

-- the w bits that t bits follow, of the bits of x
pub bits-within : (r w t x : ℕ) → number (take w (drop r (bits (r + (w + t)) x))) ≡ x / 2 ^ t % 2 ^ w
bits-within r w t x = rw (drop_bits r (w + t) x, take-bits w t x) (number-bits w (x / 2 ^ t))

pub length-bits_of : (s : List ℕ) → length (bits_of s) ≡ 8 * length s
unfolding bits_of
length-bits_of [] = refl
length-bits_of (b ∷ s) = length-append (bits 8 b) (bits_of s) ∙ rw (length-bits 8 b, length-bits_of s) (omega arith)

pub bits_of_are : (s : List ℕ) → Bits (bits_of s)
unfolding bits_of
bits_of_are [] = none
bits_of_are (b ∷ s) = below_append (bits_are 8 b) (bits_of_are s)

pub drop-bits_of : (k : ℕ) (s : List ℕ) → drop (8 * k) (bits_of s) ≡ bits_of (drop k s)
unfolding bits_of
drop-bits_of zero s = refl
drop-bits_of (suc k) [] = drop-nil (8 * suc k)
drop-bits_of (suc k) (b ∷ s) =
    let e : 8 * suc k ≡ 8 + 8 * k = omega arith in
    ap (λ (n : ℕ). drop n (bits 8 b ++ bits_of s)) e
    ∙ sym (drop-drop (8 * k) 8 (bits 8 b ++ bits_of s))
    ∙ ap (drop (8 * k)) (drop_at (bits 8 b) (bits_of s) 8 (length-bits 8 b))
    ∙ drop-bits_of k s

pub field-drop : (s : List ℕ) (k i w : ℕ) → field s (8 * k + i) w ≡ field (drop k s) i w
unfolding field
field-drop s k i w =
    ap (λ (l : List ℕ). number (take w l)) (sym (drop-drop i (8 * k) (bits_of s)) ∙ ap (drop i) (drop-bits_of k s))

pub field_in_byte : (s : List ℕ) (k r w t : ℕ) → k < length s → r + (w + t) ≡ 8 → field s (8 * k + r) w ≡ get_or s k 0 / 2 ^ t % 2 ^ w
unfolding field bits_of
field_in_byte s k r w t h e =
    field-drop s k r w
    ∙ rw (drop-cons s k 0 h)
    (ap number (inside (get_or s k 0) (drop (suc k) s)) ∙ ap (λ (n : ℕ). number (take w (drop r (bits n (get_or s k 0))))) (sym e)
    ∙ bits-within r w t (get_or s k 0))
  where
    inside : (b : ℕ) (rest : List ℕ) → take w (drop r (bits 8 b ++ bits_of rest)) ≡ take w (drop r (bits 8 b))
    inside b rest =
        ap (take w) (drop-append-le r (bits 8 b) (bits_of rest) (omega (arith, length-bits 8 b)))
        ∙ take-append-le w (drop r (bits 8 b)) (bits_of rest) (omega (arith, length-drop r (bits 8 b), length-bits 8 b))

pub number_append : (l m : List ℕ) → number (l ++ m) ≡ number l * 2 ^ length m + number m
unfolding number
number_append [] m = omega arith
number_append (b ∷ l) m =
    rw (number_append l m, length-append l m, pow-add 2 (length l) (length m))
    (regroup b (2 ^ length l) (2 ^ length m) (number l) (number m))
  where
    regroup : (b p q x y : ℕ) → b * (p * q) + (x * q + y) ≡ (b * p + x) * q + y
    regroup b p q x y = rw (add-mul, mul_assoc) (sym (add_assoc (b * (p * q)) (x * q) y))

pub number_lt : {l : List ℕ} → Bits l → number l < 2 ^ length l
unfolding number
number_lt none = omega arith
number_lt (more {x = b} {l = l} h p) =
    subst (λ (n : ℕ). b * 2 ^ length l + number l < n) (sym (pow-add 2 1 (length l)) ∙ ap (λ (k : ℕ). 2 ^ k) (omega arith))
    (digits_lt h (number_lt p))

pub field_lt : (s : List ℕ) (i w : ℕ) → field s i w < 2 ^ w
unfolding field
field_lt s i w =
    lt_of_lt_of_le (number_lt (below_take w (below_drop i (bits_of_are s))))
    (pow_mono (subst (λ (n : ℕ). n ≤ w) (sym (length-take w (drop i (bits_of s)))) (min-le_left w _)))

-- the w bits at bit i, where the string reaches so far
pub length_part : (s : List ℕ) (i w : ℕ) → i + w ≤ 8 * length s → length (take w (drop i (bits_of s))) ≡ w
length_part s i w h = length-take-le w (drop i (bits_of s)) (rw (length-drop, length-bits_of) (omega arith))

pub field-split : (s : List ℕ) (i v w : ℕ) → i + (v + w) ≤ 8 * length s → field s i (v + w) ≡ field s i v * 2 ^ w + field s (i + v) w
unfolding field
field-split s i v w h =
    rw (take-add v w (drop i (bits_of s)), drop-drop v i (bits_of s))
    (number_append (take v (drop i (bits_of s))) (take w (drop (i + v) (bits_of s)))
    ∙ ap (λ (n : ℕ). number (take v (drop i (bits_of s))) * 2 ^ n + number (take w (drop (i + v) (bits_of s))))
    (length_part s (i + v) w (omega arith)))

-- the bits of x go by x mod 2 ^ w alone
pub bits_mod : (w j x : ℕ) → bits w (x % 2 ^ (j + w)) ≡ bits w x
unfolding bits
bits_mod zero j x = refl
bits_mod (suc w) j x =
    let e : j + suc w ≡ (j + 1) + w = omega arith in
    rw e
    (ap₂ (λ (h : ℕ) (l : List ℕ). h ∷ l) (ap (λ (n : ℕ). n % 2) (pow_field x (j + 1) w) ∙ mod-mod-pow (x / 2 ^ w) j 1)
    (bits_mod w (j + 1) x))

pub bits-number : {l : List ℕ} → Bits l → bits (length l) (number l) ≡ l
unfolding bits number
bits-number none = refl
bits-number (more {x = b} {l = l} h p) =
    ap₂ (λ (d : ℕ) (m : List ℕ). d ∷ m) (ap (λ (n : ℕ). n % 2) (high b (length l) (number_lt p)) ∙ mod-eq_of_lt h)
    (sym (bits_mod (length l) 0 (b * 2 ^ length l + number l))
    ∙ ap (bits (length l)) (ap (λ (k : ℕ). (b * 2 ^ length l + number l) % 2 ^ k) (zero-add (length l)) ∙ low b (length l) (number_lt p))
    ∙ bits-number p)

pub bits-field : (s : List ℕ) (i w : ℕ) → i + w ≤ 8 * length s → bits w (field s i w) ≡ take w (drop i (bits_of s))
unfolding field
bits-field s i w h =
    ap (λ (n : ℕ). bits n (number (take w (drop i (bits_of s))))) (sym (length_part s i w h))
    ∙ bits-number (below_take w (below_drop i (bits_of_are s)))

-- what stands in the bits is what the field reads
pub field_at : (s p q : List ℕ) (i w x : ℕ) → bits_of s ≡ p ++ (bits w x ++ q) → length p ≡ i → x < 2 ^ w → field s i w ≡ x
unfolding field
field_at s p q i w x e l h =
    rw e (rw (drop_at p (bits w x ++ q) i l, take_at (bits w x) q w (length-bits w x)) (number-bits w x ∙ mod-eq_of_lt h))

-- a field of v + w bits of which v end one byte and w begin the next
pub field_across : (s : List ℕ) (k r v w t : ℕ) → k + 1 < length s → r + v ≡ 8 → w + t ≡ 8
    → field s (8 * k + r) (v + w) ≡ get_or s k 0 % 2 ^ v * 2 ^ w + get_or s (k + 1) 0 / 2 ^ t % 2 ^ w
field_across s k r v w t h e f =
    let next : 8 * k + r + v ≡ 8 * (k + 1) + 0 = omega arith in
    field-split s (8 * k + r) v w (omega arith)
    ∙ ap₂ (λ (x y : ℕ). x * 2 ^ w + y)
    (field_in_byte s k r v 0 (omega arith) (omega arith) ∙ ap (λ (n : ℕ). n % 2 ^ v) (div-one (get_or s k 0)))
    (ap (λ (i : ℕ). field s i w) next ∙ field_in_byte s (k + 1) 0 w t (omega arith) (omega arith))
