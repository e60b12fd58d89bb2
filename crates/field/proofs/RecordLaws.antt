-- Laws of whole records: positions and pairs read one after another, and the byte string that a run of bits makes.
--
--     length-positions, length_pairs        how many are read
--     positions_lt, pairs_lt                each is below 64
--     bits-positions, bits-pairs            what was read, as bits, is the part of the record that it was read from
--     positions-at, pairs-at                what stands in the bits is what is read
--     positions-drop, pairs-drop            the same, read from the part that begins at byte k
--     pairs_next, positions-next            the next of what is left to read
--     length-to_bytes, to_bytes_are           how many bytes a run of bits makes, and that they are bytes
--     bits-bytes, bytes_bits                whole bytes made of bits, and bits of bytes, are inverse
--     length-padded, padded_are             bits and their pad: how many, and that they are bits
--     bits_of-to_bytes                        the bits of the bytes that l makes are l and its pad
--     to_bytes-from                          a byte string whose bits are l and its pad is what l makes
--     bits_of_injective                      two byte strings of the same bits are the same
--     length-position_bits, length-pair_bits, position_bits_are, pair_bits_are    the bits that are written
--     bits-zero, zeros_at                   zero bits
--     join                                  two runs of bits that follow each other
--     padded-by                             the pad, by its length
--     up_to_byte                            bits and their pad are whole bytes
--     pair_positions                        a pair is two positions, one after the other
--     rest_is                               the part of a byte string from byte k on
-- Assumes nothing.
use Prim.Native.Nat.{ℕ, zero, suc, ◌+◌, ◌-◌, ◌*◌, ◌/◌, ◌%◌, ◌^◌, ◌≤◌, ◌<◌}
use mathlib.Core.Path.{◌≡◌, refl, sym, ap, ap₂, ◌∙◌, subst}
use mathlib.Core.List.{List, [], ◌∷◌, ◌++◌, append_assoc}
use mathlib.Core.Logic.{◌↔◌}
use native.Mathlib.Omega.{arith}
use native.Mathlib.Nat.{mod-eq_of_lt, add_assoc, lt_of_lt_of_le, min-le_left, le_refl, zero-div}
use lib.Pow.{pow_mono}
use lib.ListN.{length, take, drop, replicate, length-append, length-take, length-drop, length-replicate, take-append-drop}
use lib.Seq.{take-add, drop-drop, length-take-le, take_all, take_at, drop_at}
use Rattle.field.specs.Bits.{PositionAt, PairAt}
use Rattle.field.specs.Bits.{bits, number, bits_of, field, positions, pairs, position_bits, pair_bits, pad, padded, bytes, to_bytes}
use Rattle.field.specs.Bytes.{Below, none, more, Bytes, BelowPairs, more₂, none₂}
use Rattle.field.proofs.BitLaws.{Bits, below_append, below_take, below_drop, length-bits, bits_are, number-bits, number_lt}
use Rattle.field.proofs.BitLaws.{bits-number, length-bits_of, field-drop, field_lt, bits-field, field_at}

pub length-positions : (s : List ℕ) (i k : ℕ) → length (positions s i k) ≡ k
unfolding positions
length-positions s i zero = refl
length-positions s i (suc k) = ap suc (length-positions s (i + 6) k)

pub length_pairs : (s : List ℕ) (i k : ℕ) → length (pairs s i k) ≡ k
unfolding pairs
length_pairs s i zero = refl
length_pairs s i (suc k) = ap suc (length_pairs s (i + 12) k)

pub positions_lt : (s : List ℕ) (i k : ℕ) → Below 64 (positions s i k)
unfolding positions
positions_lt s i zero = none
positions_lt s i (suc k) = more (field_lt s i 6) (positions_lt s (i + 6) k)

pub pairs_lt : (s : List ℕ) (i k : ℕ) → BelowPairs 64 (pairs s i k)
unfolding pairs
pairs_lt s i zero = none₂
pairs_lt s i (suc k) = more₂ (field_lt s i 6) (field_lt s (i + 6) 6) (pairs_lt s (i + 12) k)

-- a run of w bits at bit i, and the run of n bits that follows it
part_add : (s : List ℕ) (i w n : ℕ) → take w (drop i (bits_of s)) ++ take n (drop (i + w) (bits_of s)) ≡ take (w + n) (drop i (bits_of s))
part_add s i w n = rw (take-add w n (drop i (bits_of s)), drop-drop w i (bits_of s))

pub bits-positions : (s : List ℕ) (i k : ℕ) → i + 6 * k ≤ 8 * length s → position_bits (positions s i k) ≡ take (6 * k) (drop i (bits_of s))
unfolding positions position_bits
bits-positions s i zero h = refl
bits-positions s i (suc k) h =
    let e : 6 * suc k ≡ 6 + 6 * k = omega arith in
    rw (bits-field s i 6 (omega arith), bits-positions s (i + 6) k (omega arith), e) (part_add s i 6 (6 * k))

pub bits-pairs : (s : List ℕ) (i k : ℕ) → i + 12 * k ≤ 8 * length s → pair_bits (pairs s i k) ≡ take (12 * k) (drop i (bits_of s))
unfolding pairs pair_bits
bits-pairs s i zero h = refl
bits-pairs s i (suc k) h =
    let e : 12 * suc k ≡ 12 + 12 * k = omega arith in
    rw (bits-field s i 6 (omega arith), bits-field s (i + 6) 6 (omega arith), bits-pairs s (i + 12) k (omega arith), e)
    (ap (λ (l : List ℕ). l ++ take (12 * k) (drop (i + 12) (bits_of s))) (part_add s i 6 6) ∙ part_add s i 12 (12 * k))

pub positions-at : (s p l q : List ℕ) (i : ℕ) → bits_of s ≡ p ++ (position_bits l ++ q) → length p ≡ i → Below 64 l
    → positions s i (length l) ≡ l
unfolding positions position_bits
positions-at s p [] q i e n b = refl
positions-at s p (x ∷ l) q i e n (more h b) =
    let first : bits_of s ≡ p ++ (bits 6 x ++ (position_bits l ++ q)) =
    e ∙ ap (λ (m : List ℕ). p ++ m) (append_assoc (bits 6 x) (position_bits l) q) in
    ap₂ (λ (y : ℕ) (m : List ℕ). y ∷ m) (field_at s p (position_bits l ++ q) i 6 x first n h)
    (positions-at s (p ++ bits 6 x) l q (i + 6) (first ∙ sym (append_assoc p (bits 6 x) (position_bits l ++ q)))
    (length-append p (bits 6 x) ∙ ap₂ ◌+◌ n (length-bits 6 x)) b)

pub pairs-at : (s p : List ℕ) (l : List (ℕ × ℕ)) (q : List ℕ) (i : ℕ) → bits_of s ≡ p ++ (pair_bits l ++ q) → length p ≡ i
    → BelowPairs 64 l → pairs s i (length l) ≡ l
unfolding pairs pair_bits
pairs-at s p [] q i e n b = refl
pairs-at s p (x ∷ l) q i e n (more₂ h₀ h₁ b) =
    let first : bits_of s ≡ p ++ (bits 6 x.0 ++ (bits 6 x.1 ++ (pair_bits l ++ q))) = e ∙ simp append_assoc in
    let second : bits_of s ≡ (p ++ bits 6 x.0) ++ (bits 6 x.1 ++ (pair_bits l ++ q)) = first ∙ sym (append_assoc p (bits 6 x.0) _) in
    let third : bits_of s ≡ ((p ++ bits 6 x.0) ++ bits 6 x.1) ++ (pair_bits l ++ q) =
    second ∙ sym (append_assoc (p ++ bits 6 x.0) (bits 6 x.1) _) in
    let n₁ : length (p ++ bits 6 x.0) ≡ i + 6 = length-append p (bits 6 x.0) ∙ ap₂ ◌+◌ n (length-bits 6 x.0) in
    let n₂ : length ((p ++ bits 6 x.0) ++ bits 6 x.1) ≡ i + 12 =
    length-append (p ++ bits 6 x.0) (bits 6 x.1) ∙ ap₂ ◌+◌ n₁ (length-bits 6 x.1) ∙ add_assoc i 6 6 in
    ap₂ (λ (y : ℕ × ℕ) (m : List (ℕ × ℕ)). y ∷ m)
    (λ j. (
      field_at s p (bits 6 x.1 ++ (pair_bits l ++ q)) i 6 x.0 first n h₀ j,
      field_at s (p ++ bits 6 x.0) (pair_bits l ++ q) (i + 6) 6 x.1 second n₁ h₁ j,
    ))
    (pairs-at s ((p ++ bits 6 x.0) ++ bits 6 x.1) l q (i + 12) third n₂ b)

pub positions-drop : (s : List ℕ) (b i k : ℕ) → positions s (8 * b + i) k ≡ positions (drop b s) i k
unfolding positions
positions-drop s b i zero = refl
positions-drop s b i (suc k) =
    rw (field-drop s b i 6, add_assoc (8 * b) i 6) (ap (λ (m : List ℕ). field (drop b s) i 6 ∷ m) (positions-drop s b (i + 6) k))

pub pairs-drop : (s : List ℕ) (b i k : ℕ) → pairs s (8 * b + i) k ≡ pairs (drop b s) i k
unfolding pairs
pairs-drop s b i zero = refl
pairs-drop s b i (suc k) =
    rw (field-drop s b i 6, add_assoc (8 * b) i 6, field-drop s b (i + 6) 6, add_assoc (8 * b) i 12)
    (ap (λ (m : List (ℕ × ℕ)). (field (drop b s) i 6, field (drop b s) (i + 6) 6) ∷ m) (pairs-drop s b (i + 12) k))

pub bits-bytes : (n : ℕ) (l : List ℕ) → Bits l → length l ≡ 8 * n → bits_of (bytes n l) ≡ l
unfolding bits_of bytes
bits-bytes zero [] b e = refl
bits-bytes zero (x ∷ l) b e = absurd (omega arith)
bits-bytes (suc n) l b e =
    let eight : length (take 8 l) ≡ 8 = length-take-le 8 l (omega arith) in
    let byte : bits 8 (number (take 8 l)) ≡ take 8 l =
    ap (λ (k : ℕ). bits k (number (take 8 l))) (sym eight) ∙ bits-number (below_take 8 b) in
    rw (byte, bits-bytes n (drop 8 l) (below_drop 8 b) (length-drop 8 l ∙ omega arith)) (take-append-drop 8 l)

pub bytes_bits : {s : List ℕ} → Bytes s → bytes (length s) (bits_of s) ≡ s
unfolding bits_of bytes
bytes_bits none = refl
bytes_bits (more {x = x} {l = l} h b) = rw (
  take_at (bits 8 x) (bits_of l) 8 (length-bits 8 x),
  drop_at (bits 8 x) (bits_of l) 8 (length-bits 8 x),
  number-bits 8 x,
  mod-eq_of_lt h,
  bytes_bits b,
)

-- k bits and their pad are as many whole bytes as k bits, rounded up
pub up_to_byte : (k : ℕ) → k + pad k ≡ 8 * ((k + 7) / 8)
unfolding pad
up_to_byte k = omega arith

pub length-padded : (l : List ℕ) → length (padded l) ≡ 8 * ((length l + 7) / 8)
unfolding padded
length-padded l =
    length-append l (replicate (pad (length l)) 0) ∙ rw (length-replicate {A = ℕ} (pad (length l)) 0) (up_to_byte (length l))

zeros_are : (n : ℕ) → Bits (replicate n 0)
zeros_are zero = none
zeros_are (suc n) = more {x = 0} (omega arith) (zeros_are n)

pub padded_are : {l : List ℕ} → Bits l → Bits (padded l)
unfolding padded
padded_are {l} b = below_append b (zeros_are (pad (length l)))

pub bits_of-to_bytes : {l : List ℕ} → Bits l → bits_of (to_bytes l) ≡ padded l
unfolding to_bytes
bits_of-to_bytes {l} b = bits-bytes ((length l + 7) / 8) (padded l) (padded_are b) (length-padded l)

length-bytes : (n : ℕ) (l : List ℕ) → length (bytes n l) ≡ n
unfolding bytes
length-bytes zero l = refl
length-bytes (suc n) l = ap suc (length-bytes n (drop 8 l))

pub length-to_bytes : (l : List ℕ) → length (to_bytes l) ≡ (length l + 7) / 8
unfolding to_bytes
length-to_bytes l = length-bytes ((length l + 7) / 8) (padded l)

bytes_are : (n : ℕ) {l : List ℕ} → Bits l → Bytes (bytes n l)
unfolding bytes
bytes_are zero b = none
bytes_are (suc n) {l} b =
    more
    (lt_of_lt_of_le (number_lt (below_take 8 b)) (pow_mono (subst (λ (k : ℕ). k ≤ 8) (sym (length-take 8 l)) (min-le_left 8 (length l)))))
    (bytes_are n (below_drop 8 b))

pub to_bytes_are : {l : List ℕ} → Bits l → Bytes (to_bytes l)
unfolding to_bytes
to_bytes_are {l} b = bytes_are ((length l + 7) / 8) (padded_are b)

pub bits_of_injective : {s t : List ℕ} → Bytes s → Bytes t → bits_of s ≡ bits_of t → s ≡ t
bits_of_injective {s} {t} a b e = sym (bytes_bits a) ∙ ap₂ bytes same e ∙ bytes_bits b
  where
    lengths : 8 * length s ≡ 8 * length t
    lengths = sym (length-bits_of s) ∙ ap length e ∙ length-bits_of t

    same : length s ≡ length t
    same = omega (arith, lengths)

-- the byte string of the bits l, known by its bits
pub to_bytes-from : {s l : List ℕ} → Bytes s → Bits l → bits_of s ≡ padded l → s ≡ to_bytes l
to_bytes-from a b e = bits_of_injective a (to_bytes_are b) (e ∙ sym (bits_of-to_bytes b))

-- the next of what is left to read, for a loop that has read j of k
pub pairs_next : (s : List ℕ) (j k : ℕ) → j < k
    → pairs s (12 * j) (k - j) ≡ (field s (12 * j) 6, field s (12 * j + 6) 6) ∷ pairs s (12 * (j + 1)) (k - (j + 1))
unfolding pairs
pairs_next s j k h =
    let left : k - j ≡ suc (k - (j + 1)) = omega arith in
    let on : 12 * j + 12 ≡ 12 * (j + 1) = omega arith in
    rw (left, on) refl

pub positions-next : (s : List ℕ) (i j k : ℕ) → j < k
    → positions s (6 * (i + j)) (k - j) ≡ field s (6 * (i + j)) 6 ∷ positions s (6 * (i + (j + 1))) (k - (j + 1))
unfolding positions
positions-next s i j k h =
    let left : k - j ≡ suc (k - (j + 1)) = omega arith in
    let on : 6 * (i + j) + 6 ≡ 6 * (i + (j + 1)) = omega arith in
    rw (left, on) refl

-- the part of a byte string from byte k on, as a part `&s[k..]` has it
pub rest_is : (k : ℕ) (s : List ℕ) → take (length s - k) (drop k s) ≡ drop k s
rest_is k s = take_all (length s - k) (drop k s) (rw (length-drop k s) (le_refl _))

pub length-position_bits : (l : List ℕ) → length (position_bits l) ≡ 6 * length l
unfolding position_bits
length-position_bits [] = refl
length-position_bits (p ∷ l) = length-append (bits 6 p) (position_bits l) ∙ rw (length-bits 6 p, length-position_bits l) (omega arith)

pub length-pair_bits : (l : List (ℕ × ℕ)) → length (pair_bits l) ≡ 12 * length l
unfolding pair_bits
length-pair_bits [] = refl
length-pair_bits (p ∷ l) =
    length-append (bits 6 p.0 ++ bits 6 p.1) (pair_bits l)
    ∙ rw (length-append (bits 6 p.0) (bits 6 p.1), length-bits 6 p.0, length-bits 6 p.1, length-pair_bits l) (omega arith)

pub position_bits_are : (l : List ℕ) → Bits (position_bits l)
unfolding position_bits
position_bits_are [] = none
position_bits_are (p ∷ l) = below_append (bits_are 6 p) (position_bits_are l)

pub pair_bits_are : (l : List (ℕ × ℕ)) → Bits (pair_bits l)
unfolding pair_bits
pair_bits_are [] = none
pair_bits_are (p ∷ l) = below_append (below_append (bits_are 6 p.0) (bits_are 6 p.1)) (pair_bits_are l)

-- the bits of 0
pub bits-zero : (w : ℕ) → bits w 0 ≡ replicate w 0
unfolding bits
bits-zero zero = refl
bits-zero (suc w) = ap₂ (λ (b : ℕ) (l : List ℕ). b ∷ l) (ap (λ (n : ℕ). n % 2) (zero-div (2 ^ w))) (bits-zero w)

-- a field that reads 0 is zero bits
pub zeros_at : (s : List ℕ) (i w : ℕ) → i + w ≤ 8 * length s → field s i w ≡ 0 → replicate w 0 ≡ take w (drop i (bits_of s))
zeros_at s i w h e = sym (bits-zero w) ∙ ap (bits w) (sym e) ∙ bits-field s i w h

-- a run of bits that begins where the first i bits end
pub join : (s : List ℕ) (i w : ℕ) {a b : List ℕ} → a ≡ take i (bits_of s) → b ≡ take w (drop i (bits_of s)) → a ++ b ≡
    take (i + w) (bits_of s)
join s i w p q = ap₂ (λ (x y : List ℕ). x ++ y) p q ∙ sym (take-add i w (bits_of s))

pub padded-by : (l : List ℕ) (k : ℕ) → pad (length l) ≡ k → padded l ≡ l ++ replicate k 0
unfolding padded
padded-by l k e = rw e refl

-- a pair is two positions, one after the other
pub pair_positions : (s : List ℕ) (j a b : ℕ)
    → PairAt s (12 * j) a b ↔ (PositionAt s (6 * (2 * j)) a × PositionAt s (6 * (2 * j + 1)) b)
pair_positions s j a b =
    let first : 6 * (2 * j) ≡ 12 * j = omega arith in
    let second : 6 * (2 * j + 1) ≡ 12 * j + 6 = omega arith in
    rw (first, second) (
      λ p. (record { is = p.first_is; below = p.first_below }, record { is = p.second_is; below = p.second_below }),
      λ q. record { first_is = q.0.is; second_is = q.1.is; first_below = q.0.below; second_below = q.1.below },
    )
