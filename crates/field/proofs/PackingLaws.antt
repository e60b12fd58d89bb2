-- Laws of what specs/Packing.antt defines.
--
--     bits_append, bits-split    two runs of bits as the bits of one number, and the other way round
--     bits-packed, packed_is     packed positions are the byte string of their bits and the pad
--     length-packed       how many bytes they take
--     spread l            the positions of the pairs l, one after another
--     length-spread, bits-spread, pack-spread    how many they are; their bits and their bytes are the pairs'
--     pack_is, length-pack       the same of pairs
--     added j, added_is   how many bytes the pair after j pairs adds
--     put_next            written behind j packed pairs, it packs one more, and what stands behind the record stays
--     put_0, -1, -2, -3   a position written at each of its four places
--     put_pair_is         a pair is written as its two positions
--     put_behind          a position written behind packed ones packs one more, and what stands behind the record stays
--     put_behind-all      positions written one after another behind packed ones
--     put_all             positions written one after another at the front are their packed bytes, and the rest stays
-- Assumes nothing.
use Prim.Native.Nat.{ℕ, zero, suc, ◌+◌, ◌-◌, ◌*◌, ◌/◌, ◌%◌, ◌^◌, ◌≤◌, ◌<◌}
use mathlib.Core.Path.{◌≡◌, refl, sym, ap, ap₂, subst, ◌∙◌}
use mathlib.Core.Bool.{Bool, true, false, cond}
use mathlib.Core.List.{List, [], ◌∷◌, ◌++◌, append_assoc, append-nil}
use native.Mathlib.Omega.{arith}
use native.Mathlib.Nat.{zero-add, add-zero, suc-add, add_comm, mod-lt}
use lib.Pow.{pow_pos, shr-shr, high, low, split}
use native.Mathlib.Decide.{ℕ_discrete}
use lib.ListN.{length, get_or, set, drop, replicate, length-append, length-drop}
use lib.Seq.{drop-drop}
use lib.Dec.{eqb}
use borrow.Author.Tests.{eq-eqb, ne_eqb}
use Rattle.field.specs.Bits.{bits, bits_of, position_bits, pair_bits, pad, padded, to_bytes}
use Rattle.field.specs.Bytes.{Below, none, more, Bytes, BelowPairs, none₂, more₂}
use Rattle.field.proofs.BitLaws.{bits_mod}
use Rattle.field.proofs.RecordLaws.{to_bytes-from, position_bits_are, length-position_bits, bits-zero}
use Rattle.field.proofs.UnitLaws.{pad-after_head}
use Rattle.field.specs.Writing.{written}
use Rattle.field.proofs.WritingLaws.{written_front}
use Rattle.field.specs.Packing.{pack_positions, pack, put_position, put_pair, put_positions}

-- the bits of two numbers, the second below 2 ^ w, written one after the other
pub bits_append : (v w x y : ℕ) → y < 2 ^ w → bits (v + w) (x * 2 ^ w + y) ≡ bits v x ++ bits w y
unfolding bits
bits_append zero w x y h =
    let none : 0 + w ≡ w = zero-add w in
    ap (λ (k : ℕ). bits k (x * 2 ^ w + y)) none
    ∙ sym (bits_mod w 0 (x * 2 ^ w + y))
    ∙ ap (bits w) (ap (λ (k : ℕ). (x * 2 ^ w + y) % 2 ^ k) none ∙ low x w h)
bits_append (suc v) w x y h =
    rw (suc-add v w)
    (ap₂ (λ (b : ℕ) (l : List ℕ). b ∷ l)
    (ap (λ (n : ℕ). n % 2)
    (ap (λ (k : ℕ). (x * 2 ^ w + y) / 2 ^ k) (add_comm v w) ∙ sym (shr-shr (x * 2 ^ w + y) w v) ∙ ap (λ (n : ℕ). n / 2 ^ v) (high x w h)))
    (bits_append v w x y h))

-- a number in two runs of bits
pub bits-split : (v w x : ℕ) → bits (v + w) x ≡ bits v (x / 2 ^ w) ++ bits w (x % 2 ^ w)
bits-split v w x = ap (bits (v + w)) (sym (split x w)) ∙ bits_append v w (x / 2 ^ w) (x % 2 ^ w) (mod-lt x (pow_pos w))

-- two positions that meet in one byte
module _ (a b : ℕ) (small : b < 64) where
  first_byte : bits 8 (a * 4 + b / 16) ≡ bits 6 a ++ bits 2 (b / 16)
  first_byte = bits_append 6 2 a (b / 16) (omega arith)

  second_byte : (y : ℕ) → y < 16 → bits 8 (b % 16 * 16 + y) ≡ bits 4 (b % 16) ++ bits 4 y
  second_byte y k = bits_append 4 4 (b % 16) y k

  over_two : bits 6 b ≡ bits 2 (b / 16) ++ bits 4 (b % 16)
  over_two = bits-split 2 4 b

module _ (c d : ℕ) (small : d < 64) where
  third_byte : bits 8 (c % 4 * 64 + d) ≡ bits 2 (c % 4) ++ bits 6 d
  third_byte = bits_append 2 6 (c % 4) d small

  over_four : bits 6 c ≡ bits 4 (c / 4) ++ bits 2 (c % 4)
  over_four = bits-split 4 2 c

pub bits-packed : {l : List ℕ} → Below 64 l → bits_of (pack_positions l) ≡ position_bits l ++ replicate (pad (6 * length l)) 0
unfolding pack_positions bits_of position_bits pad
bits-packed none = refl
bits-packed (more {x = a} ha none) =
    let end : bits 8 (a * 4) ≡ bits 6 a ++ bits 2 0 = ap (bits 8) (sym (add-zero (a * 4))) ∙ bits_append 6 2 a 0 (omega arith) in
    rw (end, bits-zero 2) (simp (append_assoc, append-nil))
bits-packed (more {x = a} ha (more {x = b} hb none)) =
    let end : bits 8 (b % 16 * 16) ≡ bits 4 (b % 16) ++ bits 4 0 =
    ap (bits 8) (sym (add-zero (b % 16 * 16))) ∙ second_byte a b hb 0 (omega arith) in
    rw (first_byte a b hb, end, over_two a b hb, bits-zero 4) (simp (append_assoc, append-nil))
bits-packed (more {x = a} ha (more {x = b} hb (more {x = c} hc none))) =
    let end : bits 8 (c % 4 * 64) ≡ bits 2 (c % 4) ++ bits 6 0 =
    ap (bits 8) (sym (add-zero (c % 4 * 64))) ∙ third_byte c 0 (omega arith) in
    rw (first_byte a b hb, second_byte a b hb (c / 4) (omega arith), end, over_two a b hb, over_four c 0 (omega arith), bits-zero 6)
    (simp (append_assoc, append-nil))
bits-packed (more {x = a} ha (more {x = b} hb (more {x = c} hc (more {x = d} {l = l} hd below)))) =
    let on : 6 * suc (suc (suc (suc (length l)))) ≡ 24 + 6 * length l = omega arith in
    rw (first_byte a b hb, second_byte a b hb (c / 4) (omega arith), third_byte c d hd, over_two a b hb, over_four c d hd)
    (rw (bits-packed below, on, pad-after_head (6 * length l)) (simp append_assoc))

packed_are : {l : List ℕ} → Below 64 l → Bytes (pack_positions l)
unfolding pack_positions
packed_are none = none
packed_are (more {x = a} ha none) = more {x = a * 4} (omega arith) none
packed_are (more {x = a} ha (more {x = b} hb none)) =
    more {x = a * 4 + b / 16} (omega arith) (more {x = b % 16 * 16} (omega arith) none)
packed_are (more {x = a} ha (more {x = b} hb (more {x = c} hc none))) =
    more {x = a * 4 + b / 16} (omega arith)
    (more {x = b % 16 * 16 + c / 4} (omega arith) (more {x = c % 4 * 64} (omega arith) none))
packed_are (more {x = a} ha (more {x = b} hb (more {x = c} hc (more {x = d} hd below)))) =
    more {x = a * 4 + b / 16} (omega arith)
    (more {x = b % 16 * 16 + c / 4} (omega arith) (more {x = c % 4 * 64 + d} (omega arith) (packed_are below)))

pub packed_is : {l : List ℕ} → Below 64 l → pack_positions l ≡ to_bytes (position_bits l)
packed_is {l} below =
    to_bytes-from (packed_are below) (position_bits_are l) (bits-packed below ∙ (unfold padded in rw (length-position_bits l) refl))

pub length-packed : (l : List ℕ) → length (pack_positions l) ≡ (6 * length l + 7) / 8
unfolding pack_positions
length-packed [] = refl
length-packed (a ∷ []) = refl
length-packed (a ∷ b ∷ []) = refl
length-packed (a ∷ b ∷ c ∷ []) = refl
length-packed (a ∷ b ∷ c ∷ d ∷ l) = rw (length-packed l) (omega arith)

-- the positions of pairs, one after another
unfoldable pub spread : List (ℕ × ℕ) → List ℕ
spread [] = []
spread (p ∷ l) = p.0 ∷ p.1 ∷ spread l

pub length-spread : (l : List (ℕ × ℕ)) → length (spread l) ≡ 2 * length l
unfolding spread
length-spread [] = refl
length-spread (p ∷ l) = rw (length-spread l) (omega arith)

spread_below : {l : List (ℕ × ℕ)} → BelowPairs 64 l → Below 64 (spread l)
unfolding spread
spread_below none₂ = none
spread_below (more₂ h₀ h₁ b) = more h₀ (more h₁ (spread_below b))

pub pack-spread : (l : List (ℕ × ℕ)) → pack l ≡ pack_positions (spread l)
unfolding pack pack_positions spread
pack-spread [] = refl
pack-spread (p ∷ []) = refl
pack-spread (p ∷ q ∷ l) = rw (pack-spread l) refl

pub bits-spread : (l : List (ℕ × ℕ)) → position_bits (spread l) ≡ pair_bits l
unfolding spread position_bits pair_bits
bits-spread [] = refl
bits-spread (p ∷ l) = rw (bits-spread l) (sym (append_assoc (bits 6 p.0) (bits 6 p.1) (pair_bits l)))

pub pack_is : {l : List (ℕ × ℕ)} → BelowPairs 64 l → pack l ≡ to_bytes (pair_bits l)
pack_is {l} b = pack-spread l ∙ packed_is (spread_below b) ∙ ap to_bytes (bits-spread l)

pub length-pack : (l : List (ℕ × ℕ)) → length (pack l) ≡ (12 * length l + 7) / 8
length-pack l = ap length (pack-spread l) ∙ length-packed (spread l) ∙ rw (length-spread l) (omega arith)

-- three bytes on, two pairs on
put_shift : (x y z : ℕ) (l : List ℕ) (j a b : ℕ) → put_pair (x ∷ y ∷ z ∷ l) (suc (suc j)) a b ≡ x ∷ y ∷ z ∷ put_pair l j a b
unfolding put_pair
put_shift x y z l j a b =
    let at : suc (suc j) / 2 * 3 ≡ suc (suc (suc (j / 2 * 3))) = omega arith in
    let odd : suc (suc j) % 2 ≡ j % 2 = omega arith in
    let next : suc (suc (suc (j / 2 * 3))) + 1 ≡ suc (suc (suc (j / 2 * 3 + 1))) = omega arith in
    let last : suc (suc (suc (j / 2 * 3))) + 2 ≡ suc (suc (suc (j / 2 * 3 + 2))) = omega arith in
    rw (at, odd, next, last) (by (eqb (j % 2) 0))
  where
    by : (t : Bool)
        → cond t
        (x ∷ y ∷ z ∷ set (set l (j / 2 * 3) (a * 4 + b / 16)) (j / 2 * 3 + 1) (b % 16 * 16))
        (x ∷ y ∷ z ∷ set (set l (j / 2 * 3 + 1) (get_or l (j / 2 * 3 + 1) 0 / 16 * 16 + a / 4)) (j / 2 * 3 + 2) (a % 4 * 64 + b))
        ≡ x ∷ y ∷ z ∷ cond t
        (set (set l (j / 2 * 3) (a * 4 + b / 16)) (j / 2 * 3 + 1) (b % 16 * 16))
        (set (set l (j / 2 * 3 + 1) (get_or l (j / 2 * 3 + 1) 0 / 16 * 16 + a / 4)) (j / 2 * 3 + 2) (a % 4 * 64 + b))
    by true = refl
    by false = refl

-- the bytes that the pair after j pairs adds
unfoldable pub added : ℕ → ℕ
added j = 2 - j % 2

pub added_is : (j : ℕ) → (12 * j + 7) / 8 + added j ≡ (12 * (j + 1) + 7) / 8
unfolding added
added_is zero = refl
added_is (suc zero) = refl
added_is (suc (suc j)) =
    let odd : suc (suc j) % 2 ≡ j % 2 = omega arith in
    let less : (12 * suc (suc j) + 7) / 8 ≡ (12 * j + 7) / 8 + 3 = omega arith in
    let more : (12 * (suc (suc j) + 1) + 7) / 8 ≡ (12 * (j + 1) + 7) / 8 + 3 = omega arith in
    rw (odd, less, more) (omega (arith, added_is j))

pub put_next : (ms : List (ℕ × ℕ)) (rest : List ℕ) (a b : ℕ) → added (length ms) ≤ length rest
    → put_pair (pack ms ++ rest) (length ms) a b ≡ pack (ms ++ ((a, b) ∷ [])) ++ drop (added (length ms)) rest
unfolding pack added put_pair
put_next [] [] a b h = absurd (omega arith)
put_next [] (r ∷ []) a b h = absurd (omega arith)
put_next [] (r ∷ r' ∷ rest) a b h = refl
put_next (p ∷ []) [] a b h = absurd (omega arith)
put_next (p ∷ []) (r ∷ rest) a b h =
    let kept : p.1 % 16 * 16 / 16 * 16 ≡ p.1 % 16 * 16 = omega arith in
    rw kept refl
put_next (p ∷ q ∷ ms) rest a b h =
    let on : suc (suc (length ms)) % 2 ≡ length ms % 2 = omega arith in
    put_shift _ _ _ (pack ms ++ rest) (length ms) a b
    ∙ rw (on, put_next ms rest a b (rw on at h)) refl

-- a byte written twice, the second time with what stands there
set_again : (f : ℕ → ℕ) (l : List ℕ) (i x : ℕ) → set (set l i x) i (f (get_or (set l i x) i 0)) ≡ set l i (f x)
set_again f [] i x = refl
set_again f (y ∷ l) zero x = refl
set_again f (y ∷ l) (suc i) x = ap (λ (m : List ℕ). y ∷ m) (set_again f l i x)

-- what a position written at each of the four places leaves
module _ (l : List ℕ) (q at : ℕ) (begin : q / 4 * 3 ≡ at) where
  pub put_0 : (p : ℕ) → q % 4 ≡ 0 → put_position l q p ≡ set l at (p * 4)
  unfolding put_position
  put_0 p e = simp (begin, eq-eqb (q % 4) 0 e)

  pub put_1 : (p : ℕ) → q % 4 ≡ 1 → put_position l q p ≡ set (set l at (get_or l at 0 / 4 * 4 + p / 16)) (at + 1) (p % 16 * 16)
  unfolding put_position
  put_1 p e = rw (begin, e) refl

  pub put_2 : (p : ℕ) → q % 4 ≡ 2
      → put_position l q p ≡ set (set l (at + 1) (get_or l (at + 1) 0 / 16 * 16 + p / 4)) (at + 2) (p % 4 * 64)
  unfolding put_position
  put_2 p e = rw (begin, e) refl

  pub put_3 : (p : ℕ) → q % 4 ≡ 3 → put_position l q p ≡ set l (at + 2) (get_or l (at + 2) 0 / 64 * 64 + p)
  unfolding put_position
  put_3 p e = rw (begin, e) refl

-- a pair is written as its two positions, one after the other
pub put_pair_is : (l : List ℕ) (j a b : ℕ) → put_pair l j a b ≡ put_position (put_position l (2 * j) a) (2 * j + 1) b
unfolding put_pair
put_pair_is l j a b =
    let at = j / 2 * 3 in
    elim (ℕ_discrete (j % 2) 0) [
      | yes even ↦
          let kept : a * 4 / 4 * 4 ≡ a * 4 = omega arith in
          let first = put_0 l (2 * j) at (omega arith) a (omega arith) in
          let second = put_1 (set l at (a * 4)) (2 * j + 1) at (omega arith) b (omega arith) in
          let one = set_again (λ x. x / 4 * 4 + b / 16) l at (a * 4) in
          rw (eq-eqb (j % 2) 0 even, first, second, one, kept) refl
      | no odd ↦
          let kept : a % 4 * 64 / 64 * 64 ≡ a % 4 * 64 = omega arith in
          let begun = set l (at + 1) (get_or l (at + 1) 0 / 16 * 16 + a / 4) in
          let first = put_2 l (2 * j) at (omega arith) a (omega arith) in
          let second = put_3 (set begun (at + 2) (a % 4 * 64)) (2 * j + 1) at (omega arith) b (omega arith) in
          let one = set_again (λ x. x / 64 * 64 + b) begun (at + 2) (a % 4 * 64) in
          rw (ne_eqb (j % 2) 0 odd, first, second, one, kept) refl
    ]

-- three bytes on, four positions on
put_on : (x y z : ℕ) (l : List ℕ) (q p : ℕ)
    → put_position (x ∷ y ∷ z ∷ l) (suc (suc (suc (suc q)))) p ≡ x ∷ y ∷ z ∷ put_position l q p
unfolding put_position
put_on x y z l q p =
    let at : suc (suc (suc (suc q))) / 4 * 3 ≡ suc (suc (suc (q / 4 * 3))) = omega arith in
    let place : suc (suc (suc (suc q))) % 4 ≡ q % 4 = omega arith in
    let next : suc (suc (suc (q / 4 * 3))) + 1 ≡ suc (suc (suc (q / 4 * 3 + 1))) = omega arith in
    let last : suc (suc (suc (q / 4 * 3))) + 2 ≡ suc (suc (suc (q / 4 * 3 + 2))) = omega arith in
    rw (at, place, next, last) (by (eqb (q % 4) 0) (eqb (q % 4) 1) (eqb (q % 4) 2) _ _ _ _)
  where
    by : (s t u : Bool) (a b c d : List ℕ)
        → cond s (x ∷ y ∷ z ∷ a) (cond t (x ∷ y ∷ z ∷ b) (cond u (x ∷ y ∷ z ∷ c) (x ∷ y ∷ z ∷ d)))
        ≡ x ∷ y ∷ z ∷ cond s a (cond t b (cond u c d))
    by true t u a b c d = refl
    by false true u a b c d = refl
    by false false true a b c d = refl
    by false false false a b c d = refl

-- the bytes that q positions take
abbrev size : ℕ → ℕ
size q = (6 * q + 7) / 8

pub put_behind : (ms rest : List ℕ) (p : ℕ) → size (length ms + 1) - size (length ms) ≤ length rest
    → put_position (pack_positions ms ++ rest) (length ms) p
    ≡ pack_positions (ms ++ (p ∷ [])) ++ drop (size (length ms + 1) - size (length ms)) rest
unfolding pack_positions put_position
put_behind [] [] p h = absurd (omega arith)
put_behind [] (r ∷ rest) p h = refl
put_behind (a ∷ []) [] p h = absurd (omega arith)
put_behind (a ∷ []) (r ∷ rest) p h =
    let kept : a * 4 / 4 * 4 ≡ a * 4 = omega arith in
    rw kept refl
put_behind (a ∷ b ∷ []) [] p h = absurd (omega arith)
put_behind (a ∷ b ∷ []) (r ∷ rest) p h =
    let kept : b % 16 * 16 / 16 * 16 ≡ b % 16 * 16 = omega arith in
    rw kept refl
put_behind (a ∷ b ∷ c ∷ []) rest p h =
    let kept : c % 4 * 64 / 64 * 64 ≡ c % 4 * 64 = omega arith in
    rw kept refl
put_behind (a ∷ b ∷ c ∷ d ∷ ms) rest p h =
    let q = length ms in
    let more : size (suc (suc (suc (suc q))) + 1) ≡ size (q + 1) + 3 = omega arith in
    let less : size (suc (suc (suc (suc q)))) ≡ size q + 3 = omega arith in
    let on : size (suc (suc (suc (suc q))) + 1) - size (suc (suc (suc (suc q)))) ≡ size (q + 1) - size q =
    ap₂ ◌-◌ more less ∙ omega arith in
    put_on _ _ _ (pack_positions ms ++ rest) q p
    ∙ rw (on, put_behind ms rest p (rw on at h)) refl

size_grows : (q n : ℕ) → size q ≤ size (q + n)
size_grows q n = omega arith

put_more : (ps ms rest : List ℕ) (q : ℕ) → q ≡ length ms → size (q + length ps) - size q ≤ length rest
    → put_positions (pack_positions ms ++ rest) q ps ≡ pack_positions (ms ++ ps) ++ drop (size (q + length ps) - size q) rest
unfolding put_positions
put_more [] ms rest q e h =
    let none : size (q + 0) - size q ≡ 0 = omega arith in
    rw (append-nil ms, none) refl
put_more (p ∷ ps) ms rest q e h =
    let one = size (q + 1) - size q in
    let low = size_grows q 1 in
    let high : size (q + 1) ≤ size (q + suc (length ps)) =
    subst (λ (k : ℕ). size (q + 1) ≤ size k) (omega arith) (size_grows (q + 1) (length ps)) in
    let first : put_position (pack_positions ms ++ rest) q p ≡ pack_positions (ms ++ (p ∷ [])) ++ drop one rest =
    rw e (put_behind ms rest p (rw (← e) (omega arith))) in
    let longer : q + 1 ≡ length (ms ++ (p ∷ [])) = omega (arith, length-append ms (p ∷ [])) in
    let left : length (drop one rest) ≡ length rest - one = length-drop one rest in
    let all : one + (size (q + 1 + length ps) - size (q + 1)) ≡ size (q + suc (length ps)) - size q = omega arith in
    ap (λ (l : List ℕ). put_positions l (q + 1) ps) first
    ∙ put_more ps (ms ++ (p ∷ [])) (drop one rest) (q + 1) longer (omega arith)
    ∙ rw (append_assoc ms (p ∷ []) ps, drop-drop (size (q + 1 + length ps) - size (q + 1)) one rest, all) refl

-- a record's positions, written one after another at the front of a byte string, are its bytes; what stands behind them stays
pub put_all : (s ps : List ℕ) → (6 * length ps + 7) / 8 ≤ length s → put_positions s 0 ps ≡ written s 0 (pack_positions ps)
unfolding pack_positions
put_all s ps h =
    let whole : (6 * (0 + length ps) + 7) / 8 - 0 ≡ length (pack_positions ps) = omega (arith, length-packed ps) in
    put_more ps [] s 0 refl (omega arith) ∙ rw whole refl ∙ sym (written_front s (pack_positions ps))

-- the same behind the packed positions ms
pub put_behind-all : (ms ps s : List ℕ) (q : ℕ) → q ≡ length ms → size (length (ms ++ ps)) ≤ length s
    → put_positions (written s 0 (pack_positions ms)) q ps ≡ written s 0 (pack_positions (ms ++ ps))
put_behind-all ms ps s q e h =
    let both : length (ms ++ ps) ≡ q + length ps = length-append ms ps ∙ ap (λ (n : ℕ). n + length ps) (sym e) in
    let old : length (pack_positions ms) ≡ size q = length-packed ms ∙ ap size (sym e) in
    let new : length (pack_positions (ms ++ ps)) ≡ size (q + length ps) = length-packed (ms ++ ps) ∙ ap size both in
    let low = size_grows q (length ps) in
    let room : size (q + length ps) ≤ length s = subst (λ (n : ℕ). size n ≤ length s) both h in
    let gap = size (q + length ps) - size q in
    let left : length (drop (size q) s) ≡ length s - size q = length-drop (size q) s in
    let on : size q + gap ≡ size (q + length ps) = omega arith in
    rw (written_front s (pack_positions ms), old)
    (put_more ps ms (drop (size q) s) q e (omega arith)
    ∙ rw (drop-drop gap (size q) s, on, ← new) (sym (written_front s (pack_positions (ms ++ ps)))))
