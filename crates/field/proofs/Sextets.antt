-- Positions of 6 bits in the four places that they take in three bytes, and the 22 bits of a head, as sums of parts of bytes.
--
--     sextet_0, -6, -4, -2    the position that begins at that bit of a byte
--     head_count, head_spare  the count and the spare bits of a head of three bytes
--     pad_none, pad_2, -4, -6  the pad of no bits, or of two, four or six, behind q positions
-- Assumes nothing.
use Prim.Native.Nat.{ℕ, ◌+◌, ◌-◌, ◌*◌, ◌/◌, ◌%◌, ◌^◌, ◌≤◌, ◌<◌}
use mathlib.Core.Path.{◌≡◌, refl, sym, ap, ap₂, ◌∙◌}
use mathlib.Core.List.{List}
use native.Mathlib.Omega.{arith}
use native.Mathlib.Nat.{div-one}
use lib.ListN.{length, get_or}
use Rattle.field.specs.Bits.{field, number, pad}
use Rattle.field.proofs.BitLaws.{field_in_byte, field_across, field-split}
use Rattle.field.proofs.WholeBytes.{pad-after-whole}

module _ (s : List ℕ) (i k : ℕ) where
  pub sextet_0 : i ≡ 8 * k → k < length s → get_or s k 0 < 256 → field s i 6 ≡ get_or s k 0 / 4
  sextet_0 e h b =
      let at : i ≡ 8 * k + 0 = omega arith in
      ap (λ (n : ℕ). field s n 6) at ∙ field_in_byte s k 0 6 2 h refl ∙ omega arith

  pub sextet_2 : i ≡ 8 * k + 2 → k < length s → field s i 6 ≡ get_or s k 0 % 64
  sextet_2 e h = ap (λ (n : ℕ). field s n 6) e ∙ field_in_byte s k 2 6 0 h refl ∙ omega arith

  -- the byte after byte k, under whatever name its index has
  module _ (l : ℕ) (n : l ≡ k + 1) (h : l < length s) (b : get_or s l 0 < 256) where
    across : (r v w t : ℕ) → r + v ≡ 8 → w + t ≡ 8 → field s (8 * k + r) (v + w) ≡ get_or s k 0 % 2 ^ v * 2 ^ w + get_or
        s l 0 / 2 ^ t % 2 ^ w
    across r v w t e f = rw n (field_across s k r v w t (omega arith) e f)

    pub sextet_4 : i ≡ 8 * k + 4 → field s i 6 ≡ get_or s k 0 % 16 * 4 + get_or s l 0 / 64
    sextet_4 e = ap (λ (m : ℕ). field s m 6) e ∙ across 4 4 2 6 refl refl ∙ omega arith

    pub sextet_6 : i ≡ 8 * k + 6 → field s i 6 ≡ get_or s k 0 % 4 * 16 + get_or s l 0 / 16
    sextet_6 e = ap (λ (m : ℕ). field s m 6) e ∙ across 6 2 4 4 refl refl ∙ omega arith

module _ (s : List ℕ) (h : 3 ≤ length s) where
  pub head_count : get_or s 0 0 < 256 → get_or s 1 0 < 256 → get_or s 2 0 < 256
      → field s 0 22 ≡ get_or s 0 0 * 16384 + get_or s 1 0 * 64 + get_or s 2 0 / 4
  head_count a b c =
      field-split s 0 8 14 (omega arith)
      ∙ ap₂ (λ (x y : ℕ). x * 2 ^ 14 + y) (field_in_byte s 0 0 8 0 (omega arith) refl) (field_across s 1 0 8 6 2 (omega arith) refl refl)
      ∙ omega arith

  pub head_spare : field s 22 2 ≡ get_or s 2 0 % 4
  head_spare = field_in_byte s 2 6 2 0 (omega arith) refl ∙ omega arith

-- the pad where the last position ends inside byte k, behind the first r bits of it
pub pad_in_byte : (s : List ℕ) (q k r w : ℕ) → 6 * q ≡ 8 * k + r → pad r ≡ w → r + w ≡ 8 → k < length s
    → field s (6 * q) (pad (6 * q)) ≡ get_or s k 0 % 2 ^ w
pad_in_byte s q k r w at left e h =
    let same : pad (6 * q) ≡ w = ap pad at ∙ pad-after-whole k r ∙ left in
    ap₂ (field s) at same ∙ field_in_byte s k r w 0 h (omega arith) ∙ ap (λ (x : ℕ). x % 2 ^ w) (div-one (get_or s k 0))

-- the pad where the last position ends with a byte
pub pad_none : (s : List ℕ) (q : ℕ) → q % 4 ≡ 0 → field s (6 * q) (pad (6 * q)) ≡ 0
unfolding field number pad
pad_none s q e =
    let at : 6 * q ≡ 8 * (q / 4 * 3) + 0 = omega arith in
    let none : pad (6 * q) ≡ 0 = ap pad at ∙ pad-after-whole (q / 4 * 3) 0 in
    ap (field s (6 * q)) none

-- the pad behind the first, the second and the third of four positions
module _ (s : List ℕ) (q at : ℕ) (begin : at ≡ q / 4 * 3) where
  pub pad_2 : q % 4 ≡ 1 → at < length s → field s (6 * q) (pad (6 * q)) ≡ get_or s at 0 % 4
  unfolding pad
  pad_2 e h = pad_in_byte s q at 6 2 (omega arith) refl refl h

  pub pad_4 : (k : ℕ) → k ≡ at + 1 → q % 4 ≡ 2 → k < length s → field s (6 * q) (pad (6 * q)) ≡ get_or s k 0 % 16
  unfolding pad
  pad_4 k n e h = pad_in_byte s q k 4 4 (omega arith) refl refl h

  pub pad_6 : (k : ℕ) → k ≡ at + 2 → q % 4 ≡ 3 → k < length s → field s (6 * q) (pad (6 * q)) ≡ get_or s k 0 % 64
  unfolding pad
  pad_6 k n e h = pad_in_byte s q k 2 6 (omega arith) refl refl h
