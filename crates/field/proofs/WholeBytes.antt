-- Laws of runs of bits that are whole bytes: records that are put together of parts, each of which begins on a byte.
--
--     bits_of_append                    the bits of two byte strings, one after the other
--     padded-whole, padded_append      whole bytes have no pad
--     pad-after-whole                  the pad goes by what stands after the last whole byte
--     to_bytes_append                   whole bytes and what follows them, as byte strings
--     to_bytes-whole, length_whole      the bits and the length of a byte string of whole bytes
--     below_get_d, below_each, each_below    the numbers of a list one by one
--     byte_field                       a byte is a field of 8 bits
-- Assumes nothing.
use Prim.Native.Nat.{ℕ, zero, suc, ◌+◌, ◌-◌, ◌*◌, ◌%◌, ◌<◌}
use mathlib.Core.Path.{◌≡◌, refl, sym, ap, ap₂, ◌∙◌}
use mathlib.Core.List.{List, [], ◌∷◌, ◌++◌, append_assoc, append-nil}
use native.Mathlib.Omega.{arith}
use native.Mathlib.Nat.{mod-eq_of_lt, div-one}
use lib.ListN.{length, get_or, replicate, length-append}
use Rattle.field.specs.Bits.{bits, bits_of, field, pad, padded, to_bytes}
use Rattle.field.specs.Bytes.{Below, none, more, Bytes}
use Rattle.field.proofs.BitLaws.{Bits, below_append, field_in_byte}
use Rattle.field.proofs.RecordLaws.{bits_of-to_bytes, length-to_bytes, to_bytes_are, to_bytes-from}

pub bits_of_append : (s t : List ℕ) → bits_of (s ++ t) ≡ bits_of s ++ bits_of t
unfolding bits_of
bits_of_append [] t = refl
bits_of_append (b ∷ s) t = rw (bits_of_append s t) (sym (append_assoc (bits 8 b) (bits_of s) (bits_of t)))

-- the pad goes by what stands after the last whole byte
pub pad-after-whole : (n k : ℕ) → pad (8 * n + k) ≡ pad k
unfolding pad
pad-after-whole n k =
    let same : (8 * n + k) % 8 ≡ k % 8 = omega arith in
    ap (λ (r : ℕ). (8 - r) % 8) same

pub padded_append : (a b : List ℕ) (n : ℕ) → length a ≡ 8 * n → padded (a ++ b) ≡ a ++ padded b
unfolding padded
padded_append a b n e =
    let same : pad (length (a ++ b)) ≡ pad (length b) =
    ap pad (length-append a b ∙ ap (λ (k : ℕ). k + length b) e) ∙ pad-after-whole n (length b) in
    rw same (append_assoc a b (replicate (pad (length b)) 0))

pub padded-whole : (l : List ℕ) (n : ℕ) → length l ≡ 8 * n → padded l ≡ l
unfolding padded pad
padded-whole l n e = ap padded (sym (append-nil l)) ∙ padded_append l [] n e ∙ append-nil l

module _ {a : List ℕ} (n : ℕ) (are : Bits a) (e : length a ≡ 8 * n) where
  pub to_bytes-whole : bits_of (to_bytes a) ≡ a
  to_bytes-whole = bits_of-to_bytes are ∙ padded-whole a n e

  pub length_whole : length (to_bytes a) ≡ n
  length_whole = length-to_bytes a ∙ omega arith

  pub to_bytes_append : {b : List ℕ} → Bits b → to_bytes (a ++ b) ≡ to_bytes a ++ to_bytes b
  to_bytes_append {b} bs =
      sym (to_bytes-from (below_append (to_bytes_are are) (to_bytes_are bs)) (below_append are bs)
      (bits_of_append (to_bytes a) (to_bytes b) ∙ ap₂ ◌++◌ to_bytes-whole (bits_of-to_bytes bs) ∙ sym (padded_append a b n e)))

pub below_get_d : {b : ℕ} {l : List ℕ} → Below b l → (i : ℕ) → i < length l → get_or l i 0 < b
below_get_d none i h = absurd (omega arith)
below_get_d (more x p) zero h = x
below_get_d (more x p) (suc i) h = below_get_d p i (omega arith)

-- the same for every index: past the end stands 0
pub below_each : {b : ℕ} {l : List ℕ} → 0 < b → Below b l → (i : ℕ) → get_or l i 0 < b
below_each h none i = h
below_each h (more x p) zero = x
below_each h (more x p) (suc i) = below_each h p i

pub each_below : {b : ℕ} (l : List ℕ) → ((i : ℕ) → get_or l i 0 < b) → Below b l
each_below [] h = none
each_below (x ∷ l) h = more (h 0) (each_below l (λ i. h (suc i)))

pub byte_field : {s : List ℕ} → Bytes s → (k : ℕ) → k < length s → field s (8 * k) 8 ≡ get_or s k 0
byte_field {s} b k h =
    ap (λ (i : ℕ). field s i 8) (omega arith)
    ∙ field_in_byte s k 0 8 0 h refl
    ∙ ap (λ (x : ℕ). x % 256) (div-one (get_or s k 0))
    ∙ mod-eq_of_lt (below_get_d b k h)
