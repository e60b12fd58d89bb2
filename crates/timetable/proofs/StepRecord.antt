-- A step as a byte string of its own: the part of the timetable that it is.
--
--     step_record ms              the step ms as a byte string, count byte first and pad last
--     step_bits_are, length-step_bits    it is made of bits, in whole bytes
--     bits_of_record, record_bytes     and has these bits, and is a byte string
--     joined l                   parts, one after another
--     Part p                     p is a step: bytes, as long as its count byte says, no pad bit set
--     count_below                its count byte is below 256
--     count_of, length_record, moves_of, clear_of    what is read back from the record of a step
--     part_of_record             the record of a step is such a part
--     record_of_part             such a part is the record of its moves
-- Assumes nothing.
use Prim.Native.Nat.{ℕ, ◌+◌, ◌*◌, ◌≤◌, ◌<◌}
use mathlib.Core.Path.{◌≡◌, refl, sym, ap, ap₂, ◌∙◌}
use mathlib.Core.Bool.{false, not}
use mathlib.Core.List.{List, [], ◌∷◌, ◌++◌, append_assoc, append-nil}
use native.Mathlib.Omega.{arith}
use lib.Pow.{pow_pos}
use borrow.Author.Tests.{eq-eqb, eqb-true, not-false}
use lib.ListN.{length, get_or, take, drop, replicate, length-append}
use lib.Seq.{take_all, take-add, drop-drop}
use Rattle.field.specs.Bits.{bits, bits_of, field, pair_bits, pad, padded, to_bytes}
use Rattle.field.proofs.BitLaws.{Bits, below_append, length-bits, bits_are, length-bits_of, bits-field, field_at}
use Rattle.field.specs.Bytes.{Bytes, BelowPairs}
use Rattle.field.proofs.RecordLaws.{padded_are, length-padded, to_bytes_are, to_bytes-from, pairs-at, bits-pairs, up_to_byte, bits-zero}
use Rattle.field.proofs.RecordLaws.{pair_bits_are, length-pair_bits}
use Rattle.field.proofs.WholeBytes.{pad-after-whole, padded-whole, to_bytes-whole, length_whole, byte_field, below_get_d}
use Rattle.timetable.specs.Timetable.{step_bits, step_length, step_moves, step_pad_set}
use Rattle.timetable.proofs.StepLaws.{step_length-some, length-moves}

unfoldable pub step_record : List (ℕ × ℕ) → List ℕ
step_record ms = to_bytes (step_bits ms)

unfoldable pub joined : List (List ℕ) → List ℕ
joined [] = []
joined (p ∷ l) = p ++ joined l

pub record Part (p : List ℕ) : Type 0 where
  pub bytes_are : Bytes p
  pub length_is : length p ≡ step_length (get_or p 0 0)
  pub pad_clear : step_pad_set p ≡ false

module _ (ms : List (ℕ × ℕ)) where
  length-counted : length (bits 8 (length ms) ++ pair_bits ms) ≡ 8 * 1 + 12 * length ms
  length-counted = length-append (bits 8 (length ms)) (pair_bits ms) ∙ ap₂ ◌+◌ (length-bits 8 (length ms)) (length-pair_bits ms)

  pub step_bits_are : Bits (step_bits ms)
  unfolding step_bits
  step_bits_are = padded_are (below_append (bits_are 8 (length ms)) (pair_bits_are ms))

  pub length-step_bits : length (step_bits ms) ≡ 8 * step_length (length ms)
  unfolding step_bits step_length
  length-step_bits = length-padded (bits 8 (length ms) ++ pair_bits ms) ∙ rw length-counted (omega arith)

  pub bits_of_record : bits_of (step_record ms) ≡ step_bits ms
  unfolding step_record
  bits_of_record = to_bytes-whole (step_length (length ms)) step_bits_are length-step_bits

  pub length_record : length (step_record ms) ≡ step_length (length ms)
  unfolding step_record
  length_record = length_whole (step_length (length ms)) step_bits_are length-step_bits

  pub record_bytes : Bytes (step_record ms)
  unfolding step_record
  record_bytes = to_bytes_are step_bits_are

  -- the three runs of a step: its count, its moves and its pad
  step_bits_runs : step_bits ms ≡ bits 8 (length ms) ++ (pair_bits ms ++ bits (pad (12 * length ms)) 0)
  unfolding step_bits padded
  step_bits_runs =
      let same : pad (length (bits 8 (length ms) ++ pair_bits ms)) ≡ pad (12 * length ms) =
      ap pad length-counted ∙ pad-after-whole 1 (12 * length ms) in
      ap (λ (k : ℕ). bits 8 (length ms) ++ pair_bits ms ++ replicate k 0) same
      ∙ ap (λ (l : List ℕ). bits 8 (length ms) ++ pair_bits ms ++ l) (sym (bits-zero (pad (12 * length ms))))
      ∙ append_assoc (bits 8 (length ms)) (pair_bits ms) _

  runs : bits_of (step_record ms) ≡ bits 8 (length ms) ++ (pair_bits ms ++ bits (pad (12 * length ms)) 0)
  runs = bits_of_record ∙ step_bits_runs

  module _ (few : length ms ≤ 255) where
    pub count_of : get_or (step_record ms) 0 0 ≡ length ms
    count_of =
        sym (byte_field record_bytes 0 (omega (arith, length_record, step_length-some (length ms))))
        ∙ field_at (step_record ms) [] _ 0 8 (length ms) runs refl (omega arith)

    pub moves_of : BelowPairs 64 ms → step_moves (step_record ms) ≡ ms
    unfolding step_moves
    moves_of b = rw count_of (pairs-at (step_record ms) (bits 8 (length ms)) ms _ 8 runs (length-bits 8 (length ms)) b)

    pub clear_of : step_pad_set (step_record ms) ≡ false
    unfolding step_pad_set
    clear_of =
        rw count_of (ap not (eq-eqb (field (step_record ms) (8 + 12 * length ms) (pad (12 * length ms))) 0 zeros))
      where
        split : bits_of (step_record ms) ≡ (bits 8 (length ms) ++ pair_bits ms) ++ (bits (pad (12 * length ms)) 0 ++ [])
        split =
            runs ∙ sym (append_assoc (bits 8 (length ms)) (pair_bits ms) _)
            ∙ ap (λ (l : List ℕ). bits 8 (length ms) ++ pair_bits ms ++ l) (sym (append-nil _))

        zeros : field (step_record ms) (8 + 12 * length ms) (pad (12 * length ms)) ≡ 0
        zeros =
            field_at (step_record ms) (bits 8 (length ms) ++ pair_bits ms) [] (8 + 12 * length ms) (pad (12 * length ms)) 0 split
            length-counted (pow_pos (pad (12 * length ms)))

    pub part_of_record : Part (step_record ms)
    part_of_record = record { bytes_are = record_bytes; length_is = length_record ∙ ap step_length (sym count_of); pad_clear = clear_of }

module _ (p : List ℕ) (part : Part p) where
  pub count_below : get_or p 0 0 < 256
  count_below = below_get_d part.bytes_are 0 (omega (arith, part.length_is, step_length-some (get_or p 0 0)))

  part-size : 8 * length p ≡ 8 + (12 * get_or p 0 0 + pad (12 * get_or p 0 0))
  unfolding step_length
  part-size = rw (up_to_byte (12 * get_or p 0 0), part.length_is) (omega arith)

  -- the three runs of the part
  count_run : bits 8 (get_or p 0 0) ≡ take 8 (bits_of p)
  count_run = ap (bits 8) (sym (byte_field part.bytes_are 0 (omega (arith, part-size)))) ∙ bits-field p 0 8 (omega (arith, part-size))

  moves_run : pair_bits (step_moves p) ≡ take (12 * get_or p 0 0) (drop 8 (bits_of p))
  unfolding step_moves
  moves_run = bits-pairs p 8 (get_or p 0 0) (omega (arith, part-size))

  pad_run : bits (pad (12 * get_or p 0 0)) 0 ≡ take (pad (12 * get_or p 0 0)) (drop (8 + 12 * get_or p 0 0) (bits_of p))
  unfolding step_pad_set
  pad_run =
      ap (bits (pad (12 * get_or p 0 0)))
      (sym (eqb-true (field p (8 + 12 * get_or p 0 0) (pad (12 * get_or p 0 0))) 0 (not-false _ part.pad_clear)))
      ∙ bits-field p (8 + 12 * get_or p 0 0) (pad (12 * get_or p 0 0)) (omega (arith, part-size))

  part_runs : step_bits (step_moves p) ≡ bits_of p
  part_runs =
      step_bits_runs (step_moves p)
      ∙ rw (length-moves p)
      (ap₂ ◌++◌ count_run (ap₂ ◌++◌ moves_run pad_run)
      ∙ together (12 * get_or p 0 0) (pad (12 * get_or p 0 0)) (omega (arith, length-bits_of p, part-size)))
    where
      together : (m w : ℕ) → length (bits_of p) ≤ 8 + (m + w)
          → take 8 (bits_of p) ++ (take m (drop 8 (bits_of p)) ++ take w (drop (8 + m) (bits_of p))) ≡ bits_of p
      together m w h =
          rw (← drop-drop m 8 (bits_of p), ← take-add m w (drop 8 (bits_of p)), ← take-add 8 (m + w) (bits_of p))
          (take_all (8 + (m + w)) (bits_of p) h)

  pub record_of_part : step_record (step_moves p) ≡ p
  unfolding step_record
  record_of_part =
      sym (to_bytes-from part.bytes_are (step_bits_are (step_moves p))
      (sym part_runs ∙ sym (padded-whole (step_bits (step_moves p)) (step_length (length (step_moves p)))
      (length-step_bits (step_moves p)))))
