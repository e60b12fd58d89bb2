-- A short order that 50 passes is the record of what it describes: nothing in its bytes is left to choice.
--
--     short_bits_are, length-short_bits    a short order's record is made of bits, and how many
--     short_record_of    a byte string that 50 passes is the record of what it describes
--     short_of_read      so two that describe the same are the same bytes
-- Assumes nothing.
use Prim.Native.Nat.{ℕ, ◌+◌, ◌*◌}
use mathlib.Core.Path.{◌≡◌, sym, ap, ◌∙◌}
use mathlib.Core.Bool.{false}
use mathlib.Core.List.{List, ◌++◌}
use native.Mathlib.Omega.{arith}
use lib.ListN.{length, replicate, length-append}
use lib.Seq.{take_all}
use Rattle.field.specs.Bits.{bits, bits_of, position_bits, pad, padded}
use Rattle.field.specs.Bytes.{Bytes}
use Rattle.field.proofs.BitLaws.{Bits, below_append, bits_are, bits-field, length-bits, length-bits_of}
use Rattle.field.proofs.RecordLaws.{bits-positions, length-position_bits, position_bits_are}
use Rattle.field.proofs.RecordLaws.{zeros_at, join, padded-by, up_to_byte, to_bytes-from}
use Rattle.field.proofs.WholeBytes.{pad-after-whole}
use Rattle.models.specs.ShortOrder.{ShortOrder, short_bits, short_record, model_code}
use Rattle.models.specs.ShortOrder.{short_racks, short_starts, short_goals, short_of, wrong_short}
use Rattle.models.proofs.ExpansionLaws.{ShortFits, short_fits, length-starts, length-goals}

pub short_bits_are : (o : ShortOrder) → Bits (short_bits o)
unfolding short_bits
short_bits_are o =
    below_append
    (below_append (below_append (below_append (bits_are 8 _) (bits_are 7 _)) (bits_are 1 0)) (position_bits_are o.starts))
    (position_bits_are o.goals)

pub length-short_bits : (o : ShortOrder) → length (short_bits o) ≡ 16 + 6 * length o.starts + 6 * length o.goals
unfolding short_bits
length-short_bits o = simp (length-append, length-bits, length-position_bits)

module _ (s : List ℕ) (f : ShortFits s) where
  abbrev m : ℕ
  m = short_racks s

  room : 16 + 12 * m + pad (12 * m) ≡ 8 * length s
  room = omega (arith, up_to_byte (12 * m), f.length_is)

  -- the fields of s, one after another, are the bits of s
  read_bits :
      bits 8 (model_code s) ++ bits 7 m ++ bits 1 0 ++ position_bits (short_starts s) ++ position_bits (short_goals s)
      ++ replicate (pad (12 * m)) 0
      ≡ bits_of s
  unfolding model_code short_racks short_starts short_goals
  read_bits =
      let all = room in
      let at : 16 + 6 * m + 6 * m ≡ 16 + 12 * m = omega arith in
      join s (16 + 6 * m + 6 * m) (pad (12 * m))
      (join s (16 + 6 * m) (6 * m)
      (join s 16 (6 * m)
      (join s 15 1
      (join s 8 7 (bits-field s 0 8 (omega arith)) (bits-field s 8 7 (omega arith)))
      (ap (bits 1) (sym f.spare_clear) ∙ bits-field s 15 1 (omega arith)))
      (bits-positions s 16 m (omega arith)))
      (bits-positions s (16 + 6 * m) m (omega arith)))
      (rw at (zeros_at s (16 + 12 * m) (pad (12 * m)) (omega arith) f.pad_clear))
      ∙ take_all (16 + 6 * m + 6 * m + pad (12 * m)) (bits_of s) (omega (arith, length-bits_of s))

pub short_record_of : (s : List ℕ) → Bytes s → wrong_short s ≡ false → s ≡ short_record (short_of s)
unfolding short_record
short_record_of s b right = to_bytes-from b (short_bits_are (short_of s)) (sym all)
  where
    f : ShortFits s
    f = short_fits s right

    lengths : length (short_bits (short_of s)) ≡ 16 + 12 * short_racks s
    lengths = unfold short_of in length-short_bits (short_of s) ∙ rw (length-starts s, length-goals s) (omega arith)

    pad_is : pad (length (short_bits (short_of s))) ≡ pad (12 * short_racks s)
    pad_is = ap pad lengths ∙ pad-after-whole 2 (12 * short_racks s)

    all : padded (short_bits (short_of s)) ≡ bits_of s
    all =
        padded-by (short_bits (short_of s)) (pad (12 * short_racks s)) pad_is
        ∙ (unfold short_bits short_of in rw (length-starts s) (read_bits s f))

pub short_of_read : (s t : List ℕ) → Bytes s → Bytes t → wrong_short s ≡ false → wrong_short t ≡ false → short_of s ≡ short_of t → s ≡ t
short_of_read s t bs bt ws wt e = short_record_of s bs ws ∙ ap short_record e ∙ sym (short_record_of t bt wt)
