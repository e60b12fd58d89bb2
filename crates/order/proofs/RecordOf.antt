-- A well-formed order is the record of the order that it describes: nothing in its bytes is left to choice.
--
--     order_bits_are, length-order_bits    an order's record is made of bits, and how many
--     record_of    a well-formed byte string is the record of what it describes
-- Assumes nothing.
use Prim.Native.Nat.{ℕ, ◌+◌, ◌*◌}
use mathlib.Core.Path.{◌≡◌, refl, sym, ap, ◌∙◌}
use mathlib.Core.List.{List, ◌++◌}
use native.Mathlib.Omega.{arith}
use lib.ListN.{length, replicate, length-append}
use lib.Seq.{take_all}
use Rattle.field.specs.Bits.{bits, bits_of, field, pairs, positions, pair_bits, position_bits, pad, padded}
use Rattle.field.proofs.BitLaws.{Bits, below_append, bits_are, bits-field, length-bits, length-bits_of}
use Rattle.field.specs.Bytes.{Bytes}
use Rattle.field.proofs.RecordLaws.{length_pairs, length-positions, bits-pairs, bits-positions, length-pair_bits, length-position_bits}
use Rattle.field.proofs.RecordLaws.{pair_bits_are, position_bits_are, zeros_at, join, padded-by, up_to_byte, to_bytes-from}
use Rattle.field.proofs.UnitLaws.{Fitting, Clean, cleanly, pad-after_head}
use Rattle.order.specs.Order.{Order, order_bits, order_record, position_count, edge_count, rack_count, unit_count, floor_of, starts_of}
use Rattle.order.specs.Order.{goals_of, order_of, padding_set, WellFormed}
use Rattle.order.proofs.OrderLaws.{right_order, formed_head}

pub order_bits_are : (o : Order) → Bits (order_bits o)
unfolding order_bits
order_bits_are o =
    below_append
    (below_append
    (below_append (below_append (below_append (below_append (bits_are 7 _) (bits_are 8 _)) (bits_are 7 _)) (bits_are 2 0))
    (pair_bits_are o.floor.edges))
    (position_bits_are o.starts))
    (position_bits_are o.goals)

module _ (s : List ℕ) (e m : ℕ) (ee : e ≡ edge_count s) (em : m ≡ rack_count s)
    (room : 24 + 12 * (e + m) + pad (12 * (e + m)) ≡ 8 * length s) where
  -- the fields of s, one after another, are the bits of s
  read_bits : field s 22 2 ≡ 0 → field s (24 + 12 * (e + m)) (pad (12 * (e + m))) ≡ 0
      → bits 7 (field s 0 7)
      ++ bits 8 e
      ++ bits 7 m
      ++ bits 2 0
      ++ pair_bits (pairs s 24 e)
      ++ position_bits (positions s (24 + 12 * e) m)
      ++ position_bits (positions s (24 + 12 * e + 6 * m) m)
      ++ replicate (pad (12 * (e + m))) 0
      ≡ bits_of s
  unfolding edge_count rack_count
  read_bits spare clear =
      let at : 24 + 12 * e + 6 * m + 6 * m ≡ 24 + 12 * (e + m) = omega arith in
      join s (24 + 12 * e + 6 * m + 6 * m) (pad (12 * (e + m)))
      (join s (24 + 12 * e + 6 * m) (6 * m)
      (join s (24 + 12 * e) (6 * m)
      (join s 24 (12 * e)
      (join s 22 2
      (join s 15 7
      (join s 7 8 (bits-field s 0 7 (omega arith)) (ap (bits 8) ee ∙ bits-field s 7 8 (omega arith)))
      (ap (bits 7) em ∙ bits-field s 15 7 (omega arith)))
      (ap (bits 2) (sym spare) ∙ bits-field s 22 2 (omega arith)))
      (bits-pairs s 24 e (omega arith)))
      (bits-positions s (24 + 12 * e) m (omega arith)))
      (bits-positions s (24 + 12 * e + 6 * m) m (omega arith)))
      (rw at (zeros_at s (24 + 12 * (e + m)) (pad (12 * (e + m))) (omega arith) clear))
      ∙ take_all (24 + 12 * e + 6 * m + 6 * m + pad (12 * (e + m))) (bits_of s) (rw length-bits_of (omega arith))

pub length-order_bits : (o : Order)
    → length (order_bits o) ≡ 24 + 12 * length o.floor.edges + 6 * length o.starts + 6 * length o.goals
unfolding order_bits
length-order_bits o =
    simp (length-append, length-bits, length-pair_bits, length-position_bits)

pub record_of : (s : List ℕ) → Bytes s → WellFormed s → s ≡ order_record (order_of s)
unfolding order_record
record_of s b w = to_bytes-from b (order_bits_are (order_of s)) (sym all)
  where
    units : ℕ
    units = edge_count s + rack_count s

    fit : Fitting s (2 * units)
    fit = unfold unit_count in (formed_head s w).fit

    clear : Clean s (2 * units)
    clear = unfold unit_count padding_set in cleanly s (unit_count s) (right_order s w).padding_clear

    twelve : 6 * (2 * units) ≡ 12 * units
    twelve = omega arith

    room : 24 + 12 * units + pad (12 * units) ≡ 8 * length s
    room = omega (arith, up_to_byte (12 * units), fit.length_is)

    lengths : length (order_bits (order_of s)) ≡ 24 + 12 * units
    lengths =
        unfold order_of floor_of starts_of goals_of in length-order_bits (order_of s)
        ∙ rw (
          length_pairs s 24 (edge_count s),
          length-positions s (24 + 12 * edge_count s) (rack_count s),
          length-positions s (24 + 12 * edge_count s + 6 * rack_count s) (rack_count s),
        ) (omega arith)

    pad_is : pad (length (order_bits (order_of s))) ≡ pad (12 * units)
    pad_is = ap pad lengths ∙ pad-after_head (12 * units)

    all : padded (order_bits (order_of s)) ≡ bits_of s
    all =
        padded-by (order_bits (order_of s)) (pad (12 * units)) pad_is
        ∙ (unfold order_bits order_of floor_of starts_of goals_of position_count in
        rw (length_pairs s 24 (edge_count s), length-positions s (24 + 12 * edge_count s) (rack_count s))
        (read_bits s (edge_count s) (rack_count s) refl refl room clear.spare_clear (rw twelve at clear.pad_clear)))
