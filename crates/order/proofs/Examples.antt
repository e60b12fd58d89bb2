-- Orders by computation on the definitions: the case book's order is accepted, and one order each meets exactly 10, 11, 12, 13, 14.
-- So the conditions are neither empty nor everything.
--
--     case_book                                   the order of "Programs"
--     case_book_accepted, case_book_read, case_book_written    it is accepted, and describes what the paper says of it,
--                                                              which has it as its record
--     case_book_length, case_book_cut            it is 14 bytes long, whatever stands behind it, and no order where it is cut short
--     meets_10, .., meets_14                     an order for each of the numbers
-- Assumes nothing.
use mathlib.Core.Path.{◌≡◌, refl}
use mathlib.Core.List.{List, [], ◌∷◌, ◌++◌}
use Prim.Native.Nat.{ℕ}
use lib.ListN.{take}
use Rattle.answers.specs.Answer.{accepted, refused}
use Rattle.field.specs.Bits.{bits, number, bits_of, field, pairs, positions, pair_bits, position_bits, pad, padded, bytes, to_bytes}
use Rattle.field.specs.Units.{record_length, misfits, pad_set, unclean}
use Rattle.recording.specs.Front.{whole_length}
use Rattle.order.specs.Floor.{some}
use Rattle.order.specs.Order.{Order, order_bits, order_record, position_count, edge_count, rack_count, unit_count, floor_of, starts_of}
use Rattle.order.specs.Order.{goals_of, order_of, wrong_length, wrong_positions, padding_set, bad_edge, precedes, ascending}
use Rattle.order.specs.Order.{wrong_edges, repeats, wrong_places, wrong_racks, counts, order_answer}
use Rattle.order.specs.RecordLength.{order_length, whole_order_length}
use Rattle.order.proofs.RecordLengthLaws.{order_length_found}

-- document 01, "Programs": n = 4, edges 0-1, 0-2, 1-2, 1-3, 2-3, rack 1 from 0 to 3, rack 2 from 3 to 0
pub case_book : List ℕ
case_book = 0x08 ∷ 0x0A ∷ 0x08 ∷ 0x00 ∷ 0x10 ∷ 0x02 ∷ 0x04 ∷ 0x20 ∷ 0x43 ∷ 0x08 ∷ 0x30 ∷ 0x03 ∷ 0x0C ∷ 0x00 ∷ []

abbrev case_book_order : Order
case_book_order =
    record {
      floor = record { positions = 4; edges = (0, 1) ∷ (0, 2) ∷ (1, 2) ∷ (1, 3) ∷ (2, 3) ∷ [] };
      starts = 0 ∷ 3 ∷ [];
      goals = 3 ∷ 0 ∷ [];
    }

case_book_accepted : order_answer case_book ≡ accepted (4 ∷ 5 ∷ 2 ∷ [])
unfolding case_book order_answer wrong_length misfits record_length unit_count wrong_positions padding_set pad_set
    unclean pad wrong_edges some
    bad_edge precedes ascending wrong_racks wrong_places repeats order_of floor_of starts_of goals_of counts
    position_count edge_count rack_count
    field number bits_of bits pairs positions
case_book_accepted = refl

case_book_read : order_of case_book ≡ case_book_order
unfolding case_book order_of floor_of starts_of goals_of position_count edge_count rack_count field number bits_of bits pairs positions
case_book_read = refl

case_book_written : order_record case_book_order ≡ case_book
unfolding case_book order_record order_bits to_bytes bytes padded pad number bits pair_bits position_bits
case_book_written = refl

case_book_length : (rest : List ℕ) → whole_order_length (case_book ++ rest) ≡ 14
unfolding case_book wrong_length misfits record_length unit_count edge_count rack_count field number bits_of bits
case_book_length rest = (order_length_found (case_book ++ rest)).only case_book rest refl refl

case_book_cut : (whole_order_length (take 13 case_book) ≡ 0) × (whole_order_length (take 2 case_book) ≡ 0) × (whole_order_length [] ≡ 0)
unfolding case_book whole_order_length whole_length order_length record_length unit_count edge_count rack_count field number bits_of bits
case_book_cut = (refl, refl, refl)

-- two bytes
meets_10 : order_answer (0x08 ∷ 0x0A ∷ []) ≡ refused 10 0
unfolding order_answer wrong_length misfits
meets_10 = refl

-- n = 65
meets_11 : order_answer (0x82 ∷ 0x00 ∷ 0x00 ∷ []) ≡ refused 11 0
unfolding order_answer wrong_length misfits record_length unit_count wrong_positions position_count edge_count
    rack_count field number bits_of bits
meets_11 = refl

-- the second spare bit is set
meets_12 : order_answer (0x02 ∷ 0x00 ∷ 0x01 ∷ []) ≡ refused 12 0
unfolding order_answer wrong_length misfits record_length unit_count wrong_positions padding_set pad_set unclean pad
    position_count edge_count
    rack_count field number bits_of bits
meets_12 = refl

-- the edge 1-0 is not lower first
meets_13 : order_answer (0x04 ∷ 0x02 ∷ 0x00 ∷ 0x04 ∷ 0x00 ∷ []) ≡ refused 13 0
unfolding order_answer wrong_length misfits record_length unit_count wrong_positions padding_set pad_set unclean pad
    wrong_edges some bad_edge
    precedes ascending floor_of position_count edge_count rack_count field number bits_of bits pairs
meets_13 = refl

-- n = 1, one rack from 0 to 1
meets_14 : order_answer (0x02 ∷ 0x00 ∷ 0x04 ∷ 0x00 ∷ 0x10 ∷ []) ≡ refused 14 0
unfolding order_answer wrong_length misfits record_length unit_count wrong_positions padding_set pad_set unclean pad
    wrong_edges some bad_edge
    precedes ascending wrong_racks wrong_places repeats order_of floor_of starts_of goals_of position_count edge_count
    rack_count field number
    bits_of bits pairs positions
meets_14 = refl
