-- The timetable program on document 01's example, and on inputs that are cut short, by computation.
--
--     order₁, plan₁      the order and the plan of "Programs"
--     whole, short       where the order ends in the example, and in an input that is cut short
--     printed_example    the example, printed whole
--     printed_nothing    no input: refused 10 0 order
--     printed_order      the order alone: refused 30 0 plan
--     printed_short      the order without its last byte: refused 10 0 order
-- Assumes nothing.
use Prim.Native.Nat.{ℕ}
use mathlib.Core.Path.{◌≡◌, refl}
use mathlib.Core.List.{List, [], ◌∷◌, ◌++◌}
use lib.ListN.{take}
use Rattle.field.specs.Bits.{bits, number, bits_of, field}
use Rattle.field.specs.Units.{record_length}
use Rattle.order.specs.RecordLength.{order_length}
use Rattle.order.specs.Order.{edge_count, rack_count, unit_count}
use Rattle.scheduling.proofs.MakerCases.{maker_open}
use Rattle.writers.specs.Lines.{refusal_line}
use Rattle.text.specs.Text.{timetable_text}
use Rattle.text.specs.Split.{order_end, order_part, plan_part}
use Rattle.text.specs.Program.{program_text}

abbrev pub order₁ : List ℕ
order₁ = 0x08 ∷ 0x0A ∷ 0x08 ∷ 0x00 ∷ 0x10 ∷ 0x02 ∷ 0x04 ∷ 0x20 ∷ 0x43 ∷ 0x08 ∷ 0x30 ∷ 0x03 ∷ 0x0C ∷ 0x00 ∷ []

abbrev pub plan₁ : List ℕ
plan₁ = 0x00 ∷ 0x00 ∷ 0x10 ∷ 0x00 ∷ 0x10 ∷ 0xC2 ∷ 0x08 ∷ 0x00 ∷ 0x43 ∷ []

pub whole : (order_end (order₁ ++ plan₁) ≡ 14) × (order_end order₁ ≡ 14)
unfolding order_end order_length record_length unit_count edge_count rack_count field number bits_of bits
whole = (refl, refl)

pub short : (order_end [] ≡ 0) × (order_end (take 2 order₁) ≡ 2) × (order_end (take 13 order₁) ≡ 13)
unfolding order_end order_length record_length unit_count edge_count rack_count field number bits_of bits
short = (refl, refl, refl)

-- `example` has these lines byte for byte
pub printed_example : program_text (order₁ ++ plan₁) ≡ timetable_text (((0, 1) ∷ (3, 2) ∷ []) ∷ ((1, 3) ∷ (2, 0) ∷ []) ∷ [])
unfolding program_text order_part plan_part order_end order_length maker_open
printed_example = refl

pub printed_nothing : program_text [] ≡ refusal_line 10 0
unfolding program_text order_part plan_part order_end order_length maker_open
printed_nothing = refl

pub printed_order : program_text order₁ ≡ refusal_line 30 0
unfolding program_text order_part plan_part order_end order_length maker_open
printed_order = refl

pub printed_short : program_text (take 13 order₁) ≡ refusal_line 10 0
unfolding program_text order_part plan_part order_end order_length maker_open
printed_short = refl
