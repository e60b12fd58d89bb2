-- Inhabitants: each hypothesis of the laws of timetables holds of something, computed on document 01's case book.
--
--     timetable₁, steps₁             the timetable of the first case, 00 00 08 02 00 10 C2 02 04 30 80, and its steps
--     parts₁, moves₁, record₁        its parts, its steps read and its steps written
--     bytes₁, packable₁, packed₁     it is a byte string, its steps can be packed, and neither 40 nor 41 applies
--     string₁                        each of its bytes is below 256, as a lent slice has it
--     second-stands, second-part     after one step what is left begins at byte 7, with a part that is a step
--     length₁, cut₁                  it is 11 bytes long, whatever stands behind it, and no timetable where it is cut short
--     reading₁                       the reading's counts
--     step_zero, step_one, step_two, step_three    the step reader's answers for 0, 1, 2 and 3; step 2 is 02 04 30 80 at offset 7
--     second_given, none_given       the part of step 2, and the empty part of step 3
--     alike, alike-bytes, first-place, second-place    a timetable of two equal steps: their parts' bytes do not tell them apart, the
--                                    places do
--     cut_short_lem, left-over, spare_bit, pad-bit     40 and 41, each by the damage that meets it
--     order₁                         the first case's order
--     timetable_open o s             the timetable checker's answer, with all that it is made of open
--     answer₁                        the first case: accepted, 2 steps and 4 moves
--     well_formed₁, accepted₁        its order is well formed, and what the acceptance means
--     solution₁, only₁               its arrangements are a solution, and it is their one timetable
--     ring_order, ring_timetable, swap_order, swap_timetable    the third case's orders and timetables
--     ring-turned, swapped           the third case: a full ring turned, and two neighbours exchanged, are 42, step 1
--     nine_order, nine_timetable, split_timetable    nine racks behind one another in a row of positions, each to go one position on; a
--                                    timetable that lets them wait and then go as one train, and one where the last goes a step later
--     nine_order_lem, nine_steps, split_steps         what these records are of
--     nine_refused, nine-split       the train of nine is 42, step 2; eight and then one are accepted
--     side_order, side_timetable, side_order_lem, side_steps, eight_accepted    a step of nine moves, eight of them one train, is accepted
--     full_order, full_right, full_count, full_waits    a full floor, where each start is its goal: one empty step is accepted
--     paused, paused_packable, paused_record, paused_accepted    the first case with a pause after step 1: accepted, 3 steps and 4 moves
-- Assumes nothing.
use Prim.Native.Nat.{ℕ}
use mathlib.Core.Path.{◌≡◌, refl, ap, ◌∙◌}
use mathlib.Core.List.{List, [], ◌∷◌, ◌++◌}
use lib.Dec.{lit<, lit≤}
use lib.ListN.{take}
use Rattle.answers.specs.Answer.{Answer, accepted, refused}
use Rattle.field.specs.Bits.{bits, number, bits_of, field, positions, pairs, pair_bits, position_bits, pad, padded, bytes, to_bytes}
use Rattle.field.specs.Bytes.{Bytes, none, more, none₂, more₂}
use Rattle.field.proofs.WholeBytes.{below_each}
use Rattle.field.specs.Units.{record_length, misfits, pad_set, unclean}
use Rattle.recording.specs.Front.{whole_length}
use Rattle.order.specs.Floor.{some, is_pair, joined}
use Rattle.order.specs.Order.{position_count, edge_count, rack_count, unit_count, floor_of, starts_of, goals_of, order_of, wrong_length}
use Rattle.order.specs.Order.{wrong_positions, padding_set, bad_edge, precedes, ascending, wrong_edges, repeats, wrong_places, wrong_racks}
use Rattle.order.specs.Order.{counts, order_answer, WellFormed, order_bits, order_record}
use Rattle.motion.specs.Arrangement.{occupied, vacant}
use Rattle.motion.specs.Move.{on_floor, goes_to, after}
use Rattle.motion.specs.Step.{every, ascends, leaves, enters, entered_once, led, legal_step}
use Rattle.motion.specs.Replay.{replay_from, step_fault, replay_steps, trace}
use Rattle.motion.proofs.StepDecision.{by_test, legal_step?}
use Rattle.motion.proofs.StepCases.{lane, train}
use Rattle.motion.specs.Judgement.{misplaced, judged}
use Rattle.motion.specs.StepOf.{moved, insert, sort, step_of}
use Rattle.motion.specs.StepSolutions.{steps_between}
use Rattle.timetable.specs.Timetable.{step_bits, all_step_bits, timetable_bits, timetable_record, step_length, step_count, move_total}
use Rattle.timetable.specs.Timetable.{step_parts, parts_of, wrong_timetable_length, step_pad_set}
use Rattle.timetable.specs.Timetable.{timetable_padding_set, step_moves, steps_of}
use Rattle.timetable.specs.Timetable.{timetable_answer, steps_length, offset, step_part, step_answer, timetable_length}
use Rattle.timetable.specs.Reading.{reading_answer, WellPacked, part_given, place_given, total}
use Rattle.timetable.proofs.ReadingLaws.{Stands, stands_at}
use Rattle.timetable.specs.RecordLength.{whole_timetable_length}
use Rattle.timetable.proofs.RecordLengthLaws.{timetable-length_found}
use Rattle.timetable_check.specs.ByteString.{ByteString}
use Rattle.timetable.proofs.StepRecord.{Part}
use Rattle.timetable.proofs.TimetableRecord.{no_steps, one_step, Packable}
use Rattle.timetable_check.specs.Solutions.{SolutionOf, AcceptedTimetable}
use Rattle.timetable_check.proofs.Replayed.{ReplayedTimetable, OnlyTimetable, timetable_replayed}
use Rattle.timetable_check.proofs.Still.{StillTimetable, full_floor_lem, OneMore, one_more, waiting_step}

abbrev pub timetable₁ : List ℕ
timetable₁ = 0x00 ∷ 0x00 ∷ 0x08 ∷ 0x02 ∷ 0x00 ∷ 0x10 ∷ 0xC2 ∷ 0x02 ∷ 0x04 ∷ 0x30 ∷ 0x80 ∷ []

abbrev pub steps₁ : List (List (ℕ × ℕ))
steps₁ = ((0, 1) ∷ (3, 2) ∷ []) ∷ ((1, 3) ∷ (2, 0) ∷ []) ∷ []

pub parts₁ : parts_of timetable₁ ≡ (0x02 ∷ 0x00 ∷ 0x10 ∷ 0xC2 ∷ []) ∷ (0x02 ∷ 0x04 ∷ 0x30 ∷ 0x80 ∷ []) ∷ []
unfolding parts_of step_parts step_length step_count field number bits_of bits
parts₁ = refl

pub moves₁ : steps_of timetable₁ ≡ steps₁
unfolding steps_of step_moves pairs parts_of step_parts step_length step_count field number bits_of bits
moves₁ = refl

pub record₁ : timetable_record steps₁ ≡ timetable₁
unfolding timetable_record timetable_bits all_step_bits step_bits pair_bits padded pad to_bytes bytes number bits
record₁ = refl

pub bytes₁ : Bytes timetable₁
bytes₁ =
    more (lit< tt) (more (lit< tt) (more (lit< tt) (more (lit< tt) (more (lit< tt) (more (lit< tt)
    (more (lit< tt) (more (lit< tt) (more (lit< tt) (more (lit< tt) (more (lit< tt) none))))))))))

pub packable₁ : Packable steps₁
packable₁ = record {
  few_steps = lit< tt;
  steps_fit =
      one_step (lit≤ tt) (more₂ (lit< tt) (lit< tt) (more₂ (lit< tt) (lit< tt) none₂))
      (one_step (lit≤ tt) (more₂ (lit< tt) (lit< tt) (more₂ (lit< tt) (lit< tt) none₂)) no_steps);
}

pub packed₁ : WellPacked timetable₁
unfolding wrong_timetable_length timetable_padding_set timetable_length steps_length some step_pad_set pad parts_of
    step_parts step_length step_count
    field number bits_of bits
packed₁ = record { length_right = refl; padding_clear = refl }

pub length₁ : (rest : List ℕ) → whole_timetable_length (timetable₁ ++ rest) ≡ 11
length₁ rest = (timetable-length_found (timetable₁ ++ rest)).only timetable₁ rest refl packed₁.length_right

pub cut₁ : (whole_timetable_length (take 10 timetable₁) ≡ 0) × (whole_timetable_length (take 7 timetable₁) ≡ 0)
    × (whole_timetable_length (take 2 timetable₁) ≡ 0)
unfolding whole_timetable_length whole_length timetable_length steps_length step_length step_count field number bits_of bits
cut₁ = (refl, refl, refl)

pub string₁ : ByteString timetable₁
string₁ = below_each (lit< tt) bytes₁

pub second-stands : Stands timetable₁ 1 7
unfolding steps_length parts_of step_parts step_length step_count field number bits_of bits
second-stands = stands_at timetable₁ packed₁.length_right 1 (lit≤ tt)

pub second-part : Part (0x02 ∷ 0x04 ∷ 0x30 ∷ 0x80 ∷ [])
unfolding step_length step_pad_set pad field number bits_of bits
second-part = record {
  bytes_are = more (lit< tt) (more (lit< tt) (more (lit< tt) (more (lit< tt) none)));
  length_is = refl;
  pad_clear = refl;
}

pub reading₁ : reading_answer timetable₁ ≡ accepted (2 ∷ 4 ∷ [])
unfolding reading_answer total wrong_timetable_length timetable_padding_set timetable_length steps_length some
    step_pad_set pad parts_of step_parts
    step_length step_count field number bits_of bits
reading₁ = refl

pub step_zero : step_answer timetable₁ 0 ≡ refused 45 0
unfolding step_answer wrong_timetable_length timetable_padding_set timetable_length steps_length some step_pad_set pad
    parts_of step_parts step_length
    step_count field number bits_of bits
step_zero = refl

pub step_one : step_answer timetable₁ 1 ≡ accepted (3 ∷ 4 ∷ [])
unfolding step_answer offset step_part wrong_timetable_length timetable_padding_set timetable_length steps_length some
    step_pad_set pad parts_of
    step_parts step_length step_count field number bits_of bits
step_one = refl

pub step_two : step_answer timetable₁ 2 ≡ accepted (7 ∷ 4 ∷ [])
unfolding step_answer offset step_part wrong_timetable_length timetable_padding_set timetable_length steps_length some
    step_pad_set pad parts_of
    step_parts step_length step_count field number bits_of bits
step_two = refl

pub step_three : step_answer timetable₁ 3 ≡ refused 45 0
unfolding step_answer wrong_timetable_length timetable_padding_set timetable_length steps_length some step_pad_set pad
    parts_of step_parts step_length
    step_count field number bits_of bits
step_three = refl

pub second_given : part_given timetable₁ 2 ≡ 0x02 ∷ 0x04 ∷ 0x30 ∷ 0x80 ∷ []
unfolding part_given step_answer offset step_part wrong_timetable_length timetable_padding_set timetable_length
    steps_length some step_pad_set pad
    parts_of step_parts step_length step_count field number bits_of bits
second_given = refl

pub none_given : part_given timetable₁ 3 ≡ []
unfolding part_given step_answer wrong_timetable_length timetable_padding_set timetable_length steps_length some
    step_pad_set pad parts_of step_parts
    step_length step_count field number bits_of bits
none_given = refl

-- two steps without moves
abbrev pub alike : List ℕ
alike = 0x00 ∷ 0x00 ∷ 0x08 ∷ 0x00 ∷ 0x00 ∷ []

pub alike-bytes : part_given alike 1 ≡ part_given alike 2
unfolding part_given step_answer offset step_part wrong_timetable_length timetable_padding_set timetable_length
    steps_length some step_pad_set pad
    parts_of step_parts step_length step_count field number bits_of bits
alike-bytes = refl

pub first-place : (block : ℕ) → place_given (block, 100) alike 1 ≡ (block, 103)
unfolding place_given step_answer offset step_part wrong_timetable_length timetable_padding_set timetable_length
    steps_length some step_pad_set pad
    parts_of step_parts step_length step_count field number bits_of bits
first-place block = refl

pub second-place : (block : ℕ) → place_given (block, 100) alike 2 ≡ (block, 104)
unfolding place_given step_answer offset step_part wrong_timetable_length timetable_padding_set timetable_length
    steps_length some step_pad_set pad
    parts_of step_parts step_length step_count field number bits_of bits
second-place block = refl

-- 40, by a byte too few and by a byte too many: the last step runs past the end, a byte is left over
pub cut_short_lem : reading_answer (0x00 ∷ 0x00 ∷ 0x04 ∷ 0x02 ∷ 0x00 ∷ 0x10 ∷ []) ≡ refused 40 0
unfolding reading_answer wrong_timetable_length timetable_length steps_length step_length step_count field number bits_of bits
cut_short_lem = refl

pub left_over : reading_answer (0x00 ∷ 0x00 ∷ 0x04 ∷ 0x02 ∷ 0x00 ∷ 0x10 ∷ 0xC2 ∷ 0x00 ∷ []) ≡ refused 40 0
unfolding reading_answer wrong_timetable_length timetable_length steps_length step_length step_count field number bits_of bits
left_over = refl

-- 41, by a spare bit of the head and by a pad bit of a step of one move
pub spare_bit : reading_answer (0x00 ∷ 0x00 ∷ 0x05 ∷ 0x00 ∷ []) ≡ refused 41 0
unfolding reading_answer wrong_timetable_length timetable_padding_set timetable_length steps_length some step_pad_set
    pad parts_of step_parts
    step_length step_count field number bits_of bits
spare_bit = refl

pub pad-bit : reading_answer (0x00 ∷ 0x00 ∷ 0x04 ∷ 0x01 ∷ 0x00 ∷ 0x11 ∷ []) ≡ refused 41 0
unfolding reading_answer wrong_timetable_length timetable_padding_set timetable_length steps_length some step_pad_set
    pad parts_of step_parts
    step_length step_count field number bits_of bits
pad-bit = refl

-- the order of document 01, "Programs": on F, racks at 0 and 3 with goals 3 and 0
abbrev pub order₁ : List ℕ
order₁ = 0x08 ∷ 0x0A ∷ 0x08 ∷ 0x00 ∷ 0x10 ∷ 0x02 ∷ 0x04 ∷ 0x20 ∷ 0x43 ∷ 0x08 ∷ 0x30 ∷ 0x03 ∷ 0x0C ∷ 0x00 ∷ []

-- "On F, racks at 0, 1, 2: a first step 0>1, 1>2, 2>0", with the goals that it would reach
abbrev pub ring_order : List ℕ
ring_order = 0x08 ∷ 0x0A ∷ 0x0C ∷ 0x00 ∷ 0x10 ∷ 0x02 ∷ 0x04 ∷ 0x20 ∷ 0x43 ∷ 0x08 ∷ 0x30 ∷ 0x01 ∷ 0x08 ∷ 0x10 ∷ 0x80 ∷ []

abbrev pub ring_timetable : List ℕ
ring_timetable = 0x00 ∷ 0x00 ∷ 0x04 ∷ 0x03 ∷ 0x00 ∷ 0x10 ∷ 0x42 ∷ 0x08 ∷ 0x00 ∷ []

-- "A first step 0>1, 1>0", with the goals that it would reach
abbrev pub swap_order : List ℕ
swap_order = 0x08 ∷ 0x0A ∷ 0x0C ∷ 0x00 ∷ 0x10 ∷ 0x02 ∷ 0x04 ∷ 0x20 ∷ 0x43 ∷ 0x08 ∷ 0x30 ∷ 0x01 ∷ 0x08 ∷ 0x10 ∷ 0x02 ∷ []

abbrev pub swap_timetable : List ℕ
swap_timetable = 0x00 ∷ 0x00 ∷ 0x04 ∷ 0x02 ∷ 0x00 ∷ 0x10 ∷ 0x40 ∷ []

unfoldable pub timetable_open : List ℕ → List ℕ → Answer
unfolding timetable_answer judged misplaced replay_steps replay_from step_fault legal_step? by_test legal_step every ascends leaves enters
    entered_once led occupied vacant on_floor goes_to after joined some is_pair order_answer counts wrong_racks
    wrong_places repeats wrong_edges
    ascending precedes bad_edge padding_set wrong_positions wrong_length unit_count floor_of starts_of goals_of order_of
    position_count edge_count
    rack_count pad_set unclean misfits record_length positions move_total steps_of step_moves pairs
    wrong_timetable_length timetable_padding_set
    timetable_length steps_length step_pad_set pad parts_of step_parts step_length step_count field number bits_of bits
timetable_open o s = timetable_answer o s

pub answer₁ : timetable_answer order₁ timetable₁ ≡ accepted (2 ∷ 4 ∷ [])
unfolding timetable_open
answer₁ = refl

pub well_formed₁ : WellFormed order₁
unfolding timetable_open
well_formed₁ = refl

pub replayed₁ : ReplayedTimetable order₁ timetable₁ (2 ∷ 4 ∷ [])
replayed₁ = ((timetable_replayed order₁).0 timetable₁ (2 ∷ 4 ∷ [])).0 answer₁

-- the racks change sides in two steps, rack 1 over position 1 and rack 2 over position 2
pub solution₁ : SolutionOf order₁ 2 ((0 ∷ 3 ∷ []) ∷ (1 ∷ 2 ∷ []) ∷ (3 ∷ 0 ∷ []) ∷ [])
unfolding trace after goes_to starts_of edge_count rack_count positions steps_of step_moves pairs parts_of step_parts
    step_length step_count field
    number bits_of bits
solution₁ = replayed₁.solution

pub accepted₁ : AcceptedTimetable order₁ timetable₁ (2 ∷ 4 ∷ [])
unfolding steps_between step_of sort insert moved move_total timetable_record timetable_bits all_step_bits step_bits
    pair_bits padded pad to_bytes
    bytes number bits
accepted₁ =
    record {
      order_right = well_formed₁;
      steps = 2;
      few = lit< tt;
      arrangements = (0 ∷ 3 ∷ []) ∷ (1 ∷ 2 ∷ []) ∷ (3 ∷ 0 ∷ []) ∷ [];
      solution = solution₁;
      is = refl;
      counted = refl;
    }

pub only₁ : OnlyTimetable order₁ 2 ((0 ∷ 3 ∷ []) ∷ (1 ∷ 2 ∷ []) ∷ (3 ∷ 0 ∷ []) ∷ [])
only₁ = (timetable_replayed order₁).1 well_formed₁ 2 _ (lit< tt) solution₁

pub ring-turned : timetable_answer ring_order ring_timetable ≡ refused 42 1
unfolding timetable_open
ring-turned = refl

pub swapped : timetable_answer swap_order swap_timetable ≡ refused 42 1
unfolding timetable_open
swapped = refl

-- a train of nine, and the same racks in two steps; a step of nine moves in two trains

abbrev pub nine_order : List ℕ
nine_order =
    0x16 ∷ 0x14 ∷ 0x24 ∷ 0x00 ∷ 0x10 ∷ 0x42 ∷ 0x08 ∷ 0x30 ∷ 0xC4 ∷ 0x10 ∷ 0x51 ∷ 0x46 ∷ 0x18 ∷ 0x71 ∷ 0xC8 ∷ 0x20 ∷ 0x92 ∷ 0x4A ∷
    0x00 ∷ 0x10 ∷ 0x83 ∷ 0x10 ∷ 0x51 ∷ 0x87 ∷ 0x20 ∷ 0x10 ∷ 0x83 ∷ 0x10 ∷ 0x51 ∷ 0x87 ∷ 0x20 ∷ 0x90 ∷ []

abbrev pub nine_timetable : List ℕ
nine_timetable =
    0x00 ∷ 0x00 ∷ 0x08 ∷ 0x00 ∷ 0x09 ∷ 0x00 ∷ 0x10 ∷ 0x42 ∷ 0x08 ∷ 0x30 ∷ 0xC4 ∷ 0x10 ∷ 0x51 ∷ 0x46 ∷ 0x18 ∷ 0x71 ∷ 0xC8 ∷ 0x20 ∷
    0x90 ∷ []

abbrev pub split_timetable : List ℕ
split_timetable =
    0x00 ∷ 0x00 ∷ 0x08 ∷ 0x08 ∷ 0x04 ∷ 0x20 ∷ 0x83 ∷ 0x0C ∷ 0x41 ∷ 0x05 ∷ 0x14 ∷ 0x61 ∷ 0x87 ∷ 0x1C ∷ 0x82 ∷ 0x09 ∷ 0x01 ∷ 0x00 ∷
    0x10 ∷ []

pub nine_order_lem : order_record (record {
  floor = lane;
  starts = 0 ∷ 1 ∷ 2 ∷ 3 ∷ 4 ∷ 5 ∷ 6 ∷ 7 ∷ 8 ∷ [];
  goals = 1 ∷ 2 ∷ 3 ∷ 4 ∷ 5 ∷ 6 ∷ 7 ∷ 8 ∷ 9 ∷ [];
}) ≡ nine_order
unfolding order_record order_bits pair_bits position_bits padded pad to_bytes bytes number bits
nine_order_lem = refl

pub nine_steps : timetable_record ([] ∷ train 0 9 ∷ []) ≡ nine_timetable
unfolding train timetable_record timetable_bits all_step_bits step_bits pair_bits padded pad to_bytes bytes number bits
nine_steps = refl

pub split_steps : timetable_record (train 1 8 ∷ train 0 1 ∷ []) ≡ split_timetable
unfolding train timetable_record timetable_bits all_step_bits step_bits pair_bits padded pad to_bytes bytes number bits
split_steps = refl

pub nine_refused : timetable_answer nine_order nine_timetable ≡ refused 42 2
unfolding timetable_open
nine_refused = refl

pub nine-split : timetable_answer nine_order split_timetable ≡ accepted (2 ∷ 9 ∷ [])
unfolding timetable_open
nine-split = refl

abbrev pub side_order : List ℕ
side_order =
    0x16 ∷ 0x14 ∷ 0x24 ∷ 0x00 ∷ 0x10 ∷ 0x42 ∷ 0x08 ∷ 0x30 ∷ 0xC4 ∷ 0x10 ∷ 0x51 ∷ 0x46 ∷ 0x18 ∷ 0x71 ∷ 0xC8 ∷ 0x20 ∷ 0x92 ∷ 0x4A ∷
    0x00 ∷ 0x10 ∷ 0x83 ∷ 0x10 ∷ 0x51 ∷ 0x87 ∷ 0x24 ∷ 0x10 ∷ 0x83 ∷ 0x10 ∷ 0x51 ∷ 0x87 ∷ 0x20 ∷ 0xA0 ∷ []

abbrev pub side_timetable : List ℕ
side_timetable =
    0x00 ∷ 0x00 ∷ 0x04 ∷ 0x09 ∷ 0x00 ∷ 0x10 ∷ 0x42 ∷ 0x08 ∷ 0x30 ∷ 0xC4 ∷ 0x10 ∷ 0x51 ∷ 0x46 ∷ 0x18 ∷ 0x71 ∷ 0xC8 ∷ 0x24 ∷ 0xA0 ∷
    []

pub side_order_lem : order_record (record {
  floor = lane;
  starts = 0 ∷ 1 ∷ 2 ∷ 3 ∷ 4 ∷ 5 ∷ 6 ∷ 7 ∷ 9 ∷ [];
  goals = 1 ∷ 2 ∷ 3 ∷ 4 ∷ 5 ∷ 6 ∷ 7 ∷ 8 ∷ 10 ∷ [];
}) ≡ side_order
unfolding order_record order_bits pair_bits position_bits padded pad to_bytes bytes number bits
side_order_lem = refl

pub side_steps : timetable_record ((train 0 8 ++ (9, 10) ∷ []) ∷ []) ≡ side_timetable
unfolding train timetable_record timetable_bits all_step_bits step_bits pair_bits padded pad to_bytes bytes number bits
side_steps = refl

pub eight_accepted : timetable_answer side_order side_timetable ≡ accepted (1 ∷ 9 ∷ [])
unfolding timetable_open
eight_accepted = refl

-- two positions joined by an edge, a rack on each, and each start its goal
abbrev pub full_order : List ℕ
full_order = 0x04 ∷ 0x02 ∷ 0x08 ∷ 0x00 ∷ 0x10 ∷ 0x01 ∷ 0x00 ∷ 0x10 ∷ []

pub full_right : WellFormed full_order
unfolding order_answer counts wrong_racks wrong_places repeats wrong_edges ascending precedes bad_edge padding_set
    wrong_positions wrong_length
    unit_count floor_of starts_of goals_of order_of position_count edge_count rack_count pad_set unclean misfits
    record_length positions pairs some
    pad field number bits_of bits
full_right = refl

pub full_count : rack_count full_order ≡ (floor_of full_order).positions
unfolding floor_of position_count rack_count field number bits_of bits
full_count = refl

full_accepted : timetable_answer full_order (0x00 ∷ 0x00 ∷ 0x04 ∷ 0x00 ∷ []) ≡ accepted (1 ∷ 0 ∷ [])
unfolding timetable_open
full_accepted = refl

pub full_waits : StillTimetable full_order (0x00 ∷ 0x00 ∷ 0x04 ∷ 0x00 ∷ []) (1 ∷ 0 ∷ [])
full_waits = (full_floor_lem full_order (0x00 ∷ 0x00 ∷ 0x04 ∷ 0x00 ∷ []) (1 ∷ 0 ∷ []) full_right full_count).0 full_accepted

-- a pause between the steps of the first case
abbrev pub paused : List (List (ℕ × ℕ))
paused = ((0, 1) ∷ (3, 2) ∷ []) ∷ [] ∷ ((1, 3) ∷ (2, 0) ∷ []) ∷ []

pub paused_packable : Packable paused
paused_packable = record {
  few_steps = lit< tt;
  steps_fit =
      one_step (lit≤ tt) (more₂ (lit< tt) (lit< tt) (more₂ (lit< tt) (lit< tt) none₂))
      (one_step (lit≤ tt) none₂ (one_step (lit≤ tt) (more₂ (lit< tt) (lit< tt) (more₂ (lit< tt) (lit< tt) none₂)) no_steps));
}

pub paused_record : timetable_record paused ≡ 0x00 ∷ 0x00 ∷ 0x0C ∷ 0x02 ∷ 0x00 ∷ 0x10 ∷ 0xC2 ∷ 0x00 ∷ 0x02 ∷ 0x04 ∷ 0x30 ∷ 0x80 ∷ []
unfolding timetable_record timetable_bits all_step_bits step_bits pair_bits padded pad to_bytes bytes number bits
paused_record = refl

pub paused_accepted : timetable_answer order₁ (timetable_record paused) ≡ accepted (3 ∷ 4 ∷ [])
paused_accepted =
    let more : OneMore (timetable_record steps₁) (timetable_record paused) =
    one_more (((0, 1) ∷ (3, 2) ∷ []) ∷ []) (((1, 3) ∷ (2, 0) ∷ []) ∷ []) paused_packable in
    (waiting_step (timetable_record steps₁) (timetable_record paused) more order₁ 2 4).0 (ap (timetable_answer order₁) record₁ ∙ answer₁)
