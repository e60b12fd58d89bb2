-- The case book's plan converted, by computation on the definitions: there, back, and 38 one byte short. So the conditions are neither
-- empty nor everything.
--
--     named_case, unnamed_case    the plan with the racks named, and the other way round
--     fits, meets_38              12 bytes are enough for the one, and 11 are not
--     passes_33_up                a refusal of the plan checker comes before 38
--     buffer_12                   the buffer afterwards, with one byte behind the record
--     case_restored, named_restored    there and back, from each edition
-- Assumes nothing.
use Prim.Native.Nat.{ℕ}
use mathlib.Core.Path.{◌≡◌, refl, sym}
use mathlib.Core.List.{List, [], ◌∷◌}
use lib.Dec.{lit<}
use Rattle.answers.specs.Answer.{accepted, refused}
use Rattle.field.specs.Bits.{position_bits, padded, bytes, to_bytes}
use Rattle.field.specs.Bytes.{Bytes, none, more}
use Rattle.field.specs.Listed.{moves_of, units, all_units}
use Rattle.field.specs.Writing.{written}
use Rattle.motion.specs.Replay.{listed}
use Rattle.plan.specs.Plan.{spare_bits, plan_bits, plan_bytes, plan_record, plan_moves}
use Rattle.plan_check.proofs.Examples.{case_book, case_plan, case_named, plan_open, case_1, case_1_named}
use Rattle.converting.specs.Converter.{converted_of, converter_answer, buffer_after}
use Rattle.converting.specs.Theorems.{ThereAndBack}
use Rattle.converting.proofs.Theorems.{there_and_back}

unfoldable pub converter_open : List ℕ → List ℕ → List ℕ → List ℕ
unfolding plan_open plan_moves moves_of buffer_after converter_answer converted_of plan_record plan_bytes plan_bits
    spare_bits listed all_units units
    position_bits padded to_bytes bytes written
converter_open o p B = buffer_after o p B

pub named_case : converted_of case_book case_plan ≡ case_named
unfolding converter_open
named_case = refl

pub unnamed_case : converted_of case_book case_named ≡ case_plan
unfolding converter_open
unnamed_case = refl

pub fits : converter_answer case_book case_plan 12 ≡ accepted (4 ∷ [])
unfolding converter_open
fits = refl

pub meets_38 : converter_answer case_book case_plan 11 ≡ refused 38 0
unfolding converter_open
meets_38 = refl

pub passes_33_up : converter_answer case_book (0x00 ∷ 0x00 ∷ 0x00 ∷ []) 0 ≡ refused 33 1
unfolding converter_open
passes_33_up = refl

pub buffer_12 : buffer_after case_book case_plan (1 ∷ 2 ∷ 3 ∷ 4 ∷ 5 ∷ 6 ∷ 7 ∷ 8 ∷ 9 ∷ 10 ∷ 11 ∷ 12 ∷ 13 ∷ [])
    ≡ 0x00 ∷ 0x00 ∷ 0x11 ∷ 0x00 ∷ 0x10 ∷ 0x03 ∷ 0x08 ∷ 0x10 ∷ 0x80 ∷ 0x04 ∷ 0x10 ∷ 0xC0 ∷ 13 ∷ []
unfolding converter_open
buffer_12 = refl

case_bytes : Bytes case_plan
case_bytes =
    more (lit< tt)
    (more (lit< tt)
    (more (lit< tt)
    (more (lit< tt) (more (lit< tt) (more (lit< tt) (more (lit< tt) (more (lit< tt) (more (lit< tt) none))))))))

named-bytes : Bytes case_named
named-bytes =
    more (lit< tt)
    (more (lit< tt)
    (more (lit< tt)
    (more (lit< tt)
    (more (lit< tt)
    (more (lit< tt)
    (more (lit< tt) (more (lit< tt) (more (lit< tt) (more (lit< tt) (more (lit< tt) (more (lit< tt) none)))))))))))

pub case_restored : ThereAndBack case_book case_plan
case_restored = there_and_back case_book case_plan case_bytes 4 (sym case_1)

pub named_restored : ThereAndBack case_book case_named
named_restored = there_and_back case_book case_named named-bytes 4 (sym case_1_named)
