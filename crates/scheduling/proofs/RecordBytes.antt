-- The timetable record as the bytes that the maker writes.
--
--     step_bytes_lem, steps_bytes_lem    the record of a step is its count and its packed moves; and those of steps, one after another
--     record_bytes       the record is its head and the bytes of its steps
-- Assumes nothing.
use Prim.Native.Nat.{ℕ, ◌*◌, ◌≤◌}
use mathlib.Core.Path.{◌≡◌, refl, sym, ap, ap₂, ◌∙◌}
use mathlib.Core.List.{List, ◌++◌, map}
use native.Mathlib.Omega.{arith}
use lib.Dec.{lit<}
use lib.ListN.{length}
use Rattle.field.specs.Bits.{bits, bits_of, pair_bits, padded}
use Rattle.field.specs.Bytes.{more, Bytes, BelowPairs}
use Rattle.field.proofs.BitLaws.{length-bits}
use Rattle.recording.specs.Head.{head_bytes}
use Rattle.recording.proofs.HeadLaws.{head_bytes_lem}
use Rattle.field.proofs.RecordLaws.{bits_of-to_bytes, to_bytes_are, to_bytes-from, pair_bits_are}
use Rattle.field.proofs.WholeBytes.{padded_append, padded-whole}
use Rattle.field.specs.Packing.{pack}
use Rattle.field.proofs.PackingLaws.{pack_is}
use Rattle.timetable.specs.Timetable.{step_bits, step_length, timetable_record}
use Rattle.timetable.proofs.StepRecord.{step_record, joined, step_bits_are, length-step_bits}
use Rattle.timetable.proofs.TimetableRecord.{Steps, no_steps, one_step, Packable, record_parts}
use Rattle.window.specs.Rows.{step_bytes, steps_bytes}

module _ (ms : List (ℕ × ℕ)) (few : length ms ≤ 255) (below : BelowPairs 64 ms) where
  pack-bytes : Bytes (pack ms)
  pack-bytes = rw (pack_is below) (to_bytes_are (pair_bits_are ms))

  pack-bits : bits_of (pack ms) ≡ padded (pair_bits ms)
  pack-bits = ap bits_of (pack_is below) ∙ bits_of-to_bytes (pair_bits_are ms)

  eight : length (bits 8 (length ms)) ≡ 8 * 1
  eight = length-bits 8 (length ms)

  step_bits-whole : step_bits ms ≡ bits 8 (length ms) ++ padded (pair_bits ms)
  unfolding step_bits
  step_bits-whole = padded_append (bits 8 (length ms)) (pair_bits ms) 1 eight

  pub step_bytes_lem : step_record ms ≡ step_bytes ms
  unfolding step_record step_bytes bits_of
  step_bytes_lem =
      sym
      (to_bytes-from (more {x = length ms} (omega arith) pack-bytes) (step_bits_are ms)
      (ap (λ (l : List ℕ). bits 8 (length ms) ++ l) pack-bits ∙ sym step_bits-whole
      ∙ sym (padded-whole (step_bits ms) (step_length (length ms)) (length-step_bits ms))))

pub steps_bytes_lem : {l : List (List (ℕ × ℕ))} → Steps l → joined (map step_record l) ≡ steps_bytes l
unfolding joined steps_bytes
steps_bytes_lem no_steps = refl
steps_bytes_lem (one_step {ms = ms} few below rest) = ap₂ ◌++◌ (step_bytes_lem ms few below) (steps_bytes_lem rest)

pub record_bytes : (l : List (List (ℕ × ℕ))) → Packable l → timetable_record l ≡ head_bytes (length l) 0 ++ steps_bytes l
record_bytes l p = record_parts l ∙ ap₂ ◌++◌ (head_bytes_lem (length l) 0 p.few_steps (lit< tt)) (steps_bytes_lem p.steps_fit)
