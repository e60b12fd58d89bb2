-- Writing and reading a plan record are inverse in each edition (document 01, "Records"; request (h)).
--
--     moves-counted         a byte string lists as many moves as its count says
--     length-plan_bits       how many bits the moves take
--     length-bytes, length_record    how many bytes the record takes
--     Written named l, written   of fewer than 2^22 listed moves that fit an edition's fields: the record is bytes, is of this edition, 30
--                           and 31 pass it, its count is how many moves there are, and reading it gives them back
--     record_parts          the record is its head, and behind it the moves, packed
--     record_read           a byte string that 30 and 31 pass is the record of the moves as it lists them
-- Assumes nothing.
use Prim.Native.Nat.{ℕ, zero, suc, ◌+◌, ◌*◌, ◌^◌, ◌≤◌, ◌<◌}
use mathlib.Core.Path.{◌≡◌, refl, sym, ap, ap₂, ◌∙◌}
use mathlib.Core.Bool.{Bool, true, false}
use mathlib.Core.List.{List, [], ◌++◌, append_assoc, append-nil}
use native.Mathlib.Omega.{arith}
use borrow.Author.Tests.{le-ltb, ltb-false}
use lib.Dec.{ltb, eqb}
use lib.ListN.{length, replicate, length-append}
use lib.Seq.{take_all}
use lib.Pow.{pow_pos}
use Rattle.field.specs.Bits.{bits, bits_of, field, positions, position_bits, pad, padded}
use Rattle.field.proofs.BitLaws.{Bits, below_append, bits_are, bits-field, length-bits, length-bits_of, field_at}
use Rattle.field.specs.Bytes.{Bytes}
use Rattle.field.specs.Listed.{move_size, moves_of, all_units, ListedFit}
use Rattle.field.proofs.ListedLaws.{length-listed, length-moves_of, length-units, units_below, units-listed, listed-from}
use Rattle.field.proofs.RecordLaws.{length-position_bits, position_bits_are, bits-positions, positions-at, bits-zero, zeros_at, join}
use Rattle.field.proofs.RecordLaws.{padded-by, up_to_byte, length-to_bytes, to_bytes_are, bits_of-to_bytes, to_bytes-from}
use Rattle.recording.proofs.HeadLaws.{head_bits, head_bits_are, length-head_bits, head_bytes_lem}
use Rattle.recording.specs.Head.{head_bytes}
use Rattle.field.proofs.WholeBytes.{to_bytes_append}
use Rattle.field.specs.Packing.{pack_positions}
use Rattle.field.proofs.PackingLaws.{packed_is}
use Rattle.field.specs.Units.{record_length, pad_set}
use Rattle.field.proofs.UnitLaws.{Fitting, fitting, fits, or_left, or_right, pad_is_clear, pad_read, pad-after_head}
use Rattle.motion.specs.Arrangement.{Arrangement}
use Rattle.motion.specs.Replay.{listed}
use Rattle.plan.specs.Plan.{spare_bits, plan_bits, plan_bytes, plan_record}
use Rattle.plan.specs.Plan.{named, move_count, plan_listed, plan_moves, plan_units, wrong_plan_length, plan_padding_set}
use Rattle.plan.proofs.Listing.{length_listing}

pub listed-counted : (p : List ℕ) → length (plan_listed p) ≡ move_count p
unfolding plan_listed
listed-counted p = length-listed (named p) p 24 (move_count p)

pub moves-counted : (p : List ℕ) → length (plan_moves p) ≡ move_count p
unfolding plan_moves
moves-counted p = length-moves_of (plan_listed p) ∙ listed-counted p

spare_below : (e : Bool) → spare_bits e ≤ 1
unfolding spare_bits
spare_below false = omega arith
spare_below true = omega arith

spare_told : (e : Bool) → eqb (spare_bits e) 1 ≡ e
unfolding spare_bits
spare_told false = refl
spare_told true = refl

-- the spare bits x that 31 passes are those of the edition that they tell
spare_of : (x : ℕ) → x ≤ 1 → spare_bits (eqb x 1) ≡ x
unfolding spare_bits
spare_of zero h = refl
spare_of (suc zero) h = refl
spare_of (suc (suc x)) h = absurd (omega arith)

module _ (e : Bool) (l : List (ℕ × ℕ × ℕ)) where
  pub length-plan_bits : length (plan_bits e l) ≡ 24 + 6 * (move_size e * length l)
  unfolding plan_bits
  length-plan_bits = simp (length-append, length-bits, length-position_bits, length-units)

  pub length-bytes : length (plan_bytes e l) ≡ record_length (move_size e * length l)
  unfolding plan_bytes record_length
  length-bytes = length-to_bytes (plan_bits e l) ∙ rw length-plan_bits (omega arith)

  plan_bits_are : Bits (plan_bits e l)
  unfolding plan_bits
  plan_bits_are = below_append (below_append (bits_are 22 (length l)) (bits_are 2 (spare_bits e))) (position_bits_are (all_units e l))

  plan_bits-padded : padded (plan_bits e l) ≡ plan_bits e l ++ replicate (pad (6 * (move_size e * length l))) 0
  unfolding padded
  plan_bits-padded =
      padded-by (plan_bits e l) (pad (6 * (move_size e * length l)))
      (ap pad length-plan_bits ∙ pad-after_head (6 * (move_size e * length l)))

  pub record Written : Type 0 where
    pub are_bytes : Bytes (plan_bytes e l)
    pub edition_is : named (plan_bytes e l) ≡ e
    pub length_right : wrong_plan_length (plan_bytes e l) ≡ false
    pub padding_clear : plan_padding_set (plan_bytes e l) ≡ false
    pub count_is : move_count (plan_bytes e l) ≡ length l
    pub listed_are : plan_listed (plan_bytes e l) ≡ l

  module _ (few : length l < 2 ^ 22) (small : ListedFit e l) where
    zeros : List ℕ
    zeros = replicate (pad (6 * (move_size e * length l))) 0

    -- the record's bits, parted before the count, the spare bits, the moves and the pad
    at_count : bits_of (plan_bytes e l) ≡ bits 22 (length l) ++ (bits 2 (spare_bits e) ++ (position_bits (all_units e l) ++ zeros))
    unfolding plan_bytes plan_bits zeros
    at_count = bits_of-to_bytes plan_bits_are ∙ plan_bits-padded ∙ simp append_assoc

    at-moves : bits_of (plan_bytes e l) ≡ (bits 22 (length l) ++ bits 2 (spare_bits e)) ++ (position_bits (all_units e l) ++ zeros)
    at-moves = at_count ∙ sym (append_assoc (bits 22 (length l)) (bits 2 (spare_bits e)) (position_bits (all_units e l) ++ zeros))

    at-pad : bits_of (plan_bytes e l) ≡ plan_bits e l ++ (bits (pad (6 * (move_size e * length l))) 0 ++ [])
    unfolding plan_bits zeros
    at-pad =
        let width = pad (6 * (move_size e * length l)) in
        at-moves
        ∙ sym (append_assoc (bits 22 (length l) ++ bits 2 (spare_bits e)) (position_bits (all_units e l)) (replicate width 0))
        ∙ rw (append-nil (bits width 0), bits-zero width) refl

    count : field (plan_bytes e l) 0 22 ≡ length l
    count =
        field_at (plan_bytes e l) [] (bits 2 (spare_bits e) ++ (position_bits (all_units e l) ++ zeros)) 0 22 (length l) at_count refl few

    spare : field (plan_bytes e l) 22 2 ≡ spare_bits e
    spare =
        field_at (plan_bytes e l) (bits 22 (length l)) (position_bits (all_units e l) ++ zeros) 22 2 (spare_bits e) at_count
        (length-bits 22 (length l)) (omega (arith, spare_below e))

    padding : field (plan_bytes e l) (24 + 6 * (move_size e * length l)) (pad (6 * (move_size e * length l))) ≡ 0
    padding =
        let q = 6 * (move_size e * length l) in
        field_at (plan_bytes e l) (plan_bits e l) [] (24 + q) (pad q) 0 at-pad length-plan_bits (pow_pos (pad q))

    head_length : length (bits 22 (length l) ++ bits 2 (spare_bits e)) ≡ 24
    head_length =
        length-append (bits 22 (length l)) (bits 2 (spare_bits e))
        ∙ ap₂ ◌+◌ (length-bits 22 (length l)) (length-bits 2 (spare_bits e))

    pub record_parts : plan_bytes e l ≡ head_bytes (length l) (spare_bits e) ++ pack_positions (all_units e l)
    unfolding plan_bytes plan_bits head_bits
    record_parts =
        to_bytes_append 3 (head_bits_are (length l) (spare_bits e)) (length-head_bits (length l) (spare_bits e))
        (position_bits_are (all_units e l))
        ∙ ap₂ ◌++◌ (head_bytes_lem (length l) (spare_bits e) few (omega (arith, spare_below e))) (sym (packed_is (units_below e small)))

    edition : named (plan_bytes e l) ≡ e
    unfolding named
    edition = rw spare (spare_told e)

    units_are : plan_units (plan_bytes e l) ≡ move_size e * length l
    unfolding plan_units move_count
    units_are = rw (edition, count) refl

    pub written : Written
    unfolding move_count wrong_plan_length plan_padding_set
    written = record {
      are_bytes = unfold plan_bytes in to_bytes_are plan_bits_are;
      edition_is = edition;
      length_right = rw units_are
          (fits (plan_bytes e l) (move_size e * length l) (rw length-bytes (unfold record_length in omega arith))
          (length-bytes ∙ (unfold record_length in refl)));
      padding_clear = rw (units_are, spare, le-ltb 1 (spare_bits e) (spare_below e))
          (pad_is_clear (plan_bytes e l) (move_size e * length l) padding);
      count_is = count;
      listed_are = unfold plan_listed move_count in rw (edition, count)
          (listed-from e (plan_bytes e l) 24 small
          (rw (← length-units e l)
          (positions-at (plan_bytes e l) (bits 22 (length l) ++ bits 2 (spare_bits e)) (all_units e l) zeros 24 at-moves head_length
          (units_below e small))));
    }

pub length_record : (e : Bool) (A : Arrangement) (ms : List (ℕ × ℕ)) → length (plan_record e A ms) ≡ record_length (move_size e * length ms)
unfolding plan_record
length_record e A ms = length-bytes e (listed e A ms) ∙ ap (λ (k : ℕ). record_length (move_size e * k)) (length_listing e A ms)

module _ (p : List ℕ) (b : Bytes p) (l : wrong_plan_length p ≡ false) (c : plan_padding_set p ≡ false) where
  room : 24 + 6 * plan_units p + pad (6 * plan_units p) ≡ 8 * length p
  unfolding wrong_plan_length
  room = let f : Fitting p (plan_units p) = fitting p (plan_units p) l in omega (arith, up_to_byte (6 * plan_units p))

  spare_low : field p 22 2 ≤ 1
  unfolding plan_padding_set
  spare_low = ltb-false 1 (field p 22 2) (or_left (ltb 1 (field p 22 2)) (pad_set p (plan_units p)) c)

  pub spare_is : spare_bits (named p) ≡ field p 22 2
  unfolding named
  spare_is = spare_of (field p 22 2) spare_low

  pad_clear : field p (24 + 6 * plan_units p) (pad (6 * plan_units p)) ≡ 0
  unfolding plan_padding_set
  pad_clear = pad_read p (plan_units p) (or_right (ltb 1 (field p 22 2)) (pad_set p (plan_units p)) c)

  units_are_read : all_units (named p) (plan_listed p) ≡ positions p 24 (plan_units p)
  unfolding plan_listed plan_units
  units_are_read = units-listed (named p) p 24 (move_count p)

  read_bits : bits 22 (move_count p) ++ bits 2 (spare_bits (named p)) ++ position_bits (all_units (named p) (plan_listed p))
      ++ replicate (pad (6 * plan_units p)) 0
      ≡ bits_of p
  unfolding move_count
  read_bits =
      let q = 6 * plan_units p in
      let all : 24 + q + pad q ≡ 8 * length p = room in
      join p (24 + q) (pad q)
      (join p 24 q
      (join p 22 2 (bits-field p 0 22 (omega arith)) (ap (bits 2) spare_is ∙ bits-field p 22 2 (omega arith)))
      (ap position_bits units_are_read ∙ bits-positions p 24 (plan_units p) (omega arith)))
      (zeros_at p (24 + q) (pad q) (omega arith) pad_clear)
      ∙ take_all (24 + q + pad q) (bits_of p) (rw length-bits_of (omega arith))

  pub record_read : plan_bytes (named p) (plan_listed p) ≡ p
  unfolding plan_bytes
  record_read = sym (to_bytes-from b (plan_bits_are (named p) (plan_listed p)) (sym all))
    where
      all : padded (plan_bits (named p) (plan_listed p)) ≡ bits_of p
      all =
          plan_bits-padded (named p) (plan_listed p)
          ∙ (unfold plan_bits in rw (listed-counted p) (unfold plan_units in read_bits))
