-- Encoding and decoding a timetable are inverse.
--
--     Steps l, Packable l       what the record's fields hold: counts below 256, positions below 64, fewer than 2²² steps
--     record_bytes              the record is a byte string
--     record_parts              the record is its head and the records of its steps
--     spare_record, count_record, parts_record    its spare bits are clear, and its count and its parts are those of its steps
--     steps_of_record            a record's steps are those that it was made of
--     moves-low                 the moves of a step have positions below 64
--     record_well_packed        neither 40 nor 41 applies to a record
--     record_steps_of            a byte string to which neither applies is the record of its steps
--     packable_steps_of          and its steps can be packed
--     record_only               so the record of a list of steps is the only one
--     one_record                the three in one: a byte string is the record of l just where neither applies to it and its steps are l
-- Assumes nothing.
use Prim.Native.Nat.{ℕ, zero, suc, ◌*◌, ◌^◌, ◌≤◌, ◌<◌}
use mathlib.Core.Path.{◌≡◌, refl, sym, ap, ap₂, ◌∙◌, subst}
use mathlib.Core.Bool.{false, not}
use mathlib.Core.List.{List, [], ◌∷◌, ◌++◌, map, append_assoc}
use mathlib.Core.Logic.{◌↔◌}
use native.Mathlib.Omega.{arith}
use borrow.Author.Tests.{eqb-true, not-false, le-ltb, ltb-false}
use lib.ListN.{length, get_or, take, drop, length-append, length-map, take-append-drop, get_or-append}
use lib.Seq.{take-add, take_at, drop_at, length-take-le, get_or-take}
use lib.Dec.{ltb, eqb, lit<}
use Rattle.field.specs.Bits.{bits, bits_of, field, bytes, to_bytes}
use Rattle.field.proofs.BitLaws.{Bits, below_append, below_take, below_drop, length-bits, length-bits_of, field_lt, bits-field, field_at}
use Rattle.field.specs.Bytes.{Bytes, none, BelowPairs}
use Rattle.recording.proofs.HeadLaws.{head_bits, head_bits_are, length-head_bits}
use Rattle.field.proofs.RecordLaws.{to_bytes_are, to_bytes-from, pairs_lt}
use Rattle.field.proofs.UnitLaws.{or_left, or_right}
use Rattle.field.proofs.WholeBytes.{bits_of_append, padded-whole, to_bytes-whole, length_whole, to_bytes_append}
use Rattle.order.specs.Floor.{some}
use Rattle.timetable.specs.Timetable.{all_step_bits, timetable_bits, timetable_record, step_length, step_count, step_parts}
use Rattle.timetable.specs.Timetable.{parts_of, step_pad_set, timetable_padding_set, step_moves, steps_of}
use Rattle.timetable.specs.Reading.{WellPacked, wrong_steps}
use Rattle.timetable.proofs.StepLaws.{step_length-some, wrong_length_lem, length-moves}
use Rattle.timetable.proofs.ReadingLaws.{count_steps}
use Rattle.timetable.proofs.StepRecord.{step_record, joined, Part, step_bits_are, length-step_bits, part_of_record, moves_of}
use Rattle.timetable.proofs.StepRecord.{record_of_part, count_below}

pub data Steps : List (List (ℕ × ℕ)) → Type 0 where
  no_steps : Steps []
  one_step : {ms : List (ℕ × ℕ)} {l : List (List (ℕ × ℕ))} → length ms ≤ 255 → BelowPairs 64 ms → Steps l → Steps (ms ∷ l)

pub record Packable (l : List (List (ℕ × ℕ))) : Type 0 where
  pub few_steps : length l < 2 ^ 22
  pub steps_fit : Steps l

-- every part of the list is a step
data Parts : List (List ℕ) → Type 0 where
  no_parts : Parts []
  one_part : {p : List ℕ} {l : List (List ℕ)} → Part p → Parts l → Parts (p ∷ l)

-- a part that is a step, and what follows it
module _ (k : ℕ) (p t : List ℕ) (part : Part p) where
  head_of : get_or (p ++ t) 0 0 ≡ get_or p 0 0
  head_of = get_or-append p t 0 0 (omega (arith, part.length_is, step_length-some (get_or p 0 0)))

  parts_cons : step_parts (suc k) (p ++ t) ≡ p ∷ step_parts k t
  unfolding step_parts
  parts_cons =
      rw (head_of, take_at p t (step_length (get_or p 0 0)) part.length_is, drop_at p t (step_length (get_or p 0 0)) part.length_is) refl

wrong_cons : (k : ℕ) (p t : List ℕ) → Part p → wrong_steps (suc k) (p ++ t) ≡ wrong_steps k t
unfolding wrong_steps
wrong_cons k [] t part = absurd (omega (arith, part.length_is, step_length-some 0))
wrong_cons k (c ∷ p) t part =
    rw (
      le-ltb (length (c ∷ p ++ t)) (step_length c) (omega (arith, part.length_is, length-append p t)),
      drop_at (c ∷ p) t (step_length c) part.length_is,
    ) refl

module _ where
  parts_of_lem : {l : List (List ℕ)} → Parts l → step_parts (length l) (joined l) ≡ l
  unfolding joined step_parts
  parts_of_lem no_parts = refl
  parts_of_lem (one_part {p = p} {l = l} part rest) =
      parts_cons (length l) p (joined l) part ∙ ap (λ (m : List (List ℕ)). p ∷ m) (parts_of_lem rest)

  right_of : {l : List (List ℕ)} → Parts l → wrong_steps (length l) (joined l) ≡ false
  unfolding joined wrong_steps
  right_of no_parts = refl
  right_of (one_part {p = p} {l = l} part rest) = wrong_cons (length l) p (joined l) part ∙ right_of rest

  clear_of : {l : List (List ℕ)} → Parts l → some step_pad_set l ≡ false
  unfolding some
  clear_of no_parts = refl
  clear_of (one_part part rest) = rw (part.pad_clear, clear_of rest) refl

-- the records of steps are parts, and their moves are the steps
records_are : {l : List (List (ℕ × ℕ))} → Steps l → Parts (map step_record l)
records_are no_steps = no_parts
records_are (one_step {ms = ms} few low rest) = one_part (part_of_record ms few) (records_are rest)

moves_back : {l : List (List (ℕ × ℕ))} → Steps l → map step_moves (map step_record l) ≡ l
moves_back no_steps = refl
moves_back (one_step {ms = ms} few low rest) =
    ap₂ (λ (m : List (ℕ × ℕ)) (r : List (List (ℕ × ℕ))). m ∷ r) (moves_of ms few low) (moves_back rest)

all_step_bits_are : (l : List (List (ℕ × ℕ))) → Bits (all_step_bits l)
unfolding all_step_bits
all_step_bits_are [] = none
all_step_bits_are (ms ∷ l) = below_append (step_bits_are ms) (all_step_bits_are l)

steps_joined : (l : List (List (ℕ × ℕ))) → to_bytes (all_step_bits l) ≡ joined (map step_record l)
unfolding all_step_bits joined to_bytes bytes step_record
steps_joined [] = refl
steps_joined (ms ∷ l) =
    to_bytes_append (step_length (length ms)) (step_bits_are ms) (length-step_bits ms) (all_step_bits_are l)
    ∙ ap (λ (t : List ℕ). step_record ms ++ t) (steps_joined l)

pub record_bytes : (l : List (List (ℕ × ℕ))) → Bytes (timetable_record l)
unfolding timetable_record timetable_bits head_bits
record_bytes l = to_bytes_are (below_append (head_bits_are (length l) 0) (all_step_bits_are l))

pub record_parts : (l : List (List (ℕ × ℕ))) → timetable_record l ≡ to_bytes (head_bits (length l) 0) ++ joined (map step_record l)
unfolding timetable_record timetable_bits head_bits
record_parts l =
    to_bytes_append 3 (head_bits_are (length l) 0) (length-head_bits (length l) 0) (all_step_bits_are l)
    ∙ ap (λ (t : List ℕ). to_bytes (head_bits (length l) 0) ++ t) (steps_joined l)

module _ (l : List (List (ℕ × ℕ))) where
  head_record : length (to_bytes (head_bits (length l) 0)) ≡ 3
  head_record = length_whole 3 (head_bits_are (length l) 0) (length-head_bits (length l) 0)

  -- the bits of the record: its head, and the rest
  record_bits : bits_of (timetable_record l) ≡ head_bits (length l) 0 ++ bits_of (joined (map step_record l))
  record_bits =
      ap bits_of (record_parts l) ∙ bits_of_append (to_bytes (head_bits (length l) 0)) (joined (map step_record l))
      ∙ ap (λ (h : List ℕ). h ++ bits_of (joined (map step_record l)))
      (to_bytes-whole 3 (head_bits_are (length l) 0) (length-head_bits (length l) 0))

  record_rest : drop 3 (timetable_record l) ≡ joined (map step_record l)
  record_rest = ap (drop 3) (record_parts l) ∙ drop_at (to_bytes (head_bits (length l) 0)) (joined (map step_record l)) 3 head_record

  record_long : 3 ≤ length (timetable_record l)
  record_long = omega (
    arith,
    ap length (record_parts l),
    length-append (to_bytes (head_bits (length l) 0)) (joined (map step_record l)),
    head_record,
  )

  pub spare_record : field (timetable_record l) 22 2 ≡ 0
  unfolding head_bits
  spare_record =
      field_at (timetable_record l) (bits 22 (length l)) (bits_of (joined (map step_record l))) 22 2 0
      (record_bits ∙ append_assoc (bits 22 (length l)) (bits 2 0) _) (length-bits 22 (length l)) (lit< tt)

  module _ (packable : Packable l) where
    pub count_record : step_count (timetable_record l) ≡ length l
    unfolding step_count head_bits
    count_record =
        field_at (timetable_record l) [] (bits 2 0 ++ bits_of (joined (map step_record l))) 0 22 (length l)
        (record_bits ∙ append_assoc (bits 22 (length l)) (bits 2 0) _) refl packable.few_steps

    are : Parts (map step_record l)
    are = records_are packable.steps_fit

    same_count : step_count (timetable_record l) ≡ length (map step_record l)
    same_count = count_record ∙ sym (length-map l step_record)

    pub parts_record : parts_of (timetable_record l) ≡ map step_record l
    unfolding parts_of
    parts_record = rw (same_count, record_rest) (parts_of_lem are)

    pub steps_of_record : steps_of (timetable_record l) ≡ l
    unfolding steps_of
    steps_of_record = ap (map step_moves) parts_record ∙ moves_back packable.steps_fit

    pub record_well_packed : WellPacked (timetable_record l)
    unfolding timetable_padding_set
    record_well_packed = record {
      length_right =
          wrong_length_lem (timetable_record l)
          ∙ rw (le-ltb (length (timetable_record l)) 3 record_long, same_count, record_rest) (right_of are);
      padding_clear = rw (spare_record, parts_record) (clear_of are);
    }

-- a byte string to which neither 40 nor 41 applies is cut into steps, and they are all of it
parts_right : (k : ℕ) (t : List ℕ) → Bytes t → wrong_steps k t ≡ false → some step_pad_set (step_parts k t) ≡ false
    → Parts (step_parts k t) × (joined (step_parts k t) ≡ t)
unfolding wrong_steps step_parts joined some
parts_right zero [] b w c = (no_parts, refl)
parts_right zero (x ∷ t) b w c = absurd (omega (arith, eqb-true (length (x ∷ t)) 0 (not-false _ w)))
parts_right (suc k) [] b w c = absurd (let z : ◌≡◌ {A = ℕ} 0 1 = cc in omega arith)
parts_right (suc k) (x ∷ t) b w c =
    let n = step_length x in
    let fits : n ≤ length (x ∷ t) = ltb-false (length (x ∷ t)) n (or_left _ _ w) in
    let rest =
    parts_right k (drop n (x ∷ t)) (below_drop n b) (or_right (ltb (length (x ∷ t)) n) _ w)
    (or_right (step_pad_set (take n (x ∷ t))) _ c) in
    let first : Part (take n (x ∷ t)) =
    record {
      bytes_are = below_take n b;
      length_is = length-take-le n (x ∷ t) fits ∙ ap step_length (sym (get_or-take n (x ∷ t) 0 0 (step_length-some x)));
      pad_clear = or_left _ _ c;
    } in
    (one_part first rest.0, ap (λ (r : List ℕ). take n (x ∷ t) ++ r) rest.1 ∙ take-append-drop n (x ∷ t))

records_back : {l : List (List ℕ)} → Parts l → map step_record (map step_moves l) ≡ l
records_back no_parts = refl
records_back (one_part {p = p} part rest) = ap₂ (λ (q : List ℕ) (r : List (List ℕ)). q ∷ r) (record_of_part p part) (records_back rest)

pub moves-low : (p : List ℕ) → BelowPairs 64 (step_moves p)
unfolding step_moves
moves-low p = pairs_lt p 8 (get_or p 0 0)

moves_fit : {l : List (List ℕ)} → Parts l → Steps (map step_moves l)
moves_fit no_parts = no_steps
moves_fit (one_part {p = p} part rest) =
    one_step {ms = step_moves p} (omega (arith, length-moves p, count_below p part)) (moves-low p) (moves_fit rest)

module _ {s : List ℕ} (b : Bytes s) (w : WellPacked s) where
  long : 3 ≤ length s
  long = ltb-false (length s) 3 (or_left _ _ (sym (wrong_length_lem s) ∙ w.length_right))

  rest-right : Parts (parts_of s) × (joined (parts_of s) ≡ drop 3 s)
  unfolding parts_of timetable_padding_set
  rest-right =
      parts_right (step_count s) (drop 3 s) (below_drop 3 b) (or_right (ltb (length s) 3) _ (sym (wrong_length_lem s) ∙ w.length_right))
      (or_right (not (eqb (field s 22 2) 0)) _ w.padding_clear)

  spare_zero : field s 22 2 ≡ 0
  unfolding timetable_padding_set
  spare_zero = eqb-true (field s 22 2) 0 (not-false _ (or_left _ _ w.padding_clear))

  -- the first three bytes are the head
  head_bits_lem : bits_of (take 3 s) ≡ head_bits (step_count s) 0
  unfolding head_bits step_count
  head_bits_lem =
      sym (take_at (bits_of (take 3 s)) (bits_of (drop 3 s)) 24 (length-bits_of (take 3 s) ∙ ap (λ (n : ℕ). 8 * n)
      (length-take-le 3 s long)))
      ∙ ap (take 24) (sym (bits_of_append (take 3 s) (drop 3 s)) ∙ ap bits_of (take-append-drop 3 s))
      ∙ take-add 22 2 (bits_of s)
      ∙ ap₂ ◌++◌ (sym (bits-field s 0 22 (omega (arith, long)))) (sym (bits-field s 22 2 (omega (arith, long))) ∙ ap (bits 2) spare_zero)

  head_right : to_bytes (head_bits (step_count s) 0) ≡ take 3 s
  head_right =
      sym
      (to_bytes-from (below_take 3 b) (head_bits_are (step_count s) 0)
      (head_bits_lem ∙ sym (padded-whole (head_bits (step_count s) 0) 3 (length-head_bits (step_count s) 0))))

  pub record_steps_of : timetable_record (steps_of s) ≡ s
  unfolding steps_of
  record_steps_of =
      record_parts (steps_of s)
      ∙ ap₂ ◌++◌ (ap (λ (k : ℕ). to_bytes (head_bits k 0)) (count_steps s) ∙ head_right)
      (ap joined (records_back rest-right.0) ∙ rest-right.1)
      ∙ take-append-drop 3 s

  pub packable_steps_of : Packable (steps_of s)
  unfolding steps_of step_count
  packable_steps_of = record {
    few_steps = subst (λ (k : ℕ). k < 2 ^ 22) (sym (count_steps s)) (field_lt s 0 22);
    steps_fit = moves_fit rest-right.0;
  }

  pub record_only : (l : List (List (ℕ × ℕ))) → steps_of s ≡ l → s ≡ timetable_record l
  record_only l e = sym record_steps_of ∙ ap timetable_record e

pub one_record : {l : List (List (ℕ × ℕ))} {s : List ℕ} → Packable l → Bytes s → (WellPacked s × (steps_of s ≡ l)) ↔
    (s ≡ timetable_record l)
one_record {l} {s} p b = (
  λ h. record_only b h.0 l h.1,
  λ e. (subst WellPacked (sym e) (record_well_packed l p), ap steps_of e ∙ steps_of_record l p),
)
