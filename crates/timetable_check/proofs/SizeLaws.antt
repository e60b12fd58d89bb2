-- How large a timetable's numbers are, of which a byte string keeps each below 256: they fit the fields of the C interface.
--
--     count_small       s is below 2²²
--     timetable-moves_small    the moves are below 2³⁰
--     offset_small      a step of s begins below byte 2³¹
--     length_small      and is at most 384 bytes long
--     found_small       so are the values of the step reader's answer
--     checked_small     and the counts of the timetable checker's
-- Assumes nothing.
use Prim.Native.Nat.{ℕ, zero, suc, ◌+◌, ◌-◌, ◌*◌, ◌^◌, ◌≤◌, ◌<◌}
use mathlib.Core.Path.{◌≡◌, sym, subst}
use mathlib.Core.Bool.{◌||◌}
use mathlib.Core.List.{List, [], ◌∷◌, head-eq_of_cons-eq, tail-eq_of_cons-eq}
use native.Mathlib.Omega.{arith}
use native.Mathlib.Nat.{min-le_left, le_trans}
use borrow.Author.Tests.{ltb-false}
use lib.ListN.{length, get_or, take, drop, length-take}
use lib.Seq.{get_or-drop, get_or-take}
use lib.Dec.{ltb, eqb}
use Rattle.answers.specs.Answer.{accepted, refuse}
use Rattle.answers.proofs.AnswerLaws.{refuse_not, refuse_else}
use Rattle.field.proofs.BitLaws.{field_lt}
use Rattle.field.proofs.UnitLaws.{or_right}
use Rattle.timetable.specs.Reading.{total}
use Rattle.timetable.specs.Timetable.{step_length, step_parts, parts_of, steps_of, step_count, steps_length, move_total, offset}
use Rattle.timetable.specs.Timetable.{step_part, step_answer, wrong_timetable_length, timetable_padding_set, timetable_answer}
use Rattle.timetable.proofs.ReadingLaws.{total-moves}
use Rattle.timetable.proofs.StepLaws.{step_length_few, step_length-some}
use Rattle.timetable_check.proofs.Replayed.{ReplayedTimetable, timetable_replayed}
use Rattle.timetable_check.specs.ByteString.{ByteString}

dropped : (n : ℕ) (s : List ℕ) → ByteString s → ByteString (drop n s)
dropped n s b i = subst (λ (x : ℕ). x < 256) (sym (get_or-drop n s i 0)) (b (n + i))

pub count_small : (s : List ℕ) → step_count s < 2 ^ 22
unfolding step_count
count_small s = field_lt s 0 22

-- the count byte of the first part, and that part's length
first_count : (t : List ℕ) → ByteString t → get_or (take (step_length (get_or t 0 0)) t) 0 0 ≤ 255
first_count t b = rw (get_or-take (step_length (get_or t 0 0)) t 0 0 (step_length-some (get_or t 0 0))) (omega (arith, b 0))

first-length : (t : List ℕ) → ByteString t → length (take (step_length (get_or t 0 0)) t) ≤ 384
first-length t b =
    rw (length-take (step_length (get_or t 0 0)) t)
    (le_trans (min-le_left (step_length (get_or t 0 0)) (length t)) (step_length_few (get_or t 0 0) (b 0)))

total_parts : (k : ℕ) (t : List ℕ) → ByteString t → total (step_parts k t) ≤ 255 * k
unfolding total step_parts
total_parts zero t b = omega arith
total_parts (suc k) t b = omega (
  arith,
  first_count t b,
  total_parts k (drop (step_length (get_or t 0 0)) t) (dropped (step_length (get_or t 0 0)) t b),
)

lengths_small : (i : ℕ) (t : List ℕ) → ByteString t → steps_length i t ≤ 384 * i
unfolding steps_length
lengths_small zero t b = omega arith
lengths_small (suc i) t b = omega (
  arith,
  step_length_few (get_or t 0 0) (b 0),
  lengths_small i (drop (step_length (get_or t 0 0)) t) (dropped (step_length (get_or t 0 0)) t b),
)

length_part : (j k : ℕ) (t : List ℕ) → ByteString t → length (get_or (step_parts k t) j []) ≤ 384
unfolding step_parts
length_part j zero t b = omega arith
length_part zero (suc k) t b = first-length t b
length_part (suc j) (suc k) t b = length_part j k (drop (step_length (get_or t 0 0)) t) (dropped (step_length (get_or t 0 0)) t b)

module _ (s : List ℕ) (b : ByteString s) where
  total_small : total (parts_of s) < 2 ^ 30
  unfolding parts_of
  total_small = omega (arith, count_small s, total_parts (step_count s) (drop 3 s) (dropped 3 s b))

  pub timetable-moves_small : move_total (steps_of s) < 2 ^ 30
  timetable-moves_small = subst (λ (n : ℕ). n < 2 ^ 30) (sym (total-moves s)) total_small

  pub checked_small : (o : List ℕ) (steps moves : ℕ) → accepted (steps ∷ moves ∷ []) ≡ timetable_answer o s
      → (steps < 2 ^ 22) × (moves < 2 ^ 30)
  checked_small o steps moves e =
      let gave : ReplayedTimetable o s (steps ∷ moves ∷ []) = ((timetable_replayed o).0 s (steps ∷ moves ∷ [])).0 (sym e) in (
        subst (λ (n : ℕ). n < 2 ^ 22) (head-eq_of_cons-eq gave.counted) (count_small s),
        subst (λ (n : ℕ). n < 2 ^ 30) (head-eq_of_cons-eq (tail-eq_of_cons-eq gave.counted)) total_small,
      )

  module _ (i : ℕ) where
    pub offset_small : i ≤ step_count s → offset s i < 2 ^ 31
    unfolding offset parts_of
    offset_small h = omega (arith, count_small s, lengths_small (i - 1) (drop 3 s) (dropped 3 s b))

    pub length_small : length (step_part s i) ≤ 384
    unfolding step_part parts_of
    length_small = length_part (i - 1) (step_count s) (drop 3 s) (dropped 3 s b)

    pub found_small : (at n : ℕ) → accepted (at ∷ n ∷ []) ≡ step_answer s i → (at < 2 ^ 31) × (n ≤ 384)
    unfolding step_answer
    found_small at n e =
        let last = accepted (offset s i ∷ length (step_part s i) ∷ []) in
        let third = refuse (eqb i 0 || ltb (step_count s) i) 45 0 last in
        let second = refuse (timetable_padding_set s) 41 0 third in
        let e₂ : second ≡ accepted (at ∷ n ∷ []) = refuse_else (wrong_timetable_length s) 40 0 second (at ∷ n ∷ []) (sym e) in
        let e₃ : third ≡ accepted (at ∷ n ∷ []) = refuse_else (timetable_padding_set s) 41 0 third (at ∷ n ∷ []) e₂ in
        let e₄ : last ≡ accepted (at ∷ n ∷ []) = refuse_else (eqb i 0 || ltb (step_count s) i) 45 0 last (at ∷ n ∷ []) e₃ in
        let at_is : offset s i ≡ at = cc e₄ in
        let n_is : length (step_part s i) ≡ n = cc e₄ in
        let few =
        ltb-false (step_count s) i
        (or_right (eqb i 0) (ltb (step_count s) i) (refuse_not (eqb i 0 || ltb (step_count s) i) 45 0 last (at ∷ n ∷ []) e₃)) in
        (subst (λ (x : ℕ). x < 2 ^ 31) at_is (offset_small few), subst (λ (x : ℕ). x ≤ 384) n_is length_small)
