-- How long the text is, so that a caller can lend enough room for it.
--
--     moves_text_short     a move takes at most 6 bytes
--     step_line_short      the line of a step of c moves takes at most 6 bytes, and 6 for each move
--     timetable_text_short a timetable of fewer than 100,000 bytes takes at most 8 bytes of text for each of its bytes
-- Assumes nothing.
use Prim.Native.Nat.{ℕ, zero, suc, ◌+◌, ◌*◌, ◌≤◌, ◌<◌}
use mathlib.Core.Path.{◌≡◌, sym, ◌∙◌}
use mathlib.Core.Bool.{true, false}
use mathlib.Core.List.{List, [], ◌∷◌, map}
use native.Mathlib.Omega.{arith}
use borrow.Author.Tests.{ltb-false}
use lib.ListN.{length, get_or, take, drop, length-append, length-drop}
use lib.Seq.{get_or-take}
use lib.Dec.{ltb}
use Rattle.answers.specs.Ascii.{ascii}
use Rattle.field.specs.Bytes.{BelowPairs, none₂, more₂}
use Rattle.field.proofs.RecordLaws.{pairs_lt}
use Rattle.field.proofs.UnitLaws.{or_left, or_right}
use Rattle.timetable.specs.Timetable.{step_length, step_count, step_parts, parts_of, step_moves, steps_of, move_total}
use Rattle.timetable.specs.Timetable.{wrong_timetable_length}
use Rattle.timetable.specs.Reading.{wrong_steps, total}
use Rattle.timetable.proofs.StepLaws.{step_length-some, step_length-moves, wrong_length_lem, length-moves}
use Rattle.timetable.proofs.ReadingLaws.{count_steps, total-moves}
use Rattle.writers.proofs.DecimalLaws.{length-decimal}
use Rattle.text.specs.Text.{move_text, moves_text, step_line, step_lines, first_line, timetable_text}

move_text_short : (m : ℕ × ℕ) → m.0 < 64 → m.1 < 64 → length (move_text m) ≤ 6
unfolding move_text ascii
move_text_short m h₀ h₁ =
    simp (length-append)
    (omega (arith, length-decimal 1 m.0 (omega arith), length-decimal 1 m.1 (omega arith)))

pub moves_text_short : {ms : List (ℕ × ℕ)} → BelowPairs 64 ms → length (moves_text ms) ≤ 6 * length ms
unfolding moves_text
moves_text_short none₂ = omega arith
moves_text_short (more₂ {p = m} {l = ms} h₀ h₁ b) =
    rw (length-append (move_text m) (moves_text ms)) (omega (arith, move_text_short m h₀ h₁, moves_text_short b))

pub step_line_short : (i : ℕ) {ms : List (ℕ × ℕ)} → i < 100000 → BelowPairs 64 ms → length (step_line i ms) ≤ 6 + 6 * length ms
unfolding step_line ascii
step_line_short i {ms} h b =
    simp (length-append)
    (omega (arith, length-decimal 4 i h, moves_text_short b))

-- a step of the count byte c has c moves, each position below 64
module _ (c : ℕ) (t : List ℕ) where
  moves-count : length (step_moves (take (step_length c) (c ∷ t))) ≡ c
  moves-count = length-moves (take (step_length c) (c ∷ t)) ∙ get_or-take (step_length c) (c ∷ t) 0 0 (step_length-some c)

  moves_below : BelowPairs 64 (step_moves (take (step_length c) (c ∷ t)))
  unfolding step_moves
  moves_below = pairs_lt (take (step_length c) (c ∷ t)) 8 (get_or (take (step_length c) (c ∷ t)) 0 0)

-- eight bytes for each byte of a step are enough for its line
line_room : (c : ℕ) → 6 + 6 * c ≤ 8 * step_length c
unfolding step_length
line_room c = omega arith

not_wrong : true ≡ false → ⊥
not_wrong e = let z : ◌≡◌ {A = ℕ} 0 1 = cc in omega arith

lines_short : (k i : ℕ) (t : List ℕ) → wrong_steps k t ≡ false → i + k ≤ 100000
    → length (step_lines i (map step_moves (step_parts k t))) ≤ 8 * length t
unfolding wrong_steps step_parts step_lines
lines_short zero i t w h = omega arith
lines_short (suc k) i [] w h = absurd (not_wrong w)
lines_short (suc k) i (c ∷ t) w h =
    let n = step_length c in
    let fits : n ≤ length (c ∷ t) = ltb-false (length (c ∷ t)) n (or_left _ _ w) in
    let rest = lines_short k (i + 1) (drop n (c ∷ t)) (or_right (ltb (length (c ∷ t)) n) _ w) (omega arith) in
    let line = step_line_short i (omega arith) (moves_below c t) in
    rw (length-append (step_line i (step_moves (take n (c ∷ t)))) (step_lines (i + 1) (map step_moves (step_parts k (drop n (c ∷ t))))))
    (omega (arith, fits, rest, line, moves-count c t, length-drop n (c ∷ t), line_room c))

counts_short : (k : ℕ) (t : List ℕ) → wrong_steps k t ≡ false → (k ≤ length t) × (total (step_parts k t) ≤ length t)
unfolding wrong_steps step_parts total
counts_short zero t w = (omega arith, omega arith)
counts_short (suc k) [] w = absurd (not_wrong w)
counts_short (suc k) (c ∷ t) w =
    let n = step_length c in
    let fits : n ≤ length (c ∷ t) = ltb-false (length (c ∷ t)) n (or_left _ _ w) in
    let rest = counts_short k (drop n (c ∷ t)) (or_right (ltb (length (c ∷ t)) n) _ w) in
    let count : get_or (take n (c ∷ t)) 0 0 ≡ c = get_or-take n (c ∷ t) 0 0 (step_length-some c) in (
      omega (arith, fits, rest.0, length-drop n (c ∷ t), step_length-some c),
      omega (arith, fits, rest.1, count, length-drop n (c ∷ t), step_length-moves c),
    )

first_line_short : (s m : ℕ) → s < 100000 → m < 100000 → length (first_line s m) ≤ 24
unfolding first_line ascii
first_line_short s m h k = simp (length-append) (omega (arith, length-decimal 4 s h, length-decimal 4 m k))

pub timetable_text_short : (s : List ℕ) → wrong_timetable_length s ≡ false → length s < 100000
    → length (timetable_text (steps_of s)) ≤ 8 * length s
unfolding timetable_text steps_of parts_of
timetable_text_short s e h =
    let w = sym (wrong_length_lem s) ∙ e in
    let long : 3 ≤ length s = ltb-false (length s) 3 (or_left _ _ w) in
    let right = or_right (ltb (length s) 3) _ w in
    let counts = counts_short (step_count s) (drop 3 s) right in
    let lines = lines_short (step_count s) 1 (drop 3 s) right (omega (arith, counts.0, length-drop 3 s)) in
    let first =
    first_line_short (length (steps_of s)) (move_total (steps_of s)) (omega (arith, count_steps s, counts.0, length-drop 3 s))
    (omega (arith, total-moves s, counts.1, length-drop 3 s)) in
    rw (length-append (first_line (length (steps_of s)) (move_total (steps_of s))) (step_lines 1 (steps_of s)))
    (omega (arith, first, lines, length-drop 3 s))
