-- What is left to write in the loops over moves and over steps.
--
--     moves-first, moves_next, moves_none    of the moves of a step
--     part_room, part-moves                  the moves of a step, read from its second byte on
--     Cut s i at n       step i + 1 of a timetable begins at byte `at` and has n bytes
--     cut_ends, cut_length, lines_next, stands_after, lines_none    it is cut out, and its line comes next
-- Assumes nothing.
use Prim.Native.Nat.{ℕ, ◌+◌, ◌-◌, ◌*◌, ◌≤◌, ◌<◌}
use mathlib.Core.Path.{◌≡◌, refl, sym, ap, ◌∙◌, subst}
use mathlib.Core.List.{List, [], ◌++◌}
use lib.ListN.{length, get_or, take, drop}
use native.Mathlib.Omega.{arith}
use native.Mathlib.Nat.{sub-zero}
use Rattle.field.specs.Bits.{pairs, PairAt}
use Rattle.field.proofs.RecordLaws.{pairs_next}
use Rattle.timetable.specs.Timetable.{step_length, step_moves, step_count, steps_of}
use Rattle.timetable.proofs.StepLaws.{part_at, length-part_at, head_part_at, moves-tail, moves_room}
use Rattle.timetable.proofs.ReadingLaws.{Stands, stands-next, stands_room, steps_next, steps_none}
use Rattle.text.specs.Text.{move_text, moves_text, step_line, step_lines}
use Rattle.field.proofs.WritingLaws.{Left, left-first}

module _ (s : List ℕ) where
  pub moves-first : (k : ℕ) {o : List ℕ} {at : ℕ} → Left o at (moves_text (pairs s 0 k)) o at (moves_text (pairs s (12 * 0) (k - 0)))
  moves-first k = rw (sub-zero k) left-first

  pub moves_next : (j k : ℕ) {a b : ℕ} → PairAt s (12 * j) a b → j < k
      → moves_text (pairs s (12 * j) (k - j)) ≡ move_text (a, b) ++ moves_text (pairs s (12 * (j + 1)) (k - (j + 1)))
  unfolding moves_text
  moves_next j k p h = rw (pairs_next s j k h, p.first_is, p.second_is) refl

  pub moves_none : (j k : ℕ) → k ≤ j → moves_text (pairs s (12 * j) (k - j)) ≡ []
  unfolding moves_text pairs
  moves_none j k h =
      let none : k - j ≡ 0 = omega arith in
      rw none refl

module _ (p : List ℕ) (c : ℕ) (e : c ≡ get_or p 0 0) where
  pub part_room : length p ≡ step_length (get_or p 0 0) → 12 * c ≤ 8 * length (take (length p - 1) (drop 1 p))
  part_room h = rw e (moves_room p h)

  pub part-moves : moves_text (pairs (take (length p - 1) (drop 1 p)) 0 c) ≡ moves_text (step_moves p)
  part-moves = ap moves_text (ap (pairs (take (length p - 1) (drop 1 p)) 0) e ∙ sym (moves-tail p))

pub record Cut (s : List ℕ) (i at n : ℕ) : Type 0 where
  pub stands : Stands s i at
  pub there : i < step_count s
  pub size : n ≡ step_length (get_or s at 0)

module _ {s : List ℕ} {i at n : ℕ} (cut : Cut s i at n) where
  pub cut_ends : at + n ≤ length s
  cut_ends = omega (arith, cut.size, (stands_room s i at cut.stands cut.there).ends)

  cut_is : take (at + n - at) (drop at s) ≡ part_at s at
  cut_is =
      let same : at + n - at ≡ step_length (get_or s at 0) = omega (arith, cut.size) in
      ap (λ (k : ℕ). take k (drop at s)) same

  pub cut_length : length (take (at + n - at) (drop at s)) ≡ step_length (get_or (take (at + n - at) (drop at s)) 0 0)
  cut_length = rw cut_is (length-part_at s at (stands_room s i at cut.stands cut.there) ∙ ap step_length (sym (head_part_at s at)))

  pub lines_next : step_lines (i + 1) (drop i (steps_of s))
      ≡ step_line (i + 1) (step_moves (take (at + n - at) (drop at s))) ++ step_lines (i + 1 + 1) (drop (i + 1) (steps_of s))
  unfolding step_lines
  lines_next = rw (steps_next s i at cut.stands cut.there, cut_is) refl

  pub stands_after : Stands s (i + 1) (at + n)
  stands_after = subst (Stands s (i + 1)) (ap (λ (k : ℕ). at + k) (sym cut.size)) (stands-next s i at cut.stands cut.there)

pub lines_none : (s : List ℕ) (i : ℕ) → step_count s ≤ i → step_lines (i + 1) (drop i (steps_of s)) ≡ []
unfolding step_lines
lines_none s i h = rw (steps_none s i h) refl
