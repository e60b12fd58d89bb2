-- The counts of a timetable that passes 40 and 41, as its reading gives them.
--
--     not_refused     the reading refuses no such timetable
--     steps_are       the first count is s
--     line_is         the two counts are those of the line before the steps
-- Assumes nothing.
use Prim.Native.Nat.{ℕ}
use mathlib.Core.Path.{◌≡◌, sym, ap₂, ◌∙◌}
use mathlib.Core.List.{List, [], ◌∷◌}
use native.Mathlib.Omega.{arith}
use lib.ListN.{length}
use Rattle.answers.specs.Answer.{accepted, refused}
use Rattle.timetable.specs.Timetable.{step_count, parts_of, steps_of, move_total}
use Rattle.timetable.specs.Reading.{WellPacked, reading_answer, total}
use Rattle.timetable.proofs.ReadingLaws.{reading_accepted, count_steps, total-moves}
use Rattle.text.specs.Text.{first_line}

module _ (s : List ℕ) (w : WellPacked s) where
  pub not_refused : (n p : ℕ) → refused n p ≡ reading_answer s → ⊥
  not_refused n p e =
      let both : refused n p ≡ accepted (step_count s ∷ total (parts_of s) ∷ []) = e ∙ reading_accepted s w in
      let z : ◌≡◌ {A = ℕ} 0 1 = cc both in
      omega arith

  module _ (x y : ℕ) (e : accepted (x ∷ y ∷ []) ≡ reading_answer s) where
    same : accepted (x ∷ y ∷ []) ≡ accepted (step_count s ∷ total (parts_of s) ∷ [])
    same = e ∙ reading_accepted s w

    pub steps_are : x ≡ step_count s
    steps_are = cc same

    moves_are : y ≡ total (parts_of s)
    moves_are = cc same

    pub line_is : first_line x y ≡ first_line (length (steps_of s)) (move_total (steps_of s))
    line_is = ap₂ first_line (steps_are ∙ sym (count_steps s)) (moves_are ∙ sym (total-moves s))
