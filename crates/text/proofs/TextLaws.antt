-- The lines of the timetable's text: their fixed parts as bytes, and their parts written one behind another.
--
--     arrow_is, steps_is, moves_is    the arrow between two positions, and the words of the first line
--     gap_fits, left_fits, ..                 each part of a move has room once those before it are written
--     move_wrote                              all four written are the move
--     steps_fit, step_count_fits, ..          so of the line before the steps
--     first_wrote                             all five written are that line
-- Assumes nothing.
use Prim.Native.Nat.{ℕ}
use mathlib.Core.Path.{◌≡◌, refl}
use mathlib.Core.List.{List, [], ◌∷◌, ◌++◌, append_assoc, append-nil}
use Rattle.answers.specs.Ascii.{ascii}
use Rattle.field.specs.Writing.{Fits, Wrote}
use Rattle.field.proofs.WritingLaws.{Left, left-first, left_none, fits_as, wrote_as}
use Rattle.writers.specs.Lines.{decimal}
use Rattle.writers.proofs.LineLaws.{space_is, newline_is}
use Rattle.writers.proofs.Parts.{next_fits, next-left}
use Rattle.text.specs.Text.{move_text, first_line}

pub arrow_is : 62 ∷ [] ≡ ascii ">"
unfolding ascii
arrow_is = refl

pub steps_is : 115 ∷ 116 ∷ 101 ∷ 112 ∷ 115 ∷ 32 ∷ [] ≡ ascii "steps "
unfolding ascii
steps_is = refl

pub moves_is : 32 ∷ 109 ∷ 111 ∷ 118 ∷ 101 ∷ 115 ∷ 32 ∷ [] ≡ ascii " moves "
unfolding ascii
moves_is = refl

move_parts : (a b : ℕ) → move_text (a, b) ≡ ascii " " ++ (decimal a ++ (ascii ">" ++ (decimal b ++ [])))
unfolding move_text
move_parts a b = simp (append_assoc, append-nil)

module _ {s : List ℕ} {at : ℕ} (a b : ℕ) (f : Fits s at (move_text (a, b))) where
  pub gap_fits : Fits s at (32 ∷ [])
  gap_fits = fits_as space_is (next_fits _ _ (move_parts a b) f left-first)

  module _ {t₁ : List ℕ} {r₁ : ℕ} (gap : Wrote s at (32 ∷ []) t₁ r₁) where
    rest₁ : Left s at (move_text (a, b)) t₁ r₁ (decimal a ++ (ascii ">" ++ (decimal b ++ [])))
    rest₁ = next-left _ _ (move_parts a b) f left-first (wrote_as space_is gap)

    pub left_fits : Fits t₁ r₁ (decimal a)
    left_fits = next_fits _ _ refl f rest₁

    module _ {t₂ : List ℕ} {r₂ : ℕ} (left : Wrote t₁ r₁ (decimal a) t₂ r₂) where
      rest₂ : Left s at (move_text (a, b)) t₂ r₂ (ascii ">" ++ (decimal b ++ []))
      rest₂ = next-left _ _ refl f rest₁ left

      pub arrow_fits : Fits t₂ r₂ (62 ∷ [])
      arrow_fits = fits_as arrow_is (next_fits _ _ refl f rest₂)

      module _ {t₃ : List ℕ} {r₃ : ℕ} (between : Wrote t₂ r₂ (62 ∷ []) t₃ r₃) where
        rest₃ : Left s at (move_text (a, b)) t₃ r₃ (decimal b ++ [])
        rest₃ = next-left _ _ refl f rest₂ (wrote_as arrow_is between)

        pub entered_fits : Fits t₃ r₃ (decimal b)
        entered_fits = next_fits _ _ refl f rest₃

        pub move_wrote : {t₄ : List ℕ} {r₄ : ℕ} → Wrote t₃ r₃ (decimal b) t₄ r₄ → Wrote s at (move_text (a, b)) t₄ r₄
        move_wrote entered = left_none (next-left _ _ refl f rest₃ entered)

first_parts : (k m : ℕ) → first_line k m ≡ ascii "steps " ++ (decimal k ++ (ascii " moves " ++ (decimal m ++ (ascii "\n" ++ []))))
unfolding first_line
first_parts k m = simp (append_assoc, append-nil)

module _ {s : List ℕ} {at : ℕ} (k m : ℕ) (f : Fits s at (first_line k m)) where
  pub steps_fit : Fits s at (115 ∷ 116 ∷ 101 ∷ 112 ∷ 115 ∷ 32 ∷ [])
  steps_fit = fits_as steps_is (next_fits _ _ (first_parts k m) f left-first)

  module _ {t₁ : List ℕ} {r₁ : ℕ} (steps : Wrote s at (115 ∷ 116 ∷ 101 ∷ 112 ∷ 115 ∷ 32 ∷ []) t₁ r₁) where
    behind₁ : Left s at (first_line k m) t₁ r₁ (decimal k ++ (ascii " moves " ++ (decimal m ++ (ascii "\n" ++ []))))
    behind₁ = next-left _ _ (first_parts k m) f left-first (wrote_as steps_is steps)

    pub step_count_fits : Fits t₁ r₁ (decimal k)
    step_count_fits = next_fits _ _ refl f behind₁

    module _ {t₂ : List ℕ} {r₂ : ℕ} (step_count_lem : Wrote t₁ r₁ (decimal k) t₂ r₂) where
      behind₂ : Left s at (first_line k m) t₂ r₂ (ascii " moves " ++ (decimal m ++ (ascii "\n" ++ [])))
      behind₂ = next-left _ _ refl f behind₁ step_count_lem

      pub word_fits : Fits t₂ r₂ (32 ∷ 109 ∷ 111 ∷ 118 ∷ 101 ∷ 115 ∷ 32 ∷ [])
      word_fits = fits_as moves_is (next_fits _ _ refl f behind₂)

      module _ {t₃ : List ℕ} {r₃ : ℕ} (word : Wrote t₂ r₂ (32 ∷ 109 ∷ 111 ∷ 118 ∷ 101 ∷ 115 ∷ 32 ∷ []) t₃ r₃) where
        behind₃ : Left s at (first_line k m) t₃ r₃ (decimal m ++ (ascii "\n" ++ []))
        behind₃ = next-left _ _ refl f behind₂ (wrote_as moves_is word)

        pub move-count_fits : Fits t₃ r₃ (decimal m)
        move-count_fits = next_fits _ _ refl f behind₃

        module _ {t₄ : List ℕ} {r₄ : ℕ} (move-count : Wrote t₃ r₃ (decimal m) t₄ r₄) where
          behind₄ : Left s at (first_line k m) t₄ r₄ (ascii "\n" ++ [])
          behind₄ = next-left _ _ refl f behind₃ move-count

          pub end_fits : Fits t₄ r₄ (10 ∷ [])
          end_fits = fits_as newline_is (next_fits _ _ refl f behind₄)

          pub first_wrote : {t₅ : List ℕ} {r₅ : ℕ} → Wrote t₄ r₄ (10 ∷ []) t₅ r₅ → Wrote s at (first_line k m) t₅ r₅
          first_wrote end = left_none (next-left _ _ refl f behind₄ (wrote_as newline_is end))
