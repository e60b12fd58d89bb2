-- Laws of the line of a refusal: its size, and its parts written one behind another.
--
--     space_is, newline_is, refused_is        the fixed parts as bytes
--     refusal_line_short                       at most 31 bytes with a number of one digit, and one more for each digit more
--     refusal_fits                            50 bytes have room for the line of any number
--     word_fits, number_fits, ..              each part has room once those before it are written
--     line_wrote                              all seven written are the line
-- Assumes nothing.
use Prim.Native.Nat.{ℕ, suc, ◌+◌, ◌^◌, ◌≤◌, ◌<◌}
use mathlib.Core.Path.{◌≡◌, refl}
use mathlib.Core.Bool.{Bool, true, false, cond}
use mathlib.Core.List.{List, [], ◌∷◌, ◌++◌, append_assoc, append-nil}
use native.Mathlib.Omega.{arith}
use lib.ListN.{length, length-append}
use Rattle.answers.specs.Ascii.{ascii}
use Rattle.answers.specs.Family.{family_word, within}
use Rattle.field.specs.Writing.{Fits, Wrote}
use Rattle.field.proofs.WritingLaws.{Left, left-first, left_none, fits_as, wrote_as}
use Rattle.writers.specs.Lines.{decimal, refusal_line}
use Rattle.writers.proofs.DecimalLaws.{length-decimal}
use Rattle.writers.proofs.Parts.{next_fits, next-left}

pub space_is : 32 ∷ [] ≡ ascii " "
unfolding ascii
space_is = refl

pub newline_is : 10 ∷ [] ≡ ascii "\n"
unfolding ascii
newline_is = refl

pub refused_is : 114 ∷ 101 ∷ 102 ∷ 117 ∷ 115 ∷ 101 ∷ 100 ∷ 32 ∷ [] ≡ ascii "refused "
unfolding ascii
refused_is = refl

family_word_short : (n : ℕ) → length (family_word n) ≤ 9
unfolding family_word ascii
family_word_short n = by (within 10 19 n) (within 20 29 n) (within 30 39 n) (within 40 49 n)
  where
    by : (a b c d : Bool)
        → length (cond a (ascii "order") (cond b (ascii "floor") (cond c (ascii "plan") (cond d (ascii "timetable") (ascii "other"))))) ≤ 9
    by true b c d = omega arith
    by false true c d = omega arith
    by false false true d = omega arith
    by false false false true = omega arith
    by false false false false = omega arith

pub refusal_line_short : (k n p : ℕ) → n < 10 ^ suc k → p < 2 ^ 32 → length (refusal_line n p) ≤ 31 + k
unfolding refusal_line ascii
refusal_line_short k n p h l =
    simp (length-append) (omega (arith, length-decimal k n h, length-decimal 9 p (omega arith), family_word_short n))

pub refusal_fits : (n p : ℕ) → n < 2 ^ 64 → p < 2 ^ 32 → (s : List ℕ) → 50 ≤ length s → Fits s 0 (refusal_line n p)
refusal_fits n p h l s room = record { room = omega (arith, room, refusal_line_short 19 n p (omega (arith, h)) l) }

-- the line from its number on, from its place on, and from its family on
abbrev from_family : ℕ → List ℕ
from_family n = family_word n ++ (ascii "\n" ++ [])

abbrev from_place : ℕ → ℕ → List ℕ
from_place n p = decimal p ++ (ascii " " ++ from_family n)

abbrev from-number : ℕ → ℕ → List ℕ
from-number n p = decimal n ++ (ascii " " ++ from_place n p)

parts : (n p : ℕ) → refusal_line n p ≡ ascii "refused " ++ from-number n p
unfolding refusal_line
parts n p = simp (append_assoc, append-nil)

module _ {s : List ℕ} {at : ℕ} (n p : ℕ) (f : Fits s at (refusal_line n p)) where
  pub word_fits : Fits s at (114 ∷ 101 ∷ 102 ∷ 117 ∷ 115 ∷ 101 ∷ 100 ∷ 32 ∷ [])
  word_fits = fits_as refused_is (next_fits _ _ (parts n p) f left-first)

  module _ {t₁ : List ℕ} {r₁ : ℕ} (word : Wrote s at (114 ∷ 101 ∷ 102 ∷ 117 ∷ 115 ∷ 101 ∷ 100 ∷ 32 ∷ []) t₁ r₁) where
    rest₁ : Left s at (refusal_line n p) t₁ r₁ (from-number n p)
    rest₁ = next-left _ _ (parts n p) f left-first (wrote_as refused_is word)

    pub number_fits : Fits t₁ r₁ (decimal n)
    number_fits = next_fits _ _ refl f rest₁

    module _ {t₂ : List ℕ} {r₂ : ℕ} (number : Wrote t₁ r₁ (decimal n) t₂ r₂) where
      rest₂ : Left s at (refusal_line n p) t₂ r₂ (ascii " " ++ from_place n p)
      rest₂ = next-left _ _ refl f rest₁ number

      pub gap_fits : Fits t₂ r₂ (32 ∷ [])
      gap_fits = fits_as space_is (next_fits _ _ refl f rest₂)

      module _ {t₃ : List ℕ} {r₃ : ℕ} (gap : Wrote t₂ r₂ (32 ∷ []) t₃ r₃) where
        rest₃ : Left s at (refusal_line n p) t₃ r₃ (from_place n p)
        rest₃ = next-left _ _ refl f rest₂ (wrote_as space_is gap)

        pub place_fits : Fits t₃ r₃ (decimal p)
        place_fits = next_fits _ _ refl f rest₃

        module _ {t₄ : List ℕ} {r₄ : ℕ} (place : Wrote t₃ r₃ (decimal p) t₄ r₄) where
          rest₄ : Left s at (refusal_line n p) t₄ r₄ (ascii " " ++ from_family n)
          rest₄ = next-left _ _ refl f rest₃ place

          pub gap₂_fits : Fits t₄ r₄ (32 ∷ [])
          gap₂_fits = fits_as space_is (next_fits _ _ refl f rest₄)

          module _ {t₅ : List ℕ} {r₅ : ℕ} (gap₂ : Wrote t₄ r₄ (32 ∷ []) t₅ r₅) where
            rest₅ : Left s at (refusal_line n p) t₅ r₅ (from_family n)
            rest₅ = next-left _ _ refl f rest₄ (wrote_as space_is gap₂)

            pub family_fits : Fits t₅ r₅ (family_word n)
            family_fits = next_fits _ _ refl f rest₅

            module _ {t₆ : List ℕ} {r₆ : ℕ} (family : Wrote t₅ r₅ (family_word n) t₆ r₆) where
              rest₆ : Left s at (refusal_line n p) t₆ r₆ (ascii "\n" ++ [])
              rest₆ = next-left _ _ refl f rest₅ family

              pub end_fits : Fits t₆ r₆ (10 ∷ [])
              end_fits = fits_as newline_is (next_fits _ _ refl f rest₆)

              pub line_wrote : {t₇ : List ℕ} {r₇ : ℕ} → Wrote t₆ r₆ (10 ∷ []) t₇ r₇ → Wrote s at (refusal_line n p) t₇ r₇
              line_wrote end = left_none (next-left _ _ refl f rest₆ (wrote_as newline_is end))
