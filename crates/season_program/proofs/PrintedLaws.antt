-- Laws of what the season program prints: its parts written one behind another, and its size.
--
--     accepted_is, refused_is, ..     the words as bytes
--     line_wrote                      the three parts of a count's line are the line
--     counts_wrote                    the four lines of counts are theirs
--     parallelism_wrote               the parts of the last line are the line
--     report_wrote                    all of them are the report
--     none_text, number_text          the two forms of the parallelism
--     quotient_short, report_short    a report takes at most 160 bytes
--     report_fits                     so it has room
--     report_text_lem, refusal_text       the two ways in which the program ends
-- Assumes nothing.
use Prim.Native.Nat.{ℕ, ◌^◌, ◌≤◌, ◌<◌}
use mathlib.Core.Path.{◌≡◌, refl, ap}
use mathlib.Core.List.{List, [], ◌∷◌, ◌++◌}
use native.Mathlib.Omega.{arith}
use lib.ListN.{length, get_or, length-append}
use Rattle.answers.specs.Answer.{accepted, refused}
use Rattle.answers.specs.Ascii.{ascii}
use Rattle.field.specs.Writing.{Fits, Wrote}
use Rattle.field.proofs.WritingLaws.{fits_front, fits_next, wrote_then, fits_as, wrote_as}
use Rattle.writers.specs.Lines.{decimal, refusal_line}
use Rattle.writers.proofs.DecimalLaws.{length-decimal}
use Rattle.writers.proofs.LineLaws.{newline_is, refused_is}
use Rattle.season.specs.Season.{told, season_answer}
use Rattle.season.specs.declared.Summary.{Summary}
use Rattle.season_program.specs.Printed.{count_line, quotient_text, count_lines, parallelism_line}
use Rattle.season_program.specs.Printed.{report_text, report_lines, answer_text, season_text}

pub none_is : 110 ∷ 111 ∷ 110 ∷ 101 ∷ [] ≡ ascii "none"
unfolding ascii
none_is = refl

abbrev pub accepted_bytes : List ℕ
accepted_bytes = 97 ∷ 99 ∷ 99 ∷ 101 ∷ 112 ∷ 116 ∷ 101 ∷ 100 ∷ 32 ∷ []

pub accepted_is : accepted_bytes ≡ ascii "accepted "
unfolding ascii
accepted_is = refl

abbrev pub refused_bytes : List ℕ
refused_bytes = 114 ∷ 101 ∷ 102 ∷ 117 ∷ 115 ∷ 101 ∷ 100 ∷ 32 ∷ []

abbrev pub steps_bytes_lem : List ℕ
steps_bytes_lem = 115 ∷ 116 ∷ 101 ∷ 112 ∷ 115 ∷ 32 ∷ []

pub steps_is : steps_bytes_lem ≡ ascii "steps "
unfolding ascii
steps_is = refl

abbrev pub moves-bytes : List ℕ
moves-bytes = 109 ∷ 111 ∷ 118 ∷ 101 ∷ 115 ∷ 32 ∷ []

pub moves_is : moves-bytes ≡ ascii "moves "
unfolding ascii
moves_is = refl

abbrev pub parallelism-bytes : List ℕ
parallelism-bytes = 112 ∷ 97 ∷ 114 ∷ 97 ∷ 108 ∷ 108 ∷ 101 ∷ 108 ∷ 105 ∷ 115 ∷ 109 ∷ 32 ∷ []

pub parallelism_is : parallelism-bytes ≡ ascii "parallelism "
unfolding ascii
parallelism_is = refl

-- a count's line
module _ {s : List ℕ} {at : ℕ} (word : List ℕ) (n : ℕ) (f : Fits s at (count_line word n)) where
  abbrev rest : List ℕ
  rest = decimal n ++ ascii "\n"

  whole : Fits s at (word ++ rest)
  whole = unfold count_line in f

  pub word_fits : Fits s at word
  word_fits = fits_front word rest whole

  module _ {t : List ℕ} {r : ℕ} (w : Wrote s at word t r) where
    pub number_fits : Fits t r (decimal n)
    number_fits = fits_front (decimal n) (ascii "\n") (fits_next word rest w whole)

    module _ {u : List ℕ} {q : ℕ} (v : Wrote t r (decimal n) u q) where
      pub end_fits : Fits u q (10 ∷ [])
      end_fits = fits_as newline_is (fits_next (decimal n) (ascii "\n") v (fits_next word rest w whole))

      pub line_wrote : {x : List ℕ} {y : ℕ} → Wrote u q (10 ∷ []) x y → Wrote s at (count_line word n) x y
      unfolding count_line
      line_wrote e =
          wrote_then word rest whole w (wrote_then (decimal n) (ascii "\n") (fits_next word rest w whole) v (wrote_as newline_is e))

-- a line as the code writes it, its word as bytes
line_is : {word bytes : List ℕ} (n : ℕ) → bytes ≡ word → count_line bytes n ≡ count_line word n
line_is n e = ap (λ (w : List ℕ). count_line w n) e

module _ {s : List ℕ} {at : ℕ} (a r k m : ℕ) (f : Fits s at (count_lines a r k m)) where
  abbrev from_steps : List ℕ
  from_steps = count_line (ascii "steps ") k ++ count_line (ascii "moves ") m

  abbrev from_refused : List ℕ
  from_refused = count_line (ascii "refused ") r ++ from_steps

  all : Fits s at (count_line (ascii "accepted ") a ++ from_refused)
  all = unfold count_lines in f

  pub accepted_fits : Fits s at (count_line accepted_bytes a)
  accepted_fits = fits_as (line_is a accepted_is) (fits_front _ from_refused all)

  module _ {t₁ : List ℕ} {r₁ : ℕ} (w₁ : Wrote s at (count_line accepted_bytes a) t₁ r₁) where
    left₁ : Fits t₁ r₁ from_refused
    left₁ = fits_next _ from_refused (wrote_as (line_is a accepted_is) w₁) all

    pub refused_fits : Fits t₁ r₁ (count_line refused_bytes r)
    refused_fits = fits_as (line_is r refused_is) (fits_front _ from_steps left₁)

    module _ {t₂ : List ℕ} {r₂ : ℕ} (w₂ : Wrote t₁ r₁ (count_line refused_bytes r) t₂ r₂) where
      left₂ : Fits t₂ r₂ from_steps
      left₂ = fits_next _ from_steps (wrote_as (line_is r refused_is) w₂) left₁

      pub steps_fits : Fits t₂ r₂ (count_line steps_bytes_lem k)
      steps_fits = fits_as (line_is k steps_is) (fits_front _ (count_line (ascii "moves ") m) left₂)

      module _ {t₃ : List ℕ} {r₃ : ℕ} (w₃ : Wrote t₂ r₂ (count_line steps_bytes_lem k) t₃ r₃) where
        left₃ : Fits t₃ r₃ (count_line (ascii "moves ") m)
        left₃ = fits_next _ _ (wrote_as (line_is k steps_is) w₃) left₂

        pub moves_fits : Fits t₃ r₃ (count_line moves-bytes m)
        moves_fits = fits_as (line_is m moves_is) left₃

        pub counts_wrote : {t₄ : List ℕ} {r₄ : ℕ} → Wrote t₃ r₃ (count_line moves-bytes m) t₄ r₄ → Wrote s at (count_lines a r k m) t₄ r₄
        unfolding count_lines
        counts_wrote w₄ =
            wrote_then _ _ all (wrote_as (line_is a accepted_is) w₁)
            (wrote_then _ _ left₁ (wrote_as (line_is r refused_is) w₂)
            (wrote_then _ _ left₂ (wrote_as (line_is k steps_is) w₃) (wrote_as (line_is m moves_is) w₄)))

-- the last line
module _ {s : List ℕ} {at : ℕ} (p : List ℕ) (f : Fits s at (parallelism_line p)) where
  line : Fits s at (ascii "parallelism " ++ (quotient_text p ++ ascii "\n"))
  line = unfold parallelism_line in f

  pub label_fits : Fits s at parallelism-bytes
  label_fits = fits_as parallelism_is (fits_front _ (quotient_text p ++ ascii "\n") line)

  module _ {t₁ : List ℕ} {r₁ : ℕ} (w₁ : Wrote s at parallelism-bytes t₁ r₁) where
    behind : Fits t₁ r₁ (quotient_text p ++ ascii "\n")
    behind = fits_next _ _ (wrote_as parallelism_is w₁) line

    pub quotient_fits : Fits t₁ r₁ (quotient_text p)
    quotient_fits = fits_front _ (ascii "\n") behind

    module _ {t₂ : List ℕ} {r₂ : ℕ} (w₂ : Wrote t₁ r₁ (quotient_text p) t₂ r₂) where
      pub newline_fits : Fits t₂ r₂ (10 ∷ [])
      newline_fits = fits_as newline_is (fits_next _ _ w₂ behind)

      pub parallelism_wrote : {t₃ : List ℕ} {r₃ : ℕ} → Wrote t₂ r₂ (10 ∷ []) t₃ r₃ → Wrote s at (parallelism_line p) t₃ r₃
      unfolding parallelism_line
      parallelism_wrote w₃ = wrote_then _ _ line (wrote_as parallelism_is w₁) (wrote_then _ _ behind w₂ (wrote_as newline_is w₃))

-- and both
module _ {s : List ℕ} {at : ℕ} (a r k m : ℕ) (p : List ℕ) (f : Fits s at (report_text a r k m p)) where
  both : Fits s at (count_lines a r k m ++ parallelism_line p)
  both = unfold report_text in f

  pub counts_fit : Fits s at (count_lines a r k m)
  counts_fit = fits_front _ (parallelism_line p) both

  module _ {t : List ℕ} {q : ℕ} (w : Wrote s at (count_lines a r k m) t q) where
    pub last_fits : Fits t q (parallelism_line p)
    last_fits = fits_next _ _ w both

    pub report_wrote : {u : List ℕ} {i : ℕ} → Wrote t q (parallelism_line p) u i → Wrote s at (report_text a r k m p) u i
    unfolding report_text
    report_wrote v = wrote_then _ _ both w v

pub none_text : 110 ∷ 111 ∷ 110 ∷ 101 ∷ [] ≡ quotient_text []
unfolding quotient_text
none_text = none_is

pub number_text : (n : ℕ) → decimal n ≡ quotient_text (n ∷ [])
unfolding quotient_text
number_text n = refl

-- where each number has 64 bits, it has at most 20 digits
quotient_short : (p : List ℕ) → get_or p 0 0 < 2 ^ 64 → length (quotient_text p) ≤ 20
unfolding quotient_text ascii
quotient_short [] h = omega arith
quotient_short (n ∷ p) h = length-decimal 19 n (omega arith)

report_short : (a r k m : ℕ) (p : List ℕ) → a < 2 ^ 64 → r < 2 ^ 64 → k < 2 ^ 64 → m < 2 ^ 64 → get_or p 0 0 < 2 ^ 64
    → length (report_text a r k m p) ≤ 160
unfolding report_text count_lines parallelism_line count_line ascii
report_short a r k m p ha hr hk hm hp =
    simp (length-append)
    (omega (
      arith,
      length-decimal 19 a (omega arith),
      length-decimal 19 r (omega arith),
      length-decimal 19 k (omega arith),
      length-decimal 19 m (omega arith),
      quotient_short p hp,
    ))

pub report_fits : (out : List ℕ) → 160 ≤ length out → (a r k m : ℕ) (p : List ℕ) → a < 2 ^ 64 → r < 2 ^ 64 → k < 2 ^ 64 → m < 2 ^ 64
    → get_or p 0 0 < 2 ^ 64 → Fits out 0 (report_text a r k m p)
report_fits out room a r k m p ha hr hk hm hp = record { room = omega (arith, report_short a r k m p ha hr hk hm hp) }

-- the two ways in which the program ends
pub report_text_lem : (s : List ℕ) (r : Summary) → accepted (told r) ≡ season_answer s → report_lines r ≡ season_text s
unfolding season_text answer_text
report_text_lem s r e = ap answer_text e

pub refusal_text : (s : List ℕ) (number place : ℕ) → refused number place ≡ season_answer s → refusal_line number place ≡ season_text s
unfolding season_text answer_text
refusal_text s number place e = ap answer_text e
