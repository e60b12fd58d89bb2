-- What is left to write, part by part.
--
--     next_fits, next-left, all_wrote    the next part of what is left, and the end
--     bytes_next, bytes_none             of the bytes of a text
-- Assumes nothing.
use Prim.Native.Nat.{ℕ, ◌+◌, ◌≤◌, ◌<◌}
use mathlib.Core.Path.{◌≡◌, sym, ap, ◌∙◌, subst}
use mathlib.Core.List.{List, [], ◌∷◌, ◌++◌}
use native.Mathlib.Numerals.{add-one}
use lib.ListN.{length, get_or, drop, drop_of_length-le}
use lib.Seq.{drop-cons}
use Rattle.field.specs.Writing.{Fits, Wrote}
use Rattle.field.proofs.WritingLaws.{Left, left_fits, left-next, left_none, fits_front}

-- the next part x of what is left, and the rest m
module _ {s : List ℕ} {at : ℕ} {l t : List ℕ} {r : ℕ} {k : List ℕ} (x m : List ℕ) (e : k ≡ x ++ m) (f : Fits s at l)
    (left : Left s at l t r k) where
  split : Left s at l t r (x ++ m)
  split = subst (Left s at l t r) e left

  pub next_fits : Fits t r x
  next_fits = fits_front x m (left_fits f split)

  pub next-left : {u : List ℕ} {q : ℕ} → Wrote t r x u q → Left s at l u q m
  next-left w = left-next x m f split w

pub all_wrote : {s : List ℕ} {at : ℕ} {l t : List ℕ} {r : ℕ} {k : List ℕ} → k ≡ [] → Left s at l t r k → Wrote s at l t r
all_wrote {s} {at} {l} {t} {r} e left = left_none (subst (Left s at l t r) e left)

pub bytes_next : (l : List ℕ) (j : ℕ) → j < length l → drop j l ≡ (get_or l j 0 ∷ []) ++ drop (j + 1) l
bytes_next l j h = drop-cons l j 0 h ∙ ap (λ (n : ℕ). get_or l j 0 ∷ drop n l) (sym (add-one j))

pub bytes_none : (l : List ℕ) (j : ℕ) → length l ≤ j → drop j l ≡ []
bytes_none l j h = drop_of_length-le l h
