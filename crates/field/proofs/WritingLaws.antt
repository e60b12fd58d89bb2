-- Laws of what specs/Writing.antt defines.
--
--     written_front        from the front on: l, and behind it what stood there
--     written_none         nothing written changes nothing
--     length-written       nothing is moved: the length stays
--     written_append       writing l and then m behind it is writing l ++ m
--     fits_front, fits_next    what has room, and what has room behind it once it is written
--     wrote_none, wrote_byte, wrote_then    nothing, one byte, and one text behind another
--     wrote_length, wrote_within    the length stays, and the next writer begins within it
--     fits_as, wrote_as    the same, of a text by another name
--     Left s at l t r m    t is s with the front of l written from byte `at` on, up to byte r; m, the rest of l, is left to write
--     left-first, left_fits, left-next, left_none    how a writer's loop begins, has room, goes on and ends
-- Assumes nothing.
use Prim.Native.Nat.{ℕ, ◌+◌, ◌≤◌, ◌<◌}
use mathlib.Core.Path.{◌≡◌, refl, sym, ap, ap₂, ◌∙◌, subst}
use mathlib.Core.List.{List, [], ◌∷◌, ◌++◌, append_assoc}
use native.Mathlib.Omega.{arith}
use native.Mathlib.Nat.{add_assoc, add-zero, zero-add}
use native.Mathlib.Numerals.{add-one}
use lib.ListN.{length, set, take, drop, length-append, length-drop, take-append-drop}
use lib.Seq.{drop-drop, take_at, drop_at, length-take-le, set_split}
use Rattle.field.specs.Writing.{written, Fits, Wrote}

pub written_front : (s l : List ℕ) → written s 0 l ≡ l ++ drop (length l) s
unfolding written
written_front s l = ap (λ (n : ℕ). l ++ drop n s) (zero-add (length l))

pub written_none : (s : List ℕ) (at : ℕ) → written s at [] ≡ s
unfolding written
written_none s at = ap (λ (n : ℕ). take at s ++ drop n s) (add-zero at) ∙ take-append-drop at s

module _ (s : List ℕ) (at : ℕ) (l : List ℕ) (f : Fits s at l) where
  front_length : length (take at s) ≡ at
  front_length = length-take-le at s (omega (arith, f.room))

  pub length-written : length (written s at l) ≡ length s
  unfolding written
  length-written = simp (length-append, length-drop, front_length) (omega (arith, f.room))

  both-length : length (take at s ++ l) ≡ at + length l
  both-length = length-append (take at s) l ∙ ap (λ (n : ℕ). n + length l) front_length

  regrouped : written s at l ≡ (take at s ++ l) ++ drop (at + length l) s
  unfolding written
  regrouped = sym (append_assoc (take at s) l (drop (at + length l) s))

  take-written : take (at + length l) (written s at l) ≡ take at s ++ l
  take-written = ap (take (at + length l)) regrouped ∙ take_at (take at s ++ l) (drop (at + length l) s) (at + length l) both-length

  drop-written : drop (at + length l) (written s at l) ≡ drop (at + length l) s
  drop-written = ap (drop (at + length l)) regrouped ∙ drop_at (take at s ++ l) (drop (at + length l) s) (at + length l) both-length

  behind : (m : List ℕ) → drop (at + length l + length m) (written s at l) ≡ drop (at + length (l ++ m)) s
  behind m =
      sym (drop-drop (length m) (at + length l) (written s at l))
      ∙ ap (drop (length m)) drop-written
      ∙ drop-drop (length m) (at + length l) s
      ∙ ap (λ (n : ℕ). drop n s) (add_assoc at (length l) (length m) ∙ ap (λ (n : ℕ). at + n) (sym (length-append l m)))

  -- the definition, of a byte string that was written into before
  over : (x m : List ℕ) (n : ℕ) → written x n m ≡ take n x ++ (m ++ drop (n + length m) x)
  unfolding written
  over x m n = refl

  pub written_append : (m : List ℕ) → written (written s at l) (at + length l) m ≡ written s at (l ++ m)
  written_append m =
      over (written s at l) m (at + length l)
      ∙ ap₂ (λ (x y : List ℕ). x ++ (m ++ y)) take-written (behind m)
      ∙ append_assoc (take at s) l (m ++ drop (at + length (l ++ m)) s)
      ∙ ap (λ (x : List ℕ). take at s ++ x) (sym (append_assoc l m (drop (at + length (l ++ m)) s)))
      ∙ sym (over s (l ++ m) at)

pub wrote_length : {s : List ℕ} {at : ℕ} {l t : List ℕ} {r : ℕ} → Fits s at l → Wrote s at l t r → length t ≡ length s
wrote_length {s} {at} {l} f w = ap length w.bytes_are ∙ length-written s at l f

-- whether there was room or not
pub wrote_within : {s : List ℕ} {at : ℕ} {l t : List ℕ} {r : ℕ} → at ≤ length s → Wrote s at l t r → r ≤ length t
unfolding written
wrote_within {s} {at} {l} h w =
    let rest = drop (at + length l) s in
    omega (arith, w.next_is, ap length w.bytes_are, length-append (take at s) (l ++ rest), length-append l rest, length-take-le at s h)

module _ {s : List ℕ} {at : ℕ} (l m : List ℕ) where
  pub fits_front : Fits s at (l ++ m) → Fits s at l
  fits_front f = record { room = omega (arith, f.room, length-append l m) }

  pub fits_next : {t : List ℕ} {r : ℕ} → Wrote s at l t r → Fits s at (l ++ m) → Fits t r m
  fits_next {t} {r} w f = record { room = omega (arith, wrote_length (fits_front f) w, w.next_is, f.room, length-append l m) }

  pub wrote_then : {t u : List ℕ} {r q : ℕ} → Fits s at (l ++ m) → Wrote s at l t r → Wrote t r m u q → Wrote s at (l ++ m) u q
  wrote_then {t} {u} {r} {q} f w v = record {
    bytes_are = v.bytes_are ∙ ap₂ (λ (x : List ℕ) (n : ℕ). written x n m) w.bytes_are w.next_is
        ∙ written_append s at l (fits_front f) m;
    next_is = omega (arith, v.next_is, w.next_is, length-append l m);
  }

module _ {s : List ℕ} {at : ℕ} {l m : List ℕ} (e : l ≡ m) where
  pub fits_as : Fits s at m → Fits s at l
  fits_as f = subst (Fits s at) (sym e) f

  pub wrote_as : {t : List ℕ} {r : ℕ} → Wrote s at l t r → Wrote s at m t r
  wrote_as {t} {r} w = subst (λ (k : List ℕ). Wrote s at k t r) e w

module _ (s : List ℕ) (at : ℕ) where
  pub wrote_none : Wrote s at [] s at
  wrote_none = record { bytes_are = sym (written_none s at); next_is = sym (add-zero at) }

  pub wrote_byte : (b : ℕ) → at < length s → Wrote s at (b ∷ []) (set s at b) (at + 1)
  unfolding written
  wrote_byte b h = record {
    bytes_are = set_split s at b h ∙ ap (λ (n : ℕ). take at s ++ b ∷ drop n s) (sym (add-one at));
    next_is = refl;
  }

pub record Left (s : List ℕ) (at : ℕ) (l t : List ℕ) (r : ℕ) (m : List ℕ) : Type 0 where
  pub bytes_same : written t r m ≡ written s at l
  pub next_same : r + length m ≡ at + length l
  pub length_same : length t ≡ length s

module _ {s : List ℕ} {at : ℕ} {l : List ℕ} where
  pub left-first : Left s at l s at l
  left-first = record { bytes_same = refl; next_same = refl; length_same = refl }

  pub left_fits : {t m : List ℕ} {r : ℕ} → Fits s at l → Left s at l t r m → Fits t r m
  left_fits f k = record { room = omega (arith, f.room, k.next_same, k.length_same) }

  pub left-next : (x m : List ℕ) {t u : List ℕ} {r q : ℕ} → Fits s at l → Left s at l t r (x ++ m) → Wrote t r x u q → Left s at l u q m
  left-next x m {t} {u} {r} {q} f k w =
      let fits : Fits t r x = fits_front x m (left_fits f k) in
      record {
        bytes_same = ap₂ (λ (y : List ℕ) (n : ℕ). written y n m) w.bytes_are w.next_is ∙ written_append t r x fits m ∙ k.bytes_same;
        next_same = omega (arith, w.next_is, k.next_same, length-append x m);
        length_same = wrote_length fits w ∙ k.length_same;
      }

  pub left_none : {t : List ℕ} {r : ℕ} → Left s at l t r [] → Wrote s at l t r
  left_none {t} {r} k = record { bytes_are = (wrote_none t r).bytes_are ∙ k.bytes_same; next_is = sym (add-zero r) ∙ k.next_same }
