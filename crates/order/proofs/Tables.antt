-- The loops that fill the tables: what is left to fill decides the table at the end.
--
--     ToMark g j                            the edges from edge j + 1 on are still to be marked in the matrix g
--     mark_first, mark_next, mark_last      how that loop begins, goes on and ends
--     ToPlace h i                           the racks from rack i + 1 on are still to be put into the table h
--     place-first, place-next, place_last   how that loop begins, goes on and ends
--     shifted_both                          a 1 shifted by a position and put into a row is that position joined to it
--     ToJoin g j                            the edges from edge j + 1 on are still to be joined in the rows g
--     join_first, join-next, join_last      how that loop begins, goes on and ends
-- Assumes nothing.
use Prim.Native.Nat.{ℕ, ◌+◌, ◌-◌, ◌*◌, ◌%◌, ◌^◌, ◌≤◌, ◌<◌}
use mathlib.Core.Path.{◌≡◌, refl, sym, ap, ◌∙◌}
use mathlib.Core.List.{List}
use native.Mathlib.Omega.{arith}
use native.Mathlib.Nat.{sub-zero, add-zero}
use lib.Bits.{bit_or}
use lib.ListN.{get_or, set}
use Rattle.field.specs.Bits.{field, pairs, positions}
use Rattle.field.proofs.RecordLaws.{pairs_next, positions-next}
use Rattle.sets.proofs.SetLaws.{shifted}
use Rattle.order.specs.Tables.{marked, placed, joining, joined_rows}

module _ (s : List ℕ) (e : ℕ) (g₀ : List ℕ) where
  unfoldable pub ToMark : List ℕ → ℕ → Type 0
  ToMark g j = marked g (pairs s (12 * j) (e - j)) ≡ marked g₀ (pairs s 0 e)

  pub mark_first : ToMark g₀ 0
  unfolding ToMark
  mark_first = rw (sub-zero e) refl

  pub mark_next : (g : List ℕ) (j a b : ℕ) → ToMark g j → j < e → a ≡ field s (12 * j) 6 → b ≡ field s (12 * j + 6) 6
      → ToMark (set (set g (a * 64 + b) 1) (b * 64 + a) 1) (j + 1)
  unfolding ToMark marked
  mark_next g j a b left h ea eb = rw (ea, eb) (ap (marked g) (sym (pairs_next s j e h)) ∙ left)

  pub mark_last : (g : List ℕ) (j : ℕ) → ToMark g j → e ≤ j → g ≡ marked g₀ (pairs s 0 e)
  unfolding ToMark marked pairs
  mark_last g j left h =
      let none : e - j ≡ 0 = omega arith in
      rw none at left

module _ (s : List ℕ) (from m : ℕ) (h₀ : List ℕ) where
  unfoldable pub ToPlace : List ℕ → ℕ → Type 0
  ToPlace h i = placed h (i + 1) (positions s (6 * (from + i)) (m - i)) ≡ placed h₀ 1 (positions s (6 * from) m)

  pub place-first : ToPlace h₀ 0
  unfolding ToPlace
  place-first = rw (add-zero from, sub-zero m) refl

  pub place-next : (h : List ℕ) (i p : ℕ) → ToPlace h i → i < m → p ≡ field s (6 * (from + i)) 6 → ToPlace (set h p (i + 1)) (i + 1)
  unfolding ToPlace placed
  place-next h i p left l e = rw e (ap (placed h (i + 1)) (sym (positions-next s from i m l)) ∙ left)

  pub place_last : (h : List ℕ) (i : ℕ) → ToPlace h i → m ≤ i → h ≡ placed h₀ 1 (positions s (6 * from) m)
  unfolding ToPlace placed positions
  place_last h i left l =
      let none : m - i ≡ 0 = omega arith in
      rw none at left

-- a 1 shifted by b and put into the row of a
abbrev pub shifting : List ℕ → ℕ → ℕ → List ℕ
shifting g a b = set g a (bit_or (get_or g a 0) ((1 * 2 ^ b) % 18446744073709551616))

shifting_is : (g : List ℕ) (a b : ℕ) → b < 64 → shifting g a b ≡ joining g a b
shifting_is g a b l = ap (λ (s : ℕ). set g a (bit_or (get_or g a 0) s)) (shifted b l)

pub shifted_both : (g : List ℕ) (a b : ℕ) → a < 64 → b < 64 → shifting (shifting g a b) b a ≡ joining (joining g a b) b a
shifted_both g a b h k = shifting_is (shifting g a b) b a h ∙ ap (λ (g : List ℕ). joining g b a) (shifting_is g a b k)

module _ (s : List ℕ) (e : ℕ) (g₀ : List ℕ) where
  unfoldable pub ToJoin : List ℕ → ℕ → Type 0
  ToJoin g j = joined_rows g (pairs s (12 * j) (e - j)) ≡ joined_rows g₀ (pairs s 0 e)

  pub join_first : ToJoin g₀ 0
  unfolding ToJoin
  join_first = rw (sub-zero e) refl

  pub join-next : (g : List ℕ) (j a b : ℕ) → ToJoin g j → j < e → a ≡ field s (12 * j) 6 → b ≡ field s (12 * j + 6) 6
      → ToJoin (joining (joining g a b) b a) (j + 1)
  unfolding ToJoin joined_rows
  join-next g j a b left h ea eb = rw (ea, eb) (ap (joined_rows g) (sym (pairs_next s j e h)) ∙ left)

  pub join_last : (g : List ℕ) (j : ℕ) → ToJoin g j → e ≤ j → g ≡ joined_rows g₀ (pairs s 0 e)
  unfolding ToJoin joined_rows pairs
  join_last g j left h =
      let none : e - j ≡ 0 = omega arith in
      rw none at left
