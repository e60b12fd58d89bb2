-- The family word of a number between two tens.
--
--     within-yes, within-under, within_over     the test's value from where the number lies
--     word_order, word_floor, word-plan, word-timetable    the word of a number in a family
--     word-under, word_over, word_other         the word of one below all families, above all, and of either
-- Assumes nothing.
use Prim.Native.Nat.{ℕ, ◌≤◌, ◌<◌}
use mathlib.Core.Path.{◌≡◌}
use mathlib.Core.Bool.{true, false, and-false}
use native.Mathlib.Omega.{arith}
use borrow.Author.Tests.{le-leb, lt-leb}
use mathlib.Core.Logic.{inl, inr}
use Rattle.std.proofs.lemmas.Bool.{cases_lt}
use Rattle.answers.specs.Ascii.{ascii}
use Rattle.answers.specs.Family.{within, family_word}

within-yes : (a b n : ℕ) → a ≤ n → n ≤ b → within a b n ≡ true
unfolding within
within-yes a b n h k = simp (le-leb a n h, le-leb n b k)

within-under : (a b n : ℕ) → n < a → within a b n ≡ false
unfolding within
within-under a b n h = simp (lt-leb a n h)

within_over : (a b n : ℕ) → b < n → within a b n ≡ false
unfolding within
within_over a b n h = simp (lt-leb n b h, and-false)

module _ (n : ℕ) where
  pub word_order : 10 ≤ n → n < 20 → ascii "order" ≡ family_word n
  unfolding family_word
  word_order h k = rw (within-yes 10 19 n h (omega arith))

  pub word_floor : 20 ≤ n → n < 30 → ascii "floor" ≡ family_word n
  unfolding family_word
  word_floor h k = rw (within_over 10 19 n (omega arith), within-yes 20 29 n h (omega arith))

  pub word-plan : 30 ≤ n → n < 40 → ascii "plan" ≡ family_word n
  unfolding family_word
  word-plan h k = rw (within_over 10 19 n (omega arith), within_over 20 29 n (omega arith), within-yes 30 39 n h (omega arith))

  pub word-timetable : 40 ≤ n → n < 50 → ascii "timetable" ≡ family_word n
  unfolding family_word
  word-timetable h k = rw (
    within_over 10 19 n (omega arith),
    within_over 20 29 n (omega arith),
    within_over 30 39 n (omega arith),
    within-yes 40 49 n h (omega arith),
  )

  word-under : n < 10 → ascii "other" ≡ family_word n
  unfolding family_word
  word-under h = rw (
    within-under 10 19 n (omega arith),
    within-under 20 29 n (omega arith),
    within-under 30 39 n (omega arith),
    within-under 40 49 n (omega arith),
  )

  word_over : 50 ≤ n → ascii "other" ≡ family_word n
  unfolding family_word
  word_over h = rw (
    within_over 10 19 n (omega arith),
    within_over 20 29 n (omega arith),
    within_over 30 39 n (omega arith),
    within_over 40 49 n (omega arith),
  )

  pub word_other : (10 ≤ n → 50 ≤ n) → ascii "other" ≡ family_word n
  word_other h = elim (cases_lt n 10) [ inl l ↦ word-under l | inr k ↦ word_over (h k) ]
