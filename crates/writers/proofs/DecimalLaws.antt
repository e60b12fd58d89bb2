-- Laws of the digits of a number.
--
--     decimal_one, decimal_more    a number of one digit, and the last digit of a longer one
--     length-decimal               a number below 10 ^ k has at most k digits, for k from 1 on
--     value_of a l                  the number that the digits l continue the number a to
--     value_decimal                the digits of n, read from left to right, are n
--     no_leading_zero              a number that begins with the digit 0 is 0
-- Assumes nothing.
use Prim.Native.Nat.{ℕ, zero, suc, ◌+◌, ◌-◌, ◌*◌, ◌/◌, ◌%◌, ◌^◌, ◌≤◌, ◌<◌}
use mathlib.Core.Path.{◌≡◌, refl, sym, ap, ◌∙◌}
use mathlib.Core.List.{List, [], ◌∷◌, ◌++◌}
use native.Mathlib.Omega.{arith}
use native.Mathlib.Nat.{lt_of_not-le}
use native.Mathlib.Decide.{dec_le}
use borrow.Author.Tests.{lt-ltb, le-ltb}
use lib.ListN.{length, get_or, length-append, get_or-append}
use Rattle.writers.specs.Lines.{digits, decimal}

digits_one : (k n : ℕ) → n < 10 → digits (suc k) n ≡ (48 + n) ∷ []
unfolding digits
digits_one k n h = rw (lt-ltb n 10 h) refl

digits_more : (k n : ℕ) → 10 ≤ n → digits (suc k) n ≡ digits k (n / 10) ++ ((48 + n % 10) ∷ [])
unfolding digits
digits_more k n h = rw (le-ltb n 10 h) refl

-- any k above n is enough
digits_enough : (j k n : ℕ) → n < j → n < k → digits j n ≡ digits k n
digits_enough zero k n g h = absurd (omega arith)
digits_enough (suc j) zero n g h = absurd (omega arith)
digits_enough (suc j) (suc k) n g h = elim (dec_le 10 n) [
  | yes m ↦
      digits_more j n m ∙ ap (λ (l : List ℕ). l ++ ((48 + n % 10) ∷ [])) (digits_enough j k (n / 10) (omega arith) (omega arith))
      ∙ sym (digits_more k n m)
  | no m ↦ digits_one j n (lt_of_not-le m) ∙ sym (digits_one k n (lt_of_not-le m))
]

pub decimal_one : (n : ℕ) → n < 10 → decimal n ≡ (48 + n) ∷ []
unfolding decimal
decimal_one n h = digits_one n n h

pub decimal_more : (n : ℕ) → 10 ≤ n → decimal n ≡ decimal (n / 10) ++ ((48 + n % 10) ∷ [])
unfolding decimal
decimal_more n h =
    digits_more n n h ∙ ap (λ (l : List ℕ). l ++ ((48 + n % 10) ∷ [])) (digits_enough n (suc (n / 10)) (n / 10) (omega arith) (omega arith))

pub length-decimal : (k n : ℕ) → n < 10 ^ suc k → length (decimal n) ≤ suc k
length-decimal zero n h = rw (decimal_one n h) (omega arith)
length-decimal (suc k) n h = elim (dec_le 10 n) [
  | yes m ↦
      let shorter : n / 10 < 10 ^ suc k = omega arith in
      rw (decimal_more n m, length-append (decimal (n / 10)) ((48 + n % 10) ∷ [])) (omega (arith, length-decimal k (n / 10) shorter))
  | no m ↦ rw (decimal_one n (lt_of_not-le m)) (omega arith)
]

pub value_of : ℕ → List ℕ → ℕ
value_of a [] = a
value_of a (d ∷ l) = value_of (10 * a + (d - 48)) l

value_append : (a : ℕ) (l : List ℕ) (d : ℕ) → value_of a (l ++ (d ∷ [])) ≡ 10 * value_of a l + (d - 48)
unfolding value_of
value_append a [] d = refl
value_append a (c ∷ l) d = value_append (10 * a + (c - 48)) l d

value_digits : (k n : ℕ) → n < k → value_of 0 (digits k n) ≡ n
unfolding value_of
value_digits zero n h = absurd (omega arith)
value_digits (suc k) n h = elim (dec_le 10 n) [
  | yes m ↦ rw (digits_more k n m, value_append 0 (digits k (n / 10)) (48 + n % 10), value_digits k (n / 10) (omega arith)) (omega arith)
  | no m ↦ rw (digits_one k n (lt_of_not-le m)) (omega arith)
]

pub value_decimal : (n : ℕ) → value_of 0 (decimal n) ≡ n
unfolding decimal
value_decimal n = value_digits (suc n) n (omega arith)

some_digit : (k n : ℕ) → n < k → 1 ≤ length (digits k n)
some_digit zero n h = absurd (omega arith)
some_digit (suc k) n h = elim (dec_le 10 n) [
  | yes m ↦ rw (digits_more k n m, length-append (digits k (n / 10)) ((48 + n % 10) ∷ [])) (omega arith)
  | no m ↦ rw (digits_one k n (lt_of_not-le m)) (omega arith)
]

first_digit : (k n : ℕ) → n < k → get_or (digits k n) 0 0 ≡ 48 → n ≡ 0
first_digit zero n h e = absurd (omega arith)
first_digit (suc k) n h e = elim (dec_le 10 n) [
  | yes m ↦
      let front : get_or (digits (suc k) n) 0 0 ≡ get_or (digits k (n / 10)) 0 0 =
      ap (λ (l : List ℕ). get_or l 0 0) (digits_more k n m)
      ∙ get_or-append (digits k (n / 10)) ((48 + n % 10) ∷ []) 0 0 (some_digit k (n / 10) (omega arith)) in
      let none : n / 10 ≡ 0 = first_digit k (n / 10) (omega arith) (sym front ∙ e) in
      omega arith
  | no m ↦
      let first : 48 + n ≡ 48 = sym (ap (λ (l : List ℕ). get_or l 0 0) (digits_one k n (lt_of_not-le m))) ∙ e in
      omega arith
]

pub no_leading_zero : (n : ℕ) → get_or (decimal n) 0 0 ≡ 48 → n ≡ 0
unfolding decimal
no_leading_zero n e = first_digit (suc n) n (omega arith) e
