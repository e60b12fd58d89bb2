-- What a decision's answer says: the form of the contracts `(r ≡ true) ↔ A`.
--
--     says-yes     the answer true, of what holds
--     says_no      the answer false, of what does not hold
--     says_same    an answer to one of two statements that hold together is one to the other
--     says_all     the answer of `all` over the numbers of a list, where no number has both what its closure's true and false say
--     says_range   the same over the numbers from a on
-- Assumes nothing.
use Prim.Native.Nat.{ℕ, ◌+◌, ◌-◌, ◌≤◌, ◌<◌}
use native.Mathlib.Omega.{arith}
use lib.ListN.{length, get_or}
use mathlib.Core.List.{List}
use mathlib.Core.Bool.{Bool, true, false, false≢true}
use mathlib.Core.Logic.{◌↔◌}
use mathlib.Core.Path.{◌≡◌, refl, sym, subst}
use Rattle.std.specs.Bool.{MatchBool}
use Rattle.std.specs.List.{AllWithin, HoldsAt, range_with_len}
use Rattle.std.proofs.lemmas.List.FromFn.{length-range_with_len, get_or-range_with_len}

pub says-yes : {A : Type 0} → A → (true ≡ true) ↔ A
says-yes a = (λ e. a, λ x. refl)

pub says_no : {A : Type 0} → (A → ⊥) → (false ≡ true) ↔ A
says_no f = (λ e. absurd (false≢true e), λ a. absurd (f a))

pub says_same : {A B : Type 0} {r : Bool} → (A → B) → (B → A) → (r ≡ true) ↔ A → (r ≡ true) ↔ B
says_same f g s = (λ e. f (s.0 e), λ b. s.1 (g b))

pub says_all : (Yes No : ℕ → Type 0) → ((x : ℕ) → Yes x → No x → ⊥) → (r : Bool) (xs : List ℕ)
    → MatchBool r (AllWithin Yes xs 0 (length xs)) ((k : ℕ) × (k < length xs) × HoldsAt No xs k)
    → (r ≡ true) ↔ ((k : ℕ) → k < length xs → Yes (get_or xs k 0))
says_all Yes No apart true xs m = (λ e k h. m k 0 (omega arith) h, λ a. refl)
says_all Yes No apart false xs m =
    (λ e. absurd (false≢true e), λ a. absurd (apart (get_or xs m.0 0) (a m.0 m.1) (m.2 0)))

pub says_range : (Yes No : ℕ → Type 0) → ((x : ℕ) → Yes x → No x → ⊥) → (r : Bool) (a n : ℕ)
    → MatchBool r (AllWithin Yes (range_with_len a n) 0 (length (range_with_len a n)))
    ((k : ℕ) × (k < length (range_with_len a n)) × HoldsAt No (range_with_len a n) k)
    → (r ≡ true) ↔ ((x : ℕ) → a ≤ x → x < a + n → Yes x)
says_range Yes No apart r a n m =
    says_same
    (λ all x from below. let h : x - a < n = omega arith in let e : a + (x - a) ≡ x = omega arith in
    subst Yes e (subst Yes (get_or-range_with_len a n (x - a) 0 h) (all (x - a) (let l = length-range_with_len a n in omega arith))))
    (λ all k h. let l : k < n = omega (arith, length-range_with_len a n) in
    subst Yes (sym (get_or-range_with_len a n k 0 l)) (all (a + k) (omega arith) (omega arith)))
    (says_all Yes No apart r (range_with_len a n) m)
