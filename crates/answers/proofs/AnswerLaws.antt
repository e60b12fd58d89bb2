-- Laws of the fault's numbers.
--
--     number_of-some, number_of_le    a number is not 0, and fits the 8 bits that the C interface has for it
--     number_of_injective   two faults have two numbers
--     not_both             no answer is a refusal and accepted
--     holds-yes, holds_no        a decision says yes of what holds, and no of what does not
--     holds-true, holds-false    and what it says is so
--     refuse_not, refuse_else    an answer that is accepted passed the test, and is what comes after it
--     refuse-past          so did a refusal by a number that is not the test's
--     pass_up-low, pass_up-high    an answer that is accepted was accepted below, and is what comes after it
--     pass_up-past          so was one that is a refusal, where it is not the refusal below
--     pass_up_refused, pass_up_accepted    a refusal below is the answer above; where it is accepted below, what comes after is
--     handed_on, handed_up    a refusal that `?` hands up is the answer above
--     err_not              what `?` hands up is not accepted
--     refused_there        an error is a refusal
--     found_some, some_found, none_found    a number above 0 is found, and no other
-- Assumes nothing.
use Prim.Native.Nat.{ℕ, zero, suc, ◌≤◌}
use mathlib.Core.List.{List}
use native.Mathlib.Omega.{arith}
use mathlib.Core.Logic.{◌≢◌}
use mathlib.Core.Path.{◌≡◌, refl, sym, ap, ◌∙◌}
use mathlib.Core.Bool.{Bool, true, false, not, ◌||◌, false≢true}
use borrow.Author.Tests.{eq-eqb}
use lib.Dec.{T, eqb, leb, leb→le}
use Rattle.answers.specs.Answer.{Answer, accepted, refused, holds, refuse, pass_up, number_of, refused_by, answer_by}
use Rattle.std.specs.Prelude.{Result, Ok, Err, IsErr, IsErrAnd, Some, None}
use Rattle.answers.specs.Found.{found}
use Rattle.answers.specs.declared.Fault.{Fault}
use Rattle.answers.specs.declared.Refusal.{Refusal}
use Rattle.answers.proofs.Faults.{every_fault, each_fault, same, same_fault}

-- 0 stands for acceptance
pub number_of-some : (f : Fault) → 1 ≤ number_of f
unfolding every_fault
number_of-some f = leb→le 1 (number_of f) (each_fault (λ f. leb 1 (number_of f)) tt f)

pub number_of_le : (f : Fault) → number_of f ≤ 255
unfolding every_fault
number_of_le f = leb→le (number_of f) 255 (each_fault (λ f. leb (number_of f) 255) tt f)

-- of two faults with one number, the case is the same
apart : (f g : Fault) → T (not (eqb (number_of f) (number_of g)) || same f g)
unfolding every_fault same
apart f =
    let test : Fault → Fault → Bool = λ f g. not (eqb (number_of f) (number_of g)) || same f g in
    each_fault (test f) (each_fault (λ f. every_fault (test f)) tt f)

pub number_of_injective : (f g : Fault) → number_of f ≡ number_of g → f ≡ g
number_of_injective f g e = same_fault f g (rw (eq-eqb (number_of f) (number_of g) e) at (apart f g))

pub not_both : (n p : ℕ) (v : List ℕ) → refused n p ≡ accepted v → ⊥
not_both n p v e = let z : ◌≡◌ {A = ℕ} 0 1 = cc in omega arith

module _ {A : Type 0} where
  pub holds-yes : (d : Dec A) → A → holds d ≡ true
  holds-yes (yes a) x = refl
  holds-yes (no f) x = absurd (f x)

  pub holds_no : (d : Dec A) → (A → ⊥) → holds d ≡ false
  holds_no (yes a) f = absurd (f a)
  holds_no (no f) g = refl

  pub holds-true : (d : Dec A) → holds d ≡ true → A
  holds-true (yes a) e = a
  holds-true (no f) e = absurd (false≢true e)

  pub holds-false : (d : Dec A) → holds d ≡ false → A → ⊥
  holds-false (yes a) e x = false≢true (sym e)
  holds-false (no f) e x = f x

pub refuse_not : (t : Bool) (n p : ℕ) (a : Answer) (v : List ℕ) → refuse t n p a ≡ accepted v → t ≡ false
refuse_not true n p a v e = absurd (not_both n p v e)
refuse_not false n p a v e = refl

pub refuse_else : (t : Bool) (n p : ℕ) (a : Answer) (v : List ℕ) → refuse t n p a ≡ accepted v → a ≡ accepted v
refuse_else true n p a v e = absurd (not_both n p v e)
refuse_else false n p a v e = e

pub refuse-past : (t : Bool) (n p : ℕ) (a : Answer) (f j : ℕ) → n ≢ f → refuse t n p a ≡ refused f j → (t ≡ false) × (a ≡ refused f j)
refuse-past true n p a f j d e = absurd (d (cc))
refuse-past false n p a f j d e = (refl, e)

pub pass_up-low : (b a : Answer) (v : List ℕ) → pass_up b a ≡ accepted v → (w : List ℕ) × (b ≡ accepted w)
pass_up-low (accepted w) a v e = (w, refl)
pass_up-low (refused n p) a v e = absurd (not_both n p v e)

pub pass_up-high : (b a : Answer) (v : List ℕ) → pass_up b a ≡ accepted v → a ≡ accepted v
pass_up-high (accepted w) a v e = e
pass_up-high (refused n p) a v e = absurd (not_both n p v e)

pub pass_up-past : (b a : Answer) (f j : ℕ) → b ≢ refused f j → pass_up b a ≡ refused f j
    → ((w : List ℕ) × (b ≡ accepted w)) × (a ≡ refused f j)
pass_up-past (accepted w) a f j d e = ((w, refl), e)
pass_up-past (refused n p) a f j d e = absurd (d e)

-- a refusal below is the answer above
pub pass_up_refused : (b a : Answer) (n p : ℕ) → b ≡ refused n p → b ≡ pass_up b a
pass_up_refused (accepted v) a n p e = absurd (not_both n p v (sym e))
pass_up_refused (refused m q) a n p e = refl

pub pass_up_accepted : (b a : Answer) (v : List ℕ) → b ≡ accepted v → pass_up b a ≡ a
pass_up_accepted b a v e = ap (λ (x : Answer). pass_up x a) e

-- r is what `?` makes of a lower reader's refusal e
module _ {X : Type 0} (values : X → List ℕ) where
  pub handed_on : (r : Result X Refusal) (e : Refusal) {a : Answer} → IsErrAnd r (λ x. x ≡ e) → refused_by e.0 e.1 ≡ a
      → answer_by values r ≡ a
  handed_on (Ok x) e is told = absurd is
  handed_on (Err x) e is told = ap (λ (y : Refusal). refused_by y.0 y.1) is ∙ told

  pub handed_up : (r : Result X Refusal) (e : Refusal) {below : Answer} → IsErrAnd r (λ x. x ≡ e) → refused_by e.0 e.1 ≡ below
      → (above : Answer) → answer_by values r ≡ pass_up below above
  handed_up r e {below} is told above = handed_on r e is (told ∙ pass_up_refused below above _ _ (sym told))

pub err_not : {X : Type 0} (values : X → List ℕ) (r : Result X Refusal) → IsErr r → (v : List ℕ) → answer_by values r ≡ accepted v → ⊥
err_not values (Ok x) is v e = absurd (false≢true is)
err_not values (Err x) is v e = not_both _ _ v e

pub refused_there : {X : Type 0} (values : X → List ℕ) (r : Result X Refusal) → IsErr r → {a : Answer} → answer_by values r ≡ a
    → (n : ℕ) × (p : ℕ) × (refused n p ≡ a)
refused_there values (Ok x) is e = absurd (false≢true is)
refused_there values (Err x) is e = (_, _, e)

pub found_some : (n : ℕ) → 1 ≤ n → Some n ≡ found n
found_some zero h = absurd (omega arith)
found_some (suc n) h = refl

pub some_found : (q n : ℕ) → Some q ≡ found n → (q ≡ n) × (1 ≤ n)
some_found q zero e = absurd (cc e)
some_found q (suc n) e = (cc e, omega arith)

pub none_found : (n : ℕ) → None ≡ found n → n ≡ 0
none_found zero e = refl
none_found (suc n) e = absurd (cc e)
