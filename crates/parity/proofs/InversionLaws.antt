-- Laws of inversions: where two different numbers of a list without repetition change places, the parity changes.
--
--     Replaced x y l l'        l' is l with x in the place of y, and no number before that place is x or y
--     Exchanged l l'           l' is l with two of its numbers exchanged, and none between them is one of the two
--     exchanged_parity         then the inversions of the one or of the other are odd, and not of both
--     values_same              functions with the same values have the same list of them
--     replaced_values, exchanged_values    values of functions that differ so are such lists
--     exchange_parity          two functions on n positions that differ by an exchange: the parity of their inversions differs
--     smaller_none, sorted_none    a list in ascending order has no inversions
-- Assumes nothing.
use Prim.Native.Nat.{ℕ, zero, suc, ◌+◌, ◌%◌, ◌≤◌, ◌<◌}
use mathlib.Core.Path.{◌≡◌, refl, sym, ap, ap₂, ◌∙◌}
use mathlib.Core.Bool.{Bool, cond}
use mathlib.Core.List.{List, ◌∷◌}
use mathlib.Core.Logic.{◌≢◌, by_cases}
use native.Mathlib.Decide.{ℕ_discrete, dec_lt}
use native.Mathlib.Omega.{arith}
use borrow.Author.Tests.{lt-ltb, le-ltb}
use lib.Dec.{ltb}
use Rattle.floor.specs.Sides.{count_of}
use Rattle.parity.specs.Permutation.{values_from, smaller, inversions}

-- 1 where the test holds, else 0
unfoldable one_if : Bool → ℕ
one_if t = cond t 1 0

one_less : (a b : ℕ) → a < b → one_if (ltb a b) ≡ 1
unfolding one_if
one_less a b l = rw (lt-ltb a b l) refl

none_less : (a b : ℕ) → b ≤ a → one_if (ltb a b) ≡ 0
unfolding one_if
none_less a b l = rw (le-ltb a b l) refl

-- of two different numbers one is below the other
either_way : (a b : ℕ) → a ≢ b → one_if (ltb a b) + one_if (ltb b a) ≡ 1
either_way a b d =
    by_cases (dec_lt a b)
    (λ l. omega (arith, one_less a b l, none_less b a (omega arith)))
    (λ l. omega (arith, one_less b a (omega arith), none_less a b (omega arith)))

pub data Replaced (x y : ℕ) : List ℕ → List ℕ → Type 0 where
  now : {r : List ℕ} → Replaced x y (y ∷ r) (x ∷ r)
  past : {z : ℕ} {r s : List ℕ} → z ≢ x → z ≢ y → Replaced x y r s → Replaced x y (z ∷ r) (z ∷ s)

pub data Exchanged : List ℕ → List ℕ → Type 0 where
  here : {x y : ℕ} {r s : List ℕ} → x ≢ y → Replaced x y r s → Exchanged (x ∷ r) (y ∷ s)
  later : {z : ℕ} {r s : List ℕ} → Exchanged r s → Exchanged (z ∷ r) (z ∷ s)

smaller_step : (x y : ℕ) (l : List ℕ) → smaller x (y ∷ l) ≡ one_if (ltb y x) + smaller x l
unfolding count_of one_if
smaller_step x y l = refl

inversions_step : (x : ℕ) (l : List ℕ) → inversions (x ∷ l) ≡ smaller x l + inversions l
unfolding inversions
inversions_step x l = refl

-- the list loses y and gains x
replaced_smaller : {x y : ℕ} {r s : List ℕ} (z : ℕ) → Replaced x y r s → smaller z r + one_if (ltb x z) ≡ smaller z s + one_if (ltb y z)
replaced_smaller {x} {y} z (now {r}) = omega (arith, smaller_step z x r, smaller_step z y r)
replaced_smaller {x} {y} z (past {z = u} {r = r} {s = s} dx dy h) =
    omega (arith, smaller_step z u r, smaller_step z u s, replaced_smaller z h)

replaced_parity : {x y : ℕ} {r s : List ℕ} → x ≢ y → Replaced x y r s
    → (smaller x r + inversions r + (smaller y s + inversions s)) % 2 ≡ 1
replaced_parity {x} {y} d (now {r}) =
    let e₀ = smaller_step x y r in
    let e₁ = smaller_step y x r in
    let e₂ = inversions_step y r in
    let e₃ = inversions_step x r in
    let one = either_way x y d in
    omega arith
replaced_parity {x} {y} d (past {z = z} {r = r} {s = s} dx dy h) =
    let e₀ = smaller_step x z r in
    let e₁ = smaller_step y z s in
    let e₂ = inversions_step z r in
    let e₃ = inversions_step z s in
    let a = either_way z x dx in
    let b = either_way z y dy in
    let w = replaced_smaller z h in
    let k = replaced_parity d h in
    omega arith

exchanged-smaller : {l m : List ℕ} (z : ℕ) → Exchanged l m → smaller z l ≡ smaller z m
exchanged-smaller z (here {x = x} {y = y} {r = r} {s = s} d h) =
    let e₀ = smaller_step z x r in
    let e₁ = smaller_step z y s in
    let w = replaced_smaller z h in
    omega arith
exchanged-smaller z (later {z = u} {r = r} {s = s} h) =
    let e₀ = smaller_step z u r in
    let e₁ = smaller_step z u s in
    let w = exchanged-smaller z h in
    omega arith

pub exchanged_parity : {l m : List ℕ} → Exchanged l m → (inversions l + inversions m) % 2 ≡ 1
exchanged_parity (here {x = x} {y = y} {r = r} {s = s} d h) =
    let e₀ = inversions_step x r in
    let e₁ = inversions_step y s in
    let k = replaced_parity d h in
    omega arith
exchanged_parity (later {z = z} {r = r} {s = s} h) =
    let e₀ = inversions_step z r in
    let e₁ = inversions_step z s in
    let w = exchanged-smaller z h in
    let k = exchanged_parity h in
    omega arith

pub values_same : (f g : ℕ → ℕ) (i k : ℕ) → ((p : ℕ) → i ≤ p → p < i + k → f p ≡ g p) → values_from f i k ≡ values_from g i k
unfolding values_from
values_same f g i zero same = refl
values_same f g i (suc k) same =
    ap₂ (λ (x : ℕ) (l : List ℕ). x ∷ l) (same i (omega arith) (omega arith))
    (values_same f g (suc i) k (λ p a b. same p (omega arith) (omega arith)))

module _ (f g : ℕ → ℕ) where
  pub replaced_values : (i k b x y : ℕ) → i ≤ b → b < i + k → f b ≡ y → g b ≡ x
      → ((p : ℕ) → i ≤ p → p < i + k → p ≢ b → (f p ≡ g p) × ((f p ≢ x) × (f p ≢ y)))
      → Replaced x y (values_from f i k) (values_from g i k)
  unfolding values_from
  replaced_values i zero b x y l h fb gb else = absurd (omega arith)
  replaced_values i (suc k) b x y l h fb gb else =
      by_cases (ℕ_discrete b i)
      (λ e.
      let rest : values_from f (suc i) k ≡ values_from g (suc i) k =
      values_same f g (suc i) k (λ p a c. (else p (omega arith) (omega arith) (λ q. omega arith)).0) in
      let fi : f i ≡ y = ap f (sym e) ∙ fb in
      let gi : g i ≡ x = ap g (sym e) ∙ gb in
      rw (fi, gi, rest) now)
      (λ d.
      let t = else i (omega arith) (omega arith) (λ q. d (sym q)) in
      rw (← t.0) (past t.1.0 t.1.1
      (replaced_values (suc i) k b x y (omega arith) (omega arith) fb gb (λ p a c. else p (omega arith) (omega arith)))))

  module _ (a b : ℕ) (lower : a < b) (n : ℕ) (inside : b < n) (there : g a ≡ f b) (back : g b ≡ f a)
      (else : (p : ℕ) → p < n → p ≢ a → p ≢ b → f p ≡ g p) (apart : (p q : ℕ) → p < n → q < n → f p ≡ f q → p ≡ q) where
    pub exchanged_values : (i k : ℕ) → i ≤ a → i + k ≡ n → Exchanged (values_from f i k) (values_from g i k)
    unfolding values_from
    exchanged_values i zero l e = absurd (omega arith)
    exchanged_values i (suc k) l e =
        by_cases (ℕ_discrete a i)
        (λ s.
        let fi : f i ≡ f a = ap f (sym s) in
        let gi : g i ≡ f b = ap g (sym s) ∙ there in
        rw (fi, gi)
        (here (λ (c : f a ≡ f b). omega (arith, apart a b (omega arith) inside c))
        (replaced_values (suc i) k b (f a) (f b) (omega arith) (omega arith) refl back
        (λ p u v d. (
          else p (omega arith) (λ q. omega arith) d,
          (λ (c : f p ≡ f a). omega (arith, apart p a (omega arith) (omega arith) c), λ c. d (apart p b (omega arith) inside c)),
        )))))
        (λ s.
        rw (← else i (omega arith) (λ q. s (sym q)) (λ q. omega arith)) (later (exchanged_values (suc i) k (omega arith) (omega arith))))

-- whichever of the two positions is the lower
pub exchange_parity : (f g : ℕ → ℕ) (n a b : ℕ) → a < n → b < n → a ≢ b → g a ≡ f b → g b ≡ f a
    → ((p : ℕ) → p < n → p ≢ a → p ≢ b → f p ≡ g p) → ((p q : ℕ) → p < n → q < n → f p ≡ f q → p ≡ q)
    → (inversions (values_from f 0 n) + inversions (values_from g 0 n)) % 2 ≡ 1
exchange_parity f g n a b la lb d there back else apart =
    by_cases (dec_lt a b)
    (λ l. exchanged_parity (exchanged_values f g a b l n lb there back else apart 0 n (omega arith) (omega arith)))
    (λ l. exchanged_parity
    (exchanged_values f g b a (omega arith) n la back there (λ p h u v. else p h v u) apart 0 n (omega arith) (omega arith)))

pub smaller_none : (f : ℕ → ℕ) (x i k : ℕ) → ((p : ℕ) → i ≤ p → p < i + k → x ≤ f p) → smaller x (values_from f i k) ≡ 0
unfolding values_from
smaller_none f x i zero high = unfold count_of in refl
smaller_none f x i (suc k) high =
    let e = smaller_step x (f i) (values_from f (suc i) k) in
    let c = none_less (f i) x (high i (omega arith) (omega arith)) in
    let r = smaller_none f x (suc i) k (λ p a b. high p (omega arith) (omega arith)) in
    omega arith

pub sorted_none : (f : ℕ → ℕ) (i k : ℕ) → ((p q : ℕ) → i ≤ p → p < q → q < i + k → f p ≤ f q) → inversions (values_from f i k) ≡ 0
unfolding values_from
sorted_none f i zero up = unfold inversions in refl
sorted_none f i (suc k) up =
    let e = inversions_step (f i) (values_from f (suc i) k) in
    let s = smaller_none f (f i) (suc i) k (λ p a b. up i p (omega arith) (omega arith) (omega arith)) in
    let r = sorted_none f (suc i) k (λ p q a b c. up p q (omega arith) b (omega arith)) in
    omega arith
