-- How many positions are in a set: `ones` counts the digits of a word.
--
--     ones_subset     a set within another has no more
--     ones_less       and fewer, where the other has one that it has not
--     ones-without    one position less: what bounds a loop that takes them one after another
--     ones_push       one position more
--     ones_least      at least n, where each position below n is in the set
--     ones_most       at most n, where no other position is
--     ones-all        with n and no others, each position below n is in the set
--     ones_parts      two sets apart within another have no more together
--     ones_one        the set of one position
--     Pair, ones_pair with two positions at least, two of them
--     ones_third      with two positions, there is no third
--     pigeonhole      k different numbers below n: k is at most n
--     sum_same, ones-sum    a sum goes by its values; below n, where no other position is in the set, the digits add up to how many are
-- Assumes nothing.
use Prim.Native.Nat.{ℕ, zero, suc, ◌+◌, ◌/◌, ◌%◌, ◌^◌, ◌≤◌, ◌<◌}
use mathlib.Core.Path.{◌≡◌, refl, sym, ap, subst, ◌∙◌}
use mathlib.Core.Logic.{◌↔◌, ◌≢◌, ◌⊎◌, inl, inr, ⊎_elim, by_cases}
use mathlib.Core.Bool.{cond}
use native.Mathlib.Decide.{ℕ_discrete}
use native.Mathlib.Nat.{not-suc-le-zero}
use native.Mathlib.Omega.{arith}
use borrow.Author.Tests.{eq-eqb, ne_eqb}
use lib.Arith.{bin_ind}
use lib.Bits.{bit_or}
use lib.Dec.{eqb}
use lib.Count.{ones, ones_step}
use Rattle.sets.specs.Sets.{bit, Has}
use Rattle.sets.specs.Sum.{sum_below}
use Rattle.sets.proofs.SetLaws.{bit-low, bit_high, bit_two, has_none, has_or_not, has_or, has_only, has_some}

ones_none : ones 0 ≡ 0
unfolding ones
ones_none = refl

half_within : (s t : ℕ) → ((p : ℕ) → Has s p → Has t p) → (p : ℕ) → Has (s / 2) p → Has (t / 2) p
half_within s t w p h = sym (bit_high t p) ∙ w (suc p) (bit_high s p ∙ h)

low-within : (s t : ℕ) → ((p : ℕ) → Has s p → Has t p) → s % 2 ≤ t % 2
low-within s t w =
    let a = bit-low s in
    let b = bit-low t in
    by_cases (ℕ_discrete (s % 2) 1) (λ e. let r = w 0 (omega arith) in omega arith) (λ e. omega arith)

pub ones_subset : (s t : ℕ) → ((p : ℕ) → Has s p → Has t p) → ones s ≤ ones t
ones_subset =
    bin_ind (λ (s : ℕ). (t : ℕ) → ((p : ℕ) → Has s p → Has t p) → ones s ≤ ones t)
    (λ t w. let z = ones_none in omega arith)
    (λ s ih t w.
    let a = ones_step s in
    let b = ones_step t in
    let l = low-within s t w in
    let r = ih (t / 2) (half_within s t w) in
    omega arith)

pub ones_less : (x s t : ℕ) → ((p : ℕ) → Has s p → Has t p) → Has t x → (Has s x → ⊥) → ones s < ones t
ones_less zero s t w on off =
    let a = ones_step s in
    let b = ones_step t in
    let e = bit-low s in
    let f = bit-low t in
    let r = ones_subset (s / 2) (t / 2) (half_within s t w) in
    ⊎_elim (λ h. absurd (off h)) (λ h. omega arith) (has_or_not s 0)
ones_less (suc x) s t w on off =
    let a = ones_step s in
    let b = ones_step t in
    let l = low-within s t w in
    let r = ones_less x (s / 2) (t / 2) (half_within s t w) (sym (bit_high t x) ∙ on) (λ h. off (bit_high s x ∙ h)) in
    omega arith

pub ones-without : (x s t : ℕ) → Has s x → ((p : ℕ) → Has t p ↔ (Has s p × (p ≢ x))) → ones t < ones s
ones-without x s t on less = ones_less x t s (λ p h. ((less p).0 h).0) on (λ h. ((less x).0 h).1 refl)

pub ones_push : (x s t : ℕ) → ((p : ℕ) → Has t p ↔ (Has s p ⊎ (p ≡ x))) → (Has s x → ⊥) → ones t ≡ ones s + 1
ones_push zero s t w off =
    let a = ones_step s in
    let b = ones_step t in
    let e = bit-low s in
    let f = bit-low t in
    let on = (w 0).1 (inr refl) in
    let r = ones_subset (s / 2) (t / 2) (half_within' (λ p h. (w (suc p)).1 (inl h))) in
    let q = ones_subset (t / 2) (s / 2) (λ p h. back p ((w (suc p)).0 (bit_high t p ∙ h))) in
    ⊎_elim (λ h. absurd (off h)) (λ h. omega arith) (has_or_not s 0)
  where
    half_within' : ((p : ℕ) → Has s (suc p) → Has t (suc p)) → (p : ℕ) → Has (s / 2) p → Has (t / 2) p
    half_within' f p h = sym (bit_high t p) ∙ f p (bit_high s p ∙ h)

    never : {p : ℕ} → suc p ≡ 0 → ⊥
    never e = omega arith

    back : (p : ℕ) → Has s (suc p) ⊎ (suc p ≡ 0) → Has (s / 2) p
    back p h = ⊎_elim (λ i. sym (bit_high s p) ∙ i) (λ e. absurd (never e)) h
ones_push (suc x) s t w off =
    let a = ones_step s in
    let b = ones_step t in
    let e = bit-low s in
    let f = bit-low t in
    let r = ones_push x (s / 2) (t / 2) (λ p. (
      λ h. ⊎_elim (λ i. inl (sym (bit_high s p) ∙ i)) (λ i. inr (down i)) ((w (suc p)).0 (bit_high t p ∙ h)),
      λ h. sym (bit_high t p) ∙ (w (suc p)).1 (⊎_elim (λ i. inl (bit_high s p ∙ i)) (λ i. inr (ap suc i)) h),
    )) (λ h. off (bit_high s x ∙ h)) in
    let same = low in
    omega arith
  where
    down : {p : ℕ} → suc p ≡ suc x → p ≡ x
    down e = omega arith

    never : 0 ≡ suc x → ⊥
    never e = omega arith

    low : t % 2 ≡ s % 2
    low =
        let e = bit-low s in
        let f = bit-low t in
        let h = bit_two s 0 in
        let g = bit_two t 0 in
        ⊎_elim (λ i. let j = (w 0).1 (inl i) in omega arith)
        (λ i. by_cases (ℕ_discrete (bit t 0) 1)
        (λ j. ⊎_elim (λ k. omega arith) (λ k. absurd (never k)) ((w 0).0 j))
        (λ j. omega arith))
        (has_or_not s 0)

pub ones_least : (n s : ℕ) → ((p : ℕ) → p < n → Has s p) → n ≤ ones s
ones_least zero s all = omega arith
ones_least (suc n) s all =
    let a = ones_step s in
    let e = bit-low s in
    let h = all 0 (omega arith) in
    let r = ones_least n (s / 2) (λ p l. sym (bit_high s p) ∙ all (suc p) (omega arith)) in
    omega arith

pub ones_most : (n s : ℕ) → ((p : ℕ) → Has s p → p < n) → ones s ≤ n
ones_most zero s none = let r = ones_subset s 0 (λ p h. absurd (not-suc-le-zero (none p h))) in let z = ones_none in omega arith
ones_most (suc n) s below =
    let a = ones_step s in
    let r = ones_most n (s / 2) (λ p h. let l = below (suc p) (bit_high s p ∙ h) in omega arith) in
    omega arith

pub ones-all : (n s : ℕ) → ((p : ℕ) → Has s p → p < n) → ones s ≡ n → (p : ℕ) → p < n → Has s p
ones-all zero s below e p l = absurd (not-suc-le-zero l)
ones-all (suc n) s below e zero l =
    let a = ones_step s in
    let b = bit-low s in
    let r = ones_most n (s / 2) (λ p h. let l = below (suc p) (bit_high s p ∙ h) in omega arith) in
    omega arith
ones-all (suc n) s below e (suc p) l =
    let a = ones_step s in
    let r = ones_most n (s / 2) (λ q h. let k = below (suc q) (bit_high s q ∙ h) in omega arith) in
    by_cases (ℕ_discrete (ones (s / 2)) n)
    (λ i. bit_high s p ∙ ones-all n (s / 2) (λ q h. let k = below (suc q) (bit_high s q ∙ h) in omega arith) i p (omega arith))
    (λ i. omega arith)

pub ones_parts : (s a b : ℕ) → ((p : ℕ) → Has a p → Has s p) → ((p : ℕ) → Has b p → Has s p) → ((p : ℕ) → Has a p → Has b p → ⊥)
    → ones a + ones b ≤ ones s
ones_parts =
    bin_ind (λ (s : ℕ). (a b : ℕ) → ((p : ℕ) → Has a p → Has s p) → ((p : ℕ) → Has b p → Has s p) → ((p : ℕ) → Has a p → Has b p → ⊥)
    → ones a + ones b ≤ ones s)
    (λ a b wa wb apart. let x = ones_subset a 0 wa in let y = ones_subset b 0 wb in let z = ones_none in omega arith)
    (λ s ih a b wa wb apart.
    let x = ones_step a in
    let y = ones_step b in
    let z = ones_step s in
    let la = low-within a s wa in
    let lb = low-within b s wb in
    let r = ih (a / 2) (b / 2) (half_within a s wa) (half_within b s wb) (λ p h i. apart (suc p) (bit_high a p ∙ h) (bit_high b p ∙ i)) in
    let low : a % 2 + b % 2 ≤ s % 2 = low_parts a b s la lb (apart 0) in
    omega arith)
  where
    low_parts : (a b s : ℕ) → a % 2 ≤ s % 2 → b % 2 ≤ s % 2 → (Has a 0 → Has b 0 → ⊥) → a % 2 + b % 2 ≤ s % 2
    low_parts a b s la lb apart =
        let x = bit-low a in
        let y = bit-low b in
        ⊎_elim (λ h. ⊎_elim (λ i. absurd (apart h i)) (λ i. omega arith) (has_or_not b 0)) (λ h. omega arith) (has_or_not a 0)

pub pigeonhole : (n : ℕ) (f : ℕ → ℕ) (k : ℕ) → ((i : ℕ) → i < k → f i < n) → ((i j : ℕ) → i < j → j < k → f i ≢ f j) → k ≤ n
pigeonhole n f zero below distinct = omega arith
pigeonhole zero f (suc k) below distinct = omega (arith, below 0 (omega arith))
pigeonhole (suc n) f (suc k) below distinct = omega (arith, pigeonhole n g k g_below g_distinct)
  where
    -- without the last number, which stands in for n
    g : ℕ → ℕ
    g i = cond (eqb (f i) n) (f k) (f i)

    g_is : (i : ℕ) → ((f i ≡ n) × (g i ≡ f k)) ⊎ ((f i ≢ n) × (g i ≡ f i))
    g_is i = by_cases (ℕ_discrete (f i) n) (λ e. inl (e, rw (eq-eqb (f i) n e) refl)) (λ e. inr (e, rw (ne_eqb (f i) n e) refl))

    g_below : (i : ℕ) → i < k → g i < n
    g_below i l =
        let a = below i (omega arith) in
        let b = below k (omega arith) in
        let c = distinct i k l (omega arith) in
        ⊎_elim (λ s. let x = s.0 in let y = s.1 in omega arith) (λ s. let x = s.0 in let y = s.1 in omega arith) (g_is i)

    g_distinct : (i j : ℕ) → i < j → j < k → g i ≢ g j
    g_distinct i j l h e =
        let a = distinct i j l (omega arith) in
        let b = distinct i k (omega arith) (omega arith) in
        let c = distinct j k h (omega arith) in
        ⊎_elim
        (λ s. ⊎_elim (λ t. omega (arith, s.0, s.1, t.0, t.1)) (λ t. omega (arith, s.0, s.1, t.0, t.1)) (g_is j))
        (λ s. ⊎_elim (λ t. omega (arith, s.0, s.1, t.0, t.1)) (λ t. omega (arith, s.0, s.1, t.0, t.1)) (g_is j))
        (g_is i)

pub ones_one : (v : ℕ) → ones (2 ^ v) ≡ 1
ones_one v =
    let z = ones_none in
    let e = ones_push v 0 (2 ^ v) alone (has_none v) in
    omega arith
  where
    alone : (p : ℕ) → Has (2 ^ v) p ↔ (Has 0 p ⊎ (p ≡ v))
    alone p = (λ h. inr ((has_only v p).0 h), λ h. ⊎_elim (λ x. absurd (has_none p x)) (λ x. (has_only v p).1 x) h)

-- Two different positions of a set.
pub record Pair (s : ℕ) : Type 0 where
  pub one : ℕ
  pub two : ℕ
  pub up : one < two
  pub has_one : Has s one
  pub has_two : Has s two

pub ones_pair : (s : ℕ) → 2 ≤ ones s → Pair s
ones_pair =
    bin_ind (λ (s : ℕ). 2 ≤ ones s → Pair s)
    (λ h. absurd (none h))
    (λ s ih h.
    let a = ones_step s in
    let b = bit-low s in
    ⊎_elim
    (λ low.
    let some = has_some (s / 2) (positive (s / 2) (omega arith)) in
    record { one = 0; two = suc some.0; up = omega arith; has_one = low; has_two = bit_high s some.0 ∙ some.1 })
    (λ low.
    let r = ih (omega arith) in
    let u = r.up in
    record {
      one = suc r.one;
      two = suc r.two;
      up = omega arith;
      has_one = bit_high s r.one ∙ r.has_one;
      has_two = bit_high s r.two ∙ r.has_two;
    })
    (has_or_not s 0))
  where
    none : 2 ≤ ones 0 → ⊥
    none h = let z = ones_none in omega arith

    positive : (x : ℕ) → 0 < ones x → 0 < x
    positive x h = by_cases (ℕ_discrete x 0) (λ e. let z = ones_none in let y = ap ones e in omega arith) (λ e. omega arith)

pub ones_third : (s a b p : ℕ) → ones s ≤ 2 → a ≢ b → Has s a → Has s b → Has s p → (p ≡ a) ⊎ (p ≡ b)
ones_third s a b p most other ha hb hp =
    by_cases (ℕ_discrete p a) (λ e. inl e)
    (λ e. by_cases (ℕ_discrete p b) (λ f. inr f)
    (λ f.
    let two = ones_push b (2 ^ a) (bit_or (2 ^ a) (2 ^ b)) (joined (2 ^ a) b) (λ h. other (sym ((has_only a b).0 h))) in
    let three = ones_push p (bit_or (2 ^ a) (2 ^ b)) (bit_or (bit_or (2 ^ a) (2 ^ b)) (2 ^ p)) (joined (bit_or (2 ^ a) (2 ^ b)) p)
    (λ h. ⊎_elim (λ x. e ((has_only a p).0 x)) (λ x. f x) ((joined (2 ^ a) b p).0 h)) in
    let one = ones_one a in
    let sub = ones_subset (bit_or (bit_or (2 ^ a) (2 ^ b)) (2 ^ p)) s (λ q h. inside q ((joined (bit_or (2 ^ a) (2 ^ b)) p q).0 h)) in
    inl (omega arith)))
  where
    joined : (t v q : ℕ) → Has (bit_or t (2 ^ v)) q ↔ (Has t q ⊎ (q ≡ v))
    joined t v q =
        let o = has_or t (2 ^ v) q in
        let w = has_only v q in
        (λ h. ⊎_elim (λ x. inl x) (λ x. inr (w.0 x)) (o.0 h), λ h. o.1 (⊎_elim (λ x. inl x) (λ x. inr (w.1 x)) h))

    inside : (q : ℕ) → Has (bit_or (2 ^ a) (2 ^ b)) q ⊎ (q ≡ p) → Has s q
    inside q h =
        ⊎_elim
        (λ x. ⊎_elim (λ y. subst (Has s) (sym ((has_only a q).0 y)) ha) (λ y. subst (Has s) (sym y) hb) ((joined (2 ^ a) b q).0 x))
        (λ x. subst (Has s) (sym x) hp) h

pub sum_same : (f g : ℕ → ℕ) (k : ℕ) → ((p : ℕ) → p < k → f p ≡ g p) → sum_below f k ≡ sum_below g k
unfolding sum_below
sum_same f g zero same = refl
sum_same f g (suc k) same =
    let r = sum_same f g k (λ p l. same p (omega arith)) in
    let s = same k (omega arith) in
    omega arith

-- the first value apart
sum_first : (f : ℕ → ℕ) (k : ℕ) → sum_below f (suc k) ≡ f 0 + sum_below (λ p. f (suc p)) k
unfolding sum_below
sum_first f zero = omega arith
sum_first f (suc k) = let r = sum_first f k in omega arith

pub ones-sum : (n s : ℕ) → ((p : ℕ) → Has s p → p < n) → sum_below (bit s) n ≡ ones s
ones-sum zero s none =
    let r = ones_most 0 s none in
    let z : sum_below (bit s) 0 ≡ 0 = unfold sum_below in refl in
    omega arith
ones-sum (suc n) s below =
    let first = sum_first (bit s) n in
    let low = bit-low s in
    let rest = sum_same (λ p. bit s (suc p)) (bit (s / 2)) n (λ p l. bit_high s p) in
    let r = ones-sum n (s / 2) (λ p h. let l = below (suc p) (bit_high s p ∙ h) in omega arith) in
    let a = ones_step s in
    omega arith
