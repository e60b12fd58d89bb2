-- Laws of sets of so many positions: a walk need have no more positions than are allowed.
--
--     at_most_below     at most n positions are below n
--     at_most_less      a set within another has at most as many
--     at_most_more      and at most a larger number
--     at_most_except    one less without a position that is in it
--     walk_leaves       a walk avoids x, or ends there, or leaves it for a last time
--     walk_few          where a walk leads, one of at most as many positions as are allowed leads too
-- Assumes nothing.
use Prim.Native.Nat.{ℕ, zero, suc, ◌≤◌, ◌<◌}
use mathlib.Core.Path.{◌≡◌, refl, sym, subst, ◌∙◌}
use mathlib.Core.Bool.{cond}
use mathlib.Core.Logic.{◌≢◌, ◌⊎◌, inl, inr, ⊎_elim, by_cases}
use native.Mathlib.Decide.{ℕ_discrete, dec_lt}
use native.Mathlib.Omega.{arith}
use borrow.Author.Tests.{lt-ltb, le-ltb}
use lib.Dec.{ltb}
use Rattle.sets.proofs.CountLaws.{pigeonhole}
use Rattle.graph.specs.Walk.{Walk, AtMost}
use Rattle.graph.specs.Walk.Walk.{alone, step}
use Rattle.graph.proofs.WalkLaws.{walk_first, walk_inside}
use Rattle.graph.specs.Connected.{Except, Below}

pub at_most_below : (n : ℕ) → AtMost n (Below n)
at_most_below n = record { different = λ f k below distinct. pigeonhole n f k below distinct }

pub at_most_less : {P Q : ℕ → Type 0} {c : ℕ} → ((p : ℕ) → P p → Q p) → AtMost c Q → AtMost c P
at_most_less within few = record { different = λ f k inside distinct. few.different f k (λ i l. within (f i) (inside i l)) distinct }

pub at_most_more : {P : ℕ → Type 0} {c : ℕ} (d : ℕ) → c ≤ d → AtMost c P → AtMost d P
at_most_more d le few = record { different = λ f k inside distinct. (let r = few.different f k inside distinct in omega arith) }

-- x and the others are one more
module _ {P : ℕ → Type 0} {x : ℕ} (there : P x) (f : ℕ → ℕ) (k : ℕ) (inside : (i : ℕ) → i < k → Except P x (f i))
    (distinct : (i j : ℕ) → i < j → j < k → f i ≢ f j) where
  joined : ℕ → ℕ
  joined i = cond (ltb i k) (f i) x

  old : (i : ℕ) → i < k → joined i ≡ f i
  unfolding joined
  old i l = rw (lt-ltb i k l) refl

  new : (i : ℕ) → k ≤ i → joined i ≡ x
  unfolding joined
  new i l = rw (le-ltb i k l) refl

  joined_inside : (i : ℕ) → i < suc k → P (joined i)
  joined_inside i l =
      by_cases (dec_lt i k)
      (λ h. subst P (sym (old i h)) (inside i h).there)
      (λ h. subst P (sym (new i (omega arith))) there)

  joined_distinct : (i j : ℕ) → i < j → j < suc k → joined i ≢ joined j
  joined_distinct i j l h e =
      let a = old i (omega arith) in
      by_cases (dec_lt j k)
      (λ m. distinct i j l m (sym a ∙ e ∙ old j m))
      (λ m. (inside i (omega arith)).other (sym a ∙ e ∙ new j (omega arith)))

pub at_most_except : {P : ℕ → Type 0} {x c : ℕ} → P x → AtMost (suc c) P → AtMost c (Except P x)
at_most_except there few = record {
  different = λ f k inside distinct. (
      let r =
      few.different (joined there f k inside distinct) (suc k) (joined_inside there f k inside distinct)
      (joined_distinct there f k inside distinct)
      in
      omega arith
      );
}

module _ {E : ℕ → ℕ → Type 0} where
  pub walk_leaves : {P : ℕ → Type 0} {a b k : ℕ} (x : ℕ) → Walk E P a b k
      → Walk E (Except P x) a b k ⊎ ((b ≡ x) ⊎ ((y : ℕ) × (j : ℕ) × E x y × Walk E (Except P x) y b j))
  walk_leaves x (alone {a = a} p) =
      by_cases (ℕ_discrete a x) (λ e. inr (inl e)) (λ e. inl (alone (record { there = p; other = e })))
  walk_leaves x (step {a = a} {b = y} {k = k} p e w) =
      ⊎_elim
      (λ v. by_cases (ℕ_discrete a x)
      (λ q. inr (inr (y, k, subst (λ (z : ℕ). E z y) q e, v)))
      (λ q. inl (step (record { there = p; other = q }) e v)))
      (λ v. inr v)
      (walk_leaves x w)

  -- from where it leaves its first position for the last time, that position is not needed
  pub walk_few : (c : ℕ) {P : ℕ → Type 0} {a b k : ℕ} → AtMost c P → Walk E P a b k → (j : ℕ) × (j ≤ c) × Walk E P a b j
  walk_few zero {a = a} few w =
      let some = few.different (λ i. a) 1 (λ i l. walk_first w) (λ i j l h. absurd (none l h)) in
      absurd (none_left some)
    where
      none : {i j : ℕ} → i < j → j < 1 → ⊥
      none l h = omega arith

      none_left : 1 ≤ 0 → ⊥
      none_left h = omega arith
  walk_few (suc c) {P} {a} {b} few w =
      ⊎_elim
      (λ v. let out : Except P a a = walk_first v in absurd (out.other refl))
      (⊎_elim
      (λ e. (1, omega arith, subst (λ (y : ℕ). Walk E P a y 1) (sym e) (alone (walk_first w))))
      (λ v.
      let r = walk_few c {P = Except P a} {a = v.0} {b = b} {k = v.1} (at_most_except (walk_first w) few) v.3 in
      let l = r.1 in
      (suc r.0, omega arith, step (walk_first w) v.2 (walk_inside (λ q x. x.there) r.2))))
      (walk_leaves a w)
