-- 14, judged rack by rack: what is left to judge depends on the positions taken so far alone, and the table of the racks shows those.
--
--     flagged taken p         a rack is at p
--     wrong_given n taken r l  some position of l is n or more, is taken, or stands in l again; racks r, r + 1, .. are put there
--     wrong_given_is           with an empty table, that is document 01's condition
--     Left taken i            the loop before rack i + 1, with that table: what is left to judge decides
--     left-first, left-next, left_none     how the loop begins, goes on and ends: the answer is yes
--     not_below, not_free     a position that is not below n, or is taken: the answer is no
-- Assumes nothing.
use Prim.Native.Nat.{ℕ, ◌+◌, ◌-◌, ◌*◌, ◌≤◌, ◌<◌}
use mathlib.Core.Path.{◌≡◌, refl, sym, ap, ◌∙◌}
use mathlib.Core.Bool.{Bool, true, false, not, ◌||◌, or-true}
use mathlib.Core.List.{List, [], ◌∷◌}
use native.Mathlib.Omega.{arith}
use native.Mathlib.Decide.{dec_le, ℕ_discrete}
use native.Mathlib.Nat.{lt_of_not-le, sub-zero, add-zero}
use borrow.Author.Tests.{le-leb, lt-leb, eq-eqb, ne_eqb}
use lib.ListN.{length, get_or, set, replicate, length-set, length-replicate, get_or-replicate, get_or-eq_default}
use lib.Seq.{get_or-set_same, get_or-set_other}
use lib.Dec.{leb, eqb}
use Rattle.field.specs.Bits.{field, positions}
use Rattle.field.proofs.RecordLaws.{positions-next}
use Rattle.order.specs.Floor.{some}
use Rattle.order.specs.Order.{repeats, wrong_places}

unfoldable pub flagged : List ℕ → ℕ → Bool
flagged taken p = not (eqb (get_or taken p 0) 0)

unfoldable pub wrong_given : ℕ → List ℕ → ℕ → List ℕ → Bool
wrong_given n taken r [] = false
wrong_given n taken r (p ∷ l) = leb n p || flagged taken p || wrong_given n (set taken p r) (r + 1) l

flagged-set : (taken : List ℕ) (p r q : ℕ) → 1 ≤ r → p < length taken → flagged (set taken p r) q ≡ (eqb p q || flagged taken q)
unfolding flagged
flagged-set taken p r q k h = elim (ℕ_discrete p q) [
  | yes e ↦ rw (eq-eqb p q e, ← e, get_or-set_same taken p r 0 h, ne_eqb r 0 (λ z. omega arith))
  | no d ↦ rw (ne_eqb p q d, get_or-set_other taken p q r 0 (λ e. d (sym e)))
]

some-set : (taken : List ℕ) (p r : ℕ) (l : List ℕ) → 1 ≤ r → p < length taken
    → some (flagged (set taken p r)) l ≡ (some (eqb p) l || some (flagged taken) l)
unfolding some
some-set taken p r [] k h = refl
some-set taken p r (q ∷ l) k h =
    rw (flagged-set taken p r q k h, some-set taken p r l k h) (swap (eqb p q) (flagged taken q) (some (eqb p) l) (some (flagged taken) l))
  where
    swap : (a b c d : Bool) → (a || b || (c || d)) ≡ (a || c || (b || d))
    swap true b c d = refl
    swap false true true d = refl
    swap false true false d = refl
    swap false false c d = refl

given_is : (n : ℕ) (taken : List ℕ) (r : ℕ) (l : List ℕ) → 1 ≤ r → n ≤ length taken
    → wrong_given n taken r l ≡ (some (leb n) l || (some (flagged taken) l || repeats l))
unfolding wrong_given some repeats
given_is n taken r [] o h = refl
given_is n taken r (p ∷ l) o h = elim (dec_le n p) [
  | yes k ↦ simp (le-leb n p k)
  | no k ↦
      let below = lt_of_not-le k in
      rw (
        lt-leb n p below,
        given_is n (set taken p r) (r + 1) l (omega arith) (rw (length-set taken p r) h),
        some-set taken p r l o
            (omega arith),
      )
      (swap (flagged taken p) (some (leb n) l) (some (eqb p) l) (some (flagged taken) l) (repeats l))
]
  where
    swap : (f s e t r : Bool) → (f || (s || (e || t || r))) ≡ (s || (f || t || (e || r)))
    swap true true e t r = refl
    swap true false e t r = refl
    swap false true e t r = refl
    swap false false true true r = refl
    swap false false true false r = refl
    swap false false false t r = refl

none_flagged : (k : ℕ) (l : List ℕ) → some (flagged (replicate k 0)) l ≡ false
unfolding some flagged
none_flagged k [] = refl
none_flagged k (p ∷ l) = rw (zero_there, none_flagged k l) refl
  where
    zero_there : ◌≡◌ {A = ℕ} (get_or (replicate k 0) p 0) 0
    zero_there = elim (dec_le k p) [
      | yes h ↦ get_or-eq_default (replicate k 0) 0 (rw (length-replicate {A = ℕ} k 0) h)
      | no h ↦ get_or-replicate k p 0 0 (lt_of_not-le h)
    ]

pub wrong_given_is : (n k : ℕ) (l : List ℕ) → n ≤ k → wrong_given n (replicate k 0) 1 l ≡ wrong_places n l
unfolding wrong_places
wrong_given_is n k l h = given_is n (replicate k 0) 1 l (omega arith) (rw (length-replicate {A = ℕ} k 0) h) ∙ rw (none_flagged k l) refl

-- the loop over the m positions of s that stand `from` positions after its beginning: at position i
module _ (s : List ℕ) (n from m : ℕ) where
  unfoldable pub Left : List ℕ → ℕ → Type 0
  Left taken i = wrong_given n taken (i + 1) (positions s (6 * (from + i)) (m - i)) ≡ wrong_places n (positions s (6 * from) m)

  pub left-first : n ≤ 64 → Left (replicate 64 0) 0
  unfolding Left
  left-first h = rw (add-zero from, sub-zero m) (wrong_given_is n 64 (positions s (6 * from) m) h)

  module _ (taken : List ℕ) (i p : ℕ) (left : Left taken i) (h : i < m) (e : p ≡ field s (6 * (from + i)) 6) where
    next : (leb n p || flagged taken p || wrong_given n (set taken p (i + 1)) (i + 1 + 1)
        (positions s (6 * (from + (i + 1))) (m - (i + 1))))
        ≡ wrong_places n (positions s (6 * from) m)
    unfolding Left wrong_given
    next = rw e (ap (wrong_given n taken (i + 1)) (sym (positions-next s from i m h)) ∙ left)

    pub not_below : n ≤ p → false ≡ not (wrong_places n (positions s (6 * from) m))
    not_below k = ap not (simp (le-leb n p k) at next)

    pub not_free : (get_or taken p 0 ≡ 0 → ⊥) → false ≡ not (wrong_places n (positions s (6 * from) m))
    unfolding flagged
    not_free k = ap not (simp (ne_eqb (get_or taken p 0) 0 k, or-true) at next)

    pub left-next : p < n → get_or taken p 0 ≡ 0 → Left (set taken p (i + 1)) (i + 1)
    unfolding Left flagged
    left-next k z = simp (lt-leb n p k, eq-eqb (get_or taken p 0) 0 z) at next

  pub left_none : (taken : List ℕ) (i : ℕ) → Left taken i → m ≤ i → true ≡ not (wrong_places n (positions s (6 * from) m))
  unfolding Left wrong_given positions
  left_none taken i left h =
      let none : m - i ≡ 0 = omega arith in
      ap not (rw none at left)
