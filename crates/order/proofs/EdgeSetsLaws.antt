-- Laws of what specs/EdgeSets.antt defines.
--
--     floor_from-right         its edges are lower first, below n and ascending
--     floor_from-joined        it joins what E joins
-- Assumes nothing.
use Prim.Native.Nat.{ℕ, zero, suc, ◌+◌, ◌*◌, ◌/◌, ◌%◌, ◌≤◌, ◌<◌}
use mathlib.Core.Path.{◌≡◌, refl, sym, ap, ap₂, ◌∙◌}
use mathlib.Core.Bool.{Bool, true, false, cond, ◌&&◌, or-false}
use mathlib.Core.List.{◌∷◌}
use mathlib.Core.Logic.{◌⊎◌, inl, inr, ⊎_elim}
use native.Mathlib.Omega.{arith}
use native.Mathlib.Decide.{dec_le, ℕ_discrete}
use native.Mathlib.Nat.{lt_of_not-le}
use borrow.Author.Tests.{lt-leb, lt-ltb, ltb-true}
use lib.Dec.{ltb}
use Rattle.order.specs.Floor.{some, is_pair, joined}
use Rattle.order.specs.Order.{bad_edge, ascending, wrong_edges}
use Rattle.order.proofs.EdgeLaws.{place, bad_is, precedes_is, is_pair-same, is_pair_is, and_left, and_right, good_edge}
use Rattle.order.specs.EdgeSets.{IsRelation, edges_listed, is_edge, floor_from}

-- the pair that has place i in the order of edges
abbrev pair_of : ℕ → ℕ × ℕ
pair_of i = (i / 64, i % 64)

same_place : (i a b : ℕ) → b < 64 → i ≡ a * 64 + b → pair_of i ≡ (a, b)
same_place i a b h e = ap₂ (λ (x y : ℕ). (x, y)) first second
  where
    first : i / 64 ≡ a
    first = omega (arith, h, e)

    second : i % 64 ≡ b
    second = omega (arith, h, e)

other_place : (i a b : ℕ) → (i ≡ a * 64 + b → ⊥) → is_pair (a, b) (pair_of i) ≡ false
other_place i a b d = by (is_pair (a, b) (pair_of i)) refl
  where
    by : (t : Bool) → is_pair (a, b) (pair_of i) ≡ t → is_pair (a, b) (pair_of i) ≡ false
    by true e = absurd (d (omega (arith, ap place (is_pair_is (a, b) (pair_of i) e))))
    by false e = e

module _ (test : ℕ → Bool) where
  -- what is listed from place i on ascends after any edge at a lower place
  listed-ascends : (k i : ℕ) (e : ℕ × ℕ) → e.1 < 64 → place e < i → ascending (e ∷ edges_listed test i k) ≡ true
  unfolding edges_listed ascending
  listed-ascends zero i e h l = refl
  listed-ascends (suc k) i e h l =
      by (test i) (listed-ascends k (suc i) (pair_of i) (omega arith) (omega arith)) (listed-ascends k (suc i) e h (omega arith))
    where
      by : (t : Bool) → ascending (pair_of i ∷ edges_listed test (suc i) k) ≡ true → ascending (e ∷ edges_listed test (suc i) k) ≡ true
          → ascending (e ∷ cond t (pair_of i ∷ edges_listed test (suc i) k) (edges_listed test (suc i) k)) ≡ true
      by true a b = rw (precedes_is e (pair_of i) h (omega arith), lt-leb (place (pair_of i)) (place e) (omega arith)) a
      by false a b = b

  ascends : (k i : ℕ) → ascending (edges_listed test i k) ≡ true
  unfolding edges_listed
  ascends zero i = unfold ascending in refl
  ascends (suc k) i = by (test i) (listed-ascends k (suc i) (pair_of i) (omega arith) (omega arith)) (ascends k (suc i))
    where
      by : (t : Bool) → ascending (pair_of i ∷ edges_listed test (suc i) k) ≡ true → ascending (edges_listed test (suc i) k) ≡ true
          → ascending (cond t (pair_of i ∷ edges_listed test (suc i) k) (edges_listed test (suc i) k)) ≡ true
      by true a b = a
      by false a b = b

  -- a pair is listed just where its place is in the range and passes the test
  listed-under : (k i a b : ℕ) → b < 64 → a * 64 + b < i → some (is_pair (a, b)) (edges_listed test i k) ≡ false
  unfolding edges_listed some
  listed-under zero i a b h l = refl
  listed-under (suc k) i a b h l = by (test i) (listed-under k (suc i) a b h (omega arith))
    where
      by : (t : Bool) → some (is_pair (a, b)) (edges_listed test (suc i) k) ≡ false
          → some (is_pair (a, b)) (cond t (pair_of i ∷ edges_listed test (suc i) k) (edges_listed test (suc i) k)) ≡ false
      by true r = rw (other_place i a b (λ e. omega (arith, l, e)), r) refl
      by false r = r

  listed_at : (k i a b : ℕ) → b < 64 → i ≤ a * 64 + b → a * 64 + b < i + k → some (is_pair (a, b))
      (edges_listed test i k) ≡ test (a * 64 + b)
  unfolding edges_listed some
  listed_at zero i a b h l u = absurd (omega arith)
  listed_at (suc k) i a b h l u = elim (ℕ_discrete i (a * 64 + b)) [
    | yes e ↦ here e
    | no d ↦ later d (listed_at k (suc i) a b h (omega (arith, d)) (omega arith))
  ]
    where
      here : i ≡ a * 64 + b
          → some (is_pair (a, b)) (cond (test i) (pair_of i ∷ edges_listed test (suc i) k)
          (edges_listed test (suc i) k)) ≡ test (a * 64 + b)
      here e = by (test i) refl
        where
          by : (t : Bool) → test i ≡ t
              → some (is_pair (a, b)) (cond t (pair_of i ∷ edges_listed test (suc i) k) (edges_listed test (suc i) k)) ≡ test (a * 64 + b)
          by true p = rw (same_place i a b h e, is_pair-same (a, b)) (sym (ap test (sym e) ∙ p))
          by false p = listed-under k (suc i) a b h (omega (arith, e)) ∙ sym (ap test (sym e) ∙ p)

      later : (i ≡ a * 64 + b → ⊥) → some (is_pair (a, b)) (edges_listed test (suc i) k) ≡ test (a * 64 + b)
          → some (is_pair (a, b)) (cond (test i) (pair_of i ∷ edges_listed test (suc i) k)
          (edges_listed test (suc i) k)) ≡ test (a * 64 + b)
      later d r = by (test i)
        where
          by : (t : Bool)
              → some (is_pair (a, b)) (cond t (pair_of i ∷ edges_listed test (suc i) k) (edges_listed test (suc i) k)) ≡ test (a * 64 + b)
          by true = rw (other_place i a b d) r
          by false = r

module _ (n : ℕ) (E : ℕ → ℕ → Bool) where
  none_bad : (k i : ℕ) → some (bad_edge n) (edges_listed (is_edge n E) i k) ≡ false
  unfolding edges_listed some
  none_bad zero i = refl
  none_bad (suc k) i = by (is_edge n E i) refl (none_bad k (suc i))
    where
      good : is_edge n E i ≡ true → bad_edge n (pair_of i) ≡ false
      good t =
          unfold is_edge in
          let front = and_left (ltb (i / 64) (i % 64) && ltb (i % 64) n) (E (i / 64) (i % 64)) t in
          rw (
            bad_is n (pair_of i),
            lt-leb (i % 64) (i / 64) (ltb-true (i / 64) (i % 64) (and_left (ltb (i / 64) (i % 64)) (ltb (i % 64) n) front)),
            lt-leb n (i % 64) (ltb-true (i % 64) n (and_right (ltb (i / 64) (i % 64)) (ltb (i % 64) n) front)),
          ) refl

      by : (t : Bool) → is_edge n E i ≡ t → some (bad_edge n) (edges_listed (is_edge n E) (suc i) k) ≡ false
          → some (bad_edge n) (cond t (pair_of i ∷ edges_listed (is_edge n E) (suc i) k) (edges_listed (is_edge n E) (suc i) k)) ≡ false
      by true t r = rw (good t, r) refl
      by false t r = r

  pub floor_from-right : wrong_edges (floor_from n E) ≡ false
  unfolding floor_from wrong_edges
  floor_from-right = rw (none_bad 4096 0, ascends (is_edge n E) 4096 0) refl

  module _ (few : n ≤ 64) (is : IsRelation n E) where
    edge_at : (a b : ℕ) → a < b → b < n → is_edge n E (a * 64 + b) ≡ E a b
    unfolding is_edge
    edge_at a b l u =
        let quotient : (a * 64 + b) / 64 ≡ a = omega arith in
        let remainder : (a * 64 + b) % 64 ≡ b = omega arith in
        rw (quotient, remainder, lt-ltb a b l, lt-ltb b n u) refl

    listed_lower : (a b : ℕ) → a < b → b < n → some (is_pair (a, b)) (edges_listed (is_edge n E) 0 4096) ≡ E a b
    listed_lower a b l u = listed_at (is_edge n E) 4096 0 a b (omega arith) (omega arith) (omega arith) ∙ edge_at a b l u

    -- no pair is listed that is not lower first and below n
    listed_not : (a b : ℕ) → (b ≤ a) ⊎ (n ≤ b) → some (is_pair (a, b)) (edges_listed (is_edge n E) 0 4096) ≡ false
    listed_not a b h = by (some (is_pair (a, b)) (edges_listed (is_edge n E) 0 4096)) refl
      where
        by : (t : Bool) → some (is_pair (a, b)) (edges_listed (is_edge n E) 0 4096) ≡ t
            → some (is_pair (a, b)) (edges_listed (is_edge n E) 0 4096) ≡ false
        by true m =
            ⊎_elim (λ k. absurd (omega (arith, k, (good_edge n (a, b) (edges_listed (is_edge n E) 0 4096) (none_bad 4096 0) m).0)))
            (λ k. absurd (omega (arith, k, (good_edge n (a, b) (edges_listed (is_edge n E) 0 4096) (none_bad 4096 0) m).1))) h
        by false m = m

    outside : (a b : ℕ) → n ≤ b → E a b ≡ false
    outside a b h = by (E a b) refl
      where
        by : (t : Bool) → E a b ≡ t → E a b ≡ false
        by true m = absurd (omega (arith, h, is.inside b a (is.both_ways b a ∙ m)))
        by false m = m

    -- lower first, an edge or not
    one_way : (a b : ℕ) → a < b → some (is_pair (a, b)) (edges_listed (is_edge n E) 0 4096) ≡ E a b
    one_way a b l = elim (dec_le n b) [ yes h ↦ listed_not a b (inr h) ∙ sym (outside a b h) | no h ↦ listed_lower a b l (lt_of_not-le h) ]

    pub floor_from-joined : (a b : ℕ) → joined (floor_from n E) a b ≡ E a b
    unfolding floor_from joined
    floor_from-joined a b = elim (dec_le b a) [
      | yes h ↦ elim (dec_le a b) [
        | yes k ↦ rw (listed_not a b (inl h), listed_not b a (inl k)) (sym (ap (E a) (omega (arith, h, k)) ∙ is.not_itself a))
        | no k ↦ rw (listed_not a b (inl h), one_way b a (lt_of_not-le k)) (is.both_ways b a)
      ]
      | no h ↦ rw (one_way a b (lt_of_not-le h), listed_not b a (inl (omega (arith, lt_of_not-le h)))) (or-false (E a b))
    ]
