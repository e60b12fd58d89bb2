-- A breakdown that is checked by computing. A certificate gives, besides the breakdown's own functions, the place of each position in the
-- row.
--
--     from i k t        the numbers i, i + 1, .., k of them, pass the test t
--     from_each         then each of them does
--     certifies         what the test of a whole certificate asks
--     certified         a certificate that passes is a breakdown
-- Assumes nothing.
use Prim.Native.Nat.{ℕ, zero, suc, ◌+◌, ◌-◌, ◌≤◌, ◌<◌}
use mathlib.Core.Path.{◌≡◌, subst, ap}
use mathlib.Core.Bool.{Bool, true, not, ◌&&◌}
use mathlib.Core.Logic.{by_cases}
use native.Mathlib.Decide.{ℕ_discrete}
use native.Mathlib.Omega.{arith}
use mir.Facts.{and_yes}
use lib.Dec.{T, T_not, leb, ltb, eqb, leb→le, ltb→lt, eqb→eq, eqb_refl}
use Rattle.breakdown.specs.Breakdown.{Among, Handle, Breakdown}

unfoldable pub from : ℕ → ℕ → (ℕ → Bool) → Bool
from i zero t = true
from i (suc k) t = t i && from (suc i) k t

pub from_each : (i k : ℕ) (t : ℕ → Bool) → T (from i k t) → (j : ℕ) → i ≤ j → j < i + k → T (t j)
unfolding from
from_each i zero t h j l u = absurd (omega arith)
from_each i (suc k) t h j l u =
    let both = and_yes (t i) (from (suc i) k t) h in
    by_cases (ℕ_discrete i j)
    (λ e. subst (λ (x : ℕ). T (t x)) e both.0)
    (λ d. from_each (suc i) k t both.1 j (omega arith) (omega arith))

module _ (E : ℕ → ℕ → Bool) (at place : ℕ → ℕ) where
  abbrev Joined : ℕ → ℕ → Type 0
  Joined a b = T (E a b)

  -- the position p stands in the row before place s
  abbrev earlier : ℕ → ℕ → Bool
  earlier s p = ltb (place p) s && eqb (at (place p)) p

  -- the row's positions from place i on, each joined to the next, k of them
  abbrev joined_on : ℕ → ℕ → Bool
  joined_on i k = from i k (λ j. E (at j) (at (j + 1)))

  abbrev is_handle : ℕ → ℕ → ℕ → ℕ → Bool
  is_handle s e u v =
      ltb s e
      && (E u (at s) && (joined_on s (e - 1 - s) && (E (at (e - 1)) v && (not (eqb u v) && (earlier s u && earlier s v)))))

  among : (s p : ℕ) → T (earlier s p) → Among at s p
  among s p t =
      let both = and_yes (ltb (place p) s) (eqb (at (place p)) p) t in
      record { place = place p; before = ltb→lt (place p) s both.0; is = eqb→eq (at (place p)) p both.1 }

  handle : (s e u v : ℕ) → T (is_handle s e u v) → Handle Joined at s e u v
  handle s e u v t =
      let t₁ = and_yes (ltb s e) _ t in
      let t₂ = and_yes (E u (at s)) _ t₁.1 in
      let t₃ = and_yes (joined_on s (e - 1 - s)) _ t₂.1 in
      let t₄ = and_yes (E (at (e - 1)) v) _ t₃.1 in
      let t₅ = and_yes (not (eqb u v)) _ t₄.1 in
      let t₆ = and_yes (earlier s u) _ t₅.1 in
      let inner : s < e = ltb→lt s e t₁.0 in
      record {
        inner = inner;
        first = t₂.0;
        joined = λ j l h. from_each s (e - 1 - s) (λ j. E (at j) (at (j + 1))) t₃.0 j l (omega arith);
        last = t₄.0;
        ends = λ i. T_not (eqb u v) t₅.0 (subst (λ (x : ℕ). T (eqb u x)) i (eqb_refl u));
        left = among s u t₆.0;
        right = among s v t₆.1;
      }

  module _ (n r c : ℕ) (start left right : ℕ → ℕ) where
    abbrev is_handle_at : ℕ → Bool
    is_handle_at i = is_handle (start i) (start (i + 1)) (left i) (right i)

    abbrev goes_back : ℕ → Bool
    goes_back i = ltb (at i) n && eqb (place (at i)) i

    abbrev has_place : ℕ → Bool
    has_place p = earlier n p

    unfoldable pub certifies : Bool
    certifies =
        leb 3 r
        && (ltb r n
        && (joined_on 0 (r - 1)
        && (E (at (r - 1)) (at 0)
        && (eqb (start 0) r
        && (from 0 c is_handle_at && (eqb (start c) n && (from 0 n goes_back && from 0 n has_place)))))))

    pub certified : T certifies → Breakdown n Joined r c at start left right
    unfolding certifies
    certified t =
        let t₁ = and_yes (leb 3 r) _ t in
        let t₂ = and_yes (ltb r n) _ t₁.1 in
        let t₃ = and_yes (joined_on 0 (r - 1)) _ t₂.1 in
        let t₄ = and_yes (E (at (r - 1)) (at 0)) _ t₃.1 in
        let t₅ = and_yes (eqb (start 0) r) _ t₄.1 in
        let t₆ = and_yes (from 0 c is_handle_at) _ t₅.1 in
        let t₇ = and_yes (eqb (start c) n) _ t₆.1 in
        let t₈ = and_yes (from 0 n goes_back) (from 0 n has_place) t₇.1 in
        let back : (i : ℕ) → i < n → (at i < n) × (place (at i) ≡ i) = λ i l.
        let both = and_yes (ltb (at i) n) (eqb (place (at i)) i) (from_each 0 n goes_back t₈.0 i (omega arith) (omega arith)) in
        (ltb→lt (at i) n both.0, eqb→eq (place (at i)) i both.1) in
        record {
          ring_three = leb→le 3 r t₁.0;
          ring_less = ltb→lt r n t₂.0;
          ring_joined = λ i l. from_each 0 (r - 1) (λ j. E (at j) (at (j + 1))) t₃.0 i (omega arith) (omega arith);
          ring_closed = t₄.0;
          begins = eqb→eq (start 0) r t₅.0;
          handle =
              λ i l. handle (start i) (start (i + 1)) (left i) (right i) (from_each 0 c is_handle_at t₆.0 i (omega arith) (omega arith));
          stops = eqb→eq (start c) n t₇.0;
          below = λ i l. (back i l).0;
          distinct = λ i j l h e.
              let x = (back i (omega arith)).1 in
              let y = (back j h).1 in
              let z : place (at i) ≡ place (at j) = ap place e in
              omega arith;
          every = λ p l. among n p (from_each 0 n has_place t₈.1 p (omega arith) (omega arith));
        }
