-- The positions of a ring read round it are a circle.
--
--     onward_good, onward_is     the position that comes next
--     follow_then                the positions in a row, by the two before each
--     found                      where a position is found in a row
--     round-circle               a floor whose positions have two neighbours each, read round, is a circle
--     ring_degree                a ring's positions have two neighbours each
-- Assumes nothing.
use Prim.Native.Nat.{ℕ, zero, suc, ◌+◌, ◌≤◌, ◌<◌}
use mathlib.Core.Path.{◌≡◌, refl, sym, subst, ◌∙◌}
use mathlib.Core.Bool.{Bool, true, false, not, ◌&&◌}
use mathlib.Core.List.{List, [], ◌∷◌}
use mathlib.Core.Logic.{◌≢◌, ◌↔◌, by_cases}
use native.Mathlib.Decide.{ℕ_discrete}
use native.Mathlib.Omega.{arith}
use borrow.Author.Tests.{eqb-true, eqb-false, eq-eqb, ne_eqb, not-true}
use lib.Dec.{eqb}
use lib.ListN.{get_or, length}
use Rattle.sets.specs.Sets.{bit}
use Rattle.sets.proofs.FirstLaws.{first_good, first_is}
use Rattle.graph.specs.Connected.{Ring}
use Rattle.graph.specs.EdgeCount.{edge_count}
use Rattle.graph.specs.Rows.{Edge, Rows}
use Rattle.graph.proofs.EdgeCountLaws.{row_sum_least_three, bi_connected_neighbours, ring_two}
use Rattle.ring.specs.Circle.{Circle, onward, follow, round_of, edge_in, place_on}
use Rattle.ring.proofs.CircleLaws.{Degree, way_circle}

and_both : (a b : Bool) → a && b ≡ true → (a ≡ true) × (b ≡ true)
and_both true true e = (refl, refl)
and_both true false e = (refl, e)
and_both false b e = (e, absurd (let z : ◌≡◌ {A = ℕ} 0 1 = cc in omega arith))

no_false : (b : Bool) → (b ≡ true → ⊥) → b ≡ false
no_false true f = absurd (f refl)
no_false false f = refl

module _ {E : ℕ → ℕ → Type 0} (e : ℕ → ℕ → Bool) (test : (a b : ℕ) → (e a b ≡ true) ↔ E a b) where
  passes : (a b c : ℕ) → E b c → c ≢ a → e b c && not (eqb c a) ≡ true
  passes a b c h d = rw ((test b c).1 h, ne_eqb c a d) refl

  pub onward_is : (n a b c : ℕ) → c < n → E b c → c ≢ a → ((p : ℕ) → E b p → p ≢ a → c ≤ p) → onward n e a b ≡ c
  unfolding onward
  onward_is n a b c l h d low =
      first_is (λ x. e b x && not (eqb x a)) 0 n c (omega arith) (omega arith) (passes a b c h d)
      (λ p s. no_false (e b p && not (eqb p a)) (λ t.
      let both = and_both (e b p) (not (eqb p a)) t in
      let x = low p ((test b p).0 both.0) (eqb-false p a (not-true (eqb p a) both.1)) in
      omega arith))

  module _ {n : ℕ} (floor : Degree n E) where
    pub onward_good : (a b : ℕ) → b < n → E b (onward n e a b) × (onward n e a b ≢ a)
    unfolding onward
    onward_good a b l =
        let c = floor.another b a l in
        let below = floor.inside b c.0 c.1 in
        let good = first_good (λ x. e b x && not (eqb x a)) 0 n c.0 (omega arith) (omega arith)
        (passes a b c.0 c.1 c.2) in
        let x = onward n e a b in
        let both = and_both (e b x) (not (eqb x a)) good in
        ((test b x).0 both.0, eqb-false x a (not-true (eqb x a) both.1))

pub follow-length : (n : ℕ) (e : ℕ → ℕ → Bool) (a b k : ℕ) → length (follow n e a b k) ≡ k
unfolding follow
follow-length n e a b zero = refl
follow-length n e a b (suc k) = let r = follow-length n e b (onward n e a b) k in omega arith

-- what comes at place i + 1 is what lies onward from place i; before place 0 comes a
pub follow_then : (n : ℕ) (e : ℕ → ℕ → Bool) (a b k i : ℕ) → i + 1 < k
    → get_or (follow n e a b k) (suc i) 0 ≡ onward n e (get_or (a ∷ follow n e a b k) i 0) (get_or (follow n e a b k) i 0)
unfolding follow
follow_then n e a b zero i l = absurd (let z : 0 < 0 = omega arith in omega arith)
follow_then n e a b (suc zero) i l = absurd (let z : 0 < 0 = omega arith in omega arith)
follow_then n e a b (suc (suc k)) zero l = refl
follow_then n e a b (suc (suc k)) (suc i) l = follow_then n e b (onward n e a b) (suc k) i (omega arith)

pub found : (l : List ℕ) (i p : ℕ) → i < length l → get_or l i 0 ≡ p → (place_on l p ≤ i) × (get_or l (place_on l p) 0 ≡ p)
unfolding place_on
found [] i p h e = absurd (let z : 0 < 0 = omega arith in omega arith)
found (q ∷ l) zero p h e = rw (eq-eqb q p e) (omega arith, e)
found (q ∷ l) (suc i) p h e =
    by_cases (ℕ_discrete q p) (λ s. rw (eq-eqb q p s) (omega arith, s))
    (λ s. let r = found l i p (omega arith) e in rw (ne_eqb q p s) ((let x = r.0 in omega arith), r.1))

module _ {n : ℕ} {E : ℕ → ℕ → Type 0} (floor : Degree n E) (e : ℕ → ℕ → Bool) (test : (a b : ℕ) → (e a b ≡ true) ↔ E a b) where
  abbrev at : ℕ → ℕ
  at i = get_or (round_of n e) i 0

  three : 3 ≤ n
  three = floor.three

  pub round-first : at 0 ≡ 0
  unfolding round_of
  round-first = first n three
    where
      first : (k : ℕ) → 3 ≤ k → get_or (follow n e n 0 k) 0 0 ≡ 0
      first zero l = absurd (let z : 0 < 0 = omega arith in omega arith)
      first (suc k) l = unfold follow in refl

  pub round_then : (i : ℕ) → i + 1 < n → at (suc i) ≡ onward n e (get_or (n ∷ round_of n e) i 0) (at i)
  unfolding round_of
  round_then i l = follow_then n e n 0 n i l

  pub round_long : length (round_of n e) ≡ n
  unfolding round_of
  round_long = follow-length n e n 0 n

  inside : (i : ℕ) → i < n → at i < n
  inside zero l = let s = round-first in let t = three in omega arith
  inside (suc i) l =
      subst (λ (x : ℕ). x < n) (sym (round_then i (omega arith)))
      (floor.inside (at i) (onward n e (get_or (n ∷ round_of n e) i 0) (at i))
      (onward_good e test floor (get_or (n ∷ round_of n e) i 0) (at i) (inside i (omega arith))).0)

  one : (i : ℕ) → suc i ≡ i + 1
  one i = omega arith

  pub round-circle : Circle n E at
  round-circle =
      way_circle floor at (place_on (round_of n e))
      (record {
        early = λ i l. (found (round_of n e) i (at i) (let s = round_long in omega arith) refl).0;
        there = λ i l. (found (round_of n e) i (at i) (let s = round_long in omega arith) refl).1;
      })
      inside
      (λ i l.
      subst (λ (x : ℕ). E (at i) (at x)) (one i)
      (subst (E (at i)) (sym (round_then i l)) (onward_good e test floor (get_or (n ∷ round_of n e) i 0) (at i)
      (inside i (omega arith))).0))
      (λ i l.
      subst (λ (x : ℕ). at x ≢ at i) (two i)
      (λ s. (onward_good e test floor (at i) (at (suc i)) (inside (suc i) (omega arith))).1 (sym (round_then (suc i) (omega arith)) ∙ s)))
    where
      two : (i : ℕ) → suc (suc i) ≡ i + 2
      two i = omega arith

  pub round-place : (p : ℕ) → p < n → (i : ℕ) → i < n → at i ≡ p → place_on (round_of n e) p ≡ i
  round-place p l i h s =
      let f = found (round_of n e) i p (let t = round_long in omega arith) s in
      by_cases (ℕ_discrete (place_on (round_of n e) p) i) (λ x. x)
      (λ d. absurd (round-circle.distinct (place_on (round_of n e) p) i (let x = f.0 in omega arith) h (f.1 ∙ sym s)))

module _ {n : ℕ} {g : List ℕ} (rows : Rows n g) (ring : Ring n (Edge g) (edge_count g n)) where
  pub ring_degree : Degree n (Edge g)
  ring_degree =
      record {
        three = ring.bi_connected.three;
        symmetric = rows.symmetric;
        inside = λ a b h. (rows.inside a b h).1;
        other = rows.other;
        connected = ring.bi_connected.connected;
        another = λ b a l.
            let t = bi_connected_neighbours rows ring.bi_connected b l in
            by_cases (ℕ_discrete t.one a) (λ s. (t.two, t.second, λ r. t.differ (s ∙ sym r))) (λ s. (t.one, t.first, s));
        two = λ b x y z hx hy hz dxy dxz dyz.
            let three = row_sum_least_three g b n x y z (rows.inside b x hx).1 (rows.inside b y hy).1 (rows.inside b z hz).1
            dxy dxz dyz hx hy hz in
            let most = ring_two rows ring b (rows.inside b x hx).0 in
            omega arith;
      }

  pub edge_test : (a b : ℕ) → (edge_in g a b ≡ true) ↔ Edge g a b
  unfolding edge_in
  edge_test a b = (eqb-true (bit (get_or g a 0) b) 1, eq-eqb (bit (get_or g a 0) b) 1)
