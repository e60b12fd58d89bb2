-- The places of racks, and the way round a ring, as they are written down one after another.
--
--     Placing, placing_none, placing_next    the state of `places`: racks at the places before i have their places
--     Following, following_first, following_some, following_next, following_last, following_circle
--                         the state of `circle`: the k positions from 0 on, and those onward
--     none_at, below_set                     entries of a new row are 0; entries stay small
--     standing_of                            what finding the places of the racks of a circle needs
--     stand_at                               the places found are where they stand
--     stand_one                              there is one place for each
-- Assumes nothing.
use Prim.Native.Nat.{ℕ, zero, suc, ◌+◌, ◌-◌, ◌≤◌, ◌<◌}
use mathlib.Core.Path.{◌≡◌, refl, sym, ap, subst, ◌∙◌}
use mathlib.Core.List.{List, ◌∷◌}
use mathlib.Core.Logic.{◌≢◌, ◌↔◌, by_cases}
use native.Mathlib.Decide.{ℕ_discrete, dec_lt}
use native.Mathlib.Omega.{arith}
use lib.ListN.{get_or, set, length, length-set, replicate, get_or-eq_default}
use lib.Seq.{get_or-set_same, get_or-set_other}
use Rattle.sets.specs.Sets.{Has}
use Rattle.sets.proofs.SetLaws.{has_positive}
use Rattle.graph.specs.Connected.{Ring}
use Rattle.graph.specs.EdgeCount.{edge_count}
use Rattle.graph.specs.Rows.{row, Edge, Rows}
use Rattle.ring.specs.Circle.{Circle, round_of, edge_in, onward}
use Rattle.ring.specs.Standing.{OnCircle, Standing, StandAt}
use Rattle.ring.specs.Order.{Rack}
use Rattle.ring.proofs.CircleLaws.{Degree, circle-same}
use Rattle.ring.proofs.RoundLaws.{ring_degree, edge_test, onward_is, onward_good, round-first, round_then, round-circle}

abbrev pub Placing : (ℕ → ℕ) → (ℕ → ℕ) → (ℕ → ℕ) → ℕ → Type 0
Placing at h p i = (j : ℕ) → j < i → h (at j) ≢ 0 → p (h (at j)) ≡ j

pub placing_none : (at h p : ℕ → ℕ) → Placing at h p 0
placing_none at h p j l = absurd (none l)
  where
    none : {x : ℕ} → x < 0 → ⊥
    none h = omega arith

pub placing_next : (n : ℕ) (at h : ℕ → ℕ) (l : List ℕ) (i : ℕ) → length l ≡ 64 → Standing n at h → i < n → Placing at h (row l) i
    → Placing at h (row (set l (h (at i)) i)) (i + 1)
placing_next n at h l i long s li old j lj held =
    by_cases (ℕ_discrete j i)
    (λ e.
    let small = s.small i li in
    ap (λ (x : ℕ). get_or (set l (h (at i)) i) (h (at x)) 0) e ∙ get_or-set_same l (h (at i)) i 0 (omega arith) ∙ sym e)
    (λ d. get_or-set_other l (h (at i)) (h (at j)) i 0 (λ e. d (s.one j i (omega arith) li held e)) ∙ old j (omega arith) held)

pub none_at : (k i : ℕ) → row (replicate k 0) i ≡ 0
none_at zero i = refl
none_at (suc k) zero = refl
none_at (suc k) (suc i) = none_at k i

pub below_set : (n : ℕ) (l : List ℕ) (r v : ℕ) → v < n → ((q : ℕ) → row l q < n) → (q : ℕ) → row (set l r v) q < n
below_set n l r v small old q =
    by_cases (ℕ_discrete q r)
    (λ e. by_cases (dec_lt r (length l))
    (λ h. subst (λ (x : ℕ). x < n) (sym (ap (λ (x : ℕ). get_or (set l r v) x 0) e ∙ get_or-set_same l r v 0 h)) small)
    (λ h. subst (λ (x : ℕ). x < n) (sym (get_or-eq_default (set l r v) 0 (let s = length-set l r v in omega arith))) (omega arith)))
    (λ d. subst (λ (x : ℕ). x < n) (sym (get_or-set_other l r q v 0 d)) (old q))

module _ {n m : ℕ} {at h : ℕ → ℕ} (c : OnCircle n m at h) where
  pub standing_of : 0 < n → n ≤ 64 → m < 64 → ((i : ℕ) → i < n → at i < n) → Standing n at h
  standing_of some few less inside =
      record {
        some = some;
        few = few;
        below = λ i l. omega (arith, inside i l);
        small = λ i l.
            by_cases (ℕ_discrete (h (at i)) 0) (λ e. omega arith) (λ d. let r = (c.rack i l d).most in omega arith);
        one = c.one;
      }

  pub stand_at : (p : ℕ → ℕ) → ((i : ℕ) → i < n → h (at i) ≢ 0 → p (h (at i)) ≡ i) → StandAt n m at h p
  stand_at p placed =
      record {
        places = record {
          below = λ r k. let e = c.every r k in subst (λ (x : ℕ). x < n) (sym (place r k)) e.1;
          apart = λ r q kr kq s. sym (there r kr) ∙ ap (λ (x : ℕ). h (at x)) s ∙ there q kq;
        };
        there = there;
      }
    where
      place : (r : ℕ) (k : Rack m r) → p r ≡ (c.every r k).0
      place r k =
          let e = c.every r k in
          let some = k.some in
          ap p (sym e.2) ∙ placed e.0 e.1 (λ z. let s = e.2 in omega arith)

      there : (r : ℕ) → Rack m r → h (at (p r)) ≡ r
      there r k = ap (λ (x : ℕ). h (at x)) (place r k) ∙ (c.every r k).2

  pub stand_one : (p : ℕ → ℕ) → StandAt n m at h p → (i r : ℕ) → i < n → Rack m r → h (at i) ≡ r → p r ≡ i
  stand_one p s i r l k e =
      let some = k.some in
      c.one (p r) i (s.places.below r k) l (λ z. let t = s.there r k in omega arith) (s.there r k ∙ sym e)

module _ {n : ℕ} {g : List ℕ} (rows : Rows n g) (ring : Ring n (Edge g) (edge_count g n)) where
  abbrev way : List ℕ
  way = round_of n (edge_in g)

  -- k positions are written, the last of them b; `rest` are those that edges join to it, without the one before it
  pub record Following (l : List ℕ) (b rest k : ℕ) : Type 0 where
    pub long : length l ≡ 64
    pub some : 0 < k
    pub most : k ≤ n
    pub last : b ≡ get_or way (k - 1) 0
    pub onwards : (p : ℕ) → Has rest p ↔ (Edge g b p × (p ≢ get_or (n ∷ way) (k - 1) 0))
    pub written : (i : ℕ) → i < k → row l i ≡ get_or way i 0

  abbrev floor : Degree n (Edge g)
  floor = ring_degree rows ring

  abbrev circle : Circle n (Edge g) (λ i. get_or way i 0)
  circle = round-circle floor (edge_in g) (edge_test rows ring)

  three : 3 ≤ n
  three = floor.three

  first : get_or way 0 0 ≡ 0
  first = round-first floor (edge_in g) (edge_test rows ring)

  pub following_first : Following (replicate 64 0) 0 (get_or g 0 0) 1
  following_first =
      record {
        long = refl;
        some = omega arith;
        most = omega (arith, three);
        last = sym first;
        onwards = λ p. (λ h. (h, λ e. let l = (rows.inside 0 p h).1 in omega arith), λ h. h.0);
        written = λ i l. let z : 0 ≡ i = omega arith in subst (λ (x : ℕ). row (replicate 64 0) x ≡ get_or way x 0) z (sym first);
      }

  module _ {l : List ℕ} {b rest k : ℕ} (f : Following l b rest k) where
    pub following_below : b < n
    following_below = subst (λ (x : ℕ). x < n) (sym f.last) (circle.inside (k - 1) (let s = f.some in let m = f.most in omega arith))

    abbrev before : ℕ
    before = get_or (n ∷ way) (k - 1) 0

    pub following_some : 0 < rest
    following_some =
        let x = onward_good (edge_in g) (edge_test rows ring) floor before b following_below in
        has_positive rest (onward n (edge_in g) before b) ((f.onwards (onward n (edge_in g) before b)).1 x)

    module _ (more : k < n) (v : ℕ) (small : v < 64) (is : Has rest v) (low : (p : ℕ) → Has rest p → v ≤ p) where
      at_k : v ≡ get_or way k 0
      at_k =
          let h = (f.onwards v).0 is in
          let up : suc (k - 1) ≡ k = (let s = f.some in omega arith) in
          let l : k - 1 + 1 < n = (let s = f.some in omega arith) in
          sym (onward_is (edge_in g) (edge_test rows ring) n before b v (rows.inside b v h.0).1 h.0 h.1
          (λ p e d. low p ((f.onwards p).1 (e, d))))
          ∙ ap (onward n (edge_in g) before) f.last
          ∙ sym (round_then floor (edge_in g) (edge_test rows ring) (k - 1) l)
          ∙ ap (λ (x : ℕ). get_or way x 0) up

      pub following_next : (rest' : ℕ) → ((p : ℕ) → Has rest' p ↔ (Has (get_or g v 0) p × (p ≢ b))) → Following (set l k v) v rest' (k + 1)
      following_next rest' next =
          let few = rows.small in
          let long = f.long in
          let here : k + 1 - 1 ≡ k = omega arith in
          let up : suc (k - 1) ≡ k = (let s = f.some in omega arith) in
          let old : b ≡ get_or (n ∷ way) (k + 1 - 1) 0 = f.last ∙ ap (λ (x : ℕ). get_or (n ∷ way) x 0) (up ∙ sym here) in
          record {
            long = length-set l k v ∙ f.long;
            some = omega arith;
            most = omega arith;
            last = at_k ∙ ap (λ (x : ℕ). get_or way x 0) (sym here);
            onwards = λ p. (
              λ h. (((next p).0 h).0, λ e. ((next p).0 h).1 (e ∙ sym old)),
              λ h. (next p).1 (h.0, λ e. h.1 (e ∙ old)),
            );
            written = λ i li.
                by_cases (ℕ_discrete i k)
                (λ e. ap (λ (x : ℕ). get_or (set l k v) x 0) e ∙ get_or-set_same l k v 0 (omega arith) ∙ at_k ∙ ap
                (λ (x : ℕ). get_or way x 0)
                (sym e))
                (λ d. get_or-set_other l k i v 0 d ∙ f.written i (omega arith));
          }

    pub following_last : n ≤ k → (i : ℕ) → i < n → row l i ≡ get_or way i 0
    following_last all i li = f.written i (omega arith)

    pub following_circle : n ≤ k → Circle n (Edge g) (row l)
    following_circle all = circle-same three (λ i li. sym (following_last all i li)) circle
