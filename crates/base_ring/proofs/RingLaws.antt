-- Laws of the base ring: its positions as a set, ways on it, and vacancies on it.
--
--     among_or_not         a position is at one of the first places of a row or it is not
--     on_surely            a position that is not off the ring is on it
--     circle_on, circle-apart    each place is on the ring; two places are different positions
--     circle_below         a position of the ring is one of the floor
--     circle_small, circle-places    so it is below 64
--     circle_off, circle_beside  `beside` is not on the ring, and is a position of the floor
--     circle_robust        the ring is whole, and stays so without any one position
--     robust_same          two sets with the same positions stay whole together
--     table_two            where two positions are vacant, no third is
--     held_on              where every position off the ring holds a rack, a vacancy is on the ring
--     held_open            so it is where places 0 and 1 are vacant
--     held_same            and where the same stands off the ring
--     ring_has, ring_on, ring_below, ring_robust    the ring as a set
--     ring_few, ring_few_without, ring_few_last    it has no more positions than places; without one place, and without places 0 and 1
--     ring-vacancy         the set has a vacancy
--     ring-reaches         a walk leads from each place to a vacancy, where every position off the ring holds a rack
--     ring-reaches-without    and to one that is not at place i, without it
--     ring-reaches_last    from the last place a walk without places 0 and 1 leads to a vacancy, where place 1 is not vacant
-- Assumes nothing.
use Prim.Native.Nat.{ℕ, zero, suc, ◌+◌, ◌-◌, ◌≤◌, ◌<◌}
use mathlib.Core.Path.{◌≡◌, refl, sym, ap, subst, ◌∙◌}
use mathlib.Core.List.{List}
use mathlib.Core.Logic.{◌↔◌, ◌≢◌, by_cases, ◌⊎◌, inl, inr, ⊎_elim}
use native.Mathlib.Decide.{ℕ_discrete, dec_lt}
use native.Mathlib.Omega.{arith}
use Rattle.sets.specs.Sets.{Has}
use Rattle.graph.specs.Walk.{Way, Symmetric}
use Rattle.graph.proofs.WalkLaws.{walk_segment, walk_inside, way_reverse}
use Rattle.graph.specs.Connected.{Robust}
use Rattle.graph.proofs.ConnectedLaws.{whole_same}
use Rattle.graph.specs.Rows.{Edge, Rows}
use Rattle.breakdown.specs.Breakdown.{Among}
use Rattle.breakdown.specs.Part.{Places, Part}
use Rattle.breakdown.proofs.StageLaws as stage
use Rattle.shunting.specs.Distance.{Reaches, AtMost}
use Rattle.shunting.proofs.DistanceLaws.{at_most_less, at_most_more, at_most_seats, at_most_without, reaches_back}
use Rattle.shunting.specs.Cleared.{Vacancy}
use Rattle.moving.specs.Table.{Table}
use Rattle.moving.proofs.TableLaws.{table_other}
use Rattle.base_ring.specs.declared.Circle.{Circle}
use Rattle.base_ring.specs.Circle.{place, On, BaseRing, RestHeld, Open}

pub among_or_not : (at : ℕ → ℕ) (m p : ℕ) → Among at m p ⊎ (Among at m p → ⊥)
among_or_not at zero p = inr (λ x. none x.before)
  where
    none : {i : ℕ} → i < 0 → ⊥
    none h = omega arith
among_or_not at (suc m) p =
    ⊎_elim
    (λ x. inl (let l = x.before in record { place = x.place; before = omega arith; is = x.is }))
    (λ f. by_cases (ℕ_discrete (at m) p)
    (λ e. inl (record { place = m; before = omega arith; is = e }))
    (λ e. inr (λ x. last f e x)))
    (among_or_not at m p)
  where
    last : (Among at m p → ⊥) → at m ≢ p → Among at (suc m) p → ⊥
    last f e x =
        let l = x.before in
        by_cases (ℕ_discrete x.place m)
        (λ q. e (ap at (sym q) ∙ x.is))
        (λ q. f (record { place = x.place; before = omega arith; is = x.is }))

pub on_surely : (c : Circle) (p : ℕ) → ((On c p → ⊥) → ⊥) → On c p
on_surely c p f = ⊎_elim (λ x. x) (λ x. absurd (f x)) (among_or_not (place c) c.size p)

pub robust_same : {E : ℕ → ℕ → Type 0} {P Q : ℕ → Type 0} → ((p : ℕ) → P p → Q p) → ((p : ℕ) → Q p → P p) → Robust E P → Robust E Q
robust_same to from r =
    record {
      whole = whole_same to from r.whole;
      without = λ x q.
          whole_same (λ p e. record { there = to p e.there; other = e.other })
          (λ p e. record { there = from p e.there; other = e.other })
          (r.without x (from x q));
    }

pub table_two : {n : ℕ} {h : ℕ → ℕ} → Table n h → (p q r : ℕ) → p < n → q < n → p ≢ q → h p ≡ 0 → h q ≡ 0 → r < n → h r ≡ 0
    → (r ≡ p) ⊎ (r ≡ q)
table_two t p q r hp hq differ vp vq hr vr =
    pick (t.only p hp vp) (t.only q hq vq) (t.only r hr vr)
  where
    pick : {x y : ℕ} → (p ≡ x) ⊎ (p ≡ y) → (q ≡ x) ⊎ (q ≡ y) → (r ≡ x) ⊎ (r ≡ y) → (r ≡ p) ⊎ (r ≡ q)
    pick (inl a) (inl b) c = absurd (differ (a ∙ sym b))
    pick (inl a) (inr b) (inl c) = inl (c ∙ sym a)
    pick (inl a) (inr b) (inr c) = inr (c ∙ sym b)
    pick (inr a) (inl b) (inl c) = inr (c ∙ sym b)
    pick (inr a) (inl b) (inr c) = inl (c ∙ sym a)
    pick (inr a) (inr b) c = absurd (differ (a ∙ sym b))

pub held_on : (c : Circle) {h : ℕ → ℕ} → RestHeld c h → (p : ℕ) → p < c.positions → h p ≡ 0 → On c p
held_on c f p l v = on_surely c p (λ out. f p l out v)

pub held_same : (c : Circle) {h k : ℕ → ℕ} → ((p : ℕ) → (On c p → ⊥) → k p ≡ h p) → RestHeld c h → RestHeld c k
held_same c same f p l out e = f p l out (sym (same p out) ∙ e)

module _ {E : ℕ → ℕ → Type 0} {c : Circle} (circle : BaseRing E c) where
  pub circle_on : (i : ℕ) → i < c.size → On c (place c i)
  circle_on i l = record { place = i; before = l; is = refl }

  pub circle_below : (p : ℕ) → On c p → p < c.positions
  circle_below p x = subst (λ (q : ℕ). q < c.positions) x.is (circle.below x.place x.before)

  pub circle-apart : (i j : ℕ) → i < c.size → j < c.size → i ≢ j → place c i ≢ place c j
  circle-apart i j hi hj other =
      by_cases (dec_lt i j) (λ l. circle.distinct i j l hj) (λ l e. circle.distinct j i (omega arith) hi (sym e))

  pub circle_off : On c c.beside → ⊥
  circle_off x = circle.off x.place x.before x.is

  pub circle_robust : Symmetric E → Robust E (On c)
  circle_robust s = stage.ring_robust (place c) c.size s circle.three circle.joined circle.closed circle.distinct

  pub held_open : {h : ℕ → ℕ} → Open c h → RestHeld c h
  held_open o p l out v =
      let three = circle.three in
      ⊎_elim
      (λ e. out (subst (On c) (sym e) (circle_on 0 (omega arith))))
      (λ e. out (subst (On c) (sym e) (circle_on 1 (omega arith))))
      (table_two o.table (place c 0) (place c 1) p (circle.below 0 (omega arith)) (circle.below 1 (omega arith))
      (circle.distinct 0 1 (omega arith) (omega arith)) o.zero o.one l v)

module _ {g : List ℕ} {c : Circle} (rows : Rows c.positions g) (circle : BaseRing (Edge g) c) where
  pub circle_small : (i : ℕ) → i < c.size → place c i < 64
  circle_small i l = let x = circle.below i l in let s = rows.small in omega arith

  pub circle-places : Places (place c) c.size
  circle-places = let s = rows.small in let less = circle.less in record { most = omega arith; below = circle_small }

  pub circle_beside : c.beside < c.positions
  circle_beside = (rows.inside (place c 0) c.beside circle.beside).1

  module _ (ring : ℕ) (part : Part (place c) 0 c.size ring) where
    pub ring_has : (p : ℕ) → On c p → Has ring p
    ring_has p x = (part p).1 (record { place = x.place; from = omega arith; before = x.before; is = x.is })

    pub ring_on : (p : ℕ) → Has ring p → On c p
    ring_on p x = let b = (part p).0 x in record { place = b.place; before = b.before; is = b.is }

    pub ring_below : (p : ℕ) → Has ring p → p < c.positions
    ring_below p x = circle_below circle p (ring_on p x)

    pub ring_robust : Robust (Edge g) (Has ring)
    ring_robust = robust_same ring_has ring_on (circle_robust circle rows.symmetric)

    seats : AtMost c.size (Has ring)
    seats = at_most_less ring_on (at_most_seats (place c) c.size (λ p x. (x.place, x.before, x.is)))

    pub ring_few : AtMost (suc (c.size - 1)) (Has ring)
    ring_few = at_most_more (suc (c.size - 1)) (omega arith) seats

    pub ring_few_without : (i : ℕ) → i < c.size → (free : ℕ) → ((p : ℕ) → Has free p ↔ (Has ring p × (p ≢ place c i)))
        → AtMost (suc (c.size - 2)) (Has free)
    ring_few_without i l free has =
        at_most_without ring free (ring_has (place c i) (circle_on circle i l)) has
        (at_most_more (suc (suc (c.size - 2))) (omega arith) seats)

    pub ring_few_last : (free more : ℕ) → ((p : ℕ) → Has free p ↔ (Has ring p × (p ≢ place c 1)))
        → ((p : ℕ) → Has more p ↔ (Has free p × (p ≢ place c 0))) → AtMost (suc (c.size - 3)) (Has more)
    ring_few_last free more has Has_more =
        let three = circle.three in
        let first = (has (place c 0)).1
        (ring_has (place c 0) (circle_on circle 0 (omega arith)), circle-apart circle 0 1 (omega arith) (omega arith) (omega arith)) in
        at_most_without free more first Has_more
        (at_most_more (suc (suc (c.size - 3))) (omega arith) (ring_few_without 1 (omega arith) free has))

    module _ {h : ℕ → ℕ} (table : Table c.positions h) (filled : RestHeld c h) where
      pub ring-vacancy : Vacancy (Has ring) h
      ring-vacancy =
          record {
            at = table.first;
            there = ring_has table.first (held_on c filled table.first table.first_inside table.first_vacant);
            vacant = table.first_vacant;
          }

      pub ring-reaches : (i : ℕ) → i < c.size → Reaches (Edge g) (Has ring) h (place c i)
      ring-reaches i l =
          let z = ring-vacancy in
          let way = ring_robust.whole (place c i) z.at (ring_has (place c i) (circle_on circle i l)) z.there in
          reaches_back rows.symmetric z.at way.size z.vacant way.walk

      module _ (i j : ℕ) (hi : i < c.size) (hj : j < c.size) (other : j ≢ i) (free : ℕ)
          (has : (p : ℕ) → Has free p ↔ (Has ring p × (p ≢ place c i))) where
        pub ring-reaches-without : Reaches (Edge g) (Has free) h (place c j)
        ring-reaches-without =
            let z = table_other table (place c i) in
            let way = ring_robust.without (place c i) (ring_has (place c i) (circle_on circle i hi)) (place c j) z.0
            (record { there = ring_has (place c j) (circle_on circle j hj); other = circle-apart circle j i hj hi other })
            (record { there = ring_has z.0 (held_on c filled z.0 z.1 z.3); other = z.2 }) in
            reaches_back rows.symmetric z.0 way.size z.3 (walk_inside (λ p x. (has p).1 (x.there, x.other)) way.walk)

      module _ (held : h (place c 1) ≢ 0) (free more : ℕ) (has : (p : ℕ) → Has free p ↔ (Has ring p × (p ≢ place c 1)))
          (Has_more : (p : ℕ) → Has more p ↔ (Has free p × (p ≢ place c 0))) where
        inner : (i : ℕ) → 2 ≤ i → i < c.size → Has more (place c i)
        inner i le l =
            (Has_more (place c i)).1 (
              (has (place c i)).1 (ring_has (place c i) (circle_on circle i l), circle-apart circle i 1 l (omega arith) (omega arith)),
              circle-apart circle i 0 l (omega arith) (omega arith),
            )

        -- down the row from the last place
        down : (i : ℕ) → 2 ≤ i → i < c.size → Way (Edge g) (Has more) (place c (c.size - 1)) (place c i)
        down i le l =
            let end : i + (c.size - 1 - i) ≡ c.size - 1 = omega arith in
            way_reverse rows.symmetric
            (subst (λ (k : ℕ). Way (Edge g) (Has more) (place c i) (place c k)) end
            (record {
              size = suc (c.size - 1 - i);
              walk =
                  walk_segment (place c) i (c.size - 1 - i) (λ p x y. inner p (omega arith) (omega arith))
                  (λ p x y. circle.joined p (omega arith));
            }))

        pub ring-reaches_last : Reaches (Edge g) (Has more) h (place c (c.size - 1))
        ring-reaches_last =
            let z = table_other table (place c 0) in
            let on = held_on c filled z.0 z.1 z.3 in
            let first : on.place ≢ 0 = λ e. z.2 (sym on.is ∙ ap (place c) e) in
            let second : on.place ≢ 1 = λ e. held (ap h (sym (ap (place c) e) ∙ on.is) ∙ z.3) in
            let way = down on.place (omega arith) on.before in
            reaches_back rows.symmetric (place c on.place) way.size (ap h on.is ∙ z.3) way.walk
