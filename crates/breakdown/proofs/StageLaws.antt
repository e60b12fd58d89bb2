-- Stages stay whole. A stage is the base ring with the first handles: the positions before a place of the row. Laws without code, as the
-- planner needs them.
--
--     Both P Q                 the positions of P and those of Q
--     ring_robust              the base ring is whole, and stays so without any one position
--     handle_robust            so does a stage with one handle more
--     whole-left, whole-right  a whole set with part of a handle hanging on the left end, or on the right end, is whole. The set may be a
--                              stage, a stage without a position that is not that end, or either of them with a part hanging on the other
--                              end
--     stage_within             each stage ends within the floor
--     stage_robust             each stage of a breakdown is whole, and stays so without any one position
--     stage_right              stage i with the places from j on of handle i, which hang on its right end, is whole
--     stage_right-without      and without a position y of the stage that is not that end
--     stage_split-without      stage i with all of handle i but one place j, without a position y of the stage that is neither end
--     robust_neighbours        a position of a set that stays whole has two neighbours in the set
--     breakdown_bi_connected    a floor that has a breakdown is bi-connected
-- Assumes nothing.
use Prim.Native.Nat.{ℕ, zero, suc, ◌+◌, ◌-◌, ◌≤◌, ◌<◌}
use mathlib.Core.Path.{◌≡◌, refl, sym, subst, ap, ◌∙◌}
use mathlib.Core.Logic.{◌≢◌, by_cases, ◌⊎◌, inl, inr, ⊎_elim}
use native.Mathlib.Decide.{ℕ_discrete, dec_lt}
use native.Mathlib.Numerals.{add-one}
use native.Mathlib.Omega.{arith}
use Rattle.graph.specs.Walk.{Way, Symmetric}
use Rattle.graph.proofs.WalkLaws.{Start, walk_starts, walk_segment, way_stay, way_step, way_append, way_reverse}
use Rattle.graph.specs.Connected.{Whole, Except, BiConnected, Robust}
use Rattle.graph.proofs.ConnectedLaws.{Hangs, whole_hung, whole_same, whole_base}
use Rattle.breakdown.specs.Breakdown.{Among, Between, Handle, Breakdown}

abbrev pub Both : (ℕ → Type 0) → (ℕ → Type 0) → ℕ → Type 0
Both P Q p = P p ⊎ Q p

module _ (at : ℕ → ℕ) where
  pub among : (m i : ℕ) → i < m → Among at m (at i)
  among m i l = record { place = i; before = l; is = refl }

  among_except : (m i k : ℕ) → ((i j : ℕ) → i < j → j < m → at i ≢ at j) → i < m → k < m → i ≢ k → Except (Among at m) (at k) (at i)
  among_except m i k distinct l h other =
      record {
        there = among m i l;
        other = by_cases (dec_lt i k) (λ a. distinct i k a h) (λ a e. distinct k i (omega arith) l (sym e));
      }

  -- a position that is not the one at place k stands at another place
  apart : (m k : ℕ) {p : ℕ} (x : Except (Among at m) (at k) p) → x.there.place ≢ k
  apart m k x e = x.other (sym x.there.is ∙ ap at e)

module _ {E : ℕ → ℕ → Type 0} (at : ℕ → ℕ) where
  -- along the row from place i up to place j
  way_along : {Q : ℕ → Type 0} (i j : ℕ) → i ≤ j → ((p : ℕ) → i ≤ p → p ≤ j → Q (at p)) → ((p : ℕ) → i ≤ p → p < j → E (at p) (at (p + 1)))
      → Way E Q (at i) (at j)
  way_along {Q} i j le inside joined =
      let same : i + (j - i) ≡ j = omega arith in
      subst (λ (k : ℕ). Way E Q (at i) (at k)) same
      (record {
        size = suc (j - i);
        walk = walk_segment at i (j - i) (λ p l h. inside p l (omega arith)) (λ p l h. joined p l (omega arith));
      })

  -- from an inner position of a handle down to its left end, and up to its right end
  way_down : {Q : ℕ → Type 0} {s e u v : ℕ} → Symmetric E → Handle E at s e u v → (i : ℕ) → s ≤ i → i < e
      → ((p : ℕ) → s ≤ p → p ≤ i → Q (at p)) → Q u
      → Way E Q (at i) u
  way_down {Q} {s} {e} {u} {v} sy h i le lt inside end =
      way_append (way_reverse sy (way_along s i le inside (λ p a b. h.joined p a (omega arith))))
      (way_step (inside s (omega arith) le) (sy u (at s) h.first) (way_stay end))

  way_up : {Q : ℕ → Type 0} {s e u v : ℕ} → Handle E at s e u v → (i : ℕ) → s ≤ i → i < e → ((p : ℕ) → i ≤ p → p < e → Q (at p)) → Q v
      → Way E Q (at i) v
  way_up {Q} {s} {e} {u} {v} h i le lt inside end =
      way_append (way_along i (e - 1) (omega arith) (λ p a b. inside p a (omega arith)) (λ p a b. h.joined p (omega arith) (omega arith)))
      (way_step (inside (e - 1) (omega arith) (omega arith)) h.last (way_stay end))

  pub ring_robust : (r : ℕ) → Symmetric E → 3 ≤ r → ((i : ℕ) → i + 1 < r → E (at i) (at (i + 1))) → E (at (r - 1)) (at 0)
      → ((i j : ℕ) → i < j → j < r → at i ≢ at j) → Robust E (Among at r)
  ring_robust r sy three joined closed distinct =
      record {
        whole = whole_base sy (at 0) (λ p a.
            subst (λ (q : ℕ). Way E (Among at r) q (at 0)) a.is
            (let l = a.before in
            way_reverse sy (way_along 0 a.place (omega arith) (λ q x y. among at r q (omega arith)) (λ q x y. joined q (omega arith)))));
        without = λ x a.
            subst (λ (y : ℕ). Whole E (Except (Among at r) y)) a.is (without a.place a.before);
      }
    where
      rest : (k i : ℕ) → k < r → i < r → i ≢ k → Except (Among at r) (at k) (at i)
      rest k i hk hi other = among_except at r i k distinct hi hk other

      -- without the first position all hang on the second
      to_second : (i : ℕ) → i < r → i ≢ 0 → Way E (Except (Among at r) (at 0)) (at i) (at 1)
      to_second i hi other =
          way_reverse sy (way_along 1 i (omega arith) (λ q x y. rest 0 q (omega arith) (omega arith) (omega arith))
          (λ q x y. joined q (omega arith)))

      -- without another one all hang on the first: those before it down the row, those after it up the row and round
      to_first : (k i : ℕ) → k < r → i < r → i ≢ k → k ≢ 0 → Way E (Except (Among at r) (at k)) (at i) (at 0)
      to_first k i hk hi other later =
          by_cases (dec_lt i k)
          (λ l. way_reverse sy (way_along 0 i (omega arith) (λ q x y. rest k q hk (omega arith) (omega arith))
          (λ q x y. joined q (omega arith))))
          (λ l. way_append
          (way_along i (r - 1) (omega arith) (λ q x y. rest k q hk (omega arith) (omega arith)) (λ q x y. joined q (omega arith)))
          (way_step (rest k (r - 1) hk (omega arith) (omega arith)) closed (way_stay (rest k 0 hk (omega arith) (omega arith)))))

      without : (k : ℕ) → k < r → Whole E (Except (Among at r) (at k))
      without k hk =
          by_cases (ℕ_discrete k 0)
          (λ e. subst (λ (y : ℕ). Whole E (Except (Among at r) (at y))) (sym e)
          (whole_base sy (at 1) (λ p x.
          subst (λ (q : ℕ). Way E (Except (Among at r) (at 0)) q (at 1)) x.there.is
          (to_second x.there.place x.there.before (apart at r 0 x)))))
          (λ e. whole_base sy (at 0) (λ p x.
          subst (λ (q : ℕ). Way E (Except (Among at r) (at k)) q (at 0)) x.there.is
          (to_first k x.there.place hk x.there.before (apart at r k x) e)))

  pub handle_robust : (s e u v : ℕ) → Symmetric E → Handle E at s e u v → ((i j : ℕ) → i < j → j < e → at i ≢ at j)
      → Robust E (Among at s) → Robust E (Among at e)
  handle_robust s e u v sy h distinct robust =
      record {
        whole = whole_hung sy before robust.whole (λ p a.
            by_cases (dec_lt a.place s)
            (λ l. stays (Among at e) p (record { place = a.place; before = l; is = a.is }) a)
            (λ l. subst (Hangs E (Among at s) (Among at e)) a.is
            (record {
              at = u;
              there = h.left;
              way =
                  way_down sy h a.place (omega arith) a.before (λ q x y. among at e q (let b = a.before in omega arith))
                  (before u h.left);
            })));
        without = λ x a.
            subst (λ (y : ℕ). Whole E (Except (Among at e) y)) a.is
            (by_cases (dec_lt a.place s) (without_old a.place) (λ l. without_new a.place (omega arith) a.before));
      }
    where
      inner : s < e
      inner = h.inner

      before : (p : ℕ) → Among at s p → Among at e p
      before p a = record { place = a.place; before = (let b = a.before in omega arith); is = a.is }

      stays : (Q : ℕ → Type 0) (p : ℕ) {P : ℕ → Type 0} → P p → Q p → Hangs E P Q p
      stays Q p a b = record { at = p; there = a; way = way_stay b }

      rest : (k i : ℕ) → k < e → i < e → i ≢ k → Except (Among at e) (at k) (at i)
      rest k i hk hi other = among_except at e i k distinct hi hk other

      -- without a position of the stage the inside hangs on an end that is another one
      without_old : (k : ℕ) → k < s → Whole E (Except (Among at e) (at k))
      without_old k hk =
          whole_hung sy (λ p x. record { there = before p x.there; other = x.other }) (robust.without (at k) (among at s k hk)) (λ p x.
          by_cases (dec_lt x.there.place s)
          (λ l. stays (Except (Among at e) (at k)) p (record {
            there = record { place = x.there.place; before = l; is = x.there.is };
            other = x.other;
          }) x)
          (λ l. subst (Hangs E (Except (Among at s) (at k)) (Except (Among at e) (at k))) x.there.is
          (by_cases (ℕ_discrete u (at k))
          (λ i. right x.there.place (omega arith) x.there.before (λ j. h.ends (i ∙ sym j)))
          (λ i. left x.there.place (omega arith) x.there.before i))))
        where
          left : (i : ℕ) → s ≤ i → i < e → u ≢ at k → Hangs E (Except (Among at s) (at k)) (Except (Among at e) (at k)) (at i)
          left i le lt other =
              record {
                at = u;
                there = record { there = h.left; other = other };
                way =
                    way_down sy h i le lt (λ q a b. rest k q (omega arith) (omega arith) (omega arith))
                    (record { there = before u h.left; other = other });
              }

          right : (i : ℕ) → s ≤ i → i < e → v ≢ at k → Hangs E (Except (Among at s) (at k)) (Except (Among at e) (at k)) (at i)
          right i le lt other =
              record {
                at = v;
                there = record { there = h.right; other = other };
                way =
                    way_up h i le lt (λ q a b. rest k q (omega arith) b (omega arith))
                    (record { there = before v h.right; other = other });
              }

      -- without an inner position those before it hang on the left end, those after it on the right end
      without_new : (k : ℕ) → s ≤ k → k < e → Whole E (Except (Among at e) (at k))
      without_new k hs hk =
          whole_hung sy old robust.whole (λ p x.
          by_cases (dec_lt x.there.place s)
          (λ l. stays (Except (Among at e) (at k)) p (record { place = x.there.place; before = l; is = x.there.is }) x)
          (λ l. subst (Hangs E (Among at s) (Except (Among at e) (at k))) x.there.is
          (side x.there.place (omega arith) x.there.before (apart at e k x))))
        where
          old : (p : ℕ) → Among at s p → Except (Among at e) (at k) p
          old p a =
              let b = a.before in
              subst (Except (Among at e) (at k)) a.is (rest k a.place hk (omega arith) (omega arith))

          side : (i : ℕ) → s ≤ i → i < e → i ≢ k → Hangs E (Among at s) (Except (Among at e) (at k)) (at i)
          side i le lt other =
              by_cases (dec_lt i k)
              (λ l. record {
                at = u;
                there = h.left;
                way = way_down sy h i le lt (λ q a b. rest k q hk (omega arith) (omega arith)) (old u h.left);
              })
              (λ l. record {
                at = v;
                there = h.right;
                way = way_up h i le lt (λ q a b. rest k q hk b (omega arith)) (old v h.right);
              })

  -- so is what hangs on it, with it
  whole-both : {P Q : ℕ → Type 0} → Symmetric E → Whole E P → ((p : ℕ) → Q p → Hangs E P (Both P Q) p) → Whole E (Both P Q)
  whole-both sy whole hangs =
      whole_hung sy (λ p a. inl a) whole (λ p x. ⊎_elim (λ a. record { at = p; there = a; way = way_stay (inl a) }) (hangs p) x)

  pub whole-left : {P : ℕ → Type 0} (s e u v i : ℕ) → Symmetric E → Handle E at s e u v → i ≤ e → Whole E P → P u
      → Whole E (Both P (Between at s i))
  whole-left {P} s e u v i sy h le whole end =
      whole-both sy whole (λ p b.
      let f = b.from in
      let l = b.before in
      subst (Hangs E P (Both P (Between at s i))) b.is
      (record {
        at = u;
        there = end;
        way =
            way_down sy h b.place f (omega arith)
            (λ q x y. inr (record { place = q; from = x; before = omega arith; is = refl })) (inl end);
      }))

  pub whole-right : {P : ℕ → Type 0} (s e u v i : ℕ) → Symmetric E → Handle E at s e u v → s ≤ i → Whole E P → P v
      → Whole E (Both P (Between at i e))
  whole-right {P} s e u v i sy h le whole end =
      whole-both sy whole (λ p b.
      let f = b.from in
      let l = b.before in
      subst (Hangs E P (Both P (Between at i e))) b.is
      (record {
        at = v;
        there = end;
        way =
            way_up h b.place (omega arith) l (λ q x y. inr (record { place = q; from = omega arith; before = y; is = refl })) (inl end);
      }))

pub record Two (E : ℕ → ℕ → Type 0) (P : ℕ → Type 0) (a : ℕ) : Type 0 where
  pub one : Start E P a
  pub two : Start E P a
  pub differ : two.to ≢ one.to

-- x and y are positions of the set, so that a is not alone in it with any one of its neighbours
pub robust_neighbours : {E : ℕ → ℕ → Type 0} {P : ℕ → Type 0} (a x y : ℕ) → Robust E P → ((p : ℕ) → E p p → ⊥) → P a → P x → P y
    → a ≢ x → a ≢ y → x ≢ y → Two E P a
robust_neighbours {E} {P} a x y robust loopless pa px py ax ay xy =
    let one = walk_starts (robust.whole a x pa px).walk ax in
    by_cases (ℕ_discrete x one.to)
    (λ e. second one y py ay (λ q. xy (e ∙ sym q)))
    (λ e. second one x px ax e)
  where
    -- a walk that avoids the first neighbour starts at another one
    second : (s : Start E P a) (z : ℕ) → P z → a ≢ z → z ≢ s.to → Two E P a
    second s z pz az other =
        let self : a ≢ s.to = λ e. loopless a (subst (E a) (sym e) s.edge) in
        let way = robust.without s.to s.there a z (record { there = pa; other = self }) (record { there = pz; other = other }) in
        let t = walk_starts way.walk az in
        record { one = s; two = record { to = t.to; edge = t.edge; there = t.there.there }; differ = t.there.other }

module _ {n : ℕ} {E : ℕ → ℕ → Type 0} {r c : ℕ} {at start left right : ℕ → ℕ} (sy : Symmetric E)
    (b : Breakdown n E r c at start left right) where
  pub stage_within : (d i : ℕ) → i + d ≡ c → start i ≤ n
  stage_within zero i e = let same : start i ≡ start c = ap start (omega arith) in let stops = b.stops in omega arith
  stage_within (suc d) i e =
      let inner = (b.handle i (omega arith)).inner in
      let later = stage_within d (i + 1) (omega arith) in
      omega arith

  pub stage_robust : (i : ℕ) → i ≤ c → Robust E (Among at (start i))
  stage_robust zero l =
      let less = b.ring_less in
      subst (λ (m : ℕ). Robust E (Among at m)) (sym b.begins)
      (ring_robust at r sy b.ring_three b.ring_joined b.ring_closed (λ i j h k. b.distinct i j h (omega arith)))
  stage_robust (suc i) l =
      let within : start (i + 1) ≤ n = stage_within (c - (i + 1)) (i + 1) (omega arith) in
      subst (λ (m : ℕ). Robust E (Among at (start m))) (add-one i)
      (handle_robust at (start i) (start (i + 1)) (left i) (right i) sy (b.handle i l) (λ x y h k. b.distinct x y h (omega arith))
      (stage_robust i (omega arith)))

  -- what hangs on the right end of handle i, on the stage or on the stage without y
  pub stage_right : (i j : ℕ) → i < c → start i ≤ j → Whole E (Both (Among at (start i)) (Between at j (start (i + 1))))
  stage_right i j l h =
      let handle = b.handle i l in
      whole-right at (start i) (start (i + 1)) (left i) (right i) j sy handle h (stage_robust i (omega arith)).whole handle.right

  pub stage_right-without : (i j y : ℕ) → i < c → start i ≤ j → Among at (start i) y → right i ≢ y
      → Whole E (Both (Except (Among at (start i)) y) (Between at j (start (i + 1))))
  stage_right-without i j y l h in_stage other =
      let handle = b.handle i l in
      whole-right at (start i) (start (i + 1)) (left i) (right i) j sy handle h ((stage_robust i (omega arith)).without y in_stage)
      (record { there = handle.right; other = other })

  pub stage_split-without : (i j y : ℕ) → i < c → start i ≤ j → j < start (i + 1) → Among at (start i) y → left i ≢ y → right i ≢ y
      → Whole E (Both (Both (Except (Among at (start i)) y) (Between at (start i) j)) (Between at (j + 1) (start (i + 1))))
  stage_split-without i j y l h k in_stage not_left not_right =
      let handle = b.handle i l in
      whole-right at (start i) (start (i + 1)) (left i) (right i) (j + 1) sy handle (omega arith)
      (whole-left at (start i) (start (i + 1)) (left i) (right i) j sy handle (omega arith)
      ((stage_robust i (omega arith)).without y in_stage)
      (record { there = handle.left; other = not_left }))
      (inl (record { there = handle.right; other = not_right }))

  pub breakdown_bi_connected : BiConnected n E
  breakdown_bi_connected =
      let three = b.ring_three in
      let less = b.ring_less in
      let all : Robust E (Among at n) = subst (λ (m : ℕ). Robust E (Among at m)) b.stops (stage_robust c (omega arith)) in
      record {
        three = omega arith;
        connected = whole_same in_floor b.every all.whole;
        without = λ x h.
            whole_same
            (λ p y. record { there = in_floor p y.there; other = y.other })
            (λ p y. record { there = b.every p y.there; other = y.other })
            (all.without x (b.every x h));
      }
    where
      in_floor : (p : ℕ) → Among at n p → p < n
      in_floor p a = subst (λ (q : ℕ). q < n) a.is (b.below a.place a.before)
