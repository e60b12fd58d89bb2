-- Laws of a handle's places, and of the stage that it stands on.
--
--     agreed_next            the state of `is_settled`: one place more holds what the goal has there
--     among_between, between_among    the stage as the places from 0 on; among_few    it has no more positions than places
--     Region at s e k        the stage with what is not stacked of the handle: with the places from s + k up to e
--     handle_places          a lane's places and positions are below 64
--     apart                  two places of a lane hold different positions
--     region_has, region_below, region_few, region_whole    that region as a set; on the floor; no larger than it; whole
--     region_vacant          both vacancies are in it
--     region_reaches         from a position of it a way inside it leads to a vacancy
--     placing_stays          racks moved where neither the stack nor what lies behind the handle stands
--     placing_kept           racks moved inside the region alone: that is so
--     stage_vacancy          a position that is vacant and in the stage
-- Assumes nothing.
use Prim.Native.Nat.{ℕ, suc, ◌+◌, ◌-◌, ◌≤◌, ◌<◌}
use mathlib.Core.Path.{◌≡◌, refl, sym, ap, subst, ◌∙◌}
use mathlib.Core.Logic.{◌↔◌, ◌≢◌, inl, inr, ⊎_elim, by_cases}
use native.Mathlib.Decide.{ℕ_discrete, dec_lt}
use native.Mathlib.Omega.{arith}
use lib.Bits.{bit_and, bit_or}
use Rattle.sets.specs.Sets.{Has}
use Rattle.sets.proofs.SetLaws.{has_and, has_or, has_some}
use Rattle.graph.specs.Walk.{Symmetric}
use Rattle.graph.proofs.WalkLaws.{walk_inside}
use Rattle.graph.specs.Connected.{Whole}
use Rattle.breakdown.specs.Breakdown.{Among, Between}
use Rattle.breakdown.specs.Part.{Places, Part}
use Rattle.breakdown.proofs.StageLaws.{Both, whole-right}
use Rattle.shunting.specs.Distance.{Reaches, AtMost}
use Rattle.shunting.proofs.DistanceLaws.{at_most_inside, at_most_seats, reaches_back}
use Rattle.shunting.specs.Cleared.{VacantBelow, Vacancy}
use Rattle.moving.specs.Table.{Table}
use Rattle.lane.specs.Lane.{HandleOn, Agreed, Placing}

pub agreed_next : (at T h : ℕ → ℕ) (s i : ℕ) → h (at i) ≡ T (at i) → Agreed at T h s i → Agreed at T h s (i + 1)
agreed_next at T h s i here a j le l =
    by_cases (ℕ_discrete j i) (λ e. subst (λ (x : ℕ). h (at x) ≡ T (at x)) (sym e) here) (λ e. a j le (omega arith))

pub between_among : {at : ℕ → ℕ} {s p : ℕ} → Between at 0 s p → Among at s p
between_among b = record { place = b.place; before = b.before; is = b.is }

pub among_between : {at : ℕ → ℕ} {s p : ℕ} → Among at s p → Between at 0 s p
among_between a = record { place = a.place; from = omega arith; before = a.before; is = a.is }

pub among_few : {at : ℕ → ℕ} {s : ℕ} → AtMost s (Among at s)
among_few {at} {s} = at_most_seats at s (λ p a. (a.place, a.before, a.is))

abbrev pub Region : (ℕ → ℕ) → ℕ → ℕ → ℕ → ℕ → Type 0
Region at s e k p = Both (Among at s) (Between at (s + k) e) p

pub placing_stays : {n : ℕ} {at T : ℕ → ℕ} {s e k : ℕ} {h h' : ℕ → ℕ} → Placing n at T s e k h → Table n h'
    → ((j : ℕ) → j < k → h' (at (s + j)) ≡ h (at (s + j))) → ((j : ℕ) → e ≤ j → j < n → h' (at j) ≡ h (at j)) → Placing n at T s e k h'
placing_stays placing table stack behind =
    record {
      table = table;
      goal = placing.goal;
      filled = placing.filled;
      few = placing.few;
      stacked = λ j l. stack j l ∙ placing.stacked j l;
      behind = λ j le l. behind j le l ∙ placing.behind j le l;
    }

module _ {n : ℕ} {E : ℕ → ℕ → Type 0} {at : ℕ → ℕ} {s e u v : ℕ} (lane : HandleOn n E at s e u v) where
  pub handle_places : n ≤ 64 → Places at e
  handle_places small =
      let within = lane.within in
      record { most = omega arith; below = λ i l. (let b = lane.below i (omega arith) in omega arith) }

  pub apart : (i j : ℕ) → i < n → j < n → i ≢ j → at i ≢ at j
  apart i j hi hj other = by_cases (dec_lt i j) (λ l. lane.distinct i j l hj) (λ l z. lane.distinct j i (omega arith) hi (sym z))

  pub region_has : (k a b : ℕ) → Part at 0 s a → Part at (s + k) e b
      → (p : ℕ) → Has (bit_or a b) p ↔ Region at s e k p
  region_has k a b stage rest p = (
    λ h. ⊎_elim (λ x. inl (between_among ((stage p).0 x))) (λ x. inr ((rest p).0 x)) ((has_or a b p).0 h),
    λ h. (has_or a b p).1 (⊎_elim (λ x. inl ((stage p).1 (among_between x))) (λ x. inr ((rest p).1 x)) h),
  )

  pub region_below : (k p : ℕ) → Region at s e k p → p < n
  region_below k p r =
      let inner = lane.handle.inner in
      let within = lane.within in
      ⊎_elim
      (λ x. let b = x.before in subst (λ (q : ℕ). q < n) x.is (lane.below x.place (omega arith)))
      (λ x. let b = x.before in subst (λ (q : ℕ). q < n) x.is (lane.below x.place (omega arith)))
      r

  pub region_few : {P : ℕ → Type 0} (k : ℕ) → ((p : ℕ) → P p → Region at s e k p) → AtMost (suc (n - 1)) P
  region_few k inside = at_most_inside n (λ p x. region_below k p (inside p x))

  pub region_whole : (k : ℕ) → Symmetric E → Whole E (Region at s e k)
  region_whole k sy = whole-right at s e u v (s + k) sy lane.handle (omega arith) lane.robust.whole lane.handle.right

  module _ {T : ℕ → ℕ} {k : ℕ} {h : ℕ → ℕ} (placing : Placing n at T s e k h) where
    pub region_vacant : (p : ℕ) → p < n → h p ≡ 0 → Region at s e k p
    region_vacant p l z = subst (Region at s e k) a.is (by_cases (dec_lt a.place s) in_stage (λ x. in_handle (omega arith)))
      where
        a : Among at n p
        a = lane.every p l

        empty : h (at a.place) ≡ 0
        empty = ap h a.is ∙ z

        in_stage : a.place < s → Region at s e k (at a.place)
        in_stage x = inl (record { place = a.place; before = x; is = refl })

        -- a place of the stack holds a rack of the goal
        no_stack : (j : ℕ) → j < k → h (at (s + j)) ≡ 0 → ⊥
        no_stack j x y =
            let few = placing.few in
            let inner = lane.handle.inner in
            let within = lane.within in
            placing.filled (e - k + j) (omega arith) (omega arith) (sym (placing.stacked j x) ∙ y)

        in_handle : s ≤ a.place → Region at s e k (at a.place)
        in_handle x =
            by_cases (dec_lt a.place (s + k))
            (λ y.
            let same : s + (a.place - s) ≡ a.place = omega arith in
            absurd (no_stack (a.place - s) (omega arith) (ap (λ (j : ℕ). h (at j)) same ∙ empty)))
            (λ y. by_cases (dec_lt a.place e)
            (λ w. inr (record { place = a.place; from = omega arith; before = w; is = refl }))
            (λ w.
            let inner = lane.handle.inner in
            absurd (placing.filled a.place x a.before (sym (placing.behind a.place (omega arith) a.before) ∙ empty))))

    pub region_reaches : {P : ℕ → Type 0} (p : ℕ) → Symmetric E → ((q : ℕ) → Region at s e k q → P q) → Region at s e k p
        → Reaches E P h p
    region_reaches p sy into here =
        let t = placing.table in
        let way = region_whole k sy p t.first here (region_vacant t.first t.first_inside t.first_vacant) in
        reaches_back sy t.first way.size t.first_vacant (walk_inside into way.walk)

    outside : (i : ℕ) → s ≤ i → i < n → (s + k ≤ i → i < e → ⊥) → Region at s e k (at i) → ⊥
    outside i le l other x =
        let within = lane.within in
        ⊎_elim
        (λ a. let b = a.before in apart a.place i (omega arith) l (omega arith) a.is)
        (λ b.
        let f = b.from in
        let bb = b.before in
        by_cases (ℕ_discrete b.place i)
        (λ same. other (omega arith) (omega arith))
        (λ differ. apart b.place i (omega arith) l differ b.is))
        x

    pub placing_kept : {P : ℕ → Type 0} {h' : ℕ → ℕ} → ((p : ℕ) → P p → Region at s e k p) → Table n h'
        → ((p : ℕ) → (P p → ⊥) → h' p ≡ h p) → Placing n at T s e k h'
    placing_kept inside table same =
        let within = lane.within in
        let inner = lane.handle.inner in
        let few = placing.few in
        placing_stays placing table
        (λ j l. same (at (s + j)) (λ x. outside (s + j) (omega arith) (omega arith) (λ a b. omega arith) (inside (at (s + j)) x)))
        (λ j le l. same (at j) (λ x. outside j (omega arith) l (λ a b. omega arith) (inside (at j) x)))

pub stage_vacancy : {n : ℕ} {at h : ℕ → ℕ} {s : ℕ} (a b : ℕ) → VacantBelow n h a → Part at 0 s b
    → bit_and a b ≢ 0 → Vacancy (Among at s) h
stage_vacancy a b vacant stage some =
    let x = has_some (bit_and a b) (omega arith) in
    let y = (has_and a b x.0).0 x.1 in
    record { at = x.0; there = between_among ((stage x.0).0 y.1); vacant = ((vacant x.0).0 y.0).1 }
