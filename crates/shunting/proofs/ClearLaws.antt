-- Laws of clearing a position.
--
--     vacant_none, vacant_held, vacant_more, vacant-all    the state of `vacancies`: none below 0; p holds a rack; p is vacant; as far as n
--     Shifting, shifting_begin, shifting_movable, shifting_step, shifting_end    the state of `shift`: the racks behind place i stand one
--                               place on, and place i is vacant
--     Shifts, shifts_begin, shifts_step, shifts_end    and its journey
--     Found, free_is          what a search for a vacancy finds through the positions that are not held
--     way_none                no way
--     way_short, way_inside, way_simple, way_shiftable, way_joined, way_distance, way_cleared    the way
--     cleared                 the way shifted
--     clears_same, room_same, within_clears    the same of the positions of a region
--     outcome_told, outcome_none, outcome_held    the number that is told; that there is no way is told exactly where there is none; and
--                             what is held does not move
--     clear_room, clear_few   a clearing takes fewer moves than there are free positions: room for it, and its journey
-- Assumes nothing.
use Prim.Native.Nat.{ℕ, suc, ◌+◌, ◌-◌, ◌≤◌, ◌<◌}
use mathlib.Core.Path.{◌≡◌, refl, sym, ap, subst, ◌∙◌}
use mathlib.Core.List.{List}
use mathlib.Core.Logic.{◌↔◌, ◌≢◌, ◌⊎◌, inl, inr, ⊎_elim, by_cases}
use Rattle.std.proofs.Common.{Some, None}
use Rattle.std.proofs.lemmas.Option.{none-some}
use native.Mathlib.Decide.{ℕ_discrete, dec_lt}
use native.Mathlib.Omega.{arith}
use Rattle.sets.specs.Sets.{Has}
use Rattle.sets.proofs.SetLaws.{has_none}
use Rattle.graph.specs.Walk.{Walk, Path}
use Rattle.graph.proofs.WalkLaws.{walk_first, walk_inside, walk_reverse, path_walk}
use Rattle.graph.specs.Rows.{row, Edge, Rows}
use Rattle.graph.specs.Nearest.{Nearest}
use Rattle.graph.proofs.NearestLaws.{nearest_short, nearest_inner}
use Rattle.moving.specs.declared.State.{State}
use Rattle.shunting.specs.declared.Clearing.{Clearing}
use Rattle.moving.specs.Journey.{Fits, Joins, Along, JourneyIn, JourneyOn, JourneyAlong}
use Rattle.moving.proofs.JourneyLaws.{journey_in_none, journey_in_append, journey_in_more, journey_in_less, journey_in_one}
use Rattle.moving.proofs.JourneyLaws.{fits_less}
use Rattle.moving.specs.OnePlace.{Movable, Passed, Simple, Shiftable, Shifted}
use Rattle.shunting.specs.Distance.{Unheld, WayFrom, NoWay, Distance, Reaches, AtMost}
use Rattle.shunting.proofs.DistanceLaws.{way_same, distance-same, distance_one, distance_way, distance_few}
use Rattle.shunting.specs.Cleared.{VacantBelow, Cleared, RoomToClear, Clears, Outcome}
use Rattle.shunting.specs.Cleared.Outcome.{by_nearest, no_way}

pub vacant_none : (h : ℕ → ℕ) → VacantBelow 0 h 0
vacant_none h p = (λ x. absurd (has_none p x), λ x. absurd (none x.0))
  where
    none : {i : ℕ} → i < 0 → ⊥
    none l = omega arith

pub vacant_held : (h : ℕ → ℕ) (i v : ℕ) → h i ≢ 0 → VacantBelow i h v → VacantBelow (i + 1) h v
vacant_held h i v held s p = (
  λ x. let r = (s p).0 x in let l = r.0 in (omega arith, r.1),
  λ x. let l = x.0 in (s p).1 (by_cases (ℕ_discrete p i) (λ e. absurd (held (ap h (sym e) ∙ x.1))) (λ e. omega arith), x.1),
)

pub vacant_more : (h : ℕ → ℕ) (i v w : ℕ) → h i ≡ 0 → ((p : ℕ) → Has w p ↔ (Has v p ⊎ (p ≡ i))) → VacantBelow i h v
    → VacantBelow (i + 1) h w
vacant_more h i v w vacant has s p = (
  λ x. ⊎_elim (λ y. let r = (s p).0 y in let l = r.0 in (omega arith, r.1)) (λ e. (omega arith, ap h e ∙ vacant)) ((has p).0 x),
  λ x. let l = x.0 in (has p).1 (by_cases (ℕ_discrete p i) (λ e. inr e) (λ e. inl ((s p).1 (omega arith, x.1)))),
)

pub vacant-all : (h : ℕ → ℕ) (i n v : ℕ) → i ≡ n → VacantBelow i h v → VacantBelow n h v
vacant-all h i n v e s = subst (λ (k : ℕ). VacantBelow k h v) e s

pub record Shifting (at : ℕ → ℕ) (size : ℕ) (h k : ℕ → ℕ) (i : ℕ) : Type 0 where
  pub place : i < size
  pub on : (j : ℕ) → i ≤ j → j + 1 < size → k (at (j + 1)) ≡ h (at j)
  pub here : k (at i) ≡ 0
  pub before : (j : ℕ) → j < i → k (at j) ≡ h (at j)
  pub others : (p : ℕ) → ((j : ℕ) → j < size → at j ≢ p) → k p ≡ h p

module _ (at : ℕ → ℕ) (size : ℕ) (simple : Simple at size) where
  apart : (i j : ℕ) → i < size → j < size → i ≢ j → at i ≢ at j
  apart i j hi hj other =
      by_cases (dec_lt i j) (λ l. simple.distinct i j l hj) (λ l e. simple.distinct j i (omega arith) hi (sym e))

  pub shifting_begin : (h : ℕ → ℕ) → Shiftable at size h → Shifting at size h h (size - 1)
  shifting_begin h way =
      let some = way.some in
      record {
        place = omega arith;
        on = λ j a b. absurd (none j a b);
        here = way.end;
        before = λ j l. refl;
        others = λ p f. refl;
      }
    where
      none : (j : ℕ) → size - 1 ≤ j → j + 1 < size → ⊥
      none j a b = omega arith

  -- the rack before place i can move there
  pub shifting_movable : (h k : ℕ → ℕ) (i : ℕ) → 0 < i → Shiftable at size h → Shifting at size h k i
      → Movable (at (i - 1)) (at (i - 1 + 1)) k
  shifting_movable h k i some way s =
      let place = s.place in
      let same : i ≡ i - 1 + 1 = omega arith in
      record {
        leaves = simple.below (i - 1) (omega arith);
        enters = simple.below (i - 1 + 1) (omega arith);
        held = λ e. way.held (i - 1) (omega arith) (sym (s.before (i - 1) (omega arith)) ∙ e);
        vacant = subst (λ (x : ℕ). k (at x) ≡ 0) same s.here;
      }

  pub shifting_step : (h k k' : ℕ → ℕ) (u i : ℕ) → u ≡ i + 1 → Shifting at size h k u → Passed (at i) (at (i + 1)) k k'
      → Shifting at size h k' i
  shifting_step h k k' u i up s passed =
      let last = s.place in
      let place : i + 1 < size = omega arith in
      let same = passed.others in
      record {
        place = omega arith;
        on = λ j a b.
            by_cases (ℕ_discrete j i)
            (λ e. subst (λ (x : ℕ). k' (at (x + 1)) ≡ h (at x)) (sym e) (passed.entered ∙ s.before i (omega arith)))
            (λ e.
            same (at (j + 1)) (apart (j + 1) i b (omega arith) (omega arith)) (apart (j + 1) (i + 1) b place (omega arith))
            ∙ s.on j (omega arith) b);
        here = passed.left;
        before = λ j l.
            same (at j) (apart j i (omega arith) (omega arith) (omega arith)) (apart j (i + 1) (omega arith) place (omega arith))
            ∙ s.before j (omega arith);
        others = λ p f. same p (λ e. f i (omega arith) (sym e)) (λ e. f (i + 1) place (sym e)) ∙ s.others p f;
      }

  pub shifting_end : (h k : ℕ → ℕ) (i : ℕ) → i ≡ 0 → Shifting at size h k i → Shifted at size h k
  shifting_end h k i zero s =
      record {
        on = λ j b. s.on j (omega arith) b;
        first = subst (λ (x : ℕ). k (at x) ≡ 0) zero s.here;
        others = s.others;
      }

-- The journey of `shift` as far as place i, whatever the rows are that join the way's positions, and within any set that has them.
abbrev pub Shifts : (ℕ → ℕ) → ℕ → State → List ℕ → List ℕ → ℕ → State → List ℕ → List ℕ → Type 0
Shifts at size s l t i s' l' t' =
    (g : List ℕ) (free : ℕ) → ((x : ℕ) → x < size → Has free (at x)) → Along at size g
    → JourneyIn (Has free) g (size - 1 - i) s l t s' l' t'

module _ (at : ℕ → ℕ) (size : ℕ) (s : State) (l t : List ℕ) where
  pub shifts_begin : 0 < size → Shifts at size s l t (size - 1) s l t
  shifts_begin some g free inside joined = journey_in_more (size - 1 - (size - 1)) (omega arith) (journey_in_none s l t)

  pub shifts_step : (u i : ℕ) (s' s'' : State) (l' t' l'' t'' : List ℕ) → u ≡ i + 1 → u < size → Shifts at size s l t u s' l' t'
      → Movable (at i) (at (i + 1)) (row s'.racks) → Passed (at i) (at (i + 1)) (row s'.racks) (row s''.racks)
      → JourneyOn (Joins (at i) (at (i + 1))) 1 s' l' t' s'' l'' t'' → Shifts at size s l t i s'' l'' t''
  shifts_step u i s' s'' l' t' l'' t'' up place x movable passed one g free inside joined =
      journey_in_more (size - 1 - i) (omega arith)
      (journey_in_append (x g free inside joined)
      (journey_in_one (at i) (at (i + 1)) movable passed (inside i (omega arith)) (inside (i + 1) (omega arith))
      (one g (joined i (omega arith)))))

  pub shifts_end : (i : ℕ) (s' : State) (l' t' : List ℕ) → i ≡ 0 → Shifts at size s l t i s' l' t'
      → JourneyAlong at size s l t s' l' t'
  shifts_end i s' l' t' zero x g free inside joined = journey_in_more (size - 1) (omega arith) (x g free inside joined)

-- A search for a vacancy from p through the positions that are not held, and what it finds.
pub record Found (n : ℕ) (g : List ℕ) (h at : ℕ → ℕ) (held free vacant p size : ℕ) : Type 0 where
  pub rows : Rows n g
  pub free_is : (q : ℕ) → Has free q ↔ Unheld n held q
  pub vacancies : VacantBelow n h vacant
  pub nearest : Nearest (Edge g) (Has free) (Has vacant) p size at

pub free_is : (n held all free : ℕ) → ((q : ℕ) → Has all q ↔ (q < n)) → ((q : ℕ) → Has free q ↔ (Has all q × (Has held q → ⊥)))
    → (q : ℕ) → Has free q ↔ Unheld n held q
free_is n held all free below rest q = (
  λ x. record { inside = (below q).0 ((rest q).0 x).0; loose = ((rest q).0 x).1 },
  λ x. (rest q).1 ((below q).1 x.inside, x.loose),
)

-- The way that it finds, as `shift` asks for it.
module _ {n : ℕ} {g : List ℕ} {h at : ℕ → ℕ} {held free vacant p size : ℕ} (f : Found n g h at held free vacant p size) where
  below : (q : ℕ) → Has free q → q < n
  below q x = ((f.free_is q).0 x).inside

  -- the search goes the other way: from p to a vacancy
  sought : {d : ℕ} (w : WayFrom (Edge g) (Unheld n held) h p d) → Walk (Edge g) (Has free) p w.from (suc d) × Has vacant w.from
  sought w = (
    walk_reverse f.rows.symmetric (walk_inside (λ q. (f.free_is q).1) w.walk),
    (f.vacancies w.from).1 ((walk_first w.walk).inside, w.vacant),
  )

  pub way_none : size ≡ 0 → NoWay (Edge g) (Unheld n held) h p
  way_none e d w = let x = sought w in f.nearest.none e w.from (suc d) x.0 x.1

  pub way_short : size ≤ n
  way_short = nearest_short f.nearest n below

  module _ (some : 0 < size) where
    path : Path (Edge g) (Has free) p (at (size - 1)) size at
    path = f.nearest.path some

    pub way_inside : (i : ℕ) → i < size → Has free (at i)
    way_inside = path.inside

    pub way_simple : Simple at size
    way_simple =
        let s = f.rows.small in
        let short = way_short in
        record {
          short = omega arith;
          below = λ i l. (let b = below (at i) (way_inside i l) in omega arith);
          distinct = path.distinct;
        }

    end_vacant : h (at (size - 1)) ≡ 0
    end_vacant = ((f.vacancies (at (size - 1))).0 (f.nearest.target some)).1

    pub way_shiftable : Shiftable at size h
    way_shiftable =
        record {
          some = some;
          end = end_vacant;
          held = λ i l e.
              nearest_inner f.nearest i l ((f.vacancies (at i)).1 (below (at i) (way_inside i (omega arith)), e));
        }

    pub way_joined : Along at size g
    way_joined = path.joined

    pub way_distance : Distance (Edge g) (Unheld n held) h p (size - 1)
    way_distance =
        let same : size ≡ suc (size - 1) = omega arith in
        let back = walk_reverse f.rows.symmetric (walk_inside (λ q. (f.free_is q).0) (path_walk path)) in
        record {
          way = record {
            from = at (size - 1);
            vacant = end_vacant;
            walk = subst (Walk (Edge g) (Unheld n held) (at (size - 1)) p) same back;
          };
          shortest = λ e w. (
              let x = sought w in
              let short = f.nearest.shortest w.from (suc e) x.0 x.1 in
              omega arith
              );
        }

    pub way_cleared : {k : ℕ → ℕ} → Shifted at size h k → Cleared (Unheld n held) p h k
    way_cleared {k} s =
        record {
          vacant = subst (λ (x : ℕ). k x ≡ 0) path.first s.first;
          outside = λ q out. s.others q (λ i l e. out ((f.free_is q).0 (subst (Has free) e (way_inside i l))));
        }

pub cleared : {n : ℕ} {g : List ℕ} {at : ℕ → ℕ} {held free vacant p size : ℕ} {s s' : State} {l t l' t' : List ℕ}
    (f : Found n g (row s.racks) at held free vacant p size) (some : 0 < size) → JourneyAlong at size s l t s' l' t'
    → Shifted at size (row s.racks) (row s'.racks) → s'.logged ≡ s.logged + (size - 1)
    → Outcome (Unheld n held) g p s l t (record { state = s'; moves = Some (size - 1) }) l' t'
cleared {g = g} {free = free} {size = size} f some along shifted logged =
    let journey = journey_in_less (λ q. (f.free_is q).0) (along g free (way_inside f some) (way_joined f some)) in
    by_nearest
    (record {
      moves = size - 1;
      distance = way_distance f some;
      journey = journey;
      exactly = (let n = journey.journey.logged in omega arith);
      cleared = way_cleared f some shifted;
    })

pub room_same : {E : ℕ → ℕ → Type 0} {P Q : ℕ → Type 0} {p : ℕ} {s : State} {l t : List ℕ} → ((q : ℕ) → P q → Q q) → ((q : ℕ) → Q q → P q)
    → RoomToClear E Q p s l t → RoomToClear E P p s l t
room_same to from room d x = room d (distance-same to from x)

-- clearing inside a region
module _ {P Q : ℕ → Type 0} {g : List ℕ} {p : ℕ} {s : State} {l t : List ℕ} (to : (q : ℕ) → P q → Q q) (from : (q : ℕ) → Q q → P q) where
  pub clears_same : {s' : State} {l' t' : List ℕ} → Clears P g p s l t s' l' t' → Clears Q g p s l t s' l' t'
  clears_same x =
      let journey = journey_in_less to x.journey in
      record {
        moves = x.moves;
        distance = distance-same to from x.distance;
        journey = journey;
        exactly = (let n = journey.journey.logged in let m = x.journey.journey.logged in let e = x.exactly in omega arith);
        cleared = record { vacant = x.cleared.vacant; outside = λ q out. x.cleared.outside q (λ y. out (to q y)) };
      }

  -- where there is a way, it is cleared
  pub within_clears : {r : Clearing} {l' t' : List ℕ} → Reaches (Edge g) Q (row s.racks) p → Outcome P g p s l t r l' t'
      → Clears Q g p s l t r.state l' t'
  within_clears way (by_nearest x) = clears_same x
  within_clears way (no_way none) = absurd (none way.0 (way_same from way.1))

-- what is told
module _ {P : ℕ → Type 0} {g : List ℕ} {p : ℕ} {s : State} {l t : List ℕ} where
  pub outcome_told : {r : Clearing} {l' t' : List ℕ} {d : ℕ} → Outcome P g p s l t r l' t' → Distance (Edge g) P (row s.racks) p d
      → r.moves ≡ Some d
  outcome_told (by_nearest x) y = ap Some (distance_one x.distance y)
  outcome_told (no_way none) y = absurd (distance_way y none)

  pub outcome_none : {r : Clearing} {l' t' : List ℕ} → Outcome P g p s l t r l' t'
      → (r.moves ≡ None) ↔ NoWay (Edge g) P (row s.racks) p
  outcome_none (by_nearest x) = (λ e. absurd (none-some _ (sym e)), λ none. absurd (distance_way x.distance none))
  outcome_none (no_way none) = (λ e. none, λ n. refl)

  pub outcome_held : {r : Clearing} {l' t' : List ℕ} → Outcome P g p s l t r l' t' → (q : ℕ) → (P q → ⊥)
      → row r.state.racks q ≡ row s.racks q
  outcome_held (by_nearest x) q out = x.cleared.outside q out
  outcome_held (no_way none) q out = refl

module _ {P : ℕ → Type 0} {p c : ℕ} (few : AtMost (suc c) P) {s : State} {l t : List ℕ} where
  pub clear_room : {E : ℕ → ℕ → Type 0} → Fits s l t c → RoomToClear E P p s l t
  clear_room f d x = let less = distance_few few x in fits_less d (omega arith) f

  pub clear_few : {g : List ℕ} {s' : State} {l' t' : List ℕ} → Clears P g p s l t s' l' t' → JourneyIn P g c s l t s' l' t'
  clear_few x = let less = distance_few few x.distance in journey_in_more c (omega arith) x.journey
