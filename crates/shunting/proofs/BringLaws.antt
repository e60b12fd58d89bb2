-- Laws of bringing a rack along a way.
--
--     rounds                  room for the rounds to come: one round and the rest
--     brings_few, brought_few    bringing a rack through at most c + 1 positions takes at most c × c moves
--     Bringing                the state of `bring`: the rack stands at place k - 1 of the way
--     BringingBy              the moves that brought it there
--     Sought                  the way that a search for the position finds; bring_some, bring_short, bring_small
--     bringing_begin          the first state
--     bring_free              the free positions of a round are positions of the floor
--     bring_joined            an edge leads to the next place
--     bring_reaches           from the next place a walk leads to a vacancy that is not the rack's own place
--     bring_room, bring_fits  room to clear the next place, and for the rack's move after that
--     bring_movable           the rack can move to the next place when that is cleared
--     bringing_step, bringing_on    the next state
--     brought, brought_by     the last state
-- Assumes nothing.
use Prim.Native.Nat.{ℕ, suc, ◌+◌, ◌-◌, ◌*◌, ◌≤◌, ◌<◌}
use mathlib.Core.Path.{◌≡◌, refl, sym, ap, subst, ◌∙◌}
use mathlib.Core.List.{List, [], ◌∷◌}
use mathlib.Core.Logic.{◌↔◌, ◌≢◌}
use native.Mathlib.Nat.{mul-suc, mul_comm, mul-le-mul_right}
use native.Mathlib.Omega.{arith}
use lib.ListN.{length}
use Rattle.sets.specs.Sets.{Has}
use Rattle.graph.specs.Walk.{Walk}
use Rattle.graph.proofs.WalkLaws.{walk_first, walk_last, walk_inside, path_walk}
use Rattle.graph.specs.Connected.{Except, Robust}
use Rattle.graph.specs.Rows.{row, Edge, Rows}
use Rattle.graph.specs.Nearest.{Nearest}
use Rattle.graph.proofs.NearestLaws.{nearest_found, nearest_short}
use Rattle.moving.specs.declared.State.{State}
use Rattle.moving.specs.Journey.{Fits, Joins, Journey, JourneyOn}
use Rattle.moving.proofs.JourneyLaws.{journey_none, journey_append, journey_more, fits_less, fits_then}
use Rattle.moving.specs.OnePlace.{Movable, Passed}
use Rattle.shunting.specs.Distance.{Reaches, AtMost}
use Rattle.shunting.proofs.DistanceLaws.{at_most_less, at_most_except, shortest_few, distance-same, distance_few, reaches_back}
use Rattle.shunting.specs.Cleared.{Inside, Vacancy, Cleared, RoomToClear, Clears}
use Rattle.shunting.specs.Cleared.{Bringable, RoomToBring, Brings, sum, bring_moves, BroughtBy, Brought}
use Rattle.shunting.specs.Cleared.Brings.{begun, gone}

pub rounds : (c k : ℕ) → k ≤ c → c * (c + 1 - k) ≡ c + c * (c + 1 - (k + 1))
rounds c k l =
    let less : c + 1 - k ≡ suc (c + 1 - (k + 1)) = omega arith in
    let e : c * (c + 1 - k) ≡ c * suc (c + 1 - (k + 1)) = ap (λ (x : ℕ). c * x) less in
    let f = mul-suc c (c + 1 - (k + 1)) in
    omega arith

-- each clearing takes fewer moves than there are positions, the rack's own left out
brings_few : {E : ℕ → ℕ → Type 0} {P : ℕ → Type 0} {h : ℕ → ℕ} {c a : ℕ} {k : ℕ → ℕ} {b : ℕ} {ds : List ℕ} → AtMost (suc c) P → P a
    → Brings E P h a ds b k → P b × (bring_moves ds ≤ c * length ds)
unfolding sum
brings_few few pa begun = (pa, omega arith)
brings_few {c = c} few pa (gone {ds = ds} x distance cleared move) =
    let r = brings_few few pa x in
    let one = distance_few (at_most_except r.0 few) distance in
    let all = r.1 in
    let e = mul-suc c (length ds) in
    ((walk_last distance.way.walk).there, omega arith)

pub brought_few : {P : ℕ → Type 0} {g : List ℕ} {a b c : ℕ} {s s' : State} {l t l' t' : List ℕ} → AtMost (suc c) P
    → BroughtBy P g a b s l t s' l' t' → Journey g (c * c) s l t s' l' t'
brought_few {c = c} few x =
    let r = (brings_few few (walk_first x.way) x.brings).1 in
    let n = length x.clearings in
    let short = shortest_few (suc n) few x.way (λ j u. let m = x.shortest j u in omega arith) in
    let m = mul-le-mul_right c (let d : n ≤ c = omega arith in d) in
    let e = mul_comm c n in
    journey_more (c * c) (omega arith) x.journey

pub record Bringing (P : ℕ → Type 0) (at : ℕ → ℕ) (a size : ℕ) (h cur : ℕ → ℕ) (k : ℕ) : Type 0 where
  pub some : 0 < k
  pub most : k ≤ size
  pub there : cur (at (k - 1)) ≡ h a
  pub vacancy : Vacancy P cur
  pub outside : (q : ℕ) → (P q → ⊥) → cur q ≡ h q

-- how it came there, the moves counted, and room for the rounds to come
pub record BringingBy (P : ℕ → Type 0) (g : List ℕ) (at : ℕ → ℕ) (a k : ℕ) (s : State) (l t : List ℕ) (s' : State)
    (l' t' : List ℕ) : Type 0 where
  pub clearings : List ℕ
  pub brings : Brings (Edge g) P (row s.racks) a clearings (at (k - 1)) (row s'.racks)
  pub count : length clearings ≡ k - 1
  pub journey : Journey g (bring_moves clearings) s l t s' l' t'
  pub exactly : length journey.trip.moves ≡ bring_moves clearings
  pub most : ℕ
  pub few : AtMost (suc most) P
  pub room : Fits s' l' t' (most * (most + 1 - k))

-- A search from `from` to `to` through a region, and the way that it finds.
pub record Sought (n : ℕ) (g : List ℕ) (h at : ℕ → ℕ) (region from to size : ℕ) : Type 0 where
  pub rows : Rows n g
  pub below : Inside n region
  pub robust : Robust (Edge g) (Has region)
  pub bringable : Bringable (Has region) from to h
  pub target : ℕ
  pub only : (p : ℕ) → Has target p ↔ (p ≡ to)
  pub nearest : Nearest (Edge g) (Has region) (Has target) from size at

module _ {n : ℕ} {g : List ℕ} {h at : ℕ → ℕ} {region from to size : ℕ} (w : Sought n g h at region from to size) where
  pub bring_some : 0 < size
  bring_some =
      let b = w.bringable in
      let way = w.robust.whole from to b.leaves b.enters in
      nearest_found w.nearest to way.size way.walk ((w.only to).1 refl)

  pub bring_short : size ≤ n
  bring_short = nearest_short w.nearest n w.below

  inside : (i : ℕ) → i < size → Has region (at i)
  inside = (w.nearest.path bring_some).inside

  pub bring_small : (i : ℕ) → i < size → at i < n
  bring_small i l = w.below (at i) (inside i l)

  pub bringing_begin : Bringing (Has region) at from size h h 1
  bringing_begin =
      record {
        some = omega arith;
        most = bring_some;
        there = ap h (w.nearest.path bring_some).first;
        vacancy = w.bringable.vacancy;
        outside = λ q out. refl;
      }

  module _ {cur : ℕ → ℕ} {k : ℕ} (free : ℕ) (more : k < size) (state : Bringing (Has region) at from size h cur k)
      (has : (q : ℕ) → Has free q ↔ (Has region q × (q ≢ at (k - 1)))) where
    pub bring_free : Inside n free
    bring_free q x = w.below q ((has q).0 x).0

    pub bring_joined : Edge g (at (k - 1)) (at k)
    bring_joined =
        let some = state.some in
        let same : k - 1 + 1 ≡ k = omega arith in
        subst (λ (x : ℕ). Edge g (at (k - 1)) (at x)) same ((w.nearest.path bring_some).joined (k - 1) (omega arith))

    pub bring_reaches : Reaches (Edge g) (Has free) cur (at k)
    bring_reaches =
        let some = state.some in
        let z = state.vacancy in
        let away : z.at ≢ at (k - 1) = λ e. w.bringable.held (sym state.there ∙ ap cur (sym e) ∙ z.vacant) in
        let next : at k ≢ at (k - 1) = λ e. (w.nearest.path bring_some).distinct (k - 1) k (omega arith) more (sym e) in
        let way =
        w.robust.without (at (k - 1)) (inside (k - 1) (omega arith)) (at k) z.at (record { there = inside k more; other = next })
        (record { there = z.there; other = away })
        in
        reaches_back w.rows.symmetric z.at way.size z.vacant (walk_inside (λ q x. (has q).1 (x.there, x.other)) way.walk)

    module _ {mid : ℕ → ℕ} (cleared : Cleared (Has free) (at k) cur mid) where
      held : mid (at (k - 1)) ≡ h from
      held = cleared.outside (at (k - 1)) (λ x. ((has (at (k - 1))).0 x).1 refl) ∙ state.there

      pub bring_movable : Movable (at (k - 1)) (at k) mid
      bring_movable =
          let some = state.some in
          let n64 = w.rows.small in
          record {
            leaves = (let x = bring_small (k - 1) (omega arith) in omega arith);
            enters = (let x = bring_small k more in omega arith);
            held = λ e. w.bringable.held (sym held ∙ e);
            vacant = cleared.vacant;
          }

      pub bringing_step : {cur' : ℕ → ℕ} → Passed (at (k - 1)) (at k) mid cur' → Bringing (Has region) at from size h cur' (k + 1)
      bringing_step {cur'} passed =
          let some = state.some in
          let back : k + 1 - 1 ≡ k = omega arith in
          record {
            some = omega arith;
            most = omega arith;
            there = subst (λ (x : ℕ). cur' (at x) ≡ h from) (sym back) (passed.entered ∙ held);
            vacancy = record { at = at (k - 1); there = inside (k - 1) (omega arith); vacant = passed.left };
            outside = λ q out.
                passed.others q (λ e. out (subst (Has region) (sym e) (inside (k - 1) (omega arith))))
                (λ e. out (subst (Has region) (sym e) (inside k more)))
                ∙ cleared.outside q (λ x. out ((has q).0 x).0)
                ∙ state.outside q out;
          }

  module _ {k : ℕ} {s s₁ : State} {l t l₁ t₁ : List ℕ} (free : ℕ) (more : k < size)
      (state : Bringing (Has region) at from size h (row s₁.racks) k)
      (has : (q : ℕ) → Has free q ↔ (Has region q × (q ≢ at (k - 1)))) (x : BringingBy (Has region) g at from k s l t s₁ l₁ t₁) where
    to_except : (q : ℕ) → Has free q → Except (Has region) (at (k - 1)) q
    to_except q y = record { there = ((has q).0 y).0; other = ((has q).0 y).1 }

    from_except : (q : ℕ) → Except (Has region) (at (k - 1)) q → Has free q
    from_except q y = (has q).1 (y.there, y.other)

    few_free : AtMost x.most (Has free)
    few_free = let some = state.some in at_most_less to_except (at_most_except (inside (k - 1) (omega arith)) x.few)

    -- the way has no more places than the region has positions
    next : k ≤ x.most
    next = let p = w.nearest.path bring_some in let short = x.few.different at size p.inside p.distinct in omega arith

    pub bring_room : RoomToClear (Edge g) (Has free) (at k) s₁ l₁ t₁
    bring_room d y = let r = rounds x.most k next in let less = distance_few few_free y in fits_less d (omega arith) x.room

    module _ {s₂ : State} {l₂ t₂ : List ℕ} (y : Clears (Has free) g (at k) s₁ l₁ t₁ s₂ l₂ t₂) where
      pub bring_fits : Fits s₂ l₂ t₂ (1 + x.most * (x.most + 1 - (k + 1)))
      bring_fits =
          let r = rounds x.most k next in
          let few = distance_few few_free y.distance in
          fits_then (fits_less (y.moves + (1 + x.most * (x.most + 1 - (k + 1)))) (omega arith) x.room) y.journey.journey

      pub bringing_on : {s₃ : State} {l₃ t₃ : List ℕ} → Passed (at (k - 1)) (at k) (row s₂.racks) (row s₃.racks)
          → JourneyOn (Joins (at (k - 1)) (at k)) 1 s₂ l₂ t₂ s₃ l₃ t₃ → s₃.logged ≡ s₂.logged + 1
          → BringingBy (Has region) g at from (k + 1) s l t s₃ l₃ t₃
      unfolding sum
      bringing_on {s₃} {l₃} {t₃} passed one logged =
          let some = state.some in
          let can = bring_movable free more state has y.cleared in
          let edge = bring_joined free more state has in
          let back : k ≡ k + 1 - 1 = omega arith in
          let ds = x.clearings in
          let many : bring_moves ds + y.moves + 1 ≡ bring_moves (y.moves ∷ ds) = omega arith in
          let gone_on = journey_append (journey_append x.journey y.journey.journey) (one g edge) in
          let journey = journey_more (bring_moves (y.moves ∷ ds)) (omega arith) gone_on in
          record {
            clearings = y.moves ∷ ds;
            brings = subst (λ (z : ℕ). Brings (Edge g) (Has region) (row s.racks) from (y.moves ∷ ds) (at z) (row s₃.racks)) back
                (gone x.brings (distance-same to_except from_except y.distance)
                (record { vacant = y.cleared.vacant; outside = λ q out. y.cleared.outside q (λ z. out (to_except q z)) })
                (record {
                  edge = edge;
                  held = can.held;
                  vacant = can.vacant;
                  entered = passed.entered;
                  left = passed.left;
                  others = passed.others;
                }));
            count = (let e = x.count in omega arith);
            journey = journey;
            exactly = (
                let a = x.journey.logged in
                let b = x.exactly in
                let c = y.journey.journey.logged in
                let d = y.exactly in
                let e = journey.logged in
                omega arith
                );
            most = x.most;
            few = x.few;
            room = fits_then bring_fits (one g edge);
          }

  pub brought : {cur : ℕ → ℕ} {k : ℕ} → size ≤ k → Bringing (Has region) at from size h cur k → Brought (Has region) from to h cur
  brought {cur} {k} done s =
      let most = s.most in
      let same : k ≡ size = omega arith in
      let last : at (k - 1) ≡ to = ap (λ (x : ℕ). at (x - 1)) same ∙ (w.only (at (size - 1))).0 (w.nearest.target bring_some) in
      record { there = ap cur (sym last) ∙ s.there; vacancy = s.vacancy; outside = s.outside }

  pub brought_by : {k : ℕ} {s s' : State} {l t l' t' : List ℕ} → k ≡ size → BringingBy (Has region) g at from k s l t s' l' t'
      → BroughtBy (Has region) g from to s l t s' l' t'
  brought_by {k} {s} {s'} done x =
      let p = w.nearest.path bring_some in
      let count = x.count in
      let some = bring_some in
      let end : at (size - 1) ≡ to = (w.only (at (size - 1))).0 (w.nearest.target bring_some) in
      let last : at (k - 1) ≡ to = ap (λ (z : ℕ). at (z - 1)) done ∙ end in
      let many : size ≡ suc (length x.clearings) = omega arith in
      record {
        clearings = x.clearings;
        brings = subst (λ (z : ℕ). Brings (Edge g) (Has region) (row s.racks) from x.clearings z (row s'.racks)) last x.brings;
        way = subst (λ (z : ℕ). Walk (Edge g) (Has region) from to z) many
            (subst (λ (z : ℕ). Walk (Edge g) (Has region) from z size) end (path_walk p));
        shortest = λ j walk. (let m = w.nearest.shortest to j walk ((w.only to).1 refl) in omega arith);
        journey = x.journey;
        exactly = x.exactly;
      }

  pub bringing_begun : {s : State} {l t : List ℕ} → RoomToBring (Has region) s l t → BringingBy (Has region) g at from 1 s l t s l t
  unfolding sum
  bringing_begun {s} {l} {t} room =
      let journey = journey_none s l t in
      let first : room.most ≡ room.most + 1 - 1 = omega arith in
      record {
        clearings = [];
        brings = subst (λ (z : ℕ). Brings (Edge g) (Has region) (row s.racks) from [] z (row s.racks))
            (sym (w.nearest.path bring_some).first) begun;
        count = omega arith;
        journey = journey;
        exactly = (let none = journey.trip.few in omega arith);
        most = room.most;
        few = room.few;
        room = subst (λ (z : ℕ). Fits s l t (room.most * z)) first room.fits;
      }
