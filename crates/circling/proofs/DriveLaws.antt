-- The states of `find` and `drive`.
--
--     Tried                                                       `find`: no place before i is ready
--     moved_to                                                    a move, by another name of the position entered
--     Driving, driving_first, driving_next, driving_last          `drive`: a trip has been made, and the needs that are left are the rest
--     driving_space, driving_small, driving_movable, driving_rack, driving_more, driving_less
--                     there is room for the next move, it can be made, and leaves less to go
-- Assumes nothing.
use Prim.Native.Nat.{ℕ, ◌+◌, ◌-◌, ◌≤◌, ◌<◌}
use mathlib.Core.Path.{◌≡◌, ap, subst, ◌∙◌}
use mathlib.Core.List.{List}
use mathlib.Core.Logic.{◌≢◌, by_cases}
use native.Mathlib.Decide.{ℕ_discrete}
use native.Mathlib.Omega.{arith}
use lib.ListN.{set, length, length-set}
use lib.Seq.{get_or-set_same, get_or-set_other}
use Rattle.graph.specs.Rows.{row}
use Rattle.ring.specs.Circle.{next}
use Rattle.ring.specs.Standing.{OnCircle}
use Rattle.ring.proofs.CircleLaws.{next_below, circle-next}
use Rattle.moving.specs.declared.State.{State}
use Rattle.moving.specs.Journey.{Space, Moved}
use Rattle.moving.specs.OnePlace.{Movable}
use Rattle.moving.proofs.JourneyLaws.{trip_none, trip_more, trip_append, space_then, moved-passed, moved_trip}
use Rattle.circling.specs.Lands.{total}
use Rattle.circling.specs.Drive.{Circled, Ready, Driveable, Driven, TripRound}
use Rattle.circling.proofs.LandsLaws.{total-set}
use Rattle.circling.proofs.PaceLaws.{Underway, underway_first, underway_next, underway_last, stuck, drive_on, held_by}

abbrev pub Tried : ℕ → (ℕ → ℕ) → (ℕ → ℕ) → (ℕ → ℕ) → ℕ → Type 0
Tried n at d h i = (j : ℕ) → j < i → Ready n at d h j → ⊥

pub moved_to : {a b c : ℕ} {s s' : State} {t t' : List ℕ} → b ≡ c → Moved a b s t s' t' → Moved a c s t s' t'
moved_to {a} {b} {c} {s} {s'} {t} {t'} e m = subst (λ (x : ℕ). Moved a x s t s' t') e m

pub record Driving (n m : ℕ) (at : ℕ → ℕ) (d₀ : List ℕ) (s₀ : State) (t₀ d : List ℕ) (s : State) (t : List ℕ) : Type 0 where
  pub long : length d ≡ 64
  pub can : Driveable n m at (row d) (row s.racks)
  pub way : Underway n at (row d₀) (row s₀.racks) (row d) (row s.racks)
  pub fewer : total d ≤ total d₀
  pub trip : TripRound n at (total d₀ - total d) s₀ t₀ s t

module _ {n m : ℕ} {at : ℕ → ℕ} {d₀ : List ℕ} {s₀ : State} {t₀ : List ℕ} where
  pub driving_first : length d₀ ≡ 64 → Driveable n m at (row d₀) (row s₀.racks) → Driving n m at d₀ s₀ t₀ d₀ s₀ t₀
  driving_first long can =
      record {
        long = long;
        can = can;
        way = underway_first n at (row d₀) (row s₀.racks);
        fewer = omega arith;
        trip = λ g c. trip_more (total d₀ - total d₀) (omega arith) (trip_none s₀ t₀);
      }

  module _ {d : List ℕ} {s : State} {t : List ℕ} (v : Driving n m at d₀ s₀ t₀ d s t) (circled : Circled n at) where
    pub driving_space : Space s₀ t₀ (total d₀) → Space s t (total d)
    driving_space space =
        let f = v.fewer in
        let e : total d₀ ≡ total d₀ - total d + total d = omega arith in
        space_then (subst (Space s₀ t₀) e space) (v.trip circled.0 circled.1)

    pub driving_small : (i : ℕ) → i < n → row s.racks (at i) < 64
    driving_small i l =
        by_cases (ℕ_discrete (row s.racks (at i)) 0) (λ e. omega arith)
        (λ f.
        let r = (v.can.on.rack i l f).most in
        let k = v.can.less in
        let w = v.can.few in
        omega arith)

    pub driving_last : ((j : ℕ) → j < n → Ready n at (row d) (row s.racks) j → ⊥)
        → TripRound n at (total d₀) s₀ t₀ s t × (Driven n at (row d₀) (row s₀.racks) (row s.racks) × OnCircle n m at (row s.racks))
    driving_last none = (
      (λ g c. trip_more (total d₀) (omega arith) (v.trip g c)),
      (
        underway_last n at (row d₀) (row s₀.racks) (row d) (row s.racks) v.way (stuck v.can none),
        v.can.on,
      ),
    )

    module _ (x : ℕ) (lx : x < n) (ready : Ready n at (row d) (row s.racks) x) where
      a_below : at x < 64
      a_below = let w = v.can.few in let i = circled.1.inside x lx in omega arith

      b_below : at (next n x) < 64
      b_below = let w = v.can.few in let i = circled.1.inside (next n x) (next_below n x lx) in omega arith

      pub driving_movable : Movable (at x) (at (next n x)) (row s.racks)
      driving_movable =
          record { leaves = a_below; enters = b_below; held = held_by v.can x ready.needs; vacant = ready.vacant }

      pub driving_rack : row s.racks (at x) < 64
      driving_rack = driving_small x lx

      pub driving_more : 1 ≤ total d
      driving_more =
          let r = total-set d (row s.racks (at x)) 0 (let l = v.long in let k = driving_rack in omega arith) in
          let k = ready.needs in
          omega arith

      pub driving_less : total (set d (row s.racks (at x)) (row d (row s.racks (at x)) - 1)) < total d
      driving_less =
          let r = row s.racks (at x) in
          let sum = total-set d r (row d r - 1) (let l = v.long in let k = driving_rack in omega arith) in
          let needs = ready.needs in
          omega arith

      module _ {s' : State} {t' : List ℕ} (room : Space s₀ t₀ (total d₀)) (moved : Moved (at x) (at (next n x)) s t s' t') where
        pub driving_next : Driving n m at d₀ s₀ t₀ (set d (row s.racks (at x)) (row d (row s.racks (at x)) - 1)) s' t'
        driving_next =
            let r = row s.racks (at x) in
            let e = set d r (row d r - 1) in
            let lr : r < length d = (let l = v.long in let k = driving_rack in omega arith) in
            let needs = ready.needs in
            let sum = total-set d r (row d r - 1) lr in
            let one : total e + 1 ≡ total d = omega arith in
            let fewer = v.fewer in
            let less : row e r + 1 ≡ row d r = ap (λ (z : ℕ). z + 1) (get_or-set_same d r (row d r - 1) 0 lr) ∙ (omega arith) in
            let same : (q : ℕ) → q ≢ r → row e q ≡ row d q = λ q f. get_or-set_other d r q (row d r - 1) 0 f in
            let long = (driving_space room).racks in
            let passed = moved-passed long driving_movable moved in
            record {
              long = length-set d r (row d r - 1) ∙ v.long;
              can = drive_on v.can circled.1 x lx ready passed less same;
              way = underway_next v.can circled.1 x lx ready passed less same v.way;
              fewer = omega arith;
              trip = λ g c.
                  trip_more (total d₀ - total e) (omega arith)
                  (trip_append (v.trip g c) (moved_trip long driving_movable moved g (circle-next v.can.three c x lx)));
            }
