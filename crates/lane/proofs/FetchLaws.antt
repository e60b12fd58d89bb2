-- Laws of fetching the next rack for a handle into the stage.
--
--     fails                    a test that failed
--     home_few                 the log holds what brings a rack home
--     place_open, place_room, place_fits, place_trip    there is room for each part of placing a rack, and all are one trip
--     place_most               placing a rack takes at most 3 × n × n moves
--     lane_four                a floor with a handle has four positions
--     end_below, end_inside    the region without y, as a set, is on the floor, and inside the region
--     end_reaches              from v a walk inside it leads to a vacancy; end_few    it has at most n - 1 positions
--     end_beside               y stays vacant while v is cleared
--     fetch_already            the rack is in the stage already
--     fetch_place              where the rack is not in the stage, it is inside the handle
--     fetch_carried            carried to y it is in the stage
-- Assumes nothing.
use Prim.Native.Nat.{ℕ, suc, ◌+◌, ◌-◌, ◌*◌, ◌≤◌, ◌<◌}
use mathlib.Core.Path.{◌≡◌, refl, sym, ap, ◌∙◌}
use mathlib.Core.Bool.{Bool, true, false}
use mathlib.Core.List.{List}
use mathlib.Core.Logic.{◌↔◌, ◌≢◌, by_cases, inl, inr, ⊎_elim}
use native.Mathlib.Decide.{dec_lt}
use native.Mathlib.Nat.{mul-add, mul-le-mul, mul-le-mul_right}
use native.Mathlib.Omega.{arith}
use lib.ListN.{length}
use Rattle.sets.specs.Sets.{Has}
use Rattle.graph.specs.Connected.{Except}
use Rattle.graph.proofs.WalkLaws.{walk_inside}
use Rattle.graph.specs.Rows.{Edge, Rows}
use Rattle.breakdown.specs.Breakdown.{Among, Between}
use Rattle.breakdown.specs.Part.{Part}
use Rattle.breakdown.proofs.StageLaws.{Both, whole-right}
use Rattle.moving.specs.Went.{Same}
use Rattle.moving.specs.declared.State.{State}
use Rattle.moving.specs.Journey.{relogged, Fits, Room, Trip}
use Rattle.moving.proofs.JourneyLaws.{trip_more, trip_append, trip_anew, fits_anew, room_less, room_then}
use Rattle.turning.specs.Undone.{carried}
use Rattle.turning.proofs.BackLaws.{carried_there, carried_other}
use Rattle.shunting.specs.Distance.{Reaches, AtMost}
use Rattle.shunting.proofs.DistanceLaws.{at_most_more, at_most_without, reaches_back}
use Rattle.shunting.specs.Cleared.{Inside, Vacancy, Cleared}
use Rattle.moving.specs.Table.{Table}
use Rattle.moving.proofs.TableLaws.{table_other}
use Rattle.lane.specs.Lane.{HandleOn, BesideEnd, Placing, Fetched}
use Rattle.lane.specs.Moves.{open_moves, fetch_moves, home_moves, place_moves}
use Rattle.lane.proofs.CycleLaws.{lane_stage, lane_new, stage_in, stage_out}
use Rattle.lane.proofs.StageLaws.{Region, region_below, region_few, region_vacant, placing_stays}
use Rattle.lane.proofs.PlaceLaws.{rack_some, rack_other}

-- a test that failed
pub fails : {b : Bool} {P : Type 0} → (b ≡ true) ↔ P → b ≡ false → P → ⊥
fails both f x = let t = both.1 x in let z : ◌≡◌ {A = ℕ} 0 1 = cc in omega arith

pub home_few : (n : ℕ) → n ≤ 64 → home_moves n ≤ 8256
home_few n l =
    let less : n - 2 ≤ 62 = omega arith in
    let square = mul-le-mul less less in
    omega arith

-- the stage is opened, and then a rack fetched; the rest begins the log anew
pub place_open : (n : ℕ) {x : State} {l t : List ℕ} → Room x l t (place_moves n) → Room x l t (open_moves n)
unfolding place_moves
place_open n room = room_less (open_moves n) (omega arith) room

module _ (n : ℕ) {g : List ℕ} {x x₁ : State} {t t₁ : List ℕ} (opened : Trip g (open_moves n) x t x₁ t₁) where
  pub place_room : {l l₁ : List ℕ} → Room x l t (place_moves n) → length l₁ ≡ length l → Room x₁ l₁ t₁ (fetch_moves n)
  unfolding place_moves
  place_room room log = room_then (room_less (open_moves n + fetch_moves n) (omega arith) room) log opened

  module _ {x₂ : State} {t₂ : List ℕ} (fetched : Trip g (fetch_moves n) x₁ t₁ x₂ t₂) where
    pub place_fits : {l l₂ : List ℕ} → n ≤ 64 → Room x l t (place_moves n) → length l₂ ≡ length l → Fits (relogged x₂ 0)
        l₂ t₂ (home_moves n)
    unfolding place_moves
    place_fits small room log =
        fits_anew (home_moves n) (omega arith) (home_few n small)
        (room_then (room_less (open_moves n + fetch_moves n + home_moves n) (omega arith) room) log (trip_append opened fetched))

    pub place_trip : {c : ℕ} {x₃ : State} {t₃ : List ℕ} → c ≤ home_moves n → Trip g c (relogged x₂ 0) t₂ x₃ t₃
        → Trip g (place_moves n) x t x₃ t₃
    unfolding place_moves
    place_trip less rest = trip_more (place_moves n) (omega arith) (trip_append opened (trip_append fetched (trip_anew rest)))

-- what one rack takes, in all
pub place_most : (n : ℕ) → 3 < n → place_moves n ≤ 3 * (n * n)
unfolding place_moves
place_most n four =
    let less : n ≡ n - 3 + 3 = omega arith in
    let three : n * n ≡ n * (n - 3) + n * 3 = ap (λ (x : ℕ). n * x) less ∙ mul-add n (n - 3) 3 in
    let two : n * n ≡ n * (n - 2) + n * 2 = ap (λ (x : ℕ). n * x) (let l : n ≡ n - 2 + 2 = omega arith in l) ∙ mul-add n (n - 2) 2 in
    let carried = mul-le-mul_right (n - 3) (let l : n - 2 ≤ n = omega arith in l) in
    let brought = mul-le-mul_right (n - 2) (let l : n - 2 ≤ n = omega arith in l) in
    omega arith

module _ {n : ℕ} {g : List ℕ} {at : ℕ → ℕ} {s e u v : ℕ} (rows : Rows n g) (lane : HandleOn n (Edge g) at s e u v) where
  pub lane_four : 3 < n
  lane_four = let a = lane_stage rows lane in let b = lane.three in omega arith

  -- the right end cleared with the position beside it held
  module _ {y : ℕ} (k region free : ℕ) (near : BesideEnd (Edge g) at s u v y) (has : (p : ℕ) → Has region p ↔ Region at s e k p)
      (without : (p : ℕ) → Has free p ↔ (Has region p × (p ≢ y))) where
    pub end_below : Inside n free
    end_below p x = region_below lane k p ((has p).0 ((without p).0 x).0)

    pub end_inside : (p : ℕ) → Has free p → Region at s e k p
    end_inside p x = (has p).0 ((without p).0 x).0

    pub end_reaches : {T h : ℕ → ℕ} → Placing n at T s e k h → Reaches (Edge g) (Has free) h v
    end_reaches placing =
        let z = table_other placing.table y in
        let here : Except (Among at s) y v = record { there = lane.handle.right; other = near.right } in
        let whole =
        whole-right at s e u v (s + k) rows.symmetric lane.handle (omega arith) (lane.robust.without y near.there) here
        in
        let way =
        whole v z.0 (inl here)
        (⊎_elim (λ a. inl (record { there = a; other = z.2 })) (λ b. inr b) (region_vacant lane placing z.0 z.1 z.3))
        in
        reaches_back rows.symmetric z.0 way.size z.3 (walk_inside inside way.walk)
      where
        inside : (p : ℕ) → Both (Except (Among at s) y) (Between at (s + k) e) p → Has free p
        inside p x =
            ⊎_elim
            (λ a. (without p).1 ((has p).1 (inl a.there), a.other))
            (λ b.
            let l = b.before in
            let f = b.from in
            let w = lane.within in
            (without p).1
            ((has p).1 (inr b), λ same. lane_new rows lane b.place y (omega arith) (omega arith) near.there (b.is ∙ same)))
            x

    -- y is held
    pub end_few : AtMost (suc (n - 2)) (Has free)
    end_few =
        let four = lane_four in
        at_most_without region free ((has y).1 (inl near.there)) without
        (at_most_more (suc (suc (n - 2))) (omega arith) (region_few lane k (λ p x. (has p).0 x)))

    pub end_beside : {h h' : ℕ → ℕ} → Cleared (Has free) v h h' → h y ≡ 0 → h' y ≡ 0
    end_beside cleared vacant = cleared.outside y (λ x. ((without y).0 x).1 refl) ∙ vacant

  module _ {T : ℕ → ℕ} {k : ℕ} {h : ℕ → ℕ} (stage : ℕ) (has : Part at 0 s stage)
      (placing : Placing n at T s e k h) (more : k < e - s) where
    pub fetch_already : (p : ℕ) → h p ≡ T (at (e - k - 1)) → Has stage p → Vacancy (Among at s) h
        → Fetched n at T s e k (T (at (e - k - 1))) h
    fetch_already p is there z =
        record { placing = placing; from = p; in_stage = stage_out rows lane stage has p there; there = is; vacancy = z }

    pub fetch_place : (p : ℕ) → p < n → h p ≡ T (at (e - k - 1)) → (Has stage p → ⊥) → Between at s e p
    fetch_place p l is away =
        let a = lane.every p l in
        let la = a.before in
        by_cases (dec_lt a.place s)
        (λ y. absurd (away (stage_in rows lane stage has p (record { place = a.place; before = y; is = a.is }))))
        (λ y. by_cases (dec_lt a.place e)
        (λ z. record { place = a.place; from = omega arith; before = z; is = a.is })
        (λ z. absurd (rack_other rows lane placing more a.place la (omega arith)
        (sym (placing.behind a.place (omega arith) la) ∙ ap h a.is ∙ is))))

    pub fetch_held : (p q : ℕ) → h p ≡ T (at (e - k - 1)) → at q ≡ p → h (at q) ≢ 0
    fetch_held p q is here zero = rack_some rows lane placing more (sym is ∙ ap h (sym here) ∙ zero)

    pub fetch_carried : {h' : ℕ → ℕ} (y p q : ℕ) → Among at s y → v ≢ y → h p ≡ T (at (e - k - 1)) → at q ≡ p → h v ≡ 0
        → Same h' (carried (h (at q)) y h) → Table n h' → Fetched n at T s e k (T (at (e - k - 1))) h'
    fetch_carried {h'} y p q there other stands here vacant same table =
        let few = placing.few in
        let within = lane.within in
        let inner = lane.handle.inner in
        record {
          placing =
              placing_stays placing table
              (λ j l. kept (at (s + j)) (lane_new rows lane (s + j) y (omega arith) (omega arith) there)
              (λ z. rack_other rows lane placing more (e - k + j) (omega arith) (omega arith) (sym (placing.stacked j l) ∙ z)))
              (λ j le l. kept (at j) (lane_new rows lane j y (omega arith) l there)
              (λ z. rack_other rows lane placing more j l (omega arith) (sym (placing.behind j le l) ∙ z)));
          from = y;
          in_stage = there;
          there = same y ∙ carried_there (h (at q)) y h ∙ is;
          vacancy = record {
            at = v;
            there = lane.handle.right;
            vacant = kept v other (λ z. rack_some rows lane placing more (sym z ∙ vacant)) ∙ vacant;
          };
        }
      where
        is : h (at q) ≡ T (at (e - k - 1))
        is = ap h here ∙ stands

        kept : (p : ℕ) → p ≢ y → h p ≢ T (at (e - k - 1)) → h' p ≡ h p
        kept p away differ = same p ∙ carried_other (h (at q)) y h p away (λ z. differ (z ∙ is))
