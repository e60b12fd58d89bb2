-- The tables of an order on a ring, read round it.
--
--     held_circle         the table of a sound arrangement has its racks on the circle
--     round_is            the circle of the rows is the circle of the floor
--     place_is            the place where a rack stands on it
--     order_along         the order is the same by places that are the same
--     ring-says           so the order of the racks by the tables is their order on the floor
-- Assumes nothing.
use Prim.Native.Nat.{ℕ, suc, ◌-◌, ◌≤◌, ◌<◌}
use mathlib.Core.Path.{◌≡◌, refl, sym, ap, ap₂, subst, ◌∙◌, fun_ext}
use mathlib.Core.Bool.{Bool, true, false}
use mathlib.Core.List.{List}
use mathlib.Core.Logic.{◌↔◌, ◌≢◌, ⊎_elim}
use native.Mathlib.Omega.{arith}
use lib.Dec.{T}
use lib.ListN.{length, get_or}
use Rattle.order.specs.Floor.{Floor, joined}
use Rattle.order.specs.Order.{floor_of, starts_of, goals_of}
use Rattle.motion.specs.Arrangement.{Arrangement, stands}
use Rattle.motion.specs.Sound.{Sound}
use Rattle.motion.proofs.ArrangementLaws.{occupied_rack, occupied_or_vacant}
use Rattle.tables.proofs.TablesLaws.{Holds}
use Rattle.tables.proofs.TableLaws.{passed}
use Rattle.graph.specs.Rows.{row, Edge, Rows}
use Rattle.ring.specs.Circle.{Circle, round_of, edge_in, place_on}
use Rattle.ring.specs.Order.{Rack, InTurn, SameOrder}
use Rattle.ring.specs.Standing.{OnCircle, StandAt}
use Rattle.ring.proofs.CircleLaws.{circle-every, circle_one}
use Rattle.ring.proofs.RoundLaws.{ring_degree, edge_test, round-place}
use Rattle.floor.specs.FloorAnswer.{round_place, SameRound}
use Rattle.floor.specs.RingTables.{RingTables}
use Rattle.floor.proofs.FloorRows.{filled_rows, filled_joins, joins_filled, filled_starts, filled_goals}

module _ {A : Arrangement} {h : List ℕ} (holds : Holds A h) where
  rack_at_lem : (p : ℕ) → row h p ≢ 0 → (i : ℕ) × (i < length A) × (get_or A i 0 ≡ p)
  rack_at_lem p held =
      ⊎_elim (λ t. (occupied_rack A p).0 t) (λ t. absurd (held (holds.others p t))) (occupied_or_vacant A p)

  by_rack : (r : ℕ) → 0 < r → r ≤ length A → row h (stands A r) ≡ r
  unfolding stands
  by_rack r some most = holds.racks (r - 1) (omega arith) ∙ (let z : suc (r - 1) ≡ r = omega arith in z)

  pub held_circle : {n m : ℕ} {E : ℕ → ℕ → Type 0} {at : ℕ → ℕ} → 3 ≤ n → Circle n E at → Sound n A → length A ≡ m → OnCircle n m at (row h)
  unfolding stands
  held_circle {n} {m} {E} {at} three c sound size =
      record {
        rack = λ i l held.
            let x = rack_at_lem (at i) held in
            let lx = x.1 in
            let a : row h (at i) ≡ suc x.0 = ap (row h) (sym x.2) ∙ holds.racks x.0 x.1 in
            record { some = omega arith; most = omega arith };
        one = λ i j li lj held e.
            let x = rack_at_lem (at i) held in
            let y = rack_at_lem (at j) (λ z. held (e ∙ z)) in
            let a : row h (at i) ≡ suc x.0 = ap (row h) (sym x.2) ∙ holds.racks x.0 x.1 in
            let b : row h (at j) ≡ suc y.0 = ap (row h) (sym y.2) ∙ holds.racks y.0 y.1 in
            let same : x.0 ≡ y.0 = omega arith in
            circle_one three c i j li lj (sym x.2 ∙ ap (λ (k : ℕ). get_or A k 0) same ∙ y.2);
        every = λ r k.
            let s = k.some in
            let t = k.most in
            let o = circle-every three c (stands A r) (sound.below (r - 1) (omega arith)) in
            (o.0, o.1, ap (row h) o.2 ∙ by_rack r s (omega arith));
      }

  pub held_there : (r : ℕ) → 0 < r → r ≤ length A → row h (stands A r) ≡ r
  held_there = by_rack

same_test : (a b : Bool) → (a ≡ true → b ≡ true) → (b ≡ true → a ≡ true) → a ≡ b
same_test true b f g = sym (f refl)
same_test false true f g = g refl
same_test false false f g = refl

pub order_along : {m : ℕ} {p q g f : ℕ → ℕ} → ((r : ℕ) → Rack m r → p r ≡ q r) → ((r : ℕ) → Rack m r → g r ≡ f r) → SameOrder m p g
    → SameOrder m q f
order_along {m} {p} {q} {g} {f} a b same r s t kr ks kt turn =
    turned b r s t kr ks kt (same r s t kr ks kt (turned (λ x k. sym (a x k)) r s t kr ks kt turn))
  where
    turned : {u v : ℕ → ℕ} → ((r : ℕ) → Rack m r → u r ≡ v r) → (r s t : ℕ) → Rack m r → Rack m s → Rack m t → InTurn (u r) (u s) (u t)
        → InTurn (v r) (v s) (v t)
    turned {u} {v} e r s t kr ks kt w =
        subst (λ (x : ℕ). InTurn (v r) (v s) x) (e t kt)
        (subst (λ (x : ℕ). InTurn (v r) x (u t)) (e s ks) (subst (λ (x : ℕ). InTurn x (u s) (u t)) (e r kr) w))

module _ {o : List ℕ} {n m : ℕ} {g h k : List ℕ} (t : RingTables o n m g h k) where
  abbrev F : Floor
  F = floor_of o

  pub rows : Rows n g
  rows = filled_rows t.gave t.rows_are

  pub starts_hold : Holds (starts_of o) h
  starts_hold = filled_starts t.gave t.starts_are

  pub goals_hold : Holds (goals_of o) k
  goals_hold = filled_goals t.gave t.goals_are

  test_same : (a b : ℕ) → edge_in g a b ≡ joined F a b
  test_same a b =
      same_test (edge_in g a b) (joined F a b)
      (λ e. passed (joined F a b) (filled_joins t.gave t.rows_are a b ((edge_test rows t.rings a b).0 e)))
      (λ e. (edge_test rows t.rings a b).1 (joins_filled t.gave t.rows_are a b (subst T (sym e) tt)))

  pub round_is : round_of n (edge_in g) ≡ round_of F.positions (joined F)
  round_is =
      ap₂ (λ (x : ℕ) (e : ℕ → ℕ → Bool). round_of x e) t.gave.positions_are (fun_ext (λ a. fun_ext (λ b. test_same a b)))

  module _ (c : List ℕ) (circle : Circle n (Edge g) (row c)) (read : (i : ℕ) → i < n → row c i ≡ get_or (round_of n (edge_in g)) i 0) where
    three : 3 ≤ n
    three = t.rings.bi_connected.three

    sound_at : {A : Arrangement} → Sound F.positions A → Sound n A
    sound_at {A} s = subst (λ (x : ℕ). Sound x A) (sym t.gave.positions_are) s

    pub starts_on : OnCircle n m (row c) (row h)
    starts_on =
        let w = t.gave.placed_well in
        held_circle starts_hold three circle (sound_at w.starts_sound) (w.starts_length ∙ sym t.gave.racks_are)

    pub goals_on : OnCircle n m (row c) (row k)
    goals_on =
        let w = t.gave.placed_well in
        held_circle goals_hold three circle (sound_at w.goals_sound) (w.goals_length ∙ sym t.gave.racks_are)

    place_is : {A : Arrangement} {f : List ℕ} {p : ℕ → ℕ} → Holds A f → length A ≡ m → OnCircle n m (row c) (row f) → StandAt n m (row c)
        (row f) p
        → (r : ℕ) → Rack m r → p r ≡ round_place F A r
    unfolding round_place
    place_is {A} {f} {p} holds size on at r kr =
        let some = kr.some in
        let most = kr.most in
        let lp = at.places.below r kr in
        let here = held_there holds r some (omega arith) in
        let x = rack_at_lem holds (row c (p r)) (λ z. let w = at.there r kr in omega arith) in
        let a : row f (row c (p r)) ≡ suc x.0 = ap (row f) (sym x.2) ∙ holds.racks x.0 x.1 in
        let index : r - 1 ≡ x.0 = (let w = at.there r kr in omega arith) in
        let same : get_or (round_of n (edge_in g)) (p r) 0 ≡ stands A r = sym (read (p r) lp) ∙ sym x.2 ∙ ap (λ (y : ℕ). get_or A y 0)
        (sym index) ∙ unfolded A r in
        sym (round-place (ring_degree rows t.rings) (edge_in g) (edge_test rows t.rings) (stands A r)
        (subst (λ (y : ℕ). y < n) (read (p r) lp ∙ same) (circle.inside (p r) lp)) (p r) lp same)
        ∙ ap (λ (l : List ℕ). place_on l (stands A r)) round_is
      where
        unfolded : (A : Arrangement) (r : ℕ) → get_or A (r - 1) 0 ≡ stands A r
        unfolded A r = unfold stands in refl

    module _ (p q : ℕ → ℕ) (from : StandAt n m (row c) (row h) p) (to : StandAt n m (row c) (row k) q) where
      starts-at : (r : ℕ) → Rack m r → p r ≡ round_place F (starts_of o) r
      starts-at = place_is starts_hold (t.gave.placed_well.starts_length ∙ sym t.gave.racks_are) starts_on from

      goals-at : (r : ℕ) → Rack m r → q r ≡ round_place F (goals_of o) r
      goals-at = place_is goals_hold (t.gave.placed_well.goals_length ∙ sym t.gave.racks_are) goals_on to

      pub ring-says : SameOrder m p q ↔ SameRound F m (starts_of o) (goals_of o)
      ring-says =
          (order_along starts-at goals-at, order_along (λ r kr. sym (starts-at r kr)) (λ r kr. sym (goals-at r kr)))
