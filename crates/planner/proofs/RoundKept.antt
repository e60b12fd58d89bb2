-- A legal move on a ring keeps the order of the racks round it, and so do moves one after another.
--
--     turn_moved        a rack that goes one place on or back, to a place where none of the two others stands, comes in turn as before
--     Gone              a rack that moved from place i to place j, or one that stays and does not stand at j
--     turns-kept        three racks, of which one may have moved
--     places_of, stand_of, places-round    where racks stand on the circle
--     move-kept         a legal move
--     moves-kept        legal moves one after another, any number of them
-- Assumes nothing.
use Prim.Native.Nat.{ℕ, ◌-◌, ◌<◌}
use mathlib.Core.Path.{◌≡◌, sym, ap, subst, ◌∙◌}
use mathlib.Core.List.{List}
use mathlib.Core.Logic.{◌≢◌, ◌⊎◌, inl, inr, ⊎_elim, by_cases}
use native.Mathlib.Decide.{ℕ_discrete}
use native.Mathlib.Omega.{arith}
use lib.Dec.{T}
use lib.ListN.{length, get_or}
use Rattle.order.specs.Floor.{Floor}
use Rattle.order.specs.Order.{floor_of}
use Rattle.motion.specs.Arrangement.{Arrangement, stands}
use Rattle.motion.specs.Move.{legal_move, after_move}
use Rattle.motion.specs.Sound.{Sound}
use Rattle.motion.proofs.ArrangementLaws.{vacant-racks}
use Rattle.motion.proofs.MoveLaws.{on_floor_parts, legal_parts, move-length, moved_rack, moved_other}
use Rattle.motion.proofs.Lawful.{Leads}
use Rattle.motion.proofs.Lawful.Lawful.{still, ◌then◌}
use Rattle.motion.proofs.SoundLaws.{move_sound}
use Rattle.tables.proofs.TablesLaws.{Holds}
use Rattle.graph.specs.Rows.{row, Edge}
use Rattle.ring.specs.Circle.{Circle, next, round_of, edge_in, place_on}
use Rattle.ring.specs.Order.{InTurn, Rack, SameOrder}
use Rattle.ring.specs.Standing.{StandAt}
use Rattle.ring.proofs.CircleLaws.{Degree, next_is, circle-every, circle-neighbours}
use Rattle.ring.proofs.OrderLaws.{turn_on, turn_off}
use Rattle.ring.proofs.RoundLaws.{ring_degree, edge_test, round-circle, round-place}
use Rattle.floor.specs.FloorAnswer.{round_place, SameRound}
use Rattle.floor.specs.RingTables.{RingTables}
use Rattle.floor.proofs.FloorRows.{joins_filled}
use Rattle.floor.proofs.RoundTables.{rows, round_is, held_there, order_along}

pub turn_moved : (n i j y z : ℕ) → i < n → j < n → y < n → z < n → (j ≡ next n i) ⊎ (i ≡ next n j) → y ≢ j → z ≢ j → InTurn i y z
    → InTurn j y z
turn_moved n i j y z li lj ly lz near dy dz t =
    ⊎_elim
    (λ e. ⊎_elim
    (λ s. ⊎_elim (λ u. absurd (omega (arith, s.0, u.0)))
    (λ v. ⊎_elim (λ u. inl (omega (arith, s.1, e), u.0)) (λ u. absurd (omega (arith, s.0, u.1))) v) t)
    (λ s. ⊎_elim (λ u. inl (omega (arith, s.1, e, u.0), u.1))
    (λ v. ⊎_elim (λ u. inr (inl (u.0, omega (arith, s.1, e, u.1)))) (λ u. inr (inr (
      omega (arith, s.1, e, u.0),
      omega
          (arith, s.1, e, u.1),
    ))) v) t)
    (next_is n i))
    (λ e. ⊎_elim
    (λ s. ⊎_elim (λ u. inr (inl (u.1, omega (arith, s.0))))
    (λ v. ⊎_elim (λ u. absurd (omega (arith, s.1, e, u.1))) (λ u. absurd (omega (arith, s.1, e, u.0))) v) t)
    (λ s. ⊎_elim (λ u. inl (omega (arith, s.1, e, u.0), u.1))
    (λ v. ⊎_elim (λ u. inr (inl (u.0, omega (arith, s.1, e, u.1)))) (λ u. inr (inr (
      omega (arith, s.1, e, u.0),
      omega
          (arith, s.1, e, u.1),
    ))) v) t)
    (next_is n j))
    near

abbrev pub Gone : ℕ → ℕ → ℕ → ℕ → Type 0
Gone i j x y = ((x ≡ i) × (y ≡ j)) ⊎ ((y ≡ x) × (x ≢ j))

module _ (n i j : ℕ) (li : i < n) (lj : j < n) (near : (j ≡ next n i) ⊎ (i ≡ next n j)) where
  never : {y z : ℕ} → InTurn y y z → ⊥
  never t = ⊎_elim (λ u. omega (arith, u.0)) (λ v. ⊎_elim (λ u. omega (arith, u.0, u.1)) (λ u. omega (arith, u.1)) v) t

  -- the first of the three moved, or none did
  first-kept : (x y z x' y' z' : ℕ) → y < n → z < n → Gone i j x x' → (y' ≡ y) × (y ≢ j) → (z' ≡ z) × (z ≢ j) → InTurn x y z
      → InTurn x' y' z'
  first-kept x y z x' y' z' ly lz gx gy gz t =
      let back : InTurn x' y z → InTurn x' y' z' =
      λ u. subst (λ (w : ℕ). InTurn x' y' w) (sym gz.0) (subst (λ (w : ℕ). InTurn x' w z) (sym gy.0) u) in
      back
      (⊎_elim
      (λ m. subst (λ (w : ℕ). InTurn w y z) (sym m.1) (turn_moved n i j y z li lj ly lz near gy.1 gz.1 (subst
      (λ (w : ℕ). InTurn w y z) m.0 t)))
      (λ m. subst (λ (w : ℕ). InTurn w y z) (sym m.0) t)
      gx)

  pub turns-kept : (x y z x' y' z' : ℕ) → x < n → y < n → z < n → Gone i j x x' → Gone i j y y' → Gone i j z z' → InTurn x y z
      → InTurn x' y' z'
  turns-kept x y z x' y' z' lx ly lz gx gy gz t =
      ⊎_elim
      (λ my. ⊎_elim
      (λ mz. absurd (never (turn_on (subst (λ (w : ℕ). InTurn x w z) (my.0 ∙ sym mz.0) t))))
      (λ sz. ⊎_elim
      (λ mx. absurd (never (subst (λ (w : ℕ). InTurn x w z) (my.0 ∙ sym mx.0) t)))
      (λ sx. turn_off (first-kept y z x y' z' x' lz lx (inl my) sz sx (turn_on t)))
      gx)
      gz)
      (λ sy. ⊎_elim
      (λ mz. ⊎_elim
      (λ mx. absurd (never (turn_off (subst (λ (w : ℕ). InTurn x y w) (mz.0 ∙ sym mx.0) t))))
      (λ sx. turn_on (first-kept z x y z' x' y' lx ly (inl mz) sx sy (turn_off t)))
      gx)
      (λ sz. first-kept x y z x' y' z' ly lz gx sy sz t)
      gz)
      gy

module _ {o : List ℕ} {n m : ℕ} {g h k : List ℕ} (t : RingTables o n m g h k) where
  abbrev F : Floor
  F = floor_of o

  abbrev way : List ℕ
  way = round_of n (edge_in g)

  floor : Degree n (Edge g)
  floor = ring_degree (rows t) t.rings

  pub circle : Circle n (Edge g) (λ i. get_or way i 0)
  circle = round-circle floor (edge_in g) (edge_test (rows t) t.rings)

  abbrev place : ℕ → ℕ
  place p = place_on way p

  place_of_lem : (p : ℕ) → p < n → (place p < n) × (get_or way (place p) 0 ≡ p)
  place_of_lem p l =
      let c = circle-every floor.three circle p l in
      let e = round-place floor (edge_in g) (edge_test (rows t) t.rings) p l c.0 c.1 c.2 in
      (subst (λ (x : ℕ). x < n) (sym e) c.1, ap (λ (x : ℕ). get_or way x 0) e ∙ c.2)

  place_is : (A : Arrangement) (r : ℕ) → round_place F A r ≡ place (stands A r)
  unfolding round_place
  place_is A r = ap (λ (l : List ℕ). place_on l (stands A r)) (sym (round_is t))

  -- where the racks of an arrangement stand on the circle
  pub places_of : Arrangement → ℕ → ℕ
  places_of A r = place (stands A r)

  pub stand_of : {A : Arrangement} {f : List ℕ} → Sound F.positions A → length A ≡ m → Holds A f
      → StandAt n m (λ i. get_or way i 0) (row f) (places_of A)
  unfolding places_of stands
  stand_of {A} {f} sound size holds =
      record {
        places = record {
          below = λ r k. (at r k).0;
          apart = λ r q kr kq e. sym (there r kr) ∙ ap (λ (x : ℕ). row f (get_or way x 0)) e
              ∙ there q kq;
        };
        there = there;
      }
    where
      at : (r : ℕ) → Rack m r → (place (stands A r) < n) × (get_or way (place (stands A r)) 0 ≡ stands A r)
      at r k =
          let some = k.some in
          let most = k.most in
          place_of_lem (stands A r) (subst (λ (x : ℕ). get_or A (r - 1) 0 < x) (sym t.gave.positions_are) (sound.below (r - 1)
          (omega arith)))

      there : (r : ℕ) → Rack m r → row f (get_or way (place (stands A r)) 0) ≡ r
      there r k =
          let some = k.some in
          let most = k.most in
          ap (row f) (at r k).1 ∙ held_there holds r some (omega arith)

  pub places-round : (A B : Arrangement) → SameRound F m A B → SameOrder m (places_of A) (places_of B)
  unfolding places_of
  places-round A B same = order_along (λ r k. place_is A r) (λ r k. place_is B r) same

  module _ {A : Arrangement} (sound : Sound F.positions A) (size : length A ≡ m) (a b : ℕ) (legal : T (legal_move F A (a, b))) where
    below : (i : ℕ) → i < length A → get_or A i 0 < n
    below i l = subst (λ (x : ℕ). get_or A i 0 < x) (sym t.gave.positions_are) (sound.below i l)

    la : a < n
    la = subst (λ (x : ℕ). a < x) (sym t.gave.positions_are) ((on_floor_parts F (a, b)).0 ((legal_parts F A (a, b)).0 legal).0).0

    lb : b < n
    lb = subst (λ (x : ℕ). b < x) (sym t.gave.positions_are) ((on_floor_parts F (a, b)).0 ((legal_parts F A (a, b)).0 legal).0).1

    edge : Edge g a b
    edge =
        joins_filled t.gave t.rows_are a b ((on_floor_parts F (a, b)).0 ((legal_parts F A (a, b)).0 legal).0).2

    near : (place b ≡ next n (place a)) ⊎ (place a ≡ next n (place b))
    near =
        circle-neighbours floor.three circle floor (place a) (place b) (place_of_lem a la).0 (place_of_lem b lb).0
        (subst (λ (x : ℕ). Edge g x (get_or way (place b) 0)) (sym (place_of_lem a la).1)
        (subst (Edge g a) (sym (place_of_lem b lb).1) edge))

    gone : (r : ℕ) → Rack m r → Gone (place a) (place b) (place (stands A r)) (place (stands (after_move A (a, b)) r))
    unfolding stands
    gone r k =
        let some = k.some in
        let most = k.most in
        let li : r - 1 < length A = omega arith in
        by_cases (ℕ_discrete (get_or A (r - 1) 0) a)
        (λ e. inl (ap place e, ap place (moved_rack A (a, b) (r - 1) li e)))
        (λ d. inr (
          ap place (moved_other A (a, b) (r - 1) li d),
          λ e.
              (vacant-racks A b).0 ((legal_parts F A (a, b)).0 legal).2 (r - 1) li
              (sym (place_of_lem (get_or A (r - 1) 0) (below (r - 1) li)).1 ∙ ap (λ (x : ℕ). get_or way x 0) e ∙ (place_of_lem b lb).1),
        ))

    at_place : (r : ℕ) → Rack m r → place (stands A r) < n
    unfolding stands
    at_place r k =
        let some = k.some in
        let most = k.most in
        (place_of_lem (get_or A (r - 1) 0) (below (r - 1) (omega arith))).0

    pub move-kept : SameOrder m (λ r. place (stands A r)) (λ r. place (stands (after_move A (a, b)) r))
    move-kept r q s kr kq ks turn =
        turns-kept n (place a) (place b) (place_of_lem a la).0 (place_of_lem b lb).0 near (place (stands A r)) (place (stands A q)) (place
        (stands A s))
        (place (stands (after_move A (a, b)) r)) (place (stands (after_move A (a, b)) q)) (place (stands (after_move A (a, b)) s))
        (at_place r kr) (at_place q kq) (at_place s ks) (gone r kr) (gone q kq) (gone s ks) turn

  leads_kept : {A B : Arrangement} {ms : List (ℕ × ℕ)} → Sound F.positions A → length A ≡ m → Leads F A ms B
      → SameOrder m (λ r. place (stands A r)) (λ r. place (stands B r))
  leads_kept sound size still r q s kr kq ks turn = turn
  leads_kept {A} sound size (◌then◌ {x = x} l rest) r q s kr kq ks turn =
      leads_kept (move_sound F A x l sound) (move-length A x ∙ size) rest r q s kr kq ks
      (move-kept sound size x.0 x.1 l r q s kr kq ks turn)

  pub moves-kept : {A B : Arrangement} {ms : List (ℕ × ℕ)} → Sound F.positions A → length A ≡ m → Leads F A ms B → SameRound F m A B
  moves-kept {A} {B} sound size leads =
      order_along (λ r k. sym (place_is A r)) (λ r k. sym (place_is B r)) (leads_kept sound size leads)
