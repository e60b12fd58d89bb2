-- Why racks that are driven on and then back stand at their goals.
--
--     mirror-circle, on_mirror     the circle read the other way is one, and has the same racks
--     vacant-place                 with fewer racks than places one is vacant
--     lands_ahead                  where going on from a place lands
--     paced_by                     racks are paced where their numbers keep their order
--     Plan                         the two numbers of each rack, and what they need
--     on_driveable, back_driveable, settled    driven on, driven back, and then each stands at its goal
--     few_moves                    how many moves it takes
-- Assumes nothing.
use Prim.Native.Nat.{ℕ, ◌+◌, ◌-◌, ◌*◌, ◌≤◌, ◌<◌}
use mathlib.Core.Path.{◌≡◌, refl, sym, ap, subst, ◌∙◌}
use mathlib.Core.List.{List}
use mathlib.Core.Logic.{◌≢◌, ⊎_elim, by_cases}
use native.Mathlib.Decide.{ℕ_discrete, dec_lt}
use native.Mathlib.Nat.{mul-le-mul_left, mul_assoc}
use native.Mathlib.Omega.{arith}
use Rattle.sets.proofs.CountLaws.{pigeonhole}
use Rattle.graph.specs.Walk.{Symmetric}
use Rattle.ring.specs.Circle.{Circle, next}
use Rattle.ring.specs.Order.{Rack, ahead, SameOrder}
use Rattle.ring.specs.Standing.{OnCircle, StandAt}
use Rattle.ring.proofs.CircleLaws.{place?, next_is, circle_one, circle-next}
use Rattle.ring.proofs.OrderLaws.{first, ahead_is, order_kept}
use Rattle.ring.proofs.StandingLaws.{stand_one}
use Rattle.circling.specs.Lands.{Lands, mirror}
use Rattle.circling.specs.Drive.{Paced, Driveable, Driven}
use Rattle.circling.specs.Needs.{reach, round_moves}
use Rattle.circling.specs.Lands.{total}
use Rattle.circling.proofs.LandsLaws.{laps_apart, lands_one, lands_then, lands_mirror, mirror_is, mirror_below, mirror_back}
use Rattle.circling.proofs.NeedsLaws.{distance_below}

module _ {n : ℕ} {E : ℕ → ℕ → Type 0} {at : ℕ → ℕ} (three : 3 ≤ n) (c : Circle n E at) (both : Symmetric E) where
  -- the place after the mirror of i + 1 is the mirror of i
  after : (i : ℕ) → i + 1 < n → next n (mirror n (i + 1)) ≡ mirror n i
  after i l =
      ⊎_elim (λ s. absurd (omega (arith, s.0)))
      (λ s. ⊎_elim
      (λ t. ⊎_elim (λ u. omega (arith, s.1, t.0, t.1, u.0, u.1)) (λ u. omega (arith, s.1, t.0, t.1, u.0, u.1)) (next_is n
      (mirror n (i + 1))))
      (λ t. ⊎_elim (λ u. absurd (omega (arith, s.1, t.0, t.1, u.0, u.1))) (λ u. omega (arith, s.1, t.0, t.1, u.0, u.1))
      (next_is n (mirror n (i + 1))))
      (mirror_is n i))
      (mirror_is n (i + 1))

  pub mirror-circle : Circle n E (λ j. at (mirror n j))
  mirror-circle =
      record {
        inside = λ i l. c.inside (mirror n i) (mirror_below n i l);
        distinct = λ i j l h e.
            let same = circle_one three c (mirror n i) (mirror n j) (mirror_below n i (omega arith)) (mirror_below n j h) e in
            let z : i ≡ j = sym (mirror_back n i (omega arith)) ∙ ap (mirror n) same ∙ mirror_back n j h in
            omega arith;
        joined = λ i l.
            both (at (mirror n (i + 1))) (at (mirror n i))
            (subst (λ (x : ℕ). E (at (mirror n (i + 1))) (at x)) (after i l) (circle-next three c (mirror n (i + 1)) (mirror_below n
            (i + 1) l)));
        closed =
            subst (λ (x : ℕ). E (at x) (at 0)) (⊎_elim (λ s. absurd (omega (arith, s.0))) (λ s. omega (arith, s.1)) (mirror_is n (n - 1)))
            (both (at 0) (at 1) (c.joined 0 (omega arith)));
      }

pub on_mirror : {n m : ℕ} {at h : ℕ → ℕ} → OnCircle n m at h → OnCircle n m (λ j. at (mirror n j)) h
on_mirror {n} {m} {at} {h} v =
    record {
      rack = λ i l full. v.rack (mirror n i) (mirror_below n i l) full;
      one = λ i j li lj full e.
          sym (mirror_back n i li) ∙ ap (mirror n) (v.one (mirror n i) (mirror n j) (mirror_below n i li) (mirror_below n j lj) full e)
          ∙ mirror_back n j lj;
      every = λ r k.
          let o = v.every r k in
          (mirror n o.0, mirror_below n o.0 o.1, ap (λ (x : ℕ). h (at x)) (mirror_back n o.0 o.1) ∙ o.2);
    }

pub vacant-place : {n m : ℕ} {at h : ℕ → ℕ} → OnCircle n m at h → m < n → (z : ℕ) × (z < n) × (h (at z) ≡ 0)
vacant-place {n} {m} {at} {h} v less =
    ⊎_elim (λ z. z)
    (λ full. absurd
    (let many = pigeonhole m (λ i. h (at i) - 1) n
    (λ i l. let k = v.rack i l (full i l) in let a = k.some in let b = k.most in omega arith)
    (λ i j l s e.
    let a = (v.rack i (omega arith) (full i (omega arith))).some in
    let b = (v.rack j s (full j s)).some in
    let same = v.one i j (omega arith) s (full i (omega arith)) (omega arith) in omega arith) in
    omega arith))
    (place? (λ i. h (at i)) 0 n)

pub lands_ahead : (n x i j : ℕ) → i < n → j < n → Lands n x i → Lands n (x + ahead n i j) j
lands_ahead n x i j li lj a =
    lands_then n (ahead n i j) a
    (⊎_elim (λ s. record { laps = 0; is = omega (arith, s.0, s.1) }) (λ s. record { laps = 1; is = omega (arith, s.0, s.1) })
    (ahead_is n i j))

-- the numbers X and Y of the racks keep their order, and no two are a lap apart
module _ {n m : ℕ} {at h : ℕ → ℕ} (on : OnCircle n m at h) (X Y d : ℕ → ℕ)
    (lands : (i : ℕ) → i < n → h (at i) ≢ 0 → Lands n (X (h (at i))) i)
    (near : (r q : ℕ) → Rack m r → Rack m q → X r < X q + n) (near' : (r q : ℕ) → Rack m r → Rack m q → Y r < Y q + n)
    (alike : (r q : ℕ) → Rack m r → Rack m q → X r < X q → Y r < Y q)
    (idle : d 0 ≡ 0) (need : (r : ℕ) → Rack m r → X r + d r ≡ Y r) where
  behind : (i j : ℕ) → i < n → j < n → i ≢ j → h (at i) ≢ 0 → h (at j) ≢ 0 → d (h (at i)) < d (h (at j)) + ahead n i j
  behind i j li lj apart fi fj =
      let r = h (at i) in
      let q = h (at j) in
      let kr = on.rack i li fi in
      let kq = on.rack j lj fj in
      let a = (lands i li fi).is in
      let b = (lands j lj fj).is in
      let x = near r q kr kq in
      let y = near q r kq kr in
      let z = near' r q kr kq in
      let nr = need r kr in
      let nq = need q kq in
      let laps = laps_apart n (lands j lj fj).laps (lands i li fi).laps in
      by_cases (dec_lt (X r) (X q))
      (λ l.
      let t = alike r q kr kq l in
      ⊎_elim (λ s. ⊎_elim (λ u. omega (arith, s.0, s.1))
      (λ u. ⊎_elim (λ w. omega (arith, s.0, s.1)) (λ w. ⊎_elim (λ p. omega (arith, s.0, s.1)) (λ p. omega
      (arith, s.0, s.1)) w) u) laps)
      (λ s. ⊎_elim (λ u. omega (arith, s.0, s.1))
      (λ u. ⊎_elim (λ w. omega (arith, s.0, s.1)) (λ w. ⊎_elim (λ p. omega (arith, s.0, s.1)) (λ p. omega
      (arith, s.0, s.1)) w) u) laps)
      (ahead_is n i j))
      (λ l.
      ⊎_elim (λ s. ⊎_elim (λ u. omega (arith, s.0, s.1))
      (λ u. ⊎_elim (λ w. omega (arith, s.0, s.1)) (λ w. ⊎_elim (λ p. omega (arith, s.0, s.1)) (λ p. omega
      (arith, s.0, s.1)) w) u) laps)
      (λ s. ⊎_elim (λ u. omega (arith, s.0, s.1))
      (λ u. ⊎_elim (λ w. omega (arith, s.0, s.1)) (λ w. ⊎_elim (λ p. omega (arith, s.0, s.1)) (λ p. omega
      (arith, s.0, s.1)) w) u) laps)
      (ahead_is n i j))

  pub paced_by : Paced n at d h
  paced_by = record { idle = idle; behind = behind }

pub on_same : {n m : ℕ} {at to h : ℕ → ℕ} → ((i : ℕ) → i < n → to i ≡ at i) → OnCircle n m at h → OnCircle n m to h
on_same {n} {m} {at} {to} {h} same v =
    record {
      rack = λ i l full. subst (λ (x : ℕ). Rack m (h x)) (sym (same i l)) (v.rack i l (λ z. full (ap h (same i l) ∙ z)));
      one = λ i j li lj full e. v.one i j li lj (λ z. full (ap h (same i li) ∙ z)) (sym (ap h (same i li)) ∙ e ∙ ap h (same j lj));
      every = λ r k. let o = v.every r k in (o.0, o.1, ap h (same o.0 o.1) ∙ o.2);
    }

module _ {n m : ℕ} {at h goal p g : ℕ → ℕ} (three : 3 ≤ n) (few : n ≤ 64) (less : m < n) (on : OnCircle n m at h)
    (aim : OnCircle n m at goal)
    (start : StandAt n m at h p) (end : StandAt n m at goal g) (same : SameOrder m p g) {b t : ℕ} (lb : Lands n b (p 1)) (lt : Lands n t
    (g 1))
    (small : b < 3 * n) (near : t ≤ b + 3 * n) where
  abbrev from : ℕ → ℕ
  from = reach n b p

  abbrev to : ℕ → ℕ
  to = reach n t g

  abbrev most : ℕ → ℕ
  most r = from r + (to r - from r)

  from_lands : (r : ℕ) → Rack m r → Lands n (from r) (p r)
  from_lands r k = lands_ahead n b (p 1) (p r) (start.places.below 1 (first k)) (start.places.below r k) lb

  to_lands : (r : ℕ) → Rack m r → Lands n (to r) (g r)
  to_lands r k = lands_ahead n t (g 1) (g r) (end.places.below 1 (first k)) (end.places.below r k) lt

  from_near : (r q : ℕ) → Rack m r → Rack m q → from r < from q + n
  from_near r q kr kq = omega (arith, distance_below start.places r kr)

  to_near : (r q : ℕ) → Rack m r → Rack m q → to r < to q + n
  to_near r q kr kq = omega (arith, distance_below end.places r kr)

  ordered : (r q : ℕ) → Rack m r → Rack m q → from r < from q → to r < to q
  ordered r q kr kq l = let x = order_kept start.places end.places same r kr q kq (omega arith) in omega arith

  from-apart : (r q : ℕ) → Rack m r → Rack m q → from r ≡ from q → r ≡ q
  from-apart r q kr kq e =
      start.places.apart r q kr kq
      (lands_one n (start.places.below r kr) (start.places.below q kq) (from_lands r kr)
      (subst (λ (x : ℕ). Lands n x (p q)) (sym e) (from_lands q kq)))

  most_near : (r q : ℕ) → Rack m r → Rack m q → most r < most q + n
  most_near r q kr kq = let x = from_near r q kr kq in let y = to_near r q kr kq in omega arith

  most_ordered : (r q : ℕ) → Rack m r → Rack m q → from r < from q → most r < most q
  most_ordered r q kr kq l = let x = ordered r q kr kq l in omega arith

  back_ordered : (r q : ℕ) → Rack m r → Rack m q → most r < most q → to r < to q
  back_ordered r q kr kq l =
      by_cases (dec_lt (from r) (from q)) (λ s. ordered r q kr kq s)
      (λ s. by_cases (ℕ_discrete (from r) (from q))
      (λ e. absurd (let z : most r ≡ most q = ap most (from-apart r q kr kq e) in omega arith))
      (λ d. let x = most_ordered q r kq kr (omega arith) in omega arith))

  most_small : (r : ℕ) → Rack m r → most r ≤ 8 * n
  most_small r k = omega (arith, distance_below start.places r k, distance_below end.places r k)

  module _ {d : ℕ → ℕ} (none : d 0 ≡ 0) (each : (r : ℕ) → Rack m r → d r ≡ to r - from r) where
    pub on_driveable : Driveable n m at d h
    on_driveable =
        record {
          three = three;
          few = few;
          on = on;
          less = less;
          vacancy = vacant-place on less;
          paced = paced_by on from most d
              (λ i l full.
              let k = on.rack i l full in
              subst (Lands n (from (h (at i)))) (stand_one on p start i (h (at i)) l k refl) (from_lands (h (at i)) k))
              from_near most_near most_ordered none (λ r k. ap (λ (x : ℕ). from r + x) (each r k));
        }

    module _ {k : ℕ → ℕ} (on' : OnCircle n m at k) (driven : Driven n at d h k) where
      -- where a rack is driven on to, its number lands
      most_lands : (j : ℕ) → j < n → k (at j) ≢ 0 → Lands n (most (k (at j))) j
      most_lands j l full =
          let r = k (at j) in
          let kr = on'.rack j l full in
          let f = driven.from j l full in
          let there : p r ≡ f.0 = stand_one on p start f.0 r f.1 kr f.2 in
          subst (λ (x : ℕ). Lands n x j) (ap (λ (x : ℕ). from r + x) (each r kr))
          (lands_then n (d r) (subst (Lands n (from r)) there (from_lands r kr)) f.3)

      module _ {other : ℕ → ℕ} (mirrored : (j : ℕ) → j < n → other j ≡ at (mirror n j)) {e : ℕ → ℕ} (none' : e 0 ≡ 0)
          (each' : (r : ℕ) → Rack m r → e r ≡ from r - to r) where
        on_other : OnCircle n m other k
        on_other = on_same mirrored (on_mirror on')

        down_lands : (j : ℕ) → j < n → k (other j) ≢ 0 → Lands n (8 * n - most (k (other j))) j
        down_lands j l full =
            let e = ap k (mirrored j l) in
            let held : k (at (mirror n j)) ≢ 0 = λ z. full (e ∙ z) in
            let r = k (at (mirror n j)) in
            subst (λ (x : ℕ). Lands n (8 * n - most x) j) (sym e)
            (subst (Lands n (8 * n - most r)) (mirror_back n j l)
            (lands_mirror n (mirror_below n j l) (most_small r (on'.rack (mirror n j) (mirror_below n j l) held))
            (most_lands (mirror n j) (mirror_below n j l) held)))

        pub back_driveable : Driveable n m other e k
        back_driveable =
            record {
              three = three;
              few = few;
              on = on_other;
              less = less;
              vacancy = vacant-place on_other less;
              paced = paced_by on_other (λ r. 8 * n - most r) (λ r. 8 * n - to r) e down_lands
                  (λ r q kr kq. let x = most_near q r kq kr in let y = most_small r kr in let z = most_small q kq in omega arith)
                  (λ r q kr kq. let x = to_near q r kq kr in let y = most_small r kr in let z = most_small q kq in omega arith)
                  (λ r q kr kq s. let y = most_small r kr in let z = most_small q kq in let x = back_ordered q r kq kr
                  (omega arith) in omega arith)
                  none' (λ r kr. let y = most_small r kr in let x = each' r kr in omega arith);
            }

        module _ {l : ℕ → ℕ} (on'' : OnCircle n m other l) (back : Driven n other e k l) where
          at-goal : (i : ℕ) → i < n → l (at i) ≢ 0 → goal (at i) ≡ l (at i)
          at-goal i li full =
              let j = mirror n i in
              let lj = mirror_below n i li in
              let same_place : other j ≡ at i = mirrored j lj ∙ ap at (mirror_back n i li) in
              let held : l (other j) ≢ 0 = λ z. full (sym (ap l same_place) ∙ z) in
              let r = l (other j) in
              let kr = on''.rack j lj held in
              let f = back.from j lj held in
              let held_k : k (other f.0) ≢ 0 = λ z. held (sym f.2 ∙ z) in
              let was = subst (λ (x : ℕ). Lands n (8 * n - most x) f.0) f.2 (down_lands f.0 f.1 held_k) in
              let y = most_small r kr in
              let sum : 8 * n - most r + e r ≡ 8 * n - to r = (let x = each' r kr in omega arith) in
              let now : Lands n (8 * n - to r) j = subst (λ (x : ℕ). Lands n x j) sum (lands_then n (e r) was f.3) in
              let up : 8 * n - (8 * n - to r) ≡ to r = omega arith in
              let lands : Lands n (to r) (mirror n j) =
              subst (λ (x : ℕ). Lands n x (mirror n j)) up (lands_mirror n lj (omega arith) now) in
              let place : mirror n j ≡ g r = lands_one n (mirror_below n j lj) (end.places.below r kr) lands (to_lands r kr) in
              ap (λ (x : ℕ). goal (at x)) (sym (mirror_back n i li) ∙ place) ∙ end.there r kr ∙ ap l same_place

          pub settled : (i : ℕ) → i < n → l (at i) ≡ goal (at i)
          settled i li =
              by_cases (ℕ_discrete (l (at i)) 0)
              (λ z. by_cases (ℕ_discrete (goal (at i)) 0) (λ w. z ∙ sym w)
              (λ w.
              let o = on''.every (goal (at i)) (aim.rack i li w) in
              let j = mirror n o.0 in
              let lj = mirror_below n o.0 o.1 in
              let there : l (at j) ≡ goal (at i) = sym (ap l (mirrored o.0 o.1)) ∙ o.2 in
              let stands = at-goal j lj (λ v. w (sym there ∙ v)) in
              let same_place : j ≡ i = aim.one j i lj li (λ v. w (sym there ∙ sym stands ∙ v)) (stands ∙ there) in
              absurd (w (sym there ∙ ap (λ (x : ℕ). l (at x)) same_place ∙ z))))
              (λ f. sym (at-goal i li f))

pub few_moves : (n m : ℕ) (x y : List ℕ) → m < n → total x ≤ 4 * n * m → total y ≤ 4 * n * m → total x + total y ≤ round_moves n
few_moves n m x y less a b =
    let s : 4 * n * m ≤ 4 * n * n = mul-le-mul_left (4 * n) (let l : m ≤ n = omega arith in l) in
    let t : 4 * n * n ≡ 4 * (n * n) = mul_assoc 4 n n in
    omega arith
