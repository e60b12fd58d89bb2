-- Laws of an exchange on the ring. A rack is brought aside: the rack beside place 0 steps onto the ring, rack a is brought to place 0, and
-- from there aside. Then rack b is brought to place 1, and place 0 and the last place are cleared.
--
--     rack_at_lem                where a rack of the ring stands is on it
--     aside_movable          the rack beside place 0 can step onto the ring
--     aside_on               a stands on the ring after the step
--     aside_bringable        it can be brought to place 0
--     aside_again            it can step aside
--     aside-done             it stands there, and nothing else off the ring moved
--     aside-rest             all vacancies are on the ring
--     rack_on                a rack that stood on the ring, and is not aside, stands on the ring
--     next_bringable         b can be brought to place 1
--     next_held, next_outside, next_held_still, next_outside_still
--                            it stands there, and nothing off the ring moved: where b is brought, and where place 0 is cleared
--     next-done              and the last place
--     swapped-first, swapped-second, swapped_other, swapped-zero, swapped-some
--                            a for b; b for a; any other rack; no rack; a rack for a rack
--     exchange-aside, exchange_swappable    a is still aside then, and the two can be swapped
--     exchange-swapped       two racks swapped where they stand are swapped everywhere
--     exchange_undoing       what taking back the moves before the swap leads to
--     exchange_most          an exchange takes at most 4 × r × r moves
--     exchange_fits          room for the moves before the swap, and for the six
--     Swapping, exchange-made    the two racks brought and swapped: what is left is to take back the moves before the swap
--     exchange-entries, exchange_space, exchange_trip    the log has them, there is room for that, and all is one trip
-- Assumes nothing.
use Prim.Native.Nat.{ℕ, ◌+◌, ◌-◌, ◌*◌, ◌≤◌, ◌<◌}
use mathlib.Core.Path.{◌≡◌, refl, sym, ap, subst, ◌∙◌}
use mathlib.Core.Bool.{Bool, cond}
use mathlib.Core.List.{List, []}
use mathlib.Core.Logic.{◌↔◌, ◌≢◌, by_cases}
use native.Mathlib.Decide.{ℕ_discrete}
use native.Mathlib.Nat.{mul-add, mul-le-mul, mul-le-mul_right}
use native.Mathlib.Omega.{arith}
use lib.Dec.{eqb}
use lib.ListN.{length}
use borrow.Author.Tests.{eq-eqb, ne_eqb}
use Rattle.sets.specs.Sets.{Has}
use Rattle.graph.specs.Walk.{Symmetric}
use Rattle.graph.specs.Rows.{row, Edge, Rows}
use Rattle.breakdown.specs.Part.{Part}
use Rattle.moving.specs.declared.State.{State}
use Rattle.moving.specs.Went.Back.{done}
use Rattle.moving.proofs.WentLaws.{same_refl}
use Rattle.moving.specs.Journey.{relogged, onto, Fits, Room, Space, Trip, Journey, JourneyOn}
use Rattle.moving.specs.Journey.Trail.{start}
use Rattle.moving.proofs.JourneyLaws.{trail_below, journey_append, trip_append, trip_anew, trip_more}
use Rattle.moving.proofs.JourneyLaws.{fits_anew, space_then, space_less}
use Rattle.turning.proofs.BackLaws.{back_from, back_renamed}
use Rattle.moving.specs.OnePlace.{Movable, Passed}
use Rattle.turning.specs.Undone.{Entries, Undoing}
use Rattle.shunting.specs.Cleared.{Cleared, Bringable, Brought}
use Rattle.moving.specs.Table.{Table, StandsAt}
use Rattle.moving.proofs.TableLaws.{table_rack, table_went}
use Rattle.base_ring.specs.declared.Circle.{Circle}
use Rattle.base_ring.specs.Circle.{place, On, BaseRing, OnRing, TwoOnRing, RestHeld, Open, Aside, Ready, swapped, Exchanged}
use Rattle.base_ring.specs.Moves.{aside_moves, next_moves, exchange_moves}
use Rattle.base_ring.specs.Swap.{Swappable, Joined, Swapped}
use Rattle.base_ring.proofs.RingLaws.{on_surely, circle_on, circle-apart, circle_small, circle_off, circle_beside, held_open}
use Rattle.base_ring.proofs.RingLaws.{ring_has, ring_on, ring-vacancy}

-- a rack of a table that stands where one on the ring does
pub rack_at_lem : {c : Circle} {h : ℕ → ℕ} {r : ℕ} → Table c.positions h → OnRing c r h → (q : ℕ) → h q ≡ r → On c q
rack_at_lem {c} t x q e = subst (On c) (sym (t.one q x.at (λ z. x.rack (sym e ∙ z)) (e ∙ sym x.there))) x.on

module _ {g : List ℕ} {c : Circle} (rows : Rows c.positions g) (circle : BaseRing (Edge g) c) where
  three : 3 ≤ c.size
  three = circle.three

  off_place : (p i : ℕ) → i < c.size → (On c p → ⊥) → p ≢ place c i
  off_place p i l out e = out (subst (On c) (sym e) (circle_on circle i l))

  on_beside : (p : ℕ) → On c p → p ≢ c.beside
  on_beside p on e = circle_off circle (subst (On c) e on)

  small_beside : c.beside < 64
  small_beside = let x = circle_beside rows circle in let s = rows.small in omega arith

  module _ {h : ℕ → ℕ} {a : ℕ} (o : Open c h) (rack : OnRing c a h) where
    pub aside_movable : Movable c.beside (place c 0) h
    aside_movable =
        let l = three in
        record {
          leaves = small_beside;
          enters = circle_small rows circle 0 (omega arith);
          held = held_open circle o c.beside (circle_beside rows circle) (circle_off circle);
          vacant = o.zero;
        }

    module _ {h₁ : ℕ → ℕ} (step : Passed c.beside (place c 0) h h₁) where
      pub aside_on : OnRing c a h₁
      aside_on =
          let away : rack.at ≢ place c 0 = λ e. rack.rack (sym rack.there ∙ ap h e ∙ o.zero) in
          record {
            rack = rack.rack;
            at = rack.at;
            on = rack.on;
            there = step.others rack.at (on_beside rack.at rack.on) away ∙ rack.there;
          }

      still_vacant : h₁ (place c 1) ≡ 0
      still_vacant =
          let l = three in
          step.others (place c 1) (on_beside (place c 1) (circle_on circle 1 (omega arith)))
          (circle-apart circle 1 0 (omega arith) (omega arith) (omega arith))
          ∙ o.one

      module _ (ring at : ℕ) (part : Part (place c) 0 c.size ring) (table : Table c.positions h₁)
          (stands : StandsAt c.positions a h₁ at) where
        pub aside_bringable : Bringable (Has ring) at (place c 0) h₁
        aside_bringable =
            let l = three in
            record {
              leaves = ring_has rows circle ring part at (rack_at_lem table aside_on at stands.there);
              enters = ring_has rows circle ring part (place c 0) (circle_on circle 0 (omega arith));
              held = λ e. rack.rack (sym stands.there ∙ e);
              vacancy = record {
                at = place c 1;
                there = ring_has rows circle ring part (place c 1) (circle_on circle 1 (omega arith));
                vacant = still_vacant;
              };
            }

        module _ {h₂ : ℕ → ℕ} (brought : Brought (Has ring) at (place c 0) h₁ h₂) where
          pub aside_again : Movable (place c 0) c.beside h₂
          aside_again =
              let l = three in
              record {
                leaves = circle_small rows circle 0 (omega arith);
                enters = small_beside;
                held = λ e. rack.rack (sym (brought.there ∙ stands.there) ∙ e);
                vacant =
                    brought.outside c.beside (λ x. circle_off circle (ring_on rows circle ring part c.beside x))
                    ∙ step.left;
              }

          pub aside-done : {h₃ : ℕ → ℕ} → Passed (place c 0) c.beside h₂ h₃ → Aside c a h h₃
          aside-done m =
              record {
                there = m.entered ∙ brought.there ∙ stands.there;
                outside = λ p out other.
                    let l = three in
                    let away = off_place p 0 (omega arith) out in
                    m.others p away other ∙ brought.outside p (λ x. out (ring_on rows circle ring part p x)) ∙ step.others p other away;
              }

  -- the table k after a was brought aside
  module _ {h k : ℕ → ℕ} {a : ℕ} (o : Open c h) (rack : OnRing c a h) (aside : Aside c a h k) where
    pub aside-rest : RestHeld c k
    aside-rest p l out e =
        by_cases (ℕ_discrete p c.beside)
        (λ q. rack.rack (sym aside.there ∙ ap k (sym q) ∙ e))
        (λ q. held_open circle o p l out (sym (aside.outside p out q) ∙ e))

    pub rack_on : Table c.positions k → {b : ℕ} → a ≢ b → OnRing c b h → OnRing c b k
    rack_on t {b} differ other =
        let most = o.table.most other.at in
        let e = other.there in
        let x = table_rack t b (some other.rack) (omega arith) in
        record {
          rack = other.rack;
          at = x.0;
          on = on_surely c x.0 (λ out. off x.0 out x.1.there);
          there = x.1.there;
        }
      where
        some : b ≢ 0 → 0 < b
        some f = omega arith

        off : (q : ℕ) → (On c q → ⊥) → k q ≡ b → ⊥
        off q out e =
            by_cases (ℕ_discrete q c.beside)
            (λ f. differ (sym aside.there ∙ ap k (sym f) ∙ e))
            (λ f. out (rack_at_lem o.table other q (sym (aside.outside q out f) ∙ e)))

  -- b is brought to place 1, and two places are cleared
  module _ {h : ℕ → ℕ} {b : ℕ} (ring at : ℕ) (rack : OnRing c b h) (part : Part (place c) 0 c.size ring)
      (stands : StandsAt c.positions b h at) where
    pub next_bringable : Table c.positions h → RestHeld c h → Bringable (Has ring) at (place c 1) h
    next_bringable table filled =
        let l = three in
        record {
          leaves = ring_has rows circle ring part at (rack_at_lem table rack at stands.there);
          enters = ring_has rows circle ring part (place c 1) (circle_on circle 1 (omega arith));
          held = λ e. rack.rack (sym stands.there ∙ e);
          vacancy = ring-vacancy rows circle ring part table filled;
        }

    module _ {h₁ : ℕ → ℕ} (brought : Brought (Has ring) at (place c 1) h h₁) where
      pub next_held : h₁ (place c 1) ≢ 0
      next_held e = rack.rack (sym (brought.there ∙ stands.there) ∙ e)

      pub next_outside : (p : ℕ) → (On c p → ⊥) → h₁ p ≡ h p
      next_outside p out = brought.outside p (λ x. out (ring_on rows circle ring part p x))

      module _ (free : ℕ) (has : (p : ℕ) → Has free p ↔ (Has ring p × (p ≢ place c 1))) {h₂ : ℕ → ℕ}
          (cleared : Cleared (Has free) (place c 0) h₁ h₂) where
        pub next_held_still : h₂ (place c 1) ≢ 0
        next_held_still e = next_held (sym (cleared.outside (place c 1) (λ x. ((has (place c 1)).0 x).1 refl)) ∙ e)

        pub next_outside_still : (p : ℕ) → (On c p → ⊥) → h₂ p ≡ h p
        next_outside_still p out = cleared.outside p (λ x. out (ring_on rows circle ring part p ((has p).0 x).0)) ∙ next_outside p out

        pub next-done : (more : ℕ) → ((p : ℕ) → Has more p ↔ (Has free p × (p ≢ place c 0))) → {h₃ : ℕ → ℕ}
            → Cleared (Has more) (place c (c.size - 1)) h₂ h₃ → Ready c b h h₃
        next-done more Has_more last =
            record {
              zero = last.outside (place c 0) (λ x. ((Has_more (place c 0)).0 x).1 refl) ∙ cleared.vacant;
              last = last.vacant;
              there =
                  last.outside (place c 1) (λ x. ((has (place c 1)).0 ((Has_more (place c 1)).0 x).0).1 refl)
                  ∙ cleared.outside (place c 1) (λ x. ((has (place c 1)).0 x).1 refl)
                  ∙ brought.there ∙ stands.there;
              outside = λ p out.
                  last.outside p (λ x. out (ring_on rows circle ring part p ((has p).0 ((Has_more p).0 x).0).0))
                  ∙ next_outside_still p out;
            }

  -- a is aside and b at place 1: h is the table before both, k after a, and i after both
  module _ {h k i : ℕ → ℕ} {a b : ℕ} (first : OnRing c a h) (second : OnRing c b k) (aside : Aside c a h k) (ready : Ready c b k i) where
    pub exchange-aside : i c.beside ≡ a
    exchange-aside = ready.outside c.beside (circle_off circle) ∙ aside.there

    pub exchange_swappable : Swappable (place c 0) (place c 1) (place c (c.size - 1)) c.beside i
    exchange_swappable =
        let l = three in
        record {
          passes = circle_small rows circle 0 (omega arith);
          first = circle_small rows circle 1 (omega arith);
          waits = circle_small rows circle (c.size - 1) (omega arith);
          second = small_beside;
          a_v = circle-apart circle 1 (c.size - 1) (omega arith) (omega arith) (omega arith);
          a_b = circle.off 1 (omega arith);
          v_b = circle.off (c.size - 1) (omega arith);
          x_v = circle-apart circle 0 (c.size - 1) (omega arith) (omega arith) (omega arith);
          free = ready.zero;
          vacant = ready.last;
          held = λ e. second.rack (sym ready.there ∙ e);
          held_too = λ e. first.rack (sym exchange-aside ∙ e);
        }

module _ (a b : ℕ) where
  pub swapped-first : swapped a b a ≡ b
  swapped-first = ap (λ (t : Bool). cond t b (cond (eqb a b) a a)) (eq-eqb a a refl)

  pub swapped-second : swapped a b b ≡ a
  swapped-second =
      by_cases (ℕ_discrete b a)
      (λ e. ap (swapped a b) e ∙ swapped-first ∙ e)
      (λ e. ap (λ (t : Bool). cond t b (cond (eqb b b) a b)) (ne_eqb b a e) ∙ ap (λ (t : Bool). cond t a b) (eq-eqb b b refl))

  pub swapped_other : (r : ℕ) → r ≢ a → r ≢ b → swapped a b r ≡ r
  swapped_other r x y = ap (λ (t : Bool). cond t b (cond (eqb r b) a r)) (ne_eqb r a x) ∙ ap (λ (t : Bool). cond t a r) (ne_eqb r b y)

  module _ (first : a ≢ 0) (second : b ≢ 0) where
    pub swapped-zero : swapped a b 0 ≡ 0
    swapped-zero = swapped_other 0 (λ e. first (sym e)) (λ e. second (sym e))

    pub swapped-some : (r : ℕ) → r ≢ 0 → swapped a b r ≢ 0
    swapped-some r some e =
        by_cases (ℕ_discrete r a)
        (λ q. second (sym (ap (swapped a b) q ∙ swapped-first) ∙ e))
        (λ x. by_cases (ℕ_discrete r b)
        (λ q. first (sym (ap (swapped a b) q ∙ swapped-second) ∙ e))
        (λ y. some (sym (swapped_other r x y) ∙ e)))

    pub exchange-swapped : {n : ℕ} {h k : ℕ → ℕ} → Table n h → {p q : ℕ} → h p ≡ b → h q ≡ a → Swapped p q h k → Exchanged a b h k
    exchange-swapped {h = h} {k = k} t {p} {q} hp hq s x =
        by_cases (ℕ_discrete x p)
        (λ e. ap k e ∙ s.first ∙ hq ∙ sym (ap (λ (z : ℕ). swapped a b (h z)) e ∙ ap (swapped a b) hp ∙ swapped-second))
        (λ xp. by_cases (ℕ_discrete x q)
        (λ e. ap k e ∙ s.second ∙ hp ∙ sym (ap (λ (z : ℕ). swapped a b (h z)) e ∙ ap (swapped a b) hq ∙ swapped-first))
        (λ xq. s.others x xp xq ∙ sym (swapped_other (h x)
        (λ e. xq (t.one x q (λ z. first (sym e ∙ z)) (e ∙ sym hq)))
        (λ e. xp (t.one x p (λ z. second (sym e ∙ z)) (e ∙ sym hp))))))

    pub exchange_undoing : {g : List ℕ} {d e : ℕ} (s : State) {s' s'' : State} {l t l' t' l'' t'' : List ℕ} → Symmetric (Edge g)
        → (one : Journey g d (relogged s 0) l t s' l' t') → Journey g e s' l' t' s'' l'' t''
        → Exchanged a b (row s'.racks) (row s''.racks)
        → Undoing g s''.racks l'' 0 s'.logged (onto one.trip.moves []) (λ x. swapped a b (row s.racks x))
    exchange_undoing s {s' = s'} sy one two same =
        let trail = two.trail 0 (onto one.trip.moves []) (omega arith) (one.trail 0 [] (omega arith) start) in
        record {
          trail = trail_below two.trip.moves (onto one.trip.moves []) s'.logged two.logged trail;
          back = back_from same
              (back_renamed sy (swapped a b) swapped-zero swapped-some one.trip.went
              (done (same_refl (λ x. swapped a b (row s.racks x)))));
        }

pub exchange_fits : (r : ℕ) {s : State} {l t : List ℕ} (d : ℕ) → r < 64 → d ≤ aside_moves r + next_moves r + 6
    → Room s l t (exchange_moves r) → Fits (relogged s 0) l t d
unfolding exchange_moves
exchange_fits r d small few room =
    let a : r - 1 ≤ 62 = omega arith in
    let square = mul-le-mul a a in
    fits_anew d (omega arith) (omega arith) room

pub exchange_most : (r : ℕ) → 3 ≤ r → exchange_moves r ≤ 4 * (r * r)
unfolding exchange_moves
exchange_most r three =
    let less : r ≡ r - 1 + 1 = omega arith in
    let one : r * r ≡ r * (r - 1) + r * 1 = ap (λ (x : ℕ). r * x) less ∙ mul-add r (r - 1) 1 in
    let brought = mul-le-mul_right (r - 1) (let l : r - 1 ≤ r = omega arith in l) in
    omega arith

-- The state s₂ after the moves that bring the two racks where they are swapped, and s₃ after the swap, for a state s with no moves logged.
pub record Swapping (g : List ℕ) (r a b : ℕ) (s : State) (l t : List ℕ) (s₂ s₃ : State) (l₃ t₃ : List ℕ) : Type 0 where
  pub trip : Trip g (aside_moves r + next_moves r + 6) s t s₃ t₃
  pub log : length l₃ ≡ length l
  pub few : s₂.logged ≤ aside_moves r + next_moves r
  pub past : List (ℕ × ℕ)
  pub undoing : Undoing g s₃.racks l₃ 0 s₂.logged past (λ x. swapped a b (row s.racks x))

module _ {g : List ℕ} (r : ℕ) {a b : ℕ} {s s₂ s₃ : State} {l t l₃ t₃ : List ℕ} (made : Swapping g r a b s l t s₂ s₃ l₃ t₃) where
  pub exchange-entries : r < 64 → Entries 0 s₂.logged
  exchange-entries small =
      let c : r - 1 ≤ 62 = omega arith in
      let square = mul-le-mul c c in
      let few = made.few in
      record { ordered = omega arith; within = omega arith }

  pub exchange_space : Room s l t (exchange_moves r) → Space s₃ t₃ (s₂.logged - 0)
  unfolding exchange_moves
  exchange_space room =
      let few = made.few in
      let space : Space s t (exchange_moves r) = record { racks = room.racks; few_racks = room.few_racks; room = room.room } in
      space_less (s₂.logged - 0) (omega arith) (space_then space made.trip)

  pub exchange_trip : {s₄ : State} {t₄ : List ℕ} → Trip g (s₂.logged - 0) s₃ t₃ s₄ t₄ → Trip g (exchange_moves r) s t s₄ t₄
  unfolding exchange_moves
  exchange_trip back = let few = made.few in trip_more (exchange_moves r) (omega arith) (trip_append made.trip back)

pub exchange-made : {g : List ℕ} {c : Circle} {a b : ℕ} (s : State) {s₁ s₂ s₃ : State} {l t l₁ t₁ l₂ t₂ l₃ t₃ : List ℕ}
    → Rows c.positions g → BaseRing (Edge g) c → Open c (row s.racks) → TwoOnRing c a b (row s.racks)
    → Journey g (aside_moves c.size) (relogged s 0) l t s₁ l₁ t₁ → Aside c a (row s.racks) (row s₁.racks)
    → Journey g (next_moves c.size) s₁ l₁ t₁ s₂ l₂ t₂ → Ready c b (row s₁.racks) (row s₂.racks)
    → JourneyOn (Joined (place c 0) (place c 1) (place c (c.size - 1)) c.beside) 6 s₂ l₂ t₂ s₃ l₃ t₃
    → Swapped (place c 1) c.beside (row s₂.racks) (row s₃.racks)
    → Swapping g c.size a b s l t s₂ s₃ l₃ t₃
exchange-made {g} {c} {a} {b} s rows circle o pair m aside n ready u swap =
    let three = circle.three in
    let one = journey_append m n in
    let two = u g (record {
      symmetric = rows.symmetric;
      first = circle.joined 0 (omega arith);
      waits = rows.symmetric _ _ circle.closed;
      second = circle.beside;
    }) in
    let before = table_went rows.inside m.trip.went o.table in
    let on = rack_on rows circle o pair.first aside before pair.differ pair.second in
    let there = exchange-aside rows circle pair.first on aside ready in
    let table = table_went rows.inside one.trip.went o.table in
    let same = exchange-swapped a b pair.first.rack pair.second.rack table ready.there there swap in
    let few = one.trip.few in
    let logged = one.logged in
    record {
      trip = trip_anew (trip_append one.trip two.trip);
      log = two.log ∙ one.log;
      few = omega arith;
      past = _;
      undoing = exchange_undoing a b pair.first.rack pair.second.rack s rows.symmetric one two same;
    }
