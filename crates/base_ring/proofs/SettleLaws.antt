-- Laws of settling the ring.
--
--     open_rest, open_first, open_done      places 0 and 1 are cleared: before, after the first, and after both
--     place_held, place-goal                a place from 2 on holds a rack; the rack that the goal has there stands on the ring
--     place_same, place-done                it holds the goal's rack; the two were exchanged
--     ringing_all           all places are settled: the table is the goal
--     rounds_left, rounds_made, rounds_all  the rounds to come, the rounds made and one more, all of them
--     Settling              the state of the loop of `settle_ring`
--     settling_begin, settling_next, settling_end    where the loop begins, goes on and ends
--     settling_room         there is room for a round more
-- Assumes nothing.
use Prim.Native.Nat.{ℕ, suc, ◌+◌, ◌-◌, ◌*◌, ◌≤◌, ◌<◌}
use mathlib.Core.Path.{◌≡◌, refl, sym, ap, subst, ◌∙◌}
use mathlib.Core.List.{List}
use mathlib.Core.Logic.{◌↔◌, ◌≢◌, by_cases, ⊎_elim}
use native.Mathlib.Decide.{ℕ_discrete}
use native.Mathlib.Nat.{mul-suc, mul_comm, mul-le-mul_right}
use native.Mathlib.Omega.{arith}
use lib.ListN.{length}
use Rattle.sets.specs.Sets.{Has}
use Rattle.graph.specs.Rows.{row, Edge, Rows}
use Rattle.breakdown.specs.Part.{Part}
use Rattle.moving.specs.declared.State.{State}
use Rattle.moving.specs.Went.{Same}
use Rattle.moving.specs.Journey.{Room, Trip}
use Rattle.moving.proofs.JourneyLaws.{trip_none, trip_more, trip_append, room_less, room_then}
use Rattle.shunting.specs.Cleared.{Cleared}
use Rattle.moving.specs.Table.{Table}
use Rattle.moving.proofs.TableLaws.{table_rack}
use Rattle.base_ring.specs.declared.Circle.{Circle}
use Rattle.base_ring.specs.Circle.{place, On, BaseRing, OnRing, RestHeld, Open, swapped, Exchanged, RestSettled, Ringing}
use Rattle.base_ring.proofs.RingLaws.{among_or_not, on_surely, circle_on, circle-apart, table_two, held_open, held_same, ring_on}
use Rattle.base_ring.proofs.ExchangeLaws.{swapped-second, swapped_other, swapped-zero}

none : {i j : ℕ} → i ≤ j → j < i → ⊥
none a b = omega arith

module _ {g : List ℕ} {c : Circle} (rows : Rows c.positions g) (circle : BaseRing (Edge g) c) {T h : ℕ → ℕ}
    (rest : RestSettled c T h) where
  pub open_rest : RestHeld c h
  open_rest = held_same c rest.outside (held_open circle rest.goal)

  module _ (ring : ℕ) (part : Part (place c) 0 c.size ring) {h₁ : ℕ → ℕ} (cleared : Cleared (Has ring) (place c 0) h h₁) where
    same : (p : ℕ) → (On c p → ⊥) → h₁ p ≡ T p
    same p out = cleared.outside p (λ x. out (ring_on rows circle ring part p x)) ∙ rest.outside p out

    pub open_first : RestHeld c h₁
    open_first = held_same c same (held_open circle rest.goal)

    pub open_done : (free : ℕ) → ((p : ℕ) → Has free p ↔ (Has ring p × (p ≢ place c 0))) → {h₂ : ℕ → ℕ}
        → Cleared (Has free) (place c 1) h₁ h₂ → Table c.positions h₂ → Ringing c T 2 h₂
    open_done free has next table =
        record {
          opened = record {
            table = table;
            zero = next.outside (place c 0) (λ x. ((has (place c 0)).0 x).1 refl) ∙ cleared.vacant;
            one = next.vacant;
          };
          goal = rest.goal;
          settled = λ j low high. absurd (none low high);
          outside = λ p out. next.outside p (λ x. out (ring_on rows circle ring part p ((has p).0 x).0)) ∙ same p out;
        }

module _ {E : ℕ → ℕ → Type 0} {c : Circle} (circle : BaseRing E c) {T h : ℕ → ℕ} {i : ℕ} (state : Ringing c T i h) (two : 2 ≤ i)
    (less : i < c.size) where
  place-some : {k : ℕ → ℕ} → Open c k → k (place c i) ≢ 0
  place-some o e =
      ⊎_elim (circle-apart circle i 0 less (omega arith) (omega arith)) (circle-apart circle i 1 less (omega arith) (omega arith))
      (table_two o.table (place c 0) (place c 1) (place c i) (circle.below 0 (omega arith)) (circle.below 1 (omega arith))
      (circle-apart circle 0 1 (omega arith) (omega arith) (omega arith)) o.zero o.one (circle.below i less) e)

  pub place_held : OnRing c (h (place c i)) h
  place_held = record { rack = place-some state.opened; at = place c i; on = circle_on circle i less; there = refl }

  -- off the ring the table is the goal, and the goal has that rack at one position
  pub place-goal : OnRing c (T (place c i)) h
  place-goal =
      let held = place-some state.goal in
      let most = state.goal.table.most (place c i) in
      let x = table_rack state.opened.table (T (place c i)) (positive held) most in
      record { rack = held; at = x.0; on = on_surely c x.0 (λ out. off x.0 out x.1.there); there = x.1.there }
    where
      positive : {r : ℕ} → r ≢ 0 → 0 < r
      positive f = omega arith

      off : (q : ℕ) → (On c q → ⊥) → h q ≡ T (place c i) → ⊥
      off q out e =
          out (subst (On c) (state.goal.table.one (place c i) q (place-some state.goal) (sym e ∙ state.outside q out))
          (circle_on circle i less))

  module _ {k : ℕ → ℕ} (o : Open c k) (here : k (place c i) ≡ T (place c i))
      (settled : (j : ℕ) → 2 ≤ j → j < i → k (place c j) ≡ T (place c j)) (outside : (p : ℕ) → (On c p → ⊥) → k p ≡ T p) where
    place-next : Ringing c T (i + 1) k
    place-next =
        record {
          opened = o;
          goal = state.goal;
          settled = λ j low high. by_cases (ℕ_discrete j i)
              (λ e. subst (λ (x : ℕ). k (place c x) ≡ T (place c x)) (sym e) here)
              (λ e. settled j low (omega arith));
          outside = outside;
        }

  pub place_same : T (place c i) ≡ h (place c i) → Ringing c T (i + 1) h
  place_same e = place-next state.opened (sym e) state.settled state.outside

  module _ {k : ℕ → ℕ} (table : Table c.positions k) (exchanged : Exchanged (T (place c i)) (h (place c i)) h k) where
    vacant : (p : ℕ) → h p ≡ 0 → k p ≡ 0
    vacant p e =
        exchanged p ∙ ap (swapped (T (place c i)) (h (place c i))) e
        ∙ swapped-zero (T (place c i)) (h (place c i)) place-goal.rack place_held.rack

    -- what the goal has at another position is neither of the two racks
    kept : (p : ℕ) → p ≢ place c i → h p ≡ T p → k p ≡ T p
    kept p other e =
        exchanged p
        ∙ swapped_other (T (place c i)) (h (place c i)) (h p)
        (λ q. other (sym (state.goal.table.one (place c i) p place-goal.rack (sym q ∙ e))))
        (λ q. other (sym (state.opened.table.one (place c i) p place_held.rack (sym q))))
        ∙ e

    pub place-done : Ringing c T (i + 1) k
    place-done =
        place-next
        (record { table = table; zero = vacant (place c 0) state.opened.zero; one = vacant (place c 1) state.opened.one })
        (exchanged (place c i) ∙ swapped-second (T (place c i)) (h (place c i)))
        (λ j low high. kept (place c j) (circle-apart circle j i (omega arith) less (omega arith)) (state.settled j low high))
        (λ p out. kept p (λ e. out (subst (On c) (sym e) (circle_on circle i less))) (state.outside p out))

pub ringing_all : {c : Circle} {T h : ℕ → ℕ} {i : ℕ} → c.size ≤ i → Ringing c T i h → Same h T
ringing_all {c} {T} {h} {i} done state p =
    ⊎_elim
    (λ on. subst (λ (x : ℕ). h x ≡ T x) on.is (at on.place on.before))
    (λ out. state.outside p out)
    (among_or_not (place c) c.size p)
  where
    at : (j : ℕ) → j < c.size → h (place c j) ≡ T (place c j)
    at j l =
        by_cases (ℕ_discrete j 0)
        (λ e. subst (λ (x : ℕ). h (place c x) ≡ T (place c x)) (sym e) (state.opened.zero ∙ sym state.goal.zero))
        (λ e. by_cases (ℕ_discrete j 1)
        (λ f. subst (λ (x : ℕ). h (place c x) ≡ T (place c x)) (sym f) (state.opened.one ∙ sym state.goal.one))
        (λ f. state.settled j (omega arith) (omega arith)))

times : (k m : ℕ) → suc k * m ≡ m + k * m
times k m =
    let a = mul_comm (suc k) m in
    let b = mul-suc m k in
    let d = mul_comm k m in
    omega arith

pub rounds_left : (size i m : ℕ) → i < size → (size - i) * m ≡ m + (size - (i + 1)) * m
rounds_left size i m l =
    let e : size - i ≡ suc (size - (i + 1)) = omega arith in
    ap (λ (k : ℕ). k * m) e ∙ times (size - (i + 1)) m

pub rounds_made : (i m : ℕ) → 2 ≤ i → (i + 1 - 2) * m ≡ (i - 2) * m + m
rounds_made i m l =
    let e : i + 1 - 2 ≡ suc (i - 2) = omega arith in
    let a : (i + 1 - 2) * m ≡ suc (i - 2) * m = ap (λ (k : ℕ). k * m) e in
    let b = times (i - 2) m in
    omega arith

pub rounds_all : (k size m : ℕ) → k ≤ size → k * m ≤ size * m
rounds_all k size m l = mul-le-mul_right m l

-- s and t are what the loop began with, s', l' and t' what it has now; a round is m moves at most.
pub record Settling (g : List ℕ) (c : Circle) (T : ℕ → ℕ) (m : ℕ) (s : State) (t : List ℕ) (s' : State) (l' t' : List ℕ)
    (i : ℕ) : Type 0 where
  pub low : 2 ≤ i
  pub high : i ≤ c.size
  pub ringing : Ringing c T i (row s'.racks)
  pub trip : Trip g ((i - 2) * m) s t s' t'
  pub room : Room s' l' t' ((c.size - i) * m)

module _ {g : List ℕ} {c : Circle} {T : ℕ → ℕ} (m : ℕ) where
  pub settling_begin : {s : State} {l t : List ℕ} → 2 ≤ c.size → Ringing c T 2 (row s.racks) → Room s l t ((c.size - 2) * m)
      → Settling g c T m s t s l t 2
  settling_begin {s} {l} {t} two state room =
      record {
        low = omega arith;
        high = two;
        ringing = state;
        trip = trip_more ((2 - 2) * m) (omega arith) (trip_none s t);
        room = room;
      }

  module _ {s s' : State} {t l' t' : List ℕ} {i : ℕ} (x : Settling g c T m s t s' l' t' i) where
    pub settling_room : i < c.size → Room s' l' t' m
    settling_room less = let e = rounds_left c.size i m less in room_less m (omega arith) x.room

    pub settling_next : {s'' : State} {l'' t'' : List ℕ} → i < c.size → Trip g m s' t' s'' t'' → Ringing c T (i + 1) (row s''.racks)
        → length l'' ≡ length l' → Settling g c T m s t s'' l'' t'' (i + 1)
    settling_next less trip state log =
        let low = x.low in
        let e = rounds_left c.size i m less in
        let f = rounds_made i m low in
        record {
          low = omega arith;
          high = omega arith;
          ringing = state;
          trip = trip_more ((i + 1 - 2) * m) (omega arith) (trip_append x.trip trip);
          room = room_then (room_less (m + (c.size - (i + 1)) * m) (omega arith) x.room) log trip;
        }

    pub settling_end : c.size ≤ i → Trip g ((c.size - 2) * m) s t s' t' × Same (row s'.racks) T
    settling_end done =
        let high = x.high in
        (trip_more ((c.size - 2) * m) (rounds_all (i - 2) (c.size - 2) m (omega arith)) x.trip, ringing_all done x.ringing)
