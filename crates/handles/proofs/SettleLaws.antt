-- Laws of a handle settled, and of all handles settled, the last first.
--
--     times-next, times_less   one time more, and one of those to come
--     Settling                 the state of `settle_handle`: k racks are stacked, with the trip so far, and room for those to come
--     settling_begin, settling_room, settling_next    its first state, room for one rack, the next state
--     settling_trip, settling_end    all racks of the handle are stacked: it is settled
--     settled_already          nothing to do
--     starts_from, starts-within, starts_few    where a handle's places begin; that there are few handles
--     down_up                  one back and one on
--     lane_of                  a handle of a breakdown
--     Handling                 the state of `settle_handles`: the handles from i on are settled
--     handling_begin           its first state
--     handling_placing, handling_room    what settling the handle before needs
--     handling_next            the next state
--     handling_trip, handling_end    all handles are settled
-- Assumes nothing.
use Prim.Native.Nat.{ℕ, zero, suc, ◌+◌, ◌-◌, ◌*◌, ◌≤◌, ◌<◌}
use mathlib.Core.Path.{◌≡◌, refl, sym, ap, subst, ◌∙◌}
use mathlib.Core.List.{List}
use mathlib.Core.Logic.{by_cases}
use native.Mathlib.Decide.{dec_lt}
use native.Mathlib.Nat.{mul-suc, mul_comm, add-mul}
use native.Mathlib.Numerals.{add-one}
use native.Mathlib.Omega.{arith}
use lib.ListN.{length}
use Rattle.graph.specs.Walk.{Symmetric}
use Rattle.breakdown.specs.Breakdown.{Breakdown}
use Rattle.breakdown.proofs.StageLaws.{stage_within, stage_robust}
use Rattle.graph.specs.Rows.{row}
use Rattle.moving.specs.declared.State.{State}
use Rattle.moving.specs.Journey.{Room, Trip}
use Rattle.moving.proofs.JourneyLaws.{trip_none, trip_more, trip_append, room_then, room_less}
use Rattle.moving.specs.Table.{Table}
use Rattle.lane.specs.Lane.{HandleOn, Agreed, Filled, Placing}
use Rattle.lane.specs.Moves.{place_moves}

pub down_up : (i : ℕ) → 0 < i → i - 1 + 1 ≡ i
down_up i some = omega arith

pub times-next : (k c : ℕ) → (k + 1) * c ≡ k * c + c
times-next k c =
    let e : (k + 1) * c ≡ c * suc k = mul_comm (k + 1) c ∙ ap (λ (x : ℕ). c * x) (add-one k) in
    let f = mul-suc c k in
    let g = mul_comm c k in
    omega arith

pub times_less : (a k c : ℕ) → k < a → (a - k) * c ≡ c + (a - (k + 1)) * c
times_less a k c l =
    let same : a - k ≡ a - (k + 1) + 1 = omega arith in
    let e : (a - k) * c ≡ (a - (k + 1) + 1) * c = ap (λ (x : ℕ). x * c) same in
    let f = times-next (a - (k + 1)) c in
    omega arith

pub record Settling (g : List ℕ) (n : ℕ) (at T : ℕ → ℕ) (s e k : ℕ) (x₀ : State) (l₀ t₀ : List ℕ) (x : State) (l t : List ℕ) : Type 0 where
  pub placing : Placing n at T s e k (row x.racks)
  pub trip : Trip g (k * place_moves n) x₀ t₀ x t
  pub log : length l ≡ length l₀
  pub room : Room x l t ((e - s - k) * place_moves n)

pub settling_begin : {g : List ℕ} {n : ℕ} {at T : ℕ → ℕ} {s e : ℕ} {x : State} {l t : List ℕ} → Placing n at T s e 0 (row x.racks)
    → Room x l t ((e - s) * place_moves n) → Settling g n at T s e 0 x l t x l t
settling_begin {n = n} {s = s} {e = e} {x = x} {l = l} {t = t} placing room =
    record {
      placing = placing;
      trip = trip_more (0 * place_moves n) (omega arith) (trip_none x t);
      log = refl;
      room = subst (λ (c : ℕ). Room x l t (c * place_moves n)) (let none : e - s ≡ e - s - 0 = omega arith in none) room;
    }

module _ {g : List ℕ} {n : ℕ} {at T : ℕ → ℕ} {s e k : ℕ} {x₀ x : State} {l₀ t₀ l t : List ℕ}
    (z : Settling g n at T s e k x₀ l₀ t₀ x l t) where
  pub settling_room : k < e - s → Room x l t (place_moves n)
  settling_room more = let y = times_less (e - s) k (place_moves n) more in room_less (place_moves n) (omega arith) z.room

  pub settling_next : {x' : State} {l' t' : List ℕ} → k < e - s → Trip g (place_moves n) x t x' t'
      → Placing n at T s e (k + 1) (row x'.racks) → length l' ≡ length l → Settling g n at T s e (k + 1) x₀ l₀ t₀ x' l' t'
  settling_next more trip placing log =
      let y = times_less (e - s) k (place_moves n) more in
      let w = times-next k (place_moves n) in
      record {
        placing = placing;
        trip = trip_more ((k + 1) * place_moves n) (omega arith) (trip_append z.trip trip);
        log = log ∙ z.log;
        room = room_then (room_less (place_moves n + (e - s - (k + 1)) * place_moves n) (omega arith) z.room) log trip;
      }

  all : e - s ≤ k → k ≡ e - s
  all done = let few = z.placing.few in omega arith

  pub settling_trip : e - s ≤ k → Trip g ((e - s) * place_moves n) x₀ t₀ x t
  settling_trip done = subst (λ (c : ℕ). Trip g (c * place_moves n) x₀ t₀ x t) (all done) z.trip

  pub settling_end : s ≤ e → e - s ≤ k → Agreed at T (row x.racks) s n
  settling_end some done j le l =
      let same = all done in
      by_cases (dec_lt j e)
      (λ y.
      let here : s + (j - s) ≡ j = omega arith in
      let there : e - k + (j - s) ≡ j = omega arith in
      ap (λ (i : ℕ). row x.racks (at i)) (sym here) ∙ z.placing.stacked (j - s) (omega arith) ∙ ap (λ (i : ℕ). T (at i)) there)
      (λ y. z.placing.behind j (omega arith) l)

pub settled_already : {n : ℕ} {at T : ℕ → ℕ} {s e : ℕ} {h : ℕ → ℕ} → Placing n at T s e 0 h → Agreed at T h s e → Agreed at T h s n
settled_already {e = e} placing same j le l = by_cases (dec_lt j e) (λ x. same j le x) (λ x. placing.behind j (omega arith) l)

module _ {n : ℕ} {E : ℕ → ℕ → Type 0} {ring c : ℕ} {at start left right : ℕ → ℕ} (sy : Symmetric E)
    (b : Breakdown n E ring c at start left right) where
  pub starts_from : (i : ℕ) → i ≤ c → ring + i ≤ start i
  starts_from zero l = let e = b.begins in omega arith
  starts_from (suc i) l =
      let before = starts_from i (omega arith) in
      let inner = (b.handle i l).inner in
      let up : start (suc i) ≡ start (i + 1) = ap start (sym (add-one i)) in
      omega arith

  pub starts-within : (i : ℕ) → i ≤ c → start i ≤ n
  starts-within i l = stage_within sy b (c - i) i (omega arith)

  pub starts_few : n ≤ 64 → (i : ℕ) → i ≤ c → i < 64
  starts_few small i l = let from = starts_from i l in let within = starts-within i l in let three = b.ring_three in omega arith

  pub lane_of : (i : ℕ) → i < c → HandleOn n E at (start i) (start (i + 1)) (left i) (right i)
  lane_of i l =
      record {
        robust = stage_robust sy b i (omega arith);
        handle = b.handle i l;
        three = (let three = b.ring_three in let from = starts_from i (omega arith) in omega arith);
        within = starts-within (i + 1) (omega arith);
        below = b.below;
        distinct = b.distinct;
        every = b.every;
      }

-- Handles from i on are settled.
pub record Handling (g : List ℕ) (n : ℕ) (at start T : ℕ → ℕ) (i : ℕ) (x₀ : State) (t₀ : List ℕ) (x : State) (l t : List ℕ) : Type 0 where
  pub table : Table n (row x.racks)
  pub settled : Agreed at T (row x.racks) (start i) n
  pub trip : Trip g ((n - start i) * place_moves n) x₀ t₀ x t
  pub room : Room x l t ((start i - start 0) * place_moves n)

pub handling_begin : {g : List ℕ} {n ring : ℕ} {at start T : ℕ → ℕ} {i : ℕ} {x : State} {l t : List ℕ} → start 0 ≡ ring → start i ≡ n
    → Table n (row x.racks) → Room x l t ((n - ring) * place_moves n) → Handling g n at start T i x t x l t
handling_begin {n = n} {ring} {start = start} {i = i} {x = x} {l = l} {t = t} begins stops table room =
    let same : n - ring ≡ start i - start 0 = omega arith in
    record {
      table = table;
      settled = λ j le l. absurd (none j le l);
      trip = trip_more ((n - start i) * place_moves n) (omega arith) (trip_none x t);
      room = subst (λ (c : ℕ). Room x l t (c * place_moves n)) same room;
    }
  where
    none : (j : ℕ) → start i ≤ j → j < n → ⊥
    none j le l = omega arith

module _ {g : List ℕ} {n ring : ℕ} {at start T : ℕ → ℕ} {x₀ x : State} {t₀ l t : List ℕ} (begins : start 0 ≡ ring) (i k : ℕ)
    (next : i + 1 ≡ k) (from : ring ≤ start i) (inner : start i < start (i + 1)) (within : start (i + 1) ≤ n)
    (z : Handling g n at start T k x₀ t₀ x l t) where
  up : start (i + 1) ≡ start k
  up = ap start next

  pub handling_placing : Table n T → Filled at T ring n → Placing n at T (start i) (start (i + 1)) 0 (row x.racks)
  handling_placing goal filled =
      let same = up in
      record {
        table = z.table;
        goal = goal;
        filled = λ j le l. filled j (omega arith) l;
        few = omega arith;
        stacked = λ j l. absurd (none j l);
        behind = λ j le l. z.settled j (omega arith) l;
      }
    where
      none : (j : ℕ) → j < 0 → ⊥
      none j l = omega arith

  -- the places to come are those of this handle and those before it
  split : (start k - start 0) * place_moves n ≡ (start (i + 1) - start i) * place_moves n + (start i - start 0) * place_moves n
  split =
      let same = up in
      let e : start k - start 0 ≡ start (i + 1) - start i + (start i - start 0) = omega arith in
      ap (λ (c : ℕ). c * place_moves n) e ∙ add-mul (start (i + 1) - start i) (start i - start 0) (place_moves n)

  joined : (n - start i) * place_moves n ≡ (n - start k) * place_moves n + (start (i + 1) - start i) * place_moves n
  joined =
      let same = up in
      let e : n - start i ≡ n - start k + (start (i + 1) - start i) = omega arith in
      ap (λ (c : ℕ). c * place_moves n) e ∙ add-mul (n - start k) (start (i + 1) - start i) (place_moves n)

  pub handling_room : Room x l t ((start (i + 1) - start i) * place_moves n)
  handling_room = let y = split in room_less ((start (i + 1) - start i) * place_moves n) (omega arith) z.room

  pub handling_next : {x' : State} {l' t' : List ℕ} → Trip g ((start (i + 1) - start i) * place_moves n) x t x' t'
      → Table n (row x'.racks) → Agreed at T (row x'.racks) (start i) n → length l' ≡ length l
      → Handling g n at start T i x₀ t₀ x' l' t'
  handling_next trip table settled log =
      let y = split in
      let w = joined in
      record {
        table = table;
        settled = settled;
        trip = trip_more ((n - start i) * place_moves n) (omega arith) (trip_append z.trip trip);
        room =
            room_then
            (room_less ((start (i + 1) - start i) * place_moves n + (start i - start 0) * place_moves n) (omega arith) z.room) log trip;
      }

-- all of them are
module _ {g : List ℕ} {n ring : ℕ} {at start T : ℕ → ℕ} {i : ℕ} {x₀ x : State} {t₀ l t : List ℕ} (begins : start 0 ≡ ring) (none : i ≡ 0)
    (z : Handling g n at start T i x₀ t₀ x l t) where
  first : start i ≡ ring
  first = ap start none ∙ begins

  pub handling_trip : Trip g ((n - ring) * place_moves n) x₀ t₀ x t
  handling_trip = subst (λ (c : ℕ). Trip g ((n - c) * place_moves n) x₀ t₀ x t) first z.trip

  pub handling_end : Agreed at T (row x.racks) ring n
  handling_end j le l = let same = first in z.settled j (omega arith) l
