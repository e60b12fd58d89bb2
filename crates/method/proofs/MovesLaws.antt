-- From an accepted order that can be planned to the moves of its plan.
--
--     start-placed, goal-placed  the tables that the order's starts and goals fill
--     off_ring, on_ring          the number of edges tells which kind of floor it is
--     ring-tables, ring_order_lem    on a ring, what it is decoded to, and the order of its racks
--     room_racks                 off rings, two vacancies at least
--     broken                     off rings the rows of its floor have a breakdown
--     none_needed                where the two tables agree there is nothing to move
--     planned                    what the trip from the one to the other writes is a plan
-- Assumes nothing.
use Prim.Native.Nat.{ℕ, ◌+◌, ◌*◌, ◌≤◌, ◌<◌}
use mathlib.Core.Path.{◌≡◌, refl, sym, ap, subst, ◌∙◌}
use mathlib.Core.List.{List, []}
use mathlib.Core.Logic.{◌≢◌, ⊎_elim}
use native.Mathlib.Omega.{arith}
use lib.ListN.{length}
use Rattle.field.specs.Listed.{moves_of}
use Rattle.field.proofs.ListedLaws.{length-moves_of}
use Rattle.order.specs.Floor.{Floor}
use Rattle.order.specs.Order.{position_count, rack_count, floor_of, starts_of, goals_of}
use Rattle.order.specs.Tables.{decoded_rows, decoded_starts, decoded_goals}
use Rattle.motion.specs.Replay.{ended, replay_moves, replay_from, listed}
use Rattle.motion.specs.Sound.{Sound}
use Rattle.tables.proofs.TablesLaws.{Holds}
use Rattle.tables.specs.Accepted.{OrderGave}
use Rattle.breakdown.specs.Answer.{Answer}
use Rattle.graph.specs.Rows.{row}
use Rattle.moving.specs.declared.State.{State}
use Rattle.moving.specs.Went.{Same}
use Rattle.moving.proofs.WentLaws.{same_refl}
use Rattle.moving.specs.Journey.{Packed, Trip}
use Rattle.moving.proofs.JourneyLaws.{packed-nothing, trip_packed, went_written}
use Rattle.solving.specs.Placed.{Placed, Filled}
use Rattle.solving.proofs.Planned.{trip_planned}
use Rattle.floor.specs.FloorAnswer.{SameRound}
use Rattle.floor.specs.RingTables.{RingTables}
use Rattle.floor.proofs.FloorRows.{filled_is, filled_on_floor}
use Rattle.floor.specs.Plannable.{OffRing, OnRing, Plannable}
use Rattle.floor.proofs.FloorLaws.{on_ring_rows, off_ring_rows}
use Rattle.floor.proofs.Layers.{edges_length}
use Rattle.method.proofs.OrderTables.{held_by, held_placed, held_agree, tables-alike}
use Rattle.method.specs.Moves.{Moves}

module _ {o : List ℕ} {n e m : ℕ} (gave : OrderGave o n e m) where
  pub start-placed : {h : List ℕ} → Holds (starts_of o) h → Placed n m (row h)
  start-placed holds =
      let w = gave.placed_well in
      held_placed holds n m (subst (λ (k : ℕ). Sound k (starts_of o)) (sym gave.positions_are) w.starts_sound)
      (w.starts_length ∙ sym gave.racks_are)

  pub goal-placed : {h : List ℕ} → Holds (goals_of o) h → Placed n m (row h)
  goal-placed holds =
      let w = gave.placed_well in
      held_placed holds n m (subst (λ (k : ℕ). Sound k (goals_of o)) (sym gave.positions_are) w.goals_sound)
      (w.goals_length ∙ sym gave.racks_are)

  module _ (plannable : Plannable o) where
    edges_are : length (floor_of o).edges ≡ e
    edges_are = edges_length o ∙ sym gave.edges_are

    -- a bi-connected floor with n edges is a ring
    pub off_ring : e ≢ n → OffRing o
    off_ring d = ⊎_elim (λ k. k) (λ k. absurd (d (sym edges_are ∙ k.ring.count ∙ sym gave.positions_are))) plannable.kind

    pub on_ring : e ≡ n → OnRing o
    on_ring s =
        ⊎_elim (λ k. absurd (k.no_ring (record { bi_connected = plannable.bi_connected; count = edges_are ∙ s ∙ gave.positions_are })))
        (λ k. k)
        plannable.kind

    pub ring-tables : e ≡ n → {g h k : List ℕ} → g ≡ decoded_rows o → h ≡ decoded_starts o → k ≡ decoded_goals o → RingTables o n m g h k
    ring-tables s rows starts goals =
        let ring = on_ring s in
        let v = ring.vacancy in
        let a = gave.positions_are ∙ positions_is in
        let b = gave.racks_are in
        record {
          edges = e;
          gave = gave;
          rings = rw (gave.positions_are, filled_is gave rows) (on_ring_rows o plannable.right ring);
          less = omega arith;
          rows_are = rows;
          starts_are = starts;
          goals_are = goals;
        }
      where
        positions_is : (floor_of o).positions ≡ position_count o
        positions_is = unfold floor_of in refl

    pub ring_order_lem : (s : e ≡ n) → SameRound (floor_of o) m (starts_of o) (goals_of o)
    ring_order_lem s =
        subst (λ (k : ℕ). SameRound (floor_of o) k (starts_of o) (goals_of o)) (sym gave.racks_are) (on_ring s).order

    pub room_racks : e ≢ n → m + 2 ≤ n
    room_racks d = let v = (off_ring d).vacancies in let a = gave.positions_are ∙ positions_is in let b = gave.racks_are in omega arith
      where
        positions_is : (floor_of o).positions ≡ position_count o
        positions_is = unfold floor_of in refl

    module _ {g : List ℕ} (filled : g ≡ decoded_rows o) where
      pub broken : e ≢ n → {r c : ℕ} {a s l t : List ℕ} → Answer n g r c a s l t → 0 < r
      broken d answer =
          answer.exactly.1
          (rw (gave.positions_are, filled_is gave filled) (off_ring_rows o plannable (off_ring d)))

      -- the racks `start`, with those of the order real and nothing written yet
      abbrev begun : List ℕ → State
      begun start = record { racks = start; real = m; written = 0; logged = 0 }

      pub planned : {h k : List ℕ} (start goal t : List ℕ) {t' : List ℕ} {s : State} → Holds (starts_of o) h → Holds (goals_of o) k
          → (((p : ℕ) → p < 64 → row h p ≡ row k p) → ⊥)
          → Filled m (row h) (row start) → Filled m (row k) (row goal) → 18 * (n * (n * n)) ≤ length t
          → {c : ℕ} → c ≤ 8 * (n * (n * n)) → Trip g c (begun start) t s t' → Same (row s.racks) (row goal)
          → Moves o n t t' s.written
      planned {h} {k} start goal t {t'} a b differ fa fb room most trip ends =
          let well = gave.placed_well in
          let made =
          trip_planned (floor_of o) (filled_on_floor gave filled) n (begun start) (starts_of o) (goals_of o) (row h) (row k) (row start)
          (row goal)
          (well.starts_length ∙ sym well.goals_length) (held_by a) (held_by b) (start-placed a) (goal-placed b) fa fb trip
          (same_refl (row start)) ends in
          let long = length-moves_of trip.written in
          let x = went_written trip.went in
          let y = trip.few in
          record {
            moves = moves_of trip.written;
            count = (let e = trip.counted in omega arith);
            solves = record {
              few = omega arith;
              replayed = made.replayed;
              still = λ e. absurd (differ (same_tables e));
            };
            packed =
                subst (λ (l : List (ℕ × ℕ × ℕ)). Packed t l t') made.racks (trip_packed trip t [] refl (omega arith) (packed-nothing t));
          }
        where
          same_tables : starts_of o ≡ goals_of o → (p : ℕ) → p < 64 → row h p ≡ row k p
          same_tables e p l = held_agree (subst (λ (A : List ℕ). Holds A h) e a) b p

  pub none_needed : {h k : List ℕ} (t : List ℕ) → Holds (starts_of o) h → Holds (goals_of o) k → ((p : ℕ) → p < 64 → row h p ≡ row k p)
      → Moves o n t t 0
  unfolding listed
  none_needed t a b same =
      let well = gave.placed_well in
      let alike =
      tables-alike (floor_of o).positions (rack_count o) well.starts_sound a b well.starts_length well.goals_length same in
      record {
        moves = [];
        count = refl;
        solves = record { few = omega arith; replayed = nothing (floor_of o) (starts_of o) ∙ ap ended alike; still = λ e. refl };
        packed = packed-nothing t;
      }
    where
      nothing : (F : Floor) (A : List ℕ) → replay_moves F A [] ≡ ended A
      nothing F A = unfold replay_moves replay_from in refl
