-- From what crates/shunting answers for an order's rows and racks to what is shown of a position cleared.
--
--     way_along, distance-along, no_way_along    ways, the distance and none, by the same edges and with the same racks
--     told_is, told_none    what is told of a distance, and where no vacancy has a way
--     number_short, number_refused, number-told  the answer: in too short a buffer, of a refused order, and else
--     bytes-written         a row copied to the front of a buffer is written there
--     table_is              a table that says where the racks stand is the one with the racks put down
--     Decoded, decoded, rows_right, room_right    an accepted order as it is decoded, and what clearing asks for
--     off_floor             no vacancy has a way to a position that is not on the floor
--     number_none, number_is    the answer where there is no way, and where there is one
--     told_no_way, told-moves, shown    what comes of a clearing: the answer, and the buffer
-- Assumes nothing.
use Prim.Native.Nat.{ℕ, suc, ◌+◌, ◌-◌, ◌≤◌, ◌<◌}
use mathlib.Core.Path.{◌≡◌, refl, sym, ap, subst, ◌∙◌}
use mathlib.Core.List.{List, [], ◌∷◌, ◌++◌}
use mathlib.Core.Logic.{inl, inr, by_cases}
use native.Mathlib.Decide.{dec_lt}
use native.Mathlib.Omega.{arith}
use borrow.Author.Tests.{lt-ltb, le-ltb}
use Rattle.std.proofs.Common.{Some, None}
use Rattle.std.proofs.lemmas.Option.{none-some, same_Some}
use lib.Dec.{T}
use lib.ListN.{length, get_or, drop, replicate, length-append, length-drop, length-replicate, get_or-append, get_or-eq_default}
use lib.Seq.{get_or-append-add, get_or-drop, ext_get_or}
use Rattle.answers.specs.Answer.{accepted, refused}
use Rattle.field.specs.Writing.{written}
use Rattle.field.proofs.WritingLaws.{written_front}
use Rattle.order.specs.Floor.{joined}
use Rattle.order.specs.Order.{floor_of, starts_of, order_answer}
use Rattle.order.specs.Tables.{racks_at, decoded_rows, decoded_starts}
use Rattle.motion.specs.Arrangement.{Arrangement, rack_at}
use Rattle.motion.specs.Sound.{Sound}
use Rattle.motion.proofs.Lawful.{replay_moves_ended}
use Rattle.tables.specs.Accepted.{OrderGave}
use Rattle.tables.proofs.AcceptedLaws.{order_gave}
use Rattle.tables.proofs.TablesLaws.{Holds}
use Rattle.tables.proofs.TableLaws.{placed-holds}
use Rattle.graph.proofs.WalkLaws.{walk_last}
use Rattle.graph.specs.Rows.{row, Edge, Rows}
use Rattle.floor.specs.FloorAnswer.{Joins}
use Rattle.floor.proofs.FloorRows.{walk_along, filled_rows, filled_joins, joins_filled, filled_starts}
use Rattle.moving.specs.Went.{Same}
use Rattle.moving.specs.declared.State.{State}
use Rattle.shunting.specs.declared.Clearing.{Clearing}
use Rattle.shunting.specs.Distance.{Unheld, WayFrom, NoWay, Distance}
use Rattle.shunting.proofs.DistanceLaws.{at_most_inside, way_same, distance-same, distance_one, distance_way, distance_few}
use Rattle.shunting.specs.Cleared.{RoomToClear, Outcome}
use Rattle.shunting.specs.Cleared.Outcome.{by_nearest, no_way}
use Rattle.shunting.proofs.ClearLaws.{clear_room}
use Rattle.solving.proofs.Held.{HeldBy, held_racks, went_led}
use Rattle.method.proofs.OrderTables.{held_by}
use Rattle.inspection.specs.Inspection.{up_to, Copied}
use Rattle.shunting.proofs.NearestDecision.{Found}
use Rattle.inspection.specs.Clear.{Loose, away, told, clear_number, ClearLeft}
use Rattle.inspection.specs.Clear.ClearLeft.{cleared}
use Rattle.inspection.proofs.CopyLaws.{up_to_used}

module _ {E D : ℕ → ℕ → Type 0} (more : (a b : ℕ) → E a b → D a b) {h k : ℕ → ℕ} (same : Same h k) {P : ℕ → Type 0} {p : ℕ} where
  pub way_along : {d : ℕ} → WayFrom E P h p d → WayFrom D P k p d
  way_along w = record { from = w.from; vacant = sym (same w.from) ∙ w.vacant; walk = walk_along more w.walk }

module _ {E D : ℕ → ℕ → Type 0} (to : (a b : ℕ) → E a b → D a b) (from : (a b : ℕ) → D a b → E a b) {h k : ℕ → ℕ} (same : Same h k)
    {P : ℕ → Type 0} {p : ℕ} where
  pub distance-along : {d : ℕ} → Distance E P h p d → Distance D P k p d
  distance-along x =
      record { way = way_along to same x.way; shortest = λ e w. x.shortest e (way_along from (λ q. sym (same q)) w) }

  pub no_way_along : NoWay E P h p → NoWay D P k p
  no_way_along none d w = none d (way_along from (λ q. sym (same q)) w)

module _ {E : ℕ → ℕ → Type 0} {P : ℕ → Type 0} {h : ℕ → ℕ} {p : ℕ} where
  pub told_is : {d : ℕ} (x : Found E P h p) → Distance E P h p d → told x ≡ suc d
  told_is (inl x) y = ap suc (distance_one x.1 y)
  told_is (inr none) y = absurd (distance_way y none)

  pub told_none : (x : Found E P h p) → NoWay E P h p → told x ≡ 0
  told_none (inl x) none = absurd (distance_way x.1 none)
  told_none (inr f) none = refl

module _ (o : List ℕ) (held p b : ℕ) where
  pub number_short : b < 64 → clear_number o held p b ≡ 0
  unfolding clear_number
  number_short l = rw (lt-ltb b 64 l) refl

  module _ (long : 64 ≤ b) where
    pub number_refused : (number place : ℕ) → order_answer o ≡ refused number place → clear_number o held p b ≡ 0
    unfolding clear_number
    number_refused number place e = rw (le-ltb b 64 long, e) refl

    pub number-told : (counts : List ℕ) → order_answer o ≡ accepted counts → clear_number o held p b ≡ told (away o held p)
    unfolding clear_number
    number-told counts e = rw (le-ltb b 64 long, e) refl

pub bytes-written : (h old new : List ℕ) → length h ≡ 64 → 64 ≤ length old → Copied (up_to 64 (row h)) 0 64 old new → new ≡ written old 0 h
bytes-written h old new size long c = all ∙ sym (written_front old h)
  where
    all : new ≡ h ++ drop (length h) old
    all =
        ext_get_or 0 new (h ++ drop (length h) old)
        (let a = length-append h (drop (length h) old) in let b = length-drop (length h) old in let e = c.same_length in omega arith)
        (λ i l. by_cases (dec_lt i 64) (front i) (λ k. back i (omega arith)))
      where
        front : (i : ℕ) → i < 64 → get_or new i 0 ≡ get_or (h ++ drop (length h) old) i 0
        front i l =
            let z : i ≡ 0 + i = omega arith in
            ap (λ (j : ℕ). get_or new j 0) z ∙ c.inside i l ∙ sym (up_to_used (row h) 64 i l)
            ∙ sym (get_or-append h (drop (length h) old) 0 i (omega arith))

        back : (i : ℕ) → 64 ≤ i → get_or new i 0 ≡ get_or (h ++ drop (length h) old) i 0
        back i l =
            let z : length h + (i - length h) ≡ i = omega arith in
            c.after i l
            ∙ ap (λ (j : ℕ). get_or old j 0) (sym z)
            ∙ sym (get_or-drop (length h) old (i - length h) 0)
            ∙ sym (get_or-append-add h (drop (length h) old) (i - length h) 0)
            ∙ ap (λ (j : ℕ). get_or (h ++ drop (length h) old) j 0) z

-- a table of 64 entries that says where the racks of an arrangement stand
module _ (A : Arrangement) (k : List ℕ) (size : length k ≡ 64) (h : HeldBy A (row k)) where
  sound : Sound 64 A
  sound =
      record {
        below = below;
        apart = λ i j li lj e. (let x = h.racks i li in let y = h.racks j lj in let z = ap (row k) e in omega arith);
      }
    where
      below : (i : ℕ) → i < length A → get_or A i 0 < 64
      below i l =
          by_cases (dec_lt (get_or A i 0) 64)
          (λ y. y)
          (λ y. absurd (clash (sym (h.racks i l) ∙ get_or-eq_default k 0 {n = get_or A i 0} (omega arith))))
        where
          clash : suc i ≡ 0 → ⊥
          clash z = omega arith

  pub table_is : k ≡ racks_at A
  unfolding racks_at
  table_is =
      let all = placed-holds 64 A (omega arith) sound in
      ext_get_or 0 k (racks_at A) (size ∙ sym all.size) (λ i l. held_racks h i ∙ sym (held_racks (held_by all) i))

-- An accepted order, and the rows and the racks that it is decoded to.
pub record Decoded (o : List ℕ) (n e m : ℕ) (g h : List ℕ) : Type 0 where
  pub answer : accepted (n ∷ e ∷ m ∷ []) ≡ order_answer o
  pub filled : g ≡ decoded_rows o
  pub placed : h ≡ decoded_starts o

pub decoded : {o : List ℕ} {n e m : ℕ} {g h : List ℕ} → accepted (n ∷ e ∷ m ∷ []) ≡ order_answer o → g ≡ decoded_rows o
    → h ≡ decoded_starts o → Decoded o n e m g h
decoded answer filled placed = record { answer = answer; filled = filled; placed = placed }

module _ {o : List ℕ} {n e m : ℕ} {g h : List ℕ} (decoded : Decoded o n e m g h) where
  gave : OrderGave o n e m
  gave = order_gave o n e m decoded.answer

  pub rows_right : Rows n g
  rows_right = filled_rows gave decoded.filled

  holds : Holds (starts_of o) h
  holds = filled_starts gave decoded.placed

  racks : (q : ℕ) → row h q ≡ rack_at (starts_of o) q
  racks = held_racks (held_by holds)

  to_floor : (x y : ℕ) → Edge g x y → Joins (floor_of o) x y
  to_floor = filled_joins gave decoded.filled

  from_floor : (x y : ℕ) → Joins (floor_of o) x y → Edge g x y
  from_floor = joins_filled gave decoded.filled

  abbrev begun : State
  begun = record { racks = h; real = m; written = 0; logged = 0 }

  pub room_right : (held p : ℕ) → RoomToClear (Edge g) (Unheld n held) p begun (replicate 8256 0) (replicate 144 0)
  room_right held p =
      let small = rows_right.small in
      let t = length-replicate {A = ℕ} 144 0 in
      clear_room (at_most_inside n (λ q x. x.inside))
      (record {
        racks = holds.size;
        log = length-replicate {A = ℕ} 8256 0;
        logged = omega arith;
        few_racks = gave.few_racks;
        room = omega arith;
      })

  module _ (held p : ℕ) where
    to_loose : (q : ℕ) → Unheld n held q → Loose o held q
    to_loose q x = record { inside = subst (λ (k : ℕ). q < k) gave.positions_are x.inside; loose = x.loose }

    from_loose : (q : ℕ) → Loose o held q → Unheld n held q
    from_loose q x = record { inside = subst (λ (k : ℕ). q < k) (sym gave.positions_are) x.inside; loose = x.loose }

    pub off_floor : 64 ≤ p → NoWay (Edge g) (Unheld n held) (row h) p
    off_floor high d w = let small = rows_right.small in let inside = (walk_last w.walk).inside in omega arith

    module _ (b : ℕ) (long : 64 ≤ b) where
      pub number_none : NoWay (Edge g) (Unheld n held) (row h) p → clear_number o held p b ≡ 0
      number_none none =
          number-told o held p b long (n ∷ e ∷ m ∷ []) (sym decoded.answer)
          ∙ told_none (away o held p) (no_way_along to_floor from_floor racks (λ d w. none d (way_same from_loose w)))

      pub number_is : {d : ℕ} → Distance (Edge g) (Unheld n held) (row h) p d → clear_number o held p b ≡ suc d
      number_is x =
          number-told o held p b long (n ∷ e ∷ m ∷ []) (sym decoded.answer)
          ∙ told_is (away o held p) (distance-along to_floor from_floor racks (distance-same to_loose from_loose x))

    joins : (x y : ℕ) → Edge g x y → (x < (floor_of o).positions) × (y < (floor_of o).positions) × T (joined (floor_of o) x y)
    joins x y l =
        let below = rows_right.inside x y l in
        let same = gave.positions_are in
        (omega (arith, below.0), omega (arith, below.1), to_floor x y l)

    -- what the answer tells, and the racks copied into the buffer
    module _ (old : List ℕ) (long : 64 ≤ length old) {l t : List ℕ} where
      pub told_no_way : {r : Clearing} {l' t' : List ℕ} → Outcome (Unheld n held) g p begun l t r l' t' → r.moves ≡ None
          → clear_number o held p (length old) ≡ 0
      told_no_way (by_nearest x) e = absurd (none-some _ (sym e))
      told_no_way (no_way none) e = number_none (length old) long none

      pub told-moves : {r : Clearing} {l' t' : List ℕ} {d : ℕ} → Outcome (Unheld n held) g p begun l t r l' t' → r.moves ≡ Some d
          → (clear_number o held p (length old) ≡ d + 1) × (d < 64)
      told-moves (by_nearest x) e =
          let told = same_Some _ _ e in
          let number = number_is (length old) long x.distance in
          let few = distance_few (at_most_inside n (λ q y. y.inside)) x.distance in
          let small = rows_right.small in
          (omega arith, omega arith)
      told-moves (no_way none) e = absurd (none-some _ e)

      pub shown : {r : Clearing} {l' t' new : List ℕ} {d : ℕ} → Outcome (Unheld n held) g p begun l t r l' t' → r.moves ≡ Some d
          → Copied (up_to 64 (row r.state.racks)) 0 64 old new → ClearLeft o held p old new
      shown (no_way none) e copied = absurd (none-some _ e)
      shown {new = new} (by_nearest {s' = s'} x) e copied =
          let trip = x.journey.journey.trip in
          let led = went_led (floor_of o) joins (starts_of o) (held_by holds) trip.went in
          let size = trip.racks ∙ holds.size in
          let after = held_racks led.holds in
          let table = table_is led.to s'.racks size led.holds in
          let is = bytes-written s'.racks old new size long copied ∙ ap (written old 0) table in
          subst (ClearLeft o held p old) (sym is)
          (cleared trip.moves led.to
          (number_is (length old) long x.distance ∙ ap suc (sym x.exactly))
          ((replay_moves_ended (floor_of o) (starts_of o) trip.moves led.to).1 led.leads)
          (sym (after p) ∙ x.cleared.vacant)
          (λ q fast. sym (after q) ∙ x.cleared.outside q (λ y. y.loose fast) ∙ racks q))
