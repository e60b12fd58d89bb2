-- The answers of `make`: the order reader's refusal passed up, 27, 28, and the dearest carry with its plan.
--
--     carry_refused             a refusal of the order reader is the answer, and the buffer stays
--     some_position             a floor has a position
--     carry-apart               27
--     carry_short               28
--     Found, way_nearest        the dearest pair, and the search's answer for it
--     moves_below, places_below, moves_room, part_head, part_back    the moves and the head have room
--     carry-made                the answer and the buffer, once moves and head are written
-- Assumes nothing.
use Prim.Native.Nat.{ℕ, ◌+◌, ◌-◌, ◌*◌, ◌/◌, ◌^◌, ◌≤◌, ◌<◌}
use mathlib.Core.Path.{◌≡◌, refl, sym, ap, subst, ◌∙◌}
use mathlib.Core.Bool.{true, false}
use mathlib.Core.List.{List, [], ◌∷◌, ◌++◌}
use mathlib.Core.Logic.{◌↔◌}
use native.Mathlib.Omega.{arith}
use borrow.Author.Tests.{lt-ltb, le-ltb}
use lib.Dec.{ltb}
use lib.ListN.{length, take, drop, get_or, length-append, length-drop}
use lib.Seq.{length-take-le}
use Rattle.std.specs.Prelude.{Result, IsErrAnd}
use Rattle.answers.specs.Answer.{Answer, accepted, refused, refused_by, refuse, pass_up, holds}
use Rattle.answers.specs.declared.Refusal.{Refusal}
use Rattle.answers.proofs.AnswerLaws.{pass_up_accepted, holds-yes, holds_no, handed_up}
use Rattle.recording.specs.Head.{head_bytes}
use Rattle.recording.proofs.HeadLaws.{length-head_bytes, record_written}
use Rattle.field.proofs.RecordLaws.{rest_is}
use Rattle.field.specs.Listed.{move_size, all_units}
use Rattle.field.specs.Packing.{pack_positions}
use Rattle.field.proofs.PackingLaws.{length-packed}
use Rattle.field.proofs.ListedLaws.{length-units}
use Rattle.field.specs.Units.{record_length}
use Rattle.field.specs.Writing.{written, left_by}
use Rattle.sets.specs.Sets.{Has}
use Rattle.order.specs.Floor.{Floor}
use Rattle.order.specs.Order.{floor_of, order_answer}
use Rattle.order.specs.Tables.{decoded_rows}
use Rattle.order.proofs.OrderLaws.{formed_head}
use Rattle.motion.specs.Replay.{listed}
use Rattle.tables.specs.Accepted.{OrderGave}
use Rattle.tables.proofs.AcceptedLaws.{gave_accepted}
use Rattle.plan.specs.Plan.{spare_bits, plan_record}
use Rattle.plan.proofs.Listing.{length_listing, listing_fits}
use Rattle.plan.proofs.PlanRecord.{record_parts}
use Rattle.graph.specs.Connected.{Below, Connected}
use Rattle.graph.specs.Rows.{row, Edge}
use Rattle.graph.specs.Nearest.{Nearest}
use Rattle.graph.proofs.NearestLaws.{nearest_same, nearest_targets, nearest_short}
use Rattle.floor.specs.FloorAnswer.{Joins}
use Rattle.floor.proofs.FloorRows.{filled_rows, filled_joins, joins_filled}
use Rattle.carry.specs.Carry.{longest, dearest_start, dearest_goal, dearest_moves, carry_record}
use Rattle.carry.specs.CarryAnswer.{connected?, not_connected, cannot_hold, carry_answer, buffer_after, told, answer_of}
use Rattle.farthest.specs.declared.Carry.{Carry}
use Rattle.farthest.specs.Balls.{Dearest}
use Rattle.carry.specs.Listing.{taken}
use Rattle.carry.proofs.ReachLaws.{dearest_one, dearest_along, whole-along}
use Rattle.carry.proofs.WayLaws.{nearest_size, inside, way_taken}
use Rattle.carry.proofs.OneRack.{way_count}
use Rattle.carry.proofs.Theorems.{is_dearest, dearest_plan}

module _ (o B : List ℕ) where
  abbrev F : Floor
  F = floor_of o

  -- what stands above an accepted order
  tests : ℕ → Answer
  tests b =
      refuse (not_connected F) 27 0
      (refuse (cannot_hold F b) 28 0
      (accepted (dearest_start F ∷ dearest_goal F ∷ longest F ∷ [])))

  answer_is : carry_answer o (length B) ≡ pass_up (order_answer o) (tests (length B))
  unfolding carry_answer tests
  answer_is = refl

  after_refusal : (n q : ℕ) → carry_answer o (length B) ≡ refused n q → B ≡ buffer_after o B
  unfolding buffer_after
  after_refusal n q e = sym (ap (λ (a : Answer). left_by a (carry_record F) B) e)

  -- r is what `?` makes of the order reader's refusal e
  pub carry_refused : (r : Result Carry Refusal) (e : Refusal) → IsErrAnd r (λ x. x ≡ e) → refused_by e.0 e.1 ≡ order_answer o
      → (answer_of r ≡ carry_answer o (length B)) × (B ≡ buffer_after o B)
  carry_refused r e is down =
      let up : carry_answer o (length B) ≡ refused_by e.0 e.1 =
      answer_is ∙ ap (λ (x : Answer). pass_up x (tests (length B))) (sym down) in
      (handed_up told r e is down (tests (length B)) ∙ sym answer_is, after_refusal _ _ up)

  -- above an accepted order, with its rows
  module _ {n e m : ℕ} (gave : OrderGave o n e m) {g : List ℕ} (filled : g ≡ decoded_rows o) where
    over : carry_answer o (length B) ≡ tests (length B)
    over = answer_is ∙ pass_up_accepted (order_answer o) (tests (length B)) (n ∷ e ∷ m ∷ []) (sym (gave_accepted gave))

    pub carry-apart : (Connected n (Edge g) → ⊥) → (refused 27 0 ≡ carry_answer o (length B)) × (B ≡ buffer_after o B)
    unfolding tests not_connected
    carry-apart f =
        let none : holds (connected? F) ≡ false =
        holds_no (connected? F) (λ w. f (rw gave.positions_are (whole-along (joins_filled gave filled) w))) in
        let up : carry_answer o (length B) ≡ refused 27 0 = over ∙ rw none refl in
        (sym up, after_refusal 27 0 up)

    module _ (whole-rows : Connected n (Edge g)) where
      whole : Connected F.positions (Joins F)
      whole = rw gave.positions_are at (whole-along (filled_joins gave filled) whole-rows)

      left : carry_answer o (length B)
          ≡ refuse (ltb (length B) (3 + (18 * (n - 1) + 7) / 8)) 28 0 (accepted (dearest_start F ∷ dearest_goal F ∷ longest F ∷ []))
      unfolding tests not_connected cannot_hold record_length move_size
      left =
          let size : 6 * (3 * (F.positions - 1)) ≡ 18 * (n - 1) = omega (arith, gave.positions_are) in
          over ∙ rw (holds-yes (connected? F) whole, size) refl

      pub carry_short : length B < 3 + (18 * (n - 1) + 7) / 8 → (refused 28 0 ≡ carry_answer o (length B)) × (B ≡ buffer_after o B)
      carry_short h =
          let up : carry_answer o (length B) ≡ refused 28 0 = left ∙ rw (lt-ltb (length B) (3 + (18 * (n - 1) + 7) / 8) h) refl in
          (sym up, after_refusal 28 0 up)

pub some_position : {o : List ℕ} {n e m : ℕ} → OrderGave o n e m → 1 ≤ n
unfolding floor_of
some_position {o} gave =
    omega (arith, (formed_head o gave.right).some_position, gave.positions_are)

-- the floor is connected and there is room: the dearest pair, s and d with k moves, and the way between them that the search found
pub record Found (o B : List ℕ) (n e m : ℕ) (g : List ℕ) (s d k : ℕ) (at : List ℕ) : Type 0 where
  pub gave : OrderGave o n e m
  pub filled : g ≡ decoded_rows o
  pub whole : Connected n (Edge g)
  pub room : 3 + (18 * (n - 1) + 7) / 8 ≤ length B
  pub dear : Dearest n (Edge g) s d k
  pub size : ℕ
  pub way : Nearest (Edge g) (Below n) (λ p. p ≡ d) s size (row at)

pub way_nearest : (n all target d s size : ℕ) (g at : List ℕ) → ((p : ℕ) → Has all p ↔ (p < n)) → ((p : ℕ) → Has target p ↔ (p ≡ d))
    → Nearest (Edge g) (Has all) (Has target) s size (row at) → Nearest (Edge g) (Below n) (λ p. p ≡ d) s size (row at)
way_nearest n all target d s size g at below only found =
    nearest_targets (λ p. p ≡ d) (λ p. (only p).0) (λ p. (only p).1)
    (nearest_same {Q = Below n} (λ p. (below p).0) (λ p. (below p).1) found)

module _ {o B : List ℕ} {n e m : ℕ} {g : List ℕ} {s d k : ℕ} {at : List ℕ} (f : Found o B n e m g s d k at) where
  abbrev gave : OrderGave o n e m
  gave = f.gave

  joined : Connected (floor_of o).positions (Joins (floor_of o))
  joined = whole o B gave f.filled f.whole

  few_positions : n ≤ 64
  few_positions = (filled_rows gave f.filled).small

  to : (x y : ℕ) → Edge g x y → Joins (floor_of o) x y
  to = filled_joins gave f.filled

  from : (x y : ℕ) → Joins (floor_of o) x y → Edge g x y
  from = joins_filled gave f.filled

  near : Dearest (floor_of o).positions (Joins (floor_of o)) s d k
  near = rw gave.positions_are at (dearest_along to from f.dear)

  pairs : (s ≡ dearest_start (floor_of o)) × (d ≡ dearest_goal (floor_of o)) × (k ≡ longest (floor_of o))
  pairs =
      dearest_one near
      (is_dearest (floor_of o) (omega (arith, some_position gave, gave.positions_are)) gave.placed_well.few_positions
      gave.placed_well.edges_right joined)

  way : Nearest (Edge g) (Below (floor_of o).positions) (λ p. p ≡ d) s (k + 1) (row at)
  way =
      rw gave.positions_are at
      (subst (λ (j : ℕ). Nearest (Edge g) (Below n) (λ p. p ≡ d) s j (row at)) (nearest_size f.dear f.way) f.way)

  less : k < n
  less = let short = nearest_short way n (λ p h. omega (arith, h, gave.positions_are)) in omega arith

  pub places_below : (k < 64) × ((i : ℕ) → i ≤ k → get_or at i 0 < 64)
  places_below = (
    omega (arith, less, few_positions),
    λ i h. omega (arith, inside (floor_of o) to from at s d k way i h, gave.positions_are, few_positions),
  )

  pub moves_room : (18 * k + 7) / 8 ≤ length (take (length B - 3) (drop 3 B))
  moves_room = rw (rest_is 3 B, length-drop 3 B) (omega (arith, f.room, less))

  pub part_head : 3 ≤ length B
  part_head = omega (arith, f.room)

  -- the buffer when its part behind the head has come back
  pub part_back : (y : List ℕ) → (3 ≤ length (take 3 B ++ y)) × (k < 2 ^ 22) × (1 < 4)
  part_back y = (
    omega (arith, length-append (take 3 B) y, length-take-le 3 B part_head),
    omega (arith, places_below.0),
    omega arith,
  )

  abbrev moves : List ℕ
  moves = pack_positions (all_units true (taken at 0 k))

  listed_are : taken at 0 k ≡ listed true (dearest_start (floor_of o) ∷ []) (dearest_moves (floor_of o))
  unfolding dearest_moves
  listed_are = way_taken (floor_of o) to from at s d k way ∙ rw (pairs.0, pairs.1, pairs.2) refl

  many : length (taken at 0 k) ≡ k
  unfolding dearest_moves
  many =
      ap length listed_are ∙ length_listing true (dearest_start (floor_of o) ∷ []) (dearest_moves (floor_of o))
      ∙ way_count (floor_of o) (longest (floor_of o)) (dearest_start (floor_of o)) (dearest_goal (floor_of o)) ∙ sym pairs.2

  size_is : length moves ≡ (18 * k + 7) / 8
  unfolding move_size
  size_is =
      let six : 6 * (3 * k) ≡ 18 * k = omega arith in
      length-packed (all_units true (taken at 0 k))
      ∙ ap (λ (q : ℕ). (6 * q + 7) / 8) (length-units true (taken at 0 k) ∙ ap (λ (q : ℕ). 3 * q) many)
      ∙ ap (λ (q : ℕ). (q + 7) / 8) six

  parts : carry_record (floor_of o) ≡ head_bytes k 1 ++ moves
  unfolding carry_record plan_record spare_bits
  parts =
      let w = gave.placed_well in
      let plan = dearest_plan (floor_of o) (omega (arith, some_position gave, gave.positions_are)) w.few_positions w.edges_right
      joined in
      let fits = listing_fits true (floor_of o) w.few_positions (omega arith) plan in
      let all = listed true (dearest_start (floor_of o) ∷ []) (dearest_moves (floor_of o)) in
      let count : length all ≡ k = ap length (sym listed_are) ∙ many in
      record_parts true all (omega (arith, count, places_below.0)) fits
      ∙ rw (count, listed_are) refl

  pub carry-made : {t : List ℕ} → t ≡ written (take (length B - 3) (drop 3 B)) 0 moves → {b : List ℕ}
      → b ≡ written (take 3 B ++ (t ++ drop (length B - 3) (drop 3 B))) 0 (head_bytes k 1)
      → (accepted (s ∷ d ∷ k ∷ []) ≡ carry_answer o (length B)) × (b ≡ buffer_after o B)
  unfolding buffer_after
  carry-made {t} et eb =
      let same : accepted (dearest_start (floor_of o) ∷ dearest_goal (floor_of o) ∷ longest (floor_of o) ∷ []) ≡ accepted (s ∷ d ∷ k ∷ []) =
      rw (← pairs.0, ← pairs.1, ← pairs.2) refl in
      let up : carry_answer o (length B) ≡ accepted (s ∷ d ∷ k ∷ []) =
      left o B gave f.filled f.whole ∙ rw (le-ltb (length B) (3 + (18 * (n - 1) + 7) / 8) f.room) same in
      let fits : 3 + length moves ≤ length B = omega (arith, size_is, less, f.room) in (
        sym up,
        eb ∙ record_written B (head_bytes k 1) moves t (length-head_bytes k 1) fits et ∙ ap (written B 0) (sym parts)
            ∙ sym (ap (λ (x : Answer). left_by x (carry_record (floor_of o)) B) up),
      )
