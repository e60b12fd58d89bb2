-- What the functions on a lent step have of the order and the timetable.
--
--     order_head_lem          a well-formed order has a head
--     order_gives         a well-formed order's counts, and room for its edges and racks
--     matrix_is           the matrix that is filled is the floor's
--     moves_unknown       a step that names an unknown position is not legal
--     moves-judged        else the tables decide
--     part_is, part_sized the part that the step reader gives back is the step, as long as its count says
--     lent_readable       a lent step can be read
-- Assumes nothing.
use Prim.Native.Nat.{ℕ, ◌-◌, ◌≤◌}
use mathlib.Core.Path.{◌≡◌, refl, sym, ap, ◌∙◌, subst}
use mathlib.Core.Bool.{Bool, true, false}
use mathlib.Core.List.{List}
use native.Mathlib.Omega.{arith}
use borrow.Author.Tests.{ne_eqb, le-ltb}
use lib.ListN.{length, get_or, take, drop, replicate}
use Rattle.field.specs.Bits.{pairs}
use Rattle.order.specs.Floor.{Floor}
use Rattle.order.specs.Order.{position_count, edge_count, rack_count, floor_of, counts, WellFormed, CountsOf}
use Rattle.order.specs.Tables.{marked}
use Rattle.order.proofs.TailLaws.{tail_edges}
use Rattle.motion.specs.Step.{every}
use Rattle.tables.specs.Accepted.{OrderGave}
use Rattle.tables.proofs.AcceptedLaws.{order_gave}
use Rattle.chains.specs.StepOn.{legal_step_on, ran_on}
use Rattle.timetable.specs.Timetable.{step_length, step_count, step_part, step_moves, offset, step_answer}
use Rattle.timetable.specs.Reading.{part_given}
use Rattle.timetable.proofs.StepLaws.{length-part_at, head_part_at, length-moves}
use Rattle.timetable.proofs.ReadingLaws.{step_room, step_part_is}
use Rattle.stepping.specs.Judging.{step_numbered}
use Rattle.stepping.specs.Judging.{knows, legal_on, ran_here, Lent, Readable}
use Rattle.stepping.proofs.Steps.{lent_leads, lent_few}

pub order_gives : (o : List ℕ) → WellFormed o → (n e m : ℕ) → CountsOf o n e m → OrderGave o n e m
unfolding counts
order_gives o w n e m c = order_gave o n e m (rw (c.positions_are, c.edges_are, c.racks_are) (sym w))

pub order_head_lem : (o : List ℕ) → WellFormed o → 3 ≤ length o
unfolding counts
order_head_lem o w = (order_gave o (position_count o) (edge_count o) (rack_count o) (sym w)).head_there

pub matrix_is : (o : List ℕ) (n e m : ℕ) → OrderGave o n e m → (g : List ℕ)
    → g ≡ marked (replicate 4096 0) (pairs (take (length o - 3) (drop 3 o)) 0 e) → g ≡ marked (replicate 4096 0) (floor_of o).edges
matrix_is o n e m gave g is = is ∙ ap (marked (replicate 4096 0)) (tail_edges o e m gave.edges_are gave.racks_are)

module _ (F : Floor) (n : ℕ) (h : List ℕ) (ms : List (ℕ × ℕ)) where
  pub moves_unknown : every (knows n) ms ≡ false → (false ≡ legal_on F n h ms) × (h ≡ ran_here F n h ms)
  unfolding legal_on ran_here
  moves_unknown e = (rw e refl, rw e refl)

  pub moves-judged : every (knows n) ms ≡ true → (g : List ℕ) → g ≡ marked (replicate 4096 0) F.edges → (r : Bool) (h' : List ℕ)
      → r ≡ legal_step_on g h ms → h' ≡ ran_on g h ms → (r ≡ legal_on F n h ms) × (h' ≡ ran_here F n h ms)
  unfolding legal_on ran_here ran_on
  moves-judged e g is r h' judged made = (judged ∙ rw (e, is) refl, made ∙ rw (e, is) refl)

module _ (t : List ℕ) (i : ℕ) (r : Readable t i) where
  part_given_lem : part_given t i ≡ step_part t i
  unfolding part_given step_answer
  part_given_lem =
      let low = r.low in
      let high = r.high in
      rw (r.packed.length_right, r.packed.padding_clear, ne_eqb i 0 (λ e. omega arith), le-ltb (step_count t) i high) refl

  module _ (p : List ℕ) (is : p ≡ part_given t i) where
    pub part_sized : length p ≡ step_length (get_or p 0 0)
    part_sized =
        let at = offset t i in
        let whole = step_part_is t r.packed.length_right i r.low r.high in
        let room = step_room t r.packed.length_right i r.low r.high in
        let same = is ∙ part_given_lem ∙ whole in
        ap length same ∙ length-part_at t at room ∙ ap step_length (sym (head_part_at t at) ∙ ap (λ (x : List ℕ). get_or x 0 0) (sym same))

    pub part-moves : step_moves p ≡ step_numbered t i
    unfolding step_numbered
    part-moves = ap step_moves (is ∙ part_given_lem)

    pub part_few : get_or p 0 0 ≤ 64
    part_few =
        subst (λ (k : ℕ). k ≤ 64) (length-moves p) (subst (λ (x : List ℕ). length (step_moves x) ≤ 64) (sym (is ∙ part_given_lem)) r.few)

pub lent_readable : (o t : List ℕ) (i : ℕ) → Lent o t i → Readable t i
unfolding step_numbered
lent_readable o t i lent =
    record { packed = (lent_leads o t i lent).packed_right; low = lent.low; high = lent.high; few = lent_few o t i lent }
