-- The floor judge's layers: its answer from the order reader's acceptance and its own tests.
--
--     order_refused, order_handed    a refusal of the order reader is the answer, and hands on no counts
--     RingFloor o, Order o    the floor of o is a ring; the racks have one order round it
--     crowded           20 off rings
--     ring_full, ring_other, ring-plain    on a ring 20, 24, and acceptance
--     counts_are, handed    the counts that an acceptance hands on
--     refused_too       a refusal hands on no counts
--     rows-counted, rings, ring-tables    the rows that the order's edges fill are those of its floor
--     apart, many_sided, plain    off rings 21, 26, and acceptance, from what the search of the rows says
-- Assumes nothing.
use Prim.Native.Nat.{ℕ, ◌+◌, ◌≤◌, ◌<◌}
use mathlib.Core.Path.{◌≡◌, refl, sym, ap, ap₂, ◌∙◌}
use mathlib.Core.Bool.{Bool, true, false, false≢true}
use mathlib.Core.List.{List, [], ◌∷◌}
use mathlib.Core.Logic.{◌↔◌}
use native.Mathlib.Omega.{arith}
use borrow.Author.Tests.{lt-ltb, le-ltb}
use lib.ListN.{length}
use lib.Dec.{ltb}
use Rattle.std.specs.Prelude.{Result, IsErrAnd}
use Rattle.answers.specs.Answer.{Answer, accepted, refused, refused_by, pass_up}
use Rattle.answers.specs.declared.Refusal.{Refusal}
use Rattle.field.proofs.RecordLaws.{length_pairs}
use Rattle.order.specs.Order.{position_count, edge_count, rack_count, floor_of, starts_of, goals_of, counts, order_answer}
use Rattle.tables.specs.Accepted.{OrderGave}
use Rattle.tables.proofs.AcceptedLaws.{gave_accepted}
use Rattle.graph.specs.Connected.{BiConnected, Ring}
use Rattle.graph.specs.EdgeCount.{edge_count as edges_in, FourSided as FourInRows}
use Rattle.graph.specs.Rows.{Edge}
use Rattle.floor.specs.FloorAnswer.{Joins, SameRound, bi_connected?, vacancies_owed, floor_answer}
use Rattle.order.specs.Tables.{rows_of, decoded_rows, decoded_starts, decoded_goals}
use Rattle.order.specs.declared.Counts.{Counts}
use Rattle.order.specs.Verdict.{told}
use Rattle.floor.specs.RingTables.{RingTables}
use Rattle.floor.specs.Verdict.{answer_of, handed_on}
use Rattle.floor.specs.Sides.{FourSided, four_sided?}
use Rattle.floor.proofs.FloorRows.{filled_is, filled_bi_connected}
use Rattle.answers.proofs.AnswerLaws.{holds-yes, holds_no, handed_up}
use Rattle.floor.proofs.FloorLaws.{ordered_off, ordered_on, disordered_on, floor_refusals, floor_over, owed_on, owed_off}
use Rattle.floor.proofs.EdgesCounted.{edges_counted, ring-rows}
use Rattle.floor.proofs.SidesLaws.{sides_rows, ring_sides}

pub edges_length : (o : List ℕ) → length (floor_of o).edges ≡ edge_count o
unfolding floor_of
edges_length o = length_pairs o 24 (edge_count o)

positions_are : (o : List ℕ) → (floor_of o).positions ≡ position_count o
unfolding floor_of
positions_are o = refl

-- r is what `?` makes of the order reader's refusal e
module _ (o : List ℕ) (r : Result Counts Refusal) (e : Refusal) (is : IsErrAnd r (λ x. x ≡ e))
    (down : refused_by e.0 e.1 ≡ order_answer o) where
  pub order_refused : answer_of r ≡ floor_answer o
  unfolding floor_answer
  order_refused = handed_up (λ _. []) r e is down (floor_refusals o)

  refused_here : refused_by e.0 e.1 ≡ floor_answer o
  unfolding floor_answer
  refused_here = ap (λ (b : Answer). pass_up b (floor_refusals o)) down

  pub order_handed : handed_on r ≡ pass_up (floor_answer o) (accepted (counts o))
  order_handed = handed_up told r e is refused_here (accepted (counts o))

-- a refusal hands on no counts
pub refused_too : (o : List ℕ) (number place : ℕ) → refused number place ≡ floor_answer o
    → refused number place ≡ pass_up (floor_answer o) (accepted (counts o))
refused_too o number place down = ap (λ (b : Answer). pass_up b (accepted (counts o))) down

abbrev pub RingFloor : List ℕ → Type 0
RingFloor o = Ring (floor_of o).positions (Joins (floor_of o)) (length (floor_of o).edges)

abbrev pub Order : List ℕ → Type 0
Order o = SameRound (floor_of o) (rack_count o) (starts_of o) (goals_of o)

module _ {o : List ℕ} {n e m : ℕ} (gave : OrderGave o n e m) where
  over : floor_answer o ≡ floor_refusals o
  over = floor_over o (n ∷ e ∷ m ∷ []) (sym (gave_accepted gave))

  counts_are : n ∷ e ∷ m ∷ [] ≡ counts o
  unfolding counts
  counts_are =
      let p = gave.positions_are ∙ positions_are o in
      rw (p, gave.edges_are, gave.racks_are) refl

  pub handed : accepted [] ≡ floor_answer o → accepted (n ∷ e ∷ m ∷ []) ≡ pass_up (floor_answer o) (accepted (counts o))
  handed up = ap accepted counts_are ∙ ap (λ (b : Answer). pass_up b (accepted (counts o))) up

  -- 20 by the counts
  full : (k : ℕ) → vacancies_owed (floor_of o) ≡ k → n < m + k → ltb (position_count o) (rack_count o + vacancies_owed (floor_of o)) ≡ true
  full k owed h =
      let p = gave.positions_are ∙ positions_are o in
      let r = gave.racks_are in
      lt-ltb (position_count o) (rack_count o + vacancies_owed (floor_of o)) (omega arith)

  vacant : (k : ℕ) → vacancies_owed (floor_of o) ≡ k → m + k ≤ n → ltb (position_count o)
      (rack_count o + vacancies_owed (floor_of o)) ≡ false
  vacant k owed h =
      let p = gave.positions_are ∙ positions_are o in
      let r = gave.racks_are in
      le-ltb (position_count o) (rack_count o + vacancies_owed (floor_of o)) (omega arith)

  pub crowded : (RingFloor o → ⊥) → n < m + 2 → refused 20 0 ≡ floor_answer o
  crowded off h = sym (over ∙ rw (full 2 (owed_off (floor_of o) off) h) refl)

  pub ring_full : RingFloor o → n ≤ m → refused 20 0 ≡ floor_answer o
  ring_full ring h = sym (over ∙ rw (full 1 (owed_on (floor_of o) ring) (omega arith)) refl)

  pub ring_other : RingFloor o → m < n → (Order o → ⊥) → refused 24 0 ≡ floor_answer o
  ring_other ring h other =
      sym
      (over
      ∙ rw (
        vacant 1 (owed_on (floor_of o) ring) (omega arith),
        holds-yes (bi_connected? (floor_of o)) ring.bi_connected,
        disordered_on (floor_of o) (rack_count o) (starts_of o) (goals_of o) ring other,
      ) refl)

  pub ring-plain : RingFloor o → m < n → Order o → accepted [] ≡ floor_answer o
  ring-plain ring h same =
      let w = gave.placed_well in
      sym
      (over
      ∙ rw (
        vacant 1 (owed_on (floor_of o) ring) (omega arith),
        holds-yes (bi_connected? (floor_of o)) ring.bi_connected,
        ordered_on (floor_of o) (rack_count o) (starts_of o) (goals_of o) ring same,
        holds-yes (four_sided? (floor_of o)) (ring_sides (floor_of o) w.edges_below w.few_positions w.edges_right ring),
      ) refl)

  module _ {g : List ℕ} (filled : g ≡ decoded_rows o) where
    rows_are : g ≡ rows_of (floor_of o)
    rows_are = filled_is gave filled

    pub rows-counted : e ≡ edges_in g n
    rows-counted =
        let w = gave.placed_well in
        let c = edges_counted (floor_of o) w.edges_below w.edges_right in
        gave.edges_are ∙ sym (edges_length o) ∙ sym c ∙ ap₂ (λ (x : List ℕ) (k : ℕ). edges_in x k) (sym rows_are) (sym
        gave.positions_are)

    pub rings : Ring n (Edge g) (edges_in g n) ↔ RingFloor o
    rings =
        let w = gave.placed_well in
        rw (gave.positions_are, rows_are) (ring-rows (floor_of o) w.edges_below w.edges_right)

    pub ring-tables : Ring n (Edge g) (edges_in g n) → m < n → {h k : List ℕ} → h ≡ decoded_starts o → k ≡ decoded_goals o
        → RingTables o n m g h k
    ring-tables ring less starts goals =
        record { edges = e; gave = gave; rings = ring; less = less; rows_are = filled; starts_are = starts; goals_are = goals }

    module _ (off : RingFloor o → ⊥) (room : m + 2 ≤ n) (r : Bool) (t : (r ≡ true) ↔ BiConnected n (Edge g)) where
      pub apart : r ≡ false → refused 21 0 ≡ floor_answer o
      apart f =
          sym
          (over
          ∙ rw (
            vacant 2 (owed_off (floor_of o) off) room,
            holds_no (bi_connected? (floor_of o)) (λ b. false≢true (sym f ∙ t.1 ((filled_bi_connected gave filled).1 b))),
          ) refl)

      module _ (y : r ≡ true) (q : Bool) (u : (q ≡ true) ↔ FourInRows n g) where
        four : FourInRows n g ↔ FourSided (floor_of o)
        four =
            let w = gave.placed_well in
            rw (gave.positions_are, rows_are) (sides_rows (floor_of o) w.edges_below w.few_positions w.edges_right)

        pub many_sided : q ≡ false → refused 26 0 ≡ floor_answer o
        many_sided f =
            sym
            (over
            ∙ rw (
              vacant 2 (owed_off (floor_of o) off) room,
              holds-yes (bi_connected? (floor_of o)) ((filled_bi_connected gave filled).0 (t.0 y)),
              ordered_off (floor_of o) (rack_count o) (starts_of o) (goals_of o) off,
              holds_no (four_sided? (floor_of o)) (λ b. false≢true (sym f ∙ u.1 (four.1 b))),
            ) refl)

        pub plain : q ≡ true → accepted [] ≡ floor_answer o
        plain z =
            sym
            (over
            ∙ rw (
              vacant 2 (owed_off (floor_of o) off) room,
              holds-yes (bi_connected? (floor_of o)) ((filled_bi_connected gave filled).0 (t.0 y)),
              ordered_off (floor_of o) (rack_count o) (starts_of o) (goals_of o) off,
              holds-yes (four_sided? (floor_of o)) (four.0 (u.0 z)),
            ) refl)
