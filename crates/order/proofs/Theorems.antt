-- What is proved of order records, as a whole.
--
--     one_record        two accepted records that describe the same are the same bytes (demand 2)
--     order_for          the order of a floor that is given as a relation
--     record_for        its record is accepted, and reading it gives floor, starts and goals back
--     every_order       so every floor of 1 to 64 positions and at most 255 edges, with distinct starts and distinct goals, has an accepted
--                       record, and reading it gives them back
--     an_order          the hypotheses of `every_order` hold of something
-- Assumes nothing.
use Prim.Native.Nat.{ℕ}
use mathlib.Core.Path.{◌≡◌, refl, sym, ap, ap₂, ◌∙◌}
use mathlib.Core.Bool.{Bool, true, false, not, ◌&&◌, and_comm, and-false}
use mathlib.Core.List.{List, [], ◌∷◌}
use lib.Dec.{ltb, eqb, lit≤}
use native.Mathlib.Decide.{ℕ_discrete}
use borrow.Author.Tests.{eq-eqb, ne_eqb, ltb-true}
use Rattle.field.specs.Bytes.{Bytes, BelowPairs}
use Rattle.field.proofs.RecordLaws.{pairs_lt}
use Rattle.field.proofs.UnitLaws.{or_left, or_right}
use Rattle.order.specs.Floor.{Floor, some, joined}
use Rattle.order.specs.Order.{Order, order_record, edge_count, floor_of, order_of, bad_edge, ascending, wrong_edges, repeats}
use Rattle.order.specs.Order.{wrong_places, WellFormed}
use Rattle.order.proofs.RecordOf.{record_of}
use Rattle.order.proofs.EdgeLaws.{edge_joined, same_set, and_left}
use Rattle.order.proofs.OrderLaws.{right_order}
use Rattle.order.specs.EdgeSets.{IsRelation, edges_listed, is_edge, floor_from}
use Rattle.order.proofs.EdgeSetsLaws.{floor_from-right, floor_from-joined}
use Rattle.order.proofs.Written.{SoundOrder, record_read, record_sound}
use Rattle.order.specs.Theorems.{Same, RecordFor, Choice}

not-true : (a : Bool) → not a ≡ false → a ≡ true
not-true true e = refl
not-true false e = sym e

-- the edges of two floors that join the same positions are the same list
pub same_edges : (F G : Floor) → wrong_edges F ≡ false → wrong_edges G ≡ false → BelowPairs 64 F.edges → BelowPairs 64 G.edges
    → ((a b : ℕ) → joined F a b ≡ joined G a b) → F.edges ≡ G.edges
unfolding wrong_edges
same_edges F G f g bf bg h =
    same_set F.edges G.edges bf bg
    (not-true (ascending F.edges) (or_right (some (bad_edge F.positions) F.edges) (not (ascending F.edges)) f))
    (not-true (ascending G.edges) (or_right (some (bad_edge G.positions) G.edges) (not (ascending G.edges)) g))
    (λ e.
    edge_joined F (or_left (some (bad_edge F.positions) F.edges) (not (ascending F.edges)) f) e.0 e.1
    ∙ ap (λ (t : Bool). ltb e.0 e.1 && t) (h e.0 e.1)
    ∙ sym (edge_joined G (or_left (some (bad_edge G.positions) G.edges) (not (ascending G.edges)) g) e.0 e.1))

-- "Two different accepted order records never describe the same floor, starts and goals."
pub one_record : (s t : List ℕ) → Bytes s → Bytes t → WellFormed s → WellFormed t → Same s t → s ≡ t
one_record s t bs bt ws wt same = record_of s bs ws ∙ ap order_record read ∙ sym (record_of t bt wt)
  where
    below : (u : List ℕ) → BelowPairs 64 (floor_of u).edges
    below u = unfold floor_of in pairs_lt u 24 (edge_count u)

    edges : (floor_of s).edges ≡ (floor_of t).edges
    edges =
        same_edges (floor_of s) (floor_of t) (right_order s ws).edges_right (right_order t wt).edges_right (below s) (below t)
        same.edges

    floor : floor_of s ≡ floor_of t
    floor = λ i. record { positions = same.positions i; edges = edges i }

    read : order_of s ≡ order_of t
    read = unfold order_of in λ i. record { floor = floor i; starts = same.starts i; goals = same.goals i }

module _ (n : ℕ) (E : ℕ → ℕ → Bool) (starts goals : List ℕ) where
  abbrev pub order_for : Order
  order_for = record { floor = floor_from n E; starts = starts; goals = goals }

  pub record_for : Choice n E starts goals → RecordFor n E starts goals (order_record order_for)
  record_for c =
      record {
        is_accepted = record_sound order_for sound;
        positions_back = ap (λ (F : Floor). F.positions) floor_back ∙ (unfold floor_from in refl);
        edges_back = λ a b. ap (λ (F : Floor). joined F a b) floor_back ∙ floor_from-joined n E c.few_positions c.relation a b;
        starts_back = unfold order_of in ap (λ (o : Order). o.starts) back;
        goals_back = unfold order_of in ap (λ (o : Order). o.goals) back;
      }
    where
      sound : SoundOrder order_for
      sound =
          unfold order_for floor_from in
          record {
            some_position = c.some_position;
            few_positions = c.few_positions;
            few_edges = c.few_edges;
            edges_right = floor_from-right n E;
            a_goal_each = c.a_goal_each;
            starts_right = c.starts_right;
            goals_right = c.goals_right;
          }

      back : order_of (order_record order_for) ≡ order_for
      back = record_read order_for sound

      floor_back : floor_of (order_record order_for) ≡ floor_from n E
      floor_back = unfold order_of in ap (λ (o : Order). o.floor) back

  pub every_order : Choice n E starts goals → (s : List ℕ) × RecordFor n E starts goals s
  every_order c = (order_record order_for, record_for c)

-- every two of four positions are joined
abbrev all_of_four : ℕ → ℕ → Bool
all_of_four a b = ltb a 4 && ltb b 4 && not (eqb a b)

all_of_four_lem : IsRelation 4 all_of_four
all_of_four_lem =
    record {
      both_ways = λ a b. ap₂ (λ (t u : Bool). t && not u) (and_comm (ltb a 4) (ltb b 4)) (eqb_comm a b);
      not_itself = λ a. rw (eq-eqb a a refl) (and-false (ltb a 4 && ltb a 4));
      inside = λ a b e. ltb-true a 4 (and_left (ltb a 4) (ltb b 4) (and_left (ltb a 4 && ltb b 4) (not (eqb a b)) e));
    }
  where
    eqb_comm : (a b : ℕ) → eqb a b ≡ eqb b a
    eqb_comm a b = elim (ℕ_discrete a b) [
      | yes e ↦ rw (eq-eqb a b e, eq-eqb b a (sym e)) refl
      | no d ↦ rw (ne_eqb a b d, ne_eqb b a (λ e. d (sym e))) refl
    ]

-- two racks on it change places: the hypotheses of `every_order` hold of something
an_order : Choice 4 all_of_four (0 ∷ 3 ∷ []) (3 ∷ 0 ∷ [])
an_order =
    record {
      some_position = lit≤ tt;
      few_positions = lit≤ tt;
      relation = all_of_four_lem;
      few_edges = unfold floor_from edges_listed is_edge in lit≤ tt;
      a_goal_each = refl;
      starts_right = unfold wrong_places some repeats in refl;
      goals_right = unfold wrong_places some repeats in refl;
    }
