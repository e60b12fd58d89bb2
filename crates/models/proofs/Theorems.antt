-- Every order on a model's floor, whoever wrote it and with any number of racks, is planned where two positions are vacant.
--
--     same_floor          such an order's floor is the model's, edge for edge
--     never_turned        21, 22, 24 and 26 never apply to it
--     model_plannable     with m + 2 at most n nothing turns it away before the plan buffer is measured: the never-fails theorem applies
--     model_planned       so the planner's judgement before it measures is acceptance
--     full_sound          what a short order that is accepted stands for
--     written_out         what is written is well formed, on the model's floor, and reads back
--     one_short           two accepted short orders that are written out as the same record are the same bytes
--     short_never_turned, short_plannable    so 21, 22, 24 and 26 never apply to what is written, and with two vacancies it is planned
-- Assumes nothing.
use Prim.Native.Nat.{ℕ, ◌+◌, ◌≤◌}
use mathlib.Core.Path.{◌≡◌, refl, sym, ap, subst, ◌∙◌}
use mathlib.Core.Bool.{Bool, true, false}
use mathlib.Core.List.{List, []}
use mathlib.Core.Logic.{inl}
use native.Mathlib.Omega.{arith}
use lib.ListN.{length}
use lib.Dec.{ltb}
use Rattle.answers.specs.Answer.{accepted, refused, refuse}
use Rattle.field.specs.Bytes.{Bytes}
use Rattle.field.proofs.UnitLaws.{or_left, or_right}
use Rattle.order.specs.Floor.{Floor, joined}
use Rattle.order.specs.Order.{Order, position_count, rack_count, floor_of, starts_of, goals_of, order_of, counts, wrong_places, wrong_racks}
use Rattle.order.specs.Order.{WellFormed}
use Rattle.order.proofs.OrderLaws.{right_order}
use Rattle.order.proofs.Written.{SoundOrder, record_read, record_sound}
use Rattle.order.proofs.Theorems.{same_edges}
use Rattle.graph.specs.Connected.{BiConnected, Ring}
use Rattle.tables.proofs.AcceptedLaws.{well_placed}
use Rattle.floor.specs.FloorAnswer.{Joins, bi_connected?, floor_answer}
use Rattle.floor.specs.Sides.{FourSided, four_sided?}
use Rattle.floor.specs.Plannable.{Plannable}
use Rattle.floor.proofs.SidesLaws.{sides_same}
use Rattle.answers.proofs.AnswerLaws.{holds-yes}
use Rattle.floor.proofs.FloorLaws.{ordered_off, owed_off, floor_over, plannable_is}
use Rattle.models.specs.Grid.{unknown_model, model_floor}
use Rattle.models.specs.ShortOrder.{model_code, short_starts, short_goals, short_of, wrong_short}
use Rattle.models.specs.Expansion.{full_order, expanded, expand_answer}
use Rattle.models.specs.Theorems.{HasModel, NeverTurned, WrittenOut}
use Rattle.models.proofs.ExpansionLaws.{length-starts, length-goals, Sound, accepted_expand}
use Rattle.models.proofs.ShortLaws.{short_of_read}
use Rattle.models.proofs.GridLaws.{model_bi_connected, model_no_ring, model_sides, model_size, model_edges, model_below, one_model}

module _ (o : List ℕ) (k : ℕ) (h : HasModel o k) where
  pub same_floor : floor_of o ≡ model_floor k
  same_floor = λ i. record { positions = h.positions i; edges = edges i }
    where
      edges : (floor_of o).edges ≡ (model_floor k).edges
      edges =
          same_edges (floor_of o) (model_floor k) (right_order o h.right).edges_right (model_edges k h.known)
          (well_placed o h.right).edges_below (model_below k h.known) h.edges

  order_bi_connected : BiConnected (floor_of o).positions (Joins (floor_of o))
  order_bi_connected = subst (λ (F : Floor). BiConnected F.positions (Joins F)) (sym same_floor) (model_bi_connected k h.known)

  order_no_ring : Ring (floor_of o).positions (Joins (floor_of o)) (length (floor_of o).edges) → ⊥
  order_no_ring = subst (λ (F : Floor). Ring F.positions (Joins F) (length F.edges) → ⊥) (sym same_floor) (model_no_ring k h.known)

  order_sides : FourSided (floor_of o)
  order_sides = subst FourSided (sym same_floor) (model_sides k h.known)

  -- only 20 is left of 20, 21, 24 and 26
  crowded_or_accepted : floor_answer o ≡ refuse (ltb (position_count o) (rack_count o + 2)) 20 0 (accepted [])
  crowded_or_accepted =
      floor_over o (counts o) h.right
      ∙ rw (
        owed_off (floor_of o) order_no_ring,
        holds-yes (bi_connected? (floor_of o)) order_bi_connected,
        ordered_off (floor_of o) (rack_count o) (starts_of o) (goals_of o) order_no_ring,
        holds-yes (four_sided? (floor_of o)) order_sides,
      ) refl

  pub never_turned : NeverTurned o
  never_turned =
      record {
        not_21 = λ place e. never 21 place (λ x. omega arith) e;
        not_22 = λ place e. never 22 place (λ x. omega arith) e;
        not_24 = λ place e. never 24 place (λ x. omega arith) e;
        not_26 = λ place e. never 26 place (λ x. omega arith) e;
      }
    where
      neither : (t : Bool) (number place : ℕ) → (number ≡ 20 → ⊥) → refuse t 20 0 (accepted []) ≡ refused number place → ⊥
      neither true number place d e = d (let same : number ≡ 20 = cc in same)
      neither false number place d e = let z : ◌≡◌ {A = ℕ} 0 1 = cc in omega arith

      never : (number place : ℕ) → (number ≡ 20 → ⊥) → floor_answer o ≡ refused number place → ⊥
      never number place d e = neither (ltb (position_count o) (rack_count o + 2)) number place d (sym crowded_or_accepted ∙ e)

  pub model_plannable : rack_count o + 2 ≤ position_count o → Plannable o
  model_plannable vacancies =
      let w = well_placed o h.right in
      record {
        right = h.right;
        bi_connected = order_bi_connected;
        sides = λ p l.
            subst (λ (k : ℕ). k ≤ 4) (sides_same (floor_of o) w.edges_below w.few_positions w.edges_right p) (order_sides p l);
        kind = inl (record { no_ring = order_no_ring; vacancies = vacancies });
      }

  pub model_planned : rack_count o + 2 ≤ position_count o → floor_answer o ≡ accepted []
  model_planned vacancies = plannable_is o (model_plannable vacancies)

module _ (s : List ℕ) (right : wrong_short s ≡ false) (known : unknown_model (model_code s) ≡ false)
    (racks : wrong_racks (full_order s) ≡ false) where
  full_sound : SoundOrder (full_order s)
  unfolding full_order wrong_racks
  full_sound =
      let size = model_size (model_code s) known in
      let n = (model_floor (model_code s)).positions in
      record {
        some_position = size.some_position;
        few_positions = size.few_positions;
        few_edges = size.few_edges;
        edges_right = model_edges (model_code s) known;
        a_goal_each = length-goals s ∙ sym (length-starts s);
        starts_right = or_left (wrong_places n (short_starts s)) (wrong_places n (short_goals s)) racks;
        goals_right = or_right (wrong_places n (short_starts s)) (wrong_places n (short_goals s)) racks;
      }

  reads_back : order_of (expanded s) ≡ full_order s
  unfolding expanded
  reads_back = record_read (full_order s) full_sound

  floor_back : floor_of (expanded s) ≡ model_floor (model_code s)
  unfolding order_of full_order
  floor_back = ap (λ (o : Order). o.floor) reads_back

  sound_written : WrittenOut s
  sound_written =
      let form : WellFormed (expanded s) = unfold expanded in record_sound (full_order s) full_sound in
      record {
        right = form;
        back = reads_back;
        on_model =
            record {
              right = form;
              known = known;
              positions = ap (λ (F : Floor). F.positions) floor_back;
              edges = λ a b. ap (λ (F : Floor). joined F a b) floor_back;
            };
      }

module _ (s : List ℕ) (n : ℕ) (v : List ℕ) (a : expand_answer s n ≡ accepted v) where
  parts : Sound s n v
  parts = accepted_expand s n v a

  pub written_out : WrittenOut s
  written_out = sound_written s parts.right parts.known parts.racks_right

  pub short_never_turned : NeverTurned (expanded s)
  short_never_turned = never_turned (expanded s) (model_code s) written_out.on_model

  pub short_plannable : rack_count (expanded s) + 2 ≤ position_count (expanded s) → Plannable (expanded s)
  short_plannable = model_plannable (expanded s) (model_code s) written_out.on_model

pub one_short : (s t : List ℕ) (n m : ℕ) (v w : List ℕ) → Bytes s → Bytes t → expand_answer s n ≡ accepted v →
    expand_answer t m ≡ accepted w
    → expanded s ≡ expanded t → s ≡ t
one_short s t n m v w bs bt a b e = short_of_read s t bs bt p.right q.right read
  where
    p : Sound s n v
    p = accepted_expand s n v a

    q : Sound t m w
    q = accepted_expand t m w b

    full : full_order s ≡ full_order t
    full = sym (written_out s n v a).back ∙ ap order_of e ∙ (written_out t m w b).back

    model : model_code s ≡ model_code t
    model =
        one_model (model_code s) (model_code t) p.known q.known
        (unfold full_order in ap (λ (o : Order). o.floor.positions) full)

    starts : short_starts s ≡ short_starts t
    starts = unfold full_order in ap (λ (o : Order). o.starts) full

    goals : short_goals s ≡ short_goals t
    goals = unfold full_order in ap (λ (o : Order). o.goals) full

    read : short_of s ≡ short_of t
    read = unfold short_of in λ i. record { model = model i; starts = starts i; goals = goals i }
