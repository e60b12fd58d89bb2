-- Laws of what specs/Theorems.antt defines.
--
--     dearest_plan        the plan of the dearest carry leads from its start to its goal in as many moves as told
--     dearest_carry       of the connected floor of every well-formed order
--     carry_accepted      of the floor of every order that is accepted
--     carry_small         the three numbers of an accepted order are below 64
-- Assumes nothing.
use Prim.Native.Nat.{ℕ, suc, ◌^◌, ◌≤◌, ◌<◌}
use mathlib.Core.Path.{◌≡◌, refl, sym, subst, ap, ◌∙◌}
use mathlib.Core.Bool.{true, false, not}
use mathlib.Core.List.{List, [], ◌∷◌}
use mathlib.Core.Logic.{◌⊎◌, ⊎_elim}
use native.Mathlib.Omega.{arith}
use borrow.Author.Tests.{lt-leb, not-false}
use lib.Dec.{T}
use lib.ListN.{length}
use Rattle.answers.specs.Answer.{accepted, holds}
use Rattle.answers.proofs.AnswerLaws.{refuse_not, refuse_else, pass_up-low, pass_up-high, holds-true}
use Rattle.field.proofs.BitLaws.{field_lt}
use Rattle.field.proofs.UnitLaws.{or_left}
use Rattle.order.specs.Floor.{Floor, some, joined}
use Rattle.order.specs.Order.{Order, order_record, order_of, edge_count, floor_of, starts_of, goals_of, rack_count}
use Rattle.order.specs.Order.{bad_edge, ascending, wrong_edges}
use Rattle.order.specs.Order.{repeats, wrong_places, order_answer, WellFormed}
use Rattle.order.proofs.OrderLaws.{right_order, formed_head, well_formed}
use Rattle.order.proofs.Written.{SoundOrder, edges_below, record_read, record_sound}
use Rattle.motion.specs.Move.{after_move}
use Rattle.motion.specs.Replay.{ended, replay_moves, trace}
use Rattle.motion.proofs.Lawful.{Leads, replay_moves_ended}
use Rattle.motion.proofs.PebbleLaws.{pebble_replay}
use Rattle.tables.proofs.AcceptedLaws.{well_placed}
use Rattle.plan.specs.Plan.{plan_record, plan_answer, move_count, plan_moves}
use Rattle.plan_check.proofs.Accepted.{plan_gave}
use Rattle.plan.proofs.PlanRecord.{moves-counted}
use Rattle.plan_check.proofs.Replayed.{the_moves, accepted_record}
use Rattle.graph.specs.Connected.{Connected}
use Rattle.floor.specs.FloorAnswer.{Joins}
use Rattle.floor.proofs.FloorRows.{joined_other}
use Rattle.floor.proofs.Layers.{edges_length}
use Rattle.carry.specs.Carry.{reaches, distance, way_from, moves_along, longest, dearest_start, dearest_goal, dearest_moves, carry_record}
use Rattle.carry.specs.CarryAnswer.{connected?, not_connected, cannot_hold, carry_answer}
use Rattle.farthest.specs.Balls.{Dearest}
use Rattle.carry.specs.Theorems.{LeastMoves, one_rack, Before, DearestCarry}
use Rattle.carry.proofs.ReachLaws.{walk_reach, dist_most, dist_walk, dist_few, goal_is, dearest_is}
use Rattle.carry.proofs.OneRack.{leads_walk, way_count, way_first, way_leads, walk_plan, before_not, before_once}

module _ (F : Floor) (some_position : 1 ≤ F.positions) (few : F.positions ≤ 64) (right : wrong_edges F ≡ false)
    (whole : Connected F.positions (Joins F)) where
  abbrev n : ℕ
  n = F.positions

  abbrev s : ℕ
  s = dearest_start F

  abbrev g : ℕ
  g = dearest_goal F

  pub is_dearest : Dearest n (Joins F) s g (longest F)
  is_dearest = dearest_is F whole (omega arith)

  other : (a : ℕ) → T (joined F a a) → ⊥
  unfolding wrong_edges
  other =
      joined_other F
      (edges_below n F.edges few (or_left (some (bad_edge n) F.edges) (not (ascending F.edges)) right)) few right

  there : T (reaches F (longest F) s g)
  there =
      let near = is_dearest.near s g is_dearest.start_below is_dearest.goal_below in
      let far = is_dearest.far (suc near.moves) near.walk in
      let least = near.few in
      let count : near.moves ≡ longest F = omega arith in
      subst (λ (k : ℕ). T (reaches F k s g)) count (walk_reach F near.walk)

  pub dearest_plan : Leads F (s ∷ []) (dearest_moves F) (g ∷ [])
  unfolding dearest_moves
  dearest_plan = way_leads F other (longest F) s g is_dearest.start_below there

  least : (a b : ℕ) → a < n → b < n → LeastMoves F a b (distance F a b)
  least a b ha hb = record {
    some = walk_plan F other ha (dist_walk F ha (dist_few F whole a b ha hb));
    no_fewer = λ ms e. dist_most F (leads_walk F ms a b ha ((replay_moves_ended F (a ∷ []) ms (b ∷ [])).0 e));
  }

  counted : length (dearest_moves F) ≡ longest F
  unfolding dearest_moves
  counted = way_count F (longest F) s g

  few_moves : longest F < n
  few_moves =
      let d = dist_few F whole s g is_dearest.start_below is_dearest.goal_below in
      omega (arith, goal_is F whole (omega arith))

  lead : (ms : List (ℕ × ℕ)) → replay_moves F (s ∷ []) ms ≡ ended (g ∷ []) → Leads F (s ∷ []) ms (g ∷ [])
  lead ms e = (replay_moves_ended F (s ∷ []) ms (g ∷ [])).0 e

  no_shorter : (ms : List (ℕ × ℕ)) → Leads F (s ∷ []) ms (g ∷ []) → longest F ≤ length ms
  no_shorter ms l =
      let far = is_dearest.far (suc (length ms)) (leads_walk F ms s g is_dearest.start_below l) in
      omega arith

  first : (ms : List (ℕ × ℕ)) → Leads F (s ∷ []) ms (g ∷ []) → length ms ≡ longest F
      → (ms ≡ dearest_moves F) ⊎ Before (dearest_moves F) ms
  unfolding dearest_moves
  first ms l e =
      subst (λ (k : ℕ). (ms ≡ moves_along s (way_from F k s g)) ⊎ Before (moves_along s (way_from F k s g)) ms) e
      (way_first F ms s g is_dearest.start_below l)

  module _ (few_edges : length F.edges ≤ 255) where
    place-right : (p : ℕ) → p < n → wrong_places n (p ∷ []) ≡ false
    unfolding wrong_places some repeats
    place-right p h = rw (lt-leb n p h) refl

    sound : SoundOrder (one_rack F s g)
    sound = record {
      some_position = some_position;
      few_positions = few;
      few_edges = few_edges;
      edges_right = right;
      a_goal_each = refl;
      starts_right = place-right s is_dearest.start_below;
      goals_right = place-right g is_dearest.goal_below;
    }

    abbrev o : List ℕ
    o = order_record (one_rack F s g)

    reads : order_of o ≡ one_rack F s g
    reads = record_read (one_rack F s g) sound

    floor_is : floor_of o ≡ F
    unfolding order_of
    floor_is = ap (λ (x : Order). x.floor) reads

    starts_are : starts_of o ≡ s ∷ []
    unfolding order_of
    starts_are = ap (λ (x : Order). x.starts) reads

    goals_are : goals_of o ≡ g ∷ []
    unfolding order_of
    goals_are = ap (λ (x : Order). x.goals) reads

    plan_accepted : plan_answer o (carry_record F) ≡ accepted (longest F ∷ [])
    unfolding carry_record
    plan_accepted =
        let w : WellFormed o = record_sound (one_rack F s g) sound in
        let ms = dearest_moves F in
        let S = trace after_move (starts_of o) ms in
        let replayed : replay_moves (floor_of o) (starts_of o) ms ≡ ended (goals_of o) =
        rw (floor_is, starts_are, goals_are) ((replay_moves_ended F (s ∷ []) ms (g ∷ [])).1 dearest_plan) in
        let solved = ((pebble_replay (floor_of o) (rack_count o) (starts_of o) (goals_of o) (well_placed o w).task).0 ms).0 replayed in
        let small : length ms < 2 ^ 22 = omega (arith, counted, few_moves, few) in
        let same : ms ≡ (the_moves true o w (length ms) S small solved).moves =
        (the_moves true o w (length ms) S small solved).only ms refl in
        let all : plan_answer o (plan_record true (starts_of o) ms) ≡ accepted (length ms ∷ []) =
        ap (λ (l : List (ℕ × ℕ)). plan_answer o (plan_record true (starts_of o) l)) same
        ∙ accepted_record true o w (length ms) S small solved in
        ap (λ (A : List ℕ). plan_answer o (plan_record true A ms)) (sym starts_are) ∙ all ∙ ap (λ (k : ℕ). accepted (k ∷ [])) counted

    none_accepted : (p : List ℕ) (k : ℕ) → plan_answer o p ≡ accepted (k ∷ []) → longest F ≤ k
    none_accepted p k e =
        let gave = plan_gave o p (k ∷ []) e in
        let leads : Leads F (s ∷ []) (plan_moves p) (g ∷ []) = rw (floor_is, starts_are, goals_are) at gave.leads in
        let count : move_count p ∷ [] ≡ k ∷ [] = gave.counted in
        let same : move_count p ≡ k = cc in
        omega (arith, no_shorter (plan_moves p) leads, moves-counted p)

    pub floor_carry : DearestCarry F
    floor_carry = record {
      start_there = is_dearest.start_below;
      goal_there = is_dearest.goal_below;
      distances = least;
      order_read = reads;
      plan_accepted = plan_accepted;
      is_plan = (replay_moves_ended F (s ∷ []) (dearest_moves F) (g ∷ [])).1 dearest_plan;
      counted = counted;
      few = few_moves;
      no_shorter = λ ms e. no_shorter ms (lead ms e);
      none_accepted = none_accepted;
      no_dearer = λ a b ha hb.
          let near = is_dearest.near a b ha hb in
          (near.moves, near.few, walk_plan F other ha near.walk);
      earlier_cheaper = λ a b ha hb e.
          let r = is_dearest.earlier a b ha hb e in
          (r.0, r.1, walk_plan F other ha r.2);
      none_before = λ ms e count b. ⊎_elim (before_not b) (before_once b) (first ms (lead ms e) count);
      before_others = λ ms e count. first ms (lead ms e) count;
    }

pub dearest_carry : (o : List ℕ) → WellFormed o → Connected (floor_of o).positions (Joins (floor_of o)) → DearestCarry (floor_of o)
unfolding floor_of edge_count
dearest_carry o w whole =
    let head = formed_head o w in
    floor_carry (floor_of o) head.some_position head.few_positions (right_order o w).edges_right whole
    (omega (arith, edges_length o, field_lt o 7 8))

pub carry_accepted : (o : List ℕ) (b : ℕ) (v : List ℕ) → carry_answer o b ≡ accepted v → DearestCarry (floor_of o)
unfolding carry_answer not_connected
carry_accepted o b v e =
    let low = pass_up-low (order_answer o) _ v e in
    let high = pass_up-high (order_answer o) _ v e in
    let so = not-false (holds (connected? (floor_of o))) (refuse_not (not (holds (connected? (floor_of o)))) 27 0 _ v high) in
    dearest_carry o (well_formed o low.0 low.1) (holds-true (connected? (floor_of o)) so)

pub carry_small : (o : List ℕ) (b s g k : ℕ) → accepted (s ∷ g ∷ k ∷ []) ≡ carry_answer o b → (s < 64) × (g < 64) × (k < 64)
unfolding carry_answer
carry_small o b s g k e =
    let F = floor_of o in
    let v = s ∷ g ∷ k ∷ [] in
    let low = pass_up-low (order_answer o) _ v (sym e) in
    let high = pass_up-high (order_answer o) _ v (sym e) in
    let past = refuse_else (not_connected F) 27 0 _ v high in
    let last : accepted (dearest_start F ∷ dearest_goal F ∷ longest F ∷ []) ≡ accepted (s ∷ g ∷ k ∷ []) =
    refuse_else (cannot_hold F b) 28 0 _ v past in
    let start : dearest_start F ≡ s = cc in
    let goal : dearest_goal F ≡ g = cc in
    let count : longest F ≡ k = cc in
    let t = carry_accepted o b v (sym e) in
    let few = (well_placed o (well_formed o low.0 low.1)).few_positions in
    (omega (arith, t.start_there), omega (arith, t.goal_there), omega (arith, t.few))
