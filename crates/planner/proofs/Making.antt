-- The planner's answers above the floor judge's: what it turns down, and what it leaves behind where it plans.
--
--     planner_refused            the floor judge's refusal is passed up
--     Judged o n e m, judged     what its acceptance tells, with the counts that it hands on
--     tables                     what the order is decoded to, as the moves are made from it
--     cube                       how large the products are
--     planner_short, room        the buffer is too short, or it has room for the moves
--     few_moves                  their number fits the head
--     planner_made               head and moves are the record of the plan
-- Assumes nothing.
use Prim.Native.Nat.{ℕ, ◌+◌, ◌-◌, ◌*◌, ◌^◌, ◌≤◌, ◌<◌}
use mathlib.Core.Path.{◌≡◌, refl, sym, ap, subst, ◌∙◌}
use mathlib.Core.Bool.{true}
use mathlib.Core.List.{List, [], ◌∷◌, ◌++◌}
use native.Mathlib.Nat.{mul-le-mul_right}
use native.Mathlib.Omega.{arith}
use borrow.Author.Tests.{lt-ltb, le-ltb}
use lib.Dec.{ltb}
use lib.ListN.{length, take, drop, length-drop}
use Rattle.std.specs.Prelude.{Result, IsErrAnd}
use Rattle.answers.specs.Answer.{Answer, accepted, refused, refused_by, refuse, pass_up, the_count}
use Rattle.answers.specs.declared.Refusal.{Refusal}
use Rattle.answers.proofs.AnswerLaws.{handed_on}
use Rattle.recording.specs.Head.{head_bytes}
use Rattle.recording.proofs.HeadLaws.{length-head_bytes, record_written}
use Rattle.field.specs.Packing.{pack_positions}
use Rattle.field.proofs.PackingLaws.{length-packed}
use Rattle.field.specs.Listed.{move_size, all_units}
use Rattle.field.proofs.ListedLaws.{length-units}
use Rattle.field.proofs.RecordLaws.{rest_is}
use Rattle.field.specs.Writing.{written}
use Rattle.order.specs.Order.{position_count, floor_of, starts_of, goals_of, counts}
use Rattle.order.specs.Tables.{decoded_rows, decoded_starts, decoded_goals}
use Rattle.motion.specs.Replay.{listed}
use Rattle.motion.proofs.Lawful.{replay_moves_ended}
use Rattle.tables.specs.Accepted.{OrderGave}
use Rattle.tables.proofs.AcceptedLaws.{order_gave}
use Rattle.plan.specs.Plan.{spare_bits, plan_record}
use Rattle.plan.proofs.PlanRecord.{record_parts}
use Rattle.plan.proofs.Listing.{length_listing, listing_fits}
use Rattle.floor.specs.FloorAnswer.{floor_answer}
use Rattle.floor.specs.Plannable.{Plannable}
use Rattle.floor.proofs.FloorLaws.{plannable, plannable_is}
use Rattle.method.specs.Moves.{Solves, TablesOf, Moves}
use Rattle.planner.specs.Planner.{refusals, PlanMade, turned_down, made, answer_of}

-- r is what `?` makes of the floor judge's refusal e
pub planner_refused : (o B : List ℕ) (r : Result ℕ Refusal) (e : Refusal) → IsErrAnd r (λ x. x ≡ e) → refused_by e.0 e.1 ≡ floor_answer o
    → PlanMade o B (answer_of r) B
unfolding refusals
planner_refused o B r e is told =
    let n = position_count o in
    let up : refusals o (length B) ≡ refused_by e.0 e.1 =
    ap (λ (x : Answer). pass_up x (refuse (ltb (length B) (18 * (n * (n * n)) + 3)) 23 0 (accepted []))) (sym told) in
    subst (λ (x : Answer). PlanMade o B x B) (sym (handed_on the_count r e is refl)) (turned_down up)

pub record Judged (o : List ℕ) (n e m : ℕ) : Type 0 where
  pub can : Plannable o
  pub gave : OrderGave o n e m

pub judged : {o : List ℕ} {n e m : ℕ} → accepted [] ≡ floor_answer o
    → accepted (n ∷ e ∷ m ∷ []) ≡ pass_up (floor_answer o) (accepted (counts o)) → Judged o n e m
judged {o} {n} {e} {m} accepts handed =
    let can = plannable o [] (sym accepts) in
    record {
      can = can;
      gave = order_gave o n e m (handed ∙ ap (λ (b : Answer). pass_up b (accepted (counts o))) (plannable_is o can) ∙ sym can.right);
    }

module _ {o : List ℕ} {n e m : ℕ} (j : Judged o n e m) where
  can : Plannable o
  can = j.can

  gave : OrderGave o n e m
  gave = j.gave

  positions_are : n ≡ position_count o
  unfolding floor_of
  positions_are = gave.positions_are

  pub tables : (g h k : List ℕ) → g ≡ decoded_rows o → h ≡ decoded_starts o → k ≡ decoded_goals o → TablesOf o n e m g h k
  tables g h k rows starts goals =
      record { gave = gave; can = can; rows_are = rows; starts_are = starts; goals_are = goals }

  few : n ≤ 64
  few = let f = gave.placed_well.few_positions in let p = gave.positions_are in omega arith

  pub square : n * n ≤ 4096
  square = let s : n * n ≤ 64 * n = mul-le-mul_right n few in let f = few in omega arith

  pub cube : n * (n * n) ≤ 262144
  cube = let s : n * (n * n) ≤ 64 * (n * n) = mul-le-mul_right (n * n) few in let q = square in omega arith

  module _ (B : List ℕ) where
    answer_is : refusals o (length B) ≡ refuse (ltb (length B) (18 * (n * (n * n)) + 3)) 23 0 (accepted [])
    unfolding refusals
    answer_is = rw (plannable_is o can, positions_are) refl

    pub planner_short : length B < 18 * (n * (n * n)) + 3 → PlanMade o B (refused 23 0) B
    planner_short h = turned_down {number = 23} {place = 0} (answer_is ∙ rw (lt-ltb (length B) (18 * (n * (n * n)) + 3) h) refl)

    module _ (enough : 18 * (n * (n * n)) + 3 ≤ length B) where
      pub room : 18 * (n * (n * n)) ≤ length (take (length B - 3) (drop 3 B))
      room = rw (rest_is 3 B, length-drop 3 B) (omega (arith, enough))

      module _ (t : List ℕ) (k : ℕ) (moves : Moves o n (take (length B - 3) (drop 3 B)) t k) where
        abbrev ms : List (ℕ × ℕ)
        ms = moves.moves

        -- the moves as the plan lists them, packed
        abbrev ls : List (ℕ × ℕ × ℕ)
        ls = listed true (starts_of o) ms

        abbrev bytes : List ℕ
        bytes = pack_positions (all_units true ls)

        long : length ls ≡ k
        long = length_listing true (starts_of o) ms ∙ sym moves.count

        pub few_moves : k < 2 ^ 22
        few_moves = let f = moves.solves.few in let k = moves.count in let q = cube in omega arith

        parts : plan_record true (starts_of o) ms ≡ head_bytes k 1 ++ bytes
        unfolding plan_record spare_bits
        parts =
            let well = gave.placed_well in
            record_parts true ls (let f = few_moves in let l = long in omega arith)
            (listing_fits true (floor_of o) well.few_positions (rw well.starts_length well.few_racks)
            ((replay_moves_ended (floor_of o) (starts_of o) ms (goals_of o)).0 moves.solves.replayed))
            ∙ ap (λ (j : ℕ). head_bytes j 1 ++ bytes) long

        short : 3 + length bytes ≤ length B
        unfolding move_size
        short =
            let f = moves.solves.few in
            let c = moves.count in
            let u = length-units true ls in
            let l = long in
            omega (arith, enough, length-packed (all_units true ls))

        pub planner_made : (x : List ℕ) → x ≡ written (take 3 B ++ (t ++ drop (length B - 3) (drop 3 B))) 0 (head_bytes k 1)
            → PlanMade o B (accepted (k ∷ [])) x
        planner_made x is =
            let plan = plan_record true (starts_of o) ms in
            let all : x ≡ written B 0 plan =
            is ∙ record_written B (head_bytes k 1) bytes t (length-head_bytes k 1) short moves.packed.is
            ∙ ap (written B 0) (sym parts) in
            subst (λ (b : List ℕ). PlanMade o B (accepted (k ∷ [])) b) (sym all)
            (subst (λ (j : ℕ). PlanMade o B (accepted (j ∷ [])) (written B 0 plan)) (sym moves.count)
            (made ms (answer_is ∙ rw (le-ltb (length B) (18 * (n * (n * n)) + 3) enough) refl)
            (subst (λ (j : ℕ). Solves o j ms) positions_are moves.solves)))
