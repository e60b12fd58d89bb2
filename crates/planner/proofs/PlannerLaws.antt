-- Laws of the planner's answers.
--
--     unrefused      where none of the planner's refusals applies the order can be planned
--     moves_few      a plan has fewer than 2²² moves
--     solves_few     so have moves that solve an order
--     moves_read, count_read, edition_read    reading their record gives them back, and how many they are; it is of edition two
--     plan_accepted  and the plan checker accepts it
--     never_refuses       where none of the planner's refusals applies, whatever it answers and leaves behind is so
--     turned_away         where one applies, that is its answer, and no byte changes
-- Assumes nothing.
use Prim.Native.Nat.{ℕ, ◌+◌, ◌*◌, ◌^◌, ◌≤◌, ◌<◌}
use mathlib.Core.Path.{◌≡◌, refl, sym, ap, ◌∙◌}
use mathlib.Core.Bool.{true}
use mathlib.Core.List.{List, [], ◌∷◌}
use native.Mathlib.Omega.{arith}
use lib.Dec.{ltb}
use lib.ListN.{length}
use Rattle.field.specs.Listed.{moves_of}
use Rattle.answers.specs.Answer.{Answer, accepted, refused, refuse}
use Rattle.answers.proofs.AnswerLaws.{pass_up-low, pass_up_accepted}
use Rattle.order.specs.Order.{position_count, floor_of, starts_of, goals_of, counts, order_answer}
use Rattle.order.proofs.OrderLaws.{formed_head}
use Rattle.motion.specs.Arrangement.{Arrangement}
use Rattle.motion.specs.Replay.{ended, replay_listed, listed}
use Rattle.motion.proofs.Lawful.{Leads, replay_moves_ended}
use Rattle.motion.proofs.ListedLaws.{replay_listed_ended, listed_leads}
use Rattle.motion.proofs.JudgementLaws.{judged_accepted}
use Rattle.tables.specs.Accepted.{WellPlaced}
use Rattle.tables.proofs.AcceptedLaws.{well_placed}
use Rattle.plan.specs.Plan.{plan_record, named, move_count, plan_moves, plan_answer}
use Rattle.plan.proofs.PlanRecord.{Written, written as written-right}
use Rattle.plan_check.proofs.SizeLaws.{most_moves}
use Rattle.plan.proofs.Listing.{moves-listed, length_listing, listing_fits}
use Rattle.floor.specs.FloorAnswer.{floor_answer}
use Rattle.floor.specs.Plannable.{Plannable}
use Rattle.floor.proofs.FloorLaws.{plannable}
use Rattle.method.specs.Moves.{Solves}
use Rattle.planner.specs.Planner.{refusals, PlanMade, turned_down, made}
use Rattle.planner.specs.Planned.{Planned}

pub unrefused : (o : List ℕ) (b : ℕ) → refusals o b ≡ accepted [] → Plannable o
unfolding refusals
unrefused o b e =
    let n = position_count o in
    let low = pass_up-low (floor_answer o) (refuse (ltb b (18 * (n * (n * n)) + 3)) 23 0 (accepted [])) [] e in
    plannable o low.0 low.1

module _ (o : List ℕ) (can : Plannable o) (ms : List (ℕ × ℕ)) (solves : Solves o (position_count o) ms) where
  pub solves_few : length ms < 2 ^ 22
  solves_few =
      let n = position_count o in
      let few : n ≤ 64 = (formed_head o can.right).few_positions in
      let most = most_moves n few in
      omega (arith, solves.few)

  well : WellPlaced o
  well = well_placed o can.right

  leads : Leads (floor_of o) (starts_of o) ms (goals_of o)
  leads = (replay_moves_ended (floor_of o) (starts_of o) ms (goals_of o)).0 solves.replayed

  -- the moves as the plan lists them
  abbrev ls : List (ℕ × ℕ × ℕ)
  ls = listed true (starts_of o) ms

  long : length ls ≡ length ms
  long = length_listing true (starts_of o) ms

  packed : Written true ls
  packed =
      written-right true ls (rw long solves_few)
      (listing_fits true (floor_of o) well.few_positions (rw well.starts_length well.few_racks) leads)

  pub moves_read : plan_moves (plan_record true (starts_of o) ms) ≡ ms
  unfolding plan_moves plan_record
  moves_read = ap moves_of packed.listed_are ∙ moves-listed true (starts_of o) ms

  pub edition_read : named (plan_record true (starts_of o) ms) ≡ true
  unfolding plan_record
  edition_read = packed.edition_is

  pub count_read : move_count (plan_record true (starts_of o) ms) ≡ length ms
  unfolding plan_record
  count_read = packed.count_is ∙ long

  replayed : replay_listed (floor_of o) (starts_of o) ls ≡ ended (goals_of o)
  replayed = (replay_listed_ended (floor_of o) (starts_of o) ls (goals_of o)).1 (listed_leads true (floor_of o) leads)

  same : (A : Arrangement) → replay_listed (floor_of o) (starts_of o) ls ≡ ended A → length A ≡ length (goals_of o)
  same A e = let is : A ≡ goals_of o = cc (e, replayed) in ap length is

  pub plan_accepted : plan_answer o (plan_record true (starts_of o) ms) ≡ accepted (length ms ∷ [])
  unfolding plan_answer plan_record
  plan_accepted =
      let x = replay_listed (floor_of o) (starts_of o) ls in
      pass_up_accepted (order_answer o) _ (counts o) can.right
      ∙ rw (packed.length_right, packed.padding_clear, packed.count_is, packed.listed_are)
      ((judged_accepted 33 (goals_of o) (length ls ∷ []) (length ms ∷ []) x same).1 (replayed, ap (λ (k : ℕ). k ∷ []) long))

pub moves_few : {o B B' : List ℕ} {k : ℕ} → PlanMade o B (accepted (k ∷ [])) B' → k < 2 ^ 22
moves_few {o} {B} (made ms right solves) = solves_few o (unrefused o (length B) right) ms solves

clash : {v : List ℕ} {n p : ℕ} → accepted v ≡ refused n p → ⊥
clash e = let z : ◌≡◌ {A = ℕ} 0 1 = cc in omega arith

pub never_refuses : (o B v : List ℕ) {a : Answer} {B' : List ℕ} → refusals o (length B) ≡ accepted v → PlanMade o B a B' → Planned o B a B'
never_refuses o B v none (turned_down e) = absurd (clash (sym none ∙ e))
never_refuses o B v none (made ms e solves) =
    record {
      plan = plan_record true (starts_of o) ms;
      moves = length ms;
      answered = refl;
      few = solves.few;
      stands = refl;
      edition_two = edition_read o (unrefused o (length B) e) ms solves;
      checked = plan_accepted o (unrefused o (length B) e) ms solves;
    }

pub turned_away : (o B : List ℕ) {n p : ℕ} {a : Answer} {B' : List ℕ} → refusals o (length B) ≡ refused n p → PlanMade o B a B'
    → (a ≡ refused n p) × (B' ≡ B)
turned_away o B away (turned_down e) = (sym e ∙ away, refl)
turned_away o B away (made ms e solves) = absurd (clash (sym e ∙ away))
