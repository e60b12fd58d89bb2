-- Demand 3, from what the three calls answer and leave.
--
--     plan_room o         how long a plan buffer 23 asks for
--     plan_of o ms        the record of the moves ms for the order o, in the edition that the planner writes
--     plan-within        a plan just written ends within its buffer
--     length-within      so does the timetable that is found in a buffer
--     found-made         the timetable just made is found
--     plan-alone         the plan just written, alone
--     timetable-alone    the timetable just made, alone
--     every-timetable    of every accepted plan the timetable is made, and accepted
--     delivered          demand 3
--     delivered_by       and in the answers of the three calls
--     callable           moves that solve an order give answers of the three calls: what they promise can be met
-- Assumes nothing.
use Prim.Native.Nat.{ℕ, ◌+◌, ◌*◌, ◌≤◌}
use mathlib.Core.Path.{◌≡◌, refl, sym, ap, ◌∙◌}
use mathlib.Core.Bool.{true}
use mathlib.Core.List.{List, [], ◌∷◌, ◌++◌, head-eq_of_cons-eq}
use native.Mathlib.Omega.{arith}
use native.Mathlib.Decide.{dec_le}
use native.Mathlib.Nat.{lt_of_not-le}
use borrow.Author.Tests.{le-ltb}
use lib.ListN.{length, take, drop, length-append}
use lib.Seq.{take_at}
use Rattle.answers.specs.Answer.{Answer, accepted, refused}
use Rattle.answers.proofs.AnswerLaws.{pass_up_accepted, pass_up-low}
use Rattle.field.specs.Listed.{move_size}
use Rattle.field.specs.Writing.{written}
use Rattle.field.proofs.WritingLaws.{written_front}
use Rattle.order.specs.Order.{position_count, starts_of}
use Rattle.plan.specs.Plan.{plan_answer, plan_record, plan_moves, move_count}
use Rattle.plan.proofs.PlanRecord.{length_record}
use Rattle.plan_check.proofs.Replayed.{plan_replayed}
use Rattle.timetable.specs.Timetable.{timetable_answer, timetable_record}
use Rattle.timetable.proofs.TimetableRecord.{record_well_packed}
use Rattle.timetable.specs.RecordLength.{whole_timetable_length}
use Rattle.timetable.proofs.RecordLengthLaws.{timetable-length_found}
use Rattle.scheduling.specs.Making.{timed, greatest}
use Rattle.scheduling.specs.Maker.{made_of, maker_answer, buffer_after, Timetabled}
use Rattle.scheduling.proofs.MakerLaws.{made_packable, maker_record}
use Rattle.floor.specs.Plannable.{Plannable}
use Rattle.floor.proofs.FloorLaws.{plannable_is}
use Rattle.method.specs.Moves.{Solves}
use Rattle.planner.specs.Planner.{refusals, PlanMade, turned_down, made}
use Rattle.planner.proofs.PlannerLaws.{unrefused, moves_read, count_read, edition_read, plan_accepted}
use Rattle.delivery.specs.Theorems.{timetable_alone, TimetableMade, Delivered, Delivers}
use Rattle.delivery.specs.Delivery.{answered, Answers, plan_length, plan_alone, Called, unplanned, untimed, checked}
use Rattle.delivery.specs.Delivery.{TimetableCalled, DeliversBy}

-- how long a plan buffer 23 asks for
abbrev pub plan_room : List ℕ → ℕ
plan_room o = 18 * (position_count o * (position_count o * position_count o)) + 3

abbrev plan_of : List ℕ → List (ℕ × ℕ) → List ℕ
plan_of o ms = plan_record true (starts_of o) ms

never : {number place : ℕ} {v : List ℕ} → accepted v ≡ refused number place → ⊥
never e = let z : ◌≡◌ {A = ℕ} 0 1 = cc in omega arith

-- none of the planner's refusals applies
none_refuses : (o P : List ℕ) → Plannable o → plan_room o ≤ length P → refusals o (length P) ≡ accepted []
unfolding refusals
none_refuses o P can room =
    let n = position_count o in
    rw (plannable_is o can, le-ltb (length P) (18 * (n * (n * n)) + 3) room) refl

-- the plan of moves that solve an order which can be planned
module _ (o : List ℕ) (can : Plannable o) (ms : List (ℕ × ℕ)) (solves : Solves o (position_count o) ms) (P : List ℕ) where
  plan_long : length (plan_of o ms) ≡ plan_length (length ms)
  unfolding plan_length move_size
  plan_long = length_record true (starts_of o) ms

  written-within : plan_length (length ms) ≤ length (written P 0 (plan_of o ms))
  written-within =
      omega (arith, plan_long, ap length (written_front P (plan_of o ms)), length-append (plan_of o ms) (drop (length (plan_of o ms)) P))

  plan-alone : plan_alone (length ms) (written P 0 (plan_of o ms)) ≡ plan_of o ms
  unfolding plan_alone
  plan-alone =
      ap (take (plan_length (length ms))) (written_front P (plan_of o ms))
      ∙ take_at (plan_of o ms) (drop (length (plan_of o ms)) P) (plan_length (length ms)) plan_long

pub plan-within : {o P P' : List ℕ} {k : ℕ} → PlanMade o P (accepted (k ∷ [])) P' → plan_length k ≤ length P'
plan-within {o} {P} (made ms right solves) = written-within o (unrefused o (length P) right) ms solves P

pub length-within : (T : List ℕ) → whole_timetable_length T ≤ length T
length-within T = elim (dec_le 1 (whole_timetable_length T)) [
  | yes some ↦ ((timetable-length_found T).some some).0
  | no none ↦ omega (arith, lt_of_not-le none)
]

-- the timetable that the maker made is found in its buffer
pub found-made : (o p T v : List ℕ) → maker_answer o p (length T) ≡ accepted v → whole_timetable_length (buffer_after o p T) ≡ 0 → ⊥
unfolding maker_answer
found-made o p T v e none =
    let r = timetable_record (made_of o p) in
    let right = pass_up-low (plan_answer o p) _ v e in
    let whole = (record_well_packed (made_of o p) (made_packable o p right.0 right.1)).length_right in
    (timetable-length_found (buffer_after o p T)).none none r (drop (length r) T) (maker_record o p T v e).0 whole

-- the maker and the checker on an accepted plan
module _ (o p : List ℕ) (k : ℕ) (right : plan_answer o p ≡ accepted (k ∷ [])) (count : move_count p ≡ k)
    (T : List ℕ) (room : 3 * k + 3 ≤ length T) where
  answer : maker_answer o p (length T) ≡ accepted (greatest (timed (starts_of o) [] (plan_moves p)) ∷ [])
  unfolding maker_answer
  answer = pass_up_accepted (plan_answer o p) _ (k ∷ []) right ∙ rw (count, le-ltb (length T) (3 * k + 3) room) refl

  left : (buffer_after o p T ≡ timetable_record (made_of o p) ++ drop (length (timetable_record (made_of o p))) T) × Timetabled o p
  left = maker_record o p T _ answer

  timetable-alone : timetable_alone (buffer_after o p T) ≡ timetable_record (made_of o p)
  unfolding timetable_alone
  timetable-alone =
      let T' = buffer_after o p T in
      let r = timetable_record (made_of o p) in
      let whole = (record_well_packed (made_of o p) (made_packable o p (k ∷ []) right)).length_right in
      let long : whole_timetable_length T' ≡ length r = (timetable-length_found T').only r (drop (length r) T) left.0 whole in
      ap (take (whole_timetable_length T')) left.0 ∙ take_at r (drop (length r) T) (whole_timetable_length T') (sym long)

  judged_as : timetable_answer o (timetable_alone (buffer_after o p T))
      ≡ accepted (greatest (timed (starts_of o) [] (plan_moves p)) ∷ k ∷ [])
  judged_as =
      ap (timetable_answer o) timetable-alone
      ∙ left.1.checked
      ∙ ap (λ (j : ℕ). accepted (greatest (timed (starts_of o) [] (plan_moves p)) ∷ j ∷ [])) count

  unfoldable timetable_made : TimetableMade o p k T
  timetable_made =
      let short = left.1.short in
      record {
        steps = greatest (timed (starts_of o) [] (plan_moves p));
        made = answer;
        short = omega (arith, short, count);
        stands = left.0 ∙ sym (written_front T (timetable_record (made_of o p)));
        accepts = judged_as;
      }

  -- what was answered is what holds of the plan
  told : (s : ℕ) (c : Answer) (T' : List ℕ) → maker_answer o p (length T) ≡ accepted (s ∷ []) → T' ≡ buffer_after o p T
      → c ≡ timetable_answer o (timetable_alone T')
      → TimetableCalled o p k T (answered (accepted (s ∷ []))) (answered c) T'
  unfolding timetable_made
  told s c T' a e ec = record {
    timetable = timetable_made;
    made = ap answered (sym a ∙ answer);
    left = e;
    accepts = ap answered (ec ∙ ap (λ (B : List ℕ). timetable_answer o (timetable_alone B)) e ∙ judged_as);
  }

-- so it is of every accepted plan, whoever wrote it
pub every-timetable : (o p : List ℕ) (k : ℕ) → plan_answer o p ≡ accepted (k ∷ []) → (T : List ℕ) → 3 * k + 3 ≤ length T
    → TimetableMade o p k T
every-timetable o p k right =
    timetable_made o p k right (head-eq_of_cons-eq (((plan_replayed o).0 p (k ∷ [])).0 right).counted)

-- the plan, and what comes of it
module _ (o P : List ℕ) (can : Plannable o) (room : plan_room o ≤ length P)
    (ms : List (ℕ × ℕ)) (solves : Solves o (position_count o) ms) where
  right : plan_answer o (plan_of o ms) ≡ accepted (length ms ∷ [])
  right = plan_accepted o can ms solves

  count : move_count (plan_of o ms) ≡ length ms
  count = count_read o can ms solves

  unfoldable planned : Delivered o P (accepted (length ms ∷ [])) (written P 0 (plan_of o ms))
  unfolding plan_length
  planned = record {
    moves = length ms;
    plan = plan_of o ms;
    planned = refl;
    few = solves.few;
    long = plan_long o can ms solves P;
    stands = refl;
    edition_two = edition_read o can ms solves;
    replayed = rw (moves_read o can ms solves) solves.replayed;
    accepts = right;
    then = λ T h. timetable_made o (plan_of o ms) (length ms) right count T h;
  }

pub delivered : (o P : List ℕ) {a : Answer} {P' : List ℕ} → Delivers o P a P'
delivered o P can room (turned_down e) = absurd (never (sym (none_refuses o P can room) ∙ e))
delivered o P can room (made ms e solves) = planned o P can room ms solves

pub delivered_by : (o P T : List ℕ) {a : Answers} {P' T' : List ℕ} → Called o P T a P' T' → DeliversBy o P T a P' T'
unfolding planned
delivered_by o P T (unplanned (turned_down e)) can room = absurd (never (sym (none_refuses o P can room) ∙ e))
delivered_by o P T (untimed (made ms e solves) refusal left) can room =
    let p = plan_of o ms in
    let own : maker_answer o p (length T) ≡ refused _ _ = rw (plan-alone o can ms solves P) at refusal in
    record {
      delivered = planned o P can room ms solves;
      then = λ h. absurd (never (sym (answer o p (length ms) (right o P can room ms solves) (count o P can room ms solves) T h) ∙ own));
    }
delivered_by o P T (checked {s = s} {c = c} {T' = T'} (made ms e solves) a left ec) can room =
    let p = plan_of o ms in
    let own : maker_answer o p (length T) ≡ accepted (s ∷ []) = rw (plan-alone o can ms solves P) at a in
    let after : T' ≡ buffer_after o p T = rw (plan-alone o can ms solves P) at left in
    record {
      delivered = planned o P can room ms solves;
      then = λ h. told o p (length ms) (right o P can room ms solves) (count o P can room ms solves) T h s c T' own after ec;
    }

-- and what moves that solve the order let the three calls answer: the making rule's steps of them, and the same with their number
pub callable : (o P : List ℕ) → Plannable o → plan_room o ≤ length P → (ms : List (ℕ × ℕ)) → Solves o (position_count o) ms → (T : List ℕ)
    → 3 * length ms + 3 ≤ length T → (s : ℕ) → greatest (timed (starts_of o) [] ms) ≡ s
    → Called o P T
    (record {
      planner = accepted (length ms ∷ []);
      maker = answered (accepted (s ∷ []));
      checker = answered (accepted (s ∷ length ms ∷ []));
    })
    (written P 0 (plan_of o ms)) (buffer_after o (plan_of o ms) T)
callable o P can room ms solves T enough s e =
    let p = plan_of o ms in
    let alone = plan-alone o can ms solves P in
    let steps : greatest (timed (starts_of o) [] (plan_moves p)) ≡ s = rw (moves_read o can ms solves) e in
    let right' = right o P can room ms solves in
    let count' = count o P can room ms solves in
    let answer' : maker_answer o p (length T) ≡ accepted (s ∷ []) =
    answer o p (length ms) right' count' T enough ∙ ap (λ (x : ℕ). accepted (x ∷ [])) steps in
    let judged =
    judged_as o p (length ms) right' count' T enough ∙ ap (λ (x : ℕ). accepted (x ∷ length ms ∷ [])) steps in
    checked {s = s} {T' = buffer_after o p T} (made ms (none_refuses o P can room) solves) (rw alone answer') (rw alone refl) (sym judged)
