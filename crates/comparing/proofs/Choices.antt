-- What the planner leaves: the proved method's plan, or the search's in its place.
--
--     plan-length          a planned record is as long as its count of moves says
--     kept_front           of the bytes that were kept the front is the buffer's
--     put_back             a record is written over by what stood there, and the buffer is as it was
--     planned-plan         the planned record stands at the buffer's front, and the plan checker accepts it
--     improved_fits        a plan that improves on it has room in the buffer
--     chosen-made          a plan that improves on one that the planner may give is one that it may give
--     bytes-by             what fits a byte everywhere are bytes
--     left, replaced       the plan that stays, and the plan that takes its place
--     one_to_give          whatever is chosen is a plan that the planner may give
-- Assumes nothing.
use Prim.Native.Nat.{ℕ, suc, ◌+◌, ◌*◌, ◌/◌, ◌≤◌, ◌<◌}
use mathlib.Core.Path.{◌≡◌, refl, sym, ap, ◌∙◌, subst}
use mathlib.Core.Bool.{true, false}
use mathlib.Core.List.{List, [], ◌∷◌, ◌++◌}
use native.Mathlib.Omega.{arith}
use lib.Dec.{ltb}
use borrow.Author.Tests.{ltb-false}
use lib.ListN.{length, get_or, take, drop, length-take, take-append-drop}
use lib.Seq.{take_at, drop_at, take-append-le, take-take}
use Rattle.answers.specs.Answer.{Answer, accepted, refuse}
use Rattle.answers.proofs.AnswerLaws.{pass_up-high}
use Rattle.field.specs.Bytes.{Bytes, none, more}
use Rattle.field.specs.Listed.{move_size}
use Rattle.field.specs.Units.{record_length}
use Rattle.field.specs.Writing.{written, Fits}
use Rattle.field.proofs.WritingLaws.{written_front, length-written}
use Rattle.order.specs.Order.{position_count, starts_of, goals_of, floor_of}
use Rattle.motion.specs.Replay.{listed}
use Rattle.motion.proofs.Lawful.{replay_moves_ended}
use Rattle.plan.specs.Plan.{plan_bytes, plan_record, named, move_count, plan_moves, plan_answer}
use Rattle.plan_check.proofs.Accepted.{PlanGave, plan_gave}
use Rattle.plan.proofs.PlanRecord.{length_record, moves-counted, record_read}
use Rattle.plan_check.proofs.SizeLaws.{record_fits}
use Rattle.floor.specs.FloorAnswer.{floor_answer}
use Rattle.method.specs.Moves.{Solves}
use Rattle.planner.specs.Planner.{refusals, PlanMade, made}
use Rattle.planner.proofs.PlannerLaws.{unrefused, plan_accepted, count_read}
use Rattle.comparing.specs.Choosing.{Improves, Chosen, as_planned, improved}
use Rattle.comparing.specs.Overwriting.{Overwritten}

-- bytes that were kept and put back
pub kept_front : (B K : List ℕ) (n m : ℕ) → n ≤ m → m ≤ length B → take n (written K 0 (take m B)) ≡ take n B
kept_front B K n m h fits =
    ap (take n) (written_front K (take m B))
    ∙ take-append-le n (take m B) (drop (length (take m B)) K) (simp length-take (omega arith))
    ∙ take-take n m B h

pub put_back : (B r : List ℕ) → length r ≤ length B → written (written B 0 r) 0 (take (length r) B) ≡ B
put_back B r fits =
    let long : length (take (length r) B) ≡ length r = simp length-take (omega arith) in
    written_front (written B 0 r) (take (length r) B)
    ∙ ap (λ (l : List ℕ). take (length r) B ++ l)
    (ap (λ (n : ℕ). drop n (written B 0 r)) long ∙ ap (drop (length r)) (written_front B r)
    ∙ drop_at r (drop (length r) B) (length r) refl)
    ∙ take-append-drop (length r) B

-- a plan that was made, with its moves
pub record Standing (o B : List ℕ) (k : ℕ) (B' : List ℕ) : Type 0 where
  pub plan : List ℕ
  pub room : length plan ≤ length B
  pub long : length plan ≡ 3 + (9 * k + 3) / 4
  pub stands : B' ≡ written B 0 plan
  pub front : take (length plan) B' ≡ plan
  pub counted : move_count plan ≡ k
  pub checked : plan_answer o plan ≡ accepted (move_count plan ∷ [])
  pub passed : refusals o (length B) ≡ accepted []
  pub still : starts_of o ≡ goals_of o → k ≡ 0

measured : (o B : List ℕ) → refusals o (length B) ≡ accepted []
    → 18 * (position_count o * (position_count o * position_count o)) + 3 ≤ length B
unfolding refusals
measured o B e =
    let n = position_count o in
    let high = pass_up-high (floor_answer o) (refuse (ltb (length B) (18 * (n * (n * n)) + 3)) 23 0 (accepted [])) [] e in
    ltb-false (length B) (18 * (n * (n * n)) + 3) (not_refused (ltb (length B) (18 * (n * (n * n)) + 3)) high)
  where
    not_refused : (t : _) → refuse t 23 0 (accepted []) ≡ accepted [] → t ≡ false
    not_refused true e = absurd (let z : ◌≡◌ {A = ℕ} 0 1 = cc in omega arith)
    not_refused false e = refl

pub standing : {o B : List ℕ} {k : ℕ} {B' : List ℕ} → PlanMade o B (accepted (k ∷ [])) B' → Standing o B k B'
standing {o} {B} (made ms right solves) =
    let r = plan_record true (starts_of o) ms in
    let can = unrefused o (length B) right in
    let fits : length r ≤ length B = omega (arith, record_fits (position_count o) (starts_of o) ms solves.few, measured o B right) in
    let count : move_count r ≡ length ms = count_read o can ms solves in
    record {
      plan = r;
      room = fits;
      long = length_record true (starts_of o) ms ∙ (unfold record_length move_size in omega arith);
      stands = refl;
      front = ap (take (length r)) (written_front B r) ∙ take_at r (drop (length r) B) (length r) refl;
      counted = count;
      checked = plan_accepted o can ms solves ∙ ap (λ (n : ℕ). accepted (n ∷ [])) (sym count);
      passed = right;
      still = λ e. ap length (solves.still e);
    }

-- the moves of a plan that improves on it solve the order
module _ (o B : List ℕ) (k : ℕ) (B' : List ℕ) (s : Standing o B k B') (some : 0 < k) (q : List ℕ) (bytes : Bytes q)
    (i : Improves o s.plan q) where
  gave : PlanGave o q (move_count q ∷ [])
  gave = plan_gave o q (move_count q ∷ []) i.checked

  is_record : q ≡ plan_record true (starts_of o) (plan_moves q)
  unfolding plan_record
  is_record =
      sym (record_read q bytes gave.length_right gave.padding_clear)
      ∙ ap (plan_bytes (named q)) gave.racks_told
      ∙ ap (λ (e : _). plan_bytes e (listed e (starts_of o) (plan_moves q))) i.edition_two

  few : length (plan_moves q) ≤ 8 * (position_count o * (position_count o * position_count o))
  few = rw moves-counted i.few

  solves : Solves o (position_count o) (plan_moves q)
  solves = record {
    few = few;
    replayed = (replay_moves_ended (floor_of o) (starts_of o) (plan_moves q) (goals_of o)).1 gave.leads;
    still = λ e. absurd (omega (arith, s.still e));
  }

  pub improved_fits : Fits B 0 q
  improved_fits = record {
    room = omega (
      arith,
      ap length is_record,
      record_fits (position_count o) (starts_of o) (plan_moves q) few,
      measured o B s.passed,
    );
  }

  pub chosen-made : PlanMade o B (accepted (move_count q ∷ [])) (written B 0 q)
  chosen-made =
      subst (λ (l : List ℕ). PlanMade o B (accepted (move_count q ∷ [])) (written B 0 l)) (sym is_record)
      (subst (λ (n : ℕ). PlanMade o B (accepted (n ∷ [])) (written B 0 (plan_record true (starts_of o) (plan_moves q)))) (moves-counted q)
      (made (plan_moves q) s.passed solves))

pub bytes-by : (l : List ℕ) → ((i : ℕ) → get_or l i 0 < 256) → Bytes l
bytes-by [] fit = none
bytes-by (x ∷ l) fit = more (fit 0) (bytes-by l (λ i. fit (suc i)))

-- the plan that stands there, and what takes its place
module _ (o B f : List ℕ) (k : ℕ) (b : List ℕ) (w : Overwritten o B f k b) where
  abbrev stood : Standing o B k b
  stood = standing w.plan_made

  length_is : length stood.plan ≡ length f
  length_is = stood.long ∙ sym w.long

  pub lengths : (length f ≤ length b) × (length f ≤ length B) × (length b ≡ length B)
  lengths =
      let fits : Fits B 0 stood.plan = record { room = omega (arith, stood.room) } in
      let same : length b ≡ length B = ap length stood.stands ∙ length-written B 0 stood.plan fits in
      (omega (arith, length_is, stood.room), omega (arith, length_is, stood.room), same)

  pub front_plan : take (length f) b ≡ stood.plan
  front_plan = ap (λ (n : ℕ). take n b) (sym length_is) ∙ stood.front

  pub front_checked : plan_answer o (take (length f) b) ≡ accepted (move_count (take (length f) b) ∷ [])
  front_checked = rw front_plan stood.checked

  pub stays : Chosen o B (accepted (k ∷ [])) b
  stays = as_planned w.plan_made

  back : written b 0 f ≡ B
  back =
      ap (written b 0) (w.front ∙ ap (λ (n : ℕ). take n B) (sym length_is))
      ∙ ap (λ (l : List ℕ). written l 0 (take (length stood.plan) B)) stood.stands
      ∙ put_back B stood.plan stood.room

  module _ (q : List ℕ) (bytes : Bytes q) (i : Improves o (take (length f) b) q) where
    better : Improves o stood.plan q
    better = subst (λ (p : List ℕ). Improves o p q) front_plan i

    pub found_room : {x : List ℕ} → x ≡ f → length q ≤ length (x ++ drop (length f) b)
    found_room e =
        let fits = improved_fits o B k b stood w.some q bytes better in
        rw (e, ← written_front b f, back) (omega (arith, fits.room))

    pub found_taken : {x : List ℕ} → x ≡ f → length (take (length q) (x ++ drop (length f) b)) ≡ length q
    found_taken {x} e = let room = found_room e in omega (arith, length-take (length q) (x ++ drop (length f) b), room)

    pub replaced : {x y : List ℕ} → x ≡ f → y ≡ q
        → Chosen o B (accepted (move_count q ∷ [])) (y ++ drop (length q) (x ++ drop (length f) b))
    replaced ex ey =
        rw (ex, ey, ← written_front b f, back, ← written_front B q)
        (improved stood.plan q
        (subst (λ (n : ℕ). PlanMade o B (accepted (n ∷ [])) (written B 0 stood.plan)) (sym stood.counted)
        (subst (PlanMade o B (accepted (k ∷ []))) stood.stands w.plan_made))
        better (chosen-made o B k b stood w.some q bytes better))

pub one_to_give : {o B B' : List ℕ} {a : Answer} → Chosen o B a B' → PlanMade o B a B'
one_to_give (as_planned plan_made) = plan_made
one_to_give (improved p q first _ second) = second
