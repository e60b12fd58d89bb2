-- Laws of what the plan program writes.
--
--     record_length_lem               a plan's record has the length that the count of its moves gives
--     text_made                   after acceptance the text is the plan's record
--     made_printed, refused_printed    the two ways in which the program ends
--     line_printed                where one of the planner's refusals applies, its line may be written
--     printed_text, printed_rest  the bytes written are the text, and behind them every byte stays
--     printed_plan                an order that can be planned, of at most 15 positions: its plan is written; the plan checker accepts it
--     printed_large               one of 16 positions or more: refused 23 0 floor
--     printed_refused             any other order: the line of its refusal, 10 to 14, 20, 21 or 24
-- Assumes nothing.
use Prim.Native.Nat.{ℕ, ◌+◌, ◌*◌, ◌/◌, ◌≤◌, ◌<◌}
use mathlib.Core.Path.{◌≡◌, refl, sym, ap, subst, ◌∙◌}
use mathlib.Core.Bool.{true}
use mathlib.Core.List.{List, [], ◌∷◌, ◌++◌}
use native.Mathlib.Nat.{mul-le-mul_right, zero-add}
use native.Mathlib.Omega.{arith}
use borrow.Author.Tests.{lt-ltb, le-ltb}
use lib.Dec.{ltb}
use lib.ListN.{length, take, drop}
use lib.Seq.{take_at}
use Rattle.answers.specs.Answer.{Answer, accepted, refused, refuse}
use Rattle.field.specs.Units.{record_length}
use Rattle.field.specs.Listed.{move_size}
use Rattle.field.specs.Writing.{written, Wrote}
use Rattle.field.proofs.WritingLaws.{written_front, wrote_as}
use Rattle.order.specs.Order.{position_count, starts_of}
use Rattle.motion.specs.Arrangement.{Arrangement}
use Rattle.plan.specs.Plan.{plan_record, plan_answer}
use Rattle.plan.proofs.PlanRecord.{length_record}
use Rattle.writers.specs.Lines.{refusal_line}
use Rattle.floor.specs.FloorAnswer.{floor_answer}
use Rattle.floor.specs.Plannable.{Plannable}
use Rattle.floor.proofs.FloorLaws.{plannable_is}
use Rattle.planner.specs.Planner.{refusals, PlanMade, turned_down, made}
use Rattle.planner.proofs.PlannerLaws.{unrefused, plan_accepted}
use Rattle.plan_program.specs.Printed.{plan_text, Printed, PlanPrinted}

-- the front of what is written there is what was written
front : (s l : List ℕ) (n : ℕ) → length l ≡ n → take n (written s 0 l) ≡ l
front s l n e = ap (take n) (written_front s l) ∙ take_at l (drop (length l) s) n e

module _ (A : Arrangement) (ms : List (ℕ × ℕ)) where
  pub record_length_lem : length (plan_record true A ms) ≡ record_length (3 * length ms)
  unfolding move_size
  record_length_lem = length_record true A ms

  pub text_made : (B : List ℕ) → plan_text (accepted (length ms ∷ [])) (written B 0 (plan_record true A ms)) ≡ plan_record true A ms
  text_made B = front B (plan_record true A ms) (record_length (3 * length ms)) record_length_lem

module _ {s B : List ℕ} (lent : length B ≡ 65536) where
  pub made_printed : {B' : List ℕ} {k n : ℕ} → PlanMade s B (accepted (k ∷ [])) B' → n ≡ 3 + (18 * k + 7) / 8 → Printed s B B' n
  unfolding record_length
  made_printed (made ms right solves) e =
      let text = text_made (starts_of s) ms B in
      record {
        answer = accepted (length ms ∷ []);
        left = written B 0 (plan_record true (starts_of s) ms);
        lent = lent;
        planned = made ms right solves;
        wrote = record {
          bytes_are = ap (written B 0) (sym text);
          next_is = let l = record_length_lem (starts_of s) ms in let t = ap length text in omega arith;
        };
      }

  pub refused_printed : {B' out : List ℕ} {j k q n : ℕ} → PlanMade s B (refused k q) B' → Wrote B' 0 (refusal_line j q) out n → j ≡ k
      → Printed s B out n
  refused_printed {k = k} {q = q} (turned_down e) w same = record {
    answer = refused k q;
    left = B;
    lent = lent;
    planned = turned_down {number = k} {place = q} e;
    wrote = wrote_as (ap (λ (j : ℕ). refusal_line j q) same) w;
  }

  pub line_printed : {k q : ℕ} → refusals s 65536 ≡ refused k q → Printed s B (written B 0 (refusal_line k q)) (length (refusal_line k q))
  line_printed {k} {q} e =
      refused_printed (turned_down {number = k} {place = q} (ap (refusals s) lent ∙ e))
      (record { bytes_are = refl; next_is = sym (zero-add (length (refusal_line k q))) })
      refl

module _ {s out out' : List ℕ} {n : ℕ} (p : Printed s out out' n) where
  size : length (plan_text p.answer p.left) ≡ n
  size = let w = p.wrote.next_is in omega arith

  pub printed_text : take n out' ≡ plan_text p.answer p.left
  printed_text = ap (take n) p.wrote.bytes_are ∙ front out (plan_text p.answer p.left) n size

  pub printed_rest : out' ≡ take n out' ++ drop n out
  printed_rest =
      p.wrote.bytes_are
      ∙ written_front out (plan_text p.answer p.left)
      ∙ rw (size, printed_text) refl

-- 18 × 15 × 15 × 15 + 3 bytes are 60,753
cube_most : (n : ℕ) → n ≤ 15 → 18 * (n * (n * n)) + 3 ≤ 65536
cube_most n few =
    let square : n * n ≤ 15 * n = mul-le-mul_right n few in
    let cube : n * (n * n) ≤ 15 * (n * n) = mul-le-mul_right (n * n) few in
    omega arith

-- 18 × 16 × 16 × 16 + 3 bytes are 73,731
cube_least : (n : ℕ) → 16 ≤ n → 65536 < 18 * (n * (n * n)) + 3
cube_least n many =
    let square : 16 * n ≤ n * n = mul-le-mul_right n many in
    let cube : 16 * (n * n) ≤ n * (n * n) = mul-le-mul_right (n * n) many in
    omega arith

module _ (s : List ℕ) where
  -- above the floor judge's answer there is 23 alone
  measured : Plannable s → (b : ℕ)
      → refusals s b ≡ refuse (ltb b (18 * (position_count s * (position_count s * position_count s)) + 3)) 23 0 (accepted [])
  unfolding refusals
  measured can b = rw (plannable_is s can) refl

  passed_up : {k q : ℕ} → floor_answer s ≡ refused k q → (b : ℕ) → refusals s b ≡ refused k q
  unfolding refusals
  passed_up e b = rw e refl

  never : {k q : ℕ} {a : Answer} → a ≡ accepted [] → a ≡ refused k q → ⊥
  never e f = let z : ◌≡◌ {A = ℕ} 0 1 = cc in omega arith

  -- the text of a plan, where none of the planner's refusals applies
  text_plan : {B B' : List ℕ} {a : Answer} → refusals s (length B) ≡ accepted [] → PlanMade s B a B' → PlanPrinted s (plan_text a B')
  text_plan none (turned_down e) = absurd (never none e)
  text_plan {B} none (made ms right solves) =
      let can = unrefused s (length B) right in
      let text = text_made (starts_of s) ms B in
      record {
        moves = ms;
        is = text;
        solves = solves;
        checked = ap (plan_answer s) text ∙ plan_accepted s can ms solves;
      }

  -- and a refusal's, where one does
  text_refused : {B B' : List ℕ} {a : Answer} {k q : ℕ} → refusals s (length B) ≡ refused k q → PlanMade s B a B'
      → plan_text a B' ≡ refusal_line k q
  text_refused {B} {B'} one (turned_down {number} {place} e) = ap (λ (x : Answer). plan_text x B') (sym e ∙ one)
  text_refused one (made ms right solves) = absurd (never right one)

module _ {s out out' : List ℕ} {n : ℕ} (p : Printed s out out' n) where
  pub printed_plan : Plannable s → position_count s ≤ 15 → PlanPrinted s (take n out')
  printed_plan can few =
      let none : refusals s (length out) ≡ accepted [] =
      measured s can (length out) ∙ rw (p.lent, le-ltb 65536 _ (cube_most (position_count s) few)) refl in
      subst (PlanPrinted s) (sym (printed_text p)) (text_plan s none p.planned)

  pub printed_large : Plannable s → 16 ≤ position_count s → take n out' ≡ refusal_line 23 0
  printed_large can many =
      let short : refusals s (length out) ≡ refused 23 0 =
      measured s can (length out) ∙ rw (p.lent, lt-ltb 65536 _ (cube_least (position_count s) many)) refl in
      printed_text p ∙ text_refused s short p.planned

  pub printed_refused : {k q : ℕ} → floor_answer s ≡ refused k q → take n out' ≡ refusal_line k q
  printed_refused e = printed_text p ∙ text_refused s (passed_up s e (length out)) p.planned
