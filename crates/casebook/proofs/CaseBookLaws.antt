-- Laws of what specs/CaseBook.antt defines.
--
--     agrees c           the claim as a test that computes
--     every_case         every case of the table holds
-- Assumes nothing.
use Prim.Native.Nat.{ℕ, ◌+◌, ◌*◌, ◌≤◌}
use mathlib.Core.Path.{◌≡◌, refl, ap, ap₂, ◌∙◌}
use mathlib.Core.Bool.{Bool, true, false, ◌&&◌}
use mathlib.Core.List.{List, [], ◌∷◌, Memᴰ}
use native.Mathlib.Omega.{arith}
use borrow.Author.Tests.{le-ltb}
use lib.ListN.{length}
use lib.Dec.{T, eqb, eqb→eq}
use Rattle.answers.specs.Answer.{Answer, accepted, refused}
use Rattle.motion.specs.Step.{every}
use Rattle.motion.proofs.StepTestsLaws.{every_iff}
use Rattle.plan.specs.Plan.{move_count, plan_answer}
use Rattle.timetable.specs.Timetable.{timetable_record, timetable_answer}
use Rattle.timetable_check.proofs.Inhabited.{timetable_open}
use Rattle.scheduling.proofs.MakerCases.{maker_open}
use Rattle.scheduling.specs.Maker.{made_of, maker_answer, buffer_after}
use Rattle.motion.specs.Arrangement.{stands}
use Rattle.sets.specs.First.{first_from}
use Rattle.ring.specs.Circle.{place_on, round_of, follow, onward}
use Rattle.floor.specs.FloorAnswer.{bi_connected?, ring?, round_place, same_round?, floor_answer}
use Rattle.floor.specs.Sides.{count_of, four_sided?}
use Rattle.ring.proofs.RoundDecision.{rack?, in_turn?, same_order?}
use Rattle.planner.specs.Planner.{refusals, PlanMade}
use Rattle.planner.proofs.PlannerLaws.{never_refuses, turned_away}
use Rattle.casebook.specs.CaseBook.{Case, plan_checked, plan_made, timetable_checked, timetable_made, Made, Answers, Claim, starred}

-- lists of numbers, and answers, compared by tests that compute
same_list : List ℕ → List ℕ → Bool
same_list [] [] = true
same_list [] (y ∷ l) = false
same_list (x ∷ k) [] = false
same_list (x ∷ k) (y ∷ l) = eqb x y && same_list k l

same_answer : Answer → Answer → Bool
same_answer (accepted v) (accepted w) = same_list v w
same_answer (accepted v) (refused n p) = false
same_answer (refused n p) (accepted w) = false
same_answer (refused n p) (refused m q) = eqb n m && eqb p q

both : (a b : Bool) → T (a && b) → T a × T b
both true b t = (tt, t)
both false b t = absurd t

same_list_lem : (k l : List ℕ) → T (same_list k l) → k ≡ l
unfolding same_list
same_list_lem [] [] t = refl
same_list_lem [] (y ∷ l) t = absurd t
same_list_lem (x ∷ k) [] t = absurd t
same_list_lem (x ∷ k) (y ∷ l) t =
    let h = both (eqb x y) (same_list k l) t in
    ap₂ (λ (z : ℕ) (r : List ℕ). z ∷ r) (eqb→eq x y h.0) (same_list_lem k l h.1)

same_answer_lem : (a b : Answer) → T (same_answer a b) → a ≡ b
unfolding same_answer
same_answer_lem (accepted v) (accepted w) t = ap accepted (same_list_lem v w t)
same_answer_lem (accepted v) (refused n p) t = absurd t
same_answer_lem (refused n p) (accepted w) t = absurd t
same_answer_lem (refused n p) (refused m q) t = let h = both (eqb n m) (eqb p q) t in ap₂ refused (eqb→eq n m h.0) (eqb→eq p q h.1)

-- a buffer that is longer than 44 asks for changes nothing
made_longer : (o p : List ℕ) (s : ℕ) (t : List ℕ)
    → maker_answer o p (3 * move_count p + 3) ≡ accepted (s ∷ []) → timetable_record (made_of o p) ≡ t
    → (B : List ℕ) → 3 * move_count p + 3 ≤ length B → Made o p s t B
unfolding maker_answer buffer_after
made_longer o p s t e r B room =
    let enough = 3 * move_count p + 3 in
    let same : maker_answer o p (length B) ≡ maker_answer o p enough =
    rw (le-ltb (length B) enough room, le-ltb enough enough (omega arith)) refl in
    record { answer = same ∙ e; buffer = rw (same ∙ e, r) refl }

answers : (o : List ℕ) (n : ℕ) (a : Answer) → refusals o n ≡ a
    → (B : List ℕ) → length B ≡ n → (b : Answer) (B' : List ℕ) → PlanMade o B b B' → Answers o B a b B'
answers o n (accepted v) e B long b B' given = never_refuses o B v (ap (refusals o) long ∙ e) given
answers o n (refused k p) e B long b B' given = turned_away o B (ap (refusals o) long ∙ e) given

agrees : Case → Bool
agrees (plan_checked order plan a) = same_answer (plan_answer order plan) a
agrees (timetable_checked order timetable a) = same_answer (timetable_answer order timetable) a
agrees (timetable_made order plan steps timetable) =
    same_answer (maker_answer order plan (3 * move_count plan + 3)) (accepted (steps ∷ []))
    && same_list (timetable_record (made_of order plan)) timetable
agrees (plan_made order buffer a) = same_answer (refusals order buffer) a

agrees_claims : (c : Case) → T (agrees c) → Claim c
unfolding agrees
agrees_claims (plan_checked order plan a) t = same_answer_lem (plan_answer order plan) a t
agrees_claims (timetable_checked order timetable a) t = same_answer_lem (timetable_answer order timetable) a t
agrees_claims (timetable_made order plan steps timetable) t =
    let answer = maker_answer order plan (3 * move_count plan + 3) in
    let h = both (same_answer answer (accepted (steps ∷ []))) (same_list (timetable_record (made_of order plan)) timetable) t in
    made_longer order plan steps timetable (same_answer_lem answer (accepted (steps ∷ [])) h.0)
    (same_list_lem (timetable_record (made_of order plan)) timetable h.1)
agrees_claims (plan_made order buffer a) t = let e = same_answer_lem (refusals order buffer) a t in (e, answers order buffer a e)

-- the one computed test
all_agree : T (every agrees starred)
unfolding starred every agrees same_answer same_list refusals floor_answer bi_connected? ring? four_sided? count_of same_round? round_place
    same_order? rack? in_turn? place_on round_of follow onward first_from stands maker_open timetable_open
all_agree = tt

-- the one lemma
pub every_case : (c : Case) → Memᴰ c starred → Claim c
every_case c m = agrees_claims c (every_is starred all_agree m)
  where
    every_is : (l : List Case) → T (every agrees l) → Memᴰ c l → T (agrees c)
    every_is l t m = (every_iff agrees l).0 t c m
