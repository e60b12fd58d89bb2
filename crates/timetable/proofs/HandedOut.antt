-- The step that is handed out: the two functions of the step reader answer the same.
--
--     Has s i, number_gave       what it tells that step i is not refused by its number
--     given_has                  the same, of a step whose answer is accepted
--     given_at, given_length     an accepted answer's values: where the part begins, and how long it is
--     end_within                 the part lies in the timetable
--     given_part, given_place    the part given back is the one that the answer names: its bytes, and where they stand
--     given_some, given_none     so it is empty just where the step is refused
--     none_place                 the empty part stands at the timetable's first byte
-- Assumes nothing.
use Prim.Native.Nat.{ℕ, ◌+◌, ◌≤◌}
use mathlib.Core.Path.{◌≡◌, sym, ap, ◌∙◌, subst}
use mathlib.Core.Bool.{false, ◌||◌}
use mathlib.Core.List.{List, [], ◌∷◌}
use native.Mathlib.Omega.{arith}
use borrow.Author.Tests.{eqb-false, ltb-false}
use lib.ListN.{length, get_or, take, drop}
use lib.Dec.{ltb, eqb}
use Rattle.answers.specs.Answer.{Answer, accepted, refused, refuse, pass_up}
use Rattle.answers.proofs.AnswerLaws.{refuse_not, pass_up-low, pass_up-high}
use Rattle.field.proofs.UnitLaws.{or_left, or_right}
use Rattle.timetable.specs.Timetable.{step_length, step_count, wrong_timetable_length, offset, step_part, step_answer}
use Rattle.timetable.specs.Reading.{reading_answer, number_answer, given_by, begins_at, part_given, place_given}
use Rattle.timetable.proofs.StepLaws.{part_at, step_length-some, Room, length-part_at}
use Rattle.timetable.proofs.ReadingLaws.{well_packed, step_answer_is, step_room, step_part_is}

pub record Has (s : List ℕ) (i : ℕ) : Type 0 where
  pub length_right : wrong_timetable_length s ≡ false
  pub low : 1 ≤ i
  pub high : i ≤ step_count s

module _ (s : List ℕ) (i : ℕ) where
  pub number_gave : (v : List ℕ) → accepted v ≡ number_answer s i → Has s i
  unfolding number_answer
  number_gave v told =
      let e = sym told in
      let above = refuse (eqb i 0 || ltb (step_count s) i) 45 0 (reading_answer s) in
      let below = pass_up-low (reading_answer s) above v e in
      let right : (eqb i 0 || ltb (step_count s) i) ≡ false =
      refuse_not _ 45 0 (reading_answer s) v (pass_up-high (reading_answer s) above v e) in
      let some : (i ≡ 0 → ⊥) = eqb-false i 0 (or_left (eqb i 0) (ltb (step_count s) i) right) in
      record {
        length_right = (well_packed s below.0 below.1).length_right;
        low = omega arith;
        high = ltb-false (step_count s) i (or_right (eqb i 0) (ltb (step_count s) i) right);
      }

  pub given_none : (n p : ℕ) → step_answer s i ≡ refused n p → part_given s i ≡ []
  unfolding part_given
  given_none n p e = rw e

  pub none_place : (n p : ℕ) → step_answer s i ≡ refused n p → (q : ℕ × ℕ) → place_given q s i ≡ (q.0, 0 + q.1)
  unfolding place_given
  none_place n p e q = ap (λ (b : Answer). (q.0, begins_at b + q.1)) e

  module _ (at n : ℕ) (e : step_answer s i ≡ accepted (at ∷ n ∷ [])) where
    above : pass_up (number_answer s i) (accepted (offset s i ∷ length (step_part s i) ∷ [])) ≡ accepted (at ∷ n ∷ [])
    above = sym (step_answer_is s i) ∙ e

    same : accepted (offset s i ∷ length (step_part s i) ∷ []) ≡ accepted (at ∷ n ∷ [])
    same = pass_up-high (number_answer s i) _ (at ∷ n ∷ []) above

    pub given_has : Has s i
    given_has =
        let low = pass_up-low (number_answer s i) _ (at ∷ n ∷ []) above in
        number_gave low.0 (sym low.1)

    pub given_at : offset s i ≡ at
    given_at = cc same

    fits : Room s at
    fits = subst (Room s) given_at (step_room s given_has.length_right i given_has.low given_has.high)

    part_is : step_part s i ≡ part_at s at
    part_is = step_part_is s given_has.length_right i given_has.low given_has.high ∙ ap (part_at s) given_at

    pub given_length : n ≡ step_length (get_or s at 0)
    given_length =
        let n_is : length (step_part s i) ≡ n = cc same in
        sym n_is ∙ ap length part_is ∙ length-part_at s at fits

    pub end_within : at + n ≤ length s
    end_within = omega (arith, given_length, fits.ends)

    pub given_part : part_given s i ≡ take n (drop at s)
    unfolding part_given
    given_part = ap (λ (b : Answer). given_by b (step_part s i)) e ∙ part_is ∙ ap (λ (m : ℕ). take m (drop at s)) (sym given_length)

    pub given_place : (q : ℕ × ℕ) → place_given q s i ≡ (q.0, at + q.1)
    unfolding place_given
    given_place q = ap (λ (b : Answer). (q.0, begins_at b + q.1)) e

    pub given_some : 1 ≤ length (part_given s i)
    unfolding part_given
    given_some =
        let size : length (part_given s i) ≡ step_length (get_or s at 0) =
        ap (λ (b : Answer). length (given_by b (step_part s i))) e ∙ ap length part_is ∙ length-part_at s at fits in
        omega (arith, size, step_length-some (get_or s at 0))
