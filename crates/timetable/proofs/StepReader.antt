-- The step reader.
--
--     step_zero, step_above, step_there    45, above an accepted reading
--     stands_on, stands_there              the walk to a step, steps counted from 1
--     not-found, found                     the step reader's answer, above that of 45
--     part_given_lem                           the part that is given back
-- Assumes nothing.
use Prim.Native.Nat.{ℕ, ◌+◌, ◌-◌, ◌≤◌, ◌<◌}
use mathlib.Core.Path.{◌≡◌, refl, sym, ap, ap₂, ◌∙◌}
use mathlib.Core.Bool.{◌||◌, or-true}
use mathlib.Core.List.{List, [], ◌∷◌}
use native.Mathlib.Omega.{arith}
use borrow.Author.Tests.{eq-eqb, ne_eqb, lt-ltb, le-ltb}
use lib.ListN.{length, get_or, take, drop}
use lib.Dec.{ltb, eqb}
use Rattle.std.specs.Prelude.{Result, IsErrAnd}
use Rattle.answers.specs.Answer.{accepted, refused, refused_by, refuse}
use Rattle.answers.specs.declared.Refusal.{Refusal}
use Rattle.answers.proofs.AnswerLaws.{pass_up_accepted, handed_up}
use Rattle.timetable.specs.Timetable.{step_length, step_count, steps_length, offset, step_part, step_answer}
use Rattle.timetable.specs.declared.Part.{Part}
use Rattle.timetable.specs.Reading.{told, reading_answer, number_answer, part_given, answer_of_step}
use Rattle.timetable.proofs.StepLaws.{length-part_at}
use Rattle.timetable.proofs.ReadingLaws.{reading_gave, step_answer_is, Stands, stands-next, stands_room, step_room, step_part_is}
use Rattle.timetable.proofs.HandedOut.{Has, given_part}

module _ (s : List ℕ) (i x y : ℕ) (a : accepted (x ∷ y ∷ []) ≡ reading_answer s) where
  over : number_answer s i ≡ refuse (eqb i 0 || ltb (step_count s) i) 45 0 (reading_answer s)
  unfolding number_answer
  over = pass_up_accepted (reading_answer s) _ (x ∷ y ∷ []) (sym a)

  steps_are : x ≡ step_count s
  steps_are = cc (reading_gave s (x ∷ y ∷ []) (sym a))

  pub step_zero : i ≡ 0 → refused 45 0 ≡ number_answer s i
  step_zero z = sym (over ∙ rw (eq-eqb i 0 z) refl)

  pub step_above : x < i → refused 45 0 ≡ number_answer s i
  step_above h = sym (over ∙ simp (lt-ltb (step_count s) i (omega (arith, steps_are)), or-true))

  pub step_there : (i ≡ 0 → ⊥) → i ≤ x → accepted (x ∷ y ∷ []) ≡ number_answer s i
  step_there d h = a ∙ sym (over ∙ rw (ne_eqb i 0 d, le-ltb (step_count s) i (omega (arith, steps_are))) refl)

-- from step i to step i + 1
pub stands_on : (s : List ℕ) (i at n : ℕ) → 1 ≤ i → i ≤ step_count s → Stands s (i - 1) at → n ≡ step_length (get_or s at 0)
    → Stands s (i + 1 - 1) (at + n)
stands_on s i at n low high stands e =
    let same : i - 1 + 1 ≡ i + 1 - 1 = omega arith in
    rw (← same, e) (stands-next s (i - 1) at stands (omega arith))

-- where the walk ends
pub stands_there : (s : List ℕ) (k i at : ℕ) → 1 ≤ i → i ≤ k → k ≤ step_count s → k ≤ i → Stands s (i - 1) at
    → (at ≡ offset s k) × (at < length s)
unfolding offset
stands_there s k i at low high within up stands =
    let same : i ≡ k = omega arith in (
      stands.begins_at_lem ∙ ap (λ (n : ℕ). 3 + steps_length (n - 1) (drop 3 s)) same,
      (stands_room s (i - 1) at stands (omega arith)).begins,
    )

module _ (s : List ℕ) (i : ℕ) where
  -- r is what `?` makes of the refusal e of 40, 41 or 45
  pub not_found : (r : Result Part Refusal) (e : Refusal) → IsErrAnd r (λ x. x ≡ e) → refused_by e.0 e.1 ≡ number_answer s i
      → answer_of_step r ≡ step_answer s i
  not_found r e is down = handed_up told r e is down _ ∙ sym (step_answer_is s i)

  module _ (has : Has s i) (at n : ℕ) (there : at ≡ offset s i) (e : n ≡ step_length (get_or s at 0)) where
    length_is : n ≡ length (step_part s i)
    length_is =
        e ∙ ap (λ (b : ℕ). step_length (get_or s b 0)) there
        ∙ sym
        (ap length (step_part_is s has.length_right i has.low has.high)
        ∙ length-part_at s (offset s i) (step_room s has.length_right i has.low has.high))

    pub found : (v : List ℕ) → accepted v ≡ number_answer s i → accepted (at ∷ n ∷ []) ≡ step_answer s i
    found v g =
        ap₂ (λ (b m : ℕ). accepted (b ∷ m ∷ [])) there length_is
        ∙ sym (step_answer_is s i ∙ pass_up_accepted (number_answer s i) _ v (sym g))

  -- the part that the code cuts out
  pub part_given_lem : (at n : ℕ) → step_answer s i ≡ accepted (at ∷ n ∷ []) → take (at + n - at) (drop at s) ≡ part_given s i
  part_given_lem at n e =
      let size : at + n - at ≡ n = omega arith in
      ap (λ (m : ℕ). take m (drop at s)) size ∙ sym (given_part s i at n e)
