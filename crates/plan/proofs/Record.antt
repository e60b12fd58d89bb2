-- The record reader's answer, from the facts that its tests leave: k is the count, and q how many fields the moves have.
--
--     Measured p k q, measured                             k is the count of the plan p, and its moves have q fields
--     short, wrong_length_lem, wrong_spare, padding, sound     the answer at each return
--     fitted                                               what its calls ask
-- Assumes nothing.
use Prim.Native.Nat.{ℕ, ◌*◌, ◌≤◌, ◌<◌}
use mathlib.Core.Path.{◌≡◌, refl, sym, ap, ◌∙◌}
use mathlib.Core.Bool.{Bool, true, false, not, or-true}
use mathlib.Core.List.{List, [], ◌∷◌}
use borrow.Author.Tests.{not-true, not-false, lt-ltb, le-ltb}
use native.Mathlib.Omega.{arith}
use lib.ListN.{length}
use Rattle.answers.specs.Answer.{accepted, refused}
use Rattle.field.specs.Bits.{field}
use Rattle.field.specs.Listed.{move_size}
use Rattle.field.specs.Units.{misfits, pad_set}
use Rattle.field.proofs.UnitLaws.{misfits_short}
use Rattle.plan.specs.Plan.{named, move_count, plan_units, wrong_plan_length, plan_padding_set}
use Rattle.plan.specs.Readers.{record_answer}

pub short : (p : List ℕ) → length p < 3 → refused 30 0 ≡ record_answer p
unfolding record_answer wrong_plan_length
short p h = simp (misfits_short p (plan_units p) h)

pub record Measured (p : List ℕ) (k q : ℕ) : Type 0 where
  pub count : k ≡ field p 0 22
  pub units_are : q ≡ plan_units p

pub measured : {p : List ℕ} {k q : ℕ} {e : Bool} → k ≡ field p 0 22 → e ≡ named p → q ≡ move_size e * k → Measured p k q
unfolding plan_units move_count
measured count edition units = record { count = count; units_are = units ∙ rw (edition, count) refl }

module _ {p : List ℕ} {k q : ℕ} (m : Measured p k q) where
  module _ {f : Bool} (t : f ≡ not (misfits p q)) where
    length_test : f ≡ not (wrong_plan_length p)
    unfolding wrong_plan_length
    length_test = t ∙ ap (λ (u : ℕ). not (misfits p u)) m.units_are

    pub wrong_length_lem : f ≡ false → refused 30 0 ≡ record_answer p
    unfolding record_answer
    wrong_length_lem z = simp (not-false (wrong_plan_length p) (sym length_test ∙ z))

    module _ (o : f ≡ true) where
      right-length : wrong_plan_length p ≡ false
      right-length = not-true (wrong_plan_length p) (sym length_test ∙ o)

      pub fitted : misfits p q ≡ false
      fitted = not-true (misfits p q) (sym t ∙ o)

      module _ {x : ℕ} (spare : x ≡ field p 22 2) where
        pub wrong_spare : 1 < x → refused 31 0 ≡ record_answer p
        unfolding record_answer plan_padding_set
        wrong_spare h = simp (right-length, lt-ltb 1 (field p 22 2) (rw (← spare) h))

        module _ (low : x ≤ 1) {g : Bool} (u : g ≡ not (pad_set p q)) where
          padding_is : plan_padding_set p ≡ not g
          unfolding plan_padding_set
          padding_is =
              rw (le-ltb 1 (field p 22 2) (rw (← spare) low), u, ← m.units_are) (sym (not-not (pad_set p q)))
            where
              not-not : (b : Bool) → not (not b) ≡ b
              not-not true = refl
              not-not false = refl

          pub padding : g ≡ false → refused 31 0 ≡ record_answer p
          unfolding record_answer
          padding z = simp (right-length, padding_is, z)

          pub sound : g ≡ true → accepted (k ∷ []) ≡ record_answer p
          unfolding record_answer move_count
          sound z = simp (right-length, padding_is, z) (ap (λ (n : ℕ). accepted (n ∷ [])) m.count)
