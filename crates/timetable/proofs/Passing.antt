-- The walk to the end of the timetable that a byte string begins with.
--
--     Passing s k i at                    i of k steps are passed, and what is left begins at byte `at`
--     passing_first, .., passing_last     how the walk begins, goes on and ends
--     no_head, past_end, runs_past        and where s ends before the timetable does
-- Assumes nothing.
use Prim.Native.Nat.{ℕ, suc, ◌+◌, ◌-◌, ◌≤◌, ◌<◌}
use mathlib.Core.Path.{◌≡◌, refl, sym, ap, ◌∙◌}
use mathlib.Core.List.{List}
use native.Mathlib.Omega.{arith}
use native.Mathlib.Nat.{sub-zero, add-zero}
use lib.ListN.{length, get_or, drop}
use lib.Seq.{drop-drop, get_or-drop}
use Rattle.std.specs.Prelude.{None, Some}
use Rattle.answers.specs.Found.{found}
use Rattle.answers.proofs.AnswerLaws.{found_some}
use Rattle.field.specs.Bits.{field}
use Rattle.recording.proofs.FrontLaws.{whole_as, whole_none}
use Rattle.timetable.specs.Timetable.{step_length, step_count, steps_length, timetable_length}
use Rattle.timetable.proofs.StepLaws.{step_length-some}
use Rattle.timetable.specs.RecordLength.{whole_timetable_length}

pub record Passing (s : List ℕ) (k i at : ℕ) : Type 0 where
  pub left : at + steps_length (k - i) (drop at s) ≡ timetable_length s

pub no_head : (s : List ℕ) → length s < 3 → None ≡ found (whole_timetable_length s)
unfolding whole_timetable_length timetable_length
no_head s h = sym (ap found (whole_none _ s (omega arith)))

module _ (s : List ℕ) (k : ℕ) where
  pub passing_first : k ≡ field s 0 22 → Passing s k 0 3
  unfolding timetable_length step_count
  passing_first e = record { left = rw (sub-zero k, e) refl }

  module _ (i at : ℕ) (p : Passing s k i at) where
    module _ (h : i < k) where
      next_is : steps_length (k - i) (drop at s)
          ≡ step_length (get_or s at 0) + steps_length (k - (i + 1)) (drop (at + step_length (get_or s at 0)) s)
      unfolding steps_length
      next_is =
          let more : k - i ≡ suc (k - (i + 1)) = omega arith in
          let first : get_or (drop at s) 0 0 ≡ get_or s at 0 = get_or-drop at s 0 0 ∙ ap (λ (n : ℕ). get_or s n 0) (add-zero at) in
          rw (more, first, drop-drop (step_length (get_or s at 0)) at s) refl

      passing_ends : at + step_length (get_or s at 0) ≤ timetable_length s
      passing_ends = omega (arith, p.left, next_is)

      pub past_end : length s ≤ at → None ≡ found (whole_timetable_length s)
      unfolding whole_timetable_length
      past_end b = sym (ap found (whole_none _ s (omega (arith, passing_ends, step_length-some (get_or s at 0)))))

      module _ (n : ℕ) (e : n ≡ step_length (get_or s at 0)) where
        pub runs_past : length s - at < n → None ≡ found (whole_timetable_length s)
        unfolding whole_timetable_length
        runs_past b = sym (ap found (whole_none _ s (omega (arith, passing_ends))))

        pub passing_next : Passing s k (i + 1) (at + n)
        passing_next = record { left = rw e (omega (arith, p.left, next_is)) }

    pub passing_last : k ≤ i → at ≤ length s → Some at ≡ found (whole_timetable_length s)
    unfolding whole_timetable_length timetable_length steps_length
    passing_last h b =
        let none : k - i ≡ 0 = omega arith in
        let end : at ≡ timetable_length s = sym (add-zero at) ∙ (rw none at p.left) in
        found_some at (omega arith) ∙ ap found (whole_as _ s at end b)
