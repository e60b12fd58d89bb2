-- The replay of a timetable's steps on tables.
--
--     run_room, run_is           a step's moves, read from the part that begins at its second byte
--     StepsLeft s g h₀ h i at    the loop over the steps of s, from the table h₀ by the matrix g: i steps were legal and left the table h,
--                                the next begins at byte `at`, and what is left to replay decides
--     steps_first, steps_stop, steps_on, steps_end    how the loop begins, stops, goes on and ends
-- Assumes nothing.
use Prim.Native.Nat.{ℕ, ◌+◌, ◌-◌, ◌*◌, ◌≤◌, ◌<◌}
use mathlib.Core.Path.{◌≡◌, refl, sym, ap, ◌∙◌, subst}
use mathlib.Core.Bool.{Bool, true, false}
use mathlib.Core.List.{List, ◌∷◌}
use lib.ListN.{length, get_or, take, drop}
use Rattle.answers.specs.Answer.{number_of}
use Rattle.answers.specs.declared.Fault.{Fault}
use Rattle.field.specs.Bits.{pairs}
use Rattle.motion.specs.Replay.{Replayed, ended, stopped}
use Rattle.tables.proofs.EndingLaws.{Left, left_stops, left_goes, left_none}
use Rattle.chains.specs.StepOn.{legal_step_on, step_on, ran_on}
use Rattle.trains.specs.StepsOn.{step_fault_on, replay_steps_on}
use Rattle.timetable.specs.Timetable.{step_length, step_count, step_moves, steps_of, wrong_timetable_length}
use Rattle.timetable.proofs.StepLaws.{part_at, cut_is, moves-tail, moves_room}
use Rattle.timetable.proofs.ReadingLaws.{Stands, stands-first, stands-next, steps_next, steps_none}

module _ (p : List ℕ) (c : ℕ) (ec : c ≡ get_or p 0 0) where
  pub run_room : length p ≡ step_length (get_or p 0 0) → 12 * c ≤ 8 * length (take (length p - 1) (drop 1 p))
  run_room e = rw ec (moves_room p e)

  pub run_is : pairs (take (length p - 1) (drop 1 p)) 0 c ≡ step_moves p
  run_is = rw ec (sym (moves-tail p))

module _ (s g h₀ : List ℕ) where
  -- the whole replay
  abbrev whole : Replayed
  whole = replay_steps_on g h₀ (steps_of s)

  -- i steps were legal and left the table h: what is left decides
  abbrev After : ℕ → List ℕ → List (List (ℕ × ℕ)) → Type 0
  After = Left (step_fault_on g) step_on whole

  pub record StepsLeft (h : List ℕ) (i at : ℕ) : Type 0 where
    pub stands : Stands s i at
    pub left : Left (step_fault_on g) step_on (replay_steps_on g h₀ (steps_of s)) i h (drop i (steps_of s))

  pub steps_first : wrong_timetable_length s ≡ false → StepsLeft h₀ 0 3
  unfolding Left replay_steps_on
  steps_first e = record { stands = stands-first s e; left = refl }

  module _ (h : List ℕ) (i at n : ℕ) (sl : StepsLeft h i at) (l : i < step_count s) (size_is : n ≡ step_length (get_or s at 0)) (b : Bool)
      (is : b ≡ legal_step_on g h (step_moves (take (at + n - at) (drop at s)))) where
    here : After i h (step_moves (part_at s at) ∷ drop (i + 1) (steps_of s))
    here = subst (After i h) (steps_next s i at sl.stands l) sl.left

    legal_is : b ≡ legal_step_on g h (step_moves (part_at s at))
    legal_is = is ∙ ap (λ (p : List ℕ). legal_step_on g h (step_moves p)) (cut_is s at n size_is)

    pub steps_stop : b ≡ false → stopped (number_of Fault.TimetableStep) (i + 1) ≡ whole
    unfolding step_fault_on
    steps_stop f = left_stops (step_fault_on g) step_on whole i h _ _ here Fault.TimetableStep (rw (sym legal_is ∙ f))

    ran : b ≡ true → ran_on g h (step_moves (take (at + n - at) (drop at s))) ≡ step_on h (step_moves (part_at s at))
    unfolding ran_on
    ran t = rw (cut_is s at n size_is, sym legal_is ∙ t) refl

    goes : b ≡ true → After (i + 1) (step_on h (step_moves (part_at s at))) (drop (i + 1) (steps_of s))
    unfolding step_fault_on
    goes t = left_goes (step_fault_on g) step_on whole i h _ _ here (rw (sym legal_is ∙ t))

    pub steps_on : b ≡ true → (h' : List ℕ) → h' ≡ ran_on g h (step_moves (take (at + n - at) (drop at s))) → StepsLeft h' (i + 1) (at + n)
    steps_on t h' made =
        record { stands = rw size_is (stands-next s i at sl.stands l); left = rw (made ∙ ran t) (goes t) }

  pub steps_end : (h : List ℕ) (i at : ℕ) → StepsLeft h i at → step_count s ≤ i → ended h ≡ whole
  steps_end h i at sl l = left_none (step_fault_on g) step_on whole i h (subst (After i h) (steps_none s i l) sl.left)
