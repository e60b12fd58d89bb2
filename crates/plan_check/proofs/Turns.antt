-- The loop over the k moves of a plan's tail s, of either edition, from the table h₀ by the matrix g: what is left to replay decides.
--
--     MovesLeft h j      the moves before number j + 1 were legal and left the table h
--     moves-first, moves-stop, moves_next, moves_none    how the loop begins, stops, goes on and ends
-- Assumes nothing.
use Prim.Native.Nat.{ℕ, ◌+◌, ◌-◌, ◌*◌, ◌/◌, ◌%◌, ◌≤◌, ◌<◌}
use mathlib.Core.Path.{◌≡◌, refl, sym, ap, ◌∙◌, subst}
use mathlib.Core.Bool.{Bool}
use mathlib.Core.List.{List, ◌∷◌}
use native.Mathlib.Omega.{arith}
use native.Mathlib.Nat.{sub-zero}
use lib.ListN.{get_or, set}
use Rattle.answers.specs.declared.Fault.{Fault}
use Rattle.field.specs.Listed.{move_size, listed_moves, ListedAt}
use Rattle.field.proofs.ListedLaws.{listed_next, size_none}
use Rattle.std.specs.Prelude.{Result, Ok, Err}
use Rattle.answers.specs.Answer.{number_of}
use Rattle.motion.specs.Replay.{Replayed, ended, stopped}
use Rattle.tables.specs.Tables.{listed_entries, listed_fault_on, moved_on, listed_on}
use Rattle.tables.specs.MovesOn.{replay_on}
use Rattle.tables.proofs.EndingLaws.{Left, left_stops, left_goes, left_none}
use Rattle.plan_check.specs.Judging.{fault_of}

module _ (s : List ℕ) (named : Bool) (k : ℕ) (g h₀ : List ℕ) where
  -- the whole replay
  abbrev pub whole : Replayed
  whole = replay_on g h₀ (listed_moves named s 0 k)

  -- the moves before number j + 1 were legal and left the table h
  abbrev pub MovesLeft : List ℕ → ℕ → Type 0
  MovesLeft h j = Left (listed_fault_on g) listed_on whole j h (listed_moves named s (6 * (move_size named * j)) (k - j))

  pub moves-first : MovesLeft h₀ 0
  unfolding Left replay_on
  moves-first = rw (sub-zero k, size_none named) refl

  -- the move numbered j + 1 is read as the one number x, with the rack r
  module _ (h : List ℕ) (j x r : ℕ) (left : MovesLeft h j) (l : j < k)
      (at : ListedAt named s (6 * (move_size named * j)) (x / 64) (x % 64) r)
      {A : Type 0} (v : Result A Fault) (is : fault_of v ≡ listed_entries (get_or g x 0) (get_or h (x / 64) 0) (get_or h (x % 64) 0) r)
    where
      next-left : Left (listed_fault_on g) listed_on whole j h
          ((x / 64, x % 64, r) ∷ listed_moves named s (6 * (move_size named * (j + 1))) (k - (j + 1)))
      next-left =
          rw (at.left_is, at.entered_is, at.rack_is)
          (subst (Left (listed_fault_on g) listed_on whole j h) (listed_next named s j k l) left)

      next_is : fault_of v ≡ listed_fault_on g h (x / 64, x % 64, r)
      unfolding listed_fault_on
      next_is = let number : x / 64 * 64 + x % 64 ≡ x = omega arith in rw number is

      pub moves-stop : (f : Fault) → v ≡ Err f → stopped (number_of f) (j + 1) ≡ whole
      moves-stop f e = left_stops (listed_fault_on g) listed_on whole j h (x / 64, x % 64, r) _ next-left f (sym (ap fault_of e) ∙ next_is)

      pub moves_next : (a : A) → v ≡ Ok a → MovesLeft (set (set h (x / 64) 0) (x % 64) (get_or h (x / 64) 0)) (j + 1)
      unfolding listed_on moved_on
      moves_next a e = left_goes (listed_fault_on g) listed_on whole j h (x / 64, x % 64, r) _ next-left (sym next_is ∙ ap fault_of e)

  pub moves_none : (h : List ℕ) (j : ℕ) → MovesLeft h j → k ≤ j → ended h ≡ whole
  unfolding listed_moves
  moves_none h j left l =
      let none : k - j ≡ 0 = omega arith in
      left_none (listed_fault_on g) listed_on whole j h (rw none at left)
