-- What is proved of the converter, from request (h): "there and back restores an accepted plan byte for byte, shown for both starting
-- editions from one fact about replay".
--
--     ThereAndBack o p     of the plan p, which the plan checker accepts for the order o: in the other edition it is accepted with as many
--                          moves, which are the same, and converted back it is p again
-- Assumes nothing.
use Rattle.std.specs.Prelude.{ℕ, ◌*◌, ◌≤◌, not, List, [], ◌∷◌, ◌≡◌, length}
use Rattle.answers.specs.Answer.{accepted}
use Rattle.field.specs.Listed.{move_size}
use Rattle.field.specs.Units.{record_length}
use Rattle.field.specs.Writing.{written}
use Rattle.plan.specs.Plan.{named, move_count, plan_moves, plan_answer}
use Rattle.converting.specs.Converter.{converted_of, buffer_after}

pub record ThereAndBack (o p : List ℕ) : Type 0 where
  pub other_edition : named (converted_of o p) ≡ not (named p)
  pub same_moves : plan_moves (converted_of o p) ≡ plan_moves p
  pub length_is : length (converted_of o p) ≡ record_length (move_size (not (named p)) * move_count p)
  pub accepted_too : plan_answer o (converted_of o p) ≡ accepted (move_count p ∷ [])
  pub restored : converted_of o (converted_of o p) ≡ p
  -- in any buffer that p fits
  pub written_back : (B : List ℕ) → length p ≤ length B → buffer_after o (converted_of o p) B ≡ written B 0 p
