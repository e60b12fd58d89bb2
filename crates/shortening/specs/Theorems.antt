-- What is proved of the shortener's result, from request (e): "it is legal, ends at the goal, is never longer, and has no cancelling pair".
--
--     Shorter o p     of the plan p, which the plan checker accepts for the order o: the result, in the edition of p, is accepted too, is
--                     never longer, has no cancelling pair, is the rule's, stays as it is when it is shortened again, and its timetable
--                     has no more moves
-- Assumes nothing.
use Rattle.std.specs.Prelude.{ℕ, ◌≤◌, List, [], ◌∷◌, ◌≡◌, length}
use Rattle.answers.specs.Answer.{accepted}
use Rattle.order.specs.Order.{starts_of}
use Rattle.plan.specs.Plan.{named, plan_record, plan_moves, move_count, plan_answer}
use Rattle.timetable.specs.Timetable.{timetable_record, timetable_answer}
use Rattle.scheduling.specs.Making.{timed, greatest}
use Rattle.scheduling.specs.Maker.{made_of}
use Rattle.shortening.specs.Rule.{NoPair, Shortens}
use Rattle.shortening.specs.Shortener.{shortened_of}

pub record Shorter (o p : List ℕ) : Type 0 where
  pub by_rule : Shortens (starts_of o) (plan_moves p) (shortened_of o p)
  -- "it is legal, ends at the goal"
  pub accepted_too : plan_answer o (plan_record (named p) (starts_of o) (shortened_of o p)) ≡ accepted (length (shortened_of o p) ∷ [])
  -- "is never longer"
  pub moves_at_most : length (shortened_of o p) ≤ move_count p
  pub bytes_at_most : length (plan_record (named p) (starts_of o) (shortened_of o p)) ≤ length p
  -- "and has no cancelling pair"
  pub no_pair : NoPair (starts_of o) (shortened_of o p)
  pub stays : shortened_of o (plan_record (named p) (starts_of o) (shortened_of o p)) ≡ shortened_of o p
  -- the timetable made of it, with the count of the moves that are left
  pub timetabled : timetable_answer o (timetable_record (made_of o (plan_record (named p) (starts_of o) (shortened_of o p))))
      ≡ accepted (greatest (timed (starts_of o) [] (shortened_of o p)) ∷ length (shortened_of o p) ∷ [])
