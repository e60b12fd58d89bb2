-- Shortening by computation on the definitions: the hypotheses of the theorems hold of something, and the rule removes what it says and
-- nothing else.
--
--     long_plan                 the case book's order, and its plan after a step out and straight back
--     long_named, short_named    the same plan with the racks named, and what is left of it
--     rule_open A ms           the rule's result, with all that it is made of open
--     shortened_open o p       the moves that it makes of a plan, likewise
--     long_accepted            it is accepted, with 6 moves
--     long_shortened           the pair is removed
--     long_steps, short_steps  its timetable has 4 steps, and that of the result 2
--     long_shorter             the theorem on it
--     named_accepted, named-shortened, named-left, named_shorter    so it is with the racks named, and the result names them too
--     neighbours, apart, visited, freed, to_and_fro    what cancels and what does not
-- Assumes nothing.
use Prim.Native.Nat.{ℕ}
use mathlib.Core.List.{List, [], ◌∷◌}
use mathlib.Core.Path.{◌≡◌, refl}
use Rattle.answers.specs.Answer.{accepted}
use Rattle.field.specs.Bits.{bits, number, bits_of, field, positions, position_bits, pad, padded, bytes, to_bytes}
use Rattle.field.specs.Listed.{move_size, rack_field, listed_moves, moves_of, units, all_units}
use Rattle.sets.specs.First.{first_from}
use Rattle.order.specs.Floor.{some, is_pair}
use Rattle.order.specs.Order.{edge_count, rack_count, starts_of}
use Rattle.motion.specs.Arrangement.{Arrangement, rack_from, rack_at}
use Rattle.motion.specs.Move.{goes_to, after, after_move}
use Rattle.motion.specs.Problem.{arrangement_at}
use Rattle.motion.specs.Replay.{listed, trace}
use Rattle.plan.specs.Plan.{spare_bits, plan_bits, plan_bytes, plan_record, named, move_count, plan_listed, plan_moves, plan_answer}
use Rattle.plan_check.proofs.Examples.{plan_open}
use Rattle.scheduling.specs.Making.{of_rack, of_leaving, place_leaving, step_after, place_after, turn_after, turn_for, timed, greatest}
use Rattle.shortening.specs.Rule.{move_at, rack_of, between, visits, cancels, without, partner, later_move, shorten, shortened}
use Rattle.shortening.specs.Shortener.{shortened_of}
use Rattle.shortening.specs.Theorems.{Shorter}
use Rattle.shortening.proofs.Theorems.{shorter}

-- n = 4, edges 0-1, 0-2, 1-2, 1-3, 2-3, rack 1 from 0 to 3, rack 2 from 3 to 0
abbrev case_book : List ℕ
case_book = 0x08 ∷ 0x0A ∷ 0x08 ∷ 0x00 ∷ 0x10 ∷ 0x02 ∷ 0x04 ∷ 0x20 ∷ 0x43 ∷ 0x08 ∷ 0x30 ∷ 0x03 ∷ 0x0C ∷ 0x00 ∷ []

-- 0>1, 1>0, 0>1, 3>2, 2>0, 1>3
abbrev long_plan : List ℕ
long_plan = 0x00 ∷ 0x00 ∷ 0x18 ∷ 0x00 ∷ 0x10 ∷ 0x40 ∷ 0x00 ∷ 0x10 ∷ 0xC2 ∷ 0x08 ∷ 0x00 ∷ 0x43 ∷ []

-- the same with the racks that they move: 1, 1, 1, 2, 2, 1
abbrev long_named : List ℕ
long_named =
    0x00 ∷ 0x00 ∷ 0x19 ∷ 0x00 ∷ 0x10 ∷ 0x01 ∷ 0x00 ∷ 0x00 ∷ 0x01 ∷ 0x00 ∷ 0x30 ∷ 0x81 ∷ 0x08 ∷ 0x00 ∷ 0x41 ∷ 0x0C ∷ 0x00 ∷ []

-- 0>1, 3>2, 2>0, 1>3, with the racks that they move: 1, 2, 2, 1
abbrev short_named : List ℕ
short_named = 0x00 ∷ 0x00 ∷ 0x11 ∷ 0x00 ∷ 0x10 ∷ 0x03 ∷ 0x08 ∷ 0x10 ∷ 0x80 ∷ 0x04 ∷ 0x10 ∷ 0xC0 ∷ []

unfoldable pub rule_open : Arrangement → List (ℕ × ℕ) → List (ℕ × ℕ)
unfolding shortened shorten later_move partner first_from without cancels visits between rack_of move_at is_pair some rack_at rack_from
    arrangement_at trace after_move after goes_to
rule_open A ms = shortened A ms

unfoldable pub shortened_open : List ℕ → List ℕ → List (ℕ × ℕ)
unfolding shortened_of rule_open named move_count plan_moves plan_listed moves_of listed_moves rack_field move_size
    starts_of edge_count rack_count
    field number bits_of bits positions
shortened_open o p = shortened_of o p

pub long_accepted : plan_answer case_book long_plan ≡ accepted (6 ∷ [])
unfolding plan_open
long_accepted = refl

pub long_shortened : shortened_of case_book long_plan ≡ (0, 1) ∷ (3, 2) ∷ (2, 0) ∷ (1, 3) ∷ []
unfolding shortened_open
long_shortened = refl

-- fewer moves, and here fewer steps
pub long_steps : greatest (timed (0 ∷ 3 ∷ []) [] ((0, 1) ∷ (1, 0) ∷ (0, 1) ∷ (3, 2) ∷ (2, 0) ∷ (1, 3) ∷ [])) ≡ 4
unfolding greatest timed turn_for turn_after place_after step_after place_leaving of_rack of_leaving rack_at rack_from
    after_move after goes_to
long_steps = refl

pub short_steps : greatest (timed (0 ∷ 3 ∷ []) [] ((0, 1) ∷ (3, 2) ∷ (2, 0) ∷ (1, 3) ∷ [])) ≡ 2
unfolding greatest timed turn_for turn_after place_after step_after place_leaving of_rack of_leaving rack_at rack_from
    after_move after goes_to
short_steps = refl

pub long_shorter : Shorter case_book long_plan
long_shorter = shorter case_book long_plan (6 ∷ []) long_accepted

-- with the racks named

pub named_accepted : plan_answer case_book long_named ≡ accepted (6 ∷ [])
unfolding plan_open
named_accepted = refl

pub named-shortened : shortened_of case_book long_named ≡ (0, 1) ∷ (3, 2) ∷ (2, 0) ∷ (1, 3) ∷ []
unfolding shortened_open
named-shortened = refl

-- the record that is written, of the edition read
pub named-left : plan_record (named long_named) (starts_of case_book) (shortened_of case_book long_named) ≡ short_named
unfolding shortened_open plan_record plan_bytes plan_bits spare_bits listed all_units units position_bits to_bytes padded pad bytes
named-left = refl

pub named_shorter : Shorter case_book long_named
named_shorter = shorter case_book long_named (6 ∷ []) named_accepted

-- out and straight back
neighbours : shortened (0 ∷ 5 ∷ []) ((0, 1) ∷ (1, 0) ∷ []) ≡ []
unfolding rule_open
neighbours = refl

-- another rack moves elsewhere between
apart : shortened (0 ∷ 5 ∷ []) ((0, 1) ∷ (5, 6) ∷ (1, 0) ∷ []) ≡ (5, 6) ∷ []
unfolding rule_open
apart = refl

-- another rack has passed through the position left
visited : shortened (0 ∷ 5 ∷ []) ((0, 1) ∷ (5, 0) ∷ (0, 6) ∷ (1, 0) ∷ []) ≡ (0, 1) ∷ (5, 0) ∷ (0, 6) ∷ (1, 0) ∷ []
unfolding rule_open
visited = refl

-- the visit cancels itself, and then the outer pair is free
freed : shortened (0 ∷ 5 ∷ []) ((0, 1) ∷ (5, 0) ∷ (0, 5) ∷ (1, 0) ∷ []) ≡ []
unfolding rule_open
freed = refl

-- to and fro: the pair whose later move comes first goes, and one move is left
to_and_fro : shortened (0 ∷ []) ((0, 1) ∷ (1, 0) ∷ (0, 1) ∷ []) ≡ (0, 1) ∷ []
unfolding rule_open
to_and_fro = refl
