-- Dearest carries of small floors, by computation on the definitions. So the conditions are neither empty nor everything, and what the
-- theorems suppose can be met.
--
--     carry_open o B        the buffer afterwards, with all that it is made of open
--     alone_0               a floor of one position: 0 to 0, no moves
--     two_1                 two positions; two_apart_lem    without an edge between them: 27, also where 28 applies
--     star_1_2              position 0 joined to 1 and 2: from 1 to 2, though 0 is the lowest position
--     meets_28              one byte less than two moves take
--     ring_0_2              a ring of four: of two dearest pairs the lower start, of two shortest plans the one over 1; and its buffer,
--                           with one byte more than three moves take
--     short_28              28 by three moves, though the plan has two
--     shared_14             an order's own racks are judged: 14 before 27
--     ring_met              what `dearest_carry` supposes can be met
-- Assumes nothing.
use Prim.Native.Nat.{ℕ}
use mathlib.Core.Path.{◌≡◌, refl}
use mathlib.Core.List.{List, [], ◌∷◌}
use Rattle.answers.specs.Answer.{accepted, refused}
use Rattle.field.specs.Bits.{position_bits, padded, bytes, to_bytes}
use Rattle.field.specs.Listed.{units, all_units}
use Rattle.field.specs.Writing.{written}
use Rattle.sets.specs.First.{first_from}
use Rattle.order.specs.Order.{floor_of}
use Rattle.motion.specs.Replay.{listed}
use Rattle.plan.specs.Plan.{spare_bits, plan_bits, plan_bytes, plan_record}
use Rattle.plan_check.proofs.Examples.{plan_open}
use Rattle.carry.specs.Carry.{next_of, reaches, distance, greatest_below, farthest, longest, dearest_start, dearest_goal, way_from}
use Rattle.carry.specs.Carry.{moves_along, dearest_moves, carry_record}
use Rattle.carry.specs.CarryAnswer.{connected?, not_connected, cannot_hold, carry_answer, buffer_after}
use Rattle.carry.specs.Theorems.{DearestCarry}
use Rattle.carry.proofs.Theorems.{carry_accepted}

-- n = 1
abbrev one_position : List ℕ
one_position = 0x02 ∷ 0x00 ∷ 0x00 ∷ []

-- n = 2, edge 0-1
abbrev two_positions : List ℕ
two_positions = 0x04 ∷ 0x02 ∷ 0x00 ∷ 0x00 ∷ 0x10 ∷ []

-- n = 2
abbrev two_apart : List ℕ
two_apart = 0x04 ∷ 0x00 ∷ 0x00 ∷ []

-- n = 2, racks from 0, 0 to 0, 1
abbrev shared_start : List ℕ
shared_start = 0x04 ∷ 0x00 ∷ 0x08 ∷ 0x00 ∷ 0x00 ∷ 0x01 ∷ []

-- n = 3, edges 0-1, 0-2
abbrev star : List ℕ
star = 0x06 ∷ 0x04 ∷ 0x00 ∷ 0x00 ∷ 0x10 ∷ 0x02 ∷ []

-- n = 4, edges 0-1, 0-3, 1-2, 2-3, rack 1 from 3 to 3
abbrev ring_of_four : List ℕ
ring_of_four = 0x08 ∷ 0x08 ∷ 0x04 ∷ 0x00 ∷ 0x10 ∷ 0x03 ∷ 0x04 ∷ 0x20 ∷ 0x83 ∷ 0x0C ∷ 0x30 ∷ []

unfoldable pub carry_open : List ℕ → List ℕ → List ℕ
unfolding plan_open buffer_after carry_answer not_connected cannot_hold connected? carry_record dearest_moves
    moves_along way_from dearest_goal
    dearest_start longest farthest greatest_below distance reaches next_of first_from plan_record plan_bytes plan_bits
    spare_bits listed all_units
    units position_bits padded to_bytes bytes written
carry_open o B = buffer_after o B

-- "On a floor of one position the answer is 0 to 0 with no moves."
pub alone_0 : (carry_answer one_position 3 ≡ accepted (0 ∷ 0 ∷ 0 ∷ [])) × (carry_answer one_position 2 ≡ refused 28 0)
    × (buffer_after one_position (1 ∷ 2 ∷ 3 ∷ 4 ∷ []) ≡ 0x00 ∷ 0x00 ∷ 0x01 ∷ 4 ∷ [])
unfolding carry_open
alone_0 = (refl, refl, refl)

pub two_1 : carry_answer two_positions 6 ≡ accepted (0 ∷ 1 ∷ 1 ∷ [])
unfolding carry_open
two_1 = refl

pub two_apart_lem : (carry_answer two_apart 6 ≡ refused 27 0) × (carry_answer two_apart 0 ≡ refused 27 0)
unfolding carry_open
two_apart_lem = (refl, refl)

pub shared_14 : carry_answer shared_start 0 ≡ refused 14 0
unfolding carry_open
shared_14 = refl

pub star_1_2 : carry_answer star 8 ≡ accepted (1 ∷ 2 ∷ 2 ∷ [])
unfolding carry_open
star_1_2 = refl

pub meets_28 : carry_answer star 7 ≡ refused 28 0
unfolding carry_open
meets_28 = refl

pub ring_0_2 : (carry_answer ring_of_four 10 ≡ accepted (0 ∷ 2 ∷ 2 ∷ []))
    × (buffer_after ring_of_four (1 ∷ 2 ∷ 3 ∷ 4 ∷ 5 ∷ 6 ∷ 7 ∷ 8 ∷ 9 ∷ 10 ∷ 11 ∷ [])
    ≡ 0x00 ∷ 0x00 ∷ 0x09 ∷ 0x00 ∷ 0x10 ∷ 0x01 ∷ 0x08 ∷ 0x00 ∷ 9 ∷ 10 ∷ 11 ∷ [])
unfolding carry_open
ring_0_2 = (refl, refl)

pub short_28 : carry_answer ring_of_four 9 ≡ refused 28 0
unfolding carry_open
short_28 = refl

pub ring_met : DearestCarry (floor_of ring_of_four)
ring_met = carry_accepted ring_of_four 10 (0 ∷ 2 ∷ 2 ∷ []) ring_0_2.0
