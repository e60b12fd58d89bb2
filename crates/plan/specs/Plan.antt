-- The plan record in both editions and the plan checker's answer, from document 01, "Records" and "Returned numbers", and request (h).
-- field's Listed has a plan's moves as bits.
--
--     spare_bits named         the spare bits of an edition: 01 where its moves name their racks, else 00
--     plan_bits named l        the record of the listed moves l, as a list of bits
--     plan_bytes named l       the same as a byte string
--     plan_record named A ms   the record of the moves ms from the arrangement A, as a byte string
--     named p                 p is of the edition whose moves name their racks
--     move_count p             k of the byte string p
--     plan_listed p            the k moves as p lists them
--     plan_moves p             the k moves
--     plan_units p             how many fields of 6 bits they have
--     wrong_plan_length p, plan_padding_set p    30 and 31 apply to p
--     plan_answer o p          the plan checker's answer for the order o and the plan p
-- Assumes nothing.
use Rattle.std.specs.Prelude.{ℕ, ◌*◌, Bool, true, false, ◌||◌, List, [], ◌∷◌, ◌++◌, length, eqb, ltb}
use Rattle.answers.specs.Answer.{Answer, refuse, pass_up}
use Rattle.field.specs.Bits.{bits, field, position_bits, to_bytes}
use Rattle.field.specs.Units.{misfits, pad_set}
use Rattle.field.specs.Listed.{move_size, listed_moves, moves_of, all_units}
use Rattle.order.specs.Order.{order_answer, floor_of, starts_of, goals_of}
use Rattle.motion.specs.Arrangement.{Arrangement}
use Rattle.motion.specs.Replay.{listed, replay_listed}
use Rattle.motion.specs.Judgement.{judged}

-- "Edition two of the plan sets the two spare bits to 01"; "Spare bits 00 mean edition one"
unfoldable pub spare_bits : Bool → ℕ
spare_bits false = 0
spare_bits true = 1

-- "move count k in 22 bits, two spare … bits, k moves, pad"
unfoldable pub plan_bits : Bool → List (ℕ × ℕ × ℕ) → List ℕ
plan_bits named l = bits 22 (length l) ++ bits 2 (spare_bits named) ++ position_bits (all_units named l)

unfoldable pub plan_bytes : Bool → List (ℕ × ℕ × ℕ) → List ℕ
plan_bytes named l = to_bytes (plan_bits named l)

unfoldable pub plan_record : Bool → Arrangement → List (ℕ × ℕ) → List ℕ
plan_record named A ms = plan_bytes named (listed named A ms)

unfoldable pub named : List ℕ → Bool
named p = eqb (field p 22 2) 1

unfoldable pub move_count : List ℕ → ℕ
move_count p = field p 0 22

unfoldable pub plan_listed : List ℕ → List (ℕ × ℕ × ℕ)
plan_listed p = listed_moves (named p) p 24 (move_count p)

unfoldable pub plan_moves : List ℕ → List (ℕ × ℕ)
plan_moves p = moves_of (plan_listed p)

unfoldable pub plan_units : List ℕ → ℕ
plan_units p = move_size (named p) * move_count p

-- 30: "plan under 3 bytes, or its length is not the one k gives"; of spare bits "10 or 11 … their length being judged by 30 as edition one"
unfoldable pub wrong_plan_length : List ℕ → Bool
wrong_plan_length p = misfits p (plan_units p)

-- 31: "a spare or pad bit of the plan is set"; of the spare bits "10 or 11 meet 31"
unfoldable pub plan_padding_set : List ℕ → Bool
plan_padding_set p = ltb 1 (field p 22 2) || pad_set p (plan_units p)

-- 32, 34, 35 and 36, the move's number: "the first bad move deciding, and all … before 33". 33, rack: "after the plan this rack, the lowest
-- such, is not at its goal". Accepted, the count is k.
unfoldable pub plan_answer : List ℕ → List ℕ → Answer
plan_answer o p =
    pass_up (order_answer o)
    (refuse (wrong_plan_length p) 30 0
    (refuse (plan_padding_set p) 31 0
    (judged 33 (goals_of o) (move_count p ∷ []) (replay_listed (floor_of o) (starts_of o) (plan_listed p)))))
