-- The timetable record, the timetable checker's answer and the step reader's, from document 01, "Records", "Returned numbers" and
-- "Making the timetable".
--
--     step_bits ms             a step of the record, as a list of bits
--     all_step_bits l           the steps l one after another, as a list of bits
--     timetable_bits l         the record of the steps l, as a list of bits
--     timetable_record l       the record of the steps l, as a byte string
--     step_length c            the length in bytes of a step of c moves
--     step_count s             s, the step count of the byte string s
--     steps_length k t         the length in bytes of the k steps that t begins with, by their count bytes alone
--     timetable_length s       the length of the timetable that s begins with, by its step count and its count bytes alone
--     step_parts k t           the k steps of t, each as the part of t that it is
--     parts_of s, steps_of s    the steps of a timetable, as parts and as lists of moves
--     step_moves p             the moves of the step that the part p is
--     wrong_timetable_length s  40 applies to s
--     step_pad_set p            a pad bit of the step p is set
--     timetable_padding_set s   41 applies to s
--     move_total l             the moves of the steps l, in all
--     timetable_answer o s     the timetable checker's answer for the order o and the timetable s
--     offset s i              where step i begins, in bytes
--     step_part s i            the part of s that is step i
--     step_answer s i          the step reader's answer for step i of s
-- Assumes nothing.
use Rattle.std.specs.Prelude.{ℕ, zero, suc, ◌+◌, ◌-◌, ◌*◌, ◌/◌, Bool, not, ◌||◌, List, [], ◌∷◌, ◌++◌, map}
use Rattle.std.specs.Prelude.{length, get_or, take, drop, ltb, eqb}
use Rattle.answers.specs.Answer.{Answer, accepted, refuse, pass_up}
use Rattle.field.specs.Bits.{bits, field, pairs, pair_bits, pad, padded, to_bytes}
use Rattle.order.specs.Floor.{some}
use Rattle.order.specs.Order.{order_answer, floor_of, starts_of, goals_of}
use Rattle.motion.specs.Replay.{replay_steps}
use Rattle.motion.proofs.StepDecision.{legal_step?}
use Rattle.motion.specs.Judgement.{judged}

-- "each step is one byte c, then c moves, then pad"
unfoldable pub step_bits : List (ℕ × ℕ) → List ℕ
step_bits ms = padded (bits 8 (length ms) ++ pair_bits ms)

unfoldable pub all_step_bits : List (List (ℕ × ℕ)) → List ℕ
all_step_bits [] = []
all_step_bits (ms ∷ l) = step_bits ms ++ all_step_bits l

-- "step count s in 22 bits, two spare zero bits"
unfoldable pub timetable_bits : List (List (ℕ × ℕ)) → List ℕ
timetable_bits l = bits 22 (length l) ++ bits 2 0 ++ all_step_bits l

unfoldable pub timetable_record : List (List (ℕ × ℕ)) → List ℕ
timetable_record l = to_bytes (timetable_bits l)

unfoldable pub step_length : ℕ → ℕ
step_length c = 1 + (12 * c + 7) / 8

unfoldable pub step_count : List ℕ → ℕ
step_count s = field s 0 22

-- Past the end of t a count byte is 0, and such a step one byte: the sum is then more than t has.
unfoldable pub steps_length : ℕ → List ℕ → ℕ
steps_length zero t = 0
steps_length (suc k) t = step_length (get_or t 0 0) + steps_length k (drop (step_length (get_or t 0 0)) t)

unfoldable pub timetable_length : List ℕ → ℕ
timetable_length s = 3 + steps_length (step_count s) (drop 3 s)

unfoldable pub step_parts : ℕ → List ℕ → List (List ℕ)
step_parts zero t = []
step_parts (suc k) t = take (step_length (get_or t 0 0)) t ∷ step_parts k (drop (step_length (get_or t 0 0)) t)

unfoldable pub parts_of : List ℕ → List (List ℕ)
parts_of s = step_parts (step_count s) (drop 3 s)

-- 40: "timetable under 3 bytes, a step running past its end, or bytes left over": it has fewer bytes than its counts say in the first two
-- cases, more in the last
unfoldable pub wrong_timetable_length : List ℕ → Bool
wrong_timetable_length s = not (eqb (length s) (timetable_length s))

-- a pad bit of a step is set
unfoldable pub step_pad_set : List ℕ → Bool
step_pad_set part = not (eqb (field part (8 + 12 * get_or part 0 0) (pad (12 * get_or part 0 0))) 0)

-- 41: "a spare or pad bit of the timetable is set"
unfoldable pub timetable_padding_set : List ℕ → Bool
timetable_padding_set s = not (eqb (field s 22 2) 0) || some step_pad_set (parts_of s)

unfoldable pub step_moves : List ℕ → List (ℕ × ℕ)
step_moves part = pairs part 8 (get_or part 0 0)

unfoldable pub steps_of : List ℕ → List (List (ℕ × ℕ))
steps_of s = map step_moves (parts_of s)

-- "the sum of its bytes c": each step has as many moves as its count byte says
unfoldable pub move_total : List (List (ℕ × ℕ)) → ℕ
move_total [] = 0
move_total (ms ∷ l) = length ms + move_total l

-- the fault of the first step that is not legal, with the step's number; 43, rack: "after the timetable this rack, the lowest such, is not
-- at its goal". Accepted, the counts are s and the sum of the bytes c.
unfoldable pub timetable_answer : List ℕ → List ℕ → Answer
timetable_answer o s =
    pass_up (order_answer o) (refuse (wrong_timetable_length s) 40 0
    (refuse (timetable_padding_set s) 41 0
    (judged 43 (goals_of o) (step_count s ∷ move_total (steps_of s) ∷ [])
    (replay_steps (legal_step? (floor_of o)) (starts_of o) (steps_of s)))))

-- "the first byte by its offset in the timetable"
unfoldable pub offset : List ℕ → ℕ → ℕ
offset s i = 3 + steps_length (i - 1) (drop 3 s)

-- "Reading one step gives back that part of the lent timetable itself, its count byte first and its pad last."
unfoldable pub step_part : List ℕ → ℕ → List ℕ
step_part s i = get_or (parts_of s) (i - 1) []

-- 45: "step 0, or a step above s, was requested". Accepted, the values are where the part begins and how long it is.
unfoldable pub step_answer : List ℕ → ℕ → Answer
step_answer s i =
    refuse (wrong_timetable_length s) 40 0
    (refuse (timetable_padding_set s) 41 0
    (refuse (eqb i 0 || ltb (step_count s) i) 45 0
    (accepted (offset s i ∷ length (step_part s i) ∷ []))))
