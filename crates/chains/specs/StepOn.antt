-- A step on tables: the definitions of crates/motion's Step and Move, with a matrix of edges for the floor and a table of racks for the
-- arrangement (crates/tables). `ascends`, `entered_once`, `leaves` and `goes_to` speak of the moves alone, and are motion's own.
--
--     moves_of d           the moves that the numbers d are: a move from a to b is the number a * 64 + b
--     led_on k ms h p       by the table h, the chain of a move into p ends at its leader, at most k moves further on
--     sound_moves g h ms    a step's moves, but for the trains: they ascend, run along edges, take racks along, enter no position twice
--     all_led h ms          each of the moves belongs to a train with a leader, of at most eight moves
--     legal_step_on g h ms   the step ms is legal by the matrix g and the table h
--     taken_up h ms         the table h without the racks that the moves ms take along
--     put_down b h ms       the table h with each rack that the table b has at a position left put down at the position entered
--     step_on h ms          the table that the moves ms, made all at once, make of h
--     ran_on g h ms         the table after the step ms: as it was, where the step is not legal
-- Assumes nothing.
use Rattle.std.specs.Prelude.{ℕ, zero, suc, ◌-◌, ◌/◌, ◌%◌, Bool, not, cond, ◌&&◌, ◌||◌, List, [], ◌∷◌, get_or, set}
use Rattle.motion.specs.Move.{goes_to}
use Rattle.motion.specs.LegalStep.{longest_train}
use Rattle.motion.specs.Step.{every, ascends, leaves, entered_once}
use Rattle.tables.specs.Tables.{edge_at, held_at}

unfoldable pub moves_of : List ℕ → List (ℕ × ℕ)
moves_of [] = []
moves_of (x ∷ d) = (x / 64 % 64, x % 64) ∷ moves_of d

-- "The chain is followed rack by rack to its leader: a move into a position left in the same step follows that move, and the
-- chain has to end at a move into a position vacant before the step."
unfoldable pub led_on : ℕ → List (ℕ × ℕ) → List ℕ → ℕ → Bool
led_on zero ms h p = not (held_at h p)
led_on (suc k) ms h p = not (held_at h p) || leaves ms p && led_on k ms h (goes_to ms p)

unfoldable pub sound_moves : List ℕ → List ℕ → List (ℕ × ℕ) → Bool
sound_moves g h ms = ascends ms && every (edge_at g) ms && every (λ m. held_at h m.0) ms && entered_once ms

-- "A legal step has no chain of more than eight moves from any mover to its leader", both counted
unfoldable pub all_led : List ℕ → List (ℕ × ℕ) → Bool
all_led h ms = every (λ m. led_on (longest_train - 1) ms h m.1) ms

-- "A step is legal if its moves ascend strictly by position left; both positions of each are below n and joined by an edge;
-- each position left holds a rack; no position is entered twice; and each move belongs to a train with a leader."
unfoldable pub legal_step_on : List ℕ → List ℕ → List (ℕ × ℕ) → Bool
legal_step_on g h ms = sound_moves g h ms && all_led h ms

unfoldable pub taken_up : List ℕ → List (ℕ × ℕ) → List ℕ
taken_up h [] = h
taken_up h (m ∷ ms) = taken_up (set h m.0 0) ms

unfoldable pub put_down : List ℕ → List ℕ → List (ℕ × ℕ) → List ℕ
put_down before h [] = h
put_down before h (m ∷ ms) = put_down before (set h m.1 (get_or before m.0 0)) ms

-- "A legal move takes the rack at the position left to the position entered and leaves all others where they are; a legal step does
-- so for all its moves at once."
unfoldable pub step_on : List ℕ → List (ℕ × ℕ) → List ℕ
step_on h ms = put_down h (taken_up h ms) ms

unfoldable pub ran_on : List ℕ → List ℕ → List (ℕ × ℕ) → List ℕ
ran_on g h ms = cond (legal_step_on g h ms) (step_on h ms) h
