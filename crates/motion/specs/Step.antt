-- Steps, from document 01, "Legal moves and steps". A step is the list of its moves, made all at once. These are the tests that compute
-- whether a step is legal; what they decide is `LegalStep`.
--
--     every t l          every element of l passes the test t
--     ascends ms         the moves ascend strictly by position left
--     leaves ms p        some move of the step leaves p
--     enters ms p        some move of the step enters p
--     entered_once ms     no position is entered twice
--     led k ms A p       the chain of a move into p ends at its leader, at most k moves further on
--     legal_step F A ms   the step is legal on the arrangement A of the floor F
-- Assumes nothing.
use Rattle.std.specs.Prelude.{ℕ, zero, suc, ◌-◌, Bool, true, not, ◌&&◌, ◌||◌, List, [], ◌∷◌, ltb, eqb}
use Rattle.order.specs.Floor.{Floor, some}
use Rattle.motion.specs.Arrangement.{Arrangement, occupied, vacant}
use Rattle.motion.specs.Move.{on_floor, goes_to}
use Rattle.motion.specs.LegalStep.{longest_train}

-- every element of the list passes the test
unfoldable pub every : {X : Type 0} → (X → Bool) → List X → Bool
every t [] = true
every t (x ∷ l) = t x && every t l

-- "its moves ascend strictly by position left"
unfoldable pub ascends : List (ℕ × ℕ) → Bool
ascends [] = true
ascends (m ∷ []) = true
ascends (m ∷ m' ∷ ms) = ltb m.0 m'.0 && ascends (m' ∷ ms)

unfoldable pub leaves : List (ℕ × ℕ) → ℕ → Bool
leaves ms p = some (λ m. eqb m.0 p) ms

unfoldable pub enters : List (ℕ × ℕ) → ℕ → Bool
enters ms p = some (λ m. eqb m.1 p) ms

-- "no position is entered twice"
unfoldable pub entered_once : List (ℕ × ℕ) → Bool
entered_once [] = true
entered_once (m ∷ ms) = not (enters ms m.1) && entered_once ms

-- "The chain is followed rack by rack to its leader: a move into a position left in the same step follows that move, and the
-- chain has to end at a move into a position vacant before the step."
unfoldable pub led : ℕ → List (ℕ × ℕ) → Arrangement → ℕ → Bool
led zero ms A p = vacant A p
led (suc k) ms A p = vacant A p || leaves ms p && led k ms A (goes_to ms p)

-- "A step is legal if its moves ascend strictly by position left; both positions of each are below n and joined by an edge;
-- each position left holds a rack; no position is entered twice; and each move belongs to a train with a leader." "A legal step has no
-- chain of more than eight moves from any mover to its leader": the mover is one of them, so its leader is at most seven moves further on.
unfoldable pub legal_step : Floor → Arrangement → List (ℕ × ℕ) → Bool
legal_step F A ms =
    ascends ms && every (on_floor F) ms && every (λ m. occupied A m.0) ms && entered_once ms
    && every (λ m. led (longest_train - 1) ms A m.1) ms
