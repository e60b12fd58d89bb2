-- The shortening rule, from request (e): "Plans sometimes drive a rack out and straight back."
--
--     move_at ms i        the move of index i, indices counted from 0
--     rack_of A ms i      the rack that it moves, by replay from the arrangement A
--     between ms i j     the moves between the moves of index i and j
--     visits m x         the move x leaves or enters either position of the move m
--     cancels A ms i j   the moves of index i and j of ms cancel, the later being j
--     without ms i j     ms without the moves of index i and j
--     NoPair A ms        no two moves of ms cancel
--     FirstPair A ms i j i and j are the cancelling pair whose later move comes first
--     Shortens A ms ns   the rule makes ns of ms: the relation
--     partner A ms j     the index of the move that cancels with move j, j where none does
--     later_move A ms     the index of the first move that has a partner, the count of moves where none has
--     shorten A n ms     the rule, applied at most n times
--     shortened A ms     the rule, applied until no pair is left: the function
-- Assumes nothing.
use Rattle.std.specs.Prelude.{ℕ, zero, suc, ◌-◌, ◌<◌, Bool, not, cond, ◌&&◌, ◌||◌, List, ◌++◌, length, get_or, take, drop, T, ltb, eqb}
use Rattle.sets.specs.First.{first_from}
use Rattle.order.specs.Floor.{some, is_pair}
use Rattle.motion.specs.Arrangement.{Arrangement, rack_at}
use Rattle.motion.specs.Move.{after_move}
use Rattle.motion.specs.Problem.{arrangement_at}
use Rattle.motion.specs.Replay.{trace}

unfoldable pub move_at : List (ℕ × ℕ) → ℕ → ℕ × ℕ
move_at ms i = get_or ms i (0, 0)

unfoldable pub rack_of : Arrangement → List (ℕ × ℕ) → ℕ → ℕ
rack_of A ms i = rack_at (arrangement_at (trace after_move A ms) i) (move_at ms i).0

unfoldable pub between : List (ℕ × ℕ) → ℕ → ℕ → List (ℕ × ℕ)
between ms i j = take (j - suc i) (drop (suc i) ms)

-- "leaves or enters either position"
unfoldable pub visits : ℕ × ℕ → ℕ × ℕ → Bool
visits m x = eqb x.0 m.0 || eqb x.0 m.1 || eqb x.1 m.0 || eqb x.1 m.1

-- "Two moves cancel if the later undoes the earlier for the same rack and no move between them leaves or enters either position."
unfoldable pub cancels : Arrangement → List (ℕ × ℕ) → ℕ → ℕ → Bool
cancels A ms i j =
    ltb i j && ltb j (length ms)
    && is_pair ((move_at ms i).1, (move_at ms i).0) (move_at ms j)
    && eqb (rack_of A ms i) (rack_of A ms j)
    && not (some (visits (move_at ms i)) (between ms i j))

-- "Remove the cancelling pair"
unfoldable pub without : List (ℕ × ℕ) → ℕ → ℕ → List (ℕ × ℕ)
without ms i j = take i ms ++ between ms i j ++ drop (suc j) ms

pub record NoPair (A : Arrangement) (ms : List (ℕ × ℕ)) : Type 0 where
  pub none : (i j : ℕ) → T (cancels A ms i j) → ⊥

-- "the cancelling pair whose later move comes first"
pub record FirstPair (A : Arrangement) (ms : List (ℕ × ℕ)) (i j : ℕ) : Type 0 where
  pub cancel : T (cancels A ms i j)
  pub first : (i' j' : ℕ) → T (cancels A ms i' j') → j' < j → ⊥

-- "and repeat until none is left"
pub data Shortens (A : Arrangement) : List (ℕ × ℕ) → List (ℕ × ℕ) → Type 0 where
  done : {ms : List (ℕ × ℕ)} → NoPair A ms → Shortens A ms ms
  again : {ms ns : List (ℕ × ℕ)} {i j : ℕ} → FirstPair A ms i j → Shortens A (without ms i j) ns → Shortens A ms ns

-- the same as a function

unfoldable pub partner : Arrangement → List (ℕ × ℕ) → ℕ → ℕ
partner A ms j = first_from (λ i. cancels A ms i j) 0 j

unfoldable pub later_move : Arrangement → List (ℕ × ℕ) → ℕ
later_move A ms = first_from (λ j. ltb (partner A ms j) j) 0 (length ms)

unfoldable pub shorten : Arrangement → ℕ → List (ℕ × ℕ) → List (ℕ × ℕ)
shorten A zero ms = ms
shorten A (suc n) ms =
    let j = later_move A ms in
    cond (ltb j (length ms)) (shorten A n (without ms (partner A ms j) j)) ms

-- each removal takes two moves away, so as many removals as there are moves are enough
unfoldable pub shortened : Arrangement → List (ℕ × ℕ) → List (ℕ × ℕ)
shortened A ms = shorten A (length ms) ms
