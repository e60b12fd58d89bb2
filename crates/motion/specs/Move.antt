-- Moves, from document 01, "Legal moves and steps". A move is a pair: the position left, then the position entered.
--
--     on_floor F m       both positions of m are below n and an edge joins them
--     legal_move F A m   m is legal on the arrangement A of the floor F
--     fault_by j h v     a move's fault by its tests: its positions are joined, the first holds a rack, the second is vacant
--     move_fault F A m   the fault of the move m on the arrangement A of the floor F: its number, or 0 where it is legal
--     misnamed r s      the fault of a move that names the rack r, 0 for none, where the rack s stands: 36, or 0 for none
--     listed_fault F A w the fault of a move as a plan lists it, with the rack that it names
--     goes_to ms p       where a rack that stands at p is taken by the moves ms, made all at once
--     after A ms        the arrangement that the moves ms, made all at once, make of A
--     after_move A m     the arrangement that the one move m makes of A
--     after_listed A w   the same of a move as a plan lists it
-- Assumes nothing.
use Rattle.std.specs.Prelude.{ℕ, Bool, true, false, cond, ◌&&◌, ◌||◌, List, [], ◌∷◌, map, ltb, eqb}
use Rattle.order.specs.Floor.{Floor, joined}
use Rattle.motion.specs.Arrangement.{Arrangement, occupied, vacant, rack_at}

-- "both positions are below n, an edge joins them"
unfoldable pub on_floor : Floor → ℕ × ℕ → Bool
on_floor F m = ltb m.0 F.positions && ltb m.1 F.positions && joined F m.0 m.1

-- "A move is legal if both positions are below n, an edge joins them, the first holds a rack and the second is vacant."
unfoldable pub legal_move : Floor → Arrangement → ℕ × ℕ → Bool
legal_move F A m = on_floor F m && occupied A m.0 && vacant A m.1

-- Request (c): "32 means that a position is n or more or that no edge joins the two"; "34 no rack at the position left; 35 the position
-- entered is occupied", "tested after 32 for the same move"
unfoldable pub fault_by : Bool → Bool → Bool → ℕ
fault_by false holds free = 32
fault_by true false free = 34
fault_by true true false = 35
fault_by true true true = 0

unfoldable pub move_fault : Floor → Arrangement → ℕ × ℕ → ℕ
move_fault F A m = fault_by (on_floor F m) (occupied A m.0) (vacant A m.1)

-- Request (h): "36 the rack written is not the one there, with 35's place and order, but after 35 for the same move"
unfoldable pub misnamed : ℕ → ℕ → ℕ
misnamed r s = cond (eqb r 0 || eqb r s) 0 36

unfoldable pub listed_fault : Floor → Arrangement → ℕ × ℕ × ℕ → ℕ
listed_fault F A w =
    let f = move_fault F A (w.0, w.1) in
    cond (eqb f 0) (misnamed w.2 (rack_at A w.0)) f

unfoldable pub goes_to : List (ℕ × ℕ) → ℕ → ℕ
goes_to [] p = p
goes_to (m ∷ ms) p = cond (eqb p m.0) m.1 (goes_to ms p)

-- "takes the rack at the position left to the position entered and leaves all others where they are; a legal step does so
-- for all its moves at once"
unfoldable pub after : Arrangement → List (ℕ × ℕ) → Arrangement
after A ms = map (goes_to ms) A

unfoldable pub after_move : Arrangement → ℕ × ℕ → Arrangement
after_move A m = after A (m ∷ [])

unfoldable pub after_listed : Arrangement → ℕ × ℕ × ℕ → Arrangement
after_listed A w = after_move A (w.0, w.1)
