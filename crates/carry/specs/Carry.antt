-- The dearest single carry of a floor, from request (m): "For one rack alone on a connected floor, find the start and goal whose shortest
-- plan is longest, and give that plan, in edition two." All other positions are vacant for it, so that a move is legal exactly along an
-- edge (document 01, "Legal moves and steps"), and its plans are walks (proofs/OneRack.antt).
--
--     next_of F t a        the lowest position that an edge joins to a and that passes the test t; n where there is none
--     reaches F k a b     k moves lead from a to b
--     distance F a b      the least number of moves from a to b; n where they never lead there
--     greatest_below f k   the greatest of f 0, f 1, .., f (k - 1), and 0 of none
--     farthest F a        the most moves that a shortest plan from a has
--     longest F           the most moves that a shortest plan has, whatever its start
--     dearest_start F      the lowest start of so long a shortest plan
--     dearest_goal F       the lowest goal of one from there
--     way_from F k a b     the positions that the first of the plans of k moves from a to b enters
--     moves_along a l      the moves from a into the positions l, one after another
--     dearest_moves F      the plan of the dearest carry
--     carry_record F       its record
-- Assumes nothing.
use Rattle.std.specs.Prelude.{ℕ, zero, suc, max, Bool, true, ◌&&◌, List, [], ◌∷◌, ltb, eqb}
use Rattle.sets.specs.First.{first_from}
use Rattle.order.specs.Floor.{Floor, joined}
use Rattle.plan.specs.Plan.{plan_record}

unfoldable pub next_of : Floor → (ℕ → Bool) → ℕ → ℕ
next_of F t a = first_from (λ c. joined F a c && t c) 0 F.positions

-- the first of k + 1 moves enters a position from where k moves lead on
unfoldable pub reaches : Floor → ℕ → ℕ → ℕ → Bool
reaches F zero a b = eqb a b
reaches F (suc k) a b = ltb (next_of F (λ c. reaches F k c b) a) F.positions

-- "shortest": on a connected floor fewer than n moves lead from each position to each other
unfoldable pub distance : Floor → ℕ → ℕ → ℕ
distance F a b = first_from (λ k. reaches F k a b) 0 F.positions

unfoldable pub greatest_below : (ℕ → ℕ) → ℕ → ℕ
greatest_below f zero = 0
greatest_below f (suc k) = max (greatest_below f k) (f k)

unfoldable pub farthest : Floor → ℕ → ℕ
farthest F a = greatest_below (distance F a) F.positions

unfoldable pub longest : Floor → ℕ
longest F = greatest_below (farthest F) F.positions

-- "Of several pairs take the lowest start, then the lowest goal". "On a floor of one position the answer is 0 to 0 with no moves."
unfoldable pub dearest_start : Floor → ℕ
dearest_start F = first_from (λ a. eqb (farthest F a) (longest F)) 0 F.positions

unfoldable pub dearest_goal : Floor → ℕ
dearest_goal F = first_from (λ b. eqb (distance F (dearest_start F) b) (longest F)) 0 F.positions

-- "of several shortest plans, the one entering the lower position at the first move where they differ"
unfoldable pub way_from : Floor → ℕ → ℕ → ℕ → List ℕ
way_from F zero a b = []
way_from F (suc k) a b = let c = next_of F (λ c. reaches F k c b) a in c ∷ way_from F k c b

unfoldable pub moves_along : ℕ → List ℕ → List (ℕ × ℕ)
moves_along a [] = []
moves_along a (c ∷ l) = (a, c) ∷ moves_along c l

unfoldable pub dearest_moves : Floor → List (ℕ × ℕ)
dearest_moves F = moves_along (dearest_start F) (way_from F (longest F) (dearest_start F) (dearest_goal F))

-- the one rack is rack 1, so that its field in edition two is 0
unfoldable pub carry_record : Floor → List ℕ
carry_record F = plan_record true (dearest_start F ∷ []) (dearest_moves F)
