-- Routes and visits, from request (g), "No shorter timetable for this plan": "no legal timetable in which each rack keeps its route, and
-- each position its sequence of visiting racks". Both are read off the arrangements that a replay passes through, of a plan's moves and of
-- a timetable's steps alike, the first and the last included.
--
--     changes_after x l       the elements of l that differ from the one before them, x standing before the first
--     changes l              l without repeats in a row
--     route S r              the route of rack r through the arrangements S: its positions in order, without repeats for waiting
--     racks_among l           the racks among l, where 0 stands for no rack
--     visitors S p           the racks that visit position p through the arrangements S, in order: the first occupant included, and a rack
--                            that comes again counted again
--     Keeps F A ms steps     from the arrangement A, the steps keep the routes and visits of the plan ms
--     LegalInTurn F A steps  each of the steps is legal at its turn, from the arrangement A on
-- Assumes nothing.
use Rattle.std.specs.Prelude.{ℕ, ◌<◌, ◌≡◌, cond, List, [], ◌∷◌, map, length, eqb}
use Rattle.order.specs.Floor.{Floor}
use Rattle.motion.specs.Arrangement.{Arrangement, stands, rack_at}
use Rattle.motion.specs.Move.{after, after_move}
use Rattle.motion.specs.LegalStep.{LegalStep}
use Rattle.motion.specs.Problem.{IsRack}
use Rattle.motion.specs.Replay.{trace}

unfoldable pub changes_after : ℕ → List ℕ → List ℕ
changes_after x [] = []
changes_after x (y ∷ l) = let rest = changes_after y l in cond (eqb x y) rest (y ∷ rest)

unfoldable pub changes : List ℕ → List ℕ
changes [] = []
changes (x ∷ l) = x ∷ changes_after x l

-- "its route"
unfoldable pub route : List Arrangement → ℕ → List ℕ
route S r = changes (map (λ A. stands A r) S)

unfoldable pub racks_among : List ℕ → List ℕ
racks_among [] = []
racks_among (r ∷ l) = let rest = racks_among l in cond (eqb r 0) rest (r ∷ rest)

-- "its sequence of visiting racks": a rack that stays for several steps makes one visit, and one that left and came back makes two
unfoldable pub visitors : List Arrangement → ℕ → List ℕ
visitors S p = racks_among (changes (map (λ A. rack_at A p) S))

-- "each rack keeps its route, and each position its sequence of visiting racks"
pub record Keeps (F : Floor) (A : Arrangement) (ms : List (ℕ × ℕ)) (steps : List (List (ℕ × ℕ))) : Type 0 where
  pub routes : (r : ℕ) → IsRack (length A) r → route (trace after A steps) r ≡ route (trace after_move A ms) r
  pub visits : (p : ℕ) → p < F.positions → visitors (trace after A steps) p ≡ visitors (trace after_move A ms) p

-- "legal timetable"; document 01: "Each move or step is judged on the arrangement that those before it left." No limit on their number.
pub data LegalInTurn (F : Floor) : Arrangement → List (List (ℕ × ℕ)) → Type 0 where
  no_more : {A : Arrangement} → LegalInTurn F A []
  one_more : {A : Arrangement} {ms : List (ℕ × ℕ)} {steps : List (List (ℕ × ℕ))} → LegalStep F A ms → LegalInTurn F (after A ms) steps
      → LegalInTurn F A (ms ∷ steps)
