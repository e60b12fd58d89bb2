-- Replay on tables, for checkers that look a position up by one load: the floor as a matrix of 64 entries to a row, and the arrangement
-- as a table with an entry for each position, the number of the rack that stands there, or 0. crates/order fills both.
--
--     edge_at g m               the matrix g has an edge between the two positions of m
--     held_at h p               by the table h a rack stands at p
--     entries_fault e l t       a move's fault by what the tables have: e for its edge, l where it leaves, t where it enters
--     move_fault_on g h m        the fault of the move m by the matrix g and the table h
--     listed_entries e l t r    the same with the rack r that the move names, 0 for none; listed_fault_on g h w
--     moved_on h m              the table h after the move m; listed_on h w    after the listed move w
--     misplaced_on r h G        by the table h, the lowest rack that does not stand at its goal, where G begins with
--                              rack r's; 0 where each does
--     MisplacedOn h G m r      r is that rack, where the goals G are those of racks 1 to m, so that it is at most m
--     judged_on l G counts x    the answer for a replay on tables that ended as x, as Judgement has it for arrangements
-- Assumes nothing.
use Rattle.std.specs.Prelude.{ℕ, suc, ◌+◌, ◌*◌, ◌≤◌, ◌≡◌, Bool, not, cond, List, [], ◌∷◌, Option, get_or, set, eqb}
use Rattle.answers.specs.Answer.{Answer, accepted, refused, refuse}
use Rattle.answers.specs.Found.{found}
use Rattle.motion.specs.Move.{fault_by, misnamed}
use Rattle.motion.specs.Replay.{Replayed, ended, stopped}

unfoldable pub edge_at : List ℕ → ℕ × ℕ → Bool
edge_at g m = not (eqb (get_or g (m.0 * 64 + m.1) 0) 0)

unfoldable pub held_at : List ℕ → ℕ → Bool
held_at h p = not (eqb (get_or h p 0) 0)

-- an edge, a rack at the position left, none at the position entered
unfoldable pub entries_fault : ℕ → ℕ → ℕ → ℕ
entries_fault edge left entered = fault_by (not (eqb edge 0)) (not (eqb left 0)) (eqb entered 0)

unfoldable pub move_fault_on : List ℕ → List ℕ → ℕ × ℕ → ℕ
move_fault_on g h m = entries_fault (get_or g (m.0 * 64 + m.1) 0) (get_or h m.0 0) (get_or h m.1 0)

unfoldable pub listed_entries : ℕ → ℕ → ℕ → ℕ → ℕ
listed_entries edge left entered rack =
    let f = entries_fault edge left entered in
    cond (eqb f 0) (misnamed rack left) f

unfoldable pub listed_fault_on : List ℕ → List ℕ → ℕ × ℕ × ℕ → ℕ
listed_fault_on g h w = listed_entries (get_or g (w.0 * 64 + w.1) 0) (get_or h w.0 0) (get_or h w.1 0) w.2

unfoldable pub moved_on : List ℕ → ℕ × ℕ → List ℕ
moved_on h m = set (set h m.0 0) m.1 (get_or h m.0 0)

unfoldable pub listed_on : List ℕ → ℕ × ℕ × ℕ → List ℕ
listed_on h w = moved_on h (w.0, w.1)

unfoldable pub misplaced_on : ℕ → List ℕ → List ℕ → ℕ
misplaced_on r h [] = 0
misplaced_on r h (g ∷ G) = cond (eqb (get_or h g 0) r) (misplaced_on (suc r) h G) r

pub record MisplacedOn (h G : List ℕ) (m : ℕ) (r : Option ℕ) : Type 0 where
  pub is : r ≡ found (misplaced_on 1 h G)
  pub at_most : misplaced_on 1 h G ≤ m

unfoldable pub judged_on : ℕ → List ℕ → List ℕ → Replayed → Answer
judged_on off goals counts (stopped number place) = refused number place
judged_on off goals counts (ended h) = refuse (not (eqb (misplaced_on 1 h goals) 0)) off (misplaced_on 1 h goals) (accepted counts)
