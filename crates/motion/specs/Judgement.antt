-- How a replay is judged, from document 01, "Returned numbers": the first move or step that is not legal, then the lowest rack that is
-- not at its goal. "33 and 43 are judged only when every move or step was legal."
--
--     misplaced r A G          the lowest rack that does not stand at its goal, where A and G begin with rack r; 0 where each does
--     judged l G counts x      the answer for a replay that ended as x: the fault of the first move or step that has one, number
--                              l with the lowest rack not at its goal in G, else accepted with the counts
-- Assumes nothing.
use Rattle.std.specs.Prelude.{ℕ, suc, not, cond, List, [], ◌∷◌, eqb}
use Rattle.answers.specs.Answer.{Answer, accepted, refused, refuse}
use Rattle.motion.specs.Arrangement.{Arrangement}
use Rattle.motion.specs.Replay.{Replayed, ended, stopped}

unfoldable pub misplaced : ℕ → Arrangement → Arrangement → ℕ
misplaced r [] G = 0
misplaced r (p ∷ A) [] = r
misplaced r (p ∷ A) (g ∷ G) = cond (eqb p g) (misplaced (suc r) A G) r

unfoldable pub judged : ℕ → Arrangement → List ℕ → Replayed → Answer
judged off goals counts (stopped number place) = refused number place
judged off goals counts (ended A) = refuse (not (eqb (misplaced 1 A goals) 0)) off (misplaced 1 A goals) (accepted counts)
