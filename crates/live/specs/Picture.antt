-- The live floor picture, from request (k): "The controller holds a live floor picture, changed by each step as racks arrive." It is the
-- struct `Floor` of src/lib.rt: the opening floor's n, the rack at each position, and how many steps were run and not taken back.
--
--     Picture            a picture, whoever wrote it
--     is_open P           the picture P is open: it has an opening floor, and a floor has at least one position (11)
--     held_from p h       the positions at which a rack stands, by a table h whose first entry is position p's
--     standing P         the positions at which a rack stands on the picture P, as an arrangement. Which rack stands where does not matter
--                        for whether a step is legal
--     LegalHere P F ms   the step ms is legal on the picture P by the floor F
-- Assumes nothing.
use Rattle.std.specs.Prelude.{ℕ, suc, ◌<◌, Bool, not, cond, eqb}
use mathlib.Core.List.{List, [], ◌∷◌, Memᴰ}
use Rattle.order.specs.Floor.{Floor}
use Rattle.motion.specs.Arrangement.{Arrangement}
use Rattle.motion.specs.LegalStep.{LegalStep}
use Rattle.live.specs.declared.Floor.{Floor as Picture'}

abbrev pub Picture : Type 0
Picture = Picture'

unfoldable pub is_open : Picture → Bool
is_open P = not (eqb P.positions 0)

unfoldable pub held_from : ℕ → List ℕ → Arrangement
held_from p [] = []
held_from p (r ∷ h) = cond (eqb r 0) (held_from (suc p) h) (p ∷ held_from (suc p) h)

unfoldable pub standing : Picture → Arrangement
standing P = held_from 0 P.racks

pub record LegalHere (P : Picture) (F : Floor) (ms : List (ℕ × ℕ)) : Type 0 where
  -- "Legality goes by the lent order's floor,
  pub legal : LegalStep F (standing P) ms
  -- and a step naming a position that the opening floor lacks is not legal."
  pub known : (m : ℕ × ℕ) → Memᴰ m ms → (m.0 < P.positions) × (m.1 < P.positions)
