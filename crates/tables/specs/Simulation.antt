-- Two replays side by side: one on arrangements, one on what a checker keeps in their place, of moves and of steps alike.
--
--     Each P xs          each of the list xs has the property P
-- Assumes nothing.
use Rattle.std.specs.Prelude.{List, [], ◌∷◌}

pub data Each {X : Type 0} (P : X → Type 0) : List X → Type 0 where
  each_none : Each P []
  each_more : {x : X} {xs : List X} → P x → Each P xs → Each P (x ∷ xs)
