-- Orders of the case book: document 01, "Case book", 4 and 5, and of request (d). F is n = 4, edges 0-1, 0-2, 1-2, 1-3, 2-3.
--
--     three_in_ring    three positions in a ring, one rack: planned
--     mirrored       four positions in a ring, three racks that stand the other way round at the goal: 24
--     three_racks     F with three racks: 20
--     path_of_four     the path 0-1, 1-2, 2-3, one rack: 21
-- Assumes nothing.
use Rattle.std.specs.Prelude.{ℕ, List, [], ◌∷◌}

-- n = 3, edges 0-1, 0-2, 1-2, rack 1 from 0 to 1
abbrev pub three_in_ring : List ℕ
three_in_ring = 0x06 ∷ 0x06 ∷ 0x04 ∷ 0x00 ∷ 0x10 ∷ 0x02 ∷ 0x04 ∷ 0x20 ∷ 0x01 ∷ []

-- F, racks from 0, 1, 2 to 1, 2, 0
abbrev pub three_racks : List ℕ
three_racks = 0x08 ∷ 0x0A ∷ 0x0C ∷ 0x00 ∷ 0x10 ∷ 0x02 ∷ 0x04 ∷ 0x20 ∷ 0x43 ∷ 0x08 ∷ 0x30 ∷ 0x01 ∷ 0x08 ∷ 0x10 ∷ 0x80 ∷ []

-- n = 4, edges 0-1, 1-2, 2-3, rack 1 from 0 to 3
abbrev pub path_of_four : List ℕ
path_of_four = 0x08 ∷ 0x06 ∷ 0x04 ∷ 0x00 ∷ 0x10 ∷ 0x42 ∷ 0x08 ∷ 0x30 ∷ 0x03 ∷ []

-- n = 4, edges 0-1, 0-3, 1-2, 2-3, racks from 0, 1, 2 to 2, 1, 0
abbrev pub mirrored : List ℕ
mirrored = 0x08 ∷ 0x08 ∷ 0x0C ∷ 0x00 ∷ 0x10 ∷ 0x03 ∷ 0x04 ∷ 0x20 ∷ 0x83 ∷ 0x00 ∷ 0x10 ∷ 0x82 ∷ 0x04 ∷ 0x00 ∷ []
