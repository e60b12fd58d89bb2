-- How an order is written, part by part. Nothing here is part of a promise to a caller of `expand`: it stands between the functions.
--
--     SizeOf k r c           r and c are the rows and columns of model k, and what the arithmetic on them needs
--     edge_if t p q          the edge from p to q, if t says that it is there
--     tail_pairs r c racks m  what follows the head of an order on a grid of r rows and c columns, in pairs: the edges, and the m starts
--                            and m goals that `racks` begins with
--     order_head n e m        an order's head as bytes: n in 7 bits, e in 8, m in 7, two zero bits
--     put_pairs s j ps        the byte string s with the pairs ps written after its first j pairs, one after another
--     Room s j ps            s has room for them
--     Put s j ps t r         t is s with ps so written, and r pairs stand in front of the next writer
-- Assumes nothing.
use Rattle.std.specs.Prelude.{ℕ, ◌+◌, ◌*◌, ◌/◌, ◌%◌, ◌≤◌, ◌≡◌, Bool, cond, List, [], ◌∷◌, ◌++◌, length}
use Rattle.field.specs.Bits.{pairs}
use Rattle.field.specs.Packing.{put_pair}
use Rattle.models.specs.Grid.{rows_of, columns_of, grid_edges, model_floor}

pub record SizeOf (k r c : ℕ) : Type 0 where
  pub rows_are : r ≡ rows_of k
  pub columns_are : c ≡ columns_of k
  pub some_column : 1 ≤ c
  pub few_columns : c ≤ 64
  pub few : r * c ≤ 64
  -- each row has one edge fewer than positions, and so has each column
  pub edges_are : length (model_floor k).edges + (r + c) ≡ 2 * (r * c)

abbrev pub edge_if : Bool → ℕ → ℕ → List (ℕ × ℕ)
edge_if there p q = cond there ((p, q) ∷ []) []

-- starts and goals are 2 × m positions, so m pairs
abbrev pub tail_pairs : ℕ → ℕ → List ℕ → ℕ → List (ℕ × ℕ)
tail_pairs r c racks m = grid_edges r c ++ pairs racks 0 m

unfoldable pub order_head : ℕ → ℕ → ℕ → List ℕ
order_head n e m = (n * 2 + e / 128) ∷ (e % 128 * 2 + m / 64) ∷ (m % 64 * 4) ∷ []

unfoldable pub put_pairs : List ℕ → ℕ → List (ℕ × ℕ) → List ℕ
put_pairs s j [] = s
put_pairs s j (p ∷ ps) = put_pairs (put_pair s j p.0 p.1) (j + 1) ps

pub record Room (s : List ℕ) (j : ℕ) (ps : List (ℕ × ℕ)) : Type 0 where
  pub room : (12 * (j + length ps) + 7) / 8 ≤ length s

pub record Put (s : List ℕ) (j : ℕ) (ps : List (ℕ × ℕ)) (t : List ℕ) (r : ℕ) : Type 0 where
  pub bytes_are : t ≡ put_pairs s j ps
  pub next_is : r ≡ j + length ps
