-- How many edges a floor's rows have: the number e of document 01's "a ring is a bi-connected floor with exactly n edges".
--
--     row_sum g a k        how many of the positions below k are joined to a: as many as the row of a has below k
--     edge_count g n       how many edges join positions below n: those in each row before the diagonal, so that each edge counts once
--     FourSided n g       no position below n is joined to more than four others
-- Assumes nothing.
use Rattle.std.specs.Prelude.{ℕ, zero, suc, ◌+◌, ◌≤◌, ◌<◌, List, get_or}
use Rattle.sets.specs.Sets.{bit}
use Rattle.sets.specs.Sum.{sum_below}

abbrev pub row_sum : List ℕ → ℕ → ℕ → ℕ
row_sum g a k = sum_below (bit (get_or g a 0)) k

unfoldable pub edge_count : List ℕ → ℕ → ℕ
edge_count g zero = 0
edge_count g (suc a) = edge_count g a + row_sum g a a

-- request (j): "floors of at most four neighbours to a position"
abbrev pub FourSided : ℕ → List ℕ → Type 0
FourSided n g = (p : ℕ) → p < n → row_sum g p n ≤ 4
