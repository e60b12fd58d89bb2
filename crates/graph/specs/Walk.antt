-- Walks on a floor, over an edge relation and a set of allowed positions. Document 01, "The floor": "A floor has n positions, numbered from
-- 0, and edges between pairs of them." In the field's terms the floor is a graph, a position a vertex.
--
--     Walk E P a b k     a walk along edges of E from a to b, k positions counted with repetition, each of them, both ends too,
--                        allowed by P
--     Way E P a b        some walk leads from a to b
--     Symmetric E        an edge joins both ways
--     Path E P a b k f   the k positions f 0, f 1, .. are a walk from a to b and no two of them are the same
--     AtMost c P         no more than c different positions are in P
-- Assumes nothing.
use Rattle.std.specs.Prelude.{ℕ, suc, ◌+◌, ◌-◌, ◌≤◌, ◌<◌, ◌≡◌, ◌≢◌}

-- Positions are counted, not edges: a position alone is a walk of one.
pub data Walk (E : ℕ → ℕ → Type 0) (P : ℕ → Type 0) : ℕ → ℕ → ℕ → Type 0 where
  alone : {a : ℕ} → P a → Walk E P a a 1
  step : {a b c k : ℕ} → P a → E a b → Walk E P b c k → Walk E P a c (suc k)

abbrev pub Symmetric : (ℕ → ℕ → Type 0) → Type 0
Symmetric E = (p q : ℕ) → E p q → E q p

pub record Way (E : ℕ → ℕ → Type 0) (P : ℕ → Type 0) (a b : ℕ) : Type 0 where
  pub size : ℕ
  pub walk : Walk E P a b size

pub record Path (E : ℕ → ℕ → Type 0) (P : ℕ → Type 0) (a b k : ℕ) (f : ℕ → ℕ) : Type 0 where
  pub some : 0 < k
  pub first : f 0 ≡ a
  pub last : f (k - 1) ≡ b
  pub inside : (i : ℕ) → i < k → P (f i)
  pub joined : (i : ℕ) → i + 1 < k → E (f i) (f (i + 1))
  pub distinct : (i j : ℕ) → i < j → j < k → f i ≢ f j

pub record AtMost (c : ℕ) (P : ℕ → Type 0) : Type 0 where
  pub different : (f : ℕ → ℕ) (k : ℕ) → ((i : ℕ) → i < k → P (f i)) → ((i j : ℕ) → i < j → j < k → f i ≢ f j) → k ≤ c
