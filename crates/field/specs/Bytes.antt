-- Lists of numbers that are bytes, and of pairs of positions that fit their fields.
--
--     Below b l             every number of l is below b
--     Bytes s               every number of s is a byte
--     BelowPairs b l                        every pair of l has both its positions below b
-- Assumes nothing.
use Rattle.std.specs.Prelude.{ℕ, ◌<◌, List, [], ◌∷◌}

-- every number of the list is below b
pub data Below (b : ℕ) : List ℕ → Type 0 where
  none : Below b []
  more : {x : ℕ} {l : List ℕ} → x < b → Below b l → Below b (x ∷ l)

abbrev pub Bytes : List ℕ → Type 0
Bytes l = Below 256 l

-- every pair of the list has both its positions below b
pub data BelowPairs (b : ℕ) : List (ℕ × ℕ) → Type 0 where
  none₂ : BelowPairs b []
  more₂ : {p : ℕ × ℕ} {l : List (ℕ × ℕ)} → p.0 < b → p.1 < b → BelowPairs b l → BelowPairs b (p ∷ l)
