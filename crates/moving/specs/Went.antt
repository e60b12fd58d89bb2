-- Moves on a table: for each position the rack that stands there, or 0. A table is a function of the position here, so that two tables are
-- the same where they agree at every position, and nothing has to be said of lists. Racks above m are stand-ins: document 01, "Breakdown
-- and planning": "Vacancies beyond two are filled with stand-in racks whose moves are dropped."
--
--     Same h k                 the tables h and k agree at every position
--     Move E h a b k           the rack at a moves along an edge of E to b, which is vacant: that makes k of h
--     Went E m h ms ws k       the moves ms, each legal at its turn, lead from h to k; ws are those of them that move a rack up to m, each
--                              with that rack
--     Within P ms              each move of ms leaves a position of P and enters one
--     Back E h ms k            the moves ms turned round, each skipped where nothing stands at the position to leave, lead from h to k
-- Assumes nothing.
use Rattle.std.specs.Prelude.{ℕ, ◌≤◌, ◌<◌, ◌≡◌, List, [], ◌∷◌, ◌≢◌}

abbrev pub Same : (ℕ → ℕ) → (ℕ → ℕ) → Type 0
Same h k = (p : ℕ) → h p ≡ k p

-- "A move is legal if both positions are below n, an edge joins them, the first holds a rack and the second is vacant." "A legal move takes
-- the rack at the position left to the position entered and leaves all others where they are".
pub record Move (E : ℕ → ℕ → Type 0) (h : ℕ → ℕ) (a b : ℕ) (k : ℕ → ℕ) : Type 0 where
  pub edge : E a b
  pub held : h a ≢ 0
  pub vacant : h b ≡ 0
  pub entered : k b ≡ h a
  pub left : k a ≡ 0
  pub others : (p : ℕ) → p ≢ a → p ≢ b → k p ≡ h p

-- Request (h): "each move has 6 more bits at its end, rack number minus 1": r is the rack that moves.
pub data Went (E : ℕ → ℕ → Type 0) (m : ℕ) : (ℕ → ℕ) → List (ℕ × ℕ) → List (ℕ × ℕ × ℕ) → (ℕ → ℕ) → Type 0 where
  stay : {h k : ℕ → ℕ} → Same h k → Went E m h [] [] k
  real : {h i k : ℕ → ℕ} {a b r : ℕ} {ms : List (ℕ × ℕ)} {ws : List (ℕ × ℕ × ℕ)} → Move E h a b i → r ≡ h a → h a ≤ m
      → Went E m i ms ws k → Went E m h ((a, b) ∷ ms) ((a, b, r) ∷ ws) k
  stand_in : {h i k : ℕ → ℕ} {a b : ℕ} {ms : List (ℕ × ℕ)} {ws : List (ℕ × ℕ × ℕ)} → Move E h a b i → m < h a → Went E m i ms ws k
      → Went E m h ((a, b) ∷ ms) ws k

pub data Within (P : ℕ → Type 0) : List (ℕ × ℕ) → Type 0 where
  none : Within P []
  more : {a b : ℕ} {ms : List (ℕ × ℕ)} → P a → P b → Within P ms → Within P ((a, b) ∷ ms)

pub data Back (E : ℕ → ℕ → Type 0) : (ℕ → ℕ) → List (ℕ × ℕ) → (ℕ → ℕ) → Type 0 where
  done : {h k : ℕ → ℕ} → Same h k → Back E h [] k
  skip : {h k : ℕ → ℕ} {a b : ℕ} {ms : List (ℕ × ℕ)} → h b ≡ 0 → Back E h ms k → Back E h ((a, b) ∷ ms) k
  back : {h i k : ℕ → ℕ} {a b : ℕ} {ms : List (ℕ × ℕ)} → Move E h b a i → Back E i ms k → Back E h ((a, b) ∷ ms) k
