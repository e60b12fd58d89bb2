-- What a search from one position to the nearest of a set of targets yields.
--
--     Nearest E P T a k f    k is 0 exactly where no walk inside P leads from a to a target of T; else the k positions f 0, f 1, .. are a
--                            path from a to a target, no walk from a to a target has fewer, and no shortest one that begins with the same
--                            positions goes on to a lower one: of the shortest walks it is the one that enters the lower position first
--     NearestRoute E P T a r   the same of what the code has: of the route r, whose size is not 0; no route is read as the size 0
-- Assumes nothing.
use Rattle.std.specs.Prelude.{ℕ, ◌+◌, ◌-◌, ◌≤◌, ◌<◌, ◌≡◌, Option, Some, None}
use Rattle.graph.specs.Rows.{row}
use Rattle.graph.specs.declared.Route.{Route}
use Rattle.graph.specs.Walk.{Walk, Path}

pub record Nearest (E : ℕ → ℕ → Type 0) (P T : ℕ → Type 0) (a k : ℕ) (f : ℕ → ℕ) : Type 0 where
  pub none : k ≡ 0 → (t j : ℕ) → Walk E P a t j → T t → ⊥
  pub path : 0 < k → Path E P a (f (k - 1)) k f
  pub target : 0 < k → T (f (k - 1))
  pub shortest : (t j : ℕ) → Walk E P a t j → T t → k ≤ j
  -- w is joined to the position f i, and a walk from w to a target makes a shortest one of what is behind f i
  pub lowest : (i w t : ℕ) → i + 1 < k → E (f i) w → Walk E P w t (k - (i + 1)) → T t → f (i + 1) ≤ w

abbrev pub NearestRoute : (ℕ → ℕ → Type 0) → (ℕ → Type 0) → (ℕ → Type 0) → ℕ → Option Route → Type 0
NearestRoute E P T a None = Nearest E P T a 0 (λ i. 0)
NearestRoute E P T a (Some r) = (0 < r.size) × Nearest E P T a r.size (row r.at)
