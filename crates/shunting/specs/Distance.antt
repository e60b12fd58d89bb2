-- How far a position is from the nearest vacancy, with some positions held fast: request (b), "Clear a position by the nearest vacancy". A
-- way is a walk along edges; its length is the number of its edges. h is a table of racks, with 0 for a vacancy. "Stand-ins count as racks
-- here": a stand-in has a number, as every rack has.
--
--     Unheld n held p         p is a position of a floor of n that is not held
--     WayFrom E P h p d       a way of d edges leads from a vacancy of the table h to p, and all its positions are in P
--     NoWay E P h p           there is none, whatever its length
--     Distance E P h p d      there is one, and none is shorter
--     Reaches E P h p         there is one, whatever its length
--     AtMost c P              no more than c different positions are in P (graph's Walk)
-- Assumes nothing.
use Rattle.std.specs.Prelude.{ℕ, suc, ◌≤◌, ◌<◌, ◌≡◌}
use Rattle.sets.specs.Sets.{Has}
use Rattle.graph.specs.Walk.{Walk}
pub use Rattle.graph.specs.Walk.{AtMost}

-- "with some positions held fast"
pub record Unheld (n held p : ℕ) : Type 0 where
  pub inside : p < n
  pub loose : Has held p → ⊥

-- "way from a vacancy avoiding the held ones, both ends included": P are the positions that are not held. A walk of d edges has d + 1
-- positions.
pub record WayFrom (E : ℕ → ℕ → Type 0) (P : ℕ → Type 0) (h : ℕ → ℕ) (p d : ℕ) : Type 0 where
  pub from : ℕ
  pub vacant : h from ≡ 0
  pub walk : Walk E P from p (suc d)

-- "If no vacancy has a way"
abbrev pub NoWay : (ℕ → ℕ → Type 0) → (ℕ → Type 0) → (ℕ → ℕ) → ℕ → Type 0
NoWay E P h p = (d : ℕ) → WayFrom E P h p d → ⊥

-- "the shortest way"
pub record Distance (E : ℕ → ℕ → Type 0) (P : ℕ → Type 0) (h : ℕ → ℕ) (p d : ℕ) : Type 0 where
  pub way : WayFrom E P h p d
  pub shortest : (e : ℕ) → WayFrom E P h p e → d ≤ e

abbrev pub Reaches : (ℕ → ℕ → Type 0) → (ℕ → Type 0) → (ℕ → ℕ) → ℕ → Type 0
Reaches E P h p = (d : ℕ) × WayFrom E P h p d
