-- Pebble motion on a graph: Surynek's Definition 1 (source document 001), word for word, with document 01's readings. `Problem`
-- has the notions that it shares with Definition 2.
--
--     IntoUnoccupied m S S'      point (iv), between an arrangement and the next
--     OneMoves m S S'            exactly one rack moves between an arrangement and the next
--     Solution F m S⁰ S⁺ ξ S     the sequence S = [S⁰, S¹, …, S^ξ] is a solution that moves one rack at each step
--
-- Document 01 reads the source so: "Definition 2 states its move conditions from time step 1 on. Here they hold from step 0, the
-- first departure from the start arrangement." "Definition 2 has fewer racks than positions; here a full floor may be checked
-- too, and no rack on it can move. No steps at all is a solution when each start is its goal." The same is meant of Definition 1;
-- and its plans are made "one rack at a time", while the source lets several pebbles move in a time step.
-- Assumes nothing.
use Rattle.std.specs.Prelude.{ℕ, suc, ◌<◌, ◌≤◌, List, ◌≢◌, ◌≡◌, length}
use Rattle.order.specs.Floor.{Floor}
use Rattle.motion.specs.Arrangement.{Arrangement, stands}
pub use Rattle.motion.specs.Problem.{IsRack, UniquelyInvertible, Instance, AlongEdges}
unfoldable pub use Rattle.motion.specs.Problem.{arrangement_at}

-- "if S^k(p) ≠ S^{k+1}(p) (that is, the pebble p moves between time steps k and k + 1) then S^k(q) ≠ S^{k+1}(p) ∀q ∈ P with q ≠ p
-- must hold for every p ∈ P … (that is, a pebble can move into a currently unoccupied vertex only)"
abbrev pub IntoUnoccupied : ℕ → Arrangement → Arrangement → Type 0
IntoUnoccupied m S S' = (p : ℕ) → IsRack m p → stands S p ≢ stands S' p → (q : ℕ) → IsRack m q → q ≢ p → stands S q ≢ stands S' p

-- document 01: "one rack at a time"
abbrev pub OneMoves : ℕ → Arrangement → Arrangement → Type 0
OneMoves m S S' = (p : ℕ) × IsRack m p × (stands S p ≢ stands S' p) × ((q : ℕ) → IsRack m q → q ≢ p → stands S q ≡ stands S' q)

-- "the task to find a number ξ and a sequence of pebble arrangements S = [S⁰, S¹, …, S^ξ] such that the following conditions hold"
pub record Solution (F : Floor) (m : ℕ) (S⁰ S⁺ : Arrangement) (ξ : ℕ) (S : List Arrangement) : Type 0 where
  pub sequence : length S ≡ suc ξ
  pub begins : arrangement_at S 0 ≡ S⁰
  -- (i) "S^k : P → V is a uniquely invertible function for every k = 1, 2, …, ξ"; here from 0 on
  pub invertible : (k : ℕ) → k ≤ ξ → UniquelyInvertible F m (arrangement_at S k)
  -- (ii) "S^ξ = S⁺ (that is, all the pebbles eventually reach their destination vertices)"
  pub reaches : arrangement_at S ξ ≡ S⁺
  -- (iii) "… for every p ∈ P and k = 1, 2, …, ξ − 1"; here from 0 on
  pub along : (k : ℕ) → k < ξ → AlongEdges F m (arrangement_at S k) (arrangement_at S (suc k))
  -- (iv) "… for every p ∈ P and k = 1, 2, …, ξ − 1"; here from 0 on
  pub into : (k : ℕ) → k < ξ → IntoUnoccupied m (arrangement_at S k) (arrangement_at S (suc k))
  -- the restriction to plans
  pub one : (k : ℕ) → k < ξ → OneMoves m (arrangement_at S k) (arrangement_at S (suc k))
