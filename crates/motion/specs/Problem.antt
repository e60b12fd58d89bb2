-- What Surynek's Definitions 1 and 2 have in common (P. Surynek, "Solving Abstract Cooperative Path-Finding in Densely Populated
-- Environments"), their words beside ours. The graph is the floor, its vertices V are the positions, its edges E the floor's edges,
-- the pebbles or agents A are the racks 1 to m, and an arrangement S : A → V is the list of their positions.
--
--     IsRack m a                 a is one of the racks 1 to m: a ∈ A
--     UniquelyInvertible F m S   S is a uniquely invertible function A → V: a valid arrangement
--     Instance F m S⁰ S⁺         an instance of the problem: the quadruple (G, A, S⁰, S⁺)
--     arrangement_at S k          the arrangement at time step k of the sequence S
--     AlongEdges F m S S'        point (iii), between an arrangement and the next
-- Assumes nothing.
use Rattle.std.specs.Prelude.{ℕ, ◌≤◌, ◌<◌, ◌≡◌, ◌≢◌, ◌⊎◌, List, [], length, get_or, T}
use Rattle.order.specs.Floor.{Floor, joined}
use Rattle.motion.specs.Arrangement.{Arrangement, stands}

-- "A set of agents A = {a₁, a₂, …, a_v}"
abbrev pub IsRack : ℕ → ℕ → Type 0
IsRack m a = (1 ≤ a) × (a ≤ m)

-- "uniquely invertible functions S : A → V (that is S(a) ≠ S(b) for every a, b ∈ A with a ≠ b)"
pub record UniquelyInvertible (F : Floor) (m : ℕ) (S : Arrangement) : Type 0 where
  pub racks : length S ≡ m
  pub within : (a : ℕ) → IsRack m a → stands S a < F.positions
  pub apart : (a b : ℕ) → IsRack m a → IsRack m b → a ≢ b → stands S a ≢ stands S b

-- "let G = (V, E) be an undirected graph. A set of agents A … where v < |V| is given … The initial arrangement and the goal
-- arrangement of agents are defined by two uniquely invertible functions S⁰ … and S⁺ … The instance … is formally a quadruple
-- (G, A, S⁰, S⁺)." Document 01: "here a full floor may be checked too", so v ≤ |V|.
pub record Instance (F : Floor) (m : ℕ) (S⁰ S⁺ : Arrangement) : Type 0 where
  pub fewer : m ≤ F.positions
  pub initial : UniquelyInvertible F m S⁰
  pub goal : UniquelyInvertible F m S⁺

-- "S = [S⁰, S¹, …]": Sᵏ
unfoldable pub arrangement_at : List Arrangement → ℕ → Arrangement
arrangement_at S k = get_or S k []

-- "either Sᵏ(a) = Sᵏ⁺¹(a) or {Sᵏ(a), Sᵏ⁺¹(a)} ∈ E for every a ∈ A … (that is, an agent either stays in a vertex or moves into the
-- neighboring vertex)"
abbrev pub AlongEdges : Floor → ℕ → Arrangement → Arrangement → Type 0
AlongEdges F m S S' = (a : ℕ) → IsRack m a → (stands S a ≡ stands S' a) ⊎ T (joined F (stands S a) (stands S' a))
