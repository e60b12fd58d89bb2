-- Parallel cooperative path-finding: Surynek's Definition 2, word for word, with document 01's readings. `Problem` has the notions
-- that it shares with Definition 1.
--
--     RackChain m S S' a         the sequence of distinct racks from a to a leading one that point (iv) asks for
--     InChains m S S'            point (iv), between an arrangement and the next
--     Solution F m S⁰ S⁺ ζ S     the sequence S = [S⁰, S¹, …, S^ζ] is a solution
--
-- Document 01, "The floor", prevails over the source: "Definition 2 states its move conditions from time step 1 on. Here they hold
-- from step 0, the first departure from the start arrangement. Definition 2 has fewer racks than positions; here a full floor may
-- be checked too, and no rack on it can move. No steps at all is a solution when each start is its goal." Point (i) is stated for
-- k = 0 too: the source has the initial arrangement as uniquely invertible from the start. Read literally, point (iv) lets the
-- leading agent stand still; point (i) rules that out, since the agent behind it would then share its vertex.
-- Assumes nothing.
use Rattle.std.specs.Prelude.{ℕ, suc, ◌≤◌, ◌<◌, ◌≡◌, ◌≢◌, List, length}
use Rattle.order.specs.Floor.{Floor}
use Rattle.motion.specs.Arrangement.{Arrangement, stands}
use Rattle.motion.specs.Problem.{IsRack, UniquelyInvertible, arrangement_at, AlongEdges}

-- "there must exist a sequence of distinct agents [a = b₀, b₁, …, b_λ] with λ ∈ ℕ₀ such that
pub record RackChain (m : ℕ) (S S' : Arrangement) (a : ℕ) : Type 0 where
  pub last : ℕ
  pub b : ℕ → ℕ
  pub agents : (i : ℕ) → i ≤ last → IsRack m (b i)
  pub distinct : (i j : ℕ) → i ≤ last → j ≤ last → i ≢ j → b i ≢ b j
  pub first : b 0 ≡ a
  -- Sᵏ(c) ≠ Sᵏ⁺¹(b_λ) ∀ c ∈ A with c ≠ b_λ (b_λ moves to a vertex that is unoccupied at time step k; b_λ is a leading agent of the
  -- chain of agents which the sequence is part of) and
  pub leading : (c : ℕ) → IsRack m c → c ≢ b last → stands S c ≢ stands S' (b last)
  -- Sᵏ⁺¹(b_i) = Sᵏ(b_{i+1}) for i = 0, 1, …, λ − 1 (agents a = b₀, b₁, …, b_{λ−1} follows the leader like a chain; they move all at
  -- once between time steps k and k + 1)"
  pub following : (i : ℕ) → i < last → stands S' (b i) ≡ stands S (b (suc i))

-- "if Sᵏ(a) ≠ Sᵏ⁺¹(a) (that is, the agent a moves between time steps k and k + 1) then there must exist a sequence …"
abbrev pub InChains : ℕ → Arrangement → Arrangement → Type 0
InChains m S S' = (a : ℕ) → IsRack m a → stands S a ≢ stands S' a → RackChain m S S' a

-- "the task to find a number ζ and a sequence of agent arrangements S = [S⁰, S¹, …, S^ζ] for that the following conditions hold"
pub record Solution (F : Floor) (m : ℕ) (S⁰ S⁺ : Arrangement) (ζ : ℕ) (S : List Arrangement) : Type 0 where
  pub sequence : length S ≡ suc ζ
  pub begins : arrangement_at S 0 ≡ S⁰
  -- (i) "Sᵏ : A → V is a valid arrangement for every k = 1, 2, …, ζ (that is, uniquely invertible)"; here from 0 on
  pub invertible : (k : ℕ) → k ≤ ζ → UniquelyInvertible F m (arrangement_at S k)
  -- (ii) "S^ζ = S⁺ (that is, all the agents eventually reach their destinations)"
  pub reaches : arrangement_at S ζ ≡ S⁺
  -- (iii) "… for every a ∈ A and k = 1, 2, …, ζ − 1"; here from 0 on
  pub along : (k : ℕ) → k < ζ → AlongEdges F m (arrangement_at S k) (arrangement_at S (suc k))
  -- (iv), for every agent a that moves; here from 0 on
  pub led : (k : ℕ) → k < ζ → InChains m (arrangement_at S k) (arrangement_at S (suc k))
