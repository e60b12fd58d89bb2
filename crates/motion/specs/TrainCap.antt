-- The cap on trains as a condition of its own, beside Surynek's Definition 2, which knows none (`ParallelPathFinding`): "Acceptance is
-- compared with the published definition plus this cap". A rack that moves has chains of one length alone (proofs/StepChange.antt,
-- `short_iff`), so if one is short then none is longer.
--
--     InShortChains m S S'             between an arrangement and the next, each rack that moves has a chain of at most eight racks
--     CappedSolution F m S⁰ S⁺ ζ S     the sequence S is a solution, and so between all its arrangements
-- Assumes nothing.
use Rattle.std.specs.Prelude.{ℕ, suc, ◌<◌, ◌≢◌, List}
use Rattle.order.specs.Floor.{Floor}
use Rattle.motion.specs.Arrangement.{Arrangement, stands}
use Rattle.motion.specs.Problem.{IsRack, arrangement_at}
use Rattle.motion.specs.LegalStep.{longest_train}
use Rattle.motion.specs.ParallelPathFinding.{RackChain, Solution}

-- the racks [a = b₀, b₁, …, b_λ] are λ + 1: the leader and at most seven that follow
abbrev pub InShortChains : ℕ → Arrangement → Arrangement → Type 0
InShortChains m S S' = (a : ℕ) → IsRack m a → stands S a ≢ stands S' a → (b : RackChain m S S' a) × (b.last < longest_train)

pub record CappedSolution (F : Floor) (m : ℕ) (S⁰ S⁺ : Arrangement) (ζ : ℕ) (S : List Arrangement) : Type 0 where
  pub solution : Solution F m S⁰ S⁺ ζ S
  pub short : (k : ℕ) → k < ζ → InShortChains m (arrangement_at S k) (arrangement_at S (suc k))
