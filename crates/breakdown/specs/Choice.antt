-- How the base ring and the handles are chosen: among the pairs of joined positions (a, b) that can begin one, the pair from which the way
-- on from b, avoiding a, is shortest.
--
--     Beside E a b t              t is joined to a and is not b: where the way of a ring ends that begins with a, b
--     Leaves E s u w              an edge leads from u, which is settled, to w, which is not: where a handle can begin
--     Before a x y                the pair (x, y) begins before a
--     Better f t k u w j x y z    (x, y) with the size z is the better one of (f, t) with the size k and (u, w) with the size j; a size of
--                                 0 is none
--     BetterOf o p q              q is the better one of o, if there is one, and p, whose sizes are not 0
--     Choice n E C T D u w k      of the pairs of D that C allows, (u, w) has the shortest way on to a target of T, of k positions; k is 0
--                                 exactly where none of them has a way
--     RingChoice, HandleChoice    the choice of a base ring, and of a handle on the settled positions s
--     Chosen R o                  R of the chosen pair o and its size, which is not 0; where none is chosen, R of the size 0
--     Size E P T a k              k is the size of a nearest way, as a search yields it
--     RingWay n E a b r           r is the way round of a shortest ring that begins with a, b, if there is one: on from b to another
--                                 neighbour of a, avoiding a
-- Assumes nothing.
use Rattle.std.specs.Prelude.{ℕ, ◌≤◌, ◌<◌, ◌≡◌, List, Option, Some, None, ◌≢◌, ◌⊎◌}
use Rattle.sets.specs.Sets.{Has}
use Rattle.graph.specs.Walk.{Walk}
use Rattle.graph.specs.Connected.{Except, Below}
use Rattle.graph.specs.Rows.{Edge}
use Rattle.graph.specs.Levels.{Near, Within}
use Rattle.graph.specs.Nearest.{Nearest, NearestRoute}
use Rattle.graph.specs.declared.Route.{Route}
use Rattle.breakdown.specs.declared.Pair.{Pair}

pub record Beside (E : ℕ → ℕ → Type 0) (a b t : ℕ) : Type 0 where
  pub edge : E a t
  pub other : t ≢ b

pub record Leaves (E : ℕ → ℕ → Type 0) (s u w : ℕ) : Type 0 where
  pub edge : E u w
  pub settled : Has s u
  pub new : Has s w → ⊥

abbrev pub Before : ℕ → ℕ → ℕ → Type 0
Before a x y = x < a

pub record Better (f t k u w j x y z : ℕ) : Type 0 where
  pub none : z ≡ 0 → (k ≡ 0) × (j ≡ 0)
  pub old : 0 < k → z ≤ k
  pub now : 0 < j → z ≤ j
  pub one : ((x ≡ f) × (y ≡ t) × (z ≡ k)) ⊎ ((x ≡ u) × (y ≡ w) × (z ≡ j))

abbrev pub BetterOf : Option Pair → Pair → Pair → Type 0
BetterOf None p q = q ≡ p
BetterOf (Some o) p q = 0 < o.size → 0 < p.size → Better o.from o.to o.size p.from p.to p.size q.from q.to q.size

pub record Choice (n : ℕ) (E : ℕ → ℕ → Type 0) (C : ℕ → ℕ → Type 0) (T : ℕ → ℕ → ℕ → Type 0) (D : ℕ → ℕ → Type 0) (u w k : ℕ) : Type 0 where
  pub least : (a b t j : ℕ) → D a b → C a b → Walk E (Except (Below n) a) b t j → T a b t → Within k j
  pub pair : 0 < k → C u w
  pub way : 0 < k → Near E (Except (Below n) u) (T u w) w k

abbrev pub RingChoice : ℕ → List ℕ → (ℕ → ℕ → Type 0) → ℕ → ℕ → ℕ → Type 0
RingChoice n g D u w k = Choice n (Edge g) (Edge g) (Beside (Edge g)) D u w k

abbrev pub HandleChoice : ℕ → List ℕ → ℕ → (ℕ → ℕ → Type 0) → ℕ → ℕ → ℕ → Type 0
HandleChoice n g s D u w k = Choice n (Edge g) (Leaves (Edge g) s) (λ a b. Has s) D u w k

abbrev pub Chosen : (ℕ → ℕ → ℕ → Type 0) → Option Pair → Type 0
Chosen R None = R 0 0 0
Chosen R (Some p) = (0 < p.size) × R p.from p.to p.size

pub record Size (E : ℕ → ℕ → Type 0) (P T : ℕ → Type 0) (a k : ℕ) : Type 0 where
  pub at : ℕ → ℕ
  pub nearest : Nearest E P T a k at

abbrev pub RingWay : ℕ → (ℕ → ℕ → Type 0) → ℕ → ℕ → Option Route → Type 0
RingWay n E a b r = NearestRoute E (Except (Below n) a) (Beside E a b) b r
