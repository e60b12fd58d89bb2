-- What the functions of this crate owe to one another: tables with an entry for each position, and sets of positions.
--
--     entries a i k        the k entries of the table a from i on
--     Seats n h            the table h has different numbers below n at the n positions
--     Homes n h r          the table r is the table h turned round: at each number the position that has it, below 64
--     Sent n h r s         the table s has at each position what r has at its number in h
--     is_in s p             position p is in the set s, as a colour
--     ColouredBy n E r     r is the positions of one colour, where they fall into two, each edge joining both; else there is none
--     Stands n A h         the table h has the racks of the arrangement A, which leaves one of at most 64 positions vacant
--     ContraryOn n h k s r    r says whether the change is contrary by the colours of s, where h has the starts and k the goals
-- Assumes nothing.
use Rattle.std.specs.Prelude.{ℕ, ◌+◌, ◌≤◌, ◌<◌, ◌≡◌, Bool, true, List, ◌↔◌, length, get_or, eqb, Option, None, Some}
use Rattle.sets.specs.Sets.{bit}
use Rattle.order.specs.Tables.{racks_at}
use Rattle.motion.specs.Arrangement.{Arrangement}
use Rattle.motion.specs.Sound.{Sound}
use Rattle.parity.specs.Colours.{TwoColours, Coloured}
use Rattle.parity.specs.Permutation.{values_from}
use Rattle.parity.specs.Impossible.{Contrary}

abbrev pub entries : List ℕ → ℕ → ℕ → List ℕ
entries a i k = values_from (λ p. get_or a p 0) i k

pub record Seats (n : ℕ) (h : List ℕ) : Type 0 where
  pub few : n ≤ 64
  pub below : (p : ℕ) → p < n → get_or h p 0 < n
  pub apart : (p q : ℕ) → p < n → q < n → get_or h p 0 ≡ get_or h q 0 → p ≡ q

pub record Homes (n : ℕ) (h r : List ℕ) : Type 0 where
  pub back : (p : ℕ) → p < n → get_or r (get_or h p 0) 0 ≡ p
  pub small : (i : ℕ) → get_or r i 0 < 64

abbrev pub Sent : ℕ → List ℕ → List ℕ → List ℕ → Type 0
Sent n h r s = (p : ℕ) → p < n → get_or s p 0 ≡ get_or r (get_or h p 0) 0

abbrev pub is_in : ℕ → ℕ → Bool
is_in s p = eqb (bit s p) 1

abbrev pub ColouredBy : ℕ → (ℕ → ℕ → Type 0) → Option ℕ → Type 0
ColouredBy n E None = Coloured n E → ⊥
ColouredBy n E (Some s) = TwoColours n E (is_in s)

pub record Stands (n : ℕ) (A : Arrangement) (h : List ℕ) : Type 0 where
  pub few : n ≤ 64
  pub sound : Sound n A
  pub one : length A + 1 ≡ n
  pub are : h ≡ racks_at A

-- whichever arrangements have the tables
pub record ContraryOn (n : ℕ) (h k : List ℕ) (s : ℕ) (r : Bool) : Type 0 where
  pub decides : (S G : Arrangement) → Stands n S h → Stands n G k → (r ≡ true) ↔ Contrary n S G (is_in s)
