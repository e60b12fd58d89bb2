-- A breakdown while it is made. The row of positions is a list o of bytes, and s is the set of those that are settled: in the row already.
--
--     Settled m o s               the first m of the row are different positions, and those are settled, no others
--     Fresh f k s                 the first k of f are different positions that are not settled
--     Extended f k m o o' s'      the first k of f stand in the row from place m on, and are settled; what came before stands as it stood
--     Building n E r c o start left right s    a base ring of r positions and c handles are in the row, and nothing else
--     BuildingOf n E b s          the same of the parts b, as the code has them
-- Assumes nothing.
use Rattle.std.specs.Prelude.{ℕ, ◌+◌, ◌-◌, ◌≤◌, ◌<◌, ◌≡◌, List, ◌≢◌, length}
use Rattle.std.specs.Int.Count.{ones}
use Rattle.sets.specs.Sets.{Has}
use Rattle.graph.specs.Rows.{row}
use Rattle.breakdown.specs.Breakdown.{Among, Handle}
use Rattle.breakdown.specs.declared.Breakdown.{Breakdown as Parts}

pub record Settled (m : ℕ) (o : List ℕ) (s : ℕ) : Type 0 where
  pub long : length o ≡ 64
  pub small : (i : ℕ) → i < m → row o i < 64
  pub distinct : (i j : ℕ) → i < j → j < m → row o i ≢ row o j
  pub marked : (i : ℕ) → i < m → Has s (row o i)
  pub among : (p : ℕ) → Has s p → Among (row o) m p
  pub count : ones s ≡ m

pub record Fresh (f : List ℕ) (k s : ℕ) : Type 0 where
  pub small : (i : ℕ) → i < k → row f i < 64
  pub new : (i : ℕ) → i < k → Has s (row f i) → ⊥
  pub distinct : (i j : ℕ) → i < j → j < k → row f i ≢ row f j

pub record Extended (f : List ℕ) (k m : ℕ) (o o' : List ℕ) (s' : ℕ) : Type 0 where
  pub settled : Settled (m + k) o' s'
  pub kept : (i : ℕ) → i < m → row o' i ≡ row o i
  pub new : (i : ℕ) → i < k → row o' (m + i) ≡ row f i

pub record Building (n : ℕ) (E : ℕ → ℕ → Type 0) (r c : ℕ) (o start left right : List ℕ) (s : ℕ) : Type 0 where
  pub settled : Settled (row start c) o s
  pub below : (i : ℕ) → i < row start c → row o i < n
  pub room : c + r ≤ row start c
  pub ring_three : 3 ≤ r
  pub ring_joined : (i : ℕ) → i + 1 < r → E (row o i) (row o (i + 1))
  pub ring_closed : E (row o (r - 1)) (row o 0)
  pub begins : row start 0 ≡ r
  pub handle : (i : ℕ) → i < c → Handle E (row o) (row start i) (row start (i + 1)) (row left i) (row right i)
  pub starts : length start ≡ 64
  pub lefts : length left ≡ 64
  pub rights : length right ≡ 64

abbrev pub BuildingOf : ℕ → (ℕ → ℕ → Type 0) → Parts → ℕ → Type 0
BuildingOf n E b s = Building n E b.ring b.handles b.order b.start b.left b.right s
