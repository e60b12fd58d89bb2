-- A plan's moves in both editions. Document 01, "Records": "A move is 12 bits: the position left, then the position entered." Request (h):
-- "Edition two of the plan sets the two spare bits to 01, and each move has 6 more bits at its end, rack number minus 1." An edition is
-- told by whether its moves name their racks: false for edition one, true for edition two. A move as a plan lists it is the position left,
-- the position entered and the rack that it names, 0 where it names none.
--
--     move_size named            how many fields of 6 bits a move has
--     rack_field named s i       the rack that a move names by the field at bit i of s
--     listed_moves named s i k   the k moves at bit i of s
--     moves_of l                 the listed moves l without the racks
--     moves_at named s i k       the k moves at bit i of s without the racks
--     units named w             the fields of the listed move w
--     all_units named l          the fields of the listed moves l, one after another
--     ListedAt named s i a b r  the move at bit i of s goes from a to b and names the rack r
--     RackFits named r          r is a rack that an edition's move can name
--     ListedFit named l         the moves l have positions and racks that fit their fields
-- Assumes nothing.
use Rattle.std.specs.Prelude.{ℕ, zero, suc, ◌+◌, ◌-◌, ◌*◌, ◌≤◌, ◌<◌, ◌≡◌, Bool, true, false, List, [], ◌∷◌, ◌++◌}
use Rattle.field.specs.Bits.{field}

unfoldable pub move_size : Bool → ℕ
move_size false = 2
move_size true = 3

unfoldable pub rack_field : Bool → List ℕ → ℕ → ℕ
rack_field false s i = 0
rack_field true s i = field s i 6 + 1

unfoldable pub listed_moves : Bool → List ℕ → ℕ → ℕ → List (ℕ × ℕ × ℕ)
listed_moves named s i zero = []
listed_moves named s i (suc k) =
    (field s i 6, field s (i + 6) 6, rack_field named s (i + 12)) ∷ listed_moves named s (i + 6 * move_size named) k

unfoldable pub moves_of : List (ℕ × ℕ × ℕ) → List (ℕ × ℕ)
moves_of [] = []
moves_of (w ∷ l) = (w.0, w.1) ∷ moves_of l

unfoldable pub moves_at : Bool → List ℕ → ℕ → ℕ → List (ℕ × ℕ)
moves_at named s i k = moves_of (listed_moves named s i k)

unfoldable pub units : Bool → ℕ × ℕ × ℕ → List ℕ
units false w = w.0 ∷ w.1 ∷ []
units true w = w.0 ∷ w.1 ∷ (w.2 - 1) ∷ []

unfoldable pub all_units : Bool → List (ℕ × ℕ × ℕ) → List ℕ
all_units named [] = []
all_units named (w ∷ l) = units named w ++ all_units named l

pub record ListedAt (named : Bool) (s : List ℕ) (i a b r : ℕ) : Type 0 where
  pub left_is : a ≡ field s i 6
  pub entered_is : b ≡ field s (i + 6) 6
  pub rack_is : r ≡ rack_field named s (i + 12)
  pub left_below : a < 64
  pub entered_below : b < 64
  pub rack_at_most : r ≤ 64

abbrev pub RackFits : Bool → ℕ → Type 0
RackFits false r = r ≡ 0
RackFits true r = (1 ≤ r) × (r ≤ 64)

pub data ListedFit (named : Bool) : List (ℕ × ℕ × ℕ) → Type 0 where
  none₃ : ListedFit named []
  more₃ : {w : ℕ × ℕ × ℕ} {l : List (ℕ × ℕ × ℕ)} → w.0 < 64 → w.1 < 64 → RackFits named w.2 → ListedFit named l
      → ListedFit named (w ∷ l)
