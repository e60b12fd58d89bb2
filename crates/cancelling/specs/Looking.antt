-- The stack as the code has it: a mark for each move of the plan's tail, set while the move is kept. To find the latest kept move that
-- touches a position without looking at every one, there is for each block of 256 moves and each group of 16,384 a set of positions
-- that has at least those that its kept moves touch. Where the search for a position begins is its bound, and the latest 512 moves have
-- links: what was known of a move's positions before it was kept, and is their bound again when it is taken off. The moves are f i, by
-- their indices, as a plan of either edition lists them.
--
--     listed_of named s i     the move of index i as the plan's tail s lists it, in the edition whose moves name their racks
--                             or in the other
--     listing m              the same, of the moves m as `field::Moves` holds them
--     Kept marks i           the move of index i is kept
--     Touches m p            the move m leaves or enters the position p
--     stack_of f marks j      the kept ones of the first j moves, the latest on top
--     Covers f marks size l  the sets l, one for each `size` moves, have the positions that kept moves touch
--     ClearFrom f marks e i  no kept move from index i on touches a position of the set e
--     Touching f marks e i   the move of index i is kept and touches a position of the set e
--     GoesBack marks blocks groups e i r      where no kept move from index i on touches a position of e, none does from r on
--     Forgets e i size l r   then the sets r cover what the sets l do
--     Found f marks e i r    r is one more than the index of the latest kept move that touches a position of e, which is below i; 0 where
--                            there is none
--     NoneKept marks         no move is kept
--     Room k marks blocks groups   they have room for k moves
--     Looked f marks blocks groups the sets of the blocks and of the groups cover what is kept
--     Marks marks i r, Unmarks marks i r      r are the marks with and without that of index i
--     TakesIn l place a b r  r are the sets l with the positions a and b in the one at `place`
--     Since f marks p i h    no kept move from index i on and before index h touches the position p; i is at most h
--     Bounded f j marks bounds     after j moves: none to come is kept, and no kept move from a position's bound on touches it
--     Ends a b e             the set e has the positions a and b
--     Within j a b r c, Met f marks j a b r c    the move of index j goes from a to b; r is one more than the index of the latest kept
--                            move that touches one of them, or 0; and c is that kept move, if the two cancel. Within: these are in range
--     Undone f r a b c        c is the move before the index r, if there is one and it goes from b to a
--     link_of links j h       after j moves, the link of the move of index h; of one before the latest 512 it is h itself
--     Going f j marks blocks groups bounds lefts enters    after j moves: the bounds, and the links for the position that a move leaves
--                            and for the one that it enters
--     GoesAhead marks i k r  r is from i on and at most k, and no move from i on and before r is kept
--     Packed named B l n b   the n listed moves l, written at the front of B, make b of it
--     WritesOne named s i marks t n u r    where t has the n kept ones of the first i moves at its front, u has the r kept ones of one
--                            move more
--     Shortened named s k B n b    the n moves that the pass over k moves keeps, each with the rack that it names, written at the front of
--                            B, make b of it
-- Assumes nothing.
use Rattle.std.specs.Prelude.{ℕ, zero, suc, ◌+◌, ◌-◌, ◌*◌, ◌/◌, ◌%◌, ◌≤◌, ◌<◌, Bool, cond, List, [], ◌∷◌, ◌↔◌, Option, Some, None}
use Rattle.std.specs.Prelude.{◌⊎◌, ◌≢◌, ◌≡◌, ltb, eqb, length, get_or}
use Rattle.field.specs.Bits.{field}
use Rattle.field.specs.Listed.{move_size, rack_field, all_units}
use Rattle.field.specs.Packing.{pack_positions}
use Rattle.field.specs.declared.Moves.{Moves}
use Rattle.field.specs.Writing.{written}
use Rattle.sets.specs.Sets.{bit, Has}
use Rattle.cancelling.specs.Stack.{move_of, Passes, laid}

unfoldable pub listed_of : Bool → List ℕ → ℕ → ℕ × ℕ × ℕ
listed_of named s i =
    let at = 6 * (move_size named * i) in
    (field s at 6, field s (at + 6) 6, rack_field named s (at + 12))

abbrev pub listing : Moves → ℕ → ℕ × ℕ × ℕ
listing m = listed_of m.named m.tail.now

abbrev pub Kept : List ℕ → ℕ → Type 0
Kept marks i = Has (get_or marks (i / 64) 0) (i % 64)

abbrev pub Touches : ℕ × ℕ → ℕ → Type 0
Touches m p = (m.0 ≡ p) ⊎ (m.1 ≡ p)

unfoldable pub stack_of : (ℕ → ℕ × ℕ × ℕ) → List ℕ → ℕ → List (ℕ × ℕ × ℕ)
stack_of f marks zero = []
stack_of f marks (suc j) =
    let below = stack_of f marks j in
    cond (eqb (bit (get_or marks (j / 64) 0) (j % 64)) 1) (f j ∷ below) below

pub record Covers (f : ℕ → ℕ × ℕ × ℕ) (marks : List ℕ) (size : ℕ) (l : List ℕ) : Type 0 where
  pub has : (i p : ℕ) → Kept marks i → Touches (move_of (f i)) p → Has (get_or l (i / size) 0) p

pub record ClearFrom (f : ℕ → ℕ × ℕ × ℕ) (marks : List ℕ) (e i : ℕ) : Type 0 where
  pub none : (h p : ℕ) → i ≤ h → Kept marks h → Touches (move_of (f h)) p → Has e p → ⊥

pub record Touching (f : ℕ → ℕ × ℕ × ℕ) (marks : List ℕ) (e i : ℕ) : Type 0 where
  pub kept : Kept marks i
  pub place : ℕ
  pub touches : Touches (move_of (f i)) place
  pub has : Has e place

pub record Found (f : ℕ → ℕ × ℕ × ℕ) (marks : List ℕ) (e i r : ℕ) : Type 0 where
  pub below : r ≤ i
  pub clear : ClearFrom f marks e r
  pub touching : 0 < r → Touching f marks e (r - 1)

pub record Room (k : ℕ) (marks blocks groups : List ℕ) : Type 0 where
  pub for_marks : k ≤ 64 * length marks
  pub for_blocks : k ≤ 256 * length blocks
  pub for_groups : k ≤ 16384 * length groups

pub record Looked (f : ℕ → ℕ × ℕ × ℕ) (marks blocks groups : List ℕ) : Type 0 where
  pub by_blocks : Covers f marks 256 blocks
  pub by_groups : Covers f marks 16384 groups

-- how `back` goes down, whatever the moves are
abbrev pub GoesBack : List ℕ → List ℕ → List ℕ → ℕ → ℕ → ℕ → Type 0
GoesBack marks blocks groups e i r =
    (r ≤ i) × ((f : ℕ → ℕ × ℕ × ℕ) → Looked f marks blocks groups → ClearFrom f marks e i → ClearFrom f marks e r)

-- what `forget` leaves of the sets l, one for each `size` moves
abbrev pub Forgets : ℕ → ℕ → ℕ → List ℕ → List ℕ → Type 0
Forgets e i size l r = (f : ℕ → ℕ × ℕ × ℕ) (marks : List ℕ) → Covers f marks size l → ClearFrom f marks e i → Covers f marks size r

pub record NoneKept (marks : List ℕ) : Type 0 where
  pub none : (i : ℕ) → Kept marks i → ⊥

-- a mark set, and a mark taken away
abbrev pub Marks : List ℕ → ℕ → List ℕ → Type 0
Marks marks i r = (h : ℕ) → Kept r h ↔ (Kept marks h ⊎ (h ≡ i))

abbrev pub Unmarks : List ℕ → ℕ → List ℕ → Type 0
Unmarks marks i r = (h : ℕ) → Kept r h ↔ (Kept marks h × (h ≢ i))

-- two positions put into the set at a place
abbrev pub TakesIn : List ℕ → ℕ → ℕ → ℕ → List ℕ → Type 0
TakesIn l place a b r = (q p : ℕ) → Has (get_or r q 0) p ↔ (Has (get_or l q 0) p ⊎ ((q ≡ place) × ((p ≡ a) ⊎ (p ≡ b))))

pub record Since (f : ℕ → ℕ × ℕ × ℕ) (marks : List ℕ) (p i h : ℕ) : Type 0 where
  pub low : i ≤ h
  pub none : (x : ℕ) → i ≤ x → x < h → Kept marks x → Touches (move_of (f x)) p → ⊥

-- the moves that are taken and the bounds of the positions
pub record Bounded (f : ℕ → ℕ × ℕ × ℕ) (j : ℕ) (marks bounds : List ℕ) : Type 0 where
  -- no move that is still to come is marked
  pub later : (i : ℕ) → j ≤ i → Kept marks i → ⊥
  pub since : (p : ℕ) → Since f marks p (get_or bounds p 0) j

pub record Ends (a b e : ℕ) : Type 0 where
  pub has : (p : ℕ) → Has e p ↔ ((p ≡ a) ⊎ (p ≡ b))

pub record Within (j a b r : ℕ) (cancels : Option ℕ) : Type 0 where
  pub first_below : a < 64
  pub second_below : b < 64
  pub before : r ≤ j
  pub some : (h : ℕ) → cancels ≡ Some h → h < j

-- the move before the index r, where it goes from b to a
abbrev pub Undone : (ℕ → ℕ × ℕ × ℕ) → ℕ → ℕ → ℕ → Option ℕ → Type 0
Undone f r a b (Some h) = (r ≡ h + 1) × (move_of (f h) ≡ (b, a))
Undone f r a b None = (h : ℕ) → r ≡ h + 1 → move_of (f h) ≡ (b, a) → ⊥

pub record Met (f : ℕ → ℕ × ℕ × ℕ) (marks : List ℕ) (j a b r : ℕ) (cancels : Option ℕ) : Type 0 where
  pub is : move_of (f j) ≡ (a, b)
  pub ends : ℕ
  pub both : Ends a b ends
  pub found : Found f marks ends j r
  pub undone : Undone f r a b cancels

unfoldable pub link_of : List ℕ → ℕ → ℕ → ℕ
link_of links j h = cond (ltb 512 (j - h)) h (get_or links (h % 512) 0)

pub record Going (f : ℕ → ℕ × ℕ × ℕ) (j : ℕ) (marks blocks groups bounds lefts enters : List ℕ) : Type 0 where
  pub looked : Looked f marks blocks groups
  pub places : (length bounds ≡ 64) × (length lefts ≡ 512) × (length enters ≡ 512)
  pub bounded : Bounded f j marks bounds
  pub left : (h : ℕ) → Kept marks h → Since f marks (move_of (f h)).0 (link_of lefts j h) h
  pub entered : (h : ℕ) → Kept marks h → Since f marks (move_of (f h)).1 (link_of enters j h) h
  pub passes : Passes f j (stack_of f marks j)

-- how `ahead` goes up
abbrev pub GoesAhead : List ℕ → ℕ → ℕ → ℕ → Type 0
GoesAhead marks i k r = (i ≤ r) × (r ≤ k) × ((h : ℕ) → i ≤ h → h < r → Kept marks h → ⊥)

-- a list of moves at the front of a byte string
pub record Packed (named : Bool) (B : List ℕ) (l : List (ℕ × ℕ × ℕ)) (n : ℕ) (b : List ℕ) : Type 0 where
  pub counted : n ≡ length l
  pub packed : b ≡ written B 0 (pack_positions (all_units named l))

-- how `write_one` goes on, whatever stood there at first
abbrev pub WritesOne : Bool → List ℕ → ℕ → List ℕ → List ℕ → ℕ → List ℕ → ℕ → Type 0
WritesOne named s i marks t n u r =
    (B : List ℕ) → length t ≡ length B → Packed named B (laid (stack_of (listed_of named s) marks i) []) n t
    → Packed named B (laid (stack_of (listed_of named s) marks (i + 1)) []) r u

pub record Shortened (named : Bool) (s : List ℕ) (k : ℕ) (B : List ℕ) (n : ℕ) (b : List ℕ) : Type 0 where
  pub stack : List (ℕ × ℕ × ℕ)
  pub passes : Passes (listed_of named s) k stack
  pub packed : Packed named B (laid stack []) n b
