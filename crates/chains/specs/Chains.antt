-- What the passes over a step keep in tables: where the rack at each position goes, and which positions the chains have come through.
--
--     EntryAt s j x        x is the move that stands j moves after the first bit of s, as one number
--     noted t ms           the table t with, for each position left by one of the moves ms, one more than the position entered
--     Targets ms t         the table t says of each position where its rack goes, one more than it, and 0 where no move leaves it
--     Taking t h m         the move m takes a rack along that the table h has, to where the table t says
--     Led t h n p          by the table t the train of a move into p has n moves, to a leader that enters a position that the table h has
--                          vacant
--     Marks t h v          the marks v are right where they say how long a train is
--     leader_mark x         the mark of a position with the rack x before any chain is followed: 1 where there is none, since a move that
--                          enters it leads
--     LeadersMarked h v j  the first j marks of v are so
--     NonePassed v         no chain is being followed
--     Chain t h v p        the marks v where a chain is being followed that has come to p
--     Train t h v w p n    the chain that was followed on from p with the marks v ends at a leader, in a train of n moves, and w are the
--                          marks left
--     Followed t h v w p r what following it found: the length of such a train, or nothing where there is no leader
-- Assumes nothing.
use Rattle.std.specs.Prelude.{ℕ, suc, ◌+◌, ◌-◌, ◌*◌, ◌≤◌, ◌<◌, ◌≡◌, cond, List, [], ◌∷◌, Option, None, Some, eqb, length, get_or, set}
use Rattle.field.specs.Bits.{field}
use Rattle.motion.specs.Move.{goes_to}
use Rattle.motion.specs.Step.{leaves}

abbrev pub EntryAt : List ℕ → ℕ → ℕ → Type 0
EntryAt s j x = x ≡ field s (12 * j) 6 * 64 + field s (12 * j + 6) 6

unfoldable pub noted : List ℕ → List (ℕ × ℕ) → List ℕ
noted t [] = t
noted t (m ∷ ms) = noted (set t m.0 (m.1 + 1)) ms

pub record Targets (ms : List (ℕ × ℕ)) (t : List ℕ) : Type 0 where
  pub goes : (p : ℕ) → get_or t p 0 ≡ cond (leaves ms p) (goes_to ms p + 1) 0
  pub below : (p : ℕ) → get_or t p 0 ≤ 64

abbrev pub Taking : List ℕ → List ℕ → ℕ × ℕ → Type 0
Taking t h m = (get_or h m.0 0 ≡ 0 → ⊥) × (get_or t m.0 0 ≡ m.1 + 1)

pub data Led (t h : List ℕ) : ℕ → ℕ → Type 0 where
  leads : {p : ℕ} → get_or h p 0 ≡ 0 → Led t h 1 p
  follows : {n p : ℕ} → (get_or h p 0 ≡ 0 → ⊥) → (get_or t p 0 ≡ 0 → ⊥) → Led t h n (get_or t p 0 - 1) → Led t h (suc n) p

-- A mark is 0 where nothing is known, 255 where the chain that is being followed has come through, and else the length of the train of a
-- move that enters the position.
pub record Marks (t h v : List ℕ) : Type 0 where
  pub size : length v ≡ 64
  pub known : (q : ℕ) → (get_or v q 0 ≡ 0 → ⊥) → (get_or v q 0 ≡ 255 → ⊥) → Led t h (get_or v q 0) q

unfoldable pub leader_mark : ℕ → ℕ
leader_mark x = cond (eqb x 0) 1 0

pub record LeadersMarked (h v : List ℕ) (j : ℕ) : Type 0 where
  pub size : length v ≡ 64
  pub leaders : (q : ℕ) → q < j → get_or v q 0 ≡ leader_mark (get_or h q 0)

abbrev pub NonePassed : List ℕ → Type 0
NonePassed v = (q : ℕ) → get_or v q 0 ≡ 255 → ⊥

pub record Chain (t h v : List ℕ) (p : ℕ) : Type 0 where
  pub marks : Marks t h v
  -- what the chain has come through leads on to p, so from p it has less far to go
  pub passed : (q : ℕ) → get_or v q 0 ≡ 255 → (n : ℕ) → Led t h n q → (k : ℕ) × (k < n) × Led t h k p
  pub below : (q : ℕ) → get_or t q 0 ≤ 64
  -- a train has at most the 64 moves that leave a position, and the one that enters its first
  pub short : (n q : ℕ) → Led t h n q → n ≤ 65

pub record Train (t h v w : List ℕ) (p n : ℕ) : Type 0 where
  pub led : Led t h n p
  pub marks : Marks t h w
  pub passed : (q : ℕ) → get_or w q 0 ≡ 255 → get_or v q 0 ≡ 255

abbrev pub Followed : List ℕ → List ℕ → List ℕ → List ℕ → ℕ → Option ℕ → Type 0
Followed t h v w p None = (n : ℕ) → Led t h n p → ⊥
Followed t h v w p (Some n) = Train t h v w p n
