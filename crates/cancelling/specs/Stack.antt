-- The rule in one pass: the moves are taken one after another, as the plan lists them, and those kept so far lie on a stack, the latest on
-- top. A move that cancels with one of them takes it off; every other is laid on top. What lies above the one taken off touches neither of
-- its positions, so nothing that was passed has to be looked at again. Of the racks that the moves name nothing is asked.
--
--     move_of w         the listed move w without the rack
--     Apart m x        the moves m and x have no position in common
--     Partner K m      a move on the stack K cancels with the next move m
--     Taken K m S      S is K without that move
--     Pushed K w S     S is the stack after the next listed move w
--     Passes f j S     S is the stack after the first j listed moves of f
--     laid K l         the moves of the stack in plan order, and l behind them
-- Assumes nothing.
use Rattle.std.specs.Prelude.{ℕ, zero, suc, List, [], ◌∷◌, ◌≢◌, ◌≡◌}

unfoldable pub move_of : ℕ × ℕ × ℕ → ℕ × ℕ
move_of w = (w.0, w.1)

pub record Apart (m x : ℕ × ℕ) : Type 0 where
  pub left_left : m.0 ≢ x.0
  pub left_entered : m.0 ≢ x.1
  pub entered_left : m.1 ≢ x.0
  pub entered_entered : m.1 ≢ x.1

pub data Partner : List (ℕ × ℕ × ℕ) → ℕ × ℕ → Type 0 where
  top : {w : ℕ × ℕ × ℕ} {m : ℕ × ℕ} {K : List (ℕ × ℕ × ℕ)} → move_of w ≡ (m.1, m.0) → Partner (w ∷ K) m
  under : {w : ℕ × ℕ × ℕ} {m : ℕ × ℕ} {K : List (ℕ × ℕ × ℕ)} → Apart (move_of w) m → Partner K m → Partner (w ∷ K) m

pub data Taken : List (ℕ × ℕ × ℕ) → ℕ × ℕ → List (ℕ × ℕ × ℕ) → Type 0 where
  off_top : {w : ℕ × ℕ × ℕ} {m : ℕ × ℕ} {K : List (ℕ × ℕ × ℕ)} → move_of w ≡ (m.1, m.0) → Taken (w ∷ K) m K
  from_under : {w : ℕ × ℕ × ℕ} {m : ℕ × ℕ} {K S : List (ℕ × ℕ × ℕ)} → Apart (move_of w) m → Taken K m S → Taken (w ∷ K) m (w ∷ S)

pub data Pushed : List (ℕ × ℕ × ℕ) → ℕ × ℕ × ℕ → List (ℕ × ℕ × ℕ) → Type 0 where
  cancelled : {w : ℕ × ℕ × ℕ} {K S : List (ℕ × ℕ × ℕ)} → Taken K (move_of w) S → Pushed K w S
  kept : {w : ℕ × ℕ × ℕ} {K : List (ℕ × ℕ × ℕ)} → (Partner K (move_of w) → ⊥) → Pushed K w (w ∷ K)

pub data Passes (f : ℕ → ℕ × ℕ × ℕ) : ℕ → List (ℕ × ℕ × ℕ) → Type 0 where
  begun : Passes f zero []
  next : {j : ℕ} {K S : List (ℕ × ℕ × ℕ)} → Passes f j K → Pushed K (f j) S → Passes f (suc j) S

unfoldable pub laid : List (ℕ × ℕ × ℕ) → List (ℕ × ℕ × ℕ) → List (ℕ × ℕ × ℕ)
laid [] l = l
laid (w ∷ K) l = laid K (w ∷ l)
