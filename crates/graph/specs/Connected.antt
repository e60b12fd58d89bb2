-- Connected, bi-connected, ring: document 01, "The floor". Defined by walks; no search is named here.
--
--     Whole E P                  from each position of P a walk inside P leads to each other
--     Except P x                 the positions of P without x
--     Below n                    the positions of a floor of n
--     Connected n E              "connected"
--     ConnectedWithout n E x     "connected when [..] one position is taken away", the position x
--     BiConnected n E            "bi-connected"
--     Ring n E e                 "ring", e the number of edges
--     Robust E P                 P is whole, and stays whole when any one of its positions is taken away
-- One position alone is connected: there the source differs (its Definition 3) and document 01 prevails.
-- Assumes nothing.
use Rattle.std.specs.Prelude.{ℕ, ◌≤◌, ◌<◌, ◌≡◌, ◌≢◌}
use Rattle.graph.specs.Walk.{Way}

abbrev pub Whole : (ℕ → ℕ → Type 0) → (ℕ → Type 0) → Type 0
Whole E P = (u v : ℕ) → P u → P v → Way E P u v

pub record Except (P : ℕ → Type 0) (x p : ℕ) : Type 0 where
  pub there : P p
  pub other : p ≢ x

abbrev pub Below : ℕ → ℕ → Type 0
Below n p = p < n

abbrev pub Connected : ℕ → (ℕ → ℕ → Type 0) → Type 0
Connected n E = Whole E (Below n)

abbrev pub ConnectedWithout : ℕ → (ℕ → ℕ → Type 0) → ℕ → Type 0
ConnectedWithout n E x = Whole E (Except (Below n) x)

-- "A floor is bi-connected if n is at least 3, it is connected, and it stays connected when any one position is taken away."
pub record BiConnected (n : ℕ) (E : ℕ → ℕ → Type 0) : Type 0 where
  pub three : 3 ≤ n
  pub connected : Connected n E
  pub without : (x : ℕ) → x < n → ConnectedWithout n E x

-- "A ring is a bi-connected floor with exactly n edges."
pub record Ring (n : ℕ) (E : ℕ → ℕ → Type 0) (e : ℕ) : Type 0 where
  pub bi_connected : BiConnected n E
  pub count : e ≡ n

pub record Robust (E : ℕ → ℕ → Type 0) (P : ℕ → Type 0) : Type 0 where
  pub whole : Whole E P
  pub without : (x : ℕ) → P x → Whole E (Except P x)
