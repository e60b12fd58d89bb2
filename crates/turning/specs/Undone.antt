-- Moves that a log has, taken back.
--
--     carried r y h               the table h with rack r at y instead of where it stands
--     Entries s j                 entries of the log, from s up to j
--     Undoing g h l s j past k    the log's entries from s up to j are the moves `past`, and taken back they lead from h to k
--     Undoable h l s j            on some floor they can be taken back
--     Undone l s j x t x' t'      taken back they are from the state x on, on every floor on which they can be, and x' is where that leads
-- Assumes nothing.
use Rattle.std.specs.Prelude.{ℕ, ◌-◌, ◌≤◌, cond, List, eqb}
use Rattle.graph.specs.Rows.{row, Edge}
use Rattle.moving.specs.Went.{Same, Back}
use Rattle.moving.specs.Journey.{Trail, Trip}
use Rattle.moving.specs.declared.State.{State}

abbrev pub carried : ℕ → ℕ → (ℕ → ℕ) → ℕ → ℕ
carried r y h p = cond (eqb p y) r (cond (eqb (h p) r) 0 (h p))

pub record Entries (s j : ℕ) : Type 0 where
  pub ordered : s ≤ j
  pub within : j ≤ 8256

pub record Undoing (g h l : List ℕ) (s j : ℕ) (past : List (ℕ × ℕ)) (k : ℕ → ℕ) : Type 0 where
  pub trail : Trail l s j past
  pub back : Back (Edge g) (row h) past k

abbrev pub Undoable : List ℕ → List ℕ → ℕ → ℕ → Type 0
Undoable h l s j = (g : List ℕ) × (past : List (ℕ × ℕ)) × (k : ℕ → ℕ) × Undoing g h l s j past k

abbrev pub Undone : List ℕ → ℕ → ℕ → State → List ℕ → State → List ℕ → Type 0
Undone l s j x t x' t' =
    (g : List ℕ) (past : List (ℕ × ℕ)) (k : ℕ → ℕ) → Undoing g x.racks l s j past k
    → Trip g (j - s) x t x' t' × Same (row x'.racks) k
