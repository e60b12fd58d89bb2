-- A step is legal by the tables exactly if it is legal.
--
--     every-same        two tests that agree pass the same lists
--     legal_step_same   by the matrix of a floor and a table a step is judged as on an arrangement whose racks stand at the same positions
--     legal_step_on_lem     by the matrix of a floor and the table of an arrangement a step is judged as document 01 has it
-- Assumes nothing.
use Prim.Native.Nat.{ℕ, ◌-◌}
use mathlib.Core.Path.{◌≡◌, refl, sym, ap₂, ◌∙◌}
use mathlib.Core.Bool.{Bool, false, ◌&&◌}
use mathlib.Core.List.{List, [], ◌∷◌}
use Rattle.field.specs.Bytes.{BelowPairs, none₂, more₂}
use Rattle.order.specs.Floor.{Floor}
use Rattle.order.specs.Order.{wrong_edges}
use Rattle.motion.specs.Arrangement.{Arrangement, occupied}
use Rattle.motion.specs.Move.{on_floor}
use Rattle.motion.specs.LegalStep.{longest_train}
use Rattle.motion.specs.Step.{every, led, legal_step}
use Rattle.tables.specs.Tables.{edge_at, held_at}
use Rattle.tables.proofs.TablesLaws.{Holds}
use Rattle.tables.proofs.TableLaws.{held_occupied}
use Rattle.tables.proofs.MatrixLaws.{matrix_joined, on_floor-joined}
use Rattle.tables.proofs.MovesOnLaws.{matrix_of}
use Rattle.chains.specs.StepOn.{led_on, sound_moves, all_led, legal_step_on}
use Rattle.chains.proofs.ChainLaws.{led-same}

pub every-same : {X : Type 0} (f g : X → Bool) → ((x : X) → f x ≡ g x) → (l : List X) → every f l ≡ every g l
unfolding every
every-same f g e [] = refl
every-same f g e (x ∷ l) = ap₂ ◌&&◌ (e x) (every-same f g e l)

module _ (F : Floor) (below : BelowPairs 64 F.edges) (right : wrong_edges F ≡ false) where
  edges_on_lem : {ms : List (ℕ × ℕ)} → BelowPairs 64 ms → every (edge_at (matrix_of F)) ms ≡ every (on_floor F) ms
  unfolding every matrix_of
  edges_on_lem none₂ = refl
  edges_on_lem (more₂ {p = m} a b r) =
      ap₂ ◌&&◌ (matrix_joined F m.0 m.1 below a b ∙ sym (on_floor-joined F right m.0 m.1)) (edges_on_lem r)

  -- all that counts of the racks is where they stand
  pub legal_step_same : (A : Arrangement) (h : List ℕ) → ((p : ℕ) → held_at h p ≡ occupied A p) → {ms : List (ℕ × ℕ)} → BelowPairs 64 ms
      → legal_step_on (matrix_of F) h ms ≡ legal_step F A ms
  unfolding legal_step_on sound_moves all_led legal_step
  legal_step_same A h same {ms} b =
      rw (
        edges_on_lem b,
        every-same (λ m. held_at h m.0) (λ m. occupied A m.0) (λ m. same m.0) ms,
        every-same (λ m. led_on (longest_train - 1) ms h m.1) (λ m. led (longest_train - 1) ms A m.1)
            (λ m. led-same A h same ms (longest_train - 1) m.1) ms,
      ) refl

  pub legal_step_on_lem : (A : Arrangement) (h : List ℕ) → Holds A h → {ms : List (ℕ × ℕ)} → BelowPairs 64 ms
      → legal_step_on (matrix_of F) h ms ≡ legal_step F A ms
  legal_step_on_lem A h holds b = legal_step_same A h (held_occupied A h holds) b
