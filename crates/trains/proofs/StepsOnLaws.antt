-- Laws of what specs/StepsOn.antt defines.
--
--     each_map                  each of a list's images has a property that each image has
--     step_fault_on_lem             a step's fault by the tables is its fault
--     steps_alike               the replay on tables of steps of positions below 64 ends as the replay on arrangements does
--     steps_judged              and so it is judged
-- Assumes nothing.
use Prim.Native.Nat.{ℕ, ◌≤◌}
use mathlib.Core.Path.{◌≡◌, refl, sym, ◌∙◌}
use mathlib.Core.Bool.{false}
use mathlib.Core.List.{List, [], ◌∷◌, map}
use lib.ListN.{length, replicate}
use lib.Dec.{T, eqb}
use Rattle.field.specs.Bytes.{BelowPairs}
use Rattle.order.specs.Floor.{Floor}
use Rattle.order.specs.Order.{wrong_edges}
use Rattle.order.specs.Tables.{placed}
use Rattle.motion.specs.Arrangement.{Arrangement}
use Rattle.motion.specs.Move.{after}
use Rattle.motion.proofs.MoveLaws.{after-length}
use Rattle.motion.proofs.LegalStepLaws.{legal_step_iff}
use Rattle.motion.proofs.Lawful.{step_fault_none}
use Rattle.motion.proofs.StepChange.{legal_valid}
use Rattle.motion.proofs.PebbleLaws.{invertible_sound}
use Rattle.motion.specs.Replay.{step_fault, replay_steps}
use Rattle.motion.proofs.StepDecision.{legal_step?, step_fault_is}
use Rattle.motion.specs.Judgement.{judged}
use Rattle.motion.specs.Sound.{Sound}
use Rattle.tables.specs.Tables.{judged_on}
use Rattle.tables.proofs.TablesLaws.{Holds}
use Rattle.tables.proofs.TableLaws.{placed-holds}
use Rattle.tables.proofs.MovesOnLaws.{matrix_of, table_of, Kept}
use Rattle.tables.specs.Simulation.{Each, each_none, each_more}
use Rattle.tables.proofs.SimulationLaws.{Alike, replay_alike, judged_on_lem}
use Rattle.chains.specs.StepOn.{step_on}
use Rattle.trains.proofs.LegalOn.{legal_step_on_lem}
use Rattle.trains.proofs.StepHolds.{step_holds}
use Rattle.trains.specs.StepsOn.{step_fault_on, replay_steps_on}

pub each_map : {X Y : Type 0} {P : Y → Type 0} (f : X → Y) → ((x : X) → P (f x)) → (l : List X) → Each P (map f l)
each_map f p [] = each_none
each_map f p (x ∷ l) = each_more (p x) (each_map f p l)

module _ (F : Floor) (few : F.positions ≤ 64) (below : BelowPairs 64 F.edges) (right : wrong_edges F ≡ false) where
  pub step_fault_on_lem : (A : Arrangement) (h : List ℕ) → Holds A h → {ms : List (ℕ × ℕ)} → BelowPairs 64 ms
      → step_fault (legal_step? F) A ms ≡ step_fault_on (matrix_of F) h ms
  unfolding step_fault_on
  step_fault_on_lem A h holds {ms} b = rw (step_fault_is F A ms, legal_step_on_lem F below right A h holds b) refl

  kept_on : (k : ℕ) (A : Arrangement) (h : List ℕ) (ms : List (ℕ × ℕ)) → Kept F.positions k A h → BelowPairs 64 ms
      → T (eqb (step_fault (legal_step? F) A ms) 0)
      → Kept F.positions k (after A ms) (step_on h ms)
  kept_on k A h ms r b z =
      let s = (legal_step_iff F A ms).0 (rw (step_fault_none F A ms) at z) in
      let valid = legal_valid ((invertible_sound F (length A) A).1 (refl, r.0)) s in
      (((invertible_sound F (length A) (after A ms)).0 valid).1, step_holds F few A h r.1 ms s, after-length A ms ∙ r.2)

  module _ (A : Arrangement) (sound : Sound F.positions A) {steps : List (List (ℕ × ℕ))} (small : Each (BelowPairs 64) steps) where
    pub steps_alike : Alike (Kept F.positions (length A)) (replay_steps (legal_step? F) A steps)
        (replay_steps_on (matrix_of F) (table_of A) steps)
    unfolding replay_steps replay_steps_on table_of
    steps_alike =
        replay_alike (BelowPairs 64) (Kept F.positions (length A)) (step_fault (legal_step? F)) after (step_fault_on (matrix_of F)) step_on
        (λ B h ms r b. step_fault_on_lem B h r.1 b)
        (kept_on (length A))
        1 A (placed (replicate 64 0) 1 A) small (sound, placed-holds F.positions A few sound, refl)

    pub steps_judged : (off : ℕ) (G counts : List ℕ) → length G ≡ length A
        → judged_on off G counts (replay_steps_on (matrix_of F) (table_of A) steps) ≡ judged off G counts
        (replay_steps (legal_step? F) A steps)
    steps_judged off G counts e =
        judged_on_lem (Kept F.positions (length A)) off G counts (λ B h r. (r.1, e ∙ sym r.2)) steps_alike
