-- Replay of steps, taken apart. Where a replay comes to its end, it does so whatever number its first step bears.
--
--     StepsLead F n A steps G   the steps, the first bearing the number n, are replayed from A to their end at G
--     steps_lead        they are so exactly if they are legal, each at its turn, and lead from A to G
--     replay_none       no steps at all end where they began
--     replay_cons       the first step is legal, and the others lead on from the arrangement that it makes
--     replay_waiting    an empty step changes nothing but the number that the next one bears
--     replay_number     the number that the first step bears does not matter
-- Assumes nothing.
use Prim.Native.Nat.{ℕ, suc}
use mathlib.Core.Path.{◌≡◌, refl, ap}
use mathlib.Core.Logic.{◌↔◌}
use mathlib.Core.List.{List, [], ◌∷◌}
use Rattle.order.specs.Floor.{Floor}
use Rattle.motion.specs.Arrangement.{Arrangement}
use Rattle.motion.specs.Move.{after}
use Rattle.motion.specs.Step.{legal_step}
use Rattle.motion.specs.Replay.{ended, replay_from, step_fault}
use Rattle.motion.specs.LegalStep.{LegalStep}
use Rattle.motion.proofs.LegalStepLaws.{legal_step_iff, legal_true, legal_nothing}
use Rattle.motion.proofs.StepDecision.{legal_step?}
use Rattle.motion.proofs.Lawful.{LeadsSteps, ◌then◌, lawful_none, lawful_first, step_fault_none, replay_ended}

abbrev pub StepsLead : Floor → ℕ → Arrangement → List (List (ℕ × ℕ)) → Arrangement → Type 0
StepsLead F n A steps G = replay_from (step_fault (legal_step? F)) after n A steps ≡ ended G

module _ (F : Floor) where
  pub steps_lead : (n : ℕ) (A : Arrangement) (steps : List (List (ℕ × ℕ))) (G : Arrangement)
      → StepsLead F n A steps G ↔ LeadsSteps F A steps G
  steps_lead = replay_ended (step_fault (legal_step? F)) (legal_step F) after (step_fault_none F)

  pub replay_none : (n : ℕ) (A G : Arrangement) → StepsLead F n A [] G ↔ (A ≡ G)
  unfolding replay_from
  replay_none n A G = (λ e. lawful_none ((steps_lead n A [] G).0 e), λ e. ap ended e)

  pub replay_cons : (n : ℕ) (A G : Arrangement) (ms : List (ℕ × ℕ)) (steps : List (List (ℕ × ℕ)))
      → StepsLead F n A (ms ∷ steps) G ↔ (LegalStep F A ms × StepsLead F (suc n) (after A ms) steps G)
  replay_cons n A G ms steps = (
    λ e.
        let w = lawful_first ((steps_lead n A (ms ∷ steps) G).0 e) in
        ((legal_step_iff F A ms).0 w.0, (steps_lead (suc n) (after A ms) steps G).1 w.1),
    λ w. (steps_lead n A (ms ∷ steps) G).1 ((legal_step_iff F A ms).1 w.0 then (steps_lead (suc n) (after A ms) steps G).0 w.1),
  )

  pub replay_waiting : (n : ℕ) (A : Arrangement) (steps : List (List (ℕ × ℕ)))
      → replay_from (step_fault (legal_step? F)) after n A ([] ∷ steps) ≡ replay_from (step_fault (legal_step? F)) after (suc n) A steps
  unfolding replay_from
  replay_waiting n A steps = let w = legal_nothing F A in rw (step_fault_none F A [], legal_true F A [] w.0, w.1) refl

  pub replay_number : (n k : ℕ) (A G : Arrangement) (steps : List (List (ℕ × ℕ))) → StepsLead F n A steps G → StepsLead F k A steps G
  replay_number n k A G steps e = (steps_lead k A steps G).1 ((steps_lead n A steps G).0 e)
