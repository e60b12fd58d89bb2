-- Laws of what specs/StepSolutions.antt defines.
--
--     Way F m G A S            from A on through S to G, each time by a change that Definition 2 allows, in chains of at most eight
--                              racks; a solution is here one that respects this cap
--     none_iff                 no steps at all are a solution exactly when each start is its goal
--     solution_way             a solution is such a way
--     way_solution             such a way is a solution
--     replay_way               what replay accepts goes such a way, by the steps of the way
--     way_replay               replay accepts the steps of such a way
--     solution_instance        what has a solution is an instance of the problem
--     OnlySteps F S⁰ S⁺ ζ S    exactly one list of steps has the trace S and is replayed from S⁰ to S⁺
--     replay_solution          what replay accepts has a solution as its trace, with as many steps as listed
--     solution_replay          each solution is the trace of exactly one list of steps that replay accepts
--     steps_replay             both, as one statement
--     solutions_iff            and as one equivalence: the steps that replay accepts, with their trace, are the solutions, with
--                              the steps between their arrangements
-- Assumes nothing.
use Prim.Native.Nat.{ℕ, zero, suc, ◌≤◌, ◌<◌}
use mathlib.Core.Path.{◌≡◌, refl, sym, ◌∙◌, ap, ap₂, subst, subst₂}
use mathlib.Core.Logic.{◌↔◌}
use mathlib.Core.List.{List, [], ◌∷◌}
use native.Mathlib.Omega.{arith}
use lib.ListN.{length}
use Rattle.order.specs.Floor.{Floor}
use Rattle.motion.specs.Arrangement.{Arrangement}
use Rattle.motion.specs.Move.{after}
use Rattle.motion.specs.Replay.{ended, replay_steps, trace}
use Rattle.motion.specs.Problem.{UniquelyInvertible, Instance, arrangement_at, AlongEdges}
use Rattle.motion.specs.ParallelPathFinding.{InChains, Solution}
use Rattle.motion.specs.TrainCap.{InShortChains, CappedSolution}
use Rattle.motion.proofs.Racks.{valid_fits}
use Rattle.motion.specs.StepOf.{step_of}
use Rattle.motion.proofs.StepDecision.{legal_step?}
use Rattle.motion.proofs.StepReplay.{StepsLead, replay_none, replay_cons}
use Rattle.motion.proofs.StepChange.{Change, legal_change, legal_short, legal_step_of, legal_valid, change_legal, change-after}
use Rattle.motion.specs.StepSolutions.{steps_between}

length-steps_between : (A : Arrangement) (S : List Arrangement) → length (steps_between (A ∷ S)) ≡ length S
unfolding steps_between
length-steps_between A [] = refl
length-steps_between A (B ∷ S) = ap suc (length-steps_between B S)

pub data Way (F : Floor) (m : ℕ) (G : Arrangement) : Arrangement → List Arrangement → Type 0 where
  there : {A : Arrangement} → A ≡ G → Way F m G A []
  onward : {A B : Arrangement} {S : List Arrangement} → Change F m A B → InShortChains m A B → Way F m G B S → Way F m G A (B ∷ S)

module _ {F : Floor} {m : ℕ} {G : Arrangement} where
  -- a way is a solution, and the other way round

  solution_first : {A B : Arrangement} {S : List Arrangement} → UniquelyInvertible F m A → Change F m A B
      → Solution F m B G (length S) (B ∷ S) → Solution F m A G (suc (length S)) (A ∷ B ∷ S)
  unfolding arrangement_at
  solution_first {A} {B} {S} valid c s =
      record { sequence = refl; begins = refl; invertible = invertible; reaches = s.reaches; along = along; led = led }
    where
      invertible : (k : ℕ) → k ≤ suc (length S) → UniquelyInvertible F m (arrangement_at (A ∷ B ∷ S) k)
      invertible zero h = valid
      invertible (suc k) h = s.invertible k (omega arith)

      along : (k : ℕ) → k < suc (length S) → AlongEdges F m (arrangement_at (A ∷ B ∷ S) k) (arrangement_at (B ∷ S) k)
      along zero h = c.along
      along (suc k) h = s.along k (omega arith)

      led : (k : ℕ) → k < suc (length S) → InChains m (arrangement_at (A ∷ B ∷ S) k) (arrangement_at (B ∷ S) k)
      led zero h = c.led
      led (suc k) h = s.led k (omega arith)

  solution_none : {A : Arrangement} → UniquelyInvertible F m A → A ≡ G → Solution F m A G 0 (A ∷ [])
  unfolding arrangement_at
  solution_none {A} valid e =
      record {
        sequence = refl;
        begins = refl;
        invertible = only;
        reaches = e;
        along = λ k h. absurd (omega arith);
        led = λ k h. absurd (omega arith);
      }
    where
      only : (k : ℕ) → k ≤ 0 → UniquelyInvertible F m (arrangement_at (A ∷ []) k)
      only zero h = valid
      only (suc k) h = absurd (omega arith)

  -- "No steps at all is a solution when each start is its goal."
  pub none_iff : {A : Arrangement} → UniquelyInvertible F m A → Solution F m A G 0 (A ∷ []) ↔ (A ≡ G)
  unfolding arrangement_at
  none_iff valid = (λ s. s.reaches, solution_none valid)

  capped_first : {A B : Arrangement} {S : List Arrangement} → UniquelyInvertible F m A → Change F m A B → InShortChains m A B
      → CappedSolution F m B G (length S) (B ∷ S) → CappedSolution F m A G (suc (length S)) (A ∷ B ∷ S)
  unfolding arrangement_at
  capped_first {A} {B} {S} valid c d s = record { solution = solution_first valid c s.solution; short = short }
    where
      short : (k : ℕ) → k < suc (length S) → InShortChains m (arrangement_at (A ∷ B ∷ S) k) (arrangement_at (B ∷ S) k)
      short zero h = d
      short (suc k) h = s.short k (omega arith)

  pub way_solution : {A : Arrangement} {S : List Arrangement} → UniquelyInvertible F m A → Way F m G A S
      → CappedSolution F m A G (length S) (A ∷ S)
  way_solution valid (there e) = record { solution = solution_none valid e; short = λ k h. absurd (omega arith) }
  way_solution valid (onward c d w) = capped_first valid c d (way_solution c.invertible w)

  pub solution_way : {S⁰ : Arrangement} {ζ : ℕ} (A : Arrangement) (S : List Arrangement) → CappedSolution F m S⁰ G ζ (A ∷ S) → Way F m G A S
  unfolding arrangement_at
  solution_way {ζ} A [] capped =
      let s = capped.solution in
      let e : ζ ≡ 0 = omega (arith, s.sequence) in
      there (subst (λ (k : ℕ). arrangement_at (A ∷ []) k ≡ G) e s.reaches)
  solution_way {ζ} A (B ∷ S) capped =
      let s = capped.solution in
      let e : ζ ≡ suc (length S) = omega (arith, s.sequence) in
      onward (record { invertible = s.invertible 1 (omega arith); along = s.along 0 (omega arith); led = s.led 0 (omega arith) })
      (capped.short 0 (omega arith))
      (solution_way B S
      (record {
        solution = record {
          sequence = refl;
          begins = refl;
          invertible = λ k h. s.invertible (suc k) (omega arith);
          reaches = subst (λ (k : ℕ). arrangement_at (A ∷ B ∷ S) k ≡ G) e s.reaches;
          along = λ k h. s.along (suc k) (omega arith);
          led = λ k h. s.led (suc k) (omega arith);
        };
        short = λ k h. capped.short (suc k) (omega arith);
      }))

  -- what replay accepts goes a way, and the other way round

  pub replay_way : (n : ℕ) (A : Arrangement) (steps : List (List (ℕ × ℕ))) → UniquelyInvertible F m A → StepsLead F n A steps G
      → (S : List Arrangement) × Way F m G A S × (trace after A steps ≡ A ∷ S) × (steps ≡ steps_between (A ∷ S))
  unfolding trace steps_between
  replay_way n A [] valid e = ([], there ((replay_none F n A G).0 e), refl, refl)
  replay_way n A (ms ∷ steps) valid e =
      let c = (replay_cons F n A G ms steps).0 e in
      let w = replay_way (suc n) (after A ms) steps (legal_valid valid c.0) c.1 in (
        after A ms ∷ w.0,
        onward (legal_change valid c.0) (legal_short valid c.0) w.1,
        ap (λ (t : List Arrangement). A ∷ t) w.2,
        ap₂ (λ (x : List (ℕ × ℕ)) (t : List (List (ℕ × ℕ))). x ∷ t) (legal_step_of valid c.0) w.3,
      )

  pub way_replay : (n : ℕ) {A : Arrangement} {S : List Arrangement} → UniquelyInvertible F m A → Way F m G A S
      → StepsLead F n A (steps_between (A ∷ S)) G × (trace after A (steps_between (A ∷ S)) ≡ A ∷ S)
  unfolding trace steps_between
  way_replay n {A} valid (there e) = ((replay_none F n A G).1 e, refl)
  way_replay n {A} valid (onward {B = B} {S = S} c d w) =
      let rest = way_replay (suc n) c.invertible w in (
        (replay_cons F n A G (step_of A B) (steps_between (B ∷ S))).1 (change_legal valid c d, rw (change-after valid c) rest.0),
        rw (change-after valid c) (ap (λ (t : List Arrangement). A ∷ t) rest.1),
      )

pub solution_instance : {F : Floor} {m : ℕ} {S⁰ S⁺ : Arrangement} {ζ : ℕ} {S : List Arrangement}
    → Solution F m S⁰ S⁺ ζ S → Instance F m S⁰ S⁺
solution_instance {F} {m} {S⁰} {S⁺} {ζ} s =
    let first : UniquelyInvertible F m S⁰ = subst (UniquelyInvertible F m) s.begins (s.invertible 0 (omega arith)) in
    record { fewer = valid_fits first; initial = first; goal = subst (UniquelyInvertible F m) s.reaches (s.invertible ζ (omega arith)) }

pub record OnlySteps (F : Floor) (S⁰ S⁺ : Arrangement) (ζ : ℕ) (S : List Arrangement) : Type 0 where
  pub steps : List (List (ℕ × ℕ))
  pub count : length steps ≡ ζ
  pub traced : trace after S⁰ steps ≡ S
  pub accepted : replay_steps (legal_step? F) S⁰ steps ≡ ended S⁺
  pub only : (steps' : List (List (ℕ × ℕ))) → trace after S⁰ steps' ≡ S → replay_steps (legal_step? F) S⁰ steps' ≡ ended S⁺ → steps' ≡ steps
  -- each step lists the racks that change place, ascending by the position left
  pub between : steps ≡ steps_between S

module _ (F : Floor) (m : ℕ) (S⁰ S⁺ : Arrangement) where
  pub replay_solution : UniquelyInvertible F m S⁰ → (steps : List (List (ℕ × ℕ))) → replay_steps (legal_step? F) S⁰ steps ≡ ended S⁺
      → CappedSolution F m S⁰ S⁺ (length steps) (trace after S⁰ steps)
  unfolding replay_steps
  replay_solution valid steps e =
      let w = replay_way 1 S⁰ steps valid e in
      let size : length w.0 ≡ length steps = sym (ap length w.3 ∙ length-steps_between S⁰ w.0) in
      subst₂ (CappedSolution F m S⁰ S⁺) size (sym w.2) (way_solution valid w.1)

  replay_steps_between : UniquelyInvertible F m S⁰ → (steps : List (List (ℕ × ℕ))) → replay_steps (legal_step? F) S⁰ steps ≡ ended S⁺
      → steps ≡ steps_between (trace after S⁰ steps)
  unfolding replay_steps steps_between
  replay_steps_between valid steps e = let w = replay_way 1 S⁰ steps valid e in w.3 ∙ ap steps_between (sym w.2)

  pub solution_replay : (ζ : ℕ) (S : List Arrangement) → CappedSolution F m S⁰ S⁺ ζ S → OnlySteps F S⁰ S⁺ ζ S
  unfolding replay_steps steps_between arrangement_at
  solution_replay ζ [] capped = absurd (omega (arith, capped.solution.sequence))
  solution_replay ζ (A ∷ S) capped =
      let s = capped.solution in
      let valid : UniquelyInvertible F m A = s.invertible 0 (omega arith) in
      let r = way_replay 1 valid (solution_way A S capped) in
      record {
        steps = steps_between (A ∷ S);
        count = omega (arith, length-steps_between A S, s.sequence);
        traced = subst (λ (B : Arrangement). trace after B (steps_between (A ∷ S)) ≡ A ∷ S) s.begins r.1;
        accepted = subst (λ (B : Arrangement). StepsLead F 1 B (steps_between (A ∷ S)) S⁺) s.begins r.0;
        only = λ steps' t e. replay_steps_between (subst (UniquelyInvertible F m) s.begins valid) steps' e ∙ ap steps_between t;
        between = refl;
      }

  pub steps_replay : Instance F m S⁰ S⁺
      → ((steps : List (List (ℕ × ℕ))) → replay_steps (legal_step? F) S⁰ steps ≡ ended S⁺
      → CappedSolution F m S⁰ S⁺ (length steps) (trace after S⁰ steps))
      × ((ζ : ℕ) (S : List Arrangement) → CappedSolution F m S⁰ S⁺ ζ S → OnlySteps F S⁰ S⁺ ζ S)
  steps_replay σ = (replay_solution σ.initial, solution_replay)

  pub solutions_iff : UniquelyInvertible F m S⁰ → (steps : List (List (ℕ × ℕ))) (S : List Arrangement)
      → ((replay_steps (legal_step? F) S⁰ steps ≡ ended S⁺) × (trace after S⁰ steps ≡ S))
      ↔ (CappedSolution F m S⁰ S⁺ (length steps) S × (steps ≡ steps_between S))
  solutions_iff valid steps S = (
    λ w. (
      subst (CappedSolution F m S⁰ S⁺ (length steps)) w.1 (replay_solution valid steps w.0),
      replay_steps_between valid steps w.0 ∙ ap steps_between w.1,
    ),
    λ w.
        let o = solution_replay (length steps) S w.0 in
        let same : steps ≡ o.steps = w.1 ∙ sym o.between in
        (ap (replay_steps (legal_step? F) S⁰) same ∙ o.accepted, ap (trace after S⁰) same ∙ o.traced),
  )
