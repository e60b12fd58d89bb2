-- The steps of an accepted timetable, each legal where those before it lead.
--
--     leads_valid         arrangements stay valid over the steps of a timetable
--     step_listed         step i is the i-th of the timetable's list
--     Reached o t i       where the first i steps of the timetable lead from the starts
--     reached             so many steps as it has lead somewhere
--     next_legal          there the next step is legal
--     reached_next        and so one more is reached
--     lent_leads, lent_reached, lent_legal   the lent step is legal where those before it lead
--     lent_few            a lent step has at most 64 moves
--     lent_once           and enters no position twice
-- Assumes nothing.
use Prim.Native.Nat.{ℕ, suc, ◌+◌, ◌-◌, ◌≤◌, ◌<◌}
use mathlib.Core.Path.{◌≡◌, refl, sym, ap, ◌∙◌, subst}
use mathlib.Core.List.{List, [], ◌∷◌, ◌++◌, map}
use native.Mathlib.Omega.{arith}
use native.Mathlib.Numerals.{add-one}
use lib.ListN.{length, get_or, take, drop, take-append-drop, get_or-map}
use lib.Seq.{take-suc, drop-cons}
use Rattle.field.specs.Bits.{pairs}
use Rattle.order.specs.Floor.{Floor}
use Rattle.order.specs.Order.{rack_count, floor_of, starts_of, goals_of}
use Rattle.motion.specs.Arrangement.{Arrangement}
use Rattle.motion.specs.Move.{after}
use Rattle.motion.specs.Problem.{UniquelyInvertible}
use Rattle.motion.specs.StepTests.{EnteredOnce}
use Rattle.motion.specs.LegalStep.{LegalStep}
use Rattle.motion.proofs.LegalStepLaws.{legal_step_iff}
use Rattle.motion.proofs.Lawful.{LeadsSteps, still, ◌then◌, lawful_one, lawful_first, lawful_append, lawful_apart}
use Rattle.motion.proofs.StepChange.{legal_valid}
use Rattle.motion.proofs.StepLimits.{step_racks}
use Rattle.tables.proofs.AcceptedLaws.{well_placed}
use Rattle.timetable.specs.Timetable.{step_count, step_part, step_moves, parts_of, steps_of}
use Rattle.timetable.proofs.ReadingLaws.{count_steps}
use Rattle.timetable_check.proofs.Leading.{LeadingTimetable, accepted_leads}
use Rattle.stepping.specs.Judging.{step_numbered}
use Rattle.stepping.specs.Judging.{Lent}

pub leads_valid : {F : Floor} {m : ℕ} {A B : Arrangement} {l : List (List (ℕ × ℕ))} → UniquelyInvertible F m A → LeadsSteps F A l B
    → UniquelyInvertible F m B
leads_valid v still = v
leads_valid {F} v (◌then◌ {A = A} {x = ms} l rest) = leads_valid (legal_valid v ((legal_step_iff F A ms).0 l)) rest

-- past the end the moves are none
moves_none : step_moves [] ≡ []
unfolding step_moves pairs
moves_none = refl

pub step_listed : (t : List ℕ) (i : ℕ) → step_numbered t i ≡ get_or (steps_of t) (i - 1) []
unfolding step_numbered step_part steps_of
step_listed t i = sym (ap (get_or (map step_moves (parts_of t)) (i - 1)) (sym moves_none) ∙ get_or-map step_moves (parts_of t) (i - 1) [])

pub record Reached (o t : List ℕ) (i : ℕ) : Type 0 where
  pub arrangement : Arrangement
  pub leads : LeadsSteps (floor_of o) (starts_of o) (take i (steps_of t)) arrangement
  pub rest : LeadsSteps (floor_of o) arrangement (drop i (steps_of t)) (goals_of o)
  pub valid : UniquelyInvertible (floor_of o) (rack_count o) arrangement

module _ (o t v : List ℕ) (l : LeadingTimetable o t v) where
  starts_valid : UniquelyInvertible (floor_of o) (rack_count o) (starts_of o)
  starts_valid = (well_placed o l.order_right).task.initial

  pub reached : (i : ℕ) → Reached o t i
  reached i =
      let whole : LeadsSteps (floor_of o) (starts_of o) (take i (steps_of t) ++ drop i (steps_of t)) (goals_of o) =
      subst (λ (x : List (List (ℕ × ℕ))). LeadsSteps (floor_of o) (starts_of o) x (goals_of o)) (sym (take-append-drop i (steps_of t)))
      l.leads in
      let w = lawful_apart (take i (steps_of t)) whole in
      record { arrangement = w.0; leads = w.1; rest = w.2; valid = leads_valid starts_valid w.1 }

  module _ (i : ℕ) (h : i < step_count t) (r : Reached o t i) where
    abbrev next : List (ℕ × ℕ)
    next = step_numbered t (i + 1)

    pub next_is : drop i (steps_of t) ≡ next ∷ drop (suc i) (steps_of t)
    next_is =
        let same : i + 1 - 1 ≡ i = omega arith in
        drop-cons (steps_of t) i [] (omega (arith, count_steps t))
        ∙ ap (λ (x : List (ℕ × ℕ)). x ∷ drop (suc i) (steps_of t)) (sym (step_listed t (i + 1) ∙ ap
        (λ (j : ℕ). get_or (steps_of t) j []) same))

    pub first_is : take (i + 1) (steps_of t) ≡ take i (steps_of t) ++ next ∷ []
    first_is =
        let same : i + 1 - 1 ≡ i = omega arith in
        ap (λ (j : ℕ). take j (steps_of t)) (add-one i)
        ∙ take-suc (steps_of t) i [] (omega (arith, count_steps t))
        ∙ ap (λ (x : List (ℕ × ℕ)). take i (steps_of t) ++ x ∷ [])
        (sym (step_listed t (i + 1) ∙ ap (λ (j : ℕ). get_or (steps_of t) j []) same))

    pub goes_on : LeadsSteps (floor_of o) r.arrangement (next ∷ drop (suc i) (steps_of t)) (goals_of o)
    goes_on = subst (λ (x : List (List (ℕ × ℕ))). LeadsSteps (floor_of o) r.arrangement x (goals_of o)) next_is r.rest

    pub next_legal : LegalStep (floor_of o) r.arrangement next
    next_legal = (legal_step_iff (floor_of o) r.arrangement next).0 (lawful_first goes_on).0

    abbrev pub reached_next : Reached o t (i + 1)
    reached_next =
        record {
          arrangement = after r.arrangement next;
          leads =
              subst (λ (x : List (List (ℕ × ℕ))). LeadsSteps (floor_of o) (starts_of o) x (after r.arrangement next)) (sym first_is)
              (lawful_append r.leads (lawful_one (lawful_first goes_on).0 refl));
          rest =
              subst (λ (x : List (List (ℕ × ℕ))). LeadsSteps (floor_of o) (after r.arrangement next) x (goals_of o))
              (ap (λ (j : ℕ). drop j (steps_of t)) (sym (add-one i))) (lawful_first goes_on).1;
          valid = legal_valid r.valid next_legal;
        }

module _ (o t : List ℕ) (i : ℕ) (lent : Lent o t i) where
  pub lent_leads : LeadingTimetable o t lent.counts
  lent_leads = (accepted_leads o t lent.counts).0 lent.is_accepted

  pub lent_reached : Reached o t (i - 1)
  lent_reached = reached o t lent.counts lent_leads (i - 1)

  pub lent_legal : LegalStep (floor_of o) lent_reached.arrangement (step_numbered t i)
  lent_legal =
      let low = lent.low in
      let high = lent.high in
      let same : i - 1 + 1 ≡ i = omega arith in
      subst (λ (j : ℕ). LegalStep (floor_of o) lent_reached.arrangement (step_numbered t j)) same
      (next_legal o t lent.counts lent_leads (i - 1) (omega arith) lent_reached)

  pub lent_few : length (step_numbered t i) ≤ 64
  lent_few =
      let placed = well_placed o lent_leads.order_right in
      omega (arith, step_racks lent_legal, lent_reached.valid.racks, placed.few_racks)

  pub lent_once : EnteredOnce (step_numbered t i)
  lent_once = lent_legal.once
