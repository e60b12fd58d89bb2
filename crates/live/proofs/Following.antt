-- A picture that follows a timetable: it is where the steps that it counts lead from the starts. With the pair by which it was opened,
-- every call keeps it so.
--
--     tables-same         two tables that hold an arrangement are the same
--     Following o t P     the picture P follows the timetable t of the order o
--     follows_legal       what is legal where the racks stand is legal on the picture
--     follows_opened      an opened picture follows
--     next_here, follows_run        the next step is legal on it, and after it the picture follows
--     back_here, follows_back       so is the last one turned round, and after it the picture follows
-- Assumes nothing.
use Prim.Native.Nat.{ℕ, suc, ◌+◌, ◌-◌, ◌≤◌, ◌<◌}
use mathlib.Core.Path.{◌≡◌, refl, sym, ap, ap₂, ◌∙◌, subst}
use mathlib.Core.List.{List, [], ◌∷◌}
use native.Mathlib.Omega.{arith}
use lib.Dec.{T}
use lib.ListN.{length, get_or, take}
use Rattle.field.specs.Bytes.{BelowPairs}
use Rattle.order.specs.Order.{position_count, rack_count, floor_of, starts_of}
use Rattle.order.specs.Tables.{racks_at}
use Rattle.motion.specs.Arrangement.{Arrangement}
use Rattle.motion.specs.Move.{after}
use Rattle.motion.specs.Problem.{UniquelyInvertible}
use Rattle.motion.specs.Step.{legal_step}
use Rattle.motion.specs.LegalStep.{LegalStep}
use Rattle.motion.specs.TurnedStep.{turned_step}
use Rattle.motion.proofs.LegalStepLaws.{legal_step_iff}
use Rattle.motion.proofs.Lawful.{LeadsSteps, still, lawful_same}
use Rattle.motion.proofs.PebbleLaws.{invertible_sound}
use Rattle.motion.proofs.TurnedStepLaws.{turned_legal_step, turned_step_back}
use Rattle.tables.specs.Accepted.{WellPlaced}
use Rattle.tables.proofs.AcceptedLaws.{well_placed}
use Rattle.tables.proofs.TablesLaws.{Holds}
use Rattle.tables.proofs.TableLaws.{table_rack, placed-holds}
use Rattle.chains.specs.StepOn.{step_on}
use Rattle.trains.proofs.LegalOn.{legal_step_same, legal_step_on_lem}
use Rattle.trains.proofs.StepHolds.{step_holds}
use Rattle.timetable.specs.Timetable.{step_count, steps_of}
use Rattle.timetable_check.proofs.Leading.{LeadingTimetable}
use Rattle.live.specs.Picture.{Picture, standing, LegalHere}
use Rattle.live.specs.Roles.{opening, running, taking_back}
use Rattle.live.specs.Calls.{changed}
use Rattle.stepping.specs.Judging.{step_numbered}
use Rattle.live.proofs.HereLaws.{held_standing}
use Rattle.live.proofs.Driving.{step_below, turned_below}
use Rattle.stepping.proofs.Steps.{Reached, reached, next_legal, reached_next}

entries-same : (l k : List ℕ) → length l ≡ length k → ((p : ℕ) → get_or l p 0 ≡ get_or k p 0) → l ≡ k
entries-same [] [] e h = refl
entries-same [] (y ∷ k) e h = absurd (omega arith)
entries-same (x ∷ l) [] e h = absurd (omega arith)
entries-same (x ∷ l) (y ∷ k) e h =
    ap₂ (λ (a : ℕ) (r : List ℕ). a ∷ r) (h 0) (entries-same l k (omega arith) (λ p. h (suc p)))

pub tables-same : (A : Arrangement) (h k : List ℕ) → Holds A h → Holds A k → h ≡ k
tables-same A h k a b =
    entries-same h k (a.size ∙ sym b.size) (λ p. sym (table_rack A h a p) ∙ table_rack A k b p)

module _ (o t v : List ℕ) (l : LeadingTimetable o t v) where
  abbrev placed_well : WellPlaced o
  placed_well = well_placed o l.order_right

  -- the table of a valid arrangement holds it
  holds_it : (A : Arrangement) → UniquelyInvertible (floor_of o) (rack_count o) A → Holds A (racks_at A)
  unfolding racks_at
  holds_it A u =
      placed-holds (floor_of o).positions A placed_well.few_positions ((invertible_sound (floor_of o) (rack_count o) A).0 u).1

  -- a legal step makes the table of the arrangement after it
  stepped : (A : Arrangement) → UniquelyInvertible (floor_of o) (rack_count o) A → (ms : List (ℕ × ℕ)) → LegalStep (floor_of o) A ms
      → UniquelyInvertible (floor_of o) (rack_count o) (after A ms) → step_on (racks_at A) ms ≡ racks_at (after A ms)
  stepped A u ms s w =
      tables-same (after A ms) (step_on (racks_at A) ms) (racks_at (after A ms))
      (step_holds (floor_of o) placed_well.few_positions A (racks_at A) (holds_it A u) ms s) (holds_it (after A ms) w)

  pub record Following (P : Picture) : Type 0 where
    pub positions_are : P.positions ≡ position_count o
    pub within : P.steps ≤ step_count t
    pub there : Reached o t P.steps
    pub racks_are : P.racks ≡ racks_at there.arrangement

  pub follows_legal : (P : Picture) (f : Following P) (ms : List (ℕ × ℕ)) → BelowPairs 64 ms
      → LegalStep (floor_of o) f.there.arrangement ms → LegalHere P (floor_of o) ms
  unfolding floor_of
  follows_legal P f ms b s =
      let A = f.there.arrangement in
      let held : Holds A P.racks = subst (Holds A) (sym f.racks_are) (holds_it A f.there.valid) in
      let same : legal_step (floor_of o) (standing P) ms ≡ legal_step (floor_of o) A ms =
      sym
      (legal_step_same (floor_of o) placed_well.edges_below placed_well.edges_right (standing P) P.racks (held_standing P) b)
      ∙ legal_step_on_lem (floor_of o) placed_well.edges_below placed_well.edges_right A P.racks held b in
      record {
        legal = (legal_step_iff (floor_of o) (standing P) ms).0 (subst T (sym same) ((legal_step_iff (floor_of o) A ms).1 s));
        known = λ m k.
            let w = s.joins m k in (
              subst (λ (n : ℕ). m.0 < n) (sym f.positions_are) w.left_below,
              subst (λ (n : ℕ). m.1 < n) (sym f.positions_are) w.entered_below,
            );
      }

  pub follows_opened : (P : Picture) → Following (changed opening P o t)
  unfolding changed
  follows_opened P =
      let start = reached o t v l 0 in
      record {
        positions_are = refl;
        within = omega arith;
        there = start;
        racks_are = ap racks_at (lawful_same still start.leads);
      }

  module _ (P : Picture) (f : Following P) where
    module _ (h : P.steps < step_count t) where
      next_step : LegalStep (floor_of o) f.there.arrangement (step_numbered t (P.steps + 1))
      next_step = next_legal o t v l P.steps h f.there

      pub next_here : LegalHere P (floor_of o) (step_numbered t (P.steps + 1))
      next_here = follows_legal P f _ (step_below t (P.steps + 1)) next_step

      pub follows_run : Following (changed running P o t)
      unfolding changed
      follows_run =
          let next = reached_next o t v l P.steps h f.there in
          record {
            positions_are = f.positions_are;
            within = omega arith;
            there = next;
            racks_are =
                ap (λ (x : List ℕ). step_on x (step_numbered t (P.steps + 1))) f.racks_are
                ∙ stepped f.there.arrangement f.there.valid _ next_step next.valid;
          }

    module _ (h : 1 ≤ P.steps) where
      abbrev ms : List (ℕ × ℕ)
      ms = step_numbered t P.steps

      before : Reached o t (P.steps - 1)
      before = reached o t v l (P.steps - 1)

      back_one : P.steps - 1 + 1 ≡ P.steps
      back_one = omega arith

      last_step : LegalStep (floor_of o) before.arrangement ms
      last_step =
          subst (λ (i : ℕ). LegalStep (floor_of o) before.arrangement (step_numbered t i)) back_one
          (next_legal o t v l (P.steps - 1) (omega (arith, f.within)) before)

      -- the racks stand where the last step has led
      led_here : f.there.arrangement ≡ after before.arrangement ms
      led_here =
          let next = reached_next o t v l (P.steps - 1) (omega (arith, f.within)) before in
          lawful_same f.there.leads
          (subst (λ (i : ℕ). LeadsSteps (floor_of o) (starts_of o) (take i (steps_of t)) (after before.arrangement
          (step_numbered t i))) back_one
          next.leads)

      back_legal : LegalStep (floor_of o) f.there.arrangement (turned_step ms)
      back_legal = subst (λ (A : Arrangement). LegalStep (floor_of o) A (turned_step ms)) (sym led_here) (turned_legal_step
          before.valid last_step)

      back_there : after f.there.arrangement (turned_step ms) ≡ before.arrangement
      back_there = ap (λ (A : Arrangement). after A (turned_step ms)) led_here ∙ turned_step_back before.valid last_step

      pub back_here : LegalHere P (floor_of o) (turned_step ms)
      back_here = follows_legal P f _ (turned_below (step_below t P.steps)) back_legal

      pub follows_back : Following (changed taking_back P o t)
      unfolding changed
      follows_back =
          record {
            positions_are = f.positions_are;
            within = omega (arith, f.within);
            there = before;
            racks_are =
                ap (λ (x : List ℕ). step_on x (turned_step ms)) f.racks_are
                ∙ stepped f.there.arrangement f.there.valid _ back_legal
                (subst (UniquelyInvertible (floor_of o) (rack_count o)) (sym back_there) before.valid)
                ∙ ap racks_at back_there;
          }
