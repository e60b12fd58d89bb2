-- Timetables in which nothing moves, and steps in which nothing moves, from document 01, "The floor": "here a full floor may be checked
-- too, and no rack on it can move. No steps at all is a solution when each start is its goal."
--
--     Waiting steps            each of the steps is empty
--     waiting_leads            such steps lead from an arrangement to itself, and nowhere else
--     StillTimetable o s v     40 and 41 pass s, its steps wait, v counts them and no moves, and each start is its goal
--     full_floor_lem               on a full floor a timetable is accepted exactly if it is one
--     no_racks                 so it is where there is no rack
--     no_steps, nothing        and of a timetable without steps on any floor: 00 00 00 is accepted exactly if each start is its goal
--     OneMore s t              t is the timetable s with one empty step more, at any place
--     one_more                 every list of steps has such a timetable, unless there are too many
--     waiting_step             t is accepted exactly if s is: with one step more, and with the same moves
-- Assumes nothing.
use Prim.Native.Nat.{ℕ, suc, ◌+◌}
use mathlib.Core.List.Memᴰ
use mathlib.Core.List.{List, [], ◌∷◌, ◌++◌, Memᴰ}
use mathlib.Core.Logic.{◌↔◌}
use mathlib.Core.Path.{◌≡◌, refl, sym, ap, ap₂, ◌∙◌, subst}
use native.Mathlib.Omega.{arith}
use lib.ListN.{length, length-append}
use Rattle.answers.specs.Answer.{accepted}
use Rattle.field.specs.Bits.{bits, number, bits_of, field}
use Rattle.order.specs.Floor.{Floor, some}
use Rattle.order.specs.Order.{rack_count, floor_of, starts_of, goals_of, WellFormed}
use Rattle.motion.specs.Arrangement.{Arrangement}
use Rattle.motion.specs.Move.{after}
use Rattle.motion.proofs.MoveLaws.{after-length}
use Rattle.motion.proofs.ListLaws.{by_member}
use Rattle.motion.proofs.Lawful.{LeadsSteps, still, ◌then◌, lawful_none, lawful_first, lawful_append, lawful_apart}
use Rattle.motion.proofs.StepReplay.{steps_lead}
use Rattle.motion.proofs.LegalStepLaws.{legal_step_iff, legal_nothing}
use Rattle.motion.proofs.StepLimits.{step_racks, full_iff}
use Rattle.tables.proofs.AcceptedLaws.{well_placed}
use Rattle.timetable.specs.Timetable.{timetable_record, step_count, step_parts, parts_of, wrong_timetable_length, move_total, steps_length}
use Rattle.timetable.specs.Timetable.{timetable_padding_set, steps_of, timetable_answer, timetable_length}
use Rattle.timetable.specs.Reading.{WellPacked, total}
use Rattle.timetable.proofs.ReadingLaws.{count_steps, total-moves}
use Rattle.timetable.proofs.TimetableRecord.{Steps, one_step, Packable, steps_of_record, record_well_packed}
use Rattle.timetable_check.proofs.Leading.{LeadingTimetable, accepted_leads}

-- a step of no moves, in front of others
module _ (F : Floor) {A B : Arrangement} {steps : List (List (ℕ × ℕ))} where
  wait_first : LeadsSteps F A steps B → LeadsSteps F A ([] ∷ steps) B
  wait_first l =
      let rest : LeadsSteps F (after A []) steps B = rw (legal_nothing F A).1 l in
      (legal_step_iff F A []).1 (legal_nothing F A).0 then rest

  wait_left_out : LeadsSteps F A ([] ∷ steps) B → LeadsSteps F A steps B
  wait_left_out l = rw (legal_nothing F A).1 at (lawful_first l).1

abbrev pub Waiting : List (List (ℕ × ℕ)) → Type 0
Waiting steps = (ms : List (ℕ × ℕ)) → Memᴰ ms steps → ms ≡ []

pub waiting_leads : (F : Floor) (A B : Arrangement) (steps : List (List (ℕ × ℕ))) → Waiting steps → LeadsSteps F A steps B ↔ (A ≡ B)
waiting_leads F A B [] w = (lawful_none, λ e. rw (← e) still)
waiting_leads F A B (ms ∷ steps) w =
    let rest = waiting_leads F A B steps (λ x k. w x (Memᴰ.tail k)) in
    let none : ms ≡ [] = w ms (Memᴰ.head refl) in (
      λ l. rest.0 (wait_left_out F (rw none at l)),
      λ e. rw none (wait_first F (rest.1 e)),
    )

-- what waits has no moves
waiting_none : (steps : List (List (ℕ × ℕ))) → Waiting steps → move_total steps ≡ 0
unfolding move_total
waiting_none [] w = refl
waiting_none (ms ∷ steps) w =
    omega (arith, ap length (w ms (Memᴰ.head refl)), waiting_none steps (λ x k. w x (Memᴰ.tail k)))

pub record StillTimetable (o s v : List ℕ) : Type 0 where
  pub packed_right : WellPacked s
  pub waits : Waiting (steps_of s)
  pub counted : step_count s ∷ 0 ∷ [] ≡ v
  pub settled : starts_of o ≡ goals_of o

length_none : {X : Type 0} (l : List X) → length l ≡ 0 → l ≡ []
length_none [] h = refl
length_none (x ∷ l) h = absurd (omega arith)

-- without a rack no step can move one
rackless : (F : Floor) {A B : Arrangement} {steps : List (List (ℕ × ℕ))} → length A ≡ 0 → LeadsSteps F A steps B → Waiting steps
rackless F none still ms k = absurd (Memᴰ.not-nil k)
rackless F none (◌then◌ {A = A} {x = x} l rest) ms k =
    by_member k
    (λ e. e ∙ length_none x (omega (arith, none, step_racks ((legal_step_iff F A x).0 l))))
    (rackless F (after-length A x ∙ none) rest ms)

module _ (o s v : List ℕ) (w : WellFormed o) where
  -- where steps that lead to the goals can only wait
  still_timetables : (LeadsSteps (floor_of o) (starts_of o) (steps_of s) (goals_of o) → Waiting (steps_of s))
      → (timetable_answer o s ≡ accepted v) ↔ StillTimetable o s v
  still_timetables stuck = (
    λ a.
        let t : LeadingTimetable o s v = (accepted_leads o s v).0 a in
        let waits = stuck t.leads in
        record {
          packed_right = t.packed_right;
          waits = waits;
          counted = ap (λ (k : ℕ). step_count s ∷ k ∷ []) (sym (sym (total-moves s) ∙ waiting_none (steps_of s) waits)) ∙ t.counted;
          settled = (waiting_leads (floor_of o) (starts_of o) (goals_of o) (steps_of s) waits).0 t.leads;
        },
    λ t.
        (accepted_leads o s v).1
        (record {
          order_right = w;
          packed_right = t.packed_right;
          counted = ap (λ (k : ℕ). step_count s ∷ k ∷ []) (sym (total-moves s) ∙ waiting_none (steps_of s) t.waits) ∙ t.counted;
          leads = (waiting_leads (floor_of o) (starts_of o) (goals_of o) (steps_of s) t.waits).1 t.settled;
        }),
  )

  pub full_floor_lem : rack_count o ≡ (floor_of o).positions → (timetable_answer o s ≡ accepted v) ↔ StillTimetable o s v
  full_floor_lem full =
      still_timetables
      (λ l.
      let replayed = (steps_lead (floor_of o) 1 (starts_of o) (steps_of s) (goals_of o)).1 l in
      ((full_iff (floor_of o) (rack_count o) (starts_of o) (goals_of o) 1 (steps_of s) (well_placed o w).task.initial full).0 replayed).1)

  pub no_racks : rack_count o ≡ 0 → (timetable_answer o s ≡ accepted v) ↔ StillTimetable o s v
  no_racks none = still_timetables (rackless (floor_of o) ((well_placed o w).starts_length ∙ none))

  pub no_steps : step_count s ≡ 0 → (timetable_answer o s ≡ accepted v) ↔ StillTimetable o s v
  no_steps none =
      still_timetables (λ l ms k. absurd (Memᴰ.not-nil (subst (Memᴰ ms) (length_none (steps_of s) (count_steps s ∙ none)) k)))

-- the timetable without steps
nothing-packed : WellPacked (0x00 ∷ 0x00 ∷ 0x00 ∷ [])
unfolding wrong_timetable_length timetable_padding_set timetable_length steps_length some parts_of step_parts step_count
    field number bits_of bits
nothing-packed = record { length_right = refl; padding_clear = refl }

nothing-counted : step_count (0x00 ∷ 0x00 ∷ 0x00 ∷ []) ≡ 0
unfolding step_count field number bits_of bits
nothing-counted = refl

pub nothing : (o : List ℕ) → WellFormed o → (timetable_answer o (0x00 ∷ 0x00 ∷ 0x00 ∷ []) ≡ accepted (0 ∷ 0 ∷ [])) ↔
    (starts_of o ≡ goals_of o)
nothing o w =
    let by = no_steps o (0x00 ∷ 0x00 ∷ 0x00 ∷ []) (0 ∷ 0 ∷ []) w nothing-counted in (
      λ a. (by.0 a).settled,
      λ e.
          by.1
          (record {
            packed_right = nothing-packed;
            waits = λ ms k. absurd (Memᴰ.not-nil (subst (Memᴰ ms) (length_none _ (count_steps _ ∙ nothing-counted)) k));
            counted = ap (λ (k : ℕ). k ∷ 0 ∷ []) nothing-counted;
            settled = e;
          }),
    )

pub record OneMore (s t : List ℕ) : Type 0 where
  pub before : List (List (ℕ × ℕ))
  pub behind : List (List (ℕ × ℕ))
  pub fewer_packed : WellPacked s
  pub more_packed : WellPacked t
  pub fewer_steps : steps_of s ≡ before ++ behind
  pub more_steps : steps_of t ≡ before ++ [] ∷ behind

moves_append : (l m : List (List (ℕ × ℕ))) → move_total (l ++ m) ≡ move_total l + move_total m
unfolding move_total
moves_append [] m = omega arith
moves_append (x ∷ l) m = omega (arith, moves_append l m)

moves_more : (m : List (List (ℕ × ℕ))) → move_total ([] ∷ m) ≡ move_total m
unfolding move_total
moves_more m = omega arith

module _ (s t : List ℕ) (w : OneMore s t) where
  steps_more : step_count t ≡ suc (step_count s)
  steps_more =
      let l = w.before in
      let m = w.behind in
      let few : length (steps_of s) ≡ length l + length m = ap length w.fewer_steps ∙ length-append l m in
      let many : length (steps_of t) ≡ length l + length ([] ∷ m) = ap length w.more_steps ∙ length-append l ([] ∷ m) in
      omega (arith, count_steps s, count_steps t)

  moves_same : total (parts_of t) ≡ total (parts_of s)
  moves_same =
      let l = w.before in
      let m = w.behind in
      sym (total-moves t)
      ∙ ap move_total w.more_steps
      ∙ (moves_append l ([] ∷ m) ∙ ap (λ (k : ℕ). move_total l + k) (moves_more m) ∙ sym (moves_append l m))
      ∙ ap move_total (sym w.fewer_steps)
      ∙ total-moves s

  leads_more : (F : Floor) {A B : Arrangement} → LeadsSteps F A (steps_of s) B ↔ LeadsSteps F A (steps_of t) B
  leads_more F {A} {B} = (
    λ p.
        let cut = lawful_apart w.before (rw w.fewer_steps at p) in
        rw w.more_steps (lawful_append cut.1 (wait_first F cut.2)),
    λ p.
        let cut = lawful_apart w.before (rw w.more_steps at p) in
        rw w.fewer_steps (lawful_append cut.1 (wait_left_out F cut.2)),
  )

  pub waiting_step : (o : List ℕ) (k c : ℕ)
      → (timetable_answer o s ≡ accepted (k ∷ c ∷ [])) ↔ (timetable_answer o t ≡ accepted (suc k ∷ c ∷ []))
  waiting_step o k c = (
    λ a.
        let u : LeadingTimetable o s (k ∷ c ∷ []) = (accepted_leads o s _).0 a in
        let steps_are : step_count s ≡ k = cc u.counted in
        let moves_are : total (parts_of s) ≡ c = cc u.counted in
        (accepted_leads o t _).1
        (record {
          order_right = u.order_right;
          packed_right = w.more_packed;
          counted = ap₂ (λ (x y : ℕ). x ∷ y ∷ []) (steps_more ∙ ap suc steps_are) (moves_same ∙ moves_are);
          leads = (leads_more (floor_of o)).0 u.leads;
        }),
    λ a.
        let u : LeadingTimetable o t (suc k ∷ c ∷ []) = (accepted_leads o t _).0 a in
        let steps_are : step_count t ≡ suc k = cc u.counted in
        let moves_are : total (parts_of t) ≡ c = cc u.counted in
        (accepted_leads o s _).1
        (record {
          order_right = u.order_right;
          packed_right = w.fewer_packed;
          counted = ap₂ (λ (x y : ℕ). x ∷ y ∷ []) (omega (arith, steps_more, steps_are)) (sym moves_same ∙ moves_are);
          leads = (leads_more (floor_of o)).1 u.leads;
        }),
  )

-- what can be packed can be packed with a step less
steps_less : (l m : List (List (ℕ × ℕ))) → Steps (l ++ [] ∷ m) → Steps (l ++ m)
steps_less [] m (one_step few low rest) = rest
steps_less (x ∷ l) m (one_step few low rest) = one_step few low (steps_less l m rest)

pub one_more : (l m : List (List (ℕ × ℕ))) → Packable (l ++ [] ∷ m) → OneMore (timetable_record (l ++ m)) (timetable_record (l ++ [] ∷ m))
one_more l m p =
    let less : Packable (l ++ m) = record {
      few_steps = omega (arith, p.few_steps, length-append l ([] ∷ m), length-append l m);
      steps_fit = steps_less l m p.steps_fit;
    } in
    record {
      before = l;
      behind = m;
      fewer_packed = record_well_packed (l ++ m) less;
      more_packed = record_well_packed (l ++ [] ∷ m) p;
      fewer_steps = steps_of_record (l ++ m) less;
      more_steps = steps_of_record (l ++ [] ∷ m) p;
    }
