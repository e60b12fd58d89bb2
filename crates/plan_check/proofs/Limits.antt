-- Plans where nothing can move, from document 01, "The floor": "here a full floor may be checked too, and no rack on it can move. No steps
-- at all is a solution when each start is its goal."
--
--     LeadingPlan o p v, accepted_leads    a plan is accepted exactly if 10 to 14, 30 and 31 pass, and its moves, each legal at its turn,
--                                          lead from the starts to the goals and name the racks that replay tells, if any
--     EmptyPlan o p v    p lists no move, v counts none, and each start is its goal
--     full_floor_lem         on a full floor a plan is accepted exactly if it is empty and each start is its goal
--     no_racks           so it is where there is no rack
--     no_moves, nothing, nothing-named    and of a plan without moves on any floor: 00 00 00, and 00 00 01 in the other edition, is
--                                          accepted exactly if each start is its goal
-- Assumes nothing.
use Prim.Native.Nat.{ℕ}
use mathlib.Core.Bool.{false}
use mathlib.Core.List.{List, [], ◌∷◌}
use mathlib.Core.Logic.{◌↔◌}
use mathlib.Core.Path.{◌≡◌, refl, sym, ap, ◌∙◌}
use native.Mathlib.Omega.{arith}
use lib.ListN.{length}
use Rattle.answers.specs.Answer.{accepted}
use Rattle.field.specs.Bits.{bits, number, bits_of, field, pad}
use Rattle.field.specs.Units.{record_length, misfits, pad_set}
use Rattle.field.specs.Listed.{move_size, moves_of}
use Rattle.order.specs.Order.{rack_count, floor_of, starts_of, goals_of, WellFormed}
use Rattle.motion.specs.Arrangement.{Arrangement}
use Rattle.motion.specs.Replay.{listed}
use Rattle.motion.proofs.Lawful.{Leads, still, lawful_none, replay_moves_ended}
use Rattle.motion.proofs.PebbleLaws.{pebble_replay}
use Rattle.motion.proofs.SoundLaws.{full_leads, no_racks_leads}
use Rattle.tables.proofs.AcceptedLaws.{well_placed}
use Rattle.plan.specs.Plan.{named, move_count, plan_listed, plan_moves, plan_units, wrong_plan_length, plan_padding_set, plan_answer}
use Rattle.plan.proofs.PlanRecord.{listed-counted, moves-counted}
use Rattle.plan_check.proofs.Replayed.{plan_replayed}

module _ (o p v : List ℕ) where
  pub record LeadingPlan : Type 0 where
    pub order_right : WellFormed o
    pub length_right : wrong_plan_length p ≡ false
    pub padding_clear : plan_padding_set p ≡ false
    pub counted : move_count p ∷ [] ≡ v
    pub leads : Leads (floor_of o) (starts_of o) (plan_moves p) (goals_of o)
    pub racks_told : plan_listed p ≡ listed (named p) (starts_of o) (plan_moves p)

  pub record EmptyPlan : Type 0 where
    pub length_right : wrong_plan_length p ≡ false
    pub padding_clear : plan_padding_set p ≡ false
    pub empty : move_count p ≡ 0
    pub none_counted : 0 ∷ [] ≡ v
    pub settled : starts_of o ≡ goals_of o

  pub accepted_leads : (plan_answer o p ≡ accepted v) ↔ LeadingPlan
  accepted_leads = (
    (λ a.
        let t = ((plan_replayed o).0 p v).0 a in
        let solved =
        (pebble_replay (floor_of o) (rack_count o) (starts_of o) (goals_of o) (well_placed o t.order_right).task).0 (plan_moves p) in
        record {
          order_right = t.order_right;
          length_right = t.length_right;
          padding_clear = t.padding_clear;
          counted = t.counted;
          leads = (replay_moves_ended (floor_of o) (starts_of o) (plan_moves p) (goals_of o)).0 (solved.1 (rw moves-counted t.solution));
          racks_told = t.racks_told;
        }),
    (λ t.
        let solved =
        (pebble_replay (floor_of o) (rack_count o) (starts_of o) (goals_of o) (well_placed o t.order_right).task).0 (plan_moves p) in
        ((plan_replayed o).0 p v).1
        (record {
          order_right = t.order_right;
          length_right = t.length_right;
          padding_clear = t.padding_clear;
          counted = t.counted;
          solution = rw moves-counted at
              (solved.0 ((replay_moves_ended (floor_of o) (starts_of o) (plan_moves p) (goals_of o)).1 t.leads));
          racks_told = t.racks_told;
        })),
  )

  listed_none : move_count p ≡ 0 → plan_listed p ≡ []
  listed_none e = by (plan_listed p) (listed-counted p ∙ e)
    where
      by : (l : List (ℕ × ℕ × ℕ)) → length l ≡ 0 → l ≡ []
      by [] h = refl
      by (w ∷ l) h = absurd (omega arith)

  moves_none : move_count p ≡ 0 → plan_moves p ≡ []
  unfolding plan_moves moves_of
  moves_none e = rw (listed_none e) refl

  -- where only the empty list can lead from the starts to the goals
  still_plans : WellFormed o → (Leads (floor_of o) (starts_of o) (plan_moves p) (goals_of o) → plan_moves p ≡ [])
      → (plan_answer o p ≡ accepted v) ↔ EmptyPlan
  still_plans w stuck = (
    (λ a.
        let t = accepted_leads.0 a in
        let none : plan_moves p ≡ [] = stuck t.leads in
        let zero-count : move_count p ≡ 0 = sym (moves-counted p) ∙ ap length none in
        record {
          length_right = t.length_right;
          padding_clear = t.padding_clear;
          empty = zero-count;
          none_counted = ap (λ (k : ℕ). k ∷ []) (sym zero-count) ∙ t.counted;
          settled = lawful_none (rw none at t.leads);
        }),
    (λ t.
        let here : Leads (floor_of o) (starts_of o) [] (goals_of o) = rw (← t.settled) still in
        accepted_leads.1
        (record {
          order_right = w;
          length_right = t.length_right;
          padding_clear = t.padding_clear;
          counted = ap (λ (k : ℕ). k ∷ []) t.empty ∙ t.none_counted;
          leads = rw (moves_none t.empty) here;
          racks_told = rw (listed_none t.empty, moves_none t.empty) (unfold listed in refl);
        })),
  )

  pub full_floor_lem : WellFormed o → rack_count o ≡ (floor_of o).positions → (plan_answer o p ≡ accepted v) ↔ EmptyPlan
  full_floor_lem w full =
      let g = well_placed o w in
      still_plans w (λ l. ((full_leads (floor_of o) (starts_of o) g.starts_sound (g.starts_length ∙ full) (plan_moves p)
      (goals_of o)).0 l).0)

  pub no_racks : WellFormed o → rack_count o ≡ 0 → (plan_answer o p ≡ accepted v) ↔ EmptyPlan
  no_racks w none =
      still_plans w
      (λ l.
      let empty : starts_of o ≡ [] = by (starts_of o) ((well_placed o w).starts_length ∙ none) in
      ((no_racks_leads (floor_of o) (plan_moves p) (goals_of o)).0 (rw empty at l)).0)
    where
      by : (A : Arrangement) → length A ≡ 0 → A ≡ []
      by [] h = refl
      by (q ∷ A) h = absurd (omega arith)

  pub no_moves : WellFormed o → move_count p ≡ 0 → (plan_answer o p ≡ accepted v) ↔ EmptyPlan
  no_moves w empty = still_plans w (λ l. moves_none empty)

-- the plan without moves, in both editions
nothing-empty : (o : List ℕ) → starts_of o ≡ goals_of o → EmptyPlan o (0x00 ∷ 0x00 ∷ 0x00 ∷ []) (0 ∷ [])
unfolding wrong_plan_length plan_padding_set plan_units move_size named move_count misfits record_length pad_set pad
    field number bits_of bits
nothing-empty o e = record { length_right = refl; padding_clear = refl; empty = refl; none_counted = refl; settled = e }

named-empty : (o : List ℕ) → starts_of o ≡ goals_of o → EmptyPlan o (0x00 ∷ 0x00 ∷ 0x01 ∷ []) (0 ∷ [])
unfolding wrong_plan_length plan_padding_set plan_units move_size named move_count misfits record_length pad_set pad
    field number bits_of bits
named-empty o e = record { length_right = refl; padding_clear = refl; empty = refl; none_counted = refl; settled = e }

-- either of them, by its third byte
nothing-by : (x : ℕ) → move_count (0x00 ∷ 0x00 ∷ x ∷ []) ≡ 0
    → ((o : List ℕ) → starts_of o ≡ goals_of o → EmptyPlan o (0x00 ∷ 0x00 ∷ x ∷ []) (0 ∷ [])) → (o : List ℕ) → WellFormed o
    → (plan_answer o (0x00 ∷ 0x00 ∷ x ∷ []) ≡ accepted (0 ∷ [])) ↔ (starts_of o ≡ goals_of o)
nothing-by x counted empty o w =
    let by = no_moves o (0x00 ∷ 0x00 ∷ x ∷ []) (0 ∷ []) w counted in
    (λ a. (by.0 a).settled, λ e. by.1 (empty o e))

pub nothing : (o : List ℕ) → WellFormed o → (plan_answer o (0x00 ∷ 0x00 ∷ 0x00 ∷ []) ≡ accepted (0 ∷ [])) ↔ (starts_of o ≡ goals_of o)
nothing = nothing-by 0x00 (unfold move_count field number bits_of bits in refl) nothing-empty

pub nothing-named : (o : List ℕ) → WellFormed o
    → (plan_answer o (0x00 ∷ 0x00 ∷ 0x01 ∷ []) ≡ accepted (0 ∷ [])) ↔ (starts_of o ≡ goals_of o)
nothing-named = nothing-by 0x01 (unfold move_count field number bits_of bits in refl) named-empty
