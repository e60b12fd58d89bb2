-- Accepted plans and the solutions of Surynek's Definition 1, by the arrangements that a replay passes through.
--
--     arrangements o p     the arrangements that the replay of the plan p for the order o passes through
--     ReplayedPlan o p v   what acceptance of the plan p for the order o with the counts v means: 10 to 14, 30 and 31 pass both, v is the
--                          count of moves, the arrangements of the replay are a solution with as many moves, and the racks that the moves
--                          name are those that replay tells
--     OnlyRecord e o ξ S   exactly one byte string of the edition e that 30 and 31 pass has the arrangements S as its replay and names
--                          racks as replay tells them, and it is accepted with ξ
--     listed_fits          what a byte string lists fits its fields
--     the_moves, accepted_record, only_record    the moves of a solution; of fewer than 2^22 of them the record in either edition is
--                                                accepted, and is the only one
--     plan_replayed        a plan is accepted exactly if it describes a solution and names the racks that move, and every solution with
--                          fewer than 2^22 moves has exactly one record in each edition, which is accepted
-- Assumes nothing.
use Prim.Native.Nat.{ℕ, ◌^◌, ◌≤◌, ◌<◌}
use mathlib.Core.List.{List, [], ◌∷◌}
use mathlib.Core.Logic.{◌↔◌}
use mathlib.Core.Bool.{Bool, false}
use mathlib.Core.Path.{◌≡◌, sym, ap, ap₂, ◌∙◌}
use lib.ListN.{length}
use Rattle.answers.specs.Answer.{Answer, accepted, refuse}
use Rattle.answers.proofs.AnswerLaws.{refuse_not, refuse_else, pass_up-low, pass_up-high, pass_up_accepted}
use Rattle.field.specs.Bytes.{Bytes}
use Rattle.field.specs.Listed.{moves_of, ListedFit}
use Rattle.field.proofs.ListedLaws.{listed_fit}
use Rattle.order.specs.Order.{rack_count, floor_of, starts_of, goals_of, counts, order_answer, WellFormed}
use Rattle.order.proofs.OrderLaws.{well_formed}
use Rattle.motion.specs.Arrangement.{Arrangement}
use Rattle.motion.specs.Move.{after_move}
use Rattle.motion.specs.Replay.{ended, replay_moves, replay_listed, listed, trace}
use Rattle.motion.proofs.Lawful.{replay_moves_ended}
use Rattle.motion.proofs.SoundLaws.{leads_length}
use Rattle.motion.specs.Judgement.{judged}
use Rattle.motion.proofs.JudgementLaws.{judged_accepted}
use Rattle.motion.proofs.PebbleLaws.{OnlyMoves, pebble_replay}
use Rattle.tables.proofs.AcceptedLaws.{well_placed}
use Rattle.plan.specs.Plan.{plan_bytes, plan_record, named, move_count, plan_listed, plan_moves, wrong_plan_length, plan_padding_set}
use Rattle.plan.specs.Plan.{plan_answer}
use Rattle.plan.proofs.Listing.{moves-listed, length_listing, listing_fits, ended_listing}
use Rattle.plan.proofs.PlanRecord.{moves-counted, Written, written, record_read}
use Rattle.plan_check.specs.Solutions.{SolutionOf}

-- the starts and the last included
abbrev pub arrangements : List ℕ → List ℕ → List Arrangement
arrangements o p = trace after_move (starts_of o) (plan_moves p)

pub record ReplayedPlan (o p v : List ℕ) : Type 0 where
  pub order_right : WellFormed o
  pub length_right : wrong_plan_length p ≡ false
  pub padding_clear : plan_padding_set p ≡ false
  pub counted : move_count p ∷ [] ≡ v
  pub solution : SolutionOf o (move_count p) (arrangements o p)
  pub racks_told : plan_listed p ≡ listed (named p) (starts_of o) (plan_moves p)

pub record OnlyRecord (e : Bool) (o : List ℕ) (ξ : ℕ) (S : List Arrangement) : Type 0 where
  pub plan : List ℕ
  pub are_bytes : Bytes plan
  pub edition_is : named plan ≡ e
  pub length_right : wrong_plan_length plan ≡ false
  pub padding_clear : plan_padding_set plan ≡ false
  pub described : arrangements o plan ≡ S
  pub racks_told : plan_listed plan ≡ listed e (starts_of o) (plan_moves plan)
  pub is_accepted : plan_answer o plan ≡ accepted (ξ ∷ [])
  pub only : (p : List ℕ) → Bytes p → named p ≡ e → wrong_plan_length p ≡ false → plan_padding_set p ≡ false → arrangements o p ≡ S
      → plan_listed p ≡ listed e (starts_of o) (plan_moves p) → p ≡ plan

pub listed_fits : (p : List ℕ) → ListedFit (named p) (plan_listed p)
unfolding plan_listed
listed_fits p = listed_fit (named p) p 24 (move_count p)

module _ (o p v : List ℕ) where
  judgement : Answer
  judgement = judged 33 (goals_of o) (move_count p ∷ []) (replay_listed (floor_of o) (starts_of o) (plan_listed p))

  -- what 32 to 36 leave, for an order that 10 to 14 pass
  judged_solution : WellFormed o
      → (judgement ≡ accepted v)
      ↔ ((move_count p ∷ [] ≡ v) × SolutionOf o (move_count p) (arrangements o p)
      × (plan_listed p ≡ listed (named p) (starts_of o) (plan_moves p)))
  unfolding judgement plan_moves
  judged_solution w =
      let g = well_placed o w in
      let F = floor_of o in
      let x = replay_listed F (starts_of o) (plan_listed p) in
      let ends : (A : Arrangement)
      → (x ≡ ended A) ↔ ((replay_moves F (starts_of o) (moves_of (plan_listed p)) ≡ ended A)
      × (plan_listed p ≡ listed (named p) (starts_of o) (moves_of (plan_listed p)))) =
      λ A. ended_listing (named p) F (starts_of o) A (listed_fits p) in
      let same : (A : Arrangement) → x ≡ ended A → length A ≡ length (goals_of o) =
      λ A e. leads_length F ((replay_moves_ended F (starts_of o) (plan_moves p) A).0 ((ends A).0 e).0) ∙ g.starts_length
      ∙ sym g.goals_length in
      let by = judged_accepted 33 (goals_of o) (move_count p ∷ []) v x same in
      let solved = (pebble_replay F (rack_count o) (starts_of o) (goals_of o) g.task).0 (plan_moves p) in (
        λ a. let t = (ends (goals_of o)).0 (by.0 a).0 in ((by.0 a).1, rw moves-counted at (solved.0 t.0), t.1),
        λ t. by.1 ((ends (goals_of o)).1 (solved.1 (rw moves-counted t.1), t.2), t.0),
      )

  accepted_to : plan_answer o p ≡ accepted v → ReplayedPlan o p v
  unfolding plan_answer judgement
  accepted_to e =
      let a₂ = judged 33 (goals_of o) (move_count p ∷ []) (replay_listed (floor_of o) (starts_of o) (plan_listed p)) in
      let a₁ = refuse (plan_padding_set p) 31 0 a₂ in
      let a₀ = refuse (wrong_plan_length p) 30 0 a₁ in
      let low = pass_up-low (order_answer o) a₀ v e in
      let w : WellFormed o = well_formed o low.0 low.1 in
      let e₀ : a₀ ≡ accepted v = pass_up-high (order_answer o) a₀ v e in
      let e₁ : a₁ ≡ accepted v = refuse_else (wrong_plan_length p) 30 0 a₁ v e₀ in
      let e₂ : a₂ ≡ accepted v = refuse_else (plan_padding_set p) 31 0 a₂ v e₁ in
      let t = (judged_solution w).0 e₂ in
      record {
        order_right = w;
        length_right = refuse_not (wrong_plan_length p) 30 0 a₁ v e₀;
        padding_clear = refuse_not (plan_padding_set p) 31 0 a₂ v e₁;
        counted = t.0;
        solution = t.1;
        racks_told = t.2;
      }

  accepted_from : ReplayedPlan o p v → plan_answer o p ≡ accepted v
  unfolding plan_answer judgement
  accepted_from t =
      pass_up_accepted (order_answer o) _ (counts o) t.order_right
      ∙ rw (t.length_right, t.padding_clear) ((judged_solution t.order_right).1 (t.counted, t.solution, t.racks_told))

module _ (e : Bool) (o : List ℕ) (w : WellFormed o) (ξ : ℕ) (S : List Arrangement) (few : ξ < 2 ^ 22) (s : SolutionOf o ξ S) where
  pub the_moves : OnlyMoves (floor_of o) (starts_of o) (goals_of o) ξ S
  the_moves = (pebble_replay (floor_of o) (rack_count o) (starts_of o) (goals_of o) (well_placed o w).task).1 ξ S s

  the_list : List (ℕ × ℕ × ℕ)
  the_list = listed e (starts_of o) the_moves.moves

  the_plan : List ℕ
  the_plan = plan_record e (starts_of o) the_moves.moves

  the_record : Written e the_list
  unfolding the_list
  the_record =
      let g = well_placed o w in
      let n : length (listed e (starts_of o) the_moves.moves) ≡ ξ =
      length_listing e (starts_of o) the_moves.moves ∙ the_moves.steps in
      let racks : length (starts_of o) ≤ 64 = rw g.starts_length g.few_racks in
      written e (listed e (starts_of o) the_moves.moves) (rw n few)
      (listing_fits e (floor_of o) g.few_positions racks
      ((replay_moves_ended (floor_of o) (starts_of o) the_moves.moves (goals_of o)).0 the_moves.accepted))

  the_listed : plan_listed the_plan ≡ listed e (starts_of o) the_moves.moves
  unfolding the_plan plan_record the_list
  the_listed = the_record.listed_are

  the_edition : named the_plan ≡ e
  unfolding the_plan plan_record the_list
  the_edition = the_record.edition_is

  the_moves_are : plan_moves the_plan ≡ the_moves.moves
  unfolding plan_moves
  the_moves_are = ap moves_of the_listed ∙ moves-listed e (starts_of o) the_moves.moves

  the_count : move_count the_plan ≡ ξ
  the_count = sym (moves-counted the_plan) ∙ ap length the_moves_are ∙ the_moves.steps

  the_trace : arrangements o the_plan ≡ S
  the_trace = ap (trace after_move (starts_of o)) the_moves_are ∙ the_moves.traced

  the_racks : plan_listed the_plan ≡ listed e (starts_of o) (plan_moves the_plan)
  the_racks = the_listed ∙ ap (listed e (starts_of o)) (sym the_moves_are)

  the_length : wrong_plan_length the_plan ≡ false
  unfolding the_plan plan_record the_list
  the_length = the_record.length_right

  the_padding : plan_padding_set the_plan ≡ false
  unfolding the_plan plan_record the_list
  the_padding = the_record.padding_clear

  pub accepted_record : plan_answer o (plan_record e (starts_of o) the_moves.moves) ≡ accepted (ξ ∷ [])
  unfolding the_plan
  accepted_record =
      accepted_from o (plan_record e (starts_of o) the_moves.moves) (ξ ∷ [])
      (record {
        order_right = w;
        length_right = the_length;
        padding_clear = the_padding;
        counted = ap (λ (k : ℕ). k ∷ []) the_count;
        solution = rw (the_count, the_trace) s;
        racks_told = rw the_edition the_racks;
      })

  pub only_record : OnlyRecord e o ξ S
  only_record =
      record {
        plan = the_plan;
        are_bytes = unfold the_plan plan_record the_list in the_record.are_bytes;
        edition_is = the_edition;
        length_right = the_length;
        padding_clear = the_padding;
        described = the_trace;
        racks_told = the_racks;
        is_accepted = unfold the_plan in accepted_record;
        only = λ p b i l c d t. sym (record_read p b l c)
            ∙ (unfold the_plan plan_record in
            ap₂ plan_bytes i (t ∙ ap (listed e (starts_of o)) (the_moves.only (plan_moves p) d)));
      }

-- For every order o: (a) a byte string p is accepted as its plan, with the counts v, exactly if o is well formed, 30 and 31 pass p, v is
-- the count of p's moves, the arrangements of p's replay are a solution with as many moves, and where p's moves name racks, each names the
-- one that it moves; (b) where o is well formed, every solution with fewer than 2^22 moves is described in each edition by exactly one such
-- byte string, and this one is accepted with as many moves.
pub plan_replayed : (o : List ℕ)
    → ((p v : List ℕ) → (plan_answer o p ≡ accepted v) ↔ ReplayedPlan o p v)
    × (WellFormed o → (e : Bool) (ξ : ℕ) (S : List Arrangement) → ξ < 2 ^ 22 → SolutionOf o ξ S → OnlyRecord e o ξ S)
plan_replayed o = (λ p v. (accepted_to o p v, accepted_from o p v), λ w e. only_record e o w)
