-- The plan checker's layers: the order reader, the record reader, and the judgement on tables.
--
--     judgement o p     32 to 36 or acceptance, on arrangements
--     plan_is           the table of document 01 as these layers
--     RecordGave, record_gave  what an accepted record tells
--     plan_room_lem         the moves have room in the plan's tail
--     judgement_is      the judgement on tables is document 01's
--     answer_is         the checker's answer where both readers accept
-- Assumes nothing.
use Prim.Native.Nat.{ℕ, ◌-◌, ◌*◌, ◌^◌, ◌≤◌, ◌<◌}
use mathlib.Core.Path.{◌≡◌, refl, sym, ◌∙◌}
use mathlib.Core.Bool.{Bool, true, false}
use mathlib.Core.List.{List, [], ◌∷◌}
use native.Mathlib.Omega.{arith}
use lib.ListN.{length, take, drop}
use Rattle.answers.specs.Answer.{Answer, accepted, refuse, pass_up}
use Rattle.answers.proofs.AnswerLaws.{refuse_not, refuse_else}
use Rattle.field.specs.Bits.{field}
use Rattle.field.specs.Listed.{move_size, listed_moves, ListedFit}
use Rattle.field.proofs.ListedLaws.{listed-drop, listed_fit}
use Rattle.field.proofs.BitLaws.{field_lt}
use Rattle.field.proofs.UnitLaws.{Fitting, fitting, tail-units}
use Rattle.field.proofs.RecordLaws.{rest_is}
use Rattle.order.specs.Order.{floor_of, starts_of, goals_of, order_answer}
use Rattle.order.proofs.TailLaws.{tail_edges, tail-starts, tail-goals}
use Rattle.motion.specs.Replay.{replay_listed}
use Rattle.motion.specs.Judgement.{judged}
use Rattle.tables.specs.Accepted.{OrderGave}
use Rattle.tables.proofs.Layers.{all_accepted}
use Rattle.tables.proofs.MovesOnLaws.{matrix_of, table_of, moves-judged}
use Rattle.plan.specs.Plan.{named, move_count, plan_listed, plan_units, wrong_plan_length, plan_padding_set, plan_answer}
use Rattle.plan.specs.Readers.{record_answer}
use Rattle.plan_check.specs.Judging.{table_answer}

-- 32 to 36 and acceptance
abbrev pub judgement : List ℕ → List ℕ → Answer
judgement o p = judged 33 (goals_of o) (move_count p ∷ []) (replay_listed (floor_of o) (starts_of o) (plan_listed p))

pub plan_is : (o p : List ℕ) → plan_answer o p ≡ pass_up (order_answer o) (pass_up (record_answer p) (judgement o p))
unfolding plan_answer record_answer
plan_is o p = chain (wrong_plan_length p) (plan_padding_set p)
  where
    chain : (a b : Bool)
        → pass_up (order_answer o) (refuse a 30 0 (refuse b 31 0 (judgement o p)))
        ≡ pass_up (order_answer o) (pass_up (refuse a 30 0 (refuse b 31 0 (accepted (move_count p ∷ [])))) (judgement o p))
    chain true b = refl
    chain false true = refl
    chain false false = refl

pub record RecordGave (p : List ℕ) (k : ℕ) : Type 0 where
  pub accepted_is : accepted (k ∷ []) ≡ record_answer p
  pub length_right : wrong_plan_length p ≡ false
  pub padding_clear : plan_padding_set p ≡ false
  pub fit : Fitting p (plan_units p)
  pub count_is : k ≡ move_count p
  pub count_below : k < 2 ^ 22

pub record_gave : (p : List ℕ) (k : ℕ) → accepted (k ∷ []) ≡ record_answer p → RecordGave p k
unfolding record_answer move_count wrong_plan_length
record_gave p k a =
    let a₁ = refuse (plan_padding_set p) 31 0 (accepted (field p 0 22 ∷ [])) in
    let e₁ : a₁ ≡ accepted (k ∷ []) = refuse_else (wrong_plan_length p) 30 0 a₁ (k ∷ []) (sym a) in
    let e₂ : accepted (field p 0 22 ∷ []) ≡ accepted (k ∷ []) =
    refuse_else (plan_padding_set p) 31 0 (accepted (field p 0 22 ∷ [])) (k ∷ []) e₁ in
    let l : wrong_plan_length p ≡ false = refuse_not (wrong_plan_length p) 30 0 a₁ (k ∷ []) (sym a) in
    let count : k ≡ field p 0 22 = cc e₂ in
    record {
      accepted_is = a;
      length_right = l;
      padding_clear = refuse_not (plan_padding_set p) 31 0 (accepted (field p 0 22 ∷ [])) (k ∷ []) e₁;
      fit = fitting p (plan_units p) l;
      count_is = count;
      count_below = omega (arith, field_lt p 0 22);
    }

module _ {p : List ℕ} {k : ℕ} (record_is : RecordGave p k) where
  pub plan_room_lem : {e : Bool} → e ≡ named p → 6 * (move_size e * k) ≤ 8 * length (take (length p - 3) (drop 3 p))
  unfolding plan_units
  plan_room_lem is = rw (is, record_is.count_is) (tail-units p (plan_units p) record_is.fit)

  moves_are : (e : Bool) → e ≡ named p → listed_moves e (take (length p - 3) (drop 3 p)) 0 k ≡ plan_listed p
  unfolding plan_listed
  moves_are e is = rw (rest_is 3 p, ← listed-drop e p 3 0 k, record_is.count_is, is) refl

-- the order and the plan behind their heads
abbrev rest : List ℕ → List ℕ
rest l = take (length l - 3) (drop 3 l)

module _ {o : List ℕ} {n e m : ℕ} (gave : OrderGave o n e m) {p : List ℕ} {k : ℕ} (record_is : RecordGave p k) where
  module _ {named_is : Bool} (edition : named_is ≡ named p) where
    pub judgement_is : table_answer (rest o) e m (rest p) named_is k ≡ judgement o p
    unfolding table_answer
    judgement_is =
        let w = gave.placed_well in
        let edges = tail_edges o e m gave.edges_are gave.racks_are in
        let starts = tail-starts o e m gave.edges_are gave.racks_are in
        let goals = tail-goals o e m gave.edges_are gave.racks_are in
        let fits : ListedFit (named p) (plan_listed p) = unfold plan_listed in listed_fit (named p) p 24 (move_count p) in
        rw (edges, starts, goals, moves_are record_is named_is edition, record_is.count_is)
        (unfold matrix_of table_of in
        moves-judged (floor_of o) w.few_positions w.edges_below w.edges_right (starts_of o) w.starts_sound
        fits 33 (goals_of o) (move_count p ∷ []) (w.goals_length ∙ sym w.starts_length))

    pub answer_is : table_answer (rest o) e m (rest p) named_is k ≡ plan_answer o p
    answer_is = judgement_is ∙ all_accepted o (record_answer p) (judgement o p) (plan_is o p) gave record_is.accepted_is
