-- What an answer says of an order with one vacancy.
--
--     Passed o x        what an order passed that was answered 1 or 0
--     passed            it did
--     judged            the answer by any two colours
--     hopeless          where it is 1, there is no way from the starts to the goals
--     planned           an order that has a plan is never called impossible
-- Assumes nothing.
use Prim.Native.Nat.{ℕ, ◌+◌, ◌-◌}
use mathlib.Core.Path.{◌≡◌, refl}
use mathlib.Core.Bool.{not}
use mathlib.Core.List.{List, [], ◌∷◌}
use mathlib.Core.Logic.{◌↔◌, ◌⊎◌, inl, inr}
use native.Mathlib.Omega.{arith}
use borrow.Author.Tests.{eqb-true, not-false}
use lib.ListN.{length}
use lib.Dec.{eqb}
use Rattle.answers.specs.Answer.{accepted, refuse, holds}
use Rattle.answers.proofs.AnswerLaws.{refuse_not, refuse_else, pass_up-low, pass_up-high, holds-true}
use Rattle.order.specs.Order.{position_count, rack_count, floor_of, starts_of, goals_of, order_answer, WellFormed}
use Rattle.order.proofs.OrderLaws.{well_formed}
use Rattle.motion.specs.Replay.{ended, replay_moves}
use Rattle.motion.proofs.Lawful.{replay_moves_ended}
use Rattle.motion.proofs.PebbleLaws.{solution_replay}
use Rattle.tables.specs.Accepted.{WellPlaced}
use Rattle.tables.proofs.AcceptedLaws.{well_placed}
use Rattle.graph.specs.Connected.{BiConnected}
use Rattle.plan_check.proofs.Limits.{accepted_leads}
use Rattle.floor.specs.FloorAnswer.{Joins, bi_connected?}
use Rattle.parity.specs.Impossible.{Impossible}
use Rattle.parity.specs.OneVacancy.{impossible?, judgement, vacancy_answer}
use Rattle.parity.specs.Theorems.{NoWay, Judged}
use Rattle.parity.proofs.VacancyLaws.{vacancy_below}
use Rattle.parity.proofs.ColourLaws.{impossible_by}
use Rattle.parity.proofs.MoveParity.{no_moves}

pub record Passed (o : List ℕ) (x : ℕ) : Type 0 where
  pub right : WellFormed o
  pub one : position_count o - rack_count o ≡ 1
  pub bi_connected : BiConnected (floor_of o).positions (Joins (floor_of o))
  pub is : x ≡ judgement (impossible? (floor_of o) (starts_of o) (goals_of o))

pub passed : (o : List ℕ) (x : ℕ) → vacancy_answer o ≡ accepted (x ∷ []) → Passed o x
unfolding vacancy_answer
passed o x e =
    let v = x ∷ [] in
    let a₂ = accepted (judgement (impossible? (floor_of o) (starts_of o) (goals_of o)) ∷ []) in
    let a₁ = refuse (not (holds (bi_connected? (floor_of o)))) 21 0 a₂ in
    let a₀ = refuse (not (eqb (position_count o - rack_count o) 1)) 29 0 a₁ in
    let low = pass_up-low (order_answer o) a₀ v e in
    let e₀ : a₀ ≡ accepted v = pass_up-high (order_answer o) a₀ v e in
    let e₁ = refuse_else (not (eqb (position_count o - rack_count o) 1)) 29 0 a₁ v e₀ in
    let e₂ = refuse_else (not (holds (bi_connected? (floor_of o)))) 21 0 a₂ v e₁ in
    let one = not-false (eqb (position_count o - rack_count o) 1) (refuse_not
    (not (eqb (position_count o - rack_count o) 1)) 29 0 a₁ v e₀) in
    let whole = not-false (holds (bi_connected? (floor_of o))) (refuse_not (not (holds (bi_connected? (floor_of o)))) 21 0 a₂ v e₁) in
    record {
      right = well_formed o low.0 low.1;
      one = eqb-true (position_count o - rack_count o) 1 one;
      bi_connected = holds-true (bi_connected? (floor_of o)) whole;
      is = cc e₂;
    }

module _ (o : List ℕ) (x : ℕ) (e : vacancy_answer o ≡ accepted (x ∷ [])) where
  abbrev n : ℕ
  n = (floor_of o).positions

  p : Passed o x
  p = passed o x e

  placed : WellPlaced o
  placed = well_placed o p.right

  positions : n ≡ position_count o
  unfolding floor_of
  positions = refl

  starts_one : length (starts_of o) + 1 ≡ n
  starts_one = let a = placed.starts_length in let b = p.one in let c = positions in omega arith

  goals_one : length (goals_of o) + 1 ≡ n
  goals_one = let a = placed.goals_length in let b = p.one in let c = positions in omega arith

  abbrev Hopeless : Type 0
  Hopeless = Impossible (floor_of o) (starts_of o) (goals_of o)

  said : (d : Dec Hopeless) → x ≡ judgement d → (x ≡ 1) ↔ Hopeless
  unfolding judgement
  said (yes i) s = (λ f. i, λ f. s)
  said (no i) s = (λ f. absurd (clash f s), λ f. absurd (i f))
    where
      clash : x ≡ 1 → x ≡ 0 → ⊥
      clash a b = omega arith

  one_is : (x ≡ 1) ↔ Hopeless
  one_is = said (impossible? (floor_of o) (starts_of o) (goals_of o)) p.is

  pub judged : Judged o x
  judged =
      record {
        either = which (impossible? (floor_of o) (starts_of o) (goals_of o)) p.is;
        by_any = λ c two.
            let t = impossible_by (floor_of o) (starts_of o) (goals_of o) p.bi_connected.connected
            (vacancy_below (starts_of o) n placed.starts_sound starts_one)
            (vacancy_below (goals_of o) n placed.goals_sound goals_one) c (rw (← positions) at two) in
            (λ f. rw (← positions) (t.0 (one_is.0 f)), λ h. one_is.1 (t.1 (rw positions h)));
        with_two = λ f. let i = one_is.0 f in record { colour = i.colour; joins_both = rw (← positions) i.joins_both };
      }
    where
      which : (d : Dec Hopeless) → x ≡ judgement d → (x ≡ 0) ⊎ (x ≡ 1)
      which (yes i) s = inr (unfold judgement in s)
      which (no i) s = inl (unfold judgement in s)

  pub no_list : x ≡ 1 → (ms : List (ℕ × ℕ)) → replay_moves (floor_of o) (starts_of o) ms ≡ ended (goals_of o) → ⊥
  no_list f ms r =
      no_moves (floor_of o) (starts_of o) (goals_of o) placed.starts_sound starts_one (one_is.0 f) ms
      ((replay_moves_ended (floor_of o) (starts_of o) ms (goals_of o)).0 r)

pub hopeless : (o : List ℕ) → vacancy_answer o ≡ accepted (1 ∷ []) → NoWay o
hopeless o e =
    let none = no_list o 1 e refl in
    record {
      no_moves = none;
      no_solution = λ ξ S s.
          let w = solution_replay (floor_of o) (rack_count o) (starts_of o) (goals_of o) ξ S s in
          none w.moves w.accepted;
      no_plan = λ q v a.
          let l = (accepted_leads o q v).0 a in
          none _ ((replay_moves_ended (floor_of o) (starts_of o) _ (goals_of o)).1 l.leads);
    }

pub planned : (o : List ℕ) (ms : List (ℕ × ℕ)) → replay_moves (floor_of o) (starts_of o) ms ≡ ended (goals_of o)
    → vacancy_answer o ≡ accepted (1 ∷ []) → ⊥
planned o ms r e = (hopeless o e).no_moves ms r
