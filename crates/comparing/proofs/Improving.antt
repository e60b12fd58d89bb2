-- Whether a plan that was found improves on another, from what the code reads of the two records.
--
--     cubes                what an order's count of positions is multiplied to fits a word
--     steps_told           a count of steps tells that the plan checker accepts the plan, and is the making rule's
--     not_counted          a plan that the plan checker accepts is not refused a count
--     no_plan, edition_one, too_long    no improvement: no plan, one of edition one, or one of too many moves
--     decided              else the steps decide, and then the moves
-- Assumes nothing.
use Prim.Native.Nat.{ℕ, ◌*◌, ◌≤◌, ◌<◌}
use mathlib.Core.Path.{◌≡◌, refl, sym, ap, ◌∙◌}
use mathlib.Core.Bool.{Bool, true, false}
use mathlib.Core.Logic.{◌↔◌}
use mathlib.Core.List.{List, [], ◌∷◌}
use native.Mathlib.Nat.{mul-le-mul_right, le_of_lt}
use native.Mathlib.Omega.{arith}
use lib.ListN.{length}
use Rattle.std.specs.Prelude.{Some}
use Rattle.std.proofs.Common.{Ordering, Less, Equal, Greater}
use Rattle.std.specs.Ordering.{nat_cmp, partial_ordering_then, partial_lt, is_some_and, is_lt}
use Rattle.std.proofs.lemmas.Cmp.{ranked}
use Rattle.answers.specs.Answer.{accepted, refused}
use Rattle.answers.proofs.AnswerLaws.{pass_up-low, pass_up-high, pass_up_accepted}
use Rattle.field.proofs.BitLaws.{field_lt}
use Rattle.order.specs.Order.{position_count}
use Rattle.plan.specs.Plan.{named, move_count, plan_answer}
use Rattle.plan_check.proofs.Accepted.{PlanGave, plan_gave, head_there, order_there}
use Rattle.scheduling.specs.Maker.{made_count, steps_answer}
use Rattle.comparing.specs.Choosing.{Better, fewer_steps, fewer_moves, Improves}

pub positions_below : (o : List ℕ) → position_count o < 128
unfolding position_count
positions_below o = field_lt o 0 7

pub cubes : (n : ℕ) → n < 128 → (n * n ≤ 16384) × (n * (n * n) ≤ 2097152)
cubes n small =
    let square : n * n ≤ 128 * n = mul-le-mul_right n (le_of_lt small) in
    let cube : n * (n * n) ≤ 128 * (n * n) = mul-le-mul_right (n * n) (le_of_lt small) in
    (omega arith, omega arith)

-- a test that is false where the fact does not hold, and one that is true where it does
pub not_so : {A : Type 0} → (A → ⊥) → (false ≡ true) ↔ A
not_so never = (λ e. let z : ◌≡◌ {A = ℕ} 0 1 = cc in absurd (omega arith), λ a. absurd (never a))

pub so : {A : Type 0} → A → (true ≡ true) ↔ A
so a = (λ e. a, λ x. refl)

clash : {v : List ℕ} {n p : ℕ} → accepted v ≡ refused n p → ⊥
clash e = let z : ◌≡◌ {A = ℕ} 0 1 = cc in omega arith

module _ (o p : List ℕ) where
  pub not_counted : (v : List ℕ) (n j : ℕ) → plan_answer o p ≡ accepted v → refused n j ≡ steps_answer o p → ⊥
  unfolding steps_answer
  not_counted v n j e up = clash (sym (pass_up_accepted (plan_answer o p) _ v e) ∙ sym up)

  pub steps_told : (s : ℕ) → accepted (s ∷ []) ≡ steps_answer o p → (s ≡ made_count o p) × (plan_answer o p ≡ accepted (move_count p ∷ []))
  unfolding steps_answer
  steps_told s e =
      let low = pass_up-low (plan_answer o p) (accepted (made_count o p ∷ [])) (s ∷ []) (sym e) in
      let high : accepted (made_count o p ∷ []) ≡ accepted (s ∷ []) =
      pass_up-high (plan_answer o p) (accepted (made_count o p ∷ [])) (s ∷ []) (sym e) in
      let gave : PlanGave o p low.0 = plan_gave o p low.0 low.1 in
      (cc, low.1 ∙ ap accepted (sym gave.counted))

  pub heads_there : (v : List ℕ) → plan_answer o p ≡ accepted v → (3 ≤ length p) × (3 ≤ length o)
  heads_there v e =
      let gave : PlanGave o p v = plan_gave o p v e in
      let read : accepted (move_count p ∷ []) ≡ plan_answer o p = ap accepted gave.counted ∙ sym e in
      (head_there o p (move_count p) read, order_there o p (move_count p) read)

module _ (o p q : List ℕ) where
  pub no_plan : (n j : ℕ) → refused n j ≡ steps_answer o q → Improves o p q → ⊥
  no_plan n j up i = not_counted o q (move_count q ∷ []) n j i.checked up

  pub edition_one : named q ≡ false → Improves o p q → ⊥
  edition_one e i = let z : ◌≡◌ {A = ℕ} 0 1 = let both : false ≡ true = sym e ∙ i.edition_two in cc in omega arith

  module _ (n m : ℕ) (en : n ≡ position_count o) (em : m ≡ move_count q) where
    pub too_long : 8 * (n * (n * n)) < m → Improves o p q → ⊥
    too_long long i =
        let few : m ≤ 8 * (n * (n * n)) = rw (en, em) i.few in
        omega arith

    module _ (s t : ℕ) (es : s ≡ made_count o p) (et : t ≡ made_count o q) (is_plan : plan_answer o q ≡ accepted (move_count q ∷ []))
        (two : named q ≡ true) (few : m ≤ 8 * (n * (n * n))) where
      improves : Better o p q → Improves o p q
      improves better = record { edition_two = two; checked = is_plan; few = rw (← en, ← em) few; better = better }

      better_not : Better o p q → s < t → ⊥
      better_not (fewer_steps less) more = omega (arith, es, et)
      better_not (fewer_moves same less) more = omega (arith, es, et)

      module _ (k : ℕ) (ek : k ≡ move_count p) where
        not_better : s ≡ t → Better o p q → k ≤ m → ⊥
        not_better as_many (fewer_steps less) more = omega (arith, es, et)
        not_better as_many (fewer_moves same less) more = omega (arith, em, ek)

        by_order : (x : Ordering) → x ≡ nat_cmp t s → (y : Ordering) → y ≡ nat_cmp m k
            → (is_some_and is_lt (partial_ordering_then (Some x) (Some y)) ≡ true) ↔ Improves o p q
        by_order Less first y second = let less = ranked t s Less first in so (improves (fewer_steps (rw (← et, ← es) less)))
        by_order Equal first Less second =
            let same = ranked t s Equal first in
            let less = ranked m k Less second in
            so (improves (fewer_moves (omega (arith, es, et)) (rw (← em, ← ek) less)))
        by_order Equal first Equal second =
            let same = ranked t s Equal first in
            let as_many = ranked m k Equal second in
            not_so (λ i. not_better (sym same) i.better (omega arith))
        by_order Equal first Greater second =
            let same = ranked t s Equal first in
            let more = ranked m k Greater second in
            not_so (λ i. not_better (sym same) i.better (omega arith))
        by_order Greater first y second = let more = ranked t s Greater first in not_so (λ i. better_not i.better more)

        pub decided : {b : Bool}
            → b ≡ partial_lt (λ (x y : ℕ × ℕ). partial_ordering_then (Some (nat_cmp x.0 y.0)) (Some (nat_cmp x.1 y.1))) (t, m) (s, k)
            → (b ≡ true) ↔ Improves o p q
        decided e = rw e (by_order (nat_cmp t s) refl (nat_cmp m k) refl)
