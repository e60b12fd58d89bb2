-- The size of a plan's count, for those who pack it, and of the longest plan that demand 3 allows a planner.
--
--     moves_small    the moves of an accepted plan are fewer than 2 ^ 22
--     most_moves     8 × n × n × n moves are at most 2,097,152 where n is at most 64: the count field holds them
--     most_bytes     a plan of so many moves that name their racks takes 18 × n × n × n + 3 bytes, just what 23 asks for
--     record_full, record_fits    so its record has that length, and that of fewer moves no more
-- Assumes nothing.
use Prim.Native.Nat.{ℕ, ◌+◌, ◌*◌, ◌^◌, ◌≤◌, ◌<◌}
use mathlib.Core.Path.{◌≡◌, sym, ap, ◌∙◌, subst}
use mathlib.Core.Bool.{true}
use mathlib.Core.List.{List, [], ◌∷◌, head-eq_of_cons-eq}
use native.Mathlib.Nat.{mul-le-mul_right}
use native.Mathlib.Omega.{arith}
use lib.ListN.{length}
use Rattle.answers.specs.Answer.{accepted}
use Rattle.field.proofs.BitLaws.{field_lt}
use Rattle.field.specs.Listed.{move_size}
use Rattle.field.specs.Units.{record_length}
use Rattle.motion.specs.Arrangement.{Arrangement}
use Rattle.plan.specs.Plan.{plan_record, move_count, plan_answer}
use Rattle.plan.proofs.PlanRecord.{length_record}
use Rattle.plan_check.proofs.Replayed.{ReplayedPlan, plan_replayed}

pub moves_small : (o p : List ℕ) (k : ℕ) → accepted (k ∷ []) ≡ plan_answer o p → k < 2 ^ 22
unfolding move_count
moves_small o p k e =
    let gave : ReplayedPlan o p (k ∷ []) = ((plan_replayed o).0 p (k ∷ [])).0 (sym e) in
    subst (λ (n : ℕ). n < 2 ^ 22) (head-eq_of_cons-eq gave.counted) (field_lt p 0 22)

module _ (n : ℕ) where
  pub most_moves : n ≤ 64 → (8 * (n * (n * n)) ≤ 2097152) × (2097152 < 2 ^ 22)
  most_moves few =
      let square : n * n ≤ 64 * n = mul-le-mul_right n few in
      let cube : n * (n * n) ≤ 64 * (n * n) = mul-le-mul_right (n * n) few in
      (omega arith, omega arith)

  pub most_bytes : record_length (3 * (8 * (n * (n * n)))) ≡ 18 * (n * (n * n)) + 3
  unfolding record_length
  most_bytes = omega arith

  module _ (A : Arrangement) (ms : List (ℕ × ℕ)) where
    length-named : length (plan_record true A ms) ≡ record_length (3 * length ms)
    unfolding move_size
    length-named = length_record true A ms

    pub record_full : length ms ≡ 8 * (n * (n * n)) → length (plan_record true A ms) ≡ 18 * (n * (n * n)) + 3
    record_full e = length-named ∙ ap (λ (k : ℕ). record_length (3 * k)) e ∙ most_bytes

    pub record_fits : length ms ≤ 8 * (n * (n * n)) → length (plan_record true A ms) ≤ 18 * (n * (n * n)) + 3
    unfolding record_length
    record_fits few = omega (arith, length-named)
