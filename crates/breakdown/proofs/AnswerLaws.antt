-- From what is found, or what the floor is where nothing is found, to the answer.
--
--     answer_found     a breakdown where one is found
--     answer_of        the same of what the code has
--     answer_none      none, where the floor is not bi-connected or is a ring
-- Assumes nothing.
use Prim.Native.Nat.{ℕ, ◌<◌}
use mathlib.Core.Path.{◌≡◌}
use mathlib.Core.List.{List}
use mathlib.Core.Logic.{by_cases}
use native.Mathlib.Decide.{ℕ_discrete}
use native.Mathlib.Omega.{arith}
use Rattle.std.proofs.Common.{Option, Some, None}
use Rattle.graph.specs.Connected.{BiConnected, Ring}
use Rattle.graph.specs.Rows.{Edge, Rows}
use Rattle.graph.specs.EdgeCount.{edge_count}
use Rattle.breakdown.proofs.StageLaws.{breakdown_bi_connected}
use Rattle.breakdown.proofs.CountLaws.{breakdown_no_ring}
use Rattle.breakdown.specs.Answer.{Handled, Answer, HandledOf, AnswerOf}
use Rattle.breakdown.specs.declared.Breakdown.{Breakdown as Parts}

module _ {n : ℕ} {g : List ℕ} {r c : ℕ} {o start left right : List ℕ} where
  pub answer_found : Rows n g → Handled n (Edge g) r c o start left right → Answer n g r c o start left right
  answer_found rows h =
      record {
        found = h.found;
        exactly = (
          λ l. let b = h.found l in (breakdown_bi_connected rows.symmetric b, breakdown_no_ring rows b),
          λ p. by_cases (ℕ_discrete r 0) (λ e. absurd (h.none e p.0)) (λ e. omega arith),
        );
      }

  pub answer_none : r ≡ 0 → (BiConnected n (Edge g) → (Ring n (Edge g) (edge_count g n) → ⊥) → ⊥) → Answer n g r c o start left right
  answer_none zero not =
      record { found = λ l. absurd (never l); exactly = (λ l. absurd (never l), λ p. absurd (not p.0 p.1)) }
    where
      never : 0 < r → ⊥
      never l = omega arith

pub answer_of : {n : ℕ} {g : List ℕ} → Rows n g → (o : Option Parts) → HandledOf n (Edge g) o → AnswerOf n g o
answer_of rows None h = answer_found rows h
answer_of rows (Some b) h = (h.0, answer_found rows h.1)
