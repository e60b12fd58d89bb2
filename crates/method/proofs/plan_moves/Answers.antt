-- `method::plan_moves` meets its contract: where the tables agree there is nothing to move.
--
--     differ    where `==` says no, the tables differ
-- Assumes nothing.
use Prim.Native.Nat.{ℕ}
use mathlib.Core.Path.{sym, ap, ◌∙◌}
use mathlib.Core.List.{List}
use native.Mathlib.Omega.{arith}
use Rattle.std.proofs.lemmas.Bool.Decides.{Decides-eqb, not_from_Decides}
use Rattle.std.proofs.lemmas.Grind.{same_number_lists}
use Rattle.std.proofs.lemmas.Slice.Eq.{slice_eq-Decides}
use Rattle.graph.specs.Rows.{row}
use Rattle.floor.proofs.FloorRows.{filled_starts, filled_goals}
use Rattle.method.specs.Moves.{Differ}
use Rattle.method.proofs.MovesLaws.{none_needed}
use Rattle.method.proofs.plan_moves.Goals.{Else-eq}
use Rattle.method.proofs.plan_moves.Goals as goal

pub returns-then-eq : goal.returns-then-eq
returns-then-eq c =
    let same = (slice_eq-Decides Decides-eqb c.args.starts c.args.goals c.eq.result c.eq.ensures).0 c.if-eq.true in
    record {
      moves_of = λ o t.
          none_needed t.gave c.args.tail.now
          (filled_starts t.gave t.starts_are)
          (filled_goals t.gave t.goals_are) (λ p l. ap (λ (h : List ℕ). row h p) same);
    }

differ : (c : Else-eq) → Differ c.args.starts c.args.goals
differ c all =
    let t = c.requires.some_tables.tables in
    let from = filled_starts t.gave t.starts_are in
    let to = filled_goals t.gave t.goals_are in
    not_from_Decides c.eq.result (slice_eq-Decides Decides-eqb c.args.starts c.args.goals c.eq.result c.eq.ensures) c.if-eq.false
    (same_number_lists c.args.starts c.args.goals (from.size ∙ sym to.size) (λ p l. let size = from.size in all p (omega arith)))

pub round-requires-clause-differ : goal.round-requires-clause-differ
round-requires-clause-differ c = differ (goal.at.round-requires-clause-differ c).Else-eq

pub broken_down-requires-clause-differ : goal.broken_down-requires-clause-differ
broken_down-requires-clause-differ c = differ (goal.at.broken_down-requires-clause-differ c).Else-eq
