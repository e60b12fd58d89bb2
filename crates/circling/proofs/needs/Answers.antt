-- `circling::needs` meets its contract. The invariant is the record `Needing`. Assumes nothing.
use Prim.Native.Nat.{ℕ, ◌+◌, ◌-◌, ◌*◌, ◌≤◌}
use mathlib.Core.Path.{◌≡◌, subst}
use lib.ListN.{set}
use native.Mathlib.Omega.{arith}
use Rattle.graph.specs.Rows.{row}
use Rattle.circling.specs.Needs.{reach}
use Rattle.circling.proofs.NeedsLaws.{Needing, needing_first, needing_next, needing_last}
use Rattle.circling.proofs.needs.Goals as goal
use Rattle.circling.proofs.needs.Goals.{After-saturating_sub}

pub loop-r-init : goal.loop-r-init
loop-r-init c = needing_first _ _ _ _ _ _

next : (c : After-saturating_sub)
    → Needing c.args.n c.args.m c.args.from (row c.args.p.now) c.args.to (row c.args.g.now)
    (set c.loop-r.need c.loop-r.r c.saturating_sub.result) (c.loop-r.r + 1)
next c =
    let x = reach c.args.n c.args.from (row c.args.p.now) c.loop-r.r in
    let y = reach c.args.n c.args.to (row c.args.g.now) c.loop-r.r in
    let near : y ≤ x + 4 * c.args.n = omega (arith, c.requires.bases.near, c.reach-y.ensures.is, c.reach-y.ensures.lap) in
    let is : y - x ≡ c.saturating_sub.result = omega (arith, c.reach-x.ensures.is, c.reach-y.ensures.is, c.saturating_sub.ensures) in
    subst
    (λ (k : ℕ). Needing c.args.n c.args.m c.args.from (row c.args.p.now) c.args.to (row c.args.g.now) (set c.loop-r.need c.loop-r.r k)
    (c.loop-r.r + 1))
    is (needing_next _ _ _ _ _ _ c.loop-r.invariant c.loop-r-test.true (omega (arith, c.requires.n_bound)) near)

pub loop-r-preserved : goal.loop-r-preserved
loop-r-preserved c = next (goal.at.loop-r-preserved c).After-saturating_sub

pub returns-2 : goal.returns-2
returns-2 c = needing_last _ _ _ _ _ _ (next (goal.at.returns-2 c).After-saturating_sub) (omega arith)
