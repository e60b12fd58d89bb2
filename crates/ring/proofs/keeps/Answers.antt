-- `ring::keeps` meets its contract. Assumes nothing.
use Prim.Native.Nat.{ℕ, ◌+◌, ◌≤◌, ◌<◌}
use mathlib.Core.Path.{refl}
use native.Mathlib.Omega.{arith}
use borrow.Author.Tests.{tests}
use Rattle.std.proofs.Common.{rules}
use Rattle.std.proofs.lemmas.Iterator.{cases_from_all, YieldsList-from_range}
use Rattle.graph.specs.Rows.{row}
use Rattle.graph.proofs.Decision.{says_same, says_range}
use Rattle.ring.specs.Order.{distance}
use Rattle.ring.proofs.keeps.Goals as goal

pub returns : goal.returns
returns c =
    let d = λ (q : ℕ). distance c.args.n (row c.args.p.now) q in
    let e = λ (q : ℕ). distance c.args.n (row c.args.g.now) q in
    let r = c.args.r in
    let Yes = λ (q : ℕ). d r < d q → e r < e q in
    let No = λ (q : ℕ). (d r < d q) × (e q ≤ e r) in
    let apart : (q : ℕ) → Yes q → No q → ⊥ = λ q yes no. let l = yes no.0 in let m = no.1 in omega arith in
    says_same
    (λ all q k. all q k.some (let most = k.most in omega arith))
    (λ keeps q from below. keeps q (record { some = from; most = omega arith }))
    (says_range Yes No apart c.all.result 1 c.args.m
    (cases_from_all _ _ _ Yes No c.all.ensures.ran (YieldsList-from_range 1 (c.args.m + 1) c.args.m refl (omega arith))
    (λ x q k. search (rules, tests)) (λ x q k. search (rules, tests))))
