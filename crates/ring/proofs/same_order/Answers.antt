-- `ring::same_order` meets its contract. Assumes nothing.
use Prim.Native.Nat.{◌+◌}
use mathlib.Core.Path.{refl}
use native.Mathlib.Omega.{arith}
use borrow.Author.Tests.{tests}
use Rattle.std.proofs.Common.{rules}
use Rattle.std.proofs.lemmas.Iterator.{cases_from_all, YieldsList-from_range}
use Rattle.graph.specs.Rows.{row}
use Rattle.graph.proofs.Decision.{says_same, says_range}
use Rattle.ring.specs.Order.{Keeps}
use Rattle.ring.proofs.OrderLaws.{order_kept, kept_order}
use Rattle.ring.proofs.same_order.Goals as goal

pub returns : goal.returns
returns c =
    let Kept = Keeps c.args.n c.args.m (row c.args.p.now) (row c.args.g.now) in
    says_same
    (λ all. kept_order c.requires.places c.requires.places_2 (λ r k. all r k.some (let most = k.most in omega arith)))
    (λ same r from below. order_kept c.requires.places c.requires.places_2 same r (record { some = from; most = omega arith }))
    (says_range Kept (λ r. Kept r → ⊥) (λ r yes no. no yes) c.all.result 1 c.args.m
    (cases_from_all _ _ _ Kept (λ r. Kept r → ⊥) c.all.ensures.ran (YieldsList-from_range 1 (c.args.m + 1) c.args.m refl (omega arith))
    (λ x q k. search (rules, tests)) (λ x q k. search (rules, tests))))
