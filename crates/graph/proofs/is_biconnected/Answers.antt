-- `graph::is_biconnected` meets its contract.
-- Assumes nothing.
use mathlib.Core.Path.{refl}
use native.Mathlib.Omega.{arith}
use borrow.Author.Tests.{tests}
use Rattle.std.proofs.Common.{rules}
use Rattle.std.proofs.lemmas.Iterator.{cases_from_all, YieldsList-from_range}
use Rattle.graph.specs.Connected.{ConnectedWithout}
use Rattle.graph.specs.Rows.{Edge}
use Rattle.graph.proofs.ConnectedLaws.{bi_connected_without}
use Rattle.graph.proofs.Decision.{says_same, says_range}
use Rattle.graph.proofs.is_biconnected.Goals as goal

pub returns : goal.returns
returns c =
    let Cut = ConnectedWithout c.args.n (Edge c.args.rows.now) in
    says_same
    (λ all. bi_connected_without (omega arith) (λ y s. all y (omega arith) (omega arith)))
    (λ b x from below. b.without x (omega arith))
    (says_range Cut (λ x. Cut x → ⊥) (λ x yes no. no yes) c.all.result 0 c.args.n
    (cases_from_all _ _ _ Cut (λ x. Cut x → ⊥) c.all.ensures.ran (YieldsList-from_range 0 c.args.n c.args.n refl (omega arith))
    (λ x q k. search (rules, tests)) (λ x q k. search (rules, tests))))
