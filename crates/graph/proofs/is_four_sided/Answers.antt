-- `graph::is_four_sided` meets its contract.
-- Assumes nothing.
use Prim.Native.Nat.{ℕ, ◌≤◌, ◌<◌}
use mathlib.Core.Path.{◌≡◌, sym, subst}
use mathlib.Core.List.{List}
use native.Mathlib.Omega.{arith}
use borrow.Author.Tests.{tests}
use lib.Count.{ones}
use lib.ListN.{get_or, length, take}
use Rattle.std.proofs.Common.{rules}
use Rattle.std.proofs.lemmas.List.{get_or-take, length-take-le}
use Rattle.std.proofs.lemmas.Iterator.{cases_from_all, YieldsList-from_slice}
use Rattle.sets.proofs.CountLaws.{ones-sum}
use Rattle.graph.specs.Rows.{Rows}
use Rattle.graph.specs.EdgeCount.{row_sum}
use Rattle.graph.proofs.Decision.{says_all, says_same}
use Rattle.graph.proofs.is_four_sided.Goals as goal

-- a row has nothing but positions of the floor
sized : (n : ℕ) (g : List ℕ) → Rows n g → (p : ℕ) → row_sum g p n ≡ ones (get_or g p 0)
sized n g rows p = ones-sum n (get_or g p 0) (λ q h. (rows.inside p q h).1)

pub returns : goal.returns
returns c =
    let g = c.args.rows.now in
    let long : length (take c.args.n g) ≡ c.args.n = length-take-le c.args.n g (let few = c.requires.small in omega arith) in
    says_same
    (λ all p h. let size = sized c.args.n g c.requires p in
    let four : ones (get_or g p 0) ≤ 4 = subst (λ s. ones s ≤ 4) (get_or-take c.args.n g p 0 h) (all p (omega arith)) in omega arith)
    (λ four p l. let h : p < c.args.n = omega arith in let size = sized c.args.n g c.requires p in let most = four p h in
    subst (λ s. ones s ≤ 4) (sym (get_or-take c.args.n g p 0 h)) (omega arith))
    (says_all (λ s. ones s ≤ 4) (λ s. 4 < ones s) (λ s yes no. omega arith) c.all.result (take c.args.n g)
    (cases_from_all _ _ _ (λ s. ones s ≤ 4) (λ s. 4 < ones s) c.all.ensures.ran
    (YieldsList-from_slice (take c.args.n g) c.iter.ensures.rest)
    (λ s q k. search (rules, tests)) (λ s q k. search (rules, tests))))
