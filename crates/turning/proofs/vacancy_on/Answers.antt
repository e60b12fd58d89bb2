-- `turning::vacancy_on` meets its contract. The invariant: what is left of the search finds what the whole of it finds.
-- Assumes nothing.
use Prim.Native.Nat.{◌-◌}
use mathlib.Core.Path.{◌≡◌, sym, ◌∙◌}
use native.Mathlib.Omega.{arith}
use Rattle.breakdown.proofs.PlaceLaws.{place_of_here, place_of-next, place_of_end}
use Rattle.turning.proofs.vacancy_on.Goals as goal

pub returns-then-racks-position-eq0-clause-lowest : goal.returns-then-racks-position-eq0-clause-lowest
returns-then-racks-position-eq0-clause-lowest c =
    sym (place_of_here _ 0 c.loop-i.i c.args.size (omega arith) c.if-racks-position-eq0.true) ∙ c.loop-i.invariant

pub loop-i-preserved : goal.loop-i-preserved
loop-i-preserved c =
    place_of-next _ 0 c.loop-i.i c.args.size (omega arith) c.if-racks-position-eq0.false ∙ c.loop-i.invariant

pub returns-clause-lowest : goal.returns-clause-lowest
returns-clause-lowest c =
    let end : c.args.size - 1 ≡ c.loop-i.i = (let t = c.requires.turnable.1.before in let high = c.loop-i.auto.i-end in omega arith) in
    end ∙ sym (place_of_end _ 0 c.loop-i.i c.args.size (omega arith)) ∙ c.loop-i.invariant

pub returns-clause-before : goal.returns-clause-before
returns-clause-before c = let before = c.requires.turnable.1.before in omega arith
