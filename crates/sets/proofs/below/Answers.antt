-- `sets::below` meets its contract. Assumes nothing.
use native.Mathlib.Omega.{arith}
use Rattle.sets.proofs.WordLaws.{all_is, first_is}
use Rattle.sets.proofs.below.Goals as goal

pub returns-then-n-eq64 : goal.returns-then-n-eq64
returns-then-n-eq64 c = all_is c.args.n c.if-n-eq64.true

pub returns : goal.returns
returns c = first_is c.args.n (let h = c.if-n-eq64.false in let l = c.requires in omega arith)
