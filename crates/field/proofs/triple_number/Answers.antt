-- `field::triple_number` meets its contract: `Triples` has the triple that three bytes hold. Assumes nothing.
use mathlib.Core.Path.{refl}
use native.Mathlib.Omega.{arith}
use Rattle.field.proofs.Triples.{triple_is}
use Rattle.field.proofs.triple_number.Goals as goal

pub returns : goal.returns
returns c =
    triple_is c.args.s.now c.args.j _ _ _ refl c.requires (omega (arith, c.from.ensures)) (omega (arith, c.from-2.ensures))
    (omega (arith, c.from-3.ensures)) (omega (arith, c.from.ensures, c.from-2.ensures, c.from-3.ensures)) refl
