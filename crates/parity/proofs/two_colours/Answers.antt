-- `parity::two_colours` meets its contract.
-- Assumes nothing.
use mathlib.Core.Bool.{false≢true}
use mathlib.Core.Logic.{⊎_elim}
use mathlib.Core.Path.{sym, ◌∙◌}
use Rattle.sets.proofs.CountLaws.{ones-without}
use Rattle.sets.proofs.SetLaws.{has_and, has_or}
use Rattle.parity.proofs.PaintingLaws.{painting_begin, painting_light, painting_dark, painting_two, painting_none}
use lib.Bits.{bit_or}
use Rattle.parity.proofs.two_colours.Goals as goal
use Rattle.parity.proofs.two_colours.Goals.{then-has, else-has}

pub loop-both-init : goal.loop-both-init
loop-both-init c =
    painting_begin _ _ _ _ c.requires.n_nonzero c.only-light.ensures c.below-rest.ensures

pub returns-then-both-ne0 : goal.returns-then-both-ne0
returns-then-both-ne0 c =
    painting_none _ _ c.requires.n_nonzero c.requires.connected _ _ _ c.loop-both.invariant c.if-next-eq0.true c.if-both-ne0.true

pub returns-then-next-eq0 : goal.returns-then-next-eq0
returns-then-next-eq0 c =
    painting_two _ _ c.requires.n_nonzero c.requires.connected _ _ _ c.loop-both.invariant c.if-next-eq0.true c.if-both-ne0.false

pub loop-both-smaller : goal.loop-both-smaller
loop-both-smaller c =
    let both = (has_and (bit_or c.loop-both.light c.loop-both.dark) c.loop-both.rest c.lowest-p.result).0 c.lowest-p.ensures.has in
    ones-without _ _ _ both.1 c.without-rest.ensures

pub loop-both-preserved : goal.loop-both-preserved
loop-both-preserved c =
    let both = (has_and (bit_or c.loop-both.light c.loop-both.dark) c.loop-both.rest c.lowest-p.result).0 c.lowest-p.ensures.has in
    let coloured = (has_or c.loop-both.light c.loop-both.dark c.lowest-p.result).0 both.0 in
    elim c.if-has.branch [
      | then-has w ↦
          rw (w.light-is, w.dark-is) (painting_light _ _ c.requires.rows _ _ _ _ _ c.loop-both.invariant c.without-rest.ensures
          (c.has.ensures.0 w.if-has.true))
      | else-has w ↦
          rw (w.light-is, w.dark-is) (painting_dark _ _ c.requires.rows _ _ _ _ _ c.loop-both.invariant c.without-rest.ensures
          (⊎_elim (λ h. absurd (false≢true (sym w.if-has.false ∙ c.has.ensures.1 h))) (λ h. h) coloured))
    ]
