-- `turning::turn` meets its contract. The loop's invariant: what stood i places after the vacancy and further on has been passed on.
-- Assumes nothing.
use mathlib.Core.Path.{refl}
use native.Mathlib.Omega.{arith}
use Rattle.turning.proofs.TurnLaws.{vacant-place, underway_first, underway_next}
use Rattle.turning.proofs.TurnLaws.{underway_fits, underway_enterable, underway_journey, underway_shown}
use Rattle.turning.proofs.turn.Goals as goal

pub loop-i-init : goal.loop-i-init
loop-i-init c = underway_first (vacant-place c.vacancy_on-z.ensures.lowest c.requires.turnable)

pub pass_on-requires-clause-enterable : goal.pass_on-requires-clause-enterable
pass_on-requires-clause-enterable c =
    let v = vacant-place c.vacancy_on-z.ensures.lowest c.requires.turnable in
    underway_enterable v c.requires.simple c.loop-i.invariant _ (omega arith) refl refl

pub pass_on-requires-clause-fits : goal.pass_on-requires-clause-fits
pass_on-requires-clause-fits c =
    let v = vacant-place c.vacancy_on-z.ensures.lowest c.requires.turnable in
    underway_fits v c.requires.simple c.loop-i.invariant c.requires.fits (omega arith)

pub loop-i-preserved : goal.loop-i-preserved
loop-i-preserved c =
    let v = vacant-place c.vacancy_on-z.ensures.lowest c.requires.turnable in
    underway_next v c.requires.simple _ (omega arith) (omega arith) refl refl
    c.pass_on.ensures.journey_on c.pass_on.ensures.passed c.loop-i.invariant

pub returns-clause-turn_journey : goal.returns-clause-turn_journey
returns-clause-turn_journey c =
    let v = vacant-place c.vacancy_on-z.ensures.lowest c.requires.turnable in
    underway_journey v (omega arith) c.loop-i.invariant c.vacancy_on-z.ensures.lowest

pub returns-clause-turn_shown : goal.returns-clause-turn_shown
returns-clause-turn_shown c =
    let v = vacant-place c.vacancy_on-z.ensures.lowest c.requires.turnable in
    underway_shown v (omega arith) c.loop-i.invariant c.vacancy_on-z.ensures.lowest
