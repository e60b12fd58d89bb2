-- `chains::follow_chain` meets its contract: `Following` has what each answer tells of the chain.
-- Assumes nothing.
use Prim.Native.Nat.{ℕ, ◌<◌}
use mathlib.Core.Path.{subst}
use native.Mathlib.Omega.{arith}
use lib.ListN.{set}
use Rattle.chains.proofs.ChainsLaws.{unvisited}
use Rattle.chains.proofs.Following.{chain_leads, chain_on, chain_falls, chain_ended}
use Rattle.chains.proofs.+follow_chain.Goals as goal

pub returns-then-racks-p-eq0 : goal.returns-then-racks-p-eq0
returns-then-racks-p-eq0 t c =
    chain_leads c.args.target.now c.args.racks.now c.args.marks.now c.args.p c.requires.chain c.if-racks-p-eq0.true

pub follow_chain-requires : goal.follow_chain-requires
follow_chain-requires t c =
    let falls = chain_falls c.args.target.now c.args.racks.now c.args.marks.now c.args.p c.requires.chain c.if-racks-p-eq0.false
    (omega arith) c.if-marks-p-ne0.false
    c.in_ok-entered.entered (omega (arith, c.from.ensures, c.in_ok-entered.ensures.0, c.in_ok-entered.ensures.1)) in
    let on = chain_on c.args.target.now c.args.racks.now c.args.marks.now c.args.p c.requires.chain c.if-racks-p-eq0.false (omega arith)
    c.if-marks-p-ne0.false
    c.in_ok-entered.entered (omega (arith, c.from.ensures, c.in_ok-entered.ensures.0, c.in_ok-entered.ensures.1)) in
    let less : unvisited c.args.target.now (set c.args.marks.now c.args.p 255) < t =
    subst (λ (j : ℕ). unvisited c.args.target.now (set c.args.marks.now c.args.p 255) < j) c.decreases falls in
    let below = c.requires.chain.below c.args.p in
    (less, (omega (arith, below, c.from.ensures, c.in_ok-entered.ensures.0, c.in_ok-entered.ensures.1), on))

pub returns : goal.returns
returns t c =
    chain_ended c.args.target.now c.args.racks.now c.args.marks.now c.args.p c.requires.chain c.if-racks-p-eq0.false (omega arith)
    c.if-marks-p-ne0.false
    c.in_ok-entered.entered (omega (arith, c.from.ensures, c.in_ok-entered.ensures.0, c.in_ok-entered.ensures.1))
    _ _ c.in_ok-ahead.ensures
