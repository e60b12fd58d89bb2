-- `live::take_back` meets its contract: 62 above the gate, or the step is taken back. Assumes nothing.
use mathlib.Core.Path.{sym, ◌∙◌}
use native.Mathlib.Omega.{arith}
use Rattle.live.specs.Roles.{taking_back}
use Rattle.live.proofs.Gate.{gate_told, turned_away}
use Rattle.live.proofs.Driving.{take_lent, take_none, take_past, take_illegal, took_back}
use Rattle.live.proofs.take_back.Goals as goal

pub returns-in_err-count : goal.returns-in_err-count
returns-in_err-count c =
    let all = turned_away taking_back _ _ _ _ _ _ c.from_residual.ensures.1 c.in_err-count.ensures in
    record { answer = all.0; picture = all.1 }

pub returns-then-floor-eq0 : goal.returns-then-floor-eq0
returns-then-floor-eq0 c =
    let all = take_none _ _ _ _ (gate_told _ _ _ _ c.in_ok-count.ensures) (omega arith) in
    record { answer = all.0; picture = all.1 }

pub returns-then-count-floor : goal.returns-then-count-floor
returns-then-count-floor c =
    let all = take_past _ _ _ _ (gate_told _ _ _ _ c.in_ok-count.ensures) (λ e. omega arith) (omega arith) in
    record { answer = all.0; picture = all.1 }

pub take_back_lent-requires : goal.take_back_lent-requires
take_back_lent-requires c =
    take_lent c.args.role c.args.floor.now _ _ (gate_told _ _ _ _ c.in_ok-count.ensures) (λ e. omega arith) (omega arith)

pub returns-then-not-take_back_lent : goal.returns-then-not-take_back_lent
returns-then-not-take_back_lent c =
    let all = take_illegal _ _ _ _ (gate_told _ _ _ _ c.in_ok-count.ensures) (λ e. omega arith) (omega arith)
    (sym c.if-not-take_back_lent.true ∙ c.take_back_lent.ensures.judged) _ c.take_back_lent.ensures.made in
    record { answer = all.0; picture = all.1 }

pub returns : goal.returns
returns c =
    let all = took_back _ _ _ _ (gate_told _ _ _ _ c.in_ok-count.ensures) (λ e. omega arith) (omega arith)
    (sym c.if-not-take_back_lent.false ∙ c.take_back_lent.ensures.judged) _ c.take_back_lent.ensures.made in
    record { answer = all.0; picture = all.1 }
