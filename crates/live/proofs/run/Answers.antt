-- `live::run` meets its contract: 61 above the gate, or the step is run. Assumes nothing.
use mathlib.Core.Path.{sym, ◌∙◌}
use native.Mathlib.Omega.{arith}
use Rattle.live.specs.Roles.{running}
use Rattle.live.proofs.Gate.{gate_told, turned_away}
use Rattle.live.proofs.Driving.{run_lent, run_none, run_illegal, ran_on_lem}
use Rattle.live.proofs.run.Goals as goal

pub returns-in_err-count : goal.returns-in_err-count
returns-in_err-count c =
    let all = turned_away running _ _ _ _ _ _ c.from_residual.ensures.1 c.in_err-count.ensures in
    record { answer = all.0; picture = all.1 }

pub returns-then-count-floor : goal.returns-then-count-floor
returns-then-count-floor c =
    let all = run_none _ _ _ _ (gate_told _ _ _ _ c.in_ok-count.ensures) (omega arith) in
    record { answer = all.0; picture = all.1 }

pub run_lent-requires : goal.run_lent-requires
run_lent-requires c =
    run_lent c.args.role c.args.floor.now _ _ (gate_told _ _ _ _ c.in_ok-count.ensures) (omega arith)

pub returns-then-not-run_lent : goal.returns-then-not-run_lent
returns-then-not-run_lent c =
    let all = run_illegal _ _ _ _ (gate_told _ _ _ _ c.in_ok-count.ensures) (omega arith)
    (sym c.if-not-run_lent.true ∙ c.run_lent.ensures.judged) _ c.run_lent.ensures.made in
    record { answer = all.0; picture = all.1 }

pub returns : goal.returns
returns c =
    let all = ran_on_lem _ _ _ _ (gate_told _ _ _ _ c.in_ok-count.ensures) (omega arith)
    (sym c.if-not-run_lent.false ∙ c.run_lent.ensures.judged) _ c.run_lent.ensures.made in
    record { answer = all.0; picture = all.1 }
