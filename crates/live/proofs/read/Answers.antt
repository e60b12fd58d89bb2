-- `live::read` meets its contract: where the gate lets it in, the racks are shown. Assumes nothing.
use Rattle.live.proofs.Gate.{gate_told, refused_reading}
use Rattle.live.proofs.Driving.{shown_racks}
use Rattle.live.proofs.read.Goals as goal

pub returns-in_err-enter : goal.returns-in_err-enter
returns-in_err-enter c =
    let all = refused_reading _ _ _ _ _ _ c.from_residual.ensures.1 c.in_err-enter.ensures _ in
    record { answer = all.0; racks = all.1 }

pub returns : goal.returns
returns c =
    let all = shown_racks _ _ _ _ (gate_told _ _ _ _ c.in_ok-enter.ensures) _ in
    record { answer = all.0; racks = all.1 }
