-- `trains::make_step` meets its contract: the two passes make the step. Assumes nothing.
use mathlib.Core.Path.{ap, ◌∙◌}
use mathlib.Core.List.{List}
use Prim.Native.Nat.{ℕ}
use Rattle.chains.specs.StepOn.{moves_of, put_down, step_on}
use Rattle.trains.proofs.make_step.Goals as goal

pub returns : goal.returns
unfolding step_on
returns c =
    let moves = moves_of c.args.step.now in
    c.put_down.ensures ∙ ap (λ (h : List ℕ). put_down c.args.racks.now h moves) c.take_up.ensures
