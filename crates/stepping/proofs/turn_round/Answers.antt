-- `stepping::turn_round` meets its contract: the row of the moves, read in ascending order, is the step turned round. Assumes nothing.
use mathlib.Core.Path.{◌∙◌, ap, sym, subst}
use Prim.Native.Nat.{ℕ}
use mathlib.Core.List.{List}
use native.Mathlib.Omega.{arith}
use lib.ListN.{replicate, length-replicate}
use Rattle.tables.proofs.TableLaws.{zeros_at}
use Rattle.chains.proofs.Moves.{moves_below}
use Rattle.stepping.specs.Judging.{OriginsLow, row_moves}
use Rattle.stepping.proofs.Turning.{origins_low, row-turned}
use Rattle.stepping.proofs.turn_round.Goals as goal

pub list_origins-requires : goal.list_origins-requires
list_origins-requires c =
    let low = origins_low (replicate 64 0) (moves_below c.args.step.now) (length-replicate {A = ℕ} 64 0)
    (λ p. omega (arith, zeros_at 64 p)) in
    subst OriginsLow (sym c.note_origins.ensures) low

pub returns : goal.returns
returns c =
    c.list_origins.ensures
    ∙ ap (λ (w : List ℕ). row_moves w 0 64) c.note_origins.ensures
    ∙ row-turned (moves_below c.args.step.now) c.requires
