-- `chains::mark_leaders` meets its contract. The loop's invariant: the first p marks say where a move leads. Assumes nothing.
use mathlib.Core.Path.{◌≡◌, refl, ◌∙◌}
use mathlib.Core.Bool.{Bool, true, false, cond}
use mir.Val.{bool_byte}
use native.Mathlib.Omega.{arith}
use Rattle.chains.specs.Chains.{leader_mark}
use Rattle.chains.proofs.Following.{leaders_next}
use Rattle.chains.proofs.mark_leaders.Goals as goal

test_mark : (b : Bool) → bool_byte b ≡ cond b 1 0
test_mark true = refl
test_mark false = refl

pub loop-p-preserved : goal.loop-p-preserved
unfolding leader_mark
loop-p-preserved c =
    leaders_next c.args.racks.now c.loop-p.marks c.loop-p.p _ (omega arith) (c.from.ensures ∙ test_mark _) c.loop-p.invariant
