-- `shunting::clear_within` meets its contract: the free positions are those of the region. Assumes nothing.
use Prim.Native.Nat.{ℕ}
use mathlib.Core.Logic.{◌↔◌}
use native.Mathlib.Omega.{arith}
use Rattle.sets.specs.Sets.{Has}
use Rattle.graph.proofs.WalkLaws.{walk_last}
use Rattle.shunting.specs.Distance.{Unheld}
use Rattle.shunting.proofs.DistanceLaws.{free_within}
use Rattle.shunting.proofs.ClearLaws.{room_same, within_clears}
use Rattle.shunting.proofs.clear_within.Goals as goal
use Rattle.shunting.proofs.clear_within.Goals.{After-minus-held}

free : (c : After-minus-held) → (q : ℕ) → Unheld c.args.n c.minus-held.result q ↔ Has c.args.region q
free c = free_within _ _ _ _ c.requires.inside c.below.ensures c.minus-held.ensures

pub clear-clearing-requires : goal.clear-clearing-requires
clear-clearing-requires c =
    let same = free (goal.at.clear-clearing-requires c).After-minus-held in
    let inside = c.requires.inside _ (walk_last c.requires.reaches.1.walk) in
    let small = c.requires.rows.small in
    record {
      rows = c.requires.rows;
      p_bound = omega arith;
      room_to_clear = room_same (λ q. (same q).0) (λ q. (same q).1) c.requires.room_to_clear;
    }

pub returns : goal.returns
returns c =
    let same = free (goal.at.returns c).After-minus-held in
    within_clears (λ q. (same q).0) (λ q. (same q).1) c.requires.reaches c.clear-clearing.ensures
