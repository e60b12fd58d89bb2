-- A position cleared and a rack brought, on which the definitions are seen to hold, by computation: what the contracts assume can be met.
-- The floor is the line of three positions of `turning`'s examples, with racks 1 and 2 at its first two.
--
--     near, here, fast     the second is 1 away from the nearest vacancy, and the last, which is vacant, 0; held it has no way
--     lined, fits          what `shunting::clear` asks for, and `shunting::bring` of its room: clear_met, bring_room
-- Assumes nothing.
use Prim.Native.Nat.{ℕ, suc, ◌≤◌, ◌<◌}
use mathlib.Core.Path.{◌≡◌, refl}
use native.Mathlib.Omega.{arith}
use lib.ListN.{replicate, length-replicate}
use Rattle.sets.specs.Sets.{bit, Has}
use Rattle.sets.proofs.SetLaws.{has_none, has_below}
use Rattle.graph.specs.Rows.{row, Edge, Rows}
use Rattle.moving.specs.declared.State.{State}
use Rattle.moving.specs.Journey.{Fits}
use Rattle.turning.proofs.Examples.{line, line-rows, table, log}
use Rattle.shunting.specs.Distance.{Unheld, NoWay, Distance}
use Rattle.shunting.proofs.DistanceLaws.{at_most_inside, vacant_here, vacant_beside, held_no_way}
use Rattle.shunting.specs.Cleared.{RoomToClear, RoomToBring}
use Rattle.shunting.proofs.ClearLaws.{clear_room}

clear : {x : ℕ} → suc x ≡ 0 → ⊥
clear e = omega arith

unheld : (p : ℕ) → p < 3 → Unheld 3 0 p
unheld p l = record { inside = l; loose = has_none p }

pub near : Distance (Edge line) (Unheld 3 0) (row (table 1 2 0)) 1 1
unfolding line bit
near = vacant_beside 2 (unheld 2 (omega arith)) (unheld 1 (omega arith)) refl refl clear

pub here : Distance (Edge line) (Unheld 3 0) (row (table 1 2 0)) 2 0
here = vacant_here (unheld 2 (omega arith)) refl

pub fast : NoWay (Edge line) (Unheld 3 4) (row (table 1 2 0)) 2
unfolding bit
fast = held_no_way 3 4 2 refl

abbrev pub lined : State
lined = record { racks = table 1 2 0; real = 2; written = 0; logged = 0 }

pub fits : (c : ℕ) → c ≤ 4 → Fits lined log (replicate 9 0) c
fits c few =
    let h = length-replicate {A = ℕ} 61 0 in
    let t = length-replicate {A = ℕ} 9 0 in
    record {
      racks = omega arith;
      log = length-replicate {A = ℕ} 8256 0;
      logged = omega arith;
      few_racks = omega arith;
      room = omega arith;
    }

pub clear_met : Rows 3 line × (1 < 64) × RoomToClear (Edge line) (Unheld 3 0) 1 lined log (replicate 9 0)
clear_met = (line-rows, omega arith, clear_room (at_most_inside 3 (λ p x. x.inside)) (fits 2 (omega arith)))

pub bring_room : RoomToBring (Has 7) lined log (replicate 9 0)
bring_room =
    record { most = 2; few = at_most_inside 3 (λ p x. has_below 3 7 p (omega arith) x); fits = fits 4 (omega arith) }
