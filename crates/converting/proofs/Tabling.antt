-- Moves listed from a table of racks are listed as replay tells it.
--
--     tabled-listed    the fields are those of the moves listed from the arrangement that the table holds
--     leads_held       each of the moves leaves a position where the table has a rack
-- Assumes nothing.
use Prim.Native.Nat.{ℕ, ◌≤◌}
use mathlib.Core.Path.{◌≡◌, refl, sym, ap₂}
use mathlib.Core.Bool.{Bool, true, false, cond}
use mathlib.Core.List.{List, ◌++◌}
use native.Mathlib.Omega.{arith}
use lib.ListN.{length, get_or}
use Rattle.field.specs.Listed.{units, all_units}
use Rattle.order.specs.Floor.{Floor}
use Rattle.motion.specs.Arrangement.{Arrangement, rack_at}
use Rattle.motion.specs.Replay.{listed}
use Rattle.motion.specs.Sound.{Sound}
use Rattle.motion.proofs.ArrangementLaws.{rack_at_finds}
use Rattle.motion.proofs.Lawful.{Leads, still, ◌then◌}
use Rattle.motion.proofs.MoveLaws.{on_floor_parts, legal_parts, move-length}
use Rattle.motion.proofs.SoundLaws.{move_sound}
use Rattle.tables.specs.Tables.{moved_on}
use Rattle.tables.proofs.TablesLaws.{Holds}
use Rattle.tables.proofs.TableLaws.{table_rack, moved_holds}
use Rattle.converting.specs.Listing.{tabled, Held, held_none, held_more}

-- a rack that an edition leaves out has no field
unit_told : (e : Bool) (a b r : ℕ) → units e (a, b, r) ≡ units e (a, b, cond e r 0)
unfolding units
unit_told false a b r = refl
unit_told true a b r = refl

module _ (F : Floor) (few : F.positions ≤ 64) where
  pub tabled-listed : (e : Bool) {A B : Arrangement} {ms : List (ℕ × ℕ)} (h : List ℕ) → Sound F.positions A → Holds A h → Leads F A ms B
      → all_units e (tabled h ms) ≡ all_units e (listed e A ms)
  unfolding tabled listed all_units
  tabled-listed e h s holds still = refl
  tabled-listed e h s holds (◌then◌ {A = A} {x = m} l p) =
      let t = (legal_parts F A m).0 l in
      let on = moved_holds F.positions A h few s holds m t.1 t.2 ((on_floor_parts F m).0 t.0).1 in
      let first : units e (m.0, m.1, get_or h m.0 0) ≡ units e (m.0, m.1, cond e (rack_at A m.0) 0) =
      rw (← table_rack A h holds m.0) (unit_told e m.0 m.1 (rack_at A m.0)) in
      ap₂ (λ (x y : List ℕ). x ++ y) first (tabled-listed e (moved_on h m) (move_sound F A m l s) on p)

  pub leads_held : {A B : Arrangement} {ms : List (ℕ × ℕ)} (h : List ℕ) → length A ≤ 64 → Sound F.positions A → Holds A h
      → Leads F A ms B → Held h ms
  leads_held h racks s holds still = held_none
  leads_held h racks s holds (◌then◌ {A = A} {x = m} l p) =
      let t = (legal_parts F A m).0 l in
      let on = moved_holds F.positions A h few s holds m t.1 t.2 ((on_floor_parts F m).0 t.0).1 in
      let w = rack_at_finds A m.0 t.1 in
      let there : get_or h m.0 0 ≡ rack_at A m.0 = sym (table_rack A h holds m.0) in
      held_more {h = h} {m = m} (omega (arith, there, w.3)) (omega (arith, there, w.3, w.1))
      (leads_held (moved_on h m) (rw (move-length A m) racks) (move_sound F A m l s) on p)
