-- Of a well-formed order on a ring with a vacancy, 24 applies exactly where no plan exists.
--
--     ring-planned         where the racks stand in the same order, a list of moves leads from the starts to the goals
--     ring-turned_down     the theorem
-- Assumes nothing.
use Prim.Native.Nat.{ℕ, ◌≤◌, ◌<◌}
use mathlib.Core.Path.{◌≡◌, refl, sym, ap, subst, ◌∙◌}
use mathlib.Core.List.{List}
use mathlib.Core.Logic.{by_cases}
use native.Mathlib.Decide.{ℕ_discrete, dec_lt}
use native.Mathlib.Omega.{arith}
use lib.ListN.{get_or}
use Rattle.answers.specs.Answer.{accepted, refused}
use Rattle.order.specs.Order.{position_count, rack_count, edge_count, floor_of, starts_of, goals_of, counts}
use Rattle.order.specs.Tables.{decoded_rows, decoded_starts, decoded_goals}
use Rattle.motion.specs.Replay.{ended, replay_moves}
use Rattle.motion.proofs.Lawful.{replay_moves_ended}
use Rattle.motion.specs.Sound.{Sound}
use Rattle.tables.specs.Accepted.{WellPlaced}
use Rattle.tables.proofs.AcceptedLaws.{well_placed}
use Rattle.graph.specs.Rows.{row, Edge}
use Rattle.ring.specs.Circle.{round_of, edge_in}
use Rattle.ring.proofs.CircleLaws.{circle-every}
use Rattle.moving.proofs.WentLaws.{went_to}
use Rattle.solving.specs.Placed.{Placed}
use Rattle.solving.proofs.Held.{went_replayed}
use Rattle.floor.specs.FloorAnswer.{round_place, SameRound}
use Rattle.ring.proofs.RoundDecision.{same_order?}
use Rattle.floor.specs.RingTables.{RingTables}
use Rattle.tables.specs.Accepted.{OrderGave}
use Rattle.tables.proofs.AcceptedLaws.{order_gave}
use Rattle.floor.proofs.FloorRows.{filled_on_floor}
use Rattle.floor.proofs.Layers.{ring_other, ring-plain, rings, ring-tables}
use Rattle.floor.proofs.RoundTables.{rows, starts_hold, goals_hold, starts_on, goals_on}
use Rattle.planner.specs.Rings.{OnRingFloor, TurnedDown}
use Rattle.method.proofs.OrderTables.{held_by, held_placed}
use Rattle.method.proofs.RingLaws.{went_outside}
use Rattle.planner.proofs.RoundKept.{circle, stand_of, places-round, moves-kept}
use Rattle.planner.proofs.RoundReached.{Reached, reached}

module _ (o : List ℕ) (f : OnRingFloor o) where
  abbrev n : ℕ
  n = position_count o

  abbrev m : ℕ
  m = rack_count o

  gave : OrderGave o n (edge_count o) m
  gave = order_gave o n (edge_count o) m (unfold counts in sym f.right)

  abbrev g : List ℕ
  g = decoded_rows o

  abbrev h : List ℕ
  h = decoded_starts o

  abbrev k : List ℕ
  k = decoded_goals o

  less : m < n
  less = let v = f.vacancy in omega arith

  t : RingTables o n m g h k
  t = ring-tables gave refl ((rings gave refl).1 f.ring) less refl refl

  well : WellPlaced o
  well = well_placed o f.right

  three : 3 ≤ n
  three = t.rings.bi_connected.three

  abbrev way : List ℕ
  way = round_of n (edge_in g)

  sound_at : {A : List ℕ} → Sound (floor_of o).positions A → Sound n A
  sound_at {A} s = subst (λ (x : ℕ). Sound x A) (sym t.gave.positions_are) s

  starts-placed : Placed n m (row h)
  starts-placed = held_placed (starts_hold t) n m (sound_at well.starts_sound) well.starts_length

  goals-placed : Placed n m (row k)
  goals-placed = held_placed (goals_hold t) n m (sound_at well.goals_sound) well.goals_length

  pub ring-planned : SameRound (floor_of o) m (starts_of o) (goals_of o)
      → (ms : List (ℕ × ℕ)) × (replay_moves (floor_of o) (starts_of o) ms ≡ ended (goals_of o))
  ring-planned same =
      let c = circle t in
      let r = reached three (rows t).small less c (rows t).symmetric (starts_on t way c (λ i l. refl))
      (goals_on t way c (λ i l. refl)) (stand_of t well.starts_sound well.starts_length
      (starts_hold t))
      (stand_of t well.goals_sound well.goals_length (goals_hold t)) (places-round t (starts_of o)
      (goals_of o) same) in (
        r.moves,
        went_replayed (floor_of o) (filled_on_floor t.gave t.rows_are) (starts_of o) (goals_of o) goals-placed.one
            (well.starts_length ∙ sym well.goals_length)
            (held_by (starts_hold t)) (held_by (goals_hold t)) (went_to (λ p. everywhere r p) r.went),
      )
    where
      off : (f : ℕ → ℕ) → Placed n m f → (p : ℕ) → (p < n → ⊥) → f p ≡ 0
      off f v p out = by_cases (ℕ_discrete (f p) 0) (λ e. e) (λ d. absurd (out (v.inside p d)))

      everywhere : (r : Reached (Edge g) n m (λ i. get_or way i 0) (row h) (row k)) → (p : ℕ) → r.end p ≡ row k p
      everywhere r p =
          by_cases (dec_lt p n)
          (λ l.
          let e = circle-every three (circle t) p l in
          ap r.end (sym e.2) ∙ r.there e.0 e.1 ∙ ap (row k) e.2)
          (λ out.
          went_outside n p (rows t).inside (omega arith) r.went ∙ off (row h) starts-placed p out ∙ sym (off
          (row k) goals-placed p out))

  clash : {v : List ℕ} {x p : ℕ} → accepted v ≡ refused x p → ⊥
  clash e = let z : ◌≡◌ {A = ℕ} 0 1 = cc in omega arith

  pub ring-turned_down : TurnedDown o
  ring-turned_down = (
    λ down ms e.
        let leads = (replay_moves_ended (floor_of o) (starts_of o) ms (goals_of o)).0 e in
        let same = moves-kept t well.starts_sound well.starts_length leads in
        clash (ring-plain gave f.ring less same ∙ down),
    λ none.
        by_cases (same_order? m (round_place (floor_of o) (starts_of o)) (round_place (floor_of o) (goals_of o)))
        (λ same. absurd (let p = ring-planned same in none p.0 p.1))
        (λ other. sym (ring_other gave f.ring less other)),
  )
