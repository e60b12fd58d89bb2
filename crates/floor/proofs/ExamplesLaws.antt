-- The case book's floors, judged by computation: document 01, "Case book", 4 and 5. F is n = 4, edges 0-1, 0-2, 1-2, 1-3, 2-3. And floors
-- of request (j), "Four sides only".
--
--     two_racks       F with two racks, the order of "Programs": none of 20, 21, 24 and 26
--     path_of_three    the path of three with two racks: 20, though 21 applies too
--     turned_edge     an edge with its higher position first: 13, the order reader's refusal
--     four_spokes     a position in the middle of a ring of four, joined to each: none of them
--     five_spokes     in the middle of a ring of five: 26, though each start is its goal
--     five_full       the same floor with five racks: 20, though 26 applies too
--     five_rays       without the ring round it: 21, though 26 applies too
--     floors_judged  these answers
--     plannable_met, four_met, ring_met, on_met, rows_met    what `Plannable` asks can be met, off rings, with four neighbours to a
--                    position too, and on one, and what crates/breakdown asks of a floor's rows
-- Assumes nothing.
use Prim.Native.Nat.{ℕ}
use mathlib.Core.Path.{◌≡◌, refl}
use mathlib.Core.List.{List, [], ◌∷◌}
use mathlib.Core.Logic.{⊎_elim}
use native.Mathlib.Omega.{arith}
use Rattle.answers.specs.Answer.{accepted, refused}
use Rattle.field.specs.Bits.{bits_of, bits, number, field, pairs, positions, pad}
use Rattle.field.specs.Units.{record_length, misfits, pad_set, unclean}
use Rattle.order.specs.Floor.{some, is_pair, joined}
use Rattle.order.specs.Order.{position_count, edge_count, rack_count, unit_count, floor_of, starts_of, goals_of, order_of, wrong_length}
use Rattle.order.specs.Order.{wrong_positions, padding_set, bad_edge, precedes, ascending, wrong_edges, repeats, wrong_places, wrong_racks}
use Rattle.order.specs.Order.{counts, order_answer}
use Rattle.motion.specs.Arrangement.{stands}
use Rattle.sets.specs.First.{first_from}
use Rattle.sets.specs.Sum.{sum_below}
use Rattle.ring.specs.Circle.{place_on, round_of, follow, onward}
use Rattle.graph.specs.Connected.{BiConnected, Ring}
use Rattle.graph.specs.Rows.{Edge}
use Rattle.graph.specs.EdgeCount.{edge_count as edges_in}
use Rattle.floor.specs.FloorAnswer.{bi_connected?, ring?, round_place, same_round?, floor_answer}
use Rattle.ring.proofs.RoundDecision.{rack?, in_turn?, same_order?}
use Rattle.floor.specs.Sides.{count_of, neighbours_at, four_sided?}
use Rattle.order.specs.Tables.{rows_of}
use Rattle.floor.specs.Plannable.{OffRing, OnRing, Plannable}
use Rattle.answers.proofs.AnswerLaws.{holds-true}
use Rattle.floor.proofs.FloorLaws.{plannable, off_ring_rows}
use Rattle.floor.specs.CaseBookOrders.{three_in_ring, mirrored, three_racks, path_of_four}

-- F, racks from 0, 3 to 3, 0
abbrev pub two_racks : List ℕ
two_racks = 0x08 ∷ 0x0A ∷ 0x08 ∷ 0x00 ∷ 0x10 ∷ 0x02 ∷ 0x04 ∷ 0x20 ∷ 0x43 ∷ 0x08 ∷ 0x30 ∷ 0x03 ∷ 0x0C ∷ 0x00 ∷ []

-- n = 3, edges 0-1, 1-2, racks from 0, 1 to 1, 2
abbrev pub path_of_three : List ℕ
path_of_three = 0x06 ∷ 0x04 ∷ 0x08 ∷ 0x00 ∷ 0x10 ∷ 0x42 ∷ 0x00 ∷ 0x10 ∷ 0x42 ∷ []

-- n = 2, edge 1-0
abbrev pub turned_edge : List ℕ
turned_edge = 0x04 ∷ 0x02 ∷ 0x00 ∷ 0x04 ∷ 0x00 ∷ []

-- n = 5, edges 0-1, 0-2, 0-3, 0-4, 1-2, 1-4, 2-3, 3-4, rack 1 from 0 to 1
abbrev pub four_spokes : List ℕ
four_spokes =
    0x0A ∷ 0x10 ∷ 0x04 ∷ 0x00 ∷ 0x10 ∷ 0x02 ∷ 0x00 ∷ 0x30 ∷ 0x04 ∷ 0x04 ∷ 0x20 ∷ 0x44 ∷ 0x08 ∷ 0x30 ∷ 0xC4 ∷ 0x00 ∷ 0x10 ∷ []

-- n = 6, edges 0-1, 0-2, 0-3, 0-4, 0-5, 1-2, 1-5, 2-3, 3-4, 4-5, rack 1 from 0 to 0
abbrev pub five_spokes : List ℕ
five_spokes =
    0x0C ∷ 0x14 ∷ 0x04 ∷ 0x00 ∷ 0x10 ∷ 0x02 ∷ 0x00 ∷ 0x30 ∷ 0x04 ∷ 0x00 ∷ 0x50 ∷ 0x42 ∷ 0x04 ∷ 0x50 ∷ 0x83 ∷ 0x0C ∷ 0x41 ∷ 0x05 ∷ 0x00
    ∷ 0x00 ∷ []

-- the same edges, racks from 0, 1, 2, 3, 4 to 0, 1, 2, 3, 4
abbrev pub five_full : List ℕ
five_full =
    0x0C ∷ 0x14 ∷ 0x14 ∷ 0x00 ∷ 0x10 ∷ 0x02 ∷ 0x00 ∷ 0x30 ∷ 0x04 ∷ 0x00 ∷ 0x50 ∷ 0x42 ∷ 0x04 ∷ 0x50 ∷ 0x83 ∷ 0x0C ∷ 0x41 ∷ 0x05 ∷ 0x00
    ∷ 0x10 ∷ 0x83 ∷ 0x10 ∷ 0x00 ∷ 0x42 ∷ 0x0C ∷ 0x40 ∷ []

-- n = 6, edges 0-1, 0-2, 0-3, 0-4, 0-5, rack 1 from 0 to 1
abbrev pub five_rays : List ℕ
five_rays = 0x0C ∷ 0x0A ∷ 0x04 ∷ 0x00 ∷ 0x10 ∷ 0x02 ∷ 0x00 ∷ 0x30 ∷ 0x04 ∷ 0x00 ∷ 0x50 ∷ 0x01 ∷ []

pub floors_judged :
    (floor_answer three_in_ring ≡ accepted [])
    × (floor_answer three_racks ≡ refused 20 0)
    × (floor_answer two_racks ≡ accepted [])
    × (floor_answer path_of_four ≡ refused 21 0)
    × (floor_answer path_of_three ≡ refused 20 0)
    × (floor_answer turned_edge ≡ refused 13 0)
    × (floor_answer mirrored ≡ refused 24 0)
    × (floor_answer four_spokes ≡ accepted [])
    × (floor_answer five_spokes ≡ refused 26 0)
    × (floor_answer five_full ≡ refused 20 0)
    × (floor_answer five_rays ≡ refused 21 0)
unfolding floor_answer bi_connected? ring? four_sided? count_of same_round? round_place same_order? rack? in_turn?
    place_on round_of follow onward
    first_from stands joined some is_pair order_answer wrong_length misfits record_length unit_count wrong_positions
    padding_set pad_set unclean pad
    wrong_edges bad_edge precedes ascending wrong_racks wrong_places repeats order_of floor_of starts_of goals_of counts
    position_count edge_count
    rack_count field number bits_of bits pairs positions
floors_judged = (refl, refl, refl, refl, refl, refl, refl, refl, refl, refl, refl)

pub plannable_met : Plannable two_racks
plannable_met = plannable two_racks [] floors_judged.2

pub four_met : Plannable four_spokes × (neighbours_at (floor_of four_spokes) 0 ≡ 4)
unfolding sum_below joined some is_pair floor_of position_count edge_count pairs positions field number bits_of bits
four_met = (plannable four_spokes [] floors_judged.7, refl)

pub ring_met : Plannable three_in_ring
ring_met = plannable three_in_ring [] floors_judged.0

pub on_met : OnRing three_in_ring
unfolding ring? bi_connected? joined some is_pair floor_of position_count edge_count pairs positions field number bits_of bits
on_met = ⊎_elim (λ k. absurd (k.no_ring (holds-true (ring? (floor_of three_in_ring)) refl))) (λ k. k) ring_met.kind

off_met : OffRing two_racks
unfolding floor_of position_count edge_count pairs positions field number bits_of bits
off_met = ⊎_elim (λ k. k) (λ k. absurd (let z : ◌≡◌ {A = ℕ} 5 4 = k.ring.count in omega arith)) plannable_met.kind

pub rows_met : BiConnected 4 (Edge (rows_of (floor_of two_racks)))
    × (Ring 4 (Edge (rows_of (floor_of two_racks))) (edges_in (rows_of (floor_of two_racks)) 4) → ⊥)
unfolding floor_of position_count field number bits_of bits
rows_met = off_ring_rows two_racks plannable_met off_met
