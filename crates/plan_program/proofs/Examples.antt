-- What the plan program writes for the case book's orders, whatever stood in the lent bytes, by computation.
--
--     four_by_four         the model of 4 by 4 positions, and no racks
--     large              it can be planned, though not in 65,536 bytes
--     all_of_sixteen       16 positions, every two of them joined, and no racks: 26, though 23 applies too
--     refusals_met       the planner's refusals of these orders, with 65,536 bytes
--     floor_line         the line of 23, byte for byte
--     lines_met          no input; F with three racks; the path of four; a ring the other way round; the two floors of 16 positions: a line
--                        each
--     moves₁, plan₁      the plan of "Programs", and its record in edition two
--     plan_met           the order of "Programs": that record may be written
--     lent_met           what is asked of the lent bytes can be met
-- Assumes nothing.
use Prim.Native.Nat.{ℕ, ◌≤◌}
use mathlib.Core.Path.{◌≡◌, refl, ap, subst, ◌∙◌}
use mathlib.Core.Bool.{true, false}
use mathlib.Core.List.{List, [], ◌∷◌}
use native.Mathlib.Omega.{arith}
use lib.ListN.{length, get_or, replicate, length-replicate}
use lib.Dec.{lit≤}
use Rattle.answers.specs.Ascii.{ascii}
use Rattle.answers.specs.Answer.{accepted, refused}
use Rattle.answers.specs.Family.{family_word, within}
use Rattle.field.specs.Bits.{bits, number, bits_of, field, pairs, positions, pair_bits, position_bits, pad, padded, bytes, to_bytes}
use Rattle.field.specs.Units.{record_length, misfits, pad_set, unclean}
use Rattle.field.specs.Listed.{units, all_units}
use Rattle.field.specs.Writing.{written}
use Rattle.order.specs.Floor.{some, is_pair, joined}
use Rattle.order.specs.Order.{order_bits, order_record, position_count, edge_count, rack_count, unit_count}
use Rattle.order.specs.Order.{floor_of, starts_of, goals_of, order_of}
use Rattle.order.specs.Order.{wrong_length, wrong_positions, padding_set, bad_edge, precedes, ascending, wrong_edges, repeats}
use Rattle.order.specs.Order.{wrong_places, wrong_racks, counts, order_answer}
use Rattle.order.specs.EdgeSets.{edges_listed, is_edge, floor_from}
use Rattle.plan_check.proofs.Examples.{plan_open}
use Rattle.plan.specs.Plan.{spare_bits, plan_bits, plan_bytes, plan_record}
use Rattle.writers.specs.Lines.{digits, decimal, refusal_line}
use Rattle.motion.specs.Arrangement.{stands, rack_from, rack_at}
use Rattle.motion.specs.Move.{goes_to, after, after_move}
use Rattle.motion.specs.Replay.{replay_moves, listed as listed_from}
use Rattle.sets.specs.First.{first_from}
use Rattle.ring.specs.Circle.{place_on, round_of, follow, onward}
use Rattle.floor.specs.FloorAnswer.{bi_connected?, ring?, round_place, same_round?, floor_answer}
use Rattle.ring.proofs.RoundDecision.{rack?, in_turn?, same_order?}
use Rattle.floor.specs.Plannable.{Plannable}
use Rattle.floor.specs.Sides.{count_of, four_sided?}
use Rattle.floor.proofs.FloorLaws.{plannable_is}
use Rattle.floor.specs.CaseBookOrders.{mirrored, three_racks, path_of_four}
use Rattle.floor.proofs.ExamplesLaws.{two_racks}
use Rattle.models.specs.Grid.{rows_of, columns_of, unknown_model, grid, model_floor}
use Rattle.models.specs.ShortOrder.{short_record}
use Rattle.models.specs.Expansion.{expanded}
use Rattle.models.proofs.Theorems.{model_plannable}
use Rattle.models.proofs.EveryShort.{model_order}
use Rattle.method.specs.Moves.{Solves}
use Rattle.planner.specs.Planner.{refusals, made}
use Rattle.plan_program.specs.Printed.{Printed}
use Rattle.plan_program.proofs.PrintedLaws.{made_printed, line_printed}

unfoldable pub four_by_four : List ℕ
four_by_four = expanded (short_record (record { model = 3; starts = []; goals = [] }))

known : unknown_model 3 ≡ false
unfolding unknown_model
known = refl

sixteen : position_count four_by_four ≡ 16
unfolding four_by_four floor_of model_floor grid rows_of columns_of
sixteen = (model_order 3 known).0.positions

-- the hypotheses of `printed_large` hold of something
pub large : Plannable four_by_four × (16 ≤ position_count four_by_four)
unfolding four_by_four
large = let m = model_order 3 known in (model_plannable four_by_four 3 m.0 m.1, omega (arith, sixteen))

unfoldable pub all_of_sixteen : List ℕ
all_of_sixteen = order_record (record { floor = floor_from 16 (λ a b. true); starts = []; goals = [] })

large_refused : refusals four_by_four 65536 ≡ refused 23 0
unfolding refusals
large_refused = rw (plannable_is four_by_four large.0, sixteen) refl

pub refusals_met :
    (refusals [] 65536 ≡ refused 10 0)
    × (refusals three_racks 65536 ≡ refused 20 0)
    × (refusals path_of_four 65536 ≡ refused 21 0)
    × (refusals mirrored 65536 ≡ refused 24 0)
    × (refusals four_by_four 65536 ≡ refused 23 0)
    × (refusals all_of_sixteen 65536 ≡ refused 26 0)
    × (refusals two_racks 65536 ≡ accepted [])
unfolding refusals all_of_sixteen order_record order_bits floor_from edges_listed is_edge bits pair_bits position_bits
    to_bytes padded pad bytes
    floor_answer bi_connected? ring? four_sided? count_of same_round? round_place same_order? rack? in_turn? place_on round_of follow onward
    first_from stands joined some is_pair order_answer wrong_length misfits record_length unit_count wrong_positions
    padding_set pad_set unclean
    wrong_edges bad_edge precedes ascending wrong_racks wrong_places repeats order_of floor_of starts_of goals_of counts
    position_count edge_count
    rack_count field number bits_of pairs positions
refusals_met = (refl, refl, refl, refl, large_refused, refl, refl)

-- refused 23 0 floor
pub floor_line : refusal_line 23 0
    ≡ 114 ∷ 101 ∷ 102 ∷ 117 ∷ 115 ∷ 101 ∷ 100 ∷ 32 ∷ 50 ∷ 51 ∷ 32 ∷ 48 ∷ 32 ∷ 102 ∷ 108 ∷ 111 ∷ 111 ∷ 114 ∷ 10 ∷ []
unfolding refusal_line decimal digits family_word within ascii
floor_line = refl

abbrev moves₁ : List (ℕ × ℕ)
moves₁ = (0, 1) ∷ (3, 2) ∷ (2, 0) ∷ (1, 3) ∷ []

abbrev pub plan₁ : List ℕ
plan₁ = 0x00 ∷ 0x00 ∷ 0x11 ∷ 0x00 ∷ 0x10 ∷ 0x03 ∷ 0x08 ∷ 0x10 ∷ 0x80 ∷ 0x04 ∷ 0x10 ∷ 0xC0 ∷ []

record₁ : plan_record true (starts_of two_racks) moves₁ ≡ plan₁
unfolding plan_record plan_bytes plan_bits spare_bits listed_from rack_at rack_from after_move after goes_to all_units
    units position_bits bits
    to_bytes padded pad bytes number starts_of position_count edge_count rack_count field bits_of positions
record₁ = refl

solves₁ : Solves two_racks (position_count two_racks) moves₁
unfolding plan_open replay_moves
solves₁ = record {
  few = lit≤ tt;
  replayed = refl;
  still = λ e. absurd (let first : ◌≡◌ {A = ℕ} 0 3 = ap (λ (l : List ℕ). get_or l 0 0) e in omega arith);
}

pub lent_met : length (replicate {A = ℕ} 65536 0) ≡ 65536
lent_met = length-replicate {A = ℕ} 65536 0

module _ (B : List ℕ) (lent : length B ≡ 65536) where
  pub lines_met :
      Printed [] B (written B 0 (refusal_line 10 0)) (length (refusal_line 10 0))
      × Printed three_racks B (written B 0 (refusal_line 20 0)) (length (refusal_line 20 0))
      × Printed path_of_four B (written B 0 (refusal_line 21 0)) (length (refusal_line 21 0))
      × Printed mirrored B (written B 0 (refusal_line 24 0)) (length (refusal_line 24 0))
      × Printed four_by_four B (written B 0 (refusal_line 23 0)) (length (refusal_line 23 0))
      × Printed all_of_sixteen B (written B 0 (refusal_line 26 0)) (length (refusal_line 26 0))
  lines_met = (
    line_printed lent refusals_met.0,
    line_printed lent refusals_met.1,
    line_printed lent refusals_met.2,
    line_printed lent refusals_met.3,
    line_printed lent refusals_met.4,
    line_printed lent refusals_met.5,
  )

  pub plan_met : Printed two_racks B (written B 0 plan₁) 12
  plan_met =
      subst (λ (p : List ℕ). Printed two_racks B (written B 0 p) 12) record₁
      (made_printed lent (made moves₁ (ap (refusals two_racks) lent ∙ refusals_met.6) solves₁) refl)
