-- Laws of what specs/Theorems.antt defines.
--
--     there_and_back     of every accepted plan, of either edition: in the other edition it is accepted too, and converted back it is
--                        restored
-- Assumes nothing.
use Prim.Native.Nat.{ℕ, ◌≤◌}
use mathlib.Core.Path.{◌≡◌, refl, sym, ap, ap₂, ◌∙◌}
use mathlib.Core.Bool.{Bool, true, false, not}
use mathlib.Core.List.{List, [], ◌∷◌}
use borrow.Author.Tests.{le-ltb}
use lib.ListN.{length}
use Rattle.answers.specs.Answer.{accepted}
use Rattle.field.specs.Bytes.{Bytes}
use Rattle.field.specs.Listed.{moves_of}
use Rattle.order.specs.Order.{rack_count, floor_of, starts_of, goals_of}
use Rattle.motion.specs.Replay.{listed, replay_moves, ended}
use Rattle.motion.proofs.Lawful.{replay_moves_ended}
use Rattle.motion.proofs.PebbleLaws.{pebble_replay}
use Rattle.plan.specs.Plan.{plan_bytes, plan_record, named, move_count, plan_listed, plan_moves, plan_answer}
use Rattle.plan_check.proofs.Accepted.{PlanGave, gave, count_is, count_below}
use Rattle.plan.proofs.Listing.{moves-listed, length_listing, listing_fits}
use Rattle.plan.proofs.PlanRecord.{Written, written as record_written, length_record, record_read, moves-counted}
use Rattle.plan_check.proofs.Replayed.{plan_replayed}
use Rattle.converting.specs.Converter.{converted_of, converter_answer, buffer_after}
use Rattle.converting.specs.Theorems.{ThereAndBack}

not-not : (b : Bool) → not (not b) ≡ b
not-not true = refl
not-not false = refl

module _ (o p : List ℕ) (bytes : Bytes p) (k : ℕ) (e : accepted (k ∷ []) ≡ plan_answer o p) where
  gives : PlanGave o p (k ∷ [])
  gives = gave o p k e

  abbrev list : List (ℕ × ℕ × ℕ)
  list = listed (not (named p)) (starts_of o) (plan_moves p)

  many : length list ≡ move_count p
  many = length_listing (not (named p)) (starts_of o) (plan_moves p) ∙ moves-counted p

  -- the record in the other edition
  record_is : Written (not (named p)) list
  record_is =
      let g = gives.placed_well in
      let few : length (starts_of o) ≤ 64 = rw g.starts_length g.few_racks in
      record_written (not (named p)) list (rw (many, ← count_is o p k e) (count_below o p k e))
      (listing_fits (not (named p)) (floor_of o) g.few_positions few gives.leads)

  edition : named (converted_of o p) ≡ not (named p)
  unfolding converted_of plan_record
  edition = record_is.edition_is

  listed_is : plan_listed (converted_of o p) ≡ list
  unfolding converted_of plan_record
  listed_is = record_is.listed_are

  moves : plan_moves (converted_of o p) ≡ plan_moves p
  unfolding plan_moves
  moves = ap moves_of listed_is ∙ moves-listed (not (named p)) (starts_of o) (plan_moves p)

  count : move_count (converted_of o p) ≡ move_count p
  count = sym (moves-counted (converted_of o p)) ∙ ap length moves ∙ moves-counted p

  -- from the one fact about replay, that it tells the rack of each move: p lists its moves as replay does
  back : converted_of o (converted_of o p) ≡ p
  unfolding converted_of plan_record
  back =
      ap₂ (λ (n : Bool) (ms : List (ℕ × ℕ)). plan_bytes n (listed n (starts_of o) ms)) (ap not edition ∙ not-not (named p)) moves
      ∙ ap (plan_bytes (named p)) (sym gives.racks_told)
      ∙ record_read p bytes gives.length_right gives.padding_clear

  accepted_too : plan_answer o (converted_of o p) ≡ accepted (move_count p ∷ [])
  accepted_too =
      let q = converted_of o p in
      let g = gives.placed_well in
      let solved = (pebble_replay (floor_of o) (rack_count o) (starts_of o) (goals_of o) g.task).0 (plan_moves q) in
      let replayed : replay_moves (floor_of o) (starts_of o) (plan_moves q) ≡ ended (goals_of o) =
      (replay_moves_ended (floor_of o) (starts_of o) (plan_moves q) (goals_of o)).1 (rw moves gives.leads) in
      ((plan_replayed o).0 q (move_count p ∷ [])).1
      (record {
        order_right = gives.order_right;
        length_right = unfold converted_of plan_record in record_is.length_right;
        padding_clear = unfold converted_of plan_record in record_is.padding_clear;
        counted = ap (λ (n : ℕ). n ∷ []) count;
        solution = rw moves-counted at (solved.0 replayed);
        racks_told = listed_is ∙ ap₂ (λ (n : Bool) (ms : List (ℕ × ℕ)). listed n (starts_of o) ms) (sym edition) (sym moves);
      })

  pub there_and_back : ThereAndBack o p
  there_and_back = record {
    other_edition = edition;
    same_moves = moves;
    length_is = unfold converted_of in length_record (not (named p)) (starts_of o) (plan_moves p) ∙ rw (moves-counted p) refl;
    accepted_too = accepted_too;
    restored = back;
    written_back = unfold buffer_after converter_answer in λ B room.
        rw (accepted_too, back, le-ltb (length B) (length p) room) refl;
  }
