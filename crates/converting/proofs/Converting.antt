-- The converter's answers: the plan checker's refusal passed up, 38, and the plan in the other edition.
--
--     converter_refused   a refusal of the plan checker is the converter's, and the buffer stays
--     converter_short     38
--     racks_held          the moves leave racks of the table that the starts fill
--     part_head, part_back, moves_room    the head and the moves have room
--     moves_small         an accepted count fits 22 bits
--     converter_made      the answer and the buffer, once moves and head are written
-- Assumes nothing.
use Prim.Native.Nat.{ℕ, ◌+◌, ◌-◌, ◌*◌, ◌/◌, ◌^◌, ◌≤◌, ◌<◌}
use mathlib.Core.Path.{◌≡◌, refl, sym, ap, subst, ◌∙◌}
use mathlib.Core.Bool.{Bool, not}
use mathlib.Core.List.{List, [], ◌∷◌, ◌++◌}
use native.Mathlib.Omega.{arith}
use borrow.Author.Tests.{lt-ltb, le-ltb}
use lib.Dec.{ltb}
use lib.ListN.{length, take, drop, replicate, length-append, length-drop}
use lib.Seq.{length-take-le}
use Rattle.std.specs.Prelude.{Result, IsErrAnd}
use Rattle.answers.specs.Answer.{Answer, accepted, refused, refused_by, refuse, pass_up, the_count}
use Rattle.answers.specs.declared.Refusal.{Refusal}
use Rattle.answers.proofs.AnswerLaws.{pass_up_accepted, pass_up-high, refuse_else, handed_up}
use Rattle.field.proofs.BitLaws.{field_lt}
use Rattle.field.specs.Bits.{positions}
use Rattle.recording.specs.Head.{head_bytes}
use Rattle.recording.proofs.HeadLaws.{length-head_bytes, record_written}
use Rattle.field.proofs.RecordLaws.{rest_is}
use Rattle.field.specs.Listed.{move_size, moves_at, all_units}
use Rattle.field.specs.Packing.{pack_positions}
use Rattle.field.proofs.PackingLaws.{length-packed}
use Rattle.field.proofs.ListedLaws.{length-units}
use Rattle.field.specs.Units.{record_length}
use Rattle.field.specs.Writing.{written, left_by}
use Rattle.order.specs.Order.{edge_count, rack_count, floor_of, starts_of}
use Rattle.order.specs.Tables.{placed}
use Rattle.order.proofs.TailLaws.{tail-starts}
use Rattle.motion.specs.Replay.{listed}
use Rattle.tables.proofs.TablesLaws.{Holds}
use Rattle.tables.proofs.TableLaws.{placed-holds}
use Rattle.plan.specs.Plan.{spare_bits, plan_record, named, move_count, plan_moves, plan_answer}
use Rattle.plan_check.proofs.Accepted.{PlanGave, gave, count_is, count_below, tail-moves}
use Rattle.plan.proofs.Listing.{length_listing, listing_fits}
use Rattle.plan.proofs.PlanRecord.{length_record, record_parts, moves-counted}
use Rattle.converting.specs.Listing.{tabled, Held}
use Rattle.converting.specs.Converter.{converted_of, converter_answer, buffer_after, answer_of}
use Rattle.converting.proofs.Tabling.{tabled-listed, leads_held}

module _ (o p B : List ℕ) where
  after_refusal : (n q : ℕ) → converter_answer o p (length B) ≡ refused n q → B ≡ buffer_after o p B
  unfolding buffer_after
  after_refusal n q e = sym (ap (λ (a : Answer). left_by a (converted_of o p) B) e)

  -- r is what `?` makes of the plan checker's refusal e
  pub converter_refused : (r : Result ℕ Refusal) (e : Refusal) → IsErrAnd r (λ x. x ≡ e) → refused_by e.0 e.1 ≡ plan_answer o p
      → (answer_of r ≡ converter_answer o p (length B)) × (B ≡ buffer_after o p B)
  unfolding converter_answer
  converter_refused r e is down =
      let below = refuse (ltb (length B) (length (converted_of o p))) 38 0 (accepted (move_count p ∷ [])) in
      let up : converter_answer o p (length B) ≡ refused_by e.0 e.1 = ap (λ (x : Answer). pass_up x below) (sym down) in
      (handed_up the_count r e is down below, after_refusal _ _ up)

  module _ (k : ℕ) (e : accepted (k ∷ []) ≡ plan_answer o p) (n : Bool) (edition : n ≡ named p) where
    gives : PlanGave o p (k ∷ [])
    gives = gave o p k e

    converted_length : length (converted_of o p) ≡ 3 + (6 * (move_size (not n) * k) + 7) / 8
    unfolding converted_of record_length
    converted_length =
        length_record (not (named p)) (starts_of o) (plan_moves p) ∙ rw (← edition, moves-counted p, ← count_is o p k e) refl

    answer_is : converter_answer o p (length B) ≡ refuse (ltb (length B) (3 + (6 * (move_size (not n) * k) + 7) / 8)) 38
        0 (accepted (k ∷ []))
    unfolding converter_answer
    answer_is = pass_up_accepted (plan_answer o p) _ (k ∷ []) (sym e) ∙ rw (converted_length, count_is o p k e) refl

    pub converter_short : (u : ℕ) → u ≡ move_size (not n) * k → length B < 3 + (6 * u + 7) / 8
        → (refused 38 0 ≡ converter_answer o p (length B)) × (B ≡ buffer_after o p B)
    converter_short u eu h =
        let up : converter_answer o p (length B) ≡ refused 38 0 = answer_is ∙ rw (← eu, lt-ltb (length B) (3 + (6 * u + 7) / 8) h) refl in
        (sym up, after_refusal 38 0 up)

    -- the table that the starts fill
    module _ (c m : ℕ) (edges : c ≡ edge_count o) (racks : m ≡ rack_count o) (h : List ℕ)
        (filled : h ≡ placed (replicate 64 0) 1 (positions (take (length o - 3) (drop 3 o)) (6 * (2 * c)) m)) where
      held_by : Holds (starts_of o) h
      held_by =
          let g = gives.placed_well in
          rw (filled, tail-starts o c m edges racks) (placed-holds (floor_of o).positions (starts_of o) g.few_positions g.starts_sound)

      pub racks_held : Held h (moves_at n (take (length p - 3) (drop 3 p)) 0 k)
      racks_held =
          let g = gives.placed_well in
          let few : length (starts_of o) ≤ 64 = rw g.starts_length g.few_racks in
          rw (tail-moves o p k e n edition)
          (leads_held (floor_of o) g.few_positions h few g.starts_sound held_by gives.leads)

      module _ (u : ℕ) (eu : u ≡ move_size (not n) * k) (room : 3 + (6 * u + 7) / 8 ≤ length B) where
        pub part_head : 3 ≤ length B
        part_head = omega (arith, room)

        -- the buffer when its part behind the head has come back
        pub part_back : (y : List ℕ) → 3 ≤ length (take 3 B ++ y)
        part_back y = omega (arith, length-append (take 3 B) y, length-take-le 3 B part_head)

        pub moves_room : (6 * (move_size (not n) * k) + 7) / 8 ≤ length (take (length B - 3) (drop 3 B))
        moves_room = rw (rest_is 3 B, length-drop 3 B, ← eu) (omega (arith, room))

        abbrev moves : List ℕ
        moves = pack_positions (all_units (not n) (listed (not n) (starts_of o) (plan_moves p)))

        listed_are : pack_positions (all_units (not n) (tabled h (moves_at n (take (length p - 3) (drop 3 p)) 0 k))) ≡ moves
        listed_are =
            let g = gives.placed_well in
            ap pack_positions
            (ap (λ (ms : List (ℕ × ℕ)). all_units (not n) (tabled h ms)) (tail-moves o p k e n edition)
            ∙ tabled-listed (floor_of o) g.few_positions (not n) h g.starts_sound held_by gives.leads)

        many : length (listed (not n) (starts_of o) (plan_moves p)) ≡ k
        many = length_listing (not n) (starts_of o) (plan_moves p) ∙ moves-counted p ∙ sym (count_is o p k e)

        size : length moves ≡ (6 * (move_size (not n) * k) + 7) / 8
        size =
            length-packed (all_units (not n) (listed (not n) (starts_of o) (plan_moves p)))
            ∙ ap (λ (q : ℕ). (6 * q + 7) / 8)
            (length-units (not n) (listed (not n) (starts_of o) (plan_moves p)) ∙ ap (λ (q : ℕ). move_size (not n) * q) many)

        parts : converted_of o p ≡ head_bytes k (spare_bits (not n)) ++ moves
        unfolding converted_of plan_record
        parts =
            let g = gives.placed_well in
            let few : length (starts_of o) ≤ 64 = rw g.starts_length g.few_racks in
            rw (← edition)
            (record_parts (not n) (listed (not n) (starts_of o) (plan_moves p)) (rw many (count_below o p k e))
            (listing_fits (not n) (floor_of o) g.few_positions few gives.leads)
            ∙ ap (λ (j : ℕ). head_bytes j (spare_bits (not n)) ++ moves) many)

        pub converter_made : (t : List ℕ)
            → t ≡ written (take (length B - 3) (drop 3 B)) 0
            (pack_positions (all_units (not n) (tabled h (moves_at n (take (length p - 3) (drop 3 p)) 0 k))))
            → (x : ℕ) → x ≡ spare_bits (not n) → (b : List ℕ)
            → b ≡ written (take 3 B ++ (t ++ drop (length B - 3) (drop 3 B))) 0 (head_bytes k x)
            → (accepted (k ∷ []) ≡ converter_answer o p (length B)) × (b ≡ buffer_after o p B)
        unfolding buffer_after
        converter_made t et x ex b eb =
            let up : converter_answer o p (length B) ≡ accepted (k ∷ []) =
            answer_is ∙ rw (← eu, le-ltb (length B) (3 + (6 * u + 7) / 8) room) refl in
            let fits : 3 + length moves ≤ length B = omega (arith, size, eu, room) in (
              sym up,
              eb ∙ ap (λ (y : ℕ). written (take 3 B ++ (t ++ drop (length B - 3) (drop 3 B))) 0 (head_bytes k y)) ex
                  ∙ record_written B (head_bytes k (spare_bits (not n))) moves t (length-head_bytes k (spare_bits (not n))) fits
                  (et ∙ ap (written (take (length B - 3) (drop 3 B)) 0) listed_are)
                  ∙ ap (written B 0) (sym parts) ∙ sym (ap (λ (a : Answer). left_by a (converted_of o p) B) up),
            )

-- what acceptance by the converter tells: the count is the plan's
pub moves_small : (o p : List ℕ) (n k : ℕ) → accepted (k ∷ []) ≡ converter_answer o p n → k < 2 ^ 22
unfolding converter_answer move_count
moves_small o p n k e =
    let after = refuse (ltb n (length (converted_of o p))) 38 0 (accepted (move_count p ∷ [])) in
    let high : after ≡ accepted (k ∷ []) = pass_up-high (plan_answer o p) after (k ∷ []) (sym e) in
    let count : accepted (move_count p ∷ []) ≡ accepted (k ∷ []) =
    refuse_else (ltb n (length (converted_of o p))) 38 0 (accepted (move_count p ∷ [])) (k ∷ []) high in
    let same : move_count p ≡ k = cc in
    subst (λ (x : ℕ). x < 2 ^ 22) same (field_lt p 0 22)
