-- The shortener's answers: the plan checker's refusal passed up, 37, and the shortened plan.
--
--     shortener_refused    a refusal of the plan checker is the shortener's, and the buffer stays
--     shortener_short      37
--     part_head, part_back, part_room    the head and the moves have room
--     listed_at_read        a move of a list that is read, as it is read by its index
--     passes_same          a pass over the same moves
--     few_kept             the count of what is kept fits the head
--     moves_small          an accepted answer's count is below 2 ^ 22
--     shortener_made       the answer and the buffer, once moves and head are written
-- Assumes nothing.
use Prim.Native.Nat.{ℕ, zero, suc, ◌+◌, ◌-◌, ◌*◌, ◌/◌, ◌^◌, ◌≤◌, ◌<◌}
use mathlib.Core.Bool.{Bool}
use mathlib.Core.Path.{◌≡◌, refl, sym, ap, ◌∙◌}
use mathlib.Core.List.{List, [], ◌∷◌, ◌++◌}
use native.Mathlib.Omega.{arith}
use native.Mathlib.Nat.{zero-add}
use borrow.Author.Tests.{lt-ltb, le-ltb}
use lib.Dec.{ltb}
use lib.ListN.{length, get_or, take, drop, length-append, length-drop}
use lib.Seq.{length-take-le}
use Rattle.std.specs.Prelude.{Result, IsErrAnd}
use Rattle.answers.specs.declared.Refusal.{Refusal}
use Rattle.answers.specs.Answer.{Answer, accepted, refused, refused_by, refuse, the_count}
use Rattle.answers.proofs.AnswerLaws.{refuse_else, pass_up-high, pass_up_refused, pass_up_accepted, handed_up}
use Rattle.field.specs.Bits.{field}
use Rattle.recording.specs.Head.{head_bytes}
use Rattle.field.specs.Listed.{move_size, rack_field, listed_moves, all_units, ListedFit}
use Rattle.field.specs.Packing.{pack_positions}
use Rattle.field.specs.Writing.{written, left_by}
use Rattle.field.proofs.BitLaws.{field_lt}
use Rattle.recording.proofs.HeadLaws.{length-head_bytes, record_written}
use Rattle.field.proofs.ListedLaws.{size_none, size-next, length-units, listed-drop}
use Rattle.field.proofs.PackingLaws.{length-packed}
use Rattle.field.proofs.RecordLaws.{rest_is}
use Rattle.field.proofs.UnitLaws.{Fitting, fitting}
use Rattle.order.specs.Order.{floor_of, starts_of, goals_of}
use Rattle.motion.specs.Replay.{listed}
use Rattle.motion.proofs.ListedLaws.{LeadsListed, listed_leads}
use Rattle.plan.specs.Plan.{spare_bits, plan_record, named, move_count, plan_listed, plan_moves, plan_units, wrong_plan_length, plan_answer}
use Rattle.plan_check.proofs.Accepted.{PlanGave, gave, count_is, count_below}
use Rattle.plan.proofs.Listing.{length_listing, listing_fits}
use Rattle.plan.proofs.PlanRecord.{listed-counted, moves-counted, record_parts}
use Rattle.plan_check.proofs.Replayed.{listed_fits}
use Rattle.shortening.specs.Rule.{shortened}
use Rattle.cancelling.specs.Stack.{Passes, begun, next, laid}
use Rattle.cancelling.specs.Looking.{listed_of, Shortened}
use Rattle.shortening.specs.Shortener.{shortened_of, shortener_answer, buffer_after, answer_of}
use Rattle.cancelling.proofs.LookingLaws.{bytes_fewer}
use Rattle.shortening.proofs.RuleLaws.{shortened_rule, shortens_length}
use Rattle.shortening.proofs.RemovalLaws.{shortens_leads}
use Rattle.shortening.proofs.PassLaws.{listed_at, passes_listed}

-- the moves of a byte string, as it lists them, by their indices
pub listed_at_read : (e : Bool) (s : List ℕ) (b k i : ℕ) → i < k
    → get_or (listed_moves e s b k) i (0, 0, 0)
    ≡ (
      field s (b + 6 * (move_size e * i)) 6,
      field s (b + 6 * (move_size e * i) + 6) 6,
      rack_field e s (b + 6 * (move_size e * i) + 12),
    )
unfolding listed_moves
listed_at_read e s b zero i h = absurd (omega arith)
listed_at_read e s b (suc k) zero h = let z : b + 6 * (move_size e * 0) ≡ b = omega (arith, size_none e) in rw z
listed_at_read e s b (suc k) (suc i) h =
    let z : b + 6 * (move_size e * suc i) ≡ b + 6 * move_size e + 6 * (move_size e * i) = omega (arith, size-next e i) in
    rw z (listed_at_read e s (b + 6 * move_size e) k i (omega arith))

pub passes_same : (f g : ℕ → ℕ × ℕ × ℕ) {j : ℕ} {K : List (ℕ × ℕ × ℕ)} → ((i : ℕ) → i < j → f i ≡ g i) → Passes f j K → Passes g j K
passes_same f g same begun = begun
passes_same f g same (next {j = j} p q) =
    next (passes_same f g (λ i h. same i (omega arith)) p) (rw (same j (omega arith)) at q)

module _ (o p B : List ℕ) where
  after_refusal : (n q : ℕ) → shortener_answer o p (length B) ≡ refused n q → B ≡ buffer_after o p B
  unfolding buffer_after
  after_refusal n q e = sym (ap (λ (a : Answer). left_by a (plan_record (named p) (starts_of o) (shortened_of o p)) B) e)

  -- r is what `?` makes of the plan checker's refusal e
  pub shortener_refused : (r : Result ℕ Refusal) (e : Refusal) → IsErrAnd r (λ x. x ≡ e) → refused_by e.0 e.1 ≡ plan_answer o p
      → (answer_of r ≡ shortener_answer o p (length B)) × (B ≡ buffer_after o p B)
  unfolding shortener_answer
  shortener_refused r e is below =
      let up : shortener_answer o p (length B) ≡ refused_by e.0 e.1 =
      sym (pass_up_refused (plan_answer o p) _ _ _ (sym below)) ∙ sym below in
      (handed_up the_count r e is below _, after_refusal _ _ up)

  module _ (k : ℕ) (e : accepted (k ∷ []) ≡ plan_answer o p) where
    gives : PlanGave o p (k ∷ [])
    gives = gave o p k e

    count : k ≡ move_count p
    count = count_is o p k e

    few_moves : k < 2 ^ 22
    few_moves = count_below o p k e

    fit : Fitting p (plan_units p)
    unfolding wrong_plan_length
    fit = fitting p (plan_units p) gives.length_right

    length_is : length p ≡ 3 + (6 * (move_size (named p) * k) + 7) / 8
    unfolding plan_units
    length_is = rw count fit.length_is

    -- the part of a byte string behind a head
    abbrev behind : List ℕ → List ℕ
    behind l = take (length l - 3) (drop 3 l)

    tail-listed : listed_moves (named p) (behind p) 0 k ≡ plan_listed p
    unfolding plan_listed
    tail-listed = rw (rest_is 3 p, ← listed-drop (named p) p 3 0 k, count) refl

    leads_listed : LeadsListed (floor_of o) (starts_of o) (plan_listed p) (goals_of o)
    leads_listed = rw gives.racks_told (listed_leads (named p) (floor_of o) gives.leads)

    answer_is : shortener_answer o p (length B) ≡ refuse (ltb (length B) (length p)) 37 0 (accepted (length (shortened_of o p) ∷ []))
    unfolding shortener_answer
    answer_is = pass_up_accepted (plan_answer o p) _ (k ∷ []) (sym e)

    pub shortener_short : length B < length p → (refused 37 0 ≡ shortener_answer o p (length B)) × (B ≡ buffer_after o p B)
    shortener_short h =
        let up : shortener_answer o p (length B) ≡ refused 37 0 = answer_is ∙ rw (lt-ltb (length B) (length p) h) refl in
        (sym up, after_refusal 37 0 up)

    module _ (room : length p ≤ length B) where
      pub part_head : 3 ≤ length B
      part_head = omega (arith, fit.head_there, room)

      -- the buffer when its part behind the head has come back
      pub part_back : (y : List ℕ) → 3 ≤ length (take 3 B ++ y)
      part_back y = omega (arith, length-append (take 3 B) y, length-take-le 3 B part_head)

      pub part_room : (edition : Bool) → edition ≡ named p → (6 * (move_size edition * k) + 7) / 8 ≤ length (behind B)
      part_room edition told = rw (told, rest_is 3 B, length-drop 3 B) (omega (arith, length_is, room))

      up : shortener_answer o p (length B) ≡ accepted (length (shortened_of o p) ∷ [])
      up = answer_is ∙ rw (le-ltb (length B) (length p) room) refl

      -- what is left, as the edition lists it
      left : List (ℕ × ℕ × ℕ)
      left = listed (named p) (starts_of o) (shortened_of o p)

      count_left : length left ≡ length (shortened_of o p)
      unfolding left
      count_left = length_listing (named p) (starts_of o) (shortened_of o p)

      few : length left ≤ k
      unfolding shortened_of
      few =
          omega (
            arith,
            count_left,
            shortens_length (starts_of o) (shortened_rule (starts_of o) (plan_moves p)),
            moves-counted p,
            count,
          )

      fits : ListedFit (named p) left
      unfolding left shortened_of
      fits =
          let g = gives.placed_well in
          listing_fits (named p) (floor_of o) g.few_positions (rw g.starts_length g.few_racks)
          (shortens_leads (floor_of o) (shortened_rule (starts_of o) (plan_moves p)) gives.leads)

      module _ (edition : Bool) (told : edition ≡ named p) (n : ℕ) (t : List ℕ) (w : Shortened edition (behind p) k (behind B) n t) where
        wrote : Shortened (named p) (behind p) k (behind B) n t
        wrote = rw told at w

        moves : Passes (listed_at (plan_listed p)) (length (plan_listed p)) wrote.stack
        unfolding listed_of listed_at
        moves =
            let many : length (plan_listed p) ≡ k = listed-counted p ∙ sym count in
            let same : (i : ℕ) → i < k → listed_of (named p) (behind p) i ≡ listed_at (plan_listed p) i =
            λ i h.
            let at : 0 + 6 * (move_size (named p) * i) ≡ 6 * (move_size (named p) * i) = zero-add (6 * (move_size (named p) * i)) in
            rw (← tail-listed) (sym (listed_at_read (named p) (behind p) 0 k i h ∙ rw at refl)) in
            rw many (passes_same (listed_of (named p) (behind p)) (listed_at (plan_listed p)) same wrote.passes)

        -- each move that is kept has the rack that replay of what is left tells
        kept_is : laid wrote.stack [] ≡ left
        unfolding left shortened_of plan_moves
        kept_is =
            passes_listed (floor_of o) (starts_of o) (goals_of o) (plan_listed p) leads_listed wrote.stack moves (named p) (listed_fits p)

        left-counted : n ≡ length (shortened_of o p)
        left-counted = wrote.packed.counted ∙ ap length kept_is ∙ count_left

        pub few_kept : n < 2 ^ 22
        few_kept = omega (arith, left-counted, count_left, few, few_moves)

        abbrev packed : List ℕ
        packed = pack_positions (all_units (named p) left)

        -- the moves, packed behind the head
        packed-behind : t ≡ written (behind B) 0 packed
        packed-behind =
            wrote.packed.packed
            ∙ ap (λ (l : List (ℕ × ℕ × ℕ)). written (behind B) 0 (pack_positions (all_units (named p) l))) kept_is

        parts : plan_record (named p) (starts_of o) (shortened_of o p) ≡ head_bytes n (spare_bits (named p)) ++ packed
        unfolding plan_record left
        parts =
            record_parts (named p) left (omega (arith, few, few_moves)) fits
            ∙ ap (λ (j : ℕ). head_bytes j (spare_bits (named p)) ++ packed) (count_left ∙ sym left-counted)

        short : 3 + length packed ≤ length B
        short =
            let size : length packed ≡ (6 * (move_size (named p) * length left) + 7) / 8 =
            length-packed (all_units (named p) left) ∙ rw (length-units (named p) left) refl in
            let less = bytes_fewer (named p) (length left) k (length p - 3) few (omega (arith, length_is)) in
            omega (arith, size, less, fit.head_there, room)

        pub shortener_made : (b : ℕ) → b ≡ spare_bits edition → (x : List ℕ)
            → x ≡ written (take 3 B ++ (t ++ drop (length B - 3) (drop 3 B))) 0 (head_bytes n b)
            → (accepted (n ∷ []) ≡ shortener_answer o p (length B)) × (x ≡ buffer_after o p B)
        unfolding buffer_after
        shortener_made b spare x is =
            let head = head_bytes n (spare_bits (named p)) in
            let spare_is : b ≡ spare_bits (named p) = spare ∙ ap spare_bits told in (
              ap (λ (j : ℕ). accepted (j ∷ [])) left-counted ∙ sym up,
              is ∙ ap (λ (y : ℕ). written (take 3 B ++ (t ++ drop (length B - 3) (drop 3 B))) 0 (head_bytes n y)) spare_is
                  ∙ record_written B head packed t (length-head_bytes n (spare_bits (named p))) short packed-behind
                  ∙ ap (written B 0) (sym parts)
                  ∙ sym (ap (λ (a : Answer). left_by a (plan_record (named p) (starts_of o) (shortened_of o p)) B) up),
            )

-- what acceptance by the shortener tells: the plan is accepted, and at most its moves are left
pub moves_small : (o p : List ℕ) (n k : ℕ) → accepted (k ∷ []) ≡ shortener_answer o p n → k < 2 ^ 22
unfolding shortener_answer shortened_of move_count
moves_small o p n k e =
    let left = shortened (starts_of o) (plan_moves p) in
    let after = refuse (ltb n (length p)) 37 0 (accepted (length left ∷ [])) in
    let high : after ≡ accepted (k ∷ []) = pass_up-high (plan_answer o p) after (k ∷ []) (sym e) in
    let count : accepted (length left ∷ []) ≡ accepted (k ∷ []) =
    refuse_else (ltb n (length p)) 37 0 (accepted (length left ∷ [])) (k ∷ []) high in
    let is : k ≡ length left = cc count in
    omega (arith, is, shortens_length (starts_of o) (shortened_rule (starts_of o) (plan_moves p)), moves-counted p, field_lt p 0 22)
