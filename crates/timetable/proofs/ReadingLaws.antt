-- Laws of the timetable's readers: the answers above the reading, and where the steps stand.
--
--     well_packed, reading_gave     what an accepted reading tells
--     reading_accepted              a timetable to which neither 40 nor 41 applies is accepted, with its counts
--     count_steps, total-moves      the counts are those of the steps: how many steps, and how many moves in all
--     timetable_answer_is            the timetable checker's answer, above the order's and the reading's
--     step_answer_is                 the step reader's answer, above that of 45
--     Stands s i at                 i steps are passed, and what is left begins at byte `at`
--     stands-first, stands-next     before step 1, and from one step to the next
--     stands_at                     after any i steps of a timetable that passes 40
--     stands_room                   there is room for the step that begins there
--     part-stands                   step i + 1 is the part that begins there
--     stands-offset, step_room, step_part_is    step i begins at its offset, with room, and is the part there
--     steps_next, steps_none        of the steps that are left, the first and those after it
--     offset-first, offset-next, offset_last    the parts follow one another from byte 3 to the end
-- Assumes nothing.
use Prim.Native.Nat.{ℕ, zero, suc, ◌+◌, ◌-◌, ◌≤◌, ◌<◌}
use mathlib.Core.Path.{◌≡◌, refl, sym, ap, ap₂, ◌∙◌, subst}
use mathlib.Core.Bool.{Bool, true, false, ◌||◌}
use mathlib.Core.List.{List, [], ◌∷◌, map}
use native.Mathlib.Omega.{arith}
use native.Mathlib.Nat.{add-zero, add_assoc, sub-zero, le_refl}
use native.Mathlib.Numerals.{add-one}
use borrow.Author.Tests.{ltb-false}
use lib.ListN.{length, get_or, drop, length-map, drop_of_length-le}
use lib.Seq.{drop-drop, get_or-drop}
use lib.Dec.{ltb, eqb}
use Rattle.answers.specs.Answer.{Answer, accepted, refuse, pass_up}
use Rattle.answers.proofs.AnswerLaws.{refuse_not, refuse_else}
use Rattle.field.proofs.UnitLaws.{or_left, or_right}
use Rattle.order.specs.Order.{order_answer, floor_of, starts_of, goals_of}
use Rattle.motion.specs.Replay.{replay_steps}
use Rattle.motion.proofs.StepDecision.{legal_step?}
use Rattle.motion.specs.Judgement.{judged}
use Rattle.timetable.specs.Timetable.{step_parts, parts_of, step_moves, steps_of, step_count, wrong_timetable_length, move_total}
use Rattle.timetable.specs.Timetable.{timetable_padding_set, timetable_answer, step_length, steps_length, offset, step_part, step_answer}
use Rattle.timetable.specs.Reading.{reading_answer, WellPacked, number_answer, wrong_steps, total}
use Rattle.timetable.proofs.StepLaws.{part_at, next_at, parts_next, length_parts, Room, room, wrong_next, all-taken}
use Rattle.timetable.proofs.StepLaws.{length-moves, wrong_length_lem, steps_suc}

pub reading_accepted : (s : List ℕ) → WellPacked s → reading_answer s ≡ accepted (step_count s ∷ total (parts_of s) ∷ [])
unfolding reading_answer
reading_accepted s w = rw (w.length_right, w.padding_clear) refl

module _ (s : List ℕ) (v : List ℕ) (e : reading_answer s ≡ accepted v) where
  pub well_packed : WellPacked s
  unfolding reading_answer
  well_packed =
      let rest = refuse (timetable_padding_set s) 41 0 (accepted (step_count s ∷ total (parts_of s) ∷ [])) in
      record {
        length_right = refuse_not (wrong_timetable_length s) 40 0 rest v e;
        padding_clear = refuse_not (timetable_padding_set s) 41 0 (accepted (step_count s ∷ total (parts_of s) ∷ [])) v
            (refuse_else (wrong_timetable_length s) 40 0 rest v e);
      }

  pub reading_gave : accepted (step_count s ∷ total (parts_of s) ∷ []) ≡ accepted v
  reading_gave = sym (reading_accepted s well_packed) ∙ e

pub count_steps : (s : List ℕ) → length (steps_of s) ≡ step_count s
unfolding steps_of parts_of
count_steps s = length-map (parts_of s) step_moves ∙ length_parts (step_count s) (drop 3 s)

moves_of_parts : (l : List (List ℕ)) → move_total (map step_moves l) ≡ total l
unfolding move_total total
moves_of_parts [] = refl
moves_of_parts (p ∷ l) = ap₂ ◌+◌ (length-moves p) (moves_of_parts l)

pub total-moves : (s : List ℕ) → move_total (steps_of s) ≡ total (parts_of s)
unfolding steps_of
total-moves s = moves_of_parts (parts_of s)

pub timetable_answer_is : (o s : List ℕ)
    → timetable_answer o s
    ≡ pass_up (order_answer o)
    (pass_up (reading_answer s)
    (judged 43 (goals_of o) (step_count s ∷ total (parts_of s) ∷ []) (replay_steps (legal_step? (floor_of o)) (starts_of o) (steps_of s))))
unfolding timetable_answer reading_answer
timetable_answer_is o s =
    rw (total-moves s)
    (ap (pass_up (order_answer o)) (chain (wrong_timetable_length s) (timetable_padding_set s) (step_count s ∷ total (parts_of s) ∷ []) _))
  where
    chain : (a b : Bool) (v : List ℕ) (rest : Answer)
        → refuse a 40 0 (refuse b 41 0 rest) ≡ pass_up (refuse a 40 0 (refuse b 41 0 (accepted v))) rest
    chain true b v rest = refl
    chain false true v rest = refl
    chain false false v rest = refl

pub step_answer_is : (s : List ℕ) (i : ℕ) → step_answer s i ≡ pass_up (number_answer s i)
    (accepted (offset s i ∷ length (step_part s i) ∷ []))
unfolding step_answer number_answer reading_answer
step_answer_is s i =
    chain (wrong_timetable_length s) (timetable_padding_set s) (eqb i 0 || ltb (step_count s) i) (step_count s ∷ total (parts_of s) ∷ []) _
  where
    chain : (a b d : Bool) (v : List ℕ) (rest : Answer)
        → refuse a 40 0 (refuse b 41 0 (refuse d 45 0 rest))
        ≡ pass_up (pass_up (refuse a 40 0 (refuse b 41 0 (accepted v))) (refuse d 45 0 (refuse a 40 0 (refuse b 41 0 (accepted v))))) rest
    chain true b d v rest = refl
    chain false true d v rest = refl
    chain false false true v rest = refl
    chain false false false v rest = refl

-- where the step after the one that begins behind i steps begins
next_is : (s : List ℕ) (i : ℕ) → next_at s (3 + steps_length i (drop 3 s)) ≡ 3 + steps_length (i + 1) (drop 3 s)
next_is s i =
    let k = steps_length i (drop 3 s) in
    ap (λ (c : ℕ). 3 + k + step_length c) (sym (get_or-drop 3 s k 0))
    ∙ add_assoc 3 k (step_length (get_or (drop 3 s) k 0))
    ∙ ap (λ (n : ℕ). 3 + n) (sym (ap (λ (n : ℕ). steps_length n (drop 3 s)) (add-one i) ∙ steps_suc i (drop 3 s)))

drop-map : {X Y : Type 0} (f : X → Y) (i : ℕ) (l : List X) → drop i (map f l) ≡ map f (drop i l)
drop-map f zero l = refl
drop-map f (suc i) [] = refl
drop-map f (suc i) (x ∷ l) = drop-map f i l

pub record Stands (s : List ℕ) (i at : ℕ) : Type 0 where
  pub begins_at_lem : at ≡ 3 + steps_length i (drop 3 s)
  pub parts_left : drop i (parts_of s) ≡ step_parts (step_count s - i) (drop at s)
  pub fits : wrong_steps (step_count s - i) (drop at s) ≡ false
  pub within : at ≤ length s

module _ (s : List ℕ) where
  pub stands-first : wrong_timetable_length s ≡ false → Stands s 0 3
  unfolding parts_of steps_length
  stands-first e = let w = sym (wrong_length_lem s) ∙ e in record {
    begins_at_lem = refl;
    parts_left = rw (sub-zero (step_count s)) refl;
    fits = rw (sub-zero (step_count s)) (or_right (ltb (length s) 3) _ w);
    within = ltb-false (length s) 3 (or_left (ltb (length s) 3) _ w);
  }

  module _ (i at : ℕ) (stands : Stands s i at) (h : i < step_count s) where
    pub stands_room : Room s at
    stands_room = room s at i (step_count s) h stands.fits

    left_is : drop i (parts_of s) ≡ part_at s at ∷ step_parts (step_count s - (i + 1)) (drop (next_at s at) s)
    left_is = stands.parts_left ∙ parts_next s at i (step_count s) h

    left_after : drop (i + 1) (parts_of s) ≡ step_parts (step_count s - (i + 1)) (drop (next_at s at) s)
    left_after = sym (drop-drop 1 i (parts_of s)) ∙ ap (drop 1) left_is

    pub part-stands : get_or (parts_of s) i [] ≡ part_at s at
    part-stands =
        ap (λ (n : ℕ). get_or (parts_of s) n []) (sym (add-zero i))
        ∙ sym (get_or-drop i (parts_of s) 0 [])
        ∙ ap (λ (l : List (List ℕ)). get_or l 0 []) left_is

    -- the next of the steps that are left to replay
    pub steps_next : drop i (steps_of s) ≡ step_moves (part_at s at) ∷ drop (i + 1) (steps_of s)
    unfolding steps_of
    steps_next =
        drop-map step_moves i (parts_of s)
        ∙ ap (map step_moves) left_is
        ∙ ap (λ (l : List (List ℕ)). step_moves (part_at s at) ∷ map step_moves l) (sym left_after)
        ∙ ap (λ (l : List (List (ℕ × ℕ))). step_moves (part_at s at) ∷ l) (sym (drop-map step_moves (i + 1) (parts_of s)))

    pub stands-next : Stands s (i + 1) (next_at s at)
    stands-next = record {
      begins_at_lem = ap (next_at s) stands.begins_at_lem ∙ next_is s i;
      parts_left = left_after;
      fits = sym (wrong_next s at i (step_count s) h stands_room) ∙ stands.fits;
      within = stands_room.ends;
    }

  pub steps_none : (i : ℕ) → step_count s ≤ i → drop i (steps_of s) ≡ []
  steps_none i h = drop_of_length-le (steps_of s) {i = i} (omega (arith, count_steps s))

  module _ (e : wrong_timetable_length s ≡ false) where
    pub stands_at : (i : ℕ) → i ≤ step_count s → Stands s i (3 + steps_length i (drop 3 s))
    unfolding steps_length
    stands_at zero h = stands-first e
    stands_at (suc i) h =
        let next = stands-next i _ (stands_at i (omega arith)) (omega arith) in
        let moved : Stands s (i + 1) (3 + steps_length (i + 1) (drop 3 s)) = subst (Stands s (i + 1)) next.begins_at_lem next in
        rw add-one at moved

    -- step i begins at its offset
    pub stands-offset : (i : ℕ) → i ≤ step_count s + 1 → Stands s (i - 1) (offset s i)
    unfolding offset
    stands-offset i h = stands_at (i - 1) (omega arith)

    module _ (i : ℕ) (low : 1 ≤ i) (high : i ≤ step_count s) where
      pub step_room : Room s (offset s i)
      step_room = stands_room (i - 1) (offset s i) (stands-offset i (omega arith)) (omega arith)

      pub step_part_is : step_part s i ≡ part_at s (offset s i)
      unfolding step_part
      step_part_is = part-stands (i - 1) (offset s i) (stands-offset i (omega arith)) (omega arith)

      pub offset-next : offset s (i + 1) ≡ next_at s (offset s i)
      unfolding offset
      offset-next =
          let next = stands-next (i - 1) (offset s i) (stands-offset i (omega arith)) (omega arith) in
          let same : i - 1 + 1 ≡ i + 1 - 1 = omega arith in
          ap (λ (n : ℕ). 3 + steps_length n (drop 3 s)) (sym same) ∙ sym next.begins_at_lem

    pub offset_last : offset s (step_count s + 1) ≡ length s
    offset_last =
        let last = stands-offset (step_count s + 1) (le_refl (step_count s + 1)) in
        omega (arith, last.within, all-taken s (offset s (step_count s + 1)) (step_count s + 1 - 1) (step_count s) (omega arith) last.fits)

  pub offset-first : offset s 1 ≡ 3
  unfolding offset steps_length
  offset-first = refl
