-- The reader of 40 and 41.
--
--     pad_room, pad_told            the pad of a step, read from the part that begins at its second byte
--     remembered, kept              whether a pad bit was set, after one more step
--     Left s k at moves seen i    the loop over the k steps of s, before step i + 1, which begins at byte `at`: what
--                                 is left to judge decides
--     left-first, left-next, left_none    how the loop begins, goes on and ends
--     past, runs_past, left-over    40, where a step begins or ends past the end, and where bytes are left over
--     part_length                   the part that is cut out is as long as its count byte says
--     pads_set                      41, where a pad bit was set
--     short, handed_on, spare_set, sound    the reader's answers above the steps'
-- Assumes nothing.
use Prim.Native.Nat.{ℕ, ◌+◌, ◌-◌, ◌*◌, ◌≤◌, ◌<◌}
use mathlib.Core.Path.{◌≡◌, refl, sym, ap, ◌∙◌}
use mathlib.Core.Bool.{Bool, true, false, not, ◌||◌, or-true, or-false, or_assoc}
use mathlib.Core.List.{List, [], ◌∷◌}
use native.Mathlib.Omega.{arith}
use native.Mathlib.Nat.{sub-zero, zero-add, add-zero, add_assoc}
use borrow.Author.Tests.{ne_eqb, eq-eqb, lt-ltb, le-ltb}
use lib.ListN.{length, get_or, take, drop, length-drop}
use lib.Dec.{eqb}
use Rattle.std.specs.Prelude.{Result, IsErrAnd}
use Rattle.answers.specs.Answer.{accepted, refused, refused_by, refuse, pass_up}
use Rattle.answers.specs.declared.Refusal.{Refusal}
use Rattle.answers.proofs.AnswerLaws.{pass_up_accepted, handed_up}
use Rattle.field.specs.Bits.{field, pad}
use Rattle.field.proofs.BitLaws.{field-drop}
use Rattle.field.proofs.RecordLaws.{rest_is, up_to_byte}
use Rattle.order.specs.Floor.{some}
use Rattle.timetable.specs.Timetable.{step_length, step_parts, step_pad_set, parts_of, step_count}
use Rattle.timetable.specs.Timetable.{timetable_padding_set}
use Rattle.timetable.specs.declared.Counts.{Counts}
use Rattle.timetable.specs.Checking.{told, answer_of_check}
use Rattle.timetable.specs.Reading.{steps_answer, reading_answer, wrong_steps, total}
use Rattle.timetable.proofs.StepLaws.{part_at, next_at, parts_next, parts_none, Room, wrong_past, wrong_short_lem, wrong_next, wrong_left}
use Rattle.timetable.proofs.StepLaws.{right_end, wrong_length_lem, head_part_at, cut_is, cut_length}

module _ (p : List ℕ) (e : length p ≡ step_length (get_or p 0 0)) where
  pub pad_room : (c : ℕ) → c ≡ get_or p 0 0 → 6 * (2 * c) + pad (6 * (2 * c)) ≤ 8 * length (take (length p - 1) (drop 1 p))
  unfolding step_length
  pad_room c h = rw (rest_is 1 p, length-drop 1 p, up_to_byte (6 * (2 * c))) (omega arith)

  module _ (c r : ℕ) (h : c ≡ get_or p 0 0) (g : r ≡ field (take (length p - 1) (drop 1 p)) (6 * (2 * c)) (pad (6 * (2 * c)))) where
    pad_read : r ≡ field p (8 + 12 * get_or p 0 0) (pad (12 * get_or p 0 0))
    pad_read =
        let twelve : 6 * (2 * c) ≡ 12 * c = omega arith in
        g ∙ rw (rest_is 1 p, twelve, ← h) (sym (field-drop p 1 (12 * c) (pad (12 * c))))

    pub pad_told : not (eqb r 0) ≡ step_pad_set p
    unfolding step_pad_set
    pad_told = rw pad_read refl

-- a set pad bit is remembered
pub remembered : (set seen b : Bool) → set ≡ true → b ≡ true → set ≡ (seen || b)
remembered set seen b p q = p ∙ sym (rw q (or-true seen))

pub kept : (set seen b : Bool) → set ≡ seen → b ≡ false → set ≡ (seen || b)
kept set seen b p q = p ∙ sym (rw q (or-false seen))

pub record Left (s : List ℕ) (k at moves : ℕ) (seen : Bool) (i : ℕ) : Type 0 where
  -- 40 depends on the steps that are left
  pub wrong_same : wrong_steps (k - i) (drop at s) ≡ wrong_steps k (drop 3 s)
  -- the moves of the steps passed, and those of the steps that are left
  pub moves_same : moves + total (step_parts (k - i) (drop at s)) ≡ total (step_parts k (drop 3 s))
  -- a pad bit was set, or one is set in what is left
  pub pads_same : (seen || some step_pad_set (step_parts (k - i) (drop at s))) ≡ some step_pad_set (step_parts k (drop 3 s))

module _ (s : List ℕ) (k : ℕ) where
  pub left-first : Left s k 3 0 false 0
  left-first = record {
    wrong_same = rw (sub-zero k) refl;
    moves_same = rw (sub-zero k) (zero-add _);
    pads_same = rw (sub-zero k) refl;
  }

  module _ (at moves : ℕ) (seen : Bool) (i : ℕ) (left : Left s k at moves seen i) where
    wrong_answer : wrong_steps (k - i) (drop at s) ≡ true → refused 40 0 ≡ steps_answer k (drop 3 s)
    unfolding steps_answer
    wrong_answer w = simp (sym left.wrong_same ∙ w)

    module _ (h : i < k) where
      pub past : length s ≤ at → refused 40 0 ≡ steps_answer k (drop 3 s)
      past p = wrong_answer (wrong_past s at i k h p)

      module _ (c n : ℕ) (ec : c ≡ get_or s at 0) (en : n ≡ step_length c) (b : at < length s) where
        size_is : n ≡ step_length (get_or s at 0)
        size_is = en ∙ ap step_length ec

        pub runs_past : length s - at < n → refused 40 0 ≡ steps_answer k (drop 3 s)
        runs_past p = wrong_answer (wrong_short_lem s at i k h b (omega (arith, size_is)))

        module _ (fits : n ≤ length s - at) where
          room_there : Room s at
          room_there = record { begins = b; ends = omega (arith, size_is) }

          next_is : at + n ≡ next_at s at
          next_is = ap (λ (m : ℕ). at + m) size_is

          count_is : c ≡ get_or (part_at s at) 0 0
          count_is = ec ∙ sym (head_part_at s at)

          pub part_length : length (take (at + n - at) (drop at s)) ≡ step_length (get_or (take (at + n - at) (drop at s)) 0 0)
          part_length = cut_length s at n size_is room_there

          pub left-next : (set : Bool) → set ≡ (seen || step_pad_set (take (at + n - at) (drop at s)))
              → Left s k (at + n) (moves + c) set (i + 1)
          unfolding total some
          left-next set e = record {
            wrong_same = rw next_is (sym (wrong_next s at i k h room_there) ∙ left.wrong_same);
            moves_same =
                rw (next_is, count_is) (add_assoc moves _ _ ∙ (rw (parts_next s at i k h) at left.moves_same));
            pads_same =
                rw (e, cut_is s at n size_is, next_is) (or_assoc seen _ _ ∙ (rw (parts_next s at i k h) at left.pads_same));
          }

    module _ (h : k ≤ i) where
      pub left_over : at < length s → refused 40 0 ≡ steps_answer k (drop 3 s)
      left_over b = wrong_answer (wrong_left s at i k h b)

      module _ (b : length s ≤ at) where
        right : wrong_steps k (drop 3 s) ≡ false
        right = sym left.wrong_same ∙ right_end s at i k h b

        pads_are : seen ≡ some step_pad_set (step_parts k (drop 3 s))
        unfolding some
        pads_are = sym (or-false seen) ∙ (rw (parts_none (drop at s) i k h) at left.pads_same)

        moves_are : moves ≡ total (step_parts k (drop 3 s))
        unfolding total
        moves_are = sym (add-zero moves) ∙ (rw (parts_none (drop at s) i k h) at left.moves_same)

        pub pads_set : seen ≡ true → refused 41 0 ≡ steps_answer k (drop 3 s)
        unfolding steps_answer
        pads_set p = simp (right, sym pads_are ∙ p)

        pub left_none : seen ≡ false → accepted (k ∷ moves ∷ []) ≡ steps_answer k (drop 3 s)
        unfolding steps_answer
        left_none p = simp (right, sym pads_are ∙ p) (ap (λ (m : ℕ). accepted (k ∷ m ∷ [])) moves_are)

-- 40 and 41 of the whole record, above those of its steps
reading_is : (s : List ℕ) → 3 ≤ length s
    → reading_answer s
    ≡ pass_up (steps_answer (step_count s) (drop 3 s)) (refuse (not (eqb (field s 22 2) 0)) 41 0 (steps_answer (step_count s) (drop 3 s)))
unfolding reading_answer steps_answer timetable_padding_set parts_of
reading_is s h =
    rw (wrong_length_lem s, le-ltb (length s) 3 h)
    (chain (wrong_steps (step_count s) (drop 3 s)) (not (eqb (field s 22 2) 0))
    (some step_pad_set (step_parts (step_count s) (drop 3 s))) _)
  where
    chain : (w x y : Bool) (v : List ℕ)
        → refuse w 40 0 (refuse (x || y) 41 0 (accepted v))
        ≡ pass_up (refuse w 40 0 (refuse y 41 0 (accepted v))) (refuse x 41 0 (refuse w 40 0 (refuse y 41 0 (accepted v))))
    chain true x y v = refl
    chain false true true v = refl
    chain false false true v = refl
    chain false true false v = refl
    chain false false false v = refl

module _ (s : List ℕ) where
  pub short : length s < 3 → refused 40 0 ≡ reading_answer s
  unfolding reading_answer
  short h = simp (wrong_length_lem s, lt-ltb (length s) 3 h)

  module _ (h : 3 ≤ length s) (count : ℕ) (ec : count ≡ field s 0 22) where
    same_steps : steps_answer count (drop 3 s) ≡ steps_answer (step_count s) (drop 3 s)
    unfolding step_count
    same_steps = ap (λ (k : ℕ). steps_answer k (drop 3 s)) ec

    -- r is what `?` makes of the refusal e of the steps
    pub handed_on : (r : Result Counts Refusal) (e : Refusal) → IsErrAnd r (λ x. x ≡ e)
        → refused_by e.0 e.1 ≡ steps_answer count (drop 3 s) → answer_of_check r ≡ reading_answer s
    handed_on r e is down = handed_up told r e is (down ∙ same_steps) _ ∙ sym (reading_is s h)

    module _ (v : List ℕ) (ev : accepted v ≡ steps_answer count (drop 3 s)) (x : ℕ) (ex : x ≡ field s 22 2) where
      over : reading_answer s ≡ refuse (not (eqb x 0)) 41 0 (accepted v)
      over =
          let steps_are = ev ∙ same_steps in
          reading_is s h ∙ pass_up_accepted _ _ v (sym steps_are) ∙ rw (ex, steps_are) refl

      pub spare_set : (x ≡ 0 → ⊥) → refused 41 0 ≡ reading_answer s
      spare_set d = sym (over ∙ rw (ne_eqb x 0 d) refl)

      pub sound : x ≡ 0 → accepted v ≡ reading_answer s
      sound z = sym (over ∙ rw (eq-eqb x 0 z) refl)
