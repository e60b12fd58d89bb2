-- The timetable program: what the maker answers and leaves in the lent buffer is what is printed.
--
--     end_within                           the order ends within the input
--     order_is, plan_is                    the parts of the input, as the code cuts them
--     refused_text                         a refusal's line
--     record_is                            the timetable at the front of the buffer, and where it ends
--     made-packed, made_fits, made_text    it can be printed, and its text is the program's
--     refusal_text, part_there, part-within, part-packed, part_fits, part_text    the same, of what the program knows
-- Assumes nothing.
use Prim.Native.Nat.{ℕ, ◌-◌, ◌≤◌}
use mathlib.Core.Path.{◌≡◌, refl, sym, ap, ap₂, ◌∙◌, subst}
use mathlib.Core.List.{List, [], ◌∷◌, ◌++◌}
use native.Mathlib.Omega.{arith}
use lib.ListN.{length, take, drop, replicate, length-append, length-replicate}
use lib.Seq.{take_at}
use Rattle.answers.specs.declared.Refusal.{Refusal}
use Rattle.answers.specs.Found.{found}
use Rattle.answers.proofs.AnswerLaws.{some_found, none_found}
use Rattle.std.specs.Prelude.{Result, Ok, Err, Some, None}
use Rattle.answers.specs.Answer.{Answer, accepted, refused, number_of}
use Rattle.field.proofs.RecordLaws.{rest_is}
use Rattle.field.specs.Writing.{Fits}
use Rattle.timetable.specs.Timetable.{timetable_record, steps_of}
use Rattle.timetable.specs.Reading.{WellPacked}
use Rattle.timetable.specs.RecordLength.{whole_timetable_length}
use Rattle.timetable.proofs.RecordLengthLaws.{timetable-length_found}
use Rattle.timetable.proofs.TimetableRecord.{record_well_packed, steps_of_record}
use Rattle.scheduling.specs.Maker.{made_of, maker_answer, buffer_after, answer_of}
use Rattle.scheduling.proofs.MakerLaws.{MakerGave, maker_gave, maker_record, made_packable}
use Rattle.scheduling.specs.Maker.{Timetabled}
use Rattle.text.specs.Program.{answer_text, program_text}
use Rattle.text.proofs.Sizes.{timetable_text_short}
use Rattle.text.specs.Split.{order_end, order_part, plan_part}
use Rattle.writers.specs.Lines.{refusal_line}
use Rattle.text.specs.Text.{timetable_text}

module _ (s : List ℕ) (e : ℕ) (h : e ≡ order_end s) where
  pub end_within : e ≤ length s
  unfolding order_end
  end_within = omega arith

  pub order_is : take e s ≡ order_part s
  unfolding order_part
  order_is = ap (λ (n : ℕ). take n s) h

  pub plan_is : take (length s - e) (drop e s) ≡ plan_part s
  unfolding plan_part
  plan_is = rest_is e s ∙ ap (λ (n : ℕ). drop n s) h

-- the text of an answer of the maker for the input s and the buffer B
module _ (s o p B : List ℕ) (eo : o ≡ order_part s) (ep : p ≡ plan_part s) (lent : length B ≡ 65536) where
  text_is : answer_text (maker_answer o p (length B)) (made_of o p) ≡ program_text s
  unfolding program_text
  text_is = rw (eo, ep, lent) refl

  pub refused_text : (n q : ℕ) → refused n q ≡ maker_answer o p (length B) → refusal_line n q ≡ program_text s
  refused_text n q a = ap (λ (x : Answer). answer_text x (made_of o p)) a ∙ text_is

  module _ (v : List ℕ) (a : accepted v ≡ maker_answer o p (length B)) (b : List ℕ) (eb : b ≡ buffer_after o p B) where
    rest : List ℕ
    rest = drop (length (timetable_record (made_of o p))) B

    gave : MakerGave o p (length B) v
    gave = maker_gave o p (length B) v (sym a)

    left : (buffer_after o p B ≡ timetable_record (made_of o p) ++ drop (length (timetable_record (made_of o p))) B) × Timetabled o p
    left = maker_record o p B v (sym a)

    packed : WellPacked (timetable_record (made_of o p))
    packed = record_well_packed (made_of o p) (made_packable o p _ gave.plan_accepted)

    begins : b ≡ timetable_record (made_of o p) ++ rest
    unfolding rest
    begins = eb ∙ left.0

    short : length (timetable_record (made_of o p)) ≤ 65536
    short = omega (arith, left.1.short, gave.room, lent)

    end_is : whole_timetable_length b ≡ length (timetable_record (made_of o p))
    end_is = (timetable-length_found b).only (timetable_record (made_of o p)) rest begins packed.length_right

    pub there : whole_timetable_length b ≡ 0 → ⊥
    there z = (timetable-length_found b).none z (timetable_record (made_of o p)) rest begins packed.length_right

    pub end_fits : whole_timetable_length b ≤ length b
    end_fits = omega (arith, end_is, ap length begins, length-append (timetable_record (made_of o p)) rest)

    module _ (n : ℕ) (en : n ≡ whole_timetable_length b) where
      record_is : take n b ≡ timetable_record (made_of o p)
      record_is = ap₂ take (en ∙ end_is) begins ∙ take_at (timetable_record (made_of o p)) rest
          (length (timetable_record (made_of o p))) refl

      pub made-packed : WellPacked (take n b)
      made-packed = subst WellPacked (sym record_is) packed

      steps_are : steps_of (take n b) ≡ made_of o p
      steps_are = ap steps_of record_is ∙ steps_of_record (made_of o p) (made_packable o p _ gave.plan_accepted)

      pub made_text : timetable_text (steps_of (take n b)) ≡ program_text s
      made_text = ap timetable_text steps_are ∙ ap (λ (x : Answer). answer_text x (made_of o p)) a ∙ text_is

      pub made_fits : (out : List ℕ) → length out ≡ 524288 → Fits out 0 (timetable_text (steps_of (take n b)))
      made_fits out h =
          let small : length (take n b) ≤ 65536 = rw record_is short in
          record { room = omega (arith, h, small, timetable_text_short (take n b) made-packed.length_right (omega (arith, small))) }

-- the maker's buffer, as the program lends it
abbrev buffer : List ℕ
buffer = replicate 65536 0

lent : length buffer ≡ 65536
lent = length-replicate {A = ℕ} 65536 0

-- what the program knows: the order of its input s ends at byte e, and the maker gave the verdict v
module _ (s : List ℕ) {e : ℕ} (h : e ≡ order_end s) {v : Result ℕ Refusal}
    (said : answer_of v ≡ maker_answer (take e s) (take (length s - e) (drop e s)) (length buffer)) where
  pub refusal_text : {r : Refusal} → v ≡ Err r → refusal_line (number_of r.0) r.1 ≡ program_text s
  refusal_text t =
      refused_text s _ _ buffer (order_is s e h) (plan_is s e h) lent _ _ (ap answer_of (sym t) ∙ said)

  -- it accepted, and left b in its buffer
  module _ {k : ℕ} (t : v ≡ Ok k) {b : List ℕ} (left : b ≡ buffer_after (take e s) (take (length s - e) (drop e s)) buffer) where
    told : accepted (k ∷ []) ≡ maker_answer (take e s) (take (length s - e) (drop e s)) (length buffer)
    told = ap answer_of (sym t) ∙ said

    pub part_there : None ≡ found (whole_timetable_length b) → ⊥
    part_there f = there s _ _ _ (order_is s e h) (plan_is s e h) lent _ told b left (none_found _ f)

    -- a timetable of n bytes stands at its front
    module _ {n : ℕ} (f : Some n ≡ found (whole_timetable_length b)) where
      ends : n ≡ whole_timetable_length b
      ends = (some_found _ _ f).0

      pub part-within : n ≤ length b
      part-within = rw ends (end_fits s _ _ _ (order_is s e h) (plan_is s e h) lent _ told b left)

      pub part-packed : WellPacked (take n b)
      part-packed = made-packed s _ _ _ (order_is s e h) (plan_is s e h) lent _ told b left n ends

      pub part_fits : (out : List ℕ) → length out ≡ 524288 → Fits out 0 (timetable_text (steps_of (take n b)))
      part_fits = made_fits s _ _ _ (order_is s e h) (plan_is s e h) lent _ told b left n ends

      pub part_text : timetable_text (steps_of (take n b)) ≡ program_text s
      part_text = made_text s _ _ _ (order_is s e h) (plan_is s e h) lent _ told b left n ends
