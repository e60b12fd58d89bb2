-- Laws of what the order program writes.
--
--     order_text_lem, refusal_text    the two ways in which the program ends
--     never_52                    52 is never met: the lent bytes are enough for every order
-- Assumes nothing.
use Prim.Native.Nat.{ℕ, ◌+◌, ◌≤◌}
use mathlib.Core.Path.{◌≡◌, refl, sym, ap, subst, ◌∙◌}
use mathlib.Core.Bool.{Bool, true, false}
use mathlib.Core.List.{List, [], ◌∷◌}
use native.Mathlib.Omega.{arith}
use native.Mathlib.Nat.{zero-add}
use lib.ListN.{length}
use lib.Dec.{ltb}
use borrow.Author.Tests.{le-ltb}
use Rattle.answers.specs.Answer.{Answer, accepted, refused, refuse}
use Rattle.field.specs.Writing.{written, left_by, Wrote}
use Rattle.field.proofs.WritingLaws.{wrote_as}
use Rattle.order.specs.Order.{wrong_racks}
use Rattle.writers.specs.Lines.{refusal_line}
use Rattle.models.specs.Grid.{unknown_model}
use Rattle.models.specs.ShortOrder.{model_code, wrong_short}
use Rattle.models.specs.Expansion.{full_order, expanded, expand_answer, buffer_after}
use Rattle.models.proofs.ExpansionLaws.{expanded_small, accepted_is_length}
use Rattle.order_program.specs.Printed.{expanded_text, order_text}

module _ (s B : List ℕ) (lent : length B ≡ 1024) where
  answer_same : expand_answer s (length B) ≡ expand_answer s 1024
  answer_same = ap (expand_answer s) lent

  pub order_text_lem : (l : ℕ) (B' : List ℕ) → accepted (l ∷ []) ≡ expand_answer s (length B) → B' ≡ buffer_after s B
      → Wrote B 0 (order_text s) B' l
  unfolding buffer_after order_text
  order_text_lem l B' a b =
      let text : expanded_text (expand_answer s 1024) (expanded s) ≡ expanded s =
      ap (λ (x : Answer). expanded_text x (expanded s)) (sym (a ∙ answer_same)) in
      wrote_as (sym text)
      (record {
        bytes_are = b ∙ ap (λ (x : Answer). left_by x (expanded s) B) (sym a);
        next_is = accepted_is_length s (length B) l a ∙ sym (zero-add (length (expanded s)));
      })

  pub refusal_text : (number place r : ℕ) (B' out : List ℕ) → refused number place ≡ expand_answer s (length B) → B' ≡ buffer_after s B
      → Wrote B' 0 (refusal_line number place) out r → Wrote B 0 (order_text s) out r
  unfolding buffer_after order_text
  refusal_text number place r B' out a b w =
      let text : expanded_text (expand_answer s 1024) (expanded s) ≡ refusal_line number place =
      ap (λ (x : Answer). expanded_text x (expanded s)) (sym (a ∙ answer_same)) in
      let same : B' ≡ B = b ∙ ap (λ (x : Answer). left_by x (expanded s) B) (sym a) in
      wrote_as (sym text) (subst (λ (l : List ℕ). Wrote l 0 (refusal_line number place) out r) same w)

pub never_52 : (s : List ℕ) (place : ℕ) → expand_answer s 1024 ≡ refused 52 place → ⊥
unfolding expand_answer
never_52 s place = by (wrong_short s) (unknown_model (model_code s)) refl (wrong_racks (full_order s))
  where
    measured : unknown_model (model_code s) ≡ false → ltb 1024 (length (expanded s)) ≡ false
    measured known = let small = expanded_small s known in le-ltb 1024 (length (expanded s)) (omega arith)

    apart : (number q : ℕ) → (number ≡ 52 → ⊥) → refused number q ≡ refused 52 place → ⊥
    apart number q d e = d (let same : number ≡ 52 = cc in same)

    by : (a b : Bool) → unknown_model (model_code s) ≡ b → (c : Bool)
        → refuse a 50 0 (refuse b 51 0 (refuse c 14 0 (refuse (ltb 1024 (length (expanded s))) 52 0 (accepted (length (expanded s) ∷ [])))))
        ≡ refused 52 place
        → ⊥
    by true b k c = apart 50 0 (λ x. omega arith)
    by false true k c = apart 51 0 (λ x. omega arith)
    by false false k true = apart 14 0 (λ x. omega arith)
    by false false k false = rw (measured k) (λ e. let z : ◌≡◌ {A = ℕ} 0 1 = cc in omega arith)
