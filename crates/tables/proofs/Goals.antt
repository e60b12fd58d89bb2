-- The loop over the goals.
--
--     Left i                                before rack i + 1, what is left to look up decides
--     left-first, left-next, left_none      how the loop begins, goes on and ends: no rack is misplaced
--     rack_found                            or with the lowest that is
-- Assumes nothing.
use Prim.Native.Nat.{ℕ, suc, ◌+◌, ◌-◌, ◌*◌, ◌≤◌, ◌<◌}
use mathlib.Core.Path.{◌≡◌, refl, sym, ap, ◌∙◌}
use mathlib.Core.Bool.{cond}
use mathlib.Core.List.{List}
use native.Mathlib.Omega.{arith}
use native.Mathlib.Nat.{sub-zero, add-zero}
use native.Mathlib.Numerals.{add-one}
use borrow.Author.Tests.{eq-eqb, ne_eqb}
use lib.ListN.{get_or}
use lib.Dec.{eqb}
use Rattle.std.specs.Prelude.{Some, None}
use Rattle.answers.specs.Found.{found}
use Rattle.answers.proofs.AnswerLaws.{found_some}
use Rattle.field.specs.Bits.{field, positions}
use Rattle.field.proofs.RecordLaws.{positions-next}
use Rattle.tables.specs.Tables.{misplaced_on, MisplacedOn}

module _ (s : List ℕ) (from m : ℕ) (h : List ℕ) where
  unfoldable pub Left : ℕ → Type 0
  Left i = misplaced_on (suc i) h (positions s (6 * (from + i)) (m - i)) ≡ misplaced_on 1 h (positions s (6 * from) m)

  pub left-first : Left 0
  unfolding Left
  left-first = rw (add-zero from, sub-zero m) refl

  module _ (i p w : ℕ) (left : Left i) (k : i < m) (e : p ≡ field s (6 * (from + i)) 6) (here : w ≡ get_or h p 0) where
    next : cond (eqb w (suc i)) (misplaced_on (suc (suc i)) h (positions s (6 * (from + (i + 1))) (m - (i + 1)))) (suc i)
        ≡ misplaced_on 1 h (positions s (6 * from) m)
    unfolding Left misplaced_on
    next = rw (here, e) (ap (misplaced_on (suc i) h) (sym (positions-next s from i m k)) ∙ left)

    pub rack_found : (w ≡ i + 1 → ⊥) → MisplacedOn h (positions s (6 * from) m) m (Some (i + 1))
    rack_found d =
        let one : i + 1 ≡ suc i = add-one i in
        let is : i + 1 ≡ misplaced_on 1 h (positions s (6 * from) m) = one ∙ rw (ne_eqb w (suc i) (λ c. d (c ∙ sym one))) at next in
        record { is = found_some (i + 1) (omega arith) ∙ ap found is; at_most = omega (arith, is) }

    pub left-next : w ≡ i + 1 → Left (i + 1)
    unfolding Left
    left-next c =
        let one : i + 1 ≡ suc i = add-one i in
        let again = rw (eq-eqb w (suc i) (c ∙ one)) at next in
        ap (λ (r : ℕ). misplaced_on (suc r) h (positions s (6 * (from + (i + 1))) (m - (i + 1)))) one ∙ again

  pub left_none : (i : ℕ) → Left i → m ≤ i → MisplacedOn h (positions s (6 * from) m) m None
  unfolding Left misplaced_on positions
  left_none i left k =
      let none : m - i ≡ 0 = omega arith in
      let is : 0 ≡ misplaced_on 1 h (positions s (6 * from) m) = rw none at left in
      record { is = ap found is; at_most = omega (arith, is) }
