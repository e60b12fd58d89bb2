-- The short order's record and the answers, from the facts that the code's tests leave.
--
--     model_is, racks_is, spare_is    the head's fields as parts of its two bytes
--     ShortFits s, short_fits         what 50 leaves
--     too_short, wrong_length_lem, spare_set, pad-set, packed    50, from the facts
--     tail-pad, tail-starts, tail-goals, tail_room           the pad, the starts and the goals, read from the part behind the head
--     length-expanded, expanded_small    the length of the full record
--     Sound s n v, accepted_expand, accepted_is_length, accepted_length    what acceptance tells
--     buffer-kept, buffer-written     the buffer afterwards
--     meets_50, no_model, bad_racks, too_long, sound    the answer, from the facts
-- Assumes nothing.
use Prim.Native.Nat.{ℕ, ◌+◌, ◌-◌, ◌*◌, ◌/◌, ◌%◌, ◌≤◌, ◌<◌}
use mathlib.Core.Path.{◌≡◌, refl, sym, ap, ◌∙◌}
use mathlib.Core.Bool.{Bool, true, false, not, ◌||◌, or-true}
use mathlib.Core.List.{List, [], ◌∷◌}
use native.Mathlib.Omega.{arith}
use borrow.Author.Tests.{lt-ltb, le-ltb, eq-eqb, ne_eqb, ltb-false, eqb-true, not-false}
use lib.ListN.{length, get_or, take, drop, length-drop}
use lib.Dec.{ltb, eqb}
use Rattle.answers.specs.Answer.{Answer, accepted, refused, refuse}
use Rattle.answers.proofs.AnswerLaws.{refuse_not, refuse_else}
use Rattle.field.specs.Bits.{field, positions, pad}
use Rattle.field.specs.Writing.{written, left_by}
use Rattle.field.proofs.BitLaws.{field_in_byte, field-drop, field_lt}
use Rattle.field.proofs.RecordLaws.{rest_is, up_to_byte, positions-drop, length-positions, length-to_bytes}
use Rattle.field.proofs.UnitLaws.{or_left, or_right}
use Rattle.order.specs.Order.{order_bits, order_record, wrong_racks}
use Rattle.order.proofs.RecordOf.{length-order_bits}
use Rattle.models.specs.Grid.{unknown_model, model_floor}
use Rattle.models.specs.ShortOrder.{model_code, short_racks, short_starts, short_goals, short_length, wrong_short}
use Rattle.models.specs.Expansion.{full_order, expanded, expand_answer, buffer_after}
use Rattle.models.proofs.GridLaws.{model_size}

module _ (s : List ℕ) (two : 2 ≤ length s) where
  pub model_is : get_or s 0 0 < 256 → model_code s ≡ get_or s 0 0
  unfolding model_code
  model_is b = field_in_byte s 0 0 8 0 (omega arith) refl ∙ omega arith

  pub racks_is : get_or s 1 0 < 256 → short_racks s ≡ get_or s 1 0 / 2
  unfolding short_racks
  racks_is b = field_in_byte s 1 0 7 1 (omega arith) refl ∙ omega arith

  pub spare_is : field s 15 1 ≡ get_or s 1 0 % 2
  spare_is = field_in_byte s 1 7 1 0 (omega arith) refl ∙ omega arith

pub record ShortFits (s : List ℕ) : Type 0 where
  pub head_there : 2 ≤ length s
  pub length_is : length s ≡ 2 + (12 * short_racks s + 7) / 8
  pub spare_clear : field s 15 1 ≡ 0
  pub pad_clear : field s (16 + 12 * short_racks s) (pad (12 * short_racks s)) ≡ 0

module _ (s : List ℕ) where
  abbrev short? : Bool
  short? = ltb (length s) 2

  abbrev long? : Bool
  long? = not (eqb (length s) (2 + (12 * short_racks s + 7) / 8))

  abbrev spare? : Bool
  spare? = not (eqb (field s 15 1) 0)

  abbrev pad? : Bool
  pad? = not (eqb (field s (16 + 12 * short_racks s) (pad (12 * short_racks s))) 0)

  pub short_fits : wrong_short s ≡ false → ShortFits s
  unfolding wrong_short short_length
  short_fits e =
      let three = or_left (short? || long? || spare?) pad? e in
      let both = or_left (short? || long?) spare? three in
      record {
        head_there = ltb-false (length s) 2 (or_left short? long? both);
        length_is = eqb-true (length s) (2 + (12 * short_racks s + 7) / 8) (not-false _ (or_right short? long? both));
        spare_clear = eqb-true (field s 15 1) 0 (not-false _ (or_right (short? || long?) spare? three));
        pad_clear =
            eqb-true (field s (16 + 12 * short_racks s) (pad (12 * short_racks s))) 0
            (not-false _ (or_right (short? || long? || spare?) pad? e));
      }

  pub too_short : length s < 2 → false ≡ not (wrong_short s)
  unfolding wrong_short
  too_short h = rw (lt-ltb (length s) 2 h) refl

  pub wrong_length_lem : (length s ≡ 2 + (12 * short_racks s + 7) / 8 → ⊥) → false ≡ not (wrong_short s)
  unfolding wrong_short short_length
  wrong_length_lem d = rw (ne_eqb (length s) (2 + (12 * short_racks s + 7) / 8) d, or-true (ltb (length s) 2)) refl

  pub spare_set : (field s 15 1 ≡ 0 → ⊥) → false ≡ not (wrong_short s)
  unfolding wrong_short short_length
  spare_set d = rw (ne_eqb (field s 15 1) 0 d, or-true (short? || long?)) refl

  pub pad-set : (field s (16 + 12 * short_racks s) (pad (12 * short_racks s)) ≡ 0 → ⊥) → false ≡ not (wrong_short s)
  unfolding wrong_short short_length
  pad-set d =
      rw (ne_eqb (field s (16 + 12 * short_racks s) (pad (12 * short_racks s))) 0 d, or-true (short? || long? || spare?)) refl

  pub packed : ShortFits s → true ≡ not (wrong_short s)
  unfolding wrong_short short_length
  packed f =
      rw (
        le-ltb (length s) 2 f.head_there,
        eq-eqb (length s) (2 + (12 * short_racks s + 7) / 8) f.length_is,
        eq-eqb (field s 15 1) 0 f.spare_clear,
        eq-eqb (field s (16 + 12 * short_racks s) (pad (12 * short_racks s))) 0 f.pad_clear,
      ) refl

  module _ (m : ℕ) (is : m ≡ short_racks s) where
    abbrev tail : List ℕ
    tail = take (length s - 2) (drop 2 s)

    pub tail-pad : field tail (12 * m) (pad (12 * m)) ≡ field s (16 + 12 * short_racks s) (pad (12 * short_racks s))
    tail-pad = rw (rest_is 2 s, ← is) (sym (field-drop s 2 (12 * m) (pad (12 * m))))

    pub tail_room : length s ≡ 2 + (12 * m + 7) / 8 → 12 * m + pad (12 * m) ≤ 8 * length tail
    tail_room e = rw (rest_is 2 s, length-drop 2 s, up_to_byte (12 * m)) (omega arith)

    pub tail-starts : positions tail 0 m ≡ short_starts s
    unfolding short_starts
    tail-starts = rw (rest_is 2 s, ← is) (sym (positions-drop s 2 0 m))

    pub tail-goals : positions tail (6 * m) m ≡ short_goals s
    unfolding short_goals
    tail-goals = rw (rest_is 2 s, ← is) (sym (positions-drop s 2 (6 * m) m))

  pub length-starts : length (short_starts s) ≡ short_racks s
  unfolding short_starts
  length-starts = length-positions s 16 (short_racks s)

  pub length-goals : length (short_goals s) ≡ short_racks s
  unfolding short_goals
  length-goals = length-positions s (16 + 6 * short_racks s) (short_racks s)

  pub length-expanded : length (expanded s) ≡ 3 + (12 * (length (model_floor (model_code s)).edges + short_racks s) + 7) / 8
  unfolding expanded order_record full_order
  length-expanded =
      let bits = length-order_bits (full_order s) in
      let a = length-starts in
      let b = length-goals in
      length-to_bytes (order_bits (full_order s)) ∙ omega arith

  -- 255 edges and 127 racks at most
  pub expanded_small : unknown_model (model_code s) ≡ false → length (expanded s) ≤ 576
  expanded_small known =
      let l = length-expanded in
      let e = (model_size (model_code s) known).few_edges in
      let m : short_racks s < 128 = unfold short_racks in field_lt s 8 7 in
      omega arith

  module _ (n : ℕ) where
    pub meets_50 : false ≡ not (wrong_short s) → refused 50 0 ≡ expand_answer s n
    unfolding expand_answer
    meets_50 e = rw (not-false (wrong_short s) (sym e)) refl

    module _ (right : wrong_short s ≡ false) where
      pub no_model : unknown_model (model_code s) ≡ true → refused 51 0 ≡ expand_answer s n
      unfolding expand_answer
      no_model e = rw (right, e) refl

      module _ (known : unknown_model (model_code s) ≡ false) where
        pub bad_racks : wrong_racks (full_order s) ≡ true → refused 14 0 ≡ expand_answer s n
        unfolding expand_answer
        bad_racks e = rw (right, known, e) refl

        module _ (l : ℕ) (is : l ≡ length (expanded s)) (racks : wrong_racks (full_order s) ≡ false) where
          pub too_long : n < l → refused 52 0 ≡ expand_answer s n
          unfolding expand_answer
          too_long h = rw (right, known, racks, lt-ltb n (length (expanded s)) (omega arith)) refl

          pub sound : l ≤ n → accepted (l ∷ []) ≡ expand_answer s n
          unfolding expand_answer
          sound h = rw (right, known, racks, le-ltb n (length (expanded s)) (omega arith), is) refl

pub record Sound (s : List ℕ) (n : ℕ) (v : List ℕ) : Type 0 where
  pub right : wrong_short s ≡ false
  pub known : unknown_model (model_code s) ≡ false
  pub racks_right : wrong_racks (full_order s) ≡ false
  pub enough : length (expanded s) ≤ n
  pub length_is : length (expanded s) ∷ [] ≡ v

pub accepted_expand : (s : List ℕ) (n : ℕ) (v : List ℕ) → expand_answer s n ≡ accepted v → Sound s n v
unfolding expand_answer
accepted_expand s n v e₀ =
    let a₄ = accepted (length (expanded s) ∷ []) in
    let a₃ = refuse (ltb n (length (expanded s))) 52 0 a₄ in
    let a₂ = refuse (wrong_racks (full_order s)) 14 0 a₃ in
    let a₁ = refuse (unknown_model (model_code s)) 51 0 a₂ in
    let e₁ : a₁ ≡ accepted v = refuse_else (wrong_short s) 50 0 a₁ v e₀ in
    let e₂ : a₂ ≡ accepted v = refuse_else (unknown_model (model_code s)) 51 0 a₂ v e₁ in
    let e₃ : a₃ ≡ accepted v = refuse_else (wrong_racks (full_order s)) 14 0 a₃ v e₂ in
    let e₄ : a₄ ≡ accepted v = refuse_else (ltb n (length (expanded s))) 52 0 a₄ v e₃ in
    record {
      right = refuse_not (wrong_short s) 50 0 a₁ v e₀;
      known = refuse_not (unknown_model (model_code s)) 51 0 a₂ v e₁;
      racks_right = refuse_not (wrong_racks (full_order s)) 14 0 a₃ v e₂;
      enough = ltb-false n (length (expanded s)) (refuse_not (ltb n (length (expanded s))) 52 0 a₄ v e₃);
      length_is = cc;
    }

-- an acceptance with one count, and what it counts
module _ (s : List ℕ) (n l : ℕ) (e : accepted (l ∷ []) ≡ expand_answer s n) where
  pub accepted_is_length : l ≡ length (expanded s)
  accepted_is_length = let is = (accepted_expand s n (l ∷ []) (sym e)).length_is in let same : l ≡ length (expanded s) = cc in same

  pub accepted_length : l ≤ 576
  accepted_length =
      let is = accepted_is_length in
      let small = expanded_small s (accepted_expand s n (l ∷ []) (sym e)).known in
      omega arith

module _ (s B : List ℕ) (a : Answer) (e : a ≡ expand_answer s (length B)) where
  pub buffer-kept : (number place : ℕ) → a ≡ refused number place → B ≡ buffer_after s B
  unfolding buffer_after
  buffer-kept number place r = ap (λ (x : Answer). left_by x (expanded s) B) (sym r ∙ e)

  pub buffer-written : (v B' : List ℕ) → a ≡ accepted v → B' ≡ written B 0 (expanded s) → B' ≡ buffer_after s B
  unfolding buffer_after
  buffer-written v B' r w = w ∙ ap (λ (x : Answer). left_by x (expanded s) B) (sym r ∙ e)
