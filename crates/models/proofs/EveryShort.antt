-- Every choice of a known model, starts and goals has its short order, which is accepted where the buffer is long enough: so what the
-- theorems suppose holds of something, for each of the five models and every number of racks up to n.
--
--     short_read        reading the record of a short order gives it back, and 50 passes it
--     every_short       it is accepted, in every buffer that holds the full record
--     each_model        each model has one, without racks
--     model_order       so each model's floor has an order with two vacancies: what the theorems suppose of an order holds of something
-- Assumes nothing.
use Prim.Native.Nat.{ℕ, ◌+◌, ◌*◌, ◌/◌, ◌≤◌}
use mathlib.Core.Path.{◌≡◌, refl, sym, ap, subst, ◌∙◌}
use mathlib.Core.Bool.{false}
use mathlib.Core.List.{List, [], ◌∷◌, ◌++◌, append_assoc, append-nil}
use native.Mathlib.Omega.{arith}
use borrow.Author.Tests.{le-ltb, not-true}
use lib.Pow.{pow_pos}
use lib.ListN.{length, replicate, length-append}
use Rattle.answers.specs.Answer.{accepted}
use Rattle.field.specs.Bits.{bits, bits_of, field, positions, position_bits, pad}
use Rattle.field.proofs.BitLaws.{length-bits, field_at}
use Rattle.field.proofs.RecordLaws.{positions-at, length-positions, length-position_bits, bits-zero}
use Rattle.field.proofs.RecordLaws.{bits_of-to_bytes, length-to_bytes, padded-by}
use Rattle.field.proofs.WholeBytes.{pad-after-whole}
use Rattle.order.specs.Floor.{some}
use Rattle.order.specs.Order.{Order, position_count, rack_count, repeats, wrong_places, wrong_racks, starts_of}
use Rattle.order.specs.Order.{order_of, edge_count, floor_of}
use Rattle.order.proofs.PlaceLaws.{places_below, below_more, few_places}
use Rattle.models.specs.Grid.{unknown_model, model_floor}
use Rattle.models.specs.ShortOrder.{ShortOrder, short_bits, short_record, model_code}
use Rattle.models.specs.ShortOrder.{short_racks, short_starts, short_goals, short_of, wrong_short}
use Rattle.models.specs.Expansion.{full_order, expanded, expand_answer}
use Rattle.models.specs.Theorems.{ShortChoice, HasModel, WrittenOut}
use Rattle.models.proofs.GridLaws.{known_range, model_size, model_bi_connected}
use Rattle.models.proofs.ExpansionLaws.{ShortFits, packed}
use Rattle.models.proofs.ShortLaws.{short_bits_are, length-short_bits}
use Rattle.models.proofs.Theorems.{written_out}

-- the next run of bits joins those before it
shift : {l : List ℕ} (p a q : List ℕ) → l ≡ p ++ (a ++ q) → l ≡ (p ++ a) ++ q
shift p a q e = e ∙ sym (append_assoc p a q)

module _ (o : ShortOrder) (c : ShortChoice o) where
  few_positions : (model_floor o.model).positions ≤ 64
  few_positions = (model_size o.model c.known).few_positions

  abbrev m : ℕ
  m = length o.starts

  few_racks : m ≤ 64
  few_racks = omega (arith, few_places (model_floor o.model).positions o.starts c.starts_right, few_positions)

  abbrev zeros : List ℕ
  zeros = replicate (pad (12 * m)) 0

  lengths : length (short_bits o) ≡ 16 + 12 * m
  lengths = length-short_bits o ∙ omega (arith, c.a_goal_each)

  abbrev s : List ℕ
  s = short_record o

  abbrev front : List ℕ
  front = bits 8 o.model ++ bits 7 m

  all-bits : bits_of s ≡ bits 8 o.model ++ (bits 7 m ++ (bits 1 0 ++ (position_bits o.starts ++ (position_bits o.goals ++ zeros))))
  unfolding short_record
  all-bits =
      bits_of-to_bytes (short_bits_are o)
      ∙ padded-by (short_bits o) (pad (12 * m)) (ap pad lengths ∙ pad-after-whole 2 (12 * m))
      ∙ (unfold short_bits in simp append_assoc)

  after_head : bits_of s ≡ (front ++ bits 1 0) ++ (position_bits o.starts ++ (position_bits o.goals ++ zeros))
  after_head = shift front (bits 1 0) _ (shift (bits 8 o.model) (bits 7 m) _ all-bits)

  after-starts : bits_of s ≡ (front ++ bits 1 0 ++ position_bits o.starts) ++ (position_bits o.goals ++ zeros)
  after-starts = shift (front ++ bits 1 0) (position_bits o.starts) _ after_head

  after-goals : bits_of s ≡ (front ++ bits 1 0 ++ position_bits o.starts ++ position_bits o.goals) ++ (bits (pad (12 * m)) 0 ++ [])
  after-goals =
      shift (front ++ bits 1 0 ++ position_bits o.starts) (position_bits o.goals) _ after-starts
      ∙ rw (append-nil (bits (pad (12 * m)) 0), bits-zero (pad (12 * m))) refl

  length_front : length front ≡ 15
  length_front = simp (length-append, length-bits)

  length_head : length (front ++ bits 1 0) ≡ 16
  length_head = simp (length-append, length-bits)

  length_to_starts : length (front ++ bits 1 0 ++ position_bits o.starts) ≡ 16 + 6 * m
  length_to_starts = simp (length-append, length-bits, length-position_bits)

  length_to_goals : length (front ++ bits 1 0 ++ position_bits o.starts ++ position_bits o.goals) ≡ 16 + 12 * m
  length_to_goals = simp (length-append, length-bits, length-position_bits) (omega (arith, c.a_goal_each))

  model_read : model_code s ≡ o.model
  unfolding model_code
  model_read = let k = (known_range o.model c.known).1 in field_at s [] _ 0 8 o.model all-bits refl (omega arith)

  racks_read : short_racks s ≡ m
  unfolding short_racks
  racks_read = let f = few_racks in field_at s (bits 8 o.model) _ 8 7 m all-bits (length-bits 8 o.model) (omega arith)

  starts_read : short_starts s ≡ o.starts
  unfolding short_starts
  starts_read =
      rw racks_read
      (positions-at s (front ++ bits 1 0) o.starts _ 16 after_head length_head
      (below_more few_positions (places_below _ o.starts c.starts_right)))

  goals_read : short_goals s ≡ o.goals
  unfolding short_goals
  goals_read =
      rw racks_read
      (ap (positions s (16 + 6 * m)) (sym c.a_goal_each)
      ∙ positions-at s (front ++ bits 1 0 ++ position_bits o.starts) o.goals _ (16 + 6 * m) after-starts length_to_starts
      (below_more few_positions (places_below _ o.goals c.goals_right)))

  fits : ShortFits s
  fits =
      let long : length s ≡ (length (short_bits o) + 7) / 8 = unfold short_record in length-to_bytes (short_bits o) in
      let bits_are = lengths in
      let spare : field s 15 1 ≡ 0 =
      field_at s front _ 15 1 0 (shift (bits 8 o.model) (bits 7 m) _ all-bits) length_front (omega arith) in
      let none : field s (16 + 12 * m) (pad (12 * m)) ≡ 0 =
      field_at s (front ++ bits 1 0 ++ position_bits o.starts ++ position_bits o.goals) [] (16 + 12 * m) (pad (12 * m)) 0 after-goals
      length_to_goals
      (pow_pos (pad (12 * m))) in
      record {
        head_there = omega arith;
        length_is = rw racks_read (omega arith);
        spare_clear = spare;
        pad_clear = rw racks_read none;
      }

  right : wrong_short s ≡ false
  right = not-true (wrong_short s) (sym (packed s fits))

  pub short_read : (wrong_short s ≡ false) × (short_of s ≡ o)
  unfolding short_of
  short_read = (right, rw (model_read, starts_read, goals_read) refl)

  pub every_short : (n : ℕ) → length (expanded s) ≤ n → expand_answer s n ≡ accepted (length (expanded s) ∷ [])
  unfolding expand_answer
  every_short n h =
      let known : unknown_model (model_code s) ≡ false = rw model_read c.known in
      let racks : wrong_racks (full_order s) ≡ false = unfold full_order wrong_racks in
      rw (model_read, starts_read, goals_read, c.starts_right, c.goals_right) refl in
      rw (right, known, racks, le-ltb n (length (expanded s)) h) refl

-- a model without racks
abbrev bare : ℕ → ShortOrder
bare k = record { model = k; starts = []; goals = [] }

pub each_model : (k : ℕ) → unknown_model k ≡ false → ShortChoice (bare k)
each_model k known =
    record {
      known = known;
      a_goal_each = refl;
      starts_right = unfold wrong_places some repeats in refl;
      goals_right = unfold wrong_places some repeats in refl;
    }

pub model_order : (k : ℕ) → unknown_model k ≡ false
    → let o = expanded (short_record (bare k)) in HasModel o k × (rack_count o + 2 ≤ position_count o)
model_order k known =
    let count : length (starts_of o) ≡ rack_count o = unfold starts_of in length-positions o (24 + 12 * edge_count o) (rack_count o) in
    let racks : rack_count o ≡ 0 = sym count ∙ ap length starts_back in
    let three = (model_bi_connected k known).three in
    let n : position_count o ≡ (model_floor k).positions = unfold floor_of in on_model.positions in
    (on_model, omega arith)
  where
    c : ShortChoice (bare k)
    c = each_model k known

    s : List ℕ
    s = short_record (bare k)

    o : List ℕ
    o = expanded s

    out : WrittenOut s
    out = written_out s (length o) _ (every_short (bare k) c (length o) (omega arith))

    on_model : HasModel o k
    on_model = subst (HasModel o) (model_read (bare k) c) out.on_model

    starts_back : starts_of o ≡ []
    starts_back =
        let back : starts_of o ≡ short_starts s = unfold order_of full_order in ap (λ (x : Order). x.starts) out.back in
        back ∙ starts_read (bare k) c
