-- Every sound order has a well-formed record, and reading it gives the order back.
--
--     SoundOrder o      n from 1 to 64, at most 255 edges, edges, starts and goals as 13 and 14 ask
--     record_read       reading the record of a sound order gives it back
--     record_sound      the record of a sound order is well formed
-- Assumes nothing.
use Prim.Native.Nat.{ℕ, ◌+◌, ◌*◌, ◌/◌, ◌≤◌}
use mathlib.Core.Path.{◌≡◌, refl, sym, ap, ap₂, ◌∙◌}
use mathlib.Core.Bool.{false, not, ◌||◌}
use mathlib.Core.List.{List, [], ◌∷◌, ◌++◌, append_assoc, append-nil}
use native.Mathlib.Omega.{arith}
use borrow.Author.Tests.{leb-false}
use lib.Pow.{pow_pos}
use lib.ListN.{length, replicate, length-append}
use lib.Dec.{leb}
use Rattle.field.specs.Bits.{bits, bits_of, field, pairs, positions, pair_bits, position_bits, pad}
use Rattle.field.proofs.BitLaws.{length-bits, field_at}
use Rattle.field.specs.Bytes.{BelowPairs, none₂, more₂}
use Rattle.field.proofs.RecordLaws.{pairs-at, positions-at, length-pair_bits, length-position_bits, bits-zero, bits_of-to_bytes}
use Rattle.field.proofs.RecordLaws.{length-to_bytes, padded-by}
use Rattle.field.proofs.UnitLaws.{fits, clean, pad-after_head, or_left, or_right}
use Rattle.order.specs.Floor.{some}
use Rattle.order.specs.Order.{Order, order_bits, order_record, position_count, edge_count, rack_count, unit_count, floor_of, starts_of}
use Rattle.order.specs.Order.{goals_of, order_of, wrong_length, padding_set, bad_edge, wrong_edges, ascending, wrong_places}
use Rattle.order.specs.Order.{wrong_racks, WellFormed}
use Rattle.order.proofs.OrderLaws.{right-positions, right_well}
use Rattle.order.proofs.PlaceLaws.{places_below, below_more, few_places}
use Rattle.order.proofs.RecordOf.{order_bits_are, length-order_bits}

pub record SoundOrder (o : Order) : Type 0 where
  pub some_position : 1 ≤ o.floor.positions
  pub few_positions : o.floor.positions ≤ 64
  pub few_edges : length o.floor.edges ≤ 255
  pub edges_right : wrong_edges o.floor ≡ false
  pub a_goal_each : length o.goals ≡ length o.starts
  pub starts_right : wrong_places o.floor.positions o.starts ≡ false
  pub goals_right : wrong_places o.floor.positions o.goals ≡ false

-- an edge that is not bad has both positions below n
pub edges_below : (n : ℕ) (l : List (ℕ × ℕ)) → n ≤ 64 → some (bad_edge n) l ≡ false → BelowPairs 64 l
unfolding some bad_edge
edges_below n [] h e = none₂
edges_below n (p ∷ l) h e =
    let bad : (leb n p.0 || leb n p.1 || leb p.1 p.0) ≡ false =
    or_left (leb n p.0 || leb n p.1 || leb p.1 p.0) (some (bad_edge n) l) e in
    let both : (leb n p.0 || leb n p.1) ≡ false = or_left (leb n p.0 || leb n p.1) (leb p.1 p.0) bad in
    more₂ {p = p} (omega (arith, leb-false n p.0 (or_left (leb n p.0) (leb n p.1) both)))
    (omega (arith, leb-false n p.1 (or_right (leb n p.0) (leb n p.1) both)))
    (edges_below n l h (or_right (leb n p.0 || leb n p.1 || leb p.1 p.0) (some (bad_edge n) l) e))

-- the next run of bits joins those before it
shift : {l : List ℕ} (p a q : List ℕ) → l ≡ p ++ (a ++ q) → l ≡ (p ++ a) ++ q
shift p a q e = e ∙ sym (append_assoc p a q)

length_shift : (p a : List ℕ) (i w : ℕ) → length p ≡ i → length a ≡ w → length (p ++ a) ≡ i + w
length_shift p a i w e f = length-append p a ∙ ap₂ ◌+◌ e f

module _ (o : Order) (sound : SoundOrder o) where
  few_racks : length o.starts ≤ 64
  few_racks = omega (arith, few_places o.floor.positions o.starts sound.starts_right, sound.few_positions)

  lengths : length (order_bits o) ≡ 24 + 12 * (length o.floor.edges + length o.starts)
  lengths = length-order_bits o ∙ omega (arith, sound.a_goal_each)

  zeros : List ℕ
  zeros = replicate (pad (12 * (length o.floor.edges + length o.starts))) 0

  record Read : Type 0 where
    positions_are : position_count (order_record o) ≡ o.floor.positions
    edges_count : edge_count (order_record o) ≡ length o.floor.edges
    racks-count : rack_count (order_record o) ≡ length o.starts
    spare_clear : field (order_record o) 22 2 ≡ 0
    edges_are : pairs (order_record o) 24 (length o.floor.edges) ≡ o.floor.edges
    starts_are : positions (order_record o) (24 + 12 * length o.floor.edges) (length o.starts) ≡ o.starts
    goals_are : positions (order_record o) (24 + 12 * length o.floor.edges + 6 * length o.starts) (length o.starts) ≡ o.goals
    pad_clear :
        field (order_record o) (24 + 12 * (length o.floor.edges + length o.starts))
        (pad (12 * (length o.floor.edges + length o.starts)))
        ≡ 0

  read : Read
  unfolding position_count edge_count rack_count
  read = record {
    positions_are = field_at s [] _ 0 7 n e₀ refl (omega (arith, sound.few_positions));
    edges_count = field_at s b₀ _ 7 8 e e₀ l₁ (omega (arith, sound.few_edges));
    racks-count = field_at s (b₀ ++ b₁) _ 15 7 m e₁ l₂ (omega (arith, few_racks));
    spare_clear = field_at s (b₀ ++ b₁ ++ b₂) _ 22 2 0 e₂ l₃ (omega arith);
    edges_are = pairs-at s (b₀ ++ b₁ ++ b₂ ++ b₃) o.floor.edges _ 24 e₃ l₄
        (edges_below n o.floor.edges sound.few_positions edges_good);
    starts_are = positions-at s (b₀ ++ b₁ ++ b₂ ++ b₃ ++ b₄) o.starts _ (24 + 12 * e) e₄ l₅
        (below_more sound.few_positions (places_below n o.starts sound.starts_right));
    goals_are = ap (positions s (24 + 12 * e + 6 * m)) (sym sound.a_goal_each)
        ∙ positions-at s (b₀ ++ b₁ ++ b₂ ++ b₃ ++ b₄ ++ b₅) o.goals _ (24 + 12 * e + 6 * m) e₅ l₆
        (below_more sound.few_positions (places_below n o.goals sound.goals_right));
    pad_clear = field_at s (b₀ ++ b₁ ++ b₂ ++ b₃ ++ b₄ ++ b₅ ++ b₆) [] (24 + 12 * (e + m)) (pad (12 * (e + m))) 0 e₇ l₇
        (pow_pos (pad (12 * (e + m))));
  }
    where
      s : List ℕ
      s = order_record o

      n : ℕ
      n = o.floor.positions

      e : ℕ
      e = length o.floor.edges

      m : ℕ
      m = length o.starts

      b₀ : List ℕ
      b₀ = bits 7 n

      b₁ : List ℕ
      b₁ = bits 8 e

      b₂ : List ℕ
      b₂ = bits 7 m

      b₃ : List ℕ
      b₃ = bits 2 0

      b₄ : List ℕ
      b₄ = pair_bits o.floor.edges

      b₅ : List ℕ
      b₅ = position_bits o.starts

      b₆ : List ℕ
      b₆ = position_bits o.goals

      e₀ : bits_of s ≡ b₀ ++ (b₁ ++ (b₂ ++ (b₃ ++ (b₄ ++ (b₅ ++ (b₆ ++ zeros))))))
      e₀ =
          unfold order_record zeros in
          bits_of-to_bytes (order_bits_are o)
          ∙ padded-by (order_bits o) (pad (12 * (e + m))) (ap pad lengths ∙ pad-after_head (12 * (e + m)))
          ∙ (unfold order_bits in simp append_assoc)

      e₁ : bits_of s ≡ (b₀ ++ b₁) ++ (b₂ ++ (b₃ ++ (b₄ ++ (b₅ ++ (b₆ ++ zeros)))))
      e₁ = shift b₀ b₁ _ e₀

      e₂ : bits_of s ≡ (b₀ ++ b₁ ++ b₂) ++ (b₃ ++ (b₄ ++ (b₅ ++ (b₆ ++ zeros))))
      e₂ = shift (b₀ ++ b₁) b₂ _ e₁

      e₃ : bits_of s ≡ (b₀ ++ b₁ ++ b₂ ++ b₃) ++ (b₄ ++ (b₅ ++ (b₆ ++ zeros)))
      e₃ = shift (b₀ ++ b₁ ++ b₂) b₃ _ e₂

      e₄ : bits_of s ≡ (b₀ ++ b₁ ++ b₂ ++ b₃ ++ b₄) ++ (b₅ ++ (b₆ ++ zeros))
      e₄ = shift (b₀ ++ b₁ ++ b₂ ++ b₃) b₄ _ e₃

      e₅ : bits_of s ≡ (b₀ ++ b₁ ++ b₂ ++ b₃ ++ b₄ ++ b₅) ++ (b₆ ++ zeros)
      e₅ = shift (b₀ ++ b₁ ++ b₂ ++ b₃ ++ b₄) b₅ _ e₄

      e₇ : bits_of s ≡ (b₀ ++ b₁ ++ b₂ ++ b₃ ++ b₄ ++ b₅ ++ b₆) ++ (bits (pad (12 * (e + m))) 0 ++ [])
      e₇ =
          unfold zeros in shift (b₀ ++ b₁ ++ b₂ ++ b₃ ++ b₄ ++ b₅) b₆ zeros e₅
          ∙ rw (append-nil (bits (pad (12 * (e + m))) 0), bits-zero (pad (12 * (e + m)))) refl

      l₁ : length b₀ ≡ 7
      l₁ = length-bits 7 n

      l₂ : length (b₀ ++ b₁) ≡ 15
      l₂ = length_shift b₀ b₁ 7 8 l₁ (length-bits 8 e)

      l₃ : length (b₀ ++ b₁ ++ b₂) ≡ 22
      l₃ = length_shift (b₀ ++ b₁) b₂ 15 7 l₂ (length-bits 7 m)

      l₄ : length (b₀ ++ b₁ ++ b₂ ++ b₃) ≡ 24
      l₄ = length_shift (b₀ ++ b₁ ++ b₂) b₃ 22 2 l₃ (length-bits 2 0)

      l₅ : length (b₀ ++ b₁ ++ b₂ ++ b₃ ++ b₄) ≡ 24 + 12 * e
      l₅ = length_shift (b₀ ++ b₁ ++ b₂ ++ b₃) b₄ 24 (12 * e) l₄ (length-pair_bits o.floor.edges)

      l₆ : length (b₀ ++ b₁ ++ b₂ ++ b₃ ++ b₄ ++ b₅) ≡ 24 + 12 * e + 6 * m
      l₆ = length_shift (b₀ ++ b₁ ++ b₂ ++ b₃ ++ b₄) b₅ (24 + 12 * e) (6 * m) l₅ (length-position_bits o.starts)

      l₇ : length (b₀ ++ b₁ ++ b₂ ++ b₃ ++ b₄ ++ b₅ ++ b₆) ≡ 24 + 12 * (e + m)
      l₇ =
          length_shift (b₀ ++ b₁ ++ b₂ ++ b₃ ++ b₄ ++ b₅) b₆ (24 + 12 * e + 6 * m) (6 * length o.goals) l₆
          (length-position_bits o.goals)
          ∙ omega (arith, sound.a_goal_each)

      edges_good : some (bad_edge n) o.floor.edges ≡ false
      edges_good =
          unfold wrong_edges in or_left (some (bad_edge n) o.floor.edges) (not (ascending o.floor.edges)) sound.edges_right

  pub record_read : order_of (order_record o) ≡ o
  unfolding order_of floor_of starts_of goals_of
  record_read =
      rw (read.positions_are, read.edges_count, read.racks-count, read.edges_are, read.starts_are, read.goals_are) refl

  pub record_sound : WellFormed (order_record o)
  record_sound = right_well (order_record o) (record {
    length_right = unfold wrong_length in fits (order_record o) (unit_count (order_record o)) (rw length_is (omega arith))
        (length_is ∙ omega (arith, units));
    positions_right = right-positions (order_record o) (λ z. omega (arith, read.positions_are, sound.some_position))
        (rw read.positions_are sound.few_positions);
    padding_clear = unfold padding_set in rw units
        (clean (order_record o) (2 * (length o.floor.edges + length o.starts)) read.spare_clear (rw twelve read.pad_clear));
    edges_right = ap (λ (x : Order). wrong_edges x.floor) (ap_order) ∙ sound.edges_right;
    racks_right = ap wrong_racks record_read ∙ (unfold wrong_racks in rw (sound.starts_right, sound.goals_right) refl);
  })
    where
      units : unit_count (order_record o) ≡ 2 * (length o.floor.edges + length o.starts)
      units = unfold unit_count in ap₂ (λ (e m : ℕ). 2 * (e + m)) read.edges_count read.racks-count

      twelve : 6 * (2 * (length o.floor.edges + length o.starts)) ≡ 12 * (length o.floor.edges + length o.starts)
      twelve = omega arith

      length_is : length (order_record o) ≡ 3 + (12 * (length o.floor.edges + length o.starts) + 7) / 8
      length_is = unfold order_record in length-to_bytes (order_bits o) ∙ rw lengths (omega arith)

      ap_order : ◌≡◌ {A = Order}
          (record { floor = floor_of (order_record o); starts = starts_of (order_record o); goals = goals_of (order_record o) }) o
      ap_order = unfold order_of in record_read
