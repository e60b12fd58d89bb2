-- The head reader.
--
--     head_positions, head_edges, head_racks    the counts of a head, as sums of parts of its three bytes
--     short, wrong_length_lem, none, many, padding, sound    the head reader's answer, from the facts that its tests leave
--     fitted                                    the length passed
-- Assumes nothing.
use Prim.Native.Nat.{ℕ, ◌+◌, ◌*◌, ◌/◌, ◌%◌, ◌≤◌, ◌<◌}
use mathlib.Core.Path.{◌≡◌, refl, sym, ap, ◌∙◌}
use mathlib.Core.Bool.{Bool, true, false, not}
use mathlib.Core.List.{List, [], ◌∷◌}
use borrow.Author.Tests.{not-true, not-false}
use native.Mathlib.Omega.{arith}
use lib.ListN.{length, get_or}
use Rattle.answers.specs.Answer.{accepted, refused}
use Rattle.field.proofs.BitLaws.{field_in_byte, field_across}
use Rattle.field.specs.Units.{misfits, unclean}
use Rattle.field.proofs.UnitLaws.{misfits_short}
use Rattle.order.specs.Order.{CountsOf, position_count, edge_count, rack_count, unit_count, wrong_length, wrong_positions, padding_set}
use Rattle.order.specs.Order.{counts}
use Rattle.order.proofs.OrderLaws.{no_positions, many_positions, right-positions}
use Rattle.order.specs.Readers.{head_answer}

module _ (s : List ℕ) (h : 3 ≤ length s) (a : get_or s 0 0 < 256) (b : get_or s 1 0 < 256) (c : get_or s 2 0 < 256) where
  pub head_positions : position_count s ≡ get_or s 0 0 / 2
  unfolding position_count
  head_positions = field_in_byte s 0 0 7 1 (omega arith) refl ∙ omega arith

  pub head_edges : edge_count s ≡ get_or s 0 0 % 2 * 128 + get_or s 1 0 / 2
  unfolding edge_count
  head_edges = field_across s 0 7 1 7 1 (omega arith) refl refl ∙ omega arith

  pub head_racks : rack_count s ≡ get_or s 1 0 % 2 * 64 + get_or s 2 0 / 4
  unfolding rack_count
  head_racks = field_across s 1 7 1 6 2 (omega arith) refl refl ∙ omega arith

pub short : (s : List ℕ) → length s < 3 → refused 10 0 ≡ head_answer s
unfolding head_answer wrong_length
short s h = simp (misfits_short s (unit_count s) h)

module _ {s : List ℕ} {n e m : ℕ} (are : CountsOf s n e m) where
  units_are : 2 * (e + m) ≡ unit_count s
  unfolding unit_count
  units_are = omega arith

  module _ {f : Bool} (t : f ≡ not (misfits s (2 * (e + m)))) where
    length_test : f ≡ not (wrong_length s)
    unfolding wrong_length
    length_test = t ∙ ap (λ (u : ℕ). not (misfits s u)) units_are

    pub wrong_length_lem : f ≡ false → refused 10 0 ≡ head_answer s
    unfolding head_answer
    wrong_length_lem z = simp (not-false (wrong_length s) (sym length_test ∙ z))

    module _ (o : f ≡ true) where
      right-length : wrong_length s ≡ false
      right-length = not-true (wrong_length s) (sym length_test ∙ o)

      pub fitted : misfits s (2 * (e + m)) ≡ false
      fitted = not-true (misfits s (2 * (e + m))) (sym t ∙ o)

      pub none : n ≡ 0 → refused 11 0 ≡ head_answer s
      unfolding head_answer
      none z = simp (right-length, no_positions s (omega arith))

      pub many : 64 < n → refused 11 0 ≡ head_answer s
      unfolding head_answer
      many k = simp (right-length, many_positions s (omega arith))

      module _ (some : n ≡ 0 → ⊥) (few : n ≤ 64) {g : Bool} (u : g ≡ not (unclean s (2 * (e + m)))) where
        positions_right : wrong_positions s ≡ false
        positions_right = right-positions s (λ z. some (are.positions_are ∙ z)) (omega arith)

        clean_test : g ≡ not (padding_set s)
        unfolding padding_set
        clean_test = u ∙ ap (λ (k : ℕ). not (unclean s k)) units_are

        pub padding : g ≡ false → refused 12 0 ≡ head_answer s
        unfolding head_answer
        padding z = simp (right-length, positions_right, not-false (padding_set s) (sym clean_test ∙ z))

        pub sound : g ≡ true → accepted (n ∷ e ∷ m ∷ []) ≡ head_answer s
        unfolding head_answer counts
        sound z =
            simp (right-length, positions_right, not-true (padding_set s) (sym clean_test ∙ z))
            (rw (are.positions_are, are.edges_are, are.racks_are) refl)
