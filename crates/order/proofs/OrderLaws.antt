-- Laws of the order reader's conditions.
--
--     no_positions, many_positions, right-positions    11, from the facts
--     RightHead s, right_head                          what 10 and 11 leave of a head
--     RightOrder s, right_order, right_well            well formed is what passes each of the five tests
--     well_formed                                      accepted is well formed, whatever the counts are called
--     formed_head                                      the head of a well-formed order
--     order_past                                       no number above 14 is the order reader's
-- Assumes nothing.
use Prim.Native.Nat.{ℕ, ◌≤◌, ◌<◌}
use mathlib.Core.Path.{◌≡◌, sym}
use mathlib.Core.Bool.{true, false, or-true}
use mathlib.Core.List.{List}
use mathlib.Core.Logic.{◌≢◌}
use native.Mathlib.Omega.{arith}
use borrow.Author.Tests.{lt-ltb, le-ltb, eq-eqb, ne_eqb, ltb-false, eqb-false}
use lib.Dec.{ltb, eqb}
use Rattle.answers.specs.Answer.{accepted, refused, refuse}
use Rattle.answers.proofs.AnswerLaws.{refuse_not, refuse_else, refuse-past, not_both}
use Rattle.field.proofs.UnitLaws.{Fitting, fitting, or_left, or_right}
use Rattle.order.specs.Order.{position_count, unit_count, wrong_length, wrong_positions, padding_set, wrong_edges, wrong_racks, floor_of}
use Rattle.order.specs.Order.{order_of, counts, order_answer, WellFormed}

module _ (s : List ℕ) where
  pub no_positions : position_count s ≡ 0 → wrong_positions s ≡ true
  unfolding wrong_positions
  no_positions e = simp (eq-eqb (position_count s) 0 e)

  pub many_positions : 64 < position_count s → wrong_positions s ≡ true
  unfolding wrong_positions
  many_positions h = simp (lt-ltb 64 (position_count s) h, or-true)

  pub right-positions : (position_count s ≡ 0 → ⊥) → position_count s ≤ 64 → wrong_positions s ≡ false
  unfolding wrong_positions
  right-positions d h = simp (ne_eqb (position_count s) 0 d, le-ltb 64 (position_count s) h)

pub record RightHead (s : List ℕ) : Type 0 where
  pub fit : Fitting s (unit_count s)
  pub some_position : 1 ≤ position_count s
  pub few_positions : position_count s ≤ 64

pub right_head : (s : List ℕ) → wrong_length s ≡ false → wrong_positions s ≡ false → RightHead s
unfolding wrong_length wrong_positions
right_head s l p =
    let some : (position_count s ≡ 0 → ⊥) = eqb-false (position_count s) 0
    (or_left (eqb (position_count s) 0) (ltb 64 (position_count s)) p) in
    record {
      fit = fitting s (unit_count s) l;
      some_position = omega arith;
      few_positions = ltb-false 64 (position_count s) (or_right (eqb (position_count s) 0) (ltb 64 (position_count s)) p);
    }

pub record RightOrder (s : List ℕ) : Type 0 where
  pub length_right : wrong_length s ≡ false
  pub positions_right : wrong_positions s ≡ false
  pub padding_clear : padding_set s ≡ false
  pub edges_right : wrong_edges (floor_of s) ≡ false
  pub racks_right : wrong_racks (order_of s) ≡ false

pub right_well : (s : List ℕ) → RightOrder s → WellFormed s
unfolding order_answer
right_well s w = simp (w.length_right, w.positions_right, w.padding_clear, w.edges_right, w.racks_right)

right_by : (s v : List ℕ) → order_answer s ≡ accepted v → RightOrder s
unfolding order_answer
right_by s v e =
    let a₄ = refuse (wrong_racks (order_of s)) 14 0 (accepted (counts s)) in
    let a₃ = refuse (wrong_edges (floor_of s)) 13 0 a₄ in
    let a₂ = refuse (padding_set s) 12 0 a₃ in
    let a₁ = refuse (wrong_positions s) 11 0 a₂ in
    let e₁ : a₁ ≡ accepted v = refuse_else (wrong_length s) 10 0 a₁ v e in
    let e₂ : a₂ ≡ accepted v = refuse_else (wrong_positions s) 11 0 a₂ v e₁ in
    let e₃ : a₃ ≡ accepted v = refuse_else (padding_set s) 12 0 a₃ v e₂ in
    let e₄ : a₄ ≡ accepted v = refuse_else (wrong_edges (floor_of s)) 13 0 a₄ v e₃ in
    record {
      length_right = refuse_not (wrong_length s) 10 0 a₁ v e;
      positions_right = refuse_not (wrong_positions s) 11 0 a₂ v e₁;
      padding_clear = refuse_not (padding_set s) 12 0 a₃ v e₂;
      edges_right = refuse_not (wrong_edges (floor_of s)) 13 0 a₄ v e₃;
      racks_right = refuse_not (wrong_racks (order_of s)) 14 0 (accepted (counts s)) v e₄;
    }

pub well_formed : (s v : List ℕ) → order_answer s ≡ accepted v → WellFormed s
well_formed s v e = right_well s (right_by s v e)

pub right_order : (s : List ℕ) → WellFormed s → RightOrder s
right_order s w = right_by s (counts s) w

pub formed_head : (s : List ℕ) → WellFormed s → RightHead s
formed_head s w = right_head s (right_order s w).length_right (right_order s w).positions_right

pub order_past : (s : List ℕ) (f j : ℕ) → 14 < f → order_answer s ≢ refused f j
unfolding order_answer
order_past s f j l e =
    let t₀ = refuse-past (wrong_length s) 10 0 _ f j (λ z. omega arith) e in
    let t₁ = refuse-past (wrong_positions s) 11 0 _ f j (λ z. omega arith) t₀.1 in
    let t₂ = refuse-past (padding_set s) 12 0 _ f j (λ z. omega arith) t₁.1 in
    let t₃ = refuse-past (wrong_edges (floor_of s)) 13 0 _ f j (λ z. omega arith) t₂.1 in
    let t₄ = refuse-past (wrong_racks (order_of s)) 14 0 _ f j (λ z. omega arith) t₃.1 in
    not_both f j (counts s) (sym t₄.1)
