-- The number of edges in a floor's rows is the number of its edges: none is listed twice. So a ring by the rows is a ring.
--
--     Raised g h q p       below the diagonal the rows g and h differ in one edge, the one of q and p, which h has and g has not
--     raised_count         then h has one edge more
--     joined-count         edges in ascending order, joined where there was none, each count once
--     edges_counted        the edges of a floor that 13 passes
--     ring-rows            bi-connected with exactly n edges, by the rows and by the floor
-- Assumes nothing.
use Prim.Native.Nat.{ℕ, zero, suc, ◌+◌, ◌^◌, ◌≤◌, ◌<◌}
use mathlib.Core.Path.{◌≡◌, refl, sym, ap, ◌∙◌}
use mathlib.Core.Bool.{true, false, not, or-true}
use mathlib.Core.List.{List, [], ◌∷◌}
use mathlib.Core.Logic.{◌↔◌, inl, inr, ⊎_elim, by_cases}
use native.Mathlib.Decide.{ℕ_discrete}
use native.Mathlib.Omega.{arith}
use borrow.Author.Tests.{not-false}
use lib.Bits.{bit_or}
use lib.ListN.{length, get_or, replicate, length-set, length-replicate}
use Rattle.field.specs.Bytes.{BelowPairs, more₂}
use Rattle.field.proofs.UnitLaws.{or_left, or_right}
use Rattle.order.specs.Floor.{Floor, some, is_pair}
use Rattle.order.specs.Order.{bad_edge, ascending, wrong_edges}
use Rattle.order.proofs.EdgeLaws.{is_pair-same, ascending-first, rest-ascends, good_edge}
use Rattle.tables.proofs.TableLaws.{zeros_at}
use Rattle.sets.specs.Sets.{bit, Has}
use Rattle.sets.specs.Sum.{sum_below}
use Rattle.sets.proofs.SetLaws.{has_or_not, bit-zero}
use Rattle.graph.specs.Connected.{Ring}
use Rattle.graph.specs.Rows.{Edge}
use Rattle.graph.specs.EdgeCount.{row_sum, edge_count}
use Rattle.floor.specs.FloorAnswer.{Joins}
use Rattle.order.specs.Tables.{joining, joined_rows, rows_of}
use Rattle.floor.proofs.FloorRows.{joining_edge, bi_connected_rows}

pub record Raised (g h : List ℕ) (q p : ℕ) : Type 0 where
  pub before : bit (get_or g q 0) p ≡ 0
  pub after : bit (get_or h q 0) p ≡ 1
  pub else : (a b : ℕ) → b < a → (a ≡ q → b ≡ p → ⊥) → bit (get_or h a 0) b ≡ bit (get_or g a 0) b

module _ (g h : List ℕ) where
  row_same : (a k : ℕ) → ((b : ℕ) → b < k → bit (get_or h a 0) b ≡ bit (get_or g a 0) b) → row_sum h a k ≡ row_sum g a k
  unfolding sum_below
  row_same a zero same = refl
  row_same a (suc k) same =
      let r = row_same a k (λ b l. same b (omega arith)) in
      let s = same k (omega arith) in
      omega arith

  module _ (q p : ℕ) (raised : Raised g h q p) where
    row_more : p < q → (k : ℕ) → k ≤ q → p < k → row_sum h q k ≡ row_sum g q k + 1
    unfolding sum_below
    row_more lp zero m l = omega arith
    row_more lp (suc k) m l =
        by_cases (ℕ_discrete p k)
        (λ e.
        let r = row_same q k (λ b s. raised.else q b (omega arith) (λ _ f. omega arith)) in
        let x : bit (get_or g q 0) p ≡ bit (get_or g q 0) k = ap (bit (get_or g q 0)) e in
        let y : bit (get_or h q 0) p ≡ bit (get_or h q 0) k = ap (bit (get_or h q 0)) e in
        let u = raised.before in
        let v = raised.after in
        omega arith)
        (λ e.
        let r = row_more lp k (omega arith) (omega arith) in
        let s = raised.else q k (omega arith) (λ _ f. omega arith) in
        omega arith)

    count_same : (k : ℕ) → k ≤ q → edge_count h k ≡ edge_count g k
    unfolding edge_count
    count_same zero l = refl
    count_same (suc a) l =
        let r = count_same a (omega arith) in
        let s = row_same a a (λ b t. raised.else a b t (λ e _. omega arith)) in
        omega arith

    pub raised_count : (k : ℕ) → p < q → q < k → edge_count h k ≡ edge_count g k + 1
    unfolding edge_count
    raised_count zero l lq = omega arith
    raised_count (suc a) l lq =
        by_cases (ℕ_discrete q a)
        (λ e.
        let r = count_same a (omega arith) in
        let s = row_more l q (omega arith) l in
        let x : row_sum g q q ≡ row_sum g a a = ap (λ (b : ℕ). row_sum g b b) e in
        let y : row_sum h q q ≡ row_sum h a a = ap (λ (b : ℕ). row_sum h b b) e in
        omega arith)
        (λ e.
        let r = raised_count a l (omega arith) in
        let s = row_same a a (λ b t. raised.else a b t (λ f _. omega arith)) in
        omega arith)

-- digits that say the same are the same
same_bit : (s t p : ℕ) → (Has s p → Has t p) → (Has t p → Has s p) → bit s p ≡ bit t p
same_bit s t p f g =
    ⊎_elim (λ h. let i = f h in omega arith)
    (λ h. ⊎_elim (λ i. let j = g i in omega arith) (λ i. omega arith) (has_or_not t p))
    (has_or_not s p)

-- an edge joined at both its ends raises the one below the diagonal
edge_raised : (g : List ℕ) (x y : ℕ) → length g ≡ 64 → x < y → y < 64 → bit (get_or g y 0) x ≡ 0 → Raised g
    (joining (joining g x y) y x) y x
edge_raised g x y long l h z =
    let g₁ = joining g x y in
    let long₁ : length g₁ ≡ 64 = length-set g x (bit_or (get_or g x 0) (2 ^ y)) ∙ long in
    let first = joining_edge g x y (omega arith) in
    let second = joining_edge g₁ y x (omega arith) in
    record {
      before = z;
      after = (second y x).1 (inr (refl, refl));
      else = λ a b lb other.
          same_bit (get_or (joining g₁ y x) a 0) (get_or g a 0) b
          (λ i. ⊎_elim
          (λ j. ⊎_elim (λ k. k) (λ k. absurd (upper a b lb k.0 k.1)) ((first a b).0 j))
          (λ j. absurd (other j.0 j.1))
          ((second a b).0 i))
          (λ i. (second a b).1 (inl ((first a b).1 (inl i))));
    }
  where
    upper : (a b : ℕ) → b < a → a ≡ x → b ≡ y → ⊥
    upper a b lb e f = omega arith

pub joined-count : (n : ℕ) (g : List ℕ) (l : List (ℕ × ℕ)) → length g ≡ 64 → BelowPairs 64 l → some (bad_edge n) l ≡ false
    → ascending l ≡ true → ((f : ℕ × ℕ) → some (is_pair f) l ≡ true → bit (get_or g f.1 0) f.0 ≡ 0)
    → edge_count (joined_rows g l) n ≡ edge_count g n + length l
unfolding joined_rows some
joined-count n g [] long small good asc clear = omega arith
joined-count n g (e ∷ l) long (more₂ h₀ h₁ small) good asc clear =
    let here : some (is_pair e) (e ∷ l) ≡ true = rw (is_pair-same e) refl in
    let low = good_edge n e (e ∷ l) good here in
    let x = e.0 in
    let y = e.1 in
    let g₁ = joining g x y in
    let g₂ = joining g₁ y x in
    let long₂ : length g₂ ≡ 64 = length-set g₁ y (bit_or (get_or g₁ y 0) (2 ^ x)) ∙ length-set g x (bit_or (get_or g x 0) (2 ^ y)) ∙ long in
    let raised = edge_raised g x y long low.0 h₁ (clear e here) in
    let one = raised_count g g₂ y x raised n low.0 low.1 in
    let rest_good = or_right (bad_edge n e) (some (bad_edge n) l) good in
    let rest = joined-count n g₂ l long₂ small rest_good (rest-ascends e l asc)
    (λ f m.
    let later = ascending-first e f l h₁ small asc m in
    let lf = good_edge n f l rest_good m in
    let old : some (is_pair f) (e ∷ l) ≡ true = rw (m, or-true (is_pair f e)) refl in
    raised.else f.1 f.0 lf.0 (λ u v. omega arith) ∙ clear f old) in
    omega arith

-- at the start there is no edge
none_at : (a b : ℕ) → bit (get_or (replicate 64 0) a 0) b ≡ 0
none_at a b = ap (λ (s : ℕ). bit s b) (zeros_at 64 a) ∙ bit-zero b

row_none : (a k : ℕ) → row_sum (replicate 64 0) a k ≡ 0
unfolding sum_below
row_none a zero = refl
row_none a (suc k) = let r = row_none a k in let z = none_at a k in omega arith

none_yet : (k : ℕ) → edge_count (replicate 64 0) k ≡ 0
unfolding edge_count
none_yet zero = refl
none_yet (suc a) = let r = none_yet a in let s = row_none a a in omega arith

module _ (F : Floor) (small : BelowPairs 64 F.edges) (right : wrong_edges F ≡ false) where
  pub edges_counted : edge_count (rows_of F) F.positions ≡ length F.edges
  unfolding rows_of wrong_edges
  edges_counted =
      let good = or_left (some (bad_edge F.positions) F.edges) (not (ascending F.edges)) right in
      let asc = not-false (ascending F.edges) (or_right (some (bad_edge F.positions) F.edges) (not (ascending F.edges)) right) in
      let all =
      joined-count F.positions (replicate 64 0) F.edges (length-replicate {A = ℕ} 64 0) small good asc
      (λ f m. none_at f.1 f.0) in
      let none = none_yet F.positions in
      omega arith

  pub ring-rows : Ring F.positions (Edge (rows_of F)) (edge_count (rows_of F) F.positions)
      ↔ Ring F.positions (Joins F) (length F.edges)
  ring-rows =
      let same = bi_connected_rows F small in (
        λ r. record { bi_connected = same.0 r.bi_connected; count = sym edges_counted ∙ r.count },
        λ r. record { bi_connected = same.1 r.bi_connected; count = edges_counted ∙ r.count },
      )
