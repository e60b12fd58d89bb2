-- A floor that has a breakdown has more edges than positions: an end of the first handle has three edges, and every position has two.
--
--     ring-neighbours      each position of the base ring has two neighbours in it
--     breakdown_edges      a floor with a breakdown has more edges than positions
--     breakdown_no_ring    and is no ring
-- Assumes nothing.
use Prim.Native.Nat.{ℕ, ◌+◌, ◌-◌, ◌≤◌, ◌<◌}
use mathlib.Core.Path.{◌≡◌, sym, subst, ap}
use mathlib.Core.List.{List}
use mathlib.Core.Logic.{◌≢◌, by_cases}
use native.Mathlib.Decide.{ℕ_discrete, dec_lt}
use native.Mathlib.Omega.{arith}
use Rattle.graph.specs.Walk.{Symmetric}
use Rattle.graph.specs.Connected.{Ring}
use Rattle.graph.specs.Rows.{Edge, Rows}
use Rattle.graph.specs.EdgeCount.{row_sum, edge_count}
use Rattle.graph.proofs.EdgeCountLaws.{handshake, row_sum_least_three, rows_sum_more, bi_connected_degree}
use Rattle.breakdown.specs.Breakdown.{Breakdown}
use Rattle.breakdown.proofs.StageLaws.{breakdown_bi_connected}

pub record Beside_two (E : ℕ → ℕ → Type 0) (at : ℕ → ℕ) (r i : ℕ) : Type 0 where
  pub one : ℕ
  pub two : ℕ
  pub one_in : one < r
  pub two_in : two < r
  pub differ : one ≢ two
  pub first : E (at i) (at one)
  pub second : E (at i) (at two)

pub ring-neighbours : {E : ℕ → ℕ → Type 0} (at : ℕ → ℕ) (r i : ℕ) → Symmetric E → 3 ≤ r → ((i : ℕ) → i + 1 < r → E (at i) (at (i + 1)))
    → E (at (r - 1)) (at 0) → i < r → Beside_two E at r i
ring-neighbours {E} at r i sy three joined closed l =
    by_cases (ℕ_discrete i 0)
    (λ z.
    subst (Beside_two E at r) (sym z)
    (record {
      one = 1;
      two = r - 1;
      one_in = omega arith;
      two_in = omega arith;
      differ = omega arith;
      first = joined 0 (omega arith);
      second = sy _ _ closed;
    }))
    (λ z.
    let before : i - 1 + 1 ≡ i = omega arith in
    let back : E (at i) (at (i - 1)) = sy _ _ (subst (λ (m : ℕ). E (at (i - 1)) (at m)) before (joined (i - 1) (omega arith))) in
    by_cases (ℕ_discrete i (r - 1))
    (λ y. record {
      one = i - 1;
      two = 0;
      one_in = omega arith;
      two_in = omega arith;
      differ = omega arith;
      first = back;
      second = subst (λ (m : ℕ). E (at m) (at 0)) (sym y) closed;
    })
    (λ y. record {
      one = i - 1;
      two = i + 1;
      one_in = omega arith;
      two_in = omega arith;
      differ = omega arith;
      first = back;
      second = joined i (omega arith);
    }))

module _ {n : ℕ} {g : List ℕ} {r c : ℕ} {at start left right : ℕ → ℕ} (rows : Rows n g)
    (b : Breakdown n (Edge g) r c at start left right) where
  first_handle : 0 < c
  first_handle =
      by_cases (ℕ_discrete c 0)
      (λ e. let same : start c ≡ start 0 = ap start e in let x = b.begins in let y = b.stops in let z = b.ring_less in omega arith)
      (λ e. omega arith)

  branch : 3 ≤ row_sum g (left 0) n
  branch =
      let h = b.handle 0 first_handle in
      let place = h.left.place in
      let begins = b.begins in
      let less = b.ring_less in
      let before : place < r = let l = h.left.before in omega arith in
      let t = ring-neighbours at r place rows.symmetric b.ring_three b.ring_joined b.ring_closed before in
      let p = t.one_in in
      let q = t.two_in in
      let is : at place ≡ left 0 = h.left.is in
      let out : Edge g (at place) (at r) =
      subst (λ (x : ℕ). Edge g (at place) (at x)) begins (subst (λ (x : ℕ). Edge g x (at (start 0))) (sym is) h.first) in
      subst (λ (x : ℕ). 3 ≤ row_sum g x n) is
      (row_sum_least_three g (at place) n (at t.one) (at t.two) (at r) (rows.inside _ _ t.first).1
      (rows.inside _ _ t.second).1 (rows.inside _ _ out).1
      (by_cases (dec_lt t.one t.two) (λ l. b.distinct t.one t.two l (omega arith))
      (λ l e. b.distinct t.two t.one (let d = t.differ in omega arith) (omega arith) (sym e)))
      (b.distinct t.one r p less)
      (b.distinct t.two r q less)
      t.first t.second out)

  pub breakdown_edges : n < edge_count g n
  breakdown_edges =
      let bi = breakdown_bi_connected rows.symmetric b in
      let in_floor : left 0 < n = (rows.inside _ _ (b.handle 0 first_handle).first).0 in
      let more = rows_sum_more g (left 0) n n (bi_connected_degree rows bi) in_floor branch in
      let twice = handshake g rows n (omega arith) in
      omega arith

  pub breakdown_no_ring : Ring n (Edge g) (edge_count g n) → ⊥
  breakdown_no_ring r = let e = r.count in let more = breakdown_edges in omega arith
