-- On a bi-connected floor there is a pair to choose.
--
--     all_or_one         every position below n is in a set, or one of them is not
--     walk_leaves        a walk from a settled position to one that is not leaves the settled ones by an edge
--     handle_exists      where a position is left out, some handle can be chosen
--     ring_exists        some ring can be chosen
-- Assumes nothing.
use Prim.Native.Nat.{ℕ, zero, suc, ◌≤◌, ◌<◌}
use mathlib.Core.Path.{◌≡◌, sym, subst, ◌∙◌}
use mathlib.Core.List.{List}
use mathlib.Core.Logic.{◌≢◌, by_cases, ◌⊎◌, inl, inr, ⊎_elim}
use native.Mathlib.Decide.{ℕ_discrete}
use native.Mathlib.Omega.{arith}
use Rattle.sets.specs.Sets.{Has}
use Rattle.sets.proofs.SetLaws.{has_or_not}
use Rattle.sets.proofs.CountLaws.{ones_least}
use Rattle.graph.specs.Walk.{Walk}
use Rattle.graph.specs.Walk.Walk.{alone, step}
use Rattle.graph.specs.Connected.{BiConnected}
use Rattle.graph.specs.Rows.{row, Edge, Rows}
use Rattle.graph.proofs.EdgeCountLaws.{bi_connected_neighbours}
use Rattle.breakdown.specs.Choice.{Leaves, RingChoice, HandleChoice}
use Rattle.breakdown.specs.Building.{Building}

record Unset (s n : ℕ) : Type 0 where
  at : ℕ
  below : at < n
  clear : Has s at → ⊥

off : {x : ℕ} → x ≡ 0 → x ≡ 1 → ⊥
off z h = omega arith

all_or_one : (s n : ℕ) → ((i : ℕ) → i < n → Has s i) ⊎ Unset s n
all_or_one s zero = inl (λ i l. absurd (none l))
  where
    none : {x : ℕ} → x < 0 → ⊥
    none h = omega arith
all_or_one s (suc n) =
    ⊎_elim
    (λ h. ⊎_elim
    (λ all. inl (λ i l. by_cases (ℕ_discrete i n) (λ q. subst (Has s) (sym q) h) (λ q. all i (omega arith))))
    (λ one. inr (record { at = one.at; below = (let b = one.below in omega arith); clear = one.clear }))
    (all_or_one s n))
    (λ z. inr (record { at = n; below = omega arith; clear = off z }))
    (has_or_not s n)

record Crossing (E : ℕ → ℕ → Type 0) (s : ℕ) : Type 0 where
  from : ℕ
  to : ℕ
  leaves : Leaves E s from to

walk_leaves : {E : ℕ → ℕ → Type 0} {P : ℕ → Type 0} (s : ℕ) {a b k : ℕ} → Walk E P a b k → Has s a → (Has s b → ⊥) → Crossing E s
walk_leaves s (alone p) on new = absurd (new on)
walk_leaves s (step {a} {b = m} p e w) on new =
    ⊎_elim
    (λ h. walk_leaves s w h new)
    (λ z. record { from = a; to = m; leaves = record { edge = e; settled = on; new = off z } })
    (has_or_not s m)

module _ {n : ℕ} {g : List ℕ} (rows : Rows n g) (bi : BiConnected n (Edge g)) where
  pub handle_exists : {r c : ℕ} (o start left right : List ℕ) (s u w k : ℕ) → Building n (Edge g) r c o start left right s → row start c < n
      → HandleChoice n g s (Edge g) u w k → k ≡ 0 → ⊥
  handle_exists {r} {c} o start left right s u w k b less choice none =
      ⊎_elim
      (λ all. let least = ones_least n s all in let count = b.settled.count in omega arith)
      (λ one.
      let way = bi.connected (row o 0) one.at (b.below 0 some) one.below in
      begun (walk_leaves s way.walk (b.settled.marked 0 some) one.clear))
      (all_or_one s n)
    where
      three : 3 ≤ row start c
      three = let t = b.ring_three in let p = b.room in omega arith

      some : 0 < row start c
      some = let t = three in omega arith

      -- the handle begun by an edge out of x can be ended at any settled position but x
      ended : (x y t : ℕ) → Leaves (Edge g) s x y → Has s t → t < n → t ≢ x → ⊥
      ended x y t l settled below other =
          let in_floor = rows.inside x y l.edge in
          let differ : y ≢ x = λ e. l.new (subst (Has s) (sym e) l.settled) in
          let way = bi.without x in_floor.0 y t (record { there = in_floor.1; other = differ })
          (record { there = below; other = other }) in
          let within = choice.least x y t way.size l.edge l way.walk settled in
          let found = within.some in
          omega arith

      begun : Crossing (Edge g) s → ⊥
      begun x =
          let t = three in
          by_cases (ℕ_discrete (row o 0) x.from)
          (λ e. ended x.from x.to (row o 1) x.leaves (b.settled.marked 1 (omega arith)) (b.below 1 (omega arith))
          (λ q. b.settled.distinct 0 1 (omega arith) (omega arith) (e ∙ sym q)))
          (λ e. ended x.from x.to (row o 0) x.leaves (b.settled.marked 0 some) (b.below 0 some) e)

  pub ring_exists : (u w k : ℕ) → RingChoice n g (Edge g) u w k → k ≡ 0 → ⊥
  ring_exists u w k choice none =
      let three = bi.three in
      let t = bi_connected_neighbours rows bi 0 (omega arith) in
      let away : (p : ℕ) → Edge g 0 p → p ≢ 0 = λ p e q. rows.other 0 p e (sym q) in
      let back = bi.without 0 (omega arith) t.one t.two
      (record { there = (rows.inside 0 t.one t.first).1; other = away t.one t.first })
      (record { there = (rows.inside 0 t.two t.second).1; other = away t.two t.second }) in
      let within = choice.least 0 t.one t.two back.size t.first t.first back.walk
      (record { edge = t.second; other = λ e. t.differ (sym e) }) in
      let found = within.some in
      omega arith
