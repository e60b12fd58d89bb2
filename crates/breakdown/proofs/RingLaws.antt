-- A shortest ring through every position is the whole floor: it has no chord, so that the floor has as many edges as positions.
--
--     adjacent         an edge joins only positions that are next to one another round the ring
--     degree_two       each position has just two edges
--     ring-counts      the floor has n edges
-- Assumes nothing.
use Prim.Native.Nat.{ℕ, suc, ◌+◌, ◌-◌, ◌≤◌, ◌<◌}
use mathlib.Core.Path.{◌≡◌, sym, subst, ap, ◌∙◌}
use mathlib.Core.List.{List}
use mathlib.Core.Logic.{◌≢◌, by_cases, ◌⊎◌, inl, inr, ⊎_elim}
use native.Mathlib.Decide.{ℕ_discrete, dec_lt}
use native.Mathlib.Omega.{arith}
use lib.ListN.{get_or}
use Rattle.sets.proofs.SetLaws.{has_or_not}
use Rattle.graph.specs.Walk.{Walk}
use Rattle.graph.proofs.WalkLaws.{walk_segment}
use Rattle.graph.specs.Connected.{Except, Below}
use Rattle.graph.specs.Rows.{row, Edge, Rows}
use Rattle.graph.specs.EdgeCount.{row_sum, edge_count}
use Rattle.graph.proofs.EdgeCountLaws.{handshake, row_sum_two, rows_sum_two}
use Rattle.breakdown.specs.Choice.{RingChoice}
use Rattle.breakdown.specs.Building.{Building}
use Rattle.breakdown.proofs.BuildingLaws.{building_all, building_every}

module _ {n : ℕ} {g : List ℕ} {c u w k : ℕ} (r : ℕ) (o start left right : List ℕ) (s : ℕ) (rows : Rows n g)
    (b : Building n (Edge g) r c o start left right s) (choice : RingChoice n g (Edge g) u w k) (size : r ≡ k + 1) (full : n ≤ r) where
  fills : row start c ≡ n
  fills = building_all b (let p = b.room in omega arith)

  around : r ≡ n
  around = let f = fills in let p = b.room in omega arith

  three : 3 ≤ n
  three = let t = b.ring_three in let e = around in omega arith

  distinct : (i j : ℕ) → i < j → j < n → row o i ≢ row o j
  distinct i j l h = b.settled.distinct i j l (let f = fills in omega arith)

  below : (i : ℕ) → i < n → row o i < n
  below i l = b.below i (let f = fills in omega arith)

  joined : (i : ℕ) → i + 1 < n → Edge g (row o i) (row o (i + 1))
  joined i l = b.ring_joined i (let e = around in omega arith)

  closed : Edge g (row o (n - 1)) (row o 0)
  closed = subst (λ (m : ℕ). Edge g (row o (m - 1)) (row o 0)) around b.ring_closed

  -- a chord would cut off a shorter ring
  pub adjacent : (i j : ℕ) → i < j → j < n → Edge g (row o i) (row o j) → (j ≡ i + 1) ⊎ ((i ≡ 0) × (j ≡ n - 1))
  adjacent i j l h e =
      by_cases (ℕ_discrete j (i + 1)) (λ q. inl q)
      (λ q.
      let same : i + 1 + (j - (i + 1)) ≡ j = omega arith in
      let walk : Walk (Edge g) (Except (Below n) (row o i)) (row o (i + 1)) (row o j) (suc (j - (i + 1))) =
      subst (λ (m : ℕ). Walk (Edge g) (Except (Below n) (row o i)) (row o (i + 1)) (row o m) (suc (j - (i + 1)))) same
      (walk_segment (row o) (i + 1) (j - (i + 1))
      (λ p x y. record { there = below p (omega arith); other = λ z. distinct i p (omega arith) (omega arith) (sym z) })
      (λ p x y. joined p (omega arith))) in
      let short = (choice.least (row o i) (row o (i + 1)) (row o j) (suc (j - (i + 1))) (joined i (omega arith))
      (joined i (omega arith)) walk
      (record { edge = e; other = λ z. distinct (i + 1) j (omega arith) h (sym z) })).most in
      let a = around in
      inr (omega arith, omega arith))

  degree : (i p q : ℕ) → i < n → p < n → q < n → p ≢ q → Edge g (row o i) (row o p) → Edge g (row o i) (row o q)
      → ((j : ℕ) → j < n → j ≢ p → j ≢ q → j ≢ i → Edge g (row o i) (row o j) → ⊥) → row_sum g (row o i) n ≡ 2
  degree i p q hi hp hq other e f rest =
      row_sum_two g (row o i) (row o p) (row o q) n (below p hp) (below q hq)
      (by_cases (dec_lt p q) (λ l. distinct p q l hq) (λ l z. distinct q p (omega arith) hp (sym z)))
      e f (λ x hx xp xq. ⊎_elim
      (λ h.
      let a = building_every b (let t = b.room in omega arith) x hx in
      absurd
      (rest a.place a.before
      (λ v. xp (sym a.is ∙ ap (row o) v))
      (λ v. xq (sym a.is ∙ ap (row o) v))
      (λ v. rows.other (row o i) x h (ap (row o) (sym v) ∙ a.is))
      (subst (Edge g (row o i)) (sym a.is) h)))
      (λ z. z)
      (has_or_not (get_or g (row o i) 0) x))

  -- what is next to place i: before it or after it, or across the end of the row
  next_to : (i j : ℕ) → i < n → j < n → j ≢ i → Edge g (row o i) (row o j)
      → ((j ≡ i + 1) ⊎ ((i ≡ 0) × (j ≡ n - 1))) ⊎ ((i ≡ j + 1) ⊎ ((j ≡ 0) × (i ≡ n - 1)))
  next_to i j hi hj other e =
      by_cases (dec_lt i j) (λ l. inl (adjacent i j l hj e)) (λ l. inr (adjacent j i (omega arith) hi
      (rows.symmetric (row o i) (row o j) e)))

  one_less : (i j : ℕ) → i ≡ j + 1 → j ≡ i - 1
  one_less i j e = omega arith

  pub degree_two : (i : ℕ) → i < n → row_sum g (row o i) n ≡ 2
  degree_two i hi =
      let t = three in
      by_cases (ℕ_discrete i 0)
      (λ z.
      degree i 1 (n - 1) hi (omega arith) (omega arith) (omega arith)
      (subst (λ (m : ℕ). Edge g (row o m) (row o 1)) (sym z) (joined 0 (omega arith)))
      (subst (λ (m : ℕ). Edge g (row o m) (row o (n - 1))) (sym z) (rows.symmetric _ _ closed))
      (λ j hj x y v e.
      ⊎_elim (⊎_elim (λ a. omega arith) (λ a. let a0 = a.1 in omega arith)) (⊎_elim (λ a. omega arith) (λ a. let a0 = a.0 in omega arith))
      (next_to i j hi hj v e)))
      (λ z. by_cases (ℕ_discrete i (n - 1))
      (λ y.
      degree i (n - 2) 0 hi (omega arith) (omega arith) (omega arith)
      (rows.symmetric _ _ (subst (λ (m : ℕ). Edge g (row o (n - 2)) (row o m)) (sym (let q : i ≡ n - 2 + 1 = omega arith in q))
      (joined (n - 2) (omega arith))))
      (subst (λ (m : ℕ). Edge g (row o m) (row o 0)) (sym y) closed)
      (λ j hj x v q e.
      ⊎_elim (⊎_elim (λ a. omega arith) (λ a. let a0 = a.0 in omega arith)) (⊎_elim (λ a. omega arith) (λ a. let a0 = a.0 in omega arith))
      (next_to i j hi hj q e)))
      (λ y.
      degree i (i - 1) (i + 1) hi (omega arith) (omega arith) (omega arith)
      (rows.symmetric _ _ (subst (λ (m : ℕ). Edge g (row o (i - 1)) (row o m)) (let q : i - 1 + 1 ≡ i = omega arith in q)
      (joined (i - 1) (omega arith))))
      (joined i (omega arith))
      (λ j hj x v q e.
      ⊎_elim (⊎_elim v (λ a. z a.0)) (⊎_elim (λ a. x (one_less i j a)) (λ a. y a.1)) (next_to i j hi hj q e))))

  pub ring-counts : edge_count g n ≡ n
  ring-counts =
      let twice = handshake g rows n (omega arith) in
      let sum = rows_sum_two g n n (λ a l.
      let p = building_every b (let t = b.room in omega arith) a l in
      ap (λ (x : ℕ). row_sum g x n) (sym p.is) ∙ degree_two p.place p.before) in
      omega arith
