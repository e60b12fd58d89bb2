-- Laws of the number of edges.
--
--     rows_sum g m k       the sum of the first m rows, as far as k
--     handshake           each edge stands in two rows
--     row_sum_two          a row with just two 1s
--     rows_sum_two         a floor with two edges at each position has as many edges as positions
--     row_sum_least_two, row_sum_least_three    two, and three, different positions joined to a
--     rows_sum_least       two edges at least at each position
--     rows_sum_more        two edges at least at each position, and three at one of them
--     Neighbours, bi_connected_neighbours    on a bi-connected floor each position has two neighbours at least
--     bi_connected_edges   a bi-connected floor has as many edges as positions at least
--     ring_two            on a ring no position has three neighbours
-- Assumes nothing.
use Prim.Native.Nat.{ℕ, zero, suc, ◌+◌, ◌*◌, ◌-◌, ◌≤◌, ◌<◌}
use mathlib.Core.Path.{◌≡◌, refl, sym, ap, ◌∙◌}
use mathlib.Core.List.{List}
use mathlib.Core.Logic.{◌≢◌, by_cases}
use native.Mathlib.Decide.{ℕ_discrete, dec_lt}
use native.Mathlib.Omega.{arith}
use lib.ListN.{get_or}
use Rattle.sets.specs.Sets.{bit}
use Rattle.sets.specs.Sum.{sum_below}
use Rattle.graph.proofs.WalkLaws.{walk_starts}
use Rattle.graph.specs.Connected.{BiConnected, Ring}
use Rattle.graph.proofs.ConnectedLaws.{third}
use Rattle.graph.specs.Rows.{Edge, Rows}
use Rattle.graph.proofs.RowLaws.{edge_same, edge_loopless}
use Rattle.graph.specs.EdgeCount.{row_sum, edge_count}

unfoldable pub rows_sum : List ℕ → ℕ → ℕ → ℕ
rows_sum g zero k = 0
rows_sum g (suc a) k = rows_sum g a k + row_sum g a k

-- a column as far as a, which is a row as far as a
column_sum : List ℕ → ℕ → ℕ → ℕ
column_sum g zero k = 0
column_sum g (suc a) k = column_sum g a k + bit (get_or g a 0) k

rows_wider : (g : List ℕ) (m k : ℕ) → rows_sum g m (suc k) ≡ rows_sum g m k + column_sum g m k
unfolding rows_sum sum_below column_sum
rows_wider g zero k = refl
rows_wider g (suc a) k = let r = rows_wider g a k in omega arith

column_row : {n : ℕ} (g : List ℕ) → Rows n g → (a k : ℕ) → a ≤ k → k < n → column_sum g a k ≡ row_sum g k a
unfolding column_sum sum_below
column_row g m zero k l h = refl
column_row g m (suc a) k l h =
    let r = column_row g m a k (omega arith) h in
    let s = edge_same m a k in
    omega arith

pub handshake : {n : ℕ} (g : List ℕ) → Rows n g → (k : ℕ) → k ≤ n → rows_sum g k k ≡ 2 * edge_count g k
unfolding rows_sum sum_below edge_count
handshake g m zero l = refl
handshake g m (suc k) l =
    let r = handshake g m k (omega arith) in
    let w = rows_wider g k k in
    let c = column_row g m k k (omega arith) (omega arith) in
    let d = edge_loopless m k in
    omega arith

-- The sum of a row, as far as k, whose only 1s stand at p and q.
record TwoOnes (g : List ℕ) (a p q k : ℕ) : Type 0 where
  before : k ≤ p → row_sum g a k ≡ 0
  middle : p < k → k ≤ q → row_sum g a k ≡ 1
  after : q < k → row_sum g a k ≡ 2

two_ones : (g : List ℕ) (a p q n : ℕ) → p < q → bit (get_or g a 0) p ≡ 1 → bit (get_or g a 0) q ≡ 1
    → ((b : ℕ) → b < n → b ≢ p → b ≢ q → bit (get_or g a 0) b ≡ 0) → (k : ℕ) → k ≤ n → TwoOnes g a p q k
unfolding sum_below
two_ones g a p q n l e f rest zero h = record { before = λ x. refl; middle = λ x. omega arith; after = λ x. omega arith }
two_ones g a p q n l e f rest (suc k) h =
    let r = two_ones g a p q n l e f rest k (omega arith) in
    by_cases (ℕ_discrete k p)
    (λ i.
    let z = r.before (omega arith) in
    let o : bit (get_or g a 0) k ≡ 1 = ap (λ (x : ℕ). bit (get_or g a 0) x) i ∙ e in
    record { before = λ x. omega arith; middle = λ x y. omega arith; after = λ x. omega arith })
    (λ i. by_cases (ℕ_discrete k q)
    (λ j.
    let z = r.middle (omega arith) (omega arith) in
    let o : bit (get_or g a 0) k ≡ 1 = ap (λ (x : ℕ). bit (get_or g a 0) x) j ∙ f in
    record { before = λ x. omega arith; middle = λ x y. omega arith; after = λ x. omega arith })
    (λ j.
    let o = rest k (omega arith) i j in
    record {
      before = λ x. let z = r.before (omega arith) in omega arith;
      middle = λ x y. let z = r.middle (omega arith) (omega arith) in omega arith;
      after = λ x. let z = r.after (omega arith) in omega arith;
    }))

pub row_sum_two : (g : List ℕ) (a p q n : ℕ) → p < n → q < n → p ≢ q → bit (get_or g a 0) p ≡ 1 → bit (get_or g a 0) q ≡ 1
    → ((b : ℕ) → b < n → b ≢ p → b ≢ q → bit (get_or g a 0) b ≡ 0) → row_sum g a n ≡ 2
row_sum_two g a p q n hp hq other e f rest =
    by_cases (dec_lt p q)
    (λ l. (two_ones g a p q n l e f rest n (omega arith)).after hq)
    (λ l. (two_ones g a q p n (omega arith) f e (λ b h x y. rest b h y x) n (omega arith)).after hp)

pub rows_sum_two : (g : List ℕ) (m n : ℕ) → ((a : ℕ) → a < m → row_sum g a n ≡ 2) → rows_sum g m n ≡ 2 * m
unfolding rows_sum
rows_sum_two g zero n two = refl
rows_sum_two g (suc m) n two =
    let r = rows_sum_two g m n (λ a l. two a (omega arith)) in
    let t = two m (omega arith) in
    omega arith

row_sum_mono : (g : List ℕ) (a j d : ℕ) → row_sum g a j ≤ row_sum g a (j + d)
unfolding sum_below
row_sum_mono g a j zero = let i : j + 0 ≡ j = omega arith in let e : row_sum g a (j + 0) ≡ row_sum g a j = ap (row_sum g a) i in omega arith
row_sum_mono g a j (suc d) =
    let r = row_sum_mono g a j d in
    let i : j + suc d ≡ suc (j + d) = omega arith in
    let e : row_sum g a (j + suc d) ≡ row_sum g a (suc (j + d)) = ap (row_sum g a) i in
    omega arith

-- a 1 at p adds to what stands before it
row_sum-past : (g : List ℕ) (a p k : ℕ) → p < k → bit (get_or g a 0) p ≡ 1 → row_sum g a p + 1 ≤ row_sum g a k
unfolding sum_below
row_sum-past g a p k l e =
    let r = row_sum_mono g a (suc p) (k - suc p) in
    let i : suc p + (k - suc p) ≡ k = omega arith in
    let q : row_sum g a (suc p + (k - suc p)) ≡ row_sum g a k = ap (row_sum g a) i in
    omega arith

module _ (g : List ℕ) (a n : ℕ) where
  least_two : (p q : ℕ) → p < q → q < n → bit (get_or g a 0) p ≡ 1 → bit (get_or g a 0) q ≡ 1 → 2 ≤ row_sum g a n
  least_two p q l h e f = let x = row_sum-past g a p q l e in let y = row_sum-past g a q n h f in omega arith

  least_three : (p q r : ℕ) → p < q → q < r → r < n → bit (get_or g a 0) p ≡ 1 → bit (get_or g a 0) q ≡ 1 → bit (get_or g a 0) r ≡ 1
      → 3 ≤ row_sum g a n
  least_three p q r l k h e f i =
      let x = row_sum-past g a p q l e in let y = row_sum-past g a q r k f in let z = row_sum-past g a r n h i in omega arith

  pub row_sum_least_two : (p q : ℕ) → p < n → q < n → p ≢ q → bit (get_or g a 0) p ≡ 1 → bit (get_or g a 0) q ≡ 1 → 2 ≤ row_sum g a n
  row_sum_least_two p q hp hq other e f =
      by_cases (dec_lt p q) (λ l. least_two p q l hq e f) (λ l. least_two q p (omega arith) hp f e)

  pub row_sum_least_three : (p q r : ℕ) → p < n → q < n → r < n → p ≢ q → p ≢ r → q ≢ r
      → bit (get_or g a 0) p ≡ 1 → bit (get_or g a 0) q ≡ 1 → bit (get_or g a 0) r ≡ 1 → 3 ≤ row_sum g a n
  row_sum_least_three p q r hp hq hr x y z e f i =
      by_cases (dec_lt p q)
      (λ l. by_cases (dec_lt q r) (λ m. least_three p q r l m hr e f i)
      (λ m. by_cases (dec_lt p r) (λ k. least_three p r q k (omega arith) hq e i f) (λ k. least_three r p q (omega arith) l hq i e f)))
      (λ l. by_cases (dec_lt p r) (λ m. least_three q p r (omega arith) m hr f e i)
      (λ m. by_cases (dec_lt q r) (λ k. least_three q r p k (omega arith) hp f i e)
      (λ k. least_three r q p (omega arith) (omega arith) hp i f e)))

pub rows_sum_least : (g : List ℕ) (m n : ℕ) → ((a : ℕ) → a < m → 2 ≤ row_sum g a n) → 2 * m ≤ rows_sum g m n
unfolding rows_sum
rows_sum_least g zero n two = omega arith
rows_sum_least g (suc m) n two =
    let r = rows_sum_least g m n (λ a l. two a (omega arith)) in
    let t = two m (omega arith) in
    omega arith

pub rows_sum_more : (g : List ℕ) (u m n : ℕ) → ((a : ℕ) → a < m → 2 ≤ row_sum g a n) → u < m → 3 ≤ row_sum g u n → 2 * m < rows_sum g m n
unfolding rows_sum
rows_sum_more g u zero n two l three = omega arith
rows_sum_more g u (suc m) n two l three =
    by_cases (ℕ_discrete u m)
    (λ e.
    let r = rows_sum_least g m n (λ a h. two a (omega arith)) in
    let t : row_sum g u n ≡ row_sum g m n = ap (λ (x : ℕ). row_sum g x n) e in
    omega arith)
    (λ e.
    let r = rows_sum_more g u m n (λ a h. two a (omega arith)) (omega arith) three in
    let t = two m (omega arith) in
    omega arith)

pub record Neighbours (g : List ℕ) (a : ℕ) : Type 0 where
  pub one : ℕ
  pub two : ℕ
  pub first : Edge g a one
  pub second : Edge g a two
  pub differ : one ≢ two

module _ {n : ℕ} {g : List ℕ} (rows : Rows n g) (bi : BiConnected n (Edge g)) where
  -- a walk away from a starts at one neighbour, and one that avoids it at another
  pub bi_connected_neighbours : (a : ℕ) → a < n → Neighbours g a
  bi_connected_neighbours a below =
      let three = bi.three in
      let x = third a a in
      let hx = x.small in
      let way = bi.connected a x.at below (omega arith) in
      let one = walk_starts way.walk x.first in
      let y = third a one.to in
      let hy = y.small in
      let round = bi.without one.to (rows.inside a one.to one.edge).1 a y.at
      (record { there = below; other = rows.other a one.to one.edge })
      (record { there = omega arith; other = λ e. y.second (sym e) }) in
      let two = walk_starts round.walk y.first in
      record { one = one.to; two = two.to; first = one.edge; second = two.edge; differ = λ e. two.there.other (sym e) }

  pub bi_connected_degree : (a : ℕ) → a < n → 2 ≤ row_sum g a n
  bi_connected_degree a below =
      let t = bi_connected_neighbours a below in
      row_sum_least_two g a n t.one t.two (rows.inside a t.one t.first).1 (rows.inside a t.two t.second).1
      t.differ t.first t.second

  pub bi_connected_edges : n ≤ edge_count g n
  bi_connected_edges =
      let twice = handshake g rows n (omega arith) in
      let rows = rows_sum_least g n n bi_connected_degree in
      omega arith

pub ring_two : {n : ℕ} {g : List ℕ} → Rows n g → Ring n (Edge g) (edge_count g n) → (a : ℕ) → a < n → row_sum g a n ≤ 2
ring_two {n} {g} rows ring a below =
    by_cases (dec_lt 2 (row_sum g a n))
    (λ three.
    let more = rows_sum_more g a n n (bi_connected_degree rows ring.bi_connected) below three in
    let twice = handshake g rows n (omega arith) in
    let count = ring.count in
    omega arith)
    (λ few. omega arith)
