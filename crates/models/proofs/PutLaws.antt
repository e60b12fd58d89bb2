-- Pairs written one after another, and an order's record made of them.
--
--     right_inside       a position with one on its right is not the grid's last
--     put_nothing, put_one, room_one     no pair, and one
--     put_pairs_append    some pairs and then others
--     room_front, room_next, put_then    some pairs and then others, by two writers
--     Left s i ps t j rest, left-first, left_room, left-next, left_none    what is left to write, while a loop writes ps
--     copy-first, copy_room, copy-next, copy_last    the loop that copies pairs
--     grid-first, right_room, below_room, grid-next, grid_last    the loop that writes a grid's edges
--     put_front          written at the front they are their packed bytes, and what stands behind them stays
--     head_is            an order's head as bytes
--     order_is           an order's record is its head and its pairs, packed: the edges, then the racks' places two by two
-- Assumes nothing.
use Prim.Native.Nat.{ℕ, suc, ◌+◌, ◌-◌, ◌*◌, ◌/◌, ◌%◌, ◌≤◌, ◌<◌}
use mathlib.Core.Path.{◌≡◌, refl, sym, ap, ap₂, subst, ◌∙◌}
use mathlib.Core.Bool.{Bool, true, false, cond}
use mathlib.Core.List.{List, [], ◌∷◌, ◌++◌, append_assoc, append-nil}
use native.Mathlib.Omega.{arith}
use native.Mathlib.Nat.{add_assoc, add-zero, div-add-mod', div-lt_iff_lt-mul, mul-le-mul_right}
use lib.ListN.{length, get_or, set, drop, length-append, length-drop, length-set}
use lib.Seq.{drop-drop}
use lib.Dec.{eqb}
use Rattle.field.specs.Bits.{PairAt, bits, bits_of, pairs, pair_bits, position_bits, to_bytes}
use Rattle.field.specs.Bytes.{none, more, Bytes, BelowPairs}
use Rattle.field.specs.Packing.{pack, put_pair}
use Rattle.field.proofs.BitLaws.{Bits, below_append, length-bits, bits_are}
use Rattle.field.proofs.RecordLaws.{to_bytes-from, pair_bits_are, pairs_next}
use Rattle.field.proofs.WholeBytes.{padded-whole, to_bytes_append}
use Rattle.field.proofs.PackingLaws.{bits_append, bits-split, added, added_is, put_next, pack_is, length-pack}
use Rattle.order.specs.Order.{Order, order_bits, order_record}
use Rattle.models.specs.Grid.{to_right, to_below, edges_on, grid_edges}
use Rattle.models.specs.Writing.{order_head, put_pairs, Room, Put}

-- the row of p ends no later than the grid
pub right_inside : (r c p : ℕ) → p < r * c → p % c + 1 < c → p + 1 < r * c
right_inside r c p l h =
    let row : p / c < r = (div-lt_iff_lt-mul {k = c} {x = p} {y = r} (omega arith)).1 l in
    let ends : (p / c + 1) * c ≤ r * c = mul-le-mul_right c (omega arith) in
    let parts = div-add-mod' p c in
    let next : (p / c + 1) * c ≡ p / c * c + c = omega arith in
    omega arith

module _ (s : List ℕ) (j : ℕ) {ps : List (ℕ × ℕ)} where
  pub put_nothing : ps ≡ [] → Put s j ps s j
  unfolding put_pairs
  put_nothing e = subst (λ (l : List (ℕ × ℕ)). Put s j l s j) (sym e) (record { bytes_are = refl; next_is = sym (add-zero j) })

  pub put_one : (a b : ℕ) (t : List ℕ) → ps ≡ (a, b) ∷ [] → t ≡ put_pair s j a b → Put s j ps t (j + 1)
  unfolding put_pairs
  put_one a b t e is = subst (λ (l : List (ℕ × ℕ)). Put s j l t (j + 1)) (sym e) (record { bytes_are = is; next_is = refl })

  pub room_one : (a b : ℕ) → ps ≡ (a, b) ∷ [] → Room s j ps → (12 * (j + 1) + 7) / 8 ≤ length s
  room_one a b e h = let r = h.room in let one : length ps ≡ 1 = ap length e in subst (λ (k : ℕ). (12 * (j + k) + 7) / 8 ≤ length s) one r

pub put_pairs_append : (ps qs : List (ℕ × ℕ)) (s : List ℕ) (j : ℕ) → put_pairs s j (ps ++ qs) ≡ put_pairs
    (put_pairs s j ps) (j + length ps) qs
unfolding put_pairs
put_pairs_append [] qs s j = ap (λ (k : ℕ). put_pairs s k qs) (sym (add-zero j))
put_pairs_append (p ∷ ps) qs s j =
    let on : j + 1 + length ps ≡ j + suc (length ps) = omega arith in
    put_pairs_append ps qs (put_pair s j p.0 p.1) (j + 1)
    ∙ ap (λ (k : ℕ). put_pairs (put_pairs (put_pair s j p.0 p.1) (j + 1) ps) k qs) on

length-put_pair : (s : List ℕ) (j a b : ℕ) → length (put_pair s j a b) ≡ length s
unfolding put_pair
length-put_pair s j a b = by (eqb (j % 2) 0)
  where
    by : (t : Bool)
        → length
        (cond t (set (set s (j / 2 * 3) (a * 4 + b / 16)) (j / 2 * 3 + 1) (b % 16 * 16))
        (set (set s (j / 2 * 3 + 1) (get_or s (j / 2 * 3 + 1) 0 / 16 * 16 + a / 4)) (j / 2 * 3 + 2) (a % 4 * 64 + b)))
        ≡ length s
    by true = simp length-set
    by false = simp length-set

length-put_pairs : (ps : List (ℕ × ℕ)) (s : List ℕ) (j : ℕ) → length (put_pairs s j ps) ≡ length s
unfolding put_pairs
length-put_pairs [] s j = refl
length-put_pairs (p ∷ ps) s j = length-put_pairs ps (put_pair s j p.0 p.1) (j + 1) ∙ length-put_pair s j p.0 p.1

pub put_length : {s t : List ℕ} {j r : ℕ} {ps : List (ℕ × ℕ)} → Put s j ps t r → length t ≡ length s
put_length {s} {t} {j} {r} {ps} w = ap length w.bytes_are ∙ length-put_pairs ps s j

module _ {s : List ℕ} {j : ℕ} (x y : List (ℕ × ℕ)) where
  pub room_front : Room s j (x ++ y) → Room s j x
  room_front h = let r = h.room in let both = length-append x y in record { room = omega arith }

  module _ {t : List ℕ} {r : ℕ} (w : Put s j x t r) where
    pub room_next : Room s j (x ++ y) → Room t r y
    room_next h =
        let room = h.room in
        let both = length-append x y in
        let next = w.next_is in
        let same = put_length w in
        record { room = omega arith }

    pub put_then : {u : List ℕ} {q : ℕ} → Put t r y u q → Put s j (x ++ y) u q
    put_then {u} {q} v =
        let both = length-append x y in
        let first = w.next_is in
        let second = v.next_is in
        record {
          bytes_are =
              v.bytes_are ∙ ap₂ (λ (z : List ℕ) (k : ℕ). put_pairs z k y) w.bytes_are w.next_is ∙ sym (put_pairs_append x y s j);
          next_is = omega arith;
        }

-- t is s with the first of ps written from pair i on, up to pair j; the others are left
pub record Left (s : List ℕ) (i : ℕ) (ps : List (ℕ × ℕ)) (t : List ℕ) (j : ℕ) (rest : List (ℕ × ℕ)) : Type 0 where
  pub bytes_same : put_pairs t j rest ≡ put_pairs s i ps
  pub next_same : j + length rest ≡ i + length ps
  pub length_same : length t ≡ length s

module _ {s : List ℕ} {i : ℕ} {ps : List (ℕ × ℕ)} where
  pub left-first : Left s i ps s i ps
  left-first = record { bytes_same = refl; next_same = refl; length_same = refl }

  pub left_room : (x m : List (ℕ × ℕ)) {t : List ℕ} {j : ℕ} → Room s i ps → Left s i ps t j (x ++ m) → Room t j x
  left_room x m h k =
      let r = h.room in
      let n = k.next_same in
      let l = k.length_same in
      let both = length-append x m in
      record { room = omega arith }

  pub left-next : (x m : List (ℕ × ℕ)) {t u : List ℕ} {j r : ℕ} → Left s i ps t j (x ++ m) → Put t j x u r → Left s i ps u r m
  left-next x m {t} {u} {j} {r} k w =
      let n = k.next_same in
      let at = w.next_is in
      let both = length-append x m in
      record {
        bytes_same =
            ap₂ (λ (y : List ℕ) (a : ℕ). put_pairs y a m) w.bytes_are w.next_is ∙ sym (put_pairs_append x m t j) ∙ k.bytes_same;
        next_same = omega arith;
        length_same = put_length w ∙ k.length_same;
      }

  pub left_none : {t : List ℕ} {j : ℕ} {rest : List (ℕ × ℕ)} → rest ≡ [] → Left s i ps t j rest → Put s i ps t j
  unfolding put_pairs
  left_none {t} {j} {rest} e k =
      let none : length rest ≡ 0 = ap length e in
      let n = k.next_same in
      record { bytes_are = subst (λ (l : List (ℕ × ℕ)). put_pairs t j l ≡ put_pairs s i ps) e k.bytes_same; next_is = omega arith }

-- the pair at i of m is written next
module _ {t₀ : List ℕ} {j : ℕ} (s : List ℕ) (m i : ℕ) (l : i < m) {t : List ℕ} (a b : ℕ) (at : PairAt s (12 * i) a b)
    (k : Left t₀ j (pairs s 0 m) t (j + i) (pairs s (12 * i) (m - i))) where
  abbrev others : List (ℕ × ℕ)
  others = pairs s (12 * (i + 1)) (m - (i + 1))

  next_pair : Left t₀ j (pairs s 0 m) t (j + i) (((a, b) ∷ []) ++ others)
  next_pair =
      subst (Left t₀ j (pairs s 0 m) t (j + i))
      (pairs_next s i m l ∙ ap₂ (λ (x y : ℕ). (x, y) ∷ others) (sym at.first_is) (sym at.second_is))
      k

  pub copy_room : Room t₀ j (pairs s 0 m) → (12 * (j + i + 1) + 7) / 8 ≤ length t
  copy_room h = room_one t (j + i) a b refl (left_room ((a, b) ∷ []) others h next_pair)

  pub copy-next : (u : List ℕ) → u ≡ put_pair t (j + i) a b → Left t₀ j (pairs s 0 m) u (j + (i + 1)) others
  copy-next u is =
      subst (λ (q : ℕ). Left t₀ j (pairs s 0 m) u q others) (add_assoc j i 1)
      (left-next ((a, b) ∷ []) others next_pair (put_one t (j + i) a b u refl is))

pub copy-first : {t₀ : List ℕ} (j : ℕ) (s : List ℕ) (m : ℕ) → Left t₀ j (pairs s 0 m) t₀ (j + 0) (pairs s (12 * 0) (m - 0))
copy-first {t₀} j s m =
    let none : j + 0 ≡ j = omega arith in
    let all : m - 0 ≡ m = omega arith in
    rw (none, all) left-first

pub copy_last : {t₀ : List ℕ} {j : ℕ} (s : List ℕ) (m i : ℕ) → i ≡ m → {t : List ℕ}
    → Left t₀ j (pairs s 0 m) t (j + i) (pairs s (12 * i) (m - i)) → Put t₀ j (pairs s 0 m) t (j + m)
unfolding pairs
copy_last {t₀} {j} s m i e {t} k =
    let none : m - i ≡ 0 = omega arith in
    subst (λ (q : ℕ). Put t₀ j (pairs s 0 m) t (j + q)) e (left_none (ap (pairs s (12 * i)) none) k)

-- the edges from p are written next
module _ {t₀ : List ℕ} (r c p : ℕ) (l : p < r * c) {t : List ℕ} {j : ℕ}
    (k : Left t₀ 0 (grid_edges r c) t j (edges_on (r * c) c p (r * c - p))) (h : Room t₀ 0 (grid_edges r c)) where
  abbrev farther : List (ℕ × ℕ)
  farther = edges_on (r * c) c (p + 1) (r * c - (p + 1))

  abbrev lower : List (ℕ × ℕ)
  lower = to_below (r * c) c p ++ farther

  both : Left t₀ 0 (grid_edges r c) t j (to_right c p ++ lower)
  unfolding edges_on
  both =
      let one : r * c - p ≡ suc (r * c - (p + 1)) = omega arith in
      subst (λ (d : ℕ). Left t₀ 0 (grid_edges r c) t j (edges_on (r * c) c p d)) one k

  pub right_room : Room t j (to_right c p)
  right_room = left_room (to_right c p) lower h both

  module _ {u : List ℕ} {q : ℕ} (w : Put t j (to_right c p) u q) where
    pub below_room : Room u q (to_below (r * c) c p)
    below_room = left_room (to_below (r * c) c p) farther h (left-next (to_right c p) lower both w)

    pub grid-next : {v : List ℕ} {z : ℕ} → Put u q (to_below (r * c) c p) v z → Left t₀ 0 (grid_edges r c) v z farther
    grid-next x = left-next (to_below (r * c) c p) farther (left-next (to_right c p) lower both w) x

module _ {t₀ : List ℕ} (r c : ℕ) where
  pub grid-first : Left t₀ 0 (grid_edges r c) t₀ 0 (edges_on (r * c) c 0 (r * c - 0))
  unfolding grid_edges
  grid-first =
      let all : r * c - 0 ≡ r * c = omega arith in
      subst (λ (d : ℕ). Left t₀ 0 (grid_edges r c) t₀ 0 (edges_on (r * c) c 0 d)) (sym all) left-first

  pub grid_last : (p : ℕ) → r * c ≤ p → {t : List ℕ} {j : ℕ} → Left t₀ 0 (grid_edges r c) t j (edges_on (r * c) c p (r * c - p))
      → Put t₀ 0 (grid_edges r c) t j
  unfolding edges_on
  grid_last p l {t} {j} k =
      let none : r * c - p ≡ 0 = omega arith in
      left_none (ap (edges_on (r * c) c p) none) k

-- the bytes that q pairs take
abbrev size : ℕ → ℕ
size q = (12 * q + 7) / 8

put_behind : (ps ms : List (ℕ × ℕ)) (rest : List ℕ) (j : ℕ) → j ≡ length ms → size (j + length ps) - size j ≤ length rest
    → put_pairs (pack ms ++ rest) j ps ≡ pack (ms ++ ps) ++ drop (size (j + length ps) - size j) rest
unfolding put_pairs
put_behind [] ms rest j e h =
    let none : size (j + 0) - size j ≡ 0 = omega arith in
    rw (append-nil ms, none) refl
put_behind (p ∷ ps) ms rest j e h =
    let one = added j in
    let step = added_is j in
    let high : size (j + 1) ≤ size (j + suc (length ps)) = omega arith in
    let first : put_pair (pack ms ++ rest) j p.0 p.1 ≡ pack (ms ++ (p ∷ [])) ++ drop one rest =
    rw e (put_next ms rest p.0 p.1 (rw (← e) (omega arith))) in
    let longer : j + 1 ≡ length (ms ++ (p ∷ [])) = omega (arith, length-append ms (p ∷ [])) in
    let left : length (drop one rest) ≡ length rest - one = length-drop one rest in
    let on : size (j + 1 + length ps) ≡ size (j + suc (length ps)) = omega arith in
    let all : one + (size (j + 1 + length ps) - size (j + 1)) ≡ size (j + suc (length ps)) - size j = omega arith in
    ap (λ (l : List ℕ). put_pairs l (j + 1) ps) first
    ∙ put_behind ps (ms ++ (p ∷ [])) (drop one rest) (j + 1) longer (omega arith)
    ∙ rw (append_assoc ms (p ∷ []) ps, drop-drop (size (j + 1 + length ps) - size (j + 1)) one rest, all) refl

pub put_front : (s : List ℕ) (ps : List (ℕ × ℕ)) → Room s 0 ps → put_pairs s 0 ps ≡ pack ps ++ drop (length (pack ps)) s
unfolding pack
put_front s ps h =
    let r = h.room in
    let whole : size (0 + length ps) - size 0 ≡ length (pack ps) = omega (arith, length-pack ps) in
    put_behind ps [] s 0 refl (omega arith) ∙ rw whole refl

module _ (n e m : ℕ) (n_fits : n < 128) (e_fits : e < 256) (m_fits : m < 128) where
  abbrev head_bits : List ℕ
  head_bits = bits 7 n ++ bits 8 e ++ bits 7 m ++ bits 2 0

  head_bits_are : Bits head_bits
  head_bits_are = below_append (below_append (below_append (bits_are 7 n) (bits_are 8 e)) (bits_are 7 m)) (bits_are 2 0)

  length-head_bits : length head_bits ≡ 8 * 3
  length-head_bits = simp (length-append, length-bits)

  head_bits_lem : bits_of (order_head n e m) ≡ head_bits
  unfolding bits_of order_head
  head_bits_lem =
      let one : bits 8 (n * 2 + e / 128) ≡ bits 7 n ++ bits 1 (e / 128) = bits_append 7 1 n (e / 128) (omega arith) in
      let two : bits 8 (e % 128 * 2 + m / 64) ≡ bits 7 (e % 128) ++ bits 1 (m / 64) = bits_append 7 1 (e % 128) (m / 64) (omega arith) in
      let end : bits 8 (m % 64 * 4 + 0) ≡ bits 6 (m % 64) ++ bits 2 0 = bits_append 6 2 (m % 64) 0 (omega arith) in
      let none : m % 64 * 4 + 0 ≡ m % 64 * 4 = omega arith in
      let edges : bits 8 e ≡ bits 1 (e / 128) ++ bits 7 (e % 128) = bits-split 1 7 e in
      let racks : bits 7 m ≡ bits 1 (m / 64) ++ bits 6 (m % 64) = bits-split 1 6 m in
      rw (one, two, ← none, end, edges, racks) (simp (append_assoc, append-nil))

  head_are : Bytes (order_head n e m)
  unfolding order_head
  head_are =
      more {x = n * 2 + e / 128} (omega arith)
      (more {x = e % 128 * 2 + m / 64} (omega arith) (more {x = m % 64 * 4} (omega arith) none))

  pub head_is : to_bytes head_bits ≡ order_head n e m
  head_is = sym (to_bytes-from head_are head_bits_are (head_bits_lem ∙ sym (padded-whole head_bits 3 length-head_bits)))

-- an order's record in two parts
pub order_is : (o : Order) (us : List (ℕ × ℕ)) → o.floor.positions < 128 → length o.floor.edges < 256 → length o.starts < 128
    → BelowPairs 64 us → pair_bits us ≡ pair_bits o.floor.edges ++ (position_bits o.starts ++ position_bits o.goals)
    → order_record o ≡ order_head o.floor.positions (length o.floor.edges) (length o.starts) ++ pack us
unfolding order_record order_bits
order_is o us n_fits e_fits m_fits below are =
    let n = o.floor.positions in
    let e = length o.floor.edges in
    let m = length o.starts in
    let head = head_bits n e m n_fits e_fits m_fits in
    let split : order_bits o ≡ head ++ pair_bits us = rw are (simp append_assoc) in
    ap to_bytes split
    ∙ to_bytes_append 3 (head_bits_are n e m n_fits e_fits m_fits) (length-head_bits n e m n_fits e_fits m_fits) (pair_bits_are us)
    ∙ ap₂ ◌++◌ (head_is n e m n_fits e_fits m_fits) (sym (pack_is below))
