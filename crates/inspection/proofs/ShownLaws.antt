-- From what crates/breakdown answers for the rows of an order's floor to what is shown of it.
--
--     breakdown-along     a breakdown stays one where more edges join
--     handles_few         there are fewer handles than positions
--     small               the ring's size and the number of handles fit into the answer
--     short, order_refused, not-found, found    what is shown: nothing in too short a buffer, of a refused order or
--                                               where there is none; else it
-- Assumes nothing.
use Prim.Native.Nat.{ℕ, zero, suc, ◌+◌, ◌*◌, ◌≤◌, ◌<◌}
use mathlib.Core.Path.{◌≡◌, refl, ap, subst, ◌∙◌}
use mathlib.Core.List.{List, [], ◌∷◌}
use mathlib.Core.Logic.{◌↔◌}
use native.Mathlib.Numerals.{add-one}
use native.Mathlib.Nat.{not-suc-le-zero}
use native.Mathlib.Omega.{arith}
use lib.ListN.{length}
use Rattle.answers.specs.Answer.{accepted, refused}
use Rattle.order.specs.Order.{floor_of, counts, order_answer}
use Rattle.order.specs.Tables.{rows_of, decoded_rows}
use Rattle.tables.specs.Accepted.{OrderGave}
use Rattle.graph.specs.Connected.{BiConnected, Ring}
use Rattle.graph.specs.Rows.{row}
use Rattle.breakdown.specs.Breakdown.{Handle, Breakdown}
use Rattle.breakdown.specs.Answer.{Answer}
use Rattle.floor.specs.FloorAnswer.{Joins}
use Rattle.floor.proofs.FloorRows.{edge_joins, bi_connected_rows, filled_is}
use Rattle.floor.proofs.EdgesCounted.{ring-rows}
use Rattle.inspection.specs.Inspection.{up_to, LaidOut, Breaks, Inspected}

module _ {E D : ℕ → ℕ → Type 0} (more : (a b : ℕ) → E a b → D a b) where
  handle_along : {at : ℕ → ℕ} {s e u v : ℕ} → Handle E at s e u v → Handle D at s e u v
  handle_along h =
      record {
        inner = h.inner;
        first = more _ _ h.first;
        joined = λ j a b. more _ _ (h.joined j a b);
        last = more _ _ h.last;
        ends = h.ends;
        left = h.left;
        right = h.right;
      }

  pub breakdown-along : {n r c : ℕ} {at start left right : ℕ → ℕ} → Breakdown n E r c at start left right
      → Breakdown n D r c at start left right
  breakdown-along b =
      record {
        ring_three = b.ring_three;
        ring_less = b.ring_less;
        ring_joined = λ i l. more _ _ (b.ring_joined i l);
        ring_closed = more _ _ b.ring_closed;
        begins = b.begins;
        handle = λ i l. handle_along (b.handle i l);
        stops = b.stops;
        below = b.below;
        distinct = b.distinct;
        every = b.every;
      }

-- each handle has an inner position, so that the handles' places go up by one at least
module _ {n r c : ℕ} {E : ℕ → ℕ → Type 0} {at start left right : ℕ → ℕ} (b : Breakdown n E r c at start left right) where
  start_up : (i : ℕ) → i ≤ c → r + i ≤ start i
  start_up zero l = let z = b.begins in omega arith
  start_up (suc i) l =
      let r = start_up i (omega arith) in
      let h = (b.handle i (omega arith)).inner in
      let s : start (i + 1) ≡ start (suc i) = ap start (add-one i) in
      omega arith

  pub handles_few : r + c ≤ n
  handles_few = let u = start_up c (omega arith) in let s = b.stops in omega arith

-- nothing is shown
nothing_shown : (o old : List ℕ) → (Breaks o old → ⊥) → Inspected o old old 0
nothing_shown o old f =
    record { shown = λ l. absurd (not-suc-le-zero l); none = λ e. refl; exactly = (λ l. absurd (not-suc-le-zero l), λ b. absurd (f b)) }

pub short : (o old : List ℕ) → length old < 256 → Inspected o old old 0
short o old l = nothing_shown o old (λ b. let r = b.room in omega arith)

pub order_refused : (o old : List ℕ) (number place : ℕ) → refused number place ≡ order_answer o → Inspected o old old 0
order_refused o old number place f = nothing_shown o old (λ b. never (f ∙ b.order_right))
  where
    never : refused number place ≡ accepted (counts o) → ⊥
    never e = let z : ◌≡◌ {A = ℕ} 0 1 = cc in omega arith

module _ {o : List ℕ} {n e m : ℕ} (gave : OrderGave o n e m) {g : List ℕ} (filled : g ≡ decoded_rows o) where
  module _ {r c : ℕ} {row₁ row₂ row₃ row₄ : List ℕ} (answer : Answer n g r c row₁ row₂ row₃ row₄) where
    -- by the floor's own edges
    on_floor_lem : Answer (floor_of o).positions (rows_of (floor_of o)) r c row₁ row₂ row₃ row₄
    on_floor_lem = rw (gave.positions_are, filled_is gave filled) at answer

    exact : (0 < r)
        ↔ (BiConnected (floor_of o).positions (Joins (floor_of o))
        × (Ring (floor_of o).positions (Joins (floor_of o)) (length (floor_of o).edges) → ⊥))
    exact =
        let w = gave.placed_well in
        let bi = bi_connected_rows (floor_of o) w.edges_below in
        let ring = ring-rows (floor_of o) w.edges_below w.edges_right in (
          λ l. let x = on_floor_lem.exactly.0 l in (bi.0 x.0, λ k. x.1 (ring.1 k)),
          λ x. on_floor_lem.exactly.1 (bi.1 x.0, λ k. x.1 (ring.0 k)),
        )

    pub not_found : (old : List ℕ) → r ≡ 0 → Inspected o old old 0
    not_found old z = nothing_shown o old (λ b. let l = exact.1 (b.bi_connected, b.no_ring) in omega arith)

    module _ (some : 0 < r) where
      broken : Breakdown (floor_of o).positions (Joins (floor_of o)) r c (row row₁) (row row₂) (row row₃) (row row₄)
      broken = breakdown-along (edge_joins (floor_of o) gave.placed_well.edges_below) (on_floor_lem.found some)

      -- so that the answer fits
      pub small : r + c ≤ 64
      small = let f = handles_few broken in let w = gave.placed_well.few_positions in omega arith

      pub found : (old new : List ℕ) → 256 ≤ length old
          → LaidOut (up_to n (row row₁)) (up_to (c + 1) (row row₂)) (up_to c (row row₃)) (up_to c (row row₄)) old new
          → Inspected o old new (r + c * 256)
      found old new room rows = record {
        shown = λ l. record {
          ring = r;
          handles = c;
          order = row row₁;
          start = row row₂;
          left = row row₃;
          right = row row₄;
          counts = refl;
          small = let s = small in omega arith;
          breakdown = broken;
          rows = subst
              (λ (k : ℕ). LaidOut (up_to k (row row₁)) (up_to (c + 1) (row row₂)) (up_to c (row row₃)) (up_to c (row row₄)) old new)
              gave.positions_are rows;
        };
        none = λ z. absurd (never z);
        exactly = (
          λ l. record { order_right = gave.right; room = room; bi_connected = (exact.0 some).0; no_ring = (exact.0 some).1 },
          λ b. omega arith,
        );
      }
        where
          never : r + c * 256 ≡ 0 → ⊥
          never z = omega arith
