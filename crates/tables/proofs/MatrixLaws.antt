-- Laws of the matrix of edges.
--
--     marked_edges       the edges of a list, marked in a matrix, are there besides what was there before
--     matrix_joined      with the floor's edges marked in the empty matrix, an entry says whether an edge joins the two positions
--     joined_below       an edge of a floor that 13 passes joins positions below n
--     on_floor-joined     so on such a floor an edge is all that a move needs to be on the floor
-- Assumes nothing.
use Prim.Native.Nat.{ℕ, ◌+◌, ◌*◌, ◌<◌}
use mathlib.Core.Path.{◌≡◌, refl, sym, ap, ap₂, ◌∙◌}
use mathlib.Core.Bool.{Bool, true, false, not, ◌&&◌, ◌||◌, and_comm}
use mathlib.Core.List.{List, [], ◌∷◌}
use mathlib.Core.Logic.{⊎_elim, ◌≢◌}
use native.Mathlib.Omega.{arith}
use borrow.Author.Tests.{eq-eqb, ne_eqb, lt-ltb}
use lib.ListN.{length, set, replicate, length-set, length-replicate}
use lib.Seq.{get_or-set_same, get_or-set_other}
use lib.Dec.{T, eqb, ltb}
use Rattle.field.specs.Bytes.{BelowPairs, none₂, more₂}
use Rattle.field.proofs.UnitLaws.{or_left}
use Rattle.order.specs.Floor.{Floor, some, is_pair, joined}
use Rattle.order.proofs.EdgeLaws.{good_edge}
use Rattle.order.specs.Order.{bad_edge, ascending, wrong_edges}
use Rattle.order.specs.Tables.{marked}
use Rattle.motion.specs.Move.{on_floor}
use Rattle.motion.proofs.Test.{or_parts, equal?, decided}
use Rattle.tables.specs.Tables.{edge_at}
use Rattle.tables.proofs.TableLaws.{passed, failed, zeros_at}

-- two positions below 64 are told by their place in the matrix
same_place : (a b x y : ℕ) → b < 64 → y < 64 → a * 64 + b ≡ x * 64 + y → (a ≡ x) × (b ≡ y)
same_place a b x y h k e = (omega arith, omega arith)

edge_set : (g : List ℕ) (a b x y : ℕ) → b < 64 → y < 64 → x * 64 + y < length g
    → edge_at (set g (x * 64 + y) 1) (a, b) ≡ (is_pair (a, b) (x, y) || edge_at g (a, b))
unfolding edge_at is_pair
edge_set g a b x y h k room =
    ⊎_elim
    (λ (e : a * 64 + b ≡ x * 64 + y).
    let t = same_place a b x y h k e in
    rw (e, get_or-set_same g (x * 64 + y) 1 0 room, eq-eqb a x t.0, eq-eqb b y t.1))
    (λ (d : a * 64 + b ≢ x * 64 + y).
    rw (get_or-set_other g (x * 64 + y) (a * 64 + b) 1 0 d)
    (⊎_elim
    (λ (e : a ≡ x). rw (eq-eqb a x e, ne_eqb b y (λ c. d (ap₂ (λ (p q : ℕ). p * 64 + q) e c))))
    (λ (f : a ≢ x). rw (ne_eqb a x f))
    (equal? a x)))
    (equal? (a * 64 + b) (x * 64 + y))

-- the pair turned round
pair_turned : (a b x y : ℕ) → is_pair (a, b) (y, x) ≡ is_pair (b, a) (x, y)
unfolding is_pair
pair_turned a b x y = and_comm (eqb a y) (eqb b x)

regroup : (q p e u v : Bool) → (q || (p || e) || (u || v)) ≡ (e || (p || u || (q || v)))
regroup true true true u v = refl
regroup true true false u v = refl
regroup true false true u v = refl
regroup true false false true v = refl
regroup true false false false v = refl
regroup false true true u v = refl
regroup false true false u v = refl
regroup false false true u v = refl
regroup false false false u v = refl

pub marked_edges : (g : List ℕ) (l : List (ℕ × ℕ)) (a b : ℕ) → length g ≡ 4096 → BelowPairs 64 l → a < 64 → b < 64
    → edge_at (marked g l) (a, b) ≡ (edge_at g (a, b) || (some (is_pair (a, b)) l || some (is_pair (b, a)) l))
unfolding marked some
marked_edges g [] a b n none₂ h k = sym (or_none_lem (edge_at g (a, b)))
  where
    or_none_lem : (e : Bool) → (e || false) ≡ e
    or_none_lem true = refl
    or_none_lem false = refl
marked_edges g (x ∷ l) a b n (more₂ h₀ h₁ r) h k =
    let g₁ = set g (x.0 * 64 + x.1) 1 in
    let n₁ : length g₁ ≡ 4096 = length-set g (x.0 * 64 + x.1) 1 ∙ n in
    let g₂ = set g₁ (x.1 * 64 + x.0) 1 in
    let n₂ : length g₂ ≡ 4096 = length-set g₁ (x.1 * 64 + x.0) 1 ∙ n₁ in
    marked_edges g₂ l a b n₂ r h k
    ∙ rw (edge_set g₁ a b x.1 x.0 k h₀ (omega arith), edge_set g a b x.0 x.1 k h₁ (omega arith), pair_turned a b x.0 x.1)
    (regroup (is_pair (b, a) x) (is_pair (a, b) x) (edge_at g (a, b)) (some (is_pair (a, b)) l) (some (is_pair (b, a)) l))

none_there : (m : ℕ × ℕ) → edge_at (replicate 4096 0) m ≡ false
unfolding edge_at
none_there m = rw (zeros_at 4096 (m.0 * 64 + m.1))

pub matrix_joined : (F : Floor) (a b : ℕ) → BelowPairs 64 F.edges → a < 64 → b < 64
    → edge_at (marked (replicate 4096 0) F.edges) (a, b) ≡ joined F a b
unfolding joined
matrix_joined F a b r h k =
    marked_edges (replicate 4096 0) F.edges a b (length-replicate {A = ℕ} 4096 0) r h k
    ∙ ap (λ (e : Bool). e || (some (is_pair (a, b)) F.edges || some (is_pair (b, a)) F.edges)) (none_there (a, b))

module _ (F : Floor) (right : wrong_edges F ≡ false) (a b : ℕ) where
  pub joined_below : T (joined F a b) → (a < F.positions) × (b < F.positions)
  unfolding joined wrong_edges
  joined_below t =
      let good : some (bad_edge F.positions) F.edges ≡ false =
      or_left (some (bad_edge F.positions) F.edges) (not (ascending F.edges)) right in
      ⊎_elim
      (λ (u : T (some (is_pair (a, b)) F.edges)).
      let v = good_edge F.positions (a, b) F.edges good (passed (some (is_pair (a, b)) F.edges) u) in
      (omega (arith, v.0, v.1), v.1))
      (λ (u : T (some (is_pair (b, a)) F.edges)).
      let v = good_edge F.positions (b, a) F.edges good (passed (some (is_pair (b, a)) F.edges) u) in
      (v.1, omega (arith, v.0, v.1)))
      ((or_parts (some (is_pair (a, b)) F.edges) (some (is_pair (b, a)) F.edges)).0 t)

  pub on_floor-joined : on_floor F (a, b) ≡ joined F a b
  unfolding on_floor
  on_floor-joined =
      ⊎_elim
      (λ (t : T (joined F a b)).
      let v = joined_below t in
      rw (lt-ltb a F.positions v.0, lt-ltb b F.positions v.1))
      (λ (t : T (not (joined F a b))). rw (failed (joined F a b) t) (and_none (ltb a F.positions && ltb b F.positions)))
      (decided (joined F a b))
    where
      and_none : (e : Bool) → (e && false) ≡ false
      and_none true = refl
      and_none false = refl
