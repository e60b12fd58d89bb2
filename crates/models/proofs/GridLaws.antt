-- The models' floors are bi-connected and no rings, and what 13 asks of edges. Each law is one test that is computed over the table.
--
--     known_range, known_is, unknown_zero, unknown_many    the models that the table has
--     models_each       what a test passes for each model of the table holds of each that is known
--     at, place, start, left, right, handles    the breakdown of a grid of 3 columns or more: the corner of 2 by 2 positions is its ring;
--                       a handle of two for each further column of the first two rows; in each further row a handle of two, and then one
--                       for each further position
--     model_breakdown   it is a breakdown of each model
--     model_bi_connected, model_no_ring    so each is bi-connected, and it is no ring
--     model_sides       no position of a model has five or more edges
--     one_model         no two have as many positions
--     ModelSize F, model_size    1 to 64 positions, at most 255 edges, and more of them than positions
--     model_below       of positions below 64
--     size_is, size_tabled    its rows and columns, as the code needs them, and in the code's table
--     model_edges       lower first, below n and ascending
-- Assumes nothing.
use Prim.Native.Nat.{ℕ, ◌+◌, ◌-◌, ◌*◌, ◌/◌, ◌%◌, ◌≤◌, ◌<◌}
use mathlib.Core.Path.{◌≡◌, refl, subst}
use mathlib.Core.Bool.{Bool, true, false, cond, not, ◌&&◌, ◌||◌, or-true, or-false}
use mathlib.Core.List.{[], ◌∷◌}
use native.Mathlib.Omega.{arith}
use mir.Facts.{and_yes}
use borrow.Author.Tests.{eqb-false, ltb-false, eq-eqb, ne_eqb, lt-ltb, le-ltb}
use lib.ListN.{length, get_or}
use lib.Dec.{T, leb, ltb, eqb, leb→le, ltb→lt, eqb→eq}
use Rattle.field.specs.Bytes.{BelowPairs}
use Rattle.field.proofs.UnitLaws.{or_left, or_right}
use Rattle.order.specs.Floor.{Floor, some, is_pair, joined}
use Rattle.order.specs.Order.{bad_edge, precedes, ascending, wrong_edges}
use Rattle.order.proofs.Written.{edges_below}
use Rattle.graph.specs.Connected.{BiConnected, Ring}
use Rattle.breakdown.specs.Breakdown.{Breakdown}
use Rattle.breakdown.proofs.StageLaws.{breakdown_bi_connected}
use Rattle.floor.specs.FloorAnswer.{Joins}
use Rattle.floor.specs.Sides.{count_of, edges_at, FourSided}
use Rattle.floor.proofs.FloorRows.{joined-turned}
use Rattle.models.specs.Grid.{rows_of, columns_of, unknown_model}
use Rattle.models.specs.Grid.{to_right, to_below, edges_on, grid_edges, grid, model_floor}
use Rattle.models.specs.Writing.{SizeOf}
use Rattle.models.specs.declared.Size.{Size}
use Rattle.models.proofs.Certificate.{from, from_each, certifies, certified}

module _ (k : ℕ) where
  pub known_range : unknown_model k ≡ false → (1 ≤ k) × (k ≤ 5)
  unfolding unknown_model
  known_range known =
      let some : (k ≡ 0 → ⊥) = eqb-false k 0 (or_left (eqb k 0) (ltb 5 k) known) in
      (omega arith, ltb-false 5 k (or_right (eqb k 0) (ltb 5 k) known))

  pub known_is : (k ≡ 0 → ⊥) → k ≤ 5 → unknown_model k ≡ false
  unfolding unknown_model
  known_is d l = rw (ne_eqb k 0 d, le-ltb 5 k l) refl

  pub unknown_zero : k ≡ 0 → unknown_model k ≡ true
  unfolding unknown_model
  unknown_zero e = rw (eq-eqb k 0 e) refl

  pub unknown_many : 5 < k → unknown_model k ≡ true
  unfolding unknown_model
  unknown_many l = rw (lt-ltb 5 k l, or-true (eqb k 0)) refl

-- a known model is one of the table's five
pub models_each : (t : ℕ → Bool) → T (from 1 5 t) → (k : ℕ) → unknown_model k ≡ false → T (t k)
models_each t h k known = let r = known_range k known in from_each 1 5 t h k r.0 (omega arith)

-- the row: 0, 1, c + 1, c; then 2, c + 2, 3, c + 3, ..; then the further rows as they stand
abbrev at : ℕ → ℕ → ℕ
at c i =
    cond (ltb i 2) i (cond (ltb i 4) (c + 3 - i) (cond (ltb i (2 * c)) (cond (eqb (i % 2) 0) (i / 2) (c + i / 2)) i))

abbrev place : ℕ → ℕ → ℕ
place c p =
    cond (ltb p 2) p (cond (ltb p c) (2 * p) (cond (ltb p (c + 2)) (c + 3 - p) (cond (ltb p (2 * c)) (2 * (p - c) + 1) p)))

-- the row that handle i begins or goes on in, and the handle's number there, where it is not in the first two rows
abbrev line : ℕ → ℕ → ℕ
line c i = 2 + (i - (c - 2)) / (c - 1)

abbrev along : ℕ → ℕ → ℕ
along c i = (i - (c - 2)) % (c - 1)

abbrev start : ℕ → ℕ → ℕ
start c i = cond (ltb i (c - 2)) (4 + 2 * i) (line c i * c + cond (eqb (along c i) 0) 0 (along c i + 1))

abbrev left : ℕ → ℕ → ℕ
left c i = cond (ltb i (c - 2)) (i + 1) (cond (eqb (along c i) 0) ((line c i - 1) * c) (line c i * c + along c i))

abbrev right : ℕ → ℕ → ℕ
right c i = cond (ltb i (c - 2)) (c + i + 1) ((line c i - 1) * c + along c i + 1)

abbrev handles : ℕ → ℕ → ℕ
handles r c = c - 2 + (r - 2) * (c - 1)

module _ (k : ℕ) where
  abbrev is_broken : Bool
  is_broken =
      let r = rows_of k in
      let c = columns_of k in
      certifies (joined (grid r c)) (at c) (place c) (r * c) 4 (handles r c) (start c) (left c) (right c)

  -- as the code computes with them
  abbrev is_measured : Bool
  is_measured =
      let r = rows_of k in
      let c = columns_of k in
      leb 1 c && (leb c 64 && (leb (r * c) 64 && eqb (length (model_floor k).edges + (r + c)) (2 * (r * c))))

  -- more than n edges, and not more than 255
  abbrev is_sized : Bool
  is_sized =
      let F = model_floor k in
      leb 1 F.positions && (leb F.positions 64 && (leb (length F.edges) 255 && ltb F.positions (length F.edges)))

  -- no position has five or more edges
  abbrev is_four_sided : Bool
  is_four_sided = from 0 (model_floor k).positions (λ p. leb (edges_at (model_floor k) p) 4)

all_broken : T (from 1 5 is_broken)
unfolding from certifies joined some is_pair grid grid_edges edges_on to_right to_below rows_of columns_of
all_broken = tt

all_sized : T (from 1 5 is_sized)
unfolding from model_floor grid grid_edges edges_on to_right to_below rows_of columns_of
all_sized = tt

all_sided : T (from 1 5 is_four_sided)
unfolding from count_of model_floor grid grid_edges edges_on to_right to_below rows_of columns_of
all_sided = tt

all_measured : T (from 1 5 is_measured)
unfolding from model_floor grid grid_edges edges_on to_right to_below rows_of columns_of
all_measured = tt

-- the code's table
abbrev size_at : ℕ → Size
size_at k =
    get_or
    (record { rows = 2; columns = 3 } ∷ record { rows = 3; columns = 4 } ∷ record { rows = 4; columns = 4 }
    ∷ record { rows = 4; columns = 5 } ∷ record { rows = 8; columns = 8 } ∷ [])
    (k - 1) (record { rows = 0; columns = 0 })

abbrev is_tabled : ℕ → Bool
is_tabled k = eqb (size_at k).rows (rows_of k) && eqb (size_at k).columns (columns_of k)

all_tabled : T (from 1 5 is_tabled)
unfolding from rows_of columns_of
all_tabled = tt

all_ascend : T (from 1 5 (λ k. not (wrong_edges (model_floor k))))
unfolding from wrong_edges some bad_edge precedes ascending model_floor grid grid_edges edges_on to_right to_below rows_of columns_of
all_ascend = tt

-- no two models have as many positions
abbrev apart : ℕ → ℕ → Bool
apart j k = eqb j k || not (eqb (rows_of j * columns_of j) (rows_of k * columns_of k))

all_apart : T (from 1 5 (λ j. from 1 5 (apart j)))
unfolding from rows_of columns_of
all_apart = tt

pub one_model : (j k : ℕ) → unknown_model j ≡ false → unknown_model k ≡ false → (model_floor j).positions ≡
    (model_floor k).positions → j ≡ k
unfolding model_floor grid
one_model j k hj hk e =
    let t = models_each (apart j) (models_each (λ j. from 1 5 (apart j)) all_apart j hj) k hk in
    let same : apart j k ≡ eqb j k = rw (eq-eqb (rows_of j * columns_of j) (rows_of k * columns_of k) e) (or-false (eqb j k)) in
    eqb→eq j k (subst T same t)

pub record ModelSize (F : Floor) : Type 0 where
  pub some_position : 1 ≤ F.positions
  pub few_positions : F.positions ≤ 64
  pub few_edges : length F.edges ≤ 255
  pub more_edges : F.positions < length F.edges

module _ (k : ℕ) (known : unknown_model k ≡ false) where
  pub model_breakdown :
      Breakdown (model_floor k).positions (Joins (model_floor k)) 4 (handles (rows_of k) (columns_of k)) (at (columns_of k))
      (start (columns_of k)) (left (columns_of k))
      (right (columns_of k))
  unfolding model_floor grid
  model_breakdown =
      let r = rows_of k in
      let c = columns_of k in
      certified (joined (model_floor k)) (at c) (place c) (r * c) 4 (handles r c) (start c) (left c) (right c)
      (models_each is_broken all_broken k known)

  pub model_bi_connected : BiConnected (model_floor k).positions (Joins (model_floor k))
  model_bi_connected =
      breakdown_bi_connected (λ a b t. subst T (joined-turned (model_floor k) a b) t) model_breakdown

  pub model_size : ModelSize (model_floor k)
  model_size =
      let F = model_floor k in
      let t₁ = and_yes (leb 1 F.positions) _ (models_each is_sized all_sized k known) in
      let t₂ = and_yes (leb F.positions 64) _ t₁.1 in
      let t₃ = and_yes (leb (length F.edges) 255) _ t₂.1 in
      record {
        some_position = leb→le 1 F.positions t₁.0;
        few_positions = leb→le F.positions 64 t₂.0;
        few_edges = leb→le (length F.edges) 255 t₃.0;
        more_edges = ltb→lt F.positions (length F.edges) t₃.1;
      }

  pub model_no_ring : Ring (model_floor k).positions (Joins (model_floor k)) (length (model_floor k).edges) → ⊥
  model_no_ring r = let e = r.count in let l = model_size.more_edges in omega arith

  pub model_sides : FourSided (model_floor k)
  model_sides p l =
      let F = model_floor k in
      leb→le (edges_at F p) 4
      (from_each 0 F.positions (λ p. leb (edges_at F p) 4) (models_each is_four_sided all_sided k known) p (omega arith) (omega arith))

  pub model_edges : wrong_edges (model_floor k) ≡ false
  model_edges = falsely (wrong_edges (model_floor k)) (models_each (λ k. not (wrong_edges (model_floor k))) all_ascend k known)
    where
      falsely : (t : Bool) → T (not t) → t ≡ false
      falsely true h = absurd h
      falsely false h = refl

  pub model_below : BelowPairs 64 (model_floor k).edges
  model_below =
      let F = model_floor k in
      edges_below F.positions F.edges model_size.few_positions
      (unfold wrong_edges in or_left (some (bad_edge F.positions) F.edges) (not (ascending F.edges)) model_edges)

  pub size_is : SizeOf k (rows_of k) (columns_of k)
  size_is =
      let r = rows_of k in
      let c = columns_of k in
      let t₁ = and_yes (leb 1 c) _ (models_each is_measured all_measured k known) in
      let t₂ = and_yes (leb c 64) _ t₁.1 in
      let t₃ = and_yes (leb (r * c) 64) _ t₂.1 in
      record {
        rows_are = refl;
        columns_are = refl;
        some_column = leb→le 1 c t₁.0;
        few_columns = leb→le c 64 t₂.0;
        few = leb→le (r * c) 64 t₃.0;
        edges_are = eqb→eq (length (model_floor k).edges + (r + c)) (2 * (r * c)) t₃.1;
      }

  -- and the code's table has them
  pub size_tabled : SizeOf k (size_at k).rows (size_at k).columns
  size_tabled =
      let t = and_yes (eqb (size_at k).rows (rows_of k)) _ (models_each is_tabled all_tabled k known) in
      rw (eqb→eq (size_at k).rows (rows_of k) t.0, eqb→eq (size_at k).columns (columns_of k) t.1) size_is
