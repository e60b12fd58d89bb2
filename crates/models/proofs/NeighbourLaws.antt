-- A model's floor joins side neighbours, and nothing else.
--
--     turned-eqb, turned_apart      equal, and apart by one, in either order
--     side_relation      side neighbours are a relation on the grid's positions
--     model_joins        two positions of a model's floor are joined exactly if they are side neighbours
-- Assumes nothing.
use Prim.Native.Nat.{ℕ, ◌+◌, ◌*◌, ◌/◌, ◌%◌, ◌≤◌}
use mathlib.Core.Path.{◌≡◌, refl, sym, ap, ap₂, ◌∙◌}
use mathlib.Core.Bool.{Bool, true, false, ◌&&◌, ◌||◌, and_comm, or_comm, and-false}
use mathlib.Core.List.{List, [], ◌∷◌}
use native.Mathlib.Decide.{ℕ_discrete}
use native.Mathlib.Omega.{arith}
use mir.Facts.{and_yes}
use borrow.Author.Tests.{eq-eqb, ne_eqb, ltb-true}
use lib.Dec.{T, ltb, eqb}
use Rattle.order.specs.Floor.{Floor, is_pair, joined}
use Rattle.order.specs.EdgeSets.{IsRelation, edges_listed, is_edge, floor_from}
use Rattle.order.proofs.EdgeLaws.{is_pair_is, and_left}
use Rattle.order.proofs.EdgeSetsLaws.{floor_from-joined}
use Rattle.tables.proofs.TableLaws.{passed}
use Rattle.models.specs.Grid.{rows_of, columns_of, unknown_model, to_right, to_below}
use Rattle.models.specs.Grid.{edges_on, grid_edges, grid, model_floor, apart_by_one, side_by_side}
use Rattle.models.proofs.Certificate.{from}
use Rattle.models.proofs.GridLaws.{models_each, model_size}

turned-eqb : (a b : ℕ) → eqb a b ≡ eqb b a
turned-eqb a b = elim (ℕ_discrete a b) [
  | yes e ↦ eq-eqb a b e ∙ sym (eq-eqb b a (sym e))
  | no d ↦ ne_eqb a b d ∙ sym (ne_eqb b a (λ e. d (sym e)))
]

turned_apart : (a b : ℕ) → apart_by_one a b ≡ apart_by_one b a
unfolding apart_by_one
turned_apart a b = or_comm (eqb (a + 1) b) (eqb (b + 1) a)

apart_itself : (a : ℕ) → apart_by_one a a ≡ false
unfolding apart_by_one
apart_itself a = let other : eqb (a + 1) a ≡ false = ne_eqb (a + 1) a (λ e. omega arith) in rw other refl

module _ (r c : ℕ) where
  pub side_relation : IsRelation (r * c) (side_by_side r c)
  unfolding side_by_side
  side_relation =
      record {
        both_ways = λ a b.
            ap₂ ◌&&◌ (and_comm (ltb a (r * c)) (ltb b (r * c)))
            (ap₂ ◌||◌ (ap₂ ◌&&◌ (turned-eqb (a / c) (b / c)) (turned_apart (a % c) (b % c)))
            (ap₂ ◌&&◌ (turned-eqb (a % c) (b % c)) (turned_apart (a / c) (b / c))));
        not_itself = λ a.
            rw (apart_itself (a / c), apart_itself (a % c), and-false (eqb (a / c) (a / c)), and-false (eqb (a % c) (a % c)))
            (and-false (ltb a (r * c) && ltb a (r * c)));
        inside = λ a b e. ltb-true a (r * c) (and_left (ltb a (r * c)) (ltb b (r * c)) (and_left (ltb a (r * c) && ltb b (r * c)) _ e));
      }

-- two lists of pairs are the same
abbrev same_pairs : List (ℕ × ℕ) → List (ℕ × ℕ) → Bool
same_pairs [] [] = true
same_pairs [] (q ∷ m) = false
same_pairs (p ∷ l) [] = false
same_pairs (p ∷ l) (q ∷ m) = is_pair p q && same_pairs l m

same-pairs : (l m : List (ℕ × ℕ)) → T (same_pairs l m) → l ≡ m
same-pairs [] [] t = refl
same-pairs [] (q ∷ m) t = absurd t
same-pairs (p ∷ l) [] t = absurd t
same-pairs (p ∷ l) (q ∷ m) t =
    let both = and_yes (is_pair p q) (same_pairs l m) t in
    ap₂ (λ (x : ℕ × ℕ) (y : List (ℕ × ℕ)). x ∷ y) (is_pair_is p q (passed (is_pair p q) both.0)) (same-pairs l m both.1)

abbrev neighbours : ℕ → Floor
neighbours k = floor_from (rows_of k * columns_of k) (side_by_side (rows_of k) (columns_of k))

all_listed : T (from 1 5 (λ k. same_pairs (model_floor k).edges (neighbours k).edges))
unfolding from is_pair model_floor grid grid_edges edges_on to_right to_below rows_of columns_of floor_from edges_listed
    is_edge side_by_side apart_by_one
all_listed = tt

module _ (k : ℕ) (known : unknown_model k ≡ false) where
  model_listed : model_floor k ≡ neighbours k
  unfolding model_floor grid floor_from
  model_listed =
      let same = same-pairs (model_floor k).edges (neighbours k).edges
      (models_each (λ k. same_pairs (model_floor k).edges (neighbours k).edges) all_listed k known) in
      λ i. record { positions = rows_of k * columns_of k; edges = same i }

  pub model_joins : (a b : ℕ) → joined (model_floor k) a b ≡ side_by_side (rows_of k) (columns_of k) a b
  model_joins a b =
      let few : rows_of k * columns_of k ≤ 64 = unfold model_floor grid in (model_size k known).few_positions in
      ap (λ (F : Floor). joined F a b) model_listed
      ∙ floor_from-joined (rows_of k * columns_of k) (side_by_side (rows_of k) (columns_of k)) few
      (side_relation (rows_of k) (columns_of k)) a b
