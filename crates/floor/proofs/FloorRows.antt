-- The floor of an order as crates/graph has it: rows of sets with the same edges.
--
--     walk_along, bi_connected_along      a walk, and a bi-connected floor, stay what they are where more edges join
--     joining_edge                       one position more in a row is one edge more
--     joined_edges                       the edges of a list are in its rows besides what was there before
--     joined-turned                      an edge joins both ways
--     none_there                         at the start there is no edge
--     edge_joins, joins_edge             the rows of a floor have the floor's edges and no others
--     bi_connected_rows                   bi-connected by the rows is bi-connected
--     joined_other                       an edge joins two different positions
--     floor_rows                         the rows of a floor that 13 passes are what crates/graph asks for
--     filled_is, filled_rows             what an accepted order is decoded to are those rows
--     filled_joins, joins_filled, filled_on_floor, filled_bi_connected    so they have the floor's edges
--     filled_starts, filled_goals        and its tables of racks hold its starts and its goals
-- Assumes nothing.
use Prim.Native.Nat.{ℕ, ◌^◌, ◌≤◌, ◌<◌}
use mathlib.Core.Path.{◌≡◌, sym, ap, subst, ◌∙◌}
use mathlib.Core.Bool.{false, not, or_comm}
use mathlib.Core.List.{List, [], ◌∷◌}
use mathlib.Core.Logic.{◌↔◌, ◌≢◌, ◌⊎◌, inl, inr, ⊎_elim}
use native.Mathlib.Omega.{arith}
use lib.Bits.{bit_or}
use lib.Dec.{T, eqb}
use lib.ListN.{length, get_or, replicate, length-set, length-replicate}
use lib.Seq.{get_or-set_same, get_or-set_other}
use Rattle.field.specs.Bytes.{BelowPairs, none₂, more₂}
use Rattle.field.proofs.UnitLaws.{or_left}
use Rattle.order.specs.Floor.{Floor, some, is_pair, joined}
use Rattle.order.specs.Order.{floor_of, starts_of, goals_of, bad_edge, ascending, wrong_edges}
use Rattle.order.proofs.EdgeLaws.{good_edge}
use Rattle.decoding.proofs.TablesLaws.{decoded_rows_lem, decoded_starts_lem, decoded_goals_lem}
use Rattle.motion.proofs.Test.{and_parts, or_parts, eqb_parts, equal?}
use Rattle.tables.proofs.TableLaws.{passed, zeros_at}
use Rattle.tables.specs.Accepted.{OrderGave}
use Rattle.tables.proofs.MatrixLaws.{joined_below}
use Rattle.tables.proofs.TablesLaws.{Holds}
use Rattle.tables.proofs.TableLaws.{placed-holds}
use Rattle.sets.specs.Sets.{Has}
use Rattle.sets.proofs.SetLaws.{has_none, has_or, has_only}
use Rattle.graph.specs.Walk.{Walk, Way}
use Rattle.graph.specs.Walk.Walk.{alone, step}
use Rattle.graph.specs.Connected.{BiConnected}
use Rattle.graph.specs.Rows.{Edge, Rows}
use Rattle.floor.specs.FloorAnswer.{Joins}
use Rattle.order.specs.Tables.{joining, joined_rows, rows_of, racks_at, decoded_rows, decoded_starts, decoded_goals}

module _ {E D : ℕ → ℕ → Type 0} (more : (a b : ℕ) → E a b → D a b) where
  pub walk_along : {P : ℕ → Type 0} {a b k : ℕ} → Walk E P a b k → Walk D P a b k
  walk_along (alone p) = alone p
  walk_along (step p e w) = step p (more _ _ e) (walk_along w)

  way_along : {P : ℕ → Type 0} {a b : ℕ} → Way E P a b → Way D P a b
  way_along w = record { size = w.size; walk = walk_along w.walk }

  pub bi_connected_along : {n : ℕ} → BiConnected n E → BiConnected n D
  bi_connected_along b =
      record {
        three = b.three;
        connected = λ u v hu hv. way_along (b.connected u v hu hv);
        without = λ x l u v hu hv. way_along (b.without x l u v hu hv);
      }

-- the row of x has y besides what it had; every other row is what it was
pub joining_edge : (g : List ℕ) (x y : ℕ) → x < length g → (a b : ℕ) → Edge (joining g x y) a b ↔ (Edge g a b ⊎ ((a ≡ x) × (b ≡ y)))
joining_edge g x y room a b = ⊎_elim here there (equal? a x)
  where
    here : a ≡ x → Edge (joining g x y) a b ↔ (Edge g a b ⊎ ((a ≡ x) × (b ≡ y)))
    here e =
        let row : get_or (joining g x y) a 0 ≡ bit_or (get_or g a 0) (2 ^ y) =
        ap (λ (p : ℕ). get_or (joining g x y) p 0) e ∙ get_or-set_same g x (bit_or (get_or g x 0) (2 ^ y)) 0 room
        ∙ ap (λ (p : ℕ). bit_or (get_or g p 0) (2 ^ y)) (sym e) in
        let o = has_or (get_or g a 0) (2 ^ y) b in
        let v = has_only y b in
        rw row (λ h. ⊎_elim (λ i. inl i) (λ i. inr (e, v.0 i)) (o.0 h), λ h. o.1 (⊎_elim (λ i. inl i) (λ i. inr (v.1 i.1)) h))

    there : a ≢ x → Edge (joining g x y) a b ↔ (Edge g a b ⊎ ((a ≡ x) × (b ≡ y)))
    there d =
        rw (get_or-set_other g x a (bit_or (get_or g x 0) (2 ^ y)) 0 d)
        (λ h. inl h, λ h. ⊎_elim (λ i. i) (λ i. absurd (d i.0)) h)

pair_parts : (a b : ℕ) (e : ℕ × ℕ) → T (is_pair (a, b) e) ↔ ((a ≡ e.0) × (b ≡ e.1))
unfolding is_pair
pair_parts a b e =
    let p = and_parts (eqb a e.0) (eqb b e.1) in
    let x = eqb_parts a e.0 in
    let y = eqb_parts b e.1 in
    (λ t. (x.0 (p.0 t).0, y.0 (p.0 t).1), λ h. p.1 (x.1 h.0, y.1 h.1))

pub joined_edges : (g : List ℕ) (l : List (ℕ × ℕ)) → length g ≡ 64 → BelowPairs 64 l → (a b : ℕ)
    → Edge (joined_rows g l) a b ↔ (Edge g a b ⊎ (T (some (is_pair (a, b)) l) ⊎ T (some (is_pair (b, a)) l)))
unfolding joined_rows some
joined_edges g [] long none₂ a b = (λ h. inl h, λ h. ⊎_elim (λ i. i) (λ i. absurd (⊎_elim (λ t. t) (λ t. t) i)) h)
joined_edges g (e ∷ l) long (more₂ h₀ h₁ small) a b =
    let g₁ = joining g e.0 e.1 in
    let g₂ = joining g₁ e.1 e.0 in
    let long₁ : length g₁ ≡ 64 = length-set g e.0 (bit_or (get_or g e.0 0) (2 ^ e.1)) ∙ long in
    let long₂ : length g₂ ≡ 64 = length-set g₁ e.1 (bit_or (get_or g₁ e.1 0) (2 ^ e.0)) ∙ long₁ in
    let rest = joined_edges g₂ l long₂ small a b in
    let second = joining_edge g₁ e.1 e.0 (omega arith) a b in
    let first = joining_edge g e.0 e.1 (omega arith) a b in
    let o = or_parts (is_pair (a, b) e) (some (is_pair (a, b)) l) in
    let t = or_parts (is_pair (b, a) e) (some (is_pair (b, a)) l) in
    let p = pair_parts a b e in
    let q = pair_parts b a e in
    let before : Edge g₁ a b → Edge g a b ⊎ (T (some (is_pair (a, b)) (e ∷ l)) ⊎ T (some (is_pair (b, a)) (e ∷ l))) = λ h.
    ⊎_elim (λ i. inl i) (λ i. inr (inl (o.1 (inl (p.1 i))))) (first.0 h) in
    let last : Edge g₂ a b → Edge g a b ⊎ (T (some (is_pair (a, b)) (e ∷ l)) ⊎ T (some (is_pair (b, a)) (e ∷ l))) = λ h.
    ⊎_elim before (λ i. inr (inr (t.1 (inl (q.1 (i.1, i.0)))))) (second.0 h) in (
      λ h. ⊎_elim last (λ i. inr (⊎_elim (λ x. inl (o.1 (inr x))) (λ x. inr (t.1 (inr x))) i)) (rest.0 h),
      λ h. rest.1
          (⊎_elim (λ i. inl (second.1 (inl (first.1 (inl i)))))
          (λ i. ⊎_elim
          (λ x. ⊎_elim (λ u. inl (second.1 (inl (first.1 (inr (p.0 u)))))) (λ u. inr (inl u)) (o.0 x))
          (λ x. ⊎_elim (λ u. inl (second.1 (inr ((q.0 u).1, (q.0 u).0)))) (λ u. inr (inr u)) (t.0 x))
          i)
          h),
    )

pub joined-turned : (F : Floor) (a b : ℕ) → joined F a b ≡ joined F b a
unfolding joined
joined-turned F a b = or_comm (some (is_pair (a, b)) F.edges) (some (is_pair (b, a)) F.edges)

-- at the start there is no edge
pub none_there : (a b : ℕ) → Edge (replicate 64 0) a b → ⊥
none_there a b h = has_none b (subst (λ (s : ℕ). Has s b) (zeros_at 64 a) h)

module _ (F : Floor) (small : BelowPairs 64 F.edges) where
  pub edge_joins : (a b : ℕ) → Edge (rows_of F) a b → Joins F a b
  unfolding rows_of joined
  edge_joins a b h =
      ⊎_elim (λ i. absurd (none_there a b i)) (λ i. (or_parts (some (is_pair (a, b)) F.edges) (some (is_pair (b, a)) F.edges)).1 i)
      ((joined_edges (replicate 64 0) F.edges (length-replicate {A = ℕ} 64 0) small a b).0 h)

  pub joins_edge : (a b : ℕ) → Joins F a b → Edge (rows_of F) a b
  unfolding rows_of joined
  joins_edge a b t =
      (joined_edges (replicate 64 0) F.edges (length-replicate {A = ℕ} 64 0) small a b).1
      (inr ((or_parts (some (is_pair (a, b)) F.edges) (some (is_pair (b, a)) F.edges)).0 t))

  pub bi_connected_rows : BiConnected F.positions (Edge (rows_of F)) ↔ BiConnected F.positions (Joins F)
  bi_connected_rows = (bi_connected_along edge_joins, bi_connected_along joins_edge)

  module _ (few : F.positions ≤ 64) (right : wrong_edges F ≡ false) where
    pub joined_other : (a : ℕ) → T (joined F a a) → ⊥
    unfolding joined wrong_edges
    joined_other a t =
        let good : some (bad_edge F.positions) F.edges ≡ false =
        or_left (some (bad_edge F.positions) F.edges) (not (ascending F.edges)) right in
        let loop : T (some (is_pair (a, a)) F.edges) → ⊥ =
        λ u. let v = good_edge F.positions (a, a) F.edges good (passed (some (is_pair (a, a)) F.edges) u) in omega arith in
        ⊎_elim loop loop ((or_parts (some (is_pair (a, a)) F.edges) (some (is_pair (a, a)) F.edges)).0 t)

    pub floor_rows : Rows F.positions (rows_of F)
    floor_rows =
        record {
          small = few;
          inside = λ a b h. joined_below F right a b (edge_joins a b h);
          symmetric = λ a b h. joins_edge b a (subst T (joined-turned F a b) (edge_joins a b h));
          other = λ a b h e. joined_other a (subst (λ (p : ℕ). T (joined F a p)) (sym e) (edge_joins a b h));
        }

module _ {o : List ℕ} {n e m : ℕ} (gave : OrderGave o n e m) {g : List ℕ} (filled : g ≡ decoded_rows o) where
  pub filled_is : g ≡ rows_of (floor_of o)
  filled_is = filled ∙ decoded_rows_lem o gave.right

  pub filled_rows : Rows n g
  filled_rows =
      let p = gave.placed_well in
      rw (gave.positions_are, filled_is) (floor_rows (floor_of o) p.edges_below p.few_positions p.edges_right)

  pub filled_joins : (a b : ℕ) → Edge g a b → Joins (floor_of o) a b
  filled_joins a b h =
      edge_joins (floor_of o) gave.placed_well.edges_below a b (subst (λ (r : List ℕ). Edge r a b) filled_is h)

  pub joins_filled : (a b : ℕ) → Joins (floor_of o) a b → Edge g a b
  joins_filled a b h =
      subst (λ (r : List ℕ). Edge r a b) (sym filled_is) (joins_edge (floor_of o) gave.placed_well.edges_below a b h)

  pub filled_on_floor : (a b : ℕ) → Edge g a b → (a < (floor_of o).positions) × (b < (floor_of o).positions) × T (joined (floor_of o) a b)
  filled_on_floor a b h =
      let l = filled_rows.inside a b h in
      let p = gave.positions_are in
      (omega arith, omega arith, filled_joins a b h)

  pub filled_bi_connected : BiConnected n (Edge g) ↔ BiConnected (floor_of o).positions (Joins (floor_of o))
  filled_bi_connected = rw (gave.positions_are, filled_is) (bi_connected_rows (floor_of o) gave.placed_well.edges_below)

module _ {o : List ℕ} {n e m : ℕ} (gave : OrderGave o n e m) {h : List ℕ} where
  pub filled_starts : h ≡ decoded_starts o → Holds (starts_of o) h
  unfolding racks_at
  filled_starts is =
      let w = gave.placed_well in
      subst (Holds (starts_of o)) (sym (is ∙ decoded_starts_lem o gave.right))
      (placed-holds (floor_of o).positions (starts_of o) w.few_positions w.starts_sound)

  pub filled_goals : h ≡ decoded_goals o → Holds (goals_of o) h
  unfolding racks_at
  filled_goals is =
      let w = gave.placed_well in
      subst (Holds (goals_of o)) (sym (is ∙ decoded_goals_lem o gave.right))
      (placed-holds (floor_of o).positions (goals_of o) w.few_positions w.goals_sound)
