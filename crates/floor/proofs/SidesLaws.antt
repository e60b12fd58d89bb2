-- A position's edges, counted in the floor's rows: they are as many as its neighbours.
--
--     counted-joined       edges in ascending order, joined where there was none, each add one to the rows of both their ends
--     edges_row            the edges of a position are those in its row
--     neighbours-row       so are its neighbours
--     sides_same           on a floor that 13 passes a position has as many edges as neighbours
--     sides_rows           at most four of them, by the rows and by the floor
--     ring_sides           on a ring no position has five edges
-- Assumes nothing.
use Prim.Native.Nat.{ℕ, ◌+◌, ◌^◌, ◌≤◌, ◌<◌}
use mathlib.Core.Path.{◌≡◌, refl, sym, ap, ◌∙◌}
use mathlib.Core.Bool.{Bool, true, false, not, cond, or-true}
use mathlib.Core.List.{List, [], ◌∷◌}
use mathlib.Core.Logic.{◌↔◌, ◌⊎◌, inl, inr, ⊎_elim, by_cases}
use native.Mathlib.Decide.{ℕ_discrete}
use native.Mathlib.Omega.{arith}
use borrow.Author.Tests.{eq-eqb, ne_eqb, not-false}
use lib.Bits.{bit_or}
use lib.Count.{ones}
use lib.Dec.{T}
use lib.ListN.{length, get_or, replicate, length-set, length-replicate}
use lib.Seq.{get_or-set_other}
use Rattle.field.specs.Bytes.{BelowPairs, more₂}
use Rattle.field.proofs.UnitLaws.{or_left, or_right}
use Rattle.order.specs.Floor.{Floor, some, is_pair, joined}
use Rattle.order.specs.Order.{bad_edge, ascending, wrong_edges}
use Rattle.order.specs.Tables.{joining, joined_rows, rows_of}
use Rattle.order.proofs.EdgeLaws.{is_pair-same, ascending-first, rest-ascends, good_edge}
use Rattle.tables.proofs.TableLaws.{zeros_at}
use Rattle.sets.specs.Sets.{bit, Has}
use Rattle.sets.proofs.SetLaws.{has_or_not}
use Rattle.sets.proofs.CountLaws.{ones_push, ones-sum, sum_same}
use Rattle.graph.specs.Connected.{Ring}
use Rattle.graph.specs.Rows.{Edge}
use Rattle.graph.specs.EdgeCount.{row_sum, FourSided as FourInRows}
use Rattle.graph.proofs.EdgeCountLaws.{ring_two}
use Rattle.floor.specs.FloorAnswer.{Joins}
use Rattle.floor.specs.Sides.{count_of, has_end, edges_at, neighbours_at, FourSided}
use Rattle.floor.proofs.FloorRows.{joining_edge, edge_joins, joins_edge, floor_rows, none_there}
use Rattle.floor.proofs.EdgesCounted.{ring-rows}

-- an edge between x and y, joined at both its ends where there was none, adds one to the rows of both
module _ (g : List ℕ) (x y : ℕ) (long : length g ≡ 64) (up : x < y) (small : y < 64) where
  abbrev g₁ : List ℕ
  g₁ = joining g x y

  abbrev g₂ : List ℕ
  g₂ = joining g₁ y x

  long₁ : length g₁ ≡ 64
  long₁ = length-set g x (bit_or (get_or g x 0) (2 ^ y)) ∙ long

  long₂ : length g₂ ≡ 64
  long₂ = length-set g₁ y (bit_or (get_or g₁ y 0) (2 ^ x)) ∙ long₁

  -- which edges there are then
  both-joined : (a b : ℕ) → Edge g₂ a b ↔ (Edge g a b ⊎ (((a ≡ x) × (b ≡ y)) ⊎ ((a ≡ y) × (b ≡ x))))
  both-joined a b =
      let first = joining_edge g x y (omega arith) a b in
      let second = joining_edge g₁ y x (omega (arith, long₁)) a b in (
        λ h. ⊎_elim (λ i. ⊎_elim (λ j. inl j) (λ j. inr (inl j)) (first.0 i)) (λ i. inr (inr i)) (second.0 h),
        λ h. ⊎_elim (λ i. second.1 (inl (first.1 (inl i))))
            (λ i. ⊎_elim (λ j. second.1 (inl (first.1 (inr j)))) (λ j. second.1 (inr j)) i) h,
      )

  lower_row : (Edge g x y → ⊥) → ones (get_or g₂ x 0) ≡ ones (get_or g x 0) + 1
  lower_row off =
      ones_push y (get_or g x 0) (get_or g₂ x 0)
      (λ b. (
        λ h. ⊎_elim (λ i. inl i) (λ i. ⊎_elim (λ j. inr j.1) (λ j. absurd (apart j.0)) i) ((both-joined x b).0 h),
        λ h. (both-joined x b).1 (⊎_elim (λ i. inl i) (λ i. inr (inl (refl, i))) h),
      ))
      off
    where
      apart : x ≡ y → ⊥
      apart e = omega arith

  upper_row : (Edge g y x → ⊥) → ones (get_or g₂ y 0) ≡ ones (get_or g y 0) + 1
  upper_row off =
      ones_push x (get_or g y 0) (get_or g₂ y 0)
      (λ b. (
        λ h. ⊎_elim (λ i. inl i) (λ i. ⊎_elim (λ j. absurd (apart j.0)) (λ j. inr j.1) i) ((both-joined y b).0 h),
        λ h. (both-joined y b).1 (⊎_elim (λ i. inl i) (λ i. inr (inr (refl, i))) h),
      ))
      off
    where
      apart : y ≡ x → ⊥
      apart e = omega arith

  other_row : (p : ℕ) → (p ≡ x → ⊥) → (p ≡ y → ⊥) → ones (get_or g₂ p 0) ≡ ones (get_or g p 0)
  other_row p dx dy =
      ap ones (get_or-set_other g₁ y p (bit_or (get_or g₁ y 0) (2 ^ x)) 0 dy ∙ get_or-set_other g x p (bit_or (get_or g x 0) (2 ^ y)) 0 dx)

  one_more : (p : ℕ) → (Edge g x y → ⊥) → (Edge g y x → ⊥) → ones (get_or g₂ p 0) ≡ ones (get_or g p 0) + cond (has_end p (x, y)) 1 0
  one_more p off₁ off₂ =
      by_cases (ℕ_discrete x p)
      (λ e.
      let r = lower_row off₁ in
      let a : ones (get_or g₂ x 0) ≡ ones (get_or g₂ p 0) = ap (λ (q : ℕ). ones (get_or g₂ q 0)) e in
      let b : ones (get_or g x 0) ≡ ones (get_or g p 0) = ap (λ (q : ℕ). ones (get_or g q 0)) e in
      let t : ◌≡◌ {A = ℕ} (cond (has_end p (x, y)) 1 0) 1 = rw (eq-eqb x p e) refl in
      omega arith)
      (λ d. by_cases (ℕ_discrete y p)
      (λ e.
      let r = upper_row off₂ in
      let a : ones (get_or g₂ y 0) ≡ ones (get_or g₂ p 0) = ap (λ (q : ℕ). ones (get_or g₂ q 0)) e in
      let b : ones (get_or g y 0) ≡ ones (get_or g p 0) = ap (λ (q : ℕ). ones (get_or g q 0)) e in
      let t : ◌≡◌ {A = ℕ} (cond (has_end p (x, y)) 1 0) 1 = rw (ne_eqb x p d, eq-eqb y p e) refl in
      omega arith)
      (λ f.
      let r = other_row p (λ e. d (sym e)) (λ e. f (sym e)) in
      let t : ◌≡◌ {A = ℕ} (cond (has_end p (x, y)) 1 0) 0 = rw (ne_eqb x p d, ne_eqb y p f) refl in
      omega arith))

pub counted-joined : (n : ℕ) (g : List ℕ) (l : List (ℕ × ℕ)) → length g ≡ 64 → BelowPairs 64 l → some (bad_edge n) l ≡ false
    → ascending l ≡ true → ((f : ℕ × ℕ) → some (is_pair f) l ≡ true → (Edge g f.0 f.1 → ⊥) × (Edge g f.1 f.0 → ⊥))
    → (p : ℕ) → ones (get_or (joined_rows g l) p 0) ≡ ones (get_or g p 0) + count_of (has_end p) l
unfolding joined_rows some count_of
counted-joined n g [] long small good asc clear p = omega arith
counted-joined n g (e ∷ l) long (more₂ h₀ h₁ small) good asc clear p =
    let here : some (is_pair e) (e ∷ l) ≡ true = rw (is_pair-same e) refl in
    let up = (good_edge n e (e ∷ l) good here).0 in
    let off = clear e here in
    let one = one_more g e.0 e.1 long up h₁ p off.0 off.1 in
    let rest_good = or_right (bad_edge n e) (some (bad_edge n) l) good in
    let rest = counted-joined n (g₂ g e.0 e.1 long up h₁) l (long₂ g e.0 e.1 long up h₁) small rest_good
    (rest-ascends e l asc)
    (λ f m.
    let later = ascending-first e f l h₁ small asc m in
    let upper = (good_edge n f l rest_good m).0 in
    let old : some (is_pair f) (e ∷ l) ≡ true = rw (m, or-true (is_pair f e)) refl in
    let were = clear f old in
    let same : f.0 ≡ e.0 → f.1 ≡ e.1 → ⊥ = λ u v. omega arith in
    let turned : f.0 ≡ e.1 → f.1 ≡ e.0 → ⊥ = λ u v. omega arith in (
      λ h. ⊎_elim were.0 (λ i. ⊎_elim (λ j. same j.0 j.1) (λ j. turned j.0 j.1) i)
          ((both-joined g e.0 e.1 long up h₁ f.0 f.1).0 h),
      λ h. ⊎_elim were.1 (λ i. ⊎_elim (λ j. turned j.1 j.0) (λ j. same j.1 j.0) i)
          ((both-joined g e.0 e.1 long up h₁ f.1 f.0).0 h),
    )) p in
    omega arith

-- a test that passes where a digit is 1
digit_is : (t : Bool) (s p : ℕ) → (T t → Has s p) → (Has s p → T t) → cond t 1 0 ≡ bit s p
digit_is true s p f g = sym (f tt)
digit_is false s p f g = ⊎_elim (λ h. absurd (g h)) (λ h. sym h) (has_or_not s p)

module _ (F : Floor) (small : BelowPairs 64 F.edges) (few : F.positions ≤ 64) (right : wrong_edges F ≡ false) where
  pub edges_row : (p : ℕ) → edges_at F p ≡ ones (get_or (rows_of F) p 0)
  unfolding rows_of wrong_edges
  edges_row p =
      let good = or_left (some (bad_edge F.positions) F.edges) (not (ascending F.edges)) right in
      let asc = not-false (ascending F.edges) (or_right (some (bad_edge F.positions) F.edges) (not (ascending F.edges)) right) in
      let all =
      counted-joined F.positions (replicate 64 0) F.edges (length-replicate {A = ℕ} 64 0) small good asc
      (λ f m. (none_there f.0 f.1, none_there f.1 f.0)) p in
      let none : ones (get_or (replicate 64 0) p 0) ≡ 0 = ap ones (zeros_at 64 p) ∙ (unfold ones in refl) in
      omega arith

  pub neighbours-row : (p : ℕ) → neighbours_at F p ≡ row_sum (rows_of F) p F.positions
  neighbours-row p =
      sum_same (λ q. cond (joined F p q) 1 0) (bit (get_or (rows_of F) p 0)) F.positions
      (λ q l. digit_is (joined F p q) (get_or (rows_of F) p 0) q (joins_edge F small p q) (edge_joins F small p q))

  edges_sum : (p : ℕ) → edges_at F p ≡ row_sum (rows_of F) p F.positions
  edges_sum p =
      edges_row p ∙ sym (ones-sum F.positions (get_or (rows_of F) p 0) (λ q h. ((floor_rows F small few right).inside p q h).1))

  pub sides_same : (p : ℕ) → edges_at F p ≡ neighbours_at F p
  sides_same p = edges_sum p ∙ sym (neighbours-row p)

  pub sides_rows : FourInRows F.positions (rows_of F) ↔ FourSided F
  sides_rows = (
    λ four p l. let most = four p l in let s = edges_sum p in omega arith,
    λ four p l. let most = four p l in let s = edges_sum p in omega arith,
  )

  pub ring_sides : Ring F.positions (Joins F) (length F.edges) → FourSided F
  ring_sides ring p l =
      let two = ring_two (floor_rows F small few right) ((ring-rows F small right).1 ring) p l in
      let s = edges_sum p in
      omega arith
