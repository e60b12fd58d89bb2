-- From a chosen pair to a ring or a handle in the row.
--
--     nearest_fresh      the positions of a way that are not settled can be put into the row
--     ring_found         the chosen pair's way round, as the search yields it, is there
--     ring_last          after the way round, a itself can be put into the row
--     ring_laid          both in the row are a base ring, by one longer than the way
--     handle_found       the chosen pair's way on, as the search yields it, is there
--     handle_fresh       its positions but the last can be put into the row
-- Assumes nothing.
use Prim.Native.Nat.{ℕ, ◌+◌, ◌-◌, ◌≤◌, ◌<◌}
use mathlib.Core.Path.{◌≡◌, sym, subst, ap, ◌∙◌}
use mathlib.Core.List.{List}
use native.Mathlib.Omega.{arith}
use lib.ListN.{length}
use Rattle.sets.specs.Sets.{Has}
use Rattle.graph.proofs.WalkLaws.{path_walk}
use Rattle.graph.specs.Connected.{Except, Below}
use Rattle.graph.specs.Rows.{row, Edge, Rows}
use Rattle.graph.specs.Nearest.{Nearest}
use Rattle.graph.proofs.NearestLaws.{nearest_found, nearest_inner}
use Rattle.breakdown.specs.Choice.{Beside, RingChoice, HandleChoice}
use Rattle.breakdown.specs.Building.{Settled, Fresh, Extended, Building}
use Rattle.breakdown.proofs.BuildingLaws.{building_ring}

pub nearest_fresh : {n : ℕ} {E : ℕ → ℕ → Type 0} {T : ℕ → Type 0} (a b k j : ℕ) (f : List ℕ) (s : ℕ) → n ≤ 64
    → Nearest E (Except (Below n) a) T b k (row f) → 0 < k → j ≤ k → ((i : ℕ) → i < j → Has s (row f i) → ⊥) → Fresh f j s
nearest_fresh a b k j f s small r some le new =
    record {
      small = λ i l. let p = ((r.path some).inside i (omega arith)).there in omega arith;
      new = new;
      distinct = λ x y l h. (r.path some).distinct x y l (omega arith);
    }

module _ {n : ℕ} {g : List ℕ} (a b k j : ℕ) (f : List ℕ) (rows : Rows n g) (some : 0 < k) (choice : RingChoice n g (Edge g) a b k)
    (nearest : Nearest (Edge g) (Except (Below n) a) (Beside (Edge g) a b) b j (row f)) where
  pub ring_found : 0 < j
  ring_found = let near = choice.way some in nearest_found nearest near.target k near.walk near.is

  same_size : j ≡ k
  same_size =
      let near = choice.way some in
      let e = choice.pair some in
      let short = nearest.shortest near.target k near.walk near.is in
      let least = (choice.least a b (row f (j - 1)) j e e (path_walk (nearest.path ring_found)) (nearest.target ring_found)).most in
      omega arith

  module _ (o o₁ : List ℕ) (s₁ : ℕ) (last : List ℕ) (ext : Extended f j 0 o o₁ s₁) (is : row last 0 ≡ a) where
    in_row_lem : (i : ℕ) → i < j → row o₁ i ≡ row f i
    in_row_lem i l = let same : i ≡ 0 + i = omega arith in ap (row o₁) same ∙ ext.new i l

    way_settled : Settled j o₁ s₁
    way_settled = let same : 0 + j ≡ j = omega arith in subst (λ (m : ℕ). Settled m o₁ s₁) same ext.settled

    pub ring_last : Settled j o₁ s₁ × Fresh last 1 s₁
    ring_last = (
      way_settled,
      record {
        small = λ i l. let q = at i l in let e = (rows.inside a b (choice.pair some)).0 in let m = rows.small in omega arith;
        new = λ i l h. free (subst (Has s₁) (at i l) h);
        distinct = λ x y l h. absurd (none l h);
      },
    )
      where
        at : (i : ℕ) → i < 1 → row last i ≡ a
        at i l = let same : i ≡ 0 = omega arith in ap (row last) same ∙ is

        none : {x y : ℕ} → x < y → y < 1 → ⊥
        none l h = omega arith

        free : Has s₁ a → ⊥
        free h =
            let p = way_settled.among a h in
            ((nearest.path ring_found).inside p.place p.before).other (sym (in_row_lem p.place p.before) ∙ p.is)

    pub ring_laid : (o₂ start left right : List ℕ) (s₂ : ℕ) → Extended last 1 j o₁ o₂ s₂ → row start 0 ≡ j + 1
        → length start ≡ 64 → length left ≡ 64 → length right ≡ 64
        → Building n (Edge g) (j + 1) 0 o₂ start left right s₂ × (j + 1 ≡ k + 1)
    ring_laid o₂ start left right s₂ end begins starts lefts rights =
        let e = choice.pair some in
        let same : j ≡ j + 0 = omega arith in
        let size = same_size in (
          building_ring a b j f o₂ start left right s₂ e (rows.inside a b e).0
              (rows.other a b e) nearest ring_found rows.symmetric end.settled
              (λ i l. end.kept i l ∙ in_row_lem i l) (ap (row o₂) same ∙ end.new 0 (omega arith) ∙ is) begins starts lefts rights,
          omega arith,
        )

module _ {n : ℕ} {g : List ℕ} (s u w k j : ℕ) (f : List ℕ) (rows : Rows n g) (some : 0 < k) (choice : HandleChoice n g s (Edge g) u w k)
    (nearest : Nearest (Edge g) (Except (Below n) u) (Has s) w j (row f)) where
  pub handle_found : 0 < j
  handle_found = let near = choice.way some in nearest_found nearest near.target k near.walk near.is

  pub handle_fresh : Fresh f (j - 1) s
  handle_fresh =
      nearest_fresh u w j (j - 1) f s rows.small nearest handle_found (omega arith) (λ i l h. nearest_inner nearest i (omega arith) h)
