-- Laws of walks, over an edge relation E and a set of allowed positions P.
--
--     walk_some                  a walk has at least one position
--     walk_alone                 a walk of one position goes nowhere
--     walk_first, walk_last      its two ends are allowed
--     walk_inside                a walk stays a walk where more positions are allowed
--     walk_snoc                  one more edge at the end
--     walk_reverse               where each edge is joined both ways, a walk can be gone backwards
--     walk_segment               positions f i, .., f (i + m), each joined to the next, are a walk
--     Start, walk_starts         a walk to another position starts with an edge
--     way_stay, way_step         a position alone is a way; one more edge at the front
--     way_append                 a way from a to b and one from b to c are a way from a to c
--     way_inside, way_reverse    as for walks
--     path_walk                  a path is a walk of as many positions
-- Assumes nothing.
use Prim.Native.Nat.{ℕ, zero, suc, ◌+◌, ◌-◌, ◌<◌, ◌≤◌}
use mathlib.Core.Path.{◌≡◌, refl, subst, sym}
use mathlib.Core.Logic.{◌≢◌}
use native.Mathlib.Nat.{add-zero}
use native.Mathlib.Omega.{arith}
use Rattle.graph.specs.Walk.{Walk, Way, Path}
use Rattle.graph.specs.Walk.Walk.{alone, step}

pub record Start (E : ℕ → ℕ → Type 0) (P : ℕ → Type 0) (a : ℕ) : Type 0 where
  pub to : ℕ
  pub edge : E a to
  pub there : P to

module _ {E : ℕ → ℕ → Type 0} {P : ℕ → Type 0} where
  pub walk_some : {a b k : ℕ} → Walk E P a b k → 0 < k
  walk_some (alone p) = omega arith
  walk_some (step p e w) = omega arith

  pub walk_alone : {a b k : ℕ} → Walk E P a b k → k ≡ 1 → b ≡ a
  walk_alone (alone p) one = refl
  walk_alone (step {k = j} p e w) one = absurd (none (walk_some w) one)
    where
      none : 0 < j → suc j ≡ 1 → ⊥
      none h q = omega arith

  pub walk_first : {a b k : ℕ} → Walk E P a b k → P a
  walk_first (alone p) = p
  walk_first (step p e w) = p

  pub walk_starts : {a b k : ℕ} → Walk E P a b k → a ≢ b → Start E P a
  walk_starts (alone p) other = absurd (other refl)
  walk_starts (step {b = m} p e w) other = record { to = m; edge = e; there = walk_first w }

  pub walk_last : {a b k : ℕ} → Walk E P a b k → P b
  walk_last (alone p) = p
  walk_last (step p e w) = walk_last w

  pub walk_inside : {Q : ℕ → Type 0} → ((p : ℕ) → P p → Q p) → {a b k : ℕ} → Walk E P a b k → Walk E Q a b k
  walk_inside f (alone p) = alone (f _ p)
  walk_inside f (step p e w) = step (f _ p) e (walk_inside f w)

  pub walk_snoc : {a b c k : ℕ} → Walk E P a b k → E b c → P c → Walk E P a c (suc k)
  walk_snoc (alone p) e q = step p e (alone q)
  walk_snoc (step p e w) e' q = step p e (walk_snoc w e' q)

  pub walk_reverse : ((p q : ℕ) → E p q → E q p) → {a b k : ℕ} → Walk E P a b k → Walk E P b a k
  walk_reverse s (alone p) = alone p
  walk_reverse s (step p e w) = walk_snoc (walk_reverse s w) (s _ _ e) p

  pub walk_segment : (f : ℕ → ℕ) (i m : ℕ) → ((p : ℕ) → i ≤ p → p ≤ i + m → P (f p)) → ((p : ℕ) → i ≤ p → p < i + m → E (f p) (f (p + 1)))
      → Walk E P (f i) (f (i + m)) (suc m)
  walk_segment f i zero inside joined =
      subst (λ (q : ℕ). Walk E P (f i) (f q) 1) (sym (add-zero i)) (alone (inside i (omega arith) (omega arith)))
  walk_segment f i (suc m) inside joined =
      let same : i + 1 + m ≡ i + suc m = omega arith in
      step (inside i (omega arith) (omega arith)) (joined i (omega arith) (omega arith))
      (subst (λ (q : ℕ). Walk E P (f (i + 1)) (f q) (suc m)) same
      (walk_segment f (i + 1) m (λ p l h. inside p (omega arith) (omega arith)) (λ p l h. joined p (omega arith) (omega arith))))

  pub way_stay : {a : ℕ} → P a → Way E P a a
  way_stay p = record { size = 1; walk = alone p }

  pub way_step : {a b c : ℕ} → P a → E a b → Way E P b c → Way E P a c
  way_step p e r = record { size = suc r.size; walk = step p e r.walk }

  walk_append : {a b c k : ℕ} → Walk E P a b k → Way E P b c → Way E P a c
  walk_append (alone p) r = r
  walk_append (step p e w) r = way_step p e (walk_append w r)

  pub way_append : {a b c : ℕ} → Way E P a b → Way E P b c → Way E P a c
  way_append l r = walk_append l.walk r

  pub way_inside : {Q : ℕ → Type 0} → ((p : ℕ) → P p → Q p) → {a b : ℕ} → Way E P a b → Way E Q a b
  way_inside f r = record { size = r.size; walk = walk_inside f r.walk }

  pub way_reverse : ((p q : ℕ) → E p q → E q p) → {a b : ℕ} → Way E P a b → Way E P b a
  way_reverse s r = record { size = r.size; walk = walk_reverse s r.walk }

  path_run : (k : ℕ) {a b : ℕ} {f : ℕ → ℕ} → Path E P a b k f → Walk E P a b k
  path_run zero p = absurd (none p.some)
    where
      none : 0 < 0 → ⊥
      none h = omega arith
  path_run (suc m) {a} {b} {f} p =
      let run : Walk E P (f 0) (f (0 + m)) (suc m) =
      walk_segment f 0 m (λ q l h. p.inside q (omega arith)) (λ q l h. p.joined q (omega arith)) in
      let same : 0 + m ≡ suc m - 1 = omega arith in
      subst (λ (x : ℕ). Walk E P x b (suc m)) p.first
      (subst (λ (x : ℕ). Walk E P (f 0) x (suc m)) p.last
      (subst (λ (q : ℕ). Walk E P (f 0) (f q) (suc m)) same run))

  pub path_walk : {a b k : ℕ} {f : ℕ → ℕ} → Path E P a b k f → Walk E P a b k
  path_walk {k} p = path_run k p
