-- The way that the search yields is the one that specs/Carry.antt names: it takes each time the lowest position that is one move nearer.
--
--     nearest_size     the search's way between the dearest pair has as many moves as told
--     next_is          the next position of the way is the lowest one from where the moves that are left lead to the goal
--     way_taken        so the moves along it are the plan's, and rack 1 makes them
-- Assumes nothing.
use Prim.Native.Nat.{ℕ, zero, suc, ◌+◌, ◌-◌, ◌≤◌, ◌<◌}
use mathlib.Core.Path.{◌≡◌, refl, sym, subst, ap, ap₂, ◌∙◌}
use mathlib.Core.Bool.{true}
use mathlib.Core.List.{List, [], ◌∷◌}
use native.Mathlib.Omega.{arith}
use lib.ListN.{get_or}
use Rattle.order.specs.Floor.{Floor}
use Rattle.motion.specs.Arrangement.{Arrangement, rack_at}
use Rattle.motion.specs.Replay.{listed}
use Rattle.graph.specs.Walk.{Walk}
use Rattle.graph.proofs.WalkLaws.{walk_segment, path_walk}
use Rattle.graph.specs.Connected.{Below}
use Rattle.graph.specs.Nearest.{Nearest}
use Rattle.graph.proofs.NearestLaws.{nearest_found}
use Rattle.floor.specs.FloorAnswer.{Joins}
use Rattle.floor.proofs.FloorRows.{walk_along}
use Rattle.carry.specs.Carry.{next_of, reaches, way_from, moves_along}
use Rattle.farthest.specs.Balls.{Dearest}
use Rattle.carry.specs.Listing.{taken}
use Rattle.carry.proofs.ReachLaws.{next-joined, next_low, reach_walk, walk_reach}
use Rattle.carry.proofs.OneRack.{rack_one, moved_one}

pub nearest_size : {n : ℕ} {E : ℕ → ℕ → Type 0} {a b k size : ℕ} {f : ℕ → ℕ} → Dearest n E a b k
    → Nearest E (Below n) (λ p. p ≡ b) a size f → size ≡ k + 1
nearest_size {n} {E} {a} {b} {k} {size} {f} d r =
    let near = d.near a b d.start_below d.goal_below in
    let found = nearest_found r b (suc near.moves) near.walk refl in
    let short = r.shortest b (suc near.moves) near.walk refl in
    let few = near.few in
    let walk = subst (λ (y : ℕ). Walk E (Below n) a y size) (r.target found) (path_walk (r.path found)) in
    let far = d.far size walk in
    omega arith

module _ (F : Floor) {E : ℕ → ℕ → Type 0} (to : (a b : ℕ) → E a b → Joins F a b) (from : (a b : ℕ) → Joins F a b → E a b)
    (at : List ℕ) (a b k : ℕ) (r : Nearest E (Below F.positions) (λ p. p ≡ b) a (k + 1) (λ i. get_or at i 0)) where
  abbrev n : ℕ
  n = F.positions

  abbrev f : ℕ → ℕ
  f i = get_or at i 0

  pub inside : (i : ℕ) → i ≤ k → f i < n
  inside i h = (r.path (omega arith)).inside i (omega arith)

  pub begins : f 0 ≡ a
  begins = (r.path (omega arith)).first

  ends : f k ≡ b
  ends = let last : k + 1 - 1 ≡ k = omega arith in ap f (sym last) ∙ r.target (omega arith)

  -- from place i + 1 on the way leads to the goal
  rest : (i m : ℕ) → i + suc m ≡ k → Walk (Joins F) (Below n) (f (i + 1)) b (suc m)
  rest i m e =
      let p = r.path (omega arith) in
      let run : Walk E (Below n) (f (i + 1)) (f (i + 1 + m)) (suc m) =
      walk_segment f (i + 1) m (λ q l h. p.inside q (omega arith)) (λ q l h. p.joined q (omega arith)) in
      let last : i + 1 + m ≡ k = omega arith in
      walk_along to (subst (λ (y : ℕ). Walk E (Below n) (f (i + 1)) y (suc m)) (ap f last ∙ ends) run)

  next_is : (i m : ℕ) → i + suc m ≡ k → next_of F (λ c. reaches F m c b) (f i) ≡ f (i + 1)
  next_is i m e =
      let c = next_of F (λ c. reaches F m c b) (f i) in
      let p = r.path (omega arith) in
      let low = next_low F (λ c. reaches F m c b) (f i) (f (i + 1)) (to (f i) (f (i + 1)) (p.joined i (omega arith)))
      (walk_reach F (rest i m e)) in
      let there : c < n = omega (arith, inside (i + 1) (omega arith)) in
      let on = next-joined F (λ c. reaches F m c b) (f i) there in
      let size : suc m ≡ k + 1 - (i + 1) = omega arith in
      let walk = subst (Walk E (Below n) c b) size (walk_along from (reach_walk F m c b there on.1)) in
      let least = r.lowest i c b (omega arith) (from (f i) c on.0) walk refl in
      omega arith

  taken-from : (m i : ℕ) → i + m ≡ k → taken at i m ≡ listed true (f i ∷ []) (moves_along (f i) (way_from F m (f i) b))
  unfolding taken listed moves_along way_from
  taken-from zero i e = refl
  taken-from (suc m) i e =
      let c = next_of F (λ c. reaches F m c b) (f i) in
      let next : c ≡ f (i + 1) = next_is i m e in
      let moved = moved_one (f i) (f i, c) refl in
      let back : f (i + 1) ≡ c = sym next in
      let rack : 1 ≡ rack_at (f i ∷ []) (f i) = sym (rack_one (f i)) in
      let head : ◌≡◌ {A = ℕ × ℕ × ℕ} (f i, f (i + 1), 1) (f i, c, rack_at (f i ∷ []) (f i)) = λ j. (f i, back j, rack j) in
      let tail : taken at (i + 1) m ≡ listed true (c ∷ []) (moves_along c (way_from F m c b)) =
      subst (λ (x : ℕ). taken at (i + 1) m ≡ listed true (x ∷ []) (moves_along x (way_from F m x b))) (sym next)
      (taken-from m (i + 1) (omega arith)) in
      ap₂ (λ (w : ℕ × ℕ × ℕ) (l : List (ℕ × ℕ × ℕ)). w ∷ l) head
      (tail ∙ ap (λ (A : Arrangement). listed true A (moves_along c (way_from F m c b))) (sym moved))

  pub way_taken : taken at 0 k ≡ listed true (a ∷ []) (moves_along a (way_from F k a b))
  way_taken =
      subst (λ (x : ℕ). taken at 0 k ≡ listed true (x ∷ []) (moves_along x (way_from F k x b))) begins (taken-from k 0 (omega arith))
