-- Laws of what a search yields.
--
--     nearest_same      the same positions allowed: the same answer
--     nearest_targets   the same targets: the same answer
--     route_same, route_targets    these two of a route, if there is one
--     nearest_found     where a walk leads to a target, there is a path
--     nearest_short     the path has at most n positions, where the allowed ones are below n
--     nearest_inner     no position of the path but its last is a target
-- Assumes nothing.
use Prim.Native.Nat.{ℕ, suc, ◌+◌, ◌≤◌, ◌<◌}
use mathlib.Core.Path.{◌≡◌, subst}
use mathlib.Core.Logic.{by_cases}
use native.Mathlib.Decide.{ℕ_discrete}
use native.Mathlib.Omega.{arith}
use Rattle.graph.specs.Walk.{Walk}
use Rattle.graph.proofs.WalkLaws.{walk_inside, walk_segment}
use Rattle.sets.proofs.CountLaws.{pigeonhole}
use Rattle.std.proofs.Common.{Option, Some, None}
use Rattle.graph.specs.Nearest.{Nearest, NearestRoute}
use Rattle.graph.specs.declared.Route.{Route}

pub nearest_same : {E : ℕ → ℕ → Type 0} {P Q T : ℕ → Type 0} {a k : ℕ} {f : ℕ → ℕ} → ((p : ℕ) → P p → Q p) → ((p : ℕ) → Q p → P p)
    → Nearest E P T a k f → Nearest E Q T a k f
nearest_same to from r =
    record {
      none = λ e t j walk is. r.none e t j (walk_inside from walk) is;
      path = λ h.
          let p = r.path h in
          record {
            some = p.some;
            first = p.first;
            last = p.last;
            inside = λ i l. to _ (p.inside i l);
            joined = p.joined;
            distinct = p.distinct;
          };
      target = r.target;
      shortest = λ t j walk is. r.shortest t j (walk_inside from walk) is;
      lowest = λ i w t more e walk is. r.lowest i w t more e (walk_inside from walk) is;
    }

pub nearest_targets : {E : ℕ → ℕ → Type 0} {P T : ℕ → Type 0} {a k : ℕ} {f : ℕ → ℕ} (U : ℕ → Type 0) → ((p : ℕ) → T p → U p)
    → ((p : ℕ) → U p → T p) → Nearest E P T a k f → Nearest E P U a k f
nearest_targets U to from r =
    record {
      none = λ e t j walk is. r.none e t j walk (from t is);
      path = r.path;
      target = λ h. to _ (r.target h);
      shortest = λ t j walk is. r.shortest t j walk (from t is);
      lowest = λ i w t more e walk is. r.lowest i w t more e walk (from t is);
    }

module _ (E : ℕ → ℕ → Type 0) (P T : ℕ → Type 0) (a : ℕ) where
  pub route_same : (Q : ℕ → Type 0) (r : Option Route) → ((p : ℕ) → P p → Q p) → ((p : ℕ) → Q p → P p) → NearestRoute E P T a r
      → NearestRoute E Q T a r
  route_same Q None to from n = nearest_same to from n
  route_same Q (Some r) to from n = (n.0, nearest_same to from n.1)

  pub route_targets : (U : ℕ → Type 0) (r : Option Route) → ((p : ℕ) → T p → U p) → ((p : ℕ) → U p → T p) → NearestRoute E P T a r
      → NearestRoute E P U a r
  route_targets U None to from n = nearest_targets U to from n
  route_targets U (Some r) to from n = (n.0, nearest_targets U to from n.1)

module _ {E : ℕ → ℕ → Type 0} {P T : ℕ → Type 0} {a k : ℕ} {f : ℕ → ℕ} (r : Nearest E P T a k f) where
  pub nearest_found : (t j : ℕ) → Walk E P a t j → T t → 0 < k
  nearest_found t j walk is =
      by_cases (ℕ_discrete k 0) (λ e. absurd (r.none e t j walk is)) (λ e. omega arith)

  pub nearest_short : (n : ℕ) → ((p : ℕ) → P p → p < n) → k ≤ n
  nearest_short n below =
      by_cases (ℕ_discrete k 0)
      (λ e. omega arith)
      (λ e.
      let p = r.path (omega arith) in
      pigeonhole n f k (λ i l. below (f i) (p.inside i l)) p.distinct)

  pub nearest_inner : (i : ℕ) → i + 1 < k → T (f i) → ⊥
  nearest_inner i l is =
      let p = r.path (omega arith) in
      let walk : Walk E P (f 0) (f (0 + i)) (suc i) =
      walk_segment f 0 i (λ q x y. p.inside q (omega arith)) (λ q x y. p.joined q (omega arith)) in
      let same : 0 + i ≡ i = omega arith in
      let short : k ≤ suc i =
      r.shortest (f i) (suc i) (subst (λ (x : ℕ). Walk E P x (f i) (suc i)) p.first
      (subst (λ (q : ℕ). Walk E P (f 0) (f q) (suc i)) same walk)) is in
      omega arith
