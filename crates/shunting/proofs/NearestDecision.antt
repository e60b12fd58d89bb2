-- How far a position is from the nearest vacancy, decided on a finite floor. Nothing here is part of a promise: a decision is believed by
-- its type.
--
--     some?            some number below n has a property or none has
--     walk?, way?      a walk of k positions leads there or not; a way of d edges from a vacancy
--     least?           the least number with a property, or that none below b has it
--     Found E P h p    the distance of p from the nearest vacancy, or that no vacancy has a way to it
--     nearest?         one of them
-- Assumes nothing.
use Prim.Native.Nat.{ℕ, zero, suc, ◌≤◌, ◌<◌}
use mathlib.Core.Path.{◌≡◌, refl, subst}
use mathlib.Core.Logic.{◌⊎◌, inl, inr, ⊎_elim, by_cases, dite}
use native.Mathlib.Decide.{ℕ_discrete, dec_lt}
use native.Mathlib.Nat.{not-suc-le-zero}
use native.Mathlib.Omega.{arith}
use Rattle.graph.specs.Walk.{Walk}
use Rattle.graph.specs.Walk.Walk.{alone, step}
use Rattle.graph.proofs.WalkLaws.{walk_first, walk_some}
use Rattle.graph.proofs.WayDecision.{alike?, both?}
use Rattle.shunting.specs.Distance.{WayFrom, NoWay, Distance}
use Rattle.shunting.proofs.DistanceLaws.{at_most_below, at_most_less, distance_few}

pub some? : (n : ℕ) {Q : ℕ → Type 0} → ((p : ℕ) → Dec (Q p)) → Dec ((p : ℕ) × (p < n) × Q p)
some? zero d = no (λ x. absurd (not-suc-le-zero x.1))
some? (suc n) {Q} d = dite (d n) (λ q. yes (n, omega arith, q)) (λ f. alike? more (less f) (some? n d))
  where
    more : (p : ℕ) × (p < n) × Q p → (p : ℕ) × (p < suc n) × Q p
    more x = let l = x.1 in (x.0, omega arith, x.2)

    less : (Q n → ⊥) → (p : ℕ) × (p < suc n) × Q p → (p : ℕ) × (p < n) × Q p
    less f x = let l = x.1 in by_cases (ℕ_discrete x.0 n) (λ e. absurd (f (subst Q e x.2))) (λ e. (x.0, omega arith, x.2))

pub least? : {Q : ℕ → Type 0} → ((k : ℕ) → Dec (Q k)) → (b : ℕ)
    → ((d : ℕ) × Q d × ((e : ℕ) → Q e → d ≤ e)) ⊎ ((e : ℕ) → e < b → Q e → ⊥)
least? d zero = inr (λ e l q. not-suc-le-zero l)
least? {Q} d (suc b) = ⊎_elim (λ x. inl x) (λ none. dite (d b) (λ q. inl (b, q, first none)) (λ f. inr (further none f))) (least? d b)
  where
    first : ((e : ℕ) → e < b → Q e → ⊥) → (e : ℕ) → Q e → b ≤ e
    first none e q = by_cases (dec_lt e b) (λ l. absurd (none e l q)) (λ l. omega arith)

    further : ((e : ℕ) → e < b → Q e → ⊥) → (Q b → ⊥) → (e : ℕ) → e < suc b → Q e → ⊥
    further none f e l q = by_cases (ℕ_discrete e b) (λ s. f (subst Q s q)) (λ s. none e (omega arith) q)

abbrev pub Found : (ℕ → ℕ → Type 0) → (ℕ → Type 0) → (ℕ → ℕ) → ℕ → Type 0
Found E P h p = ((d : ℕ) × Distance E P h p d) ⊎ NoWay E P h p

module _ (E : ℕ → ℕ → Type 0) (P : ℕ → Type 0) (n : ℕ) (below : (p : ℕ) → P p → p < n) (edge? : (a b : ℕ) → Dec (E a b))
    (there? : (p : ℕ) → Dec (P p)) where
  -- a walk of one position, and one of more
  walk_stays : {a b : ℕ} → Walk E P a b 1 → (a ≡ b) × P a
  walk_stays (alone p) = (refl, p)
  walk_stays (step p e w) = absurd (never (walk_some w))
    where
      never : 0 < 0 → ⊥
      never l = omega arith

  walk_goes : {a b k : ℕ} → Walk E P a b (suc (suc k)) → P a × ((m : ℕ) × (m < n) × (E a m × Walk E P m b (suc k)))
  walk_goes (step {b = m} p e w) = (p, (m, below m (walk_first w), (e, w)))

  pub walk? : (k a b : ℕ) → Dec (Walk E P a b k)
  walk? zero a b = no (λ w. never (walk_some w))
    where
      never : 0 < 0 → ⊥
      never l = omega arith
  walk? (suc zero) a b =
      alike? (λ x. subst (λ (z : ℕ). Walk E P a z 1) x.0 (alone x.1)) walk_stays (both? (ℕ_discrete a b) (there? a))
  walk? (suc (suc k)) a b =
      alike? (λ x. let y = x.1.2 in step x.0 y.0 y.1) walk_goes
      (both? (there? a) (some? n (λ m. both? (edge? a m) (walk? (suc k) m b))))

  pub way? : (h : ℕ → ℕ) (p d : ℕ) → Dec (WayFrom E P h p d)
  way? h p d =
      alike?
      (λ x. record { from = x.0; vacant = x.2.0; walk = x.2.1 })
      (λ w. (w.from, below w.from (walk_first w.walk), (w.vacant, w.walk)))
      (some? n (λ z. both? (ℕ_discrete (h z) 0) (walk? (suc d) z p)))

  -- a shortest way has fewer edges than the floor has positions
  pub nearest? : (h : ℕ → ℕ) (p : ℕ) → Found E P h p
  nearest? h p =
      ⊎_elim (λ x. inl (x.0, record { way = x.1; shortest = x.2 })) (λ none. inr (λ d w. nowhere none d w)) (least? (way? h p) n)
    where
      nowhere : ((e : ℕ) → e < n → WayFrom E P h p e → ⊥) → (d : ℕ) → WayFrom E P h p d → ⊥
      nowhere none d w =
          ⊎_elim
          (λ x. none x.0 (distance_few (at_most_less below (at_most_below n)) (record { way = x.1; shortest = x.2 })) x.1)
          (λ f. f d (omega arith) w)
          (least? (way? h p) (suc d))
