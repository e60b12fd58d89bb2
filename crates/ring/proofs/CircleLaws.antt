-- A ring is one circle: document 01, "The floor". On a connected floor where each position has just two neighbours, a way that goes on from
-- position to position, never straight back, meets all positions and closes.
--
--     Degree n E             each position has two neighbours, and no third
--     apart                  such a way meets no position twice
--     way_circle             so it is a circle
--     circle-same            what agrees with a circle is one
--     next_is, next_below    the place after a place
--     circle-every, circle_one    a circle has every position, at one place each
--     circle-next, circle-neighbours    an edge joins a position to those next to it on the circle, and to no other
-- Assumes nothing.
use Prim.Native.Nat.{ℕ, zero, suc, ◌+◌, ◌-◌, ◌≤◌, ◌<◌}
use mathlib.Core.Path.{◌≡◌, refl, sym, ap, subst, ◌∙◌}
use mathlib.Core.Logic.{◌≢◌, ◌⊎◌, inl, inr, ⊎_elim, by_cases}
use native.Mathlib.Decide.{ℕ_discrete, dec_lt}
use native.Mathlib.Omega.{arith}
use borrow.Author.Tests.{eq-eqb, ne_eqb}
use Rattle.sets.proofs.CountLaws.{pigeonhole}
use Rattle.graph.specs.Walk.{Walk, Symmetric}
use Rattle.graph.specs.Walk.Walk.{alone, step}
use Rattle.graph.specs.Connected.{Connected}
use Rattle.ring.specs.Circle.{Circle, next}

pub record Degree (n : ℕ) (E : ℕ → ℕ → Type 0) : Type 0 where
  pub three : 3 ≤ n
  pub symmetric : Symmetric E
  pub inside : (a b : ℕ) → E a b → b < n
  pub other : (a b : ℕ) → E a b → a ≢ b
  pub connected : Connected n E
  pub another : (b a : ℕ) → b < n → (c : ℕ) × E b c × (c ≢ a)
  pub two : (b x y z : ℕ) → E b x → E b y → E b z → x ≢ y → x ≢ z → y ≢ z → ⊥

-- where a position that is at some place is found
pub record Finds (at find : ℕ → ℕ) (n : ℕ) : Type 0 where
  pub early : (i : ℕ) → i < n → find (at i) ≤ i
  pub there : (i : ℕ) → i < n → at (find (at i)) ≡ at i

module _ {n : ℕ} {E : ℕ → ℕ → Type 0} (floor : Degree n E) (at find : ℕ → ℕ) (finds : Finds at find n)
    (first : at 0 < n) (joined : (i : ℕ) → i + 1 < n → E (at i) (at (i + 1)))
    (never_back : (i : ℕ) → i + 2 < n → at (i + 2) ≢ at i) where
  abbrev Met : ℕ → ℕ → Type 0
  Met k q = (i : ℕ) × (i ≤ k) × (at i ≡ q)

  abbrev Apart : ℕ → Type 0
  Apart k = (i j : ℕ) → i < j → j ≤ k → at i ≢ at j

  -- of a position with two neighbours at places up to k there are no others
  neighbour_met : (k b j l : ℕ) → j ≤ k → l ≤ k → E b (at j) → E b (at l) → at j ≢ at l → (q : ℕ) → E b q → Met k q
  neighbour_met k b j l lj ll ej el differ q eq =
      by_cases (ℕ_discrete (at j) q) (λ e. (j, lj, e))
      (λ d. by_cases (ℕ_discrete (at l) q) (λ e. (l, ll, e))
      (λ f. absurd (floor.two b (at j) (at l) q ej el eq differ d f)))

  module _ (k : ℕ) (more : k + 1 < n) (apart : Apart k) (least : 2 ≤ k) (back : at (k + 1) ≡ at 0) where
    closing : E (at 0) (at k)
    closing = floor.symmetric (at k) (at 0) (subst (E (at k)) back (joined k more))

    closed : (i : ℕ) → i ≤ k → (q : ℕ) → E (at i) q → Met k q
    closed zero l q e =
        neighbour_met k (at 0) 1 k (omega arith) (omega arith) (joined 0 (omega arith)) closing (apart 1 k (omega arith) (omega arith)) q e
    closed (suc i) l q e =
        let down : E (at (suc i)) (at i) = floor.symmetric (at i) (at (suc i)) (subst (λ (x : ℕ). E (at i) (at x)) (one i) (joined i
        (omega arith))) in
        by_cases (ℕ_discrete (suc i) k)
        (λ s.
        neighbour_met k (at (suc i)) 0 i (omega arith) (omega arith)
        (subst (λ (x : ℕ). E (at x) (at 0)) (sym s) (floor.symmetric (at 0) (at k) closing)) down (apart 0 i (omega arith)
        (omega arith)) q e)
        (λ s.
        neighbour_met k (at (suc i)) i (suc i + 1) (omega arith) (omega arith) down (joined (suc i) (omega arith))
        (apart i (suc i + 1) (omega arith) (omega arith)) q e)
      where
        one : (j : ℕ) → j + 1 ≡ suc j
        one j = omega arith

    walked : {P : ℕ → Type 0} {a b m : ℕ} → Walk E P a b m → Met k a → Met k b
    walked (alone p) m = m
    walked (step {a = a} {b = b} p e w) m = walked w (closed m.0 m.1 b (subst (λ (x : ℕ). E x b) (sym m.2) e))

    all : (q : ℕ) → q < n → Met k q
    all q l = walked (floor.connected (at 0) q first l).walk (0, omega arith, refl)

    too_early : ⊥
    too_early =
        let few = pigeonhole (k + 1) find n
        (λ q l. let m = all q l in
        let x = finds.early m.0 (let s = m.1 in omega arith) in
        let y : find (at m.0) ≡ find q = ap find m.2 in let s = m.1 in omega arith)
        (λ q r l h e. let x = back_at q (omega arith) in let y = back_at r h in
        let z : q ≡ r = sym x ∙ ap at e ∙ y in omega arith) in
        omega arith
      where
        back_at : (q : ℕ) → q < n → at (find q) ≡ q
        back_at q l =
            let m = all q l in
            let s = m.1 in
            ap (λ (x : ℕ). at (find x)) (sym m.2) ∙ finds.there m.0 (omega arith) ∙ m.2

  fresh : (k : ℕ) → k + 1 < n → Apart k → (i : ℕ) → i ≤ k → at i ≢ at (k + 1)
  fresh k more apart i l e =
      by_cases (ℕ_discrete i k)
      (λ s. floor.other (at k) (at (k + 1)) (joined k more) (ap at (sym s) ∙ e))
      (λ s. by_cases (ℕ_discrete (i + 1) k)
      (λ t. never_back i (omega arith) (ap at (two t) ∙ sym e))
      (λ t. far i (omega arith) e))
    where
      two : i + 1 ≡ k → i + 2 ≡ k + 1
      two t = omega arith

      far : (i : ℕ) → i + 2 ≤ k → at i ≡ at (k + 1) → ⊥
      far zero h x = too_early k more apart (omega arith) (sym x)
      far (suc j) h x =
          floor.two (at (suc j)) (at j) (at (suc j + 1)) (at k)
          (floor.symmetric (at j) (at (suc j)) (subst (λ (y : ℕ). E (at j) (at y)) (one j) (joined j (omega arith))))
          (joined (suc j) (omega arith))
          (subst (λ (y : ℕ). E y (at k)) (sym x) (floor.symmetric (at k) (at (k + 1)) (joined k more)))
          (apart j (suc j + 1) (omega arith) (omega arith)) (apart j k (omega arith) (omega arith)) (apart (suc j + 1) k (omega arith)
          (omega arith))
        where
          one : (i : ℕ) → i + 1 ≡ suc i
          one i = omega arith

  pub apart : (k : ℕ) → k < n → (i j : ℕ) → i < j → j ≤ k → at i ≢ at j
  apart zero l i j h m = absurd (none i j h m)
    where
      none : (i j : ℕ) → i < j → j ≤ 0 → ⊥
      none i j h m = omega arith
  apart (suc k) l i j h m =
      by_cases (ℕ_discrete j (suc k))
      (λ e. λ same.
      fresh k (omega arith) (apart k (omega arith)) i (omega arith) (same ∙ ap at (e ∙ one k)))
      (λ e. apart k (omega arith) i j h (omega arith))
    where
      one : (i : ℕ) → suc i ≡ i + 1
      one i = omega arith

-- distinct positions below n at n places are all of them
pub filled_every : (n : ℕ) (at : ℕ → ℕ) → ((i : ℕ) → i < n → at i < n) → ((i j : ℕ) → i < j → j < n → at i ≢ at j) → (p : ℕ) → p < n
    → ((i : ℕ) → i < n → at i ≢ p) → ⊥
filled_every n at inside distinct p l missed =
    let many = pigeonhole n more (n + 1) below different in omega arith
  where
    more : ℕ → ℕ
    more zero = p
    more (suc i) = at i

    below : (i : ℕ) → i < n + 1 → more i < n
    below zero h = l
    below (suc i) h = inside i (omega arith)

    different : (i j : ℕ) → i < j → j < n + 1 → more i ≢ more j
    different i zero h m e = omega arith
    different zero (suc j) h m e = missed j (omega arith) (sym e)
    different (suc i) (suc j) h m e = distinct i j (omega arith) (omega arith) e

module _ (at : ℕ → ℕ) (p : ℕ) where
  -- p is at one of the first k places, or at none
  pub place? : (k : ℕ) → ((i : ℕ) × (i < k) × (at i ≡ p)) ⊎ ((i : ℕ) → i < k → at i ≢ p)
  place? zero = inr (λ i l e. omega arith)
  place? (suc k) =
      by_cases (ℕ_discrete (at k) p) (λ e. inl (k, omega arith, e))
      (λ d. ⊎_elim (λ m. inl (m.0, (let l = m.1 in omega arith), m.2))
      (λ f. inr (λ i l. by_cases (ℕ_discrete i k) (λ e x. d (ap at (sym e) ∙ x)) (λ e. f i (omega arith))))
      (place? k))

pub every-place : (n : ℕ) (at : ℕ → ℕ) → ((i : ℕ) → i < n → at i < n) → ((i j : ℕ) → i < j → j < n → at i ≢ at j) → (p : ℕ) → p < n
    → (i : ℕ) × (i < n) × (at i ≡ p)
every-place n at inside distinct p l =
    ⊎_elim (λ m. m) (λ missed. absurd (filled_every n at inside distinct p l missed)) (place? at p n)

pub next_is : (n i : ℕ) → ((i + 1 ≡ n) × (next n i ≡ 0)) ⊎ ((i + 1 ≢ n) × (next n i ≡ i + 1))
next_is n i =
    by_cases (ℕ_discrete (i + 1) n) (λ e. inl (e, rw (eq-eqb (i + 1) n e) refl)) (λ e. inr (e, rw (ne_eqb (i + 1) n e) refl))

pub next_below : (n i : ℕ) → i < n → next n i < n
next_below n i l = ⊎_elim (λ s. let x = s.1 in omega arith) (λ s. let x = s.1 in let y = s.0 in omega arith) (next_is n i)

module _ {n : ℕ} {E : ℕ → ℕ → Type 0} {at : ℕ → ℕ} (three : 3 ≤ n) (c : Circle n E at) where
  pub circle-every : (p : ℕ) → p < n → (i : ℕ) × (i < n) × (at i ≡ p)
  circle-every = every-place n at c.inside c.distinct

  pub circle_one : (i j : ℕ) → i < n → j < n → at i ≡ at j → i ≡ j
  circle_one i j li lj e =
      by_cases (dec_lt i j) (λ l. absurd (c.distinct i j l lj e))
      (λ f. by_cases (dec_lt j i) (λ l. absurd (c.distinct j i l li (sym e))) (λ g. omega arith))

  pub circle-next : (i : ℕ) → i < n → E (at i) (at (next n i))
  circle-next i l =
      ⊎_elim
      (λ s. subst (λ (x : ℕ). E (at x) (at (next n i))) (last s.0) (subst (λ (x : ℕ). E (at (n - 1)) (at x)) (sym s.1) c.closed))
      (λ s. subst (λ (x : ℕ). E (at i) (at x)) (sym s.1) (c.joined i (let d = s.0 in omega arith)))
      (next_is n i)
    where
      last : i + 1 ≡ n → n - 1 ≡ i
      last e = omega arith

  -- the place before place i
  before : (i : ℕ) → i < n → (k : ℕ) × (k < n) × (next n k ≡ i)
  before zero l = (n - 1, omega arith, ⊎_elim (λ s. s.1) (λ s. absurd (s.0 (omega arith))) (next_is n (n - 1)))
  before (suc i) l = (i, omega arith, ⊎_elim (λ s. absurd (over s.0)) (λ s. s.1 ∙ one i) (next_is n i))
    where
      over : i + 1 ≡ n → ⊥
      over e = omega arith

      one : (j : ℕ) → j + 1 ≡ suc j
      one j = omega arith

  pub circle-neighbours : Degree n E → (i j : ℕ) → i < n → j < n → E (at i) (at j) → (j ≡ next n i) ⊎ (i ≡ next n j)
  circle-neighbours floor i j li lj e =
      by_cases (ℕ_discrete j (next n i)) inl
      (λ d. by_cases (ℕ_discrete i (next n j)) inr
      (λ f.
      let k = before i li in
      let lk = k.1 in
      let ln = next_below n i li in
      absurd
      (floor.two (at i) (at j) (at (next n i)) (at k.0) e (circle-next i li)
      (floor.symmetric (at k.0) (at i) (subst (λ (x : ℕ). E (at k.0) (at x)) k.2 (circle-next k.0 lk)))
      (λ s. d (circle_one j (next n i) lj ln s))
      (λ s. f (sym (ap (next n) (circle_one j k.0 lj lk s) ∙ k.2)))
      (λ s. both k.0 lk k.2 (circle_one (next n i) k.0 ln lk s)))))
    where
      both : (k : ℕ) → k < n → next n k ≡ i → next n i ≡ k → ⊥
      both k l x y =
          ⊎_elim
          (λ s. ⊎_elim (λ t. omega (arith, s.0, s.1, t.0, t.1)) (λ t. omega (arith, s.0, s.1, t.0, t.1)) (next_is n i))
          (λ s. ⊎_elim (λ t. omega (arith, s.0, s.1, t.0, t.1)) (λ t. omega (arith, s.0, s.1, t.0, t.1)) (next_is n i))
          (next_is n k)

-- all that is left of a way that meets no position twice is that it closes
pub way_circle : {n : ℕ} {E : ℕ → ℕ → Type 0} → Degree n E → (at find : ℕ → ℕ) → Finds at find n
    → ((i : ℕ) → i < n → at i < n) → ((i : ℕ) → i + 1 < n → E (at i) (at (i + 1))) → ((i : ℕ) → i + 2 < n → at (i + 2) ≢ at i)
    → Circle n E at
way_circle {n} {E} floor at find finds inside joined never_back =
    record { inside = inside; distinct = different; joined = joined; closed = ends }
  where
    three : 3 ≤ n
    three = floor.three

    different : (i j : ℕ) → i < j → j < n → at i ≢ at j
    different i j l h =
        apart floor at find finds (inside 0 (omega (arith, three))) joined never_back (n - 1) (omega (arith, three)) i j l (omega arith)

    one : (i : ℕ) → i + 1 ≡ suc i
    one i = omega arith

    edge_below : (i : ℕ) → suc i < n → E (at (suc i)) (at i)
    edge_below i l = floor.symmetric (at i) (at (suc i)) (subst (λ (x : ℕ). E (at i) (at x)) (one i) (joined i (omega arith)))

    -- the neighbour of the last position that is not the one before it
    from : (j : ℕ) → j < n → E (at (n - 1)) (at j) → at j ≢ at (n - 2) → E (at (n - 1)) (at 0)
    from zero l e d = e
    from (suc j) l e d =
        by_cases (ℕ_discrete (suc j) (n - 1)) (λ s. absurd (floor.other (at (n - 1)) (at (suc j)) e (ap at (sym s))))
        (λ s. by_cases (ℕ_discrete (suc j) (n - 2)) (λ t. absurd (d (ap at t)))
        (λ t. absurd
        (floor.two (at (suc j)) (at j) (at (suc j + 1)) (at (n - 1)) (edge_below j l) (joined (suc j) (omega (arith, three)))
        (floor.symmetric (at (n - 1)) (at (suc j)) e) (different j (suc j + 1) (omega arith) (omega (arith, three)))
        (different j (n - 1) (omega (arith, three)) (omega (arith, three)))
        (different (suc j + 1) (n - 1) (omega (arith, three)) (omega (arith, three))))))

    ends : E (at (n - 1)) (at 0)
    ends =
        let c = floor.another (at (n - 1)) (at (n - 2)) (inside (n - 1) (omega (arith, three))) in
        let m = every-place n at inside different c.0 (floor.inside (at (n - 1)) c.0 c.1) in
        from m.0 m.1 (subst (E (at (n - 1))) (sym m.2) c.1) (λ e. c.2 (sym m.2 ∙ e))

pub circle-same : {n : ℕ} {E : ℕ → ℕ → Type 0} {at to : ℕ → ℕ} → 3 ≤ n → ((i : ℕ) → i < n → at i ≡ to i) → Circle n E at → Circle n E to
circle-same {n} {E} {at} {to} three same c =
    record {
      inside = λ i l. subst (λ (x : ℕ). x < n) (same i l) (c.inside i l);
      distinct = λ i j l h e. c.distinct i j l h (same i (omega arith) ∙ e ∙ sym (same j h));
      joined = λ i l. subst (E (to i)) (same (i + 1) l) (subst (λ (x : ℕ). E x (at (i + 1))) (same i (omega arith)) (c.joined i l));
      closed = subst (E (to (n - 1))) (same 0 (omega arith)) (subst (λ (x : ℕ). E x (at 0)) (same (n - 1) (omega arith)) c.closed);
    }
