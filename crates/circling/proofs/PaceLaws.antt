-- Why driving racks round never stops short: a rack that needs to go on and may not has one in front of it that needs to go on too, and
-- somewhere there is a vacancy.
--
--     stuck              where no place is ready, no rack needs to go on
--     drive_on           after a move the racks are paced again
--     Underway           where each rack came from, and how far it still has to go
--     underway_first, underway_next, underway_last    from the first move to the last
-- Assumes nothing.
use Prim.Native.Nat.{ℕ, zero, suc, ◌+◌, ◌-◌, ◌≤◌, ◌<◌}
use mathlib.Core.Path.{◌≡◌, refl, sym, ap, subst, ◌∙◌}
use mathlib.Core.Logic.{◌≢◌, ◌⊎◌, inl, inr, ⊎_elim, by_cases}
use native.Mathlib.Decide.{ℕ_discrete}
use native.Mathlib.Omega.{arith}
use Rattle.ring.specs.Circle.{Circle, next}
use Rattle.ring.specs.Order.{Rack, ahead}
use Rattle.ring.specs.Standing.{OnCircle}
use Rattle.ring.proofs.CircleLaws.{next_is, next_below, circle_one}
use Rattle.moving.specs.OnePlace.{Passed}
use Rattle.circling.specs.Lands.{Lands}
use Rattle.circling.specs.Drive.{Ready, Driveable, Driven}
use Rattle.circling.proofs.LandsLaws.{ahead-next, ahead_before, ahead_one, lands_next, lands_self}

pub record Underway (n : ℕ) (at d h e k : ℕ → ℕ) : Type 0 where
  pub from : (j : ℕ) → j < n → k (at j) ≢ 0
      → (i : ℕ) × (i < n) × (h (at i) ≡ k (at j)) × Lands n (i + d (k (at j))) (j + e (k (at j)))

pub underway_first : (n : ℕ) (at d h : ℕ → ℕ) → Underway n at d h d h
underway_first n at d h = record { from = λ j l held. (j, l, refl, lands_self n (j + d (h (at j)))) }

pub underway_last : (n : ℕ) (at d h e k : ℕ → ℕ) → Underway n at d h e k → ((i : ℕ) → i < n → e (k (at i)) ≡ 0) → Driven n at d h k
underway_last n at d h e k u none =
    record {
      from = λ j l held.
          let f = u.from j l held in (
            f.0,
            f.1,
            f.2,
            subst (Lands n (f.0 + d (k (at j)))) (let z = none j l in let w : j + e (k (at j)) ≡ j = omega arith in w)
                f.3,
          );
    }

module _ {n m : ℕ} {at d h : ℕ → ℕ} (can : Driveable n m at d h) where
  three : 3 ≤ n
  three = can.three

  next-apart : (i : ℕ) → next n i ≢ i
  next-apart i e = ⊎_elim (λ s. omega (arith, three, s.0, s.1)) (λ s. omega (arith, s.1)) (next_is n i)

  pub held_by : (i : ℕ) → 0 < d (h (at i)) → h (at i) ≢ 0
  held_by i l e = let z : d (h (at i)) ≡ d 0 = ap d e in let w = can.paced.idle in omega arith

  module _ (none : (j : ℕ) → j < n → Ready n at d h j → ⊥) where
    push : (i : ℕ) → i < n → 0 < d (h (at i)) → 0 < d (h (at (next n i)))
    push i l p =
        let full : h (at (next n i)) ≢ 0 = λ e. none i l (record { needs = p; vacant = e }) in
        let b = can.paced.behind i (next n i) l (next_below n i l) (λ e. next-apart i (sym e)) (held_by i p) full in
        let one = ahead_one n i l (omega (arith, three)) in
        omega arith

    climb : (k i : ℕ) → i + k < n → 0 < d (h (at i)) → 0 < d (h (at (i + k)))
    climb zero i l p = subst (λ (x : ℕ). 0 < d (h (at x))) (let z : i ≡ i + 0 = omega arith in z) p
    climb (suc k) i l p =
        let q = push (i + k) (omega arith) (climb k i (omega arith) p) in
        subst (λ (x : ℕ). 0 < d (h (at x)))
        (⊎_elim (λ s. absurd (omega (arith, s.0))) (λ s. omega (arith, s.1)) (next_is n (i + k))) q

    pub stuck : (i : ℕ) → i < n → d (h (at i)) ≡ 0
    stuck i l =
        by_cases (ℕ_discrete (d (h (at i))) 0) (λ e. e)
        (λ f.
        let last : 0 < d (h (at (n - 1))) =
        subst (λ (x : ℕ). 0 < d (h (at x))) (let z : i + (n - 1 - i) ≡ n - 1 = omega arith in z)
        (climb (n - 1 - i) i (omega arith) (omega arith)) in
        let first : 0 < d (h (at 0)) =
        subst (λ (x : ℕ). 0 < d (h (at x)))
        (⊎_elim (λ s. s.1) (λ s. absurd (omega (arith, three, s.0))) (next_is n (n - 1)))
        (push (n - 1) (omega (arith, three)) last) in
        let z = can.vacancy in
        let lz = z.1 in
        let there = climb z.0 0 (omega arith) first in
        let zero_of : d (h (at (0 + z.0))) ≡ d 0 = ap (λ (x : ℕ). d (h (at x))) (let w : 0 + z.0 ≡ z.0 = omega arith in w) ∙ ap d
        z.2 in
        let w = can.paced.idle in
        omega arith)

  module _ {E : ℕ → ℕ → Type 0} (c : Circle n E at) (x : ℕ) (lx : x < n) (ready : Ready n at d h x) {k : ℕ → ℕ}
      (passed : Passed (at x) (at (next n x)) h k) {e : ℕ → ℕ} (less : e (h (at x)) + 1 ≡ d (h (at x)))
      (same : (r : ℕ) → r ≢ h (at x) → e r ≡ d r) where
    abbrev y : ℕ
    y = next n x

    ly : y < n
    ly = next_below n x lx

    held : h (at x) ≢ 0
    held = held_by x ready.needs

    -- what stands at a place after the move came from the place before it, or stood there
    source : (i : ℕ) → i < n → k (at i) ≢ 0 → ((i ≡ y) × (k (at i) ≡ h (at x))) ⊎ ((i ≢ x) × (i ≢ y) × (k (at i) ≡ h (at i)))
    source i l full =
        by_cases (ℕ_discrete i y) (λ s. inl (s, ap (λ (z : ℕ). k (at z)) s ∙ passed.entered))
        (λ f. by_cases (ℕ_discrete i x) (λ s. absurd (full (ap (λ (z : ℕ). k (at z)) s ∙ passed.left)))
        (λ g. inr (g, f, passed.others (at i) (λ s. g (circle_one three c i x l lx s)) (λ s. f (circle_one three c i y l ly s)))))

    other : (i : ℕ) → i < n → i ≢ x → h (at i) ≢ 0 → h (at i) ≢ h (at x)
    other i l f full s = f (can.on.one i x l lx full s)

    moved_one : (i j : ℕ) → i < n → j < n → k (at i) ≢ 0 → k (at i) ≡ k (at j) → i ≡ j
    moved_one i j li lj full s =
        ⊎_elim
        (λ a. ⊎_elim (λ b. a.0 ∙ sym b.0)
        (λ b. absurd (b.0 (sym (can.on.one x j lx lj held (sym a.1 ∙ s ∙ b.2)))))
        (source j lj (λ z. full (s ∙ z))))
        (λ a. ⊎_elim (λ b. absurd (a.0 (sym (can.on.one x i lx li held (sym b.1 ∙ sym s ∙ a.2)))))
        (λ b. can.on.one i j li lj (λ z. full (a.2 ∙ z)) (sym a.2 ∙ s ∙ b.2))
        (source j lj (λ z. full (s ∙ z))))
        (source i li full)

    moved_on_lem : OnCircle n m at k
    moved_on_lem =
        record {
          rack = λ i l full.
              ⊎_elim (λ a. subst (Rack m) (sym a.1) (can.on.rack x lx held))
              (λ a. subst (Rack m) (sym a.2) (can.on.rack i l (λ z. full (a.2 ∙ z)))) (source i l full);
          one = moved_one;
          every = λ r rack.
              let o = can.on.every r rack in
              by_cases (ℕ_discrete o.0 x)
              (λ s. (y, ly, passed.entered ∙ ap (λ (z : ℕ). h (at z)) (sym s) ∙ o.2))
              (λ f. (
                o.0,
                o.1,
                passed.others (at o.0) (λ s. f (circle_one three c o.0 x o.1 lx s))
                    (λ s. let some = rack.some in let z : r ≡ 0 = sym o.2 ∙ ap h s ∙ ready.vacant in omega arith) ∙ o.2,
              ));
        }

    moved_paced : (i j : ℕ) → i < n → j < n → i ≢ j → k (at i) ≢ 0 → k (at j) ≢ 0 → e (k (at i)) < e (k (at j)) + ahead n i j
    moved_paced i j li lj apart fi fj =
        ⊎_elim
        (λ a. ⊎_elim (λ b. absurd (apart (a.0 ∙ sym b.0)))
        (λ b.
        let full : h (at j) ≢ 0 = λ z. fj (b.2 ∙ z) in
        let old = can.paced.behind x j lx lj (λ s. b.0 (sym s)) held full in
        let far = ahead-next n x j lx lj b.0 in
        let mine : e (k (at i)) ≡ e (h (at x)) = ap e a.1 in
        let his : e (k (at j)) ≡ d (h (at j)) = ap e b.2 ∙ same (h (at j)) (other j lj b.0 full) in
        let there : ahead n i j ≡ ahead n y j = ap (λ (z : ℕ). ahead n z j) a.0 in
        omega (arith, less))
        (source j lj fj))
        (λ a.
        let full : h (at i) ≢ 0 = λ z. fi (a.2 ∙ z) in
        let mine : e (k (at i)) ≡ d (h (at i)) = ap e a.2 ∙ same (h (at i)) (other i li a.0 full) in
        ⊎_elim
        (λ b.
        let old = can.paced.behind i x li lx a.0 full held in
        let far = ahead_before n x i lx li a.1 in
        let his : e (k (at j)) ≡ e (h (at x)) = ap e b.1 in
        let there : ahead n i j ≡ ahead n i y = ap (ahead n i) b.0 in
        omega (arith, less))
        (λ b.
        let fullj : h (at j) ≢ 0 = λ z. fj (b.2 ∙ z) in
        let old = can.paced.behind i j li lj apart full fullj in
        let his : e (k (at j)) ≡ d (h (at j)) = ap e b.2 ∙ same (h (at j)) (other j lj b.0 fullj) in
        omega arith)
        (source j lj fj))
        (source i li fi)

    pub drive_on : Driveable n m at e k
    drive_on =
        record {
          three = can.three;
          few = can.few;
          on = moved_on_lem;
          less = can.less;
          vacancy = (x, lx, passed.left);
          paced = record { idle = same 0 (λ s. held (sym s)) ∙ can.paced.idle; behind = moved_paced };
        }

    pub underway_next : {d₀ h₀ : ℕ → ℕ} → Underway n at d₀ h₀ d h → Underway n at d₀ h₀ e k
    underway_next {d₀} {h₀} u =
        record {
          from = λ j l full.
              ⊎_elim
              (λ a.
              let f = u.from x lx held in (
                f.0,
                f.1,
                f.2 ∙ sym a.1,
                subst (λ (r : ℕ). Lands n (f.0 + d₀ r) (j + e r)) (sym a.1)
                    (subst (λ (z : ℕ). Lands n (f.0 + d₀ (h (at x))) (z + e (h (at x)))) (sym a.0) (lands_next n x (d (h (at x))) (e (h
                    (at x))) lx less f.3)),
              ))
              (λ a.
              let held_j : h (at j) ≢ 0 = λ z. full (a.2 ∙ z) in
              let f = u.from j l held_j in (
                f.0,
                f.1,
                f.2 ∙ sym a.2,
                subst (λ (r : ℕ). Lands n (f.0 + d₀ r) (j + e r)) (sym a.2)
                    (subst (λ (z : ℕ). Lands n (f.0 + d₀ (h (at j))) (j + z)) (sym (same (h (at j)) (other j l a.0 held_j))) f.3),
              ))
              (source j l full);
        }
