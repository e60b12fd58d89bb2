-- Laws of places on a circle, and of sums.
--
--     laps_apart           two numbers of laps: fewer, as many, one more, or more
--     lands_one            a number lands at one place
--     lands_then           going on from where a number lands
--     lands_next           one place on
--     ahead-next, ahead_before    the distance to a place from the next, and from a place to the next
--     mirror_is, mirror_below, mirror_back    the places of the circle read the other way
--     lands_mirror         numbers that count down land there
--     total-set            a sum with one number changed
--     total_none           a row of zeros
--     Mirrored             the state of `reversed`
-- Assumes nothing.
use Prim.Native.Nat.{ℕ, zero, suc, ◌+◌, ◌-◌, ◌*◌, ◌≤◌, ◌<◌}
use mathlib.Core.Path.{◌≡◌, refl, sym, ap, ◌∙◌}
use mathlib.Core.List.{List, [], ◌∷◌}
use mathlib.Core.Logic.{◌≢◌, ◌⊎◌, inl, inr, ⊎_elim, by_cases}
use native.Mathlib.Decide.{ℕ_discrete, dec_lt, dec_le}
use native.Mathlib.Nat.{mul-le-mul_left, mul-add, mul-suc}
use native.Mathlib.Omega.{arith}
use borrow.Author.Tests.{eq-eqb, ne_eqb}
use lib.ListN.{get_or, set, length, replicate}
use Rattle.ring.specs.Circle.{next}
use Rattle.ring.specs.Order.{ahead}
use Rattle.ring.proofs.CircleLaws.{next_is}
use Rattle.ring.proofs.OrderLaws.{ahead_is}
use Rattle.circling.specs.Lands.{Lands, mirror, total}

abbrev pub Laps : ℕ → ℕ → ℕ → Type 0
Laps n v w = (n * v + n ≤ n * w) ⊎ ((n * v ≡ n * w) ⊎ ((n * v ≡ n * w + n) ⊎ (n * w + n + n ≤ n * v)))

pub laps_apart : (n v w : ℕ) → Laps n v w
laps_apart n v w =
    by_cases (dec_lt v w) (λ l. inl (let m = mul-le-mul_left n l in let s = mul-suc n v in omega arith))
    (λ a. by_cases (ℕ_discrete v w) (λ e. inr (inl (ap (λ (x : ℕ). n * x) e)))
    (λ b. by_cases (ℕ_discrete v (suc w)) (λ e. inr (inr (inl (ap (λ (x : ℕ). n * x) e ∙ mul-suc n w))))
    (λ c. inr (inr (inr (let m = mul-le-mul_left n (more a b c) in let s = mul-suc n (suc w) in let t = mul-suc n w in omega arith))))))
  where
    more : (v < w → ⊥) → v ≢ w → v ≢ suc w → suc (suc w) ≤ v
    more a b c = by_cases (dec_le (suc (suc w)) v) (λ l. l) (λ l. absurd (by_cases (dec_lt v w) a (λ d. omega arith)))

module _ (n : ℕ) where
  pub lands_one : {x i j : ℕ} → i < n → j < n → Lands n x i → Lands n x j → i ≡ j
  lands_one li lj a b =
      let e = a.is in
      let f = b.is in
      ⊎_elim (λ s. omega arith)
      (λ s. ⊎_elim (λ t. omega arith) (λ t. ⊎_elim (λ u. omega arith) (λ u. omega arith) t) s)
      (laps_apart n a.laps b.laps)

  pub lands_self : (j : ℕ) → Lands n j j
  lands_self j = record { laps = 0; is = omega arith }

  pub lands_then : {x i j : ℕ} (d : ℕ) → Lands n x i → Lands n (i + d) j → Lands n (x + d) j
  lands_then d a b =
      let e = a.is in
      let f = b.is in
      let m = mul-add n a.laps b.laps in
      record { laps = a.laps + b.laps; is = omega arith }

  -- after the last place comes the first
  pub lands_next : {x : ℕ} (i d e : ℕ) → i < n → e + 1 ≡ d → Lands n x (i + d) → Lands n x (next n i + e)
  lands_next i d e l s a =
      let f = a.is in
      let m = mul-suc n a.laps in
      ⊎_elim (λ t. record { laps = suc a.laps; is = omega (arith, t.0, t.1) }) (λ t. record {
        laps = a.laps;
        is = omega
            (arith, t.1);
      })
      (next_is n i)

  pub ahead-next : (i j : ℕ) → i < n → j < n → j ≢ i → ahead n i j ≡ ahead n (next n i) j + 1
  ahead-next i j li lj d =
      let y = next n i in
      let A = ahead_is n i j in
      let B = ahead_is n y j in
      ⊎_elim
      (λ s. ⊎_elim (λ t. ⊎_elim (λ u. omega (arith, s.0, s.1, t.0, t.1, u.0, u.1)) (λ u. omega
      (arith, s.0, s.1, t.0, t.1, u.0, u.1)) B)
      (λ t. ⊎_elim (λ u. omega (arith, s.0, s.1, t.0, t.1, u.0, u.1)) (λ u. omega (arith, s.0, s.1, t.0, t.1, u.0, u.1)) B) A)
      (λ s. ⊎_elim (λ t. ⊎_elim (λ u. omega (arith, s.0, s.1, t.0, t.1, u.0, u.1)) (λ u. omega
      (arith, s.0, s.1, t.0, t.1, u.0, u.1)) B)
      (λ t. ⊎_elim (λ u. omega (arith, s.0, s.1, t.0, t.1, u.0, u.1)) (λ u. omega (arith, s.0, s.1, t.0, t.1, u.0, u.1)) B) A)
      (next_is n i)

  pub ahead_before : (i j : ℕ) → i < n → j < n → j ≢ next n i → ahead n j (next n i) ≡ ahead n j i + 1
  ahead_before i j li lj d =
      let A = ahead_is n j i in
      let B = ahead_is n j (next n i) in
      ⊎_elim
      (λ s. ⊎_elim (λ t. ⊎_elim (λ u. omega (arith, s.0, s.1, t.0, t.1, u.0, u.1)) (λ u. omega
      (arith, s.0, s.1, t.0, t.1, u.0, u.1)) B)
      (λ t. ⊎_elim (λ u. omega (arith, s.0, s.1, t.0, t.1, u.0, u.1)) (λ u. omega (arith, s.0, s.1, t.0, t.1, u.0, u.1)) B) A)
      (λ s. ⊎_elim (λ t. ⊎_elim (λ u. omega (arith, s.0, s.1, t.0, t.1, u.0, u.1)) (λ u. omega
      (arith, s.0, s.1, t.0, t.1, u.0, u.1)) B)
      (λ t. ⊎_elim (λ u. omega (arith, s.0, s.1, t.0, t.1, u.0, u.1)) (λ u. omega (arith, s.0, s.1, t.0, t.1, u.0, u.1)) B) A)
      (next_is n i)

  pub ahead_one : (i : ℕ) → i < n → 2 ≤ n → ahead n i (next n i) ≡ 1
  ahead_one i l two =
      let z = ahead-next i (next n i) l (⊎_elim (λ s. omega (arith, s.1)) (λ s. omega (arith, s.0, s.1)) (next_is n i))
      (λ e. ⊎_elim (λ s. omega (arith, s.0, s.1)) (λ s. omega (arith, s.0, s.1)) (next_is n i)) in
      ⊎_elim (λ s. omega (arith, s.1)) (λ s. omega (arith, s.0)) (ahead_is n (next n i) (next n i))

  pub mirror_is : (j : ℕ) → ((j ≡ 0) × (mirror n j ≡ 0)) ⊎ ((j ≢ 0) × (mirror n j ≡ n - j))
  mirror_is j =
      by_cases (ℕ_discrete j 0) (λ e. inl (e, rw (eq-eqb j 0 e) refl)) (λ e. inr (e, rw (ne_eqb j 0 e) refl))

  pub mirror_below : (j : ℕ) → j < n → mirror n j < n
  mirror_below j l = ⊎_elim (λ s. omega (arith, s.1)) (λ s. omega (arith, s.0, s.1)) (mirror_is j)

  pub mirror_back : (j : ℕ) → j < n → mirror n (mirror n j) ≡ j
  mirror_back j l =
      ⊎_elim
      (λ s. ⊎_elim (λ t. omega (arith, s.0, s.1, t.0, t.1)) (λ t. omega (arith, s.0, s.1, t.0, t.1)) (mirror_is (mirror n j)))
      (λ s. ⊎_elim (λ t. omega (arith, s.0, s.1, t.0, t.1)) (λ t. omega (arith, s.0, s.1, t.0, t.1)) (mirror_is (mirror n j)))
      (mirror_is j)

  down : (k w : ℕ) → w ≤ k → n * (k - w) + n * w ≡ n * k
  down k w l = sym (mul-add n (k - w) w) ∙ ap (λ (x : ℕ). n * x) (omega arith)

  -- counted down from eight laps
  pub lands_mirror : {x j : ℕ} → j < n → x ≤ 8 * n → Lands n x j → Lands n (8 * n - x) (mirror n j)
  lands_mirror {x} {j} l most a =
      let e = a.is in
      ⊎_elim
      (λ s.
      let few : a.laps ≤ 8 = by_cases (dec_le a.laps 8) (λ h. h)
      (λ h. absurd (let m : n * 9 ≤ n * a.laps = mul-le-mul_left n (omega arith) in omega (arith, s.0))) in
      let z = down 8 a.laps few in
      record { laps = 8 - a.laps; is = omega (arith, s.0, s.1) })
      (λ s.
      let few : a.laps ≤ 7 = by_cases (dec_le a.laps 7) (λ h. h)
      (λ h. absurd (let m : n * 8 ≤ n * a.laps = mul-le-mul_left n (omega arith) in omega (arith, s.0))) in
      let z = down 7 a.laps few in
      record { laps = 7 - a.laps; is = omega (arith, s.0, s.1) })
      (mirror_is j)

pub total-set : (l : List ℕ) (i v : ℕ) → i < length l → total (set l i v) + get_or l i 0 ≡ total l + v
unfolding total
total-set [] i v h = absurd (let z : 0 < 0 = omega arith in omega arith)
total-set (x ∷ l) zero v h = omega arith
total-set (x ∷ l) (suc i) v h = let r = total-set l i v (omega arith) in omega arith

pub total_none : (k : ℕ) → total (replicate k 0) ≡ 0
unfolding total
total_none zero = refl
total_none (suc k) = let r = total_none k in omega arith

-- the state of `reversed`: the places before j are those of the circle read the other way
abbrev pub Mirrored : ℕ → (ℕ → ℕ) → (ℕ → ℕ) → ℕ → Type 0
Mirrored n at to j = (i : ℕ) → i < j → to i ≡ at (mirror n i)
