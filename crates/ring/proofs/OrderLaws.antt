-- The order of racks round a circle, by their distances from rack 1.
--
--     ahead_is, ahead_below      the distance from a place to another
--     turn_on                    three places in turn come in turn again the other two ways of naming them
--     turn_apart                 they are three
--     turn_ahead, turn_back      they do by their distances from any place, and only then
--     rack_of_lem, first             a rack by its number; where there is a rack, there is rack 1
--     few_ordered                two racks or fewer always stand in the same order
--     order_kept, kept_order     the order is the same exactly where each rack keeps behind it those that it had behind it
-- Assumes nothing.
use Prim.Native.Nat.{ℕ, ◌+◌, ◌-◌, ◌≤◌, ◌<◌}
use mathlib.Core.Path.{◌≡◌, refl, sym, ap, subst}
use mathlib.Core.Logic.{◌≢◌, ◌⊎◌, inl, inr, ⊎_elim, by_cases}
use native.Mathlib.Decide.{ℕ_discrete, dec_le}
use native.Mathlib.Omega.{arith}
use borrow.Author.Tests.{le-leb, lt-leb}
use Rattle.ring.specs.Order.{InTurn, ahead, Rack, Places, SameOrder, Keeps}

pub ahead_is : (n i j : ℕ) → ((i ≤ j) × (ahead n i j ≡ j - i)) ⊎ ((j < i) × (ahead n i j ≡ j + n - i))
ahead_is n i j =
    by_cases (dec_le i j) (λ l. inl (l, rw (le-leb i j l) refl))
    (λ l. let h : j < i = omega arith in inr (h, rw (lt-leb i j h) refl))

pub ahead_below : (n i j : ℕ) → i < n → j < n → ahead n i j < n
ahead_below n i j l h = ⊎_elim (λ s. omega (arith, s.0, s.1)) (λ s. omega (arith, s.0, s.1)) (ahead_is n i j)

pub ahead_self : (n i : ℕ) → ahead n i i ≡ 0
ahead_self n i = ⊎_elim (λ s. omega (arith, s.0, s.1)) (λ s. omega (arith, s.0, s.1)) (ahead_is n i i)

pub ahead_none : (n i j : ℕ) → i < n → j < n → ahead n i j ≡ 0 → i ≡ j
ahead_none n i j l h e = ⊎_elim (λ s. omega (arith, s.0, s.1)) (λ s. omega (arith, s.0, s.1)) (ahead_is n i j)

pub turn_on : {i j k : ℕ} → InTurn i j k → InTurn j k i
turn_on t = ⊎_elim (λ s. inr (inr s)) (λ s. ⊎_elim (λ u. inl u) (λ u. inr (inl u)) s) t

pub turn_off : {i j k : ℕ} → InTurn j k i → InTurn i j k
turn_off t = turn_on (turn_on t)

pub turn_apart : {i j k : ℕ} → InTurn i j k → (i ≢ j) × (j ≢ k) × (i ≢ k)
turn_apart t = (
  λ e. ⊎_elim (λ s. omega (arith, s.0, s.1)) (λ u. ⊎_elim (λ s. omega (arith, s.0, s.1)) (λ s. omega (arith, s.0, s.1)) u) t,
  λ e. ⊎_elim (λ s. omega (arith, s.0, s.1)) (λ u. ⊎_elim (λ s. omega (arith, s.0, s.1)) (λ s. omega (arith, s.0, s.1)) u) t,
  λ e. ⊎_elim (λ s. omega (arith, s.0, s.1)) (λ u. ⊎_elim (λ s. omega (arith, s.0, s.1)) (λ s. omega (arith, s.0, s.1)) u) t,
)

-- of three racks among two, two are the same
pub few_ordered : (m : ℕ) (p g : ℕ → ℕ) → m ≤ 2 → SameOrder m p g
few_ordered m p g l r q s kr kq ks t =
    let apart = turn_apart t in
    absurd (by_cases (ℕ_discrete r q) (λ e. apart.0 (ap p e))
    (λ d. by_cases (ℕ_discrete q s) (λ e. apart.1 (ap p e))
    (λ f. apart.2 (ap p (third d f)))))
  where
    third : r ≢ q → q ≢ s → r ≡ s
    third d f =
        let a = kr.some in
        let b = kr.most in
        let c = kq.some in
        let h = kq.most in
        let x = ks.some in
        let y = ks.most in
        omega arith

module _ (n b : ℕ) (lb : b < n) where
  -- what ascends comes in turn by the distances
  ascends : (x y z : ℕ) → z < n → x < y → y < z → InTurn (ahead n b x) (ahead n b y) (ahead n b z)
  ascends x y z lz hx hy =
      let X = ahead_is n b x in
      let Y = ahead_is n b y in
      let Z = ahead_is n b z in
      ⊎_elim
      (λ s. ⊎_elim
      (λ t. ⊎_elim (λ u. inl (omega (arith, s.0, s.1, t.1), omega (arith, t.0, t.1, u.1))) (λ u. absurd (omega
      (arith, u.0, t.0))) Z)
      (λ t. absurd (omega (arith, s.0, t.0)))
      Y)
      (λ s. ⊎_elim
      (λ t. ⊎_elim
      (λ u. inr (inl (omega (arith, t.0, t.1, u.1), omega (arith, s.0, s.1, u.0, u.1)))) (λ u. absurd (omega (arith, u.0, t.0))) Z)
      (λ t. ⊎_elim
      (λ u. inr (inr (omega (arith, s.0, s.1, u.0, u.1), omega (arith, s.0, s.1, t.0, t.1))))
      (λ u. inl (omega (arith, s.0, s.1, t.0, t.1), omega (arith, u.0, u.1, t.0, t.1)))
      Z)
      Y)
      X

  pub turn_ahead : (x y z : ℕ) → x < n → y < n → z < n → InTurn x y z → InTurn (ahead n b x) (ahead n b y) (ahead n b z)
  turn_ahead x y z lx ly lz t =
      ⊎_elim (λ s. ascends x y z lz s.0 s.1)
      (λ s. ⊎_elim (λ u. turn_off (ascends y z x lx u.0 u.1)) (λ u. turn_on (ascends z x y ly u.0 u.1)) s)
      t

-- counted from where place 0 is, the distances are the places again
around : (n b x : ℕ) → b < n → x < n → ahead n (ahead n b 0) (ahead n b x) ≡ x
around n b x lb lx =
    let Y = ahead_is n b x in
    let Z = ahead_is n (ahead n b 0) (ahead n b x) in
    ⊎_elim
    (λ s. ⊎_elim
    (λ t. ⊎_elim (λ u. omega (arith, s.0, s.1, t.0, t.1, u.0, u.1)) (λ u. omega (arith, s.0, s.1, t.0, t.1, u.0, u.1)) Z)
    (λ t. ⊎_elim (λ u. omega (arith, s.0, s.1, t.0, t.1, u.0, u.1)) (λ u. omega (arith, s.0, s.1, t.0, t.1, u.0, u.1)) Z)
    Y)
    (λ s. ⊎_elim
    (λ t. ⊎_elim (λ u. omega (arith, s.0, s.1, t.0, t.1, u.0, u.1)) (λ u. omega (arith, s.0, s.1, t.0, t.1, u.0, u.1)) Z)
    (λ t. ⊎_elim (λ u. omega (arith, s.0, s.1, t.0, t.1, u.0, u.1)) (λ u. omega (arith, s.0, s.1, t.0, t.1, u.0, u.1)) Z)
    Y)
    (ahead_is n b 0)

pub turn_back : (n b x y z : ℕ) → b < n → x < n → y < n → z < n → InTurn (ahead n b x) (ahead n b y) (ahead n b z) → InTurn x y z
turn_back n b x y z lb lx ly lz t =
    let c = ahead n b 0 in
    let low = ahead_below n b in
    subst (λ (w : ℕ). InTurn x y w) (around n b z lb lz)
    (subst (λ (w : ℕ). InTurn x w (ahead n c (ahead n b z))) (around n b y lb ly)
    (subst (λ (w : ℕ). InTurn w (ahead n c (ahead n b y)) (ahead n c (ahead n b z))) (around n b x lb lx)
    (turn_ahead n c (low 0 lb (omega arith)) (ahead n b x) (ahead n b y) (ahead n b z) (low x lb lx) (low y lb ly) (low z lb lz) t)))

pub rack_of_lem : {m r : ℕ} → 0 < r → r ≤ m → Rack m r
rack_of_lem some most = record { some = some; most = most }

pub first : {m r : ℕ} → Rack m r → Rack m 1
first s = record { some = omega arith; most = (let a = s.some in let b = s.most in omega arith) }

module _ {n m : ℕ} {p g : ℕ → ℕ} (from : Places n m p) (to : Places n m g) where
  pub kept_order : ((r : ℕ) → Rack m r → Keeps n m p g r) → SameOrder m p g
  kept_order keeps r q s hr hq hs t =
      let one = first hr in
      turn_back n (g 1) (g r) (g q) (g s) (to.below 1 one) (to.below r hr) (to.below q hq) (to.below s hs)
      (⊎_elim (λ u. inl (keeps r hr q hq u.0, keeps q hq s hs u.1))
      (λ v. ⊎_elim (λ u. inr (inl (keeps q hq s hs u.0, keeps s hs r hr u.1))) (λ u. inr (inr (
        keeps s hs r hr
            u.0,
        keeps r hr q hq u.1,
      ))) v)
      (turn_ahead n (p 1) (from.below 1 one) (p r) (p q) (p s) (from.below r hr) (from.below q hq) (from.below s hs) t))

  pub order_kept : SameOrder m p g → (r : ℕ) → Rack m r → Keeps n m p g r
  order_kept same r hr q hq front =
      let one = first hr in
      let zp = ahead_self n (p 1) in
      let zg = ahead_self n (g 1) in
      let other : q ≢ 1 = λ e. let x : ahead n (p 1) (p q) ≡ ahead n (p 1) (p 1) = ap (λ (y : ℕ). ahead n (p 1) (p y)) e in omega arith in
      let behind : ahead n (g 1) (g q) ≢ 0 =
      λ e. other (sym (to.apart 1 q one hq (ahead_none n (g 1) (g q) (to.below 1 one) (to.below q hq) e))) in
      by_cases (ℕ_discrete r 1)
      (λ e. let x : ahead n (g 1) (g r) ≡ ahead n (g 1) (g 1) = ap (λ (y : ℕ). ahead n (g 1) (g y)) e in omega arith)
      (λ d.
      let some : ahead n (p 1) (p r) ≢ 0 =
      λ e. d (sym (from.apart 1 r one hr (ahead_none n (p 1) (p r) (from.below 1 one) (from.below r hr) e))) in
      let t = turn_back n (p 1) (p 1) (p r) (p q) (from.below 1 one) (from.below 1 one) (from.below r hr) (from.below q hq)
      (inl (omega arith, front)) in
      let u = turn_ahead n (g 1) (to.below 1 one) (g 1) (g r) (g q) (to.below 1 one) (to.below r hr) (to.below q hq)
      (same 1 r q one hr hq t) in
      ⊎_elim (λ s. s.1) (λ v. ⊎_elim (λ s. s.0) (λ s. omega (arith, s.0)) v) u)
