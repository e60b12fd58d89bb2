-- What racks need to go on, and where it takes them.
--
--     distance_below      no rack is a lap away
--     aimed-at            a number of few laps is one to aim at
--     Needing, needing_first, needing_next, needing_last    the state of `needs`
-- Assumes nothing.
use Prim.Native.Nat.{ℕ, zero, suc, ◌+◌, ◌-◌, ◌*◌, ◌≤◌, ◌<◌}
use mathlib.Core.Path.{◌≡◌, refl, sym, ap, ◌∙◌}
use mathlib.Core.List.{List}
use mathlib.Core.Logic.{by_cases}
use native.Mathlib.Decide.{ℕ_discrete}
use native.Mathlib.Nat.{mul-le-mul_left, mul-suc}
use native.Mathlib.Omega.{arith}
use lib.ListN.{get_or, set, length, length-set, replicate}
use lib.Seq.{get_or-set_same, get_or-set_other}
use Rattle.ring.specs.Order.{Rack, Places, distance}
use Rattle.graph.specs.Rows.{row}
use Rattle.ring.proofs.OrderLaws.{first, ahead_below}
use Rattle.circling.specs.Lands.{total}
use Rattle.circling.specs.Needs.{reach, Aimed, Needs}
use Rattle.circling.proofs.LandsLaws.{total-set, total_none}

pub distance_below : {n m : ℕ} {p : ℕ → ℕ} → Places n m p → (r : ℕ) → Rack m r → distance n p r < n
distance_below {n} {m} {p} v r k = ahead_below n (p 1) (p r) (v.below 1 (first k)) (v.below r k)

pub aimed-at : (n b j w c : ℕ) → n ≤ 64 → 2 * n ≤ b → b < 3 * n → j < n → w ≤ 4 → c ≡ j + n * w → Aimed n b j c
aimed-at n b j w c few low high l most e =
    let lap : n * w ≤ n * 4 = mul-le-mul_left n most in
    record {
      lands = record { laps = w; is = e };
      there = record { first = omega arith; second = omega arith; near = omega arith };
      back = record { first = omega arith; second = omega arith; near = omega arith };
    }

pub none_at : (k i : ℕ) → row (replicate k 0) i ≡ 0
none_at zero i = refl
none_at (suc k) zero = refl
none_at (suc k) (suc i) = none_at k i

module _ (n m b : ℕ) (p : ℕ → ℕ) (c : ℕ) (g : ℕ → ℕ) where
  pub record Needing (l : List ℕ) (r : ℕ) : Type 0 where
    pub some : 0 < r
    pub most : r ≤ m + 1
    pub long : length l ≡ 64
    pub none : row l 0 ≡ 0
    pub rest : (q : ℕ) → r ≤ q → row l q ≡ 0
    pub each : (q : ℕ) → Rack m q → q < r → row l q ≡ reach n c g q - reach n b p q
    pub few : total l + 4 * n ≤ 4 * n * r

  pub needing_first : Needing (replicate 64 0) 1
  needing_first =
      record {
        some = omega arith;
        most = omega arith;
        long = refl;
        none = refl;
        rest = λ q h. none_at 64 q;
        each = λ q k h. absurd (let s = k.some in omega arith);
        few = (let z = total_none 64 in let o = mul-suc (4 * n) 0 in omega arith);
      }

  module _ {l : List ℕ} {r : ℕ} (v : Needing l r) (more : r ≤ m) (less : m < 64) (near : reach n c g r ≤ reach n b p r + 4 * n) where
    pub needing_next : Needing (set l r (reach n c g r - reach n b p r)) (r + 1)
    needing_next =
        let x = reach n c g r - reach n b p r in
        let lr : r < length l = (let w = v.long in omega arith) in
        record {
          some = omega arith;
          most = omega arith;
          long = length-set l r x ∙ v.long;
          none = get_or-set_other l r 0 x 0 (λ e. let s = v.some in omega arith) ∙ v.none;
          rest = λ q h. get_or-set_other l r q x 0 (λ e. omega arith) ∙ v.rest q (omega arith);
          each = λ q k h.
              by_cases (ℕ_discrete q r)
              (λ e. ap (λ (y : ℕ). get_or (set l r x) y 0) e ∙ get_or-set_same l r x 0 lr ∙ ap (λ (y : ℕ). reach n c g y - reach n b p y)
              (sym e))
              (λ f. get_or-set_other l r q x 0 f ∙ v.each q k (omega arith));
          few = (let w = v.few in let o = mul-suc (4 * n) r in let e : suc r ≡ r + 1 = omega arith in
              let y : 4 * n * suc r ≡ 4 * n * (r + 1) = ap (λ (z : ℕ). 4 * n * z) e in
              let t = total-set l r x lr in omega arith);
        }

  pub needing_last : {l : List ℕ} {r : ℕ} → Needing l r → m < r → Needs n m b p c g l
  needing_last {l} {r} v past =
      let most = v.most in
      let e : r ≡ suc m = omega arith in
      record {
        long = v.long;
        none = v.none;
        each = λ q k. v.each q k (let s = k.most in omega arith);
        few = (let w = v.few in let o = mul-suc (4 * n) m in let x : 4 * n * r ≡ 4 * n * suc m = ap
            (λ (z : ℕ). 4 * n * z) e in omega arith);
      }
