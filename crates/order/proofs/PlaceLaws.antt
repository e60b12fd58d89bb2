-- Laws of starts and goals that are below n and all different.
--
--     below_of        no element reaches n: each is below n
--     below_more      numbers below n are below each greater bound
--     places_below, places-differ    what `wrong_places` leaves
--     few_places      different numbers below n are at most n: no order has more racks than positions
-- Assumes nothing.
use Prim.Native.Nat.{ℕ, zero, suc, ◌≤◌, ◌<◌}
use mathlib.Core.Path.{◌≡◌}
use mathlib.Core.Logic.{◌≢◌}
use mathlib.Core.Bool.{Bool, false}
use mathlib.Core.List.{List, [], ◌∷◌}
use native.Mathlib.Omega.{arith}
use borrow.Author.Tests.{leb-false, eqb-false}
use lib.ListN.{length, get_or}
use lib.Dec.{leb, eqb}
use Rattle.field.specs.Bytes.{Below, none, more}
use Rattle.field.proofs.UnitLaws.{or_left, or_right}
use Rattle.field.proofs.WholeBytes.{below_get_d}
use Rattle.sets.proofs.CountLaws.{pigeonhole}
use Rattle.order.specs.Floor.{some}
use Rattle.order.specs.Order.{repeats, wrong_places}

pub below_of : (n : ℕ) (l : List ℕ) → some (leb n) l ≡ false → Below n l
unfolding some
below_of n [] e = none
below_of n (p ∷ l) e = more (leb-false n p (or_left (leb n p) (some (leb n) l) e)) (below_of n l (or_right (leb n p) (some (leb n) l) e))

pub below_more : {n k : ℕ} → n ≤ k → {l : List ℕ} → Below n l → Below k l
below_more h none = none
below_more h (more {x = x} b l) = more {x = x} (omega arith) (below_more h l)

pub places_below : (n : ℕ) (l : List ℕ) → wrong_places n l ≡ false → Below n l
unfolding wrong_places
places_below n l e = below_of n l (or_left (some (leb n) l) (repeats l) e)

pub places-differ : (n : ℕ) (l : List ℕ) → wrong_places n l ≡ false → repeats l ≡ false
unfolding wrong_places
places-differ n l e = or_right (some (leb n) l) (repeats l) e

-- Where a test fails for each element, it fails for the one at place i.
some_at : (f : ℕ → Bool) (l : List ℕ) (i : ℕ) → some f l ≡ false → i < length l → f (get_or l i 0) ≡ false
unfolding some
some_at f [] i e h = absurd (omega arith)
some_at f (x ∷ l) zero e h = or_left (f x) (some f l) e
some_at f (x ∷ l) (suc i) e h = some_at f l i (or_right (f x) (some f l) e) (omega arith)

differ-at : (l : List ℕ) (i j : ℕ) → repeats l ≡ false → i < j → j < length l → get_or l i 0 ≢ get_or l j 0
unfolding repeats
differ-at [] i j e h k = absurd (omega arith)
differ-at (x ∷ l) i zero e h k = absurd (omega arith)
differ-at (x ∷ l) zero (suc j) e h k =
    eqb-false x (get_or l j 0) (some_at (eqb x) l j (or_left (some (eqb x) l) (repeats l) e) (omega arith))
differ-at (x ∷ l) (suc i) (suc j) e h k = differ-at l i j (or_right (some (eqb x) l) (repeats l) e) (omega arith) (omega arith)

-- so m > n meets 14
pub few_places : (n : ℕ) (l : List ℕ) → wrong_places n l ≡ false → length l ≤ n
few_places n l e =
    pigeonhole n (λ i. get_or l i 0) (length l) (below_get_d (places_below n l e)) (λ i j. differ-at l i j (places-differ n l e))
