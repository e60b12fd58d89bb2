-- Laws of arrangements: where racks stand and where none does, told by the index of a rack, rack 1's index being 0.
--
--     occupied_rack     p is occupied exactly if the rack of some index stands there
--     vacant-racks      p is vacant exactly if no rack stands there
--     stands_index      rack i + 1 stands where index i says
--     occupied-vacant   no position is both
--     occupied_or_vacant   each is one of the two
--     rack_at_finds      the rack that stands at an occupied position
--     rack_at_none       and none at a vacant one
-- Assumes nothing.
use Prim.Native.Nat.{ℕ, zero, suc, ◌+◌, ◌-◌, ◌<◌}
use mathlib.Core.List.{[], ◌∷◌}
use mathlib.Core.Logic.{◌↔◌, ◌⊎◌, inl, inr, ⊎_elim, ◌≢◌}
use mathlib.Core.Path.{◌≡◌, refl, ◌∙◌}
use native.Mathlib.Omega.{arith}
use borrow.Author.Tests.{eq-eqb, ne_eqb}
use lib.Dec.{T, eqb}
use lib.ListN.{length, get_or}
use Rattle.order.specs.Floor.{some}
use Rattle.motion.specs.Arrangement.{Arrangement, stands, occupied, vacant, rack_from, rack_at}
use Rattle.motion.proofs.Test.{or_parts, not_parts, eqb_parts, decided, equal?}

occupied_to : (A : Arrangement) (p : ℕ) → T (occupied A p) → (i : ℕ) × (i < length A) × (get_or A i 0 ≡ p)
unfolding occupied some
occupied_to [] p t = absurd t
occupied_to (q ∷ A) p t =
    ⊎_elim
    (λ (e : T (eqb q p)). (0, omega arith, (eqb_parts q p).0 e))
    (λ (u : T (occupied A p)). let r = occupied_to A p u in (suc r.0, omega arith, r.2))
    ((or_parts (eqb q p) (occupied A p)).0 t)

occupied-from : (A : Arrangement) (i : ℕ) → i < length A → T (occupied A (get_or A i 0))
unfolding occupied some
occupied-from [] i h = absurd (omega arith)
occupied-from (q ∷ A) zero h = (or_parts (eqb q q) (occupied A q)).1 (inl ((eqb_parts q q).1 refl))
occupied-from (q ∷ A) (suc i) h = (or_parts (eqb q (get_or A i 0)) (occupied A (get_or A i 0))).1 (inr (occupied-from A i (omega arith)))

pub occupied_rack : (A : Arrangement) (p : ℕ) → T (occupied A p) ↔ ((i : ℕ) × (i < length A) × (get_or A i 0 ≡ p))
occupied_rack A p = (occupied_to A p, λ r. rw (← r.2) (occupied-from A r.0 r.1))

pub vacant-racks : (A : Arrangement) (p : ℕ) → T (vacant A p) ↔ ((i : ℕ) → i < length A → get_or A i 0 ≢ p)
unfolding vacant
vacant-racks A p = (
  λ t i h e. (not_parts (occupied A p)).0 t ((occupied_rack A p).1 (i, h, e)),
  λ f. (not_parts (occupied A p)).1 (λ t. let r = occupied_to A p t in f r.0 r.1 r.2),
)

pub occupied-vacant : (A : Arrangement) (p : ℕ) → T (occupied A p) → T (vacant A p) → ⊥
unfolding vacant
occupied-vacant A p o v = (not_parts (occupied A p)).0 v o

pub occupied_or_vacant : (A : Arrangement) (p : ℕ) → T (occupied A p) ⊎ T (vacant A p)
unfolding vacant
occupied_or_vacant A p = decided (occupied A p)

pub stands_index : (A : Arrangement) (i : ℕ) → stands A (suc i) ≡ get_or A i 0
unfolding stands
stands_index A i = let e : suc i - 1 ≡ i = omega arith in rw e

rack_from-later : (k q : ℕ) (A : Arrangement) (p : ℕ) → q ≢ p → rack_from k (q ∷ A) p ≡ rack_from (suc k) A p
unfolding rack_from
rack_from-later k q A p e = rw (ne_eqb q p e)

rack_from_finds : (k : ℕ) (A : Arrangement) (p : ℕ) → T (occupied A p)
    → (r : ℕ) × (r < length A) × (get_or A r 0 ≡ p) × (rack_from k A p ≡ k + r)
unfolding rack_from occupied some
rack_from_finds k [] p o = absurd o
rack_from_finds k (q ∷ A) p o =
    ⊎_elim
    (λ (e : q ≡ p). (0, omega arith, e, rw (eq-eqb q p e) (omega arith)))
    (λ (e : q ≢ p).
    let w = rack_from_finds (suc k) A p (⊎_elim (λ t. absurd (e ((eqb_parts q p).0 t))) (λ t. t)
    ((or_parts (eqb q p) (occupied A p)).0 o)) in
    (suc w.0, omega (arith, w.1), w.2, rack_from-later k q A p e ∙ omega (arith, w.3)))
    (equal? q p)

pub rack_at_finds : (A : Arrangement) (p : ℕ) → T (occupied A p)
    → (r : ℕ) × (r < length A) × (get_or A r 0 ≡ p) × (rack_at A p ≡ suc r)
unfolding rack_at
rack_at_finds A p o = let w = rack_from_finds 1 A p o in (w.0, w.1, w.2, omega (arith, w.3))

rack_from_none : (k : ℕ) (A : Arrangement) (p : ℕ) → ((i : ℕ) → i < length A → get_or A i 0 ≢ p) → rack_from k A p ≡ 0
unfolding rack_from
rack_from_none k [] p h = refl
rack_from_none k (q ∷ A) p h = rw (ne_eqb q p (h 0 (omega arith))) (rack_from_none (suc k) A p (λ i b. h (suc i) (omega arith)))

pub rack_at_none : (A : Arrangement) (p : ℕ) → T (vacant A p) → rack_at A p ≡ 0
unfolding rack_at
rack_at_none A p v = rack_from_none 1 A p ((vacant-racks A p).0 v)
