-- Laws of the table of racks: it is filled by the starts, a legal move keeps it, and it tells what the arrangement tells.
--
--     zeros_at           the empty table holds nothing
--     passed, failed     a test that passes or fails, as an equation
--     held_occupied      the table holds a rack exactly where the arrangement has one
--     table_rack         what the table has at p is the rack that stands there
--     held_rack          rack i + 1 is what the table has at p exactly if rack i + 1 stands at p
--     placed-holds       the racks of a sound arrangement, put down one after another, are held
--     moved_holds        a move from an occupied to a vacant position, made on the table, is held
--     misplaced_on_lem       the lowest misplaced rack, told by the table
-- Assumes nothing.
use Prim.Native.Nat.{ℕ, zero, suc, ◌+◌, ◌≤◌, ◌<◌}
use mathlib.Core.Path.{◌≡◌, refl, sym, ap, ◌∙◌}
use mathlib.Core.Bool.{Bool, true, false, not, ◌&&◌}
use mathlib.Core.List.{List, [], ◌∷◌}
use mathlib.Core.Logic.{⊎_elim, ◌≢◌}
use native.Mathlib.Omega.{arith}
use native.Mathlib.Nat.{add-zero, add-suc, suc-add}
use borrow.Author.Tests.{eq-eqb, ne_eqb}
use lib.ListN.{length, get_or, set, replicate, length-set, length-replicate}
use lib.Seq.{get_or-set_same, get_or-set_other}
use lib.Dec.{T, eqb, ltb, ltb→lt}
use Rattle.order.specs.Tables.{placed}
use Rattle.motion.specs.Arrangement.{Arrangement, occupied, vacant, rack_at}
use Rattle.motion.proofs.ArrangementLaws.{occupied_rack, vacant-racks, occupied_or_vacant, rack_at_finds, rack_at_none}
use Rattle.motion.specs.Move.{after_move}
use Rattle.motion.proofs.MoveLaws.{move-length, moved_rack, moved_other}
use Rattle.motion.specs.Sound.{Sound}
use Rattle.motion.proofs.SoundLaws.{is_sound, is_sound_sound}
use Rattle.motion.specs.Judgement.{misplaced}
use Rattle.motion.proofs.Test.{and_parts, equal?}
use Rattle.tables.specs.Tables.{held_at, moved_on, misplaced_on}
use Rattle.tables.proofs.TablesLaws.{Holds}

-- a test that passes or fails, as an equation
pub passed : (b : Bool) → T b → b ≡ true
passed true t = refl
passed false t = absurd t

pub failed : (b : Bool) → T (not b) → b ≡ false
failed true t = absurd t
failed false t = refl

module _ (A : Arrangement) (h : List ℕ) (holds : Holds A h) where
  pub held_occupied : (p : ℕ) → held_at h p ≡ occupied A p
  unfolding held_at vacant
  held_occupied p =
      ⊎_elim
      (λ (o : T (occupied A p)).
      let r = (occupied_rack A p).0 o in
      let there : get_or h p 0 ≡ suc r.0 = ap (λ (q : ℕ). get_or h q 0) (sym r.2) ∙ holds.racks r.0 r.1 in
      rw (ne_eqb (get_or h p 0) 0 (λ z. omega arith)) (sym (passed (occupied A p) o)))
      (λ (v : T (vacant A p)). rw (eq-eqb (get_or h p 0) 0 (holds.others p v)) (sym (failed (occupied A p) v)))
      (occupied_or_vacant A p)

  pub table_rack : (p : ℕ) → rack_at A p ≡ get_or h p 0
  table_rack p =
      ⊎_elim
      (λ (o : T (occupied A p)).
      let r = rack_at_finds A p o in
      r.3 ∙ sym (ap (λ (q : ℕ). get_or h q 0) (sym r.2) ∙ holds.racks r.0 r.1))
      (λ (v : T (vacant A p)). rack_at_none A p v ∙ sym (holds.others p v))
      (occupied_or_vacant A p)

  pub held_rack : (i g : ℕ) → i < length A → eqb (get_or h g 0) (suc i) ≡ eqb (get_or A i 0) g
  held_rack i g k =
      ⊎_elim
      (λ (e : get_or A i 0 ≡ g). rw (eq-eqb (get_or A i 0) g e)
      (eq-eqb (get_or h g 0) (suc i) (ap (λ (q : ℕ). get_or h q 0) (sym e) ∙ holds.racks i k)))
      (λ (d : get_or A i 0 ≢ g). rw (ne_eqb (get_or A i 0) g d) (ne_eqb (get_or h g 0) (suc i) (λ e. d (only e)))) (equal? (get_or A i 0) g)
    where
      only : get_or h g 0 ≡ suc i → get_or A i 0 ≡ g
      only e =
          ⊎_elim
          (λ (o : T (occupied A g)).
          let r = (occupied_rack A g).0 o in
          let there : get_or h g 0 ≡ suc r.0 = ap (λ (q : ℕ). get_or h q 0) (sym r.2) ∙ holds.racks r.0 r.1 in
          let same : i ≡ r.0 = omega arith in
          ap (λ (j : ℕ). get_or A j 0) same ∙ r.2)
          (λ (v : T (vacant A g)). absurd (let z : get_or h g 0 ≡ 0 = holds.others g v in omega arith))
          (occupied_or_vacant A g)

-- racks put down one after another
placed-length : (h : List ℕ) (r : ℕ) (A : Arrangement) → length (placed h r A) ≡ length h
unfolding placed
placed-length h r [] = refl
placed-length h r (q ∷ A) = placed-length (set h q r) (r + 1) A ∙ length-set h q r

placed_other : (h : List ℕ) (r : ℕ) (A : Arrangement) (p : ℕ) → T (vacant A p) → get_or (placed h r A) p 0 ≡ get_or h p 0
unfolding placed
placed_other h r [] p v = refl
placed_other h r (q ∷ A) p v =
    let away = (vacant-racks (q ∷ A) p).0 v in
    placed_other (set h q r) (r + 1) A p ((vacant-racks A p).1 (λ i k. away (suc i) (omega arith)))
    ∙ get_or-set_other h q p r 0 (λ e. away 0 (omega arith) (sym e))

placed_rack : (n : ℕ) (h : List ℕ) (r : ℕ) (A : Arrangement) → n ≤ length h → T (is_sound n A) → (i : ℕ) → i < length A
    → get_or (placed h r A) (get_or A i 0) 0 ≡ r + i
unfolding placed is_sound
placed_rack n h r [] f s i k = absurd (omega arith)
placed_rack n h r (q ∷ A) f s zero k =
    let u = (and_parts (ltb q n && vacant A q) (is_sound n A)).0 s in
    let v = (and_parts (ltb q n) (vacant A q)).0 u.0 in
    placed_other (set h q r) (r + 1) A q v.1
    ∙ get_or-set_same h q r 0 (omega (arith, ltb→lt q n v.0))
    ∙ sym (add-zero r)
placed_rack n h r (q ∷ A) f s (suc i) k =
    let u = (and_parts (ltb q n && vacant A q) (is_sound n A)).0 s in
    placed_rack n (set h q r) (r + 1) A (rw (length-set h q r) f) u.1 i (omega arith) ∙ omega arith

pub zeros_at : (k p : ℕ) → ◌≡◌ {A = ℕ} (get_or (replicate k 0) p 0) 0
zeros_at zero p = refl
zeros_at (suc k) zero = refl
zeros_at (suc k) (suc p) = zeros_at k p

pub placed-holds : (n : ℕ) (A : Arrangement) → n ≤ 64 → Sound n A → Holds A (placed (replicate 64 0) 1 A)
placed-holds n A f s =
    let long : length (replicate {A = ℕ} 64 0) ≡ 64 = length-replicate {A = ℕ} 64 0 in
    record {
      size = placed-length (replicate 64 0) 1 A ∙ long;
      racks = λ i k. placed_rack n (replicate 64 0) 1 A (omega arith) ((is_sound_sound n A).1 s) i k ∙ omega arith;
      others = λ p v. placed_other (replicate 64 0) 1 A p v ∙ zeros_at 64 p;
    }

-- a move made on the table
module _ (n : ℕ) (A : Arrangement) (h : List ℕ) (few : n ≤ 64) (s : Sound n A) (holds : Holds A h) (m : ℕ × ℕ)
    (o : T (occupied A m.0)) (v : T (vacant A m.1)) (below : m.1 < n) where
  the_rack : (i : ℕ) × (i < length A) × (get_or A i 0 ≡ m.0)
  the_rack = (occupied_rack A m.0).0 o

  left_below : m.0 < 64
  left_below = let b : get_or A the_rack.0 0 < n = s.below the_rack.0 the_rack.1 in omega (arith, the_rack.2)

  two_differ : m.0 ≢ m.1
  two_differ e = (vacant-racks A m.1).0 v the_rack.0 the_rack.1 (the_rack.2 ∙ e)

  at-entered : get_or (moved_on h m) m.1 0 ≡ get_or h m.0 0
  unfolding moved_on
  at-entered = get_or-set_same (set h m.0 0) m.1 (get_or h m.0 0) 0 (rw (length-set h m.0 0) (omega (arith, holds.size)))

  at_left : get_or (moved_on h m) m.0 0 ≡ 0
  unfolding moved_on
  at_left =
      get_or-set_other (set h m.0 0) m.1 m.0 (get_or h m.0 0) 0 two_differ
      ∙ get_or-set_same h m.0 0 0 (omega (arith, holds.size, left_below))

  elsewhere : (p : ℕ) → p ≢ m.0 → p ≢ m.1 → get_or (moved_on h m) p 0 ≡ get_or h p 0
  unfolding moved_on
  elsewhere p a b = get_or-set_other (set h m.0 0) m.1 p (get_or h m.0 0) 0 b ∙ get_or-set_other h m.0 p 0 0 a

  racks-after : (i : ℕ) → i < length A → get_or (moved_on h m) (get_or (after_move A m) i 0) 0 ≡ suc i
  racks-after i k =
      ⊎_elim
      (λ (e : get_or A i 0 ≡ m.0).
      rw (moved_rack A m i k e) (at-entered ∙ ap (λ (q : ℕ). get_or h q 0) (sym e) ∙ holds.racks i k))
      (λ (d : get_or A i 0 ≢ m.0).
      rw (moved_other A m i k d) (elsewhere (get_or A i 0) d ((vacant-racks A m.1).0 v i k) ∙ holds.racks i k))
      (equal? (get_or A i 0) m.0)

  others_after : (p : ℕ) → T (vacant (after_move A m) p) → get_or (moved_on h m) p 0 ≡ 0
  others_after p w =
      ⊎_elim
      (λ (e : p ≡ m.0). rw e at_left)
      (λ (d : p ≢ m.0). elsewhere p d entered ∙ holds.others p ((vacant-racks A p).1 (before d)))
      (equal? p m.0)
    where
      away : (i : ℕ) → i < length A → get_or (after_move A m) i 0 ≢ p
      away i k = (vacant-racks (after_move A m) p).0 w i (rw (move-length A m) k)

      entered : p ≢ m.1
      entered e = away the_rack.0 the_rack.1 (moved_rack A m the_rack.0 the_rack.1 the_rack.2 ∙ sym e)

      before : p ≢ m.0 → (i : ℕ) → i < length A → get_or A i 0 ≢ p
      before d i k e = away i k (moved_other A m i k (λ c. d (sym e ∙ c)) ∙ e)

  pub moved_holds : Holds (after_move A m) (moved_on h m)
  unfolding moved_on
  moved_holds =
      record {
        size = length-set (set h m.0 0) m.1 (get_or h m.0 0) ∙ length-set h m.0 0 ∙ holds.size;
        racks = λ i k. racks-after i (rw (move-length A m) at k);
        others = others_after;
      }

-- racks r, r + 1, .. at the positions A, goals G
misplaced-from : (h : List ℕ) (r : ℕ) (A G : List ℕ) → length G ≡ length A
    → ((i g : ℕ) → i < length A → eqb (get_or h g 0) (r + i) ≡ eqb (get_or A i 0) g) → misplaced_on r h G ≡ misplaced r A G
unfolding misplaced_on misplaced
misplaced-from h r [] [] l same = refl
misplaced-from h r [] (g ∷ G) l same = absurd (omega arith)
misplaced-from h r (p ∷ A) [] l same = absurd (omega arith)
misplaced-from h r (p ∷ A) (g ∷ G) l same =
    let here : eqb (get_or h g 0) r ≡ eqb p g = rw (add-zero r) at (same 0 g (omega arith)) in
    rw (here, misplaced-from h (suc r) A G (omega arith) (λ i q k. rw (suc-add r i, ← add-suc r i) (same (suc i) q (omega arith))))

pub misplaced_on_lem : (A : Arrangement) (h : List ℕ) (G : List ℕ) → Holds A h → length G ≡ length A → misplaced_on 1 h G ≡ misplaced 1 A G
misplaced_on_lem A h G holds l =
    misplaced-from h 1 A G l (λ i g k. let e : 1 + i ≡ suc i = omega arith in rw e (held_rack A h holds i g k))
