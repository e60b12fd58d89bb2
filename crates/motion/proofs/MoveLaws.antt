-- Laws of a single move: what makes it legal, what it does to each rack, and that it can be taken back.
--
--     joined-sym        an edge joins both ways
--     on_floor_parts     what it is for a move's two positions to be on the floor
--     legal_parts       a legal move: on the floor, a rack at the position left, the position entered vacant
--     move_fault_none    a move has no fault exactly if it is legal
--     BadMove F A m f   why the move m is not legal on the arrangement A, and the number f that stands for it
--     move_fault_bad     a move's fault is a number exactly for what that number stands for
--     move_fault_small   a fault's number fits 8 bits
--     map_at            a rack of an arrangement that is changed rack by rack
--     after-length      moves made all at once keep the number of racks
--     move-length       so does one move
--     after-at          each rack goes where the moves take what stands at its place
--     moved_rack        the rack at the position left goes to the position entered
--     moved_other       each other rack stays
--     moved_unheld      a move from a position without a rack changes nothing
--     legal_apart       a legal move's two positions differ
--     turned_legal      a legal move, turned round, is legal after it
--     turned_back       and takes its rack back
-- Assumes nothing.
use Prim.Native.Nat.{ℕ, zero, suc, ◌≤◌, ◌<◌}
use mathlib.Core.Bool.{Bool, true, false, not, or_comm, ◌&&◌}
use mathlib.Core.List.{List, [], ◌∷◌, map}
use mathlib.Core.Logic.{◌↔◌, ⊎_elim, ◌≢◌}
use mathlib.Core.Path.{◌≡◌, refl, sym, ◌∙◌, subst}
use native.Mathlib.Omega.{arith}
use lib.Dec.{T, eqb, ltb, ltb→lt, lt→ltb, lit≤}
use lib.Ieee.Bits.{is_true, is_false}
use lib.ListN.{length, get_or, length-map}
use lib.Seq.{ext_get_or}
use borrow.Author.Tests.{eq-eqb, ne_eqb}
use Rattle.order.specs.Floor.{Floor, some, is_pair, joined}
use Rattle.motion.specs.Arrangement.{Arrangement, occupied, vacant}
use Rattle.motion.proofs.ArrangementLaws.{occupied_rack, vacant-racks, occupied-vacant}
use Rattle.motion.specs.Move.{on_floor, legal_move, fault_by, move_fault, goes_to, after, after_move}
use Rattle.motion.specs.TurnedStep.{turned}
use Rattle.motion.proofs.Test.{and_parts, equal?}

pub joined-sym : (F : Floor) (a b : ℕ) → joined F a b ≡ joined F b a
unfolding joined
joined-sym F a b = or_comm (some (is_pair (a, b)) F.edges) (some (is_pair (b, a)) F.edges)

pub on_floor_parts : (F : Floor) (m : ℕ × ℕ) → T (on_floor F m) ↔ ((m.0 < F.positions) × (m.1 < F.positions) × T (joined F m.0 m.1))
unfolding on_floor
on_floor_parts F m = (to, from)
  where
    low : Bool
    low = ltb m.0 F.positions

    high : Bool
    high = ltb m.1 F.positions

    to : T (low && high && joined F m.0 m.1) → (m.0 < F.positions) × (m.1 < F.positions) × T (joined F m.0 m.1)
    to t =
        let u = (and_parts (low && high) (joined F m.0 m.1)).0 t in
        let v = (and_parts low high).0 u.0 in
        (ltb→lt _ _ v.0, ltb→lt _ _ v.1, u.1)

    from : (m.0 < F.positions) × (m.1 < F.positions) × T (joined F m.0 m.1) → T (low && high && joined F m.0 m.1)
    from t = (and_parts (low && high) (joined F m.0 m.1)).1 ((and_parts low high).1 (lt→ltb _ _ t.0, lt→ltb _ _ t.1), t.2)

pub legal_parts : (F : Floor) (A : Arrangement) (m : ℕ × ℕ)
    → T (legal_move F A m) ↔ (T (on_floor F m) × T (occupied A m.0) × T (vacant A m.1))
unfolding legal_move
legal_parts F A m = (
  (λ t.
      let u = (and_parts (on_floor F m && occupied A m.0) (vacant A m.1)).0 t in
      let v = (and_parts (on_floor F m) (occupied A m.0)).0 u.0 in
      (v.0, v.1, u.1)),
  (λ t. (and_parts (on_floor F m && occupied A m.0) (vacant A m.1)).1
      ((and_parts (on_floor F m) (occupied A m.0)).1 (t.0, t.1), t.2)),
)

fault_by_none : (a b c : Bool) → eqb (fault_by a b c) 0 ≡ a && b && c
unfolding fault_by
fault_by_none false b c = refl
fault_by_none true false c = refl
fault_by_none true true false = refl
fault_by_none true true true = refl

pub move_fault_none : (F : Floor) (A : Arrangement) (m : ℕ × ℕ) → eqb (move_fault F A m) 0 ≡ legal_move F A m
unfolding move_fault legal_move
move_fault_none F A m = fault_by_none (on_floor F m) (occupied A m.0) (vacant A m.1)

pub data BadMove (F : Floor) (A : Arrangement) (m : ℕ × ℕ) : ℕ → Type 0 where
  -- "a position is n or more or … no edge joins the two"
  apart : T (not (on_floor F m)) → BadMove F A m 32
  -- "no rack at the position left"
  unheld : T (on_floor F m) → T (vacant A m.0) → BadMove F A m 34
  -- "the position entered is occupied"
  blocked : T (on_floor F m) → T (occupied A m.0) → T (occupied A m.1) → BadMove F A m 35

pub move_fault_bad : (F : Floor) (A : Arrangement) (m : ℕ × ℕ) (f : ℕ) → f ≢ 0 → (move_fault F A m ≡ f) ↔ BadMove F A m f
unfolding move_fault fault_by vacant
move_fault_bad F A m f some = (to (on_floor F m) (occupied A m.0) (occupied A m.1) apart unheld blocked, from)
  where
    to : (j h o : Bool) → (T (not j) → BadMove F A m 32) → (T j → T (not h) → BadMove F A m 34) → (T j → T h → T o → BadMove F A m 35)
        → fault_by j h (not o) ≡ f → BadMove F A m f
    to false h o off empty full e = subst (BadMove F A m) e (off tt)
    to true false o off empty full e = subst (BadMove F A m) e (empty tt tt)
    to true true true off empty full e = subst (BadMove F A m) e (full tt tt tt)
    to true true false off empty full e = absurd (some (sym e))

    from : {g : ℕ} → BadMove F A m g → fault_by (on_floor F m) (occupied A m.0) (not (occupied A m.1)) ≡ g
    from (apart j) = rw (is_false (on_floor F m) j)
    from (unheld j h) = rw (is_true (on_floor F m) j, is_false (occupied A m.0) h)
    from (blocked j h o) = rw (is_true (on_floor F m) j, is_true (occupied A m.0) h, is_true (occupied A m.1) o)

fault_by_small : (a b c : Bool) → fault_by a b c ≤ 255
unfolding fault_by
fault_by_small false b c = lit≤ tt
fault_by_small true false c = lit≤ tt
fault_by_small true true false = lit≤ tt
fault_by_small true true true = lit≤ tt

pub move_fault_small : (F : Floor) (A : Arrangement) (m : ℕ × ℕ) → move_fault F A m ≤ 255
unfolding move_fault
move_fault_small F A m = fault_by_small (on_floor F m) (occupied A m.0) (vacant A m.1)

pub after-length : (A : Arrangement) (ms : List (ℕ × ℕ)) → length (after A ms) ≡ length A
unfolding after
after-length A ms = length-map A (goes_to ms)

pub map_at : (f : ℕ → ℕ) (A : List ℕ) (i : ℕ) → i < length A → get_or (map f A) i 0 ≡ f (get_or A i 0)
map_at f [] i h = absurd (omega arith)
map_at f (p ∷ A) zero h = refl
map_at f (p ∷ A) (suc i) h = map_at f A i (omega arith)

pub after-at : (A : Arrangement) (ms : List (ℕ × ℕ)) (i : ℕ) → i < length A → get_or (after A ms) i 0 ≡ goes_to ms (get_or A i 0)
unfolding after
after-at A ms i h = map_at (goes_to ms) A i h

pub move-length : (A : Arrangement) (m : ℕ × ℕ) → length (after_move A m) ≡ length A
unfolding after_move
move-length A m = after-length A (m ∷ [])

pub moved_rack : (A : Arrangement) (m : ℕ × ℕ) (i : ℕ) → i < length A → get_or A i 0 ≡ m.0 → get_or (after_move A m) i 0 ≡ m.1
unfolding after_move goes_to
moved_rack A m i h e = after-at A (m ∷ []) i h ∙ rw (eq-eqb (get_or A i 0) m.0 e)

pub moved_other : (A : Arrangement) (m : ℕ × ℕ) (i : ℕ) → i < length A → get_or A i 0 ≢ m.0 → get_or (after_move A m) i 0 ≡ get_or A i 0
unfolding after_move goes_to
moved_other A m i h e = after-at A (m ∷ []) i h ∙ rw (ne_eqb (get_or A i 0) m.0 e)

pub moved_unheld : (A : Arrangement) (m : ℕ × ℕ) → T (vacant A m.0) → after_move A m ≡ A
moved_unheld A m v =
    ext_get_or 0 (after_move A m) A (move-length A m)
    (λ i h. let h' : i < length A = rw move-length at h in moved_other A m i h' ((vacant-racks A m.0).0 v i h'))

pub legal_apart : (F : Floor) (A : Arrangement) (m : ℕ × ℕ) → T (legal_move F A m) → m.0 ≢ m.1
legal_apart F A m l e = let t = (legal_parts F A m).0 l in occupied-vacant A m.0 t.1 (rw e t.2)

module _ (F : Floor) (A : Arrangement) (m : ℕ × ℕ) (l : T (legal_move F A m)) where
  turned-on_floor : T (on_floor F (m.1, m.0))
  turned-on_floor =
      let t = (on_floor_parts F m).0 ((legal_parts F A m).0 l).0 in
      (on_floor_parts F (m.1, m.0)).1 (t.1, t.0, rw joined-sym t.2)

  entered-occupied : T (occupied (after_move A m) m.1)
  entered-occupied =
      let r = (occupied_rack A m.0).0 ((legal_parts F A m).0 l).1 in
      (occupied_rack (after_move A m) m.1).1 (r.0, rw move-length r.1, moved_rack A m r.0 r.1 r.2)

  left-vacant : T (vacant (after_move A m) m.0)
  left-vacant =
      (vacant-racks (after_move A m) m.0).1
      (λ i h. let h' : i < length A = rw move-length at h in
      ⊎_elim
      (λ (e : get_or A i 0 ≡ m.0) c. legal_apart F A m l (sym c ∙ moved_rack A m i h' e))
      (λ (e : get_or A i 0 ≢ m.0) c. e (sym (moved_other A m i h' e) ∙ c))
      (equal? (get_or A i 0) m.0))

  pub turned_legal : T (legal_move F (after_move A m) (turned m))
  unfolding turned
  turned_legal = (legal_parts F (after_move A m) (m.1, m.0)).1 (turned-on_floor, entered-occupied, left-vacant)

  back_at : (i : ℕ) → i < length A → get_or (after_move (after_move A m) (m.1, m.0)) i 0 ≡ get_or A i 0
  back_at i h =
      let h' : i < length (after_move A m) = rw move-length h in
      ⊎_elim
      (λ (e : get_or A i 0 ≡ m.0). moved_rack (after_move A m) (m.1, m.0) i h' (moved_rack A m i h e) ∙ sym e)
      (λ (e : get_or A i 0 ≢ m.0).
      let s : get_or (after_move A m) i 0 ≡ get_or A i 0 = moved_other A m i h e in
      moved_other (after_move A m) (m.1, m.0) i h' (λ c. (vacant-racks A m.1).0 ((legal_parts F A m).0 l).2 i h (sym s ∙ c)) ∙ s)
      (equal? (get_or A i 0) m.0)

  pub turned_back : after_move (after_move A m) (turned m) ≡ A
  unfolding turned
  turned_back =
      let same : length (after_move (after_move A m) (m.1, m.0)) ≡ length A = rw (move-length (after_move A m), move-length A m) in
      ext_get_or 0 (after_move (after_move A m) (m.1, m.0)) A same (λ i h. back_at i (rw same at h))
