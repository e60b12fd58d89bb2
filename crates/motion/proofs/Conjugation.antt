-- Conjugation: "do σ, do something small, undo σ" comes to the small thing alone, whatever σ did to the other racks. Racks are
-- told by index, rack 1's index being 0; `set A r y` is A with rack r at y instead.
--
--     conjugate_exchange    if σ leads from A to B, and τ exchanges racks i and j in B, then σ, τ and σ undone exchange them in A
--     others_moves r A ms    the moves ms from A without those of rack r, told by following rack r
--     others_moves_own       rack r's own move is dropped
--     others_moves_other     a move of another rack is kept
--     others_moves-length    what is kept is no more than ms
--     leads_without         where y is vacant in A and never entered, the others' moves lead from A to B with rack r waiting at y in
--                           both (a position vacant in B and never left is vacant in A: vacant-before)
--     carry_away            if σ leads from A to B, then rack r's move from its place in B to y, with σ undone without r's own moves,
--                           leads from B to A with r at y
--     conjugate_carry       so with σ before them they lead from A to A with r at y
-- Assumes nothing.
use Prim.Native.Nat.{ℕ, zero, suc, ◌<◌, ◌≤◌}
use mathlib.Core.Bool.{cond, not}
use mathlib.Core.List.{List, [], ◌∷◌, ◌++◌, map}
use mathlib.Core.Logic.{⊎_elim, ◌≢◌}
use mathlib.Core.Path.{◌≡◌, refl, sym, ap, ◌∙◌}
use native.Mathlib.Omega.{arith}
use lib.Dec.{T, eqb}
use lib.ListN.{length, get_or, set, length-set}
use lib.Seq.{get_or-set_same, get_or-set_other, set-set}
use borrow.Author.Tests.{eq-eqb, ne_eqb}
use Rattle.order.specs.Floor.{Floor, joined}
use Rattle.motion.specs.Arrangement.{Arrangement, occupied, vacant}
use Rattle.motion.proofs.ArrangementLaws.{occupied_rack, vacant-racks, occupied-vacant}
use Rattle.motion.proofs.Exchange.{exchange, leads_exchanged}
use Rattle.motion.proofs.Lawful.{Leads, still, ◌then◌, lawful_append}
use Rattle.motion.specs.Move.{legal_move, goes_to, after, after_move}
use Rattle.motion.proofs.MoveLaws.{on_floor_parts, legal_parts, move-length}
use Rattle.motion.proofs.Reversal.{undo, leads_undo}
use Rattle.motion.specs.Sound.{Sound}
use Rattle.motion.proofs.SoundLaws.{move-set, move_sound, leads_sound, leads_length}
use Rattle.motion.specs.Step.{enters}
use Rattle.motion.proofs.Test.{equal?, cond_either}
use Rattle.motion.proofs.Untouched.{enters-first, vacant-move, vacant_stays}

pub conjugate_exchange : (F : Floor) (i j : ℕ) {A B : Arrangement} {σ τ : List (ℕ × ℕ)} → i < length A → j < length A
    → Leads F A σ B → Leads F B τ (exchange i j B) → Leads F A (σ ++ τ ++ undo σ) (exchange i j A)
conjugate_exchange F i j h h' p q =
    lawful_append (lawful_append p q) (leads_exchanged i j F (rw (leads_length F p) h) (rw (leads_length F p) h') (leads_undo F p))

unfoldable pub others_moves : ℕ → Arrangement → List (ℕ × ℕ) → List (ℕ × ℕ)
others_moves r A [] = []
others_moves r A (m ∷ ms) = let rest = others_moves r (after_move A m) ms in cond (eqb (get_or A r 0) m.0) rest (m ∷ rest)

pub others_moves-length : (r : ℕ) (A : Arrangement) (ms : List (ℕ × ℕ)) → length (others_moves r A ms) ≤ length ms
unfolding others_moves
others_moves-length r A [] = omega arith
others_moves-length r A (m ∷ ms) =
    let h = others_moves-length r (after_move A m) ms in
    cond_either (λ (l : List (ℕ × ℕ)). length l ≤ suc (length ms)) (eqb (get_or A r 0) m.0) (omega arith) (omega arith)

-- rack r set down at y
module _ (A : Arrangement) (r y : ℕ) where
  -- an index is r's or another's
  set_cases : (P : ℕ → Type 0) → r < length A → (k : ℕ) → (k ≡ r → P y) → (k ≢ r → P (get_or A k 0)) → P (get_or (set A r y) k 0)
  set_cases P h k a b =
      ⊎_elim
      (λ (e : k ≡ r). let s : get_or (set A r y) k 0 ≡ y = ap (λ (i : ℕ). get_or (set A r y) i 0) e ∙ get_or-set_same A
      r y 0 h in rw s (a e))
      (λ (d : k ≢ r). rw (get_or-set_other A r k y 0 d) (b d))
      (equal? k r)

  module _ (h : r < length A) where
    set-vacant : (p : ℕ) → T (vacant A p) → y ≢ p → T (vacant (set A r y) p)
    set-vacant p v d =
        (vacant-racks (set A r y) p).1 (λ k q. set_cases (λ (z : ℕ). z ≢ p) h k (λ _. d)
        (λ _. (vacant-racks A p).0 v k (rw length-set at q)))

    set-occupied : (p : ℕ) → T (occupied A p) → get_or A r 0 ≢ p → T (occupied (set A r y) p)
    set-occupied p o d =
        let t = (occupied_rack A p).0 o in
        (occupied_rack (set A r y) p).1
        (t.0, rw length-set t.1, get_or-set_other A r t.0 y 0 (λ c. d (ap (λ (i : ℕ). get_or A i 0) (sym c) ∙ t.2)) ∙ t.2)

map-set : (f : ℕ → ℕ) (A : List ℕ) (r y : ℕ) → map f (set A r y) ≡ set (map f A) r (f y)
map-set f [] r y = refl
map-set f (p ∷ A) zero y = refl
map-set f (p ∷ A) (suc r) y = ap (λ (l : List ℕ). f p ∷ l) (map-set f A r y)

-- a move that does not leave y is the same with rack r set down at y
set-move : (A : Arrangement) (r y : ℕ) (m : ℕ × ℕ) → y ≢ m.0 → after_move (set A r y) m ≡ set (after_move A m) r y
unfolding after_move after goes_to
set-move A r y m d =
    let stays : goes_to (m ∷ []) y ≡ y = rw (ne_eqb y m.0 d) in
    map-set (goes_to (m ∷ [])) A r y ∙ ap (set (map (goes_to (m ∷ [])) A) r) stays

-- rack r's own move is nothing with rack r set down at y
set_own_move : (n : ℕ) (A : Arrangement) (r y : ℕ) (m : ℕ × ℕ) → Sound n A → r < length A → get_or A r 0 ≡ m.0
    → set (after_move A m) r y ≡ set A r y
set_own_move n A r y m s h e = ap (λ (C : Arrangement). set C r y) (move-set n A m r s h e) ∙ set-set A r m.1 y

pub others_moves_own : (r : ℕ) (A : Arrangement) (m : ℕ × ℕ) (ms : List (ℕ × ℕ)) → get_or A r 0 ≡ m.0
    → others_moves r A (m ∷ ms) ≡ others_moves r (after_move A m) ms
unfolding others_moves
others_moves_own r A m ms e = rw (eq-eqb (get_or A r 0) m.0 e)

pub others_moves_other : (r : ℕ) (A : Arrangement) (m : ℕ × ℕ) (ms : List (ℕ × ℕ)) → get_or A r 0 ≢ m.0
    → others_moves r A (m ∷ ms) ≡ m ∷ others_moves r (after_move A m) ms
unfolding others_moves
others_moves_other r A m ms e = rw (ne_eqb (get_or A r 0) m.0 e)

module _ (F : Floor) (r y : ℕ) where
  pub leads_without : {A B : Arrangement} {σ : List (ℕ × ℕ)} → Sound F.positions A → r < length A → T (vacant A y) → T (not (enters σ y))
      → Leads F A σ B → Leads F (set A r y) (others_moves r A σ) (set B r y)
  unfolding others_moves
  leads_without s h v u still = still
  leads_without {B = B} s h v u (◌then◌ {A = A} {x = m} {xs = ms} l p) =
      let t = (legal_parts F A m).0 l in
      let e = enters-first m ms y u in
      let q : Leads F (set (after_move A m) r y) (others_moves r (after_move A m) ms) (set B r y) =
      leads_without (move_sound F A m l s) (rw move-length h) (vacant-move A m y v e.0) e.1 p in
      ⊎_elim (λ (c : get_or A r 0 ≡ m.0). rw (others_moves_own r A m ms c) (rw (set_own_move F.positions A r y m s h c) at q))
      (λ (c : get_or A r 0 ≢ m.0).
      let y≢ : y ≢ m.0 = λ d. occupied-vacant A y (rw d t.1) v in
      let legal : T (legal_move F (set A r y) m) =
      (legal_parts F (set A r y) m).1 (t.0, set-occupied A r y h m.0 t.1 c, set-vacant A r y h m.1 t.2 (λ d. e.0 (sym d))) in
      let q' : Leads F (after_move (set A r y) m) (others_moves r (after_move A m) ms) (set B r y) = rw (set-move A r y m y≢) q in
      rw (others_moves_other r A m ms c) (legal then q'))
      (equal? (get_or A r 0) m.0)

  pub carry_away : {A B : Arrangement} {σ : List (ℕ × ℕ)} → Sound F.positions A → r < length A → T (vacant A y) → T (not (enters σ y))
      → Leads F A σ B → y < F.positions → T (joined F (get_or B r 0) y)
      → Leads F B ((get_or B r 0, y) ∷ undo (others_moves r A σ)) (set A r y)
  carry_away {A} {B} {σ} s h v u p y< j =
      let s_b = leads_sound F s p in
      let h_b : r < length B = rw (leads_length F p) h in
      let legal : T (legal_move F B (get_or B r 0, y)) =
      (legal_parts F B (get_or B r 0, y)).1 (
        (on_floor_parts F (get_or B r 0, y)).1 (s_b.below r h_b, y<, j),
        (occupied_rack B (get_or B r 0)).1 (r, h_b, refl),
        vacant_stays F y p v u,
      ) in
      let q : Leads F (after_move B (get_or B r 0, y)) (undo (others_moves r A σ)) (set A r y) =
      rw (move-set F.positions B (get_or B r 0, y) r s_b h_b refl) (leads_undo F (leads_without s h v u p)) in
      legal then q

  pub conjugate_carry : {A B : Arrangement} {σ : List (ℕ × ℕ)} → Sound F.positions A → r < length A → T (vacant A y)
      → T (not (enters σ y)) → Leads F A σ B → y < F.positions → T (joined F (get_or B r 0) y)
      → Leads F A (σ ++ (get_or B r 0, y) ∷ undo (others_moves r A σ)) (set A r y)
  conjugate_carry s h v u p y< j = lawful_append p (carry_away s h v u p y< j)
