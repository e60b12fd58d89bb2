-- Which rack stands at a position, on a sound arrangement and after a legal move.
--
--     rack_is            the rack that stands at p is the one that is found there
--     rack_place         rack q + 1 is found at p exactly if it stands there
--     rack_not           where it does not stand it is not found
--     others_same        at a position that a move neither leaves nor enters it changes nothing
--     left_rack, entered_rack, left-vacant, left-empty, entered-empty
--                        a legal move's rack is found at the position left before the move, and at the position entered after it; at the
--                        other of the two none is
-- Assumes nothing.
use Prim.Native.Nat.{ℕ, suc, ◌<◌}
use mathlib.Core.Path.{◌≡◌, sym, ◌∙◌, ap}
use mathlib.Core.Logic.{◌≢◌, ⊎_elim}
use native.Mathlib.Omega.{arith}
use lib.Dec.{T, eqb}
use lib.ListN.{length, get_or}
use borrow.Author.Tests.{eq-eqb, ne_eqb}
use Rattle.order.specs.Floor.{Floor}
use Rattle.motion.specs.Arrangement.{Arrangement, vacant, rack_at}
use Rattle.motion.proofs.ArrangementLaws.{occupied_rack, occupied_or_vacant, rack_at_finds, rack_at_none}
use Rattle.motion.specs.Move.{legal_move, after_move}
use Rattle.motion.proofs.MoveLaws.{legal_parts, move-length, moved_rack, moved_other, turned_legal}
use Rattle.motion.specs.TurnedStep.{turned}
use Rattle.motion.proofs.Untouched.{vacant-move}
use Rattle.motion.specs.Sound.{Sound}
use Rattle.motion.proofs.SoundLaws.{move_sound}
use Rattle.motion.proofs.Test.{equal?}

pub rack_is : (n : ℕ) (A : Arrangement) (p r : ℕ) → Sound n A → r < length A → get_or A r 0 ≡ p → rack_at A p ≡ suc r
rack_is n A p r s h e =
    let w = rack_at_finds A p ((occupied_rack A p).1 (r, h, e)) in
    w.3 ∙ ap suc (s.apart w.0 r w.1 h (w.2 ∙ sym e))

pub rack_not : (A : Arrangement) (p q : ℕ) → get_or A q 0 ≢ p → rack_at A p ≢ suc q
rack_not A p q e f =
    ⊎_elim
    (λ o. let w = rack_at_finds A p o in e (ap (λ (i : ℕ). get_or A i 0) (omega (arith, w.3)) ∙ w.2))
    (λ v. omega (arith, rack_at_none A p v))
    (occupied_or_vacant A p)

pub rack_place : (n : ℕ) (A : Arrangement) (p q : ℕ) → Sound n A → q < length A → eqb (rack_at A p) (suc q) ≡ eqb (get_or A q 0) p
rack_place n A p q s h =
    ⊎_elim
    (λ (e : get_or A q 0 ≡ p). rw (eq-eqb (get_or A q 0) p e, eq-eqb (rack_at A p) (suc q) (rack_is n A p q s h e)))
    (λ (e : get_or A q 0 ≢ p). rw (ne_eqb (get_or A q 0) p e, ne_eqb (rack_at A p) (suc q) (rack_not A p q e)))
    (equal? (get_or A q 0) p)

pub others_same : (n : ℕ) (A : Arrangement) (m : ℕ × ℕ) → Sound n (after_move A m) → (p : ℕ) → p ≢ m.0 → p ≢ m.1
    → rack_at (after_move A m) p ≡ rack_at A p
others_same n A m s p a b =
    ⊎_elim
    (λ o.
    let w = rack_at_finds A p o in
    let there : get_or (after_move A m) w.0 0 ≡ p = moved_other A m w.0 w.1 (λ e. a (sym w.2 ∙ e)) ∙ w.2 in
    rack_is n (after_move A m) p w.0 s (rw move-length w.1) there ∙ sym w.3)
    (λ v. rack_at_none (after_move A m) p (vacant-move A m p v (λ e. b (sym e))) ∙ sym (rack_at_none A p v))
    (occupied_or_vacant A p)

module _ (F : Floor) (A : Arrangement) (m : ℕ × ℕ) (legal : T (legal_move F A m)) (sound : Sound F.positions A) where
  pub entered-empty : rack_at A m.1 ≡ 0
  entered-empty = rack_at_none A m.1 ((legal_parts F A m).0 legal).2

  pub left-vacant : T (vacant (after_move A m) m.0)
  unfolding turned
  left-vacant = ((legal_parts F (after_move A m) (turned m)).0 (turned_legal F A m legal)).2

  pub left-empty : rack_at (after_move A m) m.0 ≡ 0
  left-empty = rack_at_none (after_move A m) m.0 left-vacant

  module _ (r : ℕ) (is : r < length A) (at : get_or A r 0 ≡ m.0) where
    pub left_rack : rack_at A m.0 ≡ suc r
    left_rack = rack_is F.positions A m.0 r sound is at

    pub entered_rack : rack_at (after_move A m) m.1 ≡ suc r
    entered_rack =
        rack_is F.positions (after_move A m) m.1 r (move_sound F A m legal sound) (rw move-length is) (moved_rack A m r is at)
