-- Positions that a list of moves leaves alone: one that no move enters stays vacant, one that no move leaves keeps its rack.
--
--     enters-first     a list that never enters p: neither its first move nor the rest
--     leaves-first     the same of leaving
--     vacant-move      a move that enters another position leaves y vacant
--     vacant_stays     a vacant position that no move enters stays vacant
--     rack_stays       a rack whose position no move leaves stays there
--     vacant-before    a position that is vacant at the end, and that no move leaves, was vacant before
-- Assumes nothing.
use Prim.Native.Nat.{ℕ, ◌<◌}
use mathlib.Core.Bool.{Bool, not, ◌||◌}
use mathlib.Core.List.{List, ◌∷◌}
use mathlib.Core.Logic.{inl, inr, ⊎_elim, ◌≢◌}
use mathlib.Core.Path.{◌≡◌, refl, sym, ◌∙◌}
use lib.Dec.{T, eqb}
use lib.ListN.{length, get_or}
use Rattle.order.specs.Floor.{Floor, some}
use Rattle.motion.specs.Arrangement.{Arrangement, vacant}
use Rattle.motion.proofs.ArrangementLaws.{vacant-racks}
use Rattle.motion.proofs.Lawful.{Leads, still, ◌then◌}
use Rattle.motion.specs.Move.{after_move}
use Rattle.motion.proofs.MoveLaws.{move-length, moved_rack, moved_other}
use Rattle.motion.proofs.SoundLaws.{leads_length}
use Rattle.motion.specs.Step.{leaves, enters}
use Rattle.motion.proofs.Test.{or_parts, not_parts, eqb_parts, equal?}

neither : (a p : ℕ) (b : Bool) → T (not (eqb a p || b)) → (a ≢ p) × T (not b)
neither a p b t =
    let n = (not_parts (eqb a p || b)).0 t in
    (λ e. n ((or_parts (eqb a p) b).1 (inl ((eqb_parts a p).1 e))), (not_parts b).1 (λ u. n ((or_parts (eqb a p) b).1 (inr u))))

pub enters-first : (m : ℕ × ℕ) (ms : List (ℕ × ℕ)) (p : ℕ) → T (not (enters (m ∷ ms) p)) → (m.1 ≢ p) × T (not (enters ms p))
unfolding enters some
enters-first m ms p t = neither m.1 p (enters ms p) t

pub leaves-first : (m : ℕ × ℕ) (ms : List (ℕ × ℕ)) (p : ℕ) → T (not (leaves (m ∷ ms) p)) → (m.0 ≢ p) × T (not (leaves ms p))
unfolding leaves some
leaves-first m ms p t = neither m.0 p (leaves ms p) t

pub vacant-move : (A : Arrangement) (m : ℕ × ℕ) (y : ℕ) → T (vacant A y) → m.1 ≢ y → T (vacant (after_move A m) y)
vacant-move A m y v d =
    (vacant-racks (after_move A m) y).1
    (λ i h'.
    let h : i < length A = rw move-length at h' in
    ⊎_elim
    (λ (e : get_or A i 0 ≡ m.0). rw (moved_rack A m i h e) d)
    (λ (e : get_or A i 0 ≢ m.0). rw (moved_other A m i h e) ((vacant-racks A y).0 v i h))
    (equal? (get_or A i 0) m.0))

pub vacant_stays : (F : Floor) (y : ℕ) {A B : Arrangement} {ms : List (ℕ × ℕ)} → Leads F A ms B → T (vacant A y) → T (not (enters ms y))
    → T (vacant B y)
vacant_stays F y still v t = v
vacant_stays F y (◌then◌ {A = A} {x = m} {xs = ms} l p) v t =
    let u = enters-first m ms y t in
    vacant_stays F y p (vacant-move A m y v u.0) u.1

pub rack_stays : (F : Floor) (i : ℕ) {A B : Arrangement} {ms : List (ℕ × ℕ)} → Leads F A ms B → i < length A
    → T (not (leaves ms (get_or A i 0))) → get_or B i 0 ≡ get_or A i 0
rack_stays F i still h t = refl
rack_stays F i (◌then◌ {A = A} {x = m} {xs = ms} l p) h t =
    let u = leaves-first m ms (get_or A i 0) t in
    let e : get_or (after_move A m) i 0 ≡ get_or A i 0 = moved_other A m i h (λ c. u.0 (sym c)) in
    rack_stays F i p (rw move-length h) (rw e u.1) ∙ e

pub vacant-before : (F : Floor) (y : ℕ) {A B : Arrangement} {ms : List (ℕ × ℕ)} → Leads F A ms B → T (vacant B y) → T (not (leaves ms y))
    → T (vacant A y)
vacant-before F y {A} {B} p v t =
    (vacant-racks A y).1 (λ i h e. (vacant-racks B y).0 v i (rw (leads_length F p) h) (rack_stays F i p h (rw e t) ∙ e))
