-- The moves of a plan are those between the arrangements of its replay.
--
--     moved_none        nothing moves between an arrangement and itself
--     moved_one         between a sound arrangement and the one that a move of one of its racks makes of it, there is just that move
--     moves-between     moves that are legal at their turn are the moves between the arrangements that they lead through
-- Assumes nothing.
use Prim.Native.Nat.{ℕ}
use mathlib.Core.Bool.{◌&&◌}
use mathlib.Core.List.{List, [], ◌∷◌, ◌++◌}
use mathlib.Core.Logic.{◌≢◌, ⊎_elim}
use mathlib.Core.Path.{◌≡◌, refl, sym, ap, ap₂, ◌∙◌}
use borrow.Author.Tests.{eq-eqb, ne_eqb}
use lib.Dec.{T, ltb, eqb}
use Rattle.order.specs.Floor.{Floor, some}
use Rattle.motion.specs.Arrangement.{Arrangement, occupied, vacant}
use Rattle.motion.specs.Move.{goes_to, after, after_move}
use Rattle.motion.specs.Replay.{trace}
use Rattle.motion.specs.Sound.{Sound}
use Rattle.motion.specs.StepOf.{moved}
use Rattle.motion.specs.StepSolutions.{moves_between}
use Rattle.motion.proofs.Test.{and_parts, or_parts, eqb_parts, equal?}
use Rattle.motion.proofs.MoveLaws.{legal_parts, legal_apart, moved_unheld}
use Rattle.motion.proofs.SoundLaws.{is_sound, is_sound_sound, move_sound}
use Rattle.motion.proofs.Lawful.{Leads, still, ◌then◌}

pub moved_none : (A : Arrangement) → moved A A ≡ []
unfolding moved
moved_none [] = refl
moved_none (p ∷ A) = rw (eq-eqb p p refl) (moved_none A)

pub moved_one : (n : ℕ) (A : Arrangement) (m : ℕ × ℕ) → T (is_sound n A) → T (occupied A m.0) → m.0 ≢ m.1
    → moved A (after_move A m) ≡ m ∷ []
unfolding moved after_move after goes_to is_sound occupied some
moved_one n [] m sound held apart = absurd held
moved_one n (p ∷ A) m sound held apart =
    let here = (and_parts (ltb p n && vacant A p) (is_sound n A)).0 sound in
    let alone : T (vacant A p) = ((and_parts (ltb p n) (vacant A p)).0 here.0).1 in
    ⊎_elim
    (λ (e : p ≡ m.0).
    let rest : moved A (after_move A m) ≡ [] = ap (moved A) (moved_unheld A m (rw e at alone)) ∙ moved_none A in
    rw (eq-eqb p m.0 e, ne_eqb p m.1 (λ c. apart (sym e ∙ c))) (ap₂ (λ (q : ℕ) (l : List (ℕ × ℕ)). (q, m.1) ∷ l) e rest))
    (λ (d : p ≢ m.0).
    let later =
    ⊎_elim (λ (t : T (eqb p m.0)). absurd (d ((eqb_parts p m.0).0 t))) (λ t. t)
    ((or_parts (eqb p m.0) (occupied A m.0)).0 held) in
    rw (ne_eqb p m.0 d, eq-eqb p p refl) (moved_one n A m here.1 later apart))
    (equal? p m.0)

-- a trace begins with its first arrangement
between-trace : (A B : Arrangement) (ms : List (ℕ × ℕ))
    → moves_between (A ∷ trace after_move B ms) ≡ moved A B ++ moves_between (trace after_move B ms)
unfolding moves_between trace
between-trace A B [] = refl
between-trace A B (m ∷ ms) = refl

pub moves-between : (F : Floor) {A B : Arrangement} {ms : List (ℕ × ℕ)} → Sound F.positions A → Leads F A ms B
    → moves_between (trace after_move A ms) ≡ ms
unfolding trace moves_between
moves-between F sound still = refl
moves-between F sound (◌then◌ {A = A} {x = m} {xs = ms} legal rest) =
    between-trace A (after_move A m) ms
    ∙ ap₂ ◌++◌
    (moved_one F.positions A m ((is_sound_sound F.positions A).1 sound) ((legal_parts F A m).0 legal).1 (legal_apart F A m legal))
    (moves-between F (move_sound F A m legal sound) rest)
