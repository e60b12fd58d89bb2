-- Laws of the judgement: a replay is accepted exactly if it ends at the goals, and refused with a number that is not the goals' exactly
-- if it stopped with that number.
--
--     misplaced-same     where each rack stands at its goal none is misplaced
--     misplaced_none     where none is misplaced each rack stands at its goal
--     judged_accepted    a judgement accepts exactly the replays that end at the goals, and with the counts given
--     judged_refused     and refuses with a number that is not the goals' exactly those that stopped with it, at the same place
-- Assumes nothing.
use Prim.Native.Nat.{ℕ, suc}
use mathlib.Core.Bool.{false, not}
use mathlib.Core.List.{List, [], ◌∷◌}
use mathlib.Core.Logic.{◌↔◌, ⊎_elim, ◌≢◌}
use mathlib.Core.Path.{◌≡◌, refl, sym, ap, ap₂}
use native.Mathlib.Omega.{arith}
use borrow.Author.Tests.{eq-eqb, ne_eqb, eqb-true, not-false}
use lib.Dec.{eqb}
use lib.ListN.{length}
use Rattle.answers.specs.Answer.{accepted, refused}
use Rattle.answers.proofs.AnswerLaws.{not_both, refuse_not, refuse_else, refuse-past}
use Rattle.motion.specs.Arrangement.{Arrangement}
use Rattle.motion.specs.Judgement.{misplaced, judged}
use Rattle.motion.specs.Replay.{Replayed, ended, stopped}
use Rattle.motion.proofs.Test.{equal?}

pub misplaced-same : (r : ℕ) (A : Arrangement) → misplaced r A A ≡ 0
unfolding misplaced
misplaced-same r [] = refl
misplaced-same r (p ∷ A) = rw (eq-eqb p p refl, misplaced-same (suc r) A)

pub misplaced_none : (r : ℕ) (A G : Arrangement) → length A ≡ length G → misplaced (suc r) A G ≡ 0 → A ≡ G
unfolding misplaced
misplaced_none r [] [] l e = refl
misplaced_none r [] (g ∷ G) l e = absurd (omega arith)
misplaced_none r (p ∷ A) [] l e = absurd (omega arith)
misplaced_none r (p ∷ A) (g ∷ G) l e =
    ⊎_elim
    (λ (same : p ≡ g). ap₂ (λ (q : ℕ) (B : Arrangement). q ∷ B) same (misplaced_none (suc r) A G (omega arith) (rw (eq-eqb p g same) at e)))
    (λ (off : p ≢ g). absurd (let z : suc r ≡ 0 = rw (ne_eqb p g off) at e in omega arith))
    (equal? p g)

accepted_counts : (v w : List ℕ) → accepted v ≡ accepted w → v ≡ w
accepted_counts v w e = cc

module _ (off : ℕ) (G counts v : List ℕ) where
  judged_to : (x : Replayed) → ((A : Arrangement) → x ≡ ended A → length A ≡ length G) → judged off G counts x ≡ accepted v
      → (x ≡ ended G) × (counts ≡ v)
  unfolding judged
  judged_to (stopped f j) l e = absurd (let z : ◌≡◌ {A = ℕ} 0 1 = cc in omega arith)
  judged_to (ended A) l e =
      let lowest = misplaced 1 A G in
      let none : not (eqb lowest 0) ≡ false = refuse_not (not (eqb lowest 0)) off lowest (accepted counts) v e in (
        ap ended (misplaced_none 0 A G (l A refl) (eqb-true lowest 0 (not-false (eqb lowest 0) none))),
        accepted_counts counts v (refuse_else (not (eqb lowest 0)) off lowest (accepted counts) v e),
      )

  judged-from : (x : Replayed) → (x ≡ ended G) × (counts ≡ v) → judged off G counts x ≡ accepted v
  unfolding judged
  judged-from x t = rw t.0 (rw (misplaced-same 1 G) (ap accepted t.1))

  pub judged_accepted : (x : Replayed) → ((A : Arrangement) → x ≡ ended A → length A ≡ length G)
      → (judged off G counts x ≡ accepted v) ↔ ((x ≡ ended G) × (counts ≡ v))
  judged_accepted x l = (judged_to x l, judged-from x)

pub judged_refused : (off : ℕ) (G counts : List ℕ) (f j : ℕ) → off ≢ f → (x : Replayed)
    → (judged off G counts x ≡ refused f j) ↔ (x ≡ stopped f j)
unfolding judged
judged_refused off G counts f j d x = (to x, λ e. ap (judged off G counts) e)
  where
    to : (y : Replayed) → judged off G counts y ≡ refused f j → y ≡ stopped f j
    to (stopped g i) e = cc
    to (ended A) e =
        let lowest = misplaced 1 A G in
        let past = refuse-past (not (eqb lowest 0)) off lowest (accepted counts) f j d e in
        absurd (not_both f j counts (sym past.1))
