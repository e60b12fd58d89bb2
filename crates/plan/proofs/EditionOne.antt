-- Plans of edition one are judged as they were before there was another.
--
--     unnamed_fault      a listed move that names no rack has its move's fault
--     replay_unnamed     moves that name no racks are replayed as moves
--     edition_one        the plan checker's answer for such a plan, by its pairs of positions and by zero spare bits
-- Assumes nothing.
use Prim.Native.Nat.{ℕ, suc, ◌*◌}
use mathlib.Core.Path.{◌≡◌, refl, sym, ap, ap₂, ◌∙◌}
use mathlib.Core.Bool.{Bool, true, false, not, cond, ◌||◌}
use mathlib.Core.List.{List, [], ◌∷◌}
use mathlib.Core.Logic.{◌≢◌, ⊎_elim}
use native.Mathlib.Omega.{arith}
use borrow.Author.Tests.{eq-eqb, ne_eqb, lt-ltb, eqb-true}
use lib.Dec.{eqb, ltb}
use Rattle.answers.specs.Answer.{Answer, refuse, pass_up}
use Rattle.field.specs.Bits.{field, pairs}
use Rattle.field.specs.Listed.{move_size, moves_of, listed_moves, ListedFit, none₃, more₃}
use Rattle.field.specs.Units.{misfits, pad_set, unclean}
use Rattle.field.proofs.ListedLaws.{listed_fit, moves-pairs}
use Rattle.order.specs.Floor.{Floor}
use Rattle.order.specs.Order.{order_answer, floor_of, starts_of, goals_of}
use Rattle.motion.specs.Arrangement.{Arrangement, rack_at}
use Rattle.motion.specs.Move.{move_fault, misnamed, listed_fault, after_move, after_listed}
use Rattle.motion.specs.Replay.{Replayed, stopped, replay_from, replay_moves, replay_listed}
use Rattle.motion.specs.Judgement.{judged}
use Rattle.motion.proofs.Test.{equal?}
use Rattle.plan.specs.Plan.{named, move_count, plan_listed, plan_units, wrong_plan_length, plan_padding_set, plan_answer}

pub unnamed_fault : (F : Floor) (A : Arrangement) (w : ℕ × ℕ × ℕ) → w.2 ≡ 0 → listed_fault F A w ≡ move_fault F A (w.0, w.1)
unfolding listed_fault misnamed
unnamed_fault F A w e =
    let f = move_fault F A (w.0, w.1) in
    ⊎_elim
    (λ (z : f ≡ 0). rw (eq-eqb w.2 0 e, eq-eqb f 0 z) (sym z))
    (λ (d : f ≢ 0). rw (ne_eqb f 0 d) refl)
    (equal? f 0)

replay_from_lem : (F : Floor) (i : ℕ) (A : Arrangement) {l : List (ℕ × ℕ × ℕ)} → ListedFit false l
    → replay_from (listed_fault F) after_listed i A l ≡ replay_from (move_fault F) after_move i A (moves_of l)
unfolding replay_from moves_of after_listed
replay_from_lem F i A none₃ = refl
replay_from_lem F i A (more₃ {w = w} a b r f) =
    rw (unnamed_fault F A w r, replay_from_lem F (suc i) (after_move A (w.0, w.1)) f) refl

pub replay_unnamed : (F : Floor) (A : Arrangement) {l : List (ℕ × ℕ × ℕ)} → ListedFit false l
    → replay_listed F A l ≡ replay_moves F A (moves_of l)
unfolding replay_listed replay_moves
replay_unnamed F A f = replay_from_lem F 1 A f

-- spare bits other than 01 are set where they are not 00
spare_tests : (x : ℕ) → eqb x 1 ≡ false → ltb 1 x ≡ not (eqb x 0)
spare_tests x e =
    ⊎_elim
    (λ (z : x ≡ 0). rw z refl)
    (λ (d : x ≢ 0). lt-ltb 1 x (omega (arith, other)) ∙ rw (ne_eqb x 0 d) refl)
    (equal? x 0)
  where
    other : x ≢ 1
    other z = let t : true ≡ false = sym (eq-eqb x 1 z) ∙ e in absurd (let q : ◌≡◌ {A = ℕ} 0 1 = cc in omega arith)

module _ (o p : List ℕ) (one : named p ≡ false) where
  -- document 01's answer, word for word what it was
  pub edition_one : plan_answer o p
      ≡ pass_up (order_answer o)
      (refuse (misfits p (2 * move_count p)) 30 0
      (refuse (unclean p (2 * move_count p)) 31 0
      (judged 33 (goals_of o) (move_count p ∷ []) (replay_moves (floor_of o) (starts_of o) (pairs p 24 (move_count p))))))
  unfolding plan_answer wrong_plan_length plan_padding_set plan_units plan_listed move_size unclean
  edition_one =
      let k = move_count p in
      let spare : ltb 1 (field p 22 2) ≡ not (eqb (field p 22 2) 0) = spare_tests (field p 22 2) (unfold named in one) in
      let replayed : replay_listed (floor_of o) (starts_of o) (listed_moves false p 24 k)
      ≡ replay_moves (floor_of o) (starts_of o) (pairs p 24 k) =
      replay_unnamed (floor_of o) (starts_of o) (listed_fit false p 24 k) ∙ ap (replay_moves (floor_of o) (starts_of o))
      (moves-pairs p 24 k) in
      rw (one, spare, replayed) refl
