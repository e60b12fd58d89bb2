-- Where no move would be ninth in its chain, the making rule is document 01's alone: such timetables are those that were made before the
-- cap, byte for byte.
--
--     plain_turn l r m      a move's step, and its place in its chain, by document 01's rule alone
--     plainly A l ms       the moves ms so timed, from the arrangement A that the earlier moves l left
--     Short ts             no place among the timed moves ts is above the longest train's
--     plainly-same         where that is so, each move has the same step with the cap
--     made-plainly         so the steps made are those of document 01's rule
--     case_1_short, case_1_plainly    it is so of case 1's plan
-- Assumes nothing.
use Prim.Native.Nat.{ℕ, ◌≤◌}
use mathlib.Core.Path.{◌≡◌, refl, sym, ◌∙◌, ap}
use mathlib.Core.List.{List, [], ◌∷◌}
use lib.Dec.{lit≤}
use borrow.Author.Tests.{le-ltb}
use Rattle.motion.specs.LegalStep.{longest_train}
use Rattle.motion.specs.Arrangement.{Arrangement, rack_from, rack_at}
use Rattle.motion.specs.Move.{goes_to, after, after_move}
use Rattle.motion.proofs.Inhabited.{starts, plan}
use Rattle.scheduling.specs.Making.{Timed, of_rack, of_leaving, place_leaving, step_after, place_after, turn_after, turn_for, timed}
use Rattle.scheduling.specs.Making.{greatest, steps_from, made_steps}

unfoldable pub plain_turn : List Timed → ℕ → ℕ × ℕ → ℕ × ℕ
plain_turn l r m =
    let x = of_rack l r in
    let y = of_leaving l m.1 in
    (step_after x y, place_after x y (place_leaving l m.1))

unfoldable pub plainly : Arrangement → List Timed → List (ℕ × ℕ) → List Timed
plainly A l [] = []
plainly A l (m ∷ ms) =
    let turn = plain_turn l (rack_at A m.0) m in
    let t : Timed = record { rack = rack_at A m.0; move = m; step = turn.0; place = turn.1 } in
    t ∷ plainly (after_move A m) (t ∷ l) ms

pub data Short : List Timed → Type 0 where
  none : Short []
  more : {t : Timed} {ts : List Timed} → t.place ≤ longest_train → Short ts → Short (t ∷ ts)

-- a place that a train has is not shifted
unshifted : (x y z : ℕ) → place_after x y z ≤ longest_train → turn_after x y z ≡ (step_after x y, place_after x y z)
unfolding turn_after
unshifted x y z h = rw (le-ltb longest_train (place_after x y z) h)

pub plainly-same : (A : Arrangement) (l : List Timed) (ms : List (ℕ × ℕ)) → Short (plainly A l ms) → plainly A l ms ≡ timed A l ms
unfolding plainly plain_turn timed turn_for
plainly-same A l [] s = refl
plainly-same A l (m ∷ ms) (more h s) =
    let r = rack_at A m.0 in
    let t : ℕ × ℕ → Timed = λ turn. record { rack = r; move = m; step = turn.0; place = turn.1 } in
    let x = of_rack l r in
    let y = of_leaving l m.1 in
    let z = place_leaving l m.1 in
    ap (λ (ts : List Timed). t (step_after x y, place_after x y z) ∷ ts)
    (plainly-same (after_move A m) (t (step_after x y, place_after x y z) ∷ l) ms s)
    ∙ ap (λ (turn : ℕ × ℕ). t turn ∷ timed (after_move A m) (t turn ∷ l) ms) (sym (unshifted x y z h))

pub made-plainly : (A : Arrangement) (ms : List (ℕ × ℕ)) → Short (plainly A [] ms)
    → made_steps A ms ≡ steps_from 1 (greatest (plainly A [] ms)) (plainly A [] ms)
unfolding made_steps
made-plainly A ms s = ap (λ (l : List Timed). steps_from 1 (greatest l) l) (sym (plainly-same A [] ms s))

pub case_1_short : Short (plainly starts [] plan)
unfolding plainly plain_turn step_after place_after of_rack of_leaving place_leaving rack_at rack_from after_move after goes_to
case_1_short = more (lit≤ tt) (more (lit≤ tt) (more (lit≤ tt) (more (lit≤ tt) none)))

pub case_1_plainly : plainly starts [] plan ≡ timed starts [] plan
case_1_plainly = plainly-same starts [] plan case_1_short
