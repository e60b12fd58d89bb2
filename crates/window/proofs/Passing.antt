-- The loop of a pass: what is left to pass decides the pass at the end.
--
--     note_early, note_late, note_in     what `note` does, by the step
--     note_outside                       a step that the window does not have
--     ToPass s e from end first row₀ w₀ row w g d j    with the moves before move j passed, of those of the tail s in the edition e from
--                                        move `from` to move `end`, begun with row₀ and w₀: the row, the window w, the greatest step g, and
--                                        d, before which no step behind the window comes
--     pass-next, pass_last               how that goes on
--     turn_few                           nor is a turn above what j moves give
-- Assumes nothing.
use Prim.Native.Nat.{ℕ, ◌+◌, ◌-◌, ◌*◌, ◌/◌, ◌≤◌, ◌<◌, max}
use mathlib.Core.Path.{◌≡◌, refl, sym, ap, ◌∙◌}
use mathlib.Core.Bool.{Bool}
use mathlib.Core.List.{List, ◌∷◌}
use mathlib.Core.Logic.{dite}
use native.Mathlib.Omega.{arith}
use native.Mathlib.Decide.{dec_lt}
use native.Mathlib.Nat.{le_refl}
use borrow.Author.Tests.{lt-ltb, le-ltb}
use lib.ListN.{length, get_or, set, take, drop, length-set}
use lib.Seq.{take-set-le, take-set-lt, drop-set-add, drop-set-lt, get_or-take, get_or-drop}
use Rattle.field.specs.Bits.{field}
use Rattle.field.specs.Listed.{move_size, listed_moves, moves_of, moves_at}
use Rattle.field.proofs.ListedLaws.{moves_next}
use Rattle.window.specs.Filling.{turn_number, turn_by, noted, passed, pass, pass_in, Early, Due, due_none, due_more, PassMade}
use Rattle.motion.specs.LegalStep.{longest_train}
use Rattle.window.proofs.FillingLaws.{early_passed}

module _ (first : ℕ) (w : List ℕ) (t a b : ℕ) where
  pub note_early : t ≤ first → w ≡ noted first w t a b
  unfolding noted
  note_early h = rw (le-ltb first t h) refl

  pub note_in : (r : ℕ) → r ≡ t - 1 - first → first < t → r < 4096 → set w (r * 64 + a) (b + 1) ≡ noted first w t a b
  unfolding noted
  note_in r e h k = rw (lt-ltb first t h, ← e, lt-ltb r 4096 k) refl

  pub note_late : (r : ℕ) → r ≡ t - 1 - first → first < t → 4096 ≤ r → w ≡ noted first w t a b
  unfolding noted
  note_late r e h k = rw (lt-ltb first t h, ← e, le-ltb r 4096 k) refl

-- a step that the window does not have
pub note_outside : (first : ℕ) (w : List ℕ) (t a b : ℕ) → (first < t → first + 4096 < t) → w ≡ noted first w t a b
note_outside first w t a b h =
    dite (dec_lt first t) (λ l. note_late first w t a b (t - 1 - first) refl l (omega (arith, h l)))
    (λ l. note_early first w t a b (omega arith))

-- a row with one more move
row_turn : (row : List ℕ) (a b : ℕ) → a < 64
    → max (longest_train * (get_or row a 0 + 1)) (get_or row (64 + b) 0 + 1) ≡ turn_by (take 64 row) (drop 64 row) a b
unfolding turn_by
row_turn row a b h = rw (get_or-take 64 row a 0 h, get_or-drop 64 row b 0) refl

row_arrived : (row : List ℕ) (a b t u : ℕ) → b < 64 → take 64 (set (set row b t) (64 + a) u) ≡ set (take 64 row) b t
row_arrived row a b t u h = take-set-le 64 (set row b t) (64 + a) u (omega arith) ∙ take-set-lt 64 row b t h

row-left : (row : List ℕ) (a b t u : ℕ) → b < 64 → drop 64 (set (set row b t) (64 + a) u) ≡ set (drop 64 row) a u
row-left row a b t u h = drop-set-add 64 (set row b t) a u ∙ ap (λ (l : List ℕ). set l a u) (drop-set-lt 64 row b t (omega arith))

module _ (s : List ℕ) (e : Bool) (from end first : ℕ) (row₀ w₀ : List ℕ) where
  -- with the moves before move j passed; d is the least step behind the window so far
  pub record ToPass (row w : List ℕ) (g d j : ℕ) : Type 0 where
    pub to_do : pass first (pass_in row w g) (moves_at e s (6 * (move_size e * j)) (end - j))
        ≡ pass first (pass_in row₀ w₀ 0) (moves_at e s (6 * (move_size e * from)) (end - from))
    pub due : (x : ℕ) → x ≤ d → Due (first + 4096) x (take 64 row) (drop 64 row) (moves_at e s (6 * (move_size e * j)) (end - j))
        → Due (first + 4096) x (take 64 row₀) (drop 64 row₀) (moves_at e s (6 * (move_size e * from)) (end - from))
    pub early : Early j (pass_in row w g)
    pub size : length row ≡ length row₀

  module _ (row w : List ℕ) (g d j : ℕ) (p : ToPass row w g d j) (h : j < end) (a b : ℕ) (ea : a ≡ field s (6 * (move_size e * j)) 6)
      (eb : b ≡ field s (6 * (move_size e * j) + 6) 6) (ha : a < 64) (hb : b < 64) where
    next : (a, b) ∷ moves_at e s (6 * (move_size e * (j + 1))) (end - (j + 1)) ≡ moves_at e s (6 * (move_size e * j)) (end - j)
    next = rw (ea, eb) (sym (moves_next e s j end h))

    module _ (u : ℕ) (eu : u ≡ max (longest_train * (get_or row a 0 + 1)) (get_or row (64 + b) 0 + 1)) where
      turn : u ≡ turn_by (take 64 row) (drop 64 row) a b
      turn = eu ∙ row_turn row a b ha

      more : pass_in (set (set row b (u / longest_train)) (64 + a) u) (noted first w (u / longest_train) a b) (max g (u / longest_train))
          ≡ passed first (pass_in row w g) (a, b)
      unfolding pass_in passed
      more = rw (row_arrived row a b (u / longest_train) u hb, row-left row a b (u / longest_train) u hb, turn) refl

      due_next : (x : ℕ) → (first + 4096 < u / longest_train → x ≤ u / longest_train)
          → Due (first + 4096) x (take 64 (set (set row b (u / longest_train)) (64 + a) u))
          (drop 64 (set (set row b (u / longest_train)) (64 + a) u)) (moves_at e s (6 * (move_size e * (j + 1))) (end - (j + 1)))
          → Due (first + 4096) x (take 64 row) (drop 64 row) (moves_at e s (6 * (move_size e * j)) (end - j))
      due_next x behind rest =
          let here = rw (row_arrived row a b (u / longest_train) u hb, row-left row a b (u / longest_train) u hb) at rest in
          rw (← next) (due_more u turn behind here)

      pub pass-next : (w' : List ℕ) → w' ≡ noted first w (u / longest_train) a b → (g' : ℕ) → g' ≡ max g (u / longest_train) → (d' : ℕ)
          → d' ≤ d → (first + 4096 < u / longest_train → d' ≤ u / longest_train)
          → ToPass (set (set row b (u / longest_train)) (64 + a) u) w' g' d' (j + 1)
      unfolding pass
      pass-next w' ew g' eg d' ed behind =
          rw (ew, eg)
          (record {
            to_do = rw more (ap (pass first (pass_in row w g)) next ∙ p.to_do);
            due = λ x l rest. p.due x (omega arith) (due_next x (λ k. omega (arith, behind k)) rest);
            early = rw more (early_passed first j (pass_in row w g) p.early (a, b));
            size = length-set (set row b (u / longest_train)) (64 + a) u ∙ length-set row b (u / longest_train) ∙ p.size;
          })

  -- a turn is at most the eighth place of the step behind those passed
  pub turn_few : {row w : List ℕ} {g d j : ℕ} → ToPass row w g d j → (a b : ℕ) → a < 64
      → max (longest_train * (get_or row a 0 + 1)) (get_or row (64 + b) 0 + 1) ≤ 8 * j + 8
  unfolding pass_in turn_number
  turn_few {row} p a b h =
      omega (arith, p.early.arrivals a, p.early.leavings b, get_or-take 64 row a 0 h, get_or-drop 64 row b 0)

  pub pass_last : (row w : List ℕ) (g d j : ℕ) → ToPass row w g d j → end ≤ j
      → PassMade first row₀ w₀ (moves_at e s (6 * (move_size e * from)) (end - from)) g d row w
  unfolding pass moves_at moves_of listed_moves
  pass_last row w g d j p h =
      let none : end - j ≡ 0 = omega arith in
      record { pass_is = rw none at p.to_do; due_is = p.due d (le_refl d) (rw none due_none); size = p.size }
