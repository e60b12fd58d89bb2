-- Laws of stretches, of rows in a book, and of a pass that goes on behind earlier moves.
--
--     end_few, end_next, end_grows, end_all    where stretches end: no later than the plan, and the last one with it
--     moves-split                   moves read in two parts
--     before_none, before-next, before-all     the moves before the first stretch, before the next one, and before the end
--     room_few                      room for k moves is room for fewer
--     row_written, row_kept         the row that is put into a book, and the others
--     GoesOn first ms P             the pass P has the tables after the moves ms, and their window
--     goes_on, goes_on_window, goes_on_latest    over the moves behind them it gives the tables, the window and the greatest step of all
--     after-length, after_early     the tables have 64 entries, and no step in them is above the number of moves
--     due_any, due_later            every step comes at step 0 or later; what is due stays due with more windows filled
--     due_skipped                   moves whose due step lies behind a window leave it as it is
-- Assumes nothing.
use Prim.Native.Nat.{ℕ, zero, suc, ◌+◌, ◌-◌, ◌*◌, ◌/◌, ◌≤◌, ◌<◌, min, max}
use mathlib.Core.Path.{◌≡◌, refl, sym, ap, ◌∙◌}
use mathlib.Core.Bool.{Bool, true, false}
use mathlib.Core.Logic.{◌≢◌}
use mathlib.Core.List.{List, [], ◌∷◌, ◌++◌}
use native.Mathlib.Omega.{arith}
use native.Mathlib.Nat.{zero-add, zero-mul, suc-mul, lt-mul-div-succ}
use native.Mathlib.Numerals.{add-one}
use lib.ListN.{length, set, take, drop, length-set, length-replicate}
use lib.Seq.{get_or-set_same, get_or-set_other}
use Rattle.field.specs.Listed.{move_size, listed_moves, moves_of, moves_at}
use Rattle.field.proofs.ListedLaws.{size_none, size-next}
use Rattle.motion.specs.LegalStep.{longest_train}
use Rattle.window.specs.Filling.{Pass, started, passed, pass, Early, Due, due_none, due_more, empty_window, window_of, latest, turn_by}
use Rattle.passing.specs.Stretches.{stretch_end, before, stretch, RowIn, after}
use Rattle.window.proofs.FillingLaws.{early_started, early_pass, Same, same-pass, same_window, pass_append}
use Rattle.window.proofs.Passing.{note_outside}

module _ (k n : ℕ) where
  pub end_few : (i : ℕ) → stretch_end k n i ≤ k
  unfolding stretch_end
  end_few zero = omega arith
  end_few (suc i) = omega arith

  pub end_next : (i : ℕ) → stretch_end k n (i + 1) ≡ min (stretch_end k n i + (k / n + 1)) k
  unfolding stretch_end
  end_next i = rw (add-one i) refl

  pub end_grows : (i : ℕ) → stretch_end k n i ≤ stretch_end k n (i + 1)
  end_grows i = omega (arith, end_next i, end_few i)

  end_is : (i : ℕ) → stretch_end k n i ≡ min (i * (k / n + 1)) k
  unfolding stretch_end
  end_is zero = omega (arith, zero-mul (k / n + 1))
  end_is (suc i) = omega (arith, end_is i, suc-mul i (k / n + 1))

  pub end_all : 0 < n → stretch_end k n n ≡ k
  end_all h = omega (arith, end_is n, lt-mul-div-succ k h)

pub moves-split : (e : Bool) (s : List ℕ) (i j l : ℕ) → moves_at e s i (j + l) ≡ moves_at e s i j ++ moves_at e s
    (i + 6 * (move_size e * j)) l
unfolding moves_at moves_of listed_moves
moves-split e s i zero l =
    let none : 0 + l ≡ l = zero-add l in
    let here : i + 6 * (move_size e * 0) ≡ i = omega (arith, size_none e) in
    rw (none, here) refl
moves-split e s i (suc j) l =
    let more : suc j + l ≡ suc (j + l) = omega arith in
    let next : suc j ≡ j + 1 = omega arith in
    let on : i + 6 * move_size e + 6 * (move_size e * j) ≡ i + 6 * (move_size e * (j + 1)) = omega (arith, size-next e j) in
    rw (more, moves-split e s (i + 6 * move_size e) j l, on, next) refl

pub room_few : (e : Bool) (j k n : ℕ) → j ≤ k → 6 * (move_size e * k) ≤ n → 6 * (move_size e * j) ≤ n
unfolding move_size
room_few false j k n l h = omega arith
room_few true j k n l h = omega arith

module _ (e : Bool) (s : List ℕ) (k n : ℕ) where
  pub before_none : before e s k n 0 ≡ []
  unfolding before stretch_end moves_at moves_of listed_moves
  before_none = refl

  pub before-next : (i : ℕ) → before e s k n (i + 1) ≡ before e s k n i ++ stretch e s k n i
  unfolding before stretch
  before-next i =
      let end = stretch_end k n i in
      let all : stretch_end k n (i + 1) ≡ end + (stretch_end k n (i + 1) - end) = omega (arith, end_grows k n i) in
      ap (moves_at e s 0) all
      ∙ moves-split e s 0 end (stretch_end k n (i + 1) - end)
      ∙ ap (λ (x : ℕ). moves_at e s 0 end ++ moves_at e s x (stretch_end k n (i + 1) - end)) (zero-add (6 * (move_size e * end)))

  pub before-all : 0 < n → before e s k n n ≡ moves_at e s 0 k
  unfolding before
  before-all h = ap (moves_at e s 0) (end_all k n h)

-- rows of a book
module _ (b : List (List ℕ)) (i : ℕ) (row : List ℕ) where
  pub row_written : (P : Pass) → i < length b → take 64 row ≡ P.arrived → drop 64 row ≡ P.left → RowIn (set b i row) i P
  row_written P h x y =
      let same = get_or-set_same b i row [] h in
      record { arrivals = rw same x; leavings = rw same y }

  pub row_kept : (j : ℕ) (P : Pass) → j ≢ i → RowIn b j P → RowIn (set b i row) j P
  row_kept j P d r =
      let same = get_or-set_other b i j row [] d in
      record { arrivals = rw same r.arrivals; leavings = rw same r.leavings }

-- a pass that goes on

tables-length : (f : ℕ) (P : Pass) (ms : List (ℕ × ℕ))
    → (length (pass f P ms).arrived ≡ length P.arrived) × (length (pass f P ms).left ≡ length P.left)
unfolding pass
tables-length f P [] = (refl, refl)
tables-length f P (m ∷ ms) =
    let rest = tables-length f (passed f P m) ms in
    (rest.0 ∙ unfold passed in length-set P.arrived m.1 _, rest.1 ∙ unfold passed in length-set P.left m.0 _)

pub after-length : (ms : List (ℕ × ℕ)) → (length (after ms).arrived ≡ 64) × (length (after ms).left ≡ 64)
unfolding after started
after-length ms =
    let all = tables-length 0 (started empty_window) ms in
    (all.0 ∙ length-replicate {A = ℕ} 64 0, all.1 ∙ length-replicate {A = ℕ} 64 0)

pub after_early : (ms : List (ℕ × ℕ)) → Early (length ms) (after ms)
unfolding after
after_early ms = rw (← zero-add (length ms)) (early_pass 0 0 (started empty_window) (early_started empty_window) ms)

pub record GoesOn (first : ℕ) (ms : List (ℕ × ℕ)) (P : Pass) : Type 0 where
  pub arrivals : (after ms).arrived ≡ P.arrived
  pub leavings : (after ms).left ≡ P.left
  pub entries : window_of ms first ≡ P.window
  pub none : P.greatest ≡ 0

module _ (first : ℕ) (ms : List (ℕ × ℕ)) (P : Pass) (g : GoesOn first ms P) (l : List (ℕ × ℕ)) where
  pub goes_on : Same (latest ms) (after (ms ++ l)) (pass first P l)
  unfolding after latest
  goes_on =
      rw (pass_append 0 (started empty_window) ms l)
      (same-pass (latest ms) 0 first (pass 0 (started empty_window) ms) P l
      (record { arrivals = g.arrivals; leavings = g.leavings; most = omega (arith, g.none) }))

  pub goes_on_window : window_of (ms ++ l) first ≡ (pass first P l).window
  unfolding window_of after
  goes_on_window =
      let none : Pass = started empty_window in
      let same : Same 0 (pass first none ms) (pass 0 none ms) =
      same-pass 0 first 0 none none ms (record { arrivals = refl; leavings = refl; most = omega arith }) in
      ap (λ (Q : Pass). Q.window) (pass_append first none ms l)
      ∙ same_window first (pass first none ms) P l (same.arrivals ∙ g.arrivals) (same.leavings ∙ g.leavings) g.entries

  pub goes_on_latest : latest (ms ++ l) ≡ max (latest ms) (pass first P l).greatest
  unfolding after latest
  goes_on_latest = goes_on.most

-- due steps

pub due_any : (last : ℕ) (x y : List ℕ) (ms : List (ℕ × ℕ)) → Due last 0 x y ms
due_any last x y [] = due_none
due_any last x y (m ∷ ms) =
    let turn = turn_by x y m.0 m.1 in
    due_more {x = x} {y = y} {m = m} turn refl (λ h. omega arith) (due_any last (set x m.1 (turn / longest_train)) (set y m.0 turn) ms)

pub due_later : (last last' d : ℕ) → last ≤ last' → {x y : List ℕ} {ms : List (ℕ × ℕ)} → Due last d x y ms → Due last' d x y ms
due_later last last' d l due_none = due_none
due_later last last' d l (due_more turn e h rest) = due_more turn e (λ k. h (omega arith)) (due_later last last' d l rest)

pub due_skipped : (first d : ℕ) → first + 4096 < d → {x y : List ℕ} {ms : List (ℕ × ℕ)} → Due first d x y ms → (P : Pass)
    → P.arrived ≡ x → P.left ≡ y → (pass first P ms).window ≡ P.window
unfolding pass
due_skipped first d l due_none P a b = refl
due_skipped first d l (due_more {m = m} turn e h rest) P a b =
    let here : P.window ≡ (passed first P m).window =
    unfold passed in rw (a, b, ← e) (note_outside first P.window (turn / longest_train) m.0 m.1 (λ k. omega (arith, h k))) in
    due_skipped first d l rest (passed first P m) (unfold passed in rw (a, b, ← e) refl) (unfold passed in rw (a, b, ← e) refl) ∙ sym here
