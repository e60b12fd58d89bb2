-- Laws of a pass over any moves: no step is above the number of moves so far, and the window's entries are positions.
--
--     set_most                a table whose entries are at most b, with one more entry of at most b
--     early_started, early_passed, early_pass    where no step is above j, none is, with each move, above one more
--     latest_few, latest-some   so there are at most as many steps as moves; where there are moves there is a step
--     entries-empty, entries-pass              every entry of the window is a position, plus 1, or 0
--     empty_is                a window of zeros is empty
--     Same h P Q              the passes P and Q have the same tables, and the greatest step of P is that of Q or h
--     same-pass               so they have after the same moves, whatever their windows
--     same_window             with the same window too, and of the same steps, it stays the same
--     pass_append             a pass over moves and the moves behind them
--     begun, early_begun, first-pass    empty tables are those of a pass that begins, so that the pass over a whole plan finds its
--                             greatest step
-- Assumes nothing.
use Prim.Native.Nat.{ℕ, zero, suc, ◌+◌, ◌-◌, ◌*◌, ◌/◌, ◌≤◌, ◌<◌, max}
use mathlib.Core.Path.{◌≡◌, refl, ap, ◌∙◌}
use mathlib.Core.Bool.{Bool}
use mathlib.Core.List.{List, [], ◌∷◌, ◌++◌}
use native.Mathlib.Omega.{arith}
use native.Mathlib.Nat.{add-zero, le_refl}
use lib.ListN.{length, get_or, set, replicate}
use lib.Dec.{ltb}
use Rattle.field.specs.Bytes.{BelowPairs, none₂, more₂}
use Rattle.field.specs.Listed.{move_size, moves_at}
use Rattle.motion.proofs.Test.{cond_either}
use Rattle.tables.proofs.TableLaws.{zeros_at}
use Rattle.window.specs.Rows.{EntriesFit}
use Rattle.motion.specs.LegalStep.{longest_train}
use Rattle.window.specs.Filling.{Pass, started, turn_number, turn_by, noted, passed, pass, pass_in, Early, PassMade}
use Rattle.window.specs.Filling.{empty_window, latest}

pub set_most : (b : ℕ) (l : List ℕ) (i v : ℕ) → ((p : ℕ) → get_or l p 0 ≤ b) → v ≤ b → (p : ℕ) → get_or (set l i v) p 0 ≤ b
set_most b [] i v h k p = h p
set_most b (x ∷ l) zero v h k zero = k
set_most b (x ∷ l) zero v h k (suc p) = h (suc p)
set_most b (x ∷ l) (suc i) v h k zero = h 0
set_most b (x ∷ l) (suc i) v h k (suc p) = set_most b l i v (λ q. h (suc q)) k p

pub early_started : (w : List ℕ) → Early 0 (started w)
unfolding started
early_started w = record { arrivals = λ p. omega (arith, zeros_at 64 p); leavings = λ p. omega (arith, zeros_at 64 p); most = omega arith }

turn_early : (j : ℕ) (P : Pass) → Early j P → (a b : ℕ) → turn_by P.arrived P.left a b ≤ turn_number (j + 1) 1
unfolding turn_by turn_number
turn_early j P e a b = omega (arith, e.arrivals a, e.leavings b)

pub early_passed : (first j : ℕ) (P : Pass) → Early j P → (m : ℕ × ℕ) → Early (j + 1) (passed first P m)
unfolding passed turn_number
early_passed first j P e m =
    let turn : ℕ = turn_by P.arrived P.left m.0 m.1 in
    let soon : turn ≤ turn_number (j + 1) 1 = turn_early j P e m.0 m.1 in
    let step : turn / longest_train ≤ j + 1 = omega arith in
    record {
      arrivals = set_most (j + 1) P.arrived m.1 (turn / longest_train) (λ p. omega (arith, e.arrivals p)) step;
      leavings = set_most (turn_number (j + 1) longest_train) P.left m.0 turn (λ p. omega (arith, e.leavings p)) (omega arith);
      most = omega (arith, e.most);
    }

pub early_pass : (first j : ℕ) (P : Pass) → Early j P → (ms : List (ℕ × ℕ)) → Early (j + length ms) (pass first P ms)
unfolding pass
early_pass first j P e [] = rw (add-zero j) e
early_pass first j P e (m ∷ ms) =
    let more : j + suc (length ms) ≡ j + 1 + length ms = omega arith in
    rw more (early_pass first (j + 1) (passed first P m) (early_passed first j P e m) ms)

-- the window's entries

noted_fit : (first : ℕ) (w : List ℕ) (t a b : ℕ) → b < 64 → EntriesFit w → EntriesFit (noted first w t a b)
unfolding noted
noted_fit first w t a b h f =
    let set_fit : EntriesFit (set w ((t - 1 - first) * 64 + a) (b + 1)) =
    record { at_most = set_most 64 w ((t - 1 - first) * 64 + a) (b + 1) f.at_most (omega arith) } in
    cond_either EntriesFit (ltb first t) (cond_either EntriesFit (ltb (t - 1 - first) 4096) set_fit f) f

pub entries-pass : (first : ℕ) (P : Pass) {ms : List (ℕ × ℕ)} → BelowPairs 64 ms → EntriesFit P.window
    → EntriesFit (pass first P ms).window
unfolding pass
entries-pass first P none₂ f = f
entries-pass first P (more₂ {p = m} h k b) f =
    entries-pass first (passed first P m) b
    (unfold passed in noted_fit first P.window (turn_by P.arrived P.left m.0 m.1 / longest_train) m.0 m.1 k f)

pub entries-empty : EntriesFit empty_window
unfolding empty_window
entries-empty = record { at_most = λ i. omega (arith, zeros_at 262144 i) }

pub empty_is : replicate 262144 0 ≡ empty_window
unfolding empty_window
empty_is = refl

-- two passes over the same moves

pub record Same (h : ℕ) (P Q : Pass) : Type 0 where
  pub arrivals : P.arrived ≡ Q.arrived
  pub leavings : P.left ≡ Q.left
  pub most : P.greatest ≡ max h Q.greatest

pub same-pass : (h f g : ℕ) (P Q : Pass) (ms : List (ℕ × ℕ)) → Same h P Q → Same h (pass f P ms) (pass g Q ms)
unfolding pass
same-pass h f g P Q [] e = e
same-pass h f g P Q (m ∷ ms) e =
    same-pass h f g (passed f P m) (passed g Q m) ms
    (record {
      arrivals = unfold passed in rw (e.arrivals, e.leavings) refl;
      leavings = unfold passed in rw (e.arrivals, e.leavings) refl;
      most = unfold passed in rw (e.arrivals, e.leavings) (omega (arith, e.most));
    })

pub same_window : (f : ℕ) (P Q : Pass) (ms : List (ℕ × ℕ)) → P.arrived ≡ Q.arrived → P.left ≡ Q.left → P.window ≡ Q.window
    → (pass f P ms).window ≡ (pass f Q ms).window
unfolding pass
same_window f P Q [] a l w = w
same_window f P Q (m ∷ ms) a l w =
    same_window f (passed f P m) (passed f Q m) ms (unfold passed in rw (a, l) refl) (unfold passed in rw (a, l) refl)
    (unfold passed in rw (a, l, w) refl)

pub pass_append : (f : ℕ) (P : Pass) (a b : List (ℕ × ℕ)) → pass f P (a ++ b) ≡ pass f (pass f P a) b
unfolding pass
pass_append f P [] b = refl
pass_append f P (m ∷ a) b = pass_append f (passed f P m) a b

greatest_grows : (f : ℕ) (P : Pass) (ms : List (ℕ × ℕ)) → P.greatest ≤ (pass f P ms).greatest
unfolding pass passed
greatest_grows f P [] = le_refl P.greatest
greatest_grows f P (m ∷ ms) = omega (arith, greatest_grows f (passed f P m) ms)

pub latest-some : (ms : List (ℕ × ℕ)) → 0 < length ms → 1 ≤ latest ms
unfolding latest pass
latest-some [] h = absurd (omega arith)
latest-some (m ∷ ms) h =
    let P : Pass = passed 0 (started empty_window) m in
    let first : 1 ≤ P.greatest = unfold passed turn_by in omega arith in
    omega (arith, greatest_grows 0 P ms)

pub latest_few : (ms : List (ℕ × ℕ)) → latest ms ≤ length ms
unfolding latest
latest_few ms = omega (arith, (early_pass 0 0 (started empty_window) (early_started empty_window) ms).most)

pub begun : (w : List ℕ) → pass_in (replicate 128 0) w 0 ≡ started w
unfolding pass_in started
begun w = refl

pub early_begun : (w : List ℕ) → Early 0 (pass_in (replicate 128 0) w 0)
early_begun w = rw begun (early_started w)

pub first-pass : (e : Bool) (s : List ℕ) (k g d : ℕ) (row w : List ℕ)
    → PassMade 0 (replicate 128 0) empty_window (moves_at e s (6 * (move_size e * 0)) (k - 0)) g d row w → g ≡ latest (moves_at e s 0 k)
unfolding latest pass_in
first-pass e s k g d row w made =
    let front : 6 * (move_size e * 0) ≡ 0 = omega arith in
    let all : k - 0 ≡ k = omega arith in
    let ms = moves_at e s (6 * (move_size e * 0)) (k - 0) in
    ap (λ (P : Pass). P.greatest) (made.pass_is ∙ ap (λ (P : Pass). pass 0 P ms) (begun empty_window)) ∙ rw (front, all) refl
