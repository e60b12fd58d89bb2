-- The steps read off the windows are those that the making rule makes.
--
--     Entered t i p k x  the entry of position x .0 in row i is that of the move x, one of the k positions from p on
--     row_iff            the moves of a row are those of its entries
--     row-ascends        they ascend by position left
--     entry_iff          the entry of a position is the move of the step that leaves it, where no two moves of the step leave one position
--     row_made           the moves of a row are those of its step
--     rows_made          and the rows of a window are its steps
--     steps_from-split    the first a steps and those behind them
--     window_made        the steps of a window are those of the made steps
--     windows-made       the steps of the first n windows are as many of the made steps
--     latest-made, latest_rule    the greatest step is that of the rule
--     all_steps-made      the steps of all windows are the made steps
-- Assumes nothing.
use Prim.Native.Nat.{ℕ, zero, suc, ◌+◌, ◌-◌, ◌*◌, ◌/◌, ◌≤◌, ◌<◌, min}
use mathlib.Core.Path.{◌≡◌, refl, sym, ap, ap₂, ◌∙◌, subst}
use mathlib.Core.Logic.{◌≢◌, ◌↔◌, ⊎_elim, dite}
use mathlib.Core.List.Pairwise
use mathlib.Core.List.{List, [], ◌∷◌, ◌++◌, append-nil, Memᴰ}
use native.Mathlib.Omega.{arith}
use native.Mathlib.Nat.{add-zero, suc-add, zero-add}
use native.Mathlib.Bridge.{le_prop}
use native.Mathlib.Decide.{dec_le}
use borrow.Author.Tests.{eq-eqb, ne_eqb}
use lib.ListN.{get_or}
use Rattle.order.specs.Floor.{Floor}
use Rattle.motion.specs.Arrangement.{Arrangement}
use Rattle.motion.proofs.Lawful.{Leads}
use Rattle.motion.specs.Sound.{Sound}
use Rattle.motion.proofs.Test.{equal?}
use Rattle.motion.proofs.ListLaws.{by_member, pairwise_more, pairwise_rel, KeysDiffer}
use Rattle.motion.specs.StepTests.{Ascends}
use Rattle.motion.proofs.StepTestsLaws.{left}
use Rattle.motion.specs.StepOf.{sort}
use Rattle.motion.proofs.StepOfLaws.{sort_iff, sort-ascends, ascending-same}
use Rattle.scheduling.specs.Making.{Timed, timed, greatest, in_step, moves_in, steps_from, made_steps}
use Rattle.scheduling.proofs.Timing.{in_step-same, in_step_other, history, history_greatest}
use Rattle.scheduling.proofs.Made.{steps_made, history_lefts}
use Rattle.window.specs.Rows.{row_from, row_moves, rows}
use Rattle.window.specs.Filling.{Pass, started, pass, empty_window, window_of, latest}
use Rattle.scheduling.specs.Windows.{rows_of, window_steps, windows, all_steps}
use Rattle.scheduling.proofs.Tabled.{entry_of, entry_of-same, entry_of-place, entry_of_step, Agrees, agrees_started, agrees_pass}

-- a move is known by its two positions
same_move : (x y : ℕ × ℕ) → x.0 ≡ y.0 → x.1 ≡ y.1 → x ≡ y
same_move x y e d = λ j. (e j, d j)

-- what a row holds

row_none : (t : List ℕ) (i p k : ℕ) → get_or t (i * 64 + p) 0 ≡ 0 → row_from t i p (suc k) ≡ row_from t i (p + 1) k
unfolding row_from
row_none t i p k z = rw (eq-eqb (get_or t (i * 64 + p) 0) 0 z) refl

row-some : (t : List ℕ) (i p k : ℕ) → get_or t (i * 64 + p) 0 ≢ 0
    → row_from t i p (suc k) ≡ (p, get_or t (i * 64 + p) 0 - 1) ∷ row_from t i (p + 1) k
unfolding row_from
row-some t i p k d = rw (ne_eqb (get_or t (i * 64 + p) 0) 0 d) refl

-- the entry of position x .0 is that of the move x, one of the k positions from p on
pub record Entered (t : List ℕ) (i p k : ℕ) (x : ℕ × ℕ) : Type 0 where
  pub from : p ≤ x.0
  pub below : x.0 < p + k
  pub is : get_or t (i * 64 + x.0) 0 ≡ suc x.1

row_to : (t : List ℕ) (i p k : ℕ) (x : ℕ × ℕ) → Memᴰ x (row_from t i p k) → Entered t i p k x
unfolding row_from
row_to t i p zero x n = absurd (mathlib.Core.List.Memᴰ.not-nil n)
row_to t i p (suc k) x n =
    ⊎_elim
    (λ (z : get_or t (i * 64 + p) 0 ≡ 0). let e = row_to t i (p + 1) k x (rw (row_none t i p k z) at n) in later e)
    (λ (d : get_or t (i * 64 + p) 0 ≢ 0).
    by_member {C = Entered t i p (suc k) x} (rw (row-some t i p k d) at n) (λ e. here d e) (λ n. later (row_to t i (p + 1) k x n)))
    (equal? (get_or t (i * 64 + p) 0) 0)
  where
    later : Entered t i (p + 1) k x → Entered t i p (suc k) x
    later e = record { from = omega (arith, e.from); below = omega (arith, e.below); is = e.is }

    here : get_or t (i * 64 + p) 0 ≢ 0 → x ≡ (p, get_or t (i * 64 + p) 0 - 1) → Entered t i p (suc k) x
    here d e =
        let at : x.0 ≡ p = ap left e in
        let to : x.1 ≡ get_or t (i * 64 + p) 0 - 1 = ap (λ (y : ℕ × ℕ). y.1) e in
        record {
          from = omega arith;
          below = omega arith;
          is = ap (λ (q : ℕ). get_or t (i * 64 + q) 0) at ∙ omega arith;
        }

row_from_lem : (t : List ℕ) (i p k : ℕ) (x : ℕ × ℕ) → Entered t i p k x → Memᴰ x (row_from t i p k)
row_from_lem t i p zero x e = absurd (omega (arith, e.from, e.below))
row_from_lem t i p (suc k) x e =
    ⊎_elim
    (λ (a : x.0 ≡ p).
    let here : get_or t (i * 64 + p) 0 ≡ suc x.1 = ap (λ (q : ℕ). get_or t (i * 64 + q) 0) (sym a) ∙ e.is in
    rw (row-some t i p k (λ z. omega arith)) (mathlib.Core.List.Memᴰ.head (same_move x (p, get_or t (i * 64 + p) 0 - 1) a (omega arith))))
    (λ (a : x.0 ≢ p).
    let rest : Memᴰ x (row_from t i (p + 1) k) =
    row_from_lem t i (p + 1) k x (record { from = omega (arith, e.from); below = omega (arith, e.below); is = e.is }) in
    ⊎_elim (λ (z : get_or t (i * 64 + p) 0 ≡ 0). rw (row_none t i p k z) rest)
    (λ (d : get_or t (i * 64 + p) 0 ≢ 0). rw (row-some t i p k d) (mathlib.Core.List.Memᴰ.tail rest)) (equal? (get_or t (i * 64 + p) 0) 0))
    (equal? x.0 p)

pub row_iff : (t : List ℕ) (i p k : ℕ) (x : ℕ × ℕ) → Memᴰ x (row_from t i p k) ↔ Entered t i p k x
row_iff t i p k x = (row_to t i p k x, row_from_lem t i p k x)

pub row-ascends : (t : List ℕ) (i p k : ℕ) → Ascends (row_from t i p k)
unfolding row_from
row-ascends t i p zero = Pairwise.nil
row-ascends t i p (suc k) =
    ⊎_elim
    (λ (z : get_or t (i * 64 + p) 0 ≡ 0). rw (row_none t i p k z) (row-ascends t i (p + 1) k))
    (λ (d : get_or t (i * 64 + p) 0 ≢ 0).
    rw (row-some t i p k d)
    (pairwise_more (λ x y. le_prop) (λ y n. let e = row_to t i (p + 1) k y n in omega (arith, e.from)) (row-ascends t i (p + 1) k)))
    (equal? (get_or t (i * 64 + p) 0) 0)

-- the entry of a position, and the move of the step that leaves it
pub entry_iff : (l : List Timed) (i : ℕ) (x : ℕ × ℕ) → KeysDiffer left (in_step i l)
    → (entry_of l i x.0 ≡ suc x.1) ↔ Memᴰ x (in_step i l)
unfolding in_step entry_of
entry_iff [] i x d = (λ e. absurd (omega arith), λ n. absurd (mathlib.Core.List.Memᴰ.not-nil n))
entry_iff (t ∷ l) i x d =
    ⊎_elim
    (λ (e : t.step ≡ i).
    let d' : KeysDiffer left (t.move ∷ in_step i l) = subst (KeysDiffer left) (in_step-same i t l e) d in
    ⊎_elim
    (λ (q : t.move.0 ≡ x.0). rw (entry_of-same t l i x.0 e q, in_step-same i t l e) (
      λ v. mathlib.Core.List.Memᴰ.head (same_move x t.move (sym q) (omega arith)),
      λ n. by_member n (λ v. let to : x.1 ≡ t.move.1 = ap (λ (y : ℕ × ℕ). y.1) v in omega arith)
          (λ n. absurd (pairwise_rel d' n q)),
    ))
    (λ (q : t.move.0 ≢ x.0).
    let rest = entry_iff l i x (Pairwise.of_cons d') in
    rw (entry_of-place t l i x.0 e q, in_step-same i t l e)
    (λ v. mathlib.Core.List.Memᴰ.tail (rest.0 v), λ n. by_member n (λ v. absurd (q (sym (ap left v)))) (λ n. rest.1 n)))
    (equal? t.move.0 x.0))
    (λ (e : t.step ≢ i). rw (entry_of_step t l i x.0 e, in_step_other i t l e)
    (entry_iff l i x (subst (KeysDiffer left) (in_step_other i t l e) d)))
    (equal? t.step i)

-- the rows of a window
module _ (A : Arrangement) (l : List Timed) (first : ℕ) (P : Pass) (g : Agrees A l first P)
    (differ : (j : ℕ) → 1 ≤ j → KeysDiffer left (in_step j l)) where
  pub row_made : (i : ℕ) → i < 4096 → row_moves P.window i ≡ moves_in (first + suc i) l
  unfolding row_moves moves_in
  row_made i h =
      ascending-same (row_from P.window i 0 64) (sort (in_step (first + suc i) l)) (row-ascends P.window i 0 64)
      (sort-ascends (in_step (first + suc i) l) (differ (first + suc i) (omega arith)))
      (λ x. (to x, from x))
    where
      to : (x : ℕ × ℕ) → Memᴰ x (row_from P.window i 0 64) → Memᴰ x (sort (in_step (first + suc i) l))
      to x n =
          let e = row_to P.window i 0 64 x n in
          let below : x.0 < 64 = omega (arith, e.below) in
          (sort_iff x (in_step (first + suc i) l)).1
          ((entry_iff l (first + suc i) x (differ (first + suc i) (omega arith))).0 (sym (g.entries i x.0 h below) ∙ e.is))

      from : (x : ℕ × ℕ) → Memᴰ x (sort (in_step (first + suc i) l)) → Memᴰ x (row_from P.window i 0 64)
      from x n =
          let k : Memᴰ x (in_step (first + suc i) l) = (sort_iff x (in_step (first + suc i) l)).0 n in
          let below : x.0 < 64 = g.within (first + suc i) x k in
          row_from_lem P.window i 0 64 x
          (record {
            from = omega arith;
            below = omega arith;
            is = g.entries i x.0 h below ∙ (entry_iff l (first + suc i) x (differ (first + suc i) (omega arith))).1 k;
          })

  pub rows_made : (n i : ℕ) → i + n ≤ 4096 → rows P.window i n ≡ steps_from (first + suc i) n l
  unfolding rows steps_from
  rows_made zero i h = refl
  rows_made (suc n) i h =
      let next : first + suc (i + 1) ≡ suc (first + suc i) = omega arith in
      ap₂ (λ (x : List (ℕ × ℕ)) (y : List (List (ℕ × ℕ))). x ∷ y) (row_made i (omega arith))
      (rows_made n (i + 1) (omega arith) ∙ ap (λ (k : ℕ). steps_from k n l) next)

steps_from_none : (i : ℕ) (l : List Timed) → steps_from i 0 l ≡ []
unfolding steps_from
steps_from_none i l = refl

pub steps_from-split : (i a b : ℕ) (l : List Timed) → steps_from i (a + b) l ≡ steps_from i a l ++ steps_from (i + a) b l
unfolding steps_from
steps_from-split i zero b l = let none : 0 + b ≡ b = zero-add b in rw (none, add-zero i) refl
steps_from-split i (suc a) b l =
    let more : suc a + b ≡ suc (a + b) = suc-add a b in
    let on : suc i + a ≡ i + suc a = omega arith in
    rw (more, steps_from-split (suc i) a b l, on) refl

-- a plan
module _ (F : Floor) (few : F.positions ≤ 64) {A B : Arrangement} {ms : List (ℕ × ℕ)} (sound : Sound F.positions A)
    (leads : Leads F A ms B) where
  agreed : (first : ℕ) → Agrees B (history A ms) first (pass first (started empty_window) ms)
  agreed first = agrees_pass F few first (started empty_window) sound leads (agrees_started A first)

  differ : (j : ℕ) → 1 ≤ j → KeysDiffer left (in_step j (history A ms))
  differ zero h = absurd (omega arith)
  differ (suc j) h = history_lefts F sound leads j

  pub latest-made : latest ms ≡ greatest (history A ms)
  unfolding latest
  latest-made = (agreed 0).greatest_is

  pub window_made : (first : ℕ) → window_steps ms first ≡ steps_from (first + 1) (rows_of (latest ms) first) (history A ms)
  unfolding window_steps window_of rows_of
  window_made first =
      rows_made B (history A ms) first (pass first (started empty_window) ms) (agreed first) differ (min (latest ms - first) 4096) 0
      (omega arith)

  pub windows-made : (n : ℕ) → windows ms n ≡ steps_from 1 (min (latest ms) (4096 * n)) (history A ms)
  unfolding windows rows_of
  windows-made zero = let none : min (latest ms) (4096 * 0) ≡ 0 = omega arith in rw none (sym (steps_from_none 1 (history A ms)))
  windows-made (suc n) =
      ap₂ ◌++◌ (windows-made n) (window_made (4096 * n))
      ∙ dite (dec_le (4096 * n) (latest ms)) full past
    where
      full : 4096 * n ≤ latest ms
          →
          steps_from 1 (min (latest ms) (4096 * n)) (history A ms) ++ steps_from (4096 * n + 1)
          (rows_of (latest ms) (4096 * n)) (history A ms)
          ≡ steps_from 1 (min (latest ms) (4096 * suc n)) (history A ms)
      full h =
          let here : min (latest ms) (4096 * n) ≡ 4096 * n = omega arith in
          let start : 4096 * n + 1 ≡ 1 + 4096 * n = omega arith in
          let count : 4096 * n + rows_of (latest ms) (4096 * n) ≡ min (latest ms) (4096 * suc n) = omega arith in
          rw (here, start)
          (sym (steps_from-split 1 (4096 * n) (rows_of (latest ms) (4096 * n)) (history A ms))
          ∙ ap (λ (k : ℕ). steps_from 1 k (history A ms)) count)

      past : (4096 * n ≤ latest ms → ⊥)
          →
          steps_from 1 (min (latest ms) (4096 * n)) (history A ms) ++ steps_from (4096 * n + 1)
          (rows_of (latest ms) (4096 * n)) (history A ms)
          ≡ steps_from 1 (min (latest ms) (4096 * suc n)) (history A ms)
      past h =
          let none : rows_of (latest ms) (4096 * n) ≡ 0 = omega arith in
          let same : min (latest ms) (4096 * n) ≡ min (latest ms) (4096 * suc n) = omega arith in
          rw (none, same, steps_from_none (4096 * n + 1) (history A ms)) (append-nil _)

  pub all_steps-made : all_steps ms ≡ made_steps A ms
  unfolding all_steps
  all_steps-made =
      let all : min (latest ms) (4096 * (latest ms / 4096 + 1)) ≡ latest ms = omega arith in
      windows-made (latest ms / 4096 + 1)
      ∙ ap (λ (k : ℕ). steps_from 1 k (history A ms)) (all ∙ latest-made)
      ∙ sym (steps_made F sound leads)

  pub latest_rule : latest ms ≡ greatest (timed A [] ms)
  latest_rule = latest-made ∙ history_greatest A ms
