-- The loop that passes a plan stretch by stretch: what the book and the due steps tell from one stretch to the next.
--
--     begun_first, kept-first       before the first window
--     Through e s k n first d₀ i from b d w g    with the first i stretches passed or left out, begun with the due steps d₀: where the next
--                                   one begins, the book b, the due steps d, the window w and the greatest step g
--     through_first, through_skip, through_pass, through_last    how that goes on
--     through_early                 the row of the next stretch has no step above the number of moves before it
-- Assumes nothing.
use Prim.Native.Nat.{ℕ, ◌+◌, ◌-◌, ◌*◌, ◌/◌, ◌≤◌, ◌<◌, min, max}
use mathlib.Core.Path.{◌≡◌, refl, sym, ap, ◌∙◌, subst}
use mathlib.Core.Bool.{Bool}
use mathlib.Core.Logic.{by_cases}
use mathlib.Core.List.{List, []}
use native.Mathlib.Omega.{arith}
use native.Mathlib.Decide.{ℕ_discrete}
use native.Mathlib.Nat.{le_refl}
use native.Mathlib.Numerals.{add-one}
use lib.ListN.{length, get_or, set, replicate, length-set, length-replicate}
use lib.Seq.{get_or-set_same, get_or-set_other}
use Rattle.field.specs.Listed.{move_size, moves_at}
use Rattle.field.proofs.ListedLaws.{length-moves}
use Rattle.tables.proofs.TableLaws.{zeros_at}
use Rattle.window.specs.Filling.{Pass, started, pass, pass_in, Early, Due, PassMade, empty_window, window_of, latest}
use Rattle.passing.specs.Stretches.{stretch_end, before, stretch, RowIn, after, Begun, Kept, PlanPassed}
use Rattle.window.proofs.FillingLaws.{Same}
use Rattle.passing.proofs.StretchLaws.{end_next, before_none, before-next, before-all}
use Rattle.passing.proofs.StretchLaws.{row_written, row_kept}
use Rattle.passing.proofs.StretchLaws.{after_early, GoesOn, goes_on, goes_on_window, goes_on_latest}
use Rattle.passing.proofs.StretchLaws.{due_any, due_later, due_skipped}

pub begun_first : (n : ℕ) → Begun (replicate n 0)
begun_first n = record { none = zeros_at n }

module _ (e : Bool) (s : List ℕ) (k n : ℕ) where
  pub kept-first : Kept e s k n 0 (replicate (n + 1) (replicate 128 0)) (replicate n 0)
  kept-first = record {
    rows = length-replicate {A = List ℕ} (n + 1) (replicate 128 0);
    stretches = length-replicate {A = ℕ} n 0;
    start = rw (add-one n) (record { arrivals = unfold after pass started in refl; leavings = unfold after pass started in refl });
    next = λ i h some. absurd (omega (arith, zeros_at n i));
    due = λ i h. rw (zeros_at n i) (due_any 0 _ _ _);
  }

  module _ (first : ℕ) (d₀ : List ℕ) where
    -- what stretch i has due, with the windows up to step `last` filled
    abbrev DueIn : ℕ → ℕ → List ℕ → Type 0
    DueIn last i d = Due last (get_or d i 0) (after (before e s k n i)).arrived (after (before e s k n i)).left (stretch e s k n i)

    pub record Through (i from : ℕ) (b : List (List ℕ)) (d w : List ℕ) (g : ℕ) : Type 0 where
      pub from_is : from ≡ stretch_end k n i
      pub rows : length b ≡ n + 1
      pub stretches : length d ≡ n
      pub start : RowIn b 0 (after [])
      pub here : RowIn b i (after (before e s k n i))
      pub next : (j : ℕ) → j < n → 0 < get_or d j 0 → RowIn b (j + 1) (after (before e s k n (j + 1)))
      pub done : (j : ℕ) → j < i → DueIn (first + 4096) j d
      pub to_come : (j : ℕ) → j < n → i ≤ j → DueIn first j d
      pub window_is : w ≡ window_of (before e s k n i) first
      pub at_most : g ≤ latest (before e s k n i)
      pub at_first : Begun d₀ → (g ≡ latest (before e s k n i)) × ((j : ℕ) → i ≤ j → get_or d j 0 ≡ 0)

    pub through_first : (b : List (List ℕ)) → Kept e s k n first b d₀ → Through 0 0 b d₀ empty_window 0
    through_first b kept = record {
      from_is = unfold stretch_end in refl;
      rows = kept.rows;
      stretches = kept.stretches;
      start = kept.start;
      here = rw (before_none e s k n) kept.start;
      next = kept.next;
      done = λ j h. absurd (omega arith);
      to_come = λ j h l. kept.due j h;
      window_is = rw (before_none e s k n) (unfold window_of pass started in refl);
      at_most = omega arith;
      at_first = λ begun. (rw (before_none e s k n) (unfold latest pass started in refl), λ j h. begun.none j);
    }

    module _ (i from : ℕ) (b : List (List ℕ)) (d w : List ℕ) (g : ℕ) (t : Through i from b d w g) (h : i < n) where
      from_next : min (from + (k / n + 1)) k ≡ stretch_end k n (i + 1)
      from_next = rw t.from_is (sym (end_next k n i))

      -- the pass that stretch i goes on with
      P : Pass
      P = record {
        arrived = (after (before e s k n i)).arrived;
        left = (after (before e s k n i)).left;
        window = w;
        greatest = 0;
      }

      on : GoesOn first (before e s k n i) P
      unfolding P
      on = record { arrivals = refl; leavings = refl; entries = sym t.window_is; none = refl }

      -- the greatest step of more moves is no smaller
      most_next : latest (before e s k n i) ≤ latest (before e s k n (i + 1))
      most_next = rw (before-next e s k n i) (omega (arith, goes_on_latest first (before e s k n i) P on (stretch e s k n i)))

      pub through_skip : first + 4096 < get_or d i 0 → Through (i + 1) (min (from + (k / n + 1)) k) b d w g
      unfolding P
      through_skip l = record {
        from_is = from_next;
        rows = t.rows;
        stretches = t.stretches;
        start = t.start;
        here = t.next i h (omega arith);
        next = t.next;
        done = λ j m.
            by_cases (ℕ_discrete j i)
            (λ z.
            subst (λ (x : ℕ). DueIn (first + 4096) x d) (sym z)
            (due_later first (first + 4096) _ (omega arith) (t.to_come i h (le_refl i))))
            (λ z. t.done j (omega (arith, z)));
        to_come = λ j m l. t.to_come j m (omega arith);
        window_is =
            rw (before-next e s k n i)
            (sym (goes_on_window first (before e s k n i) P on (stretch e s k n i)
            ∙ due_skipped first (get_or d i 0) l (t.to_come i h (le_refl i)) P refl refl));
        at_most = omega (arith, t.at_most, most_next);
        at_first = λ begun. absurd (omega (arith, (t.at_first begun).1 i (omega arith)));
      }

      abbrev row : List ℕ
      row = get_or b i []

      pub through_early : Early from (pass_in row w 0)
      unfolding pass_in before
      through_early =
          let soon = after_early (before e s k n i) in
          let count : length (before e s k n i) ≡ from = length-moves e s 0 (stretch_end k n i) ∙ sym t.from_is in
          record {
            arrivals = λ p. rw (t.here.arrivals, ← count) (soon.arrivals p);
            leavings = λ p. rw (t.here.leavings, ← count) (soon.leavings p);
            most = omega arith;
          }

      module _ (end g' d' : ℕ) (row' w' : List ℕ) (ends : end ≡ min (from + (k / n + 1)) k)
          (made : PassMade first row w (moves_at e s (6 * (move_size e * from)) (end - from)) g' d' row' w')
        where
          stretch_is : moves_at e s (6 * (move_size e * from)) (end - from) ≡ stretch e s k n i
          unfolding stretch
          stretch_is = rw (ends, from_next, t.from_is) refl

          going : GoesOn first (before e s k n i) (pass_in row w 0)
          unfolding pass_in
          going = record { arrivals = sym t.here.arrivals; leavings = sym t.here.leavings; entries = sym t.window_is; none = refl }

          passed_is : pass_in row' w' g' ≡ pass first (pass_in row w 0) (stretch e s k n i)
          passed_is = made.pass_is ∙ ap (pass first (pass_in row w 0)) stretch_is

          all_same : Same (latest (before e s k n i)) (after (before e s k n (i + 1))) (pass_in row' w' g')
          all_same = rw (before-next e s k n i, passed_is) (goes_on first (before e s k n i) (pass_in row w 0) going (stretch e s k n i))

          written_row : RowIn (set b (i + 1) row') (i + 1) (after (before e s k n (i + 1)))
          unfolding pass_in
          written_row = row_written b (i + 1) row' (after (before e s k n (i + 1)))
              (omega (arith, t.rows)) (sym all_same.arrivals) (sym all_same.leavings)

          most_is : latest (before e s k n (i + 1)) ≡ max (latest (before e s k n i)) g'
          unfolding pass_in latest after
          most_is = all_same.most

          pub through_pass : Through (i + 1) end (set b (i + 1) row') (set d i d') w' (max g g')
          unfolding pass_in
          through_pass = record {
            from_is = ends ∙ from_next;
            rows = length-set b (i + 1) row' ∙ t.rows;
            stretches = length-set d i d' ∙ t.stretches;
            start = row_kept b (i + 1) row' 0 (after []) (λ q. omega (arith, q)) t.start;
            here = written_row;
            next = λ j m some.
                by_cases (ℕ_discrete j i) (λ q. rw q written_row)
                (λ q.
                row_kept b (i + 1) row' (j + 1) _ (λ r. q (omega arith))
                (t.next j m (rw (get_or-set_other d i j d' 0 q) at some)));
            done = λ j m.
                by_cases (ℕ_discrete j i)
                (λ q. subst (λ (x : ℕ). DueIn (first + 4096) x (set d i d')) (sym q)
                (rw (get_or-set_same d i d' 0 (omega (arith, t.stretches)), ← t.here.arrivals, ← t.here.leavings, ← stretch_is)
                made.due_is))
                (λ q. rw (get_or-set_other d i j d' 0 q) (t.done j (omega (arith, q))));
            to_come = λ j m l. rw (get_or-set_other d i j d' 0 (λ q. omega (arith, q))) (t.to_come j m (omega arith));
            window_is =
                rw (before-next e s k n i)
                (ap (λ (Q : Pass). Q.window) passed_is
                ∙ sym (goes_on_window first (before e s k n i) (pass_in row w 0) going (stretch e s k n i)));
            at_most = omega (arith, t.at_most, most_is);
            at_first = λ begun. (
              omega (arith, (t.at_first begun).0, most_is),
              λ j l. get_or-set_other d i j d' 0 (λ q. omega (arith, q)) ∙ (t.at_first begun).1 j (omega arith),
            );
          }

    pub through_last : (i from : ℕ) (b : List (List ℕ)) (d w : List ℕ) (g : ℕ) → Through i from b d w g → 0 < n → i ≡ n
        → PlanPassed e s k n first d₀ g w b d
    through_last i from b d w g t some all =
        let moves : before e s k n i ≡ moves_at e s 0 k = rw all (before-all e s k n some) in
        record {
          window_is = rw (← moves) t.window_is;
          at_most = rw (← moves) t.at_most;
          at_first = λ begun. rw (← moves) (t.at_first begun).0;
          kept = record {
            rows = t.rows;
            stretches = t.stretches;
            start = t.start;
            next = t.next;
            due = λ j h. t.done j (omega arith);
          };
        }
