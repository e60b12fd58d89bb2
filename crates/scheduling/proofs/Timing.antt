-- Laws of the steps that the making rule gives, as numbers: which there are, how many moves each has, and that the order in which the timed
-- moves are listed does not matter.
--
--     Ruled l               each of the moves l, latest first, has the step and the place that the rule gives it after those before it
--     ruled_timed           so it is with the moves that `timed` lists, turned round
--     ByRule l r m s q      the three ways that the rule takes to the step s and the place q: a move leads, in the rack's next step, where
--                           the position that it enters was left before; it follows the move that left it, in a place up to the longest
--                           train's; or it would be one too many, and leads one step later
--     turn_for_by_rule, timed_by_rule    every move is timed in one of them
--     by_rule_bounds         a step is later than the rack's step before and not before the step of who left the place
--     by_rule_place          a place is one of the longest train's
--     of_rack-same, of_rack_other         the step of a rack's latest move, with one more move: its own, or another's
--     of_leaving-same, of_leaving_other   the same of the latest move that left a position
--     place_leaving-same, place_leaving_other   and of its place
--     of_rack_most, of_leaving_most, greatest_most   no step is above the greatest
--     ruled_next            no step is more than one above the greatest before it
--     in_step-same, in_step_other   a move in its own step, and in another
--     ruled_filled          each step from 1 to the greatest has a move
--     length-moves_in        the moves of a step are as many, sorted or not
--     steps_total           from 1 to the greatest, as many as there are moves
--     steps_length_lem          as many steps are listed as asked for
--     steps_at              each is one of the steps asked for
--     history A ms          the timed moves of the plan ms, latest first
--     history_length, history_greatest   as many as moves, with the same greatest step
--     history_made          and with the same steps, where no two moves of a step leave one position
--     history_differ        which is so in the order of the plan too
-- Assumes nothing.
use Prim.Native.Nat.{ℕ, zero, suc, ◌+◌, ◌≤◌, ◌<◌, max}
use mathlib.Core.Path.{◌≡◌, refl, sym, ◌∙◌, ap, ap₂, subst}
use mathlib.Core.Logic.{◌≢◌, ◌↔◌, ◌⊎◌, inl, inr, ⊎_elim, dite}
use mathlib.Core.HLevel.{¬_prop}
use mathlib.Core.List.Memᴰ
use mathlib.Core.List.Pairwise
use mathlib.Core.List.{List, [], ◌∷◌, reverse_aux, reverse, Memᴰ}
use native.Mathlib.Omega.{arith}
use native.Mathlib.Decide.{dec_lt}
use lib.Dec.{eqb, ltb}
use lib.ListN.{length, length-reverse}
use borrow.Author.Tests.{eq-eqb, ne_eqb, lt-ltb, le-ltb}
use Rattle.motion.specs.LegalStep.{longest_train}
use Rattle.motion.specs.Arrangement.{Arrangement}
use Rattle.motion.specs.Move.{after_move}
use Rattle.motion.proofs.Test.{equal?, cond_either}
use Rattle.motion.proofs.ListLaws.{by_member, pairwise_more, pairwise_rel, KeysDiffer}
use Rattle.motion.proofs.StepTestsLaws.{left}
use Rattle.motion.specs.StepOf.{insert, sort}
use Rattle.motion.proofs.StepOfLaws.{sort_iff, sort-ascends, ascending-same}
use Rattle.timetable.specs.Timetable.{move_total}
use Rattle.scheduling.specs.Making.{Timed, of_rack, of_leaving, place_leaving, step_after, place_after, turn_after, turn_for, timed}
use Rattle.scheduling.specs.Making.{greatest, in_step, moves_in, steps_from, made_steps}

pub data Ruled : List Timed → Type 0 where
  none : Ruled []
  more : {t : Timed} {l : List Timed} → (t.step, t.place) ≡ turn_for l t.rack t.move → Ruled l → Ruled (t ∷ l)

pub ruled_timed : (A : Arrangement) (l : List Timed) (ms : List (ℕ × ℕ)) → Ruled l → Ruled (reverse_aux (timed A l ms) l)
unfolding timed
ruled_timed A l [] r = r
ruled_timed A l (m ∷ ms) r = ruled_timed (after_move A m) _ ms (more refl r)

pub data ByRule (l : List Timed) (r : ℕ) (m : ℕ × ℕ) (s : ℕ) : ℕ → Type 0 where
  leads : of_leaving l m.1 < s → suc (of_rack l r) ≡ s → ByRule l r m s 1
  behind : of_rack l r < s → of_leaving l m.1 ≡ s → place_leaving l m.1 < longest_train → ByRule l r m s (suc (place_leaving l m.1))
  later : of_rack l r < s → suc (of_leaving l m.1) ≡ s → longest_train ≤ place_leaving l m.1 → ByRule l r m s 1

pub turn_for_by_rule : (l : List Timed) (r : ℕ) (m : ℕ × ℕ) → ByRule l r m (turn_for l r m).0 (turn_for l r m).1
unfolding turn_for turn_after place_after step_after
turn_for_by_rule l r m =
    let x = of_rack l r in
    let y = of_leaving l m.1 in
    let q = place_leaving l m.1 in
    ⊎_elim
    (λ (e : y ≡ max (x + 1) y).
    dite (dec_lt 8 (q + 1))
    (λ h. rw (eq-eqb y (max (x + 1) y) e, lt-ltb 8 (q + 1) h) (later (omega arith) (omega arith) (omega arith)))
    (λ h.
    let one : q + 1 ≡ suc q = omega arith in
    rw (eq-eqb y (max (x + 1) y) e, le-ltb 8 (q + 1) (omega arith), one) (behind (omega arith) e (omega arith))))
    (λ (e : y ≢ max (x + 1) y). rw (ne_eqb y (max (x + 1) y) e) (leads (omega arith) (omega arith)))
    (equal? y (max (x + 1) y))

pub by_rule_bounds : {l : List Timed} {r : ℕ} {m : ℕ × ℕ} {s q : ℕ} → ByRule l r m s q → (of_rack l r < s) × (of_leaving l m.1 ≤ s)
by_rule_bounds (leads b a) = (omega arith, omega arith)
by_rule_bounds (behind a e b) = (a, omega arith)
by_rule_bounds (later a e b) = (a, omega arith)

pub by_rule_place : {l : List Timed} {r : ℕ} {m : ℕ × ℕ} {s q : ℕ} → ByRule l r m s q → (0 < q) × (q ≤ longest_train)
by_rule_place (leads b a) = (omega arith, omega arith)
by_rule_place (behind a e b) = (omega arith, b)
by_rule_place (later a e b) = (omega arith, omega arith)

-- of a move that the rule has timed
pub timed_by_rule : (t : Timed) (l : List Timed) → (t.step, t.place) ≡ turn_for l t.rack t.move
    → ByRule l t.rack t.move t.step t.place
timed_by_rule t l e =
    subst (λ (x : ℕ × ℕ). ByRule l t.rack t.move x.0 x.1) (sym e) (turn_for_by_rule l t.rack t.move)

pub of_rack-same : (t : Timed) (l : List Timed) (r : ℕ) → t.rack ≡ r → of_rack (t ∷ l) r ≡ t.step
unfolding of_rack
of_rack-same t l r e = rw (eq-eqb t.rack r e)

pub of_rack_other : (t : Timed) (l : List Timed) (r : ℕ) → t.rack ≢ r → of_rack (t ∷ l) r ≡ of_rack l r
unfolding of_rack
of_rack_other t l r e = rw (ne_eqb t.rack r e)

pub of_leaving-same : (t : Timed) (l : List Timed) (p : ℕ) → t.move.0 ≡ p → of_leaving (t ∷ l) p ≡ t.step
unfolding of_leaving
of_leaving-same t l p e = rw (eq-eqb t.move.0 p e)

pub of_leaving_other : (t : Timed) (l : List Timed) (p : ℕ) → t.move.0 ≢ p → of_leaving (t ∷ l) p ≡ of_leaving l p
unfolding of_leaving
of_leaving_other t l p e = rw (ne_eqb t.move.0 p e)

pub place_leaving-same : (t : Timed) (l : List Timed) (p : ℕ) → t.move.0 ≡ p → place_leaving (t ∷ l) p ≡ t.place
unfolding place_leaving
place_leaving-same t l p e = rw (eq-eqb t.move.0 p e)

pub place_leaving_other : (t : Timed) (l : List Timed) (p : ℕ) → t.move.0 ≢ p → place_leaving (t ∷ l) p ≡ place_leaving l p
unfolding place_leaving
place_leaving_other t l p e = rw (ne_eqb t.move.0 p e)

pub of_rack_most : (l : List Timed) (r : ℕ) → of_rack l r ≤ greatest l
unfolding of_rack greatest
of_rack_most [] r = omega arith
of_rack_most (t ∷ l) r =
    let rest : of_rack l r ≤ greatest l = of_rack_most l r in
    cond_either (λ (n : ℕ). n ≤ max t.step (greatest l)) (eqb t.rack r) (omega arith) (omega arith)

pub of_leaving_most : (l : List Timed) (p : ℕ) → of_leaving l p ≤ greatest l
unfolding of_leaving greatest
of_leaving_most [] p = omega arith
of_leaving_most (t ∷ l) p =
    let rest : of_leaving l p ≤ greatest l = of_leaving_most l p in
    cond_either (λ (n : ℕ). n ≤ max t.step (greatest l)) (eqb t.move.0 p) (omega arith) (omega arith)

pub greatest_most : (t : Timed) (l : List Timed) → (t.step ≤ greatest (t ∷ l)) × (greatest l ≤ greatest (t ∷ l))
unfolding greatest
greatest_most t l = omega arith

pub ruled_next : (l : List Timed) (r : ℕ) (m : ℕ × ℕ) {s q : ℕ} → ByRule l r m s q → s ≤ suc (greatest l)
ruled_next l r m (leads b a) = omega (arith, of_rack_most l r)
ruled_next l r m (behind a e b) = omega (arith, of_leaving_most l m.1)
ruled_next l r m (later a e b) = omega (arith, of_leaving_most l m.1)

-- what a step has

pub in_step-same : (i : ℕ) (t : Timed) (l : List Timed) → t.step ≡ i → in_step i (t ∷ l) ≡ t.move ∷ in_step i l
unfolding in_step
in_step-same i t l e = rw (eq-eqb t.step i e)

pub in_step_other : (i : ℕ) (t : Timed) (l : List Timed) → t.step ≢ i → in_step i (t ∷ l) ≡ in_step i l
unfolding in_step
in_step_other i t l e = rw (ne_eqb t.step i e)

in_step_more : (i : ℕ) (t : Timed) (l : List Timed) → length (in_step i l) ≤ length (in_step i (t ∷ l))
in_step_more i t l = ⊎_elim (λ e. rw (in_step-same i t l e) (omega arith)) (λ e. rw (in_step_other i t l e) (omega arith)) (equal? t.step i)

pub ruled_filled : {l : List Timed} → Ruled l → (i : ℕ) → i < greatest l → 0 < length (in_step (suc i) l)
unfolding greatest
ruled_filled none i h = absurd (omega arith)
ruled_filled (more {t = t} {l = l} e r) i h =
    dite (dec_lt i (greatest l))
    (λ b. let old : 0 < length (in_step (suc i) l) = ruled_filled r i b in omega (arith, in_step_more (suc i) t l))
    (λ b. rw (in_step-same (suc i) t l (omega (arith, ruled_next l t.rack t.move (timed_by_rule t l e)))) (omega arith))

-- how many moves in all

length-insert : (m : ℕ × ℕ) (ms : List (ℕ × ℕ)) → length (insert m ms) ≡ suc (length ms)
unfolding insert
length-insert m [] = refl
length-insert m (x ∷ ms) =
    cond_either (λ (l : List (ℕ × ℕ)). length l ≡ suc (suc (length ms))) (ltb m.0 x.0) refl (ap suc (length-insert m ms))

length-sort : (ms : List (ℕ × ℕ)) → length (sort ms) ≡ length ms
unfolding sort
length-sort [] = refl
length-sort (m ∷ ms) = length-insert m (sort ms) ∙ ap suc (length-sort ms)

pub length-moves_in : (i : ℕ) (l : List Timed) → length (moves_in i l) ≡ length (in_step i l)
unfolding moves_in
length-moves_in i l = length-sort (in_step i l)

-- a move of a step that is not listed changes nothing
steps_other : (k i : ℕ) (t : Timed) (l : List Timed) → t.step < i → steps_from i k (t ∷ l) ≡ steps_from i k l
unfolding steps_from moves_in
steps_other zero i t l h = refl
steps_other (suc k) i t l h =
    ap₂ (λ (x : List (ℕ × ℕ)) (y : List (List (ℕ × ℕ))). x ∷ y) (ap sort (in_step_other i t l (λ e. omega arith)))
    (steps_other k (suc i) t l (omega arith))

total_more : (k i : ℕ) (t : Timed) (l : List Timed) → i ≤ t.step → t.step < i + k
    → move_total (steps_from i k (t ∷ l)) ≡ suc (move_total (steps_from i k l))
unfolding steps_from move_total
total_more zero i t l h b = absurd (omega arith)
total_more (suc k) i t l h b =
    ⊎_elim
    (λ (e : t.step ≡ i).
    let here : length (moves_in i (t ∷ l)) ≡ suc (length (moves_in i l)) =
    length-moves_in i (t ∷ l) ∙ ap length (in_step-same i t l e) ∙ ap suc (sym (length-moves_in i l)) in
    let rest : move_total (steps_from (suc i) k (t ∷ l)) ≡ move_total (steps_from (suc i) k l) =
    ap move_total (steps_other k (suc i) t l (omega arith)) in
    omega arith)
    (λ (e : t.step ≢ i).
    let here : length (moves_in i (t ∷ l)) ≡ length (moves_in i l) =
    length-moves_in i (t ∷ l) ∙ ap length (in_step_other i t l e) ∙ sym (length-moves_in i l) in
    let rest : move_total (steps_from (suc i) k (t ∷ l)) ≡ suc (move_total (steps_from (suc i) k l)) =
    total_more k (suc i) t l (omega arith) (omega arith) in
    omega arith)
    (equal? t.step i)

total_none : (k i : ℕ) → move_total (steps_from i k []) ≡ 0
unfolding steps_from move_total moves_in in_step sort
total_none zero i = refl
total_none (suc k) i = omega (arith, total_none k (suc i))

pub steps_total : {l : List Timed} → Ruled l → (k : ℕ) → greatest l ≤ k → move_total (steps_from 1 k l) ≡ length l
unfolding greatest
steps_total none k h = total_none k 1
steps_total (more {t = t} {l = l} e r) k h =
    total_more k 1 t l (omega (arith, by_rule_bounds (timed_by_rule t l e))) (omega arith) ∙ ap suc (steps_total r k (omega arith))

pub steps_length_lem : (k i : ℕ) (l : List Timed) → length (steps_from i k l) ≡ k
unfolding steps_from
steps_length_lem zero i l = refl
steps_length_lem (suc k) i l = ap suc (steps_length_lem k (suc i) l)

pub steps_at : (k i : ℕ) (l : List Timed) (ms : List (ℕ × ℕ)) → Memᴰ ms (steps_from i k l)
    → (j : ℕ) × (i ≤ j) × (j < i + k) × (ms ≡ moves_in j l)
unfolding steps_from
steps_at zero i l ms n = absurd (Memᴰ.not-nil n)
steps_at (suc k) i l ms n =
    by_member {C = (j : ℕ) × (i ≤ j) × (j < i + suc k) × (ms ≡ moves_in j l)} n (λ e. (i, omega arith, omega arith, e))
    (λ n. let w = steps_at k (suc i) l ms n in (w.0, omega (arith, w.1), omega (arith, w.2), w.3))

-- the opposite order

greatest-turned : (l k : List Timed) → greatest (reverse_aux l k) ≡ max (greatest l) (greatest k)
unfolding greatest
greatest-turned [] k = omega arith
greatest-turned (t ∷ l) k = omega (arith, greatest-turned l (t ∷ k))

in_step-turned : (i : ℕ) (l k : List Timed) → in_step i (reverse_aux l k) ≡ reverse_aux (in_step i l) (in_step i k)
unfolding in_step
in_step-turned i [] k = refl
in_step-turned i (t ∷ l) k =
    in_step-turned i l (t ∷ k)
    ∙ ⊎_elim
    (λ (e : t.step ≡ i). rw (in_step-same i t l e, in_step-same i t k e))
    (λ (e : t.step ≢ i). rw (in_step_other i t l e, in_step_other i t k e))
    (equal? t.step i)

turned_iff : (xs ys : List (ℕ × ℕ)) (z : ℕ × ℕ) → Memᴰ z (reverse_aux xs ys) ↔ (Memᴰ z xs ⊎ Memᴰ z ys)
turned_iff [] ys z = (inr, ⊎_elim (λ k. absurd (Memᴰ.not-nil k)) (λ k. k))
turned_iff (x ∷ xs) ys z =
    let w = turned_iff xs (x ∷ ys) z in (
      λ k. ⊎_elim (λ n. inl (Memᴰ.tail n)) (λ n. by_member n (λ e. inl (Memᴰ.head e)) inr) (w.0 k),
      λ k. w.1 (⊎_elim (λ n. by_member n (λ e. inr (Memᴰ.head e)) inl) (λ n. inr (Memᴰ.tail n)) k),
    )

turned-differ : (xs ys : List (ℕ × ℕ)) → KeysDiffer left (reverse_aux xs ys)
    → KeysDiffer left xs × KeysDiffer left ys × ((x y : ℕ × ℕ) → Memᴰ x xs → Memᴰ y ys → x.0 ≢ y.0)
turned-differ [] ys d = (Pairwise.nil, d, λ x y k. absurd (Memᴰ.not-nil k))
turned-differ (x ∷ xs) ys d =
    let w = turned-differ xs (x ∷ ys) d in (
      pairwise_more (λ a b. ¬_prop) (λ y k e. w.2 y x k (Memᴰ.head refl) (sym e)) w.0,
      Pairwise.of_cons w.1,
      λ a b k n. by_member k (λ e q. pairwise_rel w.1 n (sym (ap left e) ∙ q)) (λ k. w.2 a b k (Memᴰ.tail n)),
    )

sort-turned : (xs : List (ℕ × ℕ)) → KeysDiffer left (reverse xs) → sort (reverse xs) ≡ sort xs
sort-turned xs d =
    ascending-same (sort (reverse xs)) (sort xs) (sort-ascends (reverse xs) d) (sort-ascends xs (turned-differ xs [] d).0)
    (λ x.
    let a = sort_iff x (reverse xs) in
    let b = sort_iff x xs in
    let w = turned_iff xs [] x in
    (λ k. b.1 (⊎_elim (λ n. n) (λ n. absurd (Memᴰ.not-nil n)) (w.0 (a.0 k))), λ k. a.1 (w.1 (inl (b.0 k)))))

turned_differs : (i : ℕ) (l : List Timed) → KeysDiffer left (in_step i (reverse l)) → moves_in i (reverse l) ≡ moves_in i l
unfolding moves_in in_step
turned_differs i l d =
    let e : in_step i (reverse l) ≡ reverse (in_step i l) = in_step-turned i l [] in
    ap sort e ∙ sort-turned (in_step i l) (subst (KeysDiffer left) e d)

steps_turned : (k i : ℕ) (l : List Timed) → ((j : ℕ) → i ≤ j → KeysDiffer left (in_step j (reverse l)))
    → steps_from i k (reverse l) ≡ steps_from i k l
unfolding steps_from
steps_turned zero i l d = refl
steps_turned (suc k) i l d =
    ap₂ (λ (x : List (ℕ × ℕ)) (y : List (List (ℕ × ℕ))). x ∷ y) (turned_differs i l (d i (omega arith)))
    (steps_turned k (suc i) l (λ j h. d j (omega arith)))

length-timed : (A : Arrangement) (l : List Timed) (ms : List (ℕ × ℕ)) → length (timed A l ms) ≡ length ms
unfolding timed
length-timed A l [] = refl
length-timed A l (m ∷ ms) = ap suc (length-timed (after_move A m) _ ms)

module _ (A : Arrangement) (ms : List (ℕ × ℕ)) where
  abbrev pub history : List Timed
  history = reverse (timed A [] ms)

  pub history_length : length history ≡ length ms
  history_length = length-reverse (timed A [] ms) ∙ length-timed A [] ms

  pub history_greatest : greatest history ≡ greatest (timed A [] ms)
  unfolding greatest
  history_greatest = omega (arith, greatest-turned (timed A [] ms) [])

  pub history_made : ((i : ℕ) → KeysDiffer left (in_step (suc i) history)) → made_steps A ms ≡ steps_from 1 (greatest history) history
  unfolding made_steps
  history_made d =
      sym (steps_turned (greatest history) 1 (timed A [] ms) later ∙ ap (λ (k : ℕ). steps_from 1 k (timed A [] ms)) history_greatest)
    where
      later : (j : ℕ) → 1 ≤ j → KeysDiffer left (in_step j history)
      later zero h = absurd (omega arith)
      later (suc j) h = d j

  pub history_differ : (i : ℕ) → KeysDiffer left (in_step i history) → KeysDiffer left (in_step i (timed A [] ms))
  unfolding in_step
  history_differ i d = (turned-differ (in_step i (timed A [] ms)) [] (subst (KeysDiffer left) (in_step-turned i (timed A [] ms) []) d)).0
