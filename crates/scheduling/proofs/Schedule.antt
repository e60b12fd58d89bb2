-- The timetable so far, as the rule makes it move by move, and that each move joins it lawfully.
--
--     arranged A l i      the arrangement that the timed moves l, latest first, make of A up to step i
--     arranged-before, arranged-from   one more move changes it from its step on
--     Scheduled F A l B   the steps of l, made in turn from A, are legal and come to B; where a rack of B stands, it has stood since its
--                         last step, and what is vacant in B has been so since the last step in which it was left
--     scheduled_none      no moves are so scheduled
--     place_in i l p       the place in its chain of the move of step i that leaves p
--     scheduled_more      a legal move whose step and place are the rule's joins
--     scheduled_leads     the steps from 1 on, sorted, lead from A to B
-- Assumes nothing.
use Prim.Native.Nat.{ℕ, zero, suc, ◌+◌, ◌≤◌, ◌<◌}
use mathlib.Core.Bool.{Bool, true, false, cond}
use mathlib.Core.Path.{◌≡◌, refl, sym, ◌∙◌, ap, subst, fun_ext}
use mathlib.Core.Logic.{◌≢◌, ⊎_elim, dite}
use mathlib.Core.List.{List, [], ◌∷◌, Memᴰ}
use native.Mathlib.Omega.{arith}
use native.Mathlib.Decide.{dec_le}
use native.Mathlib.Nat.{add-zero, add-suc, suc-add}
use lib.Dec.{T, eqb, leb}
use lib.ListN.{length, get_or}
use borrow.Author.Tests.{le-leb, lt-leb, eq-eqb, ne_eqb}
use Rattle.order.specs.Floor.{Floor}
use Rattle.motion.specs.Arrangement.{Arrangement, vacant}
use Rattle.motion.proofs.ArrangementLaws.{occupied_rack, vacant-racks}
use Rattle.motion.specs.Move.{legal_move, after, after_move}
use Rattle.motion.proofs.MoveLaws.{legal_parts, move-length, moved_rack, moved_other, turned_legal}
use Rattle.motion.specs.TurnedStep.{turned}
use Rattle.motion.proofs.Untouched.{vacant-move}
use Rattle.motion.specs.Sound.{Sound}
use Rattle.motion.proofs.SoundLaws.{move_sound}
use Rattle.motion.proofs.Lawful.{LeadsSteps, still, ◌then◌}
use Rattle.motion.proofs.Test.{equal?}
use Rattle.motion.proofs.LegalStepLaws.{legal_step_iff}
use Rattle.motion.specs.StepOf.{sort}
use Rattle.scheduling.specs.Making.{Timed, of_rack, of_leaving, place_leaving, greatest, in_step, moves_in, steps_from}
use Rattle.scheduling.proofs.StepMoves.{StepMoves, Stays, Joins, first, next, step_moves_none, step_moves_legal, step_moves-after}
use Rattle.scheduling.proofs.StepMoves.{joining, carrying}
use Rattle.scheduling.proofs.Timing.{of_rack-same, of_rack_other, of_leaving-same, of_leaving_other, greatest_most, in_step-same}
use Rattle.scheduling.proofs.Timing.{in_step_other, ByRule, leads, behind, later, by_rule_bounds}

unfoldable pub arranged : Arrangement → List Timed → ℕ → Arrangement
arranged A [] i = A
arranged A (t ∷ l) i = cond (leb t.step i) (after_move (arranged A l i) t.move) (arranged A l i)

pub arranged-before : (A : Arrangement) (t : Timed) (l : List Timed) (i : ℕ) → i < t.step → arranged A (t ∷ l) i ≡ arranged A l i
unfolding arranged
arranged-before A t l i h = rw (lt-leb t.step i h)

pub arranged-from : (A : Arrangement) (t : Timed) (l : List Timed) (i : ℕ) → t.step ≤ i
    → arranged A (t ∷ l) i ≡ after_move (arranged A l i) t.move
unfolding arranged
arranged-from A t l i h = rw (le-leb t.step i h)

-- the place in its chain of the move of step i that leaves p
unfoldable pub place_in : ℕ → List Timed → ℕ → ℕ
place_in i [] p = 0
place_in i (t ∷ l) p = cond (eqb t.step i) (cond (eqb t.move.0 p) t.place (place_in i l p)) (place_in i l p)

module _ (i : ℕ) (t : Timed) (l : List Timed) where
  place_in_step : t.step ≢ i → (p : ℕ) → place_in i (t ∷ l) p ≡ place_in i l p
  unfolding place_in
  place_in_step e p = rw (ne_eqb t.step i e) refl

  place_in-place : (p : ℕ) → t.move.0 ≢ p → place_in i (t ∷ l) p ≡ place_in i l p
  unfolding place_in
  place_in-place p d = rw (ne_eqb t.move.0 p d) (either (eqb t.step i))
    where
      either : (b : Bool) → cond b (place_in i l p) (place_in i l p) ≡ place_in i l p
      either true = refl
      either false = refl

  place_in-same : t.step ≡ i → place_in i (t ∷ l) t.move.0 ≡ t.place
  unfolding place_in
  place_in-same e = rw (eq-eqb t.step i e, eq-eqb t.move.0 t.move.0 refl) refl

-- the latest move that left p, in the step in which it did
leaving_place : (l : List Timed) (p i : ℕ) → of_leaving l p ≡ suc i → place_leaving l p ≡ place_in (suc i) l p
unfolding of_leaving place_leaving
leaving_place [] p i e = absurd (omega arith)
leaving_place (t ∷ l) p i e =
    ⊎_elim
    (λ (d : t.move.0 ≡ p).
    let s : t.step ≡ suc i = rw (eq-eqb t.move.0 p d) at e in
    rw (eq-eqb t.move.0 p d) (sym (ap (place_in (suc i) (t ∷ l)) (sym d) ∙ place_in-same (suc i) t l s)))
    (λ (d : t.move.0 ≢ p).
    let r : of_leaving l p ≡ suc i = rw (ne_eqb t.move.0 p d) at e in
    rw (ne_eqb t.move.0 p d) (leaving_place l p i r ∙ sym (place_in-place (suc i) t l p d)))
    (equal? t.move.0 p)

leaving_there : (l : List Timed) (p i : ℕ) → of_leaving l p ≡ suc i → (x : ℕ × ℕ) × Memᴰ x (in_step (suc i) l) × (x.0 ≡ p)
unfolding of_leaving
leaving_there [] p i e = absurd (omega arith)
leaving_there (t ∷ l) p i e =
    ⊎_elim
    (λ (d : t.move.0 ≡ p).
    let s : t.step ≡ suc i = rw (eq-eqb t.move.0 p d) at e in
    (t.move, rw (in_step-same (suc i) t l s) (Memᴰ.head refl), d))
    (λ (d : t.move.0 ≢ p).
    let w = leaving_there l p i (rw (ne_eqb t.move.0 p d) at e) in
    (w.0, in_step_more (suc i) t l w.0 w.1, w.2))
    (equal? t.move.0 p)
  where
    in_step_more : (i : ℕ) (t : Timed) (l : List Timed) (x : ℕ × ℕ) → Memᴰ x (in_step i l) → Memᴰ x (in_step i (t ∷ l))
    in_step_more i t l x n =
        ⊎_elim
        (λ (s : t.step ≡ i). rw (in_step-same i t l s) (Memᴰ.tail n))
        (λ (s : t.step ≢ i). rw (in_step_other i t l s) n)
        (equal? t.step i)

pub record Scheduled (F : Floor) (A : Arrangement) (l : List Timed) (B : Arrangement) : Type 0 where
  -- each step is legal, and leads on
  pub steps : (i : ℕ) → StepMoves F (arranged A l i) (in_step (suc i) l) (arranged A l (suc i)) (place_in (suc i) l)
  pub sound : (i : ℕ) → Sound F.positions (arranged A l i)
  pub racks : (i : ℕ) → length (arranged A l i) ≡ length B
  -- the first begins at A, and the last comes to B
  pub first : arranged A l 0 ≡ A
  pub last : (i : ℕ) → greatest l ≤ i → arranged A l i ≡ B
  -- each rack has stood where it stands since its last step
  pub stood : (i r : ℕ) → r < length B → of_rack l (suc r) ≤ i → get_or (arranged A l i) r 0 ≡ get_or B r 0
  -- what is vacant has been so since the last step in which it was left
  pub vacated : (i p : ℕ) → T (vacant B p) → of_leaving l p ≤ i → T (vacant (arranged A l i) p)

pub scheduled_none : (F : Floor) (A : Arrangement) → Sound F.positions A → Scheduled F A [] A
unfolding arranged in_step
scheduled_none F A s =
    record {
      steps = λ i. step_moves_none F A (place_in (suc i) []);
      sound = λ i. s;
      racks = λ i. refl;
      first = refl;
      last = λ i h. refl;
      stood = λ i r h b. refl;
      vacated = λ i p v b. v;
    }

-- one more move in front

left-vacant : (F : Floor) (A : Arrangement) (m : ℕ × ℕ) → T (legal_move F A m) → T (vacant (after_move A m) m.0)
unfolding turned
left-vacant F A m l = ((legal_parts F (after_move A m) (turned m)).0 (turned_legal F A m l)).2

-- what holds of the arrangement after the move from its step on, and without it before, holds
arranged_either : (P : Arrangement → Type 0) (A : Arrangement) (t : Timed) (l : List Timed) (i : ℕ)
    → (t.step ≤ i → P (after_move (arranged A l i) t.move)) → (i < t.step → P (arranged A l i)) → P (arranged A (t ∷ l) i)
arranged_either P A t l i from before =
    dite (dec_le t.step i) (λ h. rw (arranged-from A t l i h) (from h))
    (λ h. let b : i < t.step = omega arith in rw (arranged-before A t l i b) (before b))

module _ {F : Floor} {A B : Arrangement} {l : List Timed} (s : Scheduled F A l B) (t : Timed) (legal : T (legal_move F B t.move))
    (r : ℕ) (is : r < length B) (at : get_or B r 0 ≡ t.move.0) (own : t.rack ≡ suc r)
    (turn : ByRule l t.rack t.move t.step t.place) where
  late : of_rack l (suc r) < t.step
  late = subst (λ (x : ℕ). of_rack l x < t.step) own (by_rule_bounds turn).0

  free : of_leaving l t.move.1 ≤ t.step
  free = (by_rule_bounds turn).1

  -- from the step on, and just before it, the rack waits where it is; from the step on, the place where it goes is vacant
  waits : (i : ℕ) → t.step ≤ suc i → get_or (arranged A l i) r 0 ≡ t.move.0
  waits i h = s.stood i r is (omega (arith, late)) ∙ at

  in_time : (i : ℕ) → r < length (arranged A l i)
  in_time i = rw (s.racks i) is

  vacant_then : (i : ℕ) → t.step ≤ i → T (vacant (arranged A l i) t.move.1)
  vacant_then i h = s.vacated i t.move.1 ((legal_parts F B t.move).0 legal).2 (omega (arith, free))

  legal_then : (i : ℕ) → t.step ≤ i → T (legal_move F (arranged A l i) t.move)
  legal_then i h =
      (legal_parts F (arranged A l i) t.move).1 (
        ((legal_parts F B t.move).0 legal).0,
        (occupied_rack (arranged A l i) t.move.0).1 (r, in_time i, waits i (omega arith)),
        vacant_then i h,
      )

  stays_then : (i : ℕ) → t.step ≤ suc i → Stays F (arranged A l i) (arranged A l (suc i)) t.move
  stays_then i h =
      record {
        sound = s.sound i;
        sound_after_lem = s.sound (suc i);
        legal = legal_then (suc i) h;
        rack = r;
        is = in_time i;
        before = waits i h;
        behind = waits (suc i) (omega arith);
      }

  -- its place in the chain of its step
  joins_by : (i : ℕ) → t.step ≡ suc i → {q : ℕ} → ByRule l t.rack t.move t.step q
      → Joins (arranged A l i) (in_step (suc i) l) (place_in (suc i) l) t.move q
  joins_by i e (leads b a) = first (s.vacated i t.move.1 ((legal_parts F B t.move).0 legal).2 (omega arith))
  joins_by i e (later a b c) = first (s.vacated i t.move.1 ((legal_parts F B t.move).0 legal).2 (omega arith))
  joins_by i e (behind a d h) =
      let there : of_leaving l t.move.1 ≡ suc i = d ∙ e in
      let w = leaving_there l t.move.1 i there in
      rw (leaving_place l t.move.1 i there) (next w.1 w.2 (rw (← leaving_place l t.move.1 i there) h))

  joins_then : (i : ℕ) → t.step ≡ suc i
      → Joins (arranged A l i) (in_step (suc i) l) (place_in (suc i) l) t.move (place_in (suc i) (t ∷ l) t.move.0)
  joins_then i e = rw (place_in-same (suc i) t l e) (joins_by i e turn)

  more_steps : (i : ℕ) → StepMoves F (arranged A (t ∷ l) i) (in_step (suc i) (t ∷ l)) (arranged A (t ∷ l) (suc i))
      (place_in (suc i) (t ∷ l))
  more_steps i =
      dite (dec_le t.step i)
      (λ h.
      rw (
        arranged-from A t l i h,
        arranged-from A t l (suc i) (omega arith),
        in_step_other (suc i) t l (λ e. omega arith),
        fun_ext (place_in_step (suc i) t l (λ e. omega arith)),
      )
      (carrying (s.steps i) (stays_then i (omega arith)) (vacant_then i h)))
      (λ h.
      rw (arranged-before A t l i (omega arith))
      (dite (dec_le t.step (suc i))
      (λ k. rw (arranged-from A t l (suc i) k, in_step-same (suc i) t l (omega arith))
      (joining (s.steps i) (stays_then i k) (place_in (suc i) (t ∷ l)) (joins_then i (omega arith))
      (λ p d. place_in-place (suc i) t l p (λ e. d (sym e)))))
      (λ k. rw (
        arranged-before A t l (suc i) (omega arith),
        in_step_other (suc i) t l (λ e. omega arith),
        fun_ext (place_in_step (suc i) t l (λ e. omega arith)),
      )
      (s.steps i))))

  sound_end : Sound F.positions B
  sound_end = subst (Sound F.positions) (s.last (greatest l) (omega arith)) (s.sound (greatest l))

  -- the other racks stand elsewhere, at the end and from the step on
  other_end : (q : ℕ) → q < length B → q ≢ r → get_or B q 0 ≢ t.move.0
  other_end q h ne e = ne (sound_end.apart q r h is (e ∙ sym at))

  other_then : (i : ℕ) → t.step ≤ i → (q : ℕ) → q < length (arranged A l i) → q ≢ r → get_or (arranged A l i) q 0 ≢ t.move.0
  other_then i b q h ne e = ne ((s.sound i).apart q r h (in_time i) (e ∙ sym (waits i (omega arith))))

  more_stood : (i q : ℕ) → q < length B → of_rack (t ∷ l) (suc q) ≤ i → get_or (arranged A (t ∷ l) i) q 0 ≡ get_or (after_move B t.move) q 0
  more_stood i q h b =
      let h' : q < length (arranged A l i) = rw (s.racks i) h in
      ⊎_elim
      (λ (e : q ≡ r).
      let c : t.step ≤ i = omega (arith, of_rack-same t l (suc q) (own ∙ ap suc (sym e))) in
      ap (λ (C : Arrangement). get_or C q 0) (arranged-from A t l i c)
      ∙ moved_rack (arranged A l i) t.move q h' (ap (λ (j : ℕ). get_or (arranged A l i) j 0) e ∙ waits i (omega arith))
      ∙ sym (moved_rack B t.move q h (ap (λ (j : ℕ). get_or B j 0) e ∙ at)))
      (λ (e : q ≢ r).
      let c : of_rack l (suc q) ≤ i = omega (arith, of_rack_other t l (suc q) (λ c. e (omega arith))) in
      let stood = s.stood i q h c ∙ sym (moved_other B t.move q h (other_end q h e)) in
      arranged_either (λ (C : Arrangement). get_or C q 0 ≡ get_or (after_move B t.move) q 0) A t l i
      (λ k. moved_other (arranged A l i) t.move q h' (other_then i k q h' e) ∙ stood) (λ k. stood))
      (equal? q r)

  more_vacated : (i p : ℕ) → T (vacant (after_move B t.move) p) → of_leaving (t ∷ l) p ≤ i → T (vacant (arranged A (t ∷ l) i) p)
  more_vacated i p v b =
      ⊎_elim
      (λ (e : t.move.0 ≡ p).
      let c : t.step ≤ i = omega (arith, of_leaving-same t l p e) in
      rw (arranged-from A t l i c)
      (subst (λ (x : ℕ). T (vacant (after_move (arranged A l i) t.move) x)) e
      (left-vacant F (arranged A l i) t.move (legal_then i c))))
      (λ (e : t.move.0 ≢ p).
      let free_end = (vacant-racks (after_move B t.move) p).0 v in
      let before : T (vacant B p) =
      (vacant-racks B p).1 (λ j h c. free_end j (rw (move-length B t.move) h) (moved_other B t.move j h (λ d. e (sym d ∙ c)) ∙ c)) in
      let now : T (vacant (arranged A l i) p) = s.vacated i p before (omega (arith, of_leaving_other t l p e)) in
      arranged_either (λ (C : Arrangement). T (vacant C p)) A t l i
      (λ k. vacant-move (arranged A l i) t.move p now
      (λ c. free_end r (rw (move-length B t.move) is) (moved_rack B t.move r is at ∙ c)))
      (λ k. now))
      (equal? t.move.0 p)

  pub scheduled_more : Scheduled F A (t ∷ l) (after_move B t.move)
  scheduled_more = record {
    steps = more_steps;
    sound =
        λ i. arranged_either (Sound F.positions) A t l i (λ h. move_sound F (arranged A l i) t.move (legal_then i h) (s.sound i))
        (λ h. s.sound i);
    racks =
        λ i. arranged_either (λ (C : Arrangement). length C ≡ length (after_move B t.move)) A t l i
        (λ h. move-length (arranged A l i) t.move ∙ s.racks i ∙ sym (move-length B t.move))
        (λ h. s.racks i ∙ sym (move-length B t.move));
    first = arranged-before A t l 0 (omega (arith, late)) ∙ s.first;
    last =
        λ i h. arranged-from A t l i (omega (arith, greatest_most t l))
        ∙ ap (λ (C : Arrangement). after_move C t.move) (s.last i (omega (arith, greatest_most t l)));
    stood = λ i q h. more_stood i q (rw (move-length B t.move) at h);
    vacated = more_vacated;
  }

module _ {F : Floor} {A B : Arrangement} {l : List Timed} (s : Scheduled F A l B) where
  leads_on : (k i : ℕ) → LeadsSteps F (arranged A l i) (steps_from (suc i) k l) (arranged A l (i + k))
  unfolding steps_from moves_in
  leads_on zero i = rw add-zero still
  leads_on (suc k) i =
      let rest : LeadsSteps F (after (arranged A l i) (sort (in_step (suc i) l))) (steps_from (suc (suc i)) k l)
      (arranged A l (i + suc k)) =
      rw (step_moves-after (s.steps i), add-suc, ← suc-add) (leads_on k (suc i)) in
      (legal_step_iff F (arranged A l i) (sort (in_step (suc i) l))).1 (step_moves_legal (s.steps i)) then rest

  pub scheduled_leads : LeadsSteps F A (steps_from 1 (greatest l) l) B
  scheduled_leads =
      let whole = leads_on (greatest l) 0 in
      rw (s.first, s.last (0 + greatest l) (omega arith)) at whole
