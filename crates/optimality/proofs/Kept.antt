-- The made timetable keeps routes and visits: move by move, what is read off the arrangements that it passes through is what the moves
-- tell.
--
--     turn_scheduled       a turn's move joins the timetable so far
--     Grown                one more move adds to what is read off the arrangements by steps just what it changes at its turn in the plan
--     same_grows, settled_grows   where it changes nothing, and where what it changes stays as it is from then on
--     route_grown, visits_grown   so it is with routes and visitors
--     made_told            what is read off the arrangements by steps is what the moves tell
--     trace-arranged       the made steps pass through the arrangements by steps
--     made-route, made-visits   so the made timetable's routes and visitors are those that the moves tell
-- Assumes nothing.
use Prim.Native.Nat.{ℕ, zero, suc, ◌+◌, ◌-◌, ◌≤◌, ◌<◌}
use mathlib.Core.Path.{◌≡◌, refl, sym, ◌∙◌, ap, ap₂, subst}
use mathlib.Core.Logic.{◌≢◌, ⊎_elim, dite}
use mathlib.Core.List.{List, [], ◌∷◌, ◌++◌, map, reverse_aux, append-nil, append_assoc}
use native.Mathlib.Omega.{arith}
use native.Mathlib.Decide.{dec_le}
use native.Mathlib.Nat.{zero-add, add-zero, add-suc, suc-add}
use lib.Dec.{T}
use lib.ListN.{length, get_or}
use Rattle.order.specs.Floor.{Floor}
use Rattle.motion.specs.Arrangement.{Arrangement, vacant, rack_at}
use Rattle.motion.specs.Move.{after, after_move}
use Rattle.motion.proofs.MoveLaws.{legal_parts, legal_apart, move-length, moved_rack, moved_other}
use Rattle.motion.specs.Replay.{trace}
use Rattle.motion.proofs.Lawful.{Leads, still, ◌then◌}
use Rattle.motion.specs.Sound.{Sound}
use Rattle.motion.proofs.Test.{equal?}
use Rattle.scheduling.specs.Making.{Timed, of_rack, of_leaving, timed, greatest, moves_in, steps_from, made_steps}
use Rattle.scheduling.proofs.StepMoves.{step_moves-after}
use Rattle.scheduling.proofs.Timing.{by_rule_bounds, of_rack-same, of_leaving-same, greatest_most, steps_length_lem, history}
use Rattle.scheduling.proofs.Schedule.{arranged, arranged-before, arranged-from, Scheduled, scheduled_none, scheduled_more}
use Rattle.scheduling.proofs.Made.{plan_scheduled, steps_made}
use Rattle.optimality.specs.Routes.{changes, route, racks_among, visitors}
use Rattle.optimality.proofs.Course.{changed, changed-same, course, course-same, course_still, course_settled, trace-course}
use Rattle.optimality.proofs.Course.{racks_append, racks_come, racks_go}
use Rattle.motion.proofs.ArrangementLaws.{rack_at_none}
use Rattle.optimality.proofs.Occupants.{rack_is, rack_not, others_same, left_rack, entered_rack, left-vacant, left-empty}
use Rattle.optimality.proofs.Occupants.{entered-empty}
use Rattle.optimality.proofs.Told.{told_route, told_visits, Turn, timed_as, turn_of, turn_others}
use Rattle.optimality.proofs.Told.{Read, read_route, read_visits, route-place}

-- a turn's move joins the timetable so far
pub turn_scheduled : {F : Floor} {A B : Arrangement} {l : List Timed} {t : Timed} → Scheduled F A l B → Turn F l B t
    → Scheduled F A (t ∷ l) (after_move B t.move)
turn_scheduled {t} s w = scheduled_more s t w.legal w.index w.is w.at w.own w.ruled

-- One more move adds to what is kept of h, read off the arrangements by steps up to step N, just what it changes at its turn in the plan.
abbrev Grown : Arrangement → (Arrangement → ℕ) → (List ℕ → List ℕ) → List Timed → Arrangement → Timed → ℕ → Type 0
Grown A h kept l B t N =
    kept (course (λ i. h (arranged A (t ∷ l) i)) N)
    ≡ kept (course (λ i. h (arranged A l i)) N) ++ kept (changed (h B) (h (after_move B t.move)))

module _ {F : Floor} (A : Arrangement) (h : Arrangement → ℕ) (kept : List ℕ → List ℕ)
    (joins : (k l : List ℕ) → kept (k ++ l) ≡ kept k ++ kept l) {l : List Timed} {B : Arrangement} {t : Timed} (w : Turn F l B t) (N : ℕ)
    (fits : t.step ≤ N) where
  -- where the move changes nothing
  same_grows : ((i : ℕ) → t.step ≤ i → h (arranged A (t ∷ l) i) ≡ h (arranged A l i))
      → kept (changed (h B) (h (after_move B t.move))) ≡ [] → Grown A h kept l B t N
  same_grows same none =
      let f : ℕ → ℕ = λ i. h (arranged A l i) in
      ap kept (course-same (λ i. h (arranged A (t ∷ l) i)) f N
      (λ i b. dite (dec_le t.step i) (same i) (λ c. ap h (arranged-before A t l i (omega arith)))))
      ∙ sym (ap (λ (k : List ℕ). kept (course f N) ++ k) none ∙ append-nil (kept (course f N)))

  -- where it changes what is read from its step on, and nothing else does
  settled_grows : ((i : ℕ) → t.step ≤ i → h (arranged A l i) ≡ h B)
      → ((i : ℕ) → t.step ≤ i → h (arranged A (t ∷ l) i) ≡ h (after_move B t.move))
      → ((i : ℕ) → t.step ≡ suc i → kept (changed (h (arranged A l i)) (h (after_move B t.move)))
      ≡ kept (changed (h (arranged A l i)) (h B)) ++ kept (changed (h B) (h (after_move B t.move))))
      → Grown A h kept l B t N
  settled_grows before behind one =
      let s = t.step - 1 in
      let e : t.step ≡ suc s = omega (arith, (by_rule_bounds w.ruled).0) in
      let f : ℕ → ℕ = λ i. h (arranged A l i) in
      let g : ℕ → ℕ = λ i. h (arranged A (t ∷ l) i) in
      let b = h (after_move B t.move) in
      let alike : (i : ℕ) → i ≤ s → g i ≡ f i = λ i c. ap h (arranged-before A t l i (omega arith)) in
      let g_is : course g N ≡ course f s ++ changed (f s) b =
      course_settled g b s N (omega arith) (λ i c. behind i (omega arith))
      ∙ ap₂ (λ (k : List ℕ) (x : ℕ). k ++ changed x b) (course-same g f s alike) (alike s (omega arith)) in
      let f_is : course f N ≡ course f s ++ changed (f s) (h B) =
      course_settled f (h B) s N (omega arith) (λ i c. before i (omega arith)) in
      ap kept g_is ∙ joins (course f s) (changed (f s) b) ∙ ap (λ (k : List ℕ). kept (course f s) ++ k) (one s e)
      ∙ sym (append_assoc (kept (course f s)) (kept (changed (f s) (h B))) (kept (changed (h B) b)))
      ∙ ap (λ (k : List ℕ). k ++ kept (changed (h B) b)) (sym (ap kept f_is ∙ joins (course f s) (changed (f s) (h B))))

module _ {F : Floor} {A B : Arrangement} {l : List Timed} {t : Timed} (s : Scheduled F A l B) (w : Turn F l B t) where
  more : Scheduled F A (t ∷ l) (after_move B t.move)
  more = turn_scheduled s w

  in_turn : of_rack l (suc w.index) < t.step
  in_turn = subst (λ (r : ℕ). of_rack l r < t.step) w.own (by_rule_bounds w.ruled).0

  -- the rack waits where the move takes it from, from the step before its own on
  waits : (i : ℕ) → t.step ≤ suc i → get_or (arranged A l i) w.index 0 ≡ get_or B w.index 0
  waits i h = s.stood i w.index w.is (omega (arith, in_turn))

  stands_by : (i : ℕ) → w.index < length (arranged A l i)
  stands_by i = rw (s.racks i) w.is

  arrives : (i : ℕ) → t.step ≤ i → get_or (arranged A (t ∷ l) i) w.index 0 ≡ get_or (after_move B t.move) w.index 0
  arrives i h =
      more.stood i w.index (rw (move-length B t.move) w.is)
      (omega (arith, of_rack-same t l (suc w.index) w.own))

  module _ (N : ℕ) (fits : t.step ≤ N) where
    route_grown : (q : ℕ) → q < length B → Grown A (λ C. get_or C q 0) (λ k. k) l B t N
    route_grown q b = ⊎_elim own other (equal? q w.index)
      where
        own : q ≡ w.index → Grown A (λ C. get_or C q 0) (λ k. k) l B t N
        own e =
            rw e
            (settled_grows A (λ C. get_or C w.index 0) (λ k. k) (λ k m. refl) w N fits (λ i c. waits i (omega arith)) arrives
            (λ i c. rw (changed-same _ (get_or B w.index 0) (waits i (omega arith)), waits i (omega arith))))

        away : (C : Arrangement) → Sound F.positions C → w.index < length C → get_or C w.index 0 ≡ t.move.0 → q ≢ w.index
            → q < length C → get_or (after_move C t.move) q 0 ≡ get_or C q 0
        away C sound is at ne h = moved_other C t.move q h (λ c. ne (sound.apart q w.index h is (c ∙ sym at)))

        other : q ≢ w.index → Grown A (λ C. get_or C q 0) (λ k. k) l B t N
        other ne =
            same_grows A (λ C. get_or C q 0) (λ k. k) (λ k m. refl) w N fits
            (λ i c.
            ap (λ (C : Arrangement). get_or C q 0) (arranged-from A t l i c)
            ∙ away (arranged A l i) (s.sound i) (stands_by i) (waits i (omega arith) ∙ w.at) ne (rw (s.racks i) b))
            (changed-same (get_or B q 0) _ (sym (away B w.sound w.is w.at ne b)))

    visits_grown : (p : ℕ) → Grown A (λ C. rack_at C p) racks_among l B t N
    unfolding racks_among
    visits_grown p = ⊎_elim comes (λ c. ⊎_elim goes (other c) (equal? p t.move.0)) (equal? p t.move.1)
      where
        legal_free : T (vacant B t.move.1)
        legal_free = ((legal_parts F B t.move).0 w.legal).2

        free_in_time : of_leaving l t.move.1 ≤ t.step
        free_in_time = (by_rule_bounds w.ruled).1

        found : (i : ℕ) → t.step ≤ suc i → rack_at (arranged A l i) t.move.0 ≡ suc w.index
        found i h = rack_is F.positions (arranged A l i) t.move.0 w.index (s.sound i) (stands_by i) (waits i h ∙ w.at)

        comes : p ≡ t.move.1 → Grown A (λ C. rack_at C p) racks_among l B t N
        comes e =
            let here = entered_rack F B t.move w.legal w.sound w.index w.is w.at in
            let empty = entered-empty F B t.move w.legal w.sound in
            rw e
            (settled_grows A (λ C. rack_at C t.move.1) racks_among racks_append w N fits
            (λ i c.
            rack_at_none (arranged A l i) t.move.1 (s.vacated i t.move.1 legal_free (omega (arith, free_in_time))) ∙ sym empty)
            (λ i c. rack_is F.positions (arranged A (t ∷ l) i) t.move.1 w.index (more.sound i) (rw (more.racks i)
            (rw (move-length B t.move) w.is)) (arrives i c ∙ moved_rack B t.move w.index w.is w.at) ∙ sym here)
            (λ i c.
            let away : get_or (arranged A l i) w.index 0 ≢ t.move.1 =
            λ d. legal_apart F B t.move w.legal (sym (waits i (omega arith) ∙ w.at) ∙ d) in
            rw (
              here,
              empty,
              racks_come _ w.index (rack_not (arranged A l i) t.move.1 w.index away),
              racks_go,
              racks_come 0 w.index (λ d. omega arith),
            )))

        goes : p ≡ t.move.0 → Grown A (λ C. rack_at C p) racks_among l B t N
        goes e =
            let here = left_rack F B t.move w.legal w.sound w.index w.is w.at in
            let empty = left-empty F B t.move w.legal w.sound in
            rw e
            (settled_grows A (λ C. rack_at C t.move.0) racks_among racks_append w N fits
            (λ i c. found i (omega arith) ∙ sym here)
            (λ i c.
            let free = left-vacant F B t.move w.legal w.sound in
            rack_at_none (arranged A (t ∷ l) i) t.move.0
            (more.vacated i t.move.0 free (omega (arith, of_leaving-same t l t.move.0 refl)))
            ∙ sym empty)
            (λ i c.
            rw (here, empty, found i (omega arith), changed-same (suc w.index) (suc w.index) refl, racks_go)))

        other : p ≢ t.move.1 → p ≢ t.move.0 → Grown A (λ C. rack_at C p) racks_among l B t N
        other c d =
            same_grows A (λ C. rack_at C p) racks_among racks_append w N fits
            (λ i b.
            let sound = subst (Sound F.positions) (arranged-from A t l i b) (more.sound i) in
            ap (λ (C : Arrangement). rack_at C p) (arranged-from A t l i b)
            ∙ others_same F.positions (arranged A l i) t.move sound p d c)
            (ap racks_among (changed-same (rack_at B p) _ (sym (turn_others w p d c))))

ends_sound : {F : Floor} {A B : Arrangement} {l : List Timed} → Scheduled F A l B → Sound F.positions B
ends_sound {F} {l} s = subst (Sound F.positions) (s.last (greatest l) (omega arith)) (s.sound (greatest l))

module _ {F : Floor} {A : Arrangement} {h : Arrangement → ℕ} {kept : List ℕ → List ℕ} {told : List Timed → List ℕ}
    (read : Read F A h kept told)
    (grown : (l : List Timed) (B : Arrangement) (t : Timed) → Scheduled F A l B → Turn F l B t → length B ≡ length A → (N : ℕ) → t.step ≤ N
    → Grown A h kept l B t N) where
  made_on : (l : List Timed) {B C : Arrangement} {ms : List (ℕ × ℕ)} → Scheduled F A l B → length B ≡ length A → Leads F B ms C
      → ((N : ℕ) → greatest l ≤ N → kept (course (λ i. h (arranged A l i)) N) ≡ told l)
      → (N : ℕ) → greatest (reverse_aux (timed B l ms) l) ≤ N
      → kept (course (λ i. h (arranged A (reverse_aux (timed B l ms) l) i)) N) ≡ told (reverse_aux (timed B l ms) l)
  unfolding timed
  made_on l s e still so = so
  made_on l s e (◌then◌ {A = B} {x = m} legal p) so =
      let t = timed_as l B m in
      let w = turn_of F l B m (ends_sound s) legal in
      made_on (t ∷ l) (turn_scheduled s w) (move-length B m ∙ e) p
      (λ N b.
      grown l B t s w e N (omega (arith, greatest_most t l, b))
      ∙ ap (λ (k : List ℕ). k ++ kept (changed (h B) (h (after_move B m)))) (so N (omega (arith, greatest_most t l, b)))
      ∙ sym (read.next e w))

  made_told : {ms : List (ℕ × ℕ)} {C : Arrangement} → Sound F.positions A → Leads F A ms C
      → kept (course (λ i. h (arranged A (history A ms) i)) (greatest (history A ms))) ≡ told (history A ms)
  unfolding arranged
  made_told {ms} sound p =
      made_on [] (scheduled_none F A sound) refl p (λ N b. ap kept (course_still (h A) N) ∙ sym read.first) (greatest (history A ms))
      (omega arith)

module _ {F : Floor} {A B : Arrangement} {l : List Timed} (s : Scheduled F A l B) where
  trace-arranged : (k i x : ℕ) → x ≤ k → get_or (trace after (arranged A l i) (steps_from (suc i) k l)) x [] ≡ arranged A l (i + x)
  unfolding trace steps_from moves_in
  trace-arranged zero i zero h = rw add-zero
  trace-arranged zero i (suc x) h = absurd (omega arith)
  trace-arranged (suc k) i zero h = rw add-zero
  trace-arranged (suc k) i (suc x) h = rw (step_moves-after (s.steps i), add-suc, ← suc-add) (trace-arranged k (suc i) x (omega arith))

module _ (F : Floor) {A C : Arrangement} {ms : List (ℕ × ℕ)} (sound : Sound F.positions A) (p : Leads F A ms C) where
  -- what is read off the made timetable's arrangements
  made-course : (h : Arrangement → ℕ)
      → changes (map h (trace after A (made_steps A ms))) ≡ course (λ i. h (arranged A (history A ms) i)) (greatest (history A ms))
  made-course h =
      let s = plan_scheduled (scheduled_none F A sound) p in
      let l = history A ms in
      let steps = steps_from 1 (greatest l) l in
      let here : (i : ℕ) → i ≤ greatest l → get_or (trace after A steps) i [] ≡ arranged A l i =
      λ i b. rw (s.first, zero-add) at (trace-arranged s (greatest l) 0 i b) in
      ap (λ (k : List (List (ℕ × ℕ))). changes (map h (trace after A k))) (steps_made F sound p)
      ∙ trace-course h after A steps
      ∙ ap (course (λ i. h (get_or (trace after A steps) i []))) (steps_length_lem (greatest l) 1 l)
      ∙ course-same (λ i. h (get_or (trace after A steps) i [])) (λ i. h (arranged A l i)) (greatest l) (λ i b. ap h (here i b))

  pub made-route : (q : ℕ) → q < length A → route (trace after A (made_steps A ms)) (suc q) ≡ told_route A (history A ms) q
  made-route q b =
      route-place (trace after A (made_steps A ms)) q ∙ made-course (λ B. get_or B q 0)
      ∙ made_told (read_route F A q b) (λ l B t s w e N fits. route_grown s w N fits q (rw e b)) sound p

  pub made-visits : (x : ℕ) → visitors (trace after A (made_steps A ms)) x ≡ told_visits A (history A ms) x
  unfolding visitors
  made-visits x =
      ap racks_among (made-course (λ B. rack_at B x))
      ∙ made_told (read_visits F A x) (λ l B t s w e N fits. visits_grown s w N fits x) sound p
