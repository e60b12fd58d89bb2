-- Along the plan: at every instant before a move's step, another timetable with the same routes and visitors has not made that move; and if
-- it makes it just in that step, then not in an earlier place of its chain. So it has at least as many steps as the greatest.
--
--     Left F S p v s z     there the position p has at most v visitors before the step s; and who comes to it next just in that step has
--                          more than z moves from its own to its leader
--     Behind F A l B S N   the arrangements S 0 to S N are behind the moves l, which lead from A to B: before the step of a rack's latest
--                          move its route there is shorter, and of a vacant position the visitors are told up to the step in which it was
--                          last left, at the place that its move had
--     behind_none          before the first move
--     behind_more          one more move, in the step that the rule gives it
--     behind-all           so after the whole plan
-- Assumes nothing.
use Prim.Native.Nat.{ℕ, zero, suc, ◌≤◌, ◌<◌}
use mathlib.Core.Path.{◌≡◌, refl, sym, ◌∙◌, ap, subst}
use mathlib.Core.Logic.{◌≢◌, ⊎_elim, dite}
use mathlib.Core.List.{List, [], ◌∷◌, reverse_aux}
use native.Mathlib.Omega.{arith}
use native.Mathlib.Decide.{dec_le, dec_lt}
use lib.Dec.{T}
use lib.ListN.{length, get_or, length-append}
use Rattle.order.specs.Floor.{Floor}
use Rattle.motion.specs.Arrangement.{Arrangement, vacant}
use Rattle.motion.proofs.ArrangementLaws.{vacant-racks}
use Rattle.motion.specs.Move.{after_move}
use Rattle.motion.proofs.MoveLaws.{on_floor_parts, legal_parts, move-length, moved_rack, moved_other}
use Rattle.motion.proofs.Lawful.{Leads, still, ◌then◌}
use Rattle.motion.specs.Sound.{Sound}
use Rattle.motion.proofs.SoundLaws.{move_sound}
use Rattle.motion.proofs.Test.{equal?}
use Rattle.motion.specs.LegalStep.{longest_train, Train, leader, follows}
use Rattle.scheduling.specs.Making.{Timed, of_rack, of_leaving, place_leaving, timed, greatest}
use Rattle.scheduling.proofs.Timing.{ByRule, leads, behind, later, of_rack-same, of_rack_other, of_leaving-same, of_leaving_other}
use Rattle.scheduling.proofs.Timing.{place_leaving-same, place_leaving_other, of_leaving_most}
use Rattle.optimality.proofs.Beginnings.{last_or, last_or_append}
use Rattle.optimality.proofs.Course.{course, changes_to, course_step}
use Rattle.optimality.proofs.Told.{told_route, told_visits, timed_as, Turn, turn_of, told_own, told_others, told_elsewhere, told-some}
use Rattle.optimality.proofs.Instants.{route_by, visits_by, Makes, Passes, before_entering, before_leaving, in_time}
use Rattle.optimality.proofs.Instants.{just_made, just_left}

train-some : {A : Arrangement} {ms : List (ℕ × ℕ)} {k : ℕ} {m : ℕ × ℕ} → Train A ms k m → 0 < k
train-some (leader n v) = omega arith
train-some (follows n e t) = omega arith

pub record Left (F : Floor) (S : ℕ → Arrangement) (p v s z : ℕ) : Type 0 where
  pub waits : (i : ℕ) → i < s → length (visits_by S p i) ≤ v
  pub behind : (i : ℕ) → suc i ≡ s → (x : Makes F S i) → v < length (visits_by S p (suc i)) → {k : ℕ} {m : ℕ × ℕ} → m.1 ≡ p
      → Train (S i) x.moves k m → z < k

pub record Behind (F : Floor) (A : Arrangement) (l : List Timed) (B : Arrangement) (S : ℕ → Arrangement) (N : ℕ) : Type 0 where
  pub racks : length B ≡ length A
  -- each route has come to where its rack stands
  pub at : (q : ℕ) → q < length A → last_or 0 (told_route A l q) ≡ get_or B q 0
  pub moved : (q : ℕ) → q < length A → (i : ℕ) → i < of_rack l (suc q) → length (route_by S q i) < length (told_route A l q)
  pub left : (p : ℕ) → p < F.positions → T (vacant B p) → Left F S p (length (told_visits A l p)) (of_leaving l p) (place_leaving l p)
  pub within : greatest l ≤ N

pub behind_none : (F : Floor) (A : Arrangement) (S : ℕ → Arrangement) (N : ℕ) → Behind F A [] A S N
unfolding told_route last_or of_rack of_leaving greatest
behind_none F A S N =
    record {
      racks = refl;
      at = λ q h. refl;
      moved = λ q h i b. absurd (omega arith);
      left = λ p h v. record { waits = λ i b. absurd (omega arith); behind = λ i e. absurd (omega arith) };
      within = omega arith;
    }

module _ {F : Floor} {A B : Arrangement} {S : ℕ → Arrangement} {N : ℕ} (ts : List Timed) (t : Timed) (l : List Timed)
    (w : Passes F A (reverse_aux ts (t ∷ l)) S N) (turn : Turn F l B t) (b : Behind F A l B S N) where
  own_rack : turn.index < length A
  own_rack = subst (λ (n : ℕ). turn.index < n) b.racks turn.is

  -- after the step of the rack's move before, it has made no more than that move and not yet this one
  by_rack : (i : ℕ) → i ≤ of_rack l (suc turn.index) → length (route_by S turn.index i) ≤ length (told_route A l turn.index)
  unfolding course changes_to
  by_rack zero h = told-some A l turn.index
  by_rack (suc i) h =
      omega (arith, course_step (λ k. get_or (S k) turn.index 0) i, b.moved turn.index own_rack i (omega arith))

  entered_left : Left F S t.move.1 (length (told_visits A l t.move.1)) (of_leaving l t.move.1) (place_leaving l t.move.1)
  entered_left =
      let legal = (legal_parts F B t.move).0 turn.legal in
      b.left t.move.1 ((on_floor_parts F t.move).0 legal.0).1 legal.2

  left-within : of_leaving l t.move.1 ≤ N
  left-within = omega (arith, of_leaving_most l t.move.1, b.within)

  by_position : (i : ℕ) → i < of_leaving l t.move.1 → length (route_by S turn.index i) ≤ length (told_route A l turn.index)
  by_position i h = before_entering ts t l w turn b.racks i (omega (arith, left-within)) (entered_left.waits i h)

  here : last_or 0 (told_route A l turn.index) ≡ t.move.0
  here = b.at turn.index own_rack ∙ turn.at

  -- if the other timetable makes the move just in the step in which the plan's leaves the position entered, its chain there is longer
  by_chain : (i : ℕ) → suc i ≡ of_leaving l t.move.1 → length (told_route A l turn.index) < length (route_by S turn.index (suc i))
      → (x : Makes F S i) {k : ℕ} {m : ℕ × ℕ} → m.1 ≡ t.move.1 → Train (S i) x.moves k m → place_leaving l t.move.1 < k
  by_chain i e on x =
      entered_left.behind i e x
      (dite (dec_lt (length (told_visits A l t.move.1)) (length (visits_by S t.move.1 (suc i)))) (λ h. h)
      (λ h. absurd (omega (arith, on, before_entering ts t l w turn b.racks (suc i) (omega (arith, left-within)) (omega arith)))))

  -- no chain is longer than the longest train, so that what would be one too many is not made in that step
  by_length : longest_train ≤ place_leaving l t.move.1 → (i : ℕ) → suc i ≡ of_leaving l t.move.1
      → length (route_by S turn.index (suc i)) ≤ length (told_route A l turn.index)
  by_length full i e =
      dite (dec_lt (length (told_route A l turn.index)) (length (route_by S turn.index (suc i))))
      (λ on.
      let h : suc i ≤ N = omega (arith, left-within) in
      let x = w.makes i h in
      let made = just_made ts t l w turn b.racks here i h (by_position i (omega arith)) on x in
      let chain = x.legal.trains made.0 made.1 in
      absurd (omega (arith, full, chain.1, by_chain i e on x {k = chain.0} {m = made.0} made.2 chain.2)))
      (λ h. omega arith)

  late : (i : ℕ) → i < t.step → length (route_by S turn.index i) ≤ length (told_route A l turn.index)
  late = late_by turn.ruled
    where
      own : of_rack l t.rack ≡ of_rack l (suc turn.index)
      own = ap (of_rack l) turn.own

      late_by : {q : ℕ} → ByRule l t.rack t.move t.step q → (i : ℕ) → i < t.step
          → length (route_by S turn.index i) ≤ length (told_route A l turn.index)
      late_by (leads a e) i h = by_rack i (omega (arith, own))
      late_by (behind a e c) i h = by_position i (omega arith)
      late_by (later a e c) zero h = by_rack 0 (omega arith)
      late_by (later a e c) (suc i) h =
          dite (dec_lt (suc i) (of_leaving l t.move.1)) (by_position (suc i)) (λ d. by_length c i (omega arith))

  -- the chain of the plan's move, made just in its step
  chained : (i : ℕ) → suc i ≡ t.step → length (told_route A l turn.index) < length (route_by S turn.index (suc i)) → (x : Makes F S i)
      → {q : ℕ} → ByRule l t.rack t.move t.step q → {k : ℕ} {m : ℕ × ℕ} → m.1 ≡ t.move.1 → Train (S i) x.moves k m → q ≤ k
  chained i e on x (leads a d) c tr = train-some tr
  chained i e on x (behind a d f) c tr = by_chain i (e ∙ sym d) on x c tr
  chained i e on x (later a d f) c tr = train-some tr

  more_within : t.step ≤ N
  more_within = dite (dec_le t.step N) (λ h. h) (λ h. absurd (in_time ts t l w turn b.racks (late N (omega arith))))

  abbrev B' : Arrangement
  B' = after_move B t.move

  elsewhere : (q : ℕ) → q < length A → q ≢ turn.index → get_or B q 0 ≢ t.move.0
  elsewhere q h ne e = ne (turn.sound.apart q turn.index (rw b.racks h) turn.is (e ∙ sym turn.at))

  more_at : (q : ℕ) → q < length A → last_or 0 (told_route A (t ∷ l) q) ≡ get_or B' q 0
  unfolding last_or
  more_at q h =
      let is : q < length B = rw b.racks h in
      ⊎_elim
      (λ (e : q ≡ turn.index).
      ap (last_or 0) (told_own A t l q (turn.own ∙ ap suc (sym e))) ∙ last_or_append 0 (told_route A l q) (t.move.1 ∷ [])
      ∙ sym (moved_rack B t.move q is (ap (λ (i : ℕ). get_or B i 0) e ∙ turn.at)))
      (λ (e : q ≢ turn.index).
      ap (last_or 0) (told_others A t l q (λ c. e (omega (arith, turn.own)))) ∙ b.at q h
      ∙ sym (moved_other B t.move q is (elsewhere q h e)))
      (equal? q turn.index)

  more_moved : (q : ℕ) → q < length A → (i : ℕ) → i < of_rack (t ∷ l) (suc q) → length (route_by S q i) < length (told_route A (t ∷ l) q)
  more_moved q h i c =
      ⊎_elim
      (λ (e : q ≡ turn.index).
      let own : t.rack ≡ suc q = turn.own ∙ ap suc (sym e) in
      let before : length (route_by S q i) ≤ length (told_route A l q) = rw e (late i (omega (arith, of_rack-same t l (suc q) own))) in
      omega (arith, ap length (told_own A t l q own) ∙ length-append (told_route A l q) (t.move.1 ∷ [])))
      (λ (e : q ≢ turn.index).
      let other : t.rack ≢ suc q = λ d. e (omega (arith, turn.own)) in
      rw (told_others A t l q other) (b.moved q h i (rw (of_rack_other t l (suc q) other) at c)))
      (equal? q turn.index)

  own_left : Left F S t.move.0 (length (told_visits A l t.move.0)) t.step t.place
  own_left =
      record {
        waits = λ i h. before_leaving ts t l w turn b.racks here i (omega (arith, more_within)) (late i h);
        behind =
            λ i e x on {k} {m} c tr.
            let j = just_left ts t l w turn b.racks here i (omega (arith, more_within)) (late i (omega arith)) on x c tr in
            omega (arith, j.1, chained i e j.3 x turn.ruled j.2.1 j.2.2);
      }

  -- the position that the move leaves is vacant after it; the others that are were so before
  more_left : (p : ℕ) → p < F.positions → T (vacant B' p)
      → Left F S p (length (told_visits A (t ∷ l) p)) (of_leaving (t ∷ l) p) (place_leaving (t ∷ l) p)
  more_left p h v =
      let free = (vacant-racks B' p).0 v in
      let entered : t.move.1 ≢ p = λ e. free turn.index (rw (move-length B t.move) turn.is)
      (moved_rack B t.move turn.index turn.is turn.at ∙ e) in
      rw (told_elsewhere A t l p entered)
      (⊎_elim
      (λ (e : t.move.0 ≡ p). rw (of_leaving-same t l p e, place_leaving-same t l p e, ← e) own_left)
      (λ (e : t.move.0 ≢ p).
      let before : T (vacant B p) = (vacant-racks B p).1
      (λ j k d. free j (rw (move-length B t.move) k) (moved_other B t.move j k (λ f. e (sym f ∙ d)) ∙ d)) in
      rw (of_leaving_other t l p e, place_leaving_other t l p e) (b.left p h before))
      (equal? t.move.0 p))

  pub behind_more : Behind F A (t ∷ l) B' S N
  unfolding greatest
  behind_more =
      record {
        racks = move-length B t.move ∙ b.racks;
        at = more_at;
        moved = more_moved;
        left = more_left;
        within = omega (arith, more_within, b.within);
      }

pub behind-all : {F : Floor} {A B C : Arrangement} {S : ℕ → Arrangement} {N : ℕ} (l : List Timed) {ms : List (ℕ × ℕ)}
    → Sound F.positions B → Leads F B ms C → Passes F A (reverse_aux (timed B l ms) l) S N → Behind F A l B S N
    → Behind F A (reverse_aux (timed B l ms) l) C S N
unfolding timed
behind-all l s still w b = b
behind-all {F} l s (◌then◌ {A = B} {x = m} {xs = ms} legal p) w b =
    let t = timed_as l B m in
    behind-all (t ∷ l) (move_sound F B m legal s) p w
    (behind_more (timed (after_move B m) (t ∷ l) ms) t l w (turn_of F l B m s legal) b)
