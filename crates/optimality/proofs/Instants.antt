-- What holds at an instant of another timetable. Its arrangements are S 0 to S N, from each a legal step makes the next, and over all of
-- them the routes and visitors are those of the plan. No step of the made timetable is spoken of: only how far the routes and the visitors
-- have come, at the instant and after some moves of the plan.
--
--     route_by S q i      the route of rack q + 1 through S 0 to S i
--     visits_by S p i     the visitors of p through S 0 to S i
--     Makes F S i        a legal step that makes S (i + 1) of S i
--     Passes F A L S N   S 0 to S N are sound, made by legal steps, and their routes and visitors are those that the moves L tell from A on
--     by-times           at each instant a rack has visited p as often as p stands in its route
--     by-route, by-visits   what was at an instant is a beginning of what all moves tell
--     before_entering    a rack has not moved on while the position that it enters has no later visitor
--     before_leaving     a position has no later visitor while the rack that leaves it has not moved on
--     in_time            at the last instant the rack has moved on
--     just_made          where the rack moves on just in a step, that step has the plan's move
--     just_left          where the next visitor comes to the position left just in a step, it follows the plan's move, made in that step
-- Assumes nothing.
use Prim.Native.Nat.{ℕ, suc, ◌≤◌, ◌<◌}
use mathlib.Core.Path.{◌≡◌, refl, sym, ◌∙◌, ap, subst}
use mathlib.Core.Logic.{dite}
use mathlib.Core.List.{List, [], ◌∷◌, ◌++◌, reverse_aux, Memᴰ}
use native.Mathlib.Omega.{arith}
use native.Mathlib.Decide.{dec_lt}
use lib.ListN.{length, get_or, length-append}
use Rattle.order.specs.Floor.{Floor}
use Rattle.motion.specs.Arrangement.{Arrangement, rack_at}
use Rattle.motion.proofs.ArrangementLaws.{vacant-racks}
use Rattle.motion.specs.Move.{goes_to, after}
use Rattle.motion.proofs.MoveLaws.{on_floor_parts, legal_parts, legal_apart, after-at}
use Rattle.motion.specs.LegalStep.{Train, leader, follows, LegalStep}
use Rattle.motion.proofs.LegalStepLaws.{legal_move_lem}
use Rattle.motion.proofs.Trains.{train_member}
use Rattle.motion.proofs.StepTestsLaws.{Goes, taken, stays, goes_to_cases, goes_to_takes}
use Rattle.motion.specs.Sound.{Sound}
use Rattle.scheduling.specs.Making.{Timed}
use Rattle.optimality.proofs.Beginnings.{Begins, begins_same, times, last_or, last_or_append, enters_late, comes_late, leaves_late}
use Rattle.optimality.proofs.Course.{changed_other, course, course-next, course_begins, course_step, course_last, course-times}
use Rattle.optimality.proofs.Course.{racks-times, calls, calls_begins, calls_step, calls_last}
use Rattle.optimality.proofs.Occupants.{rack_is, rack_place}
use Rattle.optimality.proofs.Told.{told_route, told_visits, told_own, told-times, route_begins, visits_begins, Turn}

abbrev pub route_by : (ℕ → Arrangement) → ℕ → ℕ → List ℕ
route_by S q i = course (λ k. get_or (S k) q 0) i

abbrev pub visits_by : (ℕ → Arrangement) → ℕ → ℕ → List ℕ
visits_by S p i = calls (λ k. rack_at (S k) p) i

pub record Makes (F : Floor) (S : ℕ → Arrangement) (i : ℕ) : Type 0 where
  pub moves : List (ℕ × ℕ)
  pub legal : LegalStep F (S i) moves
  pub leads : S (suc i) ≡ after (S i) moves

pub record Passes (F : Floor) (A : Arrangement) (L : List Timed) (S : ℕ → Arrangement) (N : ℕ) : Type 0 where
  pub start : Sound F.positions A
  pub sound : (i : ℕ) → i ≤ N → Sound F.positions (S i)
  pub racks : (i : ℕ) → i ≤ N → length (S i) ≡ length A
  pub makes : (i : ℕ) → i < N → Makes F S i
  pub routes : (q : ℕ) → q < length A → route_by S q N ≡ told_route A L q
  pub visits : (p : ℕ) → p < F.positions → visits_by S p N ≡ told_visits A L p

module _ {F : Floor} {A : Arrangement} {L : List Timed} {S : ℕ → Arrangement} {N : ℕ} (w : Passes F A L S N) (i : ℕ) (h : i ≤ N) where
  pub by-times : (p q : ℕ) → q < length A → times (suc q) (visits_by S p i) ≡ times p (route_by S q i)
  unfolding calls
  by-times p q b =
      racks-times q (course (λ k. rack_at (S k) p) i)
      ∙ course-times (λ k. rack_at (S k) p) (λ k. get_or (S k) q 0) (suc q) p i
      (λ k c. rack_place F.positions (S k) p q (w.sound k (omega arith)) (rw (w.racks k (omega arith)) b))

  pub by-route : (q : ℕ) → q < length A → Begins (route_by S q i) (told_route A L q)
  by-route q b = subst (Begins (route_by S q i)) (w.routes q b) (course_begins (λ k. get_or (S k) q 0) i N h)

  pub by-visits : (p : ℕ) → p < F.positions → Begins (visits_by S p i) (told_visits A L p)
  by-visits p b = subst (Begins (visits_by S p i)) (w.visits p b) (calls_begins (λ k. rack_at (S k) p) i N h)

-- The move t of the plan, after the moves l and before the moves ts
module _ {F : Floor} {A B : Arrangement} {S : ℕ → Arrangement} {N : ℕ} (ts : List Timed) (t : Timed) (l : List Timed)
    (w : Passes F A (reverse_aux ts (t ∷ l)) S N) (turn : Turn F l B t) (racks : length B ≡ length A) where
  is : turn.index < length A
  is = subst (λ (n : ℕ). turn.index < n) racks turn.is

  -- after the move the route goes on to the position entered
  goes_on : Begins (told_route A l turn.index ++ t.move.1 ∷ []) (told_route A (reverse_aux ts (t ∷ l)) turn.index)
  goes_on =
      subst (λ (k : List ℕ). Begins k (told_route A (reverse_aux ts (t ∷ l)) turn.index)) (told_own A t l turn.index turn.own)
      (route_begins A ts (t ∷ l) turn.index)

  pub before_entering : (i : ℕ) → i ≤ N → length (visits_by S t.move.1 i) ≤ length (told_visits A l t.move.1)
      → length (route_by S turn.index i) ≤ length (told_route A l turn.index)
  before_entering i h few =
      let p = t.move.1 in
      let below = ((on_floor_parts F t.move).0 ((legal_parts F B t.move).0 turn.legal).0).1 in
      enters_late (suc turn.index) p (told_route A l turn.index) (by-visits w i h p below) (visits_begins A (t ∷ ts) l p)
      (by-times w i h p turn.index is) (told-times F.positions A w.start p turn.index is l)
      (by-route w i h turn.index is) goes_on few

  pub before_leaving : last_or 0 (told_route A l turn.index) ≡ t.move.0 → (i : ℕ) → i ≤ N
      → length (route_by S turn.index i) ≤ length (told_route A l turn.index)
      → length (visits_by S t.move.0 i) ≤ length (told_visits A l t.move.0)
  before_leaving at i h few =
      let p = t.move.0 in
      let below = ((on_floor_parts F t.move).0 ((legal_parts F B t.move).0 turn.legal).0).0 in
      leaves_late (suc turn.index) p (told_route A l turn.index) (by-visits w i h p below) (visits_begins A (t ∷ ts) l p)
      (by-times w i h p turn.index is) (told-times F.positions A w.start p turn.index is l)
      (by-route w i h turn.index is) (route_begins A (t ∷ ts) l turn.index) at
      (λ e. calls_last (λ k. rack_at (S k) p) i turn.index
      (rack_is F.positions (S i) p turn.index (w.sound i h) (rw (w.racks i h) is)
      (sym (course_last (λ k. get_or (S k) turn.index 0) i) ∙ e)))
      few

  pub in_time : length (route_by S turn.index N) ≤ length (told_route A l turn.index) → ⊥
  in_time h =
      let on = goes_on in
      omega (
        arith,
        ap length (w.routes turn.index is),
        ap length on.whole ∙ length-append (told_route A l turn.index ++ t.move.1 ∷ []) on.rest,
        length-append (told_route A l turn.index) (t.move.1 ∷ []),
      )

  -- where the route has come just as far as the plan's, the rack stands where the plan's move takes it from
  module _ (end : last_or 0 (told_route A l turn.index) ≡ t.move.0) (i : ℕ) (h : suc i ≤ N) where
    waits : length (route_by S turn.index i) ≡ length (told_route A l turn.index) → get_or (S i) turn.index 0 ≡ t.move.0
    waits e =
        sym (course_last (λ k. get_or (S k) turn.index 0) i)
        ∙ ap (last_or 0) (begins_same (by-route w i (omega arith) turn.index is) (route_begins A (t ∷ ts) l turn.index) e) ∙ end

    arrives : length (route_by S turn.index (suc i)) ≡ suc (length (told_route A l turn.index))
        → get_or (S (suc i)) turn.index 0 ≡ t.move.1
    unfolding last_or
    arrives e =
        sym (course_last (λ k. get_or (S k) turn.index 0) (suc i))
        ∙ ap (last_or 0) (begins_same (by-route w (suc i) h turn.index is) goes_on
        (e ∙ sym (length-append (told_route A l turn.index) (t.move.1 ∷ []) ∙ omega arith)))
        ∙ last_or_append 0 (told_route A l turn.index) (t.move.1 ∷ [])

    goes : (x : Makes F S i) → get_or (S (suc i)) turn.index 0 ≡ goes_to x.moves (get_or (S i) turn.index 0)
    goes x =
        ap (λ (C : Arrangement). get_or C turn.index 0) x.leads
        ∙ after-at (S i) x.moves turn.index (rw (w.racks i (omega arith)) is)

    pub just_made : length (route_by S turn.index i) ≤ length (told_route A l turn.index)
        → length (told_route A l turn.index) < length (route_by S turn.index (suc i)) → (x : Makes F S i)
        → (m : ℕ × ℕ) × Memᴰ m x.moves × (m.1 ≡ t.move.1)
    just_made few more x =
        let far = course_step (λ k. get_or (S k) turn.index 0) i in
        found (goes_to_cases x.moves t.move.0)
        (ap (goes_to x.moves) (sym (waits (omega (arith, far)))) ∙ sym (goes x) ∙ arrives (omega (arith, far)))
      where
        found : Goes x.moves t.move.0 → goes_to x.moves t.move.0 ≡ t.move.1
            → (m : ℕ × ℕ) × Memᴰ m x.moves × (m.1 ≡ t.move.1)
        found (taken m k e g) c = (m, k, sym g ∙ c)
        found (stays n g) c = absurd (legal_apart F B t.move turn.legal (sym g ∙ c))

    -- the rack has not come to the position left for the last time, or waits there
    come : length (route_by S turn.index i) ≤ length (told_route A l turn.index)
        → length (told_visits A l t.move.0) < length (visits_by S t.move.0 (suc i))
        → length (route_by S turn.index i) ≡ length (told_route A l turn.index)
    come few more =
        let p = t.move.0 in
        let below = ((on_floor_parts F t.move).0 ((legal_parts F B t.move).0 turn.legal).0).0 in
        dite (dec_lt (length (route_by S turn.index i)) (length (told_route A l turn.index)))
        (λ c.
        let late = comes_late (suc turn.index) p (told_route A l turn.index) (by-visits w i (omega arith) p below)
        (visits_begins A (t ∷ ts) l p) (by-times w i (omega arith) p turn.index is)
        (told-times F.positions A w.start p turn.index is l) (by-route w i (omega arith) turn.index is)
        (route_begins A (t ∷ ts) l turn.index) end c in
        absurd (omega (arith, late, calls_step (λ k. rack_at (S k) p) i)))
        (λ c. omega arith)

    pub just_left : length (route_by S turn.index i) ≤ length (told_route A l turn.index)
        → length (told_visits A l t.move.0) < length (visits_by S t.move.0 (suc i)) → (x : Makes F S i)
        → {k : ℕ} {m : ℕ × ℕ} → m.1 ≡ t.move.0 → Train (S i) x.moves k m
        → (j : ℕ) × (k ≡ suc j) × ((m' : ℕ × ℕ) × (m'.1 ≡ t.move.1) × Train (S i) x.moves j m')
        × (length (told_route A l turn.index) < length (route_by S turn.index (suc i)))
    just_left few more x e (leader n v) =
        absurd ((vacant-racks (S i) _).0 v turn.index (rw (w.racks i (omega arith)) is) (waits (come few more) ∙ sym e))
    just_left few more x e (follows {k = j} {m' = m'} n e' tr) =
        let at : m'.0 ≡ t.move.0 = sym e' ∙ e in
        let k = train_member (S i) x.moves tr in
        let there : get_or (S (suc i)) turn.index 0 ≡ m'.1 =
        goes x ∙ ap (goes_to x.moves) (waits (come few more) ∙ sym at) ∙ goes_to_takes x.legal.ascending k in
        let grown : length (route_by S turn.index (suc i)) ≡ suc (length (told_route A l turn.index)) =
        ap length (course-next (λ k. get_or (S k) turn.index 0) i)
        ∙ ap (λ (y : List ℕ). length (route_by S turn.index i ++ y))
        (changed_other (get_or (S i) turn.index 0) (get_or (S (suc i)) turn.index 0)
        (λ c. legal_move_lem F (S i) x.moves x.legal k (at ∙ sym (waits (come few more)) ∙ c ∙ there)))
        ∙ length-append (route_by S turn.index i) (get_or (S (suc i)) turn.index 0 ∷ [])
        ∙ omega (arith, come few more) in
        (j, refl, (m', sym there ∙ arrives grown, tr), omega (arith, grown))
