-- A pass agrees with the making rule: for moves that are each legal at its turn, from a sound start, the tables hold what the rule asks
-- for, and the window holds the moves of its steps.
--
--     entry_of l i p          the entry of position p in the row of step i, by the timed moves l, latest first
--     entry_of-same, entry_of-place, entry_of_step    with one more move: its own entry, and another position's or step's
--     length-noted, noted-same, noted_other    a move noted in the window: the length stays, its own entry, and any other
--     number_ruled, step_ruled    the turn by the tables is the rule's, and so is the step
--     Agrees A l first P     the pass P, of a window of the steps after step `first`, agrees with the timed moves l,
--                            which left the arrangement A
--     agrees_started         before the first move it does
--     agrees_next            and after each move
--     agrees_pass            so it does after a plan's moves
-- Assumes nothing.
use Prim.Native.Nat.{ℕ, suc, ◌+◌, ◌-◌, ◌*◌, ◌/◌, ◌≤◌, ◌<◌}
use mathlib.Core.Path.{◌≡◌, refl, sym, ap, ◌∙◌}
use mathlib.Core.Bool.{cond}
use mathlib.Core.Logic.{◌≢◌, ⊎_elim, dite}
use mathlib.Core.List.Memᴰ
use mathlib.Core.List.{List, [], ◌∷◌, reverse_aux, Memᴰ}
use native.Mathlib.Omega.{arith}
use native.Mathlib.Decide.{dec_lt}
use borrow.Author.Tests.{eq-eqb, ne_eqb, lt-ltb, le-ltb}
use lib.ListN.{length, get_or, set, length-set, length-replicate}
use lib.Seq.{get_or-set_same, get_or-set_other}
use lib.Dec.{T, eqb}
use Rattle.order.specs.Floor.{Floor}
use Rattle.motion.specs.Arrangement.{Arrangement, rack_at}
use Rattle.motion.proofs.ArrangementLaws.{vacant-racks, rack_at_finds}
use Rattle.motion.specs.Move.{legal_move, after_move}
use Rattle.motion.proofs.MoveLaws.{on_floor_parts, legal_parts, move-length, moved_rack, moved_other}
use Rattle.motion.proofs.Lawful.{Leads, still, ◌then◌}
use Rattle.motion.specs.Sound.{Sound}
use Rattle.motion.proofs.SoundLaws.{move_sound}
use Rattle.motion.proofs.Test.{equal?}
use Rattle.motion.proofs.ListLaws.{by_member}
use Rattle.motion.proofs.StepTestsLaws.{left}
use Rattle.tables.proofs.TableLaws.{zeros_at}
use Rattle.scheduling.specs.Making.{Timed, of_rack, of_leaving, place_leaving, turn_for, timed, greatest, in_step}
use Rattle.scheduling.proofs.Timing.{of_rack-same, of_rack_other, of_leaving-same, of_leaving_other, in_step-same, in_step_other}
use Rattle.scheduling.proofs.Timing.{place_leaving-same, place_leaving_other}
use Rattle.scheduling.proofs.Timing.{ByRule, leads, behind, later, turn_for_by_rule, by_rule_place}
use Rattle.motion.specs.LegalStep.{longest_train}
use Rattle.window.specs.Filling.{Pass, started, turn_number, turn_by, noted, passed, pass, empty_window}

unfoldable pub entry_of : List Timed → ℕ → ℕ → ℕ
entry_of [] i p = 0
entry_of (t ∷ l) i p = cond (eqb t.step i) (cond (eqb t.move.0 p) (t.move.1 + 1) (entry_of l i p)) (entry_of l i p)

module _ (t : Timed) (l : List Timed) (i p : ℕ) where
  pub entry_of-same : t.step ≡ i → t.move.0 ≡ p → entry_of (t ∷ l) i p ≡ t.move.1 + 1
  unfolding entry_of
  entry_of-same e d = rw (eq-eqb t.step i e, eq-eqb t.move.0 p d) refl

  pub entry_of-place : t.step ≡ i → t.move.0 ≢ p → entry_of (t ∷ l) i p ≡ entry_of l i p
  unfolding entry_of
  entry_of-place e d = rw (eq-eqb t.step i e, ne_eqb t.move.0 p d) refl

  pub entry_of_step : t.step ≢ i → entry_of (t ∷ l) i p ≡ entry_of l i p
  unfolding entry_of
  entry_of_step e = rw (ne_eqb t.step i e) refl

-- the window with one more move
module _ (first : ℕ) (w : List ℕ) (t a b : ℕ) where
  pub length-noted : length (noted first w t a b) ≡ length w
  unfolding noted
  length-noted =
      dite (dec_lt first t)
      (λ h.
      dite (dec_lt (t - 1 - first) 4096)
      (λ k. rw (lt-ltb first t h, lt-ltb (t - 1 - first) 4096 k) (length-set w ((t - 1 - first) * 64 + a) (b + 1)))
      (λ k. rw (lt-ltb first t h, le-ltb (t - 1 - first) 4096 (omega arith)) refl))
      (λ h. rw (le-ltb first t (omega arith)) refl)

  module _ (size : length w ≡ 262144) (below : a < 64) (i p : ℕ) (row : i < 4096) (place : p < 64) where
    pub noted-same : t ≡ first + suc i → a ≡ p → get_or (noted first w t a b) (i * 64 + p) 0 ≡ b + 1
    unfolding noted
    noted-same e d =
        let here : t - 1 - first ≡ i = omega arith in
        rw (lt-ltb first t (omega arith), here, lt-ltb i 4096 row, d) (get_or-set_same w (i * 64 + p) (b + 1) 0 (omega arith))

    other : (i * 64 + p ≢ (t - 1 - first) * 64 + a) → get_or (set w ((t - 1 - first) * 64 + a) (b + 1)) (i * 64 + p) 0 ≡
        get_or w (i * 64 + p) 0
    other d = get_or-set_other w ((t - 1 - first) * 64 + a) (i * 64 + p) (b + 1) 0 d

    pub noted_other : (first < t → i * 64 + p ≢ (t - 1 - first) * 64 + a)
        → get_or (noted first w t a b) (i * 64 + p) 0 ≡ get_or w (i * 64 + p) 0
    unfolding noted
    noted_other d =
        dite (dec_lt first t)
        (λ h.
        dite (dec_lt (t - 1 - first) 4096)
        (λ k. rw (lt-ltb first t h, lt-ltb (t - 1 - first) 4096 k) (other (d h)))
        (λ k. rw (lt-ltb first t h, le-ltb (t - 1 - first) 4096 (omega arith)) refl))
        (λ h. rw (le-ltb first t (omega arith)) refl)

pub record Agrees (A : Arrangement) (l : List Timed) (first : ℕ) (P : Pass) : Type 0 where
  pub arrived_size : length P.arrived ≡ 64
  pub left_size : length P.left ≡ 64
  pub window_size : length P.window ≡ 262144
  -- where a rack stands, the step of its latest move
  pub arrivals : (i : ℕ) → i < length A → get_or P.arrived (get_or A i 0) 0 ≡ of_rack l (suc i)
  -- at a position, the step of the latest move that left it, and its place in its chain
  pub leavings : (p : ℕ) → p < 64 → get_or P.left p 0 ≡ turn_number (of_leaving l p) (place_leaving l p)
  -- which is one of a train's, if there is such a move
  pub placings : (p : ℕ) → (place_leaving l p ≤ longest_train) × (0 < of_leaving l p → 0 < place_leaving l p)
  pub entries : (i p : ℕ) → i < 4096 → p < 64 → get_or P.window (i * 64 + p) 0 ≡ entry_of l (first + suc i) p
  pub greatest_is : P.greatest ≡ greatest l
  -- no move leaves a position that a row does not have
  pub within : (i : ℕ) (x : ℕ × ℕ) → Memᴰ x (in_step i l) → x.0 < 64

pub agrees_started : (A : Arrangement) (first : ℕ) → Agrees A [] first (started empty_window)
unfolding started empty_window of_rack of_leaving place_leaving turn_number entry_of greatest in_step
agrees_started A first =
    record {
      arrived_size = length-replicate {A = ℕ} 64 0;
      left_size = length-replicate {A = ℕ} 64 0;
      placings = λ p. (omega arith, λ h. absurd (omega arith));
      window_size = length-replicate {A = ℕ} 262144 0;
      arrivals = λ i h. zeros_at 64 (get_or A i 0);
      leavings = λ p h. zeros_at 64 p;
      entries = λ i p h k. zeros_at 262144 (i * 64 + p);
      greatest_is = refl;
      within = λ i x n. absurd (Memᴰ.not-nil n);
    }

module _ (F : Floor) (few : F.positions ≤ 64) (A : Arrangement) (l : List Timed) (first : ℕ) (P : Pass) (sound : Sound F.positions A)
    (m : ℕ × ℕ) (legal : T (legal_move F A m)) (g : Agrees A l first P) where
  found : (r : ℕ) × (r < length A) × (get_or A r 0 ≡ m.0) × (rack_at A m.0 ≡ suc r)
  found = rack_at_finds A m.0 ((legal_parts F A m).0 legal).1

  left_below : m.0 < 64
  left_below = omega (arith, ((on_floor_parts F m).0 ((legal_parts F A m).0 legal).0).0, few)

  entered_below : m.1 < 64
  entered_below = omega (arith, ((on_floor_parts F m).0 ((legal_parts F A m).0 legal).0).1, few)

  entered_free : (i : ℕ) → i < length A → get_or A i 0 ≢ m.1
  entered_free = (vacant-racks A m.1).0 ((legal_parts F A m).0 legal).2

  last_move : get_or P.arrived m.0 0 ≡ of_rack l (rack_at A m.0)
  last_move =
      ap (λ (q : ℕ). get_or P.arrived q 0) (sym found.2) ∙ g.arrivals found.0 found.1 ∙ ap (of_rack l) (sym found.3)

  -- the step and the place that the rule gives the move
  abbrev step : ℕ
  step = (turn_for l (rack_at A m.0) m).0

  abbrev place : ℕ
  place = (turn_for l (rack_at A m.0) m).1

  -- by the tables it is the turn that the rule gives
  number_by : {s q : ℕ} → ByRule l (rack_at A m.0) m s q → turn_by P.arrived P.left m.0 m.1 ≡ turn_number s q
  unfolding turn_by turn_number
  number_by (leads b a) =
      rw (last_move, g.leavings m.1 entered_below) (omega (arith, (g.placings m.1).0))
  number_by (behind a e b) =
      rw (last_move, g.leavings m.1 entered_below) (omega (arith, (g.placings m.1).1 (omega arith)))
  number_by (later a e b) =
      rw (last_move, g.leavings m.1 entered_below) (omega (arith, (g.placings m.1).0))

  pub number_ruled : turn_by P.arrived P.left m.0 m.1 ≡ turn_number step place
  number_ruled = number_by (turn_for_by_rule l (rack_at A m.0) m)

  placed : (0 < place) × (place ≤ longest_train)
  placed = by_rule_place (turn_for_by_rule l (rack_at A m.0) m)

  pub step_ruled : turn_by P.arrived P.left m.0 m.1 / longest_train ≡ step
  unfolding turn_number
  step_ruled = omega (arith, number_ruled, placed)

  t : Timed
  t = record { rack = rack_at A m.0; move = m; step = step; place = place }

  arrivals_after : (i : ℕ) → i < length A → get_or (set P.arrived m.1 step) (get_or (after_move A m) i 0) 0 ≡ of_rack (t ∷ l) (suc i)
  unfolding t
  arrivals_after i h =
      ⊎_elim
      (λ (e : get_or A i 0 ≡ m.0).
      let same : i ≡ found.0 = sound.apart i found.0 h found.1 (e ∙ sym found.2) in
      rw (moved_rack A m i h e)
      (get_or-set_same P.arrived m.1 step 0 (omega (arith, entered_below, g.arrived_size))
      ∙ sym (of_rack-same t l (suc i) (found.3 ∙ ap suc (sym same)))))
      (λ (e : get_or A i 0 ≢ m.0).
      let apart : rack_at A m.0 ≢ suc i = λ q. e (ap (λ (j : ℕ). get_or A j 0) (omega (arith, found.3)) ∙ found.2) in
      rw (moved_other A m i h e)
      (get_or-set_other P.arrived m.1 (get_or A i 0) step 0 (entered_free i h)
      ∙ g.arrivals i h
      ∙ sym (of_rack_other t l (suc i) apart)))
      (equal? (get_or A i 0) m.0)

  leavings_after : (p : ℕ) → p < 64
      → get_or (set P.left m.0 (turn_number step place)) p 0 ≡ turn_number (of_leaving (t ∷ l) p) (place_leaving (t ∷ l) p)
  unfolding t
  leavings_after p h =
      ⊎_elim
      (λ (e : m.0 ≡ p). rw (← e, of_leaving-same t l m.0 refl, place_leaving-same t l m.0 refl)
      (get_or-set_same P.left m.0 (turn_number step place) 0 (omega (arith, left_below, g.left_size))))
      (λ (e : m.0 ≢ p). rw (of_leaving_other t l p e, place_leaving_other t l p e)
      (get_or-set_other P.left m.0 p (turn_number step place) 0 (λ q. e (sym q)) ∙ g.leavings p h))
      (equal? m.0 p)

  placings_after : (p : ℕ) → (place_leaving (t ∷ l) p ≤ longest_train) × (0 < of_leaving (t ∷ l) p → 0 < place_leaving (t ∷ l) p)
  unfolding t
  placings_after p =
      ⊎_elim
      (λ (e : m.0 ≡ p). rw (place_leaving-same t l p e) (placed.1, λ h. placed.0))
      (λ (e : m.0 ≢ p). rw (of_leaving_other t l p e, place_leaving_other t l p e) (g.placings p))
      (equal? m.0 p)

  entries-after : (i p : ℕ) → i < 4096 → p < 64
      → get_or (noted first P.window step m.0 m.1) (i * 64 + p) 0 ≡ entry_of (t ∷ l) (first + suc i) p
  unfolding t
  entries-after i p h k =
      ⊎_elim
      (λ (e : step ≡ first + suc i). ⊎_elim
      (λ (d : m.0 ≡ p). noted-same first P.window step m.0 m.1 g.window_size left_below i p h k e d
      ∙ sym (entry_of-same t l (first + suc i) p e d))
      (λ (d : m.0 ≢ p). noted_other first P.window step m.0 m.1 g.window_size left_below i p h k
      (λ b q. d (omega (arith, left_below)))
      ∙ g.entries i p h k ∙ sym (entry_of-place t l (first + suc i) p e d))
      (equal? m.0 p))
      (λ (e : step ≢ first + suc i). noted_other first P.window step m.0 m.1
      g.window_size left_below i p h k (λ b q. e (omega (arith, left_below)))
      ∙ g.entries i p h k ∙ sym (entry_of_step t l (first + suc i) p e))
      (equal? step (first + suc i))

  within-after : (i : ℕ) (x : ℕ × ℕ) → Memᴰ x (in_step i (t ∷ l)) → x.0 < 64
  unfolding t
  within-after i x n =
      ⊎_elim
      (λ (e : step ≡ i).
      by_member (rw (in_step-same i t l e) at n) (λ q. let at : x.0 ≡ m.0 = ap left q in omega (arith, left_below)) (g.within i x))
      (λ (e : step ≢ i). g.within i x (rw (in_step_other i t l e) at n))
      (equal? step i)

  pub agrees_next :
      let turn = turn_for l (rack_at A m.0) m in
      Agrees (after_move A m) (record { rack = rack_at A m.0; move = m; step = turn.0; place = turn.1 } ∷ l) first (passed first P m)
  unfolding passed t
  agrees_next =
      rw (step_ruled, number_ruled)
      (record {
        arrived_size = length-set P.arrived m.1 step ∙ g.arrived_size;
        left_size = length-set P.left m.0 (turn_number step place) ∙ g.left_size;
        placings = placings_after;
        window_size = length-noted first P.window step m.0 m.1 ∙ g.window_size;
        arrivals = λ i h. arrivals_after i (rw move-length at h);
        leavings = leavings_after;
        entries = entries-after;
        greatest_is = unfold greatest in omega (arith, g.greatest_is);
        within = within-after;
      })

pub agrees_pass : (F : Floor) → F.positions ≤ 64 → (first : ℕ) (P : Pass) {A B : Arrangement} {l : List Timed} {ms : List (ℕ × ℕ)}
    → Sound F.positions A → Leads F A ms B → Agrees A l first P → Agrees B (reverse_aux (timed A l ms) l) first (pass first P ms)
unfolding timed pass
agrees_pass F few first P sound still g = g
agrees_pass F few first P {l} sound (◌then◌ {A = A} {x = m} legal p) g =
    agrees_pass F few first (passed first P m) (move_sound F A m legal sound) p (agrees_next F few A l first P sound m legal g)
