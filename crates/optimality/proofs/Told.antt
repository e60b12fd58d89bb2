-- What the timed moves of a plan tell of routes and visits, move by move; and that it is what the plan's arrangements show.
--
--     told_route A l q    the route of rack q + 1 from A on, as the moves l, latest first, tell it
--     told_visits A l p   the visitors of p, as they tell them
--     timed_as l B m      the move m on the arrangement B that the moves l left, with its rack, its step and its place in its chain
--     Turn F l B t       t is a legal move on B after the moves l: its rack, where it stands, and how the rule comes to its step and place
--     turn_of            every legal move on a sound arrangement is one
--     turn_others        at positions that it neither leaves nor enters it changes nothing
--     told_own, told_others   a turn adds to its rack's route the position entered, and nothing to the others
--     told-entered, told_elsewhere   and to the visitors of the position entered its rack, and nothing elsewhere
--     told-some          a route has at least its start
--     told-times         a rack visits p as often as p stands in its route
--     route_begins, visits_begins    what earlier moves tell is a beginning of what all tell
--     Read                a way to read a number off each arrangement of a replay, and what is told of it
--     read_route, read_visits   the position of a rack, and the rack at a position, are such ways
--     trace-changes       the changes of what is read begin with what is read first
--     plan-told           what the moves of a plan tell is read off its arrangements
--     route-place         a route by the rack's place in the arrangement
--     plan-route, plan-visits   so of routes and of visitors
-- Assumes nothing.
use Prim.Native.Nat.{ℕ, suc, ◌+◌, ◌<◌}
use mathlib.Core.Path.{◌≡◌, refl, sym, ◌∙◌, ap, ap₂, fun_ext}
use mathlib.Core.Bool.{cond}
use mathlib.Core.Logic.{◌≢◌, ⊎_elim}
use mathlib.Core.List.{List, [], ◌∷◌, ◌++◌, map, reverse_aux, append-nil, append_assoc}
use native.Mathlib.Omega.{arith}
use lib.Dec.{T, eqb}
use lib.ListN.{length, get_or, length-append}
use borrow.Author.Tests.{eq-eqb, ne_eqb}
use Rattle.order.specs.Floor.{Floor}
use Rattle.motion.specs.Arrangement.{Arrangement, rack_at}
use Rattle.motion.proofs.ArrangementLaws.{stands_index, rack_at_finds}
use Rattle.motion.specs.Move.{legal_move, after_move}
use Rattle.motion.proofs.MoveLaws.{legal_parts, legal_apart, move-length, moved_rack, moved_other}
use Rattle.motion.specs.Replay.{trace}
use Rattle.motion.proofs.Lawful.{Leads, still, ◌then◌}
use Rattle.motion.specs.Sound.{Sound}
use Rattle.motion.proofs.SoundLaws.{move_sound}
use Rattle.motion.proofs.Test.{equal?}
use Rattle.scheduling.specs.Making.{Timed, turn_for, timed}
use Rattle.scheduling.proofs.Timing.{ByRule, turn_for_by_rule, history}
use Rattle.optimality.specs.Routes.{changes_after, changes, route, racks_among, visitors}
use Rattle.optimality.proofs.Beginnings.{Begins, begins_itself, begins_more, begins_through, times, times_one, times_append}
use Rattle.optimality.proofs.Course.{changed, changed-same, changed_other, after_first, after_repeat}
use Rattle.optimality.proofs.Course.{racks_append, racks-times, racks_come, racks_go}
use Rattle.optimality.proofs.Occupants.{rack_place, entered_rack, left-empty, entered-empty, others_same}

unfoldable pub told_route : Arrangement → List Timed → ℕ → List ℕ
told_route A [] q = get_or A q 0 ∷ []
told_route A (t ∷ l) q = told_route A l q ++ cond (eqb t.rack (suc q)) (t.move.1 ∷ []) []

unfoldable pub told_visits : Arrangement → List Timed → ℕ → List ℕ
told_visits A [] p = racks_among (rack_at A p ∷ [])
told_visits A (t ∷ l) p = told_visits A l p ++ cond (eqb t.move.1 p) (t.rack ∷ []) []

abbrev pub timed_as : List Timed → Arrangement → ℕ × ℕ → Timed
timed_as l B m =
    let turn = turn_for l (rack_at B m.0) m in record { rack = rack_at B m.0; move = m; step = turn.0; place = turn.1 }

pub record Turn (F : Floor) (l : List Timed) (B : Arrangement) (t : Timed) : Type 0 where
  pub sound : Sound F.positions B
  pub legal : T (legal_move F B t.move)
  pub index : ℕ
  pub is : index < length B
  pub at : get_or B index 0 ≡ t.move.0
  pub own : t.rack ≡ suc index
  pub ruled : ByRule l t.rack t.move t.step t.place

pub turn_of : (F : Floor) (l : List Timed) (B : Arrangement) (m : ℕ × ℕ) → Sound F.positions B → T (legal_move F B m)
    → Turn F l B (timed_as l B m)
turn_of F l B m s legal =
    let w = rack_at_finds B m.0 ((legal_parts F B m).0 legal).1 in
    record { sound = s; legal = legal; index = w.0; is = w.1; at = w.2; own = w.3; ruled = turn_for_by_rule l (rack_at B m.0) m }

pub turn_others : {F : Floor} {l : List Timed} {B : Arrangement} {t : Timed} → Turn F l B t → (p : ℕ) → p ≢ t.move.0 → p ≢ t.move.1
    → rack_at (after_move B t.move) p ≡ rack_at B p
turn_others {F} {B} {t} w = others_same F.positions B t.move (move_sound F B t.move w.legal w.sound)

-- one more move

module _ (A : Arrangement) (t : Timed) (l : List Timed) where
  pub told_own : (q : ℕ) → t.rack ≡ suc q → told_route A (t ∷ l) q ≡ told_route A l q ++ t.move.1 ∷ []
  unfolding told_route
  told_own q e = rw (eq-eqb t.rack (suc q) e)

  pub told_others : (q : ℕ) → t.rack ≢ suc q → told_route A (t ∷ l) q ≡ told_route A l q
  unfolding told_route
  told_others q e = rw (ne_eqb t.rack (suc q) e) (append-nil (told_route A l q))

  pub told-entered : (p : ℕ) → t.move.1 ≡ p → told_visits A (t ∷ l) p ≡ told_visits A l p ++ t.rack ∷ []
  unfolding told_visits
  told-entered p e = rw (eq-eqb t.move.1 p e)

  pub told_elsewhere : (p : ℕ) → t.move.1 ≢ p → told_visits A (t ∷ l) p ≡ told_visits A l p
  unfolding told_visits
  told_elsewhere p e = rw (ne_eqb t.move.1 p e) (append-nil (told_visits A l p))

pub told-some : (A : Arrangement) (l : List Timed) (q : ℕ) → 0 < length (told_route A l q)
unfolding told_route
told-some A [] q = omega arith
told-some A (t ∷ l) q =
    omega (arith, told-some A l q, length-append (told_route A l q) (cond (eqb t.rack (suc q)) (t.move.1 ∷ []) []))

module _ (n : ℕ) (A : Arrangement) (s : Sound n A) (p q : ℕ) (h : q < length A) where
  pub told-times : (l : List Timed) → times (suc q) (told_visits A l p) ≡ times p (told_route A l q)
  unfolding told_route told_visits times
  told-times [] = racks-times q (rack_at A p ∷ []) ∙ rw (rack_place n A p q s h)
  told-times (t ∷ l) =
      times_append (suc q) (told_visits A l p) (cond (eqb t.move.1 p) (t.rack ∷ []) [])
      ∙ ap₂ (λ (x y : ℕ). x + y) (told-times l) (one t.move.1 t.rack)
      ∙ sym (times_append p (told_route A l q) (cond (eqb t.rack (suc q)) (t.move.1 ∷ []) []))
    where
      one : (e r : ℕ) → times (suc q) (cond (eqb e p) (r ∷ []) []) ≡ times p (cond (eqb r (suc q)) (e ∷ []) [])
      one e r =
          ⊎_elim
          (λ (a : e ≡ p). ⊎_elim
          (λ (b : r ≡ suc q). rw (a, b, eq-eqb p p refl, eq-eqb (suc q) (suc q) refl) (sym (times_one p)))
          (λ (b : r ≢ suc q). rw (eq-eqb e p a, ne_eqb r (suc q) b))
          (equal? r (suc q)))
          (λ (a : e ≢ p). ⊎_elim
          (λ (b : r ≡ suc q). rw (eq-eqb r (suc q) b, ne_eqb e p a))
          (λ (b : r ≢ suc q). rw (ne_eqb e p a, ne_eqb r (suc q) b))
          (equal? r (suc q)))
          (equal? e p)

pub route_begins : (A : Arrangement) (ts l : List Timed) (q : ℕ) → Begins (told_route A l q) (told_route A (reverse_aux ts l) q)
unfolding told_route
route_begins A [] l q = begins_itself
route_begins A (t ∷ ts) l q = begins_through (begins_more _ begins_itself) (route_begins A ts (t ∷ l) q)

pub visits_begins : (A : Arrangement) (ts l : List Timed) (p : ℕ) → Begins (told_visits A l p) (told_visits A (reverse_aux ts l) p)
unfolding told_visits
visits_begins A [] l p = begins_itself
visits_begins A (t ∷ ts) l p = begins_through (begins_more _ begins_itself) (visits_begins A ts (t ∷ l) p)

-- the plan's arrangements

-- A number h read off each arrangement, kept (as a whole, or of visitors the racks alone) as told
pub record Read (F : Floor) (A : Arrangement) (h : Arrangement → ℕ) (kept : List ℕ → List ℕ) (told : List Timed → List ℕ) : Type 0 where
  pub joins : (k l : List ℕ) → kept (k ++ l) ≡ kept k ++ kept l
  pub nothing : kept [] ≡ []
  pub first : told [] ≡ kept (h A ∷ [])
  pub next : {l : List Timed} {B : Arrangement} {t : Timed} → length B ≡ length A → Turn F l B t
      → told (t ∷ l) ≡ told l ++ kept (changed (h B) (h (after_move B t.move)))

pub read_route : (F : Floor) (A : Arrangement) (q : ℕ) → q < length A → Read F A (λ B. get_or B q 0) (λ l. l) (λ l. told_route A l q)
unfolding told_route
read_route F A q h =
    record {
      joins = λ k l. refl;
      nothing = refl;
      first = refl;
      next = λ {l} {B} {t} e w. ⊎_elim (own l B t w) (others l B t e w) (equal? q w.index);
    }
  where
    own : (l : List Timed) (B : Arrangement) (t : Timed) (w : Turn F l B t) → q ≡ w.index
        → told_route A (t ∷ l) q ≡ told_route A l q ++ changed (get_or B q 0) (get_or (after_move B t.move) q 0)
    own l B t w c =
        let before : get_or B q 0 ≡ t.move.0 = ap (λ (i : ℕ). get_or B i 0) c ∙ w.at in
        let behind : get_or (after_move B t.move) q 0 ≡ t.move.1 = moved_rack B t.move q (rw c w.is) before in
        told_own A t l q (w.own ∙ ap suc (sym c))
        ∙ rw (before, behind, changed_other t.move.0 t.move.1 (legal_apart F B t.move w.legal))

    others : (l : List Timed) (B : Arrangement) (t : Timed) → length B ≡ length A → (w : Turn F l B t) → q ≢ w.index
        → told_route A (t ∷ l) q ≡ told_route A l q ++ changed (get_or B q 0) (get_or (after_move B t.move) q 0)
    others l B t e w c =
        let is : q < length B = rw e h in
        let stays : get_or (after_move B t.move) q 0 ≡ get_or B q 0 =
        moved_other B t.move q is (λ d. c (w.sound.apart q w.index is w.is (d ∙ sym w.at))) in
        told_others A t l q (λ d. c (omega (arith, w.own)))
        ∙ sym (ap (λ (k : List ℕ). told_route A l q ++ k) (changed-same (get_or B q 0) (get_or (after_move B t.move) q 0) (sym stays))
        ∙ append-nil (told_route A l q))

pub read_visits : (F : Floor) (A : Arrangement) (p : ℕ) → Read F A (λ B. rack_at B p) racks_among (λ l. told_visits A l p)
unfolding told_visits racks_among
read_visits F A p =
    record {
      joins = racks_append;
      nothing = refl;
      first = refl;
      next = λ {l} {B} {t} e w. ⊎_elim (comes l B t w) (λ c. ⊎_elim (goes l B t w c) (stays l B t w c) (equal? p t.move.0))
          (equal? p t.move.1);
    }
  where
    Next : List Timed → Arrangement → Timed → Type 0
    Next l B t = told_visits A (t ∷ l) p ≡ told_visits A l p ++ racks_among (changed (rack_at B p) (rack_at (after_move B t.move) p))

    none_told : (l : List Timed) (B : Arrangement) (t : Timed) → p ≢ t.move.1
        → racks_among (changed (rack_at B p) (rack_at (after_move B t.move) p)) ≡ [] → Next l B t
    none_told l B t c e =
        told_elsewhere A t l p (λ d. c (sym d)) ∙ sym (ap (λ (k : List ℕ). told_visits A l p ++ k) e ∙ append-nil (told_visits A l p))

    comes : (l : List Timed) (B : Arrangement) (t : Timed) → Turn F l B t → p ≡ t.move.1 → Next l B t
    comes l B t w c =
        told-entered A t l p (sym c)
        ∙ rw (
          c,
          entered-empty F B t.move w.legal w.sound,
          entered_rack F B t.move w.legal w.sound w.index w.is w.at,
          w.own,
          racks_come 0 w.index (λ d. omega arith),
        )

    goes : (l : List Timed) (B : Arrangement) (t : Timed) → Turn F l B t → p ≢ t.move.1 → p ≡ t.move.0 → Next l B t
    goes l B t w c d =
        none_told l B t c (ap (λ (x : ℕ). racks_among (changed (rack_at B p) x))
        (ap (rack_at (after_move B t.move)) d ∙ left-empty F B t.move w.legal w.sound)
        ∙ racks_go (rack_at B p))

    stays : (l : List Timed) (B : Arrangement) (t : Timed) → Turn F l B t → p ≢ t.move.1 → p ≢ t.move.0 → Next l B t
    stays l B t w c d =
        none_told l B t c
        (ap racks_among (changed-same (rack_at B p) _ (sym (turn_others w p d c))))

module _ (h : Arrangement → ℕ) {X : Type 0} (next : Arrangement → X → Arrangement) where
  -- a trace begins with its first arrangement
  pub trace-changes : (A : Arrangement) (xs : List X)
      → changes (map h (trace next A xs)) ≡ h A ∷ changes_after (h A) (map h (trace next A xs))
  unfolding trace changes
  trace-changes A [] = ap (λ (l : List ℕ). h A ∷ l) (sym (after_repeat (h A) []))
  trace-changes A (x ∷ xs) = ap (λ (l : List ℕ). h A ∷ l) (sym (after_repeat (h A) (map h (trace next (next A x) xs))))

  trace-enters : (x : ℕ) (A : Arrangement) (xs : List X)
      → changes_after x (map h (trace next A xs)) ≡ changed x (h A) ++ changes_after (h A) (map h (trace next A xs))
  unfolding trace
  trace-enters x A [] = after_first x (h A) [] ∙ ap (λ (l : List ℕ). changed x (h A) ++ l) (sym (after_repeat (h A) []))
  trace-enters x A (y ∷ ys) =
      after_first x (h A) (map h (trace next (next A y) ys))
      ∙ ap (λ (l : List ℕ). changed x (h A) ++ l) (sym (after_repeat (h A) (map h (trace next (next A y) ys))))

module _ {F : Floor} {A : Arrangement} {h : Arrangement → ℕ} {kept : List ℕ → List ℕ} {told : List Timed → List ℕ}
    (read : Read F A h kept told) where
  told_on : (l : List Timed) {B C : Arrangement} {ms : List (ℕ × ℕ)} → length B ≡ length A → Sound F.positions B → Leads F B ms C
      → told (reverse_aux (timed B l ms) l) ≡ told l ++ kept (changes_after (h B) (map h (trace after_move B ms)))
  unfolding timed trace changes_after
  told_on l {B} e s still =
      sym (ap (λ (k : List ℕ). told l ++ kept k) (after_repeat (h B) []) ∙ ap (λ (k : List ℕ). told l ++ k) read.nothing
      ∙ append-nil (told l))
  told_on l e s (◌then◌ {A = B} {x = m} {xs = ms} legal p) =
      let B' = after_move B m in
      let rest = changes_after (h B') (map h (trace after_move B' ms)) in
      told_on (timed_as l B m ∷ l) (move-length B m ∙ e) (move_sound F B m legal s) p
      ∙ ap (λ (k : List ℕ). k ++ kept rest) (read.next e (turn_of F l B m s legal))
      ∙ append_assoc (told l) (kept (changed (h B) (h B'))) (kept rest)
      ∙ ap (λ (k : List ℕ). told l ++ k)
      (sym (read.joins (changed (h B) (h B')) rest)
      ∙ ap kept (sym (after_repeat (h B) (map h (trace after_move B' ms)) ∙ trace-enters h after_move (h B) B' ms)))

  pub plan-told : {ms : List (ℕ × ℕ)} {C : Arrangement} → Sound F.positions A → Leads F A ms C
      → kept (changes (map h (trace after_move A ms))) ≡ told (history A ms)
  plan-told {ms} s p =
      ap kept (trace-changes h after_move A ms) ∙ read.joins (h A ∷ []) (changes_after (h A) (map h (trace after_move A ms)))
      ∙ sym (told_on [] refl s p ∙ ap (λ (k : List ℕ). k ++ kept (changes_after (h A) (map h (trace after_move A ms)))) read.first)

-- a route by the rack's place in the arrangement
pub route-place : (S : List Arrangement) (q : ℕ) → route S (suc q) ≡ changes (map (λ B. get_or B q 0) S)
unfolding route
route-place S q = ap (λ (h : Arrangement → ℕ). changes (map h S)) (fun_ext (λ B. stands_index B q))

module _ (F : Floor) {A C : Arrangement} {ms : List (ℕ × ℕ)} (s : Sound F.positions A) (p : Leads F A ms C) where
  pub plan-route : (q : ℕ) → q < length A → route (trace after_move A ms) (suc q) ≡ told_route A (history A ms) q
  plan-route q b = route-place (trace after_move A ms) q ∙ plan-told (read_route F A q b) s p

  pub plan-visits : (x : ℕ) → visitors (trace after_move A ms) x ≡ told_visits A (history A ms) x
  unfolding visitors
  plan-visits x = plan-told (read_visits F A x) s p
