-- A removal keeps a plan legal and the racks' final places: a move can be put behind moves that touch neither of its positions, and a
-- move that is turned round at once leaves every rack where it was.
--
--     rack_kept, rack_goes     the rack at a position that a move does not touch; the rack that it moves
--     Undoing ms i j           a cancelling pair but for the racks
--     same_rack                in a legal plan the racks follow: the two moves are of one rack
--     undoing_cancels          so that in a legal plan it is a cancelling pair
--     first_legal, then_legal, alike, move-later    two moves without a common position may change places
--     undone                   a move and its undoing, with moves between that touch neither position, leave no trace
--     parts_of_lem                 a list by two of its indices
--     removal_leads            without a cancelling pair the same moves lead from the same places to the same places
--     shortens_leads           so the rule's result does
-- Assumes nothing.
use Prim.Native.Nat.{ℕ, zero, suc, ◌+◌, ◌-◌, ◌≤◌, ◌<◌}
use mathlib.Core.Bool.{cond}
use mathlib.Core.List.{List, [], ◌∷◌, ◌++◌, map, append_assoc}
use mathlib.Core.Logic.{⊎_elim, ◌≢◌}
use mathlib.Core.Path.{◌≡◌, refl, sym, ap, ◌∙◌}
use native.Mathlib.Omega.{arith}
use borrow.Author.Tests.{eq-eqb, ne_eqb}
use lib.Dec.{T, eqb}
use lib.ListN.{length, get_or, take, drop, length-drop}
use lib.Seq.{ext_get_or, split_at, drop-drop, get_or-drop}
use Rattle.order.specs.Floor.{Floor}
use Rattle.motion.specs.Arrangement.{Arrangement, occupied, vacant, rack_from, rack_at}
use Rattle.motion.specs.Move.{on_floor, legal_move, goes_to, after, after_move}
use Rattle.motion.specs.Problem.{arrangement_at}
use Rattle.motion.specs.Replay.{trace}
use Rattle.motion.proofs.ArrangementLaws.{occupied_rack, vacant-racks}
use Rattle.motion.proofs.Lawful.{Leads, still, ◌then◌, lawful_first, lawful_append, lawful_apart}
use Rattle.motion.proofs.MoveLaws.{legal_parts, move-length, moved_rack, moved_other, turned_back}
use Rattle.motion.specs.TurnedStep.{turned}
use Rattle.motion.proofs.Test.{equal?}
use Rattle.motion.proofs.Untouched.{vacant-move}
use Rattle.shortening.specs.Rule.{move_at, rack_of, between, cancels, without, Shortens, done, again}
use Rattle.cancelling.specs.Stack.{Apart}
use Rattle.shortening.proofs.RuleLaws.{cancelling, between-at, length-between}

-- the rack of a move

first_away : (r : ℕ) (A : Arrangement) (y : ℕ × ℕ) (p : ℕ) → y.0 ≢ p → y.1 ≢ p → rack_from r (after_move A y) p ≡ rack_from r A p
unfolding rack_from after_move after goes_to
first_away r [] y p a b = refl
first_away r (q ∷ A) y p a b =
    let rest : rack_from (suc r) (map (λ q. cond (eqb q y.0) y.1 q) A) p ≡ rack_from (suc r) A p = first_away (suc r) A y p a b in
    ⊎_elim
    (λ (e : q ≡ y.0). rw (eq-eqb q y.0 e, ne_eqb y.1 p b, ne_eqb q p (λ c. a (sym e ∙ c))) rest)
    (λ (e : q ≢ y.0). rw (ne_eqb q y.0 e) (ap (cond (eqb q p) r) rest))
    (equal? q y.0)

pub rack_kept : (A : Arrangement) (y : ℕ × ℕ) (p : ℕ) → y.0 ≢ p → y.1 ≢ p → rack_at (after_move A y) p ≡ rack_at A p
unfolding rack_at
rack_kept A y p a b = first_away 1 A y p a b

first_goes : (r : ℕ) (A : Arrangement) (m : ℕ × ℕ) → ((i : ℕ) → i < length A → get_or A i 0 ≢ m.1)
    → rack_from r (after_move A m) m.1 ≡ rack_from r A m.0
unfolding rack_from after_move after goes_to
first_goes r [] m v = refl
first_goes r (q ∷ A) m v =
    let rest : rack_from (suc r) (map (λ q. cond (eqb q m.0) m.1 q) A) m.1 ≡ rack_from (suc r) A m.0 =
    first_goes (suc r) A m (λ i h. v (suc i) (omega arith)) in
    ⊎_elim
    (λ (e : q ≡ m.0). rw (eq-eqb q m.0 e, eq-eqb m.1 m.1 refl))
    (λ (e : q ≢ m.0). rw (ne_eqb q m.0 e, ne_eqb q m.1 (v 0 (omega arith))) rest)
    (equal? q m.0)

pub rack_goes : (A : Arrangement) (m : ℕ × ℕ) → T (vacant A m.1) → rack_at (after_move A m) m.1 ≡ rack_at A m.0
unfolding rack_at
rack_goes A m v = first_goes 1 A m ((vacant-racks A m.1).0 v)

-- the arrangements of a replay, by the index of the next move

abbrev at : Arrangement → List (ℕ × ℕ) → ℕ → Arrangement
at A ms i = arrangement_at (trace after_move A ms) i

at_next : (A : Arrangement) (ms : List (ℕ × ℕ)) (i : ℕ) → i < length ms → at A ms (suc i) ≡ after_move (at A ms i) (move_at ms i)
unfolding trace move_at arrangement_at
at_next A [] i h = absurd (omega arith)
at_next A (m ∷ []) zero h = refl
at_next A (m ∷ x ∷ ms) zero h = refl
at_next A (m ∷ ms) (suc i) h = at_next (after_move A m) ms i (omega arith)

at_legal : (F : Floor) {A B : Arrangement} {ms : List (ℕ × ℕ)} → Leads F A ms B → (i : ℕ) → i < length ms
    → T (legal_move F (at A ms i) (move_at ms i))
unfolding trace move_at arrangement_at
at_legal F still i h = absurd (omega arith)
at_legal F (l then p) zero h = l
at_legal F (l then p) (suc i) h = at_legal F p i (omega arith)

-- a cancelling pair but for the racks

pub record Undoing (ms : List (ℕ × ℕ)) (i j : ℕ) : Type 0 where
  pub earlier : i < j
  pub there : j < length ms
  pub undoes : ((move_at ms i).1, (move_at ms i).0) ≡ move_at ms j
  pub unvisited : (h : ℕ) → i < h → h < j → Apart (move_at ms i) (move_at ms h)

module _ (F : Floor) {A B : Arrangement} {ms : List (ℕ × ℕ)} (p : Leads F A ms B) (i j : ℕ) (u : Undoing ms i j) where
  -- from the earlier move on its rack stands where it went
  waits : (n : ℕ) → suc i + n ≤ j → rack_at (at A ms (suc i + n)) (move_at ms i).1 ≡ rack_of A ms i
  unfolding rack_of
  waits zero h =
      let e : suc i + 0 ≡ suc i = omega arith in
      let inside : i < length ms = omega (arith, u.there) in
      rw (e, at_next A ms i inside)
      (rack_goes (at A ms i) (move_at ms i) ((legal_parts F (at A ms i) (move_at ms i)).0 (at_legal F p i inside)).2)
  waits (suc n) h =
      let e : suc i + suc n ≡ suc (suc i + n) = omega arith in
      let inside : suc i + n < length ms = omega (arith, u.there) in
      let a = u.unvisited (suc i + n) (omega arith) (omega arith) in
      rw (e, at_next A ms (suc i + n) inside)
      (rack_kept (at A ms (suc i + n)) (move_at ms (suc i + n)) (move_at ms i).1 (λ c. a.entered_left (sym c))
      (λ c. a.entered_entered (sym c))
      ∙ waits n (omega arith))

  pub same_rack : rack_of A ms i ≡ rack_of A ms j
  unfolding rack_of
  same_rack =
      let e : suc i + (j - suc i) ≡ j = omega (arith, u.earlier) in
      let there : (move_at ms i).1 ≡ (move_at ms j).0 = ap (λ (m : ℕ × ℕ). m.0) u.undoes in
      sym (rw (e, there) at (waits (j - suc i) (omega (arith, u.earlier))))

  pub undoing_cancels : T (cancels A ms i j)
  undoing_cancels =
      (cancelling A ms i j).1
      (record { earlier = u.earlier; there = u.there; undoes = u.undoes; same_rack = same_rack; unvisited = u.unvisited })

-- moves change places

module _ (F : Floor) (A : Arrangement) (m x : ℕ × ℕ) (a : Apart m x) (l : T (legal_move F A m))
    (k : T (legal_move F (after_move A m) x)) where
  of_m : T (on_floor F m) × T (occupied A m.0) × T (vacant A m.1)
  of_m = (legal_parts F A m).0 l

  of_x : T (on_floor F x) × T (occupied (after_move A m) x.0) × T (vacant (after_move A m) x.1)
  of_x = (legal_parts F (after_move A m) x).0 k

  pub first_legal : T (legal_move F A x)
  first_legal =
      (legal_parts F A x).1 (
        of_x.0,
        (let r = (occupied_rack (after_move A m) x.0).0 of_x.1 in
            let h : r.0 < length A = rw move-length at r.1 in
            (occupied_rack A x.0).1 (
              r.0,
              h,
              ⊎_elim
                  (λ (e : get_or A r.0 0 ≡ m.0). absurd (a.entered_left (sym (moved_rack A m r.0 h e) ∙ r.2)))
                  (λ (e : get_or A r.0 0 ≢ m.0). sym (moved_other A m r.0 h e) ∙ r.2)
                  (equal? (get_or A r.0 0) m.0),
            )),
        (vacant-racks A x.1).1
            (λ i h e. (vacant-racks (after_move A m) x.1).0 of_x.2 i (rw move-length h)
            (moved_other A m i h (λ c. a.left_entered (sym c ∙ e)) ∙ e)),
      )

  pub then_legal : T (legal_move F (after_move A x) m)
  then_legal =
      let r = (occupied_rack A m.0).0 of_m.1 in
      (legal_parts F (after_move A x) m).1 (
        of_m.0,
        (occupied_rack (after_move A x) m.0).1
            (r.0, rw move-length r.1, moved_other A x r.0 r.1 (λ c. a.left_left (sym r.2 ∙ c)) ∙ r.2),
        vacant-move A x m.1 of_m.2 (λ c. a.entered_entered (sym c)),
      )

  rack_alike : (i : ℕ) → i < length A → get_or (after_move (after_move A m) x) i 0 ≡ get_or (after_move (after_move A x) m) i 0
  rack_alike i h =
      let hm : i < length (after_move A m) = rw move-length h in
      let hx : i < length (after_move A x) = rw move-length h in
      ⊎_elim
      (λ (e : get_or A i 0 ≡ m.0).
      let one : get_or (after_move A m) i 0 ≡ m.1 = moved_rack A m i h e in
      let two : get_or (after_move A x) i 0 ≡ get_or A i 0 = moved_other A x i h (λ c. a.left_left (sym e ∙ c)) in
      moved_other (after_move A m) x i hm (λ c. a.entered_left (sym one ∙ c)) ∙ one ∙ sym (moved_rack (after_move A x) m i hx (two ∙ e)))
      (λ (e : get_or A i 0 ≢ m.0).
      let one : get_or (after_move A m) i 0 ≡ get_or A i 0 = moved_other A m i h e in
      ⊎_elim
      (λ (d : get_or A i 0 ≡ x.0).
      let two : get_or (after_move A x) i 0 ≡ x.1 = moved_rack A x i h d in
      moved_rack (after_move A m) x i hm (one ∙ d)
      ∙ sym (moved_other (after_move A x) m i hx (λ c. a.left_entered (sym c ∙ two)) ∙ two))
      (λ (d : get_or A i 0 ≢ x.0).
      let two : get_or (after_move A x) i 0 ≡ get_or A i 0 = moved_other A x i h d in
      moved_other (after_move A m) x i hm (λ c. d (sym one ∙ c)) ∙ one
      ∙ sym (moved_other (after_move A x) m i hx (λ c. e (sym two ∙ c)) ∙ two))
      (equal? (get_or A i 0) x.0))
      (equal? (get_or A i 0) m.0)

  pub alike : after_move (after_move A m) x ≡ after_move (after_move A x) m
  alike =
      let one : length (after_move (after_move A m) x) ≡ length A = rw (move-length (after_move A m) x, move-length A m) in
      let two : length (after_move (after_move A x) m) ≡ length A = rw (move-length (after_move A x) m, move-length A x) in
      ext_get_or 0 (after_move (after_move A m) x) (after_move (after_move A x) m) (one ∙ sym two) (λ i h. rack_alike i (rw one at h))

pub move-later : (F : Floor) {A B : Arrangement} (m x : ℕ × ℕ) {rest : List (ℕ × ℕ)} → Apart m x → Leads F A (m ∷ x ∷ rest) B
    → Leads F A (x ∷ m ∷ rest) B
move-later F {A} {B} m x {rest} a p =
    let s = lawful_first p in
    let t = lawful_first s.1 in
    let q : Leads F (after_move (after_move A x) m) rest B = rw (← alike F A m x a s.0 t.0) t.1 in
    first_legal F A m x a s.0 t.0 then then_legal F A m x a s.0 t.0 then q

pub undone : (F : Floor) {A B : Arrangement} (m : ℕ × ℕ) (ys zs : List (ℕ × ℕ)) → ((n : ℕ) → n < length ys → Apart m (get_or ys n (0, 0)))
    → Leads F A (m ∷ (ys ++ ((m.1, m.0) ∷ zs))) B → Leads F A (ys ++ zs) B
unfolding turned
undone F {A} {B} m [] zs a p =
    let s = lawful_first p in
    let t = lawful_first s.1 in
    rw (turned_back F A m s.0) at t.1
undone F {A} m (y ∷ ys) zs a p =
    let q = lawful_first (move-later F m y (a 0 (omega arith)) p) in
    q.0 then undone F {A = after_move A y} m ys zs (λ n h. a (suc n) (omega arith)) q.1

module _ (ms : List (ℕ × ℕ)) (i j : ℕ) (e : i < j) (h : j < length ms) where
  pub parts_of_lem : ms ≡ take i ms ++ move_at ms i ∷ (between ms i j ++ move_at ms j ∷ drop (suc j) ms)
  unfolding move_at between
  parts_of_lem =
      let rest = drop (suc i) ms in
      let inside : j - suc i < length rest = rw (length-drop (suc i) ms) (omega arith) in
      let at_j : suc i + (j - suc i) ≡ j = omega arith in
      let on : suc i + suc (j - suc i) ≡ suc j = omega arith in
      let tail : rest ≡ take (j - suc i) rest ++ get_or ms j (0, 0) ∷ drop (suc j) ms =
      split_at rest (j - suc i) (0, 0) inside
      ∙ rw (get_or-drop (suc i) ms (j - suc i) (0, 0), drop-drop (suc (j - suc i)) (suc i) ms, at_j, on) in
      split_at ms i (0, 0) (omega arith) ∙ ap (λ (l : List (ℕ × ℕ)). take i ms ++ get_or ms i (0, 0) ∷ l) tail

-- "it is legal, ends at the goal": a removal changes no rack's final place
pub removal_leads : (F : Floor) {A B : Arrangement} (ms : List (ℕ × ℕ)) (i j : ℕ) → T (cancels A ms i j) → Leads F A ms B
    → Leads F A (without ms i j) B
unfolding without
removal_leads F {A} {B} ms i j t p =
    let c = (cancelling A ms i j).0 t in
    let whole : Leads F A (take i ms ++ move_at ms i ∷ (between ms i j ++ ((move_at ms i).1, (move_at ms i).0) ∷ drop (suc j) ms)) B =
    rw (c.undoes, ← parts_of_lem ms i j c.earlier c.there) p in
    let s = lawful_apart (take i ms) whole in
    let away : (n : ℕ) → n < length (between ms i j) → Apart (move_at ms i) (get_or (between ms i j) n (0, 0)) =
    λ n h.
    let b : n < j - suc i = rw (length-between ms i j c.earlier c.there) at h in
    rw (between-at ms i j c.earlier c.there n b) (c.unvisited (suc i + n) (omega arith) (omega arith)) in
    rw append_assoc (lawful_append s.1 (undone F (move_at ms i) (between ms i j) (drop (suc j) ms) away s.2))

pub shortens_leads : (F : Floor) {A B : Arrangement} {ms ns : List (ℕ × ℕ)} → Shortens A ms ns → Leads F A ms B → Leads F A ns B
shortens_leads F (done n) p = p
shortens_leads F (again {ms = ms} {i = i} {j = j} f s) p = shortens_leads F s (removal_leads F ms i j f.cancel p)
