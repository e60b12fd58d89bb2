-- Plans and pebble motion: replay accepts exactly the solutions of Surynek's Definition 1 that move one rack at each step.
--
--     invertible_sound       a uniquely invertible function is a sound arrangement of m racks
--     PebbleStep F m S S'    points (iii) and (iv) between two arrangements, and one rack moving
--     move_pebble            a legal move meets the points of the definition between two arrangements
--     pebble_move            where two arrangements meet them, exactly one move makes the second of the first, and it is legal
--     OnlyMove F A B         exactly one move makes B of A, and it is legal on A
--     OnlyMoves F S⁰ S⁺ ξ S  exactly one list of moves has the trace S, and its replay from S⁰ ends at S⁺
--     replay_solution        what replay accepts has a solution as its trace, with as many steps as there are moves
--     solution_replay        each solution is the trace of exactly one list of moves, and replay accepts it
--     pebble_replay          as one statement, for every instance: replay accepts moves exactly if their trace is a solution, and
--                            each solution is the trace of exactly one list of moves
-- Assumes nothing.
use Prim.Native.Nat.{ℕ, zero, suc, ◌-◌, ◌<◌}
use mathlib.Core.List.{List, [], ◌∷◌, tail-eq_of_cons-eq}
use mathlib.Core.Logic.{◌↔◌, inl, inr, ⊎_elim, ◌≢◌}
use mathlib.Core.Path.{◌≡◌, refl, sym, ap, ap₂, ◌∙◌}
use native.Mathlib.Omega.{arith}
use lib.Dec.{T}
use lib.ListN.{length, get_or}
use lib.Seq.{ext_get_or}
use Rattle.order.specs.Floor.{Floor, joined}
use Rattle.motion.specs.Arrangement.{Arrangement, stands, occupied, vacant}
use Rattle.motion.proofs.ArrangementLaws.{occupied_rack, vacant-racks, stands_index}
use Rattle.motion.specs.Move.{on_floor, legal_move, after_move}
use Rattle.motion.proofs.MoveLaws.{on_floor_parts, legal_parts, legal_apart, move-length, moved_rack, moved_other}
use Rattle.motion.proofs.Lawful.{Leads, still, ◌then◌, replay_moves_ended}
use Rattle.motion.specs.Replay.{ended, replay_moves, trace}
use Rattle.motion.specs.Sound.{Sound}
use Rattle.motion.proofs.SoundLaws.{move_sound}
use Rattle.motion.proofs.Test.{equal?}
use Rattle.motion.proofs.TraceLaws.{trace-length, trace-first, trace_last, trace_turn, trace_keeps}
use Rattle.motion.specs.Pebble.{IsRack, UniquelyInvertible, Instance, arrangement_at, AlongEdges, IntoUnoccupied, OneMoves, Solution}

to_sound : (F : Floor) (m : ℕ) (A : Arrangement) → UniquelyInvertible F m A → Sound F.positions A
to_sound F m A u =
    let n : length A ≡ m = u.racks in
    record {
      below = λ i h. rw stands_index at (u.within (suc i) (omega arith));
      apart =
          λ i j h k e. ⊎_elim (λ (s : i ≡ j). s)
          (λ (s : i ≢ j). absurd
          (u.apart (suc i) (suc j) (omega arith) (omega arith) (λ c. s (omega arith)) (stands_index A i ∙ e ∙ sym (stands_index A j))))
          (equal? i j);
    }

from_sound : (F : Floor) (m : ℕ) (A : Arrangement) → length A ≡ m → Sound F.positions A → UniquelyInvertible F m A
unfolding stands
from_sound F m A n s =
    record {
      racks = n;
      within = λ p h. s.below (p - 1) (omega arith);
      apart = λ p q h k d e. d (let c : p - 1 ≡ q - 1 = s.apart (p - 1) (q - 1) (omega arith) (omega arith) e in omega arith);
    }

pub invertible_sound : (F : Floor) (m : ℕ) (A : Arrangement) → UniquelyInvertible F m A ↔ ((length A ≡ m) × Sound F.positions A)
invertible_sound F m A = (λ u. (u.racks, to_sound F m A u), λ t. from_sound F m A t.0 t.1)

-- the definition's points between two arrangements
pub record PebbleStep (F : Floor) (m : ℕ) (S S' : Arrangement) : Type 0 where
  pub along : AlongEdges F m S S'
  pub into : IntoUnoccupied m S S'
  pub one : OneMoves m S S'

-- of a legal move on a sound arrangement
module _ (F : Floor) (m : ℕ) (A : Arrangement) (n : length A ≡ m) (s : Sound F.positions A) (mv : ℕ × ℕ) (l : T (legal_move F A mv)) where
  move-along : AlongEdges F m A (after_move A mv)
  unfolding stands
  move-along p h =
      let k : p - 1 < length A = omega arith in
      ⊎_elim
      (λ (e : get_or A (p - 1) 0 ≡ mv.0). inr (rw (moved_rack A mv (p - 1) k e, e)
      ((on_floor_parts F mv).0 ((legal_parts F A mv).0 l).0).2))
      (λ (e : get_or A (p - 1) 0 ≢ mv.0). inl (sym (moved_other A mv (p - 1) k e)))
      (equal? (get_or A (p - 1) 0) mv.0)

  move_into : IntoUnoccupied m A (after_move A mv)
  unfolding stands
  move_into p h d q k f =
      let i : p - 1 < length A = omega arith in
      let j : q - 1 < length A = omega arith in
      ⊎_elim
      (λ (e : get_or A (p - 1) 0 ≡ mv.0). rw (moved_rack A mv (p - 1) i e)
      ((vacant-racks A mv.1).0 ((legal_parts F A mv).0 l).2 (q - 1) j))
      (λ (e : get_or A (p - 1) 0 ≢ mv.0). absurd (d (sym (moved_other A mv (p - 1) i e)))) (equal? (get_or A (p - 1) 0) mv.0)

  one_at : (i : ℕ) → i < length A → get_or A i 0 ≡ mv.0 → OneMoves m A (after_move A mv)
  unfolding stands
  one_at i h e = (suc i, (omega arith, omega arith), moves, stay)
    where
      moves : stands A (suc i) ≢ stands (after_move A mv) (suc i)
      moves = rw (stands_index A i, stands_index (after_move A mv) i, e, moved_rack A mv i h e) (legal_apart F A mv l)

      other : (j : ℕ) → j < length A → j ≢ i → get_or A j 0 ≡ get_or (after_move A mv) j 0
      other j k d = sym (moved_other A mv j k (λ c. d (s.apart j i k h (c ∙ sym e))))

      stay : (q : ℕ) → IsRack m q → q ≢ suc i → stands A q ≡ stands (after_move A mv) q
      stay q k d = other (q - 1) (omega arith) (λ c. d (omega arith))

  pub move_pebble : PebbleStep F m A (after_move A mv)
  move_pebble =
      let r = (occupied_rack A mv.0).0 ((legal_parts F A mv).0 l).1 in
      record { along = move-along; into = move_into; one = one_at r.0 r.1 r.2 }

-- exactly one move makes B of A, and it is legal on A
pub record OnlyMove (F : Floor) (A B : Arrangement) : Type 0 where
  pub move : ℕ × ℕ
  pub legal : T (legal_move F A move)
  pub makes : after_move A move ≡ B
  pub only : (mv : ℕ × ℕ) → after_move A mv ≡ B → mv ≡ move

-- of two arrangements that meet the points, where p is the rack that moves
module _ (F : Floor) (m : ℕ) (A B : Arrangement) (a : UniquelyInvertible F m A) (b : UniquelyInvertible F m B)
    (along : AlongEdges F m A B) (into : IntoUnoccupied m A B) (p : ℕ) (h : IsRack m p) (d : stands A p ≢ stands B p)
    (rest : (q : ℕ) → IsRack m q → q ≢ p → stands A q ≡ stands B q) where
  the_on_floor : T (on_floor F (stands A p, stands B p))
  the_on_floor = (on_floor_parts F (stands A p, stands B p)).1 (
    a.within p h,
    b.within p h,
    ⊎_elim (λ (e : stands A p ≡ stands B p). absurd (d e)) (λ (e : T (joined F (stands A p) (stands B p))). e) (along p h),
  )

  the_left : T (occupied A (stands A p))
  unfolding stands
  the_left = let n : length A ≡ m = a.racks in (occupied_rack A (stands A p)).1 (p - 1, omega arith, refl)

  the_entered : T (vacant A (stands B p))
  the_entered =
      let n : length A ≡ m = a.racks in
      (vacant-racks A (stands B p)).1
      (λ i k.
      rw (← stands_index A i)
      (⊎_elim
      (λ (e : suc i ≡ p). rw e d)
      (λ (e : suc i ≢ p). into p h d (suc i) (omega arith) e)
      (equal? (suc i) p)))

  the_makes : after_move A (stands A p, stands B p) ≡ B
  the_makes =
      let n : length A ≡ m = a.racks in
      ext_get_or 0 (after_move A (stands A p, stands B p)) B (move-length A (stands A p, stands B p) ∙ n ∙ sym b.racks)
      (λ i h'.
      let k : i < length A = rw move-length at h' in
      ⊎_elim
      (λ (e : suc i ≡ p). moved_rack A (stands A p, stands B p) i k (sym (stands_index A i) ∙ ap (stands A) e) ∙ ap (stands B) (sym e)
      ∙ stands_index B i)
      (λ (e : suc i ≢ p). moved_other A (stands A p, stands B p) i k (λ c. a.apart (suc i) p (omega arith) h e (stands_index A i ∙ c))
      ∙ sym (stands_index A i) ∙ rest (suc i) (omega arith) e ∙ stands_index B i)
      (equal? (suc i) p))

  the_only : (mv : ℕ × ℕ) → after_move A mv ≡ B → mv ≡ (stands A p, stands B p)
  unfolding stands
  the_only mv e =
      let n : length A ≡ m = a.racks in
      let k : p - 1 < length A = omega arith in
      let at : get_or (after_move A mv) (p - 1) 0 ≡ get_or B (p - 1) 0 = ap (λ (C : Arrangement). get_or C (p - 1) 0) e in
      ⊎_elim
      (λ (c : get_or A (p - 1) 0 ≡ mv.0). λ i. (sym c i, (sym (moved_rack A mv (p - 1) k c) ∙ at) i))
      (λ (c : get_or A (p - 1) 0 ≢ mv.0). absurd (d (sym (moved_other A mv (p - 1) k c) ∙ at)))
      (equal? (get_or A (p - 1) 0) mv.0)

  the_move : OnlyMove F A B
  the_move = record {
    move = (stands A p, stands B p);
    legal = (legal_parts F A (stands A p, stands B p)).1 (the_on_floor, the_left, the_entered);
    makes = the_makes;
    only = the_only;
  }

pub pebble_move : (F : Floor) (m : ℕ) (A B : Arrangement) → UniquelyInvertible F m A → UniquelyInvertible F m B → PebbleStep F m A B
    → OnlyMove F A B
pebble_move F m A B a b t = let o = t.one in the_move F m A B a b t.along t.into o.0 o.1 o.2 o.3

-- exactly one list of moves has the trace S from S⁰, and its replay ends at S⁺
pub record OnlyMoves (F : Floor) (S⁰ S⁺ : Arrangement) (ξ : ℕ) (S : List Arrangement) : Type 0 where
  pub moves : List (ℕ × ℕ)
  pub steps : length moves ≡ ξ
  pub traced : trace after_move S⁰ moves ≡ S
  pub accepted : replay_moves F S⁰ moves ≡ ended S⁺
  pub only : (ms : List (ℕ × ℕ)) → trace after_move S⁰ ms ≡ S → ms ≡ moves

trace_one : (A B : Arrangement) (ms : List (ℕ × ℕ)) → trace after_move A ms ≡ B ∷ [] → ms ≡ []
trace_one A B [] e = refl
trace_one A B (mv ∷ ms) e =
    absurd (let n : length (trace after_move A (mv ∷ ms)) ≡ 1 = ap length e in omega (arith, trace-length after_move A (mv ∷ ms)))

module _ (F : Floor) (m : ℕ) where
  abbrev Good : Arrangement → Type 0
  Good A = (length A ≡ m) × Sound F.positions A

  good_next : (A : Arrangement) (mv : ℕ × ℕ) → T (legal_move F A mv) → Good A → Good (after_move A mv)
  good_next A mv l g = (move-length A mv ∙ g.0, move_sound F A mv l g.1)

  good_step : {A B : Arrangement} {ms : List (ℕ × ℕ)} → Leads F A ms B → Good A → (k : ℕ) → k < length ms
      → PebbleStep F m (get_or (trace after_move A ms) k []) (get_or (trace after_move A ms) (suc k) [])
  good_step p g k h =
      let t = trace_turn p k h in
      let u = trace_keeps Good good_next p g k (omega arith) in
      rw t.2 (move_pebble F m _ u.0 u.1 t.0 t.1)

  pub replay_solution : (S⁰ S⁺ : Arrangement) → UniquelyInvertible F m S⁰ → (ms : List (ℕ × ℕ)) → replay_moves F S⁰ ms ≡ ended S⁺
      → Solution F m S⁰ S⁺ (length ms) (trace after_move S⁰ ms)
  unfolding arrangement_at
  replay_solution S⁰ S⁺ u ms e =
      let p : Leads F S⁰ ms S⁺ = (replay_moves_ended F S⁰ ms S⁺).0 e in
      let g : Good S⁰ = (invertible_sound F m S⁰).0 u in
      record {
        sequence = trace-length after_move S⁰ ms;
        begins = trace-first after_move S⁰ ms;
        invertible = λ k h. (invertible_sound F m _).1 (trace_keeps Good good_next p g k h);
        reaches = trace_last p;
        along = λ k h. (good_step p g k h).along;
        into = λ k h. (good_step p g k h).into;
        one = λ k h. (good_step p g k h).one;
      }

  solution_tail : (S⁰ S⁺ A B : Arrangement) (S : List Arrangement) (ξ : ℕ) → Solution F m S⁰ S⁺ (suc ξ) (A ∷ B ∷ S)
      → Solution F m B S⁺ ξ (B ∷ S)
  unfolding arrangement_at
  solution_tail S⁰ S⁺ A B S ξ s =
      record {
        sequence = let n : suc (suc (length S)) ≡ suc (suc ξ) = s.sequence in omega arith;
        begins = refl;
        invertible = λ k h. s.invertible (suc k) (omega arith);
        reaches = s.reaches;
        along = λ k h. s.along (suc k) (omega arith);
        into = λ k h. s.into (suc k) (omega arith);
        one = λ k h. s.one (suc k) (omega arith);
      }

  solution_move : (S⁰ S⁺ A B : Arrangement) (S : List Arrangement) (ξ : ℕ) → Solution F m S⁰ S⁺ (suc ξ) (A ∷ B ∷ S) → OnlyMove F A B
  unfolding arrangement_at
  solution_move S⁰ S⁺ A B S ξ s =
      pebble_move F m A B (s.invertible 0 (omega arith)) (s.invertible 1 (omega arith))
      (record { along = s.along 0 (omega arith); into = s.into 0 (omega arith); one = s.one 0 (omega arith) })

  only_none : (S⁰ S⁺ A : Arrangement) (ξ : ℕ) → Solution F m S⁰ S⁺ ξ (A ∷ []) → OnlyMoves F S⁰ S⁺ ξ (A ∷ [])
  unfolding arrangement_at trace
  only_none S⁰ S⁺ A zero s =
      let first : A ≡ S⁰ = s.begins in
      let last : A ≡ S⁺ = s.reaches in
      let stay : Leads F S⁰ [] S⁺ = rw (← first, last) still in
      record {
        moves = [];
        steps = refl;
        traced = ap (λ (B : Arrangement). B ∷ []) (sym first);
        accepted = (replay_moves_ended F S⁰ [] S⁺).1 stay;
        only = trace_one S⁰ A;
      }
  only_none S⁰ S⁺ A (suc ξ) s = absurd (let n : 1 ≡ suc (suc ξ) = s.sequence in omega arith)

  only_first : (A S⁺ B : Arrangement) (S : List Arrangement) (ξ : ℕ) → OnlyMove F A B → OnlyMoves F B S⁺ ξ (B ∷ S)
      → OnlyMoves F A S⁺ (suc ξ) (A ∷ B ∷ S)
  unfolding trace
  only_first A S⁺ B S ξ v w =
      let on : Leads F (after_move A v.move) w.moves S⁺ = rw v.makes ((replay_moves_ended F B w.moves S⁺).0 w.accepted) in
      record {
        moves = v.move ∷ w.moves;
        steps = ap suc w.steps;
        traced = ap (λ (R : List Arrangement). A ∷ R) (rw v.makes w.traced);
        accepted = (replay_moves_ended F A (v.move ∷ w.moves) S⁺).1 (v.legal then on);
        only = only;
      }
    where
      only : (ms : List (ℕ × ℕ)) → trace after_move A ms ≡ A ∷ B ∷ S → ms ≡ v.move ∷ w.moves
      only [] e = absurd (let n : 1 ≡ suc (suc (length S)) = ap length e in omega arith)
      only (mv ∷ ms) e =
          let rest : trace after_move (after_move A mv) ms ≡ B ∷ S = tail-eq_of_cons-eq e in
          let makes : after_move A mv ≡ B =
          sym (trace-first after_move (after_move A mv) ms) ∙ ap (λ (R : List Arrangement). get_or R 0 []) rest in
          ap₂ {C = List (ℕ × ℕ)} (λ x xs. x ∷ xs) (v.only mv makes) (w.only ms (rw makes at rest))

  pub solution_replay : (S⁰ S⁺ : Arrangement) (ξ : ℕ) (S : List Arrangement) → Solution F m S⁰ S⁺ ξ S → OnlyMoves F S⁰ S⁺ ξ S
  unfolding arrangement_at
  solution_replay S⁰ S⁺ ξ [] s = absurd (let n : zero ≡ suc ξ = s.sequence in omega arith)
  solution_replay S⁰ S⁺ ξ (A ∷ []) s = only_none S⁰ S⁺ A ξ s
  solution_replay S⁰ S⁺ zero (A ∷ B ∷ S) s = absurd (let n : suc (suc (length S)) ≡ 1 = s.sequence in omega arith)
  solution_replay S⁰ S⁺ (suc ξ) (A ∷ B ∷ S) s =
      let first : A ≡ S⁰ = s.begins in
      rw (← first) (only_first A S⁺ B S ξ (solution_move S⁰ S⁺ A B S ξ s) (solution_replay B S⁺ ξ (B ∷ S) (solution_tail S⁰ S⁺ A B S ξ s)))

  -- what has a solution as its trace is accepted: it is the one list that has this trace
  solution_accepted : (S⁰ S⁺ : Arrangement) (ms : List (ℕ × ℕ)) → Solution F m S⁰ S⁺ (length ms) (trace after_move S⁰ ms)
      → replay_moves F S⁰ ms ≡ ended S⁺
  solution_accepted S⁰ S⁺ ms s = let w = solution_replay S⁰ S⁺ (length ms) (trace after_move S⁰ ms) s in rw (w.only ms refl) w.accepted

-- For every instance: (a) replay accepts moves exactly if their trace is a solution with as many steps as there are moves; (b) each
-- solution is the trace of exactly one list of moves, and replay accepts it.
pub pebble_replay : (F : Floor) (m : ℕ) (S⁰ S⁺ : Arrangement) → Instance F m S⁰ S⁺
    → ((ms : List (ℕ × ℕ)) → (replay_moves F S⁰ ms ≡ ended S⁺) ↔ Solution F m S⁰ S⁺ (length ms) (trace after_move S⁰ ms))
    × ((ξ : ℕ) (S : List Arrangement) → Solution F m S⁰ S⁺ ξ S → OnlyMoves F S⁰ S⁺ ξ S)
pebble_replay F m S⁰ S⁺ π = (λ ms. (replay_solution F m S⁰ S⁺ π.initial ms, solution_accepted F m S⁰ S⁺ ms), solution_replay F m S⁰ S⁺)
