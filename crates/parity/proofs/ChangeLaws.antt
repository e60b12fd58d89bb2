-- Laws of the change from an arrangement to the goals, each with one vacancy.
--
--     goal_rack          what stands at rack i + 1's place is to go to its goal
--     goal-vacant        and the vacancy to the vacancy of the goals
--     goal-apart         no two positions have the same goal: the change is a permutation
--     goal-left, goal-entered, goal_other    a legal move exchanges the goals of its two positions
--     goal-home          from the goals the change is none
-- Assumes nothing.
use Prim.Native.Nat.{ℕ, ◌+◌, ◌<◌}
use mathlib.Core.Path.{◌≡◌, refl, sym, ap, ◌∙◌}
use mathlib.Core.Logic.{◌≢◌, ⊎_elim, by_cases}
use native.Mathlib.Decide.{ℕ_discrete}
use lib.ListN.{length, get_or}
use lib.Dec.{T}
use Rattle.order.specs.Floor.{Floor}
use Rattle.motion.specs.Arrangement.{Arrangement, stands, occupied, vacant, rack_at}
use Rattle.motion.specs.Move.{legal_move, after_move}
use Rattle.motion.specs.Sound.{Sound}
use Rattle.motion.specs.TurnedStep.{turned}
use Rattle.motion.proofs.ArrangementLaws.{occupied_rack, vacant-racks, occupied-vacant, occupied_or_vacant, stands_index}
use Rattle.motion.proofs.MoveLaws.{legal_parts, move-length, moved_rack, moved_other, turned_legal}
use Rattle.motion.proofs.SoundLaws.{move_sound}
use Rattle.motion.proofs.Test.{not_parts, cond-true, cond-false}
use Rattle.parity.specs.Permutation.{vacancy, goal_of}
use Rattle.parity.proofs.VacancyLaws.{rack_at_own, vacancy-vacant, vacancy_only}

module _ (n : ℕ) (G : Arrangement) where
  module _ (A : Arrangement) (s : Sound n A) where
    goal_found : (i : ℕ) → i < length A → goal_of n A G (get_or A i 0) ≡ get_or G i 0
    unfolding goal_of
    goal_found i h =
        let p = get_or A i 0 in
        let held = (not_parts (vacant A p)).1 (occupied-vacant A p ((occupied_rack A p).1 (i, h, refl))) in
        cond-false (vacant A p) (vacancy n G) (stands G (rack_at A p)) held ∙ ap (stands G) (rack_at_own n A s i h) ∙ stands_index G i

    pub goal_rack : (i p : ℕ) → i < length A → get_or A i 0 ≡ p → goal_of n A G p ≡ get_or G i 0
    goal_rack i p h e = ap (goal_of n A G) (sym e) ∙ goal_found i h

    pub goal-vacant : (p : ℕ) → T (vacant A p) → goal_of n A G p ≡ vacancy n G
    unfolding goal_of
    goal-vacant p v = cond-true (vacant A p) (vacancy n G) (stands G (rack_at A p)) v

  module _ (g : Sound n G) (one : length G + 1 ≡ n) where
    module _ (A : Arrangement) (s : Sound n A) (same : length A ≡ length G) where
      -- a rack's goal is not the vacancy of the goals
      rack_vacant : (p q : ℕ) → T (occupied A p) → T (vacant A q) → goal_of n A G p ≢ goal_of n A G q
      rack_vacant p q o v e =
          let r = (occupied_rack A p).0 o in
          (vacant-racks G (vacancy n G)).0 (vacancy-vacant G n g one) r.0 (rw same at r.1)
          (sym (goal_rack A s r.0 p r.1 r.2) ∙ e ∙ goal-vacant A s q v)

      pub goal-apart : (p q : ℕ) → p < n → q < n → goal_of n A G p ≡ goal_of n A G q → p ≡ q
      goal-apart p q lp lq e =
          ⊎_elim
          (λ (o : T (occupied A p)).
          ⊎_elim
          (λ (u : T (occupied A q)).
          let r = (occupied_rack A p).0 o in
          let t = (occupied_rack A q).0 u in
          let i = g.apart r.0 t.0 (rw same at r.1) (rw same at t.1)
          (sym (goal_rack A s r.0 p r.1 r.2) ∙ e ∙ goal_rack A s t.0 q t.1 t.2) in
          sym r.2 ∙ ap (λ (k : ℕ). get_or A k 0) i ∙ t.2)
          (λ (v : T (vacant A q)). absurd (rack_vacant p q o v e)) (occupied_or_vacant A q))
          (λ (v : T (vacant A p)).
          ⊎_elim
          (λ (u : T (occupied A q)). absurd (rack_vacant q p u v (sym e)))
          (λ (u : T (vacant A q)).
          let all : length A + 1 ≡ n = rw same one in
          vacancy_only A n s all p lp v ∙ sym (vacancy_only A n s all q lq u))
          (occupied_or_vacant A q))
          (occupied_or_vacant A p)

    pub goal-home : (p : ℕ) → p < n → goal_of n G G p ≡ p
    goal-home p l =
        ⊎_elim
        (λ (o : T (occupied G p)). let r = (occupied_rack G p).0 o in goal_rack G g r.0 p r.1 r.2 ∙ r.2)
        (λ (v : T (vacant G p)). goal-vacant G g p v ∙ sym (vacancy_only G n g one p l v))
        (occupied_or_vacant G p)

module _ (F : Floor) (G A : Arrangement) (s : Sound F.positions A) (m : ℕ × ℕ) (l : T (legal_move F A m)) where
  abbrev n : ℕ
  n = F.positions

  abbrev B : Arrangement
  B = after_move A m

  sound : Sound n B
  sound = move_sound F A m l s

  -- after the move the position left is vacant
  pub left-vacant : T (vacant B m.0)
  left-vacant = unfold turned in ((legal_parts F B (m.1, m.0)).0 (turned_legal F A m l)).2

  pub goal-left : goal_of n B G m.0 ≡ goal_of n A G m.1
  goal-left = goal-vacant n G B sound m.0 left-vacant ∙ sym (goal-vacant n G A s m.1 ((legal_parts F A m).0 l).2)

  pub goal-entered : goal_of n B G m.1 ≡ goal_of n A G m.0
  goal-entered =
      let r = (occupied_rack A m.0).0 ((legal_parts F A m).0 l).1 in
      goal_rack n G B sound r.0 m.1 (rw move-length r.1) (moved_rack A m r.0 r.1 r.2)
      ∙ sym (goal_rack n G A s r.0 m.0 r.1 r.2)

  pub goal_other : (p : ℕ) → p ≢ m.0 → p ≢ m.1 → goal_of n A G p ≡ goal_of n B G p
  goal_other p d e =
      ⊎_elim
      (λ (o : T (occupied A p)).
      let r = (occupied_rack A p).0 o in
      goal_rack n G A s r.0 p r.1 r.2
      ∙ sym (goal_rack n G B sound r.0 p (rw move-length r.1)
      (moved_other A m r.0 r.1 (λ q. d (sym r.2 ∙ q)) ∙ r.2)))
      (λ (v : T (vacant A p)). goal-vacant n G A s p v ∙ sym (goal-vacant n G B sound p (still v)))
      (occupied_or_vacant A p)
    where
      still : T (vacant A p) → T (vacant B p)
      still v =
          (vacant-racks B p).1
          (λ i h c. let h' : i < length A = rw move-length at h in
          by_cases (ℕ_discrete (get_or A i 0) m.0)
          (λ q. e (sym c ∙ moved_rack A m i h' q))
          (λ q. (vacant-racks A p).0 v i h' (sym (moved_other A m i h' q) ∙ c)))
