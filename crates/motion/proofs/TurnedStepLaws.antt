-- A legal step can be taken back: turned round, it is legal after it, and leads back. The chain of a rack is then the one from it to the
-- last that follows it, so it is as short as a train of the step.
--
--     back_lead          the chain that runs back from a rack to the last that follows it: with its train it counts one rack twice
--     back_change        the change back is one that Definition 2 allows
--     back_short         in chains of at most eight racks
--     turned_iff         which moves the step turned round has; turned-ascends: they ascend
--     turned_is          it is the step between the two arrangements
--     turned_legal_step  it is legal
--     turned_step_back   and leads back
-- Assumes nothing.
use Prim.Native.Nat.{ℕ, zero, suc, ◌+◌, ◌-◌, ◌≤◌, ◌<◌}
use mathlib.Core.Path.{◌≡◌, refl, sym, ◌∙◌, ap, subst}
use mathlib.Core.Bool.{Bool, ◌||◌}
use mathlib.Core.Logic.{◌↔◌, ◌≢◌, ◌⊎◌, inl, inr, ⊎_elim}
use mathlib.Core.List.Memᴰ
use mathlib.Core.List.Pairwise
use mathlib.Core.List.{List, [], ◌∷◌, map, Memᴰ}
use mathlib.Core.HLevel.{¬_prop}
use native.Mathlib.Omega.{arith}
use lib.ListN.{length}
use lib.Dec.{T, T_not}
use Rattle.order.specs.Floor.{Floor, joined}
use Rattle.motion.specs.Arrangement.{Arrangement, stands, occupied}
use Rattle.motion.specs.Move.{after}
use Rattle.motion.specs.Problem.{IsRack, UniquelyInvertible, AlongEdges}
use Rattle.motion.specs.ParallelPathFinding.{RackChain, InChains}
use Rattle.motion.specs.TrainCap.{InShortChains}
use Rattle.motion.specs.StepTests.{Ascends, EnteredOnce}
use Rattle.motion.specs.LegalStep.{longest_train, Train, leader, follows, LegalStep}
use Rattle.motion.specs.StepOf.{sort, step_of}
use Rattle.motion.specs.TurnedStep.{turned, turned_step}
use Rattle.motion.proofs.ListLaws.{by_member, pairwise_more, pairwise_rel, KeysDiffer}
use Rattle.motion.proofs.StepTestsLaws.{left, occupied_iff}
use Rattle.motion.proofs.Test.{decided}
use Rattle.motion.proofs.Trains.{train-length}
use Rattle.motion.proofs.Racks.{own, stands_in, valid_same, valid_rack, valid_nodup}
use Rattle.motion.proofs.MoveLaws.{joined-sym, after-length}
use Rattle.motion.proofs.StepOfLaws.{Taken, sort_iff, sort-ascends, ascending-same, step_of_iff, step_of-ascends}
use Rattle.motion.proofs.StepChange.{Change, Lead, lead_chain, lead_more, legal_valid, legal_along, step_has, step_only}
use Rattle.motion.proofs.StepChange.{change_legal}
use Rattle.motion.proofs.StepChange.{change-after}

-- which moves a list turned round has
map_turned : (x : ℕ × ℕ) (ms : List (ℕ × ℕ)) → Memᴰ x (map turned ms) ↔ Memᴰ (turned x) ms
unfolding turned
map_turned x [] = (λ k. absurd (Memᴰ.not-nil k), λ k. absurd (Memᴰ.not-nil k))
map_turned x (m ∷ ms) = (
  λ k. by_member k (λ e. Memᴰ.head (ap turned e)) (λ n. Memᴰ.tail ((map_turned x ms).0 n)),
  λ k. by_member k (λ e. Memᴰ.head (ap turned e)) (λ n. Memᴰ.tail ((map_turned x ms).1 n)),
)

pub turned_iff : (x : ℕ × ℕ) (ms : List (ℕ × ℕ)) → Memᴰ x (turned_step ms) ↔ Memᴰ (turned x) ms
unfolding turned_step
turned_iff x ms = (
  λ k. (map_turned x ms).0 ((sort_iff x (map turned ms)).0 k),
  λ k. (sort_iff x (map turned ms)).1 ((map_turned x ms).1 k),
)

-- entered once, left once
turned-differ : (ms : List (ℕ × ℕ)) → EnteredOnce ms → KeysDiffer left (map turned ms)
unfolding turned
turned-differ [] o = Pairwise.nil
turned-differ (m ∷ ms) o =
    pairwise_more (λ x y. ¬_prop) (λ x k. pairwise_rel o ((map_turned x ms).0 k)) (turned-differ ms (Pairwise.of_cons o))

pub turned-ascends : (ms : List (ℕ × ℕ)) → EnteredOnce ms → Ascends (turned_step ms)
unfolding turned_step
turned-ascends ms o = sort-ascends (map turned ms) (turned-differ ms o)

train-some : {A : Arrangement} {ms : List (ℕ × ℕ)} {k : ℕ} {x : ℕ × ℕ} → Train A ms k x → 1 ≤ k
train-some (leader n v) = omega arith
train-some (follows n e t) = omega arith

module _ {F : Floor} {m : ℕ} {A : Arrangement} {ms : List (ℕ × ℕ)} (valid : UniquelyInvertible F m A) (s : LegalStep F A ms) where
  abbrev B : Arrangement
  B = after A ms

  valid_after : UniquelyInvertible F m B
  valid_after = legal_valid valid s

  -- the move of a rack that changes place is one of the step's
  moves_in_lem : {a : ℕ} → IsRack m a → stands A a ≢ stands B a → Memᴰ (stands A a, stands B a) ms
  moves_in_lem {a} r ne =
      step_only valid s (stands A a, stands B a) (record { rack = a; is = own A valid.racks r; from = refl; to = refl; apart = ne })

  back_along : AlongEdges F m B A
  back_along a r =
      ⊎_elim (λ e. inl (sym e)) (λ (j : T (joined F (stands A a) (stands B a))). inr (rw (joined-sym F (stands B a) (stands A a)) j))
      (legal_along valid s a r)

  -- the rack that follows the rack a, which has k racks from it to its leader
  record Behind (a k : ℕ) : Type 0 where
    rack : ℕ
    is : IsRack m rack
    goes : stands A rack ≢ stands B rack
    train : Train A ms (suc k) (stands A rack, stands B rack)
    enters : stands A a ≡ stands B rack
    few : suc k ≤ longest_train

  -- no rack follows, and then the way back leads into a vacant position, or one does
  behind? : (k a : ℕ) → IsRack m a → stands A a ≢ stands B a → Train A ms k (stands A a, stands B a) → Lead m B A a 1 ⊎ Behind a k
  behind? k a r ne t =
      ⊎_elim (λ o. inr (followed o)) (λ o. inl (alone (λ n. T_not (occupied B (stands A a)) o ((occupied_iff B (stands A a)).1 n))))
      (decided (occupied B (stands A a)))
    where
      alone : (Memᴰ (stands A a) B → ⊥) → Lead m B A a 1
      alone none =
          record {
            last = 0;
            counted = refl;
            b = λ i. a;
            agents = λ i h. r;
            first = refl;
            leading = λ c q f. none (Memᴰ.cast (sym f) (stands_in (own B valid_after.racks q)));
            following = λ i h. absurd (omega arith);
          }

      followed : T (occupied B (stands A a)) → Behind a k
      followed o =
          let w = valid_rack valid_after ((occupied_iff B (stands A a)).0 o) in
          -- the rack that stands there afterwards has moved: one that stayed would have been there before
          let ne' : stands A w.0 ≢ stands B w.0 = λ f. ne (sym w.2 ∙ ap (stands B) (valid_same valid w.1 r (f ∙ w.2))) in
          let train : Train A ms (suc k) (stands A w.0, stands B w.0) = follows (moves_in_lem w.1 ne') w.2 t in
          let whole = s.trains (stands A w.0, stands B w.0) (moves_in_lem w.1 ne') in
          let count : suc k ≡ whole.0 = train-length A ms s.ascending s.held train whole.2 in
          record { rack = w.0; is = w.1; goes = ne'; train = train; enters = sym w.2; few = omega (arith, count, whole.1) }

  pub back_lead : (d k : ℕ) → k + d ≡ longest_train → (a : ℕ) → IsRack m a → stands A a ≢ stands B a
      → Train A ms k (stands A a, stands B a) → (j : ℕ) × (j + k ≤ suc longest_train) × Lead m B A a j
  back_lead zero k e a r ne t =
      ⊎_elim (λ l. (1, omega (arith, e), l)) (λ (w : Behind a k). absurd (omega (arith, e, w.few))) (behind? k a r ne t)
  back_lead (suc d) k e a r ne t =
      ⊎_elim (λ l. (1, omega (arith, e), l))
      (λ (w : Behind a k).
      let more = back_lead d (suc k) (omega (arith, e)) w.rack w.is w.goes w.train in
      (suc more.0, omega (arith, more.1), lead_more r w.enters more.2))
      (behind? k a r ne t)

  pub back_short : InShortChains m B A
  back_short a r ne =
      let ne' : stands A a ≢ stands B a = λ e. ne (sym e) in
      let t = s.trains (stands A a, stands B a) (moves_in_lem r ne') in
      let w = back_lead (longest_train - t.0) t.0 (omega (arith, t.1)) a r ne' t.2 in
      let b = lead_chain valid_after w.2 in
      (b.0, omega (arith, b.1, w.1, train-some t.2))

  pub back_change : Change F m B A
  back_change = record { invertible = valid; along = back_along; led = λ a r ne. (back_short a r ne).0 }

  taken_back : (x : ℕ × ℕ) → Taken B A x → Taken A B (turned x)
  unfolding turned
  taken_back x t = record {
    rack = t.rack;
    is = subst (λ (n : ℕ). IsRack n t.rack) (after-length A ms) t.is;
    from = t.to;
    to = t.from;
    apart = λ e. t.apart (sym e);
  }

  taken_forth : (x : ℕ × ℕ) → Taken A B (turned x) → Taken B A x
  unfolding turned
  taken_forth x t = record {
    rack = t.rack;
    is = subst (λ (n : ℕ). IsRack n t.rack) (sym (after-length A ms)) t.is;
    from = t.to;
    to = t.from;
    apart = λ e. t.apart (sym e);
  }

  pub turned_is : turned_step ms ≡ step_of B A
  turned_is =
      ascending-same (turned_step ms) (step_of B A) (turned-ascends ms s.once) (step_of-ascends B A (valid_nodup valid_after))
      (λ x.
      let e = step_of_iff B A x (after-length A ms) in (
        λ k. e.1 (taken_forth x (step_has valid s (turned x) ((turned_iff x ms).0 k))),
        λ k. (turned_iff x ms).1 (step_only valid s (turned x) (taken_back x (e.0 k))),
      ))

  pub turned_legal_step : LegalStep F B (turned_step ms)
  turned_legal_step = subst (LegalStep F B) (sym turned_is) (change_legal valid_after back_change back_short)

  pub turned_step_back : after B (turned_step ms) ≡ A
  turned_step_back = ap (after B) turned_is ∙ change-after valid_after back_change
