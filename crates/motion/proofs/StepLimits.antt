-- What follows for legal steps: how many moves they can have, and what they cannot do.
--
--     train_leader      a train has a leader: a move into a position without a rack
--     step_racks        a legal step has at most as many moves as there are racks
--     step_positions    and, unless it is empty, fewer than there are positions
--     step_size         both bounds, for every legal step
--     full_still        on a full floor every legal step is empty
--     full_iff          so replay from a full floor ends where it began, and by empty steps only
--     no_ring_lem           moves of which each enters a position that one of them leaves are no part of a legal step
--     no_turn           a ring does not turn by itself: moves from each position of a ring to the next, back to the first
--     no_swap           two neighbours do not change places
--     no_meeting        two racks do not enter one position
--     no_longer_train   no train in a legal step has more than eight moves
--     no_long_chain     nine moves, each into the position that the next one leaves, are no part of a legal step
-- Assumes nothing.
use Prim.Native.Nat.{ℕ, zero, suc, ◌-◌, ◌≤◌, ◌<◌}
use mathlib.Core.Path.{◌≡◌, refl, sym, ◌∙◌, ap, subst}
use mathlib.Core.Logic.{◌↔◌, ◌≢◌, dite}
use mathlib.Core.HLevel.{¬_prop}
use mathlib.Core.List.{List, [], ◌∷◌, map, Memᴰ, Nodup}
use native.Mathlib.Omega.{arith}
use native.Mathlib.Decide.{dec_lt}
use lib.ListN.{length, length-map}
use Rattle.order.specs.Floor.{Floor}
use Rattle.motion.specs.Arrangement.{Arrangement}
use Rattle.motion.specs.Move.{after}
use Rattle.motion.specs.Problem.{UniquelyInvertible}
use Rattle.motion.proofs.ListLaws.{by_member, pairwise_more, pigeonhole, pigeonhole_below, keys_same, keys_nodup}
use Rattle.motion.proofs.StepTestsLaws.{left, vacant_iff, left-differ, entered}
use Rattle.motion.proofs.Trains.{train_member, train-length}
use Rattle.motion.specs.LegalStep.{longest_train, Train, leader, follows, LegalStep}
use Rattle.motion.proofs.LegalStepLaws.{legal_nothing}
use Rattle.motion.proofs.StepReplay.{StepsLead, replay_none, replay_cons, replay_waiting}
use Rattle.motion.proofs.Racks.{valid_below, valid_nodup}

-- how many moves

pub train_leader : {A : Arrangement} {ms : List (ℕ × ℕ)} {k : ℕ} {m : ℕ × ℕ} → Train A ms k m
    → (l : ℕ × ℕ) × Memᴰ l ms × (Memᴰ l.1 A → ⊥)
train_leader {A} {m} (leader n t) = (m, n, (vacant_iff A m.1).0 t)
train_leader (follows n e t) = train_leader t

-- positions of racks, with one that none of them holds, are fewer than all positions
one_more : (n p : ℕ) (A l : List ℕ) → p < n → (Memᴰ p A → ⊥) → Nodup l → ((q : ℕ) → Memᴰ q l → Memᴰ q A × (q < n))
    → length l < n
one_more n p A l h free d held =
    pigeonhole_below (p ∷ l) n (pairwise_more (λ a b. ¬_prop) (λ q k e. free (mathlib.Core.List.Memᴰ.cast e (held q k).0)) d)
    (λ q k. by_member k (λ e. subst (λ (x : ℕ). x < n) (sym e) h) (λ k. (held q k).1))

module _ {F : Floor} {A : Arrangement} {ms : List (ℕ × ℕ)} (s : LegalStep F A ms) where
  lefts_nodup : Nodup (map left ms)
  lefts_nodup = keys_nodup left ms (left-differ s.ascending)

  lefts_held : (p : ℕ) → Memᴰ p (map left ms) → Memᴰ p A × (p < F.positions)
  lefts_held p k =
      let w = mathlib.Core.List.Memᴰ.of_map left ms k in
      (mathlib.Core.List.Memᴰ.cast (sym w.2) (s.held w.0 w.1), subst (λ (q : ℕ). q < F.positions) w.2 (s.joins w.0 w.1).left_below)

  pub step_racks : length ms ≤ length A
  step_racks = subst (λ (n : ℕ). n ≤ length A) (length-map ms left) (pigeonhole (map left ms) A lefts_nodup (λ p k. (lefts_held p k).0))

  pub step_positions : {m : ℕ × ℕ} → Memᴰ m ms → length ms < F.positions
  step_positions {m} k =
      let w = train_leader (s.trains m k).2 in
      subst (λ (n : ℕ). n < F.positions) (length-map ms left)
      (one_more F.positions w.0.1 A (map left ms) (s.joins w.0 w.1).entered_below w.2 lefts_nodup lefts_held)

pub step_size : {F : Floor} {A : Arrangement} (ms : List (ℕ × ℕ)) → LegalStep F A ms
    → (length ms ≤ length A) × (length ms ≤ F.positions - 1)
step_size [] s = (omega arith, omega arith)
step_size (m ∷ ms) s = (step_racks s, omega (arith, step_positions s (mathlib.Core.List.Memᴰ.head refl)))

-- "a full floor may be checked too, and no rack on it can move"
pub full_still : {F : Floor} {v : ℕ} {A : Arrangement} (ms : List (ℕ × ℕ)) → UniquelyInvertible F v A → v ≡ F.positions
    → LegalStep F A ms → ms ≡ []
full_still [] valid full s = refl
full_still {F} {v} {A} (m ∷ ms) valid full s =
    let w = train_leader (s.trains m (mathlib.Core.List.Memᴰ.head refl)).2 in
    let fewer : length A < F.positions =
    one_more F.positions w.0.1 A A (s.joins w.0 w.1).entered_below w.2 (valid_nodup valid)
    (λ q k. (k, valid_below valid k)) in
    absurd (omega (arith, valid.racks))

pub full_iff : (F : Floor) (v : ℕ) (A G : Arrangement) (n : ℕ) (steps : List (List (ℕ × ℕ))) → UniquelyInvertible F v A → v ≡ F.positions
    → StepsLead F n A steps G ↔ ((A ≡ G) × ((ms : List (ℕ × ℕ)) → Memᴰ ms steps → ms ≡ []))
full_iff F v A G n [] valid full =
    (λ e. ((replay_none F n A G).0 e, λ ms k. absurd (mathlib.Core.List.Memᴰ.not-nil k)), λ w. (replay_none F n A G).1 w.0)
full_iff F v A G n (ms ∷ steps) valid full = (
  λ e.
      let w = (replay_cons F n A G ms steps).0 e in
      let still : ms ≡ [] = full_still ms valid full w.0 in
      let here : after A ms ≡ A = ap (after A) still ∙ (legal_nothing F A).1 in
      let rest = (full_iff F v A G (suc n) steps valid full).0 (subst (λ (B : Arrangement). StepsLead F (suc n) B steps G) here w.1) in
      (rest.0, λ ms' k. by_member k (λ q. q ∙ still) (rest.1 ms')),
  λ w.
      subst (λ (x : List (ℕ × ℕ)). StepsLead F n A (x ∷ steps) G) (sym (w.1 ms (mathlib.Core.List.Memᴰ.head refl)))
      (replay_waiting F n A steps ∙ (full_iff F v A G (suc n) steps valid full).1 (w.0, λ ms' k. w.1 ms' (mathlib.Core.List.Memᴰ.tail k))),
)

-- what does not happen

module _ {F : Floor} {A : Arrangement} {ms : List (ℕ × ℕ)} (s : LegalStep F A ms) where
  pub no_ring_lem : (R : ℕ × ℕ → Type 0) → ((m : ℕ × ℕ) → R m → Memᴰ m ms)
      → ((m : ℕ × ℕ) → R m → (m' : ℕ × ℕ) × R m' × (m.1 ≡ m'.0)) → (m : ℕ × ℕ) → R m → ⊥
  no_ring_lem R part next m r = ends (s.trains m (part m r)).2 r
    where
      ends : {k : ℕ} {m : ℕ × ℕ} → Train A ms k m → R m → ⊥
      ends {m} (leader n t) r =
          let w = next m r in
          (vacant_iff A m.1).0 t (mathlib.Core.List.Memᴰ.cast w.2 (s.held w.0 (part w.0 w.1)))
      ends {m} (follows n e t) r =
          let w = next m r in
          let same = keys_same left ms (left-differ s.ascending) (part w.0 w.1) (train_member A ms t) (sym w.2 ∙ e) in
          ends t (subst R same w.1)

  pub no_turn : (p : ℕ → ℕ) (k : ℕ) → p (suc k) ≡ p 0 → ((i : ℕ) → i ≤ k → Memᴰ (p i, p (suc i)) ms) → ⊥
  no_turn p k back turns = no_ring_lem Ring part next (p 0, p 1) (0, omega arith, refl)
    where
      Ring : ℕ × ℕ → Type 0
      Ring m = (i : ℕ) × (i ≤ k) × (m ≡ (p i, p (suc i)))

      part : (m : ℕ × ℕ) → Ring m → Memᴰ m ms
      part m r = mathlib.Core.List.Memᴰ.cast r.2 (turns r.0 r.1)

      next : (m : ℕ × ℕ) → Ring m → (m' : ℕ × ℕ) × Ring m' × (m.1 ≡ m'.0)
      next m (i, h, e) =
          dite (dec_lt i k) (λ l. ((p (suc i), p (suc (suc i))), (suc i, l, refl), ap entered e))
          (λ l.
          let last : i ≡ k = omega arith in
          ((p 0, p 1), (0, omega arith, refl), ap entered e ∙ ap (λ (j : ℕ). p (suc j)) last ∙ back))

  pub no_swap : {p q : ℕ} → Memᴰ (p, q) ms → Memᴰ (q, p) ms → ⊥
  no_swap {p} {q} k l = no_turn ring 1 refl turns
    where
      ring : ℕ → ℕ
      ring zero = p
      ring (suc zero) = q
      ring (suc (suc i)) = p

      turns : (i : ℕ) → i ≤ 1 → Memᴰ (ring i, ring (suc i)) ms
      turns zero h = k
      turns (suc zero) h = l
      turns (suc (suc i)) h = absurd (omega arith)

  pub no_meeting : {m m' : ℕ × ℕ} → Memᴰ m ms → Memᴰ m' ms → m.0 ≢ m'.0 → m.1 ≢ m'.1
  no_meeting k l ne e = ne (ap left (keys_same entered ms s.once k l e))

  pub no_longer_train : {k : ℕ} {m : ℕ × ℕ} → Train A ms k m → k ≤ longest_train
  no_longer_train {m} t =
      let w = s.trains m (train_member A ms t) in
      omega (arith, train-length A ms s.ascending s.held t w.2, w.1)

  pub no_long_chain : (p : ℕ → ℕ) → ((i : ℕ) → i ≤ longest_train → Memᴰ (p i, p (suc i)) ms) → ⊥
  no_long_chain p on = let w = s.trains (p 0, p 1) (on 0 (omega arith)) in ends w.2 p longest_train refl w.1 on
    where
      -- a train ends within its moves: no move leaves the position that the last of them enters
      ends : {k : ℕ} {m : ℕ × ℕ} → Train A ms k m → (p : ℕ → ℕ) (b : ℕ) → m.1 ≡ p 1 → k ≤ b
          → ((i : ℕ) → i ≤ b → Memᴰ (p i, p (suc i)) ms) → ⊥
      ends {m} (leader n t) p b q h on = (vacant_iff A m.1).0 t (mathlib.Core.List.Memᴰ.cast q (s.held (p 1, p 2) (on 1 h)))
      ends (follows {m' = m'} n e t) p b q h on =
          let next : Memᴰ (p 1, p 2) ms = on 1 (omega arith) in
          let same = keys_same left ms (left-differ s.ascending) (train_member A ms t) next (sym e ∙ q) in
          ends t (λ i. p (suc i)) (b - 1) (ap entered same) (omega arith) (λ i l. on (suc i) (omega arith))
