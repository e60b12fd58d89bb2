-- A legal step told by its moves in whatever order they were found: as a step is made move by move, its order comes last, by `sort`.
--
--     StepMoves F A ms B at    the moves ms, whatever their order, make a legal step from the arrangement A to B, and in its chain the move
--                           that leaves p has the place `at p`
--     train_more            a train stays one with more moves, and where its leader's goal stays vacant
--     step_moves_takes       each move takes the rack at the position left to the position entered
--     step_moves_none        no moves make a step from A to A
--     step_moves_legal       sorted, the moves are a legal step
--     step_moves-after       which makes B of A
--     stays_left            no move leaves the position of a rack that stays
--     vacant-entered        no move enters a position that is vacant after the step
--     Stays F A B m         a rack that stands at one position before and after the step from A to B, and a legal move
--                           m that then takes it away
--     joining               a move of a rack that stays, into a position vacant after the step, can be made in the step
--     carrying              a rack that stays, carried beforehand to a position vacant before and after the step, changes nothing in it
-- Assumes nothing.
use Prim.Native.Nat.{ℕ, suc, ◌≤◌, ◌<◌}
use mathlib.Core.Path.{◌≡◌, refl, sym, ◌∙◌, ap, subst, fun_ext}
use mathlib.Core.Logic.{◌≢◌, ⊎_elim, ∥∥₁_elim}
use mathlib.Core.HLevel.{⊥_prop, ¬_prop}
use mathlib.Core.List.Memᴰ
use mathlib.Core.List.Pairwise
use mathlib.Core.List.{List, [], ◌∷◌, map, Memᴰ}
use native.Mathlib.Nat.{lt_irrefl}
use native.Mathlib.Omega.{arith}
use lib.Dec.{T}
use lib.ListN.{length, get_or}
use lib.Seq.{ext_get_or}
use borrow.Author.Tests.{eq-eqb, ne_eqb}
use Rattle.order.specs.Floor.{Floor}
use Rattle.motion.specs.Arrangement.{Arrangement, occupied, vacant}
use Rattle.motion.proofs.ArrangementLaws.{occupied_rack, vacant-racks, occupied-vacant}
use Rattle.motion.specs.Move.{on_floor, legal_move, goes_to, after, after_move}
use Rattle.motion.proofs.MoveLaws.{legal_parts, legal_apart, after-length, after-at, move-length, moved_rack, moved_other}
use Rattle.motion.proofs.Untouched.{vacant-move}
use Rattle.motion.specs.Sound.{Sound}
use Rattle.motion.proofs.Test.{equal?}
use Rattle.motion.proofs.ListLaws.{by_member, pairwise_more, keys_same, KeysDiffer}
use Rattle.motion.proofs.StepTestsLaws.{entered}
use Rattle.motion.proofs.StepTestsLaws.{left, on_floor_iff, occupied_iff, Goes, taken, stays, goes_to_cases, goes_to_stays, goes_to_takes}
use Rattle.motion.specs.LegalStep.{longest_train, Train, leader, follows, LegalStep}
use Rattle.motion.proofs.LegalStepLaws.{after_nothing}
use Rattle.motion.specs.StepOf.{sort}
use Rattle.motion.proofs.StepOfLaws.{sort_iff, sort-ascends}

pub record StepMoves (F : Floor) (A : Arrangement) (ms : List (ℕ × ℕ)) (B : Arrangement) (at : ℕ → ℕ) : Type 0 where
  -- no two moves leave one position
  pub lefts : KeysDiffer left ms
  pub joins : (m : ℕ × ℕ) → Memᴰ m ms → T (on_floor F m)
  pub held : (m : ℕ × ℕ) → Memᴰ m ms → T (occupied A m.0)
  -- no two enter one position
  pub alone : (m m' : ℕ × ℕ) → Memᴰ m ms → Memᴰ m' ms → m.1 ≡ m'.1 → m.0 ≡ m'.0
  pub apart : (m : ℕ × ℕ) → Memᴰ m ms → m.0 ≢ m.1
  pub trains : (m : ℕ × ℕ) → Memᴰ m ms → (at m.0 ≤ longest_train) × Train A ms (at m.0) m
  pub leads : after A ms ≡ B

pub train_more : {A B : Arrangement} {ms ns : List (ℕ × ℕ)} {i : ℕ} {m : ℕ × ℕ} → ((x : ℕ × ℕ) → Memᴰ x ms → Memᴰ x ns)
    → ((x : ℕ × ℕ) → Memᴰ x ms → T (vacant A x.1) → T (vacant B x.1)) → Train A ms i m → Train B ns i m
train_more {m} h w (leader k v) = leader (h m k) (w m k v)
train_more {m} h w (follows k e t) = follows (h m k) e (train_more h w t)

pub step_moves_takes : {ms : List (ℕ × ℕ)} {m : ℕ × ℕ} → KeysDiffer left ms → Memᴰ m ms → goes_to ms m.0 ≡ m.1
step_moves_takes {ms} {m} d k = go (goes_to_cases ms m.0)
  where
    go : Goes ms m.0 → goes_to ms m.0 ≡ m.1
    go (taken m' k' e g) = g ∙ ap entered (keys_same left ms d k' k e)
    go (stays h _) = absurd (h m k refl)

pub step_moves_none : (F : Floor) (A : Arrangement) (at : ℕ → ℕ) → StepMoves F A [] A at
step_moves_none F A at =
    record {
      lefts = Pairwise.nil;
      joins = λ m k. absurd (Memᴰ.not-nil k);
      held = λ m k. absurd (Memᴰ.not-nil k);
      alone = λ m m' k. absurd (Memᴰ.not-nil k);
      apart = λ m k. absurd (Memᴰ.not-nil k);
      trains = λ m k. absurd (Memᴰ.not-nil k);
      leads = after_nothing A;
    }

module _ {F : Floor} {A B : Arrangement} {ms : List (ℕ × ℕ)} {at : ℕ → ℕ} (s : StepMoves F A ms B at) where
  pub step_moves_legal : LegalStep F A (sort ms)
  step_moves_legal =
      let up = sort-ascends ms s.lefts in
      record {
        ascending = up;
        joins = λ m k. (on_floor_iff F m).0 (s.joins m ((sort_iff m ms).0 k));
        held = λ m k. (occupied_iff A m.0).0 (s.held m ((sort_iff m ms).0 k));
        once =
            Pairwise.imp_of_mem
            (λ x y k l h e.
            ∥∥₁_elim k ⊥_prop
            (λ k.
            ∥∥₁_elim l ⊥_prop
            (λ l. lt_irrefl y.0 (subst (λ (p : ℕ). p < y.0) (s.alone x y ((sort_iff x ms).0 k) ((sort_iff y ms).0 l) e) h))))
            up;
        trains = λ m k.
            let t = s.trains m ((sort_iff m ms).0 k) in (at m.0, t.0, train_more (λ x n. (sort_iff x ms).1 n) (λ x n v. v) t.1);
      }

  sort_goes : (p : ℕ) → goes_to (sort ms) p ≡ goes_to ms p
  sort_goes p = go (goes_to_cases ms p)
    where
      go : Goes ms p → goes_to (sort ms) p ≡ goes_to ms p
      go (taken m k e g) = ap (goes_to (sort ms)) (sym e) ∙ goes_to_takes (sort-ascends ms s.lefts) ((sort_iff m ms).1 k) ∙ sym g
      go (stays h g) = goes_to_stays (sort ms) p (λ m k. h m ((sort_iff m ms).0 k)) ∙ sym g

  pub step_moves-after : after A (sort ms) ≡ B
  unfolding after
  step_moves-after = ap (λ (f : ℕ → ℕ). map f A) (fun_ext sort_goes) ∙ s.leads

  -- where a rack stands after the step
  goes : (i : ℕ) → i < length A → get_or B i 0 ≡ goes_to ms (get_or A i 0)
  goes i h = ap (λ (C : Arrangement). get_or C i 0) (sym s.leads) ∙ after-at A ms i h

  same_length : length B ≡ length A
  same_length = ap length (sym s.leads) ∙ after-length A ms

  pub stays_left : (r : ℕ) → r < length A → get_or B r 0 ≡ get_or A r 0 → (m : ℕ × ℕ) → Memᴰ m ms → m.0 ≢ get_or A r 0
  stays_left r h q m k e = s.apart m k (e ∙ sym q ∙ goes r h ∙ ap (goes_to ms) (sym e) ∙ step_moves_takes s.lefts k)

  pub vacant-entered : (p : ℕ) → T (vacant B p) → (m : ℕ × ℕ) → Memᴰ m ms → m.1 ≢ p
  vacant-entered p v m k e =
      let w = (occupied_rack A m.0).0 (s.held m k) in
      (vacant-racks B p).0 v w.0 (rw same_length w.1) (goes w.0 w.1 ∙ ap (goes_to ms) w.2 ∙ step_moves_takes s.lefts k ∙ e)

-- A rack r that stays over the step from A to B, and a move m that takes it away afterwards
pub record Stays (F : Floor) (A B : Arrangement) (m : ℕ × ℕ) : Type 0 where
  pub sound : Sound F.positions A
  pub sound_after_lem : Sound F.positions B
  pub legal : T (legal_move F B m)
  pub rack : ℕ
  pub is : rack < length A
  pub before : get_or A rack 0 ≡ m.0
  pub behind : get_or B rack 0 ≡ m.0

-- the place that the move has in its chain: it leads, or follows a move of the step
pub data Joins (A : Arrangement) (ms : List (ℕ × ℕ)) (at : ℕ → ℕ) (m : ℕ × ℕ) : ℕ → Type 0 where
  first : T (vacant A m.1) → Joins A ms at m 1
  next : {x : ℕ × ℕ} → Memᴰ x ms → x.0 ≡ m.1 → at m.1 < longest_train → Joins A ms at m (suc (at m.1))

module _ {F : Floor} {A B : Arrangement} {ms : List (ℕ × ℕ)} {at : ℕ → ℕ} {m : ℕ × ℕ} (s : StepMoves F A ms B at) (w : Stays F A B m) where
  vacated : T (vacant B m.1)
  vacated = ((legal_parts F B m).0 w.legal).2

  others_left : (x : ℕ × ℕ) → Memᴰ x ms → x.0 ≢ m.0
  others_left x k e = stays_left s w.rack w.is (w.behind ∙ sym w.before) x k (e ∙ sym w.before)

  -- r is the one rack at the position that m leaves, before the step and after it
  only_before : (i : ℕ) → i < length A → get_or A i 0 ≡ m.0 → get_or B i 0 ≡ m.0
  only_before i h e = ap (λ (j : ℕ). get_or B j 0) (w.sound.apart i w.rack h w.is (e ∙ sym w.before)) ∙ w.behind

  only_after : (i : ℕ) → i < length A → get_or A i 0 ≢ m.0 → get_or B i 0 ≢ m.0
  only_after i h ne e =
      let same : i ≡ w.rack =
      w.sound_after_lem.apart i w.rack (rw (same_length s) h) (rw (same_length s) w.is) (e ∙ sym w.behind) in
      ne (ap (λ (j : ℕ). get_or A j 0) same ∙ w.before)

  -- who stood where m goes has left, or nobody stood there
  joined-train : {q : ℕ} → Joins A ms at m q → (q ≤ longest_train) × Train A (m ∷ ms) q m
  joined-train (first v) = (omega arith, leader (Memᴰ.head refl) v)
  joined-train (next {x = x} k e h) =
      let t : Train A ms (at m.1) x = subst (λ (p : ℕ). Train A ms (at p) x) e (s.trains x k).1 in
      (omega arith, follows (Memᴰ.head refl) (sym e) (train_more (λ x k. Memᴰ.tail k) (λ x k v. v) t))

  joined-after : (i : ℕ) → i < length A → get_or (after A (m ∷ ms)) i 0 ≡ get_or (after_move B m) i 0
  unfolding goes_to
  joined-after i h =
      let h' : i < length B = rw (same_length s) h in
      ⊎_elim
      (λ (e : get_or A i 0 ≡ m.0).
      after-at A (m ∷ ms) i h ∙ rw (eq-eqb (get_or A i 0) m.0 e) (sym (moved_rack B m i h' (only_before i h e))))
      (λ (e : get_or A i 0 ≢ m.0).
      after-at A (m ∷ ms) i h ∙ rw (ne_eqb (get_or A i 0) m.0 e) (sym (moved_other B m i h' (only_after i h e) ∙ goes s i h)))
      (equal? (get_or A i 0) m.0)

  pub joining : (at' : ℕ → ℕ) → Joins A ms at m (at' m.0) → ((p : ℕ) → p ≢ m.0 → at' p ≡ at p)
      → StepMoves F A (m ∷ ms) (after_move B m) at'
  joining at' place other =
      record {
        lefts = pairwise_more (λ x y. ¬_prop) (λ x k e. others_left x k (sym e)) s.lefts;
        joins = λ x k. by_member k (λ e. rw e ((legal_parts F B m).0 w.legal).0) (s.joins x);
        held = λ x k. by_member k (λ e. rw e ((occupied_rack A m.0).1 (w.rack, w.is, w.before))) (s.held x);
        alone =
            λ x y k l e.
            by_member k
            (λ a. by_member l (λ b. ap left (a ∙ sym b)) (λ b. absurd (vacant-entered s m.1 vacated y b (sym e ∙ ap entered a))))
            (λ a. by_member l (λ b. absurd (vacant-entered s m.1 vacated x a (e ∙ ap entered b))) (λ b. s.alone x y a b e));
        apart = λ x k. by_member k (λ e. rw e (legal_apart F B m w.legal)) (s.apart x);
        trains =
            λ x k.
            by_member k
            (λ e.
            subst (λ (y : ℕ × ℕ). (at' y.0 ≤ longest_train) × Train A (m ∷ ms) (at' y.0) y) (sym e) (joined-train place))
            (λ n.
            let t = s.trains x n in
            let same : at' x.0 ≡ at x.0 = other x.0 (others_left x n) in
            rw same (t.0, train_more (λ y l. Memᴰ.tail l) (λ y l v. v) t.1));
        leads =
            ext_get_or 0 (after A (m ∷ ms)) (after_move B m) (after-length A (m ∷ ms) ∙ sym (move-length B m ∙ same_length s))
            (λ i h. joined-after i (rw (after-length A (m ∷ ms)) at h));
      }

  module _ (v : T (vacant A m.1)) where
    carried_held : (x : ℕ × ℕ) → Memᴰ x ms → T (occupied (after_move A m) x.0)
    carried_held x k =
        let q = (occupied_rack A x.0).0 (s.held x k) in
        (occupied_rack (after_move A m) x.0).1
        (q.0, rw (move-length A m) q.1, moved_other A m q.0 q.1 (λ e. others_left x k (sym q.2 ∙ e)) ∙ q.2)

    carried-after : (i : ℕ) → i < length A → get_or (after (after_move A m) ms) i 0 ≡ get_or (after_move B m) i 0
    carried-after i h =
        let h' : i < length B = rw (same_length s) h in
        let h'' : i < length (after_move A m) = rw (move-length A m) h in
        ⊎_elim
        (λ (e : get_or A i 0 ≡ m.0).
        after-at (after_move A m) ms i h''
        ∙ ap (goes_to ms) (moved_rack A m i h e)
        ∙ goes_to_stays ms m.1 (λ x k q. occupied-vacant A m.1 (rw q at (s.held x k)) v)
        ∙ sym (moved_rack B m i h' (only_before i h e)))
        (λ (e : get_or A i 0 ≢ m.0).
        after-at (after_move A m) ms i h''
        ∙ ap (goes_to ms) (moved_other A m i h e)
        ∙ sym (goes s i h)
        ∙ sym (moved_other B m i h' (only_after i h e)))
        (equal? (get_or A i 0) m.0)

    pub carrying : StepMoves F (after_move A m) ms (after_move B m) at
    carrying =
        record {
          lefts = s.lefts;
          joins = s.joins;
          held = carried_held;
          alone = s.alone;
          apart = s.apart;
          trains =
              λ x k.
              let t = s.trains x k in
              (t.0, train_more (λ y l. l) (λ y l v. vacant-move A m y.1 v (λ e. vacant-entered s m.1 vacated y l (sym e))) t.1);
          leads =
              ext_get_or 0 (after (after_move A m) ms) (after_move B m)
              (after-length (after_move A m) ms ∙ move-length A m ∙ sym (move-length B m ∙ same_length s))
              (λ i h. carried-after i (rw (after-length (after_move A m) ms, move-length A m) at h));
        }
