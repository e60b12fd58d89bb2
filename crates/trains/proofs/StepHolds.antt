-- A legal step, made on the table that holds an arrangement, gives the table that holds the arrangement after the step.
--
--     put_down-entered, put_down_other    what the table has where a move enters, and where none does
--     taken_up-left, taken_up_other       what it has where a move leaves, and where none does
--     taken_up-length, put_down-length    its length stays
--     step_holds                        the law
-- Assumes nothing.
use Prim.Native.Nat.{ℕ, suc, ◌≤◌, ◌<◌}
use mathlib.Core.Path.{◌≡◌, refl, sym, ap, ◌∙◌}
use mathlib.Core.Bool.{not}
use mathlib.Core.List.Memᴰ
use mathlib.Core.List.Pairwise
use mathlib.Core.List.{List, [], ◌∷◌, Memᴰ}
use mathlib.Core.Logic.{⊎_elim, ◌≢◌}
use native.Mathlib.Omega.{arith}
use lib.ListN.{length, get_or, set, length-set}
use lib.Seq.{get_or-set_same, get_or-set_other}
use lib.Dec.{T, T_not}
use Rattle.order.specs.Floor.{Floor}
use Rattle.motion.specs.Arrangement.{Arrangement, vacant}
use Rattle.motion.proofs.ArrangementLaws.{occupied_rack, vacant-racks}
use Rattle.motion.specs.Move.{goes_to, after}
use Rattle.motion.proofs.MoveLaws.{after-length, after-at}
use Rattle.motion.specs.Step.{leaves, enters}
use Rattle.motion.specs.StepTests.{EnteredOnce}
use Rattle.motion.proofs.StepTestsLaws.{occupied_iff, vacant_iff, leaves_iff, enters_iff}
use Rattle.motion.proofs.StepTestsLaws.{Goes, taken, stays, goes_to_cases, goes_to_stays, goes_to_takes}
use Rattle.motion.proofs.Trains.{train_member}
use Rattle.motion.specs.LegalStep.{Train, leader, follows, LegalStep}
use Rattle.motion.proofs.ListLaws.{by_member, pairwise_rel}
use Rattle.motion.proofs.Test.{equal?, decided}
use Rattle.tables.proofs.TablesLaws.{Holds}
use Rattle.chains.specs.StepOn.{taken_up, put_down, step_on}

pub taken_up-length : (h : List ℕ) (ms : List (ℕ × ℕ)) → length (taken_up h ms) ≡ length h
unfolding taken_up
taken_up-length h [] = refl
taken_up-length h (m ∷ ms) = taken_up-length (set h m.0 0) ms ∙ length-set h m.0 0

pub put_down-length : (b h : List ℕ) (ms : List (ℕ × ℕ)) → length (put_down b h ms) ≡ length h
unfolding put_down
put_down-length b h [] = refl
put_down-length b h (m ∷ ms) = put_down-length b (set h m.1 (get_or b m.0 0)) ms ∙ length-set h m.1 (get_or b m.0 0)

pub taken_up_other : (h : List ℕ) (ms : List (ℕ × ℕ)) (q : ℕ) → ((m : ℕ × ℕ) → Memᴰ m ms → m.0 ≢ q)
    → get_or (taken_up h ms) q 0 ≡ get_or h q 0
unfolding taken_up
taken_up_other h [] q away = refl
taken_up_other h (m ∷ ms) q away =
    taken_up_other (set h m.0 0) ms q (λ x k. away x (Memᴰ.tail k))
    ∙ get_or-set_other h m.0 q 0 0 (λ e. away m (Memᴰ.head refl) (sym e))

-- what is empty stays empty
taken_up_none : (h : List ℕ) (ms : List (ℕ × ℕ)) (q : ℕ) → q < length h → get_or h q 0 ≡ 0 → get_or (taken_up h ms) q 0 ≡ 0
unfolding taken_up
taken_up_none h [] q l e = e
taken_up_none h (m ∷ ms) q l e =
    taken_up_none (set h m.0 0) ms q (rw (length-set h m.0 0) l)
    (⊎_elim
    (λ (s : q ≡ m.0). rw (← s) (get_or-set_same h q 0 0 l))
    (λ (d : q ≢ m.0). get_or-set_other h m.0 q 0 0 d ∙ e)
    (equal? q m.0))

pub taken_up-left : (h : List ℕ) (ms : List (ℕ × ℕ)) {m : ℕ × ℕ} → Memᴰ m ms → m.0 < length h → get_or (taken_up h ms) m.0 0 ≡ 0
unfolding taken_up
taken_up-left h [] k l = absurd (Memᴰ.not-nil k)
taken_up-left h (x ∷ ms) {m} k l =
    by_member k
    (λ e. taken_up_none (set h x.0 0) ms m.0 (rw (length-set h x.0 0) l) (rw (← e) (get_or-set_same h m.0 0 0 l)))
    (λ n. taken_up-left (set h x.0 0) ms n (rw (length-set h x.0 0) l))

pub put_down_other : (b h : List ℕ) (ms : List (ℕ × ℕ)) (q : ℕ) → ((m : ℕ × ℕ) → Memᴰ m ms → m.1 ≢ q)
    → get_or (put_down b h ms) q 0 ≡ get_or h q 0
unfolding put_down
put_down_other b h [] q away = refl
put_down_other b h (m ∷ ms) q away =
    put_down_other b (set h m.1 (get_or b m.0 0)) ms q (λ x k. away x (Memᴰ.tail k))
    ∙ get_or-set_other h m.1 q (get_or b m.0 0) 0 (λ e. away m (Memᴰ.head refl) (sym e))

pub put_down-entered : (b h : List ℕ) (ms : List (ℕ × ℕ)) {m : ℕ × ℕ} → EnteredOnce ms → Memᴰ m ms → m.1 < length h
    → get_or (put_down b h ms) m.1 0 ≡ get_or b m.0 0
unfolding put_down
put_down-entered b h [] o k l = absurd (Memᴰ.not-nil k)
put_down-entered b h (x ∷ ms) {m} o k l =
    by_member k
    (λ e.
    rw e
    (put_down_other b (set h x.1 (get_or b x.0 0)) ms x.1 (λ y n z. pairwise_rel o n (sym z))
    ∙ get_or-set_same h x.1 (get_or b x.0 0) 0 (rw e at l)))
    (λ n. put_down-entered b (set h x.1 (get_or b x.0 0)) ms (Pairwise.of_cons o) n (rw (length-set h x.1 (get_or b x.0 0)) l))

module _ (F : Floor) (few : F.positions ≤ 64) (A : Arrangement) (h : List ℕ) (holds : Holds A h) (ms : List (ℕ × ℕ))
    (s : LegalStep F A ms) where
  entered : {m : ℕ × ℕ} → Memᴰ m ms → get_or (step_on h ms) m.1 0 ≡ get_or h m.0 0
  unfolding step_on
  entered {m} k =
      put_down-entered h (taken_up h ms) ms s.once k
      (rw (taken_up-length h ms) (omega (arith, holds.size, few, (s.joins m k).entered_below)))

  unentered : (q : ℕ) → ((m : ℕ × ℕ) → Memᴰ m ms → m.1 ≢ q) → get_or (step_on h ms) q 0 ≡ get_or (taken_up h ms) q 0
  unfolding step_on
  unentered q away = put_down_other h (taken_up h ms) ms q away

  -- no move enters a position whose rack stays
  alone : (q : ℕ) → Memᴰ q A → ((m : ℕ × ℕ) → Memᴰ m ms → m.0 ≢ q) → (m : ℕ × ℕ) → Memᴰ m ms → m.1 ≢ q
  alone q there stay m k e = on (s.trains m k).2
    where
      on : {i : ℕ} → Train A ms i m → ⊥
      on (leader n v) = (vacant_iff A m.1).0 v (Memᴰ.cast e there)
      on (follows {m' = m'} n f t) = stay m' (train_member A ms t) (sym f ∙ e)

  racks-after : (i : ℕ) → i < length A → get_or (step_on h ms) (get_or (after A ms) i 0) 0 ≡ suc i
  racks-after i k = rw (after-at A ms i k) (on (goes_to_cases ms (get_or A i 0)))
    where
      on : Goes ms (get_or A i 0) → get_or (step_on h ms) (goes_to ms (get_or A i 0)) 0 ≡ suc i
      on (taken m n e g) = rw g (entered n ∙ ap (λ (q : ℕ). get_or h q 0) e ∙ holds.racks i k)
      on (stays away g) =
          rw g
          (unentered (get_or A i 0) (alone (get_or A i 0) ((occupied_iff A (get_or A i 0)).0
          ((occupied_rack A (get_or A i 0)).1 (i, k, refl))) away)
          ∙ taken_up_other h ms (get_or A i 0) away
          ∙ holds.racks i k)

  others_after : (p : ℕ) → T (vacant (after A ms) p) → get_or (step_on h ms) p 0 ≡ 0
  others_after p v =
      ⊎_elim
      (λ (e : T (enters ms p)). let w = (enters_iff ms p).0 e in absurd (never w.0 w.1 w.2))
      (λ (e : T (not (enters ms p))).
      unentered p (λ m k f. T_not (enters ms p) e ((enters_iff ms p).1 (m, k, f)))
      ∙ ⊎_elim
      (λ (l : T (leaves ms p)).
      let w = (leaves_iff ms p).0 l in
      rw (← w.2) (taken_up-left h ms w.1 (omega (arith, holds.size, few, (s.joins w.0 w.1).left_below))))
      (λ (l : T (not (leaves ms p))). none_left (λ m k f. T_not (leaves ms p) l ((leaves_iff ms p).1 (m, k, f))))
      (decided (leaves ms p)))
      (decided (enters ms p))
    where
      away : (i : ℕ) → i < length A → goes_to ms (get_or A i 0) ≢ p
      away i k e = (vacant-racks (after A ms) p).0 v i (rw (after-length A ms) k) (after-at A ms i k ∙ e)

      -- a position entered is not vacant
      never : (m : ℕ × ℕ) → Memᴰ m ms → m.1 ≢ p
      never m k e =
          let r = (occupied_rack A m.0).0 ((occupied_iff A m.0).1 (s.held m k)) in
          away r.0 r.1 (ap (goes_to ms) r.2 ∙ goes_to_takes s.ascending k ∙ e)

      none_left : ((m : ℕ × ℕ) → Memᴰ m ms → m.0 ≢ p) → get_or (taken_up h ms) p 0 ≡ 0
      none_left stay =
          taken_up_other h ms p stay
          ∙ holds.others p ((vacant-racks A p).1 (λ i k e. away i k (ap (goes_to ms) e ∙ goes_to_stays ms p stay)))

  pub step_holds : Holds (after A ms) (step_on h ms)
  unfolding step_on
  step_holds =
      record {
        size = put_down-length h (taken_up h ms) ms ∙ taken_up-length h ms ∙ holds.size;
        racks = λ i k. racks-after i (rw (after-length A ms) at k);
        others = others_after;
      }
