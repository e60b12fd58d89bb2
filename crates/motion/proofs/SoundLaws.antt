-- Laws of what specs/Sound.antt defines.
--
--     is_sound n A        the test: each rack stands below n, at a position without a later rack
--     is_sound_sound      the test passes exactly if A is sound
--     count f n          how many numbers below n pass the test f
--     vacancies n A      how many positions below n are vacant
--     count-some         what passes the test is counted
--     move_sound         a legal move keeps an arrangement sound
--     leads_sound        so do moves that are legal each at its turn
--     leads_length       and they keep the number of racks
--     move-set           on a sound arrangement a move of rack r sets r down at the position entered, and does nothing else
--     sound_vacancies    an arrangement of m racks that is sound leaves n - m positions vacant
--     sound_length       so there are at most as many racks as positions
--     full_occupied      and with as many racks as positions every position is occupied
--     occupied_still     where every position is occupied no move is legal
--     full_still         "a full floor …: no rack on it can move"
--     full_leads         so from a full floor only the empty list leads anywhere, and there
--     no_racks_leads     and so it is where there is no rack
-- Assumes nothing.
use Prim.Native.Nat.{ℕ, zero, suc, ◌+◌, ◌<◌, ◌≤◌}
use mathlib.Core.Bool.{Bool, true, false, cond, not, ◌&&◌}
use mathlib.Core.List.{List, [], ◌∷◌, nil≢cons}
use mathlib.Core.Logic.{◌↔◌, ⊎_elim, ◌≢◌}
use mathlib.Core.Path.{◌≡◌, refl, sym, ap, ◌∙◌}
use native.Mathlib.Omega.{arith}
use lib.Dec.{T, ltb, ltb→lt, lt→ltb}
use lib.ListN.{length, get_or, set, length-set}
use lib.Seq.{ext_get_or, get_or-set_same, get_or-set_other}
use borrow.Author.Tests.{eq-eqb, ne_eqb}
use Rattle.order.specs.Floor.{Floor, some}
use Rattle.motion.specs.Arrangement.{Arrangement, occupied, vacant}
use Rattle.motion.proofs.ArrangementLaws.{occupied_rack, vacant-racks, occupied-vacant}
use Rattle.motion.specs.Move.{legal_move, after_move}
use Rattle.motion.proofs.MoveLaws.{on_floor_parts, legal_parts, move-length, moved_rack, moved_other}
use Rattle.motion.proofs.Lawful.{Leads, still, ◌then◌, lawful_none, lawful_first}
use Rattle.motion.proofs.Test.{and_parts, equal?, decided, cond-true, cond-false, cond_either}
use Rattle.motion.specs.Sound.{Sound}

unfoldable pub is_sound : ℕ → Arrangement → Bool
is_sound n [] = true
is_sound n (q ∷ A) = ltb q n && vacant A q && is_sound n A

unfoldable pub count : (ℕ → Bool) → ℕ → ℕ
count f zero = 0
count f (suc n) = let rest = count f n in cond (f n) (suc rest) rest

unfoldable pub vacancies : ℕ → Arrangement → ℕ
vacancies n A = count (vacant A) n

module _ (F : Floor) (A : Arrangement) (m : ℕ × ℕ) (l : T (legal_move F A m)) where
  pub move_sound : Sound F.positions A → Sound F.positions (after_move A m)
  move_sound s = record {
    below = λ i h. below i (rw move-length at h);
    apart = λ i j h k. apart i j (rw move-length at h) (rw move-length at k);
  }
    where
      entered : (i : ℕ) → i < length A → get_or A i 0 ≢ m.1
      entered = (vacant-racks A m.1).0 ((legal_parts F A m).0 l).2

      below : (i : ℕ) → i < length A → get_or (after_move A m) i 0 < F.positions
      below i h =
          ⊎_elim
          (λ (e : get_or A i 0 ≡ m.0). rw (moved_rack A m i h e) ((on_floor_parts F m).0 ((legal_parts F A m).0 l).0).1)
          (λ (e : get_or A i 0 ≢ m.0). rw (moved_other A m i h e) (s.below i h))
          (equal? (get_or A i 0) m.0)

      apart : (i j : ℕ) → i < length A → j < length A → get_or (after_move A m) i 0 ≡ get_or (after_move A m) j 0 → i ≡ j
      apart i j h k e =
          ⊎_elim
          (λ (a : get_or A i 0 ≡ m.0).
          ⊎_elim
          (λ (b : get_or A j 0 ≡ m.0). s.apart i j h k (a ∙ sym b))
          (λ (b : get_or A j 0 ≢ m.0). absurd (entered j k (sym (moved_other A m j k b) ∙ sym e ∙ moved_rack A m i h a)))
          (equal? (get_or A j 0) m.0))
          (λ (a : get_or A i 0 ≢ m.0).
          ⊎_elim
          (λ (b : get_or A j 0 ≡ m.0). absurd (entered i h (sym (moved_other A m i h a) ∙ e ∙ moved_rack A m j k b)))
          (λ (b : get_or A j 0 ≢ m.0). s.apart i j h k (sym (moved_other A m i h a) ∙ e ∙ moved_other A m j k b))
          (equal? (get_or A j 0) m.0))
          (equal? (get_or A i 0) m.0)

pub move-set : (n : ℕ) (A : Arrangement) (m : ℕ × ℕ) (r : ℕ) → Sound n A → r < length A → get_or A r 0 ≡ m.0 → after_move A m ≡ set A r m.1
move-set n A m r s h e =
    ext_get_or 0 (after_move A m) (set A r m.1) (move-length A m ∙ sym (length-set A r m.1))
    (λ k q.
    let k< : k < length A = rw move-length at q in
    ⊎_elim
    (λ (c : k ≡ r). moved_rack A m k k< (ap (λ (i : ℕ). get_or A i 0) c ∙ e)
    ∙ sym (ap (λ (i : ℕ). get_or (set A r m.1) i 0) c ∙ get_or-set_same A r m.1 0 h))
    (λ (c : k ≢ r). moved_other A m k k< (λ d. c (s.apart k r k< h (d ∙ sym e))) ∙ sym (get_or-set_other A r k m.1 0 c)) (equal? k r))

pub leads_sound : (F : Floor) {A B : Arrangement} {ms : List (ℕ × ℕ)} → Sound F.positions A → Leads F A ms B → Sound F.positions B
leads_sound F s still = s
leads_sound F s (◌then◌ {A = A} {x = m} l p) = leads_sound F (move_sound F A m l s) p

pub leads_length : (F : Floor) {A B : Arrangement} {ms : List (ℕ × ℕ)} → Leads F A ms B → length B ≡ length A
leads_length F still = refl
leads_length F (◌then◌ {A = A} {x = m} l p) = leads_length F p ∙ move-length A m

count_same : (f g : ℕ → Bool) (n : ℕ) → ((p : ℕ) → p < n → f p ≡ g p) → count f n ≡ count g n
unfolding count
count_same f g zero e = refl
count_same f g (suc n) e = rw (e n (omega arith), count_same f g n (λ p h. e p (omega arith)))

-- where g passes what f passes but for one number, it counts one less
count_one : (f g : ℕ → Bool) (q n : ℕ) → q < n → T (f q) → T (not (g q)) → ((p : ℕ) → p ≢ q → f p ≡ g p) → count f n ≡ suc (count g n)
unfolding count
count_one f g q zero h y w e = absurd (omega arith)
count_one f g q (suc n) h y w e =
    ⊎_elim
    (λ (s : q ≡ n).
    cond-true (f n) (suc (count f n)) (count f n) (rw s at y)
    ∙ ap suc (count_same f g n (λ p k. e p (λ c. omega arith)) ∙ sym (cond-false (g n) (suc (count g n)) (count g n) (rw s at w))))
    (λ (s : q ≢ n).
    rw (e n (λ c. s (sym c)), count_one f g q n (omega arith) y w e) (one_more (g n) (count g n)))
    (equal? q n)
  where
    one_more : (b : Bool) (r : ℕ) → cond b (suc (suc r)) (suc r) ≡ suc (cond b (suc r) r)
    one_more true r = refl
    one_more false r = refl

count-all : (f : ℕ → Bool) (n : ℕ) → ((p : ℕ) → T (f p)) → count f n ≡ n
unfolding count
count-all f zero t = refl
count-all f (suc n) t = cond-true (f n) (suc (count f n)) (count f n) (t n) ∙ ap suc (count-all f n t)

pub count-some : (f : ℕ → Bool) (n p : ℕ) → p < n → T (f p) → 0 < count f n
unfolding count
count-some f zero p h t = absurd (omega arith)
count-some f (suc n) p h t =
    ⊎_elim
    (λ (s : p ≡ n). rw (cond-true (f n) (suc (count f n)) (count f n) (rw s at t)) (omega arith))
    (λ (s : p ≢ n). (let h' : 0 < count f n = count-some f n p (omega arith) t in cond_either (λ (r : ℕ). 0 < r) (f n) (omega arith) h'))
    (equal? p n)

sound_tail : (n q : ℕ) (A : Arrangement) → Sound n (q ∷ A) → Sound n A
sound_tail n q A s =
    record {
      below = λ i h. s.below (suc i) (omega arith);
      apart = λ i j h k e. let c : suc i ≡ suc j = s.apart (suc i) (suc j) (omega arith) (omega arith) e in omega arith;
    }

module _ (n q : ℕ) (A : Arrangement) (s : Sound n (q ∷ A)) where
  first_vacant : T (vacant A q)
  first_vacant = (vacant-racks A q).1 (λ i h e. let c : 0 ≡ suc i = s.apart 0 (suc i) (omega arith) (omega arith) (sym e) in omega arith)

  first-occupied : T (not (vacant (q ∷ A) q))
  unfolding vacant occupied some
  first-occupied = rw (eq-eqb q q refl) tt

  first_other : (p : ℕ) → p ≢ q → vacant A p ≡ vacant (q ∷ A) p
  unfolding vacant occupied some
  first_other p h = rw (ne_eqb q p (λ c. h (sym c)))

  first_counted : count (vacant A) n ≡ suc (count (vacant (q ∷ A)) n)
  first_counted = count_one (vacant A) (vacant (q ∷ A)) q n (s.below 0 (omega arith)) first_vacant first-occupied first_other

-- the other way: a rack in front of a sound arrangement
sound_cons : (n q : ℕ) (A : Arrangement) → q < n → T (vacant A q) → Sound n A → Sound n (q ∷ A)
sound_cons n q A h v s = record { below = below; apart = apart }
  where
    below : (i : ℕ) → i < suc (length A) → get_or (q ∷ A) i 0 < n
    below zero k = h
    below (suc i) k = s.below i (omega arith)

    apart : (i j : ℕ) → i < suc (length A) → j < suc (length A) → get_or (q ∷ A) i 0 ≡ get_or (q ∷ A) j 0 → i ≡ j
    apart zero zero a b e = refl
    apart zero (suc j) a b e = absurd ((vacant-racks A q).0 v j (omega arith) (sym e))
    apart (suc i) zero a b e = absurd ((vacant-racks A q).0 v i (omega arith) e)
    apart (suc i) (suc j) a b e = ap suc (s.apart i j (omega arith) (omega arith) e)

is_sound_to : (n : ℕ) (A : Arrangement) → T (is_sound n A) → Sound n A
unfolding is_sound
is_sound_to n [] t = record { below = λ i h. absurd (omega arith); apart = λ i j h. absurd (omega arith) }
is_sound_to n (q ∷ A) t =
    let u = (and_parts (ltb q n && vacant A q) (is_sound n A)).0 t in
    let v = (and_parts (ltb q n) (vacant A q)).0 u.0 in
    sound_cons n q A (ltb→lt q n v.0) v.1 (is_sound_to n A u.1)

is_sound-from : (n : ℕ) (A : Arrangement) → Sound n A → T (is_sound n A)
unfolding is_sound
is_sound-from n [] s = tt
is_sound-from n (q ∷ A) s = (and_parts (ltb q n && vacant A q) (is_sound n A)).1 (
  (and_parts (ltb q n) (vacant A q)).1 (lt→ltb q n (s.below 0 (omega arith)), first_vacant n q A s),
  is_sound-from n A (sound_tail n q A s),
)

pub is_sound_sound : (n : ℕ) (A : Arrangement) → T (is_sound n A) ↔ Sound n A
is_sound_sound n A = (is_sound_to n A, is_sound-from n A)

pub sound_vacancies : (n : ℕ) (A : Arrangement) → Sound n A → vacancies n A + length A ≡ n
unfolding vacancies
sound_vacancies n [] s = omega (arith, count-all (vacant []) n (λ p. (vacant-racks [] p).1 (λ i h. absurd (omega arith))))
sound_vacancies n (q ∷ A) s = omega (arith, first_counted n q A s, sound_vacancies n A (sound_tail n q A s))

pub sound_length : (n : ℕ) (A : Arrangement) → Sound n A → length A ≤ n
sound_length n A s = omega (arith, sound_vacancies n A s)

pub full_occupied : (n : ℕ) (A : Arrangement) → Sound n A → length A ≡ n → (p : ℕ) → p < n → T (occupied A p)
unfolding vacancies vacant
full_occupied n A s e p h =
    ⊎_elim
    (λ (t : T (occupied A p)). t)
    (λ (t : T (not (occupied A p))). absurd (omega (arith, sound_vacancies n A s, count-some (vacant A) n p h t)))
    (decided (occupied A p))

pub occupied_still : (F : Floor) (A : Arrangement) → ((p : ℕ) → p < F.positions → T (occupied A p)) → (m : ℕ × ℕ) → T (legal_move F A m) → ⊥
occupied_still F A o m l =
    let t = (legal_parts F A m).0 l in
    occupied-vacant A m.1 (o m.1 ((on_floor_parts F m).0 t.0).1) t.2

pub full_still : (F : Floor) (A : Arrangement) → Sound F.positions A → length A ≡ F.positions → (m : ℕ × ℕ) → T (legal_move F A m) → ⊥
full_still F A s e = occupied_still F A (full_occupied F.positions A s e)

-- where no move is legal only the empty list leads anywhere
stuck_leads : (F : Floor) (A : Arrangement) → ((m : ℕ × ℕ) → T (legal_move F A m) → ⊥) → (ms : List (ℕ × ℕ)) (B : Arrangement)
    → Leads F A ms B ↔ ((ms ≡ []) × (A ≡ B))
stuck_leads F A stuck [] B = (λ p. (refl, lawful_none p), λ t. rw (← t.1) still)
stuck_leads F A stuck (m ∷ ms) B = (λ p. absurd (stuck m (lawful_first p).0), λ t. absurd (nil≢cons (sym t.0)))

pub full_leads : (F : Floor) (A : Arrangement) → Sound F.positions A → length A ≡ F.positions
    → (ms : List (ℕ × ℕ)) (B : Arrangement) → Leads F A ms B ↔ ((ms ≡ []) × (A ≡ B))
full_leads F A s e = stuck_leads F A (full_still F A s e)

pub no_racks_leads : (F : Floor) (ms : List (ℕ × ℕ)) (B : Arrangement) → Leads F [] ms B ↔ ((ms ≡ []) × ([] ≡ B))
no_racks_leads F =
    stuck_leads F [] (λ m l. let r = (occupied_rack [] m.0).0 ((legal_parts F [] m).0 l).1 in let h : r.0 < 0 = r.1 in omega arith)
