-- Racks and the list of their positions; valid arrangements, which are the uniquely invertible ones.
--
--     place, rack      a rack is one more than a place of the list
--     own              a rack of an arrangement of m racks is one of as many as the list is long
--     stands-place     a rack stands at the list's element at its place
--     stands_in        where a rack stands is one of the arrangement's positions
--     rack_at_lem          at each of them a rack stands
--     same-positions   arrangements that agree on each rack are the same
--     stands_after     where a rack stands after moves made all at once
--     valid_same       in a valid arrangement a position holds one rack only
--     valid_rack       at each of its positions a rack stands
--     valid_below      each of its positions is below n
--     valid_nodup      they are without repetition
--     valid_fits       so racks are at most as many as positions
--     valid_iff        valid is: a list of that length, without repetition, of positions below n
--     separate A       the test: no two racks share a position
--     is_valid F A      the test: so, and each stands below n
--     is_valid_iff      which decides whether the arrangement is valid
-- Assumes nothing.
use Prim.Native.Nat.{ℕ, zero, suc, ◌-◌, ◌≤◌, ◌<◌}
use mathlib.Core.Path.{◌≡◌, refl, sym, ◌∙◌, ap, subst}
use mathlib.Core.Bool.{Bool, true, ◌&&◌}
use mathlib.Core.Logic.{◌↔◌, dite}
use mathlib.Core.HLevel.{¬_prop}
use mathlib.Core.List.Memᴰ
use mathlib.Core.List.Pairwise
use mathlib.Core.List.{List, [], ◌∷◌, map, Memᴰ, Nodup}
use native.Mathlib.Omega.{arith}
use native.Mathlib.Decide.{ℕ_discrete}
use lib.ListN.{length, get_or}
use lib.Seq.{ext_get_or}
use lib.Dec.{T, ltb, ltb→lt, lt→ltb}
use mir.Facts.{and_yes, yes_and}
use Rattle.order.specs.Floor.{Floor}
use Rattle.motion.proofs.ArrangementLaws.{stands_index}
use Rattle.motion.specs.Arrangement.{Arrangement, stands, vacant}
use Rattle.motion.specs.Move.{goes_to, after}
use Rattle.motion.specs.Step.{every}
use Rattle.motion.specs.Problem.{IsRack, UniquelyInvertible}
use Rattle.motion.proofs.ListLaws.{by_member, pairwise_more, pairwise_rel, get_d_in, get_d_same, pigeonhole_below}
use Rattle.motion.proofs.StepTestsLaws.{every_iff, vacant_iff}

-- elements of lists, by place

in_get_d : (l : List ℕ) {p : ℕ} → Memᴰ p l → (i : ℕ) × (i < length l) × (get_or l i 0 ≡ p)
in_get_d [] k = absurd (Memᴰ.not-nil k)
in_get_d (x ∷ l) {p} k =
    by_member {C = (i : ℕ) × (i < suc (length l)) × (get_or (x ∷ l) i 0 ≡ p)} k (λ e. (0, omega arith, sym e))
    (λ n. let w = in_get_d l n in (suc w.0, omega (arith, w.1), w.2))

get_d_map : (f : ℕ → ℕ) (l : List ℕ) (i : ℕ) → i < length l → get_or (map f l) i 0 ≡ f (get_or l i 0)
get_d_map f [] i h = absurd (omega arith)
get_d_map f (x ∷ l) zero h = refl
get_d_map f (x ∷ l) (suc i) h = get_d_map f l i (omega arith)

same_get_d : (l : List ℕ) → ((i j : ℕ) → i < length l → j < length l → get_or l i 0 ≡ get_or l j 0 → i ≡ j) → Nodup l
same_get_d [] h = Pairwise.nil
same_get_d (x ∷ l) h =
    pairwise_more (λ a b. ¬_prop)
    (λ y k e. let w = in_get_d l k in absurd (omega (arith, h 0 (suc w.0) (omega arith) (omega (arith, w.1)) (e ∙ sym w.2))))
    (same_get_d l (λ i j p q e. omega (arith, h (suc i) (suc j) (omega arith) (omega arith) e)))

-- racks

pub place : {m a : ℕ} → IsRack m a → (i : ℕ) × (a ≡ suc i) × (i < m)
place {m} {a} r = (a - 1, omega arith, omega arith)

pub rack : {m i : ℕ} → i < m → IsRack m (suc i)
rack h = (omega arith, h)

pub own : {m a : ℕ} (A : Arrangement) → length A ≡ m → IsRack m a → IsRack (length A) a
own {m} {a} A e r = subst (λ (n : ℕ). IsRack n a) (sym e) r

pub stands-place : (A : Arrangement) {m a : ℕ} (r : IsRack m a) → stands A a ≡ get_or A (place r).0 0
stands-place A r = let w = place r in ap (stands A) w.1 ∙ stands_index A w.0

pub stands_in : {A : Arrangement} {a : ℕ} → IsRack (length A) a → Memᴰ (stands A a) A
stands_in {A} r = let w = place r in Memᴰ.cast (stands-place A r) (get_d_in A w.0 w.2)

pub rack_at_lem : {A : Arrangement} {p : ℕ} → Memᴰ p A → (a : ℕ) × IsRack (length A) a × (stands A a ≡ p)
rack_at_lem {A} k = let w = in_get_d A k in (suc w.0, rack w.1, stands_index A w.0 ∙ w.2)

pub same-positions : (A B : Arrangement) → length A ≡ length B → ((a : ℕ) → IsRack (length A) a → stands A a ≡ stands B a) → A ≡ B
same-positions A B e h = ext_get_or 0 A B e (λ i l. sym (stands_index A i) ∙ h (suc i) (rack l) ∙ stands_index B i)

pub stands_after : (A : Arrangement) (ms : List (ℕ × ℕ)) {a : ℕ} → IsRack (length A) a → stands (after A ms) a ≡ goes_to ms (stands A a)
unfolding after
stands_after A ms r =
    let w = place r in
    stands-place (map (goes_to ms) A) r ∙ get_d_map (goes_to ms) A w.0 w.2 ∙ ap (goes_to ms) (sym (stands-place A r))

-- valid arrangements

module _ {F : Floor} {m : ℕ} {A : Arrangement} (valid : UniquelyInvertible F m A) where
  pub valid_same : {a b : ℕ} → IsRack m a → IsRack m b → stands A a ≡ stands A b → a ≡ b
  valid_same {a} {b} r s e = dite (ℕ_discrete a b) (λ q. q) (λ ne. absurd (valid.apart a b r s ne e))

  pub valid_rack : {p : ℕ} → Memᴰ p A → (a : ℕ) × IsRack m a × (stands A a ≡ p)
  valid_rack k = let w = rack_at_lem k in (w.0, subst (λ (n : ℕ). IsRack n w.0) valid.racks w.1, w.2)

  pub valid_below : {p : ℕ} → Memᴰ p A → p < F.positions
  valid_below k = let w = valid_rack k in subst (λ (p : ℕ). p < F.positions) w.2 (valid.within w.0 w.1)

  pub valid_nodup : Nodup A
  valid_nodup =
      same_get_d A
      (λ i j p q e.
      let a : IsRack m (suc i) = rack (omega (arith, valid.racks)) in
      let b : IsRack m (suc j) = rack (omega (arith, valid.racks)) in
      omega (arith, valid_same a b (stands_index A i ∙ e ∙ sym (stands_index A j))))

  pub valid_fits : m ≤ F.positions
  valid_fits = omega (arith, pigeonhole_below A F.positions valid_nodup (λ p. valid_below), valid.racks)

pub valid_iff : (F : Floor) (m : ℕ) (A : Arrangement)
    → UniquelyInvertible F m A ↔ ((length A ≡ m) × Nodup A × ((p : ℕ) → Memᴰ p A → p < F.positions))
valid_iff F m A = (
  λ valid. (valid.racks, valid_nodup valid, λ p. valid_below valid),
  λ w.
      record {
        racks = w.0;
        within = λ a r. w.2 (stands A a) (stands_in (own A w.0 r));
        apart =
            λ a b r s ne e.
            let p = place (own A w.0 r) in
            let q = place (own A w.0 s) in
            let same : get_or A p.0 0 ≡ get_or A q.0 0 = sym (stands-place A (own A w.0 r)) ∙ e ∙ stands-place A (own A w.0 s) in
            ne (p.1 ∙ ap suc (get_d_same A p.0 q.0 w.1 p.2 q.2 same) ∙ sym q.1);
      },
)

unfoldable pub separate : Arrangement → Bool
separate [] = true
separate (p ∷ A) = vacant A p && separate A

separate_iff : (A : Arrangement) → T (separate A) ↔ Nodup A
unfolding separate
separate_iff [] = (λ t. Pairwise.nil, λ d. tt)
separate_iff (p ∷ A) = (
  λ t.
      let b = and_yes (vacant A p) (separate A) t in
      pairwise_more (λ x y. ¬_prop) (λ q k e. (vacant_iff A p).0 b.0 (Memᴰ.cast e k)) ((separate_iff A).0 b.1),
  λ d. yes_and (vacant A p) (separate A) ((vacant_iff A p).1 (λ k. pairwise_rel d k refl)) ((separate_iff A).1 (Pairwise.of_cons d)),
)

unfoldable pub is_valid : Floor → Arrangement → Bool
is_valid F A = separate A && every (λ p. ltb p F.positions) A

pub is_valid_iff : (F : Floor) (A : Arrangement) → T (is_valid F A) ↔ UniquelyInvertible F (length A) A
unfolding is_valid
is_valid_iff F A =
    let below : ℕ → Bool = λ p. ltb p F.positions in (
      λ t.
          let b = and_yes (separate A) (every below A) t in
          (valid_iff F (length A) A).1 (refl, (separate_iff A).0 b.0, λ p k. ltb→lt p F.positions ((every_iff below A).0 b.1 p k)),
      λ valid.
          yes_and (separate A) (every below A) ((separate_iff A).1 (valid_nodup valid))
          ((every_iff below A).1 (λ p k. lt→ltb p F.positions (valid_below valid k))),
    )
