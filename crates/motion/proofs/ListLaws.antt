-- Membership, lists without repetition, and the pigeonhole principle.
--
--     by_member          a member of x ∷ l is x, or a member of l
--     pairwise_more      one element more, where it stands in the relation to each of the others
--     pairwise_rel       the relation holds between the first element and each other
--     KeysDiffer key l   no two elements of l, at different places, have the same key
--     keys_same          then two elements that have the same key are the same
--     keys_nodup         and the list of the keys is without repetition
--     get_d_in            an element of the list is a member
--     get_d_same          without repetition, the same element has the same place
--     pigeonhole_below   a list without repetition of numbers below n has at most n of them
--     pigeonhole         a list without repetition is at most as long as a list that has all its elements
-- Assumes nothing.
use Prim.Native.Nat.{ℕ, zero, suc, ◌≤◌, ◌<◌}
use mathlib.Core.Path.{◌≡◌, refl, sym, ◌∙◌, ap}
use mathlib.Core.Logic.{◌≢◌, ∥∥₁_elim, ∥∥₁_map}
use mathlib.Core.HLevel.{¬_prop}
use mathlib.Core.List.Memᴰ
use mathlib.Core.List.{List, [], ◌∷◌, map, Memᴰ, Pairwise}
use mathlib.Core.List.Pairwise
use mathlib.Core.List.{rel_of_Pairwise-cons, Nodup}
use mathlib.Core.List as M
use native.Mathlib.Omega.{arith}
use native.Mathlib.Bridge.{from_ℕ, from_le}
use lib.ListN.{length, get_or}
use Rattle.sets.proofs.CountLaws.{pigeonhole as numbers_below}

pub by_member : {X C : Type 0} {x y : X} {l : List X} → Memᴰ y (x ∷ l) → (y ≡ x → C) → (Memᴰ y l → C) → C
by_member (Memᴰ.head e) first later = first e
by_member (Memᴰ.tail k) first later = later k

module _ {X : Type 0} {R : X → X → Type 0} where
  pub pairwise_more : ((x y : X) → IsProp (R x y)) → {x : X} {l : List X} → ((y : X) → Memᴰ y l → R x y) → Pairwise R l
      → Pairwise R (x ∷ l)
  pairwise_more prop {x} h p = Pairwise.cons (λ y k. ∥∥₁_elim k (prop x y) (h y)) p

  pub pairwise_rel : {x y : X} {l : List X} → Pairwise R (x ∷ l) → Memᴰ y l → R x y
  pairwise_rel p k = rel_of_Pairwise-cons p ∣ k ∣₁

abbrev pub KeysDiffer : {X : Type 0} → (X → ℕ) → List X → Type 0
KeysDiffer {X} key l = Pairwise (λ (x y : X). key x ≢ key y) l

module _ {X : Type 0} (key : X → ℕ) where
  pub keys_same : {x y : X} (l : List X) → KeysDiffer key l → Memᴰ x l → Memᴰ y l → key x ≡ key y → x ≡ y
  keys_same [] p k n e = absurd (Memᴰ.not-nil k)
  keys_same (z ∷ l) p k n e =
      by_member k (λ a. by_member n (λ b. a ∙ sym b) (λ b. absurd (pairwise_rel p b (sym (ap key a) ∙ e))))
      (λ a. by_member n (λ b. absurd (pairwise_rel p a (sym (e ∙ ap key b)))) (λ b. keys_same l (Pairwise.of_cons p) a b e))

  pub keys_nodup : (l : List X) → KeysDiffer key l → Nodup (map key l)
  keys_nodup [] p = Pairwise.nil
  keys_nodup (x ∷ l) p =
      pairwise_more (λ a b. ¬_prop) (λ b k e. let w = Memᴰ.of_map key l k in pairwise_rel p w.1 (e ∙ sym w.2))
      (keys_nodup l (Pairwise.of_cons p))

-- elements by place

pub get_d_in : (l : List ℕ) (i : ℕ) → i < length l → Memᴰ (get_or l i 0) l
get_d_in [] i h = absurd (omega arith)
get_d_in (x ∷ l) zero h = Memᴰ.head refl
get_d_in (x ∷ l) (suc i) h = Memᴰ.tail (get_d_in l i (omega arith))

pub get_d_same : (l : List ℕ) (i j : ℕ) → Nodup l → i < length l → j < length l → get_or l i 0 ≡ get_or l j 0 → i ≡ j
get_d_same [] i j d p q e = absurd (omega arith)
get_d_same (x ∷ l) zero zero d p q e = refl
get_d_same (x ∷ l) zero (suc j) d p q e = absurd (pairwise_rel d (get_d_in l j (omega arith)) e)
get_d_same (x ∷ l) (suc i) zero d p q e = absurd (pairwise_rel d (get_d_in l i (omega arith)) (sym e))
get_d_same (x ∷ l) (suc i) (suc j) d p q e = ap suc (get_d_same l i j (Pairwise.of_cons d) (omega arith) (omega arith) e)

-- how long

pub pigeonhole_below : (l : List ℕ) (n : ℕ) → Nodup l → ((x : ℕ) → Memᴰ x l → x < n) → length l ≤ n
pigeonhole_below l n d h =
    numbers_below n (λ i. get_or l i 0) (length l) (λ i k. h (get_or l i 0) (get_d_in l i k))
    (λ i j a b e. absurd (omega (arith, get_d_same l i j d (omega arith) b e)))

module _ {X : Type 0} where
  -- the library's length, in its own numbers
  length_is : (l : List X) → from_ℕ (M.length l) ≡ length l
  length_is [] = refl
  length_is (x ∷ l) = ap suc (length_is l)

  pub pigeonhole : (l m : List X) → Nodup l → ((x : X) → Memᴰ x l → Memᴰ x m) → length l ≤ length m
  pigeonhole l m d h = omega (arith, length_is l, length_is m, from_le (M.Subperm.length-le (M.Nodup.subperm d (λ x k. ∥∥₁_map k (h x)))))
