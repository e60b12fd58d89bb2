-- Two racks exchanged: renaming by a transposition. Racks are told by index, rack 1's index being 0.
--
--     exchange i j A     A with racks i and j exchanged: each stands where the other stood
--     swap i j k         i for j, j for i, any other index for itself: swap-first, swap-second, swap_other
--     swap_below         the index of a rack is swapped for the index of a rack
--     swap-swap          swapping twice is nothing
--     exchange-at        rack k of the exchanged arrangement stands where rack swap i j k stood
--     exchange-length    as many racks
--     exchange_names     the indices below n, two of them exchanged, name each index below n
--     exchange-pick      exchanging is the choice of racks by these indices
--     leads_exchanged    moves that lead from A to B lead from A to B with the same two racks exchanged in both
-- Assumes nothing.
use Prim.Native.Nat.{ℕ, ◌<◌}
use mathlib.Core.Bool.{cond}
use mathlib.Core.List.{List}
use mathlib.Core.Logic.{⊎_elim, ◌≢◌}
use mathlib.Core.Path.{◌≡◌, refl, sym, ap, ◌∙◌}
use lib.Dec.{eqb}
use lib.ListN.{length, get_or, set, length-set}
use lib.Seq.{ext_get_or, get_or-set_same, get_or-set_other}
use borrow.Author.Tests.{eq-eqb, ne_eqb}
use Rattle.order.specs.Floor.{Floor}
use Rattle.motion.specs.Arrangement.{Arrangement}
use Rattle.motion.proofs.Choice.{pick, Names, pick-length, pick_at, leads_renamed, up_to, up_to-length, up_to-at}
use Rattle.motion.proofs.Lawful.{Leads}
use Rattle.motion.proofs.SoundLaws.{leads_length}
use Rattle.motion.proofs.Test.{equal?}

unfoldable pub exchange : ℕ → ℕ → Arrangement → Arrangement
exchange i j A = set (set A i (get_or A j 0)) j (get_or A i 0)

unfoldable pub swap : ℕ → ℕ → ℕ → ℕ
swap i j k = cond (eqb k i) j (cond (eqb k j) i k)

pub exchange-length : (i j : ℕ) (A : Arrangement) → length (exchange i j A) ≡ length A
unfolding exchange
exchange-length i j A = length-set (set A i (get_or A j 0)) j (get_or A i 0) ∙ length-set A i (get_or A j 0)

module _ (i j : ℕ) where
  pub swap-first : (k : ℕ) → k ≡ i → swap i j k ≡ j
  unfolding swap
  swap-first k e = rw (eq-eqb k i e)

  pub swap-second : (k : ℕ) → k ≡ j → swap i j k ≡ i
  unfolding swap
  swap-second k e = ⊎_elim (λ (c : k ≡ i). rw (eq-eqb k i c) (sym e ∙ c)) (λ (c : k ≢ i). rw (ne_eqb k i c, eq-eqb k j e)) (equal? k i)

  pub swap_other : (k : ℕ) → k ≢ i → k ≢ j → swap i j k ≡ k
  unfolding swap
  swap_other k c d = rw (ne_eqb k i c, ne_eqb k j d)

  -- the three cases of an index
  swap_cases : (P : ℕ → ℕ → Type 0) → P i j → P j i → ((k : ℕ) → k ≢ i → k ≢ j → P k k) → (k : ℕ) → P k (swap i j k)
  swap_cases P a b c k =
      ⊎_elim
      (λ (e : k ≡ i). rw (swap-first k e, e) a)
      (λ (d : k ≢ i). ⊎_elim (λ (e : k ≡ j). rw (swap-second k e, e) b) (λ (e : k ≢ j). rw (swap_other k d e) (c k d e)) (equal? k j))
      (equal? k i)

  pub swap_below : (n : ℕ) → i < n → j < n → (k : ℕ) → k < n → swap i j k < n
  swap_below n h h' = swap_cases (λ k s. k < n → s < n) (λ _. h') (λ _. h) (λ k _ _ q. q)

  pub swap-swap : (k : ℕ) → swap i j (swap i j k) ≡ k
  swap-swap = swap_cases (λ k s. swap i j s ≡ k) (swap-second j refl) (swap-first i refl) swap_other

  module _ (A : Arrangement) (h : i < length A) (h' : j < length A) where
    exchange-second : get_or (exchange i j A) j 0 ≡ get_or A i 0
    unfolding exchange
    exchange-second = get_or-set_same (set A i (get_or A j 0)) j (get_or A i 0) 0 (rw length-set h')

    exchange-first : get_or (exchange i j A) i 0 ≡ get_or A j 0
    unfolding exchange
    exchange-first =
        ⊎_elim
        (λ (e : i ≡ j). ap (λ (k : ℕ). get_or (exchange i j A) k 0) e ∙ exchange-second ∙ ap (λ (k : ℕ). get_or A k 0) e)
        (λ (d : i ≢ j). get_or-set_other (set A i (get_or A j 0)) j i (get_or A i 0) 0 d ∙ get_or-set_same A i (get_or A j 0) 0 h)
        (equal? i j)

    exchange_other : (k : ℕ) → k ≢ i → k ≢ j → get_or (exchange i j A) k 0 ≡ get_or A k 0
    unfolding exchange
    exchange_other k c d = get_or-set_other (set A i (get_or A j 0)) j k (get_or A i 0) 0 d ∙ get_or-set_other A i k (get_or A j 0) 0 c

    pub exchange-at : (k : ℕ) → get_or (exchange i j A) k 0 ≡ get_or A (swap i j k) 0
    exchange-at = swap_cases (λ k s. get_or (exchange i j A) k 0 ≡ get_or A s 0) exchange-first exchange-second exchange_other

  -- the indices below n, i and j exchanged
  module _ (n : ℕ) (h : i < n) (h' : j < n) where
    swapped-length : length (exchange i j (up_to n)) ≡ n
    swapped-length = exchange-length i j (up_to n) ∙ up_to-length n

    swapped_at : (k : ℕ) → k < n → get_or (exchange i j (up_to n)) k 0 ≡ swap i j k
    swapped_at k q = exchange-at (up_to n) (rw up_to-length h) (rw up_to-length h') k ∙ up_to-at n (swap i j k) (swap_below n h h' k q)

    pub exchange_names : Names (exchange i j (up_to n)) n
    exchange_names = record {
      within = record { below = λ k q. let q' : k < n = rw swapped-length at q in rw (swapped_at k q') (swap_below n h h' k q') };
      each =
          λ k q. (swap i j k, rw swapped-length (swap_below n h h' k q), swapped_at (swap i j k) (swap_below n h h' k q) ∙ swap-swap k);
    }

  pub exchange-pick : (n : ℕ) → i < n → j < n → (A : Arrangement) → length A ≡ n → exchange i j A ≡ pick (exchange i j (up_to n)) A
  exchange-pick n h h' A e =
      ext_get_or 0 (exchange i j A) (pick (exchange i j (up_to n)) A)
      (exchange-length i j A ∙ e ∙ sym (pick-length (exchange i j (up_to n)) A ∙ swapped-length n h h'))
      (λ k q.
      let q' : k < n = rw (exchange-length i j A, e) at q in
      exchange-at A (rw e h) (rw e h') k ∙ sym (ap (λ (s : ℕ). get_or A s 0) (swapped_at n h h' k q'))
      ∙ sym (pick_at (exchange i j (up_to n)) A k (rw (swapped-length n h h') q')))

  pub leads_exchanged : (F : Floor) {A B : Arrangement} {ms : List (ℕ × ℕ)} → i < length A → j < length A → Leads F A ms B
      → Leads F (exchange i j A) ms (exchange i j B)
  leads_exchanged F {A} {B} {ms} h h' p =
      rw (exchange-pick (length A) h h' A refl, exchange-pick (length A) h h' B (leads_length F p))
      (leads_renamed (exchange i j (up_to (length A))) F (exchange_names (length A) h h') p)
