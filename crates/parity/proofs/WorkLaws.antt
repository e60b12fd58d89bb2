-- Laws of what specs/Work.antt defines: the loops over tables, turn by turn.
--
--     entries_next, entries_end        the entries from i on: one and those from i + 1 on, or none
--     smaller-counts, smaller_skips, smaller-all    counting entries below x
--     inversions-next, inversions-all  counting inversions
--     homes_none, homes_next           no number turned round, and one more
--     sent_next                        one more position's number looked up
-- Assumes nothing.
use Prim.Native.Nat.{ℕ, zero, suc, ◌+◌, ◌-◌, ◌≤◌, ◌<◌}
use mathlib.Core.Path.{◌≡◌, refl, sym, ap, ◌∙◌}
use mathlib.Core.List.{List, [], ◌∷◌}
use mathlib.Core.Logic.{by_cases}
use native.Mathlib.Decide.{ℕ_discrete}
use native.Mathlib.Nat.{not-suc-le-zero}
use native.Mathlib.Numerals.{add-one}
use native.Mathlib.Omega.{arith}
use borrow.Author.Tests.{lt-ltb, le-ltb}
use lib.Dec.{lit<}
use lib.ListN.{length, get_or, set, replicate}
use lib.Seq.{get_or-set_same, get_or-set_other}
use Rattle.tables.proofs.TableLaws.{zeros_at}
use Rattle.floor.specs.Sides.{count_of}
use Rattle.parity.specs.Permutation.{values_from, smaller, inversions}
use Rattle.parity.specs.Work.{entries, Seats, Homes, Sent}

module _ (a : List ℕ) (n : ℕ) where
  some-entries : (i k : ℕ) → n - i ≡ suc k → entries a i (n - i) ≡ get_or a i 0 ∷ entries a (i + 1) (n - (i + 1))
  unfolding values_from
  some-entries i k e =
      let less : n - (i + 1) ≡ k = omega arith in
      rw (e, less, add-one i) refl

  pub entries_next : (i : ℕ) → i < n → entries a i (n - i) ≡ get_or a i 0 ∷ entries a (i + 1) (n - (i + 1))
  entries_next i l = some-entries i (n - (i + 1)) (omega arith)

  pub entries_end : (i : ℕ) → n ≤ i → entries a i (n - i) ≡ []
  unfolding values_from
  entries_end i l = let none : n - i ≡ 0 = omega arith in rw none refl

  pub smaller-counts : (x i : ℕ) → i < n → get_or a i 0 < x
      → smaller x (entries a i (n - i)) ≡ 1 + smaller x (entries a (i + 1) (n - (i + 1)))
  unfolding count_of
  smaller-counts x i l h = rw (entries_next i l, lt-ltb (get_or a i 0) x h) refl

  pub smaller_skips : (x i : ℕ) → i < n → x ≤ get_or a i 0 → smaller x (entries a i (n - i)) ≡ smaller x (entries a (i + 1) (n - (i + 1)))
  unfolding count_of
  smaller_skips x i l h = rw (entries_next i l, le-ltb (get_or a i 0) x h) (omega arith)

  pub smaller-all : (x i : ℕ) → n ≤ i → smaller x (entries a i (n - i)) ≡ 0
  unfolding count_of
  smaller-all x i l = rw (entries_end i l) refl

  pub inversions-next : (i : ℕ) → i < n → inversions (entries a i (n - i))
      ≡ smaller (get_or a i 0) (entries a (i + 1) (n - (i + 1))) + inversions (entries a (i + 1) (n - (i + 1)))
  unfolding inversions
  inversions-next i l = rw (entries_next i l) refl

  pub inversions-all : (i : ℕ) → n ≤ i → inversions (entries a i (n - i)) ≡ 0
  unfolding inversions
  inversions-all i l = rw (entries_end i l) refl

-- what is set is below 64, where all was before
set_small : (r : List ℕ) (x p : ℕ) → p < 64 → ((i : ℕ) → get_or r i 0 < 64) → (i : ℕ) → get_or (set r x p) i 0 < 64
set_small [] x p l small i = small i
set_small (y ∷ r) zero p l small zero = l
set_small (y ∷ r) zero p l small (suc i) = small (suc i)
set_small (y ∷ r) (suc x) p l small zero = small 0
set_small (y ∷ r) (suc x) p l small (suc i) = set_small r x p l (λ j. small (suc j)) i

pub homes_none : (h : List ℕ) → Homes 0 h (replicate 64 0)
homes_none h = record { back = λ p l. absurd (not-suc-le-zero l); small = λ i. rw (zeros_at 64 i) (lit< tt) }

pub homes_next : (n : ℕ) (h at : List ℕ) (p : ℕ) → Seats n h → length at ≡ 64 → p < n → Homes p h at
    → Homes (p + 1) h (set at (get_or h p 0) p)
homes_next n h at p seats long l before =
    let few = seats.few in
    let low = seats.below p l in
    record {
      back = λ q less.
          by_cases (ℕ_discrete q p)
          (λ e. ap (λ (x : ℕ). get_or (set at (get_or h p 0) p) (get_or h x 0) 0) e ∙ get_or-set_same at (get_or h p 0)
          p 0 (omega arith) ∙ sym e)
          (λ d.
          get_or-set_other at (get_or h p 0) (get_or h q 0) p 0 (λ e. d (seats.apart q p (omega arith) l e)) ∙ before.back q (omega arith));
      small = set_small at (get_or h p 0) p (omega arith) before.small;
    }

pub sent_next : (h r s : List ℕ) (p : ℕ) → length s ≡ 64 → p < 64 → Sent p h r s → Sent (p + 1) h r (set s p (get_or r (get_or h p 0) 0))
sent_next h r s p long l before q less =
    let x = get_or r (get_or h p 0) 0 in
    by_cases (ℕ_discrete q p)
    (λ e.
    ap (λ (y : ℕ). get_or (set s p x) y 0) e ∙ get_or-set_same s p x 0 (omega arith) ∙ ap (λ (y : ℕ). get_or r (get_or h y 0) 0) (sym e))
    (λ d. get_or-set_other s p q x 0 d ∙ before q (omega arith))
