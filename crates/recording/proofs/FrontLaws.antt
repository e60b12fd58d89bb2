-- Laws of what specs/Front.antt defines.
--
--     field_front                       a field within the first bytes is read from them alone
--     whole_is, whole_as, whole_none    which of the two
--     LengthFound Right s n             n is the length of the front of s that is `Right`, the only one, or 0 exactly where there is none
--     length_found                      a size that is a front's length exactly where the front is `Right` finds it
-- Assumes nothing.
use Prim.Native.Nat.{ℕ, ◌+◌, ◌*◌, ◌≤◌, ◌<◌}
use mathlib.Core.Path.{◌≡◌, sym, ap, ◌∙◌}
use mathlib.Core.List.{List, ◌++◌}
use native.Mathlib.Omega.{arith}
use native.Mathlib.Nat.{lt_of_not-le}
use native.Mathlib.Decide.{dec_le}
use borrow.Author.Tests.{lt-ltb, le-ltb}
use lib.ListN.{length, take, drop, length-append, length-drop, take-append-drop}
use lib.Seq.{take-append-le, drop-append-le, length-take-le}
use Rattle.field.specs.Bits.{number, bits_of, field}
use Rattle.field.proofs.BitLaws.{length-bits_of}
use Rattle.field.proofs.WholeBytes.{bits_of_append}
use Rattle.recording.specs.Front.{whole_length}

pub field_front : (r rest : List ℕ) (i w : ℕ) → i + w ≤ 8 * length r → field (r ++ rest) i w ≡ field r i w
unfolding field
field_front r rest i w h =
    let all = length-bits_of r in
    let within : i ≤ length (bits_of r) = omega arith in
    let room : w ≤ length (drop i (bits_of r)) = omega (arith, length-drop i (bits_of r)) in
    rw (bits_of_append r rest, drop-append-le i (bits_of r) (bits_of rest) within)
    (ap number (take-append-le w (drop i (bits_of r)) (bits_of rest) room))

module _ (n : ℕ) (s : List ℕ) where
  pub whole_is : n ≤ length s → whole_length n s ≡ n
  unfolding whole_length
  whole_is h = simp (le-ltb (length s) n h)

  pub whole_none : length s < n → whole_length n s ≡ 0
  unfolding whole_length
  whole_none h = simp (lt-ltb (length s) n h)

  pub whole_as : (m : ℕ) → m ≡ n → m ≤ length s → m ≡ whole_length n s
  whole_as m e h = e ∙ sym (whole_is (omega arith))

pub record LengthFound (Right : List ℕ → Type 0) (s : List ℕ) (n : ℕ) : Type 0 where
  -- no other front is
  pub only : (r rest : List ℕ) → s ≡ r ++ rest → Right r → n ≡ length r
  -- 0: no front is
  pub none : n ≡ 0 → (r rest : List ℕ) → s ≡ r ++ rest → Right r → ⊥
  -- else this one is
  pub some : 1 ≤ n → (n ≤ length s) × Right (take n s)

module _ (Right : List ℕ → Type 0) (size : List ℕ → ℕ) (positive : (s : List ℕ) → 1 ≤ size s)
    (right-size : (r rest : List ℕ) → Right r → size (r ++ rest) ≡ length r)
    (size-right : (r rest : List ℕ) → size (r ++ rest) ≡ length r → Right r) where
  module _ (s : List ℕ) where
    own : (r rest : List ℕ) → s ≡ r ++ rest → Right r → size s ≡ length r
    own r rest e right = ap size e ∙ right-size r rest right

    found : (r rest : List ℕ) → s ≡ r ++ rest → Right r → whole_length (size s) s ≡ length r
    found r rest e right =
        whole_is (size s) s (omega (arith, own r rest e right, ap length e, length-append r rest)) ∙ own r rest e right

    stands : 1 ≤ whole_length (size s) s → (whole_length (size s) s ≤ length s) × Right (take (whole_length (size s) s) s)
    stands h = elim (dec_le (size s) (length s)) [
      | yes fits ↦
          let front = take (size s) s in
          let long : length front ≡ size s = length-take-le (size s) s fits in
          rw (whole_is (size s) s fits) (fits, size-right front (drop (size s) s) (ap size (take-append-drop (size s) s) ∙ sym long))
      | no not ↦ absurd (omega (arith, whole_none (size s) s (lt_of_not-le not)))
    ]

    pub length_found : LengthFound Right s (whole_length (size s) s)
    length_found = record {
      only = found;
      none = λ z r rest e right. omega (arith, positive s, own r rest e right, found r rest e right);
      some = stands;
    }
