-- Laws of what specs/Head.antt defines.
--
--     head_bits k x      the head of a record of k moves or steps with the spare bits x, as bits
--     head_bits_are      it consists of bits
--     length-head_bits   it has 24
--     head_bytes_lem        the two are the same
--     length-head_bytes  there are three
--     written_head      three bytes at the front, one after another
--     front_written     a record written behind its head, and then its head, is the record written at the front
--     record_written    the same where the part behind the head was lent to be written to
-- Assumes nothing.
use Prim.Native.Nat.{ℕ, ◌+◌, ◌-◌, ◌*◌, ◌/◌, ◌%◌, ◌^◌, ◌≤◌, ◌<◌}
use mathlib.Core.Path.{◌≡◌, refl, sym, ap, ap₂, ◌∙◌}
use mathlib.Core.List.{List, [], ◌∷◌, ◌++◌, append_assoc, append-nil}
use native.Mathlib.Omega.{arith}
use lib.ListN.{length, set, take, drop, length-append, length-drop, drop_of_length-le}
use lib.Seq.{drop_at, drop-drop, length-take-le}
use Rattle.field.specs.Bits.{bits, bits_of, to_bytes}
use Rattle.field.specs.Bytes.{none, more, Bytes}
use Rattle.field.proofs.BitLaws.{Bits, below_append, length-bits, bits_are}
use Rattle.field.proofs.RecordLaws.{to_bytes-from, rest_is}
use Rattle.field.proofs.WholeBytes.{padded-whole}
use Rattle.field.proofs.PackingLaws.{bits_append, bits-split}
use Rattle.field.specs.Writing.{written}
use Rattle.field.proofs.WritingLaws.{written_front}
use Rattle.recording.specs.Head.{head_bytes}

unfoldable pub head_bits : ℕ → ℕ → List ℕ
head_bits k x = bits 22 k ++ bits 2 x

pub head_bits_are : (k x : ℕ) → Bits (head_bits k x)
unfolding head_bits
head_bits_are k x = below_append (bits_are 22 k) (bits_are 2 x)

pub length-head_bits : (k x : ℕ) → length (head_bits k x) ≡ 8 * 3
unfolding head_bits
length-head_bits k x = length-append (bits 22 k) (bits 2 x) ∙ ap₂ ◌+◌ (length-bits 22 k) (length-bits 2 x)

pub length-head_bytes : (k x : ℕ) → length (head_bytes k x) ≡ 3
unfolding head_bytes
length-head_bytes k x = refl

module _ (k x : ℕ) (few : k < 2 ^ 22) (spare : x < 4) where
  head_bits_lem : bits_of (head_bytes k x) ≡ head_bits k x
  unfolding bits_of head_bytes head_bits
  head_bits_lem =
      let first : bits 22 k ≡ bits 8 (k / 16384) ++ bits 14 (k % 16384) = bits-split 8 14 k in
      let second : bits 14 (k % 16384) ≡ bits 8 (k % 16384 / 64) ++ bits 6 (k % 16384 % 64) = bits-split 8 6 (k % 16384) in
      let middle : k % 16384 / 64 ≡ k / 64 % 256 = omega arith in
      let low : k % 16384 % 64 ≡ k % 64 = omega arith in
      let end : bits 8 (k % 64 * 4 + x) ≡ bits 6 (k % 64) ++ bits 2 x = bits_append 6 2 (k % 64) x (omega arith) in
      rw (first, second, middle, low, end) (simp (append_assoc, append-nil))

  head_are : Bytes (head_bytes k x)
  unfolding head_bytes
  head_are = more {x = k / 16384} (omega arith) (more {x = k / 64 % 256} (omega arith) (more {x = k % 64 * 4 + x} (omega arith) none))

  pub head_bytes_lem : to_bytes (head_bits k x) ≡ head_bytes k x
  head_bytes_lem = sym (to_bytes-from head_are (head_bits_are k x) (head_bits_lem ∙ sym
      (padded-whole (head_bits k x) 3 (length-head_bits k x))))

-- three bytes at the front, one after another
pub written_head : (s : List ℕ) (x y z : ℕ) → 3 ≤ length s → set (set (set s 0 x) 1 y) 2 z ≡ written s 0 (x ∷ y ∷ z ∷ [])
unfolding written
written_head [] x y z h = absurd (omega arith)
written_head (a ∷ []) x y z h = absurd (omega arith)
written_head (a ∷ b ∷ []) x y z h = absurd (omega arith)
written_head (a ∷ b ∷ c ∷ s) x y z h = refl

-- three bytes in front of bytes already written behind them
pub front_written : (B h x : List ℕ) → length h ≡ 3 → 3 + length x ≤ length B → written (written B 3 x) 0 h ≡ written B 0 (h ++ x)
unfolding written
front_written B h x e room =
    let front : length (take 3 B) ≡ 3 = length-take-le 3 B (omega arith) in
    let tail : drop 3 (take 3 B ++ (x ++ drop (3 + length x) B)) ≡ x ++ drop (3 + length x) B =
    drop_at (take 3 B) (x ++ drop (3 + length x) B) 3 front in
    let three : 0 + length h ≡ 3 = omega arith in
    let all : length (h ++ x) ≡ 3 + length x = length-append h x ∙ ap (λ (n : ℕ). n + length x) e in
    let none : 0 + (3 + length x) ≡ 3 + length x = omega arith in
    rw (three, tail, all, none) (sym (append_assoc h x (drop (3 + length x) B)))

-- the part behind the head, lent and written to, has come back
part-written : (B x t : List ℕ) → t ≡ x ++ drop (3 + length x) B → take 3 B ++ (t ++ drop (length B - 3) (drop 3 B)) ≡ written B 3 x
unfolding written
part-written B x t is =
    let nothing : drop (length B - 3) (drop 3 B) ≡ [] =
    drop_of_length-le (drop 3 B) {i = length B - 3} (rw (length-drop 3 B) (omega arith)) in
    rw (nothing, append-nil t) (ap (λ (y : List ℕ). take 3 B ++ y) is)

-- and the head is written in front of it
pub record_written : (B h x t : List ℕ) → length h ≡ 3 → 3 + length x ≤ length B → t ≡ written (take (length B - 3) (drop 3 B)) 0 x
    → written (take 3 B ++ (t ++ drop (length B - 3) (drop 3 B))) 0 h ≡ written B 0 (h ++ x)
record_written B h x t e room is =
    let after : t ≡ x ++ drop (3 + length x) B =
    is ∙ written_front (take (length B - 3) (drop 3 B)) x ∙ ap (λ (y : List ℕ). x ++ drop (length x) y) (rest_is 3 B)
    ∙ ap (λ (y : List ℕ). x ++ y) (drop-drop (length x) 3 B) in
    ap (λ (b : List ℕ). written b 0 h) (part-written B x t after) ∙ front_written B h x e room
