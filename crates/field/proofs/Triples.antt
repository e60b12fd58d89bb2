-- Three positions of 6 bits in the four places that they take in nine bytes, as one number.
--
--     triple_parts            a number that is put together of three positions, taken apart
--     triple_0, -2, -4, -6    the three positions that begin at that bit of a byte
--     triple_is               the same by the number of the triple: three bytes as one number, and the triple taken out of it
-- Assumes nothing.
use Prim.Native.Nat.{ℕ, ◌+◌, ◌-◌, ◌*◌, ◌/◌, ◌%◌, ◌^◌, ◌≤◌, ◌<◌}
use mathlib.Core.Path.{◌≡◌, refl, sym, ◌∙◌}
use mathlib.Core.List.{List}
use native.Mathlib.Omega.{arith}
use native.Mathlib.Decide.{ℕ_discrete}
use lib.ListN.{length, get_or}
use Rattle.field.specs.Bits.{field, TripleAt}
use Rattle.field.proofs.Sextets.{sextet_0, sextet_2, sextet_4, sextet_6}

triple_parts : (s : List ℕ) (i r x y z : ℕ) → x < 64 → y < 64 → z < 64 → r ≡ x * 4096 + y * 64 + z → field s i 6 ≡ x → field s (i + 6) 6 ≡ y
    → field s (i + 12) 6 ≡ z → TripleAt s i (r / 4096) (r / 64 % 64) (r % 64)
triple_parts s i r x y z lx ly lz is fx fy fz =
    let a : r / 4096 ≡ x = omega arith in
    let b : r / 64 % 64 ≡ y = omega arith in
    let c : r % 64 ≡ z = omega arith in
    record {
      first_is = a ∙ sym fx;
      second_is = b ∙ sym fy;
      third_is = c ∙ sym fz;
      first_below = omega arith;
      second_below = omega arith;
      third_below = omega arith;
    }

-- the bytes k, l and m that follow each other
module _ (s : List ℕ) (i k l m r : ℕ) (n : l ≡ k + 1) (o : m ≡ k + 2) (h : m < length s) (a : get_or s k 0 < 256) (b : get_or s l 0 < 256)
    (c : get_or s m 0 < 256) where
  triple_0 : i ≡ 8 * k → r ≡ get_or s k 0 * 1024 + get_or s l 0 * 4 + get_or s m 0 / 64 → TripleAt s i (r / 4096) (r / 64 % 64) (r % 64)
  triple_0 e is =
      triple_parts s i r (get_or s k 0 / 4) (get_or s k 0 % 4 * 16 + get_or s l 0 / 16) (get_or s l 0 % 16 * 4 + get_or s m 0 / 64)
      (omega arith) (omega arith) (omega arith) (omega arith)
      (sextet_0 s i k e (omega arith) a) (sextet_6 s (i + 6) k l n (omega arith) b (omega arith))
      (sextet_4 s (i + 12) l m (omega arith) h c (omega arith))

  triple_2 : i ≡ 8 * k + 2 → r ≡ get_or s k 0 % 64 * 4096 + get_or s l 0 * 16 + get_or s m 0 / 16
      → TripleAt s i (r / 4096) (r / 64 % 64) (r % 64)
  triple_2 e is =
      triple_parts s i r (get_or s k 0 % 64) (get_or s l 0 / 4) (get_or s l 0 % 4 * 16 + get_or s m 0 / 16)
      (omega arith) (omega arith) (omega arith) (omega arith)
      (sextet_2 s i k e (omega arith)) (sextet_0 s (i + 6) l (omega arith) (omega arith) b)
      (sextet_6 s (i + 12) l m (omega arith) h c (omega arith))

  triple_4 : i ≡ 8 * k + 4 → r ≡ get_or s k 0 % 16 * 16384 + get_or s l 0 * 64 + get_or s m 0 / 4
      → TripleAt s i (r / 4096) (r / 64 % 64) (r % 64)
  triple_4 e is =
      triple_parts s i r (get_or s k 0 % 16 * 4 + get_or s l 0 / 64) (get_or s l 0 % 64) (get_or s m 0 / 4)
      (omega arith) (omega arith) (omega arith) (omega arith)
      (sextet_4 s i k l n (omega arith) b e) (sextet_2 s (i + 6) l (omega arith) (omega arith))
      (sextet_0 s (i + 12) m (omega arith) h c)

  triple_6 : i ≡ 8 * k + 6 → r ≡ get_or s k 0 % 4 * 65536 + get_or s l 0 * 256 + get_or s m 0 → TripleAt s i (r / 4096)
      (r / 64 % 64) (r % 64)
  triple_6 e is =
      triple_parts s i r (get_or s k 0 % 4 * 16 + get_or s l 0 / 16) (get_or s l 0 % 16 * 4 + get_or s m 0 / 64) (get_or s m 0 % 64)
      (omega arith) (omega arith) (omega arith) (omega arith)
      (sextet_6 s i k l n (omega arith) b e) (sextet_4 s (i + 6) l m (omega arith) h c (omega arith))
      (sextet_2 s (i + 12) m (omega arith) h)

-- the three bytes that a triple stands in, as one number, and the triple taken out of it
module _ (s : List ℕ) (j r x k : ℕ) (n : k ≡ 2 * j + j / 4) (h : 18 * j + 18 ≤ 8 * length s) (a : get_or s k 0 < 256)
    (b : get_or s (k + 1) 0 < 256) (c : get_or s (k + 2) 0 < 256) (ex : x ≡ get_or s k 0 * 65536 + get_or s (k + 1) 0 *
    256 + get_or s (k + 2) 0)
    (er : r ≡ x / 2 ^ (6 - j % 4 * 2) % 262144) where
  room : k + 2 < length s
  room = omega arith

  pub triple_is : TripleAt s (18 * j) (r / 4096) (r / 64 % 64) (r % 64)
  triple_is =
      elim (ℕ_discrete (j % 4) 0) [
        | yes e ↦
            let v : r ≡ x / 64 % 262144 = rw e at er in
            triple_0 s (18 * j) k (k + 1) (k + 2) r refl refl room a b c (omega arith) (omega arith)
        | no z ↦ elim (ℕ_discrete (j % 4) 1) [
          | yes e ↦
              let v : r ≡ x / 16 % 262144 = rw e at er in
              triple_2 s (18 * j) k (k + 1) (k + 2) r refl refl room a b c (omega arith) (omega arith)
          | no y ↦ elim (ℕ_discrete (j % 4) 2) [
            | yes e ↦
                let v : r ≡ x / 4 % 262144 = rw e at er in
                triple_4 s (18 * j) k (k + 1) (k + 2) r refl refl room a b c (omega arith) (omega arith)
            | no w ↦
                let e : j % 4 ≡ 3 = omega arith in
                let v : r ≡ x / 1 % 262144 = rw e at er in
                triple_6 s (18 * j) k (k + 1) (k + 2) r refl refl room a b c (omega arith) (omega arith)
          ]
        ]
      ]
