-- Laws of records of positions: each test from the facts, and the facts from each test.
--
--     or_left, or_right                       both tests of a disjunction fail where it fails
--     misfits_short, misfits_not, fits        the length
--     Fitting s q, fitting                    what the length's test leaves
--     pad_is_clear, pad_read, pad_test        the pad bits
--     unclean_spare, unclean_is, clean        the spare and pad bits
--     Clean s q, cleanly                      what that test leaves
--     pad_of_tail                             the pad, read from the tail, the part from the fourth byte on
--     tail-units, tail_room                   the positions have room in the tail; they and their pad take all of it
--     pad-after_head                          a head of three bytes changes nothing of the pad
-- Assumes nothing.
use Prim.Native.Nat.{ℕ, ◌+◌, ◌-◌, ◌*◌, ◌/◌, ◌%◌, ◌≤◌, ◌<◌}
use native.Mathlib.Nat.{mul-add-mod_self_left}
use mathlib.Core.Path.{◌≡◌, refl, sym, ap, ◌∙◌}
use mathlib.Core.Bool.{Bool, true, false, not, ◌||◌, or-true}
use mathlib.Core.List.{List}
use native.Mathlib.Omega.{arith}
use borrow.Author.Tests.{lt-ltb, le-ltb, eq-eqb, ne_eqb, ltb-false, eqb-true, not-false}
use lib.ListN.{length, take, drop, length-drop}
use lib.Dec.{ltb, eqb}
use Rattle.field.specs.Bits.{field, pad}
use Rattle.field.proofs.BitLaws.{field-drop}
use Rattle.field.proofs.RecordLaws.{up_to_byte, rest_is}
use Rattle.field.specs.Units.{record_length, misfits, pad_set, unclean}

-- both tests of a disjunction fail where it fails
pub or_left : (a b : Bool) → (a || b) ≡ false → a ≡ false
or_left true b e = e
or_left false b e = refl

pub or_right : (a b : Bool) → (a || b) ≡ false → b ≡ false
or_right true b e = absurd (let z : ◌≡◌ {A = ℕ} 0 1 = cc in omega arith)
or_right false b e = e

not-not : (b : Bool) → b ≡ not (not b)
not-not true = refl
not-not false = refl

pub record Fitting (s : List ℕ) (q : ℕ) : Type 0 where
  pub head_there : 3 ≤ length s
  pub length_is : length s ≡ 3 + (6 * q + 7) / 8

module _ (s : List ℕ) (q : ℕ) where
  pub misfits_short : length s < 3 → misfits s q ≡ true
  unfolding misfits
  misfits_short h = simp (lt-ltb (length s) 3 h)

  pub misfits_not : (length s ≡ 3 + (6 * q + 7) / 8 → ⊥) → misfits s q ≡ true
  unfolding misfits record_length
  misfits_not d = simp (ne_eqb (length s) (3 + (6 * q + 7) / 8) d, or-true)

  pub fits : 3 ≤ length s → length s ≡ 3 + (6 * q + 7) / 8 → misfits s q ≡ false
  unfolding misfits record_length
  fits h e = simp (le-ltb (length s) 3 h, eq-eqb (length s) (3 + (6 * q + 7) / 8) e)

  pub fitting : misfits s q ≡ false → Fitting s q
  unfolding misfits record_length
  fitting e =
      let long = ltb (length s) 3 in
      let right = eqb (length s) (3 + (6 * q + 7) / 8) in
      record {
        head_there = ltb-false (length s) 3 (or_left long (not right) e);
        length_is = eqb-true (length s) (3 + (6 * q + 7) / 8) (not-false right (or_right long (not right) e));
      }

  pub unclean_spare : (field s 22 2 ≡ 0 → ⊥) → unclean s q ≡ true
  unfolding unclean
  unclean_spare d = simp (ne_eqb (field s 22 2) 0 d)

  pub pad_is_clear : field s (24 + 6 * q) (pad (6 * q)) ≡ 0 → pad_set s q ≡ false
  unfolding pad_set
  pad_is_clear b = simp (eq-eqb (field s (24 + 6 * q) (pad (6 * q))) 0 b)

  pub pad_read : pad_set s q ≡ false → field s (24 + 6 * q) (pad (6 * q)) ≡ 0
  unfolding pad_set
  pad_read e = eqb-true (field s (24 + 6 * q) (pad (6 * q))) 0 (not-false (eqb (field s (24 + 6 * q) (pad (6 * q))) 0) e)

  -- the pad's test, where the pad reads x
  pub pad_test : (x : ℕ) → x ≡ field s (24 + 6 * q) (pad (6 * q)) → eqb x 0 ≡ not (pad_set s q)
  unfolding pad_set
  pad_test x e = rw e (not-not (eqb (field s (24 + 6 * q) (pad (6 * q))) 0))

  -- where no spare bit is set, the pad decides
  pub unclean_is : field s 22 2 ≡ 0 → unclean s q ≡ pad_set s q
  unfolding unclean
  unclean_is a = simp (eq-eqb (field s 22 2) 0 a)

  pub clean : field s 22 2 ≡ 0 → field s (24 + 6 * q) (pad (6 * q)) ≡ 0 → unclean s q ≡ false
  clean a b = unclean_is a ∙ pad_is_clear b

  -- the pad, read from the tail
  pub pad_of_tail : field (take (length s - 3) (drop 3 s)) (6 * q) (pad (6 * q)) ≡ field s (24 + 6 * q) (pad (6 * q))
  pad_of_tail = rw (rest_is 3 s) (sym (field-drop s 3 (6 * q) (pad (6 * q))))

  module _ (f : Fitting s q) where
    pub tail_room : 6 * q + pad (6 * q) ≤ 8 * length (take (length s - 3) (drop 3 s))
    tail_room = rw (rest_is 3 s, length-drop 3 s, up_to_byte (6 * q)) (omega arith)

    pub tail-units : 6 * q ≤ 8 * length (take (length s - 3) (drop 3 s))
    tail-units = omega (arith, tail_room)

pub record Clean (s : List ℕ) (q : ℕ) : Type 0 where
  pub spare_clear : field s 22 2 ≡ 0
  pub pad_clear : field s (24 + 6 * q) (pad (6 * q)) ≡ 0

pub cleanly : (s : List ℕ) (q : ℕ) → unclean s q ≡ false → Clean s q
unfolding unclean
cleanly s q e =
    let spare = eqb (field s 22 2) 0 in
    record {
      spare_clear = eqb-true (field s 22 2) 0 (not-false spare (or_left (not spare) (pad_set s q) e));
      pad_clear = pad_read s q (or_right (not spare) (pad_set s q) e);
    }

-- a head of three bytes changes nothing of the pad
pub pad-after_head : (k : ℕ) → pad (24 + k) ≡ pad k
unfolding pad
pad-after_head k =
    ap (λ (i : ℕ). (8 - i) % 8) (mul-add-mod_self_left 8 3 k)
