-- Where the order ends in a program's input.
--
--     end_all, end_found, end_is    with the input, where that ends before the order does, else after the order's length
-- Assumes nothing.
use Prim.Native.Nat.{ℕ, zero, suc, ◌≤◌}
use mathlib.Core.Path.{◌≡◌, refl}
use mathlib.Core.List.{List}
use native.Mathlib.Omega.{arith}
use native.Mathlib.Nat.{lt_of_not-le}
use native.Mathlib.Decide.{dec_le}
use lib.ListN.{length}
use Rattle.recording.proofs.FrontLaws.{whole_is, whole_none}
use Rattle.field.specs.Units.{record_length}
use Rattle.answers.specs.Found.{found}
use Rattle.std.specs.Prelude.{unwrap_or}
use Rattle.order.specs.RecordLength.{order_length, whole_order_length}
use Rattle.text.specs.Split.{order_end}

-- e is 0 where the order does not end
module _ (s : List ℕ) (e : ℕ) (h : e ≡ whole_order_length s) where
  some-length : 3 ≤ order_length s
  unfolding order_length record_length
  some-length = omega arith

  end_all : e ≡ 0 → length s ≡ order_end s
  unfolding order_end whole_order_length
  end_all z = elim (dec_le (order_length s) (length s)) [
    | yes fits ↦ absurd (omega (arith, whole_is (order_length s) s fits, some-length))
    | no short ↦ omega (arith, lt_of_not-le short)
  ]

  end_found : (e ≡ 0 → ⊥) → e ≡ order_end s
  unfolding order_end whole_order_length
  end_found d = elim (dec_le (order_length s) (length s)) [
    | yes fits ↦ omega (arith, whole_is (order_length s) s fits)
    | no short ↦ absurd (d (omega (arith, whole_none (order_length s) s (lt_of_not-le short))))
  ]

pub end_is : (s : List ℕ) (e : ℕ) → e ≡ whole_order_length s → unwrap_or (found e) (length s) ≡ order_end s
end_is s zero h = end_all s 0 h refl
end_is s (suc n) h = end_found s (suc n) h (λ z. omega arith)
