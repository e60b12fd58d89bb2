-- Laws of what specs/RecordLength.antt defines.
--
--     order_length_found     that is the length of the front of s that 10 passes, and 0 exactly where 10 passes none
-- Assumes nothing.
use Prim.Native.Nat.{ℕ, ◌+◌, ◌*◌, ◌≤◌}
use mathlib.Core.Path.{◌≡◌, sym, ap, ap₂, ◌∙◌}
use mathlib.Core.Bool.{false}
use mathlib.Core.List.{List, ◌++◌}
use native.Mathlib.Omega.{arith}
use lib.ListN.{length}
use Rattle.field.specs.Units.{record_length}
use Rattle.field.proofs.UnitLaws.{fitting, fits}
use Rattle.recording.proofs.FrontLaws.{field_front, LengthFound, length_found}
use Rattle.order.specs.Order.{edge_count, rack_count, unit_count, wrong_length}
use Rattle.order.specs.RecordLength.{order_length, whole_order_length}

-- the counts stand in the first three bytes
count_front : (r rest : List ℕ) → 3 ≤ length r → order_length (r ++ rest) ≡ order_length r
unfolding order_length unit_count edge_count rack_count
count_front r rest h =
    ap (λ (u : ℕ). record_length (2 * u)) (ap₂ ◌+◌ (field_front r rest 7 8 (omega arith)) (field_front r rest 15 7 (omega arith)))

head_within : (s : List ℕ) → 3 ≤ order_length s
unfolding order_length record_length
head_within s = omega arith

right-size : (r rest : List ℕ) → wrong_length r ≡ false → order_length (r ++ rest) ≡ length r
unfolding wrong_length order_length record_length
right-size r rest w =
    let fit = fitting r (unit_count r) w in
    count_front r rest fit.head_there ∙ sym fit.length_is

size-right : (r rest : List ℕ) → order_length (r ++ rest) ≡ length r → wrong_length r ≡ false
unfolding wrong_length order_length record_length
size-right r rest e =
    let long : 3 ≤ length r = omega (arith, head_within (r ++ rest)) in
    fits r (unit_count r) long (sym e ∙ count_front r rest long)

pub order_length_found : (s : List ℕ) → LengthFound (λ (r : List ℕ). wrong_length r ≡ false) s (whole_order_length s)
unfolding whole_order_length
order_length_found =
    length_found (λ (r : List ℕ). wrong_length r ≡ false) order_length (λ s. omega (arith, head_within s)) right-size size-right
