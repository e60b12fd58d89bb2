-- Laws of what specs/RecordLength.antt defines.
--
--     timetable-length_found    that is the length of the front of s that 40 passes, and 0 exactly where 40 passes none
-- Assumes nothing.
use Prim.Native.Nat.{ℕ, zero, suc, ◌+◌, ◌≤◌}
use mathlib.Core.Path.{◌≡◌, refl, sym, ◌∙◌}
use mathlib.Core.Bool.{false}
use mathlib.Core.List.{List, [], ◌∷◌, ◌++◌}
use native.Mathlib.Omega.{arith}
use borrow.Author.Tests.{ltb-false, le-ltb, eqb-true, eq-eqb, not-false}
use lib.ListN.{length, get_or, drop, length-drop}
use lib.Seq.{drop-append-le}
use lib.Dec.{ltb}
use Rattle.recording.proofs.FrontLaws.{field_front, LengthFound, length_found}
use Rattle.field.proofs.UnitLaws.{or_left, or_right}
use Rattle.timetable.specs.Reading.{wrong_steps}
use Rattle.timetable.specs.Timetable.{step_length, step_count, wrong_timetable_length, steps_length, timetable_length}
use Rattle.timetable.proofs.StepLaws.{step_length-some, wrong_length_lem}
use Rattle.timetable.specs.RecordLength.{whole_timetable_length}

right_steps : (k : ℕ) (r rest : List ℕ) → wrong_steps k r ≡ false → steps_length k (r ++ rest) ≡ length r
unfolding wrong_steps steps_length
right_steps zero r rest w = sym (eqb-true (length r) 0 (not-false _ w))
right_steps (suc k) [] rest w = absurd (let z : ◌≡◌ {A = ℕ} 0 1 = cc in omega arith)
right_steps (suc k) (c ∷ r) rest w =
    let n = step_length c in
    let fits : n ≤ length (c ∷ r) = ltb-false (length (c ∷ r)) n (or_left _ _ w) in
    rw (drop-append-le n (c ∷ r) rest fits, right_steps k (drop n (c ∷ r)) rest (or_right (ltb (length (c ∷ r)) n) _ w))
    (omega (arith, length-drop n (c ∷ r)))

steps_right : (k : ℕ) (r rest : List ℕ) → steps_length k (r ++ rest) ≡ length r → wrong_steps k r ≡ false
unfolding wrong_steps steps_length
steps_right zero r rest e = simp (eq-eqb (length r) 0 (sym e))
steps_right (suc k) [] rest e = absurd (omega (arith, step_length-some (get_or rest 0 0)))
steps_right (suc k) (c ∷ r) rest e =
    let n = step_length c in
    let fits : n ≤ length (c ∷ r) = omega arith in
    let left : n + steps_length k (drop n (c ∷ r) ++ rest) ≡ length (c ∷ r) = rw (drop-append-le n (c ∷ r) rest fits) at e in
    simp (le-ltb (length (c ∷ r)) n fits)
    (steps_right k (drop n (c ∷ r)) rest (omega (arith, length-drop n (c ∷ r))))

-- the count stands in the first three bytes
count_front : (r rest : List ℕ) → 3 ≤ length r → step_count (r ++ rest) ≡ step_count r
unfolding step_count
count_front r rest h = field_front r rest 0 22 (omega arith)

steps_front : (r rest : List ℕ) → 3 ≤ length r → timetable_length (r ++ rest) ≡ 3 + steps_length (step_count r) (drop 3 r ++ rest)
unfolding timetable_length
steps_front r rest h = rw (count_front r rest h, drop-append-le 3 r rest h) refl

head_within : (s : List ℕ) → 3 ≤ timetable_length s
unfolding timetable_length
head_within s = omega arith

right-size : (r rest : List ℕ) → wrong_timetable_length r ≡ false → timetable_length (r ++ rest) ≡ length r
right-size r rest e =
    let w = sym (wrong_length_lem r) ∙ e in
    let long : 3 ≤ length r = ltb-false (length r) 3 (or_left _ _ w) in
    let steps = right_steps (step_count r) (drop 3 r) rest (or_right (ltb (length r) 3) _ w) in
    omega (arith, steps_front r rest long, steps, length-drop 3 r)

size-right : (r rest : List ℕ) → timetable_length (r ++ rest) ≡ length r → wrong_timetable_length r ≡ false
size-right r rest e =
    let long : 3 ≤ length r = omega (arith, head_within (r ++ rest)) in
    wrong_length_lem r
    ∙ simp (le-ltb (length r) 3 long)
    (steps_right (step_count r) (drop 3 r) rest (omega (arith, steps_front r rest long, length-drop 3 r)))

pub timetable-length_found : (s : List ℕ) → LengthFound (λ (r : List ℕ). wrong_timetable_length r ≡ false) s (whole_timetable_length s)
unfolding whole_timetable_length
timetable-length_found =
    length_found (λ (r : List ℕ). wrong_timetable_length r ≡ false) timetable_length (λ s. omega (arith, head_within s))
    right-size size-right
