-- The steps of a timetable one after another: what is left from a byte on, for a loop that has passed i of k steps.
--
--     part_at s at          the step that begins at byte `at`, count byte first and pad last
--     next_at s at          where the step after it begins
--     step_length-some, step_length-moves, step_length_few    a step has a byte, at least as many as moves, and at most 384
--     parts_next           of the parts that are left, the first and those after it
--     length_parts         k parts are k
--     parts_none           no parts are left once all are passed
--     Room s at            the step that begins at byte `at` does not run past the end
--     wrong_past, wrong_short_lem, wrong_next, wrong_left, right_end    40, step by step: from the facts
--     room, all-taken      and the facts from 40
--     wrong_length_lem         40 of a timetable, by 40 of its steps
--     steps_suc            the length of one step more
--     length-part_at, head_part_at    a step's length and its count byte
--     cut_is, cut_length            the step as the part `&s[at..next]` that a loop cuts out
--     length-moves                  it has as many moves as its count byte says
--     moves-tail, moves_room        its moves, read from the part that begins at its second byte
-- Assumes nothing.
use Prim.Native.Nat.{ℕ, zero, suc, ◌+◌, ◌-◌, ◌*◌, ◌≤◌, ◌<◌}
use mathlib.Core.Path.{◌≡◌, refl, sym, ap, ◌∙◌}
use mathlib.Core.Bool.{true, false, not, ◌||◌}
use mathlib.Core.List.{List, [], ◌∷◌}
use native.Mathlib.Omega.{arith}
use native.Mathlib.Nat.{add-zero, add_assoc, lt_of_not-le}
use native.Mathlib.Decide.{ℕ_discrete, dec_le}
use borrow.Author.Tests.{lt-ltb, le-ltb, eq-eqb, ne_eqb, ltb-false}
use lib.ListN.{length, get_or, take, drop, length-drop, drop_of_length-le}
use lib.Seq.{drop-drop, drop-cons, get_or-drop, get_or-take, length-take-le}
use lib.Dec.{ltb, eqb}
use Rattle.field.specs.Bits.{pairs}
use Rattle.field.proofs.RecordLaws.{rest_is, length_pairs, pairs-drop}
use Rattle.field.proofs.UnitLaws.{or_left}
use Rattle.timetable.specs.Reading.{wrong_steps}
use Rattle.timetable.specs.Timetable.{step_length, steps_length, timetable_length, step_parts, step_moves}
use Rattle.timetable.specs.Timetable.{step_count, wrong_timetable_length}

abbrev pub part_at : List ℕ → ℕ → List ℕ
part_at s at = take (step_length (get_or s at 0)) (drop at s)

abbrev pub next_at : List ℕ → ℕ → ℕ
next_at s at = at + step_length (get_or s at 0)

pub step_length-some : (c : ℕ) → 1 ≤ step_length c
unfolding step_length
step_length-some c = omega arith

-- a count byte stands before at least as many bytes as it counts moves
pub step_length-moves : (c : ℕ) → c ≤ step_length c
unfolding step_length
step_length-moves c = omega arith

pub step_length_few : (c : ℕ) → c < 256 → step_length c ≤ 384
unfolding step_length
step_length_few c h = omega arith

true_not_false : false ≡ true → ⊥
true_not_false e = let z : ◌≡◌ {A = ℕ} 0 1 = cc in omega arith

first_byte : (s : List ℕ) (at : ℕ) → get_or (drop at s) 0 0 ≡ get_or s at 0
first_byte s at = get_or-drop at s 0 0 ∙ ap (λ (n : ℕ). get_or s n 0) (add-zero at)

-- the next of what is left to read
pub parts_next : (s : List ℕ) (at i k : ℕ) → i < k
    → step_parts (k - i) (drop at s) ≡ part_at s at ∷ step_parts (k - (i + 1)) (drop (next_at s at) s)
unfolding step_parts
parts_next s at i k h =
    let left : k - i ≡ suc (k - (i + 1)) = omega arith in
    rw (left, first_byte s at, drop-drop (step_length (get_or s at 0)) at s) refl

pub parts_none : (t : List ℕ) (i k : ℕ) → k ≤ i → step_parts (k - i) t ≡ []
unfolding step_parts
parts_none t i k h =
    let none : k - i ≡ 0 = omega arith in
    rw none refl

pub length_parts : (k : ℕ) (t : List ℕ) → length (step_parts k t) ≡ k
unfolding step_parts
length_parts zero t = refl
length_parts (suc k) t = ap suc (length_parts k (drop (step_length (get_or t 0 0)) t))

-- the step that begins at byte `at` is there and does not run past the end
pub record Room (s : List ℕ) (at : ℕ) : Type 0 where
  pub begins : at < length s
  pub ends : next_at s at ≤ length s

module _ (s : List ℕ) (at i k : ℕ) (h : i < k) where
  left_is : k - i ≡ suc (k - (i + 1))
  left_is = omega arith

  pub wrong_past : length s ≤ at → wrong_steps (k - i) (drop at s) ≡ true
  unfolding wrong_steps
  wrong_past p = rw (left_is, drop_of_length-le s p) refl

  -- 40 of what is left, from the count byte at `at`
  wrong_is : at < length s
      → wrong_steps (k - i) (drop at s)
      ≡ (ltb (length (drop at s)) (step_length (get_or s at 0)) || wrong_steps (k - (i + 1)) (drop (next_at s at) s))
  unfolding wrong_steps
  wrong_is b =
      rw (left_is, ← drop-drop (step_length (get_or s at 0)) at s)
      (rw (drop-cons s at 0 b) refl)

  pub wrong_short_lem : at < length s → length s - at < step_length (get_or s at 0) → wrong_steps (k - i) (drop at s) ≡ true
  wrong_short_lem b p = wrong_is b ∙ rw (length-drop at s, lt-ltb (length s - at) (step_length (get_or s at 0)) p) refl

  pub wrong_next : Room s at → wrong_steps (k - i) (drop at s) ≡ wrong_steps (k - (i + 1)) (drop (next_at s at) s)
  wrong_next r =
      wrong_is r.begins
      ∙ rw (length-drop at s, le-ltb (length s - at) (step_length (get_or s at 0)) (omega (arith, r.begins, r.ends))) refl

  -- a step that is not wrong has room
  pub room : wrong_steps (k - i) (drop at s) ≡ false → Room s at
  room e = elim (dec_le (length s) at) [
    | yes p ↦ absurd (true_not_false (sym e ∙ wrong_past p))
    | no p ↦
        let b : at < length s = lt_of_not-le p in
        let fits : step_length (get_or s at 0) ≤ length (drop at s) = ltb-false _ _ (or_left _ _ (sym (wrong_is b) ∙ e)) in
        record { begins = b; ends = omega (arith, length-drop at s) }
  ]

module _ (s : List ℕ) (at i k : ℕ) (h : k ≤ i) where
  none_left : k - i ≡ 0
  none_left = omega arith

  -- bytes are left over
  pub wrong_left : at < length s → wrong_steps (k - i) (drop at s) ≡ true
  unfolding wrong_steps
  wrong_left b = rw (none_left, length-drop at s, ne_eqb (length s - at) 0 (omega arith)) refl

  pub right_end : length s ≤ at → wrong_steps (k - i) (drop at s) ≡ false
  unfolding wrong_steps
  right_end b = rw (none_left, length-drop at s, eq-eqb (length s - at) 0 (omega arith)) refl

  -- the last step ends where the timetable does
  pub all-taken : wrong_steps (k - i) (drop at s) ≡ false → length s ≤ at
  all-taken e = elim (dec_le (length s) at) [
    | yes p ↦ p
    | no p ↦ absurd (true_not_false (sym e ∙ wrong_left (lt_of_not-le p)))
  ]

-- a length past n bytes, and what is behind them
eqb-past : (n l x : ℕ) → n ≤ l → eqb (l - n) x ≡ eqb l (n + x)
eqb-past n l x h = elim (ℕ_discrete l (n + x)) [
  | yes e ↦ eq-eqb (l - n) x (omega arith) ∙ sym (eq-eqb l (n + x) e)
  | no d ↦ ne_eqb (l - n) x (λ e. d (omega arith)) ∙ sym (ne_eqb l (n + x) d)
]

past_end : (n l x : ℕ) → l < n → not (eqb l (n + x)) ≡ true
past_end n l x h = rw (ne_eqb l (n + x) (λ e. omega arith)) refl

wrong_total : (k : ℕ) (t : List ℕ) → not (eqb (length t) (steps_length k t)) ≡ wrong_steps k t
unfolding wrong_steps steps_length
wrong_total zero t = refl
wrong_total (suc k) [] = past_end (step_length 0) 0 (steps_length k (drop (step_length 0) [])) (step_length-some 0)
wrong_total (suc k) (c ∷ t) = elim (dec_le (step_length c) (length (c ∷ t))) [
  | yes fits ↦
      let n = step_length c in
      let rest = drop n (c ∷ t) in
      ap not (sym (eqb-past n (length (c ∷ t)) (steps_length k rest) fits))
      ∙ ap (λ (l : ℕ). not (eqb l (steps_length k rest))) (sym (length-drop n (c ∷ t)))
      ∙ wrong_total k rest
      ∙ sym (rw (le-ltb (length (c ∷ t)) n fits) refl)
  | no past ↦
      let n = step_length c in
      let short : length (c ∷ t) < n = lt_of_not-le past in
      past_end n (length (c ∷ t)) (steps_length k (drop n (c ∷ t))) short ∙ sym (rw (lt-ltb (length (c ∷ t)) n short) refl)
]

pub wrong_length_lem : (s : List ℕ) → wrong_timetable_length s ≡ (ltb (length s) 3 || wrong_steps (step_count s) (drop 3 s))
unfolding wrong_timetable_length timetable_length
wrong_length_lem s = elim (dec_le 3 (length s)) [
  | yes long ↦
      let x = steps_length (step_count s) (drop 3 s) in
      ap not (sym (eqb-past 3 (length s) x long))
      ∙ ap (λ (l : ℕ). not (eqb l x)) (sym (length-drop 3 s))
      ∙ wrong_total (step_count s) (drop 3 s)
      ∙ sym (rw (le-ltb (length s) 3 long) refl)
  | no short ↦
      let h : length s < 3 = lt_of_not-le short in
      past_end 3 (length s) (steps_length (step_count s) (drop 3 s)) h ∙ sym (rw (lt-ltb (length s) 3 h) refl)
]

pub steps_suc : (i : ℕ) (t : List ℕ) → steps_length (suc i) t ≡ steps_length i t + step_length (get_or t (steps_length i t) 0)
unfolding steps_length
steps_suc zero t = omega arith
steps_suc (suc i) t =
    let n = step_length (get_or t 0 0) in
    let rest = drop n t in
    ap (λ (m : ℕ). n + m) (steps_suc i rest)
    ∙ ap (λ (c : ℕ). n + (steps_length i rest + step_length c)) (get_or-drop n t (steps_length i rest) 0)
    ∙ sym (add_assoc n (steps_length i rest) (step_length (get_or t (n + steps_length i rest) 0)))

-- the part that begins at byte `at`
module _ (s : List ℕ) (at : ℕ) (r : Room s at) where
  pub length-part_at : length (part_at s at) ≡ step_length (get_or s at 0)
  length-part_at = length-take-le (step_length (get_or s at 0)) (drop at s) (rw (length-drop at s) (omega (arith, r.begins, r.ends)))

pub head_part_at : (s : List ℕ) (at : ℕ) → get_or (part_at s at) 0 0 ≡ get_or s at 0
head_part_at s at = get_or-take (step_length (get_or s at 0)) (drop at s) 0 0 (step_length-some (get_or s at 0)) ∙ first_byte s at

module _ (s : List ℕ) (at n : ℕ) (size_is : n ≡ step_length (get_or s at 0)) where
  pub cut_is : take (at + n - at) (drop at s) ≡ part_at s at
  cut_is =
      let e : at + n - at ≡ step_length (get_or s at 0) = omega (arith, size_is) in
      ap (λ (m : ℕ). take m (drop at s)) e

  pub cut_length : Room s at → length (take (at + n - at) (drop at s)) ≡ step_length (get_or (take (at + n - at) (drop at s)) 0 0)
  cut_length r = rw cut_is (length-part_at s at r ∙ ap step_length (sym (head_part_at s at)))

module _ (p : List ℕ) where
  pub length-moves : length (step_moves p) ≡ get_or p 0 0
  unfolding step_moves
  length-moves = length_pairs p 8 (get_or p 0 0)

  -- the moves of a step, as a part `&step[1..]` has them
  pub moves-tail : step_moves p ≡ pairs (take (length p - 1) (drop 1 p)) 0 (get_or p 0 0)
  unfolding step_moves
  moves-tail = rw (rest_is 1 p) (pairs-drop p 1 0 (get_or p 0 0))

  pub moves_room : length p ≡ step_length (get_or p 0 0) → 12 * get_or p 0 0 ≤ 8 * length (take (length p - 1) (drop 1 p))
  unfolding step_length
  moves_room e = rw (rest_is 1 p, length-drop 1 p) (omega arith)
