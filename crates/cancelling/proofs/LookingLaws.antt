-- Looking back: the marks, the sets that cover what is kept, and the latest kept move that touches a position.
--
--     kept_with, kept-without    a mark set, and a mark taken away
--     taken_in                   two positions put into a set
--     below?                     a number is at most another, or above it
--     disjoint_is                words without a common bit are sets without a common position
--     back_by, back_none         down to the begin of a block or a group without the positions, or of a word without marks
--     begins_at_lem, forget-by       a block or a group that begins where the search stands does without them
--     clear_down                 one move further down
--     looked_after               the sets cover what is kept when both have forgotten
--     found_at, found_later, found_none      what the search finds
--     move_is, listed_is         a move as it is read
--     rack_fits                  a rack that is read fits its field
--     room_fewer, bytes_fewer, few_moves    room for some moves is room for fewer, and they are at most as many as the bits
--     touching_is                whether a kept move touches a position of the set
-- Assumes nothing.
use Prim.Native.Nat.{ℕ, ◌+◌, ◌-◌, ◌*◌, ◌/◌, ◌%◌, ◌≤◌, ◌<◌}
use mathlib.Core.Bool.{Bool, true, false, not}
use mathlib.Core.List.{List}
use mathlib.Core.Logic.{◌↔◌, ◌⊎◌, inl, inr, ⊎_elim, ◌≢◌}
use mathlib.Core.Path.{◌≡◌, refl, sym, ap, ap₂, ◌∙◌, subst}
use native.Mathlib.Nat.{div-add-mod'}
use native.Mathlib.Omega.{arith}
use lib.Bits.{bit_and}
use lib.Dec.{ltb, ltb→lt, lt→ltb}
use lib.ListN.{length, get_or, set}
use lib.Seq.{get_or-set_same, get_or-set_other}
use Rattle.field.specs.Bits.{PairAt}
use Rattle.field.specs.Listed.{move_size, rack_field, RackFits, ListedAt}
use Rattle.motion.proofs.Test.{equal?, decided, not_parts}
use Rattle.sets.specs.Sets.{Has}
use Rattle.sets.proofs.SetLaws.{has_and, has_none}
use Rattle.cancelling.specs.Stack.{move_of}
use Rattle.cancelling.specs.Looking.{listed_of, Kept, Covers, ClearFrom, Touching, Found, Looked, Forgets, TakesIn}

-- answers

pub never : {X : Type 0} (b : Bool) → b ≡ false → b ≡ true → X
never b e f = let z : ◌≡◌ {A = Bool} true false = sym f ∙ e in let w : ◌≡◌ {A = ℕ} 0 1 = cc in absurd (omega arith)

pub move_is : (named : Bool) (s : List ℕ) (i a b : ℕ) → PairAt s (6 * (move_size named * i)) a b → move_of (listed_of named s i) ≡ (a, b)
unfolding move_of listed_of
move_is named s i a b p = let pair : ℕ → ℕ → ℕ × ℕ = λ x y. (x, y) in ap₂ pair (sym p.first_is) (sym p.second_is)

pub listed_is : (named : Bool) (s : List ℕ) (i a b r : ℕ) → ListedAt named s (6 * (move_size named * i)) a b r
    → listed_of named s i ≡ (a, b, r)
unfolding listed_of
listed_is named s i a b r l =
    λ j. (sym l.left_is j, sym l.entered_is j, sym l.rack_is j)

pub rack_fits : (named : Bool) (s : List ℕ) (i a b r : ℕ) → ListedAt named s i a b r → named ≡ true → RackFits true r
unfolding rack_field
rack_fits true s i a b r l is = let z = l.rack_is in (omega (arith, z), l.rack_at_most)
rack_fits false s i a b r l is = never false refl is

pub room_fewer : (named : Bool) (i k n : ℕ) → i ≤ k → 6 * (move_size named * k) ≤ n → 6 * (move_size named * i) ≤ n
unfolding move_size
room_fewer false i k n l h = omega arith
room_fewer true i k n l h = omega arith

pub bytes_fewer : (named : Bool) (i k n : ℕ) → i ≤ k → (6 * (move_size named * k) + 7) / 8 ≤ n → (6 * (move_size named * i) + 7) / 8 ≤ n
unfolding move_size
bytes_fewer false i k n l h = omega arith
bytes_fewer true i k n l h = omega arith

pub few_moves : (named : Bool) (k n : ℕ) → 6 * (move_size named * k) ≤ n → 12 * k ≤ n
unfolding move_size
few_moves false k n h = omega arith
few_moves true k n h = omega arith

pub touching_is : (f : ℕ → ℕ × ℕ × ℕ) (marks : List ℕ) (e i a b : ℕ) → move_of (f i) ≡ (a, b)
    → Touching f marks e i ↔ (Kept marks i × (Has e a ⊎ Has e b))
touching_is f marks e i a b m =
    let of_a : (move_of (f i)).0 ≡ a = ap (λ (x : ℕ × ℕ). x.0) m in
    let of_b : (move_of (f i)).1 ≡ b = ap (λ (x : ℕ × ℕ). x.1) m in (
      λ t. (t.kept, ⊎_elim (λ u. inl (subst (Has e) (sym u ∙ of_a) t.has)) (λ u. inr (subst (Has e) (sym u ∙ of_b) t.has)) t.touches),
      λ k.
          ⊎_elim
          (λ h. record { kept = k.0; place = a; touches = inl of_a; has = h })
          (λ h. record { kept = k.0; place = b; touches = inr of_b; has = h })
          k.1,
    )

-- marks

module _ (marks : List ℕ) (x w : ℕ) (inside : x / 64 < length marks) where
  same_word : (h : ℕ) → h / 64 ≡ x / 64 → Kept (set marks (x / 64) w) h ≡ Has w (h % 64)
  same_word h e =
      ap (λ (i : ℕ). Has (get_or (set marks (x / 64) w) i 0) (h % 64)) e
      ∙ ap (λ (s : ℕ). Has s (h % 64)) (get_or-set_same marks (x / 64) w 0 inside)

  other_word : (h : ℕ) → h / 64 ≢ x / 64 → Kept (set marks (x / 64) w) h ≡ Kept marks h
  other_word h e = ap (λ (s : ℕ). Has s (h % 64)) (get_or-set_other marks (x / 64) (h / 64) w 0 e)

  pub kept_with : ((p : ℕ) → Has w p ↔ (Has (get_or marks (x / 64) 0) p ⊎ (p ≡ x % 64))) → (h : ℕ)
      → Kept (set marks (x / 64) w) h ↔ (Kept marks h ⊎ (h ≡ x))
  kept_with is h =
      ⊎_elim
      (λ (e : h / 64 ≡ x / 64).
      rw (same_word h e) (
        λ k. ⊎_elim (λ b. inl (rw e b)) (λ q. inr (omega arith)) ((is (h % 64)).0 k),
        λ k. (is (h % 64)).1 (⊎_elim (λ b. inl (rw (← e) b)) (λ q. inr (ap (λ (i : ℕ). i % 64) q)) k),
      ))
      (λ (e : h / 64 ≢ x / 64).
      rw (other_word h e) (λ k. inl k, λ k. ⊎_elim (λ b. b) (λ q. absurd (e (ap (λ (i : ℕ). i / 64) q))) k))
      (equal? (h / 64) (x / 64))

  pub kept-without : ((p : ℕ) → Has w p ↔ (Has (get_or marks (x / 64) 0) p × (p ≢ x % 64))) → (h : ℕ)
      → Kept (set marks (x / 64) w) h ↔ (Kept marks h × (h ≢ x))
  kept-without is h =
      ⊎_elim
      (λ (e : h / 64 ≡ x / 64).
      rw (same_word h e) (
        λ k. let b = (is (h % 64)).0 k in (rw e b.0, λ q. b.1 (ap (λ (i : ℕ). i % 64) q)),
        λ k. (is (h % 64)).1 (rw (← e) k.0, λ q. k.1 (omega arith)),
      ))
      (λ (e : h / 64 ≢ x / 64).
      rw (other_word h e) (λ k. (k, λ q. e (ap (λ (i : ℕ). i / 64) q)), λ k. k.0))
      (equal? (h / 64) (x / 64))

-- down

pub disjoint_is : (s t : ℕ) → bit_and s t ≡ 0 → (p : ℕ) → Has s p → Has t p → ⊥
disjoint_is s t e p a b = has_none p (rw e at ((has_and s t p).1 (a, b)))

pub below? : (a b : ℕ) → (a ≤ b) ⊎ (b < a)
below? a b =
    ⊎_elim (λ t. inr (ltb→lt b a t))
    (λ t. let n : (b < a → ⊥) = λ u. (not_parts (ltb b a)).0 t (lt→ltb b a u) in inl (omega arith)) (decided (ltb b a))

module _ (f : ℕ → ℕ × ℕ × ℕ) (marks : List ℕ) (e : ℕ) where
  pub back_by : (l : List ℕ) (size at r : ℕ) → ((h : ℕ) → r ≤ h → h < at → h / size ≡ at / size)
      → ((p : ℕ) → Has (get_or l (at / size) 0) p → Has e p → ⊥) → Covers f marks size l → ClearFrom f marks e at → ClearFrom f marks e r
  back_by l size at r same apart c clear =
      record {
        none =
            λ h p u k t b.
            ⊎_elim (λ (q : at ≤ h). clear.none h p q k t b)
            (λ (q : h < at). apart p (rw (← same h u q) (c.has h p k t)) b) (below? at h);
      }

  pub back_none : (at : ℕ) → get_or marks (at / 64) 0 ≡ 0 → ClearFrom f marks e at → ClearFrom f marks e (at / 64 * 64)
  back_none at z clear =
      record {
        none =
            λ h p u k t b.
            ⊎_elim (λ (q : at ≤ h). clear.none h p q k t b)
            (λ (q : h < at). let same : h / 64 ≡ at / 64 = omega arith in has_none (h % 64) (rw (same, z) at k)) (below? at h);
      }

  pub clear_down : (at : ℕ) → 0 < at → (Touching f marks e (at - 1) → ⊥) → ClearFrom f marks e at → ClearFrom f marks e (at - 1)
  clear_down at some not clear =
      record {
        none =
            λ h p u k t b.
            ⊎_elim (λ (q : h ≡ at - 1). not (record { kept = rw (← q) k; place = p; touches = rw (← q) t; has = b }))
            (λ (q : h ≢ at - 1). clear.none h p (omega arith) k t b) (equal? h (at - 1));
      }

-- the first of the moves that share a set
pub begins_at_lem : (at size i : ℕ) → at % size ≡ 0 → i / size ≡ at / size → at ≤ i
begins_at_lem at size i whole same =
    let mine : at / size * size + i % size ≡ i = rw same at (div-add-mod' i size) in
    omega (arith, mine, whole, div-add-mod' at size)

pub forget-by : (e at size : ℕ) (l : List ℕ) (w : ℕ) → at / size < length l → ((i : ℕ) → i / size ≡ at / size → at ≤ i)
    → ((p : ℕ) → Has w p ↔ (Has (get_or l (at / size) 0) p × (Has e p → ⊥))) → (f : ℕ → ℕ × ℕ × ℕ) (marks : List ℕ) → Covers f marks size l
    → ClearFrom f marks e at → Covers f marks size (set l (at / size) w)
forget-by e at size l w inside begins is f marks c clear =
    record {
      has =
          λ i p k t.
          ⊎_elim
          (λ (q : i / size ≡ at / size).
          rw (q, get_or-set_same l (at / size) w 0 inside) ((is p).1 (rw (← q) (c.has i p k t), λ b. clear.none i p (begins i q) k t b)))
          (λ (q : i / size ≢ at / size). rw (get_or-set_other l (at / size) (i / size) w 0 q) (c.has i p k t))
          (equal? (i / size) (at / size));
    }

module _ (f : ℕ → ℕ × ℕ × ℕ) (marks : List ℕ) (e : ℕ) where
  pub looked_after : {blocks groups blocks' groups' : List ℕ} (at : ℕ) → Looked f marks blocks groups → ClearFrom f marks e at
      → Forgets e at 256 blocks blocks' → Forgets e at 16384 groups groups' → Looked f marks blocks' groups'
  looked_after at l c by_blocks by_groups =
      record { by_blocks = by_blocks f marks l.by_blocks c; by_groups = by_groups f marks l.by_groups c }

  pub found_at : (from at : ℕ) → at ≤ from → ClearFrom f marks e at → Touching f marks e (at - 1) → Found f marks e from at
  found_at from at low c t = record { below = low; clear = c; touching = λ some. t }

  pub found_later : {from to at : ℕ} → from ≤ to → Found f marks e from at → Found f marks e to at
  found_later l t = record { below = omega (arith, l, t.below); clear = t.clear; touching = t.touching }

  pub found_none : (from at : ℕ) → at ≡ 0 → ClearFrom f marks e at → Found f marks e from 0
  found_none from at z c =
      record { below = omega arith; clear = rw z at c; touching = λ some. absurd (omega arith) }

-- two positions put into a set
pub taken_in : (l : List ℕ) (place a b v w : ℕ) → place < length l → ((p : ℕ) → Has v p ↔ (Has (get_or l place 0) p ⊎ (p ≡ a)))
    → ((p : ℕ) → Has w p ↔ (Has v p ⊎ (p ≡ b))) → TakesIn l place a b (set l place w)
taken_in l place a b v w inside one two q p =
    ⊎_elim
    (λ (e : q ≡ place).
    rw (e, get_or-set_same l place w 0 inside) (
      λ h. ⊎_elim (λ x. ⊎_elim (λ y. inl y) (λ y. inr (refl, inl y)) ((one p).0 x)) (λ x. inr (refl, inr x)) ((two p).0 h),
      λ h.
          ⊎_elim (λ x. (two p).1 (inl ((one p).1 (inl x))))
          (λ x. ⊎_elim (λ y. (two p).1 (inl ((one p).1 (inr y)))) (λ y. (two p).1 (inr y)) x.1) h,
    ))
    (λ (e : q ≢ place).
    rw (get_or-set_other l place q w 0 e) (λ h. inl h, λ h. ⊎_elim (λ x. x) (λ x. absurd (e x.0)) h))
    (equal? q place)
