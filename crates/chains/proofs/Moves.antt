-- A loop over the moves of a step, whatever it makes of them: what is left to do decides. What is left from move j on is `rest j`.
--
--     Left f rest all x₀ x j   what f makes of the moves from move j on, in the state x, is what it makes of all of them in the state x₀
--     left-first          so it is at the first move
--     left_at             move j is the next of what is left
--     left-next           where f goes on from the state x by that move to the state y, that is left
--     left_last           after the last move nothing is left
--     moves_from d j       the moves of the step d from move j on
--     moves_at, moves_none    move j and those after it; after the last there are none
--     moves-length, moves_below   a step has as many moves as numbers, of positions below 64
--     Kept, kept-first, kept_next, kept-all    the table d of n numbers has the first j moves of s; with all of them its moves
--                          are the first n of s
-- Assumes nothing.
use Prim.Native.Nat.{ℕ, zero, suc, ◌+◌, ◌*◌, ◌/◌, ◌%◌, ◌≤◌, ◌<◌}
use mathlib.Core.Path.{◌≡◌, refl, sym, ap, ◌∙◌, subst}
use mathlib.Core.List.{List, [], ◌∷◌}
use mathlib.Core.Logic.{by_cases}
use native.Mathlib.Decide.{ℕ_discrete}
use native.Mathlib.Numerals.{add-one}
use native.Mathlib.Omega.{arith}
use lib.ListN.{get_or, set, length, drop, length-set, drop_of_length-le}
use lib.Seq.{drop-cons, get_or-set_same, get_or-set_other}
use Rattle.field.specs.Bits.{field, pairs}
use Rattle.field.specs.Bytes.{BelowPairs, none₂, more₂}
use Rattle.field.proofs.BitLaws.{field_lt}
use Rattle.chains.specs.StepOn.{moves_of}
use Rattle.chains.specs.Chains.{EntryAt}

module _ {S X : Type 0} (f : S → List (ℕ × ℕ) → X) (rest : ℕ → List (ℕ × ℕ)) (all : List (ℕ × ℕ)) (x₀ : S) where
  unfoldable pub Left : S → ℕ → Type 0
  Left x j = f x (rest j) ≡ f x₀ all

  pub left-first : rest 0 ≡ all → Left x₀ 0
  unfolding Left
  left-first e = ap (f x₀) e

  module _ (x : S) (j a b : ℕ) (left : Left x j) (at : rest j ≡ ((a, b) ∷ rest (j + 1))) where
    pub left_at : f x ((a, b) ∷ rest (j + 1)) ≡ f x₀ all
    unfolding Left
    left_at = ap (f x) (sym at) ∙ left

    pub left-next : (y : S) → ((ms : List (ℕ × ℕ)) → f x ((a, b) ∷ ms) ≡ f y ms) → Left y (j + 1)
    unfolding Left
    left-next y on = sym (on _) ∙ left_at

  pub left_last : (x : S) (j : ℕ) → Left x j → rest j ≡ [] → f x [] ≡ f x₀ all
  unfolding Left
  left_last x j left none = ap (f x) (sym none) ∙ left

abbrev pub moves_from : List ℕ → ℕ → List (ℕ × ℕ)
moves_from d j = moves_of (drop j d)

pub moves_at : (d : List ℕ) (j a b : ℕ) → j < length d → a ≡ get_or d j 0 / 64 % 64 → b ≡ get_or d j 0 % 64
    → moves_from d j ≡ ((a, b) ∷ moves_from d (j + 1))
unfolding moves_of
moves_at d j a b h ea eb =
    let next : drop j d ≡ get_or d j 0 ∷ drop (j + 1) d = rw (add-one j) (drop-cons d j 0 h) in
    rw (next, ea, eb) refl

pub moves_none : (d : List ℕ) (j : ℕ) → length d ≤ j → moves_from d j ≡ []
unfolding moves_of
moves_none d j h = rw (drop_of_length-le d {i = j} h) refl

pub moves-length : (d : List ℕ) → length (moves_of d) ≡ length d
unfolding moves_of
moves-length [] = refl
moves-length (x ∷ d) = ap suc (moves-length d)

pub moves_below : (d : List ℕ) → BelowPairs 64 (moves_of d)
unfolding moves_of
moves_below [] = none₂
moves_below (x ∷ d) = more₂ {p = (x / 64 % 64, x % 64)} (omega arith) (omega arith) (moves_below d)

pub record Kept (s d : List ℕ) (n j : ℕ) : Type 0 where
  pub long : length d ≡ n
  pub number : (i : ℕ) → i < j → EntryAt s i (get_or d i 0)

pub kept-first : (s d : List ℕ) (n : ℕ) → length d ≡ n → Kept s d n 0
kept-first s d n long = record { long = long; number = λ i h. omega arith }

pub kept_next : (s d : List ℕ) (n j x : ℕ) → j < n → EntryAt s j x → Kept s d n j → Kept s (set d j x) n (j + 1)
kept_next s d n j x room e k =
    record {
      long = length-set d j x ∙ k.long;
      number = λ i h.
          by_cases (ℕ_discrete i j)
          (λ q. subst (λ (y : ℕ). EntryAt s y (get_or (set d j x) y 0)) (sym q) (get_or-set_same d j x 0 (omega (arith, k.long)) ∙ e))
          (λ q. get_or-set_other d j i x 0 q ∙ k.number i (omega arith));
    }

kept_from : (s d : List ℕ) (n : ℕ) → Kept s d n n → (k j : ℕ) → j + k ≡ n → moves_from d j ≡ pairs s (12 * j) k
unfolding pairs
kept_from s d n kept zero j e = moves_none d j (omega (arith, kept.long))
kept_from s d n kept (suc k) j e =
    let number = kept.number j (omega arith) in
    let low = field_lt s (12 * j) 6 in
    let high = field_lt s (12 * j + 6) 6 in
    let a : get_or d j 0 / 64 % 64 ≡ field s (12 * j) 6 = omega arith in
    let b : get_or d j 0 % 64 ≡ field s (12 * j + 6) 6 = omega arith in
    let on : 12 * (j + 1) ≡ 12 * j + 12 = omega arith in
    let more = kept_from s d n kept k (j + 1) (omega arith) ∙ ap (λ (i : ℕ). pairs s i k) on in
    moves_at d j _ _ (omega (arith, kept.long)) (sym a) (sym b)
    ∙ ap (λ (ms : List (ℕ × ℕ)). (field s (12 * j) 6, field s (12 * j + 6) 6) ∷ ms) more

pub kept-all : (s d : List ℕ) (n j : ℕ) → j ≡ n → Kept s d n j → moves_of d ≡ pairs s 0 n
kept-all s d n j e kept = kept_from s d n (subst (Kept s d n) e kept) n 0 (omega arith)
