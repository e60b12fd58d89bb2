-- 13, judged edge by edge: what is left to judge depends on the place of the last edge alone.
--
--     wrong_after n last l    some edge of l is wrong, the edge before l having the place `last` in the order of edges
--     wrong_after_is          from the first edge on, that is document 01's condition
--     not_lower, not_below, not_after, edge_right    one edge judged: it has no place, or its own
--     Left last j            the loop before edge j + 1, the edge before having the place `last`: what is left to judge decides
--     left-first, left-next, left_none     how the loop begins, goes on and ends: the answer is yes
--     not_right                            an edge without a place in the order of edges: the answer is no
--     first_is, second_is, place_below     the positions of an edge, from its place
-- Assumes nothing.
use Prim.Native.Nat.{ℕ, ◌+◌, ◌-◌, ◌*◌, ◌/◌, ◌%◌, ◌≤◌, ◌<◌}
use mathlib.Core.Path.{◌≡◌, refl, sym, ap, ◌∙◌}
use mathlib.Core.Bool.{Bool, true, false, not, ◌&&◌, ◌||◌, or-true, or-false, or_assoc}
use mathlib.Core.List.{List, [], ◌∷◌}
use native.Mathlib.Omega.{arith}
use native.Mathlib.Decide.{dec_le}
use native.Mathlib.Nat.{lt_of_not-le, sub-zero}
use borrow.Author.Tests.{le-leb, lt-leb, leb-false}
use lib.Dec.{leb}
use Rattle.std.specs.Prelude.{Some, None}
use Rattle.answers.specs.Found.{found}
use Rattle.answers.proofs.AnswerLaws.{found_some, some_found, none_found}
use Rattle.field.specs.Bits.{field, pairs, PairAt}
use Rattle.field.specs.Bytes.{BelowPairs, more₂}
use Rattle.field.proofs.BitLaws.{field_lt}
use Rattle.field.proofs.RecordLaws.{pairs_lt, pairs_next}
use Rattle.field.proofs.UnitLaws.{or_left}
use Rattle.order.specs.Floor.{some}
use Rattle.order.proofs.EdgeLaws.{place, bad_is, precedes_is}
use Rattle.order.specs.Order.{bad_edge, ascending, wrong_edges}
use Rattle.order.specs.Readers.{next_place, NextEdge}

unfoldable pub wrong_after : ℕ → ℕ → List (ℕ × ℕ) → Bool
wrong_after n last [] = false
wrong_after n last (e ∷ l) = leb e.1 e.0 || leb n e.1 || leb (place e) last || wrong_after n (place e) l

regroup : (b k s a : Bool) → (b || k || (s || not a)) ≡ (b || s || not (not k && a))
regroup true k s a = refl
regroup false true true a = refl
regroup false true false a = refl
regroup false false true a = refl
regroup false false false a = refl

after_is : (n : ℕ) (p : ℕ × ℕ) (l : List (ℕ × ℕ)) → p.1 < 64 → BelowPairs 64 l
    → wrong_after n (place p) l ≡ (some (bad_edge n) l || not (ascending (p ∷ l)))
unfolding wrong_after some ascending
after_is n p [] h b = refl
after_is n p (e ∷ l) h (more₂ h₀ h₁ b) =
    rw (← bad_is n e, after_is n e l h₁ b, precedes_is p e h h₁)
    (regroup (bad_edge n e) (leb (place e) (place p)) (some (bad_edge n) l) (ascending (e ∷ l)))

pub wrong_after_is : (n : ℕ) (l : List (ℕ × ℕ)) → BelowPairs 64 l → wrong_after n 0 l ≡ wrong_edges (record { positions = n; edges = l })
unfolding wrong_after wrong_edges some ascending
wrong_after_is n [] b = refl
wrong_after_is n (e ∷ l) (more₂ h₀ h₁ b) = elim (dec_le e.1 e.0) [
  | yes h ↦ simp (bad_is n e, le-leb e.1 e.0 h)
  | no h ↦
      rw (← bad_is n e, lt-leb (place e) 0 (omega (arith, lt_of_not-le h)), or-false (bad_edge n e), after_is n e l h₁ b)
      (sym (or_assoc (bad_edge n e) (some (bad_edge n) l) (not (ascending (e ∷ l)))))
]

-- one edge judged behind an edge at the place `last`, from the facts that the tests leave
module _ (s : List ℕ) (j n last a b : ℕ) (at : PairAt s (12 * j) a b) where
  abbrev given : ℕ
  given = next_place n last (field s (12 * j) 6) (field s (12 * j + 6) 6)

  no_place : 0 ≡ given → NextEdge s j n last None
  no_place is = record { is = ap found is; below = omega (arith, is) }

  pub not_lower : b ≤ a → NextEdge s j n last None
  not_lower h = no_place (rw (← at.first_is, ← at.second_is) (unfold next_place in simp (le-leb b a h)))

  pub not_below : n ≤ b → NextEdge s j n last None
  not_below h = no_place (rw (← at.first_is, ← at.second_is) (unfold next_place in simp (le-leb n b h, or-true)))

  pub not_after : a * 64 + b ≤ last → NextEdge s j n last None
  not_after h = no_place (rw (← at.first_is, ← at.second_is) (unfold next_place in simp (le-leb (a * 64 + b) last h, or-true)))

  pub edge_right : a < b → b < n → last < a * 64 + b → NextEdge s j n last (Some (a * 64 + b))
  edge_right h k l =
      let is : a * 64 + b ≡ given =
      rw (← at.first_is, ← at.second_is) (unfold next_place in simp (lt-leb b a h, lt-leb n b k, lt-leb (a * 64 + b) last l)) in
      record {
        is = found_some (a * 64 + b) (omega arith) ∙ ap found is;
        below = omega (arith, is, at.first_below, at.second_below);
      }

-- the loop over the e edges of s: at edge j, after an edge at the place `last`
module _ (s : List ℕ) (n e : ℕ) where
  -- what is left to judge decides
  unfoldable pub Left : ℕ → ℕ → Type 0
  Left last j = wrong_after n last (pairs s (12 * j) (e - j)) ≡ wrong_edges (record { positions = n; edges = pairs s 0 e })

  pub left-first : Left 0 0
  unfolding Left
  left-first = rw (sub-zero e) (wrong_after_is n (pairs s 0 e) (pairs_lt s 0 e))

  module _ (last j : ℕ) (left : Left last j) (h : j < e) where
    abbrev a : ℕ
    a = field s (12 * j) 6

    abbrev b : ℕ
    b = field s (12 * j + 6) 6

    bad : Bool
    bad = leb b a || leb n b || leb (a * 64 + b) last

    rest : Bool
    rest = wrong_after n (a * 64 + b) (pairs s (12 * (j + 1)) (e - (j + 1)))

    next : (bad || rest) ≡ wrong_edges (record { positions = n; edges = pairs s 0 e })
    unfolding Left wrong_after bad rest
    next = ap (wrong_after n last) (sym (pairs_next s j e h)) ∙ left

    -- an edge without a place is bad: one at the place 0 is not lower first
    pub not_right : NextEdge s j n last None → false ≡ not (wrong_edges (record { positions = n; edges = pairs s 0 e }))
    not_right judged = by bad refl
      where
        by : (t : Bool) → bad ≡ t → false ≡ not (wrong_edges (record { positions = n; edges = pairs s 0 e }))
        by true y = ap not (rw y at next)
        by false y =
            let place_is : next_place n last a b ≡ a * 64 + b = unfold next_place bad in rw y refl in
            let first : a * 64 + b ≡ 0 = sym place_is ∙ none_found (next_place n last a b) judged.is in
            let low : (leb b a || leb n b) ≡ false = or_left (leb b a || leb n b) (leb (a * 64 + b) last) (unfold bad in y) in
            absurd (omega (arith, leb-false b a (or_left (leb b a) (leb n b) low)))

    -- an edge with a place is right, and the place is its own
    module _ (r : ℕ) (judged : NextEdge s j n last (Some r)) where
      is_place : (r ≡ next_place n last a b) × (1 ≤ next_place n last a b)
      is_place = some_found r (next_place n last a b) judged.is

      pub place_below : r < 4096
      place_below = omega (arith, is_place.0, judged.below)

      right : (bad ≡ false) × (r ≡ a * 64 + b)
      right = by bad refl
        where
          by : (t : Bool) → bad ≡ t → (bad ≡ false) × (r ≡ a * 64 + b)
          by true y =
              let none : next_place n last a b ≡ 0 = unfold next_place bad in rw y refl in
              absurd (omega (arith, none, is_place.1))
          by false y = (y, is_place.0 ∙ (unfold next_place bad in rw y refl))

      pub left-next : Left r (j + 1)
      unfolding Left rest
      left-next = rw right.1 (rw right.0 at next)

      pub first_is : r / 64 ≡ a
      first_is = omega (arith, right.1, field_lt s (12 * j + 6) 6)

      pub second_is : r % 64 ≡ b
      second_is = omega (arith, right.1, field_lt s (12 * j + 6) 6)

  pub left_none : (last j : ℕ) → Left last j → e ≤ j → true ≡ not (wrong_edges (record { positions = n; edges = pairs s 0 e }))
  unfolding Left wrong_after pairs
  left_none last j left h =
      let none : e - j ≡ 0 = omega arith in
      ap not (rw none at left)
