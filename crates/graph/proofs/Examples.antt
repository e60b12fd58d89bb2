-- Floors on which the definitions are seen to hold, by computation: what the contracts assume can be met.
--
--     rows_test n g, rows_tested    a test that computes, and what it shows: g are the rows of a floor of n
--     floor_f            document 01, "Case book": "F is that order's floor: n = 4, edges 0-1, 0-2, 1-2, 1-3, 2-3"
--     floor_f-rows       they are the rows of a floor of 4
--     floor_f_edges      it has five edges
--     triangle, triangle-rows, triangle_edges    three positions in a ring, three edges
-- Assumes nothing.
use Prim.Native.Nat.{ℕ, zero, suc, ◌^◌, ◌<◌}
use mathlib.Core.Bool.{Bool, true, false}
use mathlib.Core.Path.{◌≡◌, refl, sym, subst, ap, ◌∙◌}
use mathlib.Core.List.{List, [], ◌∷◌}
use mathlib.Core.Logic.{by_cases}
use native.Mathlib.Decide.{ℕ_discrete, dec_lt}
use native.Mathlib.Omega.{arith}
use lib.Dec.{T, leb, ltb, eqb, leb→le, ltb→lt, eqb→eq}
use lib.ListN.{get_or, length, get_or-eq_default}
use Rattle.sets.specs.Sets.{bit, Has}
use Rattle.sets.specs.Sum.{sum_below}
use Rattle.sets.proofs.SetLaws.{has_none, has_below}
use Rattle.graph.specs.Rows.{Edge, Rows}
use Rattle.graph.specs.EdgeCount.{edge_count}

abbrev both : Bool → Bool → Bool
both true b = b
both false b = false

both_left : (a b : Bool) → T (both a b) → T a
both_left true b t = tt
both_left false b t = t

both_right : (a b : Bool) → T (both a b) → T b
both_right true b t = t
both_right false b t = absurd t

-- a test that holds of every number below n
abbrev every : ℕ → (ℕ → Bool) → Bool
every zero f = true
every (suc n) f = both (f n) (every n f)

every-at : (n : ℕ) (f : ℕ → Bool) → T (every n f) → (i : ℕ) → i < n → T (f i)
every-at zero f t i l = absurd (none l)
  where
    none : {x : ℕ} → x < 0 → ⊥
    none h = omega arith
every-at (suc n) f t i l =
    by_cases (ℕ_discrete i n)
    (λ e. subst (λ (x : ℕ). T (f x)) (sym e) (both_left (f n) (every n f) t))
    (λ e. every-at n f (both_right (f n) (every n f) t) i (omega arith))

-- of two positions below n: joined both ways or not at all
abbrev pair_right : List ℕ → ℕ → ℕ → Bool
pair_right g a b = eqb (bit (get_or g a 0) b) (bit (get_or g b 0) a)

-- the row of a has positions below n alone, and not a
abbrev row-right : ℕ → List ℕ → ℕ → Bool
row-right n g a = both (eqb (bit (get_or g a 0) a) 0) (both (ltb (get_or g a 0) (2 ^ n)) (every n (pair_right g a)))

abbrev rest-right : ℕ → List ℕ → Bool
rest-right n g = both (leb (length g) n) (every n (row-right n g))

abbrev pub rows_test : ℕ → List ℕ → Bool
rows_test n g = both (leb n 64) (rest-right n g)

pub rows_tested : (n : ℕ) (g : List ℕ) → T (rows_test n g) → Rows n g
rows_tested n g t =
    record { small = leb→le n 64 (both_left (leb n 64) (rest-right n g) t); inside = inside; symmetric = symmetric; other = other }
  where
    line : (a : ℕ) → a < n → T (row-right n g a)
    line = every-at n (row-right n g) (both_right (leb (length g) n) (every n (row-right n g)) (both_right (leb n 64) (rest-right n g) t))

    more : (a : ℕ) → a < n → T (both (ltb (get_or g a 0) (2 ^ n)) (every n (pair_right g a)))
    more a l = both_right (eqb (bit (get_or g a 0) a) 0) (both (ltb (get_or g a 0) (2 ^ n)) (every n (pair_right g a))) (line a l)

    below : (a b : ℕ) → Edge g a b → a < n
    below a b e =
        by_cases (dec_lt a n) (λ l. l)
        (λ l.
        let short = leb→le (length g) n (both_left (leb (length g) n) (every n (row-right n g))
        (both_right (leb n 64) (rest-right n g) t)) in
        absurd (has_none b (subst (λ (x : ℕ). Has x b) (get_or-eq_default g 0 (omega arith)) e)))

    inside : (a b : ℕ) → Edge g a b → (a < n) × (b < n)
    inside a b e =
        let l = below a b e in (
          l,
          has_below n (get_or g a 0) b (ltb→lt (get_or g a 0) (2 ^ n) (both_left (ltb (get_or g a 0) (2 ^ n))
              (every n (pair_right g a)) (more a l))) e,
        )

    symmetric : (a b : ℕ) → Edge g a b → Edge g b a
    symmetric a b e =
        let l = inside a b e in
        let same = eqb→eq (bit (get_or g a 0) b) (bit (get_or g b 0) a)
        (every-at n (pair_right g a) (both_right (ltb (get_or g a 0) (2 ^ n)) (every n (pair_right g a)) (more a l.0)) b l.1) in
        sym same ∙ e

    other : (a b : ℕ) → Edge g a b → a ≡ b → ⊥
    other a b e same =
        let l = below a b e in
        let none = eqb→eq (bit (get_or g a 0) a) 0 (both_left (eqb (bit (get_or g a 0) a) 0)
        (both (ltb (get_or g a 0) (2 ^ n)) (every n (pair_right g a))) (line a l)) in
        let on : bit (get_or g a 0) a ≡ 1 = ap (λ (x : ℕ). bit (get_or g a 0) x) same ∙ e in
        clash none on
      where
        clash : {x : ℕ} → x ≡ 0 → x ≡ 1 → ⊥
        clash p q = omega arith

-- row 0 has 1 and 2; row 1 has 0, 2 and 3; row 2 has 0, 1 and 3; row 3 has 1 and 2
unfoldable pub floor_f : List ℕ
floor_f = 6 ∷ 13 ∷ 11 ∷ 6 ∷ []

unfoldable pub triangle : List ℕ
triangle = 6 ∷ 5 ∷ 3 ∷ []

pub floor_f-rows : Rows 4 floor_f
unfolding floor_f bit
floor_f-rows = rows_tested 4 floor_f tt

pub floor_f_edges : edge_count floor_f 4 ≡ 5
unfolding floor_f edge_count sum_below bit
floor_f_edges = refl

pub triangle-rows : Rows 3 triangle
unfolding triangle bit
triangle-rows = rows_tested 3 triangle tt

pub triangle_edges : edge_count triangle 3 ≡ 3
unfolding triangle edge_count sum_below bit
triangle_edges = refl
