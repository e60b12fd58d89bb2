-- Laws of edges in ascending order: a floor's edges, as a set, have one such list.
--
--     place e                the place of an edge in the order of edges
--     and_left, and_right    both tests of a conjunction hold where it holds
--     is_pair-same, is_pair_is    the test of two pairs passes just where they are the same
--     bad_is                 an edge is bad just where it is not lower first or its higher position is n or more
--     precedes_is            the order of edges is the order of their places
--     ascending-first        the first edge of an ascending list comes before all others
--     rest-ascends           the rest of an ascending list ascends
--     same_set               two ascending lists of the same edges are the same list
--     good_edge              an edge of a list without bad edges is lower first, its positions below n
--     edge_joined            where all edges are lower first, those of the list are the pairs that are joined, lower first
-- Assumes nothing.
use Prim.Native.Nat.{ℕ, ◌+◌, ◌*◌, ◌≤◌, ◌<◌}
use mathlib.Core.Path.{◌≡◌, refl, sym, ap, ap₂, ◌∙◌}
use mathlib.Core.Bool.{Bool, true, false, not, ◌&&◌, ◌||◌, or-true, or-false}
use mathlib.Core.List.{List, [], ◌∷◌}
use native.Mathlib.Omega.{arith}
use native.Mathlib.Decide.{dec_le}
use native.Mathlib.Nat.{lt_of_not-le}
use borrow.Author.Tests.{le-leb, lt-leb, lt-ltb, le-ltb, eq-eqb, ne_eqb, eqb-true, leb-false}
use lib.Dec.{leb, ltb, eqb}
use Rattle.field.specs.Bytes.{BelowPairs, more₂}
use Rattle.field.proofs.UnitLaws.{or_left, or_right}
use Rattle.order.specs.Floor.{Floor, some, is_pair, joined}
use Rattle.order.specs.Order.{bad_edge, precedes, ascending}

-- the place of an edge in the order of edges
abbrev pub place : ℕ × ℕ → ℕ
place e = e.0 * 64 + e.1

-- an edge that is lower first has its lower position below n where the higher one is
pub bad_is : (n : ℕ) (e : ℕ × ℕ) → bad_edge n e ≡ (leb e.1 e.0 || leb n e.1)
unfolding bad_edge
bad_is n e = elim (dec_le e.1 e.0) [
  | yes h ↦ simp (le-leb e.1 e.0 h, or-true)
  | no h ↦
      elim (dec_le n e.1) [
        | yes k ↦ simp (le-leb n e.1 k, or-true)
        | no k ↦
            simp (
              lt-leb n e.1 (lt_of_not-le k),
              lt-leb e.1 e.0 (lt_of_not-le h),
              lt-leb n e.0 (omega (arith, lt_of_not-le h, lt_of_not-le k)),
            )
      ]
]

pub precedes_is : (p e : ℕ × ℕ) → p.1 < 64 → e.1 < 64 → precedes p e ≡ not (leb (place e) (place p))
unfolding precedes
precedes_is p e hp he = elim (dec_le e.0 p.0) [
  | yes h ↦
      elim (dec_le p.0 e.0) [
        | yes k ↦
            elim (dec_le e.1 p.1) [
              | yes l ↦
                  simp (
                    le-ltb p.0 e.0 h,
                    le-ltb p.1 e.1 l,
                    le-leb (place e) (place p) (omega arith),
                    eq-eqb p.0 e.0 (omega arith),
                  )
              | no l ↦
                  simp (
                    le-ltb p.0 e.0 h,
                    eq-eqb p.0 e.0 (omega arith),
                    lt-ltb p.1 e.1 (lt_of_not-le l),
                    lt-leb (place e) (place p) (omega (arith, lt_of_not-le l)),
                  )
            ]
        | no k ↦
            simp (
              le-ltb p.0 e.0 h,
              ne_eqb p.0 e.0 (omega (arith, lt_of_not-le k)),
              le-leb (place e) (place p) (omega (arith, lt_of_not-le k)),
            )
      ]
  | no h ↦ simp (lt-ltb p.0 e.0 (lt_of_not-le h), lt-leb (place e) (place p) (omega (arith, lt_of_not-le h)))
]

-- a conjunction that holds
pub and_left : (a b : Bool) → (a && b) ≡ true → a ≡ true
and_left true b e = refl
and_left false b e = e

pub and_right : (a b : Bool) → (a && b) ≡ true → b ≡ true
and_right true b e = e
and_right false b e = absurd (let z : ◌≡◌ {A = ℕ} 0 1 = cc in omega arith)

never : true ≡ false → ⊥
never e = let z : ◌≡◌ {A = ℕ} 0 1 = cc in omega arith

pub is_pair-same : (e : ℕ × ℕ) → is_pair e e ≡ true
unfolding is_pair
is_pair-same e = rw (eq-eqb e.0 e.0 refl, eq-eqb e.1 e.1 refl) refl

pub is_pair_is : (e f : ℕ × ℕ) → is_pair e f ≡ true → e ≡ f
unfolding is_pair
is_pair_is e f h =
    ap₂ (λ (a b : ℕ). (a, b))
    (eqb-true e.0 f.0 (and_left (eqb e.0 f.0) (eqb e.1 f.1) h))
    (eqb-true e.1 f.1 (and_right (eqb e.0 f.0) (eqb e.1 f.1) h))

places_ascend : (e f : ℕ × ℕ) → e.1 < 64 → f.1 < 64 → precedes e f ≡ true → place e < place f
places_ascend e f he hf p = leb-false (place f) (place e) (flip (leb (place f) (place e)) (sym (precedes_is e f he hf) ∙ p))
  where
    flip : (b : Bool) → not b ≡ true → b ≡ false
    flip true h = sym h
    flip false h = refl

pub ascending-first : (e f : ℕ × ℕ) (l : List (ℕ × ℕ)) → e.1 < 64 → BelowPairs 64 l → ascending (e ∷ l) ≡ true → some (is_pair f) l ≡ true
    → place e < place f
unfolding ascending some
ascending-first e f [] he b a m = absurd (never (sym m))
ascending-first e f (g ∷ l) he (more₂ h₀ h₁ b) a m =
    by (is_pair f g) refl (λ k. ascending-first g f l h₁ b (and_right (precedes e g) (ascending (g ∷ l)) a) k)
  where
    first : place e < place g
    first = places_ascend e g he h₁ (and_left (precedes e g) (ascending (g ∷ l)) a)

    by : (t : Bool) → is_pair f g ≡ t → (some (is_pair f) l ≡ true → place g < place f) → place e < place f
    by true h later = rw (is_pair_is f g h) first
    by false h later = omega (arith, first, later (rw h at m))

pub rest-ascends : (e : ℕ × ℕ) (l : List (ℕ × ℕ)) → ascending (e ∷ l) ≡ true → ascending l ≡ true
unfolding ascending
rest-ascends e [] a = refl
rest-ascends e (f ∷ l) a = and_right (precedes e f) (ascending (f ∷ l)) a

-- the first edge of an ascending list stands in it once
not_again : (e : ℕ × ℕ) (l : List (ℕ × ℕ)) → e.1 < 64 → BelowPairs 64 l → ascending (e ∷ l) ≡ true → some (is_pair e) l ≡ false
not_again e l h b a = by (some (is_pair e) l) refl
  where
    by : (t : Bool) → some (is_pair e) l ≡ t → some (is_pair e) l ≡ false
    by true m = absurd (omega (arith, ascending-first e e l h b a m))
    by false m = m

pub same_set : (l m : List (ℕ × ℕ)) → BelowPairs 64 l → BelowPairs 64 m → ascending l ≡ true → ascending m ≡ true
    → ((e : ℕ × ℕ) → some (is_pair e) l ≡ some (is_pair e) m) → l ≡ m
unfolding some
same_set [] [] bl bm al am h = refl
same_set [] (y ∷ m) bl bm al am h = absurd (never (sym (h y ∙ rw (is_pair-same y) refl)))
same_set (x ∷ l) [] bl bm al am h = absurd (never (sym (rw (is_pair-same x) refl) ∙ h x))
same_set (x ∷ l) (y ∷ m) (more₂ hx₀ hx₁ bl) (more₂ hy₀ hy₁ bm) al am h =
    ap₂ (λ (e : ℕ × ℕ) (k : List (ℕ × ℕ)). e ∷ k) first (same_set l m bl bm (rest-ascends x l al) (rest-ascends y m am) tails)
  where
    -- an edge of one list is not before the other's first
    not_before : (u v : ℕ × ℕ) (k : List (ℕ × ℕ)) → v.1 < 64 → BelowPairs 64 k → ascending (v ∷ k) ≡ true → some (is_pair u) (v ∷ k) ≡ true
        → place v ≤ place u
    not_before u v k hv bk ak m = by (is_pair u v) refl
      where
        by : (t : Bool) → is_pair u v ≡ t → place v ≤ place u
        by true e = rw (is_pair_is u v e) (omega arith)
        by false e = omega (arith, ascending-first v u k hv bk ak (rw e at m))

    xy : place y ≤ place x
    xy = not_before x y m hy₁ bm am (sym (h x) ∙ rw (is_pair-same x) refl)

    yx : place x ≤ place y
    yx = not_before y x l hx₁ bl al (h y ∙ rw (is_pair-same y) refl)

    first₀ : x.0 ≡ y.0
    first₀ = omega (arith, xy, yx, hx₁, hy₁)

    first₁ : x.1 ≡ y.1
    first₁ = omega (arith, xy, yx, hx₁, hy₁)

    first : x ≡ y
    first = ap₂ (λ (a b : ℕ). (a, b)) first₀ first₁

    tails : (e : ℕ × ℕ) → some (is_pair e) l ≡ some (is_pair e) m
    tails e = by (is_pair e x) refl
      where
        by : (t : Bool) → is_pair e x ≡ t → some (is_pair e) l ≡ some (is_pair e) m
        by true p =
            ap (λ (f : ℕ × ℕ). some (is_pair f) l) (is_pair_is e x p)
            ∙ not_again x l hx₁ bl al
            ∙ sym (not_again y m hy₁ bm am)
            ∙ ap (λ (f : ℕ × ℕ). some (is_pair f) m) (sym first ∙ sym (is_pair_is e x p))
        by false p = sym (rw p refl) ∙ h e ∙ rw (rw first at p) refl

-- an edge of a list without bad edges is lower first, its positions below n
pub good_edge : (n : ℕ) (e : ℕ × ℕ) (l : List (ℕ × ℕ)) → some (bad_edge n) l ≡ false → some (is_pair e) l ≡ true → (e.0 < e.1) × (e.1 < n)
unfolding some
good_edge n e [] g m = absurd (never (sym m))
good_edge n e (f ∷ l) g m = by (is_pair e f) refl (λ k. good_edge n e l (or_right (bad_edge n f) (some (bad_edge n) l) g) k)
  where
    good : (leb f.1 f.0 || leb n f.1) ≡ false
    good = sym (bad_is n f) ∙ or_left (bad_edge n f) (some (bad_edge n) l) g

    by : (t : Bool) → is_pair e f ≡ t → (some (is_pair e) l ≡ true → (e.0 < e.1) × (e.1 < n)) → (e.0 < e.1) × (e.1 < n)
    by true h later = rw (is_pair_is e f h) (
      leb-false f.1 f.0 (or_left (leb f.1 f.0) (leb n f.1) good),
      leb-false n f.1 (or_right (leb f.1 f.0) (leb n f.1) good),
    )
    by false h later = later (rw h at m)

pub edge_joined : (F : Floor) → some (bad_edge F.positions) F.edges ≡ false → (a b : ℕ)
    → some (is_pair (a, b)) F.edges ≡ (ltb a b && joined F a b)
unfolding joined
edge_joined F g a b = elim (dec_le b a) [
  | yes h ↦ rw (le-ltb a b h) (absent (a, b) h)
  | no h ↦
      rw (lt-ltb a b (lt_of_not-le h), absent (b, a) (omega (arith, lt_of_not-le h)))
      (sym (or-false (some (is_pair (a, b)) F.edges)))
]
  where
    absent : (e : ℕ × ℕ) → e.1 ≤ e.0 → some (is_pair e) F.edges ≡ false
    absent e h = by (some (is_pair e) F.edges) refl
      where
        by : (t : Bool) → some (is_pair e) F.edges ≡ t → some (is_pair e) F.edges ≡ false
        by true m = absurd (omega (arith, (good_edge F.positions e F.edges g m).0))
        by false m = m
