-- Laws of the place at which a position stands in a row.
--
--     place_of_here, place_of-next, place_of_end    the search for it, turn by turn
--     place_of_in, place_of_is    it finds one of the places, and where x stands at one of them, a place of x
--     FirstIs x l r, place_found    r is the first place of the list l that has x, as `position` finds it; it is the place sought
--     PlaceAt at s e p i    p stands at place i of the places from s up to e
--     place_at              the place that the search finds
-- Assumes nothing.
use Prim.Native.Nat.{ℕ, zero, suc, ◌+◌, ◌-◌, ◌≤◌, ◌<◌}
use mathlib.Core.Path.{◌≡◌, sym, ap, ◌∙◌}
use mathlib.Core.Bool.{Bool, cond}
use mathlib.Core.Logic.{◌≢◌, by_cases}
use native.Mathlib.Decide.{ℕ_discrete}
use native.Mathlib.Omega.{arith}
use borrow.Author.Tests.{eq-eqb, ne_eqb}
use mathlib.Core.List.{List}
use lib.ListN.{get_or, length, take, drop}
use Rattle.std.proofs.Common.{Option, None, Some, MatchOption}
use Rattle.std.specs.List.{AllWithin, HoldsAt}
use Rattle.std.proofs.lemmas.List.{get_or-take, get_or-drop, length-take-le, length-drop}
use Rattle.graph.specs.Rows.{row}
use Rattle.breakdown.specs.Breakdown.{Between}
use Rattle.breakdown.specs.Part.{place_from, place_of}

module _ (at : ℕ → ℕ) (x : ℕ) where
  here : (i k : ℕ) → at i ≡ x → place_from at x i (suc k) ≡ i
  unfolding place_from
  here i k e = ap (λ (t : Bool). cond t i (place_from at x (i + 1) k)) (eq-eqb (at i) x e)

  on : (i k : ℕ) → at i ≢ x → place_from at x i (suc k) ≡ place_from at x (i + 1) k
  unfolding place_from
  on i k e = ap (λ (t : Bool). cond t i (place_from at x (i + 1) k)) (ne_eqb (at i) x e)

  -- the search stands at place i of the places up to e
  left : (e i : ℕ) → i + 1 < e → e - 1 - i ≡ suc (e - 1 - (i + 1))
  left e i l = omega arith

  pub place_of_here : (i e : ℕ) → i + 1 < e → at i ≡ x → place_of at i e x ≡ i
  place_of_here i e l y = ap (place_from at x i) (left e i l) ∙ here i (e - 1 - (i + 1)) y

  pub place_of-next : (i e : ℕ) → i + 1 < e → at i ≢ x → place_of at (i + 1) e x ≡ place_of at i e x
  place_of-next i e l y = sym (ap (place_from at x i) (left e i l) ∙ on i (e - 1 - (i + 1)) y)

  pub place_of_end : (i e : ℕ) → e ≤ i + 1 → place_of at i e x ≡ i
  unfolding place_from
  place_of_end i e l = let none : e - 1 - i ≡ 0 = omega arith in ap (place_from at x i) none

  -- what is j places on is found, if it is x and nothing before it is, and past the last place if nothing is x
  first : (k i j : ℕ) → j ≤ k → (j < k → at (i + j) ≡ x) → ((m : ℕ) → m < j → at (i + m) ≢ x) → place_from at x i k ≡ i + j
  unfolding place_from
  first zero i j le is not = omega arith
  first (suc k) i j le is not =
      by_cases (ℕ_discrete j 0)
      (λ e. let start : i + j ≡ i = omega arith in here i k (sym (ap at start) ∙ is (omega arith)) ∙ sym start)
      (λ d.
      let start : i + 0 ≡ i = omega arith in
      let on_to : i + 1 + (j - 1) ≡ i + j = omega arith in
      on i k (λ e. not 0 (omega arith) (ap at start ∙ e))
      ∙ first k (i + 1) (j - 1) (omega arith) (λ l. ap at on_to ∙ is (omega arith))
      (λ m l e. not (m + 1) (omega arith) (ap at (next m) ∙ e))
      ∙ on_to)
    where
      next : (m : ℕ) → i + (m + 1) ≡ i + 1 + m
      next m = omega arith

  pub place_of_first : (s e j : ℕ) → s + j < e → at (s + j) ≡ x → ((m : ℕ) → m < j → at (s + m) ≢ x) → place_of at s e x ≡ s + j
  place_of_first s e j below is not = first (e - 1 - s) s j (omega arith) (λ l. is) not

  pub place_of_none : (s e : ℕ) → s < e → ((m : ℕ) → s + m < e → at (s + m) ≢ x) → place_of at s e x ≡ e - 1
  place_of_none s e some not =
      let last : s + (e - 1 - s) ≡ e - 1 = omega arith in
      first (e - 1 - s) s (e - 1 - s) (omega arith) (λ l. absurd (never l)) (λ m l. not m (omega arith)) ∙ last
    where
      never : {y : ℕ} → y < y → ⊥
      never l = omega arith

  from : (k i : ℕ) → i ≤ place_from at x i k
  unfolding place_from
  from zero i = omega arith
  from (suc k) i =
      by_cases (ℕ_discrete (at i) x)
      (λ e. let y = here i k e in omega arith)
      (λ e. let y = on i k e in let z = from k (i + 1) in omega arith)

  within : (k i : ℕ) → place_from at x i k ≤ i + k
  unfolding place_from
  within zero i = omega arith
  within (suc k) i =
      by_cases (ℕ_discrete (at i) x)
      (λ e. let y = here i k e in omega arith)
      (λ e. let y = on i k e in let z = within k (i + 1) in omega arith)

  found : (k i j : ℕ) → i ≤ j → j ≤ i + k → at j ≡ x → at (place_from at x i k) ≡ x
  unfolding place_from
  found zero i j low high e = let same : i ≡ j = omega arith in ap at same ∙ e
  found (suc k) i j low high e =
      by_cases (ℕ_discrete (at i) x)
      (λ y. ap at (here i k y) ∙ y)
      (λ y. ap at (on i k y) ∙ found k (i + 1) j (later (λ z. y (ap at z ∙ e))) (omega arith) e)
    where
      later : i ≢ j → i + 1 ≤ j
      later n = omega arith

  pub place_of_in : (s e : ℕ) → s < e → place_of at s e x < e
  place_of_in s e some = let y = within (e - 1 - s) s in omega arith

  pub place_of_is : (s e : ℕ) → Between at s e x → at (place_of at s e x) ≡ x
  place_of_is s e b = let l = b.before in let f = b.from in found (e - 1 - s) s b.place f (omega arith) b.is

-- what `position` finds among the places from s up to e
abbrev pub FirstIs : ℕ → List ℕ → Option ℕ → Type 0
FirstIs x l r =
    MatchOption r (AllWithin (λ q. q ≢ x) l 0 (length l)) (λ i. (i < length l) × HoldsAt (λ q. q ≡ x) l i × AllWithin (λ q. q ≢ x) l 0 i)

pub place_found : (l : List ℕ) (s e x : ℕ) (r : Option ℕ) → s < e → e ≤ length l → FirstIs x (take (e - s) (drop s l)) r
    → MatchOption r (e - 1 ≡ place_of (row l) s e x) (λ i. s + i ≡ place_of (row l) s e x)
place_found l s e x r some within is = of r is
  where
    long : length (take (e - s) (drop s l)) ≡ e - s
    long = length-take-le (e - s) (drop s l) (omega (arith, length-drop s l))

    at : (m : ℕ) → s + m < e → get_or (take (e - s) (drop s l)) m 0 ≡ row l (s + m)
    at m h = get_or-take (e - s) (drop s l) m 0 (omega arith) ∙ get_or-drop s l m 0

    of : (o : Option ℕ) → FirstIs x (take (e - s) (drop s l)) o
        → MatchOption o (e - 1 ≡ place_of (row l) s e x) (λ i. s + i ≡ place_of (row l) s e x)
    of None not =
        let size = long in
        sym (place_of_none (row l) x s e some (λ m h y. not m 0 (omega arith) (omega arith) (at m h ∙ y)))
    of (Some i) f =
        let size = long in
        let low : i < length (take (e - s) (drop s l)) = f.0 in
        sym (place_of_first (row l) x s e i (omega arith) (sym (at i (omega arith)) ∙ f.1 0)
        (λ m h y. f.2 m 0 (omega arith) h (at m (omega arith) ∙ y)))

pub record PlaceAt (at : ℕ → ℕ) (s e p i : ℕ) : Type 0 where
  pub from : s ≤ i
  pub before : i < e
  pub is : at i ≡ p

pub place_at : {at : ℕ → ℕ} {s e p i : ℕ} → i ≡ place_of at s e p → Between at s e p → PlaceAt at s e p i
place_at {at} {s} {e} {p} same b =
    let low = b.from in
    let high = b.before in
    let first = from at p (e - 1 - s) s in
    let last = place_of_in at p s e (omega arith) in
    record { from = omega arith; before = omega arith; is = ap at same ∙ place_of_is at p s e b }
