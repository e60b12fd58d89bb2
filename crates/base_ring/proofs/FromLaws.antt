-- Laws of the base ring in its order from a place on.
--
--     length-round, round-next, round-at    how many positions; one more of them; the one at place i
--     laid_none, laid_next      the row of 64 with nothing laid, and with one position more
--     round_turned          a row moved round until place z is the first
--     circle-right          the breakdown's ring from the left end of its first handle on is a base ring
--     circle-same           with the same positions
-- Assumes nothing.
use Prim.Native.Nat.{ℕ, zero, suc, ◌+◌, ◌-◌, ◌%◌, ◌≤◌, ◌<◌}
use mathlib.Core.Path.{◌≡◌, refl, sym, ap, subst, ◌∙◌}
use mathlib.Core.List.{List, [], ◌∷◌, ◌++◌}
use mathlib.Core.Logic.{◌↔◌, ◌≢◌, by_cases}
use native.Mathlib.Decide.{ℕ_discrete, dec_lt}
use native.Mathlib.Nat.{mod-lt, mod-eq_of_lt, mod-eq-sub-mod}
use native.Mathlib.Numerals.{add-one}
use native.Mathlib.Omega.{arith}
use lib.ListN.{length, set, replicate}
use lib.Seq.{set_at, append_snoc}
use Rattle.std.specs.List.{RotatedLeft}
use Rattle.std.proofs.lemmas.Grind.{same_number_lists}
use Rattle.std.proofs.lemmas.List.{get_or_append_left}
use Rattle.breakdown.specs.Breakdown.{Among, Between, Breakdown}
use Rattle.breakdown.specs.Part.{place_of}
use Rattle.breakdown.proofs.PlaceLaws.{place_of_in, place_of_is}
use Rattle.breakdown.specs.Answer.{BreaksDown}
use Rattle.breakdown.specs.declared.Breakdown.{Breakdown as Parts}
use Rattle.graph.specs.Rows.{row}
use Rattle.base_ring.specs.Circle.{place, On, BaseRing}
use Rattle.base_ring.specs.From.{round, circle_of}

module _ (at : ℕ → ℕ) (size : ℕ) where
  pub length-round : (k z : ℕ) → length (round at size z k) ≡ k
  unfolding round
  length-round zero z = refl
  length-round (suc k) z = ap suc (length-round k (z + 1))

  pub round-next : (k z : ℕ) → round at size z (suc k) ≡ round at size z k ++ (at ((z + k) % size) ∷ [])
  unfolding round
  round-next zero z = let e : z ≡ z + 0 = omega arith in ap (λ (i : ℕ). at (i % size) ∷ []) e
  round-next (suc k) z =
      let e : z + 1 + k ≡ z + suc k = omega arith in
      ap (λ (l : List ℕ). at (z % size) ∷ l)
      (round-next k (z + 1) ∙ ap (λ (i : ℕ). round at size (z + 1) k ++ (at (i % size) ∷ [])) e)

  pub round-at : (k z i : ℕ) (rest : List ℕ) → i < k → row (round at size z k ++ rest) i ≡ at ((z + i) % size)
  unfolding round
  round-at zero z i rest l = absurd (omega arith)
  round-at (suc k) z zero rest l = let e : z ≡ z + 0 = omega arith in ap (λ (j : ℕ). at (j % size)) e
  round-at (suc k) z (suc i) rest l =
      let e : z + 1 + i ≡ z + suc i = omega arith in
      round-at k (z + 1) i rest (omega arith) ∙ ap (λ (j : ℕ). at (j % size)) e

  pub laid_none : (z : ℕ) → replicate 64 0 ≡ round at size z 0 ++ replicate (64 - 0) 0
  unfolding round
  laid_none z = refl

  pub laid_next : (z j : ℕ) (l : List ℕ) → j < 64 → l ≡ round at size z j ++ replicate (64 - j) 0
      → set l j (at ((z + j) % size)) ≡ round at size z (j + 1) ++ replicate (64 - (j + 1)) 0
  laid_next z j l few is =
      let v = at ((z + j) % size) in
      let rest : List ℕ = replicate (64 - (j + 1)) 0 in
      let more : 64 - j ≡ suc (64 - (j + 1)) = omega arith in
      let split : l ≡ round at size z j ++ 0 ∷ rest = is ∙ ap (λ (k : ℕ). round at size z j ++ replicate k 0) more in
      ap (λ (y : List ℕ). set y j v) split
      ∙ set_at (round at size z j) 0 rest v j (length-round j z)
      ∙ sym (append_snoc (round at size z j) v rest)
      ∙ ap (λ (y : List ℕ). y ++ rest) (sym (round-next j z))
      ∙ ap (λ (k : ℕ). round at size z k ++ rest) (sym (add-one j))

-- (z + i) % size before and after the ring's last place is passed
near : (x size : ℕ) → x < size → x % size ≡ x
near x size h = mod-eq_of_lt h

far : (x size : ℕ) → size ≤ x → x < size + size → x % size ≡ x - size
far x size l h = mod-eq-sub-mod l ∙ mod-eq_of_lt (omega arith)

-- The places of a row moved round, so that place z is the first.
pub round_turned : (order xs ys : List ℕ) (size z : ℕ) → z < size → length xs ≡ size → length ys ≡ size
    → ((i : ℕ) → i < size → row xs i ≡ row order i) → RotatedLeft xs ys size z → ys ≡ round (row order) size z size
round_turned order xs ys size z hz long same-long same turned =
    let whole = length-round (row order) size size z in
    same_number_lists ys (round (row order) size z size) (same-long ∙ sym whole)
    (λ i l. at-place i (omega arith) ∙ sym (round-at (row order) size size z i [] (omega arith))
    ∙ get_or_append_left (round (row order) size z size) [] 0 i (omega arith))
  where
    at-place : (i : ℕ) → i < size → row ys i ≡ row order ((z + i) % size)
    at-place i l =
        by_cases (dec_lt (i + z) size)
        (λ h.
        let e : i + z ≡ z + i = omega arith in
        turned.0 i 0 h ∙ same (i + z) h ∙ ap (row order) (e ∙ sym (near (z + i) size (omega arith))))
        (λ h.
        let e : i + z - size ≡ z + i - size = omega arith in
        turned.1 i 0 (omega arith) l ∙ same (i + z - size) (omega arith)
        ∙ ap (row order) (e ∙ sym (far (z + i) size (omega arith) (omega arith))))

module _ (z size : ℕ) (hz : z < size) where
  place_in : (i : ℕ) → (z + i) % size < size
  place_in i = mod-lt (z + i) (omega arith)

  places-apart : (i j : ℕ) → i < j → j < size → (z + i) % size ≢ (z + j) % size
  places-apart i j l h e =
      by_cases (dec_lt (z + j) size)
      (λ y. let a = near (z + i) size (omega arith) in let b = near (z + j) size y in omega arith)
      (λ y.
      let b = far (z + j) size (omega arith) (omega arith) in
      by_cases (dec_lt (z + i) size)
      (λ x. let a = near (z + i) size x in omega arith)
      (λ x. let a = far (z + i) size (omega arith) (omega arith) in omega arith))

  -- each place is that of some i
  place_back : (u : ℕ) → u < size → (i : ℕ) × (i < size) × ((z + i) % size ≡ u)
  place_back u h =
      by_cases (dec_lt u z)
      (λ l. (u + size - z, omega arith, (let a = far (z + (u + size - z)) size (omega arith) (omega arith) in omega arith)))
      (λ l. (u - z, omega arith, (let a = near (z + (u - z)) size (omega arith) in omega arith)))

-- A breakdown has a handle: its ring leaves out a position.
handled : {n handles size : ℕ} {E : ℕ → ℕ → Type 0} {at start left right : ℕ → ℕ} → Breakdown n E size handles at start left right
    → 0 < handles
handled {handles = handles} {start = start} b =
    by_cases (ℕ_discrete handles 0)
    (λ e.
    let s = b.stops in
    let q = b.begins in
    let l = b.ring_less in
    let f : start handles ≡ start 0 = ap start e in
    omega arith)
    (λ e. omega arith)

module _ {n handles size z x : ℕ} {E : ℕ → ℕ → Type 0} {at start left right : ℕ → ℕ} (l : List ℕ)
    (b : Breakdown n E size handles at start left right) (hz : z < size) (first : at z ≡ x)
    (laid : (i : ℕ) → i < size → row l i ≡ at ((z + i) % size)) (some : left 0 ≡ x) where
  less : size < n
  less = b.ring_less

  inside : (i : ℕ) → (z + i) % size < size
  inside = place_in z size hz

  apart : (u v : ℕ) → u < n → v < n → u ≢ v → at u ≢ at v
  apart u v hu hv other = by_cases (dec_lt u v) (λ y. b.distinct u v y hv) (λ y e. b.distinct v u (omega arith) hu (sym e))

  -- from each place to the next one, round the ring's last place too
  step : (i : ℕ) → i < size → E (at ((z + i) % size)) (at ((z + (i + 1)) % size))
  step i h =
      by_cases (dec_lt (z + (i + 1)) size)
      (λ l. edge (z + i) (z + (i + 1)) (near (z + i) size (omega arith)) (near (z + (i + 1)) size l) (omega arith) l)
      (λ l. by_cases (ℕ_discrete (z + (i + 1)) size)
      (λ e. round (near (z + i) size (omega arith)) (far (z + (i + 1)) size (omega arith) (omega arith)) e)
      (λ e. edge (z + i - size) (z + (i + 1) - size) (far (z + i) size (omega arith) (omega arith))
      (far (z + (i + 1)) size (omega arith) (omega arith)) (omega arith) (omega arith)))
    where
      edge : (u v : ℕ) → (z + i) % size ≡ u → (z + (i + 1)) % size ≡ v → v ≡ u + 1 → v < size
          → E (at ((z + i) % size)) (at ((z + (i + 1)) % size))
      edge u v p q next l =
          let f : u + 1 ≡ (z + (i + 1)) % size = omega arith in
          subst (λ (k : ℕ). E (at ((z + i) % size)) (at k)) f
          (subst (λ (k : ℕ). E (at k) (at (u + 1))) (sym p) (b.ring_joined u (omega arith)))

      round : (z + i) % size ≡ z + i → (z + (i + 1)) % size ≡ z + (i + 1) - size → z + (i + 1) ≡ size
          → E (at ((z + i) % size)) (at ((z + (i + 1)) % size))
      round p q e =
          let f : size - 1 ≡ (z + i) % size = omega arith in
          let g : 0 ≡ (z + (i + 1)) % size = omega arith in
          subst (λ (k : ℕ). E (at ((z + i) % size)) (at k)) g (subst (λ (k : ℕ). E (at k) (at 0)) f b.ring_closed)

  starts : row l 0 ≡ x
  starts = laid 0 (omega arith) ∙ ap at (near (z + 0) size (omega arith) ∙ (let e : z + 0 ≡ z = omega arith in e)) ∙ first

  from-circle : BaseRing E (record { at = l; positions = n; size = size; beside = at size })
  from-circle =
      let l₁ = less in
      let three = b.ring_three in
      record {
        three = b.ring_three;
        less = b.ring_less;
        below = λ i h.
            let y = inside i in
            subst (λ (p : ℕ). p < n) (sym (laid i h)) (b.below ((z + i) % size) (omega arith));
        distinct = λ i j h k e.
            let u = inside i in
            let v = inside j in
            apart ((z + i) % size) ((z + j) % size) (omega arith) (omega arith) (places-apart z size hz i j h k)
            (sym (laid i (omega arith)) ∙ e ∙ laid j k);
        joined = λ i h.
            subst (λ (p : ℕ). E p (row l (i + 1))) (sym (laid i (omega arith)))
            (subst (λ (p : ℕ). E (at ((z + i) % size)) p) (sym (laid (i + 1) h)) (step i (omega arith)));
        closed =
            let end : at ((z + (size - 1 + 1)) % size) ≡ row l 0 =
            ap at (far (z + (size - 1 + 1)) size (omega arith) (omega arith) ∙ (let e : z + (size - 1 + 1) - size ≡ z = omega arith in e))
            ∙ first ∙ sym starts in
            subst (λ (p : ℕ). E p (row l 0)) (sym (laid (size - 1) (omega arith)))
            (subst (λ (p : ℕ). E (at ((z + (size - 1)) % size)) p) end (step (size - 1) (omega arith)));
        beside =
            subst (λ (p : ℕ). E p (at size)) (some ∙ sym starts)
            (subst (λ (k : ℕ). E (left 0) (at k)) b.begins (b.handle 0 (handled b)).first);
        off = λ i h e.
            let y = inside i in
            b.distinct ((z + i) % size) size y l₁ (sym (laid i h) ∙ e);
      }

  from-same : (p : ℕ) → Among at size p ↔ Among (row l) size p
  from-same p = (
    λ a. let y = place_back z size hz a.place a.before in
        record { place = y.0; before = y.1; is = laid y.0 y.1 ∙ ap at y.2 ∙ a.is },
    λ o. record { place = (z + o.place) % size; before = inside o.place; is = sym (laid o.place o.before) ∙ o.is },
  )

module _ (n : ℕ) {E : ℕ → ℕ → Type 0} (b : Parts) (broken : BreaksDown n E b) where
  -- the left end of the first handle is on the ring
  first_end : Between (row b.order) 0 b.ring (row b.left 0)
  first_end =
      let end = (broken.handle 0 (handled broken)).left in
      let before = end.before in
      let begins = broken.begins in
      record { place = end.place; from = omega arith; before = omega arith; is = end.is }

  z_in : place_of (row b.order) 0 b.ring (row b.left 0) < b.ring
  z_in = let l = first_end.before in place_of_in (row b.order) (row b.left 0) 0 b.ring (omega arith)

  laid : (i : ℕ) → i < b.ring
      → place (circle_of n b) i ≡ row b.order ((place_of (row b.order) 0 b.ring (row b.left 0) + i) % b.ring)
  laid i l =
      round-at (row b.order) b.ring b.ring (place_of (row b.order) 0 b.ring (row b.left 0)) i
      (replicate (64 - b.ring) 0) l

  pub circle-right : BaseRing E (circle_of n b)
  circle-right =
      from-circle (circle_of n b).at broken z_in (place_of_is (row b.order) (row b.left 0) 0 b.ring first_end) laid refl

  pub circle-same : (p : ℕ) → Among (row b.order) b.ring p ↔ On (circle_of n b) p
  circle-same =
      from-same (circle_of n b).at broken z_in (place_of_is (row b.order) (row b.left 0) 0 b.ring first_end) laid refl
