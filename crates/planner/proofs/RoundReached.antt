-- Where racks stand in the same order round a ring, moves lead from the one arrangement to the other.
--
--     carry             a table with a rack moved
--     ready?            some place is ready, or none is
--     listed            a row of numbers from a function
--     drove             racks that can be driven on are, by moves one after another
--     reached           on, and then back: each rack stands at its goal
-- Assumes nothing.
use Prim.Native.Nat.{ℕ, zero, suc, ◌+◌, ◌-◌, ◌*◌, ◌≤◌, ◌<◌}
use mathlib.Core.Path.{◌≡◌, refl, sym, ap, subst, ◌∙◌}
use mathlib.Core.Bool.{cond}
use mathlib.Core.List.{List, [], ◌∷◌, ◌++◌}
use mathlib.Core.Logic.{◌≢◌, ◌⊎◌, inl, inr, ⊎_elim, by_cases}
use native.Mathlib.Decide.{ℕ_discrete, dec_lt}
use native.Mathlib.Omega.{arith}
use borrow.Author.Tests.{eq-eqb, ne_eqb}
use lib.Dec.{eqb}
use lib.ListN.{get_or, set, length, length-set}
use lib.Seq.{get_or-set_same, get_or-set_other}
use Rattle.graph.specs.Walk.{Symmetric}
use Rattle.ring.specs.Circle.{Circle, next}
use Rattle.ring.specs.Order.{Rack, SameOrder}
use Rattle.graph.specs.Rows.{row}
use Rattle.ring.specs.Standing.{OnCircle, StandAt}
use Rattle.ring.proofs.CircleLaws.{circle-next}
use Rattle.moving.specs.OnePlace.{Passed}
use Rattle.moving.specs.Went.{Move, Went}
use Rattle.moving.specs.Went.Went.{stay, real}
use Rattle.moving.proofs.WentLaws.{same_refl, went_append}
use Rattle.circling.specs.Lands.{Lands, mirror, total}
use Rattle.circling.specs.Drive.{Ready, Driveable, Driven}
use Rattle.circling.specs.Needs.{reach}
use Rattle.circling.proofs.LandsLaws.{total-set}
use Rattle.circling.proofs.PaceLaws.{Underway, underway_first, underway_next, underway_last, stuck, drive_on, held_by}
use Rattle.circling.proofs.SolveLaws.{mirror-circle, on_driveable, back_driveable, settled}

abbrev carry : ℕ → ℕ → (ℕ → ℕ) → ℕ → ℕ
carry a b h p = cond (eqb p b) (h a) (cond (eqb p a) 0 (h p))

module _ (a b : ℕ) (h : ℕ → ℕ) (apart : a ≢ b) where
  carry-passed : Passed a b h (carry a b h)
  carry-passed =
      record {
        left = rw (ne_eqb a b apart, eq-eqb a a refl) refl;
        entered = rw (eq-eqb b b refl) refl;
        others = λ p x y. rw (ne_eqb p b y, ne_eqb p a x) refl;
      }

  carry-move : {E : ℕ → ℕ → Type 0} → E a b → h a ≢ 0 → h b ≡ 0 → Move E h a b (carry a b h)
  carry-move e held vacant =
      let p = carry-passed in
      record { edge = e; held = held; vacant = vacant; entered = p.entered; left = p.left; others = p.others }

module _ (n : ℕ) (at d h : ℕ → ℕ) where
  at? : (i : ℕ) → Ready n at d h i ⊎ (Ready n at d h i → ⊥)
  at? i =
      by_cases (dec_lt 0 (d (h (at i))))
      (λ l. by_cases (ℕ_discrete (h (at (next n i))) 0) (λ e. inl (record { needs = l; vacant = e })) (λ f. inr (λ r. f r.vacant)))
      (λ f. inr (λ r. f r.needs))

  ready? : (k : ℕ) → ((i : ℕ) × (i < k) × Ready n at d h i) ⊎ ((i : ℕ) → i < k → Ready n at d h i → ⊥)
  ready? zero = inr (λ i l r. omega arith)
  ready? (suc k) =
      ⊎_elim (λ r. inl (k, omega arith, r))
      (λ f. ⊎_elim (λ m. inl (m.0, (let l = m.1 in omega arith), m.2))
      (λ g. inr (λ i l r. by_cases (ℕ_discrete i k) (λ e. f (subst (Ready n at d h) e r)) (λ e. g i (omega arith) r)))
      (ready? k))
      (at? k)

-- a row of f i, f (i + 1), .., k of them
listed : (ℕ → ℕ) → ℕ → ℕ → List ℕ
listed f i zero = []
listed f i (suc k) = f i ∷ listed f (suc i) k

listed_long : (f : ℕ → ℕ) (i k : ℕ) → length (listed f i k) ≡ k
unfolding listed
listed_long f i zero = refl
listed_long f i (suc k) = let r = listed_long f (suc i) k in omega arith

listed_at : (f : ℕ → ℕ) (i k j : ℕ) → j < k → get_or (listed f i k) j 0 ≡ f (i + j)
unfolding listed
listed_at f i zero j l = absurd (let z : 0 < 0 = omega arith in omega arith)
listed_at f i (suc k) zero l = ap f (omega arith)
listed_at f i (suc k) (suc j) l = listed_at f (suc i) k j (omega arith) ∙ ap f (omega arith)

record Drove (E : ℕ → ℕ → Type 0) (n m : ℕ) (at d₀ h₀ h : ℕ → ℕ) : Type 0 where
  moves : List (ℕ × ℕ)
  written : List (ℕ × ℕ × ℕ)
  end : ℕ → ℕ
  went : Went E m h moves written end
  driven : Driven n at d₀ h₀ end
  on : OnCircle n m at end

module _ {E : ℕ → ℕ → Type 0} {n m : ℕ} {at : ℕ → ℕ} (c : Circle n E at) {d₀ h₀ : ℕ → ℕ} where
  module _ (l : List ℕ) (h : ℕ → ℕ) (long : length l ≡ 64) (can : Driveable n m at (row l) h) (way : Underway n at d₀ h₀ (row l) h) where
    stopped : ((i : ℕ) → i < n → Ready n at (row l) h i → ⊥) → Drove E n m at d₀ h₀ h
    stopped none =
        record {
          moves = [];
          written = [];
          end = h;
          went = stay (same_refl h);
          driven = underway_last n at d₀ h₀ (row l) h way (stuck can none);
          on = can.on;
        }

    module _ (x : ℕ) (lx : x < n) (r : Ready n at (row l) h x) where
      left : List ℕ
      left = set l (h (at x)) (row l (h (at x)) - 1)

      small : h (at x) < length l
      small =
          let k = (can.on.rack x lx (held_by can x r.needs)).most in
          let a = can.less in
          let b = can.few in
          omega arith

      fewer : total left + 1 ≡ total l
      unfolding left
      fewer = let s = total-set l (h (at x)) (row l (h (at x)) - 1) small in let k = r.needs in omega arith

      -- one move, and then the rest
      moved : ((l' : List ℕ) (h' : ℕ → ℕ) → total l' + 1 ≡ total l → length l' ≡ 64 → Driveable n m at (row l') h' → Underway n at d₀ h₀
          (row l') h'
          → Drove E n m at d₀ h₀ h') → Drove E n m at d₀ h₀ h
      unfolding left fewer
      moved go =
          let v = row l (h (at x)) - 1 in
          let needs = r.needs in
          let held = held_by can x r.needs in
          let apart : at x ≢ at (next n x) = λ e. held (ap h e ∙ r.vacant) in
          let passed = carry-passed (at x) (at (next n x)) h apart in
          let less : row left (h (at x)) + 1 ≡ row l (h (at x)) =
          ap (λ (z : ℕ). z + 1) (get_or-set_same l (h (at x)) v 0 small) ∙ (omega arith) in
          let same : (q : ℕ) → q ≢ h (at x) → row left q ≡ row l q = λ q f. get_or-set_other l (h (at x)) q v 0 f in
          let rest = go left (carry (at x) (at (next n x)) h) fewer (length-set l (h (at x)) v ∙ long)
          (drive_on can c x lx r passed less same)
          (underway_next can c x lx r passed less same way) in
          record {
            moves = (at x, at (next n x)) ∷ rest.moves;
            written = (at x, at (next n x), h (at x)) ∷ rest.written;
            end = rest.end;
            went = real (carry-move (at x) (at (next n x)) h apart (circle-next can.three c x lx) held r.vacant)
                refl (can.on.rack x lx held).most rest.went;
            driven = rest.driven;
            on = rest.on;
          }

      some_left : 1 ≤ total l
      some_left = let f = fewer in omega arith

  drove : (fuel : ℕ) (l : List ℕ) (h : ℕ → ℕ) → total l ≤ fuel → length l ≡ 64 → Driveable n m at (row l) h → Underway n at d₀ h₀ (row l) h
      → Drove E n m at d₀ h₀ h
  drove zero l h enough long can way =
      ⊎_elim (λ f. absurd (let s = some_left l h long can way f.0 f.1 f.2 in omega arith)) (stopped l h long can way) (ready? n at
      (row l) h n)
  drove (suc fuel) l h enough long can way =
      ⊎_elim
      (λ f. moved l h long can way f.0 f.1 f.2 (λ l' h' less long' can' way'. drove fuel l' h' (omega arith) long' can' way'))
      (stopped l h long can way) (ready? n at (row l) h n)

pub record Reached (E : ℕ → ℕ → Type 0) (n m : ℕ) (at h goal : ℕ → ℕ) : Type 0 where
  pub moves : List (ℕ × ℕ)
  pub written : List (ℕ × ℕ × ℕ)
  pub end : ℕ → ℕ
  pub went : Went E m h moves written end
  pub there : (i : ℕ) → i < n → end (at i) ≡ goal (at i)

module _ {E : ℕ → ℕ → Type 0} {n m : ℕ} {at h goal p g : ℕ → ℕ} (three : 3 ≤ n) (few : n ≤ 64) (less : m < n) (c : Circle n E at)
    (both : Symmetric E) (on : OnCircle n m at h) (aim : OnCircle n m at goal) (start : StandAt n m at h p) (end : StandAt n m at goal g)
    (same : SameOrder m p g) where
  b : ℕ
  b = p 1 + 2 * n

  t : ℕ
  t = g 1 + 2 * n

  -- what each rack needs, from the numbers of the one side to those of the other; rack 0 is none
  need : ℕ → (ℕ → ℕ) → ℕ → (ℕ → ℕ) → ℕ → ℕ
  need x q y f zero = 0
  need x q y f (suc r) = reach n y f (suc r) - reach n x q (suc r)

  needs : ℕ → (ℕ → ℕ) → ℕ → (ℕ → ℕ) → List ℕ
  needs x q y f = listed (need x q y f) 0 64

  needs_each : (x : ℕ) (q : ℕ → ℕ) (y : ℕ) (f : ℕ → ℕ) (r : ℕ) → Rack m r → row (needs x q y f) r ≡ reach n y f r - reach n x q r
  unfolding needs need
  needs_each x q y f zero k = absurd (let s = k.some in let z : 0 < 0 = omega arith in omega arith)
  needs_each x q y f (suc r) k = listed_at (need x q y f) 0 64 (suc r) (let l = k.most in omega arith) ∙
      (let e : 0 + suc r ≡ suc r = omega arith in ap (need x q y f) e)

  needs_none : (x : ℕ) (q : ℕ → ℕ) (y : ℕ) (f : ℕ → ℕ) → row (needs x q y f) 0 ≡ 0
  unfolding needs need listed
  needs_none x q y f = refl

  needs_long : (x : ℕ) (q : ℕ → ℕ) (y : ℕ) (f : ℕ → ℕ) → length (needs x q y f) ≡ 64
  unfolding needs
  needs_long x q y f = listed_long (need x q y f) 0 64

  module _ (rack : Rack m 1) where
    lb : Lands n b (p 1)
    unfolding b
    lb = record { laps = 2; is = omega arith }

    lt : Lands n t (g 1)
    unfolding t
    lt = record { laps = 2; is = omega arith }

    low : b < 3 * n
    unfolding b
    low = omega (arith, start.places.below 1 rack)

    near : t ≤ b + 3 * n
    unfolding b t
    near = omega (arith, end.places.below 1 rack)

    abbrev forth : List ℕ
    forth = needs b p t g

    abbrev back : List ℕ
    back = needs t g b p

    first_half : Drove E n m at (row forth) h h
    first_half =
        drove c (total forth) forth h (omega arith) (needs_long b p t g)
        (on_driveable three few less on aim start end same lb lt low near (needs_none b p t g) (needs_each b p t g))
        (underway_first n at (row forth) h)

    abbrev other : ℕ → ℕ
    other j = at (mirror n j)

    second_half : Drove E n m other (row back) first_half.end first_half.end
    second_half =
        drove (mirror-circle three c both) (total back) back first_half.end (omega arith) (needs_long t g b p)
        (back_driveable three few less on aim start end same lb lt low near (needs_none b p t g) (needs_each b p t g) first_half.on
        first_half.driven (λ j l. refl) (needs_none t g b p) (needs_each t g b p))
        (underway_first n other (row back) first_half.end)

    reached_some : Reached E n m at h goal
    reached_some =
        record {
          moves = first_half.moves ++ second_half.moves;
          written = first_half.written ++ second_half.written;
          end = second_half.end;
          went = went_append first_half.went second_half.went;
          there = settled three few less on aim start end same lb lt low near (needs_none b p t g) (needs_each b p t g) first_half.on
              first_half.driven (λ j l. refl) (needs_none t g b p) (needs_each t g b p) second_half.on second_half.driven;
        }

  -- without racks there is nothing to move
  reached_none : m ≡ 0 → Reached E n m at h goal
  reached_none none =
      record { moves = []; written = []; end = h; went = stay (same_refl h); there = λ i l. vacant h on i l ∙ sym (vacant goal aim i l) }
    where
      vacant : (f : ℕ → ℕ) → OnCircle n m at f → (i : ℕ) → i < n → f (at i) ≡ 0
      vacant f v i l =
          by_cases (ℕ_discrete (f (at i)) 0) (λ e. e)
          (λ d. absurd (let k = v.rack i l d in let a = k.some in let b = k.most in omega arith))

  pub reached : Reached E n m at h goal
  reached =
      by_cases (ℕ_discrete m 0) reached_none
      (λ d. reached_some (record { some = omega arith; most = omega arith }))
