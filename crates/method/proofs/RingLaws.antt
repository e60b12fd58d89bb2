-- From driving the racks of a ring to the moves of its plan.
--
--     filled_self         a table without stand-ins is filled
--     went_outside        moves leave positions off the floor as they were
--     same-round          tables that agree round the circle, and hold nothing off the floor, agree
--     round_room          the buffer has room for the moves
--     round_few           they are few enough
-- Assumes nothing.
use Prim.Native.Nat.{ℕ, ◌*◌, ◌≤◌, ◌<◌}
use mathlib.Core.Path.{◌≡◌, refl, sym, ap, ◌∙◌}
use mathlib.Core.List.{List}
use mathlib.Core.Logic.{◌≢◌, inl, by_cases}
use native.Mathlib.Decide.{ℕ_discrete, dec_lt}
use native.Mathlib.Nat.{mul-le-mul_right, one-mul}
use native.Mathlib.Omega.{arith}
use lib.ListN.{length}
use Rattle.graph.specs.Rows.{row, Edge, Rows}
use Rattle.ring.specs.Circle.{Circle}
use Rattle.ring.proofs.CircleLaws.{circle-every}
use Rattle.moving.specs.declared.State.{State}
use Rattle.moving.specs.Went.{Same, Went}
use Rattle.moving.specs.Went.Went.{stay, real, stand_in}
use Rattle.moving.specs.Journey.{Space, Trip}
use Rattle.circling.specs.Needs.{round_moves}
use Rattle.solving.specs.Placed.{Placed, Filled}

pub filled_self : (m : ℕ) (h : ℕ → ℕ) → Filled m h h
filled_self m h = record { kept = λ p held. refl; added = λ p none. inl none }

module _ {E : ℕ → ℕ → Type 0} (n p : ℕ) (inside : (a b : ℕ) → E a b → (a < n) × (b < n)) (off : n ≤ p) where
  apart : {a b : ℕ} → E a b → (p ≢ a) × (p ≢ b)
  apart {a} {b} e = let l = inside a b e in (λ s. omega (arith, l.0), λ s. omega (arith, l.1))

  pub went_outside : {m : ℕ} {h k : ℕ → ℕ} {ms : List (ℕ × ℕ)} {ws : List (ℕ × ℕ × ℕ)} → Went E m h ms ws k → k p ≡ h p
  went_outside (stay s) = sym (s p)
  went_outside (real x e l w) = went_outside w ∙ x.others p (apart x.edge).0 (apart x.edge).1
  went_outside (stand_in x l w) = went_outside w ∙ x.others p (apart x.edge).0 (apart x.edge).1

module _ {n m : ℕ} {g : List ℕ} {at : ℕ → ℕ} (rows : Rows n g) (three : 3 ≤ n) (c : Circle n (Edge g) at) where
  pub same-round : {d : ℕ} {s s' : State} {t t' : List ℕ} (goal : ℕ → ℕ) → Placed n m (row s.racks) → Placed n m goal
      → Trip g d s t s' t' → ((i : ℕ) → i < n → row s'.racks (at i) ≡ goal (at i)) → Same (row s'.racks) goal
  same-round {s = s} {s' = s'} goal from to trip agree p =
      by_cases (dec_lt p n)
      (λ l. let o = circle-every three c p l in ap (row s'.racks) (sym o.2) ∙ agree o.0 o.1 ∙ ap goal o.2)
      (λ f. went_outside n p rows.inside (omega arith) trip.went ∙ none (row s.racks) from f ∙ sym (none goal to f))
    where
      none : (h : ℕ → ℕ) → Placed n m h → (p < n → ⊥) → h p ≡ 0
      none h v f = by_cases (ℕ_discrete (h p) 0) (λ e. e) (λ d. absurd (f (v.inside p d)))

module _ (n : ℕ) (three : 3 ≤ n) where
  square : n * n ≤ n * (n * n)
  square = let s : 1 * (n * n) ≤ n * (n * n) = mul-le-mul_right (n * n) (let l : 1 ≤ n = omega arith in l) in let o = one-mul
      (n * n) in omega arith

  pub round_few : round_moves n ≤ 8 * (n * (n * n))
  round_few = omega (arith, square)

  pub round_room : (s : State) (t : List ℕ) → length s.racks ≡ 64 → s.real ≤ 64 → s.written ≡ 0 → 18 * (n * (n * n)) ≤ length t
      → Space s t (round_moves n)
  round_room s t long few none room = let q = square in record { racks = long; few_racks = few; room = omega arith }
