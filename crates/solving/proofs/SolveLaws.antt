-- Laws of the whole way from one arrangement to another.
--
--     bound                    the moves of all the parts together
--     ring-apart               places 0 and 1 of the base ring are two positions
--     goal_filled              with the goal shifted, every position off the base ring has a rack
--     off_ring                 with the handles settled, everything off the ring is settled
--     RingMet, ring_met, ring_space, ring_trip    what settling the ring asks for and yields, of the ring as it was laid out
--     shifted_open             the shifted goal has the ring's first two places vacant
--     undoing                  the shift, taken back from the shifted goal
--     room_shift, space_settle, space_back, trip_all    room for the parts, and the parts together
-- Assumes nothing.
use Prim.Native.Nat.{ℕ, ◌+◌, ◌-◌, ◌*◌, ◌≤◌, ◌<◌}
use mathlib.Core.Path.{◌≡◌, sym, ap, subst, ◌∙◌}
use mathlib.Core.List.{List, []}
use mathlib.Core.Logic.{by_cases}
use native.Mathlib.Decide.{ℕ_discrete, dec_lt}
use native.Mathlib.Nat.{add-mul, mul_left_comm, mul-le-mul, mul-le-mul_left, mul-le-mul_right, le_trans}
use native.Mathlib.Omega.{arith}
use lib.ListN.{length}
use Rattle.graph.specs.Walk.{Symmetric}
use Rattle.graph.specs.Rows.{row, Edge, Rows}
use Rattle.breakdown.specs.Answer.{BreaksDown}
use Rattle.breakdown.specs.declared.Breakdown.{Breakdown}
use Rattle.moving.specs.declared.State.{State}
use Rattle.moving.specs.Went.{Same}
use Rattle.moving.specs.Went.Back.{done}
use Rattle.moving.proofs.WentLaws.{same_refl}
use Rattle.turning.proofs.BackLaws.{back_went, back_from}
use Rattle.turning.specs.Undone.{Undoing}
use Rattle.moving.specs.Journey.{onto, Room, Space, Trip}
use Rattle.moving.proofs.JourneyLaws.{trip_append, trip_more, trip_written, real_named}
use Rattle.moving.specs.Table.{Table}
use Rattle.base_ring.specs.declared.Circle.{Circle}
use Rattle.base_ring.specs.Circle.{place, On, BaseRing, Open, RestSettled}
use Rattle.base_ring.specs.From.{circle_of}
use Rattle.base_ring.specs.Moves.{ring_moves}
use Rattle.base_ring.proofs.RingLaws.{held_open}
use Rattle.base_ring.proofs.ExchangeLaws.{exchange_most}
use Rattle.base_ring.proofs.FromLaws.{circle-right, circle-same}
use Rattle.lane.specs.Lane.{Agreed, Filled}
use Rattle.lane.proofs.FetchLaws.{place_most}
use Rattle.solving.specs.Moves.{shift_moves, settle_moves, solve_moves}
use Rattle.solving.specs.Shift.{aimed, TwoPositions, Shift}

-- a rack of a handle takes at most 3 × n × n moves, a place of the ring at most 4 × n × n
pub bound : (n r : ℕ) → 3 ≤ r → r < n → settle_moves n r + shift_moves n ≤ solve_moves n
bound n r three less =
    let q = n * n in
    let within : r ≤ n = omega arith in
    let handles = mul-le-mul_left (n - r) (place_most n (omega arith)) in
    let square : r * r ≤ q = mul-le-mul within within in
    let ring = mul-le-mul_left (r - 2) (le_trans (exchange_most r three) (let l : 4 * (r * r) ≤ 4 * q = omega arith in l)) in
    let back : n - r + r ≡ n = omega arith in
    let two : r - 2 + 2 ≡ r = omega arith in
    let all : n * (3 * q) ≡ (n - r) * (3 * q) + r * (3 * q) = ap (λ (x : ℕ). x * (3 * q)) (sym back) ∙ add-mul (n - r) r (3 * q) in
    let rest : r * (4 * q) ≡ (r - 2) * (4 * q) + 2 * (4 * q) = ap (λ (x : ℕ). x * (4 * q)) (sym two) ∙ add-mul (r - 2) 2 (4 * q) in
    let three_n = mul_left_comm n 3 q in
    let three_r = mul_left_comm r 3 q in
    let four_r = mul_left_comm r 4 q in
    let cube : r * q ≤ n * q = mul-le-mul_right q within in
    let long : 4 * n ≤ q = mul-le-mul_right n (omega arith) in
    omega arith

-- The ring as it is laid out from the first handle's left end on.
module _ {n : ℕ} {E : ℕ → ℕ → Type 0} (b : Breakdown) (broken : BreaksDown n E b) where
  right : BaseRing E (circle_of n b)
  right = circle-right n b broken

  pub ring-apart : TwoPositions n (place (circle_of n b) 0) (place (circle_of n b) 1)
  ring-apart =
      let three = broken.ring_three in
      record {
        first = right.below 0 (omega arith);
        second = right.below 1 (omega arith);
        differ = right.distinct 0 1 (omega arith) (omega arith);
      }

  pub goal_filled : {k : ℕ → ℕ} → Open (circle_of n b) k → Filled (row b.order) k b.ring n
  goal_filled o j le l =
      held_open right o (row b.order j) (broken.below j l) (λ on.
      let a = (circle-same n b broken (row b.order j)).1 on in
      let h = a.before in
      broken.distinct a.place j (omega arith) l a.is)

  pub off_ring : {h k : ℕ → ℕ} → Table n h → Table n k → Agreed (row b.order) k h b.ring n
      → (p : ℕ) → (On (circle_of n b) p → ⊥) → h p ≡ k p
  off_ring {h} {k} th tk settled p not =
      by_cases (dec_lt p n)
      (λ l.
      let a = broken.every p l in
      let in_row = a.before in
      by_cases (dec_lt a.place b.ring)
      (λ i. absurd (not ((circle-same n b broken p).0 (record { place = a.place; before = i; is = a.is }))))
      (λ i. ap h (sym a.is) ∙ settled a.place (omega arith) a.before ∙ ap k a.is))
      (λ l. outside h th l ∙ sym (outside k tk l))
    where
      outside : (f : ℕ → ℕ) → Table n f → (p < n → ⊥) → f p ≡ 0
      outside f t l = by_cases (ℕ_discrete (f p) 0) (λ e. e) (λ e. absurd (l (t.inside p e)))

-- What settling the ring asks for.
pub record RingMet (g : List ℕ) (c : Circle) (T h : ℕ → ℕ) : Type 0 where
  pub rows : Rows c.positions g
  pub ring : BaseRing (Edge g) c
  pub rest : RestSettled c T h

pub ring_met : {n : ℕ} {g : List ℕ} (b : Breakdown) {c : Circle} {T h : ℕ → ℕ} → c ≡ circle_of n b → Rows n g → BreaksDown n (Edge g) b
    → Open c T → Table n h → Agreed (row b.order) T h b.ring n → RingMet g c T h
ring_met {n} {g} b {T = T} {h = h} is rows broken goal table agreed =
    let laid = subst (λ (x : Circle). Open x T) is goal in
    subst (λ (x : Circle). RingMet g x T h) (sym is)
    (record {
      rows = rows;
      ring = circle-right n b broken;
      rest = record { table = table; goal = laid; outside = off_ring b broken table laid.table agreed };
    })

module _ {n : ℕ} (b : Breakdown) {c : Circle} (is : c ≡ circle_of n b) where
  moves : ring_moves c.size ≡ ring_moves b.ring
  moves = ap (λ (x : Circle). ring_moves x.size) is

  pub ring_space : {s : State} {t : List ℕ} → Space s t (ring_moves b.ring) → Space s t (ring_moves c.size)
  ring_space {s} {t} = subst (Space s t) (sym moves)

  pub ring_trip : {g : List ℕ} {s s' : State} {t t' : List ℕ} → Trip g (ring_moves c.size) s t s' t'
      → Trip g (ring_moves b.ring) s t s' t'
  ring_trip {g} {s} {s'} {t} {t'} = subst (λ (k : ℕ). Trip g k s t s' t') moves

pub shifted_open : {n : ℕ} {g : List ℕ} {t l : List ℕ} {s : State} {c : Circle} (b : Breakdown) → c ≡ circle_of n b
    → Shift n g (place c 0) (place c 1) t s l → Open c (row s.racks)
shifted_open {n} {s = s} {c = c} b is shift =
    let positions : n ≡ c.positions = ap (λ (x : Circle). x.positions) (sym is) in
    record { table = subst (λ (m : ℕ). Table m (row s.racks)) positions shift.table; zero = shift.first; one = shift.second }

pub undoing : {n : ℕ} {g : List ℕ} {x y : ℕ} {t l : List ℕ} {s : State} (h : List ℕ) → Symmetric (Edge g) → (shift : Shift n g x y t s l)
    → Same (row h) (row s.racks) → Undoing g h l 0 s.logged (onto shift.moves []) (row t)
undoing {t = t} h symmetric shift same =
    record { trail = shift.trail; back = back_from same (back_went symmetric shift.went (done (same_refl (row t)))) }

-- Room for the shift, which writes nothing, for what settles, and for taking the shift back.
module _ {n r : ℕ} (three : 3 ≤ r) (less : r < n) {s : State} {t : List ℕ} (space : Space s t (solve_moves n)) where
  pub room_shift : (k l : List ℕ) → length k ≡ 64 → length l ≡ 8256 → Room (aimed k) l t (shift_moves n)
  room_shift k l racks log =
      let all = bound n r three less in
      let room = space.room in
      record { racks = racks; log = log; few_racks = omega arith; room = omega arith }

  pub space_settle : {t' : List ℕ} → t' ≡ t → Space s t' (settle_moves n r)
  space_settle {t'} same =
      let all = bound n r three less in
      let room = space.room in
      let long : length t' ≡ length t = ap length same in
      record { racks = space.racks; few_racks = space.few_racks; room = omega arith }

  module _ {g : List ℕ} {t₁ : List ℕ} (same : t₁ ≡ t) {s₂ : State} {t₂ : List ℕ} (trip : Trip g (settle_moves n r) s t₁ s₂ t₂) (j : ℕ)
      (few : j ≤ shift_moves n) where
    pub space_back : Space s₂ t₂ (j - 0)
    space_back =
        let all = bound n r three less in
        let room = space.room in
        let long : length t₁ ≡ length t = ap length same in
        let tail = trip.tail in
        let written = trip_written trip in
        record { racks = trip.racks ∙ space.racks; few_racks = real_named trip space.few_racks; room = omega arith }

    pub trip_all : {s₃ : State} {t₃ : List ℕ} → Trip g (j - 0) s₂ t₂ s₃ t₃ → Trip g (solve_moves n) s t s₃ t₃
    trip_all {s₃} {t₃} back =
        let all = bound n r three less in
        subst (λ (x : List ℕ). Trip g (solve_moves n) s x s₃ t₃) same (trip_more (solve_moves n) (omega arith) (trip_append trip back))
