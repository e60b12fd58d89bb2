-- Laws of the planner's judgement before it measures its buffer.
--
--     disordered               24's test: the floor is a ring, and the racks stand in another order round it
--     ordered_off, ordered_on, disordered_on    what it says
--     on_ordered, on_disordered    and what that tells
--     floor_over               above an accepted order the judgement is 20, 21, 24 and 26
--     owed_on, owed_off        how many vacancies a ring owes, and any other floor
--     plannable, plannable_is  accepted is plannable, and plannable is accepted
--     floor_refusals o          20, 21, 24 and 26
--     told_disordered          24 is answered only of a well-formed order whose order round the ring differs
--     few_never                two racks or fewer never meet 24
--     told_sides               26 is answered only of a well-formed order whose floor has a position of five edges or more
--     on_ring_plannable         a ring passes 26
--     on_ring_rows              a ring, by its rows, is one
--     off_ring_rows             another floor, by its rows, is bi-connected and no ring: what crates/breakdown asks of a floor
--     off_ring_size             it has four positions at least, and more edges than positions
-- Assumes nothing.
use Prim.Native.Nat.{ℕ, zero, suc, ◌+◌, ◌≤◌, ◌<◌}
use mathlib.Core.Path.{◌≡◌, refl, sym, ap, subst, ◌∙◌}
use mathlib.Core.Bool.{Bool, true, false, not, cond, ◌&&◌, false≢true}
use mathlib.Core.List.{List, []}
use mathlib.Core.Logic.{◌≢◌, inl, inr, ⊎_elim, by_cases}
use native.Mathlib.Decide.{ℕ_discrete}
use native.Mathlib.Omega.{arith}
use borrow.Author.Tests.{le-ltb, ltb-false, not-false}
use lib.ListN.{length, get_or}
use lib.Dec.{ltb, lit<}
use Rattle.answers.specs.Answer.{Answer, accepted, refused, refuse, holds}
use Rattle.answers.proofs.AnswerLaws.{not_both, holds-yes, holds_no, holds-true, refuse_not, refuse_else, refuse-past}
use Rattle.answers.proofs.AnswerLaws.{pass_up-low, pass_up-high, pass_up-past, pass_up_accepted}
use Rattle.order.specs.Floor.{Floor}
use Rattle.order.specs.Order.{position_count, rack_count, floor_of, starts_of, goals_of, counts, order_answer, WellFormed}
use Rattle.order.proofs.OrderLaws.{well_formed, order_past}
use Rattle.motion.specs.Arrangement.{Arrangement}
use Rattle.tables.proofs.AcceptedLaws.{well_placed}
use Rattle.sets.specs.Sum.{sum_below}
use Rattle.sets.proofs.SetLaws.{bit_two}
use Rattle.graph.specs.Connected.{BiConnected, Ring}
use Rattle.graph.specs.Rows.{Edge}
use Rattle.graph.specs.EdgeCount.{row_sum, edge_count}
use Rattle.graph.proofs.EdgeCountLaws.{bi_connected_edges}
use Rattle.floor.specs.FloorAnswer.{Joins, bi_connected?, ring?, SameRound, same_round?, vacancies_owed}
use Rattle.floor.specs.FloorAnswer.{floor_answer}
use Rattle.ring.proofs.OrderLaws.{few_ordered}
use Rattle.order.specs.Tables.{rows_of}
use Rattle.floor.proofs.FloorRows.{floor_rows, bi_connected_rows}
use Rattle.floor.proofs.EdgesCounted.{edges_counted, ring-rows}
use Rattle.floor.specs.Sides.{FourSided, four_sided?}
use Rattle.floor.proofs.SidesLaws.{sides_same, ring_sides}
use Rattle.floor.specs.Plannable.{OffRing, OnRing, Plannable}

-- 24's test
module _ (F : Floor) (m : ℕ) (A B : Arrangement) where
  abbrev pub disordered : Bool
  disordered = holds (ring? F) && not (holds (same_round? F m A B))

  pub ordered_off : (Ring F.positions (Joins F) (length F.edges) → ⊥) → disordered ≡ false
  ordered_off f = rw (holds_no (ring? F) f) refl

  module _ (r : Ring F.positions (Joins F) (length F.edges)) where
    pub ordered_on : SameRound F m A B → disordered ≡ false
    ordered_on s = rw (holds-yes (ring? F) r, holds-yes (same_round? F m A B) s) refl

    pub disordered_on : (SameRound F m A B → ⊥) → disordered ≡ true
    disordered_on f = rw (holds-yes (ring? F) r, holds_no (same_round? F m A B) f) refl

  pub on_ordered : disordered ≡ false → Ring F.positions (Joins F) (length F.edges) → SameRound F m A B
  on_ordered e r = by_cases (same_round? F m A B) (λ s. s) (λ f. absurd (false≢true (sym e ∙ disordered_on r f)))

  pub on_disordered : disordered ≡ true → Ring F.positions (Joins F) (length F.edges) × (SameRound F m A B → ⊥)
  on_disordered e = (
    by_cases (ring? F) (λ r. r) (λ f. absurd (false≢true (sym (ordered_off f) ∙ e))),
    λ s. by_cases (ring? F) (λ r. false≢true (sym (ordered_on r s) ∙ e)) (λ f. false≢true (sym (ordered_off f) ∙ e)),
  )

-- 20, 21, 24 and 26
abbrev pub floor_refusals : List ℕ → Answer
floor_refusals o =
    refuse (ltb (position_count o) (rack_count o + vacancies_owed (floor_of o))) 20 0
    (refuse (not (holds (bi_connected? (floor_of o)))) 21 0
    (refuse (disordered (floor_of o) (rack_count o) (starts_of o) (goals_of o)) 24 0
    (refuse (not (holds (four_sided? (floor_of o)))) 26 0
    (accepted []))))

pub floor_over : (o v : List ℕ) → order_answer o ≡ accepted v → floor_answer o ≡ floor_refusals o
unfolding floor_answer
floor_over o v a = pass_up_accepted (order_answer o) (floor_refusals o) v a

module _ (F : Floor) where
  pub owed_on : Ring F.positions (Joins F) (length F.edges) → vacancies_owed F ≡ 1
  owed_on r = ap (λ (b : Bool). cond b 1 2) (holds-yes (ring? F) r)

  pub owed_off : (Ring F.positions (Joins F) (length F.edges) → ⊥) → vacancies_owed F ≡ 2
  owed_off f = ap (λ (b : Bool). cond b 1 2) (holds_no (ring? F) f)

pub plannable : (o v : List ℕ) → floor_answer o ≡ accepted v → Plannable o
unfolding floor_answer
plannable o v e =
    let F = floor_of o in
    let crowded = ltb (position_count o) (rack_count o + vacancies_owed F) in
    let out_of_order = disordered F (rack_count o) (starts_of o) (goals_of o) in
    let sided = four_sided? F in
    let a₃ = refuse (not (holds sided)) 26 0 (accepted []) in
    let a₂ = refuse out_of_order 24 0 a₃ in
    let a₁ = refuse (not (holds (bi_connected? F))) 21 0 a₂ in
    let low = pass_up-low (order_answer o) (floor_refusals o) v e in
    let e₀ : floor_refusals o ≡ accepted v = pass_up-high (order_answer o) (floor_refusals o) v e in
    let e₁ : a₁ ≡ accepted v = refuse_else crowded 20 0 a₁ v e₀ in
    let e₂ : a₂ ≡ accepted v = refuse_else (not (holds (bi_connected? F))) 21 0 a₂ v e₁ in
    let e₃ : a₃ ≡ accepted v = refuse_else out_of_order 24 0 a₃ v e₂ in
    let room = ltb-false (position_count o) (rack_count o + vacancies_owed F) (refuse_not crowded 20 0 a₁ v e₀) in
    let ordered = refuse_not out_of_order 24 0 a₃ v e₂ in
    let four = holds-true sided (not-false (holds sided) (refuse_not (not (holds sided)) 26 0 (accepted []) v e₃)) in
    let form = well_formed o low.0 low.1 in
    let w = well_placed o form in
    record {
      right = form;
      bi_connected = holds-true (bi_connected? F) (not-false (holds (bi_connected? F)) (refuse_not (not (holds
          (bi_connected? F))) 21 0 a₂ v e₁));
      sides = λ p l. subst (λ (k : ℕ). k ≤ 4) (sides_same F w.edges_below w.few_positions w.edges_right p) (four p l);
      kind = by_cases (ring? F)
          (λ r. inr (record {
            ring = r;
            vacancy = subst (λ (k : ℕ). rack_count o + k ≤ position_count o) (owed_on F r) room;
            order = on_ordered F (rack_count o) (starts_of o) (goals_of o) ordered r;
          }))
          (λ f. inl (record { no_ring = f; vacancies = subst (λ (k : ℕ). rack_count o + k ≤ position_count o) (owed_off F f) room }));
    }

pub plannable_is : (o : List ℕ) → Plannable o → floor_answer o ≡ accepted []
plannable_is o p =
    let F = floor_of o in
    let w = well_placed o p.right in
    let four : FourSided F = λ q l.
    subst (λ (k : ℕ). k ≤ 4) (sym (sides_same F w.edges_below w.few_positions w.edges_right q)) (p.sides q l) in
    floor_over o (counts o) p.right
    ∙ ⊎_elim
    (λ k. rw (
      le-ltb (position_count o) (rack_count o + vacancies_owed F)
          (subst (λ (x : ℕ). rack_count o + x ≤ position_count o) (sym (owed_off F k.no_ring)) k.vacancies),
      holds-yes (bi_connected? F) p.bi_connected,
      ordered_off F (rack_count o) (starts_of o) (goals_of o) k.no_ring,
      holds-yes (four_sided? F) four,
    ) refl)
    (λ k. rw (
      le-ltb (position_count o) (rack_count o + vacancies_owed F)
          (subst (λ (x : ℕ). rack_count o + x ≤ position_count o) (sym (owed_on F k.ring)) k.vacancy),
      holds-yes (bi_connected? F) p.bi_connected,
      ordered_on F (rack_count o) (starts_of o) (goals_of o) k.ring k.order,
      holds-yes (four_sided? F) four,
    ) refl)
    p.kind

pub told_disordered : (o : List ℕ) → floor_answer o ≡ refused 24 0
    → WellFormed o × Ring (floor_of o).positions (Joins (floor_of o)) (length (floor_of o).edges)
    × (SameRound (floor_of o) (rack_count o) (starts_of o) (goals_of o) → ⊥)
unfolding floor_answer
told_disordered o e =
    let F = floor_of o in
    let below = pass_up-past (order_answer o) (floor_refusals o) 24 0 (order_past o 24 0 (lit< tt)) e in
    let t₀ = refuse-past (ltb (position_count o) (rack_count o + vacancies_owed F)) 20 0 _ 24 0 (λ z. omega arith) below.1 in
    let t₁ = refuse-past (not (holds (bi_connected? F))) 21 0 _ 24 0 (λ z. omega arith) t₀.1 in
    let out_of_order = disordered F (rack_count o) (starts_of o) (goals_of o) in
    let is = on_disordered F (rack_count o) (starts_of o) (goals_of o) (told out_of_order (not (holds (four_sided? F))) t₁.1) in
    (well_formed o below.0.0 below.0.1, is.0, is.1)
  where
    told : (d t : Bool) → refuse d 24 0 (refuse t 26 0 (accepted [])) ≡ refused 24 0 → d ≡ true
    told true t e = refl
    told false t e = absurd (not_both 24 0 [] (sym (refuse-past t 26 0 (accepted []) 24 0 (λ z. omega arith) e).1))

pub few_never : (o : List ℕ) → rack_count o ≤ 2 → floor_answer o ≢ refused 24 0
few_never o l e = (told_disordered o e).2 (few_ordered (rack_count o) _ _ l)

pub told_sides : (o : List ℕ) → floor_answer o ≡ refused 26 0 → WellFormed o × (FourSided (floor_of o) → ⊥)
unfolding floor_answer
told_sides o e =
    let F = floor_of o in
    let below = pass_up-past (order_answer o) (floor_refusals o) 26 0 (order_past o 26 0 (lit< tt)) e in
    let t₀ = refuse-past (ltb (position_count o) (rack_count o + vacancies_owed F)) 20 0 _ 26 0 (λ z. omega arith) below.1 in
    let t₁ = refuse-past (not (holds (bi_connected? F))) 21 0 _ 26 0 (λ z. omega arith) t₀.1 in
    let t₂ = refuse-past (disordered F (rack_count o) (starts_of o) (goals_of o)) 24 0 _ 26 0 (λ z. omega arith) t₁.1 in
    (well_formed o below.0.0 below.0.1, told (four_sided? F) t₂.1)
  where
    told : {A : Type 0} (d : Dec A) → refuse (not (holds d)) 26 0 (accepted []) ≡ refused 26 0 → A → ⊥
    told (yes a) e b = not_both 26 0 [] (sym e)
    told (no f) e b = f b

pub on_ring_plannable : (o : List ℕ) → WellFormed o → OnRing o → Plannable o
on_ring_plannable o right k =
    let w = well_placed o right in
    let F = floor_of o in
    record {
      right = right;
      bi_connected = k.ring.bi_connected;
      sides = λ p l.
          subst (λ (x : ℕ). x ≤ 4) (sides_same F w.edges_below w.few_positions w.edges_right p)
          (ring_sides F w.edges_below w.few_positions w.edges_right k.ring p l);
      kind = inr k;
    }

-- no more positions below k are joined to a than there are
row_most : (g : List ℕ) (a k : ℕ) → row_sum g a k ≤ k
unfolding sum_below
row_most g a zero = omega arith
row_most g a (suc k) =
    let r = row_most g a k in
    let b = bit_two (get_or g a 0) k in
    omega arith

count_three : (g : List ℕ) → edge_count g 3 ≤ 3
unfolding edge_count
count_three g =
    let r₀ = row_most g 0 0 in
    let r₁ = row_most g 1 1 in
    let r₂ = row_most g 2 2 in
    omega arith

four : (n : ℕ) (g : List ℕ) → 3 ≤ n → n < edge_count g n → 4 ≤ n
four n g l h =
    by_cases (ℕ_discrete n 3)
    (λ e.
    let t = count_three g in
    let s : edge_count g n ≡ edge_count g 3 = ap (edge_count g) e in
    omega arith)
    (λ d. omega arith)

pub on_ring_rows : (o : List ℕ) → WellFormed o → OnRing o
    → Ring (floor_of o).positions (Edge (rows_of (floor_of o))) (edge_count (rows_of (floor_of o)) (floor_of o).positions)
on_ring_rows o right k =
    let w = well_placed o right in
    (ring-rows (floor_of o) w.edges_below w.edges_right).1 k.ring

module _ (o : List ℕ) (p : Plannable o) (k : OffRing o) where
  pub off_ring_rows :
      BiConnected (floor_of o).positions (Edge (rows_of (floor_of o)))
      × (Ring (floor_of o).positions (Edge (rows_of (floor_of o))) (edge_count (rows_of (floor_of o)) (floor_of o).positions) → ⊥)
  off_ring_rows =
      let w = well_placed o p.right in (
        (bi_connected_rows (floor_of o) w.edges_below).1 p.bi_connected,
        λ r. k.no_ring ((ring-rows (floor_of o) w.edges_below w.edges_right).0 r),
      )

  pub off_ring_size : (4 ≤ (floor_of o).positions) × ((floor_of o).positions < length (floor_of o).edges)
  off_ring_size =
      let w = well_placed o p.right in
      let rows = floor_rows (floor_of o) w.edges_below w.few_positions w.edges_right in
      let counted = edges_counted (floor_of o) w.edges_below w.edges_right in
      let least = bi_connected_edges rows off_ring_rows.0 in
      let other : length (floor_of o).edges ≢ (floor_of o).positions = λ e. k.no_ring
      (record { bi_connected = p.bi_connected; count = e }) in
      let more : (floor_of o).positions < edge_count (rows_of (floor_of o)) (floor_of o).positions = omega arith in
      (four (floor_of o).positions (rows_of (floor_of o)) p.bi_connected.three more, omega arith)
