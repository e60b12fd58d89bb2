-- Laws of the state while racks are stacked into a handle, and of one rack put into it.
--
--     rack_some, rack_there, rack_held    the next rack is one, and stands on the floor
--     rack_other               no other place has it in the goal
--     placing_turned           the cycle turned by one: one rack more is stacked
--     stage_robust, stage_vacancy    the stage as a set stays whole, and has the vacancy
--     place-from               once fetched the rack stands in the stage
--     place_below, place_brought    it is brought to u
--     stage_few, rest_few      the stage has at most n - 1 positions, and without u at most n - 2
--     place_below_rest, place_cleared, place_held, place-reaches    v is cleared with u held
--     cycle_simple, cycle-round, cycle-vacancy    the cycle is one of different positions, has its edges, and v on it is vacant
-- Assumes nothing.
use Prim.Native.Nat.{ℕ, suc, ◌+◌, ◌-◌, ◌≤◌, ◌<◌}
use mathlib.Core.Path.{◌≡◌, refl, sym, ap, subst, ◌∙◌}
use mathlib.Core.List.{List}
use mathlib.Core.Logic.{◌↔◌, ◌≢◌, by_cases, inl}
use native.Mathlib.Decide.{ℕ_discrete, dec_lt}
use native.Mathlib.Omega.{arith}
use Rattle.sets.specs.Sets.{Has}
use Rattle.graph.specs.Connected.{Robust}
use Rattle.graph.proofs.ConnectedLaws.{whole_same}
use Rattle.graph.proofs.WalkLaws.{walk_inside}
use Rattle.graph.specs.Rows.{Edge, Rows}
use Rattle.breakdown.specs.Breakdown.{Among}
use Rattle.breakdown.specs.Part.{Part}
use Rattle.moving.specs.OnePlace.{Simple}
use Rattle.turning.specs.Turned.{Round, Turnable, Turned}
use Rattle.shunting.specs.Distance.{Reaches, AtMost}
use Rattle.shunting.proofs.DistanceLaws.{at_most_less, at_most_more, at_most_without, reaches_back}
use Rattle.shunting.specs.Cleared.{Vacancy, Cleared, Brought}
use Rattle.moving.specs.Table.{Table, Stands}
use Rattle.moving.proofs.TableLaws.{table_rack}
use Rattle.lane.specs.Lane.{HandleOn, Closed, Placing, Fetched}
use Rattle.lane.proofs.CycleLaws.{lane_stage, lane_new, stage_below, stage_in, stage_out}
use Rattle.lane.proofs.StageLaws.{apart, among_few, placing_kept}

-- the position that has the rack is not vacant
pub rack_held : {r x : ℕ} → r ≢ 0 → x ≡ r → x ≢ 0
rack_held some is zero = some (sym is ∙ zero)

module _ {n : ℕ} {g : List ℕ} {at : ℕ → ℕ} {s e u v : ℕ} (rows : Rows n g) (lane : HandleOn n (Edge g) at s e u v) where
  module _ {T : ℕ → ℕ} {k : ℕ} {h : ℕ → ℕ} (placing : Placing n at T s e k h) where
    module _ (more : k < e - s) where
      pub rack_some : T (at (e - k - 1)) ≢ 0
      rack_some = let within = lane.within in placing.filled (e - k - 1) (omega arith) (omega arith)

      pub rack_there : {r : ℕ} → r ≡ T (at (e - k - 1)) → Stands n r h
      rack_there {r} is =
          let most = placing.goal.most (at (e - k - 1)) in
          table_rack placing.table r (by_cases (ℕ_discrete r 0) (λ z. absurd (rack_some (sym is ∙ z))) (λ z. omega arith)) (omega arith)

      -- no other place of the handle or behind it has that rack in the goal
      pub rack_other : (i : ℕ) → i < n → i ≢ e - k - 1 → T (at i) ≢ T (at (e - k - 1))
      rack_other i l other same =
          let within = lane.within in
          apart lane (e - k - 1) i (omega arith) l (λ z. other (sym z))
          (placing.goal.one (at (e - k - 1)) (at i) rack_some (sym same))

      pub placing_turned : {cycle h' : ℕ → ℕ} {size : ℕ} → Closed n (Edge g) at s e u v cycle size → h u ≡ T (at (e - k - 1))
          → Turned cycle size h h' → Table n h'
          → Placing n at T s e (k + 1) h'
      placing_turned {cycle} {h'} {size} cl there turned table =
          let within = lane.within in
          let inner = lane.handle.inner in
          record {
            table = table;
            goal = placing.goal;
            filled = placing.filled;
            few = omega arith;
            stacked = λ j l.
                by_cases (ℕ_discrete j 0)
                (λ z.
                let here : s + j ≡ s + 0 = omega arith in
                let rack : e - k - 1 ≡ e - (k + 1) + j = omega arith in
                ap (λ (i : ℕ). h' (at i)) here ∙ ap h' (sym (cl.inner 0 (omega arith))) ∙ turned.closed
                ∙ ap h cl.ends ∙ there ∙ ap (λ (i : ℕ). T (at i)) rack)
                (λ z.
                let up : j - 1 + 1 ≡ j = omega arith in
                let rack : e - k + (j - 1) ≡ e - (k + 1) + j = omega arith in
                let long = cl.long in
                ap h' (sym (cl.inner j (omega arith))) ∙ ap (λ (i : ℕ). h' (cycle i)) (sym up) ∙ turned.on (j - 1) (omega arith)
                ∙ ap h (cl.inner (j - 1) (omega arith)) ∙ placing.stacked (j - 1) (omega arith) ∙ ap (λ (i : ℕ). T (at i)) rack);
            behind = λ j le l. turned.others (at j) (λ i small same. off i j small le l same) ∙ placing.behind j le l;
          }
        where
          off : (i j : ℕ) → i < size → e ≤ j → j < n → cycle i ≡ at j → ⊥
          off i j small le l same =
              let inner = lane.handle.inner in
              let within = lane.within in
              by_cases (dec_lt i (e - s))
              (λ x. apart lane (s + i) j (omega arith) l (omega arith) (sym (cl.inner i x) ∙ same))
              (λ x. lane_new rows lane j (cycle i) (omega arith) l (cl.stage i (omega arith) small) (sym same))

  module _ (stage : ℕ) (has : Part at 0 s stage) where
    pub stage_robust : Robust (Edge g) (Has stage)
    stage_robust =
        record {
          whole = whole_same (stage_in rows lane stage has) (stage_out rows lane stage has) lane.robust.whole;
          without = λ x a.
              whole_same
              (λ p y. record { there = stage_in rows lane stage has p y.there; other = y.other })
              (λ p y. record { there = stage_out rows lane stage has p y.there; other = y.other })
              (lane.robust.without x (stage_out rows lane stage has x a));
        }

    pub stage_vacancy : {h : ℕ → ℕ} → Vacancy (Among at s) h → Vacancy (Has stage) h
    stage_vacancy z = record { at = z.at; there = stage_in rows lane stage has z.at z.there; vacant = z.vacant }

    -- a rack that is fetched stands in the stage
    pub place-from : {T h : ℕ → ℕ} {k r : ℕ} → Fetched n at T s e k r h → r ≢ 0 → (p : ℕ) → h p ≡ r → Has stage p
    place-from {h = h} f some p is =
        let same : f.from ≡ p = f.placing.table.one f.from p (λ z. some (sym f.there ∙ z)) (f.there ∙ sym is) in
        stage_in rows lane stage has p (subst (Among at s) same f.in_stage)

    pub place_below : (p : ℕ) → Has stage p → p < n
    place_below p h = stage_below rows lane p (stage_out rows lane stage has p h)

    pub stage_few : AtMost (suc (n - 2)) (Has stage)
    stage_few =
        let less = lane_stage rows lane in
        at_most_more (suc (n - 2)) (omega arith) (at_most_less (stage_out rows lane stage has) among_few)

    pub place_brought : {T h h' : ℕ → ℕ} {k from to : ℕ} → Placing n at T s e k h → Table n h' → Brought (Has stage) from to h h'
        → Placing n at T s e k h'
    place_brought placing table b = placing_kept lane placing (λ p x. inl (stage_out rows lane stage has p x)) table b.outside

    -- v cleared with u held
    module _ (rest : ℕ) (without : (p : ℕ) → Has rest p ↔ (Has stage p × (p ≢ u))) where
      pub place_below_rest : (p : ℕ) → Has rest p → p < n
      place_below_rest p h = place_below p ((without p).0 h).0

      pub place_cleared : {T h h' : ℕ → ℕ} {k : ℕ} → Placing n at T s e k h → Table n h' → Cleared (Has rest) v h h'
          → Placing n at T s e k h'
      place_cleared placing table cl =
          placing_kept lane placing (λ p x. inl (stage_out rows lane stage has p ((without p).0 x).0)) table cl.outside

      pub place_held : {h h' : ℕ → ℕ} → Cleared (Has rest) v h h' → h' u ≡ h u
      place_held cl = cl.outside u (λ x. ((without u).0 x).1 refl)

      pub place-reaches : {h k : ℕ → ℕ} (from : ℕ) → Brought (Has stage) from u h k → h from ≢ 0 → Reaches (Edge g) (Has rest) k v
      place-reaches {h} {k} from b held =
          let z = b.vacancy in
          let away : z.at ≢ u = λ x. held (sym b.there ∙ ap k (sym x) ∙ z.vacant) in
          let way = stage_robust.without u (stage_in rows lane stage has u lane.handle.left) v z.at
          (record { there = stage_in rows lane stage has v lane.handle.right; other = λ x. lane.handle.ends (sym x) })
          (record { there = z.there; other = away }) in
          reaches_back rows.symmetric z.at way.size z.vacant
          (walk_inside (λ p x. (without p).1 (x.there, x.other)) way.walk)

      -- the stage leaves out a position of the floor, and u is held
      pub rest_few : AtMost (suc (n - 3)) (Has rest)
      rest_few =
          let less = lane_stage rows lane in
          let three = lane.three in
          at_most_without stage rest (stage_in rows lane stage has u lane.handle.left) without
          (at_most_more (suc (suc (n - 3))) (omega arith) (at_most_less (stage_out rows lane stage has) among_few))

  module _ {cycle : ℕ → ℕ} {size : ℕ} (cl : Closed n (Edge g) at s e u v cycle size) where
    pub cycle_simple : Simple cycle size
    cycle_simple =
        let small = rows.small in
        let short = cl.short in
        record { short = omega arith; below = λ i l. (let b = below i l in omega arith); distinct = cl.distinct }
      where
        below : (i : ℕ) → i < size → cycle i < n
        below i l =
            let within = lane.within in
            by_cases (dec_lt i (e - s))
            (λ x. subst (λ (p : ℕ). p < n) (sym (cl.inner i x)) (lane.below (s + i) (omega arith)))
            (λ x. stage_below rows lane (cycle i) (cl.stage i (omega arith) l))

    pub cycle-round : Round cycle size g
    cycle-round = record { joined = cl.joined; closed = cl.closed }

    pub cycle-vacancy : {P : ℕ → Type 0} {h k : ℕ → ℕ} → Cleared P v h k → Turnable cycle size k
    cycle-vacancy {k = k} x = let long = cl.long in (e - s, record { before = omega arith; vacant = ap k cl.turns ∙ x.vacant })
