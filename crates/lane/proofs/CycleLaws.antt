-- Laws of the cycle through a handle, and of a position beside the handle's right end.
--
--     lane_stage, lane_floor, lane-places    the stage ends before the floor does; the rows' words hold the floor; and so the stage
--     apart lane           different places have different positions
--     lane_new             a place from s on is none of the stage's positions
--     stage_below          the stage's positions are on the floor; left_below, right_below, its ends
--     stage_in, stage_out  the stage as a set and as the places before s
--     beside_some, beside_is    v has a neighbour in the stage that is not u
--     route-some, route_two, route_short    the way from v to u through the stage
--     closed               the handle's places and that way are a cycle
-- Assumes nothing.
use Prim.Native.Nat.{ℕ, ◌+◌, ◌-◌, ◌≤◌, ◌<◌}
use mathlib.Core.Path.{◌≡◌, refl, sym, ap, subst, ◌∙◌}
use mathlib.Core.List.{List}
use mathlib.Core.Logic.{◌↔◌, ◌≢◌, by_cases}
use native.Mathlib.Decide.{ℕ_discrete, dec_lt}
use native.Mathlib.Omega.{arith}
use lib.Bits.{bit_and}
use Rattle.sets.specs.Sets.{Has}
use Rattle.sets.proofs.SetLaws.{has_and, has_positive}
use Rattle.graph.proofs.WalkLaws.{walk_inside}
use Rattle.graph.proofs.ConnectedLaws.{third}
use Rattle.graph.specs.Rows.{row, Edge, Rows}
use Rattle.graph.specs.Nearest.{Nearest}
use Rattle.graph.proofs.NearestLaws.{nearest_found}
use Rattle.breakdown.specs.Breakdown.{Among}
use Rattle.breakdown.specs.Part.{Places, Part}
use Rattle.breakdown.proofs.StageLaws.{among, Two, robust_neighbours}
use Rattle.lane.specs.Lane.{HandleOn, BesideEnd, Closed}
use Rattle.lane.proofs.StageLaws.{apart, between_among, among_between, among_few}

module _ {n : ℕ} {g : List ℕ} {at : ℕ → ℕ} {s e u v : ℕ} (rows : Rows n g) (lane : HandleOn n (Edge g) at s e u v) where
  pub lane_stage : s < n
  lane_stage = let i = lane.handle.inner in let w = lane.within in omega arith

  pub lane_floor : (p : ℕ) → p < n → p < 64
  lane_floor p l = let small = rows.small in omega arith

  pub lane-places : Places at s
  lane-places =
      let stage = lane_stage in
      let small = rows.small in
      record { most = omega arith; below = λ i l. lane_floor (at i) (lane.below i (omega arith)) }

  pub stage_below : (p : ℕ) → Among at s p → p < n
  stage_below p a = let l = a.before in let w = lane_stage in subst (λ (q : ℕ). q < n) a.is (lane.below a.place (omega arith))

  pub left_below : u < n
  left_below = stage_below u lane.handle.left

  pub right_below : v < n
  right_below = stage_below v lane.handle.right

  pub lane_new : (i p : ℕ) → s ≤ i → i < n → Among at s p → at i ≢ p
  lane_new i p le l a same = let b = a.before in apart lane i a.place l (omega arith) (omega arith) (same ∙ sym a.is)

  module _ (stage : ℕ) (has : Part at 0 s stage) where
    pub stage_in : (p : ℕ) → Among at s p → Has stage p
    stage_in p a = (has p).1 (among_between a)

    pub stage_out : (p : ℕ) → Has stage p → Among at s p
    stage_out p h = between_among ((has p).0 h)

    -- two neighbours of v in the stage
    neighbours : Two (Edge g) (Among at s) v
    neighbours =
        let w = lane_stage in
        let three = lane.three in
        let k = lane.handle.right.place in
        let hk = lane.handle.right.before in
        let x = third k k in
        let y = third k x.at in
        let hx = x.small in
        let hy = y.small in
        subst (Two (Edge g) (Among at s)) lane.handle.right.is
        (robust_neighbours (at k) (at x.at) (at y.at) lane.robust (λ p z. rows.other p p z refl)
        (among at s k hk) (among at s x.at (omega arith)) (among at s y.at (omega arith))
        (apart lane k x.at (omega arith) (omega arith) x.first)
        (apart lane k y.at (omega arith) (omega arith) y.first)
        (apart lane x.at y.at (omega arith) (omega arith) y.second))

    module _ (rest : ℕ) (without : (p : ℕ) → Has rest p ↔ (Has (bit_and (row g v) stage) p × (p ≢ u))) where
      pub beside_some : 0 < rest
      beside_some =
          let two = neighbours in
          by_cases (ℕ_discrete two.one.to u)
          (λ e. found two.two.to two.two.edge two.two.there (λ f. two.differ (f ∙ sym e)))
          (λ e. found two.one.to two.one.edge two.one.there e)
        where
          found : (p : ℕ) → Edge g v p → Among at s p → p ≢ u → 0 < rest
          found p edge there other = has_positive rest p ((without p).1 ((has_and (row g v) stage p).1 (edge, stage_in p there), other))

      pub beside_is : (r : ℕ) → Has rest r → BesideEnd (Edge g) at s u v r
      beside_is r h =
          let x = (without r).0 h in
          let y = (has_and (row g v) stage r).0 x.0 in
          record { there = stage_out r y.1; left = λ e. x.1 (sym e); right = rows.other v r y.0; edge = y.0 }

    module _ (t size : ℕ) (f : ℕ → ℕ) (only : (p : ℕ) → Has t p ↔ (p ≡ u)) (nearest : Nearest (Edge g) (Has stage) (Has t) v size f) where
      pub route-some : 0 < size
      route-some =
          let way = lane.robust.whole v u lane.handle.right lane.handle.left in
          nearest_found nearest u way.size (walk_inside stage_in way.walk) ((only u).1 refl)

      route_last : f (size - 1) ≡ u
      route_last = (only (f (size - 1))).0 (nearest.target route-some)

      pub route_two : 1 < size
      route_two =
          let some = route-some in
          by_cases (ℕ_discrete size 1)
          (λ e.
          let zero : size - 1 ≡ 0 = omega arith in
          absurd (lane.handle.ends (sym route_last ∙ ap f zero ∙ (nearest.path some).first)))
          (λ e. omega arith)

      on : (i : ℕ) → i < size → Among at s (f i)
      on i l = stage_out (f i) ((nearest.path route-some).inside i l)

      pub route_short : size ≤ s
      route_short = among_few.different f size on (nearest.path route-some).distinct

      module _ {cycle : ℕ → ℕ} (inner : (j : ℕ) → j < e - s → cycle j ≡ at (s + j))
          (behind : (j : ℕ) → j < size → cycle (e - s + j) ≡ f j) where
        later : (j : ℕ) → e - s ≤ j → j < e - s + size → cycle j ≡ f (j - (e - s))
        later j le l =
            let same : j ≡ e - s + (j - (e - s)) = omega arith in
            ap cycle same ∙ behind (j - (e - s)) (omega arith)

        ends : cycle (e - s + size - 1) ≡ u
        ends =
            let two = route_two in
            let same : e - s + size - 1 - (e - s) ≡ size - 1 = omega arith in
            later (e - s + size - 1) (omega arith) (omega arith) ∙ ap f same ∙ route_last

        turns : cycle (e - s) ≡ v
        turns =
            let some = route-some in
            let same : e - s - (e - s) ≡ 0 = omega arith in
            later (e - s) (omega arith) (omega arith) ∙ ap f same ∙ (nearest.path some).first

        in_stage : (j : ℕ) → e - s ≤ j → j < e - s + size → Among at s (cycle j)
        in_stage j le l = subst (Among at s) (sym (later j le l)) (on (j - (e - s)) (omega arith))

        joined : (j : ℕ) → j + 1 < e - s + size → Edge g (cycle j) (cycle (j + 1))
        joined j l =
            by_cases (dec_lt (j + 1) (e - s))
            (λ h.
            let up : s + (j + 1) ≡ s + j + 1 = omega arith in
            edge (inner j (omega arith)) (inner (j + 1) h ∙ ap at up) (lane.handle.joined (s + j) (omega arith) (omega arith)))
            (λ h. by_cases (dec_lt j (e - s))
            (λ i.
            let here : s + j ≡ e - 1 = omega arith in
            let there : j + 1 ≡ e - s = omega arith in
            edge (inner j i ∙ ap at here) (ap cycle there ∙ turns) lane.handle.last)
            (λ i.
            let up : j + 1 - (e - s) ≡ j - (e - s) + 1 = omega arith in
            edge (later j (omega arith) (omega arith)) (later (j + 1) (omega arith) l ∙ ap f up)
            ((nearest.path route-some).joined (j - (e - s)) (omega arith))))
          where
            edge : {a b c d : ℕ} → a ≡ c → b ≡ d → Edge g c d → Edge g a b
            edge {a} {b} {c} {d} x y z = subst (λ (p : ℕ). Edge g p b) (sym x) (subst (λ (q : ℕ). Edge g c q) (sym y) z)

        distinct : (i j : ℕ) → i < j → j < e - s + size → cycle i ≢ cycle j
        distinct i j l h =
            let within = lane.within in
            by_cases (dec_lt j (e - s))
            (λ x same. lane.distinct (s + i) (s + j) (omega arith) (omega arith) (sym (inner i (omega arith)) ∙ same ∙ inner j x))
            (λ x. by_cases (dec_lt i (e - s))
            (λ y same. lane_new (s + i) (cycle j) (omega arith) (omega arith) (in_stage j (omega arith) h) (sym (inner i y) ∙ same))
            (λ y same. (nearest.path route-some).distinct (i - (e - s)) (j - (e - s)) (omega arith) (omega arith)
            (sym (later i (omega arith) (omega arith)) ∙ same ∙ later j (omega arith) h)))

        pub closed : Closed n (Edge g) at s e u v cycle (e - s + size)
        closed =
            let two = route_two in
            let short = route_short in
            let within = lane.within in
            let some = lane.handle.inner in
            let zero : s + 0 ≡ s = omega arith in
            record {
              long = omega arith;
              short = omega arith;
              inner = inner;
              turns = turns;
              ends = ends;
              stage = in_stage;
              joined = joined;
              closed =
                  subst (λ (p : ℕ). Edge g p (cycle 0)) (sym ends)
                  (subst (Edge g u) (sym (inner 0 (omega arith) ∙ ap at zero)) lane.handle.first);
              distinct = distinct;
            }
