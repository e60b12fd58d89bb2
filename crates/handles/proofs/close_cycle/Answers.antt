-- `handles::close_cycle` meets its contract.
--
--     short                  the cycle has no more than 64 places
--     first_long, begun_long    k places of the handle are copied
--     second_long, laid      and then m places of the way
--     laid-inner, laid_way   the cycle's places: those of the handle, from place s of the row on, and behind them those of the way
-- Assumes nothing.
use Prim.Native.Nat.{ℕ, ◌+◌, ◌-◌, ◌≤◌, ◌<◌}
use mathlib.Core.Path.{◌≡◌, ap, sym, ◌∙◌}
use mathlib.Core.List.{List, ◌++◌}
use native.Mathlib.Omega.{arith}
use lib.ListN.{length, take, drop, replicate, length-append, length-drop, length-replicate}
use lib.Seq.{take_at, length-take-le}
use borrow.Rule.Slice.PartMut.{put_mid}
use Rattle.std.proofs.lemmas.List.{get_or-take, get_or-drop, get_or_append_left, get_or-append_right}
use Rattle.std.proofs.lemmas.Slice.{take-put_mid}
use Rattle.graph.specs.Rows.{row}
use Rattle.lane.proofs.CycleLaws.{lane_floor, lane-places, left_below, right_below, route_two, route_short, closed}
use Rattle.handles.proofs.close_cycle.Goals.{In-Some}
use Rattle.handles.proofs.close_cycle.Goals as goal

short : (c : In-Some) → c.args.lane.end - c.args.lane.start + c.in-Some.route.size ≤ 64
short c =
    let small = c.requires.rows.small in
    let inner = c.requires.lane_on.handle.inner in
    let within = c.requires.lane_on.within in
    let way = route_short c.requires.rows c.requires.lane_on _ c.part-stage.ensures _ _ _ c.only.ensures c.in-Some.ensures.1 in
    omega arith

module _ (first : List ℕ) (k : ℕ) (few : k ≤ 64) (long : length first ≡ length (take k (replicate {A = ℕ} 64 0))) where
  first_long : length first ≡ k
  first_long = let zeros = length-replicate {A = ℕ} 64 0 in long ∙ length-take-le k (replicate 64 0) (omega arith)

  begun_long : length (first ++ drop k (replicate 64 0)) ≡ 64
  begun_long =
      let one = first_long in
      let zeros = length-replicate {A = ℕ} 64 0 in
      let behind = length-drop k (replicate {A = ℕ} 64 0) in
      let whole = length-append first (drop k (replicate 64 0)) in
      omega arith

module _ (order way first second : List ℕ) (s k m : ℕ) (fits : k + m ≤ 64) (places : first ≡ take k (drop s order))
    (long : length first ≡ length (take k (replicate {A = ℕ} 64 0))) (rest : second ≡ take m way)
    (many : length second ≡ length (take (k + m - k) (drop k (first ++ drop k (replicate 64 0))))) where
  begun : List ℕ
  begun = first ++ drop k (replicate 64 0)

  cycle : List ℕ
  cycle = put_mid k (k + m - k) begun second

  second_long : length second ≡ m
  second_long =
      let same : k + m - k ≡ m = omega arith in
      let whole = begun_long first k (omega arith) long in
      let behind = length-drop k (first ++ drop k (replicate 64 0)) in
      many ∙ length-take-le (k + m - k) (drop k (first ++ drop k (replicate 64 0))) (omega arith) ∙ same

  laid : take (k + m) cycle ≡ first ++ second
  unfolding cycle begun
  laid =
      let one = first_long first k (omega arith) long in
      let two = second_long in
      let whole = begun_long first k (omega arith) long in
      take-put_mid k (k + m - k) begun second (k + m) (omega arith) (omega arith)
      ∙ ap (λ (x : List ℕ). x ++ second) (take_at first (drop k (replicate 64 0)) k one)

  laid-inner : (j : ℕ) → j < k → row cycle j ≡ row order (s + j)
  laid-inner j l =
      let one = first_long first k (omega arith) long in
      sym (get_or-take (k + m) cycle j 0 (omega arith)) ∙ ap (λ (x : List ℕ). row x j) laid
      ∙ get_or_append_left first second 0 j (omega arith) ∙ ap (λ (x : List ℕ). row x j) places
      ∙ get_or-take k (drop s order) j 0 l ∙ get_or-drop s order j 0

  laid_way : (j : ℕ) → j < m → row cycle (k + j) ≡ row way j
  laid_way j l =
      let same : k + j - k ≡ j = omega arith in
      sym (get_or-take (k + m) cycle (k + j) 0 (omega arith)) ∙ ap (λ (x : List ℕ). row x (k + j)) laid
      ∙ get_or-append_right first second k (k + j) 0 (first_long first k (omega arith) long) (omega arith)
      ∙ ap (λ (i : ℕ). row second i) same ∙ ap (λ (x : List ℕ). row x j) rest ∙ get_or-take m way j 0 l

pub part-stage-requires : goal.part-stage-requires
part-stage-requires c =
    lane-places c.requires.rows c.requires.lane_on

pub only-requires : goal.only-requires
only-requires c =
    lane_floor c.requires.rows c.requires.lane_on c.args.lane.left (left_below c.requires.rows c.requires.lane_on)

pub search-requires : goal.search-requires
search-requires c = record {
  symmetric = c.requires.rows.symmetric;
  from_bound = lane_floor c.requires.rows c.requires.lane_on c.args.lane.right (right_below c.requires.rows c.requires.lane_on);
}

pub unreachable-requires : goal.unreachable-requires
unreachable-requires c =
    let two = route_two c.requires.rows c.requires.lane_on _ c.part-stage.ensures _ _ _ c.only.ensures c.in_default.ensures in
    omega arith

pub overflow_sub-inner : goal.overflow_sub-inner
overflow_sub-inner c =
    let inner = c.requires.lane_on.handle.inner in
    omega arith

pub overflow_add-inner : goal.overflow_add-inner
overflow_add-inner c = let all = short (goal.at.overflow_add-inner c).In-Some in omega arith

pub slice_bounds-at-end-2 : goal.slice_bounds-at-end-2
slice_bounds-at-end-2 c =
    let all = short (goal.at.slice_bounds-at-end-2 c).In-Some in
    let long = begun_long c.copy_from_slice.new.self (c.args.lane.end - c.args.lane.start) (omega arith) c.copy_from_slice.ensures.len in
    omega arith

pub slice_bounds-way-end : goal.slice_bounds-way-end
slice_bounds-way-end c = let all = short (goal.at.slice_bounds-way-end c).In-Some in omega arith

pub returns : goal.returns
unfolding cycle begun
returns c =
    let s = c.args.lane.start in
    let k = c.args.lane.end - c.args.lane.start in
    let m = c.in-Some.route.size in
    let fits = short (goal.at.returns c).In-Some in
    closed c.requires.rows c.requires.lane_on _ c.part-stage.ensures _ _ _ c.only.ensures c.in-Some.ensures.1
    (laid-inner _ _ _ _ s k m fits c.copy_from_slice.ensures.after c.copy_from_slice.ensures.len
    c.copy_from_slice-2.ensures.after c.copy_from_slice-2.ensures.len)
    (laid_way _ _ _ _ s k m fits c.copy_from_slice.ensures.after c.copy_from_slice.ensures.len
    c.copy_from_slice-2.ensures.after c.copy_from_slice-2.ensures.len)
