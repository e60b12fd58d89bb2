-- One handle of a breakdown, as settling it needs it, and the state while its racks are stacked into it. The positions stand in one row, as
-- in the breakdown; the stage is what came before the handle in it. Below, x is a lane: a handle's numbers as the code has them.
--
--     HandleOn n E at s e u v   the places from s up to e are a handle with the ends u and v, on the stage of the places before s
--     BesideEnd E at s u v y    y is a position of the stage beside the right end v that is neither end
--     Closed n E at s e u v cycle size    the handle's inner positions from u's side on, then a way from v to u through the stage: a cycle
--     After at e v i r          r is the position after place i of the handle: the next place's, or its right end
--     Agreed at T h s e         the places from s up to e hold what they have in the goal T
--     Filled at T s n           the places from s up to n have a rack in the goal T
--     Stacked at T e k s h      the first k places of the handle, from s on, hold what the last k of them, before e, have in the goal T
--     Placing n at T s e k h    k racks are stacked; what lies behind the handle holds what it has in T
--     Fetched n at T s e k r h  the same, with the rack r in the stage and a vacancy in it
--     LaneOn, LaneBeside, LaneClosed, LanePlacing    these of a lane: HandleOn, BesideEnd, Closed, Placing
--     LaneStage x               the positions of the stage
--     next_rack x T k            the rack that comes next: the goal has it at the last place that is not stacked for
--     LaneFetched x T k h       it is fetched
--     LaneStacked x k h         k racks are stacked, whatever the goal is; LaneKept x k h h'    they stay stacked
--     InLane x q                place q is one of the handle's
--     LaneOpen x h              the right end and the position beside it are vacant
--     LaneCarriable x q h       the same, and a rack stands at place q
--     LaneCarried x q h h'      that rack stands beside the right end, and nothing else moved
--     LaneSettled x T h         the handle and what lies behind it hold what they have in the goal
-- Assumes nothing.
use Rattle.std.specs.Prelude.{ℕ, ◌+◌, ◌-◌, ◌≤◌, ◌<◌, ◌≡◌, ◌≢◌}
use Rattle.graph.specs.declared.Route.{Route}
use Rattle.graph.specs.Connected.{Robust}
use Rattle.breakdown.specs.Breakdown.{Among, Handle}
use Rattle.graph.specs.Rows.{row}
use Rattle.moving.specs.Went.{Same}
use Rattle.turning.specs.Undone.{carried}
use Rattle.shunting.specs.Cleared.{Vacancy}
use Rattle.moving.specs.Table.{Table}
use Rattle.lane.specs.declared.Lane.{Lane}

pub record HandleOn (n : ℕ) (E : ℕ → ℕ → Type 0) (at : ℕ → ℕ) (s e u v : ℕ) : Type 0 where
  pub robust : Robust E (Among at s)
  pub handle : Handle E at s e u v
  pub three : 3 ≤ s
  pub within : e ≤ n
  pub below : (i : ℕ) → i < n → at i < n
  pub distinct : (i j : ℕ) → i < j → j < n → at i ≢ at j
  pub every : (p : ℕ) → p < n → Among at n p

pub record BesideEnd (E : ℕ → ℕ → Type 0) (at : ℕ → ℕ) (s u v y : ℕ) : Type 0 where
  pub there : Among at s y
  pub left : u ≢ y
  pub right : v ≢ y
  pub edge : E v y

pub record Closed (n : ℕ) (E : ℕ → ℕ → Type 0) (at : ℕ → ℕ) (s e u v : ℕ) (cycle : ℕ → ℕ) (size : ℕ) : Type 0 where
  pub long : e - s + 1 < size
  pub short : size ≤ n
  pub inner : (j : ℕ) → j < e - s → cycle j ≡ at (s + j)
  pub turns : cycle (e - s) ≡ v
  pub ends : cycle (size - 1) ≡ u
  pub stage : (j : ℕ) → e - s ≤ j → j < size → Among at s (cycle j)
  pub joined : (j : ℕ) → j + 1 < size → E (cycle j) (cycle (j + 1))
  pub closed : E (cycle (size - 1)) (cycle 0)
  pub distinct : (i j : ℕ) → i < j → j < size → cycle i ≢ cycle j

pub record After (at : ℕ → ℕ) (e v i r : ℕ) : Type 0 where
  pub inner : i + 1 < e → r ≡ at (i + 1)
  pub last : e ≤ i + 1 → r ≡ v

abbrev pub Agreed : (at T h : ℕ → ℕ) → ℕ → ℕ → Type 0
Agreed at T h s e = (j : ℕ) → s ≤ j → j < e → h (at j) ≡ T (at j)

abbrev pub Filled : (at T : ℕ → ℕ) → ℕ → ℕ → Type 0
Filled at T s n = (j : ℕ) → s ≤ j → j < n → T (at j) ≢ 0

abbrev pub Stacked : (ℕ → ℕ) → (ℕ → ℕ) → ℕ → ℕ → ℕ → (ℕ → ℕ) → Type 0
Stacked at T e k s h = (j : ℕ) → j < k → h (at (s + j)) ≡ T (at (e - k + j))

pub record Placing (n : ℕ) (at T : ℕ → ℕ) (s e k : ℕ) (h : ℕ → ℕ) : Type 0 where
  pub table : Table n h
  pub goal : Table n T
  pub filled : Filled at T s n
  pub few : k ≤ e - s
  pub stacked : Stacked at T e k s h
  pub behind : Agreed at T h e n

pub record Fetched (n : ℕ) (at T : ℕ → ℕ) (s e k r : ℕ) (h : ℕ → ℕ) : Type 0 where
  pub placing : Placing n at T s e k h
  pub from : ℕ
  pub in_stage : Among at s from
  pub there : h from ≡ r
  pub vacancy : Vacancy (Among at s) h

abbrev pub LaneOn : (ℕ → ℕ → Type 0) → Lane → Type 0
LaneOn E x = HandleOn x.positions E (row x.order) x.start x.end x.left x.right

abbrev pub LaneBeside : (ℕ → ℕ → Type 0) → Lane → Type 0
LaneBeside E x = BesideEnd E (row x.order) x.start x.left x.right x.beside

abbrev pub LaneClosed : (ℕ → ℕ → Type 0) → Lane → Route → Type 0
LaneClosed E x c = Closed x.positions E (row x.order) x.start x.end x.left x.right (row c.at) c.size

abbrev pub LaneStage : Lane → ℕ → Type 0
LaneStage x = Among (row x.order) x.start

abbrev pub LanePlacing : Lane → (ℕ → ℕ) → ℕ → (ℕ → ℕ) → Type 0
LanePlacing x T k h = Placing x.positions (row x.order) T x.start x.end k h

abbrev pub next_rack : Lane → (ℕ → ℕ) → ℕ → ℕ
next_rack x T k = T (row x.order (x.end - k - 1))

abbrev pub LaneFetched : Lane → (ℕ → ℕ) → ℕ → (ℕ → ℕ) → Type 0
LaneFetched x T k h = Fetched x.positions (row x.order) T x.start x.end k (next_rack x T k) h

abbrev pub LaneStacked : Lane → ℕ → (ℕ → ℕ) → Type 0
LaneStacked x k h = (T : ℕ → ℕ) × LanePlacing x T k h

abbrev pub LaneKept : Lane → ℕ → (ℕ → ℕ) → (ℕ → ℕ) → Type 0
LaneKept x k h h' = (T : ℕ → ℕ) → LanePlacing x T k h → LanePlacing x T k h'

pub record InLane (x : Lane) (q : ℕ) : Type 0 where
  pub from : x.start ≤ q
  pub before : q < x.end

pub record LaneOpen (x : Lane) (h : ℕ → ℕ) : Type 0 where
  pub end : h x.right ≡ 0
  pub beside : h x.beside ≡ 0

pub record LaneCarriable (x : Lane) (q : ℕ) (h : ℕ → ℕ) : Type 0 where
  pub table : Table x.positions h
  pub vacant : LaneOpen x h
  pub held : h (row x.order q) ≢ 0

abbrev pub LaneCarried : Lane → ℕ → (ℕ → ℕ) → (ℕ → ℕ) → Type 0
LaneCarried x q h h' = Same h' (carried (h (row x.order q)) x.beside h)

pub record LaneSettled (x : Lane) (T h : ℕ → ℕ) : Type 0 where
  pub table : Table x.positions h
  pub agreed : Agreed (row x.order) T h x.start x.positions
