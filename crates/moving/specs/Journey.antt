-- What a function that moves racks leaves behind: the table of racks, the moves of real racks packed behind those that the plan has
-- already, and every move in a log, from which it can be taken back. s is the state: the table and the counts; l and t are the log and the
-- plan's bytes behind its head.
--
--     relogged s j               the state s with j moves in its log
--     Packed old ws t            the bytes t are the moves ws in edition two, packed, and behind them what stood there before in `old`
--     put_move t w m              the bytes t, which have w moves, with the move m behind them; packed_on t w ws    with the moves ws
--     noted l j ms               the log l, which has j moves, with the moves ms behind them
--     onto ms past               the moves ms, the last of them first, and behind them `past`
--     Trail l s j past           the log's entries from s up to j are the moves `past`, the last of them first
--     Fits s l t c               there is room for c moves more, and 6 bits hold the number of each real rack minus 1
--     Room s l t c               there is room for c moves more in the plan, whatever the log has
--     Space s t c                there is room for c moves more in the plan, and no log
--     made h a b                 the table h with the rack at a moved to b
--     Moved a b s t s' t'        that move is made; of a real rack it is packed into the plan, with that rack
--     Trip g c s t s' t'         at most c moves, each legal at its turn by the rows g, lead from s to s'; those of the real racks are
--                               packed into the plan, and nothing else of it changes
--     Journey g c s l t s' l' t'       such a trip, with all of its moves logged, and nothing else of the log changes
--     JourneyIn P g c s l t s' l' t'   such a journey, each of whose moves leaves a position of P and enters one
--     JourneyBy ms ws g c s l t s' l' t'   such a journey, whose moves are just ms, and those of them that are written just ws
--     Joins a b g                the rows g have an edge from a to b
--     Along at size g            the rows g have an edge from each of at 0, .., at (size - 1) to the next
--     JourneyOn F c s l t s' l' t'     a journey on every floor that F holds of: which moves are made does not hang on the rest of the
--                               floor
--     JourneyAlong at size s l t s' l' t'    a journey of a move less than `size`, on every floor that has the way, and in every set that
--                               has its positions
-- Assumes nothing.
use Rattle.std.specs.Prelude.{ℕ, ◌+◌, ◌-◌, ◌*◌, ◌/◌, ◌≤◌, ◌<◌, ◌≡◌, true, List, [], ◌∷◌, length, set}
use Rattle.field.specs.Packing.{pack_positions, put_positions}
use Rattle.field.specs.Listed.{move_size, units, all_units}
use Rattle.field.specs.Writing.{written}
use Rattle.sets.specs.Sets.{Has}
use Rattle.graph.specs.Rows.{row, Edge}
use Rattle.moving.specs.Went.{Went, Within}
use Rattle.moving.specs.declared.State.{State}

abbrev pub relogged : State → ℕ → State
relogged s j = record { racks = s.racks; real = s.real; written = s.written; logged = j }

-- Request (h): "The planner writes edition two"
pub record Packed (old : List ℕ) (ws : List (ℕ × ℕ × ℕ)) (t : List ℕ) : Type 0 where
  pub is : t ≡ written old 0 (pack_positions (all_units true ws))

abbrev pub put_move : List ℕ → ℕ → ℕ × ℕ × ℕ → List ℕ
put_move t w m = put_positions t (move_size true * w) (units true m)

unfoldable pub packed_on : List ℕ → ℕ → List (ℕ × ℕ × ℕ) → List ℕ
packed_on t w [] = t
packed_on t w (m ∷ ms) = packed_on (put_move t w m) (w + 1) ms

unfoldable pub noted : List ℕ → ℕ → List (ℕ × ℕ) → List ℕ
noted l j [] = l
noted l j (m ∷ ms) = noted (set l j (m.0 * 64 + m.1)) (j + 1) ms

unfoldable pub onto : List (ℕ × ℕ) → List (ℕ × ℕ) → List (ℕ × ℕ)
onto [] past = past
onto (m ∷ ms) past = onto ms (m ∷ past)

pub data Trail (l : List ℕ) (s : ℕ) : ℕ → List (ℕ × ℕ) → Type 0 where
  start : Trail l s s []
  entry : {j a b : ℕ} {past : List (ℕ × ℕ)} → row l j ≡ a * 64 + b → a < 64 → b < 64 → Trail l s j past
      → Trail l s (j + 1) ((a, b) ∷ past)

pub record Fits (s : State) (l t : List ℕ) (c : ℕ) : Type 0 where
  pub racks : length s.racks ≡ 64
  pub log : length l ≡ 8256
  pub logged : s.logged + c ≤ 8256
  pub few_racks : s.real ≤ 64
  pub room : (18 * (s.written + c) + 7) / 8 ≤ length t

pub record Room (s : State) (l t : List ℕ) (c : ℕ) : Type 0 where
  pub racks : length s.racks ≡ 64
  pub log : length l ≡ 8256
  pub few_racks : s.real ≤ 64
  pub room : (18 * (s.written + c) + 7) / 8 ≤ length t

pub record Space (s : State) (t : List ℕ) (c : ℕ) : Type 0 where
  pub racks : length s.racks ≡ 64
  pub few_racks : s.real ≤ 64
  pub room : (18 * (s.written + c) + 7) / 8 ≤ length t

abbrev pub made : List ℕ → ℕ → ℕ → List ℕ
made h a b = set (set h b (row h a)) a 0

pub record Moved (a b : ℕ) (s : State) (t : List ℕ) (s' : State) (t' : List ℕ) : Type 0 where
  pub table : s'.racks ≡ made s.racks a b
  pub reals : s'.real ≡ s.real
  pub real : row s.racks a ≤ s.real → (t' ≡ put_move t s.written (a, b, row s.racks a)) × (s'.written ≡ s.written + 1)
  pub stand_in : s.real < row s.racks a → (t' ≡ t) × (s'.written ≡ s.written)

pub record Trip (g : List ℕ) (c : ℕ) (s : State) (t : List ℕ) (s' : State) (t' : List ℕ) : Type 0 where
  pub moves : List (ℕ × ℕ)
  pub written : List (ℕ × ℕ × ℕ)
  pub went : Went (Edge g) s.real (row s.racks) moves written (row s'.racks)
  pub few : length moves ≤ c
  pub reals : s'.real ≡ s.real
  pub racks : length s'.racks ≡ length s.racks
  pub tail : length t' ≡ length t
  pub counted : s'.written ≡ s.written + length written
  pub bytes : t' ≡ packed_on t s.written written

pub record Journey (g : List ℕ) (c : ℕ) (s : State) (l t : List ℕ) (s' : State) (l' t' : List ℕ) : Type 0 where
  pub trip : Trip g c s t s' t'
  pub log : length l' ≡ length l
  pub logged : s'.logged ≡ s.logged + length trip.moves
  pub entries : l' ≡ noted l s.logged trip.moves
  pub trail : (i : ℕ) (past : List (ℕ × ℕ)) → i ≤ s.logged → Trail l i s.logged past
      → Trail l' i s'.logged (onto trip.moves past)

pub record JourneyIn (P : ℕ → Type 0) (g : List ℕ) (c : ℕ) (s : State) (l t : List ℕ) (s' : State) (l' t' : List ℕ) : Type 0 where
  pub journey : Journey g c s l t s' l' t'
  pub within : Within P journey.trip.moves

pub record JourneyBy (ms : List (ℕ × ℕ)) (ws : List (ℕ × ℕ × ℕ)) (g : List ℕ) (c : ℕ) (s : State) (l t : List ℕ) (s' : State)
    (l' t' : List ℕ) : Type 0 where
  pub journey : Journey g c s l t s' l' t'
  pub moves : journey.trip.moves ≡ ms
  pub written : journey.trip.written ≡ ws

abbrev pub Joins : ℕ → ℕ → List ℕ → Type 0
Joins a b g = Edge g a b

abbrev pub Along : (ℕ → ℕ) → ℕ → List ℕ → Type 0
Along at size g = (i : ℕ) → i + 1 < size → Edge g (at i) (at (i + 1))

abbrev pub JourneyOn : (List ℕ → Type 0) → ℕ → State → List ℕ → List ℕ → State → List ℕ → List ℕ → Type 0
JourneyOn F c s l t s' l' t' = (g : List ℕ) → F g → Journey g c s l t s' l' t'

abbrev pub JourneyAlong : (ℕ → ℕ) → ℕ → State → List ℕ → List ℕ → State → List ℕ → List ℕ → Type 0
JourneyAlong at size s l t s' l' t' =
    (g : List ℕ) (free : ℕ) → ((i : ℕ) → i < size → Has free (at i)) → Along at size g
    → JourneyIn (Has free) g (size - 1) s l t s' l' t'
