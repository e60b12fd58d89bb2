-- Laws of journeys.
--
--     packed-nothing       no move in the plan
--     move-bytes           the bytes that w moves take
--     packed-next          one move more in the plan
--     packed_on_append, packed_on-packed    moves and then more of them, packed; packed behind packed moves they are packed with them
--     trail_next           one move more in the log
--     noted_append         moves and then more of them in the log
--     onto_append          the moves ms and then ns, turned round
--     trail_below          the trail below moves that were logged on top of it
--     went_written         no more moves are written than are made
--     trip_none, journey_none      no move
--     trip_append, journey_append  a trip or a journey, and then another
--     trip_more, journey_more      a bound that is higher
--     trip_anew, trip_logged       a trip does not look at how many moves the log has, where it begins and where it ends
--     journey_in_none, journey_in_append, journey_in_more, journey_in_less    the same of journeys within a set, and within a larger one
--     journey_in_one       a journey of one move, from a to b
--     journey_by_none, journey_by_more, journey_by_append, journey_by_to    the same of journeys whose moves are known; the same moves
--     journey_by_went      those moves, each legal at its turn, lead there
--     journey_trail        a journey leaves in the log what was there
--     journey_others       and the log's entries before its moves and behind them stay
--     trip_written         a trip writes no more moves than its bound
--     real_named           the racks that were real are so still
--     trip_packed          behind packed moves it packs those that it writes
--     moved-passed         the table after one move
--     moved-relogged, space_relogged    a move, and room in the plan, do not look at how many moves the log has
--     Single, moved_single, moved_trip, moved_journey    one move is a trip, and logged a journey
--     fits_then            where there is room for c and d moves, there is room for d after c of them
--     fits_move            and after one move, whatever the rows are
--     fits_anew            room for moves in a log that is begun anew
--     room_then, room_less    room in the plan, after a trip and for fewer moves
--     space_room, fits_space, space_then, space_less    the same with no log
--     fits_less            where there is room for c moves, there is room for fewer
-- Assumes nothing.
use Prim.Native.Nat.{ℕ, suc, ◌+◌, ◌*◌, ◌/◌, ◌%◌, ◌^◌, ◌≤◌, ◌<◌}
use mathlib.Core.Path.{◌≡◌, refl, sym, ap, subst, ◌∙◌}
use mathlib.Core.Bool.{Bool, true, false, cond}
use mathlib.Core.List.{List, [], ◌∷◌, ◌++◌, append_assoc, append-nil}
use mathlib.Core.Logic.{◌≢◌, ◌⊎◌, ⊎_elim, by_cases}
use native.Mathlib.Decide.{dec_le}
use native.Mathlib.Omega.{arith}
use lib.Dec.{eqb}
use lib.ListN.{get_or, length, set, replicate, length-append, length-set, length-replicate}
use lib.Seq.{get_or-set_same, get_or-set_other}
use Rattle.field.specs.Packing.{pack_positions, put_position, put_positions}
use Rattle.field.specs.Listed.{move_size, units, all_units}
use Rattle.field.proofs.ListedLaws.{put_behind-listed}
use Rattle.field.proofs.WritingLaws.{written_none}
use Rattle.sets.specs.Sets.{Has}
use Rattle.sets.proofs.SetLaws.{has_only}
use Rattle.graph.specs.Rows.{row, Edge}
use Rattle.moving.specs.Went.{Move, Went, Within}
use Rattle.moving.specs.Went.Went.{stay, real, stand_in}
use Rattle.moving.proofs.WentLaws.{same_refl, went_append, within_less, within_append, went_one}
use Rattle.moving.specs.declared.State.{State}
use Rattle.moving.specs.Journey.{relogged, Packed, put_move, packed_on, noted, onto, Trail, Fits, Room, Space, made, Moved}
use Rattle.moving.specs.Journey.{Trip, Journey, JourneyIn, JourneyBy, Joins, JourneyOn}
use Rattle.moving.specs.OnePlace.{Movable, Passed}
use Rattle.moving.specs.Journey.Trail.{start, entry}

-- no move packed: the bytes are as they were
pub packed-nothing : (t : List ℕ) → Packed t [] t
unfolding all_units pack_positions
packed-nothing t = record { is = sym (written_none t 0) }

length-put_position : (t : List ℕ) (q p : ℕ) → length (put_position t q p) ≡ length t
unfolding put_position
length-put_position t q p = by (eqb (q % 4) 0) (eqb (q % 4) 1) (eqb (q % 4) 2)
  where
    twice : (i j x y : ℕ) → length (set (set t i x) j y) ≡ length t
    twice i j x y = length-set (set t i x) j y ∙ length-set t i x

    by : (u v w : Bool)
        → length (cond u (set t (q / 4 * 3) (p * 4))
        (cond v (set (set t (q / 4 * 3) (get_or t (q / 4 * 3) 0 / 4 * 4 + p / 16)) (q / 4 * 3 + 1) (p % 16 * 16))
        (cond w (set (set t (q / 4 * 3 + 1) (get_or t (q / 4 * 3 + 1) 0 / 16 * 16 + p / 4)) (q / 4 * 3 + 2) (p % 4 * 64))
        (set t (q / 4 * 3 + 2) (get_or t (q / 4 * 3 + 2) 0 / 64 * 64 + p))))) ≡ length t
    by true v w = length-set t (q / 4 * 3) (p * 4)
    by false true w = twice _ _ _ _
    by false false true = twice _ _ _ _
    by false false false = length-set t (q / 4 * 3 + 2) (get_or t (q / 4 * 3 + 2) 0 / 64 * 64 + p)

length-put_positions : (t : List ℕ) (q : ℕ) (ps : List ℕ) → length (put_positions t q ps) ≡ length t
unfolding put_positions
length-put_positions t q [] = refl
length-put_positions t q (p ∷ ps) = length-put_positions (put_position t q p) (q + 1) ps ∙ length-put_position t q p

pub move-bytes : (w : ℕ) → (6 * (move_size true * w) + 7) / 8 ≡ (18 * w + 7) / 8
unfolding move_size
move-bytes w = ap (λ (k : ℕ). (k + 7) / 8) (let e : 6 * (3 * w) ≡ 18 * w = omega arith in e)

pub packed-next : (old : List ℕ) (ws : List (ℕ × ℕ × ℕ)) (t : List ℕ) (w : ℕ × ℕ × ℕ) → (18 * (length ws + 1) + 7) / 8 ≤ length old
    → Packed old ws t → Packed old (ws ++ (w ∷ [])) (put_move t (length ws) w)
packed-next old ws t w room p =
    record {
      is =
          ap (λ (x : List ℕ). put_move x (length ws) w) p.is
          ∙ put_behind-listed true ws w old (let e = move-bytes (length ws + 1) in omega arith);
    }

pub packed_on_append : (ms ns : List (ℕ × ℕ × ℕ)) (t : List ℕ) (w : ℕ)
    → packed_on t w (ms ++ ns) ≡ packed_on (packed_on t w ms) (w + length ms) ns
unfolding packed_on
packed_on_append [] ns t w = let e : w ≡ w + 0 = omega arith in ap (λ (k : ℕ). packed_on t k ns) e
packed_on_append (m ∷ ms) ns t w =
    let e : w + 1 + length ms ≡ w + suc (length ms) = omega arith in
    packed_on_append ms ns (put_move t w m) (w + 1) ∙ ap (λ (k : ℕ). packed_on (packed_on (put_move t w m) (w + 1) ms) k ns) e

pub packed_on-packed : (old : List ℕ) (ws ms : List (ℕ × ℕ × ℕ)) (t : List ℕ) (w : ℕ) → w ≡ length ws
    → (18 * (w + length ms) + 7) / 8 ≤ length old → Packed old ws t
    → Packed old (ws ++ ms) (packed_on t w ms)
unfolding packed_on
packed_on-packed old ws [] t w e room p = subst (λ (v : List (ℕ × ℕ × ℕ)). Packed old v t) (sym (append-nil ws)) p
packed_on-packed old ws (m ∷ ms) t w e room p =
    subst (λ (v : List (ℕ × ℕ × ℕ)). Packed old v (packed_on (put_move t w m) (w + 1) ms)) (append_assoc ws (m ∷ []) ms)
    (packed_on-packed old (ws ++ (m ∷ [])) ms (put_move t w m) (w + 1)
    (let n = length-append ws (m ∷ []) in omega arith) (omega arith)
    (subst (λ (i : ℕ). Packed old (ws ++ (m ∷ [])) (put_move t i m)) (sym e) (packed-next old ws t m (omega arith) p)))

pub noted_append : (ms ns : List (ℕ × ℕ)) (l : List ℕ) (j : ℕ) → noted l j (ms ++ ns) ≡ noted (noted l j ms) (j + length ms) ns
unfolding noted
noted_append [] ns l j = let e : j ≡ j + 0 = omega arith in ap (λ (k : ℕ). noted l k ns) e
noted_append (m ∷ ms) ns l j =
    let e : j + 1 + length ms ≡ j + suc (length ms) = omega arith in
    noted_append ms ns (set l j (m.0 * 64 + m.1)) (j + 1) ∙ ap (λ (k : ℕ). noted (noted (set l j (m.0 * 64 + m.1)) (j + 1) ms) k ns) e

noted_below : (ms : List (ℕ × ℕ)) (l : List ℕ) (j i : ℕ) → i < j → row (noted l j ms) i ≡ row l i
unfolding noted
noted_below [] l j i low = refl
noted_below (m ∷ ms) l j i low =
    noted_below ms (set l j (m.0 * 64 + m.1)) (j + 1) i (omega arith) ∙ get_or-set_other l j i (m.0 * 64 + m.1) 0 (λ e. omega arith)

noted_beyond : (ms : List (ℕ × ℕ)) (l : List ℕ) (j i : ℕ) → j + length ms ≤ i → row (noted l j ms) i ≡ row l i
unfolding noted
noted_beyond [] l j i high = refl
noted_beyond (m ∷ ms) l j i high =
    noted_beyond ms (set l j (m.0 * 64 + m.1)) (j + 1) i (omega arith) ∙ get_or-set_other l j i (m.0 * 64 + m.1) 0 (λ e. omega arith)

trail_same : {l l' : List ℕ} {s j : ℕ} {past : List (ℕ × ℕ)} → ((i : ℕ) → i < j → row l' i ≡ row l i) → Trail l s j past → Trail l' s j past
trail_same same start = start
trail_same same (entry {j = j} is x y t) = entry (same j (omega arith) ∙ is) x y (trail_same (λ i h. same i (omega arith)) t)

pub trail_next : (l : List ℕ) (s j a b : ℕ) {past : List (ℕ × ℕ)} → a < 64 → b < 64 → j < length l → Trail l s j past
    → Trail (set l j (a * 64 + b)) s (j + 1) ((a, b) ∷ past)
trail_next l s j a b ha hb room t =
    entry (get_or-set_same l j (a * 64 + b) 0 room) ha hb (trail_same (λ i h. get_or-set_other l j i (a * 64 + b) 0 (omega arith)) t)

pub onto_append : (ms ns past : List (ℕ × ℕ)) → onto (ms ++ ns) past ≡ onto ns (onto ms past)
unfolding onto
onto_append [] ns past = refl
onto_append (m ∷ ms) ns past = onto_append ms ns (m ∷ past)

trail_tail : {l : List ℕ} {s j : ℕ} {m : ℕ × ℕ} {past : List (ℕ × ℕ)} (i : ℕ) → j ≡ i + 1 → Trail l s j (m ∷ past) → Trail l s i past
trail_tail {l} {s} i e (entry {past = past} is x y t) = subst (λ (n : ℕ). Trail l s n past) (omega arith) t

pub trail_below : {l : List ℕ} {s j : ℕ} (ms past : List (ℕ × ℕ)) (i : ℕ) → j ≡ i + length ms → Trail l s j (onto ms past)
    → Trail l s i past
unfolding onto
trail_below {l} {s} [] past i e t = subst (λ (n : ℕ). Trail l s n past) (omega arith) t
trail_below (m ∷ ms) past i e t = trail_tail i refl (trail_below ms (m ∷ past) (i + 1) (omega arith) t)

pub went_written : {E : ℕ → ℕ → Type 0} {m : ℕ} {h k : ℕ → ℕ} {ms : List (ℕ × ℕ)} {ws : List (ℕ × ℕ × ℕ)} → Went E m h ms ws k
    → length ws ≤ length ms
went_written (stay s) = omega arith
went_written (real x e l w) = let r = went_written w in omega arith
went_written (stand_in x l w) = let r = went_written w in omega arith

module _ {g : List ℕ} where
  pub trip_none : (s : State) (t : List ℕ) → Trip g 0 s t s t
  unfolding packed_on
  trip_none s t =
      record {
        moves = [];
        written = [];
        went = stay (same_refl (row s.racks));
        few = omega arith;
        reals = refl;
        racks = refl;
        tail = refl;
        counted = omega arith;
        bytes = refl;
      }

  pub journey_none : (s : State) (l t : List ℕ) → Journey g 0 s l t s l t
  unfolding onto noted trip_none
  journey_none s l t = record { trip = trip_none s t; log = refl; logged = omega arith; entries = refl; trail = λ i past le x. x }

  module _ {c : ℕ} {s s' : State} {t t' : List ℕ} where
    pub trip_more : (d : ℕ) → c ≤ d → Trip g c s t s' t' → Trip g d s t s' t'
    trip_more d le a =
        record {
          moves = a.moves;
          written = a.written;
          went = a.went;
          few = (let f = a.few in omega arith);
          reals = a.reals;
          racks = a.racks;
          tail = a.tail;
          counted = a.counted;
          bytes = a.bytes;
        }

    pub trip_anew : {j : ℕ} → Trip g c (relogged s j) t s' t' → Trip g c s t s' t'
    trip_anew a =
        record {
          moves = a.moves;
          written = a.written;
          went = a.went;
          few = a.few;
          reals = a.reals;
          racks = a.racks;
          tail = a.tail;
          counted = a.counted;
          bytes = a.bytes;
        }

    pub trip_logged : (j : ℕ) → Trip g c s t s' t' → Trip g c s t (relogged s' j) t'
    trip_logged j a =
        record {
          moves = a.moves;
          written = a.written;
          went = a.went;
          few = a.few;
          reals = a.reals;
          racks = a.racks;
          tail = a.tail;
          counted = a.counted;
          bytes = a.bytes;
        }

    pub journey_more : {l l' : List ℕ} (d : ℕ) → c ≤ d → Journey g c s l t s' l' t' → Journey g d s l t s' l' t'
    unfolding trip_more
    journey_more d le a =
        record { trip = trip_more d le a.trip; log = a.log; logged = a.logged; entries = a.entries; trail = a.trail }

  module _ {c d : ℕ} {s s' s'' : State} {t t' t'' : List ℕ} where
    pub trip_append : Trip g c s t s' t' → Trip g d s' t' s'' t'' → Trip g (c + d) s t s'' t''
    trip_append a b =
        record {
          moves = a.moves ++ b.moves;
          written = a.written ++ b.written;
          went =
              went_append a.went
              (subst (λ (m : ℕ). Went (Edge g) m (row s'.racks) b.moves b.written (row s''.racks)) a.reals b.went);
          few = (let n = length-append a.moves b.moves in let x = a.few in let y = b.few in omega arith);
          reals = b.reals ∙ a.reals;
          racks = b.racks ∙ a.racks;
          tail = b.tail ∙ a.tail;
          counted = (let n = length-append a.written b.written in let x = a.counted in let y = b.counted in omega arith);
          bytes =
              b.bytes
              ∙ ap (λ (x : List ℕ). packed_on x s'.written b.written) a.bytes
              ∙ ap (λ (i : ℕ). packed_on (packed_on t s.written a.written) i b.written) a.counted
              ∙ sym (packed_on_append a.written b.written t s.written);
        }

    pub journey_append : {l l' l'' : List ℕ} → Journey g c s l t s' l' t' → Journey g d s' l' t' s'' l'' t''
        → Journey g (c + d) s l t s'' l'' t''
    unfolding trip_append
    journey_append {l} {l'' = l''} a b =
        let ms = a.trip.moves in
        let ns = b.trip.moves in
        record {
          trip = trip_append a.trip b.trip;
          log = b.log ∙ a.log;
          logged = (let n = length-append ms ns in let x = a.logged in let y = b.logged in omega arith);
          entries =
              b.entries
              ∙ ap (λ (x : List ℕ). noted x s'.logged ns) a.entries
              ∙ ap (λ (i : ℕ). noted (noted l s.logged ms) i ns) a.logged
              ∙ sym (noted_append ms ns l s.logged);
          trail = λ i past le x.
              subst (Trail l'' i s''.logged) (sym (onto_append ms ns past))
              (b.trail i (onto ms past) (let y = a.logged in omega arith) (a.trail i past le x));
        }

  module _ {c : ℕ} {s s' : State} {l t l' t' : List ℕ} (a : Journey g c s l t s' l' t') where
    pub journey_trail : (i : ℕ) (past : List (ℕ × ℕ)) → i ≤ s.logged → Trail l i s.logged past → Trail l' i s.logged past
    journey_trail i past le x = trail_below a.trip.moves past s.logged a.logged (a.trail i past le x)

    pub journey_others : (i : ℕ) → (i < s.logged) ⊎ (s'.logged ≤ i) → row l' i ≡ row l i
    journey_others i other =
        ap (λ (x : List ℕ). row x i) a.entries
        ∙ ⊎_elim
        (λ low. noted_below a.trip.moves l s.logged i low)
        (λ high. noted_beyond a.trip.moves l s.logged i (let n = a.logged in omega arith))
        other

  module _ {P : ℕ → Type 0} where
    pub journey_in_none : (s : State) (l t : List ℕ) → JourneyIn P g 0 s l t s l t
    unfolding journey_none trip_none
    journey_in_none s l t = record { journey = journey_none s l t; within = Within.none }

    pub journey_in_append : {c d : ℕ} {s s' s'' : State} {l t l' t' l'' t'' : List ℕ} → JourneyIn P g c s l t s' l' t'
        → JourneyIn P g d s' l' t' s'' l'' t'' → JourneyIn P g (c + d) s l t s'' l'' t''
    unfolding journey_append trip_append
    journey_in_append a b = record { journey = journey_append a.journey b.journey; within = within_append a.within b.within }

    module _ {s s' : State} {l t l' t' : List ℕ} where
      pub journey_in_more : {c : ℕ} (d : ℕ) → c ≤ d → JourneyIn P g c s l t s' l' t' → JourneyIn P g d s l t s' l' t'
      unfolding journey_more trip_more
      journey_in_more d le a = record { journey = journey_more d le a.journey; within = a.within }

      pub journey_in_less : {Q : ℕ → Type 0} {c : ℕ} → ((p : ℕ) → P p → Q p) → JourneyIn P g c s l t s' l' t'
          → JourneyIn Q g c s l t s' l' t'
      journey_in_less f a = record { journey = a.journey; within = within_less f a.within }

      pub journey_in_one : (a b : ℕ) → Movable a b (row s.racks) → Passed a b (row s.racks) (row s'.racks) → P a → P b
          → Journey g 1 s l t s' l' t' → JourneyIn P g 1 s l t s' l' t'
      journey_in_one a b m x pa pb y =
          record {
            journey = y;
            within =
                went_one a b m.held x.left m.vacant (λ e. m.held (sym x.entered ∙ e)) pa pb y.trip.went y.trip.few;
          }

  pub journey_by_none : (s : State) (l t : List ℕ) → JourneyBy [] [] g 0 s l t s l t
  unfolding journey_none trip_none
  journey_by_none s l t = record { journey = journey_none s l t; moves = refl; written = refl }

  module _ {ms : List (ℕ × ℕ)} {ws : List (ℕ × ℕ × ℕ)} {c : ℕ} {s s' : State} {l t l' t' : List ℕ} where
    pub journey_by_more : (d : ℕ) → c ≤ d → JourneyBy ms ws g c s l t s' l' t' → JourneyBy ms ws g d s l t s' l' t'
    unfolding journey_more trip_more
    journey_by_more d le a = record { journey = journey_more d le a.journey; moves = a.moves; written = a.written }

    pub journey_by_append : {ns : List (ℕ × ℕ)} {xs : List (ℕ × ℕ × ℕ)} {d : ℕ} {s'' : State} {l'' t'' : List ℕ}
        → JourneyBy ms ws g c s l t s' l' t' → JourneyBy ns xs g d s' l' t' s'' l'' t''
        → JourneyBy (ms ++ ns) (ws ++ xs) g (c + d) s l t s'' l'' t''
    unfolding journey_append trip_append
    journey_by_append a b =
        record {
          journey = journey_append a.journey b.journey;
          moves = both a.moves b.moves;
          written = both a.written b.written;
        }
      where
        both : {A : Type 0} {x y u v : List A} → x ≡ y → u ≡ v → x ++ u ≡ y ++ v
        both {A} {y = y} {u} e f = ap (λ (z : List A). z ++ u) e ∙ ap (λ (z : List A). y ++ z) f

    pub journey_by_to : {ns : List (ℕ × ℕ)} {xs : List (ℕ × ℕ × ℕ)} → ms ≡ ns → ws ≡ xs → JourneyBy ms ws g c s l t s' l' t'
        → JourneyBy ns xs g c s l t s' l' t'
    journey_by_to e f a = record { journey = a.journey; moves = a.moves ∙ e; written = a.written ∙ f }

    pub journey_by_went : JourneyBy ms ws g c s l t s' l' t' → Went (Edge g) s.real (row s.racks) ms ws (row s'.racks)
    journey_by_went a =
        subst (λ (xs : List (ℕ × ℕ × ℕ)). Went (Edge g) s.real (row s.racks) ms xs (row s'.racks)) a.written
        (subst (λ (ns : List (ℕ × ℕ)). Went (Edge g) s.real (row s.racks) ns a.journey.trip.written (row s'.racks))
        a.moves a.journey.trip.went)

  -- a trip writes no more moves than it makes
  module _ {c : ℕ} {s s' : State} {t t' : List ℕ} (a : Trip g c s t s' t') where
    pub trip_written : s'.written ≤ s.written + c
    trip_written = let n = went_written a.went in let f = a.few in let e = a.counted in omega arith

    pub real_named : s.real ≤ 64 → s'.real ≤ 64
    real_named few = subst (λ (m : ℕ). m ≤ 64) (sym a.reals) few

    pub trip_packed : (old : List ℕ) (ws : List (ℕ × ℕ × ℕ)) → s.written ≡ length ws
        → (18 * (s.written + length a.written) + 7) / 8 ≤ length old → Packed old ws t → Packed old (ws ++ a.written) t'
    trip_packed old ws e room p =
        subst (Packed old (ws ++ a.written)) (sym a.bytes) (packed_on-packed old ws a.written t s.written e room p)

  pub fits_then : {c d : ℕ} {s s' : State} {l t l' t' : List ℕ} → Fits s l t (c + d) → Journey g c s l t s' l' t' → Fits s' l' t' d
  fits_then f a =
      let few = a.trip.few in
      let logged = a.logged in
      let written = trip_written a.trip in
      let room = f.room in
      let tail = a.trip.tail in
      let log = f.logged in
      record {
        racks = a.trip.racks ∙ f.racks;
        log = a.log ∙ f.log;
        logged = omega arith;
        few_racks = real_named a.trip f.few_racks;
        room = omega arith;
      }

  pub room_then : {c d : ℕ} {s s' : State} {l t l' t' : List ℕ} → Room s l t (c + d) → length l' ≡ length l → Trip g c s t s' t'
      → Room s' l' t' d
  room_then f log a =
      let written = trip_written a in
      let room = f.room in
      let tail = a.tail in
      record { racks = a.racks ∙ f.racks; log = log ∙ f.log; few_racks = real_named a f.few_racks; room = omega arith }

  pub space_then : {c d : ℕ} {s s' : State} {t t' : List ℕ} → Space s t (c + d) → Trip g c s t s' t' → Space s' t' d
  space_then f a =
      let written = trip_written a in
      let room = f.room in
      let tail = a.tail in
      record { racks = a.racks ∙ f.racks; few_racks = real_named a f.few_racks; room = omega arith }

module _ {c : ℕ} {s : State} {l t : List ℕ} where
  pub fits_less : (d : ℕ) → d ≤ c → Fits s l t c → Fits s l t d
  fits_less d le f =
      let room = f.room in
      let log = f.logged in
      record { racks = f.racks; log = f.log; logged = omega arith; few_racks = f.few_racks; room = omega arith }

  -- a log begun anew
  pub fits_anew : (d : ℕ) → d ≤ c → d ≤ 8256 → Room s l t c → Fits (relogged s 0) l t d
  fits_anew d le log f =
      let room = f.room in
      record { racks = f.racks; log = f.log; logged = omega arith; few_racks = f.few_racks; room = omega arith }

  pub room_less : (d : ℕ) → d ≤ c → Room s l t c → Room s l t d
  room_less d le f = let room = f.room in record { racks = f.racks; log = f.log; few_racks = f.few_racks; room = omega arith }

  pub fits_space : Fits s l t c → Space s t c
  fits_space f = record { racks = f.racks; few_racks = f.few_racks; room = f.room }

  pub space_room : length l ≡ 8256 → Space s t c → Room s l t c
  space_room log f = record { racks = f.racks; log = log; few_racks = f.few_racks; room = f.room }

pub space_relogged : {c : ℕ} {s : State} {t : List ℕ} (j : ℕ) → Space s t c → Space (relogged s j) t c
space_relogged j f = record { racks = f.racks; few_racks = f.few_racks; room = f.room }

pub space_less : {c : ℕ} {s : State} {t : List ℕ} (d : ℕ) → d ≤ c → Space s t c → Space s t d
space_less d le f = let room = f.room in record { racks = f.racks; few_racks = f.few_racks; room = omega arith }

-- Rows with just one edge, so that what holds of a move along an edge of any rows holds of some.
edge_of : (a b : ℕ) → a < 64 → Edge (set (replicate 64 0) a (2 ^ b)) a b
edge_of a b l =
    subst (λ (x : ℕ). Has x b)
    (sym (get_or-set_same (replicate 64 0) a (2 ^ b) 0 (let n = length-replicate {A = ℕ} 64 0 in omega arith)))
    ((has_only b b).1 refl)

pub fits_move : {s s' : State} {l t l' t' : List ℕ} (a b d : ℕ) → a < 64 → Fits s l t (1 + d)
    → JourneyOn (Joins a b) 1 s l t s' l' t' → Fits s' l' t' d
fits_move a b d l f made = fits_then f (made (set (replicate 64 0) a (2 ^ b)) (edge_of a b l))

pub moved-relogged : {a b : ℕ} {s s' : State} {t t' : List ℕ} (i j : ℕ) → Moved a b s t s' t'
    → Moved a b (relogged s i) t (relogged s' j) t'
moved-relogged i j x = record { table = x.table; reals = x.reals; real = x.real; stand_in = x.stand_in }

-- a trip of just the move from a to b
pub record Single (g : List ℕ) (a b : ℕ) (s : State) (t : List ℕ) (s' : State) (t' : List ℕ) : Type 0 where
  pub trip : Trip g 1 s t s' t'
  pub is : trip.moves ≡ (a, b) ∷ []

module _ (h : List ℕ) (a b : ℕ) (long : length h ≡ 64) (m : Movable a b (row h)) where
  differ : a ≢ b
  differ e = m.held (ap (row h) e ∙ m.vacant)

  made-passed : Passed a b (row h) (row (made h a b))
  made-passed =
      let la = m.leaves in
      let lb = m.enters in
      record {
        left = get_or-set_same (set h b (row h a)) a 0 0 (let n = length-set h b (row h a) in omega arith);
        entered =
            get_or-set_other (set h b (row h a)) a b 0 0 (λ e. differ (sym e)) ∙ get_or-set_same h b (row h a) 0 (omega arith);
        others = λ p x y. get_or-set_other (set h b (row h a)) a p 0 0 x ∙ get_or-set_other h b p (row h a) 0 y;
      }

module _ {a b : ℕ} {s s' : State} {t t' : List ℕ} (long : length s.racks ≡ 64) (m : Movable a b (row s.racks))
    (x : Moved a b s t s' t') where
  pub moved-passed : Passed a b (row s.racks) (row s'.racks)
  moved-passed =
      subst (λ (k : List ℕ). Passed a b (row s.racks) (row k)) (sym x.table) (made-passed s.racks a b long m)

  module _ (g : List ℕ) (edge : Edge g a b) where
    move : Move (Edge g) (row s.racks) a b (row s'.racks)
    move =
        let p = moved-passed in
        record {
          edge = edge;
          held = m.held;
          vacant = m.vacant;
          entered = p.entered;
          left = p.left;
          others = p.others;
        }

    single : (ws : List (ℕ × ℕ × ℕ)) → Went (Edge g) s.real (row s.racks) ((a, b) ∷ []) ws (row s'.racks)
        → s'.written ≡ s.written + length ws → length t' ≡ length t → t' ≡ packed_on t s.written ws
        → Single g a b s t s' t'
    single ws went counted tail bytes =
        record {
          trip = record {
            moves = (a, b) ∷ [];
            written = ws;
            went = went;
            few = omega arith;
            reals = x.reals;
            racks =
                ap length x.table
                ∙ length-set (set s.racks b (row s.racks a)) a 0
                ∙ length-set s.racks b (row s.racks a);
            tail = tail;
            counted = counted;
            bytes = bytes;
          };
          is = refl;
        }

    pub moved_single : Single g a b s t s' t'
    unfolding packed_on
    moved_single =
        by_cases (dec_le (row s.racks a) s.real)
        (λ l.
        let y = x.real l in
        let r = row s.racks a in
        single ((a, b, r) ∷ []) (real move refl l (stay (same_refl (row s'.racks)))) y.1
        (ap length y.0 ∙ length-put_positions t (move_size true * s.written) (units true (a, b, r))) y.0)
        (λ l.
        let above : s.real < row s.racks a = omega arith in
        let y = x.stand_in above in
        let same = y.1 in
        single [] (stand_in move above (stay (same_refl (row s'.racks)))) (omega arith) (ap length y.0) y.0)

    pub moved_trip : Trip g 1 s t s' t'
    moved_trip = moved_single.trip

    pub moved_journey : (l l' : List ℕ) (j : ℕ) → j ≡ s.logged + 1 → Fits s l t 1 → l' ≡ set l s.logged (a * 64 + b)
        → Journey g 1 s l t (relogged s' j) l' t'
    unfolding onto noted trip_logged
    moved_journey l l' j next fits log =
        let o = moved_single in
        record {
          trip = trip_logged j o.trip;
          log = ap length log ∙ length-set l s.logged (a * 64 + b);
          logged = (let n : length o.trip.moves ≡ 1 = ap length o.is in omega arith);
          entries = log ∙ ap (noted l s.logged) (sym o.is);
          trail = λ i past le y.
              subst (λ (ms : List (ℕ × ℕ)). Trail l' i j (onto ms past)) (sym o.is)
              (subst (λ (k : List ℕ). Trail k i j ((a, b) ∷ past)) (sym log)
              (subst (λ (k : ℕ). Trail (set l s.logged (a * 64 + b)) i k ((a, b) ∷ past)) (sym next)
              (trail_next l i s.logged a b m.leaves m.enters (let n = fits.log in let r = fits.logged in omega arith) y)));
        }
