-- What the loop of `turning::undo` keeps: part of the log is taken back, and what is left of it leads on to the same table.
--
--     first l i, second l i    the two positions of the log's entry i
--     trail_long           a trail has as many moves as entries
--     Top, trail_top       a trail's last entry, and the trail below it
--     Left                 the moves that are left to take back, and the trip so far
--     Taking               the loop's invariant
--     taking_begin, taking_skip, taking_move, taking_end    where the loop begins; a move is skipped; a move is taken back; where the loop
--                               ends
--     taking_space         there is room for it
-- Assumes nothing.
use Prim.Native.Nat.{ℕ, ◌+◌, ◌-◌, ◌*◌, ◌/◌, ◌%◌, ◌≤◌, ◌<◌}
use mathlib.Core.Path.{◌≡◌, refl, sym, ap, subst, ◌∙◌}
use mathlib.Core.List.{List, [], ◌∷◌}
use mathlib.Core.Logic.{◌≢◌, by_cases}
use native.Mathlib.Decide.{ℕ_discrete}
use native.Mathlib.Omega.{arith}
use lib.ListN.{length}
use Rattle.graph.specs.Rows.{row, Edge}
use Rattle.moving.specs.Went.{Same, Move, Back}
use Rattle.moving.specs.declared.State.{State}
use Rattle.moving.specs.Journey.{Trail, Space, Moved, Trip}
use Rattle.moving.specs.Journey.Trail.{start, entry}
use Rattle.moving.proofs.JourneyLaws.{trip_none, trip_append, trip_more, trip_written, real_named}
use Rattle.moving.proofs.JourneyLaws.{moved-passed, moved_trip}
use Rattle.moving.specs.OnePlace.{Movable, Passed}
use Rattle.turning.specs.Undone.{Undoing, Undoable, Undone}
use Rattle.turning.proofs.BackLaws.{Step, back_from, back_none, back_skipped, back_taken}

abbrev pub first : List ℕ → ℕ → ℕ
first l i = row l i / 64 % 64

abbrev pub second : List ℕ → ℕ → ℕ
second l i = row l i % 64

pub trail_long : {l : List ℕ} {s j : ℕ} {past : List (ℕ × ℕ)} → Trail l s j past → j ≡ s + length past
trail_long start = omega arith
trail_long (entry is x y t) = let n = trail_long t in omega arith

pub record Top (l : List ℕ) (s i : ℕ) (past : List (ℕ × ℕ)) : Type 0 where
  pub rest : List (ℕ × ℕ)
  pub is : past ≡ (first l i, second l i) ∷ rest
  pub below : Trail l s i rest

pub trail_top : {l : List ℕ} {s j : ℕ} {past : List (ℕ × ℕ)} (i : ℕ) → j ≡ i + 1 → s ≤ i → Trail l s j past → Top l s i past
trail_top i e le start = absurd (omega arith)
trail_top {l} {s} i e le (entry {j = j} {a} {b} {past} is x y t) =
    let q : j ≡ i = omega arith in
    let v : row l i ≡ a * 64 + b = subst (λ (n : ℕ). row l n ≡ a * 64 + b) q is in
    let f : a ≡ first l i = omega arith in
    let g : b ≡ second l i = omega arith in
    record { rest = past; is = cc; below = subst (λ (n : ℕ). Trail l s n past) q t }

-- a move made, and the same move as it is known to lead on: the tables agree
passed-same : {E : ℕ → ℕ → Type 0} {a b : ℕ} {h k f : ℕ → ℕ} → Passed a b h k → Move E h a b f → Same k f
passed-same {a = a} {b} {h} {k} {f} x m p =
    by_cases (ℕ_discrete p a)
    (λ q. ap k q ∙ x.left ∙ sym (ap f q ∙ m.left))
    (λ n. by_cases (ℕ_discrete p b)
    (λ q. ap k q ∙ x.entered ∙ sym (ap f q ∙ m.entered))
    (λ o. x.others p n o ∙ sym (m.others p n o)))

-- x and t are what the loop began with, x' and t' what it has now, with the log's entries from s up to i left.
pub record Left (g l : List ℕ) (s j : ℕ) (x : State) (t : List ℕ) (x' : State) (t' : List ℕ) (i : ℕ) (k : ℕ → ℕ) : Type 0 where
  pub rest : List (ℕ × ℕ)
  pub undoing : Undoing g x'.racks l s i rest k
  pub trip : Trip g (j - i) x t x' t'

pub record Taking (l : List ℕ) (s j : ℕ) (x : State) (t : List ℕ) (x' : State) (t' : List ℕ) (i : ℕ) : Type 0 where
  pub low : s ≤ i
  pub high : i ≤ j
  pub left : (g : List ℕ) (past : List (ℕ × ℕ)) (k : ℕ → ℕ) → Undoing g x.racks l s j past k → Left g l s j x t x' t' i k

pub taking_begin : (l : List ℕ) (s j : ℕ) (x : State) (t : List ℕ) → s ≤ j → Taking l s j x t x t j
taking_begin l s j x t le =
    record {
      low = le;
      high = omega arith;
      left = λ g past k u. record { rest = past; undoing = u; trip = trip_more (j - j) (omega arith) (trip_none x t) };
    }

-- the last entry that is left, of a move from a to b, and those below it
module _ {g h l : List ℕ} {s i : ℕ} {past : List (ℕ × ℕ)} {k : ℕ → ℕ} (more : s < i) (u : Undoing g h l s i past k) where
  last : Top l s (i - 1) past
  last = trail_top (i - 1) (omega arith) (omega arith) u.trail

  last_back : {a b : ℕ} → a ≡ first l (i - 1) → b ≡ second l (i - 1) → Back (Edge g) (row h) ((a, b) ∷ last.rest) k
  last_back {a} {b} x y =
      let q : past ≡ (a, b) ∷ last.rest = cc last.is in
      subst (λ (v : List (ℕ × ℕ)). Back (Edge g) (row h) v k) q u.back

module _ {l : List ℕ} {s j : ℕ} {x x' : State} {t t' : List ℕ} {i : ℕ} (u : Taking l s j x t x' t' i) (more : s < i) where
  pub taking_space : Undoable x.racks l s j → Space x t (j - s) → Space x' t' 1
  taking_space v f =
      let o = (u.left _ _ _ v.3).trip in
      let high = u.high in
      let room = f.room in
      let tail = o.tail in
      let few = trip_written o in
      record { racks = o.racks ∙ f.racks; few_racks = real_named o f.few_racks; room = omega arith }

  module _ {a b : ℕ} (leaves : a ≡ first l (i - 1)) (enters : b ≡ second l (i - 1)) where
    pub taking_skip : row x'.racks b ≡ 0 → Taking l s j x t x' t' (i - 1)
    taking_skip vacant =
        record {
          low = omega arith;
          high = (let y = u.high in omega arith);
          left = λ g past k v.
              let y = u.left g past k v in
              let o = last more y.undoing in
              record {
                rest = o.rest;
                undoing = record { trail = o.below; back = back_skipped vacant (last_back more y.undoing leaves enters) };
                trip = trip_more (j - (i - 1)) (omega arith) y.trip;
              };
        }

    module _ (held : row x'.racks b ≢ 0) where
      step : {g : List ℕ} {past : List (ℕ × ℕ)} {k : ℕ → ℕ} (v : Undoing g x'.racks l s i past k)
          → Step (Edge g) (row x'.racks) a b (last more v).rest k
      step v = back_taken held (last_back more v leaves enters)

      pub taking_move : {x'' : State} {t'' : List ℕ} → Undoable x.racks l s j → Space x t (j - s) → a < 64 → b < 64
          → Moved b a x' t' x'' t'' → Taking l s j x t x'' t'' (i - 1)
      taking_move {x''} can f ha hb moved =
          let long = (taking_space can f).racks in
          record {
            low = omega arith;
            high = (let y = u.high in omega arith);
            left = λ g past k v.
                let y = u.left g past k v in
                let o = last more y.undoing in
                let z = step y.undoing in
                let can : Movable b a (row x'.racks) =
                record { leaves = hb; enters = ha; held = held; vacant = z.move.vacant }
                in
                let one = moved_trip long can moved g z.move.edge in
                let high = u.high in
                record {
                  rest = o.rest;
                  undoing = record {
                    trail = o.below;
                    back = back_from (passed-same (moved-passed long can moved) z.move) z.rest;
                  };
                  trip = trip_more (j - (i - 1)) (omega arith) (trip_append y.trip one);
                };
          }

pub taking_end : {l : List ℕ} {s j : ℕ} {x x' : State} {t t' : List ℕ} {i : ℕ} → Taking l s j x t x' t' i → i ≤ s
    → Undone l s j x t x' t'
taking_end {s = s} {j} {x' = x'} {i = i} u e g past k v =
    let y = u.left g past k v in
    let n = trail_long y.undoing.trail in
    let low = u.low in (
      trip_more (j - s) (omega arith) y.trip,
      back_none
          (subst (λ (r : List (ℕ × ℕ)). Back (Edge g) (row x'.racks) r k) (empty y.rest (omega arith)) y.undoing.back),
    )
  where
    empty : (r : List (ℕ × ℕ)) → length r ≡ 0 → r ≡ []
    empty [] z = refl
    empty (y ∷ r) z = absurd (omega arith)
