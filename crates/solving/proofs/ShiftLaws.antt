-- Laws of the shifted goal.
--
--     reaches-first, reaches-second    a walk to a vacancy, from x and then from y with x held
--     few_all, few_rest    there are at most n positions, and n - 1 with x held
--     none_written     where no rack is real no move is written
--     tail-kept        and the plan's bytes stay as they are
--     shifted          both clearings make the shift
-- Assumes nothing.
use Prim.Native.Nat.{ℕ, suc, ◌-◌, ◌≤◌, ◌<◌}
use mathlib.Core.Path.{◌≡◌, refl, sym, ap, ◌∙◌}
use mathlib.Core.List.{List, []}
use mathlib.Core.Logic.{◌↔◌, ◌≢◌}
use native.Mathlib.Omega.{arith}
use lib.ListN.{length}
use Rattle.sets.specs.Sets.{Has}
use Rattle.graph.specs.Walk.{Symmetric}
use Rattle.graph.proofs.WalkLaws.{walk_inside}
use Rattle.graph.specs.Connected.{BiConnected}
use Rattle.graph.specs.Rows.{row, Edge, Rows}
use Rattle.moving.specs.Went.{Went}
use Rattle.moving.specs.Went.Went.{stay, real, stand_in}
use Rattle.moving.specs.declared.State.{State}
use Rattle.moving.specs.Journey.{packed_on, Trip, Journey}
use Rattle.moving.specs.Journey.Trail.{start}
use Rattle.moving.proofs.JourneyLaws.{journey_append}
use Rattle.shunting.specs.Distance.{Reaches, AtMost}
use Rattle.shunting.proofs.DistanceLaws.{at_most_inside, at_most_more, at_most_without, reaches_back}
use Rattle.shunting.specs.Cleared.{Cleared}
use Rattle.moving.specs.Table.{Table}
use Rattle.moving.proofs.TableLaws.{table_went, table_other}
use Rattle.solving.specs.Shift.{aimed, TwoPositions, Shift}

module _ {n : ℕ} (g : List ℕ) (symmetric : Symmetric (Edge g)) (bi : BiConnected n (Edge g)) {x y : ℕ} (two : TwoPositions n x y) (all : ℕ)
    (has : (p : ℕ) → Has all p ↔ (p < n)) where
  pub reaches-first : {h : ℕ → ℕ} → Table n h → Reaches (Edge g) (Has all) h x
  reaches-first t =
      let way = bi.connected x t.first two.first t.first_inside in
      reaches_back symmetric t.first way.size t.first_vacant (walk_inside (λ p l. (has p).1 l) way.walk)

  pub reaches-second : {h : ℕ → ℕ} (free : ℕ) → ((p : ℕ) → Has free p ↔ (Has all p × (p ≢ x))) → Table n h
      → Reaches (Edge g) (Has free) h y
  reaches-second free less t =
      let z = table_other t x in
      let way = bi.without x two.first y z.0
      (record { there = two.second; other = λ e. two.differ (sym e) }) (record { there = z.1; other = z.2 }) in
      reaches_back symmetric z.0 way.size z.3 (walk_inside (λ p q. (less p).1 ((has p).1 q.there, q.other)) way.walk)

-- all positions, and all but x
module _ {n : ℕ} (all : ℕ) (has : (p : ℕ) → Has all p ↔ (p < n)) where
  pub few_all : AtMost (suc (n - 1)) (Has all)
  few_all = at_most_inside n (λ p h. (has p).0 h)

  pub few_rest : {x : ℕ} → x < n → (free : ℕ) → ((p : ℕ) → Has free p ↔ (Has all p × (p ≢ x))) → AtMost (suc (n - 2)) (Has free)
  few_rest {x} inside free less =
      at_most_without all free ((has x).1 inside) less (at_most_more (suc (suc (n - 2))) (omega arith) few_all)

pub none_written : {E : ℕ → ℕ → Type 0} {h k : ℕ → ℕ} {ms : List (ℕ × ℕ)} {ws : List (ℕ × ℕ × ℕ)} → Went E 0 h ms ws k → ws ≡ []
none_written (stay s) = refl
none_written (real {h = h} {a = a} m e low w) = absurd (m.held (zero (h a) low))
  where
    zero : (r : ℕ) → r ≤ 0 → r ≡ 0
    zero r l = omega arith
none_written (stand_in m low w) = none_written w

pub tail-kept : {g : List ℕ} {c : ℕ} (k : List ℕ) {s : State} {t t' : List ℕ} → Trip g c (aimed k) t s t' → t' ≡ t
unfolding packed_on
tail-kept k {t = t} a = a.bytes ∙ ap (packed_on t 0) (none_written a.went)

module _ {n : ℕ} {g : List ℕ} (rows : Rows n g) (x y all free : ℕ) (less : (p : ℕ) → Has free p ↔ (Has all p × (p ≢ x))) (k : List ℕ)
    (table : Table n (row k)) where
  pub shifted : {s₁ s₂ : State} {l t l₁ t₁ l₂ t₂ : List ℕ} → length l ≡ 8256 → Journey g (n - 1) (aimed k) l t s₁ l₁ t₁
      → Cleared (Has all) x (row k) (row s₁.racks) → Journey g (n - 2) s₁ l₁ t₁ s₂ l₂ t₂
      → Cleared (Has free) y (row s₁.racks) (row s₂.racks) → Shift n g x y k s₂ l₂ × (t₂ ≡ t)
  shifted long a c₁ b c₂ =
      let both = journey_append a b in (
        record {
          moves = both.trip.moves;
          written = both.trip.written;
          went = both.trip.went;
          few = (let f = both.trip.few in let e = both.logged in omega arith);
          trail = both.trail 0 [] (omega arith) start;
          long = both.log ∙ long;
          table = table_went rows.inside both.trip.went table;
          first = c₂.outside x (λ f. ((less x).0 f).1 refl) ∙ c₁.vacant;
          second = c₂.vacant;
        },
        tail-kept k both.trip,
      )
