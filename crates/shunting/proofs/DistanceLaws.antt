-- Laws of how far a position is from the nearest vacancy.
--
--     at_most_inside    at most n positions are in a set of positions below n (graph's FewLaws has the laws below it)
--     at_most_without   one less without a position that is in it, of sets
--     at_most_seats     at most s where each stands at one of s places of a row
--     shortest_few      a shortest walk has at most as many positions as are allowed
--     way_same, distance-same, reaches-same    the same positions allowed: the same ways, the same distance
--     distance_one      there is one distance only; distance_way    and then there is a way
--     vacant_here       a vacant position is 0 away from the nearest vacancy; vacant_beside    an occupied one beside a vacancy is 1 away
--     held_no_way       no vacancy has a way to a held position, not even the position itself
--     distance_few      it is below the number of positions allowed
--     reaches_back      a vacancy has a way where a walk leads to it, since edges join both ways
--     free_within       where all is held but a region, the free positions are those of the region
-- Assumes nothing.
use Prim.Native.Nat.{ℕ, zero, suc, ◌-◌, ◌≤◌, ◌<◌}
use mathlib.Core.Path.{◌≡◌, sym, ap, ◌∙◌}
use mathlib.Core.Logic.{◌↔◌, ◌≢◌, ⊎_elim, by_cases}
use native.Mathlib.Decide.{ℕ_discrete, dec_lt}
use native.Mathlib.Omega.{arith}
use Rattle.sets.specs.Sets.{Has}
use Rattle.sets.proofs.SetLaws.{has_or_not}
use Rattle.sets.proofs.CountLaws.{pigeonhole}
use Rattle.graph.specs.Walk.{Walk, Symmetric}
use Rattle.graph.specs.Walk.Walk.{alone, step}
use Rattle.graph.proofs.WalkLaws.{walk_some, walk_alone, walk_last, walk_inside, walk_reverse}
pub use Rattle.graph.proofs.FewLaws.{at_most_below, at_most_less, at_most_more, at_most_except}
use Rattle.graph.proofs.FewLaws.{walk_few}
use Rattle.shunting.specs.Distance.{Unheld, WayFrom, NoWay, Distance, Reaches, AtMost}
use Rattle.shunting.specs.Cleared.{Inside}

pub at_most_inside : {P : ℕ → Type 0} (n : ℕ) → ((p : ℕ) → P p → p < n) → AtMost (suc (n - 1)) P
at_most_inside n inside = at_most_more (suc (n - 1)) (omega arith) (at_most_less inside (at_most_below n))

pub at_most_without : (set rest : ℕ) {x c : ℕ} → Has set x → ((p : ℕ) → Has rest p ↔ (Has set p × (p ≢ x))) → AtMost (suc c) (Has set)
    → AtMost c (Has rest)
at_most_without set rest there without few =
    at_most_less (λ p h. record { there = ((without p).0 h).0; other = ((without p).0 h).1 }) (at_most_except there few)

module _ {P : ℕ → Type 0} (at : ℕ → ℕ) (s : ℕ) (seats : (p : ℕ) → P p → (j : ℕ) × (j < s) × (at j ≡ p)) where
  module _ (f : ℕ → ℕ) (k : ℕ) (inside : (i : ℕ) → i < k → P (f i)) where
    seat : (i : ℕ) → Dec (i < k) → ℕ
    seat i (yes l) = (seats (f i) (inside i l)).0
    seat i (no l) = 0

    seat_less : (i : ℕ) (d : Dec (i < k)) → i < k → seat i d < s
    unfolding seat
    seat_less i (yes l) h = (seats (f i) (inside i l)).1
    seat_less i (no l) h = absurd (l h)

    seat_is : (i : ℕ) (d : Dec (i < k)) → i < k → at (seat i d) ≡ f i
    unfolding seat
    seat_is i (yes l) h = (seats (f i) (inside i l)).2
    seat_is i (no l) h = absurd (l h)

  pub at_most_seats : AtMost s P
  at_most_seats = record {
    different = λ f k inside distinct.
        pigeonhole s (λ i. seat f k inside i (dec_lt i k)) k (λ i l. seat_less f k inside i (dec_lt i k) l)
        (λ i j l h e. distinct i j l h
        (sym (seat_is f k inside i (dec_lt i k) (omega arith)) ∙ ap at e ∙ seat_is f k inside j (dec_lt j k) h));
  }

pub shortest_few : (k : ℕ) {E : ℕ → ℕ → Type 0} {P : ℕ → Type 0} {a b c : ℕ} → AtMost c P → Walk E P a b k
    → ((j : ℕ) → Walk E P a b j → k ≤ j) → k ≤ c
shortest_few k {c = c} few w least = let r = walk_few c few w in let m = least r.0 r.2 in let l = r.1 in omega arith

module _ {E : ℕ → ℕ → Type 0} {P Q : ℕ → Type 0} {h : ℕ → ℕ} {p : ℕ} where
  pub way_same : {d : ℕ} → ((q : ℕ) → P q → Q q) → WayFrom E P h p d → WayFrom E Q h p d
  way_same to w = record { from = w.from; vacant = w.vacant; walk = walk_inside to w.walk }

  pub distance-same : {d : ℕ} → ((q : ℕ) → P q → Q q) → ((q : ℕ) → Q q → P q) → Distance E P h p d → Distance E Q h p d
  distance-same to from x =
      record {
        way = way_same to x.way;
        shortest = λ e w.
            x.shortest e (record { from = w.from; vacant = w.vacant; walk = walk_inside from w.walk });
      }

module _ {E : ℕ → ℕ → Type 0} {P : ℕ → Type 0} {h : ℕ → ℕ} {p : ℕ} where
  pub distance_one : {d e : ℕ} → Distance E P h p d → Distance E P h p e → d ≡ e
  distance_one {d} {e} x y = let l = x.shortest e y.way in let m = y.shortest d x.way in omega arith

  pub distance_way : {d : ℕ} → Distance E P h p d → NoWay E P h p → ⊥
  distance_way {d} x none = none d x.way

  pub vacant_here : P p → h p ≡ 0 → Distance E P h p 0
  vacant_here there vacant =
      record { way = record { from = p; vacant = vacant; walk = alone there }; shortest = λ e w. omega arith }

  pub vacant_beside : (z : ℕ) → P z → P p → E z p → h z ≡ 0 → h p ≢ 0 → Distance E P h p 1
  vacant_beside z from to edge vacant held =
      record {
        way = record { from = z; vacant = vacant; walk = step from edge (alone to) };
        shortest = λ e w. by_cases (ℕ_discrete e 0)
            (λ q. absurd (held (ap h (walk_alone w.walk (let one : suc e ≡ 1 = omega arith in one)) ∙ w.vacant)))
            (λ q. omega arith);
      }

  pub distance_few : {c d : ℕ} → AtMost c P → Distance E P h p d → d < c
  distance_few {c} {d} few x =
      let w = x.way in
      let r : suc d ≤ c = shortest_few (suc d) few w.walk (λ j u. least j u (walk_some u)) in
      omega arith
    where
      least : (j : ℕ) → Walk E P x.way.from p j → 0 < j → suc d ≤ j
      least zero u some = absurd (never some)
        where
          never : 0 < 0 → ⊥
          never l = omega arith
      least (suc j) u some = let m = x.shortest j (record { from = x.way.from; vacant = x.way.vacant; walk = u }) in omega arith

  pub reaches_back : Symmetric E → (z k : ℕ) → h z ≡ 0 → Walk E P p z k → Reaches E P h p
  reaches_back symmetric z zero vacant w = absurd (never (walk_some w))
    where
      never : 0 < 0 → ⊥
      never l = omega arith
  reaches_back symmetric z (suc k) vacant w = (k, record { from = z; vacant = vacant; walk = walk_reverse symmetric w })

pub held_no_way : {E : ℕ → ℕ → Type 0} {h : ℕ → ℕ} (n held p : ℕ) → Has held p → NoWay E (Unheld n held) h p
held_no_way n held p fast d w = (walk_last w.walk).loose fast

pub free_within : (n region held all : ℕ) → Inside n region → ((q : ℕ) → Has all q ↔ (q < n))
    → ((q : ℕ) → Has held q ↔ (Has all q × (Has region q → ⊥))) → (q : ℕ) → Unheld n held q ↔ Has region q
free_within n region held all inside below rest q = (
  λ x. ⊎_elim
      (λ h. h)
      (λ e. absurd (x.loose ((rest q).1 ((below q).1 x.inside, λ h. clash (sym h ∙ e)))))
      (has_or_not region q),
  λ h. record { inside = inside q h; loose = λ x. ((rest q).0 x).1 h },
)
  where
    clash : ◌≡◌ {A = ℕ} 1 0 → ⊥
    clash e = omega arith
