-- Laws of what specs/Carry.antt defines: distances are those of walks, and the pair chosen is the lowest of the dearest ones.
--
--     next-joined, next_low         the next position is joined and passes, and none lower does
--     reach_walk, walk_reach        so many moves lead there exactly if a walk of so many moves does
--     dist_most, dist_walk          the distance is that of a shortest walk
--     dist_few                      on a connected floor it is below n
--     greatest_over, greatest-at    the greatest of so many numbers is above each, and is one of them
--     dearest_is                    the start, the goal and the count of moves are those of the lowest dearest pair
--     dearest_one                   there is one such pair only
--     dearest_along, whole-along    and it is the same by the same edges, as is what hangs together
-- Assumes nothing.
use Prim.Native.Nat.{ℕ, zero, suc, ◌-◌, ◌≤◌, ◌<◌}
use mathlib.Core.Path.{◌≡◌, refl, sym, subst, ap, ◌∙◌}
use mathlib.Core.Bool.{Bool, ◌&&◌}
use mathlib.Core.Logic.{◌≢◌, inl, inr, by_cases}
use native.Mathlib.Decide.{ℕ_discrete, dec_le, dec_lt}
use native.Mathlib.Nat.{le-max_left, le-max_right, max-eq_left, max-eq_right}
use native.Mathlib.Omega.{arith}
use lib.Dec.{T, eqb, ltb→lt, lt→ltb, eqb→eq, eqb_refl}
use Rattle.sets.specs.First.{first_from}
use Rattle.sets.proofs.FirstLaws.{first_passes, first_least}
use Rattle.order.specs.Floor.{Floor, joined}
use Rattle.motion.proofs.Test.{and_parts, eqb_parts}
use Rattle.graph.specs.Walk.{Walk}
use Rattle.graph.specs.Walk.Walk.{alone, step}
use Rattle.graph.proofs.WalkLaws.{walk_some, walk_first}
use Rattle.graph.proofs.FewLaws.{at_most_below, walk_few}
use Rattle.graph.specs.Connected.{Below, Whole, Connected}
use Rattle.floor.specs.FloorAnswer.{Joins}
use Rattle.floor.proofs.FloorRows.{walk_along}
use Rattle.carry.specs.Carry.{next_of, reaches, distance, greatest_below, farthest, longest, dearest_start, dearest_goal}
use Rattle.farthest.specs.Balls.{Earlier}
use Rattle.farthest.specs.Balls.{Dearest}

-- the first that passes is at most any that passes
first-low : (f : ℕ → Bool) (n i : ℕ) → T (f i) → first_from f 0 n ≤ i
first-low f n i t =
    by_cases (dec_lt i (first_from f 0 n)) (λ l. absurd (first_least f 0 n i (omega arith) l t)) (λ l. omega arith)

pub greatest_over : (f : ℕ → ℕ) (k i : ℕ) → i < k → f i ≤ greatest_below f k
unfolding greatest_below
greatest_over f zero i h = absurd (omega arith)
greatest_over f (suc k) i h =
    by_cases (ℕ_discrete i k)
    (λ e. omega (arith, ap f e, le-max_right (greatest_below f k) (f k)))
    (λ e. omega (arith, greatest_over f k i (omega arith), le-max_left (greatest_below f k) (f k)))

pub greatest-at : (f : ℕ → ℕ) (k : ℕ) → 0 < k → (i : ℕ) × (i < k) × (f i ≡ greatest_below f k)
unfolding greatest_below
greatest-at f zero h = absurd (omega arith)
greatest-at f (suc k) h =
    by_cases (dec_le (greatest_below f k) (f k))
    (λ l. (k, omega arith, sym (max-eq_right l)))
    (λ l.
    let some : 0 < k = positive k l in
    let r = greatest-at f k some in
    let high : f k ≤ greatest_below f k = omega arith in
    (r.0, omega (arith, r.1), r.2 ∙ sym (max-eq_left high)))
  where
    positive : (j : ℕ) → (greatest_below f j ≤ f j → ⊥) → 0 < j
    positive zero l = absurd (l (omega arith))
    positive (suc j) l = omega arith

module _ (F : Floor) where
  abbrev n : ℕ
  n = F.positions

  pub next-joined : (t : ℕ → Bool) (a : ℕ) → next_of F t a < n → T (joined F a (next_of F t a)) × T (t (next_of F t a))
  unfolding next_of
  next-joined t a h =
      let c = first_from (λ c. joined F a c && t c) 0 n in
      (and_parts (joined F a c) (t c)).0 (first_passes (λ c. joined F a c && t c) 0 n (omega (arith, h)))

  pub next_low : (t : ℕ → Bool) (a c : ℕ) → T (joined F a c) → T (t c) → next_of F t a ≤ c
  unfolding next_of
  next_low t a c e p = first-low (λ c. joined F a c && t c) n c ((and_parts (joined F a c) (t c)).1 (e, p))

  pub reach_walk : (k a b : ℕ) → a < n → T (reaches F k a b) → Walk (Joins F) (Below n) a b (suc k)
  unfolding reaches
  reach_walk zero a b h r = subst (λ (y : ℕ). Walk (Joins F) (Below n) a y 1) (eqb→eq a b r) (alone h)
  reach_walk (suc k) a b h r =
      let l = ltb→lt (next_of F (λ c. reaches F k c b) a) n r in
      let p = next-joined (λ c. reaches F k c b) a l in
      step h p.0 (reach_walk k (next_of F (λ c. reaches F k c b) a) b l p.1)

  walk_reached : {a b j : ℕ} → Walk (Joins F) (Below n) a b j → (k : ℕ) → j ≡ suc k → T (reaches F k a b)
  unfolding reaches
  walk_reached (alone {a = a} p) zero q = eqb_refl a
  walk_reached (alone p) (suc k) q = absurd (omega arith)
  walk_reached (step p e w) zero q = absurd (let some = walk_some w in omega arith)
  walk_reached (step {a = a} {b = c} {c = b} p e w) (suc k) q =
      let there : T (reaches F k c b) = walk_reached w k (omega arith) in
      let low = next_low (λ x. reaches F k x b) a c e there in
      let inside = walk_first w in
      lt→ltb (next_of F (λ x. reaches F k x b) a) n (omega arith)

  pub walk_reach : {a b k : ℕ} → Walk (Joins F) (Below n) a b (suc k) → T (reaches F k a b)
  walk_reach {k = k} w = walk_reached w k refl

  pub dist_most : {a b k : ℕ} → Walk (Joins F) (Below n) a b (suc k) → distance F a b ≤ k
  unfolding distance
  dist_most {a} {b} {k} w = first-low (λ j. reaches F j a b) n k (walk_reach w)

  pub dist_walk : {a b : ℕ} → a < n → distance F a b < n → Walk (Joins F) (Below n) a b (suc (distance F a b))
  unfolding distance
  dist_walk {a} {b} h l =
      reach_walk (first_from (λ j. reaches F j a b) 0 n) a b h (first_passes (λ j. reaches F j a b) 0 n (omega (arith, l)))

  module _ (whole : Connected n (Joins F)) where
    pub dist_few : (a b : ℕ) → a < n → b < n → distance F a b < n
    dist_few a b ha hb =
        let way = whole a b ha hb in
        let short = walk_few n (at_most_below n) way.walk in
        let some = walk_some short.2 in
        let size : short.0 ≡ suc (short.0 - 1) = omega arith in
        let most = dist_most (subst (Walk (Joins F) (Below n) a b) size short.2) in
        omega (arith, short.1)

    over : (a b : ℕ) → b < n → distance F a b ≤ farthest F a
    unfolding farthest
    over a b h = greatest_over (distance F a) n b h

    over_all : (a : ℕ) → a < n → farthest F a ≤ longest F
    unfolding longest
    over_all a h = greatest_over (farthest F) n a h

    module _ (some : 0 < n) where
      start_below : dearest_start F < n
      unfolding dearest_start longest
      start_below =
          let i = greatest-at (farthest F) n some in
          let low = first-low (λ a. eqb (farthest F a) (greatest_below (farthest F) n)) n i.0
          ((eqb_parts (farthest F i.0) (greatest_below (farthest F) n)).1 i.2) in
          omega (arith, i.1)

      start_is : farthest F (dearest_start F) ≡ longest F
      unfolding dearest_start
      start_is =
          let s = first_from (λ a. eqb (farthest F a) (longest F)) 0 n in
          (eqb_parts (farthest F s) (longest F)).0
          (first_passes (λ a. eqb (farthest F a) (longest F)) 0 n (omega (arith, start_below)))

      start-low : (a : ℕ) → a < dearest_start F → farthest F a ≢ longest F
      unfolding dearest_start
      start-low a h e =
          first_least (λ a. eqb (farthest F a) (longest F)) 0 n a (omega arith) h ((eqb_parts (farthest F a) (longest F)).1 e)

      goal-at : (i : ℕ) × (i < n) × (distance F (dearest_start F) i ≡ longest F)
      unfolding farthest
      goal-at =
          let r = greatest-at (distance F (dearest_start F)) n some in
          (r.0, r.1, r.2 ∙ start_is)

      goal_below : dearest_goal F < n
      unfolding dearest_goal
      goal_below =
          let i = goal-at in
          let low = first-low (λ b. eqb (distance F (dearest_start F) b) (longest F)) n i.0
          ((eqb_parts (distance F (dearest_start F) i.0) (longest F)).1 i.2) in
          omega (arith, i.1)

      pub goal_is : distance F (dearest_start F) (dearest_goal F) ≡ longest F
      unfolding dearest_goal
      goal_is =
          let g = first_from (λ b. eqb (distance F (dearest_start F) b) (longest F)) 0 n in
          (eqb_parts (distance F (dearest_start F) g) (longest F)).0
          (first_passes (λ b. eqb (distance F (dearest_start F) b) (longest F)) 0 n (omega (arith, goal_below)))

      goal-low : (b : ℕ) → b < dearest_goal F → distance F (dearest_start F) b ≢ longest F
      unfolding dearest_goal
      goal-low b h e =
          first_least (λ b. eqb (distance F (dearest_start F) b) (longest F)) 0 n b (omega arith) h
          ((eqb_parts (distance F (dearest_start F) b) (longest F)).1 e)

      pub dearest_is : Dearest n (Joins F) (dearest_start F) (dearest_goal F) (longest F)
      dearest_is = record {
        start_below = start_below;
        goal_below = goal_below;
        near = λ u v hu hv. record {
          moves = distance F u v;
          few = omega (arith, over u v hv, over_all u hu);
          walk = dist_walk hu (dist_few u v hu hv);
        };
        far = λ j w.
            let size : j ≡ suc (j - 1) = omega (arith, walk_some w) in
            let most = dist_most (subst (Walk (Joins F) (Below n) (dearest_start F) (dearest_goal F)) size w) in
            omega (arith, goal_is, walk_some w);
        earlier = λ u v hu hv e. (distance F u v, less u v hu hv e, dist_walk hu (dist_few u v hu hv));
      }
        where
          less : (u v : ℕ) → u < n → v < n → Earlier u v (dearest_start F) (dearest_goal F) → distance F u v < longest F
          less u v hu hv (inl l) = let other = start-low u l in omega (arith, over u v hv, over_all u hu)
          less u v hu hv (inr p) =
              let other = goal-low v p.1 in
              let same : distance F u v ≡ distance F (dearest_start F) v = ap (λ (x : ℕ). distance F x v) p.0 in
              omega (arith, over u v hv, over_all u hu)

module _ {n : ℕ} {E : ℕ → ℕ → Type 0} where
  -- no dearer than each other
  no_more : {a b k c d j : ℕ} → Dearest n E a b k → Dearest n E c d j → k ≤ j
  no_more {a} {b} x y =
      let r = y.near a b x.start_below x.goal_below in
      let far = x.far (suc r.moves) r.walk in
      let few = r.few in
      omega arith

  not_earlier : {a b k c d j : ℕ} → Dearest n E a b k → Dearest n E c d j → Earlier a b c d → ⊥
  not_earlier {a} {b} x y e =
      let r = y.earlier a b x.start_below x.goal_below e in
      let far = x.far (suc r.0) r.2 in
      let less = r.1 in
      let same = no_more y x in
      omega arith

  pub dearest_one : {a b k c d j : ℕ} → Dearest n E a b k → Dearest n E c d j → (a ≡ c) × (b ≡ d) × (k ≡ j)
  dearest_one {a} {b} {k} {c} {d} {j} x y = (start, goal, count)
    where
      count : k ≡ j
      count = let up = no_more x y in let down = no_more y x in omega arith

      start : a ≡ c
      start =
          by_cases (dec_lt a c) (λ l. absurd (not_earlier x y (inl l)))
          (λ l. by_cases (dec_lt c a) (λ h. absurd (not_earlier y x (inl h))) (λ h. omega arith))

      goal : b ≡ d
      goal =
          by_cases (dec_lt b d) (λ l. absurd (not_earlier x y (inr (start, l))))
          (λ l. by_cases (dec_lt d b) (λ h. absurd (not_earlier y x (inr (sym start, h)))) (λ h. omega arith))

module _ {E D : ℕ → ℕ → Type 0} (to : (a b : ℕ) → E a b → D a b) where
  pub whole-along : {P : ℕ → Type 0} → Whole E P → Whole D P
  whole-along whole u v hu hv = let w = whole u v hu hv in record { size = w.size; walk = walk_along to w.walk }

  pub dearest_along : {n a b k : ℕ} → ((a b : ℕ) → D a b → E a b) → Dearest n E a b k → Dearest n D a b k
  dearest_along from x = record {
    start_below = x.start_below;
    goal_below = x.goal_below;
    near = λ u v hu hv.
        let r = x.near u v hu hv in record { moves = r.moves; few = r.few; walk = walk_along to r.walk };
    far = λ j w. x.far j (walk_along from w);
    earlier = λ u v hu hv e. let r = x.earlier u v hu hv e in (r.0, r.1, walk_along to r.2);
  }
