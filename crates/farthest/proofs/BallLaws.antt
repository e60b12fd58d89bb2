-- Laws of balls: how each function makes them, and what the lowest pair that they miss is.
--
--     Filled Q k l, filled_none, filled_next      the first k entries of a table of 64 are as Q says, and one more is written
--     Growing g l u s q, growing_begin, growing_next, growing_end    the state of `grown_ball`: s has the ball of u and those of the
--                        neighbours that were taken from the row, q is what is left of it
--     full_next, missed_found, missed_none        `first_missed`: a ball that misses nothing, one that does, and none
--     reached_none, reached-more                  what no move reaches, and one move more
--     Rounds n g l k a b, rounds_begin, rounds_more, rounds_next, rounds_end    the state of `dearest`: the balls l of k moves, and a, b
--                        the lowest pair that those of one move less miss
-- Assumes nothing.
use Prim.Native.Nat.{ℕ, suc, ◌+◌, ◌-◌, ◌≤◌, ◌<◌}
use mathlib.Core.Path.{◌≡◌, refl, sym, subst, ◌∙◌}
use mathlib.Core.List.{List}
use mathlib.Core.Logic.{◌↔◌, ◌≢◌, inl, inr, ⊎_elim, by_cases}
use native.Mathlib.Decide.{ℕ_discrete, dec_le}
use native.Mathlib.Omega.{arith}
use lib.Bits.{bit_or}
use lib.ListN.{get_or, set, length, length-set, replicate}
use lib.Seq.{get_or-set_same, get_or-set_other}
use Rattle.sets.specs.Sets.{Has}
use Rattle.sets.proofs.SetLaws.{has_or_not, has_or, has_none}
use Rattle.graph.specs.Walk.{Walk}
use Rattle.graph.specs.Walk.Walk.{alone, step}
use Rattle.graph.proofs.WalkLaws.{walk_some, walk_first, walk_alone}
use Rattle.graph.proofs.FewLaws.{at_most_below, walk_few}
use Rattle.graph.specs.Connected.{Below, Connected}
use Rattle.graph.specs.Rows.{Edge, Rows}
use Rattle.farthest.specs.Balls.{Earlier}
use Rattle.farthest.specs.Balls.{Reached, Alone, Grows, Grown, Missed, Dearest}

pub record Filled (Q : ℕ → ℕ → Type 0) (k : ℕ) (l : List ℕ) : Type 0 where
  pub long : length l ≡ 64
  pub most : k ≤ 64
  pub entry : (a : ℕ) → a < k → Q a (get_or l a 0)

module _ {Q : ℕ → ℕ → Type 0} where
  pub filled_none : Filled Q 0 (replicate 64 0)
  filled_none = record { long = refl; most = omega arith; entry = λ a h. absurd (none h) }
    where
      none : {a : ℕ} → a < 0 → ⊥
      none h = omega arith

  pub filled_next : (k : ℕ) (l : List ℕ) (x : ℕ) → k < 64 → Q k x → Filled Q k l → Filled Q (k + 1) (set l k x)
  filled_next k l x room q f = record {
    long = length-set l k x ∙ f.long;
    most = more;
    entry = λ a h.
        by_cases (ℕ_discrete a k)
        (λ e. subst (λ (b : ℕ). Q b (get_or (set l k x) b 0)) (sym e)
        (subst (Q k) (sym (get_or-set_same l k x 0 (let n = f.long in omega arith))) q))
        (λ e. subst (Q a) (sym (get_or-set_other l k a x 0 e)) (f.entry a (omega arith)));
  }
    where
      more : k + 1 ≤ 64
      more = omega arith

pub record Growing (g l : List ℕ) (u s q : ℕ) : Type 0 where
  pub part : (w : ℕ) → Has q w → Edge g u w
  pub sound : (v : ℕ) → Has s v → Grows g l u v
  pub own : (v : ℕ) → Has (get_or l u 0) v → Has s v
  pub full : (v w : ℕ) → Edge g u w → (Has q w → ⊥) → Has (get_or l w 0) v → Has s v

module _ (g l : List ℕ) (u : ℕ) where
  pub growing_begin : Growing g l u (get_or l u 0) (get_or g u 0)
  growing_begin = record { part = λ w h. h; sound = λ v h. inl h; own = λ v h. h; full = λ v w e not h. absurd (not e) }

  pub growing_next : (s q w r : ℕ) → Has q w → ((p : ℕ) → Has r p ↔ (Has q p × (p ≢ w))) → Growing g l u s q
      → Growing g l u (bit_or s (get_or l w 0)) r
  growing_next s q w r on less t = record {
    part = λ v h. t.part v ((less v).0 h).0;
    sound = λ v h.
        ⊎_elim (λ i. t.sound v i) (λ i. inr (record { at = w; edge = t.part w on; there = i })) ((has_or s (get_or l w 0) v).0 h);
    own = λ v h. (has_or s (get_or l w 0) v).1 (inl (t.own v h));
    full = λ v x e not h.
        (has_or s (get_or l w 0) v).1
        (by_cases (ℕ_discrete x w)
        (λ same. inr (subst (λ (y : ℕ). Has (get_or l y 0) v) same h))
        (λ other. inl (t.full v x e (λ i. not ((less x).1 (i, other))) h)));
  }

  pub growing_end : (s q : ℕ) → q ≡ 0 → Growing g l u s q → (v : ℕ) → Has s v ↔ Grows g l u v
  growing_end s q e t v = (
    t.sound v,
    ⊎_elim (t.own v) (λ n. t.full v n.at n.edge (λ h. has_none n.at (subst (λ (y : ℕ). Has y n.at) e h)) n.there),
  )

-- `first_missed`: the balls before u are full
module _ (n : ℕ) (l : List ℕ) (all : ℕ) (below : (p : ℕ) → Has all p ↔ (p < n)) where
  abbrev pub FullTo : ℕ → Type 0
  FullTo u = (x v : ℕ) → x < u → v < n → Has (get_or l x 0) v

  module _ (u missed : ℕ) (less : (p : ℕ) → Has missed p ↔ (Has all p × (Has (get_or l u 0) p → ⊥))) (so : FullTo u) where
    pub full_next : missed ≡ 0 → FullTo (u + 1)
    full_next e x v h k =
        by_cases (ℕ_discrete x u)
        (λ s. subst (λ (y : ℕ). Has (get_or l y 0) v) (sym s)
        (⊎_elim (λ i. i)
        (λ i. absurd (has_none v (subst (λ (y : ℕ). Has y v) e ((less v).1 ((below v).1 k, λ j. zero_one i j)))))
        (has_or_not (get_or l u 0) v)))
        (λ s. so x v (omega arith) k)
      where
        zero_one : {y : ℕ} → y ≡ 0 → y ≡ 1 → ⊥
        zero_one p q = omega arith

    pub missed_found : u < n → (b : ℕ) → Has missed b → ((p : ℕ) → Has missed p → b ≤ p) → Missed n l u b
    missed_found h b on least = record {
      most = omega arith;
      below = λ i. (below b).0 ((less b).0 on).0;
      full = λ x v hx hv e.
          ⊎_elim
          (λ i. so x v i hv)
          (λ i. subst (λ (y : ℕ). Has (get_or l y 0) v) (sym i.0)
          (⊎_elim (λ j. j)
          (λ j. absurd (above (least v ((less v).1 ((below v).1 hv, λ q. zero_one j q))) i.1))
          (has_or_not (get_or l u 0) v)))
          e;
      missing = λ i. ((less b).0 on).1;
    }
      where
        zero_one : {y : ℕ} → y ≡ 0 → y ≡ 1 → ⊥
        zero_one p q = omega arith

        above : {v : ℕ} → b ≤ v → v < b → ⊥
        above p q = omega arith

  pub missed_none : (u : ℕ) → u ≡ n → FullTo u → Missed n l n 0
  missed_none u e so = record {
    most = omega arith;
    below = λ h. absurd (never h);
    full = λ x v hx hv h. so x v (omega arith) hv;
    missing = λ h. absurd (never h);
  }
    where
      never : n < n → ⊥
      never h = omega arith

module _ {n : ℕ} {E : ℕ → ℕ → Type 0} where
  pub reached_none : (a b : ℕ) → a < n → (b ≡ a) ↔ Reached n E 0 a b
  reached_none a b h = (
    λ e. record { moves = 0; few = omega arith; walk = subst (λ (y : ℕ). Walk E (Below n) a y 1) (sym e) (alone h) },
    λ r. walk_alone r.walk (one r.few),
  )
    where
      one : {m : ℕ} → m ≤ 0 → suc m ≡ 1
      one l = omega arith

  pub reached_walk : {k a b j : ℕ} → Walk E (Below n) a b j → j ≤ k + 1 → Reached n E k a b
  reached_walk {k} {a} {b} {j} w l =
      let some = walk_some w in
      let size : j ≡ suc (j - 1) = omega arith in
      record { moves = j - 1; few = omega arith; walk = subst (Walk E (Below n) a b) size w }

pub record Rounds (n : ℕ) (g l : List ℕ) (k a b : ℕ) : Type 0 where
  pub balls : (u v : ℕ) → u < n → Has (get_or l u 0) v ↔ Reached n (Edge g) k u v
  pub few : k < n
  pub start_below : a < n
  pub goal_below : b < n
  pub far : (j : ℕ) → Walk (Edge g) (Below n) a b j → k < j
  pub earlier : (u v : ℕ) → u < n → v < n → Earlier u v a b → (j : ℕ) × (j < k) × Walk (Edge g) (Below n) u v (suc j)

module _ (n : ℕ) (g : List ℕ) where
  pub rounds_begin : 0 < n → (l : List ℕ) → Alone n l → Rounds n g l 0 0 0
  rounds_begin some l t = record {
    balls = λ u v h. (
      λ i. (reached_none u v h).0 ((t.is u v h).0 i),
      λ r. (t.is u v h).1 ((reached_none u v h).1 r),
    );
    few = some;
    start_below = some;
    goal_below = some;
    far = λ j w. walk_some w;
    earlier = λ u v hu hv e. absurd (⊎_elim (λ i. none i) (λ i. none i.1) e);
  }
    where
      none : {x : ℕ} → x < 0 → ⊥
      none h = omega arith

  module _ (rows : Rows n g) (l : List ℕ) (k a b : ℕ) (r : Rounds n g l k a b) (u v : ℕ) (m : Missed n l u v) where
    -- in every ball
    pub rounds_end : u ≡ n → Dearest n (Edge g) a b k
    rounds_end e = record {
      start_below = r.start_below;
      goal_below = r.goal_below;
      near = λ x y hx hy. (r.balls x y hx).0 (m.full x y hx hy (inl (subst (λ (z : ℕ). x < z) (sym e) hx)));
      far = r.far;
      earlier = r.earlier;
    }

    module _ (other : u ≢ n) where
      inside : u < n
      inside = let h = m.most in omega arith

      -- what so many moves do not reach is farther
      farther : (j : ℕ) → Walk (Edge g) (Below n) u v j → k + 1 < j
      farther j w =
          by_cases (dec_le j (k + 1))
          (λ h. absurd (m.missing inside ((r.balls u v inside).1 (reached_walk w h))))
          (λ h. omega arith)

      pub rounds_more : Connected n (Edge g) → k + 1 < n
      rounds_more whole =
          let way = whole u v inside (m.below inside) in
          let short = walk_few n (at_most_below n) way.walk in
          let far = farther short.0 short.2 in
          let most = short.1 in
          omega arith

      larger : (t : List ℕ) → Grown n g l t → (x y : ℕ) → x < n → Has (get_or t x 0) y ↔ Reached n (Edge g) (k + 1) x y
      larger t grown x y h = (
        λ i. ⊎_elim
            (λ j. let q = (r.balls x y h).0 j in let few = q.few in record { moves = q.moves; few = omega arith; walk = q.walk })
            (λ j.
            let q = (r.balls j.at y (rows.inside x j.at j.edge).1).0 j.there in
            let few = q.few in
            record { moves = suc q.moves; few = omega arith; walk = step h j.edge q.walk })
            ((grown.is x y h).0 i),
        λ q. (grown.is x y h).1 (begun q.walk (let few = q.few in omega arith)),
      )
        where
          -- no move at all, or one and then at most k
          begun : {c d j : ℕ} → Walk (Edge g) (Below n) c d j → j ≤ k + 1 + 1 → Grows g l c d
          begun (alone {a = c} p) few = inl ((r.balls c c p).1 (record { moves = 0; few = omega arith; walk = alone p }))
          begun (step {b = z} {c = d} p e w) few =
              inr (record { at = z; edge = e; there = (r.balls z d (walk_first w)).1 (reached_walk w (omega arith)) })

      pub rounds_next : Connected n (Edge g) → (t : List ℕ) → Grown n g l t → Rounds n g t (k + 1) u v
      rounds_next whole t grown = record {
        balls = larger t grown;
        few = rounds_more whole;
        start_below = inside;
        goal_below = m.below inside;
        far = farther;
        earlier = λ x y hx hy e.
            let q = (r.balls x y hx).0 (m.full x y hx hy e) in
            let few = q.few in
            (q.moves, omega arith, q.walk);
      }
