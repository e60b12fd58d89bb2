-- Laws of the levels of a breadth-first search: the state of `spread`, from its first level to its answer.
--
--     levels_none                    no level is right of itself
--     Spreading E P T G d l s x      d levels are made, s is the last of them, and x is what is not reached yet; no level but the last has
--                                    a position of G
--     spreading_begin                the first level
--     spreading_room                 there is room for another, where something is not reached yet
--     spreading_next                 the next level: what touches the last and was not reached yet
--     spread_none, spread_met, spread-stop    the answer where no target is free, where the last level has a position of G, and where no
--                                             next one is
--     State, Answer, begin_none, begin, found, room, stop, next    the same with the sets as words
--     Around, around_begin, around-next, around_end   the state of `around`
-- Assumes nothing.
use Prim.Native.Nat.{ℕ, ◌+◌, ◌-◌, ◌^◌, ◌≤◌, ◌<◌}
use mathlib.Core.Path.{◌≡◌, refl, sym, subst, ap, ◌∙◌}
use mathlib.Core.List.{List}
use mathlib.Core.Logic.{◌↔◌, ◌≢◌, ◌⊎◌, inl, inr, ⊎_elim, by_cases}
use native.Mathlib.Decide.{ℕ_discrete}
use native.Mathlib.Numerals.{add-one}
use native.Mathlib.Omega.{arith}
use lib.Bits.{bit_and, bit_or}
use lib.Count.{ones}
use lib.ListN.{get_or, set, length, length-set}
use lib.Seq.{get_or-set_same, get_or-set_other}
use Rattle.sets.specs.Sets.{Has}
use Rattle.sets.proofs.SetLaws.{has_or_not, has_below, has_and, has_or, has_none, has_some}
use Rattle.sets.proofs.CountLaws.{ones_less, ones_most, ones_parts}
use Rattle.graph.specs.Walk.{Walk, Symmetric}
use Rattle.graph.specs.Walk.Walk.{alone, step}
use Rattle.graph.proofs.WalkLaws.{walk_some, walk_first, walk_last, walk_alone}
use Rattle.graph.specs.Rows.{Edge}
use Rattle.graph.specs.Levels.{Near, Seen, Touches, Levels, Spread}

-- A level that is written, and the others.
level_here : (l : List ℕ) (d x : ℕ) → d < length l → (i : ℕ) → i ≡ d → get_or (set l d x) i 0 ≡ x
level_here l d x h i e = ap (λ (j : ℕ). get_or (set l d x) j 0) e ∙ get_or-set_same l d x 0 h

level_other : (l : List ℕ) (d x i : ℕ) → i ≢ d → get_or (set l d x) i 0 ≡ get_or l i 0
level_other l d x i e = get_or-set_other l d i x 0 e

-- two numbers of which one is 0 and one is not
clash : {x : ℕ} → 0 < x → x ≡ 0 → ⊥
clash h e = omega arith

zero_one : {x : ℕ} → x ≡ 0 → x ≡ 1 → ⊥
zero_one e f = omega arith

none_below : {x : ℕ} → x < 0 → ⊥
none_below h = omega arith

none_before : (i : ℕ) → i + 1 < 1 → ⊥
none_before i h = omega arith

seen_more : {l : List ℕ} {j v : ℕ} (k : ℕ) → j ≤ k → Seen l j v → Seen l k v
seen_more k le s = record { level = s.level; before = (let b = s.before in omega arith); on = s.on }

-- the first level, as it is written
first_level : (l : List ℕ) → length l ≡ 64 → (s i v : ℕ) → i < 1 → Has (get_or (set l 0 s) i 0) v → Has s v
first_level l long s i v h on = subst (λ (y : ℕ). Has y v) (level_here l 0 s (omega arith) i (omega arith)) on

pub record Spreading (E : ℕ → ℕ → Type 0) (P T G : ℕ → Type 0) (d : ℕ) (l : List ℕ) (s x : ℕ) : Type 0 where
  pub long : length l ≡ 64
  pub some : 0 < d
  pub room : d + ones x ≤ 64
  pub levels : Levels E P T d l
  pub last : get_or l (d - 1) 0 ≡ s
  pub within : (v : ℕ) → Has x v → P v
  pub unseen : (v : ℕ) → Has x v → Seen l d v → ⊥
  pub all : (v : ℕ) → P v → Has x v ⊎ Seen l d v
  pub missed : (i v : ℕ) → i + 1 < d → Has (get_or l i 0) v → G v → ⊥

module _ {E : ℕ → ℕ → Type 0} {P T : ℕ → Type 0} where
  near_step : {v w k : ℕ} → P v → E v w → Near E P T w k → Near E P T v (k + 1)
  near_step {v} {w} {k} p e r =
      record { target = r.target; is = r.is; walk = subst (Walk E P v r.target) (sym (add-one k)) (step p e r.walk) }

  -- what is joined to a level before the last is on the level after it at the latest
  lift : {d : ℕ} {l : List ℕ} → Levels E P T d l → (v w i : ℕ) → P v → E v w → i + 1 < d → Has (get_or l i 0) w → Seen l (i + 1 + 1) v
  lift levels v w i p e le on =
      let near = near_step p e (levels.near i w (omega arith) on) in
      levels.full v near.target (i + 1 + 1) near.walk near.is (omega arith)

  pub levels_none : (l : List ℕ) → Levels E P T 0 l
  levels_none l =
      record {
        near = λ i v h. absurd (none_below h);
        full = λ v t k walk is le. let some = walk_some walk in absurd (none_below {x = k} (omega arith));
        apart = λ i j v h. absurd (none_below h);
        down = λ i v h. absurd (none_below h);
      }

  module _ (l : List ℕ) (long : length l ≡ 64) (s : ℕ) (is_first : (v : ℕ) → Has s v ↔ (P v × T v)) where
    levels_first : Levels E P T 1 (set l 0 s)
    levels_first =
        record {
          near = λ i v h on.
              let f = (is_first v).0 (first_level l long s i v h on) in
              subst (Near E P T v) (omega arith) (record { target = v; is = f.1; walk = alone f.0 });
          full = λ v t k walk is le.
              let some = walk_some walk in
              let same : t ≡ v = walk_alone walk (omega arith) in
              record {
                level = 0;
                before = some;
                on =
                    subst (λ (y : ℕ). Has y v) (sym (level_here l 0 s (omega arith) 0 refl))
                    ((is_first v).1 (walk_first walk, subst T same is));
              };
          apart = λ i j v hi hj on on'. omega arith;
          down = λ i v h on. absurd (none_before i h);
        }

  module _ {G : ℕ → Type 0} where
    pub spread_none : (l : List ℕ) (x : ℕ) → ((v : ℕ) → P v → T v → ⊥) → ((v : ℕ) → Has x v ↔ P v) → Spread E P T G l 0 x
    spread_none l x not is =
        record {
          small = omega arith;
          levels = levels_none l;
          met = λ h. absurd (none_below h);
          none = λ e v t k walk is g. not t (walk_last walk) is;
          within = λ v. (is v).0;
          gone = λ e v t k walk is h. not t (walk_last walk) is;
          near = λ e v p h. absurd (h ((is v).1 p));
        }

    pub spreading_begin : (l : List ℕ) (s x f : ℕ) → length l ≡ 64 → f < 2 ^ 64 → 0 < s → ((v : ℕ) → P v → Has f v)
        → ((v : ℕ) → Has s v ↔ (P v × T v))
        → ((v : ℕ) → Has x v ↔ (P v × (T v → ⊥))) → ((v : ℕ) → P v → T v ⊎ (T v → ⊥)) → Spreading E P T G 1 (set l 0 s) s x
    spreading_begin l s x f long word some free first left decide =
        let at = has_some s some in
        let None_first = ones_less at.0 0 s (λ p h. absurd (has_none p h)) at.1 (has_none at.0) in
        let parts = ones_parts f s x (λ p h. free p ((first p).0 h).0) (λ p h. free p ((left p).0 h).0)
        (λ p h i. ((left p).0 i).1 ((first p).0 h).1) in
        let most = ones_most 64 f (λ p h. has_below 64 f p word h) in
        record {
          long = length-set l 0 s ∙ long;
          some = omega arith;
          room = omega arith;
          levels = levels_first l long s first;
          last = level_here l 0 s (omega arith) 0 refl;
          within = λ v h. ((left v).0 h).0;
          unseen = λ v h q. ((left v).0 h).1 ((first v).0 (first_level l long s q.level v q.before q.on)).1;
          all = λ v p.
              ⊎_elim
              (λ t. inr (record {
                level = 0;
                before = omega arith;
                on = subst (λ (y : ℕ). Has y v) (sym (level_here l 0 s (omega arith) 0 refl)) ((first v).1 (p, t));
              }))
              (λ t. inl ((left v).1 (p, t)))
              (decide v p);
          missed = λ i v h. absurd (none_before i h);
        }

    module _ {d : ℕ} {l : List ℕ} {s x : ℕ} (state : Spreading E P T G d l s x) where
      last_level : (v : ℕ) → Has (get_or l (d - 1) 0) v → Has s v
      last_level v = subst (λ (y : ℕ). Has y v) state.last

      pub spreading_room : (v : ℕ) → Has x v → d < 64
      spreading_room v h =
          let room = state.room in
          let some = ones_less v 0 x (λ p i. absurd (has_none p i)) h (has_none v) in
          omega arith

      pub spread_met : (v : ℕ) → Has s v → G v → Spread E P T G l d x
      spread_met v h g =
          record {
            small = (let room = state.room in omega arith);
            levels = state.levels;
            met = λ some. record { at = v; goal = g; last = subst (λ (y : ℕ). Has y v) (sym state.last) h };
            none = λ e. absurd (clash state.some e);
            within = state.within;
            gone = λ e. absurd (clash state.some e);
            near = λ e. absurd (clash state.some e);
          }

      -- nothing touches the last level that is not reached yet: every walk to a target was seen
      module _ (stop : (v : ℕ) → Touches E s v → Has x v → ⊥) where
        rest : (v t k : ℕ) → Walk E P v t k → T t → Seen l d v
        rest v t k (alone {a} p) is = seen_more d state.some (state.levels.full a a 1 (alone p) is state.some)
        rest v t k (step {a} {b = w} {c} {k = j} p e walk) is =
            let q = rest w c j walk is in
            let before = q.before in
            by_cases (ℕ_discrete (q.level + 1) d)
            (λ h.
            let level : q.level ≡ d - 1 = omega arith in
            let on = last_level w (subst (λ (i : ℕ). Has (get_or l i 0) w) level q.on) in
            ⊎_elim (λ left. absurd (stop a (record { at = w; there = on; edge = e }) left)) (λ seen. seen) (state.all a p))
            (λ h. seen_more d (omega arith) (lift state.levels a w q.level p e (omega arith) q.on))

        pub spread-stop : ((v : ℕ) → Has s v → G v → ⊥) → Spread E P T G l 0 x
        spread-stop miss =
            record {
              small = omega arith;
              levels = levels_none l;
              met = λ h. absurd (none_below h);
              none = λ e v t k walk is g. seen_missed v g (rest v t k walk is);
              within = state.within;
              gone = λ e v t k walk is h. state.unseen v h (rest v t k walk is);
              near = λ e v p h.
                  ⊎_elim (λ left. absurd (h left)) (λ q. (q.level + 1, state.levels.near q.level v q.before q.on))
                  (state.all v p);
            }
          where
            seen_missed : (v : ℕ) → G v → Seen l d v → ⊥
            seen_missed v g q =
                let before = q.before in
                by_cases (ℕ_discrete (q.level + 1) d)
                (λ h.
                let level : q.level ≡ d - 1 = omega arith in
                miss v (last_level v (subst (λ (i : ℕ). Has (get_or l i 0) v) level q.on)) g)
                (λ h. state.missed q.level v (omega arith) q.on g)

      module _ (s' x' : ℕ) (next : (v : ℕ) → Has s' v ↔ (Touches E s v × Has x v)) (left : (v : ℕ) → Has x' v ↔ (Has x v × (Has s' v → ⊥)))
          (fits : d < 64) (miss : (v : ℕ) → Has s v → G v → ⊥) where
        here : (i v : ℕ) → i ≡ d → Has (get_or (set l d s') i 0) v → Has s' v
        here i v e = subst (λ (y : ℕ). Has y v) (level_here l d s' (let n = state.long in omega arith) i e)

        fresh : (v : ℕ) → Has s' v → Has (get_or (set l d s') d 0) v
        fresh v = subst (λ (y : ℕ). Has y v) (sym (level_here l d s' (let n = state.long in omega arith) d refl))

        old : (i v : ℕ) → i < d → Has (get_or (set l d s') i 0) v → Has (get_or l i 0) v
        old i v h = subst (λ (y : ℕ). Has y v) (level_other l d s' i (omega arith))

        kept : (i v : ℕ) → i < d → Has (get_or l i 0) v → Has (get_or (set l d s') i 0) v
        kept i v h = subst (λ (y : ℕ). Has y v) (sym (level_other l d s' i (omega arith)))

        seen_kept : {k v : ℕ} → k ≤ d → Seen l k v → Seen (set l d s') k v
        seen_kept {k} {v} le q =
            let b = q.before in record { level = q.level; before = q.before; on = kept q.level v (omega arith) q.on }

        -- a position of the new level, and its neighbour on the last
        near_new : (v : ℕ) → Has s' v → Near E P T v (d + 1)
        near_new v h =
            let n = (next v).0 h in
            let t = n.0 in
            let some = state.some in
            let level : d - 1 + 1 ≡ d = omega arith in
            let before = state.levels.near (d - 1) t.at (omega arith)
            (subst (λ (y : ℕ). Has y t.at) (sym state.last) t.there) in
            near_step (state.within v n.1) t.edge (subst (Near E P T t.at) level before)

        full_new : (v t k : ℕ) → Walk E P v t k → T t → k ≡ d + 1 → Seen (set l d s') (d + 1) v
        full_new v t k (alone p) is e = absurd (none e)
          where
            none : 1 ≡ d + 1 → ⊥
            none e = let some = state.some in omega arith
        full_new v t k (step {a} {b = w} {c} {k = j} p e walk) is size =
            let q = state.levels.full w c j walk is (omega arith) in
            let before = q.before in
            by_cases (ℕ_discrete (q.level + 1) d)
            (λ h.
            let level : q.level ≡ d - 1 = omega arith in
            let on = last_level w (subst (λ (i : ℕ). Has (get_or l i 0) w) level q.on) in
            ⊎_elim
            (λ free. record { level = d; before = omega arith; on = fresh a ((next a).1 (record { at = w; there = on; edge = e }, free)) })
            (λ seen. seen_more (d + 1) (omega arith) (seen_kept (omega arith) seen))
            (state.all a p))
            (λ h. seen_more (d + 1) (omega arith) (seen_kept {k = q.level + 1 + 1} (omega arith)
            (lift state.levels a w q.level p e (omega arith) q.on)))

        -- the new level is apart from those before it
        new_apart : (i v : ℕ) → i < d → Has (get_or l i 0) v → Has s' v → ⊥
        new_apart i v h on new = state.unseen v ((next v).0 new).1 (record { level = i; before = h; on = on })

        levels_next : Levels E P T (d + 1) (set l d s')
        levels_next =
            record {
              near = λ i v h on.
                  by_cases (ℕ_discrete i d)
                  (λ e. subst (λ (k : ℕ). Near E P T v (k + 1)) (sym e) (near_new v (here i v e on)))
                  (λ e. state.levels.near i v (omega arith) (old i v (omega arith) on));
              full = λ v t k walk is le.
                  by_cases (ℕ_discrete k (d + 1))
                  (λ e. subst (λ (j : ℕ). Seen (set l d s') j v) (sym e) (full_new v t k walk is e))
                  (λ e. seen_kept (omega arith) (state.levels.full v t k walk is (omega arith)));
              apart = λ i j v hi hj on on'.
                  by_cases (ℕ_discrete i d)
                  (λ e. by_cases (ℕ_discrete j d)
                  (λ f. omega arith)
                  (λ f. absurd (new_apart j v (omega arith) (old j v (omega arith) on') (here i v e on))))
                  (λ e. by_cases (ℕ_discrete j d)
                  (λ f. absurd (new_apart i v (omega arith) (old i v (omega arith) on) (here j v f on')))
                  (λ f. state.levels.apart i j v (omega arith) (omega arith) (old i v (omega arith) on) (old j v (omega arith) on')));
              down = λ i v h on.
                  by_cases (ℕ_discrete (i + 1) d)
                  (λ e.
                  let t = ((next v).0 (here (i + 1) v e on)).0 in
                  let level : d - 1 ≡ i = omega arith in
                  record {
                    at = t.at;
                    there =
                        kept i t.at (omega arith) (subst (λ (j : ℕ). Has (get_or l j 0) t.at) level
                        (subst (λ (y : ℕ). Has y t.at) (sym state.last) t.there));
                    edge = t.edge;
                  })
                  (λ e.
                  let t = state.levels.down i v (omega arith) (old (i + 1) v (omega arith) on) in
                  record { at = t.at; there = kept i t.at (omega arith) t.there; edge = t.edge });
            }

        pub spreading_next : 0 < s' → Spreading E P T G (d + 1) (set l d s') s' x'
        spreading_next more =
            let at = has_some s' more in
            let room = state.room in
            let parts = ones_less at.0 x' x (λ p h. ((left p).0 h).0) ((next at.0).0 at.1).1 (λ h. ((left at.0).0 h).1 at.1) in
            record {
              long = length-set l d s' ∙ state.long;
              some = omega arith;
              room = omega arith;
              levels = levels_next;
              last = level_here l d s' (let n = state.long in omega arith) (d + 1 - 1) (omega arith);
              within = λ v h. state.within v ((left v).0 h).0;
              unseen = λ v h q.
                  let before = q.before in
                  by_cases (ℕ_discrete q.level d)
                  (λ e. ((left v).0 h).1 (here q.level v e q.on))
                  (λ e. state.unseen v ((left v).0 h).0 (record {
                    level = q.level;
                    before = omega arith;
                    on = old q.level v (omega arith) q.on;
                  }));
              all = λ v p.
                  ⊎_elim
                  (λ free.
                  ⊎_elim
                  (λ new. inr (record { level = d; before = omega arith; on = fresh v new }))
                  (λ not. inl ((left v).1 (free, λ new. zero_one not new)))
                  (has_or_not s' v))
                  (λ seen. inr (seen_more (d + 1) (omega arith) (seen_kept (omega arith) seen)))
                  (state.all v p);
              missed = λ i v h on g.
                  by_cases (ℕ_discrete (i + 1) d)
                  (λ e.
                  let level : i ≡ d - 1 = omega arith in
                  miss v (last_level v (subst (λ (j : ℕ). Has (get_or l j 0) v) level (old i v (omega arith) on))) g)
                  (λ e. state.missed i v (omega arith) (old i v (omega arith) on) g);
            }

-- The same with the sets as words.
module _ (g : List ℕ) (free targets goal : ℕ) where
  abbrev pub State : ℕ → List ℕ → ℕ → ℕ → Type 0
  State d l s x = Spreading (Edge g) (Has free) (Has targets) (Has goal) d l s x

  abbrev pub Answer : List ℕ → ℕ → ℕ → Type 0
  Answer l d x = Spread (Edge g) (Has free) (Has targets) (Has goal) l d x

  pub begin_none : (l : List ℕ) (x : ℕ) → bit_and free targets ≡ 0 → ((p : ℕ) → Has x p ↔ (Has free p × (Has targets p → ⊥))) → Answer l 0 x
  begin_none l x none left =
      let apart : (v : ℕ) → Has free v → Has targets v → ⊥ = λ v f t. has_none v
      (subst (λ (y : ℕ). Has y v) none ((has_and free targets v).1 (f, t))) in
      spread_none l x apart (λ v. (λ h. ((left v).0 h).0, λ f. (left v).1 (f, apart v f)))

  pub begin : (l : List ℕ) (x : ℕ) → length l ≡ 64 → free < 2 ^ 64 → bit_and free targets ≢ 0
      → ((p : ℕ) → Has x p ↔ (Has free p × (Has targets p → ⊥)))
      → State 1 (set l 0 (bit_and free targets)) (bit_and free targets) x
  begin l x long word some left =
      spreading_begin l (bit_and free targets) x free long word (omega arith) (λ v f. f) (has_and free targets) left
      (λ v f. ⊎_elim (λ t. inl t) (λ t. inr (λ h. zero_one t h)) (has_or_not targets v))

  module _ {d : ℕ} {l : List ℕ} {s x : ℕ} (state : State d l s x) where
    pub found : bit_and s goal ≢ 0 → Answer l d x
    found some =
        let at = has_some (bit_and s goal) (omega arith) in
        let both = (has_and s goal at.0).0 at.1 in
        spread_met state at.0 both.0 both.1

    module _ (r : ℕ) (around : (v : ℕ) → Has r v ↔ Touches (Edge g) s v) where
      next_has : (v : ℕ) → Has (bit_and r x) v ↔ (Touches (Edge g) s v × Has x v)
      next_has v =
          let both = has_and r x v in
          (λ h. let b = both.0 h in ((around v).0 b.0, b.1), λ h. both.1 ((around v).1 h.0, h.1))

      pub room : bit_and r x ≢ 0 → d < 64
      room some = let at = has_some (bit_and r x) (omega arith) in spreading_room state at.0 ((next_has at.0).0 at.1).1

      module _ (off : bit_and s goal ≡ 0) where
        miss : (v : ℕ) → Has s v → Has goal v → ⊥
        miss v a b = has_none v (subst (λ (y : ℕ). Has y v) off ((has_and s goal v).1 (a, b)))

        pub stop : bit_and r x ≡ 0 → Answer l 0 x
        stop none = spread-stop state (λ v t h. has_none v (subst (λ (y : ℕ). Has y v) none ((next_has v).1 (t, h)))) miss

        pub next : (x' : ℕ) → bit_and r x ≢ 0 → ((p : ℕ) → Has x' p ↔ (Has x p × (Has (bit_and r x) p → ⊥)))
            → State (d + 1) (set l d (bit_and r x)) (bit_and r x) x'
        next x' some left = spreading_next state (bit_and r x) x' next_has left (room some) miss (omega arith)

-- The state of `around`: r has what touches a position that was taken from the set s, q is what is left of it.
pub record Around (g : List ℕ) (s r q : ℕ) : Type 0 where
  pub part : (v : ℕ) → Has q v → Has s v
  pub sound : (v : ℕ) → Has r v → Touches (Edge g) s v
  pub full : (v w : ℕ) → Has s w → (Has q w → ⊥) → Edge g v w → Has r v

module _ (g : List ℕ) (symmetric : Symmetric (Edge g)) where
  pub around_begin : (s : ℕ) → Around g s 0 s
  around_begin s = record { part = λ v h. h; sound = λ v h. absurd (has_none v h); full = λ v w h not e. absurd (not h) }

  pub around-next : (s r q w q' : ℕ) → Has q w → ((p : ℕ) → Has q' p ↔ (Has q p × (p ≢ w))) → Around g s r q
      → Around g s (bit_or r (get_or g w 0)) q'
  around-next s r q w q' on less a =
      record {
        part = λ v h. a.part v ((less v).0 h).0;
        sound = λ v h.
            ⊎_elim (λ i. a.sound v i) (λ i. record { at = w; there = a.part w on; edge = symmetric w v i })
            ((has_or r (get_or g w 0) v).0 h);
        full = λ v u h not e.
            (has_or r (get_or g w 0) v).1
            (by_cases (ℕ_discrete u w)
            (λ same. inr (subst (λ (y : ℕ). Edge g y v) same (symmetric v u e)))
            (λ other. inl (a.full v u h (λ i. not ((less u).1 (i, other))) e)));
      }

  pub around_end : (s r q : ℕ) → q ≡ 0 → Around g s r q → (v : ℕ) → Has r v ↔ Touches (Edge g) s v
  around_end s r q e a v = (
    a.sound v,
    λ t. a.full v t.at t.there (λ h. has_none t.at (subst (λ (y : ℕ). Has y t.at) e h)) t.edge,
  )
