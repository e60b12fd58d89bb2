-- What the levels of a search say: of the nearest target, and of sets that hang together.
--
--     Tracing, tracing_begin, tracing_some, tracing_step, tracing_end    the state of `trace`, from its first position to its last
--     met_at              the position sought is on the last level
--     nearest_none        where no level has the position sought, no walk leads from it to a target
--     nearest_traced      else the positions traced down the levels are a shortest way
--     whole-nothing       nothing hangs together
--     whole_reached, whole_searched    nothing is left unreached from one position of a set exactly where the set hangs together
-- Assumes nothing.
use Prim.Native.Nat.{ℕ, suc, ◌+◌, ◌-◌, ◌≤◌, ◌<◌}
use mathlib.Core.Path.{◌≡◌, refl, sym, subst, ap, ◌∙◌}
use mathlib.Core.List.{List}
use mathlib.Core.Bool.{Bool, true}
use mathlib.Core.Logic.{◌↔◌, ◌≢◌, by_cases}
use native.Mathlib.Decide.{ℕ_discrete, dec_le}
use native.Mathlib.Omega.{arith}
use lib.Bits.{bit_and}
use lib.Dec.{T, eqb, eqb→eq}
use lib.ListN.{get_or, set, length, length-set, replicate}
use lib.Seq.{get_or-set_same, get_or-set_other}
use Rattle.std.proofs.Common.{Option, Some, None}
use Rattle.sets.specs.Sets.{Has}
use Rattle.sets.proofs.SetLaws.{has_and, has_none, has_positive, none_empty}
use Rattle.graph.specs.Walk.{Walk, Way, Symmetric}
use Rattle.graph.specs.Walk.Walk.{step}
use Rattle.graph.proofs.WalkLaws.{walk_first, walk_alone}
use Rattle.graph.specs.Connected.{Whole, Except, Below}
use Rattle.graph.proofs.ConnectedLaws.{whole_base, whole_same}
use Rattle.graph.proofs.Decision.{says_same}
use Rattle.graph.specs.Rows.{Edge}
use Rattle.graph.specs.Levels.{Touches, Spread, Traced, OrZero}
use Rattle.graph.specs.Nearest.{Nearest}

-- The state of `trace`: k positions are written, the last of them v.
pub record Tracing (E : ℕ → ℕ → Type 0) (l : List ℕ) (d a : ℕ) (f : List ℕ) (v k : ℕ) : Type 0 where
  pub long : length f ≡ 64
  pub small : v < 64
  pub some : 0 < k
  pub most : k ≤ d
  pub first : get_or f 0 0 ≡ a
  pub last : (i : ℕ) → i + 1 ≡ k → get_or f i 0 ≡ v
  pub on : Has (get_or l (d - k) 0) v
  pub joined : (i : ℕ) → i + 1 < k → E (get_or f i 0) (get_or f (i + 1) 0)
  pub level : (i : ℕ) → i < k → Has (get_or l (d - 1 - i) 0) (get_or f i 0)
  pub lowest : (i w : ℕ) → i + 1 < k → E (get_or f i 0) w → Has (get_or l (d - 1 - (i + 1)) 0) w → get_or f (i + 1) 0 ≤ w

module _ (g l : List ℕ) (d a : ℕ) where
  pub tracing_begin : 0 < d → a < 64 → Has (get_or l (d - 1) 0) a → Tracing (Edge g) l d a (set (replicate 64 0) 0 a) a 1
  tracing_begin some small on =
      record {
        long = refl;
        small = small;
        some = omega arith;
        most = some;
        first = refl;
        last = λ i e. subst (λ (j : ℕ). get_or (set (replicate 64 0) 0 a) j 0 ≡ a) (zero_of i e) refl;
        on = on;
        joined = λ i h. absurd (none i h);
        level = λ i h.
            subst (λ (j : ℕ). Has (get_or l (d - 1 - j) 0) (get_or (set (replicate 64 0) 0 a) j 0)) (zero_below i h)
            (subst (λ (j : ℕ). Has (get_or l j 0) a) least on);
        lowest = λ i w h. absurd (none i h);
      }
    where
      zero_of : (i : ℕ) → i + 1 ≡ 1 → 0 ≡ i
      zero_of i e = omega arith

      zero_below : (i : ℕ) → i < 1 → 0 ≡ i
      zero_below i h = omega arith

      none : (i : ℕ) → i + 1 < 1 → ⊥
      none i h = omega arith

      least : d - 1 ≡ d - 1 - 0
      least = omega arith

  module _ (down : (i v : ℕ) → i + 1 < d → Has (get_or l (i + 1) 0) v → Touches (Edge g) (get_or l i 0) v) (f : List ℕ) (v k : ℕ)
      (t : Tracing (Edge g) l d a f v k)
      (more : k < d) where
    -- on the next level there is a neighbour
    pub tracing_some : 0 < bit_and (get_or g v 0) (get_or l (d - 1 - k) 0)
    tracing_some =
        let level : d - k ≡ d - 1 - k + 1 = omega arith in
        let n = down (d - 1 - k) v (omega arith) (subst (λ (i : ℕ). Has (get_or l i 0) v) level t.on) in
        has_positive _ n.at ((has_and (get_or g v 0) (get_or l (d - 1 - k) 0) n.at).1 (n.edge, n.there))

    pub tracing_step : (w : ℕ) → k < 64 → w < 64 → Has (bit_and (get_or g v 0) (get_or l (d - 1 - k) 0)) w
        → ((p : ℕ) → Has (bit_and (get_or g v 0) (get_or l (d - 1 - k) 0)) p → w ≤ p) → Tracing (Edge g) l d a (set f k w) w (k + 1)
    tracing_step w fits small has least =
        let both = (has_and (get_or g v 0) (get_or l (d - 1 - k) 0) w).0 has in
        let some = t.some in
        let next : d - 1 - k ≡ d - (k + 1) = omega arith in
        record {
          long = length-set f k w ∙ t.long;
          small = small;
          some = omega arith;
          most = more_suc;
          first = old 0 t.some ∙ t.first;
          last = λ i e. here i (omega arith);
          on = subst (λ (i : ℕ). Has (get_or l i 0) w) next both.1;
          joined = λ i h.
              by_cases (ℕ_discrete (i + 1) k)
              (λ e. subst (λ (y : ℕ). Edge g y (get_or (set f k w) (i + 1) 0)) (sym (old i (omega arith) ∙ t.last i e))
              (subst (Edge g v) (sym (here (i + 1) e)) both.0))
              (λ e. subst (λ (y : ℕ). Edge g y (get_or (set f k w) (i + 1) 0)) (sym (old i (omega arith)))
              (subst (Edge g (get_or f i 0)) (sym (old (i + 1) (omega arith))) (t.joined i (omega arith))));
          level = λ i h.
              by_cases (ℕ_discrete i k)
              (λ e. subst (λ (j : ℕ). Has (get_or l (d - 1 - j) 0) (get_or (set f k w) j 0)) (sym e)
              (subst (Has (get_or l (d - 1 - k) 0)) (sym (here k refl)) both.1))
              (λ e. subst (Has (get_or l (d - 1 - i) 0)) (sym (old i (omega arith))) (t.level i (omega arith)));
          lowest = λ i u h e on.
              by_cases (ℕ_discrete (i + 1) k)
              (λ q. subst (λ (y : ℕ). y ≤ u) (sym (here (i + 1) q))
              (least u ((has_and (get_or g v 0) (get_or l (d - 1 - k) 0) u).1 (
                subst (λ (y : ℕ). Edge g y u) (old i (omega arith) ∙ t.last i q) e,
                subst (λ (j : ℕ). Has (get_or l (d - 1 - j) 0) u) q on,
              ))))
              (λ q. subst (λ (y : ℕ). y ≤ u) (sym (old (i + 1) (omega arith)))
              (t.lowest i u (omega arith) (subst (λ (y : ℕ). Edge g y u) (old i (omega arith)) e) on));
        }
      where
        more_suc : k + 1 ≤ d
        more_suc = omega arith

        here : (i : ℕ) → i ≡ k → get_or (set f k w) i 0 ≡ w
        here i e = ap (λ (y : ℕ). get_or (set f k w) y 0) e ∙ get_or-set_same f k w 0 (let n = t.long in omega arith)

        old : (i : ℕ) → i < k → get_or (set f k w) i 0 ≡ get_or f i 0
        old i h = get_or-set_other f k i w 0 (omega arith)

  pub tracing_end : (f : List ℕ) (v k : ℕ) → d ≤ k → Tracing (Edge g) l d a f v k → Traced (Edge g) l d a f
  tracing_end f v k done t =
      record {
        first = t.first;
        joined = λ i h. t.joined i (omega arith);
        level = λ i h. t.level i (omega arith);
        lowest = λ i w h. t.lowest i w (omega arith);
      }

module _ {E : ℕ → ℕ → Type 0} {P T G : ℕ → Type 0} {l : List ℕ} {a d x : ℕ} (only : (p : ℕ) → G p ↔ (p ≡ a))
    (s : Spread E P T G l d x) where
  pub met_at : 0 < d → Has (get_or l (d - 1) 0) a
  met_at some = let m = s.met some in subst (Has (get_or l (d - 1) 0)) ((only m.at).0 m.goal) m.last

  pub nearest_none : (f : ℕ → ℕ) → d ≡ 0 → Nearest E P T a 0 f
  nearest_none f zero =
      record {
        none = λ e t j walk is. s.none zero a t j walk is ((only a).1 refl);
        path = λ h. absurd (never h);
        target = λ h. absurd (never h);
        shortest = λ t j walk is. omega arith;
        lowest = λ i w t h. absurd (none_before i h);
      }
    where
      never : 0 < 0 → ⊥
      never h = omega arith

      none_before : (i : ℕ) → i + 1 < 0 → ⊥
      none_before i h = omega arith

  pub nearest_traced : (f : List ℕ) → 0 < d → Traced E l d a f → Nearest E P T a d (λ i. get_or f i 0)
  nearest_traced f some t =
      record {
        none = λ e. absurd (never e);
        path = λ h.
            record {
              some = h;
              first = t.first;
              last = refl;
              inside = λ i k. walk_first (s.levels.near (d - 1 - i) (get_or f i 0) (omega arith) (t.level i k)).walk;
              joined = t.joined;
              distinct = λ i j k h e.
                  let on = t.level i (omega arith) in
                  let same = s.levels.apart (d - 1 - i) (d - 1 - j) (get_or f i 0) (omega arith) (omega arith) on
                  (subst (Has (get_or l (d - 1 - j) 0)) (sym e) (t.level j h)) in
                  omega arith;
            };
        target = λ h.
            let low : d - 1 - (d - 1) ≡ 0 = omega arith in
            let on = subst (λ (i : ℕ). Has (get_or l i 0) (get_or f (d - 1) 0)) low (t.level (d - 1) (omega arith)) in
            let near = s.levels.near 0 (get_or f (d - 1) 0) some on in
            subst T (walk_alone near.walk refl) near.is;
        shortest = λ u j walk is.
            by_cases (dec_le j d)
            (λ h.
            let q = s.levels.full a u j walk is h in
            let before = q.before in
            let same = s.levels.apart q.level (d - 1) a (omega arith) (omega arith) q.on (met_at some) in
            omega arith)
            (λ h. omega arith);
        lowest = λ i w u h e walk is. t.lowest i w h e (level_of i w u h e walk is);
      }
    where
      never : d ≡ 0 → ⊥
      never e = omega arith

      -- a target is as far from w as the level below that of f i says: nearer, it would be nearer to f i too
      level_of : (i w u : ℕ) → i + 1 < d → E (get_or f i 0) w → Walk E P w u (d - (i + 1)) → T u → Has (get_or l (d - 1 - (i + 1)) 0) w
      level_of i w u h e walk is =
          let q = s.levels.full w u (d - (i + 1)) walk is (omega arith) in
          let before = q.before in
          let near = s.levels.near q.level w (omega arith) q.on in
          let on = t.level i (omega arith) in
          let inside = walk_first (s.levels.near (d - 1 - i) (get_or f i 0) (omega arith) on).walk in
          let up = s.levels.full (get_or f i 0) near.target (suc (q.level + 1)) (step inside e near.walk) near.is (omega arith) in
          let low = up.before in
          let same = s.levels.apart up.level (d - 1 - i) (get_or f i 0) (omega arith) (omega arith) up.on on in
          let level_is : q.level ≡ d - 1 - (i + 1) = omega arith in
          subst (λ (j : ℕ). Has (get_or l j 0) w) level_is q.on

whole_reached : (g : List ℕ) (f b t x d : ℕ) (l : List ℕ) → Symmetric (Edge g) → Has f b → ((p : ℕ) → Has t p ↔ (p ≡ b))
    → Spread (Edge g) (Has f) (Has t) (Has 0) l d x → (x ≡ 0) ↔ Whole (Edge g) (Has f)
whole_reached g f b t x d l symmetric free only s = (
  λ e. whole_base symmetric b (λ v p. home v p (λ h. has_none v (subst (λ (y : ℕ). Has y v) e h))),
  λ whole. none_empty x (λ v h. let way = whole v b (s.within v h) free in s.gone none v b way.size way.walk ((only b).1 refl) h),
)
  where
    none : d ≡ 0
    none = by_cases (ℕ_discrete d 0) (λ e. e) (λ e. let m = s.met (omega arith) in absurd (has_none m.at m.goal))

    home : (v : ℕ) → Has f v → (Has x v → ⊥) → Way (Edge g) (Has f) v b
    home v p out =
        let r = s.near none v p out in
        let near = r.1 in
        record { size = r.0; walk = subst (λ (y : ℕ). Walk (Edge g) (Has f) v y r.0) ((only near.target).0 near.is) near.walk }

-- the same of the number of levels as the search yields it
pub whole_searched : (g : List ℕ) (f b t x : ℕ) (d : Option ℕ) (l : List ℕ) → Symmetric (Edge g) → Has f b → ((p : ℕ) → Has t p ↔ (p ≡ b))
    → OrZero (λ k. Spread (Edge g) (Has f) (Has t) (Has 0) l k x) d → (x ≡ 0) ↔ Whole (Edge g) (Has f)
whole_searched g f b t x None l symmetric free only s = whole_reached g f b t x 0 l symmetric free only s
whole_searched g f b t x (Some k) l symmetric free only s = whole_reached g f b t x k l symmetric free only s.1

pub whole-nothing : (g : List ℕ) (f : ℕ) → f ≡ 0 → Whole (Edge g) (Has f)
whole-nothing g f e u v hu = absurd (has_none u (subst (λ (y : ℕ). Has y u) e hu))

-- a set tested against the empty one
pub empty_test : {A : Type 0} (x : ℕ) → (x ≡ 0) ↔ A → (eqb x 0 ≡ true) ↔ A
empty_test x same = (λ e. same.0 (eqb→eq x 0 (subst T (sym e) tt)), λ a. ap (λ (y : ℕ). eqb y 0) (same.1 a))

-- the same positions, as a set and as a predicate: they hang together or they do not
pub whole_set : {P : ℕ → Type 0} (g : List ℕ) (f : ℕ) → ((p : ℕ) → Has f p ↔ P p) → (r : Bool) → (r ≡ true)
    ↔ Whole (Edge g) (Has f) → (r ≡ true) ↔ Whole (Edge g) P
whole_set g f same r says = says_same (whole_same (λ p. (same p).0) (λ p. (same p).1)) (whole_same (λ p. (same p).1) (λ p. (same p).0)) says

pub except_is : (n x b f p : ℕ) → Has b p ↔ (p < n) → Has f p ↔ (Has b p × (p ≢ x)) → Has f p ↔ Except (Below n) x p
except_is n x b f p below less = (
  λ h. let r = less.0 h in record { there = below.0 r.0; other = r.1 },
  λ e. less.1 (below.1 e.there, e.other),
)
