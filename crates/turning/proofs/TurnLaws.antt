-- Laws of a cycle that is turned.
--
--     whole, whole_edge        rows with an edge from each position to each: how long a journey is does not hang on the rows
--     near, far                (z + i) % size, before and after the cycle's last place is passed
--     round_in, round_below    that is a place of the cycle, and so a position below 64
--     round_on                 the place after the place j places after z
--     round_whole              place z itself
--     round-apart              those of i = 1, .., size are different positions
--     round_edge               an edge leads from each to the next
--     Turning at size i h k    what stood at the places i, .., size - 1 of `at` stands one place on, place i is vacant, the rest is as it
--                              was
--     turning_first, turning_next, turning_last    nothing is moved yet; place i is passed on to place i + 1; all round the cycle is turned
--     PassedBy m a b h ms ws    ms is the move of what stands at a to b, and ws that of a real rack, with the rack
--     went_passed              one move at most, after which what stood at a stands at b: just that
--     pass_moves-next           the moves from place i on, the first of them apart
--     Onward at size i g s l t s' l' t'    the journey so far; its moves, and then those of the places before i, are those of the turn
--     Underway                 the loop of `turn`: the journey so far, by any rows with the cycle's edges, and the turn in the making
--     underway_first, underway_next    where it begins, and goes on
--     underway_journey, underway_shown    where it ends: the moves of the turn, and what is shown of it
--     underway_tail, underway_fits    the plan's bytes are as many as before, and there is room for a move more
--     underway_enterable       place i is vacant, for what stands before it
--     vacant-place             the lowest vacant place of a cycle that has one
-- Assumes nothing.
use Prim.Native.Nat.{ℕ, zero, suc, ◌+◌, ◌-◌, ◌%◌, ◌^◌, ◌≤◌, ◌<◌}
use mathlib.Core.Path.{◌≡◌, refl, sym, ap, subst, ◌∙◌}
use mathlib.Core.Bool.{Bool, true, false, cond, ◌&&◌}
use mathlib.Core.List.{List, [], ◌∷◌, ◌++◌, append_assoc, append-nil}
use mathlib.Core.Logic.{◌≢◌, by_cases}
use native.Mathlib.Decide.{dec_lt, ℕ_discrete}
use native.Mathlib.Nat.{mod-lt, mod-eq_of_lt, mod-eq-sub-mod}
use native.Mathlib.Omega.{arith}
use lib.Dec.{leb}
use lib.ListN.{length, replicate, get_or-replicate}
use borrow.Author.Tests.{lt-ltb, le-ltb, le-leb, lt-leb}
use Rattle.field.specs.Listed.{moves_of}
use Rattle.field.proofs.ListedLaws.{moves_of_append}
use Rattle.sets.specs.Sets.{Has}
use Rattle.sets.proofs.SetLaws.{has_first}
use Rattle.graph.specs.Rows.{row, Edge}
use Rattle.breakdown.proofs.PlaceLaws.{place_at}
use Rattle.moving.specs.declared.State.{State}
use Rattle.moving.specs.Went.{Same, Move, Went}
use Rattle.moving.specs.Went.Went.{stay, real, stand_in}
use Rattle.moving.specs.Journey.{Fits, Journey, JourneyBy, Joins, JourneyOn}
use Rattle.moving.proofs.WentLaws.{move_just}
use Rattle.moving.proofs.JourneyLaws.{journey_by_none, journey_by_more, journey_by_append, journey_by_to, journey_by_went}
use Rattle.moving.proofs.JourneyLaws.{fits_then, fits_less}
use Rattle.moving.specs.OnePlace.{Enterable, Passed, Simple}
use Rattle.turning.specs.Turned.{Round, VacantPlace, Turnable, Turned}
use Rattle.turning.specs.Turned.{vacant_place, round_from, is_rack, is_real, pass_move, pass_moves, turn_by}
use Rattle.turning.specs.Turned.{TurnJourney, TurnShown}

whole : List ℕ
whole = replicate 64 (2 ^ 64 - 1)

whole_edge : (a b : ℕ) → a < 64 → b < 64 → Edge whole a b
unfolding whole
whole_edge a b ha hb = subst (λ (s : ℕ). Has s b) (sym (get_or-replicate 64 a (2 ^ 64 - 1) 0 ha)) ((has_first 64 b).1 hb)

near : (x size : ℕ) → x < size → x % size ≡ x
near x size h = mod-eq_of_lt h

far : (x size : ℕ) → size ≤ x → x < size + size → x % size ≡ x - size
far x size l h = mod-eq-sub-mod l ∙ mod-eq_of_lt (omega arith)

pub round_in : (z size : ℕ) → z < size → (i : ℕ) → (z + i) % size < size
round_in z size hz i = mod-lt (z + i) (omega arith)

round_on : (at : ℕ → ℕ) (z size : ℕ) {b i : ℕ} (j : ℕ) → i ≡ j + 1 → b ≡ at ((z + j + 1) % size)
    → b ≡ round_from at z size i
round_on at z size {i = i} j e is = is ∙ ap (λ (k : ℕ). at (k % size)) (let same : z + j + 1 ≡ z + i = omega arith in same)

module _ (at : ℕ → ℕ) (z size : ℕ) (hz : z < size) where
  pub round_below : Simple at size → (i : ℕ) → round_from at z size i < 64
  round_below simple i = simple.below ((z + i) % size) (round_in z size hz i)

  pub round_whole : round_from at z size size ≡ at z
  round_whole = ap at (let f = far (z + size) size (omega arith) (omega arith) in omega arith)

  places-apart : (i j : ℕ) → 0 < i → i < j → j ≤ size → (z + i) % size ≢ (z + j) % size
  places-apart i j hi hij hj e =
      by_cases (dec_lt (z + j) size)
      (λ y. let a = near (z + i) size (omega arith) in let b = near (z + j) size y in omega arith)
      (λ y.
      let b = far (z + j) size (omega arith) (omega arith) in
      by_cases (dec_lt (z + i) size)
      (λ x. let a = near (z + i) size x in omega arith)
      (λ x. let a = far (z + i) size (omega arith) (omega arith) in omega arith))

  module _ (simple : Simple at size) where
    places : (u v : ℕ) → u < size → v < size → u ≢ v → at u ≢ at v
    places u v hu hv n =
        by_cases (dec_lt u v)
        (λ l. simple.distinct u v l hv)
        (λ l e. simple.distinct v u (omega arith) hu (sym e))

    pub round-apart : (i j : ℕ) → 0 < i → i < j → j ≤ size → round_from at z size i ≢ round_from at z size j
    round-apart i j hi hij hj =
        places ((z + i) % size) ((z + j) % size) (round_in z size hz i) (round_in z size hz j) (places-apart i j hi hij hj)

  module _ (g : List ℕ) (around : Round at size g) where
    places_edge : (u v : ℕ) → u < size → (u + 1 < size → v ≡ u + 1) → (u + 1 ≡ size → v ≡ 0) → Edge g (at u) (at v)
    places_edge u v hu inner outer =
        by_cases (dec_lt (u + 1) size)
        (λ l. subst (λ (x : ℕ). Edge g (at u) (at x)) (sym (inner l)) (around.joined u l))
        (λ l.
        subst (λ (x : ℕ). Edge g (at u) (at x)) (sym (outer (omega arith)))
        (subst (λ (x : ℕ). Edge g (at x) (at 0)) (let e : size - 1 ≡ u = omega arith in e) around.closed))

    pub round_edge : (i : ℕ) → i < size → Edge g (round_from at z size i) (round_from at z size (i + 1))
    round_edge i hi =
        by_cases (dec_lt (z + i) size)
        (λ x.
        let a = near (z + i) size x in
        by_cases (dec_lt (z + (i + 1)) size)
        (λ y. let b = near (z + (i + 1)) size y in places_edge _ _ (omega arith) (λ l. omega arith) (λ l. omega arith))
        (λ y.
        let b = far (z + (i + 1)) size (omega arith) (omega arith) in
        places_edge _ _ (omega arith) (λ l. omega arith) (λ l. omega arith)))
        (λ x.
        let a = far (z + i) size (omega arith) (omega arith) in
        let b = far (z + (i + 1)) size (omega arith) (omega arith) in
        places_edge _ _ (omega arith) (λ l. omega arith) (λ l. omega arith))

-- The places are 1, .., size here. Place `size` was vacant.
pub record Turning (at : ℕ → ℕ) (size i : ℕ) (h k : ℕ → ℕ) : Type 0 where
  pub on : (j : ℕ) → i ≤ j → j < size → k (at (j + 1)) ≡ h (at j)
  pub vacant : k (at i) ≡ 0
  pub ahead : (j : ℕ) → 0 < j → j < i → k (at j) ≡ h (at j)
  pub others : (p : ℕ) → ((j : ℕ) → 0 < j → j ≤ size → at j ≢ p) → k p ≡ h p

pub turning_first : (at : ℕ → ℕ) (size : ℕ) (h : ℕ → ℕ) → h (at size) ≡ 0 → Turning at size size h h
turning_first at size h e = record { on = λ j x y. absurd (omega arith); vacant = e; ahead = λ j x y. refl; others = λ p x. refl }

pub turning_next : (at : ℕ → ℕ) (size i : ℕ) (h k l : ℕ → ℕ) → ((i j : ℕ) → 0 < i → i < j → j ≤ size → at i ≢ at j) → 0 < i → i < size
    → Passed (at i) (at (i + 1)) k l → Turning at size (i + 1) h k → Turning at size i h l
turning_next at size i h k l apart hi his passed t =
    let others = passed.others in
    record {
      on = λ j x y.
          by_cases (ℕ_discrete j i)
          (λ e. subst (λ (n : ℕ). l (at (n + 1)) ≡ h (at n)) (sym e) (passed.entered ∙ t.ahead i hi (omega arith)))
          (λ n.
          others (at (j + 1)) (λ e. apart i (j + 1) hi (omega arith) (omega arith) (sym e))
          (λ e. apart (i + 1) (j + 1) (omega arith) (omega arith) (omega arith) (sym e))
          ∙ t.on j (omega arith) y);
      vacant = passed.left;
      ahead = λ j x y.
          others (at j) (apart j i x y (omega arith)) (apart j (i + 1) x (omega arith) (omega arith)) ∙ t.ahead j x (omega arith);
      others = λ p x.
          others p (λ e. x i hi (omega arith) (sym e)) (λ e. x (i + 1) (omega arith) (omega arith) (sym e)) ∙ t.others p x;
    }

module _ (at : ℕ → ℕ) (z size : ℕ) (h k : ℕ → ℕ) (hz : z < size) (was : h (at z) ≡ 0) (t : Turning (round_from at z size) size 1 h k) where
  moved : (j u v : ℕ) → 0 < j → j < size → (z + j) % size ≡ u → (z + (j + 1)) % size ≡ v → k (at v) ≡ h (at u)
  moved j u v hj hjs eu ev = ap (λ (x : ℕ). k (at x)) (sym ev) ∙ t.on j (omega arith) hjs ∙ ap (λ (x : ℕ). h (at x)) eu

  emptied : (v : ℕ) → (z + 1) % size ≡ v → k (at v) ≡ h (at z)
  emptied v ev = ap (λ (x : ℕ). k (at x)) (sym ev) ∙ t.vacant ∙ sym was

  next : (i : ℕ) → i + 1 < size → k (at (i + 1)) ≡ h (at i)
  next i hi =
      by_cases (ℕ_discrete i z)
      (λ e. subst (λ (x : ℕ). k (at (i + 1)) ≡ h (at x)) (sym e) (emptied (i + 1) (let n = near (z + 1) size (omega arith) in omega arith)))
      (λ n.
      by_cases (dec_lt z i)
      (λ l.
      let a = near (z + (i - z)) size (omega arith) in
      let b = near (z + (i - z + 1)) size (omega arith) in
      moved (i - z) i (i + 1) (omega arith) (omega arith) (omega arith) (omega arith))
      (λ l.
      let a = far (z + (i + size - z)) size (omega arith) (omega arith) in
      let b = far (z + (i + size - z + 1)) size (omega arith) (omega arith) in
      moved (i + size - z) i (i + 1) (omega arith) (omega arith) (omega arith) (omega arith)))

  first : k (at 0) ≡ h (at (size - 1))
  first =
      by_cases (ℕ_discrete (z + 1) size)
      (λ e.
      let f = far (z + 1) size (omega arith) (omega arith) in
      let s : z ≡ size - 1 = omega arith in
      subst (λ (x : ℕ). k (at 0) ≡ h (at x)) s (emptied 0 (omega arith)))
      (λ n.
      let a = near (z + (size - 1 - z)) size (omega arith) in
      let b = far (z + (size - 1 - z + 1)) size (omega arith) (omega arith) in
      moved (size - 1 - z) (size - 1) 0 (omega arith) (omega arith) (omega arith) (omega arith))

  pub turning_last : Turned at size h k
  turning_last =
      record { on = next; closed = first; others = λ p x. t.others p (λ j y l. x ((z + j) % size) (mod-lt (z + j) (omega arith))) }

pub record PassedBy (m a b : ℕ) (h : ℕ → ℕ) (ms : List (ℕ × ℕ)) (ws : List (ℕ × ℕ × ℕ)) : Type 0 where
  pub moves : ms ≡ moves_of (pass_move is_rack a b h)
  pub written : ws ≡ pass_move (is_real m) a b h

module _ (m a b : ℕ) (h : ℕ → ℕ) where
  pass_is : (keep : ℕ → Bool) (t : Bool) → keep (h a) ≡ t → cond t ((a, b, h a) ∷ []) [] ≡ pass_move keep a b h
  pass_is keep t e = ap (λ (u : Bool). cond {A = List (ℕ × ℕ × ℕ)} u ((a, b, h a) ∷ []) []) (sym e)

  pass_none : h a ≡ 0 → PassedBy m a b h [] []
  unfolding moves_of
  pass_none e =
      let no = le-ltb 0 (h a) (omega arith) in
      record {
        moves = ap moves_of (pass_is is_rack false no);
        written = pass_is (is_real m) false
            (ap (λ (t : Bool). t && leb (h a) m) no);
      }

  module _ (n : h a ≢ 0) where
    pass_real : h a ≤ m → PassedBy m a b h ((a, b) ∷ []) ((a, b, h a) ∷ [])
    unfolding moves_of
    pass_real l =
        let yes = lt-ltb 0 (h a) (omega arith) in
        record {
          moves = ap moves_of (pass_is is_rack true yes);
          written = pass_is (is_real m) true (ap (λ (t : Bool). t && leb (h a) m) yes ∙ le-leb (h a) m l);
        }

    pass_stand_in : m < h a → PassedBy m a b h ((a, b) ∷ []) []
    unfolding moves_of
    pass_stand_in l =
        let yes = lt-ltb 0 (h a) (omega arith) in
        record {
          moves = ap moves_of (pass_is is_rack true yes);
          written = pass_is (is_real m) false (ap (λ (t : Bool). t && leb (h a) m) yes ∙ lt-leb (h a) m l);
        }

pass_pair : {a b x y : ℕ} → (a ≡ x) × (b ≡ y) → ◌≡◌ {A = List (ℕ × ℕ)} ((a, b) ∷ []) ((x, y) ∷ [])
pass_pair {b = b} {x} e =
    ap {B = List (ℕ × ℕ)} (λ (u : ℕ). (u, b) ∷ []) e.0 ∙ ap {B = List (ℕ × ℕ)} (λ (v : ℕ). (x, v) ∷ []) e.1

pass-listed : {m a b x y r : ℕ} {h : ℕ → ℕ} → (a ≡ x) × (b ≡ y) → r ≡ h a → PassedBy m a b h ((a, b) ∷ []) ((a, b, h a) ∷ [])
    → PassedBy m a b h ((x, y) ∷ []) ((x, y, r) ∷ [])
pass-listed {a = a} {b} {x} {y} {r} {h} e f p =
    let u = e.0 in
    let v = e.1 in
    let listed : ◌≡◌ {A = List (ℕ × ℕ × ℕ)} ((x, y, r) ∷ []) ((a, b, h a) ∷ []) = cc in
    record { moves = sym (pass_pair e) ∙ p.moves; written = listed ∙ p.written }

module _ {E : ℕ → ℕ → Type 0} {h k : ℕ → ℕ} (a b : ℕ) (free : h b ≡ 0) (p : Passed a b h k) where
  -- no move where a is vacant: the position that it leaves had a rack, and would still have it
  pass_still : {i : ℕ → ℕ} {x y : ℕ} → h a ≡ 0 → Move E h x y i → Same i k → ⊥
  pass_still {x = x} e move s =
      move.held
      (sym (p.others x (λ f. move.held (ap h f ∙ e)) (λ f. move.held (ap h f ∙ free))) ∙ sym (s x) ∙ move.left)

  pass_just : {i : ℕ → ℕ} {x y : ℕ} → h a ≢ 0 → Move E h x y i → Same i k → (a ≡ x) × (b ≡ y)
  pass_just n move s = move_just a b n p.left free (λ e. n (sym p.entered ∙ e)) move s

  pub went_passed : {m : ℕ} {ms : List (ℕ × ℕ)} {ws : List (ℕ × ℕ × ℕ)} → Went E m h ms ws k → length ms ≤ 1 → PassedBy m a b h ms ws
  went_passed {m} (stay s) few =
      by_cases (ℕ_discrete (h a) 0) (λ e. pass_none m a b h e) (λ n. absurd (n (s a ∙ p.left)))
  went_passed {m} (real {r = r} x q l (stay s)) few =
      by_cases (ℕ_discrete (h a) 0)
      (λ e. absurd (pass_still e x s))
      (λ n.
      let just = pass_just n x s in
      pass-listed just (q ∙ sym (ap h just.0)) (pass_real m a b h n (subst (λ (p : ℕ). h p ≤ m) (sym just.0) l)))
  went_passed {m} (stand_in x l (stay s)) few =
      by_cases (ℕ_discrete (h a) 0)
      (λ e. absurd (pass_still e x s))
      (λ n.
      let just = pass_just n x s in
      subst (λ (u : List (ℕ × ℕ)). PassedBy m a b h u []) (pass_pair just)
      (pass_stand_in m a b h n (subst (λ (r : ℕ). m < h r) (sym just.0) l)))
  went_passed (real x q l (real y f r w)) few = absurd (omega arith)
  went_passed (real x q l (stand_in y r w)) few = absurd (omega arith)
  went_passed (stand_in x l (real y f r w)) few = absurd (omega arith)
  went_passed (stand_in x l (stand_in y r w)) few = absurd (omega arith)

module _ (keep : ℕ → Bool) (at h : ℕ → ℕ) where
  pub pass_moves-next : (i : ℕ) → 0 < i → pass_move keep (at i) (at (i + 1)) h ++ pass_moves keep at h (i - 1) ≡ pass_moves keep at h i
  unfolding pass_moves
  pass_moves-next zero l = absurd (omega arith)
  pass_moves-next (suc c) l =
      let down : suc c - 1 ≡ c = omega arith in
      ap (λ (n : ℕ). pass_move keep (at (suc c)) (at (suc c + 1)) h ++ pass_moves keep at h n) down

  -- ms so far, and now ns, which is what place i adds, by a table k that has there what h has
  onward-next : (i : ℕ) (k : ℕ → ℕ) (ms ns all : List (ℕ × ℕ × ℕ)) → 0 < i → k (at i) ≡ h (at i) → ns ≡ pass_move keep (at i) (at (i + 1)) k
      → ms ++ pass_moves keep at h (i + 1 - 1) ≡ all → (ms ++ ns) ++ pass_moves keep at h (i - 1) ≡ all
  onward-next i k ms ns all hi same is e =
      let up : i ≡ i + 1 - 1 = omega arith in
      append_assoc ms ns (pass_moves keep at h (i - 1))
      ∙ ap (λ (x : List (ℕ × ℕ × ℕ)). ms ++ (x ++ pass_moves keep at h (i - 1)))
      (is ∙ ap (λ (r : ℕ). cond {A = List (ℕ × ℕ × ℕ)} (keep r) ((at i, at (i + 1), r) ∷ []) []) same)
      ∙ ap (λ (x : List (ℕ × ℕ × ℕ)). ms ++ x) (pass_moves-next i hi)
      ∙ ap (λ (n : ℕ). ms ++ pass_moves keep at h n) up
      ∙ e

  onward_last : (i : ℕ) (ms all : List (ℕ × ℕ × ℕ)) → i ≡ 1 → ms ++ pass_moves keep at h (i - 1) ≡ all → ms ≡ all
  unfolding pass_moves
  onward_last i ms all one e =
      let none : 0 ≡ i - 1 = omega arith in
      sym (append-nil ms) ∙ ap (λ (n : ℕ). ms ++ pass_moves keep at h n) none ∙ e

-- `at` goes round from the vacancy on
pub record Onward (at : ℕ → ℕ) (size i : ℕ) (g : List ℕ) (s : State) (l t : List ℕ) (s' : State) (l' t' : List ℕ) : Type 0 where
  pub made : List (ℕ × ℕ × ℕ)
  pub packed : List (ℕ × ℕ × ℕ)
  pub journey : JourneyBy (moves_of made) packed g (size - i) s l t s' l' t'
  pub moves : made ++ pass_moves is_rack at (row s.racks) (i - 1) ≡ pass_moves is_rack at (row s.racks) (size - 1)
  pub written : packed ++ pass_moves (is_real s.real) at (row s.racks) (i - 1)
      ≡ pass_moves (is_real s.real) at (row s.racks) (size - 1)

onward-first : (at : ℕ → ℕ) (size : ℕ) (g : List ℕ) (s : State) (l t : List ℕ) → Onward at size size g s l t s l t
unfolding moves_of
onward-first at size g s l t =
    record {
      made = [];
      packed = [];
      journey = journey_by_more (size - size) (omega arith) (journey_by_none s l t);
      moves = refl;
      written = refl;
    }

onward_one : {at : ℕ → ℕ} {size i : ℕ} {g : List ℕ} {s s' s'' : State} {l t l' t' l'' t'' : List ℕ} → 0 < i → i < size
    → row s'.racks (at i) ≡ row s.racks (at i) → row s'.racks (at (i + 1)) ≡ 0
    → Onward at size (i + 1) g s l t s' l' t' → Journey g 1 s' l' t' s'' l'' t''
    → Passed (at i) (at (i + 1)) (row s'.racks) (row s''.racks) → Onward at size i g s l t s'' l'' t''
onward_one {at} {size} {i} {s = s} {s'} hi his same free u step p =
    let h = row s.racks in
    let k = row s'.racks in
    let by = went_passed (at i) (at (i + 1)) free p step.trip.went step.trip.few in
    let reals = u.journey.journey.trip.reals in
    let written = by.written ∙ ap (λ (m : ℕ). pass_move (is_real m) (at i) (at (i + 1)) k) reals in
    let next = pass_move is_rack (at i) (at (i + 1)) k in
    record {
      made = u.made ++ next;
      packed = u.packed ++ step.trip.written;
      journey =
          journey_by_more (size - i) (omega arith)
          (journey_by_to (sym (moves_of_append u.made next)) refl
          (journey_by_append u.journey (record { journey = step; moves = by.moves; written = refl })));
      moves = onward-next is_rack at h i k u.made next _ hi same refl u.moves;
      written = onward-next (is_real s.real) at h i k u.packed step.trip.written _ hi same written u.written;
    }

pub record Underway (at : ℕ → ℕ) (z size i : ℕ) (s : State) (l t : List ℕ) (s' : State) (l' t' : List ℕ) : Type 0 where
  pub low : 0 < i
  pub high : i ≤ size
  pub onward : (g : List ℕ) → Round at size g → Onward (round_from at z size) size i g s l t s' l' t'
  pub turning : Turning (round_from at z size) size i (row s.racks) (row s'.racks)

module _ {at : ℕ → ℕ} {z size : ℕ} {s : State} {l t : List ℕ} (v : VacantPlace at size (row s.racks) z) where
  pub underway_first : Underway at z size size s l t s l t
  underway_first =
      let hz = v.before in
      record {
        low = omega arith;
        high = omega arith;
        onward = λ g around. onward-first (round_from at z size) size g s l t;
        turning = turning_first (round_from at z size) size (row s.racks) (ap (row s.racks) (round_whole at z size hz) ∙ v.vacant);
      }

  module _ (simple : Simple at size) {s' : State} {l' t' : List ℕ} where
    module _ {i : ℕ} (u : Underway at z size i s l t s' l' t') where
      whole_journey : Journey whole (size - i) s l t s' l' t'
      whole_journey =
          let hz = v.before in
          (u.onward whole
          (record {
            joined = λ n x. whole_edge (at n) (at (n + 1)) (simple.below n (omega arith)) (simple.below (n + 1) x);
            closed = whole_edge (at (size - 1)) (at 0) (simple.below (size - 1) (omega arith)) (simple.below 0 (omega arith));
          })
          ).journey.journey

      pub underway_tail : length t' ≡ length t
      underway_tail = whole_journey.trip.tail

      pub underway_fits : Fits s l t size → 1 < i → Fits s' l' t' 1
      underway_fits f hi = let high = u.high in fits_then (fits_less (size - i + 1) (omega arith) f) whole_journey

      pub underway_enterable : {a b : ℕ} (j : ℕ) → i ≡ j + 1 → a ≡ round_from at z size j → b ≡ at ((z + j + 1) % size)
          → Enterable a b (row s'.racks)
      underway_enterable j e leaves enters =
          let into = round_on at z size j e enters in
          record {
            leaves = subst (λ (p : ℕ). p < 64) (sym leaves) (round_below at z size v.before simple j);
            enters = subst (λ (p : ℕ). p < 64) (sym into) (round_below at z size v.before simple i);
            vacant = ap (row s'.racks) into ∙ u.turning.vacant;
          }

    module _ {s'' : State} {l'' t'' : List ℕ} where
      underway_one : (i : ℕ) → 0 < i
          → JourneyOn (Joins (round_from at z size i) (round_from at z size (i + 1))) 1 s' l' t' s'' l'' t''
          → Passed (round_from at z size i) (round_from at z size (i + 1)) (row s'.racks) (row s''.racks)
          → Underway at z size (i + 1) s l t s' l' t' → Underway at z size i s l t s'' l'' t''
      underway_one i hi step moved u =
          let high = u.high in
          record {
            low = hi;
            high = omega arith;
            onward = λ g around.
                onward_one hi (omega arith) (u.turning.ahead i hi (omega arith)) u.turning.vacant
                (u.onward g around) (step g (round_edge at z size v.before g around i (omega arith))) moved;
            turning =
                turning_next (round_from at z size) size i (row s.racks) (row s'.racks) (row s''.racks)
                (round-apart at z size v.before simple) hi (omega arith) moved u.turning;
          }

      pub underway_next : {a b i : ℕ} (j : ℕ) → i ≡ j + 1 → 0 < j → a ≡ round_from at z size j → b ≡ at ((z + j + 1) % size)
          → JourneyOn (Joins a b) 1 s' l' t' s'' l'' t'' → Passed a b (row s'.racks) (row s''.racks)
          → Underway at z size i s l t s' l' t' → Underway at z size j s l t s'' l'' t''
      underway_next {a} j e hj leaves enters step moved u =
          let into = round_on at z size j refl enters in
          underway_one j hj
          (subst (λ (p : ℕ). JourneyOn (Joins p (round_from at z size (j + 1))) 1 s' l' t' s'' l'' t'') leaves
          (subst (λ (q : ℕ). JourneyOn (Joins a q) 1 s' l' t' s'' l'' t'') into step))
          (subst (λ (p : ℕ). Passed p (round_from at z size (j + 1)) (row s'.racks) (row s''.racks)) leaves
          (subst (λ (q : ℕ). Passed a q (row s'.racks) (row s''.racks)) into moved))
          (subst (λ (n : ℕ). Underway at z size n s l t s' l' t') e u)

  module _ {s' : State} {l' t' : List ℕ} {i : ℕ} (le : i ≤ 1) (u : Underway at z size i s l t s' l' t') where
    one : i ≡ 1
    one = let low = u.low in omega arith

    underway_turned : Turned at size (row s.racks) (row s'.racks)
    underway_turned =
        turning_last at z size (row s.racks) (row s'.racks) v.before v.vacant
        (subst (λ (n : ℕ). Turning (round_from at z size) size n (row s.racks) (row s'.racks)) one u.turning)

    module _ (is : z ≡ vacant_place at size (row s.racks)) where
      turn_all : (keep : ℕ → Bool) (ms : List (ℕ × ℕ × ℕ))
          → ms ++ pass_moves keep (round_from at z size) (row s.racks) (i - 1)
          ≡ pass_moves keep (round_from at z size) (row s.racks) (size - 1)
          → ms ≡ turn_by keep at size (row s.racks)
      turn_all keep ms e =
          onward_last keep (round_from at z size) (row s.racks) i ms _ one e
          ∙ ap (λ (y : ℕ). pass_moves keep (round_from at y size) (row s.racks) (size - 1)) is

      pub underway_journey : TurnJourney at size s l t s' l' t'
      underway_journey g around =
          let o = u.onward g around in
          journey_by_more size (omega arith)
          (journey_by_to (ap moves_of (turn_all is_rack o.made o.moves)) (turn_all (is_real s.real) o.packed o.written)
          o.journey)

      pub underway_shown : TurnShown at size s s'
      underway_shown = record { legal = λ g around. journey_by_went (underway_journey g around); turned = underway_turned }

pub vacant-place : {at h : ℕ → ℕ} {size z : ℕ} → z ≡ vacant_place at size h → Turnable at size h → VacantPlace at size h z
vacant-place is v =
    let p = place_at is (record { place = v.0; from = omega arith; before = v.1.before; is = v.1.vacant }) in
    record { before = p.before; vacant = p.is }
