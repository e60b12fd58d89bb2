-- Laws of choosing the pair with the shortest way on.
--
--     better_none, better_first    where no other pair has a way, the one so far stays; the first is better than none
--     chosen_same, chosen_better    from what is said of pairs to what is said of the chosen one, if there is one
--     choice_none       nothing is chosen where no pair that is done is allowed
--     choice_less       the choice stands where no allowed pair is new
--     choice_stop       a choice as short as any can be stands, whatever pairs are done
--     choice_better     the better one of the choice and the one new pair
--     choice_enter, choice_turn, choice_leave    of the pairs that begin at a none is done, one more, all
--     ring_none, ring-enter, ring_turn, ring_leave, ring-done
--                       these laws at the choice of a base ring; done, where all that begin before n are
--     handle_none, handle_enter, handle_turn, handle_leave, handle_done, handle_skip, handle_stop
--                       and at that of a handle; a position that is not settled is skipped, and one inner position with an end is as short
--                       as any handle can be
--     ring_entered, ring_no_way, ring_one_way, ring_left, ring_all, handle_entered, handle_no_way, handle_one_way, handle_left, handle_all,
--     handle_skipped, handle_stopped    the same of the pair that the code has, if one is chosen
--     rest_less         a set without one of its positions has fewer
-- Assumes nothing.
use Prim.Native.Nat.{ℕ, ◌+◌, ◌≤◌, ◌<◌}
use mathlib.Core.Path.{◌≡◌, refl, sym, subst, subst₂}
use mathlib.Core.List.{List}
use mathlib.Core.Logic.{◌↔◌, ◌≢◌, ◌⊎◌, inl, inr, ⊎_elim, by_cases}
use native.Mathlib.Decide.{ℕ_discrete, dec_lt}
use native.Mathlib.Omega.{arith}
use lib.Count.{ones}
use lib.ListN.{get_or}
use Rattle.std.proofs.Common.{Option, Some, None, MatchOption}
use Rattle.sets.specs.Sets.{Has}
use Rattle.sets.proofs.SetLaws.{has_none}
use Rattle.sets.proofs.CountLaws.{ones_less}
use Rattle.graph.specs.Walk.{Walk}
use Rattle.graph.proofs.WalkLaws.{path_walk, walk_some, walk_alone}
use Rattle.graph.specs.Connected.{Except, Below}
use Rattle.graph.specs.Rows.{Edge, Rows}
use Rattle.graph.specs.Levels.{Near, Within}
use Rattle.graph.specs.Nearest.{NearestRoute}
use Rattle.graph.specs.declared.Route.{Route}
use Rattle.graph.proofs.NearestLaws.{nearest_found}
use Rattle.breakdown.specs.Choice.{Beside, Leaves, Before, Better, Choice, RingChoice, HandleChoice, Size, BetterOf, Chosen, RingWay}
use Rattle.breakdown.specs.declared.Pair.{Pair}
use Rattle.breakdown.proofs.ChoiceFacts.{Upto}

none : {x : ℕ} → x < 0 → ⊥
none h = omega arith

pub better_none : (f t k u w : ℕ) → Better f t k u w 0 f t k
better_none f t k u w =
    record { none = λ e. (e, refl); old = λ h. omega arith; now = λ h. absurd (none h); one = inl (refl, refl, refl) }

better_first : (u w j : ℕ) → Better 0 0 0 u w j u w j
better_first u w j =
    record { none = λ e. (refl, e); old = λ h. absurd (none h); now = λ h. omega arith; one = inr (refl, refl, refl) }

module _ {R S : ℕ → ℕ → ℕ → Type 0} where
  pub chosen_same : ((x y k : ℕ) → R x y k → S x y k) → (o : Option Pair) → Chosen R o → Chosen S o
  chosen_same f None r = f 0 0 0 r
  chosen_same f (Some p) r = (r.0, f p.from p.to p.size r.1)

  pub chosen_better : (o : Option Pair) (p q : Pair) → 0 < p.size → BetterOf o p q
      → ((f t k x y z : ℕ) → Better f t k p.from p.to p.size x y z → R f t k → S x y z) → Chosen R o → Chosen S (Some q)
  chosen_better None p q some is turn r =
      subst (λ (v : Pair). (0 < v.size) × S v.from v.to v.size) (sym is)
      (some, turn 0 0 0 p.from p.to p.size (better_first p.from p.to p.size) r)
  chosen_better (Some o) p q some is turn r =
      let b = is r.0 some in
      let old = r.0 in (
        by_cases (ℕ_discrete q.size 0) (λ e. let zero = (b.none e).0 in omega arith) (λ e. omega arith),
        turn o.from o.to o.size q.from q.to q.size b r.1,
      )

module _ {n : ℕ} {E : ℕ → ℕ → Type 0} (C : ℕ → ℕ → Type 0) (T : ℕ → ℕ → ℕ → Type 0) where
  pub choice_none : (D : ℕ → ℕ → Type 0) (u w : ℕ) → ((x y : ℕ) → D x y → C x y → ⊥) → Choice n E C T D u w 0
  choice_none D u w empty =
      record { least = λ a b t j d c. absurd (empty a b d c); pair = λ h. absurd (none h); way = λ h. absurd (none h) }

  module _ (D D' : ℕ → ℕ → Type 0) where
    pub choice_less : (u w k : ℕ) → ((x y : ℕ) → D' x y → C x y → D x y) → Choice n E C T D u w k → Choice n E C T D' u w k
    choice_less u w k within c = record { least = λ a b t j d q. c.least a b t j (within a b d q) q; pair = c.pair; way = c.way }

    pub choice_stop : (u w k : ℕ) → 0 < k → ((a b t j : ℕ) → C a b → Walk E (Except (Below n) a) b t j → T a b t → k ≤ j)
        → Choice n E C T D u w k → Choice n E C T D' u w k
    choice_stop u w k some short c =
        record { least = λ a b t j d q walk is. record { some = some; most = short a b t j q walk is }; pair = c.pair; way = c.way }

    pub choice_better : (u w f t k j x y z : ℕ) → ((a b : ℕ) → D' a b → C a b → D a b ⊎ ((a ≡ u) × (b ≡ w))) → C u w
        → Size E (Except (Below n) u) (T u w) w j → Better f t k u w j x y z → Choice n E C T D f t k → Choice n E C T D' x y z
    choice_better u w f t k j x y z within allowed size better c =
        record {
          least = λ a b e i d q walk is. ⊎_elim
              (λ old. lower (c.least a b e i old q walk is))
              (λ new. this e i (subst₂ (λ (p r : ℕ). Walk E (Except (Below n) p) r e i) new.0 new.1 walk)
              (subst₂ (λ (p r : ℕ). T p r e) new.0 new.1 is))
              (within a b d q);
          pair = λ h. ⊎_elim
              (λ o. subst₂ C (sym o.0) (sym o.1) (c.pair (let e = o.2 in omega arith)))
              (λ o. subst₂ C (sym o.0) (sym o.1) allowed)
              better.one;
          way = λ h. ⊎_elim
              (λ o. same_way (sym o.0) (sym o.1) (sym o.2) (c.way (let e = o.2 in omega arith)))
              (λ o. same_way (sym o.0) (sym o.1) (sym o.2) (found (let e = o.2 in omega arith)))
              better.one;
        }
      where
        positive_old : 0 < k → 0 < z
        positive_old h = by_cases (ℕ_discrete z 0) (λ e. let r = better.none e in let q = r.0 in omega arith) (λ e. omega arith)

        positive_new : 0 < j → 0 < z
        positive_new h = by_cases (ℕ_discrete z 0) (λ e. let r = better.none e in let q = r.1 in omega arith) (λ e. omega arith)

        lower : {i : ℕ} → Within k i → Within z i
        lower r = let o = better.old r.some in let m = r.most in record { some = positive_old r.some; most = omega arith }

        this : (e i : ℕ) → Walk E (Except (Below n) u) w e i → T u w e → Within z i
        this e i walk is =
            let some = nearest_found size.nearest e i walk is in
            let short = size.nearest.shortest e i walk is in
            let now = better.now some in
            record { some = positive_new some; most = omega arith }

        same_way : {a a' b b' i i' : ℕ} → a ≡ a' → b ≡ b' → i ≡ i' → Near E (Except (Below n) a) (T a b) b i
            → Near E (Except (Below n) a') (T a' b') b' i'
        same_way {a} {a'} {b} {b'} {i} {i'} p q o r =
            subst (λ (v : ℕ). Near E (Except (Below n) a') (T a' b') b' v) o
            (subst₂ (λ (v v' : ℕ). Near E (Except (Below n) v) (T v v') v' i) p q r)

        found : 0 < j → Near E (Except (Below n) u) (T u w) w j
        found h = record { target = _; is = size.nearest.target h; walk = path_walk (size.nearest.path h) }

  pub choice_enter : (a rest u w k : ℕ) → ((y : ℕ) → C a y → Has rest y) → Choice n E C T (Before a) u w k
      → Choice n E C T (Upto a rest) u w k
  choice_enter a rest u w k all =
      choice_less (Before a) (Upto a rest) u w k (λ x y d c. ⊎_elim (λ l. l)
      (λ e. absurd (e.1 (all y (subst (λ (v : ℕ). C v y) e.0 c)))) d)

  pub choice_turn : (a b rest rest' f t k j x y z : ℕ) → ((p : ℕ) → Has rest' p ↔ (Has rest p × (p ≢ b))) → C a b
      → Size E (Except (Below n) a) (T a b) b j → Better f t k a b j x y z → Choice n E C T (Upto a rest) f t k
      → Choice n E C T (Upto a rest') x y z
  choice_turn a b rest rest' f t k j x y z without =
      choice_better (Upto a rest) (Upto a rest') a b f t k j x y z (λ p q d c. ⊎_elim
      (λ l. inl (inl l))
      (λ e. by_cases (ℕ_discrete q b)
      (λ s. inr (e.0, s))
      (λ s. inl (inr (e.0, λ h. e.1 ((without q).1 (h, s))))))
      d)

  pub choice_leave : (a rest u w k : ℕ) → rest ≡ 0 → Choice n E C T (Upto a rest) u w k → Choice n E C T (Before (a + 1)) u w k
  choice_leave a rest u w k empty =
      choice_less (Upto a rest) (Before (a + 1)) u w k (λ x y d c.
      by_cases (dec_lt x a) (λ l. inl l) (λ l. inr (omega arith, λ h. has_none y (subst (λ (v : ℕ). Has v y) empty h))))

module _ {n : ℕ} (g : List ℕ) where
  pub ring_none : (u w : ℕ) → RingChoice n g (Before 0) u w 0
  ring_none u w = choice_none (Edge g) (Beside (Edge g)) (Before 0) u w (λ x y l c. none l)

  pub ring-enter : (a u w k : ℕ) → RingChoice n g (Before a) u w k → RingChoice n g (Upto a (get_or g a 0)) u w k
  ring-enter a u w k = choice_enter (Edge g) (Beside (Edge g)) a (get_or g a 0) u w k (λ y e. e)

  pub ring_turn : (a b rest rest' f t k j x y z : ℕ) → ((p : ℕ) → Has rest' p ↔ (Has rest p × (p ≢ b))) → Edge g a b
      → Size (Edge g) (Except (Below n) a) (Beside (Edge g) a b) b j → Better f t k a b j x y z
      → RingChoice n g (Upto a rest) f t k → RingChoice n g (Upto a rest') x y z
  ring_turn = choice_turn (Edge g) (Beside (Edge g))

  pub ring_leave : (a rest u w k : ℕ) → rest ≡ 0 → RingChoice n g (Upto a rest) u w k → RingChoice n g (Before (a + 1)) u w k
  ring_leave = choice_leave (Edge g) (Beside (Edge g))

  pub ring-done : Rows n g → (a u w k : ℕ) → n ≤ a → RingChoice n g (Before a) u w k → RingChoice n g (Edge g) u w k
  ring-done rows a u w k all =
      choice_less (Edge g) (Beside (Edge g)) (Before a) (Edge g) u w k (λ x y e c. let l = (rows.inside x y e).0 in omega arith)

  module _ (s : ℕ) where
    pub handle_none : (u w : ℕ) → HandleChoice n g s (Before 0) u w 0
    handle_none u w = choice_none (Leaves (Edge g) s) (λ a b. Has s) (Before 0) u w (λ x y l c. none l)

    pub handle_skip : (a u w k : ℕ) → (Has s a → ⊥) → HandleChoice n g s (Before a) u w k → HandleChoice n g s (Before (a + 1)) u w k
    handle_skip a u w k new =
        choice_less (Leaves (Edge g) s) (λ a b. Has s) (Before a) (Before (a + 1)) u w k (λ x y l c.
        by_cases (dec_lt x a) (λ h. h) (λ h. let same : x ≡ a = omega arith in absurd (new (subst (Has s) same c.settled))))

    pub handle_enter : (a rest u w k : ℕ) → ((p : ℕ) → Has rest p ↔ (Edge g a p × (Has s p → ⊥)))
        → HandleChoice n g s (Before a) u w k → HandleChoice n g s (Upto a rest) u w k
    handle_enter a rest u w k minus =
        choice_enter (Leaves (Edge g) s) (λ a b. Has s) a rest u w k (λ y l. (minus y).1 (l.edge, l.new))

    -- no handle is shorter than one inner position and an end
    pub handle_stop : (D D' : ℕ → ℕ → Type 0) (u w k : ℕ) → k ≡ 2 → HandleChoice n g s D u w k → HandleChoice n g s D' u w k
    handle_stop D D' u w k two =
        choice_stop (Leaves (Edge g) s) (λ a b. Has s) D D' u w k (omega arith) (λ a b t j l walk is.
        let some = walk_some walk in
        by_cases (ℕ_discrete j 1)
        (λ e. absurd (l.new (subst (Has s) (walk_alone walk e) is)))
        (λ e. omega arith))

    pub handle_turn : (a b rest rest' f t k j x y z : ℕ) → ((p : ℕ) → Has rest' p ↔ (Has rest p × (p ≢ b))) → Leaves (Edge g) s a b
        → Size (Edge g) (Except (Below n) a) (Has s) b j → Better f t k a b j x y z
        → HandleChoice n g s (Upto a rest) f t k → HandleChoice n g s (Upto a rest') x y z
    handle_turn = choice_turn (Leaves (Edge g) s) (λ a b. Has s)

    pub handle_leave : (a rest u w k : ℕ) → rest ≡ 0 → HandleChoice n g s (Upto a rest) u w k → HandleChoice n g s (Before (a + 1)) u w k
    handle_leave = choice_leave (Leaves (Edge g) s) (λ a b. Has s)

    pub handle_done : Rows n g → (a u w k : ℕ) → n ≤ a → HandleChoice n g s (Before a) u w k → HandleChoice n g s (Edge g) u w k
    handle_done rows a u w k all =
        choice_less (Leaves (Edge g) s) (λ a b. Has s) (Before a) (Edge g) u w k (λ x y e c. let l = (rows.inside x y e).0 in omega arith)

-- the same of the pair that the code has, if one is chosen
module _ (n : ℕ) (g : List ℕ) where
  pub ring_entered : (a : ℕ) (o : Option Pair) → Chosen (RingChoice n g (Before a)) o → Chosen (RingChoice n g (Upto a (get_or g a 0))) o
  ring_entered a = chosen_same (ring-enter {n = n} g a)

  module _ (a b rest rest' : ℕ) (o : Option Pair) (without : (p : ℕ) → Has rest' p ↔ (Has rest p × (p ≢ b))) (edge : Edge g a b) where
    pub ring_no_way : RingWay n (Edge g) a b None → Chosen (RingChoice n g (Upto a rest)) o → Chosen (RingChoice n g (Upto a rest')) o
    ring_no_way w =
        chosen_same (λ f t k. ring_turn {n = n} g a b rest rest' f t k 0 f t k without edge (record { at = _; nearest = w })
        (better_none f t k a b)) o

    pub ring_one_way : (way : Route) (q : Pair) → RingWay n (Edge g) a b (Some way)
        → BetterOf o (record { from = a; to = b; size = way.size }) q → Chosen (RingChoice n g (Upto a rest)) o
        → Chosen (RingChoice n g (Upto a rest')) (Some q)
    ring_one_way way q w is =
        chosen_better o (record { from = a; to = b; size = way.size }) q w.0 is (λ f t k x y z.
        ring_turn {n = n} g a b rest rest' f t k way.size x y z without edge (record { at = _; nearest = w.1 }))

  pub ring_left : (a rest : ℕ) (o : Option Pair) → rest ≡ 0 → Chosen (RingChoice n g (Upto a rest)) o
      → Chosen (RingChoice n g (Before (a + 1))) o
  ring_left a rest o empty = chosen_same (λ x y k. ring_leave {n = n} g a rest x y k empty) o

  pub ring_all : Rows n g → (a : ℕ) (o : Option Pair) → n ≤ a → Chosen (RingChoice n g (Before a)) o → Chosen (RingChoice n g (Edge g)) o
  ring_all rows a o all = chosen_same (λ x y k. ring-done {n = n} g rows a x y k all) o

  module _ (s : ℕ) where
    pub handle_skipped : (a : ℕ) (o : Option Pair) → (Has s a → ⊥) → Chosen (HandleChoice n g s (Before a)) o
        → Chosen (HandleChoice n g s (Before (a + 1))) o
    handle_skipped a o new = chosen_same (λ x y k. handle_skip {n = n} g s a x y k new) o

    pub handle_entered : (a rest : ℕ) (o : Option Pair) → ((p : ℕ) → Has rest p ↔ (Edge g a p × (Has s p → ⊥)))
        → Chosen (HandleChoice n g s (Before a)) o → Chosen (HandleChoice n g s (Upto a rest)) o
    handle_entered a rest o minus = chosen_same (λ x y k. handle_enter {n = n} g s a rest x y k minus) o

    pub handle_stopped : (D D' : ℕ → ℕ → Type 0) (o : Option Pair) → MatchOption o ⊥ (λ p. p.size ≡ 2) → Chosen (HandleChoice n g s D) o
        → Chosen (HandleChoice n g s D') o
    handle_stopped D D' None two r = absurd two
    handle_stopped D D' (Some p) two r = (r.0, handle_stop {n = n} g s D D' p.from p.to p.size two r.1)

    module _ (a b rest rest' : ℕ) (o : Option Pair) (without : (p : ℕ) → Has rest' p ↔ (Has rest p × (p ≢ b)))
        (leaves : Leaves (Edge g) s a b) where
      pub handle_no_way : NearestRoute (Edge g) (Except (Below n) a) (Has s) b None → Chosen (HandleChoice n g s (Upto a rest)) o
          → Chosen (HandleChoice n g s (Upto a rest')) o
      handle_no_way w =
          chosen_same (λ f t k. handle_turn {n = n} g s a b rest rest' f t k 0 f t k without leaves (record { at = _; nearest = w })
          (better_none f t k a b)) o

      pub handle_one_way : (way : Route) (q : Pair) → NearestRoute (Edge g) (Except (Below n) a) (Has s) b (Some way)
          → BetterOf o (record { from = a; to = b; size = way.size }) q → Chosen (HandleChoice n g s (Upto a rest)) o
          → Chosen (HandleChoice n g s (Upto a rest')) (Some q)
      handle_one_way way q w is =
          chosen_better o (record { from = a; to = b; size = way.size }) q w.0 is (λ f t k x y z.
          handle_turn {n = n} g s a b rest rest' f t k way.size x y z without leaves (record { at = _; nearest = w.1 }))

    pub handle_left : (a rest : ℕ) (o : Option Pair) → rest ≡ 0 → Chosen (HandleChoice n g s (Upto a rest)) o
        → Chosen (HandleChoice n g s (Before (a + 1))) o
    handle_left a rest o empty = chosen_same (λ x y k. handle_leave {n = n} g s a rest x y k empty) o

    pub handle_all : Rows n g → (a : ℕ) (o : Option Pair) → n ≤ a → Chosen (HandleChoice n g s (Before a)) o
        → Chosen (HandleChoice n g s (Edge g)) o
    handle_all rows a o all = chosen_same (λ x y k. handle_done {n = n} g s rows a x y k all) o

pub rest_less : (b rest rest' : ℕ) → Has rest b → ((p : ℕ) → Has rest' p ↔ (Has rest p × (p ≢ b))) → ones rest' < ones rest
rest_less b rest rest' there without = ones_less b rest' rest (λ p h. ((without p).0 h).0) there (λ h. ((without b).0 h).1 refl)
