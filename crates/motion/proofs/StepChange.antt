-- One step: the legal steps on a valid arrangement are exactly the changes of arrangement that Definition 2 allows between two
-- time steps, with chains of at most eight racks, and for each change there is one step.
--
--     Change F m A B     points (i), (iii) and (iv) of Definition 2, between a valid arrangement A and the next, B
--     Lead m A B a k     a chain of k racks from the rack a to a leader that enters a position which no rack held
--     lead_chain         it is a chain as Definition 2 has it; lead-more: one rack more, which follows its first
--     legal_takes        a legal step takes the rack at a position left to the position entered
--     legal_others       and leaves every other rack where it is
--     legal_valid        arrangements stay valid over legal steps
--     legal_along        it takes racks along edges
--     legal_change       and makes a change that Definition 2 allows
--     legal_short        in chains of at most eight racks
--     step_has, step_only   its moves are those by which a rack changes place
--     legal_step_of       so it is the step between the two arrangements
--     chain_same         the chain of a rack that moves has one length
--     short_iff          so if one is short then all are
--     change_legal       the step between two arrangements is legal, if Definition 2 allows the change and chains are short
--     change-after       and it leads from the one to the other
--     step_iff           all of this as one equivalence
-- Assumes nothing.
use Prim.Native.Nat.{ℕ, zero, suc, ◌+◌, ◌-◌, ◌≤◌, ◌<◌}
use mathlib.Core.Path.{◌≡◌, refl, sym, ◌∙◌, ap, subst}
use mathlib.Core.Logic.{◌↔◌, ◌≢◌, ◌⊎◌, inl, inr, ⊎_elim, dite, ∥∥₁_elim}
use mathlib.Core.HLevel.{⊥_prop}
use mathlib.Core.List.Memᴰ
use mathlib.Core.List.Pairwise
use mathlib.Core.List.{List, Memᴰ}
use native.Mathlib.Omega.{arith}
use native.Mathlib.Decide.{ℕ_discrete, dec_lt}
use native.Mathlib.Nat.{lt_irrefl}
use lib.ListN.{length}
use lib.Dec.{T}
use Rattle.order.specs.Floor.{Floor, joined}
use Rattle.motion.specs.Arrangement.{Arrangement, stands}
use Rattle.motion.specs.Move.{goes_to, after}
use Rattle.motion.specs.Problem.{IsRack, UniquelyInvertible, AlongEdges}
use Rattle.motion.specs.ParallelPathFinding.{RackChain, InChains}
use Rattle.motion.specs.TrainCap.{InShortChains}
use Rattle.motion.proofs.ListLaws.{keys_same}
use Rattle.motion.proofs.StepTestsLaws.{left, vacant_iff, Goes, taken, stays, goes_to_cases, goes_to_takes, goes_to_stays, entered}
use Rattle.motion.specs.StepTests.{Ascends, EnteredOnce, OnFloor}
use Rattle.motion.proofs.Trains.{train_member, train-length}
use Rattle.motion.specs.LegalStep.{longest_train, Train, leader, follows, LegalStep}
use Rattle.motion.proofs.LegalStepLaws.{legal_move_lem}
use Rattle.motion.proofs.Racks.{own, stands_in, same-positions, stands_after, valid_same, valid_rack, valid_below, valid_nodup}
use Rattle.motion.proofs.MoveLaws.{after-length}
use Rattle.motion.specs.StepOf.{step_of}
use Rattle.motion.proofs.StepOfLaws.{Taken, step_of_iff, step_of-ascends, ascending-same}

pub record Change (F : Floor) (m : ℕ) (A B : Arrangement) : Type 0 where
  pub invertible : UniquelyInvertible F m B
  pub along : AlongEdges F m A B
  pub led : InChains m A B

-- chains of racks

-- A chain of k racks whose leader enters a position that no rack held, the leader's own included. That its racks are distinct follows.
pub record Lead (m : ℕ) (A B : Arrangement) (a k : ℕ) : Type 0 where
  pub last : ℕ
  pub counted : suc last ≡ k
  pub b : ℕ → ℕ
  pub agents : (i : ℕ) → i ≤ last → IsRack m (b i)
  pub first : b 0 ≡ a
  pub leading : (c : ℕ) → IsRack m c → stands A c ≢ stands B (b last)
  pub following : (i : ℕ) → i < last → stands B (b i) ≡ stands A (b (suc i))

module _ {F : Floor} {m : ℕ} {A B : Arrangement} {a k : ℕ} (valid : UniquelyInvertible F m A) (c : Lead m A B a k) where
  -- what follows two places with the same rack would be the same, up to the leader, which follows none
  lead_apart : (d i j : ℕ) → i < j → j + d ≡ c.last → c.b i ≢ c.b j
  lead_apart zero i j l e q =
      c.leading (c.b (suc i)) (c.agents (suc i) (omega arith))
      (sym (c.following i (omega arith)) ∙ ap (stands B) (q ∙ ap c.b (omega arith)))
  lead_apart (suc d) i j l e q =
      lead_apart d (suc i) (suc j) (omega arith) (omega arith)
      (valid_same valid (c.agents (suc i) (omega arith)) (c.agents (suc j) (omega arith))
      (sym (c.following i (omega arith)) ∙ ap (stands B) q ∙ c.following j (omega arith)))

  lead_distinct : (i j : ℕ) → i ≤ c.last → j ≤ c.last → i ≢ j → c.b i ≢ c.b j
  lead_distinct i j p q ne e =
      dite (dec_lt i j) (λ l. lead_apart (c.last - j) i j l (omega arith) e)
      (λ l. lead_apart (c.last - i) j i (omega arith) (omega arith) (sym e))

  pub lead_chain : (b : RackChain m A B a) × (suc b.last ≡ k)
  lead_chain = (
    record {
      last = c.last;
      b = c.b;
      agents = c.agents;
      distinct = lead_distinct;
      first = c.first;
      leading = λ x r ne. c.leading x r;
      following = c.following;
    },
    c.counted,
  )

-- a rack in front of a sequence
before : ℕ → (ℕ → ℕ) → ℕ → ℕ
before a b zero = a
before a b (suc i) = b i

pub lead_more : {m : ℕ} {A B : Arrangement} {a a' k : ℕ} → IsRack m a → stands B a ≡ stands A a' → Lead m A B a' k → Lead m A B a (suc k)
unfolding before
lead_more {m} {A} {B} {a} r e c =
    record {
      last = suc c.last;
      counted = ap suc c.counted;
      b = before a c.b;
      agents = agents;
      first = refl;
      leading = c.leading;
      following = following;
    }
  where
    agents : (i : ℕ) → i ≤ suc c.last → IsRack m (before a c.b i)
    agents zero h = r
    agents (suc i) h = c.agents i (omega arith)

    following : (i : ℕ) → i < suc c.last → stands B (before a c.b i) ≡ stands A (c.b i)
    following zero h = e ∙ ap (stands A) (sym c.first)
    following (suc i) h = c.following i (omega arith)

-- from a legal step to the change that it makes

module _ {F : Floor} {m : ℕ} {A : Arrangement} {ms : List (ℕ × ℕ)} (valid : UniquelyInvertible F m A) (s : LegalStep F A ms) where
  standing : {a : ℕ} → IsRack m a → Memᴰ (stands A a) A
  standing r = stands_in (own A valid.racks r)

  goes : {a : ℕ} → IsRack m a → stands (after A ms) a ≡ goes_to ms (stands A a)
  goes r = stands_after A ms (own A valid.racks r)

  pub legal_takes : {a : ℕ} {x : ℕ × ℕ} → IsRack m a → Memᴰ x ms → stands A a ≡ x.0 → stands (after A ms) a ≡ x.1
  legal_takes r k e = goes r ∙ ap (goes_to ms) e ∙ goes_to_takes s.ascending k

  pub legal_others : {a : ℕ} → IsRack m a → ((x : ℕ × ℕ) → Memᴰ x ms → x.0 ≢ stands A a) → stands (after A ms) a ≡ stands A a
  legal_others {a} r h = goes r ∙ goes_to_stays ms (stands A a) h

  below : {p : ℕ} → Memᴰ p A → goes_to ms p < F.positions
  below {p} k = on (goes_to_cases ms p)
    where
      on : Goes ms p → goes_to ms p < F.positions
      on (taken x n e g) = subst (λ (q : ℕ). q < F.positions) (sym g) (s.joins x n).entered_below
      on (stays h g) = subst (λ (q : ℕ). q < F.positions) (sym g) (valid_below valid k)

  -- no move enters a position whose rack stays
  stayed-alone : {i q : ℕ} {x : ℕ × ℕ} → Train A ms i x → Memᴰ q A → ((y : ℕ × ℕ) → Memᴰ y ms → y.0 ≢ q) → x.1 ≢ q
  stayed-alone {x} (leader n t) k h e = (vacant_iff A x.1).0 t (Memᴰ.cast e k)
  stayed-alone (follows {m' = y} n f t) k h e = h y (train_member A ms t) (sym f ∙ e)

  goes_to-same : {p q : ℕ} → Memᴰ p A → Memᴰ q A → goes_to ms p ≡ goes_to ms q → p ≡ q
  goes_to-same {p} {q} k l e = on (goes_to_cases ms p) (goes_to_cases ms q)
    where
      on : Goes ms p → Goes ms q → p ≡ q
      on (taken x n f g) (taken x' n' f' g') = sym f ∙ ap left (keys_same entered ms s.once n n' (sym g ∙ e ∙ g')) ∙ f'
      on (taken x n f g) (stays h g') = absurd (stayed-alone (s.trains x n).2 l h (sym g ∙ e ∙ g'))
      on (stays h g) (taken x n f g') = absurd (stayed-alone (s.trains x n).2 k h (sym g' ∙ sym e ∙ g))
      on (stays h g) (stays h' g') = sym g ∙ e ∙ g'

  pub legal_valid : UniquelyInvertible F m (after A ms)
  legal_valid =
      record {
        racks = after-length A ms ∙ valid.racks;
        within = λ a r. subst (λ (p : ℕ). p < F.positions) (sym (goes r)) (below (standing r));
        apart = λ a b r t ne e. ne (valid_same valid r t (goes_to-same (standing r) (standing t) (sym (goes r) ∙ e ∙ goes t)));
      }

  pub legal_along : AlongEdges F m A (after A ms)
  legal_along a r = rw (goes r) (on (goes_to_cases ms (stands A a)))
    where
      on : Goes ms (stands A a) → (stands A a ≡ goes_to ms (stands A a)) ⊎ T (joined F (stands A a) (goes_to ms (stands A a)))
      on (taken x n f g) = inr (rw (g, ← f) (s.joins x n).edge)
      on (stays h g) = inl (sym g)

  train_lead : {k : ℕ} {x : ℕ × ℕ} → Train A ms k x → (a : ℕ) → IsRack m a → stands A a ≡ x.0 → Lead m A (after A ms) a k
  train_lead {x} (leader n t) a r e =
      record {
        last = 0;
        counted = refl;
        b = λ i. a;
        agents = λ i h. r;
        first = refl;
        leading = λ c q f. (vacant_iff A x.1).0 t (Memᴰ.cast (sym (f ∙ legal_takes r n e)) (standing q));
        following = λ i h. absurd (omega arith);
      }
  train_lead (follows {m' = y} n f t) a r e =
      let w = valid_rack valid (s.held y (train_member A ms t)) in
      lead_more r (legal_takes r n e ∙ f ∙ sym w.2) (train_lead t w.0 w.1 w.2)

  pub legal_short : InShortChains m A (after A ms)
  legal_short a r ne = on (goes_to_cases ms (stands A a))
    where
      on : Goes ms (stands A a) → (b : RackChain m A (after A ms) a) × (b.last < longest_train)
      on (taken x n f g) =
          let t = s.trains x n in
          let b = lead_chain valid (train_lead t.2 a r (sym f)) in
          (b.0, omega (arith, b.1, t.1))
      on (stays h g) = absurd (ne (sym (goes r ∙ g)))

  legal_led : InChains m A (after A ms)
  legal_led a r ne = (legal_short a r ne).0

  pub legal_change : Change F m A (after A ms)
  legal_change = record { invertible = legal_valid; along = legal_along; led = legal_led }

  pub step_only : (x : ℕ × ℕ) → Taken A (after A ms) x → Memᴰ x ms
  step_only x t = on (goes_to_cases ms x.0)
    where
      to : goes_to ms x.0 ≡ x.1
      to = ap (goes_to ms) (sym t.from) ∙ sym (stands_after A ms t.is) ∙ t.to

      on : Goes ms x.0 → Memᴰ x ms
      on (taken y n f g) = Memᴰ.cast (λ j. (sym f j, (sym to ∙ g) j)) n
      on (stays h g) = absurd (t.apart (sym g ∙ to))

  pub step_has : (x : ℕ × ℕ) → Memᴰ x ms → Taken A (after A ms) x
  step_has x k =
      let w = valid_rack valid (s.held x k) in
      record { rack = w.0; is = own A valid.racks w.1; from = w.2; to = legal_takes w.1 k w.2; apart = legal_move_lem F A ms s k }

  pub legal_step_of : ms ≡ step_of A (after A ms)
  legal_step_of =
      ascending-same ms (step_of A (after A ms)) s.ascending (step_of-ascends A (after A ms) (valid_nodup valid))
      (λ x.
      let e = step_of_iff A (after A ms) x (sym (after-length A ms)) in
      (λ k. e.1 (step_has x k), λ k. step_only x (e.0 k)))

-- from a change to the legal step that makes it

module _ {F : Floor} {m : ℕ} {A B : Arrangement} (valid : UniquelyInvertible F m A) (c : Change F m A B) where
  as_many : length A ≡ length B
  as_many = valid.racks ∙ sym c.invertible.racks

  in_step_lem : {a : ℕ} → IsRack m a → stands A a ≢ stands B a → Memᴰ (stands A a, stands B a) (step_of A B)
  in_step_lem {a} r ne =
      (step_of_iff A B (stands A a, stands B a) as_many).1
      (record { rack = a; is = own A valid.racks r; from = refl; to = refl; apart = ne })

  by : {x : ℕ × ℕ} → Memᴰ x (step_of A B) → Taken A B x
  by {x} k = (step_of_iff A B x as_many).0 k

  taker : {x : ℕ × ℕ} (t : Taken A B x) → IsRack m t.rack
  taker t = subst (λ (n : ℕ). IsRack n t.rack) valid.racks t.is

  moves : {x : ℕ × ℕ} (t : Taken A B x) → stands A t.rack ≢ stands B t.rack
  moves t e = t.apart (sym t.from ∙ e ∙ t.to)

  ascending : Ascends (step_of A B)
  ascending = step_of-ascends A B (valid_nodup valid)

  joins : (x : ℕ × ℕ) → Memᴰ x (step_of A B) → OnFloor F x
  joins x k =
      let t = by k in
      record {
        left_below = subst (λ (p : ℕ). p < F.positions) t.from (valid.within t.rack (taker t));
        entered_below = subst (λ (p : ℕ). p < F.positions) t.to (c.invertible.within t.rack (taker t));
        edge =
            ⊎_elim (λ e. absurd (moves t e)) (λ (j : T (joined F (stands A t.rack) (stands B t.rack))). rw (t.from, t.to) at j)
            (c.along t.rack (taker t));
      }

  -- two moves into one position would have one rack
  entered-same : {x y : ℕ × ℕ} → Memᴰ x (step_of A B) → Memᴰ y (step_of A B) → x.1 ≡ y.1 → x.0 ≡ y.0
  entered-same k l e =
      let t = by k in
      let u = by l in
      sym t.from ∙ ap (stands A) (valid_same c.invertible (taker t) (taker u) (t.to ∙ e ∙ sym u.to)) ∙ u.from

  once : EnteredOnce (step_of A B)
  once =
      Pairwise.imp_of_mem
      (λ x y k l h e.
      ∥∥₁_elim k ⊥_prop (λ k. ∥∥₁_elim l ⊥_prop (λ l. lt_irrefl y.0 (subst (λ (p : ℕ). p < y.0) (entered-same k l e) h))))
      ascending

  module _ {a : ℕ} (ne : stands A a ≢ stands B a) (b : RackChain m A B a) where
    -- every rack of the chain moves: one that stood still would be run into by the one that follows it
    all-move : (i : ℕ) → i ≤ b.last → stands A (b.b i) ≢ stands B (b.b i)
    all-move zero h e = ne (rw b.first at e)
    all-move (suc i) h e =
        b.distinct i (suc i) (omega arith) h (omega arith)
        (valid_same c.invertible (b.agents i (omega arith)) (b.agents (suc i) h) (b.following i h ∙ e))

    -- so no rack stood where the last one goes
    last_enters : Memᴰ (stands B (b.b b.last)) A → ⊥
    last_enters k =
        let w = valid_rack valid k in
        dite (ℕ_discrete w.0 (b.b b.last)) (λ q. all-move b.last (omega arith) (ap (stands A) (sym q) ∙ w.2))
        (λ q. b.leading w.0 w.1 q w.2)

    chain_train : (d i : ℕ) → i + d ≡ b.last → Train A (step_of A B) (suc d) (stands A (b.b i), stands B (b.b i))
    chain_train zero i e =
        let here : b.last ≡ i = omega arith in
        leader (in_step_lem (b.agents i (omega arith)) (all-move i (omega arith)))
        ((vacant_iff A (stands B (b.b i))).1 (subst (λ (j : ℕ). Memᴰ (stands B (b.b j)) A → ⊥) here last_enters))
    chain_train (suc d) i e =
        follows (in_step_lem (b.agents i (omega arith)) (all-move i (omega arith))) (b.following i (omega arith))
        (chain_train d (suc i) (omega arith))

    whole-train : Train A (step_of A B) (suc b.last) (stands A a, stands B a)
    whole-train =
        subst (λ (r : ℕ). Train A (step_of A B) (suc b.last) (stands A r, stands B r)) b.first
        (chain_train b.last 0 (omega arith))

  held : (x : ℕ × ℕ) → Memᴰ x (step_of A B) → Memᴰ x.0 A
  held x k = let t = by k in Memᴰ.cast (sym t.from) (stands_in t.is)

  pub chain_same : {a : ℕ} → stands A a ≢ stands B a → (b b' : RackChain m A B a) → b.last ≡ b'.last
  chain_same ne b b' = omega (arith, train-length A (step_of A B) ascending held (whole-train ne b) (whole-train ne b'))

  pub short_iff : InShortChains m A B
      ↔ ((a : ℕ) → IsRack m a → stands A a ≢ stands B a → (b : RackChain m A B a) → b.last < longest_train)
  short_iff = (
    λ short a r ne b. let w = short a r ne in omega (arith, chain_same ne w.0 b, w.1),
    λ all a r ne. let b = c.led a r ne in (b, all a r ne b),
  )

  module _ (short : InShortChains m A B) where
    trains : (x : ℕ × ℕ) → Memᴰ x (step_of A B) → (k : ℕ) × (k ≤ longest_train) × Train A (step_of A B) k x
    trains x k =
        let t = by k in
        let b = short t.rack (taker t) (moves t) in
        let whole : (stands A t.rack, stands B t.rack) ≡ x = λ j. (t.from j, t.to j) in
        (suc b.0.last, omega (arith, b.1), subst (Train A (step_of A B) (suc b.0.last)) whole (whole-train (moves t) b.0))

    pub change_legal : LegalStep F A (step_of A B)
    change_legal = record { ascending = ascending; joins = joins; held = held; once = once; trains = trains }

  -- a rack that changes place is taken along by its move; one that does not is left alone
  taken-along : {a : ℕ} → IsRack m a → goes_to (step_of A B) (stands A a) ≡ stands B a
  taken-along {a} r =
      dite (ℕ_discrete (stands A a) (stands B a)) (λ e. goes_to_stays (step_of A B) (stands A a) (λ x k f. alone e (by k) f) ∙ e)
      (λ ne. goes_to_takes ascending (in_step_lem r ne))
    where
      alone : stands A a ≡ stands B a → {x : ℕ × ℕ} → Taken A B x → x.0 ≢ stands A a
      alone e t f =
          let same : t.rack ≡ a = valid_same valid (taker t) r (t.from ∙ f) in
          moves t (ap (stands A) same ∙ e ∙ ap (stands B) (sym same))

  pub change-after : after A (step_of A B) ≡ B
  change-after =
      same-positions (after A (step_of A B)) B (after-length A (step_of A B) ∙ as_many)
      (λ a r.
      let r' : IsRack (length A) a = subst (λ (n : ℕ). IsRack n a) (after-length A (step_of A B)) r in
      stands_after A (step_of A B) r' ∙ taken-along (subst (λ (n : ℕ). IsRack n a) valid.racks r'))

pub step_iff : (F : Floor) (m : ℕ) (A B : Arrangement) (ms : List (ℕ × ℕ)) → UniquelyInvertible F m A
    → (LegalStep F A ms × (after A ms ≡ B)) ↔ (Change F m A B × InShortChains m A B × (ms ≡ step_of A B))
step_iff F m A B ms valid = (
  λ w. (
    subst (Change F m A) w.1 (legal_change valid w.0),
    subst (λ (C : Arrangement). InShortChains m A C) w.1 (legal_short valid w.0),
    legal_step_of valid w.0 ∙ ap (step_of A) w.1,
  ),
  λ w. (subst (LegalStep F A) (sym w.2) (change_legal valid w.0 w.1), ap (after A) w.2 ∙ change-after valid w.0),
)
