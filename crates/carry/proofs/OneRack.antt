-- One rack alone: its plans are walks, both ways.
--
--     rack_one, moved_one     the rack that stands there is rack 1, and a move takes it along
--     leads_walk              a plan of so many moves is a walk of so many moves
--     way_leads, way_count    the lowest way of so many moves is a plan of so many moves, where a walk of so many leads there
--     walk_plan               so a walk of so many moves is a plan of so many
--     way_first               every plan of as many moves is the lowest way, or comes behind it
--     before_not, before_once   of two lists one at most comes before the other, and none before itself
-- Assumes nothing.
use Prim.Native.Nat.{ℕ, zero, suc, ◌<◌}
use mathlib.Core.Path.{◌≡◌, refl, sym, subst, ap, ap₂, ◌∙◌}
use mathlib.Core.List.{List, [], ◌∷◌, head-eq_of_cons-eq, tail-eq_of_cons-eq}
use mathlib.Core.Logic.{◌⊎◌, inl, inr, ⊎_elim, by_cases}
use native.Mathlib.Decide.{ℕ_discrete}
use native.Mathlib.Omega.{arith}
use borrow.Author.Tests.{eq-eqb}
use lib.Dec.{T, ltb→lt, eqb→eq}
use lib.ListN.{length, get_or}
use Rattle.order.specs.Floor.{Floor, joined}
use Rattle.motion.specs.Arrangement.{Arrangement, rack_at, rack_from}
use Rattle.motion.specs.Move.{legal_move, goes_to, after, after_move}
use Rattle.motion.proofs.ArrangementLaws.{occupied_rack, vacant-racks}
use Rattle.motion.proofs.MoveLaws.{on_floor_parts, legal_parts}
use Rattle.motion.proofs.Lawful.{Leads, still, ◌then◌, lawful_none, lawful_first, replay_moves_ended}
use Rattle.graph.specs.Walk.{Walk}
use Rattle.graph.specs.Walk.Walk.{alone, step}
use Rattle.graph.specs.Connected.{Below}
use Rattle.floor.specs.FloorAnswer.{Joins}
use Rattle.carry.specs.Carry.{next_of, reaches, way_from, moves_along}
use Rattle.carry.specs.Theorems.{SomePlan, Before, lower, later}
use Rattle.carry.proofs.ReachLaws.{next-joined, next_low, walk_reach}

pub rack_one : (a : ℕ) → rack_at (a ∷ []) a ≡ 1
unfolding rack_at rack_from
rack_one a = rw (eq-eqb a a refl) refl

pub moved_one : (a : ℕ) (m : ℕ × ℕ) → m.0 ≡ a → after_move (a ∷ []) m ≡ m.1 ∷ []
unfolding after_move after goes_to
moved_one a m e = rw (eq-eqb a m.0 (sym e)) refl

module _ (F : Floor) where
  abbrev n : ℕ
  n = F.positions

  -- a legal move of the one rack leaves where it stands
  legal_one : (a : ℕ) (m : ℕ × ℕ) → T (legal_move F (a ∷ []) m) → (m.0 ≡ a) × (m.1 < n) × T (joined F a m.1)
  legal_one a m t =
      let p = (legal_parts F (a ∷ []) m).0 t in
      let on = (on_floor_parts F m).0 p.0 in
      let at = (occupied_rack (a ∷ []) m.0).0 p.1 in
      let first : at.0 ≡ 0 = only at.0 at.1 in
      let here : m.0 ≡ a = sym at.2 ∙ ap (λ (i : ℕ). get_or (a ∷ []) i 0) first in
      (here, on.1, subst (λ (x : ℕ). T (joined F x m.1)) here on.2)
    where
      only : (i : ℕ) → i < length (a ∷ []) → i ≡ 0
      only zero h = refl
      only (suc i) h = absurd (none h)
        where
          none : suc i < 1 → ⊥
          none h = omega arith

  pub leads_walk : (ms : List (ℕ × ℕ)) (a b : ℕ) → a < n → Leads F (a ∷ []) ms (b ∷ [])
      → Walk (Joins F) (Below n) a b (suc (length ms))
  leads_walk [] a b h l =
      let same : a ≡ b = head-eq_of_cons-eq (lawful_none l) in
      subst (λ (y : ℕ). Walk (Joins F) (Below n) a y 1) same (alone h)
  leads_walk (m ∷ ms) a b h l =
      let p = lawful_first l in
      let q = legal_one a m p.0 in
      step h q.2
      (leads_walk ms m.1 b q.1 (subst (λ (A : Arrangement). Leads F A ms (b ∷ [])) (moved_one a m q.0) p.1))

  pub way_count : (k a b : ℕ) → length (moves_along a (way_from F k a b)) ≡ k
  unfolding moves_along way_from
  way_count zero a b = refl
  way_count (suc k) a b = ap suc (way_count k (next_of F (λ c. reaches F k c b) a) b)

  pub way_first : (ms : List (ℕ × ℕ)) (a b : ℕ) → a < n → Leads F (a ∷ []) ms (b ∷ [])
      → (ms ≡ moves_along a (way_from F (length ms) a b)) ⊎ Before (moves_along a (way_from F (length ms) a b)) ms
  unfolding moves_along way_from
  way_first [] a b h l = inl refl
  way_first (m ∷ ms) a b h l =
      let p = lawful_first l in
      let q = legal_one a m p.0 in
      let rest = subst (λ (A : Arrangement). Leads F A ms (b ∷ [])) (moved_one a m q.0) p.1 in
      let c = next_of F (λ c. reaches F (length ms) c b) a in
      let low = next_low F (λ c. reaches F (length ms) c b) a m.1 q.2 (walk_reach F (leads_walk ms m.1 b q.1 rest)) in
      by_cases (ℕ_discrete m.1 c)
      (λ e.
      let same : m ≡ (a, c) = λ j. (q.0 j, e j) in
      let on : (ms ≡ moves_along c (way_from F (length ms) c b)) ⊎ Before (moves_along c (way_from F (length ms) c b)) ms =
      subst (λ (x : ℕ). (ms ≡ moves_along x (way_from F (length ms) x b)) ⊎ Before (moves_along x (way_from F (length ms) x b)) ms) e
      (way_first ms m.1 b q.1 rest) in
      ⊎_elim
      (λ s. inl (ap₂ (λ (x : ℕ × ℕ) (l : List (ℕ × ℕ)). x ∷ l) same s))
      (λ s. inr (subst (λ (x : ℕ × ℕ). Before ((a, c) ∷ moves_along c (way_from F (length ms) c b)) (x ∷ ms)) (sym same) (later s)))
      on)
      (λ e. inr (lower (omega arith)))

  module _ (other : (a : ℕ) → T (joined F a a) → ⊥) where
    step_legal : (a c : ℕ) → a < n → c < n → T (joined F a c) → T (legal_move F (a ∷ []) (a, c))
    step_legal a c ha hc e =
        (legal_parts F (a ∷ []) (a, c)).1 (
          (on_floor_parts F (a, c)).1 (ha, hc, e),
          (occupied_rack (a ∷ []) a).1 (0, omega arith, refl),
          (vacant-racks (a ∷ []) c).1 (λ i h s. other a (subst (λ (x : ℕ). T (joined F a x)) (sym (at i h s)) e)),
        )
      where
        at : (i : ℕ) → i < 1 → get_or (a ∷ []) i 0 ≡ c → a ≡ c
        at zero h s = s
        at (suc i) h s = absurd (none h)
          where
            none : suc i < 1 → ⊥
            none h = omega arith

    pub way_leads : (k a b : ℕ) → a < n → T (reaches F k a b) → Leads F (a ∷ []) (moves_along a (way_from F k a b)) (b ∷ [])
    unfolding reaches moves_along way_from
    way_leads zero a b h r = subst (λ (x : ℕ). Leads F (a ∷ []) [] (x ∷ [])) (eqb→eq a b r) still
    way_leads (suc k) a b h r =
        let c = next_of F (λ c. reaches F k c b) a in
        let l = ltb→lt c n r in
        let p = next-joined F (λ c. reaches F k c b) a l in
        step_legal a c h l p.0
        then subst (λ (A : Arrangement). Leads F A (moves_along c (way_from F k c b)) (b ∷ [])) (sym (moved_one a (a, c) refl))
        (way_leads k c b l p.1)

    pub walk_plan : {a b k : ℕ} → a < n → Walk (Joins F) (Below n) a b (suc k) → SomePlan F a b k
    walk_plan {a} {b} {k} h w = record {
      moves = moves_along a (way_from F k a b);
      counted = way_count k a b;
      leads = (replay_moves_ended F (a ∷ []) (moves_along a (way_from F k a b)) (b ∷ [])).1 (way_leads k a b h (walk_reach F w));
    }

pub before_not : {ms ls : List (ℕ × ℕ)} → Before ms ls → ms ≡ ls → ⊥
before_not (lower {m = m} {l = l} h) e = let same = ap (λ (x : ℕ × ℕ). x.1) (head-eq_of_cons-eq e) in omega arith
before_not (later b) e = before_not b (tail-eq_of_cons-eq e)

-- no two lists are each before the other
before_crossed : {ms ls ls' ms' : List (ℕ × ℕ)} → Before ms ls → Before ls' ms' → ls ≡ ls' → ms ≡ ms' → ⊥
before_crossed (lower h) (lower i) e f =
    let left = ap (λ (x : ℕ × ℕ). x.1) (head-eq_of_cons-eq e) in
    let right = ap (λ (x : ℕ × ℕ). x.1) (head-eq_of_cons-eq f) in
    omega arith
before_crossed (lower h) (later i) e f =
    let left = ap (λ (x : ℕ × ℕ). x.1) (head-eq_of_cons-eq e) in
    let right = ap (λ (x : ℕ × ℕ). x.1) (head-eq_of_cons-eq f) in
    omega arith
before_crossed (later h) (lower i) e f =
    let left = ap (λ (x : ℕ × ℕ). x.1) (head-eq_of_cons-eq e) in
    let right = ap (λ (x : ℕ × ℕ). x.1) (head-eq_of_cons-eq f) in
    omega arith
before_crossed (later h) (later i) e f = before_crossed h i (tail-eq_of_cons-eq e) (tail-eq_of_cons-eq f)

pub before_once : {ms ls : List (ℕ × ℕ)} → Before ms ls → Before ls ms → ⊥
before_once h i = before_crossed h i refl refl
