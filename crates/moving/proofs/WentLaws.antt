-- Laws of moves on a table.
--
--     move-from, move_to      the same move between tables that agree with its own
--     move-apart              a move's two positions differ
--     move_back               turned round it leads back
--     move-renamed            legality does not look at rack numbers: racks renamed by f, which leaves vacant what is vacant
--     went_from, went_to      the same moves between tables that agree
--     went_append             moves and then more of them
--     within_less, within_append    moves within a set are within a larger one; moves within it and then more of them
--     move_just               a move after which a is vacant and was not, and b is not and was, is the one from a to b
--     went_one                at most one move, and such a one: within every set that has a and b
-- Assumes nothing.
use Prim.Native.Nat.{ℕ, ◌≤◌, ◌<◌}
use mathlib.Core.Path.{◌≡◌, refl, sym, ap, subst, ◌∙◌}
use mathlib.Core.List.{List, [], ◌∷◌, ◌++◌}
use mathlib.Core.Logic.{◌≢◌, by_cases}
use native.Mathlib.Decide.{ℕ_discrete}
use native.Mathlib.Omega.{arith}
use Rattle.graph.specs.Walk.{Symmetric}
use Rattle.moving.specs.Went.{Same, Move, Went, Within}
use Rattle.moving.specs.Went.Went.{stay, real, stand_in}
use lib.ListN.{length}

pub same_refl : (h : ℕ → ℕ) → Same h h
same_refl h p = refl

pub same_back : {h k : ℕ → ℕ} → Same h k → Same k h
same_back s p = sym (s p)

pub same_then : {h i k : ℕ → ℕ} → Same h i → Same i k → Same h k
same_then s t p = s p ∙ t p

module _ {E : ℕ → ℕ → Type 0} where
  pub move-from : {h i k : ℕ → ℕ} {a b : ℕ} → Same i h → Move E h a b k → Move E i a b k
  move-from {h} {i} {k} {a} {b} s m =
      record {
        edge = m.edge;
        held = λ e. m.held (sym (s a) ∙ e);
        vacant = s b ∙ m.vacant;
        entered = m.entered ∙ sym (s a);
        left = m.left;
        others = λ p x y. m.others p x y ∙ sym (s p);
      }

  pub move_to : {h i k : ℕ → ℕ} {a b : ℕ} → Same k i → Move E h a b k → Move E h a b i
  move_to {h} {i} {k} {a} {b} s m =
      record {
        edge = m.edge;
        held = m.held;
        vacant = m.vacant;
        entered = sym (s b) ∙ m.entered;
        left = sym (s a) ∙ m.left;
        others = λ p x y. sym (s p) ∙ m.others p x y;
      }

  pub move-apart : {h k : ℕ → ℕ} {a b : ℕ} → Move E h a b k → a ≢ b
  move-apart {h} m e = m.held (ap h e ∙ m.vacant)

  pub move_back : {h k : ℕ → ℕ} {a b : ℕ} → Symmetric E → Move E h a b k → Move E k b a h
  move_back {h} {k} {a} {b} s m =
      record {
        edge = s a b m.edge;
        held = λ e. m.held (sym m.entered ∙ e);
        vacant = m.left;
        entered = sym m.entered;
        left = m.vacant;
        others = λ p x y. sym (m.others p y x);
      }

  pub move-renamed : {h k : ℕ → ℕ} {a b : ℕ} (f : ℕ → ℕ) → f 0 ≡ 0 → ((r : ℕ) → r ≢ 0 → f r ≢ 0) → Move E h a b k
      → Move E (λ p. f (h p)) a b (λ p. f (k p))
  move-renamed {h} {k} {a} {b} f zero some m =
      record {
        edge = m.edge;
        held = some (h a) m.held;
        vacant = ap f m.vacant ∙ zero;
        entered = ap f m.entered;
        left = ap f m.left ∙ zero;
        others = λ p x y. ap f (m.others p x y);
      }

module _ {E : ℕ → ℕ → Type 0} {m : ℕ} where
  pub went_from : {h i k : ℕ → ℕ} {ms : List (ℕ × ℕ)} {ws : List (ℕ × ℕ × ℕ)} → Same i h → Went E m h ms ws k → Went E m i ms ws k
  went_from s (stay t) = stay (same_then s t)
  went_from {i = i} s (real {a = a} x e l w) = real (move-from s x) (e ∙ sym (s a)) (subst (λ (r : ℕ). r ≤ m) (sym (s a)) l) w
  went_from {i = i} s (stand_in {a = a} x l w) = stand_in (move-from s x) (subst (λ (r : ℕ). m < r) (sym (s a)) l) w

  pub went_to : {h i k : ℕ → ℕ} {ms : List (ℕ × ℕ)} {ws : List (ℕ × ℕ × ℕ)} → Same k i → Went E m h ms ws k → Went E m h ms ws i
  went_to s (stay t) = stay (same_then t s)
  went_to s (real x e l w) = real x e l (went_to s w)
  went_to s (stand_in x l w) = stand_in x l (went_to s w)

  pub went_append : {h i k : ℕ → ℕ} {ms ns : List (ℕ × ℕ)} {ws xs : List (ℕ × ℕ × ℕ)} → Went E m h ms ws i → Went E m i ns xs k
      → Went E m h (ms ++ ns) (ws ++ xs) k
  went_append (stay s) v = went_from s v
  went_append (real x e l w) v = real x e l (went_append w v)
  went_append (stand_in x l w) v = stand_in x l (went_append w v)

-- a move that leaves a vacant and b not: it leaves a, since no other way makes a vacant, and enters b
pub move_just : {E : ℕ → ℕ → Type 0} {h i k : ℕ → ℕ} (a b : ℕ) {x y : ℕ} → h a ≢ 0 → k a ≡ 0 → h b ≡ 0 → k b ≢ 0
    → Move E h x y i → Same i k → (a ≡ x) × (b ≡ y)
move_just {h = h} a b {x} {y} held left vacant entered move same = (
  by_cases (ℕ_discrete a x)
      (λ e. e)
      (λ e. absurd (held (sym (move.others a e (λ f. held (ap h f ∙ move.vacant))) ∙ same a ∙ left))),
  by_cases (ℕ_discrete b y)
      (λ e. e)
      (λ e. absurd (entered (sym (same b) ∙ move.others b (λ f. move.held (sym (ap h f) ∙ vacant)) e ∙ vacant))),
)

module _ {P : ℕ → Type 0} where
  pub within_less : {Q : ℕ → Type 0} {ms : List (ℕ × ℕ)} → ((p : ℕ) → P p → Q p) → Within P ms → Within Q ms
  within_less f Within.none = Within.none
  within_less f (Within.more a b u) = Within.more (f _ a) (f _ b) (within_less f u)

  pub within_append : {ms ns : List (ℕ × ℕ)} → Within P ms → Within P ns → Within P (ms ++ ns)
  within_append Within.none v = v
  within_append (Within.more a b u) v = Within.more a b (within_append u v)

  module _ {E : ℕ → ℕ → Type 0} {h k : ℕ → ℕ} (a b : ℕ) (held : h a ≢ 0) (left : k a ≡ 0) (vacant : h b ≡ 0)
      (entered : k b ≢ 0) (pa : P a) (pb : P b) where
    one_move : {i : ℕ → ℕ} {x y : ℕ} → Move E h x y i → Same i k → Within P ((x, y) ∷ [])
    one_move move same =
        let just = move_just a b held left vacant entered move same in
        Within.more (subst P just.0 pa) (subst P just.1 pb) Within.none

    pub went_one : {m : ℕ} {ms : List (ℕ × ℕ)} {ws : List (ℕ × ℕ × ℕ)} → Went E m h ms ws k → length ms ≤ 1 → Within P ms
    went_one (stay s) few = Within.none
    went_one (real x e l (stay s)) few = one_move x s
    went_one (real x e l (real y f r w)) few = absurd (omega arith)
    went_one (real x e l (stand_in y r w)) few = absurd (omega arith)
    went_one (stand_in x l (stay s)) few = one_move x s
    went_one (stand_in x l (real y f r w)) few = absurd (omega arith)
    went_one (stand_in x l (stand_in y r w)) few = absurd (omega arith)
