-- Whether a way leads from one position to another, decided on a finite floor: Warshall's recursion over the highest inner position.
-- Nothing here is part of a promise: a decision is believed by its type.
--
--     alike?, either?, both?, not?, implies?, every?   decisions put together: what holds with another, one of two, both, what does
--                                                not hold, one if the other, all numbers below n
--     Through E P k a b       a is b, or an edge or a way leads from a to b whose inner positions are allowed by P and below k
--     through_way             from one allowed position to another it is a way
--     through_on              two of them that meet at an allowed position below k are one
--     through?                it leads there or not
--     walk_through            where the allowed positions are below n, every walk is one
--     whole?                  a set of positions below n is whole or not
--     except?                 a position of the floor is another than x or not
--     decide_bi_connected       a floor is bi-connected or not
-- Assumes nothing.
use Prim.Native.Nat.{ℕ, zero, suc, ◌<◌}
use mathlib.Core.Path.{◌≡◌, refl, subst, sym}
use mathlib.Core.Logic.{◌⊎◌, inl, inr, by_cases, dite}
use native.Mathlib.Decide.{ℕ_discrete, dec_le, dec_lt}
use native.Mathlib.Nat.{not-suc-le-zero}
use native.Mathlib.Omega.{arith}
use Rattle.graph.specs.Walk.{Walk, Way}
use Rattle.graph.specs.Walk.Walk.{alone, step}
use Rattle.graph.proofs.WalkLaws.{walk_first, way_stay, way_step, way_append}
use Rattle.graph.specs.Connected.{Whole, Except, Below, BiConnected}
use Rattle.graph.proofs.ConnectedLaws.{bi_connected_without}

unfoldable pub alike? : {A B : Type 0} → (A → B) → (B → A) → Dec A → Dec B
alike? f g (yes a) = yes (f a)
alike? f g (no h) = no (λ b. h (g b))

unfoldable pub either? : {A B : Type 0} → Dec A → Dec B → Dec (A ⊎ B)
either? (yes a) d = yes (inl a)
either? (no f) (yes b) = yes (inr b)
either? (no f) (no g) = no (elim [ inl a ↦ f a | inr b ↦ g b ])

unfoldable pub both? : {A B : Type 0} → Dec A → Dec B → Dec (A × B)
both? (no f) d = no (λ p. f p.0)
both? (yes a) (no g) = no (λ p. g p.1)
both? (yes a) (yes b) = yes (a, b)

unfoldable pub not? : {A : Type 0} → Dec A → Dec (A → ⊥)
not? (yes a) = no (λ f. f a)
not? (no f) = yes f

unfoldable pub implies? : {A B : Type 0} → Dec A → (A → Dec B) → Dec (A → B)
implies? {A} {B} (no f) d = yes (λ a. absurd (f a))
implies? {A} {B} (yes a) d = by (d a)
  where
    by : Dec B → Dec (A → B)
    by (yes b) = yes (λ x. b)
    by (no g) = no (λ h. g (h a))

unfoldable pub every? : (n : ℕ) {Q : ℕ → Type 0} → ((p : ℕ) → Dec (Q p)) → Dec ((p : ℕ) → p < n → Q p)
unfolding alike? both?
every? zero {Q} d = yes (λ p l. absurd (not-suc-le-zero l))
every? (suc n) {Q} d = alike? all each (both? (every? n d) (d n))
  where
    all : ((p : ℕ) → p < n → Q p) × Q n → (p : ℕ) → p < suc n → Q p
    all h p l = by_cases (ℕ_discrete p n) (λ e. subst Q (sym e) h.1) (λ e. h.0 p (omega arith))

    each : ((p : ℕ) → p < suc n → Q p) → ((p : ℕ) → p < n → Q p) × Q n
    each h = (λ p l. h p (omega arith), h n (omega arith))

module _ (E : ℕ → ℕ → Type 0) (P : ℕ → Type 0) where
  abbrev pub Through : ℕ → ℕ → ℕ → Type 0
  Through zero a b = (a ≡ b) ⊎ E a b
  Through (suc k) a b = Through k a b ⊎ (P k × (Through k a k × Through k k b))

  pub through_way : (k a b : ℕ) → P a → P b → Through k a b → Way E P a b
  through_way zero a b pa pb (inl e) = subst (λ (x : ℕ). Way E P a x) e (way_stay pa)
  through_way zero a b pa pb (inr e) = way_step pa e (way_stay pb)
  through_way (suc k) a b pa pb (inl t) = through_way k a b pa pb t
  through_way (suc k) a b pa pb (inr t) = way_append (through_way k a k pa t.0 t.1.0) (through_way k k b t.0 pb t.1.1)

  to_top : (k a : ℕ) → Through (suc k) a k → Through k a k
  to_top k a (inl s) = s
  to_top k a (inr s) = s.1.0

  from_top : (k b : ℕ) → Through (suc k) k b → Through k k b
  from_top k b (inl t) = t
  from_top k b (inr t) = t.1.1

  on_below : (k a c b : ℕ) → ((x y : ℕ) → Through k x c → Through k c y → Through k x y) → Through (suc k) a c → Through (suc k) c b
      → Through (suc k) a b
  on_below k a c b on (inl s) (inl t) = inl (on a b s t)
  on_below k a c b on (inl s) (inr t) = inr (t.0, (on a k s t.1.0, t.1.1))
  on_below k a c b on (inr s) (inl t) = inr (s.0, (s.1.0, on k b s.1.1 t))
  on_below k a c b on (inr s) (inr t) = inr (s.0, (s.1.0, t.1.1))

  pub through_on : (k a c b : ℕ) → c < k → P c → Through k a c → Through k c b → Through k a b
  through_on zero a c b l pc s t = absurd (not-suc-le-zero l)
  through_on (suc k) a c b l pc s t =
      by_cases (ℕ_discrete c k)
      (λ e. inr
      (subst P e pc, (to_top k a (subst (λ (x : ℕ). Through (suc k) a x) e s), from_top k b (subst (λ (x : ℕ). Through (suc k) x b) e t))))
      (λ d. on_below k a c b (λ x y u v. through_on k x c y (omega arith) pc u v) s t)

  through_more : (k a b : ℕ) → Through zero a b → Through k a b
  through_more zero a b t = t
  through_more (suc k) a b t = inl (through_more k a b t)

  unfoldable pub through? : ((a b : ℕ) → Dec (E a b)) → ((p : ℕ) → Dec (P p)) → (k a b : ℕ) → Dec (Through k a b)
  unfolding ℕ_discrete either? both?
  through? edge? there? zero a b = either? (ℕ_discrete a b) (edge? a b)
  through? edge? there? (suc k) a b =
      let rest = both? (there? k) (both? (through? edge? there? k a k) (through? edge? there? k k b)) in
      either? (through? edge? there? k a b) rest

  module _ (n : ℕ) (below : (p : ℕ) → P p → p < n) where
    pub walk_through : {a b k : ℕ} → Walk E P a b k → Through n a b
    walk_through (alone {a = a} p) = through_more n a a (inl refl)
    walk_through (step {a = a} {b = m} {c = b} p e w) =
        through_on n a m b (below m (walk_first w)) (walk_first w) (through_more n a m (inr e)) (walk_through w)

    unfoldable pub whole? : ((a b : ℕ) → Dec (E a b)) → ((p : ℕ) → Dec (P p)) → Dec (Whole E P)
    unfolding alike? implies? every? through?
    whole? edge? there? =
        alike?
        (λ h u v pu pv. h u (below u pu) v (below v pv) pu pv)
        (λ h u lu v lv pu pv. h u v pu pv)
        (every? n (λ u. every? n (λ v. implies? (there? u) (λ pu. implies? (there? v) (λ pv. way? u v pu pv)))))
      where
        way? : (u v : ℕ) → P u → P v → Dec (Way E P u v)
        way? u v pu pv = alike? (through_way n u v pu pv) (λ w. walk_through w.walk) (through? edge? there? n u v)

unfoldable pub except? : (n x p : ℕ) → Dec (Except (Below n) x p)
unfolding ℕ_discrete dec_lt alike?
except? n x p =
    dite (ℕ_discrete p x)
    (λ e. no (λ h. h.other e))
    (λ d. alike? (λ l. record { there = l; other = d }) (λ h. h.there) (dec_lt p n))

unfoldable pub decide_bi_connected : (n : ℕ) (E : ℕ → ℕ → Type 0) → ((a b : ℕ) → Dec (E a b)) → Dec (BiConnected n E)
unfolding dec_le alike? both? every? whole? except?
decide_bi_connected n E edge? =
    alike? (λ h. bi_connected_without h.0 h.1) (λ b. (b.three, b.without))
    (both? (dec_le 3 n) (every? n (λ x. whole? E (Except (Below n) x) n (λ p h. h.there) edge? (except? n x))))
