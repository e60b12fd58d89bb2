-- Trains: the test `led` finds a leader exactly where there is one near enough. Document 01, "Legal moves and steps": "The chain is
-- followed rack by rack to its leader". A chain that comes back to a position that it has passed never ends; so one that ends passes
-- each position at most once, each of them left in the step.
--
--     Chain A ms p ps    the moves ms lead on from p through the positions ps, which are not vacant, to one that is
--     chain_length       a chain passes at most as many positions as the step has moves
--     led-closed         from positions that are not vacant and lead to one another there is no leader: a ring, for one
--     led-train          what `led` finds is a train, of at most one move more than it followed
--     led-at_most        `led k` decides whether a train of at most k + 1 moves leads on from a move
--     train_member       a move of a train is a move of the step
--     train-next         a move into a position that is not vacant follows the move that leaves it, in a train one move shorter
--     train-moves        in a train of racks no move enters the position that it leaves
--     train-length       and from a move there is one train alone: its length is unique
-- Assumes nothing.
use Prim.Native.Nat.{ℕ, zero, suc, ◌≤◌}
use mathlib.Core.Path.{◌≡◌, refl, sym, ◌∙◌, ap, subst}
use mathlib.Core.Logic.{◌↔◌, ◌≢◌, ⊎_elim, dite}
use mathlib.Core.HLevel.{¬_prop}
use mathlib.Core.List.Memᴰ
use mathlib.Core.List.Pairwise
use mathlib.Core.List.{List, [], ◌∷◌, map, Memᴰ, Nodup}
use native.Mathlib.Omega.{arith}
use native.Mathlib.Decide.{dec_le}
use lib.ListN.{length, length-map}
use lib.Dec.{T}
use mir.Facts.{and_yes, yes_and, or_yes}
use Rattle.motion.specs.Arrangement.{Arrangement, vacant}
use Rattle.motion.specs.Move.{goes_to}
use Rattle.motion.specs.Step.{leaves, led}
use Rattle.motion.specs.LegalStep.{Train, leader, follows}
use Rattle.motion.proofs.ListLaws.{by_member, pairwise_more, pigeonhole, keys_same}
use Rattle.motion.proofs.StepTestsLaws.{left, or_left, or_right, left-differ, vacant_iff, leaves_iff, Goes, taken, stays, entered}
use Rattle.motion.proofs.StepTestsLaws.{goes_to_cases, goes_to_takes}
use Rattle.motion.specs.StepTests.{Ascends}

module _ (A : Arrangement) (ms : List (ℕ × ℕ)) where
  pub data Chain : ℕ → List ℕ → Type 0 where
    ends : {p : ℕ} → T (vacant A p) → Chain p []
    leads : {p : ℕ} {ps : List ℕ} → (T (vacant A p) → ⊥) → T (leaves ms p) → Chain (goes_to ms p) ps → Chain p (p ∷ ps)

  -- from one position there is one chain
  chain_same : {p : ℕ} {ps qs : List ℕ} → Chain p ps → Chain p qs → length ps ≡ length qs
  chain_same (ends v) (ends w) = refl
  chain_same (ends v) (leads o l c) = absurd (o v)
  chain_same (leads o l c) (ends v) = absurd (o v)
  chain_same (leads o l c) (leads o' l' c') = ap suc (chain_same c c')

  -- from each position that a chain passes a chain leads on that is no longer
  chain_from : {p q : ℕ} {ps : List ℕ} → Chain p ps → Memᴰ q ps → (qs : List ℕ) × Chain q qs × (length qs ≤ length ps)
  chain_from (ends v) k = absurd (Memᴰ.not-nil k)
  chain_from {q} (leads {p = p} {ps = ps} o l c) k =
      by_member {C = (qs : List ℕ) × Chain q qs × (length qs ≤ suc (length ps))} k
      (λ e. (p ∷ ps, subst (λ (z : ℕ). Chain z (p ∷ ps)) (sym e) (leads o l c), omega arith))
      (λ n. let w = chain_from c n in (w.0, w.1, omega (arith, w.2)))

  -- so none comes back: the chain on from there would be shorter than itself
  chain_nodup : {p : ℕ} {ps : List ℕ} → Chain p ps → Nodup ps
  chain_nodup (ends v) = Pairwise.nil
  chain_nodup (leads o l c) =
      pairwise_more (λ a b. ¬_prop)
      (λ b k e.
      let w = chain_from c k in
      absurd (omega (arith, w.2, chain_same (leads o l c) (subst (λ (z : ℕ). Chain z w.0) (sym e) w.1))))
      (chain_nodup c)

  chain_left : {p q : ℕ} {ps : List ℕ} → Chain p ps → Memᴰ q ps → Memᴰ q (map left ms)
  chain_left (ends v) k = absurd (Memᴰ.not-nil k)
  chain_left (leads {p = p} o l c) k =
      by_member k (λ e. let w = (leaves_iff ms p).0 l in Memᴰ.cast (e ∙ sym w.2) (Memᴰ.map left w.1)) (λ n. chain_left c n)

  pub chain_length : {p : ℕ} {ps : List ℕ} → Chain p ps → length ps ≤ length ms
  chain_length {ps} c =
      subst (λ (n : ℕ). length ps ≤ n) (length-map ms left) (pigeonhole ps (map left ms) (chain_nodup c) (λ q. chain_left c))

  led_more : (k p : ℕ) → T (led k ms A p) → T (led (suc k) ms A p)
  unfolding led
  led_more zero p t = or_left (vacant A p) _ t
  led_more (suc k) p t =
      ⊎_elim (or_left (vacant A p) _)
      (λ b.
      let c = and_yes (leaves ms p) (led k ms A (goes_to ms p)) b in
      or_right (vacant A p) _ (yes_and (leaves ms p) _ c.0 (led_more k (goes_to ms p) c.1)))
      (or_yes (vacant A p) _ t)

  led_longer : (k n p : ℕ) → k ≤ n → T (led k ms A p) → T (led n ms A p)
  led_longer k zero p h t = subst (λ (i : ℕ). T (led i ms A p)) (omega arith) t
  led_longer k (suc n) p h t =
      dite (dec_le k n) (λ l. led_more n p (led_longer k n p l t)) (λ l. subst (λ (i : ℕ). T (led i ms A p)) (omega arith) t)

  pub led-closed : (R : ℕ → Type 0) → ((p : ℕ) → R p → (T (vacant A p) → ⊥) × R (goes_to ms p)) → (k p : ℕ) → R p → T (led k ms A p) → ⊥
  unfolding led
  led-closed R on zero p r t = (on p r).0 t
  led-closed R on (suc k) p r t =
      ⊎_elim (on p r).0 (λ b. led-closed R on k (goes_to ms p) (on p r).1 (and_yes (leaves ms p) _ b).1) (or_yes (vacant A p) _ t)

  abbrev AtMost : ℕ → ℕ × ℕ → Type 0
  AtMost k m = (n : ℕ) × (n ≤ k) × Train A ms n m

  pub led-train : (k : ℕ) {m : ℕ × ℕ} → Memᴰ m ms → T (led k ms A m.1) → AtMost (suc k) m
  unfolding led
  led-train zero n t = (1, omega arith, leader n t)
  led-train (suc k) {m} n t =
      ⊎_elim (λ v. (1, omega arith, leader n v))
      (λ b.
      let c = and_yes (leaves ms m.1) (led k ms A (goes_to ms m.1)) b in
      next (goes_to_cases ms m.1) c.0 (λ m' n' g. led-train k n' (subst (λ (p : ℕ). T (led k ms A p)) g c.1)))
      (or_yes (vacant A m.1) _ t)
    where
      next : Goes ms m.1 → T (leaves ms m.1) → ((m' : ℕ × ℕ) → Memᴰ m' ms → goes_to ms m.1 ≡ m'.1 → AtMost (suc k) m')
          → AtMost (suc (suc k)) m
      next (taken m' n' e g) l rest = let w = rest m' n' g in (suc w.0, omega (arith, w.1), follows n (sym e) w.2)
      next (stays h g) l rest = let w = (leaves_iff ms m.1).0 l in absurd (h w.0 w.1 w.2)

  pub train_member : {k : ℕ} {m : ℕ × ℕ} → Train A ms k m → Memᴰ m ms
  train_member (leader n v) = n
  train_member (follows n e t) = n

  module _ (up : Ascends ms) where
    train_found : {n : ℕ} {m : ℕ × ℕ} → Train A ms n m → (k : ℕ) × (n ≡ suc k) × T (led k ms A m.1)
    unfolding led
    train_found (leader n v) = (0, refl, v)
    train_found {m} (follows {m' = m'} n e t) =
        let w = train_found t in
        let g : m'.1 ≡ goes_to ms m.1 = sym (ap (goes_to ms) e ∙ goes_to_takes up (train_member t)) in
        let l : T (leaves ms m.1) = (leaves_iff ms m.1).1 (m', train_member t, sym e) in
        let on : T (led w.0 ms A (goes_to ms m.1)) = subst (λ (p : ℕ). T (led w.0 ms A p)) g w.2 in
        (suc w.0, ap suc w.1, or_right (vacant A m.1) _ (yes_and (leaves ms m.1) _ l on))

    pub led-at_most : (k : ℕ) {m : ℕ × ℕ} → Memᴰ m ms → T (led k ms A m.1) ↔ AtMost (suc k) m
    led-at_most k {m} n = (
      led-train k n,
      λ w. let f = train_found w.2 in led_longer f.0 k m.1 (omega (arith, w.1, f.1)) f.2,
    )

    -- a position is left by one move alone
    same_left : {k : ℕ} {m m' : ℕ × ℕ} → Train A ms k m → Memᴰ m' ms → m.0 ≡ m'.0 → m ≡ m'
    same_left t n e = keys_same left ms (left-differ up) (train_member t) n e

    pub train-next : {k : ℕ} {m m' : ℕ × ℕ} → Train A ms k m → (T (vacant A m.1) → ⊥) → Memᴰ m' ms → m.1 ≡ m'.0
        → (j : ℕ) × (k ≡ suc j) × Train A ms j m'
    train-next (leader n v) o l e = absurd (o v)
    train-next {m} {m'} (follows {k = j} n e' t) o l e = (j, refl, subst (Train A ms j) (same_left t l (sym e' ∙ e)) t)

    module _ (held : (m : ℕ × ℕ) → Memᴰ m ms → Memᴰ m.0 A) where
      pub train-moves : {k : ℕ} {m : ℕ × ℕ} → Train A ms k m → m.0 ≢ m.1
      train-moves {m} (leader n v) e = (vacant_iff A m.1).0 v (Memᴰ.cast (sym e) (held m n))
      train-moves {m} (follows n q t) e =
          let same = same_left t n (sym q ∙ sym e) in
          train-moves t (ap left same ∙ e ∙ sym (ap entered same))

      -- a position that a move leaves is not vacant, so who follows does not lead
      train_held : {k p : ℕ} {m : ℕ × ℕ} → Train A ms k m → p ≡ m.0 → T (vacant A p) → ⊥
      train_held {p} {m} t e v = (vacant_iff A p).0 v (Memᴰ.cast e (held m (train_member t)))

      pub train-length : {j k : ℕ} {m : ℕ × ℕ} → Train A ms j m → Train A ms k m → j ≡ k
      train-length (leader n v) (leader n' v') = refl
      train-length (leader n v) (follows n' e t) = absurd (train_held t e v)
      train-length (follows n e t) (leader n' v) = absurd (train_held t e v)
      train-length (follows n e t) (follows {k = k} n' e' t') =
          ap suc (train-length t (subst (Train A ms k) (same_left t' (train_member t) (sym e' ∙ e)) t'))
