-- Laws of chains on tables.
--
--     led-same           where a table has racks where an arrangement has them, chains are led alike
--     led_short          a train has at most one move more than the step
--     led-same-length    a train has one length
--     led_iff_on         by a table of targets a train has at most k + 1 moves exactly if `led_on k` finds its leader
--     led_on_lem, unled_on, long_on    for the longest train: it is found where there is one no longer, and not where there is
--                                      none or a longer
--     noted_targets      the targets noted of ascending moves are the step's
-- Assumes nothing.
use Prim.Native.Nat.{ℕ, zero, suc, ◌+◌, ◌-◌, ◌≤◌, ◌<◌}
use mathlib.Core.Path.{◌≡◌, refl, sym, ap, ◌∙◌, subst}
use mathlib.Core.Bool.{Bool, true, false, not, cond}
use mathlib.Core.List.Pairwise
use mathlib.Core.List.{List, [], ◌∷◌}
use mathlib.Core.Logic.{◌↔◌, ◌≢◌, ⊎_elim, dite}
use native.Mathlib.Omega.{arith}
use native.Mathlib.Decide.{dec_lt}
use borrow.Author.Tests.{eq-eqb, ne_eqb}
use lib.ListN.{length, get_or, set, replicate, length-set, length-replicate, get_or-eq_default}
use lib.Seq.{get_or-set_same, get_or-set_other}
use lib.Dec.{T, eqb, not_T}
use mir.Facts.{and_yes, yes_and, or_yes}
use Rattle.field.specs.Bytes.{BelowPairs, none₂, more₂}
use Rattle.order.specs.Floor.{some}
use Rattle.motion.specs.Arrangement.{Arrangement, occupied, vacant}
use Rattle.motion.specs.Move.{goes_to}
use Rattle.motion.specs.LegalStep.{longest_train}
use Rattle.motion.specs.Step.{leaves, led}
use Rattle.motion.proofs.StepTestsLaws.{or_left, or_right, leaves_iff}
use Rattle.motion.specs.StepTests.{Ascends}
use Rattle.motion.proofs.ListLaws.{pairwise_rel}
use Rattle.motion.proofs.Trains.{Chain, ends, leads as onward, chain_length}
use Rattle.motion.proofs.Test.{equal?, eqb_parts}
use Rattle.tables.specs.Tables.{held_at}
use Rattle.tables.proofs.TableLaws.{passed, failed, zeros_at}
use Rattle.chains.specs.StepOn.{led_on}
use Rattle.chains.specs.Chains.{noted, Targets, Led, leads, follows}

module _ (A : Arrangement) (h : List ℕ) (same : (p : ℕ) → held_at h p ≡ occupied A p) (ms : List (ℕ × ℕ)) where
  pub led-same : (k p : ℕ) → led_on k ms h p ≡ led k ms A p
  unfolding led_on led vacant
  led-same zero p = ap not (same p)
  led-same (suc k) p = rw (same p, led-same k (goes_to ms p)) refl

-- the positions below n where the table has a rack: an arrangement, if not that of the racks' numbers
unfoldable standing : ℕ → List ℕ → Arrangement
standing zero h = []
standing (suc n) h = let rest = standing n h in cond (held_at h n) (n ∷ rest) rest

standing_held : (n : ℕ) (h : List ℕ) (p : ℕ) → T (occupied (standing n h) p) ↔ ((p < n) × T (held_at h p))
unfolding standing occupied some
standing_held zero h p = (λ t. absurd t, λ w. absurd (omega (arith, w.0)))
standing_held (suc n) h p = on (held_at h n) refl (standing_held n h p)
  where
    on : (b : Bool) → held_at h n ≡ b → T (occupied (standing n h) p) ↔ ((p < n) × T (held_at h p))
        → T (occupied (cond b (n ∷ standing n h) (standing n h)) p) ↔ ((p < suc n) × T (held_at h p))
    on true e rest = (
      λ t.
          ⊎_elim
          (λ (q : T (eqb n p)). let same : n ≡ p = (eqb_parts n p).0 q in (omega arith, rw (← same, e) tt))
          (λ u. let w = rest.0 u in (omega (arith, w.0), w.1))
          (or_yes (eqb n p) (occupied (standing n h) p) t),
      λ w.
          ⊎_elim
          (λ (q : n ≡ p). or_left (eqb n p) _ ((eqb_parts n p).1 q))
          (λ (d : n ≢ p). or_right (eqb n p) _ (rest.1 (omega (arith, w.0, d), w.1)))
          (equal? n p),
    )
    on false e rest = (
      λ t. let w = rest.0 t in (omega (arith, w.0), w.1),
      λ w.
          ⊎_elim
          (λ (q : n ≡ p). absurd (subst T (ap (held_at h) (sym q) ∙ e) w.1))
          (λ (d : n ≢ p). rest.1 (omega (arith, w.0, d), w.1))
          (equal? n p),
    )

same_test : (a b : Bool) → (T a → T b) → (T b → T a) → a ≡ b
same_test true true f g = refl
same_test true false f g = absurd (f tt)
same_test false true f g = absurd (g tt)
same_test false false f g = refl

held_standing : (h : List ℕ) (p : ℕ) → held_at h p ≡ occupied (standing (length h) h) p
unfolding held_at
held_standing h p =
    let s = standing_held (length h) h p in
    same_test (held_at h p) (occupied (standing (length h) h) p) (λ t. s.1 (within t, t)) (λ t. (s.0 t).1)
  where
    within : T (held_at h p) → p < length h
    within t = dite (dec_lt p (length h)) (λ l. l) (λ l. absurd (rw (get_or-eq_default h 0 {n = p} (omega arith)) at t))

vacant_on : (h : List ℕ) (p : ℕ) → T (not (held_at h p)) ↔ (get_or h p 0 ≡ 0)
unfolding held_at
vacant_on h p = (
  λ t. ⊎_elim (λ (e : get_or h p 0 ≡ 0). e) (λ (d : get_or h p 0 ≢ 0). absurd (rw (ne_eqb (get_or h p 0) 0 d) at t))
      (equal? (get_or h p 0) 0),
  λ e. rw (eq-eqb (get_or h p 0) 0 e) tt,
)

module _ (ms : List (ℕ × ℕ)) (t h : List ℕ) (targets : Targets ms t) where
  -- a target is there exactly for the positions that are left, and it is one more than the position entered
  target_left : (p : ℕ) → get_or t p 0 ≢ 0 → T (leaves ms p) × (get_or t p 0 - 1 ≡ goes_to ms p)
  target_left p m = on (leaves ms p) refl (targets.goes p)
    where
      on : (b : Bool) → leaves ms p ≡ b → get_or t p 0 ≡ cond b (goes_to ms p + 1) 0 → T (leaves ms p) × (get_or t p 0 - 1 ≡ goes_to ms p)
      on true e g = (rw e tt, omega (arith, g))
      on false e g = absurd (m g)

  left_target : (p : ℕ) → T (leaves ms p) → (get_or t p 0 ≢ 0) × (get_or t p 0 - 1 ≡ goes_to ms p)
  left_target p l =
      let g : get_or t p 0 ≡ goes_to ms p + 1 = rw (passed (leaves ms p) l) at (targets.goes p) in
      (λ z. omega (arith, g, z), omega (arith, g))

  -- the racks of the table h, as an arrangement
  abbrev there : Arrangement
  there = standing (length h) h

  vacant_there : (p : ℕ) → T (vacant there p) ↔ (get_or h p 0 ≡ 0)
  unfolding vacant
  vacant_there p = rw (← held_standing h p) (vacant_on h p)

  -- a train comes through as many positions as it has moves behind its first
  led_passes : {n p : ℕ} → Led t h n p → (ps : List ℕ) × (n ≡ suc (length ps)) × Chain there ms p ps
  led_passes {p} (leads e) = ([], refl, ends ((vacant_there p).1 e))
  led_passes {p} (follows o m l) =
      let w = led_passes l in
      let g = target_left p m in
      let on : Chain there ms (goes_to ms p) w.0 = subst (λ (q : ℕ). Chain there ms q w.0) g.1 w.2 in
      (p ∷ w.0, ap suc w.1, onward (λ v. o ((vacant_there p).0 v)) g.0 on)

  pub led_short : (n p : ℕ) → Led t h n p → n ≤ suc (length ms)
  led_short n p l = let w = led_passes l in omega (arith, w.1, chain_length there ms w.2)

  pub led-same-length : {n k p : ℕ} → Led t h n p → Led t h k p → n ≡ k
  led-same-length (leads e) (leads e') = refl
  led-same-length (leads e) (follows o m l) = absurd (o e)
  led-same-length (follows o m l) (leads e) = absurd (o e)
  led-same-length (follows o m l) (follows o' m' l') = ap suc (led-same-length l l')

  led-from : (k p : ℕ) → T (led_on k ms h p) → (n : ℕ) × (n ≤ suc k) × Led t h n p
  unfolding led_on
  led-from zero p u = (1, omega arith, leads ((vacant_on h p).0 u))
  led-from (suc k) p u =
      ⊎_elim
      (λ (e : get_or h p 0 ≡ 0). (1, omega arith, leads e))
      (λ (d : get_or h p 0 ≢ 0).
      let b = ⊎_elim (λ v. absurd (d ((vacant_on h p).0 v))) (and_yes (leaves ms p) (led_on k ms h (goes_to ms p)))
      (or_yes (not (held_at h p)) _ u) in
      let g = left_target p b.0 in
      let w = led-from k (goes_to ms p) b.1 in
      (suc w.0, omega (arith, w.1), follows d g.0 (subst (λ (q : ℕ). Led t h w.0 q) (sym g.1) w.2)))
      (equal? (get_or h p 0) 0)

  led_to : (k : ℕ) {n p : ℕ} → n ≤ suc k → Led t h n p → T (led_on k ms h p)
  unfolding led_on
  led_to zero {p} s (leads e) = (vacant_on h p).1 e
  led_to (suc k) {p} s (leads e) = or_left (not (held_at h p)) _ ((vacant_on h p).1 e)
  led_to zero s (follows o m (leads e)) = absurd (omega arith)
  led_to zero s (follows o m (follows o' m' l)) = absurd (omega arith)
  led_to (suc k) {p} s (follows o m l) =
      let g = target_left p m in
      let on : T (led_on k ms h (goes_to ms p)) = subst (λ (q : ℕ). T (led_on k ms h q)) g.1 (led_to k (omega arith) l) in
      or_right (not (held_at h p)) _ (yes_and (leaves ms p) _ g.0 on)

  pub led_iff_on : (k p : ℕ) → T (led_on k ms h p) ↔ ((n : ℕ) × (n ≤ suc k) × Led t h n p)
  led_iff_on k p = (led-from k p, λ w. led_to k w.1 w.2)

  unfound : (p : ℕ) → ((n : ℕ) → n ≤ longest_train → Led t h n p → ⊥) → led_on (longest_train - 1) ms h p ≡ false
  unfound p none =
      failed (led_on (longest_train - 1) ms h p)
      (not_T (led_on (longest_train - 1) ms h p) (λ u. let w = (led_iff_on (longest_train - 1) p).0 u in none w.0 w.1 w.2))

  pub led_on_lem : (n p : ℕ) → n ≤ longest_train → Led t h n p → led_on (longest_train - 1) ms h p ≡ true
  led_on_lem n p s l = passed (led_on (longest_train - 1) ms h p) ((led_iff_on (longest_train - 1) p).1 (n, s, l))

  pub unled_on : (p : ℕ) → ((n : ℕ) → Led t h n p → ⊥) → led_on (longest_train - 1) ms h p ≡ false
  unled_on p none = unfound p (λ n s. none n)

  pub long_on : (n p : ℕ) → longest_train < n → Led t h n p → led_on (longest_train - 1) ms h p ≡ false
  long_on n p s l = unfound p (λ k r l'. omega (arith, led-same-length l l'))

-- what is noted

noted-at : (t : List ℕ) {ms : List (ℕ × ℕ)} → BelowPairs 64 ms → length t ≡ 64 → Ascends ms → (p : ℕ)
    → get_or (noted t ms) p 0 ≡ cond (leaves ms p) (goes_to ms p + 1) (get_or t p 0)
unfolding noted leaves some goes_to
noted-at t none₂ n up p = refl
noted-at t (more₂ {p = m} {l = ms} k₀ k₁ r) n up p =
    noted-at (set t m.0 (m.1 + 1)) r (length-set t m.0 (m.1 + 1) ∙ n) (Pairwise.of_cons up) p
    ∙ ⊎_elim
    (λ (e : p ≡ m.0).
    rw (e, later, eq-eqb m.0 m.0 refl) (get_or-set_same t m.0 (m.1 + 1) 0 (omega arith)))
    (λ (d : p ≢ m.0).
    rw (ne_eqb m.0 p (λ e. d (sym e)), ne_eqb p m.0 d, get_or-set_other t m.0 p (m.1 + 1) 0 d) refl)
    (equal? p m.0)
  where
    -- the moves after m leave higher positions
    later : leaves ms m.0 ≡ false
    later =
        failed (leaves ms m.0)
        (not_T (leaves ms m.0)
        (λ u. let w = (leaves_iff ms m.0).0 u in let less : m.0 < w.0.0 = pairwise_rel up w.1 in omega (arith, less, w.2)))

noted_below : (t : List ℕ) {ms : List (ℕ × ℕ)} → BelowPairs 64 ms → length t ≡ 64 → ((p : ℕ) → get_or t p 0 ≤ 64) → (p : ℕ)
    → get_or (noted t ms) p 0 ≤ 64
unfolding noted
noted_below t none₂ n b = b
noted_below t (more₂ {p = m} {l = ms} k₀ k₁ r) n b =
    noted_below (set t m.0 (m.1 + 1)) r (length-set t m.0 (m.1 + 1) ∙ n)
    (λ p.
    ⊎_elim
    (λ (e : p ≡ m.0). rw (e, get_or-set_same t m.0 (m.1 + 1) 0 (omega arith)) (omega arith))
    (λ (d : p ≢ m.0). rw (get_or-set_other t m.0 p (m.1 + 1) 0 d) (b p))
    (equal? p m.0))

pub noted_targets : {ms : List (ℕ × ℕ)} → BelowPairs 64 ms → Ascends ms → Targets ms (noted (replicate 64 0) ms)
noted_targets {ms} b up =
    record {
      goes = λ p. noted-at (replicate 64 0) b long up p ∙ ap (cond (leaves ms p) (goes_to ms p + 1)) (zeros_at 64 p);
      below = noted_below (replicate 64 0) b long (λ p. rw (zeros_at 64 p) (omega arith));
    }
  where
    long : length (replicate {A = ℕ} 64 0) ≡ 64
    long = length-replicate {A = ℕ} 64 0
