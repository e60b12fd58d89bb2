-- Whether a change is impossible, decided by trying each colouring of the floor's positions. Nothing here is part of a promise: a decision
-- is believed by its type.
--
--     at k b c           the colouring c, with the colour b at k
--     Alike k c d        the colourings c and d agree below k
--     some_colouring?    where a property depends on the colours below k alone, some colouring has it or none does
--     span               how many positions matter: the n, and the two vacancies
--     kept               whether a colouring shows that a change is impossible depends on their colours alone
--     decide_two_colours   a colouring has two colours with each edge joining both, or not
--     decide_contrary     by a colouring the change is contrary, or not
--     decide_impossible   the change is impossible, or not
-- Assumes nothing.
use Rattle.std.specs.Prelude.{ℕ, zero, suc, ◌+◌, ◌-◌, ◌%◌, ◌<◌, ◌≡◌, refl, Bool, true, false, cond, ◌⊎◌, eqb}
use Rattle.std.proofs.Common.{sym, ap, ◌∙◌, inl, inr, not-suc-le-zero, arith, eq-eqb, ne_eqb}
use Rattle.std.proofs.Math.Bool.{Bool-discrete}
use Rattle.std.proofs.Math.Logic.{by_cases}
use Rattle.std.proofs.Math.Decide.{ℕ_discrete}
use Rattle.order.specs.Floor.{Floor, joined}
use Rattle.motion.specs.Arrangement.{Arrangement}
use Rattle.floor.specs.FloorAnswer.{Joins, passes?}
use Rattle.graph.proofs.WayDecision.{alike?, either?, both?, not?, implies?, every?}
use Rattle.parity.specs.Colours.{TwoColours}
use Rattle.parity.specs.Permutation.{vacancy, change, inversions}
use Rattle.parity.specs.Impossible.{Contrary, Impossible}

abbrev pub at : ℕ → Bool → (ℕ → Bool) → ℕ → Bool
at k b c p = cond (eqb p k) b (c p)

abbrev pub Alike : ℕ → (ℕ → Bool) → (ℕ → Bool) → Type 0
Alike k c d = (p : ℕ) → p < k → c p ≡ d p

-- the colour at k, put in again, changes nothing
pub at_same : (k : ℕ) (c : ℕ → Bool) → Alike (suc k) c (at k (c k) c)
at_same k c p l =
    by_cases (ℕ_discrete p k)
    (λ e. ap c e ∙ sym (ap (λ (t : Bool). cond t (c k) (c p)) (eq-eqb p k e)))
    (λ d. sym (ap (λ (t : Bool). cond t (c k) (c p)) (ne_eqb p k d)))

pub at-alike : (k : ℕ) (b : Bool) (c d : ℕ → Bool) → Alike k c d → Alike (suc k) (at k b c) (at k b d)
at-alike k b c d h p l =
    by_cases (ℕ_discrete p k)
    (λ e. ap (λ (t : Bool). cond t b (c p)) (eq-eqb p k e) ∙ sym (ap (λ (t : Bool). cond t b (d p)) (eq-eqb p k e)))
    (λ e. ap (λ (t : Bool). cond t b (c p)) (ne_eqb p k e) ∙ h p (omega arith) ∙ sym (ap (λ (t : Bool). cond t b (d p)) (ne_eqb p k e)))

module _ (k : ℕ) (P : (ℕ → Bool) → Type 0) (kept : (c d : ℕ → Bool) → Alike (suc k) c d → P c → P d) where
  -- some colouring with the colour b at k
  abbrev Has : Bool → Type 0
  Has b = (c : ℕ → Bool) × P (at k b c)

  pub some : Has true ⊎ Has false → (c : ℕ → Bool) × P c
  some (inl h) = (at k true h.0, h.1)
  some (inr h) = (at k false h.0, h.1)

  pub by_colour : (c : ℕ → Bool) → P c → (b : Bool) → c k ≡ b → Has true ⊎ Has false
  by_colour c h true e = inl (c, kept c (at k true c) (λ p l. at_same k c p l ∙ ap (λ (x : Bool). at k x c p) e) h)
  by_colour c h false e = inr (c, kept c (at k false c) (λ p l. at_same k c p l ∙ ap (λ (x : Bool). at k x c p) e) h)

unfoldable pub some_colouring? : (k : ℕ) (P : (ℕ → Bool) → Type 0) → ((c d : ℕ → Bool) → Alike k c d → P c → P d)
    → ((c : ℕ → Bool) → Dec (P c)) → Dec ((c : ℕ → Bool) × P c)
unfolding alike? either?
some_colouring? zero P kept d? =
    alike? (λ h. ((λ p. true), h)) (λ h. kept h.0 (λ p. true) (λ p l. absurd (not-suc-le-zero l)) h.1) (d? (λ p. true))
some_colouring? (suc k) P kept d? =
    let with : (b : Bool) → Dec ((c : ℕ → Bool) × P (at k b c)) =
    λ b. some_colouring? k (λ c. P (at k b c)) (λ c d h. kept (at k b c) (at k b d) (at-alike k b c d h)) (λ c. d? (at k b c)) in
    alike? (some k P kept) (λ h. by_colour k P kept h.0 h.1 (h.0 k) refl) (either? (with true) (with false))

unfoldable pub decide_two_colours : (F : Floor) (c : ℕ → Bool) → Dec (TwoColours F.positions (Joins F) c)
unfolding passes? alike? implies? every? not?
decide_two_colours F c =
    alike? (λ h a b la lb. h a la b lb) (λ h a la b lb. h a b la lb)
    (every? F.positions (λ a. every? F.positions (λ b. implies? (passes? (joined F a b)) (λ j. not? (Bool-discrete (c a) (c b))))))

module _ (F : Floor) (S G : Arrangement) where
  abbrev n : ℕ
  n = F.positions

  unfoldable pub decide_contrary : (c : ℕ → Bool) → Dec (Contrary n S G c)
  unfolding ℕ_discrete either? both? not?
  decide_contrary c =
      let same = Bool-discrete (c (vacancy n S)) (c (vacancy n G)) in
      either? (both? (ℕ_discrete (inversions (change n S G) % 2) 1) same) (both? (ℕ_discrete (inversions (change n S G) % 2) 0) (not? same))

  abbrev Right : (ℕ → Bool) → Type 0
  Right c = TwoColours n (Joins F) c × Contrary n S G c

  abbrev span : ℕ
  span = n + ((suc (vacancy n S) - n) + (suc (vacancy n G) - n))

  pub kept : (c d : ℕ → Bool) → Alike span c d → Right c → Right d
  kept c d h r = (
    λ a b la lb j e. r.0 a b la lb j (h a (omega arith) ∙ e ∙ sym (h b (omega arith))),
    contrary r.1,
  )
    where
      v : c (vacancy n S) ≡ d (vacancy n S)
      v = h (vacancy n S) (omega arith)

      w : c (vacancy n G) ≡ d (vacancy n G)
      w = h (vacancy n G) (omega arith)

      contrary : Contrary n S G c → Contrary n S G d
      contrary (inl x) = inl (x.0, sym v ∙ x.1 ∙ w)
      contrary (inr x) = inr (x.0, λ e. x.1 (v ∙ e ∙ sym w))

  unfoldable pub decide_impossible : Dec (Impossible F S G)
  unfolding alike? both? some_colouring? decide_two_colours decide_contrary
  decide_impossible =
      alike? (λ h. record { colour = h.0; joins_both = h.1.0; contrary = h.1.1 }) (λ i. (i.colour, (i.joins_both, i.contrary)))
      (some_colouring? span Right kept (λ c. both? (decide_two_colours F c) (decide_contrary c)))
