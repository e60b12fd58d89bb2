-- What no accepted timetable has: each of its steps is legal, so the limits of legal steps (motion's StepLimits) are its own.
--
--     accepted_legal      each step of an accepted timetable is legal from some arrangement of the order's racks on
--     accepted_size       so it has at most as many moves as there are racks, fewer than there are positions, and at most 63
--     no_turn             no step of it turns a ring: moves from each position of a ring to the next, back to the first
--     no_swap             in none do two neighbours change places
--     no_meeting          in none do two racks enter one position
--     no_long_chain       in none do nine racks go as one train: nine moves, each into the position that the next one leaves
-- Assumes nothing.
use Prim.Native.Nat.{ℕ, suc, ◌-◌, ◌≤◌}
use mathlib.Core.List.Memᴰ
use mathlib.Core.List.{List, Memᴰ}
use mathlib.Core.Logic.{◌≢◌}
use mathlib.Core.Path.{◌≡◌, refl, sym, ◌∙◌, subst}
use native.Mathlib.Omega.{arith}
use lib.ListN.{length}
use Rattle.answers.specs.Answer.{accepted}
use Rattle.order.specs.Floor.{Floor}
use Rattle.order.specs.Order.{rack_count, floor_of}
use Rattle.motion.specs.Arrangement.{Arrangement}
use Rattle.motion.proofs.MoveLaws.{after-length}
use Rattle.motion.proofs.ListLaws.{by_member}
use Rattle.motion.proofs.Lawful.{LeadsSteps, still, ◌then◌}
use Rattle.motion.specs.LegalStep.{longest_train, LegalStep}
use Rattle.motion.proofs.LegalStepLaws.{legal_step_iff}
use Rattle.motion.proofs.StepLimits as limits
use Rattle.tables.proofs.AcceptedLaws.{well_placed}
use Rattle.timetable.specs.Timetable.{steps_of, timetable_answer}
use Rattle.timetable_check.proofs.Leading.{accepted_leads}

leads_legal : (F : Floor) {A B : Arrangement} {steps : List (List (ℕ × ℕ))} → LeadsSteps F A steps B
    → (ms : List (ℕ × ℕ)) → Memᴰ ms steps → (C : Arrangement) × LegalStep F C ms × (length C ≡ length A)
leads_legal F still ms k = absurd (Memᴰ.not-nil k)
leads_legal F (◌then◌ {A = A} {x = x} l rest) ms k =
    by_member k (λ e. (A, subst (LegalStep F A) (sym e) ((legal_step_iff F A x).0 l), refl))
    (λ n. let there = leads_legal F rest ms n in (there.0, there.1, there.2 ∙ after-length A x))

module _ (o s v : List ℕ) (e : timetable_answer o s ≡ accepted v) (ms : List (ℕ × ℕ)) (k : Memᴰ ms (steps_of s)) where
  pub accepted_legal : (A : Arrangement) × LegalStep (floor_of o) A ms × (length A ≡ rack_count o)
  accepted_legal =
      let t = (accepted_leads o s v).0 e in
      let there = leads_legal (floor_of o) t.leads ms k in
      (there.0, there.1, there.2 ∙ (well_placed o t.order_right).starts_length)

  pub accepted_size : (length ms ≤ rack_count o) × (length ms ≤ (floor_of o).positions - 1) × (length ms ≤ 63)
  accepted_size =
      let there = accepted_legal in
      let size = limits.step_size ms there.1 in
      let few = (well_placed o ((accepted_leads o s v).0 e).order_right).few_positions in
      (omega (arith, size.0, there.2), size.1, omega (arith, size.1, few))

  pub no_turn : (p : ℕ → ℕ) (n : ℕ) → p (suc n) ≡ p 0 → ((i : ℕ) → i ≤ n → Memᴰ (p i, p (suc i)) ms) → ⊥
  no_turn = limits.no_turn accepted_legal.1

  pub no_swap : {p q : ℕ} → Memᴰ (p, q) ms → Memᴰ (q, p) ms → ⊥
  no_swap = limits.no_swap accepted_legal.1

  pub no_meeting : {m m' : ℕ × ℕ} → Memᴰ m ms → Memᴰ m' ms → m.0 ≢ m'.0 → m.1 ≢ m'.1
  no_meeting = limits.no_meeting accepted_legal.1

  pub no_long_chain : (p : ℕ → ℕ) → ((i : ℕ) → i ≤ longest_train → Memᴰ (p i, p (suc i)) ms) → ⊥
  no_long_chain = limits.no_long_chain accepted_legal.1
