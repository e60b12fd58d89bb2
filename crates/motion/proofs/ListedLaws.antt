-- Laws of moves as a plan lists them, each with the rack that it names.
--
--     rightly r s          the rack r that a move names, 0 for none, is the rack s that stands there
--     legal_listed F A w    the move is legal and rightly named
--     listed_fault_none     a listed move has no fault exactly if it is legal and rightly named
--     BadListed F A w f    what the fault f says of the listed move w: its move is bad, or it is legal and names another rack
--     listed_fault_bad      that is what its fault says
--     listed_fault_small    its fault fits 8 bits
--     LeadsListed F A l B  the listed moves l, each legal and rightly named at its turn, lead from A to B
--     replay_listed_ended, replay_listed_stopped   replay of listed moves, as Lawful has it for moves
--     listed_leads         moves that lead somewhere lead there as they are listed
-- Assumes nothing.
use Prim.Native.Nat.{ℕ, ◌≤◌}
use mathlib.Core.Bool.{Bool, true, false, cond, not, ◌&&◌, ◌||◌}
use mathlib.Core.List.{List}
use mathlib.Core.Logic.{◌↔◌, inl, inr, ⊎_elim, ◌≢◌}
use mathlib.Core.Path.{◌≡◌, refl, sym, subst, ◌∙◌}
use borrow.Author.Tests.{eq-eqb, ne_eqb}
use native.Mathlib.Omega.{arith}
use lib.Dec.{T, eqb, lit≤}
use Rattle.order.specs.Floor.{Floor}
use Rattle.motion.specs.Arrangement.{Arrangement, rack_at}
use Rattle.motion.specs.Move.{legal_move, move_fault, misnamed, listed_fault, after_listed, after_move}
use Rattle.motion.specs.Replay.{ended, stopped, replay_listed, listed}
use Rattle.motion.proofs.Test.{and_parts, or_parts, not_parts, eqb_parts, decided, equal?, cond-true, cond-false, cond_either}
use Rattle.motion.proofs.MoveLaws.{move_fault_none, move_fault_small, BadMove, move_fault_bad}
use Rattle.motion.proofs.Lawful.{Lawful, still, ◌then◌, Leads, Stops, replay_ended, replay_stopped}

unfoldable pub rightly : ℕ → ℕ → Bool
rightly r s = eqb r 0 || eqb r s

unfoldable pub legal_listed : Floor → Arrangement → ℕ × ℕ × ℕ → Bool
legal_listed F A w = legal_move F A (w.0, w.1) && rightly w.2 (rack_at A w.0)

-- what a fault of the move and one of its name come to
chosen : (f : ℕ) (b : Bool) → eqb (cond (eqb f 0) (cond b 0 36) f) 0 ≡ (eqb f 0 && b)
chosen f b =
    ⊎_elim
    (λ (e : f ≡ 0). rw (eq-eqb f 0 e) (by b))
    (λ (e : f ≢ 0). rw (ne_eqb f 0 e) (ne_eqb f 0 e))
    (equal? f 0)
  where
    by : (b : Bool) → eqb (cond b 0 36) 0 ≡ b
    by true = refl
    by false = refl

pub listed_fault_none : (F : Floor) (A : Arrangement) (w : ℕ × ℕ × ℕ) → eqb (listed_fault F A w) 0 ≡ legal_listed F A w
unfolding listed_fault misnamed legal_listed rightly
listed_fault_none F A w =
    chosen (move_fault F A (w.0, w.1)) (eqb w.2 0 || eqb w.2 (rack_at A w.0)) ∙ rw (move_fault_none F A (w.0, w.1)) refl

pub data BadListed (F : Floor) (A : Arrangement) (w : ℕ × ℕ × ℕ) : ℕ → Type 0 where
  bad : {f : ℕ} → BadMove F A (w.0, w.1) f → BadListed F A w f
  -- "the rack written is not the one there"
  misnames : T (legal_move F A (w.0, w.1)) → w.2 ≢ 0 → w.2 ≢ rack_at A w.0 → BadListed F A w 36

pub listed_fault_bad : (F : Floor) (A : Arrangement) (w : ℕ × ℕ × ℕ) (f : ℕ) → f ≢ 0 → (listed_fault F A w ≡ f) ↔ BadListed F A w f
unfolding listed_fault misnamed
listed_fault_bad F A w f some = (to, from some)
  where
    m : ℕ × ℕ
    m = (w.0, w.1)

    there : ℕ
    there = rack_at A w.0

    named_36 : (b : Bool) → cond b 0 36 ≡ f → T (not b) × (36 ≡ f)
    named_36 true e = absurd (some (sym e))
    named_36 false e = (tt, e)

    to : cond (eqb (move_fault F A m) 0) (cond (eqb w.2 0 || eqb w.2 there) 0 36) (move_fault F A m) ≡ f → BadListed F A w f
    to e =
        ⊎_elim
        (λ (z : T (eqb (move_fault F A m) 0)).
        let t = named_36 (eqb w.2 0 || eqb w.2 there) (sym (cond-true (eqb (move_fault F A m) 0) _ (move_fault F A m) z) ∙ e) in
        let wrong = (not_parts (eqb w.2 0 || eqb w.2 there)).0 t.0 in
        subst (BadListed F A w) t.1
        (misnames (rw (move_fault_none F A m) at z)
        (λ q. wrong ((or_parts (eqb w.2 0) (eqb w.2 there)).1 (inl ((eqb_parts w.2 0).1 q))))
        (λ q. wrong ((or_parts (eqb w.2 0) (eqb w.2 there)).1 (inr ((eqb_parts w.2 there).1 q))))))
        (λ (z : T (not (eqb (move_fault F A m) 0))).
        bad ((move_fault_bad F A m f some).0 (sym (cond-false (eqb (move_fault F A m) 0) _ (move_fault F A m) z) ∙ e)))
        (decided (eqb (move_fault F A m) 0))

    from : {g : ℕ} → g ≢ 0 → BadListed F A w g
        → cond (eqb (move_fault F A m) 0) (cond (eqb w.2 0 || eqb w.2 there) 0 36) (move_fault F A m) ≡ g
    from {g} d (bad b) =
        let is : move_fault F A m ≡ g = (move_fault_bad F A m g d).1 b in
        rw (is, ne_eqb g 0 d) refl
    from d (misnames l none other) =
        let z : T (eqb (move_fault F A m) 0) = rw (move_fault_none F A m) l in
        let e : move_fault F A m ≡ 0 = (eqb_parts (move_fault F A m) 0).0 z in
        rw (e, ne_eqb w.2 0 none, ne_eqb w.2 there other) refl

pub listed_fault_small : (F : Floor) (A : Arrangement) (w : ℕ × ℕ × ℕ) → listed_fault F A w ≤ 255
unfolding listed_fault misnamed
listed_fault_small F A w =
    cond_either (λ (f : ℕ). f ≤ 255) (eqb (move_fault F A (w.0, w.1)) 0)
    (cond_either (λ (f : ℕ). f ≤ 255) (eqb w.2 0 || eqb w.2 (rack_at A w.0)) (lit≤ tt) (lit≤ tt))
    (move_fault_small F A (w.0, w.1))

abbrev pub LeadsListed : Floor → Arrangement → List (ℕ × ℕ × ℕ) → Arrangement → Type 0
LeadsListed F = Lawful (legal_listed F) after_listed

pub replay_listed_ended : (F : Floor) (A : Arrangement) (l : List (ℕ × ℕ × ℕ)) (B : Arrangement)
    → (replay_listed F A l ≡ ended B) ↔ LeadsListed F A l B
unfolding replay_listed
replay_listed_ended F A l B = replay_ended (listed_fault F) (legal_listed F) after_listed (listed_fault_none F) 1 A l B

pub replay_listed_stopped : (F : Floor) (A : Arrangement) (l : List (ℕ × ℕ × ℕ)) (f j : ℕ)
    → (replay_listed F A l ≡ stopped f j) ↔ Stops (listed_fault F) (legal_listed F) after_listed 1 A l f j
unfolding replay_listed
replay_listed_stopped F A l f j = replay_stopped (listed_fault F) (legal_listed F) after_listed (listed_fault_none F) 1 A l f j

rightly-told : (e : Bool) (s : ℕ) → T (rightly (cond e s 0) s)
unfolding rightly
rightly-told true s = (or_parts (eqb s 0) (eqb s s)).1 (inr ((eqb_parts s s).1 refl))
rightly-told false s = tt

-- moves that lead somewhere lead there as they are listed
pub listed_leads : (e : Bool) (F : Floor) {A B : Arrangement} {ms : List (ℕ × ℕ)} → Leads F A ms B → LeadsListed F A (listed e A ms) B
unfolding listed legal_listed after_listed
listed_leads e F still = still
listed_leads e F (◌then◌ {A = A} {x = m} l p) =
    (and_parts (legal_move F A m) _).1 (l, rightly-told e (rack_at A m.0)) then listed_leads e F p
