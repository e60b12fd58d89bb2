-- Lawful lists: moves or steps that are legal each at its turn, as a relation of two arrangements, and its bridge to replay.
-- Theory speaks of the relation, a checker of the function; both meet here once. Document 01, "Legal moves and steps": "Each move
-- or step is judged on the arrangement that those before it left. Replay stops at the first that is not legal."
--
--     Lawful legal next A xs B   the list xs, judged by legal and made by next, is legal at each turn and leads from A to B
--     Leads F A ms B             the moves ms, each legal at its turn on the floor F, lead from A to B
--     LeadsSteps F A steps B     the same of steps
--     Stops fault legal next i A xs f j   of xs, numbered from i, those before number j lead somewhere, and there number j, which is
--                                not legal, has the fault f
--     lawful_one                 one that is legal and makes B of A leads from A to B
--     lawful_none                the empty list leads nowhere else
--     lawful_first               the first of a lawful list is legal, and the rest lead on from what it makes
--     lawful_append              two lawful lists, one after the other, are lawful
--     lawful_apart               a lawful list is lawful up to each of its places and from there on
--     lawful_same                a list leads from an arrangement to one arrangement only
--     carry_on r f                a replay that ended is carried on by f from where it ended; one that stopped has stopped
--     replay_append              the replay of xs ++ ys is the replay of xs, carried on with ys
--     replay_ended               replay ends at B exactly if the list is lawful and leads to B
--     step_fault_none, step_fault_small   a step has no fault exactly if it is legal, and its number fits 8 bits
--     replay_stopped             replay stops with the fault f at the number j exactly if j is the number of the first that is not legal
--                                at its turn, and f its fault
--     stops_some                 what a replay stops with is a fault
--     replay_moves_ended, replay_moves_stopped   these two of a plan's moves, numbered from 1
--     replay_steps_ended, replay_steps_stopped   and of a timetable's steps
-- Assumes nothing.
use Prim.Native.Nat.{ℕ, suc, ◌+◌, ◌≤◌}
use mathlib.Core.Bool.{Bool, true, false, not, cond}
use mathlib.Core.List.{List, [], ◌∷◌, ◌++◌}
use mathlib.Core.Logic.{◌↔◌, ◌⊎◌, inl, inr, ⊎_elim}
use mathlib.Core.Path.{◌≡◌, refl, sym, ap, ap₂, ◌∙◌}
use native.Mathlib.Nat.{add-zero, add-suc, suc-add}
use native.Mathlib.Omega.{arith}
use lib.Dec.{T, eqb, lit≤}
use lib.ListN.{length}
use Rattle.order.specs.Floor.{Floor}
use Rattle.motion.specs.Arrangement.{Arrangement}
use Rattle.motion.proofs.Test.{not_parts, eqb_parts, cond-true, cond-false, cond_either}
use Rattle.motion.specs.Move.{legal_move, move_fault, after, after_move}
use Rattle.motion.proofs.MoveLaws.{move_fault_none}
use Rattle.motion.specs.Step.{legal_step}
use Rattle.motion.specs.Replay.{Replayed, ended, stopped, replay_from, replay_moves, step_fault, replay_steps}
use Rattle.motion.proofs.StepDecision.{legal_step?, step_fault_is}

infixr 5 ◌then◌
pub data Lawful {X : Type 0} (legal : Arrangement → X → Bool) (next : Arrangement → X → Arrangement) : Arrangement → List X →
    Arrangement → Type 0 where
  still : {A : Arrangement} → Lawful legal next A [] A
  ◌then◌ : {A B : Arrangement} {x : X} {xs : List X} → T (legal A x) → Lawful legal next (next A x) xs B → Lawful legal next A (x ∷ xs) B

abbrev pub Leads : Floor → Arrangement → List (ℕ × ℕ) → Arrangement → Type 0
Leads F = Lawful (legal_move F) after_move

abbrev pub LeadsSteps : Floor → Arrangement → List (List (ℕ × ℕ)) → Arrangement → Type 0
LeadsSteps F = Lawful (legal_step F) after

pub record Stops {X : Type 0} (fault : Arrangement → X → ℕ) (legal : Arrangement → X → Bool) (next : Arrangement → X → Arrangement)
    (i : ℕ) (A : Arrangement) (xs : List X) (f j : ℕ) : Type 0 where
  pub before : List X
  pub bad : X
  pub rest : List X
  pub parts : xs ≡ before ++ bad ∷ rest
  pub number : j ≡ i + length before
  pub there : Arrangement
  pub lawful : Lawful legal next A before there
  pub illegal : T (not (legal there bad))
  pub fault_is : fault there bad ≡ f

unfoldable pub carry_on : Replayed → (Arrangement → Replayed) → Replayed
carry_on (ended B) f = f B
carry_on (stopped n i) f = stopped n i

module _ {X : Type 0} {legal : Arrangement → X → Bool} {next : Arrangement → X → Arrangement} where
  pub lawful_one : {A B : Arrangement} {x : X} → T (legal A x) → next A x ≡ B → Lawful legal next A (x ∷ []) B
  lawful_one {A} {B} {x} l e = let here : Lawful legal next (next A x) [] B = rw e still in l then here

  pub lawful_none : {A B : Arrangement} → Lawful legal next A [] B → A ≡ B
  lawful_none still = refl

  pub lawful_first : {A B : Arrangement} {x : X} {xs : List X} → Lawful legal next A (x ∷ xs) B
      → T (legal A x) × Lawful legal next (next A x) xs B
  lawful_first (l then p) = (l, p)

  pub lawful_append : {A B C : Arrangement} {xs ys : List X} → Lawful legal next A xs B → Lawful legal next B ys C
      → Lawful legal next A (xs ++ ys) C
  lawful_append still q = q
  lawful_append (l then p) q = l then lawful_append p q

  pub lawful_apart : (xs : List X) {ys : List X} {A C : Arrangement} → Lawful legal next A (xs ++ ys) C
      → (B : Arrangement) × Lawful legal next A xs B × Lawful legal next B ys C
  lawful_apart [] {A = A} p = (A, still, p)
  lawful_apart (x ∷ xs) (l then p) = let t = lawful_apart xs p in (t.0, (l then t.1), t.2)

  pub lawful_same : {A B C : Arrangement} {xs : List X} → Lawful legal next A xs B → Lawful legal next A xs C → B ≡ C
  lawful_same still still = refl
  lawful_same (l then p) (l' then q) = lawful_same p q

-- a turn of the replay: what its test decides
ended_passed : (b : Bool) (r : Replayed) (n i : ℕ) (B : Arrangement) → cond b r (stopped n i) ≡ ended B → T b × (r ≡ ended B)
ended_passed true r n i B e = (tt, e)
ended_passed false r n i B e = let z : ◌≡◌ {A = ℕ} 0 1 = cc in absurd (omega arith)

stopped_cases : (b : Bool) (r : Replayed) (n i f j : ℕ) → cond b r (stopped n i) ≡ stopped f j
    → (T b × (r ≡ stopped f j)) ⊎ (T (not b) × (n ≡ f) × (i ≡ j))
stopped_cases true r n i f j e = inl (tt, e)
stopped_cases false r n i f j e = inr (tt, (cc), (cc))

carry_on-passed : (b : Bool) (r : Replayed) (n i : ℕ) (f : Arrangement → Replayed)
    → cond b (carry_on r f) (stopped n i) ≡ carry_on (cond b r (stopped n i)) f
unfolding carry_on
carry_on-passed true r n i f = refl
carry_on-passed false r n i f = refl

module _ {X : Type 0} (fault : Arrangement → X → ℕ) (next : Arrangement → X → Arrangement) where
  pub replay_append : (i : ℕ) (A : Arrangement) (xs ys : List X)
      → replay_from fault next i A (xs ++ ys) ≡ carry_on (replay_from fault next i A xs) (λ B. replay_from fault next (i + length xs) B ys)
  unfolding replay_from carry_on
  replay_append i A [] ys = rw add-zero
  replay_append i A (x ∷ xs) ys =
      rw (replay_append (suc i) (next A x) xs ys, add-suc, ← suc-add) (carry_on-passed (eqb (fault A x) 0) _ (fault A x) i _)

-- what has no fault exactly if it is legal
module _ {X : Type 0} (fault : Arrangement → X → ℕ) (legal : Arrangement → X → Bool) (next : Arrangement → X → Arrangement)
    (none : (A : Arrangement) (x : X) → eqb (fault A x) 0 ≡ legal A x) where
  ended_lawful : (i : ℕ) (A : Arrangement) (xs : List X) (B : Arrangement) → replay_from fault next i A xs ≡ ended B
      → Lawful legal next A xs B
  unfolding replay_from
  ended_lawful i A [] B e = let same : A ≡ B = cc in rw (← same) still
  ended_lawful i A (x ∷ xs) B e =
      let t = ended_passed (eqb (fault A x) 0) (replay_from fault next (suc i) (next A x) xs) (fault A x) i B e in
      (rw (none A x) at t.0) then ended_lawful (suc i) (next A x) xs B t.1

  lawful_ended : (i : ℕ) {A B : Arrangement} {xs : List X} → Lawful legal next A xs B → replay_from fault next i A xs ≡ ended B
  unfolding replay_from
  lawful_ended i still = refl
  lawful_ended i (◌then◌ {A = A} {x = x} {xs = xs} l p) =
      cond-true (eqb (fault A x) 0) (replay_from fault next (suc i) (next A x) xs) (stopped (fault A x) i) (rw (none A x) l)
      ∙ lawful_ended (suc i) p

  pub replay_ended : (i : ℕ) (A : Arrangement) (xs : List X) (B : Arrangement)
      → (replay_from fault next i A xs ≡ ended B) ↔ Lawful legal next A xs B
  replay_ended i A xs B = (ended_lawful i A xs B, lawful_ended i)

  stops_later : (i : ℕ) (A : Arrangement) (x : X) (xs : List X) (f j : ℕ) → T (legal A x)
      → Stops fault legal next (suc i) (next A x) xs f j → Stops fault legal next i A (x ∷ xs) f j
  stops_later i A x xs f j l s =
      record {
        before = x ∷ s.before;
        bad = s.bad;
        rest = s.rest;
        parts = ap (λ (zs : List X). x ∷ zs) s.parts;
        number = s.number ∙ suc-add i (length s.before) ∙ sym (add-suc i (length s.before));
        there = s.there;
        lawful = l then s.lawful;
        illegal = s.illegal;
        fault_is = s.fault_is;
      }

  stopped_stops : (i : ℕ) (A : Arrangement) (xs : List X) (f j : ℕ) → replay_from fault next i A xs ≡ stopped f j
      → Stops fault legal next i A xs f j
  unfolding replay_from
  stopped_stops i A [] f j e = let z : ◌≡◌ {A = ℕ} 0 1 = cc in absurd (omega arith)
  stopped_stops i A (x ∷ xs) f j e =
      ⊎_elim
      (λ t. stops_later i A x xs f j (rw (none A x) at t.0) (stopped_stops (suc i) (next A x) xs f j t.1))
      (λ t.
      record {
        before = [];
        bad = x;
        rest = xs;
        parts = refl;
        number = omega arith;
        there = A;
        lawful = still;
        illegal = rw (none A x) at t.0;
        fault_is = t.1;
      })
      (stopped_cases (eqb (fault A x) 0) (replay_from fault next (suc i) (next A x) xs) (fault A x) i f j e)

  stops_stopped : (i : ℕ) (A : Arrangement) (xs : List X) (f j : ℕ) → Stops fault legal next i A xs f j
      → replay_from fault next i A xs ≡ stopped f j
  unfolding replay_from carry_on
  stops_stopped i A xs f j s =
      let k = i + length s.before in
      ap (replay_from fault next i A) s.parts
      ∙ replay_append fault next i A s.before (s.bad ∷ s.rest)
      ∙ ap (λ (r : Replayed). carry_on r (λ B. replay_from fault next k B (s.bad ∷ s.rest))) (lawful_ended i s.lawful)
      ∙ cond-false (eqb (fault s.there s.bad) 0) _ (stopped (fault s.there s.bad) k)
      (rw (none s.there s.bad) s.illegal)
      ∙ ap₂ stopped s.fault_is (sym s.number)

  pub replay_stopped : (i : ℕ) (A : Arrangement) (xs : List X) (f j : ℕ)
      → (replay_from fault next i A xs ≡ stopped f j) ↔ Stops fault legal next i A xs f j
  replay_stopped i A xs f j = (stopped_stops i A xs f j, stops_stopped i A xs f j)

  pub stops_some : {i : ℕ} {A : Arrangement} {xs : List X} {f j : ℕ} → Stops fault legal next i A xs f j → f ≡ 0 → ⊥
  stops_some s e =
      let clear : T (eqb (fault s.there s.bad) 0) = (eqb_parts (fault s.there s.bad) 0).1 (s.fault_is ∙ e) in
      (not_parts (legal s.there s.bad)).0 s.illegal (rw (none s.there s.bad) at clear)

pub step_fault_none : (F : Floor) (A : Arrangement) (ms : List (ℕ × ℕ)) → eqb (step_fault (legal_step? F) A ms) 0 ≡ legal_step F A ms
step_fault_none F A ms = rw (step_fault_is F A ms) (chosen (legal_step F A ms))
  where
    chosen : (b : Bool) → eqb (cond b 0 42) 0 ≡ b
    chosen true = refl
    chosen false = refl

pub step_fault_small : (F : Floor) (A : Arrangement) (ms : List (ℕ × ℕ)) → step_fault (legal_step? F) A ms ≤ 255
step_fault_small F A ms = rw (step_fault_is F A ms)
    (cond_either (λ (f : ℕ). f ≤ 255) (legal_step F A ms) (lit≤ tt) (lit≤ tt))

pub replay_moves_ended : (F : Floor) (A : Arrangement) (ms : List (ℕ × ℕ)) (B : Arrangement)
    → (replay_moves F A ms ≡ ended B) ↔ Leads F A ms B
unfolding replay_moves
replay_moves_ended F A ms B = replay_ended (move_fault F) (legal_move F) after_move (move_fault_none F) 1 A ms B

pub replay_moves_stopped : (F : Floor) (A : Arrangement) (ms : List (ℕ × ℕ)) (f j : ℕ)
    → (replay_moves F A ms ≡ stopped f j) ↔ Stops (move_fault F) (legal_move F) after_move 1 A ms f j
unfolding replay_moves
replay_moves_stopped F A ms f j = replay_stopped (move_fault F) (legal_move F) after_move (move_fault_none F) 1 A ms f j

pub replay_steps_ended : (F : Floor) (A : Arrangement) (steps : List (List (ℕ × ℕ))) (B : Arrangement)
    → (replay_steps (legal_step? F) A steps ≡ ended B) ↔ LeadsSteps F A steps B
unfolding replay_steps
replay_steps_ended F A steps B = replay_ended (step_fault (legal_step? F)) (legal_step F) after (step_fault_none F) 1 A steps B

pub replay_steps_stopped : (F : Floor) (A : Arrangement) (steps : List (List (ℕ × ℕ))) (f j : ℕ)
    → (replay_steps (legal_step? F) A steps ≡ stopped f j) ↔ Stops (step_fault (legal_step? F)) (legal_step F) after 1 A steps f j
unfolding replay_steps
replay_steps_stopped F A steps f j = replay_stopped (step_fault (legal_step? F)) (legal_step F) after (step_fault_none F) 1 A steps f j
