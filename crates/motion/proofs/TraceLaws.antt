-- Laws of traces, of moves and of steps alike: the arrangements that a replay passes through, the first at index 0.
--
--     trace-length    one arrangement more than the list has elements
--     trace-first     the trace begins where the replay does
--     trace_last      the trace of a lawful list ends where the list leads
--     trace_turn      from each arrangement of the trace of a lawful list one that is legal there makes the next
--     trace_keeps     what legal moves or steps keep holds all along the trace of a lawful list
-- Assumes nothing.
use Prim.Native.Nat.{ℕ, zero, suc, ◌<◌, ◌≤◌}
use mathlib.Core.Bool.{Bool}
use mathlib.Core.List.{List, [], ◌∷◌}
use mathlib.Core.Path.{◌≡◌, refl, ap}
use native.Mathlib.Omega.{arith}
use lib.Dec.{T}
use lib.ListN.{length, get_or}
use Rattle.motion.specs.Arrangement.{Arrangement}
use Rattle.motion.specs.Replay.{trace}
use Rattle.motion.proofs.Lawful.{Lawful, still, ◌then◌}

module _ {X : Type 0} (next : Arrangement → X → Arrangement) where
  pub trace-length : (A : Arrangement) (xs : List X) → length (trace next A xs) ≡ suc (length xs)
  unfolding trace
  trace-length A [] = refl
  trace-length A (x ∷ xs) = ap suc (trace-length (next A x) xs)

  pub trace-first : (A : Arrangement) (xs : List X) → get_or (trace next A xs) 0 [] ≡ A
  unfolding trace
  trace-first A [] = refl
  trace-first A (x ∷ xs) = refl

module _ {X : Type 0} {legal : Arrangement → X → Bool} {next : Arrangement → X → Arrangement} where
  pub trace_last : {A B : Arrangement} {xs : List X} → Lawful legal next A xs B → get_or (trace next A xs) (length xs) [] ≡ B
  unfolding trace
  trace_last still = refl
  trace_last (l then p) = trace_last p

  pub trace_turn : {A B : Arrangement} {xs : List X} → Lawful legal next A xs B → (k : ℕ) → k < length xs
      → (x : X) × T (legal (get_or (trace next A xs) k []) x) × (get_or (trace next A xs) (suc k) [] ≡ next
      (get_or (trace next A xs) k []) x)
  unfolding trace
  trace_turn still k h = absurd (omega arith)
  trace_turn (◌then◌ {A = A} {x = x} {xs = xs} l p) zero h = (x, l, trace-first next (next A x) xs)
  trace_turn (l then p) (suc k) h = trace_turn p k (omega arith)

  pub trace_keeps : (P : Arrangement → Type 0) → ((A : Arrangement) (x : X) → T (legal A x) → P A → P (next A x))
      → {A B : Arrangement} {xs : List X} → Lawful legal next A xs B → P A → (k : ℕ) → k ≤ length xs → P (get_or (trace next A xs) k [])
  unfolding trace
  trace_keeps P keeps still a zero h = a
  trace_keeps P keeps still a (suc k) h = absurd (omega arith)
  trace_keeps P keeps (l then p) a zero h = a
  trace_keeps P keeps (◌then◌ {A = A} {x = x} l p) a (suc k) h = trace_keeps P keeps p (keeps A x l a) k (omega arith)
