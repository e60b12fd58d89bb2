-- Laws of what specs/Simulation.antt defines.
--
--     Alike R x y        two replays ended alike: at two that R relates, or both stopped with the same fault at the same place
--     replay_alike       where R is kept, and both find the same fault in what has the property P, replays of a list of such end alike
--     judged_on_lem          replays that end alike are judged alike, where R says that the table holds the arrangement
-- Assumes nothing.
use Prim.Native.Nat.{ℕ, suc}
use mathlib.Core.Path.{◌≡◌, refl}
use mathlib.Core.Bool.{Bool, not}
use mathlib.Core.List.{List}
use mathlib.Core.Logic.{⊎_elim}
use lib.Dec.{T, eqb}
use lib.ListN.{length}
use Rattle.motion.specs.Arrangement.{Arrangement}
use Rattle.motion.specs.Replay.{Replayed, ended, stopped, replay_from}
use Rattle.motion.specs.Judgement.{judged}
use Rattle.motion.proofs.Test.{decided}
use Rattle.tables.specs.Tables.{judged_on}
use Rattle.tables.proofs.TablesLaws.{Holds}
use Rattle.tables.proofs.TableLaws.{passed, failed, misplaced_on_lem}
use Rattle.tables.specs.Simulation.{Each, each_more, each_none}

pub data Alike (R : Arrangement → List ℕ → Type 0) : Replayed → Replayed → Type 0 where
  both_ended : {A : Arrangement} {h : List ℕ} → R A h → Alike R (ended A) (ended h)
  both_stopped : {f j : ℕ} → Alike R (stopped f j) (stopped f j)

module _ {X : Type 0} (P : X → Type 0) (R : Arrangement → List ℕ → Type 0)
    (fault : Arrangement → X → ℕ) (next : Arrangement → X → Arrangement) (fault' : List ℕ → X → ℕ) (next' : List ℕ → X → List ℕ)
    (same : (A : Arrangement) (h : List ℕ) (x : X) → R A h → P x → fault A x ≡ fault' h x)
    (kept : (A : Arrangement) (h : List ℕ) (x : X) → R A h → P x → T (eqb (fault A x) 0) → R (next A x) (next' h x)) where
  pub replay_alike : (i : ℕ) (A : Arrangement) (h : List ℕ) {xs : List X} → Each P xs → R A h
      → Alike R (replay_from fault next i A xs) (replay_from fault' next' i h xs)
  unfolding replay_from
  replay_alike i A h each_none r = both_ended r
  replay_alike i A h (each_more {x = x} {xs = xs} p ps) r =
      ⊎_elim
      (λ (l : T (eqb (fault A x) 0)).
      let e : eqb (fault A x) 0 ≡ Bool.true = passed (eqb (fault A x) 0) l in
      rw (← same A h x r p, e) (replay_alike (suc i) (next A x) (next' h x) ps (kept A h x r p l)))
      (λ (l : T (not (eqb (fault A x) 0))).
      let e : eqb (fault A x) 0 ≡ Bool.false = failed (eqb (fault A x) 0) l in
      rw (← same A h x r p, e) both_stopped)
      (decided (eqb (fault A x) 0))

pub judged_on_lem : (R : Arrangement → List ℕ → Type 0) (off : ℕ) (G counts : List ℕ)
    → ((A : Arrangement) (h : List ℕ) → R A h → Holds A h × (length G ≡ length A))
    → {x y : Replayed} → Alike R x y → judged_on off G counts y ≡ judged off G counts x
unfolding judged judged_on
judged_on_lem R off G counts holds (both_ended {A = A} {h = h} r) =
    let t = holds A h r in
    rw (misplaced_on_lem A h G t.0 t.1) refl
judged_on_lem R off G counts holds both_stopped = refl
