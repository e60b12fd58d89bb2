-- A trip from the starts to the goals, both filled with stand-ins, is a plan: its written moves, those of the racks of the order, are legal
-- each at its turn and lead from the starts to the goals. "Vacancies beyond two are filled with stand-in racks whose moves are dropped."
--
--     kept_filled       without the stand-ins a filled table is the table that was filled
--     Planned F A G ws  the replay of the written moves ws ends at the goals, and each is written with the rack that replay has there
--     trip_planned      so it is with the written moves of the trip
-- Assumes nothing.
use Prim.Native.Nat.{ℕ, ◌<◌}
use mathlib.Core.Path.{◌≡◌, sym, ◌∙◌}
use mathlib.Core.Bool.{true}
use mathlib.Core.List.{List}
use mathlib.Core.Logic.{⊎_elim, by_cases}
use native.Mathlib.Decide.{ℕ_discrete}
use native.Mathlib.Omega.{arith}
use lib.Dec.{T}
use lib.ListN.{length}
use Rattle.field.specs.Listed.{moves_of}
use Rattle.field.proofs.ListedLaws.{length-moves_of}
use Rattle.order.specs.Floor.{Floor, joined}
use Rattle.motion.specs.Arrangement.{Arrangement}
use Rattle.motion.specs.Replay.{ended, replay_moves, listed}
use Rattle.graph.specs.Rows.{row, Edge}
use Rattle.moving.specs.Went.{Same}
use Rattle.moving.proofs.WentLaws.{went_from, went_to}
use Rattle.turning.proofs.BackLaws.{kept, kept_real, kept_stand_in, kept_same, went_kept}
use Rattle.moving.specs.declared.State.{State}
use Rattle.moving.specs.Journey.{Trip}
use Rattle.solving.specs.Placed.{Placed, Filled}
use Rattle.solving.proofs.Held.{HeldBy, went_replayed, went_listed}

pub kept_filled : (n m : ℕ) (h k : ℕ → ℕ) → Placed n m h → Filled m h k → Same (kept m k) h
kept_filled n m h k placed filled p =
    by_cases (ℕ_discrete (h p) 0)
    (λ e. ⊎_elim (λ z. kept_real m k p (omega arith) ∙ z ∙ sym e) (λ l. kept_stand_in m k p l ∙ sym e) (filled.added p e))
    (λ e.
    let same = filled.kept p e in
    let most = placed.most p in
    kept_real m k p (omega arith) ∙ same)

pub record Planned (F : Floor) (A G : Arrangement) (ws : List (ℕ × ℕ × ℕ)) : Type 0 where
  pub replayed : replay_moves F A (moves_of ws) ≡ ended G
  pub racks : ws ≡ listed true A (moves_of ws)

pub trip_planned : (F : Floor) {g : List ℕ} → ((a b : ℕ) → Edge g a b → (a < F.positions) × (b < F.positions) × T (joined F a b))
    → (n : ℕ) (s : State) (A G : Arrangement) (h k start goal : ℕ → ℕ) → length A ≡ length G → HeldBy A h → HeldBy G k
    → Placed n s.real h → Placed n s.real k → Filled s.real h start → Filled s.real k goal
    → {c : ℕ} {s' : State} {t t' : List ℕ} (trip : Trip g c s t s' t') → Same (row s.racks) start → Same (row s'.racks) goal
    → Planned F A G trip.written
trip_planned F joins n s A G h k start goal size a g from to filled reached {s' = s'} trip begins ends =
    let m = s.real in
    let went =
    went_from (λ p. sym (kept_filled n m h start from filled p) ∙ kept_same m start (row s.racks) p (sym (begins p)))
    (went_to (λ p. kept_same m (row s'.racks) goal p (ends p) ∙ kept_filled n m k goal to reached p) (went_kept trip.went)) in
    record {
      replayed = went_replayed F joins A G to.one size a g went;
      racks = went_listed F joins A a went (length-moves_of trip.written);
    }
