-- Laws of what specs/MovesOn.antt defines.
--
--     matrix_of F       the matrix of the floor F's edges
--     table_of A        the table of the arrangement A
--     Kept n m A h     the arrangement A of m racks is sound on n positions, and the table h holds it
--     fault_on         a move's fault by the tables is its fault
--     listed_on_lem        and so it is with the rack that it names
--     moves-alike      the replay on tables of moves below 64 ends as the replay on arrangements does
--     moves-judged     and so it is judged
-- Assumes nothing.
use Prim.Native.Nat.{ℕ, ◌≤◌, ◌<◌}
use mathlib.Core.Path.{◌≡◌, refl, sym, ap, ◌∙◌}
use mathlib.Core.Bool.{Bool, true, false, not}
use mathlib.Core.List.{List}
use lib.ListN.{length, get_or, replicate}
use lib.Dec.{T, eqb}
use Rattle.field.specs.Bytes.{BelowPairs}
use Rattle.field.specs.Listed.{ListedFit, none₃, more₃}
use Rattle.order.specs.Floor.{Floor}
use Rattle.order.specs.Order.{wrong_edges}
use Rattle.order.specs.Tables.{marked, placed}
use Rattle.motion.specs.Arrangement.{Arrangement, occupied, vacant}
use Rattle.motion.specs.Move.{on_floor, legal_move, move_fault, listed_fault, after_listed}
use Rattle.motion.proofs.MoveLaws.{on_floor_parts, legal_parts, move-length}
use Rattle.motion.proofs.ListedLaws.{legal_listed, listed_fault_none}
use Rattle.motion.proofs.Test.{and_parts}
use Rattle.motion.specs.Replay.{replay_listed}
use Rattle.motion.specs.Judgement.{judged}
use Rattle.motion.specs.Sound.{Sound}
use Rattle.motion.proofs.SoundLaws.{move_sound}
use Rattle.tables.specs.Tables.{edge_at, held_at, entries_fault, move_fault_on, listed_entries, listed_fault_on, listed_on, judged_on}
use Rattle.tables.proofs.TablesLaws.{Holds}
use Rattle.tables.proofs.TableLaws.{held_occupied, table_rack, placed-holds, moved_holds}
use Rattle.tables.proofs.MatrixLaws.{matrix_joined, on_floor-joined}
use Rattle.tables.specs.Simulation.{Each, each_none, each_more}
use Rattle.tables.proofs.SimulationLaws.{Alike, replay_alike, judged_on_lem}
use Rattle.tables.specs.MovesOn.{replay_on}

unfoldable pub matrix_of : Floor → List ℕ
matrix_of F = marked (replicate 4096 0) F.edges

unfoldable pub table_of : Arrangement → List ℕ
table_of A = placed (replicate 64 0) 1 A

-- both positions are below 64, as six bits keep them
abbrev Small : ℕ × ℕ × ℕ → Type 0
Small w = (w.0 < 64) × (w.1 < 64)

each_small : {named : Bool} {l : List (ℕ × ℕ × ℕ)} → ListedFit named l → Each Small l
each_small none₃ = each_none
each_small (more₃ h k r f) = each_more (h, k) (each_small f)

not-not : (b : Bool) → not (not b) ≡ b
not-not true = refl
not-not false = refl

-- an arrangement of m racks that is sound, and the table that holds it
abbrev pub Kept : ℕ → ℕ → Arrangement → List ℕ → Type 0
Kept n m A h = Sound n A × Holds A h × (length A ≡ m)

module _ (F : Floor) (few : F.positions ≤ 64) (below : BelowPairs 64 F.edges) (right : wrong_edges F ≡ false) where
  pub fault_on : (A : Arrangement) (h : List ℕ) → Holds A h → (m : ℕ × ℕ) → m.0 < 64 → m.1 < 64
      → move_fault F A m ≡ move_fault_on (matrix_of F) h m
  unfolding move_fault move_fault_on entries_fault matrix_of edge_at held_at vacant
  fault_on A h holds m a b =
      let edge : on_floor F m ≡ edge_at (marked (replicate 4096 0) F.edges) m =
      on_floor-joined F right m.0 m.1 ∙ sym (matrix_joined F m.0 m.1 below a b) in
      let free : not (occupied A m.1) ≡ eqb (get_or h m.1 0) 0 =
      ap not (sym (held_occupied A h holds m.1)) ∙ not-not (eqb (get_or h m.1 0) 0) in
      rw (edge, ← held_occupied A h holds m.0, free)

  pub listed_on_lem : (A : Arrangement) (h : List ℕ) → Holds A h → (w : ℕ × ℕ × ℕ) → w.0 < 64 → w.1 < 64
      → listed_fault F A w ≡ listed_fault_on (matrix_of F) h w
  unfolding listed_fault listed_fault_on listed_entries
  listed_on_lem A h holds w a b =
      rw (table_rack A h holds w.0) (unfold move_fault_on in rw (fault_on A h holds (w.0, w.1) a b) refl)

  kept_on : (k : ℕ) (A : Arrangement) (h : List ℕ) (w : ℕ × ℕ × ℕ) → Kept F.positions k A h → Small w → T (eqb (listed_fault F A w) 0)
      → Kept F.positions k (after_listed A w) (listed_on h w)
  unfolding after_listed listed_on
  kept_on k A h w r p z =
      let m : ℕ × ℕ = (w.0, w.1) in
      let legal : T (legal_listed F A w) = rw (listed_fault_none F A w) at z in
      let l : T (legal_move F A m) = unfold legal_listed in ((and_parts (legal_move F A m) _).0 legal).0 in
      let t = (legal_parts F A m).0 l in (
        move_sound F A m l r.0,
        moved_holds F.positions A h few r.0 r.1 m t.1 t.2 ((on_floor_parts F m).0 t.0).1,
        move-length A m ∙ r.2,
      )

  module _ (A : Arrangement) (s : Sound F.positions A) {named : Bool} {l : List (ℕ × ℕ × ℕ)} (small : ListedFit named l) where
    pub moves-alike : Alike (Kept F.positions (length A)) (replay_listed F A l) (replay_on (matrix_of F) (table_of A) l)
    unfolding replay_listed replay_on table_of
    moves-alike =
        replay_alike Small (Kept F.positions (length A)) (listed_fault F) after_listed (listed_fault_on (matrix_of F)) listed_on
        (λ B h w r p. listed_on_lem B h r.1 w p.0 p.1)
        (kept_on (length A))
        1 A (placed (replicate 64 0) 1 A) (each_small small) (s, placed-holds F.positions A few s, refl)

    pub moves-judged : (off : ℕ) (G counts : List ℕ) → length G ≡ length A
        → judged_on off G counts (replay_on (matrix_of F) (table_of A) l) ≡ judged off G counts (replay_listed F A l)
    moves-judged off G counts e =
        judged_on_lem (Kept F.positions (length A)) off G counts (λ B h r. (r.1, e ∙ sym r.2)) moves-alike
