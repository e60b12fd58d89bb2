-- The moves of a plan as it lists them: replay tells the rack of each.
--
--     moves-listed     listed and then without the racks, moves are what they were
--     length_listing   and as many
--     listing          moves that fit an edition's fields, each legal and rightly named at its turn, lead as moves, and are listed with the
--                      racks that replay tells: the one fact about replay that both editions rest on
--     ended_listing    so a replay of listed moves ends where that of the moves does, if they are so listed, and does not end otherwise
--     leads_small      moves that lead anywhere have their positions on the floor
--     listing_fits     they fit the fields of either edition
-- Assumes nothing.
use Prim.Native.Nat.{ℕ, suc, ◌≤◌}
use mathlib.Core.Bool.{Bool, true, false, cond}
use mathlib.Core.List.{List, [], ◌∷◌}
use mathlib.Core.Logic.{◌↔◌, ⊎_elim}
use mathlib.Core.Path.{◌≡◌, refl, sym, ap, ap₂, subst}
use native.Mathlib.Omega.{arith}
use lib.Dec.{T, eqb}
use lib.ListN.{length}
use Rattle.field.specs.Bytes.{BelowPairs, none₂, more₂}
use Rattle.field.specs.Listed.{moves_of, RackFits, ListedFit, none₃, more₃}
use Rattle.order.specs.Floor.{Floor}
use Rattle.motion.specs.Arrangement.{Arrangement, occupied, rack_at}
use Rattle.motion.specs.Move.{legal_move, after_move, after_listed}
use Rattle.motion.specs.Replay.{ended, replay_moves, replay_listed, listed}
use Rattle.motion.proofs.ArrangementLaws.{rack_at_finds}
use Rattle.motion.proofs.Lawful.{Leads, still, ◌then◌, replay_moves_ended}
use Rattle.motion.proofs.ListedLaws.{rightly, legal_listed, LeadsListed, replay_listed_ended, listed_leads}
use Rattle.motion.proofs.MoveLaws.{on_floor_parts, legal_parts, move-length}
use Rattle.motion.proofs.Test.{and_parts, or_parts, eqb_parts}

pub moves-listed : (e : Bool) (A : Arrangement) (ms : List (ℕ × ℕ)) → moves_of (listed e A ms) ≡ ms
unfolding moves_of listed
moves-listed e A [] = refl
moves-listed e A (m ∷ ms) = ap (λ (l : List (ℕ × ℕ)). m ∷ l) (moves-listed e (after_move A m) ms)

pub length_listing : (e : Bool) (A : Arrangement) (ms : List (ℕ × ℕ)) → length (listed e A ms) ≡ length ms
unfolding listed
length_listing e A [] = refl
length_listing e A (m ∷ ms) = ap suc (length_listing e (after_move A m) ms)

-- a rack that fits and is rightly named is the one that is listed
told : (e : Bool) (r s : ℕ) → RackFits e r → T (rightly r s) → r ≡ cond e s 0
unfolding rightly
told false r s f t = f
told true r s f t =
    ⊎_elim
    (λ (z : T (eqb r 0)). absurd (omega (arith, (eqb_parts r 0).0 z)))
    (λ (z : T (eqb r s)). (eqb_parts r s).0 z)
    ((or_parts (eqb r 0) (eqb r s)).0 t)

pub listing : (e : Bool) (F : Floor) {A B : Arrangement} {l : List (ℕ × ℕ × ℕ)} → ListedFit e l → LeadsListed F A l B
    → Leads F A (moves_of l) B × (l ≡ listed e A (moves_of l))
unfolding moves_of listed legal_listed after_listed
listing e F none₃ still = (still, refl)
listing e F (more₃ {w = w} a b r f) (◌then◌ {A = A} t p) =
    let both = (and_parts (legal_move F A (w.0, w.1)) (rightly w.2 (rack_at A w.0))).0 t in
    let rest = listing e F {A = after_listed A w} f p in
    let rack = told e w.2 (rack_at A w.0) r both.1 in (
      both.0 then rest.0,
      ap₂ (λ (x : ℕ × ℕ × ℕ) (m : List (ℕ × ℕ × ℕ)). x ∷ m) (λ j. (w.0, w.1, rack j)) rest.1,
    )

pub leads_small : (F : Floor) → F.positions ≤ 64 → {A B : Arrangement} {ms : List (ℕ × ℕ)} → Leads F A ms B → BelowPairs 64 ms
leads_small F few still = none₂
leads_small F few (◌then◌ {A = A} {x = m} l rest) =
    let t = (on_floor_parts F m).0 ((legal_parts F A m).0 l).0 in
    more₂ {p = m} (omega (arith, t.0)) (omega (arith, t.1)) (leads_small F few rest)

rack_fits : (e : Bool) (A : Arrangement) (p : ℕ) → length A ≤ 64 → T (occupied A p) → RackFits e (cond e (rack_at A p) 0)
rack_fits false A p few o = refl
rack_fits true A p few o = let w = rack_at_finds A p o in (omega (arith, w.3), omega (arith, w.1, w.3))

pub listing_fits : (e : Bool) (F : Floor) → F.positions ≤ 64 → {A B : Arrangement} {ms : List (ℕ × ℕ)} → length A ≤ 64 → Leads F A ms B
    → ListedFit e (listed e A ms)
unfolding listed
listing_fits e F few racks still = none₃
listing_fits e F few racks (◌then◌ {A = A} {x = m} l rest) =
    let t = (legal_parts F A m).0 l in
    let on = (on_floor_parts F m).0 t.0 in
    more₃ {w = (m.0, m.1, cond e (rack_at A m.0) 0)} (omega (arith, on.0)) (omega (arith, on.1)) (rack_fits e A m.0 racks t.1)
    (listing_fits e F few (rw (move-length A m) racks) rest)

-- how a replay of listed moves ends
pub ended_listing : (e : Bool) (F : Floor) (A : Arrangement) {l : List (ℕ × ℕ × ℕ)} (B : Arrangement) → ListedFit e l
    → (replay_listed F A l ≡ ended B) ↔ ((replay_moves F A (moves_of l) ≡ ended B) × (l ≡ listed e A (moves_of l)))
ended_listing e F A {l} B f = (
  λ r. let t = listing e F f ((replay_listed_ended F A l B).0 r) in ((replay_moves_ended F A (moves_of l) B).1 t.0, t.1),
  λ t. (replay_listed_ended F A l B).1
      (subst (λ (x : List (ℕ × ℕ × ℕ)). LeadsListed F A x B) (sym t.1)
      (listed_leads e F ((replay_moves_ended F A (moves_of l) B).0 t.0))),
)
