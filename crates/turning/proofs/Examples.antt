-- Moves on which the definitions are seen to hold, by computation: what the contracts and the laws assume can be met. Three positions in a
-- line, racks 1 and 2 at its first two: rack 2 moves to the end, and rack 1 after it.
--
--     line, line-rows      the rows of the line
--     table x y z          the table with racks x, y and z on the line
--     moves, past          the two moves, in order and the last of them first
--     went                 they lead from table to table, and are written with the racks 2 and 1
--     went_stand_in        the same where rack 2 is a stand-in: the other rack's move is written
--     taken_back           taken back they lead back
--     logged               the log that has them
--     state, entries, undoing, undo_space    what `turning::undo` asks for
--     away                 they avoid position 3
--     exchanged            racks 1 and 2 exchanged meanwhile: they lead to the first table with those two exchanged
--     carried_away         rack 2 carried to position 3 meanwhile: its own move is skipped
--     log                  a log with nothing in it
--     cycle, ring, ring-rows    a floor of five positions in a ring, and its cycle 4, 1, 0, 3, 2
--     standing             racks 1 and 2 and the stand-in 3 on it, with two vacancies, at places 1 and 3
--     turn_moves_lem, turn_written_lem    its turn: from the vacancy at place 1, rack 1, the stand-in, and rack 2 past the other
--                                         vacancy; written
--                          are the moves of the racks 1 and 2, with these
--     turn_met             what `turning::turn` asks for, on that floor
-- Assumes nothing.
use Prim.Native.Nat.{ℕ, zero, suc, ◌+◌, ◌<◌}
use mathlib.Core.Path.{◌≡◌, refl, sym, ap, ◌∙◌}
use mathlib.Core.List.{List, [], ◌∷◌}
use mathlib.Core.Logic.{◌≢◌}
use native.Mathlib.Omega.{arith}
use lib.ListN.{replicate, length-replicate}
use Rattle.field.specs.Listed.{moves_of}
use Rattle.sets.specs.Sets.{bit}
use Rattle.graph.specs.Rows.{row, Edge, Rows}
use Rattle.graph.proofs.Examples.{rows_tested}
use Rattle.breakdown.specs.Part.{place_from}
use Rattle.moving.specs.Went.{Move, Went, Within, Back}
use Rattle.moving.specs.Went.Went.{stay, real, stand_in}
use Rattle.moving.specs.Went.Back.{done}
use Rattle.moving.proofs.WentLaws.{same_refl}
use Rattle.moving.specs.declared.State.{State}
use Rattle.moving.specs.Journey.{onto, Fits, Space}
use Rattle.moving.specs.Journey.Trail.{start, entry}
use Rattle.moving.specs.OnePlace.{Simple}
use Rattle.turning.specs.Turned.{Round, Turnable, pass_moves, turn_moves, turn_written}
use Rattle.turning.specs.Undone.{carried, Entries, Undoing}
use Rattle.turning.proofs.BackLaws.{Avoids, back_went, back_renamed, back_carried}

unfoldable pub line : List ℕ
line = 2 ∷ 5 ∷ 2 ∷ []

pub line-rows : Rows 3 line
unfolding line bit
line-rows = rows_tested 3 line tt

abbrev pub table : ℕ → ℕ → ℕ → List ℕ
table x y z = x ∷ y ∷ z ∷ replicate 61 0

abbrev pub moves : List (ℕ × ℕ)
moves = (1, 2) ∷ (0, 1) ∷ []

abbrev pub past : List (ℕ × ℕ)
past = (0, 1) ∷ (1, 2) ∷ []

clear : {x : ℕ} → suc x ≡ 0 → ⊥
clear e = omega arith

first : Move (Edge line) (row (table 1 2 0)) 1 2 (row (table 1 0 2))
unfolding line bit
first = record { edge = refl; held = clear; vacant = refl; entered = refl; left = refl; others = others }
  where
    others : (p : ℕ) → p ≢ 1 → p ≢ 2 → row (table 1 0 2) p ≡ row (table 1 2 0) p
    others zero x y = refl
    others (suc zero) x y = absurd (x refl)
    others (suc (suc zero)) x y = absurd (y refl)
    others (suc (suc (suc p))) x y = refl

second : Move (Edge line) (row (table 1 0 2)) 0 1 (row (table 0 1 2))
unfolding line bit
second = record { edge = refl; held = clear; vacant = refl; entered = refl; left = refl; others = others }
  where
    others : (p : ℕ) → p ≢ 0 → p ≢ 1 → row (table 0 1 2) p ≡ row (table 1 0 2) p
    others zero x y = absurd (x refl)
    others (suc zero) x y = absurd (y refl)
    others (suc (suc p)) x y = refl

pub went : Went (Edge line) 2 (row (table 1 2 0)) moves ((1, 2, 2) ∷ (0, 1, 1) ∷ []) (row (table 0 1 2))
went = real first refl (omega arith) (real second refl (omega arith) (stay (same_refl (row (table 0 1 2)))))

pub went_stand_in : Went (Edge line) 1 (row (table 1 2 0)) moves ((0, 1, 1) ∷ []) (row (table 0 1 2))
went_stand_in = stand_in first (omega arith) (real second refl (omega arith) (stay (same_refl (row (table 0 1 2)))))

pub taken_back : Back (Edge line) (row (table 0 1 2)) past (row (table 1 2 0))
unfolding onto
taken_back = back_went line-rows.symmetric went (done (same_refl (row (table 1 2 0))))

abbrev pub logged : List ℕ
logged = 66 ∷ 1 ∷ replicate 8254 0

pub undoing : Undoing line (table 0 1 2) logged 0 2 past (row (table 1 2 0))
undoing =
    record {
      trail = entry {a = 0} {b = 1} refl (omega arith) (omega arith) (entry {a = 1} {b = 2} refl (omega arith) (omega arith) start);
      back = taken_back;
    }

abbrev pub state : State
state = record { racks = table 0 1 2; real = 2; written = 2; logged = 2 }

pub entries : Entries 0 2
entries = record { ordered = omega arith; within = omega arith }

pub undo_space : Space state (replicate 9 0) 2
undo_space =
    let n = length-replicate {A = ℕ} 61 0 in
    let r = length-replicate {A = ℕ} 9 0 in
    record { racks = omega arith; few_racks = omega arith; room = omega arith }

-- racks 1 and 2 exchanged
abbrev swap : ℕ → ℕ
swap zero = 0
swap (suc zero) = 2
swap (suc (suc zero)) = 1
swap (suc (suc (suc r))) = suc (suc (suc r))

swap-some : (r : ℕ) → r ≢ 0 → swap r ≢ 0
swap-some zero n = n
swap-some (suc zero) n = clear
swap-some (suc (suc zero)) n = clear
swap-some (suc (suc (suc r))) n = clear

pub exchanged : Back (Edge line) (λ p. swap (row (table 0 1 2) p)) past (λ p. swap (row (table 1 2 0) p))
unfolding onto
exchanged = back_renamed line-rows.symmetric swap refl swap-some went (done (λ p. refl))

pub away : Avoids 3 moves
away =
    Within.more {a = 1} {b = 2} (λ e. omega arith) (λ e. omega arith)
    (Within.more {a = 0} {b = 1} (λ e. omega arith) (λ e. omega arith) Within.none)

pub carried_away : Back (Edge line) (carried 2 3 (row (table 0 1 2))) past (carried 2 3 (row (table 1 2 0)))
unfolding onto
carried_away = back_carried line-rows.symmetric 2 3 away went (done (λ p. refl))

abbrev pub log : List ℕ
log = replicate 8256 0

abbrev pub cycle : List ℕ
cycle = 4 ∷ 1 ∷ 0 ∷ 3 ∷ 2 ∷ []

unfoldable pub ring : List ℕ
ring = 10 ∷ 17 ∷ 24 ∷ 5 ∷ 6 ∷ []

pub ring-rows : Rows 5 ring
unfolding ring bit
ring-rows = rows_tested 5 ring tt

abbrev pub standing : State
standing = record { racks = 2 ∷ 0 ∷ 3 ∷ 0 ∷ 1 ∷ replicate 59 0; real = 2; written = 0; logged = 0 }

pub turn_moves_lem : turn_moves (row cycle) 5 (row standing.racks) ≡ (4, 1) ∷ (2, 4) ∷ (0, 3) ∷ []
unfolding pass_moves place_from moves_of
turn_moves_lem = refl

pub turn_written_lem : turn_written (row cycle) 5 standing ≡ (4, 1, 1) ∷ (0, 3, 2) ∷ []
unfolding pass_moves place_from
turn_written_lem = refl

-- the place of each position, so that different places have different positions
abbrev places : List ℕ
places = 2 ∷ 1 ∷ 4 ∷ 3 ∷ 0 ∷ []

place_back : (i : ℕ) → i < 5 → (row cycle i < 64) × (row places (row cycle i) ≡ i)
place_back zero l = (omega arith, refl)
place_back (suc zero) l = (omega arith, refl)
place_back (suc (suc zero)) l = (omega arith, refl)
place_back (suc (suc (suc zero))) l = (omega arith, refl)
place_back (suc (suc (suc (suc zero)))) l = (omega arith, refl)
place_back (suc (suc (suc (suc (suc i))))) l = absurd (omega arith)

around : (i : ℕ) → i + 1 < 5 → Edge ring (row cycle i) (row cycle (i + 1))
unfolding ring bit
around zero l = refl
around (suc zero) l = refl
around (suc (suc zero)) l = refl
around (suc (suc (suc zero))) l = refl
around (suc (suc (suc (suc i)))) l = absurd (omega arith)

back : Edge ring (row cycle 4) (row cycle 0)
unfolding ring bit
back = refl

pub turn_met : Round (row cycle) 5 ring × Simple (row cycle) 5 × Turnable (row cycle) 5 (row standing.racks)
    × Fits standing log (replicate 12 0) 5
turn_met =
    let h = length-replicate {A = ℕ} 59 0 in
    let t = length-replicate {A = ℕ} 12 0 in (
      record { joined = around; closed = back },
      record {
        short = omega arith;
        below = λ i l. (place_back i l).0;
        distinct = λ i j l m e.
            let x = sym (place_back i (omega arith)).1 ∙ ap (row places) e ∙ (place_back j m).1 in
            absurd (omega arith);
      },
      (1, record { before = omega arith; vacant = refl }),
      record {
        racks = omega arith;
        log = length-replicate {A = ℕ} 8256 0;
        logged = omega arith;
        few_racks = omega arith;
        room = omega arith;
      },
    )
