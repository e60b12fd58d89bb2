-- The packing can be undone: each answer of every function of the C interface, for every input, fits 64 bits and comes back by the header's
-- shifts, and no two answers of a function share a number.
--
--     Packs rest values Fits    counts that fit take at most 56 bits, and come back
--     packed_back               so does the answer that has them
--     room_of                   the counts of a sized answer have room
--     tells                     the one law: the number of a sized answer tells it
--     told-apart                one number tells one answer
--     nothing_packs, record_length_packs, plan-moves-pack, made_steps_pack, floor_steps_pack, steps_moves-pack, offset-length_packs,
--     start-goal-moves-pack
--                               each packing of `Packed`
--     uncounted_sized, uncounted-same    an answer without its counts is sized, and has the same number where no counts are given
-- Assumes nothing.
use Prim.Native.Nat.{ℕ, ◌+◌, ◌*◌, ◌/◌, ◌%◌, ◌^◌, ◌<◌}
use mathlib.Core.Path.{◌≡◌, refl, sym, ap, ap₂, ◌∙◌, subst}
use mathlib.Core.List.{List, [], ◌∷◌}
use native.Mathlib.Nat.{mod-eq_of_lt}
use native.Mathlib.Omega.{arith}
use borrow.Author.Tests.{ne_eqb}
use Rattle.answers.specs.Answer.{Answer, accepted, refused}
use Rattle.packing.specs.Packed.{packed, nothing, one_count, steps_and_moves, length_and_offset, start_goal_moves}
use Rattle.packing.specs.Unpacked.{number_in, place_in, nothing_of, record_length_of, plan_moves_of, made_steps_of}
use Rattle.packing.specs.Unpacked.{floor_steps_of, steps_and_moves_of, offset_and_length_of, start_goal_moves_of}
use Rattle.packing.specs.Unpacked.{taken_apart, uncounted, Tells}
use Rattle.packing.proofs.Sized.{Sized, accepts, refuses, NoCounts, no_counts, OneCount, one_count_lem, WordCount}
use Rattle.packing.proofs.Sized.{word_count, StepsMoves, steps_moves, OffsetLength, offset_length, StartGoalMoves}
use Rattle.packing.proofs.Sized.{start_goal_moves_lem}

pub record Packs (rest : List ℕ → ℕ) (values : ℕ → List ℕ) (Fits : List ℕ → Type 0) : Type 0 where
  pub room : (v : List ℕ) → Fits v → rest v < 2 ^ 56
  pub read : (v : List ℕ) → Fits v → values (rest v * 256) ≡ v

module _ {rest : List ℕ → ℕ} {values : ℕ → List ℕ} {Fits : List ℕ → Type 0} (packs : Packs rest values Fits) where
  pub packed_back : (a : Answer) → Sized Fits a → (packed rest a < 2 ^ 64) × (taken_apart values (packed rest a) ≡ a)
  unfolding taken_apart
  packed_back (accepted v) (accepts fits) =
      let zero : number_in (rest v * 256) ≡ 0 = omega arith in
      (omega (arith, packs.room v fits), rw zero (ap accepted (packs.read v fits)))
  packed_back (refused number place) (refuses some few near) =
      let r = packed rest (refused number place) in
      let number_is : number_in r ≡ number = omega arith in
      let above : r / 2 ^ 8 ≡ place = omega arith in
      let place_is : place_in r ≡ place = rw above (mod-eq_of_lt near) in
      (omega arith, rw (number_is, place_is, ne_eqb number 0 (λ e. omega arith)) refl)

  pub room_of : {a : Answer} {v : List ℕ} → Sized Fits a → accepted v ≡ a → rest v < 2 ^ 56
  room_of {v = v} sized is = packs.room v (fits_of (subst (Sized Fits) (sym is) sized))
    where
      fits_of : {v : List ℕ} → Sized Fits (accepted v) → Fits v
      fits_of (accepts fits) = fits

  -- what a function of the C interface shows: its number is the answer, packed, and the answer is sized
  pub tells : {a : Answer} {r : ℕ} → Sized Fits a → r ≡ packed rest a → Tells rest values a r
  tells {a} {r} sized is = record { number_is = is; comes_apart = ap (taken_apart values) is ∙ (packed_back a sized).1 }

-- so no two answers of a function share a number
pub told-apart : {rest : List ℕ → ℕ} {values : ℕ → List ℕ} {a b : Answer} {r : ℕ} → Tells rest values a r → Tells rest values b r → a ≡ b
told-apart t u = sym t.comes_apart ∙ u.comes_apart

pub nothing_packs : Packs nothing nothing_of NoCounts
nothing_packs = record { room = λ v f. omega arith; read = read }
  where
    read : (v : List ℕ) → NoCounts v → nothing_of (nothing v * 256) ≡ v
    read [] no_counts = refl
    read (_ ∷ _) h = elim h [ ]

pub record_length_packs : Packs one_count record_length_of OneCount
record_length_packs = record { room = room; read = read }
  where
    room : (v : List ℕ) → OneCount v → one_count v < 2 ^ 56
    room (k ∷ []) (one_count_lem few) = omega arith
    room [] h = elim h [ ]
    room (k ∷ _ ∷ _) h = elim h [ ]

    read : (v : List ℕ) → OneCount v → record_length_of (one_count v * 256) ≡ v
    read (k ∷ []) (one_count_lem few) = let k_is : k * 256 / 2 ^ 8 ≡ k = omega arith in ap (λ (x : ℕ). x ∷ []) k_is
    read [] h = elim h [ ]
    read (k ∷ _ ∷ _) h = elim h [ ]

pub plan-moves-pack : Packs one_count plan_moves_of OneCount
plan-moves-pack = record { room = room; read = read }
  where
    room : (v : List ℕ) → OneCount v → one_count v < 2 ^ 56
    room (k ∷ []) (one_count_lem few) = omega arith
    room [] h = elim h [ ]
    room (k ∷ _ ∷ _) h = elim h [ ]

    read : (v : List ℕ) → OneCount v → plan_moves_of (one_count v * 256) ≡ v
    read (k ∷ []) (one_count_lem few) = let k_is : k * 256 / 2 ^ 8 % 2 ^ 32 ≡ k = omega arith in ap (λ (x : ℕ). x ∷ []) k_is
    read [] h = elim h [ ]
    read (k ∷ _ ∷ _) h = elim h [ ]

pub made_steps_pack : Packs one_count made_steps_of OneCount
made_steps_pack = record { room = plan-moves-pack.room; read = read }
  where
    read : (v : List ℕ) → OneCount v → made_steps_of (one_count v * 256) ≡ v
    read (k ∷ []) (one_count_lem few) = let k_is : k * 256 / 2 ^ 8 % 2 ^ 22 % 2 ^ 32 ≡ k = omega arith in ap (λ (x : ℕ). x ∷ []) k_is
    read [] h = elim h [ ]
    read (k ∷ _ ∷ _) h = elim h [ ]

pub floor_steps_pack : Packs one_count floor_steps_of WordCount
floor_steps_pack = record { room = room; read = read }
  where
    room : (v : List ℕ) → WordCount v → one_count v < 2 ^ 56
    room (k ∷ []) (word_count few) = omega arith
    room [] h = elim h [ ]
    room (k ∷ _ ∷ _) h = elim h [ ]

    read : (v : List ℕ) → WordCount v → floor_steps_of (one_count v * 256) ≡ v
    read (k ∷ []) (word_count few) = let k_is : k * 256 / 2 ^ 8 % 2 ^ 32 ≡ k = omega arith in ap (λ (x : ℕ). x ∷ []) k_is
    read [] h = elim h [ ]
    read (k ∷ _ ∷ _) h = elim h [ ]

pub steps_moves-pack : Packs steps_and_moves steps_and_moves_of StepsMoves
steps_moves-pack = record { room = room; read = read }
  where
    room : (v : List ℕ) → StepsMoves v → steps_and_moves v < 2 ^ 56
    room (s ∷ k ∷ []) (steps_moves few few') = omega arith
    room [] h = elim h [ ]
    room (s ∷ []) h = elim h [ ]
    room (s ∷ k ∷ _ ∷ _) h = elim h [ ]

    read : (v : List ℕ) → StepsMoves v → steps_and_moves_of (steps_and_moves v * 256) ≡ v
    read (s ∷ k ∷ []) (steps_moves few few') =
        let r = steps_and_moves (s ∷ k ∷ []) * 256 in
        let s_is : r / 2 ^ 8 % 2 ^ 22 % 2 ^ 32 ≡ s = omega arith in
        let above : r / 2 ^ 30 ≡ k = omega arith in
        let k_is : r / 2 ^ 30 % 2 ^ 32 ≡ k = rw above (mod-eq_of_lt (omega arith)) in
        ap₂ (λ (x y : ℕ). x ∷ y ∷ []) s_is k_is
    read [] h = elim h [ ]
    read (s ∷ []) h = elim h [ ]
    read (s ∷ k ∷ _ ∷ _) h = elim h [ ]

pub offset-length_packs : Packs length_and_offset offset_and_length_of OffsetLength
offset-length_packs = record { room = room; read = read }
  where
    room : (v : List ℕ) → OffsetLength v → length_and_offset v < 2 ^ 56
    room (at ∷ n ∷ []) (offset_length near few) = omega arith
    room [] h = elim h [ ]
    room (at ∷ []) h = elim h [ ]
    room (at ∷ n ∷ _ ∷ _) h = elim h [ ]

    read : (v : List ℕ) → OffsetLength v → offset_and_length_of (length_and_offset v * 256) ≡ v
    read (at ∷ n ∷ []) (offset_length near few) =
        let r = length_and_offset (at ∷ n ∷ []) * 256 in
        let at_is : r / 2 ^ 24 ≡ at = omega arith in
        let n_is : r / 2 ^ 8 % 2 ^ 16 ≡ n = omega arith in
        ap₂ (λ (x y : ℕ). x ∷ y ∷ []) at_is n_is
    read [] h = elim h [ ]
    read (at ∷ []) h = elim h [ ]
    read (at ∷ n ∷ _ ∷ _) h = elim h [ ]

pub start-goal-moves-pack : Packs start_goal_moves start_goal_moves_of StartGoalMoves
start-goal-moves-pack = record { room = room; read = read }
  where
    room : (v : List ℕ) → StartGoalMoves v → start_goal_moves v < 2 ^ 56
    room (s ∷ g ∷ k ∷ []) (start_goal_moves_lem fs fg fk) = omega arith
    room [] h = elim h [ ]
    room (s ∷ []) h = elim h [ ]
    room (s ∷ g ∷ []) h = elim h [ ]
    room (s ∷ g ∷ k ∷ _ ∷ _) h = elim h [ ]

    read : (v : List ℕ) → StartGoalMoves v → start_goal_moves_of (start_goal_moves v * 256) ≡ v
    read (s ∷ g ∷ k ∷ []) (start_goal_moves_lem fs fg fk) =
        let r = start_goal_moves (s ∷ g ∷ k ∷ []) * 256 in
        let all : r / 2 ^ 8 ≡ s + (g + k * 256) * 256 = omega arith in
        let high : r / 2 ^ 16 ≡ g + k * 256 = omega arith in
        let top : r / 2 ^ 24 ≡ k = omega arith in
        let s_is : r / 2 ^ 8 % 2 ^ 8 % 2 ^ 32 ≡ s = rw all (omega arith) in
        let g_is : r / 2 ^ 16 % 2 ^ 8 % 2 ^ 32 ≡ g = rw high (omega arith) in
        let k_is : r / 2 ^ 24 % 2 ^ 32 ≡ k = rw top (omega arith) in
        ap₂ (λ (x : ℕ) (l : List ℕ). x ∷ l) s_is (ap₂ (λ (x y : ℕ). x ∷ y ∷ []) g_is k_is)
    read [] h = elim h [ ]
    read (s ∷ []) h = elim h [ ]
    read (s ∷ g ∷ []) h = elim h [ ]
    read (s ∷ g ∷ k ∷ _ ∷ _) h = elim h [ ]

pub uncounted_sized : {Fits : List ℕ → Type 0} {a : Answer} → Sized Fits a → Sized NoCounts (uncounted a)
uncounted_sized (accepts fits) = accepts no_counts
uncounted_sized (refuses some few near) = refuses some few near

pub uncounted-same : (a : Answer) → packed nothing a ≡ packed nothing (uncounted a)
uncounted-same (accepted v) = refl
uncounted-same (refused number place) = refl
