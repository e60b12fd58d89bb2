-- The three passes put together: what the first two find decides, and the third makes the step.
--
--     sound_targets   moves that the first pass passes have their targets noted
--     sound_taking    and each takes a rack along to its target
--     sound_few       so they are at most 64
--     not_sound       a step that it does not pass is not legal
--     sound           one that it passes is judged by the second
--     stays, ran      where a step is not legal the racks stay, and else it is made
--     not_read        more moves than are read are no legal step
-- Assumes nothing.
use Prim.Native.Nat.{ℕ, ◌≤◌, ◌<◌}
use mathlib.Core.Path.{◌≡◌, refl, sym, ◌∙◌, subst}
use mathlib.Core.Bool.{Bool, true, false, ◌&&◌, false≢true}
use mathlib.Core.List.{List, [], ◌∷◌, Memᴰ}
use mathlib.Core.Logic.{dite}
use native.Mathlib.Decide.{dec_lt}
use native.Mathlib.Omega.{arith}
use borrow.Author.Tests.{eq-eqb}
use lib.ListN.{length, get_or, replicate}
use lib.Dec.{T}
use mir.Facts.{and_yes}
use Rattle.field.specs.Bits.{pairs}
use Rattle.field.specs.Bytes.{BelowPairs}
use Rattle.field.proofs.RecordLaws.{length_pairs, pairs_lt}
use Rattle.motion.specs.Step.{every, ascends, leaves, entered_once}
use Rattle.motion.proofs.StepTestsLaws.{ascends_iff, every_iff, leaves_iff, goes_to_takes}
use Rattle.tables.specs.Tables.{edge_at, held_at}
use Rattle.tables.proofs.TableLaws.{passed}
use Rattle.tables.specs.Simulation.{Each, each_none, each_more}
use Rattle.chains.specs.StepOn.{sound_moves, all_led, legal_step_on, step_on, ran_on}
use Rattle.chains.specs.Chains.{noted, Targets, Taking}
use Rattle.chains.proofs.ChainLaws.{noted_targets}
use Rattle.chains.proofs.Noting.{too_many}

each_member : {X : Type 0} {P : X → Type 0} (l : List X) → ((x : X) → Memᴰ x l → P x) → Each P l
each_member [] f = each_none
each_member (x ∷ l) f = each_more (f x (Memᴰ.head refl)) (each_member l (λ y k. f y (Memᴰ.tail k)))

module _ (g h : List ℕ) (ms : List (ℕ × ℕ)) where
  pub sound_targets : (t : List ℕ) → BelowPairs 64 ms → sound_moves g h ms ≡ true → t ≡ noted (replicate 64 0) ms → Targets ms t
  unfolding sound_moves
  sound_targets t b e is =
      let all : T (ascends ms && every (edge_at g) ms && every (λ m. held_at h m.0) ms && entered_once ms) = subst T (sym e) tt in
      let three = (and_yes (ascends ms && every (edge_at g) ms && every (λ m. held_at h m.0) ms) (entered_once ms) all).0 in
      let two = (and_yes (ascends ms && every (edge_at g) ms) (every (λ m. held_at h m.0) ms) three).0 in
      rw is (noted_targets b ((ascends_iff ms).0 (and_yes (ascends ms) (every (edge_at g) ms) two).0))

  pub sound_taking : (t : List ℕ) → sound_moves g h ms ≡ true → Targets ms t → Each (Taking t h) ms
  unfolding sound_moves held_at
  sound_taking t e targets =
      let all : T (ascends ms && every (edge_at g) ms && every (λ m. held_at h m.0) ms && entered_once ms) = subst T (sym e) tt in
      let three = (and_yes (ascends ms && every (edge_at g) ms && every (λ m. held_at h m.0) ms) (entered_once ms) all).0 in
      let two = and_yes (ascends ms && every (edge_at g) ms) (every (λ m. held_at h m.0) ms) three in
      let up = (ascends_iff ms).0 (and_yes (ascends ms) (every (edge_at g) ms) two.0).0 in
      each_member ms
      (λ m k. (
        λ z. absurd (rw (eq-eqb (get_or h m.0 0) 0 z) at ((every_iff (λ m. held_at h m.0) ms).0 two.1 m k)),
        targets.goes m.0 ∙ rw (passed (leaves ms m.0) ((leaves_iff ms m.0).1 (m, k, refl)), goes_to_takes up k) refl,
      ))

  pub sound_few : BelowPairs 64 ms → sound_moves g h ms ≡ true → length ms ≤ 64
  sound_few b e = dite (dec_lt 64 (length ms)) (λ many. absurd (false≢true (sym (too_many g h b many) ∙ e))) (λ few. omega arith)

  pub not_sound : sound_moves g h ms ≡ false → false ≡ legal_step_on g h ms
  unfolding legal_step_on
  not_sound e = rw e refl

  pub sound : (r : Bool) → sound_moves g h ms ≡ true → r ≡ all_led h ms → r ≡ legal_step_on g h ms
  unfolding legal_step_on
  sound r e f = rw e f

  pub stays : legal_step_on g h ms ≡ false → h ≡ ran_on g h ms
  unfolding ran_on
  stays e = rw e refl

  pub ran : (h' : List ℕ) → legal_step_on g h ms ≡ true → h' ≡ step_on h ms → h' ≡ ran_on g h ms
  unfolding ran_on
  ran h' e is = rw e is

pub not_read : (g h s : List ℕ) (c : ℕ) → 64 < c → false ≡ legal_step_on g h (pairs s 0 c)
not_read g h s c many = not_sound g h (pairs s 0 c) (too_many g h (pairs_lt s 0 c) (rw (length_pairs s 0 c) many))
