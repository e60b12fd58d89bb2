-- Laws of what specs/LegalStep.antt defines.
--
--     legal_step_iff      the test passes exactly where the record holds
--     legal_true         where the record holds, the test is the Boolean `true`
--     after_nothing      no moves change nothing
--     legal_nothing      the step of no moves is legal, and changes nothing
--     legal_move_lem         a move of a legal step leaves a position other than the one that it enters
-- Assumes nothing.
use Prim.Native.Nat.{ℕ, ◌-◌}
use mathlib.Core.Path.{◌≡◌, refl, ap}
use mathlib.Core.Bool.{Bool, true, false, ◌&&◌}
use mathlib.Core.Logic.{◌↔◌, ◌≢◌}
use mathlib.Core.List.Memᴰ
use mathlib.Core.List.Pairwise
use mathlib.Core.List.{List, [], ◌∷◌, Memᴰ}
use lib.Dec.{T}
use mir.Facts.{and_yes, yes_and}
use Rattle.order.specs.Floor.{Floor}
use Rattle.motion.specs.Arrangement.{Arrangement, occupied}
use Rattle.motion.specs.Move.{on_floor, goes_to, after}
use Rattle.motion.specs.Step.{every, ascends, entered_once, led, legal_step}
use Rattle.motion.specs.StepTests.{Ascends}
use Rattle.motion.proofs.StepTestsLaws.{ascends_iff, every_iff, on_floor_iff, occupied_iff, entered_once_iff}
use Rattle.motion.proofs.Trains.{led-at_most, train-moves}
use Rattle.motion.specs.LegalStep.{longest_train, LegalStep}

-- five tests, all passed
all_five : (a b c d e : Bool) → T (a && b && c && d && e) ↔ (T a × T b × T c × T d × T e)
all_five a b c d e = (
  λ t.
      let r = and_yes (a && b && c && d) e t in
      let q = and_yes (a && b && c) d r.0 in
      let p = and_yes (a && b) c q.0 in
      let o = and_yes a b p.0 in
      (o.0, o.1, p.1, q.1, r.1),
  λ t. yes_and (a && b && c && d) e (yes_and (a && b && c) d (yes_and (a && b) c (yes_and a b t.0 t.1) t.2) t.3) t.4,
)

module _ (F : Floor) (A : Arrangement) (ms : List (ℕ × ℕ)) where
  pub legal_step_iff : T (legal_step F A ms) ↔ LegalStep F A ms
  unfolding legal_step
  legal_step_iff =
      let hold : ℕ × ℕ → Bool = λ m. occupied A m.0 in
      let lead : ℕ × ℕ → Bool = λ m. led (longest_train - 1) ms A m.1 in
      let five = all_five (ascends ms) (every (on_floor F) ms) (every hold ms) (entered_once ms) (every lead ms) in (
        λ t.
            let f = five.0 t in
            let up : Ascends ms = (ascends_iff ms).0 f.0 in
            record {
              ascending = up;
              joins = λ m k. (on_floor_iff F m).0 ((every_iff (on_floor F) ms).0 f.1 m k);
              held = λ m k. (occupied_iff A m.0).0 ((every_iff hold ms).0 f.2 m k);
              once = (entered_once_iff ms).0 f.3;
              trains = λ m k. (led-at_most A ms up (longest_train - 1) k).0 ((every_iff lead ms).0 f.4 m k);
            },
        λ s.
            five.1 (
              (ascends_iff ms).1 s.ascending,
              (every_iff (on_floor F) ms).1 (λ m k. (on_floor_iff F m).1 (s.joins m k)),
              (every_iff hold ms).1 (λ m k. (occupied_iff A m.0).1 (s.held m k)),
              (entered_once_iff ms).1 s.once,
              (every_iff lead ms).1 (λ m k. (led-at_most A ms s.ascending (longest_train - 1) k).1 (s.trains m k)),
            ),
      )

  pub legal_true : LegalStep F A ms → legal_step F A ms ≡ true
  legal_true s = is_true (legal_step F A ms) (legal_step_iff.1 s)
    where
      is_true : (b : Bool) → T b → b ≡ true
      is_true true t = refl
      is_true false t = absurd t

  pub legal_move_lem : LegalStep F A ms → {m : ℕ × ℕ} → Memᴰ m ms → m.0 ≢ m.1
  legal_move_lem s {m} k = train-moves A ms s.ascending s.held (s.trains m k).2

pub after_nothing : (A : Arrangement) → after A [] ≡ A
unfolding after goes_to
after_nothing [] = refl
after_nothing (p ∷ A) = ap (λ (l : List ℕ). p ∷ l) (after_nothing A)

pub legal_nothing : (F : Floor) (A : Arrangement) → LegalStep F A [] × (after A [] ≡ A)
legal_nothing F A = (
  record {
    ascending = Pairwise.nil;
    joins = λ m k. absurd (Memᴰ.not-nil k);
    held = λ m k. absurd (Memᴰ.not-nil k);
    once = Pairwise.nil;
    trains = λ m k. absurd (Memᴰ.not-nil k);
  },
  after_nothing A,
)
