-- Laws of what specs/Ending.antt defines.
--
--     Left fault next x j h ys   of what x replays, the first j had no fault and left the table h: the replay of the others, ys, decides
--     left_stops, left_goes, left_none          how a loop stops at the next, goes on past it, and ends
--     judge_stopped, judge_misplaced, judge_settled    the judgement on an order's tables, by how the loop ended and by the lowest
--                                misplaced rack
-- Assumes nothing.
use Prim.Native.Nat.{ℕ, suc, ◌+◌}
use mathlib.Core.Path.{◌≡◌, ap, ◌∙◌}
use mathlib.Core.List.{List, [], ◌∷◌}
use native.Mathlib.Omega.{arith}
use native.Mathlib.Numerals.{add-one}
use borrow.Author.Tests.{eq-eqb, ne_eqb}
use Rattle.answers.specs.Answer.{Answer, accepted, refused, refused_by, number_of}
use Rattle.answers.specs.declared.Fault.{Fault}
use Rattle.answers.proofs.AnswerLaws.{number_of-some, some_found, none_found}
use Rattle.motion.specs.Replay.{Replayed, ended, stopped, replay_from}
use Rattle.std.specs.Prelude.{Some, None}
use Rattle.tables.specs.Tables.{MisplacedOn, judged_on}

module _ {X : Type 0} (fault : List ℕ → X → ℕ) (next : List ℕ → X → List ℕ) (x : Replayed) where
  unfoldable pub Left : ℕ → List ℕ → List X → Type 0
  Left j h ys = replay_from fault next (suc j) h ys ≡ x

  module _ (j : ℕ) (h : List ℕ) (y : X) (ys : List X) (left : Left j h (y ∷ ys)) where
    pub left_stops : (f : Fault) → number_of f ≡ fault h y → stopped (number_of f) (j + 1) ≡ x
    unfolding Left replay_from
    left_stops f is =
        let some : fault h y ≡ 0 → ⊥ = λ e. omega (arith, number_of-some f, is ∙ e) in
        rw (is, add-one j) (rw (ne_eqb (fault h y) 0 some) at left)

    pub left_goes : fault h y ≡ 0 → Left (j + 1) (next h y) ys
    unfolding Left replay_from
    left_goes e = rw (add-one j) (rw (eq-eqb (fault h y) 0 e) at left)

  pub left_none : (j : ℕ) (h : List ℕ) → Left j h [] → ended h ≡ x
  unfolding Left replay_from
  left_none j h left = left

-- x is how the replay ended, and h the table after it; f is the fault of a rack that is not at its goal in G
module _ (f : Fault) (G counts : List ℕ) (m : ℕ) (x : Replayed) where
  abbrev answer : Answer
  answer = judged_on (number_of f) G counts x

  pub judge_stopped : (n place : ℕ) → stopped n place ≡ x → refused n place ≡ answer
  unfolding judged_on
  judge_stopped n place is = ap (judged_on (number_of f) G counts) is

  module _ {h : List ℕ} (is : ended h ≡ x) where
    judged_end : judged_on (number_of f) G counts (ended h) ≡ answer
    judged_end = ap (judged_on (number_of f) G counts) is

    pub judge_misplaced : (q : ℕ) → MisplacedOn h G m (Some q) → refused_by f q ≡ answer
    unfolding judged_on
    judge_misplaced q lowest =
        let it = some_found q _ lowest.is in
        rw (← it.0, ne_eqb q 0 (λ z. omega (arith, it.0, it.1))) at judged_end

    pub judge_settled : MisplacedOn h G m None → accepted counts ≡ answer
    unfolding judged_on
    judge_settled lowest = rw (none_found _ lowest.is) at judged_end
