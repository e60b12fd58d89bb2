-- A call on the live floor with a role's number: `live` answers for the role that the number names, and its answer is told as one number.
--
--     call-told       the number tells the call's answer
--     floor_called    that, and the picture afterwards
-- Assumes nothing.
use Prim.Native.Nat.{ℕ}
use mathlib.Core.Path.{◌≡◌, ap, ◌∙◌, subst}
use mathlib.Core.List.{List}
use Rattle.answers.specs.Answer.{Answer}
use Rattle.live.specs.Picture.{Picture}
use Rattle.live.specs.Roles.{Kind}
use Rattle.live.specs.Calls.{call_answer, picture_after}
use Rattle.live.specs.declared.Role.{Role}
use Rattle.packing.specs.Packed.{one_count}
use Rattle.packing.specs.Unpacked.{floor_steps_of, Tells}

module _ (k : Kind) (P : Picture) (o t : List ℕ) {r role : Role} (is : r ≡ role) {a : Answer} {n : ℕ} where
  pub call-told : a ≡ call_answer k r P o t → Tells one_count floor_steps_of a n → Tells one_count floor_steps_of
      (call_answer k role P o t) n
  call-told answered told =
      subst (λ (x : Answer). Tells one_count floor_steps_of x n) (answered ∙ ap (λ (x : Role). call_answer k x P o t) is) told

  pub floor_called : {Q : Picture} → (a ≡ call_answer k r P o t) × (Q ≡ picture_after k r P o t) → Tells one_count floor_steps_of a n
      → Tells one_count floor_steps_of (call_answer k role P o t) n × (Q ≡ picture_after k role P o t)
  floor_called made told =
      (call-told made.0 told, made.1 ∙ ap (λ (x : Role). picture_after k x P o t) is)
