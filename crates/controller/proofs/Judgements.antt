-- What a reader's result is packed into, for the functions that turn a whole result into one number.
--
--     count_room       a counted result has room for its count, where its answer is sized
--     uncounted_number   a result without counts has the number of its answer, since nothing is packed of the counts
-- Assumes nothing.
use Prim.Native.Nat.{ℕ, ◌^◌, ◌<◌}
use mathlib.Core.Path.{◌≡◌, refl}
use mathlib.Core.List.{List, []}
use Rattle.std.specs.Prelude.{Result, Ok, Err, IfOk}
use Rattle.answers.specs.Answer.{Answer, answer_by, the_count}
use Rattle.answers.specs.declared.Refusal.{Refusal}
use Rattle.packing.specs.Packed.{packed, nothing, one_count}
use Rattle.packing.proofs.Sized.{Sized}
use Rattle.packing.proofs.PackedLaws.{Packs, room_of}

pub count_room : {values : ℕ → List ℕ} {Fits : List ℕ → Type 0} → Packs one_count values Fits → {a : Answer} → Sized Fits a
    → (r : Result ℕ Refusal) → answer_by the_count r ≡ a → IfOk r (λ n. n < 2 ^ 56)
count_room packs sized (Ok n) e = room_of packs sized e
count_room packs sized (Err x) e = tt

pub uncounted_number : {X : Type 0} (values : X → List ℕ) (r : Result X Refusal)
    → packed nothing (answer_by (λ (x : X). []) r) ≡ packed nothing (answer_by values r)
uncounted_number values (Ok x) = refl
uncounted_number values (Err x) = refl
