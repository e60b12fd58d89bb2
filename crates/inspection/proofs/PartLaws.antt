-- The bytes of a part, one at a time.
--
--     byte_there, byte_none    the byte that is shown within the part, and from its end on
-- Assumes nothing.
use Prim.Native.Nat.{ℕ, ◌≤◌, ◌<◌}
use mathlib.Core.Path.{◌≡◌, refl}
use mathlib.Core.List.{List}
use borrow.Author.Tests.{lt-ltb, le-ltb}
use lib.ListN.{length, get_or}
use Rattle.inspection.specs.Inspection.{shown_byte}

module _ (part given : List ℕ) (same : part ≡ given) (i : ℕ) where
  pub byte_there : i < length part → get_or part i 0 ≡ shown_byte given i
  unfolding shown_byte
  byte_there h = rw (← same, lt-ltb i (length part) h) refl

  pub byte_none : length part ≤ i → 256 ≡ shown_byte given i
  unfolding shown_byte
  byte_none h = rw (← same, le-ltb i (length part) h) refl
