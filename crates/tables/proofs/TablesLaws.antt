-- Laws of what specs/Tables.antt defines.
--
--     Holds A h                the table h says where the racks of the arrangement A stand
-- Assumes nothing.
use Prim.Native.Nat.{ℕ, suc, ◌<◌}
use mathlib.Core.Path.{◌≡◌}
use mathlib.Core.List.{List}
use lib.ListN.{length, get_or}
use lib.Dec.{T}
use Rattle.motion.specs.Arrangement.{Arrangement, vacant}

-- racks are numbered from 1, so rack i + 1 is the one of index i
pub record Holds (A : Arrangement) (h : List ℕ) : Type 0 where
  pub size : length h ≡ 64
  pub racks : (i : ℕ) → i < length A → get_or h (get_or A i 0) 0 ≡ suc i
  pub others : (p : ℕ) → T (vacant A p) → get_or h p 0 ≡ 0
