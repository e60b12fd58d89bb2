-- Sound arrangements, from document 01, "The floor": "A position holds at most one rack." In the field's terms an arrangement is
-- sound if it is a uniquely invertible function from agents to vertices. Legal moves keep arrangements sound.
--
--     Sound n A          the racks of A stand at different positions below n
-- Assumes nothing.
use Rattle.std.specs.Prelude.{ℕ, ◌<◌, ◌≡◌, length, get_or}
use Rattle.motion.specs.Arrangement.{Arrangement}

pub record Sound (n : ℕ) (A : Arrangement) : Type 0 where
  pub below : (i : ℕ) → i < length A → get_or A i 0 < n
  pub apart : (i j : ℕ) → i < length A → j < length A → get_or A i 0 ≡ get_or A j 0 → i ≡ j
