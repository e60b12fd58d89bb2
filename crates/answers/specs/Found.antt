-- A number that is 0 where there is nothing, as code gives it.
--
--     found n     nothing where n is 0, else n
-- Assumes nothing.
use Rattle.std.specs.Prelude.{ℕ, zero, suc, Option, None, Some}

abbrev pub found : ℕ → Option ℕ
found zero = None
found (suc n) = Some (suc n)
