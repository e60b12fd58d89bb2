-- `season_program::put_quotient` meets its contract: one of the two forms. Assumes nothing.
use Prim.Native.Nat.{ℕ}
use mathlib.Core.Path.{ap, sym, ◌∙◌}
use mathlib.Core.List.{List}
use Rattle.field.proofs.WritingLaws.{fits_as, wrote_as}
use Rattle.season.specs.Season.{told_by}
use Rattle.std.specs.Prelude.{Option}
use Rattle.season_program.specs.Printed.{quotient_text}
use Rattle.season_program.proofs.PrintedLaws.{none_text, number_text}
use Rattle.season_program.proofs.put_quotient.Goals as goal

abbrev told : Option ℕ → List ℕ
told p = quotient_text (told_by p)

pub put_bytes-requires : goal.put_bytes-requires
put_bytes-requires c =
    fits_as (none_text ∙ ap told (sym c.in-None.is)) c.requires

pub put_decimal-requires : goal.put_decimal-requires
put_decimal-requires c =
    fits_as (number_text _ ∙ ap told (sym c.in-Some.is)) c.requires

pub returns-in-None : goal.returns-in-None
returns-in-None c =
    wrote_as (none_text ∙ ap told (sym c.in-None.is)) c.put_bytes.ensures

pub returns-in-Some : goal.returns-in-Some
returns-in-Some c =
    wrote_as (number_text _ ∙ ap told (sym c.in-Some.is)) c.put_decimal.ensures
