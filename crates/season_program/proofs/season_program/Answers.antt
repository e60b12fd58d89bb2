-- `season_program::season_program` meets its contract: the report on the input, or the line of its refusal. Assumes nothing.
use Prim.Native.Nat.{◌^◌, ◌<◌}
use mathlib.Core.Path.{ap, sym, ◌∙◌}
use mathlib.Core.List.{List}
use lib.ListN.{get_or}
use mir.Val.{Val}
use denote.Builtin.{u64}
use denote.Laws.{Is}
use denote.Enum.Declared.{row}
use native.Mathlib.Omega.{arith}
use Rattle.std.specs.Prelude.{ℕ, Option, None, Some}
use Rattle.std.specs.contracts.option.Option.{the_type}
use Rattle.field.proofs.WritingLaws.{wrote_as}
use Rattle.writers.proofs.LineLaws.{refusal_fits}
use Rattle.season.specs.Season.{told_by, answer_of}
use Rattle.season_program.proofs.PrintedLaws.{report_text_lem, refusal_text, report_fits}
use Rattle.season_program.proofs.season_program.Goals as goal

-- a number that an `Option` holds fits its 64 bits
small : (p : Option ℕ) (vs : List Val) → Is (row (the_type u64)) p vs → get_or (told_by p) 0 0 < 2 ^ 64
small None vs is = omega arith
small (Some n) vs is = is.1.1.1.1.0.1

pub put_report-requires : goal.put_report-requires
put_report-requires c =
    let t = c.in-Ok.report.totals in
    report_fits _ (omega arith) t.accepted t.refused t.steps t.moves (told_by c.in-Ok.report.parallelism) (omega arith) (omega arith)
    (omega arith) (omega arith) (let inv = rw c.in-Ok.is at c.report.type_inv in small c.in-Ok.report.parallelism _ inv.1.1.1.1.0.1.1.1.0)

pub put_refusal-requires : goal.put_refusal-requires
put_refusal-requires c = refusal_fits _ _ (omega arith) (omega arith) _ (omega arith)

pub returns-in-Ok : goal.returns-in-Ok
returns-in-Ok c =
    let is = ap answer_of (sym c.in-Ok.is) ∙ c.report.ensures in
    wrote_as (report_text_lem c.args.input.now c.in-Ok.report is) c.put_report.ensures

pub returns-in-Err : goal.returns-in-Err
returns-in-Err c =
    let is = ap answer_of (sym c.in-Err.is) ∙ c.report.ensures in
    wrote_as (refusal_text c.args.input.now _ _ is) (rw c.number.ensures at c.put_refusal.ensures)
