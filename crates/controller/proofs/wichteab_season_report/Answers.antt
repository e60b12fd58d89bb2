-- `controller::wichteab_season_report` meets its contract: the verdict's answer, packed, and the five numbers. Assumes nothing.
use mathlib.Core.Path.{ap, sym, ◌∙◌}
use Rattle.answers.specs.Answer.{Answer}
use Rattle.season.specs.Season.{season_answer, answer_of}
use Rattle.packing.specs.Packed.{packed, nothing}
use Rattle.controller.specs.Report.{report_after}
use Rattle.controller.proofs.AnswerSizes.{season_sized}
use Rattle.packing.proofs.PackedLaws.{tells, nothing_packs, uncounted_sized, uncounted-same}
use Rattle.controller.proofs.wichteab_season_report.Goals as goal

pub returns-in-Ok : goal.returns-in-Ok
returns-in-Ok c =
    let is = ap answer_of (sym c.in-Ok.is) ∙ c.report.ensures in
    record {
      tells = tells nothing_packs (uncounted_sized (season_sized c.args.bytes.now))
          (c.put_report.ensures.value ∙ ap (packed nothing) is ∙ uncounted-same (season_answer c.args.bytes.now));
      report_after = c.put_report.ensures.report_after ∙ ap (λ (a : Answer). report_after a c.args.report.now) is;
    }

pub returns-in-Err : goal.returns-in-Err
returns-in-Err c =
    let is = ap answer_of (sym c.in-Err.is) ∙ c.report.ensures in
    record {
      tells = tells nothing_packs (uncounted_sized (season_sized c.args.bytes.now))
          (c.refusal.ensures ∙ ap (packed nothing) is ∙ uncounted-same (season_answer c.args.bytes.now));
      report_after = ap (λ (a : Answer). report_after a c.args.report.now) is;
    }
