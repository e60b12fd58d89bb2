-- `controller::wichteab_one_vacancy` meets its contract: the verdict's answer, packed. A judgement is read as a plan's moves are. Assumes
-- nothing.
use mathlib.Core.Path.{ap, sym, ◌∙◌}
use Rattle.answers.specs.Answer.{accepted}
use Rattle.parity.specs.Verdict.{told, answer_of}
use Rattle.parity.specs.declared.Hope.{Hope}
use Rattle.packing.specs.Packed.{packed, one_count}
use Rattle.controller.proofs.AnswerSizes.{vacancy_sized}
use Rattle.packing.proofs.PackedLaws.{tells, plan-moves-pack}
use Rattle.controller.proofs.wichteab_one_vacancy.Goals as goal

pub returns-in-Ok-Impossible : goal.returns-in-Ok-Impossible
returns-in-Ok-Impossible c =
    tells plan-moves-pack (vacancy_sized _)
    (ap (packed one_count) (ap (λ (h : Hope). accepted (told h)) (sym c.in-Ok-Impossible.field-0-is)
    ∙ ap answer_of (sym c.in-Ok-Impossible.is) ∙ c.one_vacancy.ensures))

pub returns-in-Ok-NotJudged : goal.returns-in-Ok-NotJudged
returns-in-Ok-NotJudged c =
    tells plan-moves-pack (vacancy_sized _)
    (ap (packed one_count) (ap (λ (h : Hope). accepted (told h)) (sym c.in-Ok-NotJudged.field-0-is)
    ∙ ap answer_of (sym c.in-Ok-NotJudged.is) ∙ c.one_vacancy.ensures))

pub returns-in-Err : goal.returns-in-Err
returns-in-Err c =
    tells plan-moves-pack (vacancy_sized _)
    (c.refusal.ensures ∙ ap (packed one_count) (ap answer_of (sym c.in-Err.is) ∙ c.one_vacancy.ensures))
