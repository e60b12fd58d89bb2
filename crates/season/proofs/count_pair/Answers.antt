-- `season::count_pair` meets its contract: the checker's verdict is counted, and the sums stay small. Assumes nothing.
use mathlib.Core.Path.{ap, sym, ◌∙◌}
use borrow.Author.Rules.{rules}
use Rattle.timetable.specs.Checking.{answer_of_check}
use Rattle.timetable_check.proofs.SizeLaws.{checked_small}
use Rattle.season.proofs.SeasonLaws.{count_accepted, count_refused, within_accepted, within_refused}
use Rattle.season.proofs.count_pair.Goals as goal

pub overflow_add-result : goal.overflow_add-result
overflow_add-result c = let w = c.requires.within.pairs in search rules

pub overflow_add-result-in-Ok : goal.overflow_add-result-in-Ok
overflow_add-result-in-Ok c =
    let few = checked_small _ (λ i. (c.type_inv.timetable i).fits) _ _ _ (ap answer_of_check (sym c.in-Ok.is) ∙ c.check.ensures) in
    let w = c.requires.within.steps in
    search rules

pub overflow_add-result-in-Ok-2 : goal.overflow_add-result-in-Ok-2
overflow_add-result-in-Ok-2 c =
    let few = checked_small _ (λ i. (c.type_inv.timetable i).fits) _ _ _ (ap answer_of_check (sym c.in-Ok.is) ∙ c.check.ensures) in
    let w = c.requires.within.moves in
    search rules

pub returns-in-Ok : goal.returns-in-Ok
returns-in-Ok c =
    let few = checked_small _ (λ i. (c.type_inv.timetable i).fits) _ _ _ (ap answer_of_check (sym c.in-Ok.is) ∙ c.check.ensures) in
    record {
      value = count_accepted c.args.totals (ap answer_of_check (sym c.in-Ok.is) ∙ c.check.ensures);
      within_2 = within_accepted c.args.pairs c.args.totals c.requires.within _ _ few.0 few.1;
    }

pub returns-in-Err : goal.returns-in-Err
returns-in-Err c =
    let is = ap answer_of_check (sym c.in-Err.is) ∙ c.check.ensures in
    record {
      value = count_refused c.args.totals is;
      within_2 = within_refused c.args.pairs c.args.totals c.requires.within;
    }
