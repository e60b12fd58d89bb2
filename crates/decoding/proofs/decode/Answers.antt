-- `decoding::decode` meets its contract: behind a refusal the tables are empty. Assumes nothing.
use mathlib.Core.Path.{sym, ◌∙◌}
use Rattle.answers.proofs.AnswerLaws.{refused_there}
use Rattle.order.specs.Verdict.{told}
use Rattle.order.proofs.Layers.{no_rows, no_starts, no_goals}
use Rattle.decoding.proofs.decode.Goals as goal

pub returns-then-is_err-clause-rows_after : goal.returns-then-is_err-clause-rows_after
returns-then-is_err-clause-rows_after c =
    let down = refused_there told c.decode_racks-judged.result (sym c.is_err.ensures.value ∙ c.if-is_err.true)
    c.decode_racks-judged.ensures.result_value in
    no_rows _ _ _ down.2

pub returns-then-is_err-clause-starts_after : goal.returns-then-is_err-clause-starts_after
returns-then-is_err-clause-starts_after c =
    let down = refused_there told c.decode_racks-judged.result (sym c.is_err.ensures.value ∙ c.if-is_err.true)
    c.decode_racks-judged.ensures.result_value in
    no_starts _ _ _ down.2

pub returns-then-is_err-clause-goals_after : goal.returns-then-is_err-clause-goals_after
returns-then-is_err-clause-goals_after c =
    let down = refused_there told c.decode_racks-judged.result (sym c.is_err.ensures.value ∙ c.if-is_err.true)
    c.decode_racks-judged.ensures.result_value in
    no_goals _ _ _ down.2
