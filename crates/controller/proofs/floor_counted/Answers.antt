-- `controller::floor_counted` meets its contract: the result's answer, packed; its count and its place have 32 bits. Assumes nothing.
use mathlib.Core.Path.{sym, ap, ◌∙◌, subst}
use native.Mathlib.Omega.{arith}
use Rattle.answers.proofs.AnswerLaws.{number_of-some, number_of_le}
use Rattle.live.specs.Calls.{answer_of}
use Rattle.packing.specs.Packed.{packed, one_count}
use Rattle.packing.proofs.Sized.{Sized, accepts, refuses, WordCount, word_count}
use Rattle.packing.proofs.PackedLaws.{tells, floor_steps_pack}
use Rattle.controller.proofs.floor_counted.Goals as goal

pub returns-in-Ok : goal.returns-in-Ok
returns-in-Ok c =
    let is = sym (ap answer_of c.in-Ok.is) in
    tells floor_steps_pack (subst (Sized WordCount) is (accepts (word_count (omega arith))))
    (c.one_count.ensures ∙ ap (packed one_count) is)

pub returns-in-Err : goal.returns-in-Err
returns-in-Err c =
    let is = sym (ap answer_of c.in-Err.is) in
    tells floor_steps_pack
    (subst (Sized WordCount) is (refuses (omega (arith, number_of-some c.in-Err.refusal.0))
    (omega (arith, number_of_le c.in-Err.refusal.0)) (omega arith)))
    (c.refusal.ensures ∙ ap (packed one_count) is)
