-- `packing::refusal` meets its contract: a number fits 8 bits, so the sum fits. Assumes nothing.
use native.Mathlib.Omega.{arith}
use Rattle.answers.proofs.AnswerLaws.{number_of_le}
use Rattle.packing.proofs.refusal.Goals as goal

pub overflow_add-result : goal.overflow_add-result
overflow_add-result c = omega (arith, number_of_le c.args.refusal.0)
