-- `order_program::order_program` meets its contract: what the expansion answers and leaves is what is printed. Assumes nothing.
use native.Mathlib.Omega.{arith}
use Rattle.writers.proofs.LineLaws.{refusal_fits}
use Rattle.order_program.proofs.PrintedLaws.{order_text_lem, refusal_text}
use Rattle.order_program.proofs.order_program.Goals as goal

pub put_refusal-requires : goal.put_refusal-requires
put_refusal-requires c = refusal_fits _ _ (omega arith) (omega arith) _ (omega arith)

pub returns-in-Ok : goal.returns-in-Ok
returns-in-Ok c =
    order_text_lem c.args.input.now c.args.out.now (omega arith) c.in-Ok.length c.expand.new.buffer c.in-Ok.ensures.answer
    c.in-Ok.ensures.buffer

pub returns-in-Err : goal.returns-in-Err
returns-in-Err c =
    refusal_text c.args.input.now c.args.out.now (omega arith) _ _ c.put_refusal.result c.expand.new.buffer c.put_refusal.new.out
    c.in-Err.ensures.answer c.in-Err.ensures.buffer (rw c.number.ensures at c.put_refusal.ensures)
