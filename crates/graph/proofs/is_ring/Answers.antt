-- `graph::is_ring` meets its contract.
-- Assumes nothing.
use native.Mathlib.Omega.{arith}
use Rattle.graph.proofs.Decision.{says_no, says_same}
use Rattle.graph.proofs.is_ring.Goals as goal

pub returns-then-e-n : goal.returns-then-e-n
returns-then-e-n c = says_no (λ r. let e = r.count in omega arith)

pub returns : goal.returns
returns c = says_same (λ b. record { bi_connected = b; count = omega arith }) (λ r. r.bi_connected) c.is_biconnected.ensures
