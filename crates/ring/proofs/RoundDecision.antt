-- Whether racks stand in the same order round a circle, decided rack by rack. Nothing here is part of a promise: a decision is believed by
-- its type.
--
--     rack?, in_turn?      a number is a rack's or not, three places come in turn or not
--     same_order?          the racks stand in the same order or not
-- Assumes nothing.
use Prim.Native.Nat.{ℕ, ◌+◌, ◌<◌}
use native.Mathlib.Decide.{dec_le, dec_lt}
use native.Mathlib.Omega.{arith}
use Rattle.ring.specs.Order.{InTurn, Rack, SameOrder}
use Rattle.graph.proofs.WayDecision.{alike?, either?, both?, implies?, every?}

unfoldable pub rack? : (m r : ℕ) → Dec (Rack m r)
unfolding dec_le dec_lt alike? both?
rack? m r = alike? (λ h. record { some = h.0; most = h.1 }) (λ k. (k.some, k.most)) (both? (dec_lt 0 r) (dec_le r m))

unfoldable pub in_turn? : (i j k : ℕ) → Dec (InTurn i j k)
unfolding dec_lt either? both?
in_turn? i j k =
    either? (both? (dec_lt i j) (dec_lt j k)) (either? (both? (dec_lt j k) (dec_lt k i)) (both? (dec_lt k i) (dec_lt i j)))

unfoldable pub same_order? : (m : ℕ) (p g : ℕ → ℕ) → Dec (SameOrder m p g)
unfolding alike? implies? every? rack? in_turn?
same_order? m p g =
    alike?
    (λ h r q s kr kq ks. h r (below kr) q (below kq) s (below ks) kr kq ks)
    (λ h r lr q lq s ls kr kq ks. h r q s kr kq ks)
    (every? (m + 1) (λ r. every? (m + 1) (λ q. every? (m + 1) (λ s.
    implies? (rack? m r) (λ kr. implies? (rack? m q) (λ kq. implies? (rack? m s) (λ ks.
    implies? (in_turn? (p r) (p q) (p s)) (λ t. in_turn? (g r) (g q) (g s)))))))))
  where
    below : {r : ℕ} → Rack m r → r < m + 1
    below k = let l = k.most in omega arith
