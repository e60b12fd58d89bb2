-- `base_ring::ring_from` meets its contract. The invariant: j positions are laid, and zeros stand behind them.
-- Assumes nothing.
use Prim.Native.Nat.{ℕ}
use mathlib.Core.Path.{◌≡◌, ap, ◌∙◌}
use native.Mathlib.Nat.{le_trans, mod-lt}
use native.Mathlib.Omega.{arith}
use Rattle.graph.specs.Rows.{row}
use Rattle.base_ring.proofs.FromLaws.{laid_none, laid_next}
use Rattle.base_ring.proofs.ring_from.Invariants.{Laid, on_ring}
use Rattle.base_ring.proofs.ring_from.Goals as goal

pub loop-j-init : goal.loop-j-init
loop-j-init c = laid_none (row c.args.order.now) c.args.size c.place_of-z.result

pub overflow_add-circle : goal.overflow_add-circle
overflow_add-circle c =
    let small = c.requires.1 in
    let in-ring = on_ring c.args.order.now c.args.size c.args.x c.place_of-z.result c.place_of-z.ensures c.requires in
    let l = c.loop-j-test.true in omega arith

pub nonzero_rem-circle : goal.nonzero_rem-circle
nonzero_rem-circle c = let p = c.requires.0 in omega arith

pub bounds-order-z : goal.bounds-order-z
bounds-order-z c = le_trans (mod-lt _ c.requires.0) c.requires.1

pub bounds-circle-j : goal.bounds-circle-j
bounds-circle-j c =
    let s = c.requires.1 in let l = c.loop-j-test.true in omega arith

pub loop-j-preserved : goal.loop-j-preserved
loop-j-preserved c =
    let small = c.requires.1 in
    let less = c.loop-j-test.true in
    laid_next (row c.args.order.now) c.args.size c.place_of-z.result c.loop-j.j c.loop-j.circle (omega arith) c.loop-j.invariant

pub returns : goal.returns
returns c =
    let all : c.loop-j.j ≡ c.args.size = omega arith in
    c.loop-j.invariant ∙ ap (Laid c.args.order.now c.args.size c.place_of-z.result) all ∙ ap
    (λ (i : ℕ). Laid c.args.order.now c.args.size i c.args.size) c.place_of-z.ensures
