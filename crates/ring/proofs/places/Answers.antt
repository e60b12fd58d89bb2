-- `ring::places` meets its contract. The invariant: the racks at the places passed have these. Assumes nothing.
use Prim.Native.Nat.{ℕ, ◌<◌}
use mathlib.Core.Path.{◌≡◌, refl, sym, subst, ◌∙◌}
use native.Mathlib.Omega.{arith}
use lib.ListN.{length, length-set, replicate, take}
use Rattle.std.proofs.lemmas.List.{get_or-take, length-take-le}
use Rattle.graph.specs.Rows.{row}
use Rattle.ring.proofs.StandingLaws.{below_set, none_at, placing_none, placing_next}
use Rattle.ring.proofs.places.Goals as goal

pub loop-i-init : goal.loop-i-init
loop-i-init c = (
  refl,
  (λ q. subst (λ (x : ℕ). x < c.args.n) (sym (none_at 64 q)) c.requires.some),
  placing_none (row c.args.circle.now) (row c.args.racks.now) (row (replicate 64 0)),
)

pub loop-i-preserved : goal.loop-i-preserved
loop-i-preserved c =
    let few = c.requires.few in
    let long : length (take c.args.n c.args.circle.now) ≡ c.args.n = length-take-le c.args.n c.args.circle.now (omega arith) in
    let on : c.loop-i.i < c.args.n = omega arith in
    let r = row c.args.racks.now (row c.args.circle.now c.loop-i.i) in
    rw (get_or-take c.args.n c.args.circle.now c.loop-i.i 0 on) (
      length-set c.loop-i.place r c.loop-i.i ∙ c.loop-i.invariant.0,
      below_set c.args.n c.loop-i.place r c.loop-i.i on c.loop-i.invariant.1,
      placing_next c.args.n (row c.args.circle.now) (row c.args.racks.now) c.loop-i.place c.loop-i.i c.loop-i.invariant.0
          c.requires on c.loop-i.invariant.2,
    )
