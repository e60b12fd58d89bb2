-- `breakdown::place_of` meets its contract.
-- Assumes nothing.
use Prim.Native.Nat.{◌-◌}
use mathlib.Core.Path.{◌≡◌}
use mathlib.Core.Logic.{◌≢◌}
use borrow.Author.Tests.{tests}
use lib.ListN.{take, drop}
use Rattle.std.proofs.Common.{rules, Some, None}
use Rattle.std.proofs.lemmas.Iterator.{IsFirst-from_position, YieldsList-from_slice}
use Rattle.breakdown.proofs.PlaceLaws.{place_found}
use Rattle.breakdown.proofs.place_of.Goals as goal

pub returns-in-Some : goal.returns-in-Some
returns-in-Some c =
    place_found c.args.order.now c.args.s c.args.e c.args.p (Some c.in-Some.i) c.requires.0 (rw c.told-order c.requires.1)
    (IsFirst-from_position _ _ _ (λ q. q ≡ c.args.p) (λ q. q ≢ c.args.p) c.in-Some.ensures.ran
    (YieldsList-from_slice (take (c.args.e - c.args.s) (drop c.args.s c.args.order.now)) c.iter.ensures.rest)
    (λ q f k. search (rules, tests)) (λ q f k. search (rules, tests)))

pub returns-in-None : goal.returns-in-None
returns-in-None c =
    place_found c.args.order.now c.args.s c.args.e c.args.p None c.requires.0 (rw c.told-order c.requires.1)
    (IsFirst-from_position _ _ _ (λ q. q ≡ c.args.p) (λ q. q ≢ c.args.p) c.in-None.ensures.ran
    (YieldsList-from_slice (take (c.args.e - c.args.s) (drop c.args.s c.args.order.now)) c.iter.ensures.rest)
    (λ q f k. search (rules, tests)) (λ q f k. search (rules, tests)))
