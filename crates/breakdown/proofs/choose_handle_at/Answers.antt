-- `breakdown::choose_handle_at` meets its contract. The invariant: of the pairs that begin at u, those that go on to none of `rest` are
-- done, and to `rest` edges leave the settled positions from u.
-- Assumes nothing.
use mathlib.Core.Bool.{true, false, false≢true}
use mathlib.Core.Path.{◌≡◌, sym, ◌∙◌}
use borrow.Author.Tests.{tests}
use Rattle.std.proofs.Common.{rules, Option, Some, None, MatchOption}
use native.Mathlib.Omega.{arith}
use Rattle.breakdown.proofs.ChoiceLaws.{handle_skipped, handle_entered, handle_stopped}
use Rattle.breakdown.proofs.ChoiceLaws.{handle_no_way, handle_one_way, handle_left, rest_less}
use Rattle.breakdown.proofs.choose_handle_at.Goals as goal
use Rattle.breakdown.proofs.choose_handle_at.Goals.{in-Some, in_default}

-- what `is_some_and` is true of
some_is : {A : Type 0} (P Q : A → Type 0) (o : Option A) → MatchOption o (true ≡ false) Q → ((x : A) → Q x → P x) → MatchOption o ⊥ P
some_is P Q None e f = absurd (false≢true (sym e))
some_is P Q (Some x) q f = f x q

pub returns-then-not-has : goal.returns-then-not-has
returns-then-not-has c =
    handle_skipped c.args.n c.args.rows.now c.args.settled c.args.u c.args.best
    (λ h. false≢true (sym c.if-not-has.true ∙ c.has.ensures.1 h)) c.requires.handle_choice

pub loop-rest-init : goal.loop-rest-init
loop-rest-init c =
    let on = c.has.ensures.0 c.if-not-has.false in (
      handle_entered c.args.n c.args.rows.now c.args.settled c.args.u c.minus-rest.result c.args.best c.minus-rest.ensures
          c.requires.handle_choice,
      λ y h. record { edge = ((c.minus-rest.ensures y).0 h).0; settled = on; new = ((c.minus-rest.ensures y).0 h).1 },
    )

pub returns-then-is_some_and : goal.returns-then-is_some_and
returns-then-is_some_and c =
    handle_stopped c.args.n c.args.rows.now c.args.settled _ _ c.loop-rest.best
    (some_is (λ p. p.size ≡ 2) _ c.loop-rest.best c.if-is_some_and.ensures (λ p k. search (rules, tests))) c.loop-rest.invariant.0

pub loop-rest-smaller : goal.loop-rest-smaller
loop-rest-smaller c =
    rest_less _ _ _ c.lowest-w.ensures.has c.without-rest.ensures

pub loop-rest-preserved : goal.loop-rest-preserved
loop-rest-preserved c =
    let leaves = c.loop-rest.invariant.1 c.lowest-w.result c.lowest-w.ensures.has in (
      elim c.match-way_round.branch [
        | in-Some w ↦ rw w.best-is (handle_one_way c.args.n c.args.rows.now c.args.settled c.args.u c.lowest-w.result c.loop-rest.rest
            c.without-rest.result c.loop-rest.best c.without-rest.ensures leaves w.in-Some.way w.better.result w.in-Some.ensures
            w.better.ensures c.loop-rest.invariant.0)
        | in_default w ↦ rw w.best-is (handle_no_way c.args.n c.args.rows.now c.args.settled c.args.u c.lowest-w.result c.loop-rest.rest
            c.without-rest.result c.loop-rest.best c.without-rest.ensures leaves w.in_default.ensures c.loop-rest.invariant.0)
      ],
      λ y h. c.loop-rest.invariant.1 y ((c.without-rest.ensures y).0 h).0,
    )

pub returns : goal.returns
returns c =
    handle_left c.args.n c.args.rows.now c.args.settled c.args.u c.loop-rest.rest c.loop-rest.best (omega arith) c.loop-rest.invariant.0
