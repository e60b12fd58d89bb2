-- `live::enter` meets its contract. Assumes nothing.
use mathlib.Core.Path.{◌≡◌, ap, ◌∙◌}
use mathlib.Core.Bool.{Bool, ◌&&◌, not}
use lib.Dec.{leb, eqb}
use borrow.Author.Rules.{rules}
use Rattle.live.specs.Picture.{is_open}
use Rattle.live.specs.Roles.{role_number}
use Rattle.live.specs.Admitting.{gate_answer}
use Rattle.live.proofs.enter.Goals.{then-ge, else-ge}
use Rattle.live.proofs.enter.Goals as goal

pub returns : goal.returns
unfolding is_open
returns c =
    let may : c.ge.result ≡ leb (role_number c.args.lowest) (role_number c.args.role) = search rules in
    let both : c.if-ge.admit ≡ (leb (role_number c.args.lowest) (role_number c.args.role) && not (eqb c.args.floor.now.positions 0)) =
    elim c.if-ge.branch [
      | then-ge w ↦ rw (← may, w.if-ge.true) w.admit-is
      | else-ge w ↦ rw (← may, w.if-ge.false) (w.admit-is ∙
          w.if-ge.false)
    ] in
    c.admit.ensures ∙ ap (λ (b : Bool). gate_answer b c.args.order.now c.args.timetable.now) both
