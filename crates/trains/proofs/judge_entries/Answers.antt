-- `trains::judge_entries` meets its contract: the two passes, one after the other. Assumes nothing.
use mathlib.Core.Path.{sym, ◌∙◌}
use Rattle.chains.specs.StepOn.{moves_of}
use Rattle.chains.proofs.Moves.{moves-length, moves_below}
use Rattle.trains.proofs.Running.{sound_targets, sound_taking, sound_few, not_sound, sound}
use Rattle.trains.proofs.judge_entries.Goals as goal

pub returns-then-not-note_moves : goal.returns-then-not-note_moves
returns-then-not-note_moves c =
    let ms = moves_of c.args.step.now in
    not_sound c.args.matrix.now c.args.racks.now ms (sym c.note_moves.ensures.sound ∙ c.if-not-note_moves.true)

pub all_led-requires : goal.all_led-requires
all_led-requires c =
    let ms = moves_of c.args.step.now in
    let yes = c.if-not-note_moves.false in
    let is = sym c.note_moves.ensures.sound ∙ yes in
    let targets = sound_targets c.args.matrix.now c.args.racks.now ms c.note_moves.new.target (moves_below _) is
    (c.note_moves.ensures.all yes) in
    record {
      few = rw (← moves-length c.args.step.now) (sound_few c.args.matrix.now c.args.racks.now ms (moves_below _) is);
      targets = targets;
      each = sound_taking c.args.matrix.now c.args.racks.now ms c.note_moves.new.target is targets;
    }

pub returns : goal.returns
returns c =
    let ms = moves_of c.args.step.now in
    sound c.args.matrix.now c.args.racks.now ms _ (sym c.note_moves.ensures.sound ∙ c.if-not-note_moves.false)
    c.all_led.ensures
