-- `models::expand` meets its contract. Assumes nothing.
use mathlib.Core.Path.{refl, sym}
use lib.ListN.{length}
use Rattle.models.proofs.ExpansionLaws.{accepted_expand, buffer-kept, buffer-written}
use Rattle.models.proofs.expand.Goals as goal

pub returns-in_err-length-clause-buffer : goal.returns-in_err-length-clause-buffer
returns-in_err-length-clause-buffer c = buffer-kept c.args.short.now c.args.buffer.now _ c.in_err-length.ensures _ _ refl

pub write_out-requires : goal.write_out-requires
write_out-requires c =
    let sound = accepted_expand c.args.short.now (length c.args.buffer.now) _ (sym c.in_ok-length.ensures) in
    record {
      short_value = (sound.right, sound.known);
      short_in_bounds = sound.enough;
    }

pub returns : goal.returns
returns c =
    record {
      answer = c.in_ok-length.ensures;
      buffer = buffer-written c.args.short.now c.args.buffer.now _ c.in_ok-length.ensures _ c.write_out.new.order refl c.write_out.ensures;
    }
