-- `window::note` meets its contract. Assumes nothing.
use Rattle.window.proofs.Passing.{note_early, note_in, note_late}
use Rattle.window.proofs.Leaving.{left-set}
use mathlib.Core.Path.{refl}
use native.Mathlib.Omega.{arith}
use Rattle.window.proofs.note.Goals as goal

pub returns-then-t-first : goal.returns-then-t-first
returns-then-t-first c = record {
  window_after = note_early _ _ _ _ _ c.if-t-first.true;
  keeps_left = λ left. left;
}

pub returns-then-row-lt4096 : goal.returns-then-row-lt4096
returns-then-row-lt4096 c = record {
  window_after = note_in _ _ _ _ _ _ refl c.if-t-first.false c.if-row-lt4096.true;
  keeps_left = λ left. left-set _ _ _ _ _ _ left c.if-row-lt4096.true (omega arith) (λ e. omega arith) c.with.ensures;
}

pub returns-else-row-lt4096 : goal.returns-else-row-lt4096
returns-else-row-lt4096 c = record {
  window_after = note_late _ _ _ _ _ _ refl c.if-t-first.false c.if-row-lt4096.false;
  keeps_left = λ left. left;
}
