-- `season_main::main` ends and is safe: what is written lies in the array. Assumes nothing.
use Rattle.std.proofs.Common.{sym, zero-le, length-take-le}
use Rattle.field.proofs.WritingLaws.{wrote_within}
use Rattle.season_main.proofs.main.Goals as goal

pub slice_bounds-out-end : goal.slice_bounds-out-end
slice_bounds-out-end c = wrote_within zero-le c.season_program-printed.ensures

pub slice_bounds-write_all-end : goal.slice_bounds-write_all-end
slice_bounds-write_all-end c = sym (length-take-le _ _ (wrote_within zero-le c.season_program-printed.ensures))
