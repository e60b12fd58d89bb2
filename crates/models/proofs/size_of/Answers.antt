-- `models::size_of` meets its contract. Assumes nothing.
use native.Mathlib.Omega.{arith}
use Rattle.models.proofs.GridLaws.{known_range, size_tabled}
use Rattle.models.proofs.size_of.Goals as goal

pub overflow_sub-result : goal.overflow_sub-result
overflow_sub-result c = let r = known_range c.args.model c.requires in omega arith

pub offset_bounds-model : goal.offset_bounds-model
offset_bounds-model c = let r = known_range c.args.model c.requires in omega arith

pub bounds-model-model : goal.bounds-model-model
bounds-model-model c = let r = known_range c.args.model c.requires in omega arith

pub returns : goal.returns
returns c = size_tabled c.args.model c.requires
