-- `shunting::clear` meets its contract. `found` has what the search answered. Assumes nothing.
use Prim.Native.Nat.{◌-◌}
use mathlib.Core.Path.{refl}
use Rattle.shunting.specs.Cleared.Outcome.{no_way}
use Rattle.shunting.proofs.ClearLaws.{Found, free_is, way_none, way_simple, way_shiftable, way_distance, cleared}
use Rattle.shunting.proofs.clear.Goals as goal

pub returns-in_default : goal.returns-in_default
returns-in_default c = no_way (way_none (record {
  rows = c.requires.rows;
  free_is = free_is _ _ _ _ c.below.ensures
      c.minus-free.ensures;
  vacancies = c.vacancies-vacant.ensures;
  nearest = c.in_default.ensures;
})
    refl)

pub shift-moved-requires : goal.shift-moved-requires
shift-moved-requires c =
    let f : Found _ _ _ _ _ _ _ _ _ = (record {
      rows = c.requires.rows;
      free_is = free_is _ _ _ _ c.below.ensures
          c.minus-free.ensures;
      vacancies = c.vacancies-vacant.ensures;
      nearest = c.in-Some.ensures.1;
    }) in
    let some = c.in-Some.ensures.0 in
    record {
      simple = way_simple f some;
      shiftable = way_shiftable f some;
      fits = c.requires.room_to_clear (c.in-Some.route.size - 1) (way_distance f some);
    }

pub returns : goal.returns
returns c =
    cleared (record {
      rows = c.requires.rows;
      free_is = free_is _ _ _ _ c.below.ensures c.minus-free.ensures;
      vacancies = c.vacancies-vacant.ensures;
      nearest = c.in-Some.ensures.1;
    }) c.in-Some.ensures.0
    c.shift-moved.ensures.journey_along c.shift-moved.ensures.shifted c.shift-moved.ensures.logged_value
