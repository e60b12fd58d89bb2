-- `carry::list_way` meets its contract. The invariant is the record `Listing`.
-- Assumes nothing.
use Rattle.carry.proofs.ListingLaws.{Listing}
use Rattle.carry.proofs.list_way.Given as goal

abbrev pub invariant-loop-j : goal.invariant-loop-j
invariant-loop-j l = Listing l.at l.k l.initial.room l.room l.j
