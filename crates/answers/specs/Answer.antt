-- The answers of the entry points, from document 01, "Returned numbers" and "Shape of the answers".
--
--     Answer         accepted, with the counts that document 01 names, or refused, with a number and a place
--     number_of f     document 01's number for each case of the fault enum
--     refused_by f p  the refusal by the fault f at the place p
--     holds d        the decision d says yes: what is decided, as a test
--     refuse t k p a the answer a, unless the test t holds: then the refusal k at the place p
--     pass_up b a     the answer a of a reader whose lower reader answered b, unless that was a refusal
--     the_count n       the counts of a reader that yields the one number n
--     answer_by values v    the answer that a reader's result v stands for, with the counts of what it yields
-- Assumes nothing.
use Rattle.std.specs.Prelude.{ℕ, Bool, true, false, List, [], ◌∷◌, Result, Ok, Err}
use Rattle.answers.specs.declared.Fault.{Fault}
use Rattle.answers.specs.declared.Refusal.{Refusal}

-- "either accepted, with counts, or refused, with a place and one of the faults"
pub data Answer : Type 0 where
  accepted : List ℕ → Answer
  refused : ℕ → ℕ → Answer

-- the table's number of each fault
abbrev pub number_of : Fault → ℕ
number_of Fault.OrderLength = 10
number_of Fault.OrderPositions = 11
number_of Fault.OrderPadding = 12
number_of Fault.OrderEdge = 13
number_of Fault.OrderRack = 14
number_of Fault.FloorCrowded = 20
number_of Fault.FloorNotBiconnected = 21
number_of Fault.FloorRing = 22
number_of Fault.PlanBuffer = 23
number_of Fault.PlanLength = 30
number_of Fault.PlanPadding = 31
number_of Fault.PlanMove = 32
number_of Fault.PlanGoal = 33
number_of Fault.TimetableLength = 40
number_of Fault.TimetablePadding = 41
number_of Fault.TimetableStep = 42
number_of Fault.TimetableGoal = 43
number_of Fault.TimetableBuffer = 44
number_of Fault.StepNumber = 45
number_of Fault.ShortOrder = 50
number_of Fault.ModelUnknown = 51
number_of Fault.OrderBuffer = 52
number_of Fault.PlanNoRack = 34
number_of Fault.PlanOccupied = 35
number_of Fault.FloorOrder = 24
number_of Fault.SecondBuffer = 37
number_of Fault.PlanRack = 36
number_of Fault.ConvertedBuffer = 38
number_of Fault.FloorSides = 26
number_of Fault.VacancyCount = 29
number_of Fault.FloorRight = 60
number_of Fault.FloorRun = 61
number_of Fault.FloorTakeBack = 62
number_of Fault.SeasonCut = 46
number_of Fault.SeasonPairs = 47
number_of Fault.FloorNotConnected = 27
number_of Fault.CarryBuffer = 28

abbrev pub refused_by : Fault → ℕ → Answer
refused_by f place = refused (number_of f) place

abbrev pub holds : {A : Type 0} → Dec A → Bool
holds (yes a) = true
holds (no f) = false

-- "A number is returned only under its condition. The lowest number that applies is returned": a list of conditions in ascending order
-- is a chain of these
abbrev pub refuse : Bool → ℕ → ℕ → Answer → Answer
refuse true number place otherwise = refused number place
refuse false number place otherwise = otherwise

-- "A reader that was given a refusal by a lower one stops there and passes the same refusal up."
abbrev pub pass_up : Answer → Answer → Answer
pass_up (accepted counts) otherwise = otherwise
pass_up (refused number place) otherwise = refused number place

abbrev pub the_count : ℕ → List ℕ
the_count n = n ∷ []

abbrev pub answer_by : {X : Type 0} → (X → List ℕ) → Result X Refusal → Answer
answer_by values (Ok x) = accepted (values x)
answer_by values (Err r) = refused_by r.0 r.1
