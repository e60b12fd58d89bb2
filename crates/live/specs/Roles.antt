-- Who may drive the live floor, from request (k): "Each call names its role: a viewer may read it; an operator may also run the next step;
-- a supervisor may also take the last step back."
--
--     role_number r       the number by which a C caller names the role r; a caller of no role has 0
--     role_of n           the role that the number n names
--     Kind               what is called: an opening, a reading, a step run, a step taken back
--     lowest k           the number of the first role that has a right to the call k; those after it "may also"
--     right k r          the role r has a right to the call k on an open picture
-- Assumes nothing.
use Rattle.std.specs.Prelude.{ℕ, Bool, cond, eqb, leb}
use Rattle.live.specs.declared.Role.{Role}

abbrev pub role_number : Role → ℕ
role_number Role.Nobody = 0
role_number Role.Viewer = 1
role_number Role.Operator = 2
role_number Role.Supervisor = 3

-- a number that names none of the three is nobody's
unfoldable pub role_of : ℕ → Role
role_of n = cond (eqb n 1) Role.Viewer (cond (eqb n 2) Role.Operator (cond (eqb n 3) Role.Supervisor Role.Nobody))

pub data Kind : Type 0 where
  opening : Kind
  reading : Kind
  running : Kind
  taking_back : Kind

abbrev pub lowest : Kind → ℕ
-- "Any of three roles may open it"
lowest opening = 1
-- "a viewer may read it;
lowest reading = 1
-- an operator may also run the next step;
lowest running = 2
-- a supervisor may also take the last step back."
lowest taking_back = 3

abbrev pub right : Kind → Role → Bool
right k r = leb (lowest k) (role_number r)
