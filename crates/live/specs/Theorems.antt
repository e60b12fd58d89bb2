-- What is proved of sequences of calls on the live floor, from request (k): "After any sequence of calls since the latest opening, all
-- lending the opening pair, nobody else writing the picture, it is the one that replaying the steps run and not taken back gives, from the
-- start."
--
--     Call                a call: who calls what, and the order and timetable that are lent
--     answer_to P c        the answer to the call c on the picture P
--     after_call P c       the picture after it
--     after_calls P cs     the picture after the calls cs, one after another
--     kept_by k t P l      what the accepted call k with the timetable t on the picture P makes of the steps l, run and not taken back
--     kept l P cs         the steps run and not taken back after the calls cs, where they were l before
--     Lends o t c         the call c lends the order o and the timetable t
--     PictureReplayed o l P    the picture P is the one that replaying the steps l of the order o gives, from the starts
--     CanGoOn P o t       with the order o and the timetable t, the picture P never meets the second halves of 61 and 62
--     ByViewer c          the call c is a viewer's, and no opening
--     NotBySupervisor c   the call c is not a supervisor's, and no opening
-- Assumes nothing.
use Rattle.std.specs.Prelude.{ℕ, ◌+◌, ◌-◌, ◌≤◌, ◌<◌, ◌≡◌, ◌≢◌, List, [], ◌∷◌, ◌++◌, length, take}
use Rattle.answers.specs.Answer.{Answer}
use Rattle.order.specs.Order.{position_count, floor_of, starts_of}
use Rattle.order.specs.Tables.{racks_at}
use Rattle.motion.specs.Arrangement.{Arrangement}
use Rattle.motion.specs.Replay.{ended, replay_steps}
use Rattle.motion.specs.TurnedStep.{turned_step}
use Rattle.motion.proofs.StepDecision.{legal_step?}
use Rattle.timetable.specs.Timetable.{step_count}
use Rattle.live.specs.Picture.{Picture, LegalHere}
use Rattle.live.specs.Roles.{Kind, opening, reading, running, taking_back}
use Rattle.live.specs.Calls.{call_answer, by_answer, picture_after}
use Rattle.stepping.specs.Judging.{step_numbered}
use Rattle.live.specs.declared.Role.{Role}

pub record Call : Type 0 where
  pub kind : Kind
  pub role : Role
  pub order : List ℕ
  pub timetable : List ℕ

abbrev pub answer_to : Picture → Call → Answer
answer_to P c = call_answer c.kind c.role P c.order c.timetable

abbrev pub after_call : Picture → Call → Picture
after_call P c = picture_after c.kind c.role P c.order c.timetable

unfoldable pub after_calls : Picture → List Call → Picture
after_calls P [] = P
after_calls P (c ∷ cs) = after_calls (after_call P c) cs

-- an opening begins anew; a step run is added as the last, and the last is taken back
unfoldable pub kept_by : Kind → List ℕ → Picture → List (List (ℕ × ℕ)) → List (List (ℕ × ℕ))
kept_by opening t P l = []
kept_by reading t P l = l
kept_by running t P l = l ++ step_numbered t (P.steps + 1) ∷ []
kept_by taking_back t P l = take (length l - 1) l

unfoldable pub kept : List (List (ℕ × ℕ)) → Picture → List Call → List (List (ℕ × ℕ))
kept l P [] = l
kept l P (c ∷ cs) = kept (by_answer (answer_to P c) (kept_by c.kind c.timetable P l) l) (after_call P c) cs

pub record Lends (o t : List ℕ) (c : Call) : Type 0 where
  pub order_is : c.order ≡ o
  pub timetable_is : c.timetable ≡ t

pub record PictureReplayed (o : List ℕ) (l : List (List (ℕ × ℕ))) (P : Picture) : Type 0 where
  pub positions_are : P.positions ≡ position_count o
  pub counted : P.steps ≡ length l
  pub arrangement : Arrangement
  pub replayed : replay_steps (legal_step? (floor_of o)) (starts_of o) l ≡ ended arrangement
  pub racks_are : P.racks ≡ racks_at arrangement

pub record CanGoOn (P : Picture) (o t : List ℕ) : Type 0 where
  pub within : P.steps ≤ step_count t
  pub can_run : P.steps < step_count t → LegalHere P (floor_of o) (step_numbered t (P.steps + 1))
  pub can_take_back : 1 ≤ P.steps → LegalHere P (floor_of o) (turned_step (step_numbered t P.steps))

pub record ByViewer (c : Call) : Type 0 where
  pub viewer : c.role ≡ Role.Viewer
  pub no_opening : c.kind ≢ opening

pub record NotBySupervisor (c : Call) : Type 0 where
  pub lower : c.role ≢ Role.Supervisor
  pub no_opening : c.kind ≢ opening
