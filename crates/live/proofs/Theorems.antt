-- The theorems on sequences of calls: the picture is the one that replaying the steps run and not taken back gives, and who may not change
-- it does not.
--
--     call_follows      a call that lends the opening pair keeps the picture on the timetable
--     live_replayed     after any calls since an opening, all lending its pair, the picture is the one that replay gives
--     live_goes_on      with that pair the second halves of 61 and 62 are never met
--     run_with_pair     so of a role that may run, 61 is given just where no step is left
--     back_with_pair    and of one that may take back, 62 just where there is no step to take back
--     refused_keeps     a refused call changes nothing
--     viewer_keeps      whatever viewers call but an opening, the picture stays
--     operator_back     an operator's taking back is refused with 60
--     never_back        without a supervisor and without an opening the steps run never become fewer
-- Assumes nothing.
use Prim.Native.Nat.{ℕ, ◌+◌, ◌-◌, ◌≤◌, ◌<◌}
use mathlib.Core.Path.{◌≡◌, refl, sym, ap, ◌∙◌, subst}
use mathlib.Core.Bool.{true, false, not, ◌||◌}
use mathlib.Core.Logic.{◌≢◌, by_cases}
use mathlib.Core.List.{List, [], ◌∷◌, ◌++◌}
use native.Mathlib.Omega.{arith}
use native.Mathlib.Decide.{ℕ_discrete, dec_lt}
use borrow.Author.Tests.{leb-false, eqb-false, le-leb, lt-leb, eq-eqb, ne_eqb, le-ltb}
use lib.Dec.{leb, eqb, ltb}
use lib.ListN.{length, take}
use lib.Seq.{length-take-le, take-take}
use Rattle.answers.specs.Answer.{Answer, accepted, refused, refuse, holds}
use Rattle.answers.proofs.AnswerLaws.{refuse_not, refuse_else, pass_up-low, pass_up-high}
use Rattle.field.proofs.UnitLaws.{or_left}
use Rattle.order.specs.Order.{floor_of, starts_of}
use Rattle.motion.specs.Replay.{replay_steps}
use Rattle.motion.specs.TurnedStep.{turned_step}
use Rattle.motion.proofs.StepDecision.{legal_step?}
use Rattle.motion.proofs.Lawful.{replay_steps_ended}
use Rattle.tables.specs.Simulation.{Each, each_none, each_more}
use Rattle.timetable.specs.Timetable.{step_count, steps_of, timetable_answer}
use Rattle.timetable.proofs.ReadingLaws.{count_steps}
use Rattle.timetable_check.proofs.Leading.{LeadingTimetable, accepted_leads}
use Rattle.live.specs.Picture.{Picture}
use Rattle.live.specs.Roles.{Kind, opening, reading, running, taking_back}
use Rattle.live.specs.HereDecision.{legal_here?}
use Rattle.live.specs.Calls.{allowed, cannot_run, cannot_take_back, own_answer, call_answer, changed, by_answer}
use Rattle.stepping.specs.Judging.{step_numbered}
use Rattle.live.specs.Calls.{picture_after}
use Rattle.live.specs.Theorems.{Call, answer_to, after_call, after_calls, kept_by, kept, Lends, PictureReplayed, CanGoOn}
use Rattle.live.specs.Theorems.{ByViewer, NotBySupervisor}
use Rattle.live.specs.declared.Role.{Role}
use Rattle.live.proofs.HereLaws.{here_yes}
use Rattle.stepping.proofs.Steps.{first_is}
use Rattle.live.proofs.Following.{Following, follows_opened, next_here, follows_run, back_here, follows_back}

-- what acceptance tells

module _ (k : Kind) (r : Role) (P : Picture) (o t : List ℕ) where
  own_told : (v : List ℕ) → call_answer k r P o t ≡ accepted v → own_answer k P o t ≡ accepted v
  unfolding call_answer
  own_told v e =
      pass_up-high (timetable_answer o t) (own_answer k P o t) v (refuse_else (not (allowed k r P)) 60 0 _ v e)

module _ (P : Picture) (o t : List ℕ) (v : List ℕ) where
  run_told : own_answer running P o t ≡ accepted v → P.steps < step_count t
  unfolding own_answer cannot_run
  run_told e =
      leb-false (step_count t) P.steps
      (or_left (leb (step_count t) P.steps) _ (refuse_not _ 61 0 (accepted ((P.steps + 1) ∷ [])) v e))

  back_told : own_answer taking_back P o t ≡ accepted v → 1 ≤ P.steps
  unfolding own_answer cannot_take_back
  back_told e =
      let some = eqb-false P.steps 0
      (or_left (eqb P.steps 0) _ (or_left (eqb P.steps 0 || ltb (step_count t) P.steps) _
      (refuse_not _ 62 0 (accepted ((P.steps - 1) ∷ [])) v e))) in
      omega (arith, some)

module _ (o t v : List ℕ) (l : LeadingTimetable o t v) where
  abbrev first : ℕ → List (List (ℕ × ℕ))
  first i = take i (steps_of t)

  -- the steps kept, where the call is accepted
  pub record Kept (P : Picture) (ls : List (List (ℕ × ℕ))) : Type 0 where
    pub follows : Following o t v l P
    pub steps_are : ls ≡ first P.steps

  module _ (r : Role) (P : Picture) (ls : List (List (ℕ × ℕ))) (f : Kept P ls) where
    kept_on : (k : Kind) (w : List ℕ) → own_answer k P o t ≡ accepted w → Kept (changed k P o t) (kept_by k t P ls)
    unfolding changed kept_by
    kept_on opening w e = record { follows = follows_opened o t v l P; steps_are = refl }
    kept_on reading w e = f
    kept_on running w e =
        let h = run_told P o t w e in
        record {
          follows = follows_run o t v l P f.follows h;
          steps_are =
              ap (λ (x : List (List (ℕ × ℕ))). x ++ step_numbered t (P.steps + 1) ∷ []) f.steps_are
              ∙ sym (first_is o t v l P.steps h f.follows.there);
        }
    kept_on taking_back w e =
        let h = back_told P o t w e in
        let long : length ls ≡ P.steps =
        ap length f.steps_are ∙ length-take-le P.steps (steps_of t) (omega (arith, f.follows.within, count_steps t)) in
        record {
          follows = follows_back o t v l P f.follows h;
          steps_are =
              ap (λ (n : ℕ). take (n - 1) ls) long
              ∙ ap (take (P.steps - 1)) f.steps_are
              ∙ take-take (P.steps - 1) P.steps (steps_of t) (omega arith);
        }

    pub call_follows : (k : Kind) → Kept (picture_after k r P o t) (by_answer (call_answer k r P o t) (kept_by k t P ls) ls)
    unfolding picture_after
    call_follows k = on (call_answer k r P o t) refl
      where
        on : (a : Answer) → call_answer k r P o t ≡ a → Kept (by_answer a (changed k P o t) P) (by_answer a (kept_by k t P ls) ls)
        on (accepted w) e = kept_on k w (own_told k r P o t w e)
        on (refused n p) e = f

  calls-follow : (P : Picture) (ls : List (List (ℕ × ℕ))) → Kept P ls → {cs : List Call} → Each (Lends o t) cs
      → Kept (after_calls P cs) (kept ls P cs)
  unfolding after_calls kept
  calls-follow P ls f each_none = f
  calls-follow P ls f (each_more {x = c} lends rest) =
      let here : Kept (after_call P c) (by_answer (answer_to P c) (kept_by c.kind c.timetable P ls) ls) =
      subst
      (λ (o' : List ℕ). Kept (picture_after c.kind c.role P o' c.timetable)
      (by_answer (call_answer c.kind c.role P o' c.timetable) (kept_by c.kind c.timetable P ls) ls))
      (sym lends.order_is)
      (subst
      (λ (t' : List ℕ). Kept (picture_after c.kind c.role P o t')
      (by_answer (call_answer c.kind c.role P o t') (kept_by c.kind t' P ls) ls))
      (sym lends.timetable_is)
      (call_follows c.role P ls f c.kind)) in
      calls-follow (after_call P c) _ here rest

-- after an opening that succeeded

module _ (o t w : List ℕ) (r : Role) (P : Picture) (e : call_answer opening r P o t ≡ accepted w) where
  accepts : (v : List ℕ) × (timetable_answer o t ≡ accepted v)
  unfolding call_answer
  accepts = pass_up-low (timetable_answer o t) (own_answer opening P o t) w (refuse_else (not (allowed opening r P)) 60 0 _ w e)

  leads : LeadingTimetable o t accepts.0
  leads = (accepted_leads o t accepts.0).0 accepts.1

  begins : Kept o t accepts.0 leads (picture_after opening r P o t) []
  unfolding picture_after changed
  begins = rw e (record { follows = follows_opened o t accepts.0 leads P; steps_are = refl })

  module _ {cs : List Call} (same : Each (Lends o t) cs) where
    abbrev Q : Picture
    Q = after_calls (picture_after opening r P o t) cs

    there : Kept o t accepts.0 leads Q (kept [] (picture_after opening r P o t) cs)
    there = calls-follow o t accepts.0 leads (picture_after opening r P o t) [] begins same

    pub live_replayed : PictureReplayed o (kept [] (picture_after opening r P o t) cs) Q
    live_replayed =
        let f = there.follows in
        record {
          positions_are = f.positions_are;
          counted =
              sym (ap length there.steps_are ∙ length-take-le Q.steps (steps_of t) (omega (arith, f.within, count_steps t)));
          arrangement = f.there.arrangement;
          replayed =
              ap (replay_steps (legal_step? (floor_of o)) (starts_of o)) there.steps_are
              ∙ (replay_steps_ended (floor_of o) (starts_of o) (take Q.steps (steps_of t)) f.there.arrangement).1 f.there.leads;
          racks_are = f.racks_are;
        }

    pub live_goes_on : CanGoOn Q o t
    live_goes_on =
        let f = there.follows in
        record {
          within = f.within;
          can_run = λ h. next_here o t accepts.0 leads Q f h;
          can_take_back = λ h. back_here o t accepts.0 leads Q f h;
        }

-- what that makes of the answers

module _ (r : Role) (P : Picture) (o t w : List ℕ) (can : CanGoOn P o t) (checked : timetable_answer o t ≡ accepted w) where
  pub run_with_pair : allowed running r P ≡ true
      → call_answer running r P o t ≡ refuse (leb (step_count t) P.steps) 61 0 (accepted ((P.steps + 1) ∷ []))
  unfolding call_answer own_answer cannot_run
  run_with_pair a = rw (a, checked) (by_cases (dec_lt P.steps (step_count t)) left none)
    where
      left : P.steps < step_count t
          → refuse (leb (step_count t) P.steps || not (holds (legal_here? P (floor_of o) (step_numbered t (P.steps + 1))))) 61 0
          (accepted ((P.steps + 1) ∷ [])) ≡ refuse (leb (step_count t) P.steps) 61 0 (accepted ((P.steps + 1) ∷ []))
      left h = rw (lt-leb (step_count t) P.steps h, here_yes P (floor_of o) _ (can.can_run h)) refl

      none : (P.steps < step_count t → ⊥)
          → refuse (leb (step_count t) P.steps || not (holds (legal_here? P (floor_of o) (step_numbered t (P.steps + 1))))) 61 0
          (accepted ((P.steps + 1) ∷ [])) ≡ refuse (leb (step_count t) P.steps) 61 0 (accepted ((P.steps + 1) ∷ []))
      none h = rw (le-leb (step_count t) P.steps (omega (arith, h))) refl

  pub back_with_pair : allowed taking_back r P ≡ true
      → call_answer taking_back r P o t ≡ refuse (eqb P.steps 0) 62 0 (accepted ((P.steps - 1) ∷ []))
  unfolding call_answer own_answer cannot_take_back
  back_with_pair a = rw (a, checked) (by_cases (ℕ_discrete P.steps 0) none some)
    where
      none : P.steps ≡ 0
          → refuse
          (eqb P.steps 0 || ltb (step_count t) P.steps || not (holds (legal_here? P (floor_of o) (turned_step (step_numbered t
          P.steps)))))
          62 0 (accepted ((P.steps - 1) ∷ [])) ≡ refuse (eqb P.steps 0) 62 0 (accepted ((P.steps - 1) ∷ []))
      none h = rw (eq-eqb P.steps 0 h) refl

      some : P.steps ≢ 0
          → refuse
          (eqb P.steps 0 || ltb (step_count t) P.steps || not (holds (legal_here? P (floor_of o) (turned_step (step_numbered t
          P.steps)))))
          62 0 (accepted ((P.steps - 1) ∷ [])) ≡ refuse (eqb P.steps 0) 62 0 (accepted ((P.steps - 1) ∷ []))
      some h =
          rw (
            ne_eqb P.steps 0 h,
            le-ltb (step_count t) P.steps can.within,
            here_yes P (floor_of o) _ (can.can_take_back (omega (arith, h))),
          ) refl

-- who may not change the picture

pub refused_keeps : (P : Picture) (c : Call) (n p : ℕ) → answer_to P c ≡ refused n p → after_call P c ≡ P
unfolding picture_after
refused_keeps P c n p e = rw e refl

lacking : (k : Kind) (r : Role) (P : Picture) (o t : List ℕ) → allowed k r P ≡ false → call_answer k r P o t ≡ refused 60 0
unfolding call_answer
lacking k r P o t a = rw a refl

stays : (k : Kind) (r : Role) (P : Picture) (o t : List ℕ) → allowed k r P ≡ false → picture_after k r P o t ≡ P
unfolding picture_after
stays k r P o t a = rw (lacking k r P o t a) refl

-- a reading leaves the picture, accepted or refused
read_stays : (r : Role) (P : Picture) (o t : List ℕ) → picture_after reading r P o t ≡ P
unfolding picture_after changed
read_stays r P o t = on (call_answer reading r P o t)
  where
    on : (a : Answer) → by_answer a P P ≡ P
    on (accepted w) = refl
    on (refused n p) = refl

viewer_stays : (k : Kind) (P : Picture) (o t : List ℕ) → k ≢ opening → picture_after k Role.Viewer P o t ≡ P
viewer_stays opening P o t d = absurd (d refl)
viewer_stays reading P o t d = read_stays Role.Viewer P o t
viewer_stays running P o t d = stays running Role.Viewer P o t refl
viewer_stays taking_back P o t d = stays taking_back Role.Viewer P o t refl

pub viewer_keeps : (P : Picture) {cs : List Call} → Each ByViewer cs → after_calls P cs ≡ P
unfolding after_calls
viewer_keeps P each_none = refl
viewer_keeps P (each_more {x = c} {xs = cs} by rest) =
    let here : after_call P c ≡ P =
    ap (λ (r : Role). picture_after c.kind r P c.order c.timetable) by.viewer
    ∙ viewer_stays c.kind P c.order c.timetable by.no_opening in
    ap (λ (Q : Picture). after_calls Q cs) here ∙ viewer_keeps P rest

pub operator_back : (P : Picture) (o t : List ℕ) → call_answer taking_back Role.Operator P o t ≡ refused 60 0
operator_back P o t = lacking taking_back Role.Operator P o t refl

back_lacking : (r : Role) (P : Picture) → r ≢ Role.Supervisor → allowed taking_back r P ≡ false
back_lacking Role.Nobody P d = refl
back_lacking Role.Viewer P d = refl
back_lacking Role.Operator P d = refl
back_lacking Role.Supervisor P d = absurd (d refl)

no_fewer : (k : Kind) (r : Role) (P : Picture) (o t : List ℕ) → k ≢ opening → r ≢ Role.Supervisor
    → P.steps ≤ (picture_after k r P o t).steps
unfolding picture_after changed
no_fewer opening r P o t d s = absurd (d refl)
no_fewer reading r P o t d s = on (call_answer reading r P o t)
  where
    on : (a : Answer) → P.steps ≤ (by_answer a P P).steps
    on (accepted w) = omega arith
    on (refused n p) = omega arith
no_fewer running r P o t d s = on (call_answer running r P o t)
  where
    on : (a : Answer) → P.steps ≤ (by_answer a (changed running P o t) P).steps
    on (accepted w) = omega arith
    on (refused n p) = omega arith
no_fewer taking_back r P o t d s =
    subst (λ (Q : Picture). P.steps ≤ Q.steps) (sym (stays taking_back r P o t (back_lacking r P s))) (omega arith)

pub never_back : (P : Picture) {cs : List Call} → Each NotBySupervisor cs → P.steps ≤ (after_calls P cs).steps
unfolding after_calls
never_back P each_none = omega arith
never_back P (each_more {x = c} by rest) =
    let here = no_fewer c.kind c.role P c.order c.timetable by.no_opening by.lower in
    omega (arith, here, never_back (after_call P c) rest)
