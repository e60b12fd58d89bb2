-- The calls, above what every call begins with: the answer and the picture afterwards at each return.
--
--     opened                  an opening that is let in
--     shown_racks             a reading that is let in
--     turned_below            a step turned round has the same positions
--     run_lent                the step to run is lent; run_none, run_illegal, ran_on_lem    61, and the step run
--     take_lent               the step to take back is lent; take_none, take_past, take_illegal, took_back    62, and the step taken back
-- Assumes nothing.
use Prim.Native.Nat.{ℕ, zero, suc, ◌+◌, ◌-◌, ◌*◌, ◌≤◌, ◌<◌}
use mathlib.Core.Path.{◌≡◌, refl, sym, ap, ◌∙◌, subst}
use mathlib.Core.Bool.{Bool, true, false, not, cond}
use mathlib.Core.List.{List, [], ◌∷◌, map}
use native.Mathlib.Omega.{arith}
use borrow.Author.Tests.{eq-eqb, ne_eqb, le-leb, lt-leb, le-ltb, lt-ltb}
use lib.Dec.{eqb, leb, ltb}
use lib.ListN.{length, take, drop, replicate}
use Rattle.answers.specs.Answer.{Answer, accepted, refused}
use Rattle.field.specs.Bits.{positions}
use Rattle.field.specs.Bytes.{BelowPairs, none₂, more₂}
use Rattle.order.specs.Order.{floor_of, starts_of}
use Rattle.order.specs.Tables.{placed, racks_at}
use Rattle.order.proofs.TailLaws.{tail-starts}
use Rattle.motion.specs.StepOf.{insert, sort}
use Rattle.motion.specs.TurnedStep.{turned, turned_step}
use Rattle.tables.specs.Accepted.{OrderGave}
use Rattle.tables.proofs.AcceptedLaws.{well_placed}
use Rattle.chains.specs.StepOn.{step_on}
use Rattle.timetable.specs.Timetable.{step_count}
use Rattle.timetable.proofs.TimetableRecord.{moves-low}
use Rattle.timetable_check.proofs.Leading.{accepted_leads}
use Rattle.live.specs.Picture.{Picture}
use Rattle.live.specs.Roles.{Kind, opening, reading, running, taking_back, role_number}
use Rattle.live.specs.Calls.{allowed, cannot_run, cannot_take_back, own_answer, call_answer, changed, by_answer}
use Rattle.stepping.specs.Judging.{step_numbered}
use Rattle.live.specs.Calls.{picture_after}
use Rattle.stepping.specs.Judging.{legal_on, ran_here, Lent}
use Rattle.live.specs.declared.Role.{Role}
use Rattle.live.proofs.HereLaws.{here_is}
use Rattle.live.proofs.Gate.{Admitted, own_refused, own_accepted, admitted_answer}

-- what a call answers and leaves
abbrev pub Told : Kind → Role → Picture → List ℕ → List ℕ → Answer → Picture → Type 0
Told k r P o t a Q = (a ≡ call_answer k r P o t) × (Q ≡ picture_after k r P o t)

-- turning round keeps the positions

insert_below : {m : ℕ × ℕ} {ms : List (ℕ × ℕ)} → m.0 < 64 → m.1 < 64 → BelowPairs 64 ms → BelowPairs 64 (insert m ms)
unfolding insert
insert_below a b none₂ = more₂ a b none₂
insert_below {m} a b (more₂ {p = x} {l = ms} c d r) = on (ltb m.0 x.0) (insert_below a b r)
  where
    on : (t : Bool) → BelowPairs 64 (insert m ms) → BelowPairs 64 (cond t (m ∷ x ∷ ms) (x ∷ insert m ms))
    on true rest = more₂ a b (more₂ c d r)
    on false rest = more₂ c d rest

sort_below : {ms : List (ℕ × ℕ)} → BelowPairs 64 ms → BelowPairs 64 (sort (map turned ms))
unfolding sort turned
sort_below none₂ = none₂
sort_below (more₂ {p = m} a b r) = insert_below {m = (m.1, m.0)} b a (sort_below r)

pub turned_below : {ms : List (ℕ × ℕ)} → BelowPairs 64 ms → BelowPairs 64 (turned_step ms)
unfolding turned_step
turned_below b = sort_below b

pub step_below : (t : List ℕ) (i : ℕ) → BelowPairs 64 (step_numbered t i)
unfolding step_numbered
step_below t i = moves-low _

module _ (r : Role) (P : Picture) (o t : List ℕ) where
  pub opened : {c : ℕ} → Admitted (allowed opening r P) o t c → (n e m : ℕ) → OrderGave o n e m → (h : List ℕ)
      → h ≡ placed (replicate 64 0) 1 (positions (take (length o - 3) (drop 3 o)) (6 * (2 * e)) m)
      → Told opening r P o t (accepted (0 ∷ [])) (record { racks = h; steps = 0; positions = n })
  unfolding own_answer changed racks_at floor_of
  opened a n e m gave h is =
      let told = own_accepted opening r P o t a (0 ∷ []) refl in
      let starts : h ≡ racks_at (starts_of o) =
      is ∙ ap (placed (replicate 64 0) 1) (tail-starts o e m gave.edges_are gave.racks_are) in
      (told.0, (λ i. record { racks = starts i; steps = 0; positions = gave.positions_are i }) ∙ told.1)

  pub shown_racks : {c : ℕ} → Admitted (allowed reading r P) o t c → (x : List ℕ)
      → (accepted (P.steps ∷ []) ≡ call_answer reading r P o t) × (P.racks ≡ by_answer (call_answer reading r P o t) P.racks x)
  unfolding own_answer
  shown_racks a x =
      let is = admitted_answer reading r P o t a in
      (sym is, rw is refl)

  module _ {c : ℕ} (a : Admitted (allowed running r P) o t c) where
    pub run_none : c ≤ P.steps → Told running r P o t (refused 61 0) P
    unfolding own_answer cannot_run
    run_none h =
        own_refused running r P o t a 61 0
        (rw (le-leb (step_count t) P.steps (subst (λ (k : ℕ). k ≤ P.steps) a.count_is h)) refl)

    module _ (h : P.steps < c) where
      pub run_lent : Lent o t (P.steps + 1)
      run_lent =
          let same = a.count_is in
          record { counts = a.counts; is_accepted = a.is_accepted; low = omega arith; high = omega arith }

      abbrev next : List (ℕ × ℕ)
      next = step_numbered t (P.steps + 1)

      decides : (b : Bool) → b ≡ legal_on (floor_of o) P.positions P.racks next → cannot_run P o t ≡ not b
      unfolding cannot_run
      decides b e =
          let placed_well = well_placed o ((accepted_leads o t a.counts).0 a.is_accepted).order_right in
          let is = here_is (floor_of o) placed_well.edges_below placed_well.edges_right P (step_below t (P.steps + 1)) in
          rw (lt-leb (step_count t) P.steps (subst (λ (k : ℕ). P.steps < k) a.count_is h), is, e) refl

      pub run_illegal : false ≡ legal_on (floor_of o) P.positions P.racks next → (h' : List ℕ)
          → h' ≡ ran_here (floor_of o) P.positions P.racks next
          → Told running r P o t (refused 61 0) (record { racks = h'; steps = P.steps; positions = P.positions })
      unfolding own_answer ran_here
      run_illegal e h' made =
          let told = own_refused running r P o t a 61 0 (rw (decides false e) refl) in
          let racks_are : h' ≡ P.racks = made ∙ rw (← e) refl in
          (told.0, (λ i. record { racks = racks_are i; steps = P.steps; positions = P.positions }) ∙ told.1)

      pub ran_on_lem : true ≡ legal_on (floor_of o) P.positions P.racks next → (h' : List ℕ)
          → h' ≡ ran_here (floor_of o) P.positions P.racks next
          → Told running r P o t (accepted ((P.steps + 1) ∷ [])) (record { racks = h'; steps = P.steps + 1; positions = P.positions })
      unfolding own_answer changed ran_here
      ran_on_lem e h' made =
          let told = own_accepted running r P o t a ((P.steps + 1) ∷ []) (rw (decides true e) refl) in
          let racks_are : h' ≡ step_on P.racks next = made ∙ rw (← e) refl in
          (told.0, (λ i. record { racks = racks_are i; steps = P.steps + 1; positions = P.positions }) ∙ told.1)

  module _ {c : ℕ} (a : Admitted (allowed taking_back r P) o t c) where
    pub take_none : P.steps ≡ 0 → Told taking_back r P o t (refused 62 0) P
    unfolding own_answer cannot_take_back
    take_none h = own_refused taking_back r P o t a 62 0 (rw (eq-eqb P.steps 0 h) refl)

    module _ (some : P.steps ≡ 0 → ⊥) where
      pub take_past : c < P.steps → Told taking_back r P o t (refused 62 0) P
      unfolding own_answer cannot_take_back
      take_past h =
          own_refused taking_back r P o t a 62 0
          (rw (ne_eqb P.steps 0 some, lt-ltb (step_count t) P.steps (subst (λ (k : ℕ). k < P.steps) a.count_is h)) refl)

      module _ (h : P.steps ≤ c) where
        pub take_lent : Lent o t P.steps
        take_lent =
            let same = a.count_is in
            record { counts = a.counts; is_accepted = a.is_accepted; low = omega (arith, some); high = omega arith }

        abbrev back : List (ℕ × ℕ)
        back = turned_step (step_numbered t P.steps)

        decides_back : (b : Bool) → b ≡ legal_on (floor_of o) P.positions P.racks back → cannot_take_back P o t ≡ not b
        unfolding cannot_take_back
        decides_back b e =
            let placed_well = well_placed o ((accepted_leads o t a.counts).0 a.is_accepted).order_right in
            let is = here_is (floor_of o) placed_well.edges_below placed_well.edges_right P (turned_below (step_below t P.steps)) in
            rw (
              ne_eqb P.steps 0 some,
              le-ltb (step_count t) P.steps (subst (λ (k : ℕ). P.steps ≤ k) a.count_is h),
              is,
              e,
            ) refl

        pub take_illegal : false ≡ legal_on (floor_of o) P.positions P.racks back → (h' : List ℕ)
            → h' ≡ ran_here (floor_of o) P.positions P.racks back
            → Told taking_back r P o t (refused 62 0) (record { racks = h'; steps = P.steps; positions = P.positions })
        unfolding own_answer ran_here
        take_illegal e h' made =
            let told = own_refused taking_back r P o t a 62 0 (rw (decides_back false e) refl) in
            let racks_are : h' ≡ P.racks = made ∙ rw (← e) refl in
            (told.0, (λ i. record { racks = racks_are i; steps = P.steps; positions = P.positions }) ∙ told.1)

        pub took_back : true ≡ legal_on (floor_of o) P.positions P.racks back → (h' : List ℕ)
            → h' ≡ ran_here (floor_of o) P.positions P.racks back
            → Told taking_back r P o t (accepted ((P.steps - 1) ∷ []))
            (record { racks = h'; steps = P.steps - 1; positions = P.positions })
        unfolding own_answer changed ran_here
        took_back e h' made =
            let told = own_accepted taking_back r P o t a ((P.steps - 1) ∷ []) (rw (decides_back true e) refl) in
            let racks_are : h' ≡ step_on P.racks back = made ∙ rw (← e) refl in
            (told.0, (λ i. record { racks = racks_are i; steps = P.steps - 1; positions = P.positions }) ∙ told.1)
