-- How large the numbers of the answers are, for every input: they fit the fields of the C interface, as `Sized` of `packing` says.
--
--     refuse_sized, pass_up_sized, judged_sized        an answer made of sized answers is sized
--     misplaced_small, Stopping                       a misplaced rack and the place where a replay stops are at most one above the list
--     order_sized, floor_sized, expand_sized, planner_sized, made_sized, plan_sized, timetable_sized, maker_sized, shortener_sized,
--     converter_sized, step_sized, season_sized, carry_sized, vacancy_sized
--                         so are the answers of each function
-- Assumes nothing.
use Prim.Native.Nat.{ℕ, zero, suc, ◌+◌, ◌-◌, ◌*◌, ◌^◌, ◌≤◌, ◌<◌}
use mathlib.Core.Path.{◌≡◌, refl, sym, ap, ◌∙◌, subst}
use mathlib.Core.Bool.{Bool, true, false, not, ◌||◌}
use mathlib.Core.List.{List, [], ◌∷◌}
use mathlib.Core.Logic.{◌≢◌}
use native.Mathlib.Omega.{arith}
use borrow.Author.Tests.{ltb-false}
use lib.Dec.{T, ltb, eqb, lit<, lit≤}
use lib.ListN.{length, drop, length-append, length-map}
use Rattle.answers.specs.Answer.{Answer, accepted, refused, refuse, pass_up, holds}
use Rattle.answers.proofs.AnswerLaws.{pass_up_accepted}
use Rattle.field.proofs.BitLaws.{field_lt}
use Rattle.field.proofs.RecordLaws.{length-positions}
use Rattle.field.proofs.UnitLaws.{or_right}
use Rattle.order.specs.Floor.{Floor}
use Rattle.order.specs.Order.{position_count, edge_count, rack_count, floor_of, starts_of, goals_of, order_of}
use Rattle.order.specs.Order.{wrong_length, wrong_positions}
use Rattle.order.specs.Order.{padding_set, wrong_edges, wrong_racks, order_answer}
use Rattle.motion.specs.Arrangement.{Arrangement}
use Rattle.motion.specs.Move.{listed_fault, after, after_listed}
use Rattle.motion.proofs.ListedLaws.{legal_listed, listed_fault_none, listed_fault_small, replay_listed_stopped}
use Rattle.motion.specs.Step.{legal_step}
use Rattle.motion.specs.Judgement.{misplaced, judged}
use Rattle.motion.specs.Replay.{Replayed, ended, stopped, replay_listed, step_fault, replay_steps}
use Rattle.motion.proofs.StepDecision.{legal_step?}
use Rattle.motion.proofs.Test.{cond_either}
use Rattle.motion.proofs.Lawful.{Stops, stops_some, step_fault_none, step_fault_small, replay_steps_stopped}
use Rattle.floor.proofs.FloorLaws.{disordered}
use Rattle.floor.specs.FloorAnswer.{bi_connected?, vacancies_owed, floor_answer}
use Rattle.floor.specs.Sides.{four_sided?}
use Rattle.models.specs.Grid.{unknown_model}
use Rattle.models.specs.ShortOrder.{model_code, wrong_short}
use Rattle.models.specs.Expansion.{full_order, expanded, expand_answer}
use Rattle.models.proofs.ExpansionLaws.{expanded_small}
use Rattle.parity.specs.OneVacancy.{impossible?, judgement, vacancy_answer}
use Rattle.plan.specs.Plan.{move_count, plan_listed, wrong_plan_length, plan_padding_set, plan_answer}
use Rattle.plan.proofs.PlanRecord.{listed-counted}
use Rattle.planner.specs.Planner.{refusals, PlanMade, turned_down, made}
use Rattle.planner.proofs.PlannerLaws.{moves_few}
use Rattle.timetable.specs.Timetable.{step_count, parts_of, steps_of, step_moves, wrong_timetable_length}
use Rattle.timetable.specs.Timetable.{timetable_padding_set, timetable_answer}
use Rattle.timetable.specs.Timetable.{step_answer}
use Rattle.timetable.proofs.StepLaws.{length_parts}
use Rattle.timetable_check.specs.ByteString.{ByteString}
use Rattle.timetable_check.proofs.SizeLaws.{count_small, timetable-moves_small, offset_small, length_small}
use Rattle.converting.specs.Converter.{converted_of, converter_answer}
use Rattle.shortening.specs.Shortener.{shortener_answer}
use Rattle.shortening.proofs.ShortenerLaws.{moves_small}
use Rattle.season.specs.Season.{pair_order, pair_timetable, behind_pair, cut_short, counted, season_from, season_answer}
use Rattle.season.specs.declared.Totals.{Totals}
use Rattle.scheduling.specs.Maker.{maker_answer}
use Rattle.scheduling.proofs.SizeLaws.{steps_small}
use Rattle.carry.specs.CarryAnswer.{not_connected, cannot_hold, carry_answer}
use Rattle.carry.proofs.Theorems.{carry_small}
use Rattle.packing.proofs.Sized.{Sized, accepts, refuses, NoCounts, no_counts, OneCount, one_count_lem, StepsMoves, steps_moves}
use Rattle.packing.proofs.Sized.{OffsetLength, offset_length, StartGoalMoves, start_goal_moves_lem}

-- whatever the counts are
abbrev Any : List ℕ → Type 0
Any v = Unit {0}

refusal_sized : {Fits Fits' : List ℕ → Type 0} {number place : ℕ} → Sized Fits (refused number place) → Sized Fits' (refused number place)
refusal_sized (refuses some few near) = refuses some few near

pub pass_up_sized : {Fits Fits' : List ℕ → Type 0} (b a : Answer) → Sized Fits b → ((v : List ℕ) → b ≡ accepted v → Sized Fits' a)
    → Sized Fits' (pass_up b a)
pass_up_sized (accepted v) a below rest = rest v refl
pass_up_sized (refused number place) a below rest = refusal_sized below

pub misplaced_small : (r : ℕ) (A G : Arrangement) → misplaced r A G ≤ r + length G
unfolding misplaced
misplaced_small r [] G = omega arith
misplaced_small r (p ∷ A) [] = omega arith
misplaced_small r (p ∷ A) (g ∷ G) =
    cond_either (λ (x : ℕ). x ≤ r + length (g ∷ G)) (eqb p g) (omega (arith, misplaced_small (suc r) A G)) (omega arith)

-- where a replay stops: its fault has a number of 8 bits, and its place is at most one above the list
pub record Stopping (n f j : ℕ) : Type 0 where
  pub some : 0 < f
  pub few : f < 256
  pub near : j ≤ 1 + n

module _ {X : Type 0} (fault : Arrangement → X → ℕ) (legal : Arrangement → X → Bool) (next : Arrangement → X → Arrangement)
    (none : (A : Arrangement) (x : X) → eqb (fault A x) 0 ≡ legal A x) (small : (A : Arrangement) (x : X) → fault A x ≤ 255) where
  stopped_small : {A : Arrangement} {xs : List X} {f j : ℕ} → Stops fault legal next 1 A xs f j → Stopping (length xs) f j
  stopped_small {f = f} s =
      let is : f ≢ 0 = stops_some fault legal next none s in
      record {
        some = omega (arith, pos f is);
        few = omega (arith, small s.there s.bad, s.fault_is);
        near = omega (arith, s.number, ap length s.parts, length-append s.before (s.bad ∷ s.rest));
      }
    where
      pos : (n : ℕ) → n ≢ 0 → 0 < n
      pos zero d = absurd (d refl)
      pos (suc n) d = omega arith

moves_stopping : (F : Floor) (A : Arrangement) (l : List (ℕ × ℕ × ℕ)) (f j : ℕ) → replay_listed F A l ≡ stopped f j
    → Stopping (length l) f j
moves_stopping F A l f j e =
    stopped_small (listed_fault F) (legal_listed F) after_listed (listed_fault_none F) (listed_fault_small F)
    ((replay_listed_stopped F A l f j).0 e)

steps_stopping : (F : Floor) (A : Arrangement) (steps : List (List (ℕ × ℕ))) (f j : ℕ) → replay_steps (legal_step? F) A steps ≡ stopped f j
    → Stopping (length steps) f j
steps_stopping F A steps f j e =
    stopped_small (step_fault (legal_step? F)) (legal_step F) after (step_fault_none F) (step_fault_small F)
    ((replay_steps_stopped F A steps f j).0 e)

module _ {Fits : List ℕ → Type 0} where
  pub refuse_sized : (t : Bool) (number place : ℕ) (a : Answer) → T (ltb 0 number) → T (ltb number 256) → place < 2 ^ 32
      → (t ≡ false → Sized Fits a) → Sized Fits (refuse t number place a)
  refuse_sized true number place a some few near rest = refuses (lit< some) (lit< few) near
  refuse_sized false number place a some few near rest = rest refl

  pub judged_sized : (off : ℕ) (G v : List ℕ) (x : Replayed) (n : ℕ) → T (ltb 0 off) → T (ltb off 256) → length G < 128
      → ((f j : ℕ) → x ≡ stopped f j → Stopping n f j) → n < 2 ^ 22 → Fits v → Sized Fits (judged off G v x)
  unfolding judged
  judged_sized off G v (stopped f j) n some few goals stops short fits =
      let t = stops f j refl in
      refuses {number = f} {place = j} t.some t.few (omega (arith, t.near))
  judged_sized off G v (ended A) n some few goals stops short fits =
      refuse_sized (not (eqb (misplaced 1 A G) 0)) off (misplaced 1 A G) (accepted v) some few (omega (arith, misplaced_small 1 A G))
      (λ none. accepts fits)

pub order_sized : (o : List ℕ) → Sized Any (order_answer o)
unfolding order_answer
order_sized o =
    refuse_sized (wrong_length o) 10 0 _ tt tt (lit< tt)
    (λ _. refuse_sized (wrong_positions o) 11 0 _ tt tt (lit< tt)
    (λ _. refuse_sized (padding_set o) 12 0 _ tt tt (lit< tt)
    (λ _. refuse_sized (wrong_edges (floor_of o)) 13 0 _ tt tt (lit< tt)
    (λ _. refuse_sized (wrong_racks (order_of o)) 14 0 _ tt tt (lit< tt)
    (λ _. accepts tt)))))

pub floor_sized : (o : List ℕ) → Sized NoCounts (floor_answer o)
unfolding floor_answer
floor_sized o =
    pass_up_sized (order_answer o) _ (order_sized o)
    (λ v e. refuse_sized (ltb (position_count o) (rack_count o + vacancies_owed (floor_of o))) 20 0 _ tt tt (lit< tt)
    (λ _. refuse_sized (not (holds (bi_connected? (floor_of o)))) 21 0 _ tt tt (lit< tt)
    (λ _. refuse_sized (disordered (floor_of o) (rack_count o) (starts_of o) (goals_of o)) 24 0 _ tt tt (lit< tt)
    (λ _. refuse_sized (not (holds (four_sided? (floor_of o)))) 26 0 _ tt tt (lit< tt)
    (λ _. accepts no_counts)))))

pub expand_sized : (s : List ℕ) (n : ℕ) → Sized OneCount (expand_answer s n)
unfolding expand_answer
expand_sized s n =
    refuse_sized (wrong_short s) 50 0 _ tt tt (lit< tt)
    (λ _. refuse_sized (unknown_model (model_code s)) 51 0 _ tt tt (lit< tt)
    (λ known. refuse_sized (wrong_racks (full_order s)) 14 0 _ tt tt (lit< tt)
    (λ _. refuse_sized (ltb n (length (expanded s))) 52 0 _ tt tt (lit< tt)
    (λ _. accepts (one_count_lem (omega (arith, expanded_small s known)))))))

judgement_small : {A : Type 0} (d : Dec A) → judgement d < 2 ^ 22
unfolding judgement
judgement_small d = cond_either (λ (x : ℕ). x < 2 ^ 22) (holds d) (lit< tt) (lit< tt)

pub vacancy_sized : (o : List ℕ) → Sized OneCount (vacancy_answer o)
unfolding vacancy_answer
vacancy_sized o =
    pass_up_sized (order_answer o) _ (order_sized o)
    (λ v e. refuse_sized (not (eqb (position_count o - rack_count o) 1)) 29 0 _ tt tt (lit< tt)
    (λ _. refuse_sized (not (holds (bi_connected? (floor_of o)))) 21 0 _ tt tt (lit< tt)
    (λ _. accepts (one_count_lem (judgement_small (impossible? (floor_of o) (starts_of o) (goals_of o)))))))

pub planner_sized : (o : List ℕ) (b : ℕ) → Sized NoCounts (refusals o b)
unfolding refusals
planner_sized o b =
    pass_up_sized (floor_answer o) _ (floor_sized o)
    (λ v e. refuse_sized (ltb b (18 * (position_count o * (position_count o * position_count o)) + 3)) 23 0 _ tt tt (lit< tt)
    (λ _. accepts no_counts))

pub made_sized : {o B B' : List ℕ} {a : Answer} → PlanMade o B a B' → Sized OneCount a
made_sized {o} {B} (turned_down e) = refusal_sized (subst (λ (a : Answer). Sized NoCounts a) e (planner_sized o (length B)))
made_sized {o} {B} (made ms e solves) = accepts (one_count_lem (moves_few {B = B} (made ms e solves)))

goals_few : (o : List ℕ) → length (goals_of o) < 128
unfolding goals_of rack_count
goals_few o = omega (arith, length-positions o (24 + 12 * edge_count o + 6 * rack_count o) (rack_count o), field_lt o 15 7)

count_few : (p : List ℕ) → move_count p < 2 ^ 22
unfolding move_count
count_few p = field_lt p 0 22

steps_listed : (s : List ℕ) → length (steps_of s) ≡ step_count s
unfolding steps_of parts_of
steps_listed s = length-map (parts_of s) step_moves ∙ length_parts (step_count s) (drop 3 s)

pub plan_sized : (o p : List ℕ) → Sized OneCount (plan_answer o p)
unfolding plan_answer
plan_sized o p =
    pass_up_sized (order_answer o) _ (order_sized o)
    (λ v e. refuse_sized (wrong_plan_length p) 30 0 _ tt tt (lit< tt)
    (λ _. refuse_sized (plan_padding_set p) 31 0 _ tt tt (lit< tt)
    (λ _. judged_sized 33 (goals_of o) _ (replay_listed (floor_of o) (starts_of o) (plan_listed p))
    (length (plan_listed p)) tt tt (goals_few o)
    (moves_stopping (floor_of o) (starts_of o) (plan_listed p))
    (omega (arith, listed-counted p, count_few p))
    (one_count_lem (count_few p)))))

pub timetable_sized : (o s : List ℕ) → ByteString s → Sized StepsMoves (timetable_answer o s)
unfolding timetable_answer
timetable_sized o s b =
    pass_up_sized (order_answer o) _ (order_sized o)
    (λ v e. refuse_sized (wrong_timetable_length s) 40 0 _ tt tt (lit< tt)
    (λ _. refuse_sized (timetable_padding_set s) 41 0 _ tt tt (lit< tt)
    (λ _. judged_sized 43 (goals_of o) _ (replay_steps (legal_step? (floor_of o)) (starts_of o) (steps_of s)) (length (steps_of s)) tt tt
    (goals_few o) (steps_stopping (floor_of o) (starts_of o) (steps_of s)) (omega (arith, steps_listed s, count_small s))
    (steps_moves (count_small s) (timetable-moves_small s b)))))

pub maker_sized : (o p : List ℕ) (n : ℕ) → Sized OneCount (maker_answer o p n)
unfolding maker_answer
maker_sized o p n =
    pass_up_sized (plan_answer o p) _ (plan_sized o p)
    (λ v e. refuse_sized (ltb n (3 * move_count p + 3)) 44 0 _ tt tt (lit< tt)
    (λ room. accepts (one_count_lem (steps_small o p n _ (sym (pass_up_accepted (plan_answer o p) _ v e ∙ rw room refl))))))

pub shortener_sized : (o p : List ℕ) (n : ℕ) → Sized OneCount (shortener_answer o p n)
unfolding shortener_answer
shortener_sized o p n =
    pass_up_sized (plan_answer o p) _ (plan_sized o p)
    (λ v e. refuse_sized (ltb n (length p)) 37 0 _ tt tt (lit< tt)
    (λ room. accepts (one_count_lem (moves_small o p n _ (sym (pass_up_accepted (plan_answer o p) _ v e ∙ rw room refl))))))

pub converter_sized : (o p : List ℕ) (n : ℕ) → Sized OneCount (converter_answer o p n)
unfolding converter_answer
converter_sized o p n =
    pass_up_sized (plan_answer o p) _ (plan_sized o p)
    (λ v e. refuse_sized (ltb n (length (converted_of o p))) 38 0 _ tt tt (lit< tt) (λ room. accepts (one_count_lem (count_few p))))

pub step_sized : (s : List ℕ) (i : ℕ) → ByteString s → Sized OffsetLength (step_answer s i)
unfolding step_answer
step_sized s i b =
    refuse_sized (wrong_timetable_length s) 40 0 _ tt tt (lit< tt)
    (λ _. refuse_sized (timetable_padding_set s) 41 0 _ tt tt (lit< tt)
    (λ _. refuse_sized (eqb i 0 || ltb (step_count s) i) 45 0 _ tt tt (lit< tt)
    (λ e. let few = ltb-false (step_count s) i (or_right (eqb i 0) (ltb (step_count s) i) e) in
    accepts (offset_length (offset_small s b i few) (length_small s b i)))))

pairs_sized : (k q : ℕ) → q + k ≤ 65535 → (t : Totals) (s : List ℕ) → Sized Any (season_from k q t s)
unfolding season_from
pairs_sized zero q few t [] = accepts tt
pairs_sized zero q few t (b ∷ s) = refuses {number = 47} {place = q} (lit< tt) (lit< tt) (omega arith)
pairs_sized (suc k) q few t [] = accepts tt
pairs_sized (suc k) q few t (b ∷ s) =
    let l = b ∷ s in
    refuse_sized (cut_short l) 46 (suc q) _ tt tt (omega arith)
    (λ _. pairs_sized k (suc q) (omega arith) (counted t (timetable_answer (pair_order l) (pair_timetable l))) (behind_pair l))

pub season_sized : (s : List ℕ) → Sized Any (season_answer s)
unfolding season_answer
season_sized s = pairs_sized 65535 0 (lit≤ tt) _ s

pub carry_sized : (o : List ℕ) (b : ℕ) → Sized StartGoalMoves (carry_answer o b)
unfolding carry_answer
carry_sized o b =
    pass_up_sized (order_answer o) _ (order_sized o)
    (λ v e. refuse_sized (not_connected (floor_of o)) 27 0 _ tt tt (lit< tt)
    (λ whole. refuse_sized (cannot_hold (floor_of o) b) 28 0 _ tt tt (lit< tt)
    (λ room.
    let small = carry_small o b _ _ _ (sym (pass_up_accepted (order_answer o) _ v e ∙ rw (whole, room) refl)) in
    accepts (start_goal_moves_lem small.0 small.1 small.2))))
