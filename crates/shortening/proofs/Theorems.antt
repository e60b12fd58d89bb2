-- The theorems on shortening.
--
--     removal_keeps    a removal leaves every rack's final place as it was: the moves that are left are legal, and end where they all did
--     one_partner      a move cancels with one earlier move at most
--     one_result       the rule makes one list of a list, and the function gives it
--     shorter          what holds of the result for every accepted plan
-- Assumes nothing.
use Prim.Native.Nat.{ℕ, ◌+◌, ◌-◌, ◌*◌, ◌/◌, ◌^◌, ◌<◌, ◌≤◌}
use mathlib.Core.List.{List, [], ◌∷◌}
use mathlib.Core.Logic.{◌↔◌}
use mathlib.Core.Path.{◌≡◌, refl, sym, ap, ap₂, ◌∙◌, subst}
use native.Mathlib.Omega.{arith}
use lib.Dec.{T}
use lib.ListN.{length}
use Rattle.answers.specs.Answer.{accepted}
use Rattle.field.specs.Listed.{move_size, moves_of}
use Rattle.field.specs.Units.{record_length}
use Rattle.field.proofs.BitLaws.{field_lt}
use Rattle.field.proofs.UnitLaws.{Fitting, fitting}
use Rattle.order.specs.Floor.{Floor}
use Rattle.order.specs.Order.{floor_of, starts_of, goals_of}
use Rattle.motion.specs.Arrangement.{Arrangement}
use Rattle.motion.specs.Replay.{ended, replay_moves, listed}
use Rattle.motion.proofs.Lawful.{Leads, replay_moves_ended}
use Rattle.tables.proofs.AcceptedLaws.{well_placed}
use Rattle.plan.specs.Plan.{plan_bytes, plan_record, named, move_count, plan_listed, plan_moves, plan_units, wrong_plan_length, plan_answer}
use Rattle.plan_check.proofs.Limits.{LeadingPlan, accepted_leads}
use Rattle.plan.proofs.Listing.{moves-listed, length_listing, listing_fits}
use Rattle.plan.proofs.PlanRecord.{moves-counted, length_record, Written, written as read_back}
use Rattle.scheduling.specs.Making.{timed, greatest}
use Rattle.scheduling.proofs.MakerLaws.{timetabled}
use Rattle.shortening.specs.Rule.{cancels, without, Shortens, shortened}
use Rattle.shortening.specs.Shortener.{shortened_of}
use Rattle.shortening.specs.Theorems.{Shorter}
use Rattle.cancelling.proofs.LookingLaws.{bytes_fewer}
use Rattle.shortening.proofs.RuleLaws.{partner_unique, shortens_unique, shortened_rule, shortens_none, shortens_length}
use Rattle.shortening.proofs.RuleLaws.{shortens_again}
use Rattle.shortening.proofs.RemovalLaws.{removal_leads, shortens_leads}

pub removal_keeps : (F : Floor) (A B : Arrangement) (ms : List (ℕ × ℕ)) (i j : ℕ) → replay_moves F A ms ≡ ended B → T (cancels A ms i j)
    → replay_moves F A (without ms i j) ≡ ended B
removal_keeps F A B ms i j e c =
    (replay_moves_ended F A (without ms i j) B).1 (removal_leads F ms i j c ((replay_moves_ended F A ms B).0 e))

pub one_partner : (A : Arrangement) (ms : List (ℕ × ℕ)) (i i' j : ℕ) → T (cancels A ms i j) → T (cancels A ms i' j) → i ≡ i'
one_partner = partner_unique

pub one_result : (A : Arrangement) (ms ns : List (ℕ × ℕ)) → Shortens A ms ns ↔ (ns ≡ shortened A ms)
one_result A ms ns = (
  λ s. shortens_unique A s (shortened_rule A ms),
  λ e. subst (λ (l : List (ℕ × ℕ)). Shortens A ms l) (sym e) (shortened_rule A ms),
)

module _ (o p v : List ℕ) (e : plan_answer o p ≡ accepted v) where
  gave : LeadingPlan o p v
  gave = (accepted_leads o p v).0 e

  abbrev left : List (ℕ × ℕ)
  left = shortened_of o p

  ruled : Shortens (starts_of o) (plan_moves p) left
  unfolding shortened_of
  ruled = shortened_rule (starts_of o) (plan_moves p)

  leads : Leads (floor_of o) (starts_of o) left (goals_of o)
  leads = shortens_leads (floor_of o) ruled gave.leads

  few : length left ≤ move_count p
  few = omega (arith, shortens_length (starts_of o) ruled, moves-counted p)

  small : move_count p < 2 ^ 22
  unfolding move_count
  small = field_lt p 0 22

  -- what is left, as the edition of p lists it
  rest : List (ℕ × ℕ × ℕ)
  rest = listed (named p) (starts_of o) left

  made : List ℕ
  made = plan_record (named p) (starts_of o) left

  read : Written (named p) rest
  unfolding rest
  read =
      let g = well_placed o gave.order_right in
      read_back (named p) (listed (named p) (starts_of o) left)
      (omega (arith, length_listing (named p) (starts_of o) left, few, small))
      (listing_fits (named p) (floor_of o) g.few_positions (rw g.starts_length g.few_racks) leads)

  record_is : made ≡ plan_bytes (named p) rest
  unfolding made plan_record rest
  record_is = refl

  edition_is : named made ≡ named p
  edition_is = rw record_is read.edition_is

  listed_are : plan_listed made ≡ rest
  listed_are = rw record_is read.listed_are

  moves_are : plan_moves made ≡ left
  unfolding plan_moves rest
  moves_are = ap moves_of listed_are ∙ moves-listed (named p) (starts_of o) left

  count_is : move_count made ≡ length left
  unfolding rest
  count_is = rw record_is read.count_is ∙ length_listing (named p) (starts_of o) left

  accepted_too : plan_answer o made ≡ accepted (length left ∷ [])
  unfolding rest
  accepted_too =
      (accepted_leads o made (length left ∷ [])).1
      (record {
        order_right = gave.order_right;
        length_right = rw record_is read.length_right;
        padding_clear = rw record_is read.padding_clear;
        counted = ap (λ (k : ℕ). k ∷ []) count_is;
        leads = rw moves_are leads;
        racks_told = rw (edition_is, moves_are) listed_are;
      })

  fit : Fitting p (plan_units p)
  unfolding wrong_plan_length
  fit = fitting p (plan_units p) gave.length_right

  short : length made ≤ length p
  unfolding made record_length plan_units
  short =
      let size : length (plan_record (named p) (starts_of o) left) ≡ 3 + (6 * (move_size (named p) * length left) + 7) / 8 =
      length_record (named p) (starts_of o) left in
      let given : length p ≡ 3 + (6 * (move_size (named p) * move_count p) + 7) / 8 = fit.length_is in
      let less = bytes_fewer (named p) (length left) (move_count p) (length p - 3) few (omega (arith, given)) in
      omega (arith, size, less, fit.head_there)

  stays : shortened_of o made ≡ left
  unfolding shortened_of
  stays = ap (shortened (starts_of o)) moves_are ∙ shortens_again (starts_of o) ruled

  pub shorter : Shorter o p
  unfolding made
  shorter =
      record {
        by_rule = ruled;
        accepted_too = accepted_too;
        moves_at_most = few;
        bytes_at_most = short;
        no_pair = shortens_none (starts_of o) ruled;
        stays = stays;
        timetabled =
            (timetabled o made (length left ∷ []) accepted_too).checked
            ∙ ap₂ (λ (ms : List (ℕ × ℕ)) (k : ℕ). accepted (greatest (timed (starts_of o) [] ms) ∷ k ∷ [])) moves_are count_is;
      }
