-- The starred cases of document 01's case book, as one table, settled by one computed test and one lemma against the definitions that the
-- contracts cite.
--
--     Case               a case: what is judged or made, and what document 01 says of it
--     Made o p s t B     of the plan p for the order o the timetable maker makes s steps in the buffer B: it answers s and leaves the
--                        record t at the front of B, and behind it what stood there
--     Answers o B a b B'    where the planner is said to answer a: a refusal is its answer b, and B' is B; or b counts the moves of an
--                        accepted plan at the front of B'
--     Claim c            what the case claims of the definitions
--     starred            the table
-- Assumes nothing.
use Rattle.std.specs.Prelude.{ℕ, ◌+◌, ◌*◌, ◌≤◌, ◌≡◌, List, [], ◌∷◌, length}
use Rattle.answers.specs.Answer.{Answer, accepted, refused}
use Rattle.field.specs.Writing.{written}
use Rattle.plan.specs.Plan.{move_count, plan_answer}
use Rattle.timetable.specs.Timetable.{timetable_answer}
use Rattle.scheduling.specs.Maker.{maker_answer, buffer_after}
use Rattle.planner.specs.Planner.{refusals, PlanMade}
use Rattle.planner.specs.Planned.{Planned}
use Rattle.floor.specs.CaseBookOrders.{three_in_ring, three_racks, path_of_four}

pub data Case : Type 0 where
  plan_checked : (order plan : List ℕ) → Answer → Case
  timetable_checked : (order timetable : List ℕ) → Answer → Case
  timetable_made : (order plan : List ℕ) (steps : ℕ) (timetable : List ℕ) → Case
  plan_made : (order : List ℕ) (buffer : ℕ) → Answer → Case

pub record Made (o p : List ℕ) (s : ℕ) (t B : List ℕ) : Type 0 where
  pub answer : maker_answer o p (length B) ≡ accepted (s ∷ [])
  pub buffer : buffer_after o p B ≡ written B 0 t

abbrev pub Answers : List ℕ → List ℕ → Answer → Answer → List ℕ → Type 0
Answers o B (refused n p) b B' = (b ≡ refused n p) × (B' ≡ B)
Answers o B (accepted v) b B' = Planned o B b B'

-- a timetable is made in every buffer that 44 passes; the planner is asked with every buffer of that length
abbrev pub Claim : Case → Type 0
Claim (plan_checked order plan a) = plan_answer order plan ≡ a
Claim (timetable_checked order timetable a) = timetable_answer order timetable ≡ a
Claim (timetable_made order plan steps timetable) = (B : List ℕ) → 3 * move_count plan + 3 ≤ length B → Made order plan steps timetable B
Claim (plan_made order buffer a) =
    (refusals order buffer ≡ a)
    × ((B : List ℕ) → length B ≡ buffer → (b : Answer) (B' : List ℕ) → PlanMade order B b B' → Answers order B a b B')

-- F with rack 1 from 0 to 3 and rack 2 from 3 to 0: document 01, "Programs"
abbrev order₁ : List ℕ
order₁ = 0x08 ∷ 0x0A ∷ 0x08 ∷ 0x00 ∷ 0x10 ∷ 0x02 ∷ 0x04 ∷ 0x20 ∷ 0x43 ∷ 0x08 ∷ 0x30 ∷ 0x03 ∷ 0x0C ∷ 0x00 ∷ []

abbrev plan₁ : List ℕ
plan₁ = 0x00 ∷ 0x00 ∷ 0x10 ∷ 0x00 ∷ 0x10 ∷ 0xC2 ∷ 0x08 ∷ 0x00 ∷ 0x43 ∷ []

-- F with rack 1 from 0 to 1 and rack 2 from 1 to 3; moves 1>3 then 0>1
abbrev order₂ : List ℕ
order₂ = 0x08 ∷ 0x0A ∷ 0x08 ∷ 0x00 ∷ 0x10 ∷ 0x02 ∷ 0x04 ∷ 0x20 ∷ 0x43 ∷ 0x08 ∷ 0x30 ∷ 0x01 ∷ 0x04 ∷ 0x30 ∷ []

abbrev plan₂ : List ℕ
plan₂ = 0x00 ∷ 0x00 ∷ 0x08 ∷ 0x04 ∷ 0x30 ∷ 0x01 ∷ []

-- F with racks at 0, 1, 2, going to 1, 2, 0; a step 0>1, 1>2, 2>0
abbrev order₃ : List ℕ
order₃ = 0x08 ∷ 0x0A ∷ 0x0C ∷ 0x00 ∷ 0x10 ∷ 0x02 ∷ 0x04 ∷ 0x20 ∷ 0x43 ∷ 0x08 ∷ 0x30 ∷ 0x01 ∷ 0x08 ∷ 0x10 ∷ 0x80 ∷ []

abbrev ring₃ : List ℕ
ring₃ = 0x00 ∷ 0x00 ∷ 0x04 ∷ 0x03 ∷ 0x00 ∷ 0x10 ∷ 0x42 ∷ 0x08 ∷ 0x00 ∷ []

-- the same starts, going to 1, 0, 2; a step 0>1, 1>0
abbrev order₄ : List ℕ
order₄ = 0x08 ∷ 0x0A ∷ 0x0C ∷ 0x00 ∷ 0x10 ∷ 0x02 ∷ 0x04 ∷ 0x20 ∷ 0x43 ∷ 0x08 ∷ 0x30 ∷ 0x01 ∷ 0x08 ∷ 0x10 ∷ 0x02 ∷ []

abbrev swap₄ : List ℕ
swap₄ = 0x00 ∷ 0x00 ∷ 0x04 ∷ 0x02 ∷ 0x00 ∷ 0x10 ∷ 0x40 ∷ []

-- none of the planner's refusals applies, and what it answers is the count of a plan's moves
abbrev planned : Answer
planned = accepted []

unfoldable pub starred : List Case
starred =
    -- 1. "The plan above is accepted." "Its timetable is 00 00 08 02 00 10 C2 02 04 30 80."
    plan_checked order₁ plan₁ (accepted (4 ∷ []))
    ∷ timetable_made order₁ plan₁ 2 (0x00 ∷ 0x00 ∷ 0x08 ∷ 0x02 ∷ 0x00 ∷ 0x10 ∷ 0xC2 ∷ 0x02 ∷ 0x04 ∷ 0x30 ∷ 0x80 ∷ [])
    -- 2. "On F, rack 1 from 0 to 1, rack 2 from 1 to 3: moves 1>3 then 0>1 make one step."
    ∷ plan_checked order₂ plan₂ (accepted (2 ∷ []))
    ∷ timetable_made order₂ plan₂ 1 (0x00 ∷ 0x00 ∷ 0x04 ∷ 0x02 ∷ 0x00 ∷ 0x10 ∷ 0x43 ∷ [])
    -- 3. "On F, racks at 0, 1, 2: a first step 0>1, 1>2, 2>0 is 42, step 1." "A first step 0>1, 1>0 is 42, step 1."
    ∷ timetable_checked order₃ ring₃ (refused 42 1)
    ∷ timetable_checked order₄ swap₄ (refused 42 1)
    -- 4. Request (d): "The starred case of three positions in a ring with one rack becomes `planned`." "F with three racks: 20; with two:
    -- planned." The buffers are as long as 23 asks, 18 × n × n × n + 3 bytes.
    ∷ plan_made three_in_ring 489 planned
    ∷ plan_made three_racks 1155 (refused 20 0)
    ∷ plan_made order₁ 1155 planned
    -- 5. "Path 0-1, 1-2, 2-3, one rack: 21."
    ∷ plan_made path_of_four 1155 (refused 21 0)
    -- 6. F, buffer of 1,154 bytes: 23; 1,155: planned. Request (h): "case 6 turns at 1,154 and 1,155 bytes."
    ∷ plan_made order₁ 1154 (refused 23 0)
    ∷ plan_made order₁ 1155 planned
    -- 7. "Empty plan for the order above: 33, rack 1."
    ∷ plan_checked order₁ (0x00 ∷ 0x00 ∷ 0x00 ∷ []) (refused 33 1)
    ∷ []
