-- The layers of the answer, from the order reader's acceptance and the tests behind it.
--
--     order_refused      a refusal of the order reader is the answer
--     not_one            29
--     starts_stand, goals_stand    what the tables of the order's racks are, behind 29
--     apart              21
--     colourless, contrary, agreeing    not judged where two colours will not do; with two colours impossible, or not judged
-- Assumes nothing.
use Prim.Native.Nat.{ℕ, ◌+◌, ◌-◌, ◌≤◌}
use mathlib.Core.Path.{◌≡◌, refl, sym, ◌∙◌}
use mathlib.Core.Bool.{Bool, true, false, not, false≢true}
use mathlib.Core.List.{List, [], ◌∷◌}
use mathlib.Core.Logic.{◌↔◌}
use native.Mathlib.Omega.{arith}
use borrow.Author.Tests.{eq-eqb, ne_eqb}
use lib.ListN.{length}
use lib.Dec.{eqb}
use Rattle.std.specs.Prelude.{Result, IsErrAnd}
use Rattle.answers.specs.Answer.{Answer, accepted, refused, refused_by, refuse, holds}
use Rattle.answers.specs.declared.Refusal.{Refusal}
use Rattle.answers.proofs.AnswerLaws.{pass_up_accepted, holds-yes, holds_no, handed_up}
use Rattle.order.specs.Order.{position_count, rack_count, floor_of, starts_of, goals_of, order_answer}
use Rattle.order.specs.Tables.{racks_at, decoded_rows, decoded_starts, decoded_goals}
use Rattle.decoding.proofs.TablesLaws.{decoded_starts_lem, decoded_goals_lem}
use Rattle.motion.specs.Arrangement.{Arrangement}
use Rattle.motion.specs.Sound.{Sound}
use Rattle.tables.specs.Accepted.{OrderGave}
use Rattle.tables.proofs.AcceptedLaws.{gave_accepted}
use Rattle.graph.specs.Connected.{BiConnected}
use Rattle.graph.specs.Rows.{Edge}
use Rattle.floor.specs.FloorAnswer.{Joins, bi_connected?}
use Rattle.floor.proofs.FloorRows.{filled_joins, joins_filled, filled_bi_connected}
use Rattle.parity.specs.Impossible.{Impossible}
use Rattle.parity.specs.OneVacancy.{impossible?, judgement, vacancy_answer}
use Rattle.parity.specs.Verdict.{told as told_of, answer_of}
use Rattle.parity.specs.declared.Hope.{Hope}
use Rattle.parity.specs.Colours.{TwoColours, Coloured}
use Rattle.parity.specs.Work.{Stands, is_in, ContraryOn}
use Rattle.parity.proofs.ColourLaws.{impossible_by}
use Rattle.parity.proofs.VacancyLaws.{vacancy_below}

-- 29, 21 and the judgement
abbrev behind : List ℕ → Answer
behind o =
    refuse (not (eqb (position_count o - rack_count o) 1)) 29 0
    (refuse (not (holds (bi_connected? (floor_of o)))) 21 0
    (accepted (judgement (impossible? (floor_of o) (starts_of o) (goals_of o)) ∷ [])))

-- r is what `?` makes of the order reader's refusal e
pub order_refused : (o : List ℕ) (r : Result Hope Refusal) (e : Refusal) → IsErrAnd r (λ x. x ≡ e)
    → refused_by e.0 e.1 ≡ order_answer o → answer_of r ≡ vacancy_answer o
unfolding vacancy_answer
order_refused o r e is down = handed_up told_of r e is down (behind o)

-- a test that says no of what would hold if it said yes
never : {A : Type 0} {r : Bool} → r ≡ false → (r ≡ true) ↔ A → A → ⊥
never f t a = false≢true (sym f ∙ t.1 a)

module _ {o : List ℕ} {n e m : ℕ} (gave : OrderGave o n e m) where
  over : vacancy_answer o ≡ behind o
  unfolding vacancy_answer
  over = pass_up_accepted (order_answer o) (behind o) (n ∷ e ∷ m ∷ []) (sym (gave_accepted gave))

  positions_are : n ≡ position_count o
  unfolding floor_of
  positions_are = gave.positions_are

  fewer : rack_count o ≤ position_count o
  unfolding floor_of
  fewer = gave.placed_well.task.fewer

  pub not_one : (n ≡ m + 1 → ⊥) → refused 29 0 ≡ vacancy_answer o
  not_one d =
      let p = positions_are in
      let r = gave.racks_are in
      sym (over ∙ rw (ne_eqb (position_count o - rack_count o) 1 (λ x. d (omega (arith, fewer)))) refl)

  module _ (one : n ≡ m + 1) where
    vacancies : eqb (position_count o - rack_count o) 1 ≡ true
    vacancies = let p = positions_are in let r = gave.racks_are in eq-eqb (position_count o - rack_count o) 1 (omega arith)

    stand : (A : Arrangement) {h : List ℕ} → h ≡ racks_at A → Sound (floor_of o).positions A → length A ≡ rack_count o → Stands n A h
    stand A is sound count =
        let p = gave.positions_are in
        let r = gave.racks_are in
        let l = gave.placed_well.few_positions in
        record { few = omega arith; sound = rw p sound; one = omega arith; are = is }

    pub starts_stand : {h : List ℕ} → h ≡ decoded_starts o → Stands n (starts_of o) h
    starts_stand is =
        let w = gave.placed_well in
        stand (starts_of o) (is ∙ decoded_starts_lem o gave.right) w.starts_sound w.starts_length

    pub goals_stand : {h : List ℕ} → h ≡ decoded_goals o → Stands n (goals_of o) h
    goals_stand is =
        let w = gave.placed_well in
        stand (goals_of o) (is ∙ decoded_goals_lem o gave.right) w.goals_sound w.goals_length

    module _ {g : List ℕ} (filled : g ≡ decoded_rows o) where
      same : BiConnected n (Edge g) ↔ BiConnected (floor_of o).positions (Joins (floor_of o))
      same = filled_bi_connected gave filled

      pub apart : (r : Bool) → (r ≡ true) ↔ BiConnected n (Edge g) → r ≡ false → refused 21 0 ≡ vacancy_answer o
      apart r t f = sym (over ∙ rw (vacancies, holds_no (bi_connected? (floor_of o)) (λ b. never f t (same.1 b))) refl)

      module _ (whole : BiConnected n (Edge g)) where
        judged : vacancy_answer o ≡ accepted (judgement (impossible? (floor_of o) (starts_of o) (goals_of o)) ∷ [])
        judged = over ∙ rw (vacancies, holds-yes (bi_connected? (floor_of o)) (same.0 whole)) refl

        abbrev Hopeless : Type 0
        Hopeless = Impossible (floor_of o) (starts_of o) (goals_of o)

        told : Hopeless → accepted (1 ∷ []) ≡ vacancy_answer o
        unfolding judgement
        told i = sym (judged ∙ rw (holds-yes (impossible? (floor_of o) (starts_of o) (goals_of o)) i) refl)

        not_told : (Hopeless → ⊥) → accepted (0 ∷ []) ≡ vacancy_answer o
        unfolding judgement
        not_told i = sym (judged ∙ rw (holds_no (impossible? (floor_of o) (starts_of o) (goals_of o)) i) refl)

        -- two colours by the rows and by the floor
        to_rows : (c : ℕ → Bool) → TwoColours (floor_of o).positions (Joins (floor_of o)) c → TwoColours n (Edge g) c
        to_rows c two u v lu lv j =
            two u v (rw gave.positions_are at lu) (rw gave.positions_are at lv)
            (filled_joins gave filled u v j)

        from-rows : (c : ℕ → Bool) → TwoColours n (Edge g) c → TwoColours (floor_of o).positions (Joins (floor_of o)) c
        from-rows c two u v lu lv j =
            two u v (rw gave.positions_are lu) (rw gave.positions_are lv)
            (joins_filled gave filled u v j)

        pub colourless : (Coloured n (Edge g) → ⊥) → accepted (0 ∷ []) ≡ vacancy_answer o
        colourless none = not_told (λ i. none (record { colour = i.colour; joins_both = to_rows i.colour i.joins_both }))

        module _ {light : ℕ} (two : TwoColours n (Edge g) (is_in light)) {h k : List ℕ} (hs : h ≡ decoded_starts o)
            (ks : k ≡ decoded_goals o) {r : Bool} (on : ContraryOn n h k light r) where
          decided : (r ≡ true) ↔ Hopeless
          decided =
              let S = starts_of o in
              let G = goals_of o in
              let s = starts_stand hs in
              let g' = goals_stand ks in
              let d = on.decides S G s g' in
              let p : n ≡ (floor_of o).positions = gave.positions_are in
              let by_colours =
              impossible_by (floor_of o) S G (same.0 whole).connected
              (rw (← p) (vacancy_below S n s.sound s.one))
              (rw (← p) (vacancy_below G n g'.sound g'.one))
              (is_in light)
              (from-rows (is_in light) two) in
              (λ x. by_colours.1 (rw (← p) (d.0 x)), λ i. d.1 (rw p (by_colours.0 i)))

          pub contrary : r ≡ true → accepted (1 ∷ []) ≡ vacancy_answer o
          contrary x = told (decided.0 x)

          pub agreeing : r ≡ false → accepted (0 ∷ []) ≡ vacancy_answer o
          agreeing f = not_told (never f decided)
