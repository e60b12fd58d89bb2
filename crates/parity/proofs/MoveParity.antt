-- Why `impossible` is so: each legal move exchanges two entries of the permutation and takes the vacancy to the other colour, so both
-- change together or neither does.
--
--     differ b d         0 where the two colours are the same, 1 where they differ
--     differ_flips       a colour and the other one: just one of them differs from a third
--     agreed             where moves lead to the goals, the inversions and the vacancy's colours agree in parity
--     no_moves           so where the change is contrary by some colours, no moves lead there
-- Assumes nothing.
use Prim.Native.Nat.{ℕ, ◌+◌, ◌%◌}
use mathlib.Core.Path.{◌≡◌, refl, sym, ap, ◌∙◌}
use mathlib.Core.Bool.{Bool, true, false}
use mathlib.Core.List.{List}
use mathlib.Core.Logic.{◌≢◌, inl, inr}
use native.Mathlib.Omega.{arith}
use lib.ListN.{length}
use lib.Dec.{T}
use Rattle.order.specs.Floor.{Floor}
use Rattle.motion.specs.Arrangement.{Arrangement}
use Rattle.motion.specs.Move.{legal_move, after_move}
use Rattle.motion.specs.Sound.{Sound}
use Rattle.motion.proofs.Lawful.{Leads, still, ◌then◌}
use Rattle.motion.proofs.MoveLaws.{legal_parts, legal_apart, on_floor_parts, move-length}
use Rattle.motion.proofs.SoundLaws.{move_sound, leads_sound, leads_length}
use Rattle.floor.specs.FloorAnswer.{Joins}
use Rattle.parity.specs.Colours.{TwoColours}
use Rattle.parity.specs.Permutation.{vacancy, goal_of, change, inversions}
use Rattle.parity.specs.Impossible.{Contrary, Impossible}
use Rattle.parity.proofs.InversionLaws.{exchange_parity, values_same, sorted_none}
use Rattle.parity.proofs.VacancyLaws.{vacancy_only}
use Rattle.parity.proofs.ChangeLaws.{goal-apart, goal-home, goal-left, goal-entered, goal_other, left-vacant}

unfoldable pub differ : Bool → Bool → ℕ
differ true true = 0
differ true false = 1
differ false true = 1
differ false false = 0

differ_same : (b d : Bool) → b ≡ d → differ b d ≡ 0
unfolding differ
differ_same true true e = refl
differ_same true false e = let z : ◌≡◌ {A = ℕ} 0 1 = cc in omega arith
differ_same false true e = let z : ◌≡◌ {A = ℕ} 0 1 = cc in omega arith
differ_same false false e = refl

differ_other : (b d : Bool) → b ≢ d → differ b d ≡ 1
unfolding differ
differ_other true true e = absurd (e refl)
differ_other true false e = refl
differ_other false true e = refl
differ_other false false e = absurd (e refl)

pub differ_flips : (a b d : Bool) → a ≢ b → differ a d + differ b d ≡ 1
unfolding differ
differ_flips true true d e = absurd (e refl)
differ_flips true false true e = refl
differ_flips true false false e = refl
differ_flips false true true e = refl
differ_flips false true false e = refl
differ_flips false false d e = absurd (e refl)

-- from the goals to the goals: no inversions
home_none : (n : ℕ) (G : Arrangement) → Sound n G → length G + 1 ≡ n → inversions (change n G G) ≡ 0
unfolding change
home_none n G g one =
    ap inversions (values_same (goal_of n G G) (λ p. p) 0 n (λ p a b. goal-home n G g one p (omega arith)))
    ∙ sorted_none (λ p. p) 0 n (λ p q a b c. omega arith)

module _ (F : Floor) (c : ℕ → Bool) (two : TwoColours F.positions (Joins F) c) where
  abbrev n : ℕ
  n = F.positions

  -- one legal move: the inversions change their parity, and the vacancy its colour
  module _ (G A : Arrangement) (g : Sound n G) (one : length G + 1 ≡ n) (s : Sound n A) (same : length A ≡ length G) (m : ℕ × ℕ)
      (l : T (legal_move F A m)) where
    inversions-change : (inversions (change n A G) + inversions (change n (after_move A m) G)) % 2 ≡ 1
    unfolding change
    inversions-change =
        let on = (on_floor_parts F m).0 ((legal_parts F A m).0 l).0 in
        exchange_parity (goal_of n A G) (goal_of n (after_move A m) G) n m.0 m.1 on.0 on.1 (legal_apart F A m l)
        (goal-left F G A s m l)
        (goal-entered F G A s m l)
        (λ p h d e. goal_other F G A s m l p d e)
        (goal-apart n G g one A s same)

    colour_changes : differ (c (vacancy n A)) (c (vacancy n G)) + differ (c (vacancy n (after_move A m))) (c (vacancy n G)) ≡ 1
    colour_changes =
        let on = (on_floor_parts F m).0 ((legal_parts F A m).0 l).0 in
        let here : m.1 ≡ vacancy n A = vacancy_only A n s (rw same one) m.1 on.1 ((legal_parts F A m).0 l).2 in
        let length_B : length (after_move A m) + 1 ≡ n = rw (move-length A m, same) one in
        let there : m.0 ≡ vacancy n (after_move A m) =
        vacancy_only (after_move A m) n (move_sound F A m l s) length_B m.0 on.0 (left-vacant F G A s m l) in
        differ_flips (c (vacancy n A)) (c (vacancy n (after_move A m))) (c (vacancy n G))
        (λ e. two m.0 m.1 on.0 on.1 on.2 (ap c there ∙ sym e ∙ ap c (sym here)))

  pub agreed : {A G : Arrangement} {ms : List (ℕ × ℕ)} → Sound n A → length A + 1 ≡ n → Leads F A ms G
      → (inversions (change n A G) + differ (c (vacancy n A)) (c (vacancy n G))) % 2 ≡ 0
  agreed (s) one (still {A = G}) =
      let none = home_none n G s one in
      let d = differ_same (c (vacancy n G)) (c (vacancy n G)) refl in
      omega arith
  agreed {G = G} s one (◌then◌ {A = A} {x = m} l p) =
      let s' = move_sound F A m l s in
      let long = move-length A m in
      let g = leads_sound F s' p in
      let far = leads_length F p in
      let i = inversions-change G A g (omega arith) s (omega arith) m l in
      let k = colour_changes G A g (omega arith) s (omega arith) m l in
      let rest = agreed s' (omega arith) p in
      omega arith

  pub contrary_none : {A G : Arrangement} {ms : List (ℕ × ℕ)} → Sound n A → length A + 1 ≡ n → Contrary n A G c → Leads F A ms G → ⊥
  contrary_none {A} {G} s one (inl h) p =
      let a = agreed s one p in
      let o = h.0 in
      let d = differ_same (c (vacancy n A)) (c (vacancy n G)) h.1 in
      omega arith
  contrary_none {A} {G} s one (inr h) p =
      let a = agreed s one p in
      let o = h.0 in
      let d = differ_other (c (vacancy n A)) (c (vacancy n G)) h.1 in
      omega arith

pub no_moves : (F : Floor) (S G : Arrangement) → Sound F.positions S → length S + 1 ≡ F.positions → Impossible F S G
    → (ms : List (ℕ × ℕ)) → Leads F S ms G → ⊥
no_moves F S G s one i ms p = contrary_none F i.colour i.joins_both s one i.contrary p
