-- The order reader's layers: what each reader answers, from the lower reader's answer and its own test.
--
--     HeadGave s n e m, head_gave    what an accepted head tells
--     tail_there, tail_room          so there is a tail, and the units have room in it
--     edges_wrong, edges_right       13
--     order_is                       the table of document 01 as the last layer above the edge reader
--     EdgesGave s n e m, edges_gave  what acceptance by the edge reader tells
--     edges_down                     what the edge reader refuses is refused
--     none_filled                    a refusal says nothing of the rows
--     starts_refused, goals-judged   the starts and the goals, judged one after the other
--     tail-rows                      the rows of the tail's edges are the floor's
--     racks_wrong, racks_right       14
--     rows_filled, starts_filled, goals_filled    the tables of a decoded order
--     no_rows, no_starts, no_goals   the tables behind a refusal
-- Assumes nothing.
use Prim.Native.Nat.{ℕ, ◌+◌, ◌-◌, ◌*◌, ◌≤◌, ◌<◌}
use mathlib.Core.Path.{◌≡◌, refl, sym, ap, ◌∙◌}
use mathlib.Core.Bool.{Bool, true, false, not, false≢true}
use native.Mathlib.Omega.{arith}
use mathlib.Core.List.{List, [], ◌∷◌}
use lib.ListN.{length, take, drop, replicate}
use borrow.Author.Tests.{not-true, not-false}
use Rattle.answers.specs.Answer.{Answer, accepted, refused, refused_by, refuse, pass_up}
use Rattle.answers.proofs.AnswerLaws.{refuse_not, refuse_else, pass_up-low, pass_up-high, pass_up_accepted, handed_up}
use Rattle.field.specs.Bits.{pairs, positions}
use Rattle.field.proofs.BitLaws.{field_lt}
use Rattle.order.specs.Floor.{Floor}
use Rattle.order.specs.Order.{position_count, edge_count, rack_count, floor_of, starts_of, goals_of, order_of, counts, wrong_length}
use Rattle.order.specs.Order.{wrong_positions, padding_set, wrong_edges, wrong_places, wrong_racks, order_answer}
use Rattle.order.proofs.OrderLaws.{RightHead, right_head}
use Rattle.order.proofs.TailLaws
use Rattle.order.specs.declared.Counts.{Counts}
use Rattle.std.specs.Prelude.{Result, IsErrAnd}
use Rattle.answers.specs.declared.Refusal.{Refusal}
use Rattle.order.specs.Verdict.{told as told_of, answer_of}
use Rattle.order.specs.Readers.{head_answer, edges_answer, FilledRows, RacksJudged}
use Rattle.order.specs.Tables.{joined_rows, rows_of, racks_at, unless_refused, decoded_rows, decoded_starts, decoded_goals}

-- what the head reader's acceptance with n, e and m tells
pub record HeadGave (s : List ℕ) (n e m : ℕ) : Type 0 where
  pub accepted_is : accepted (n ∷ e ∷ m ∷ []) ≡ head_answer s
  pub head : RightHead s
  pub positions_are : n ≡ position_count s
  pub edges_are : e ≡ edge_count s
  pub racks_are : m ≡ rack_count s
  pub edges_below : edge_count s < 256
  pub racks_below : rack_count s < 128

head_of : (s v : List ℕ) → head_answer s ≡ accepted v → RightHead s × (accepted (counts s) ≡ accepted v)
unfolding head_answer
head_of s v e =
    let a₂ = refuse (padding_set s) 12 0 (accepted (counts s)) in
    let a₁ = refuse (wrong_positions s) 11 0 a₂ in
    let e₁ : a₁ ≡ accepted v = refuse_else (wrong_length s) 10 0 a₁ v e in
    let e₂ : a₂ ≡ accepted v = refuse_else (wrong_positions s) 11 0 a₂ v e₁ in (
      right_head s (refuse_not (wrong_length s) 10 0 a₁ v e) (refuse_not (wrong_positions s) 11 0 a₂ v e₁),
      refuse_else (padding_set s) 12 0 (accepted (counts s)) v e₂,
    )

pub head_gave : {s : List ℕ} {n e m : ℕ} → accepted (n ∷ e ∷ m ∷ []) ≡ head_answer s → HeadGave s n e m
unfolding counts edge_count rack_count
head_gave {s} {n} {e} {m} a =
    let same = (head_of s (n ∷ e ∷ m ∷ []) (sym a)).1 in
    record {
      accepted_is = a;
      head = (head_of s (n ∷ e ∷ m ∷ []) (sym a)).0;
      positions_are = cc same;
      edges_are = cc same;
      racks_are = cc same;
      edges_below = field_lt s 7 8;
      racks_below = field_lt s 15 7;
    }

module _ {s : List ℕ} {n e m : ℕ} (gave : HeadGave s n e m) where
  pub tail_there : 3 ≤ length s
  tail_there = gave.head.fit.head_there

  pub tail_room : 12 * (e + m) ≤ 8 * length (take (length s - 3) (drop 3 s))
  tail_room = TailLaws.tail_room s e m gave.edges_are gave.racks_are gave.head.fit

  floor_is : record { positions = n; edges = pairs (take (length s - 3) (drop 3 s)) 0 e } ≡ floor_of s
  unfolding floor_of
  floor_is = λ i. record { positions = gave.positions_are i; edges = TailLaws.tail_edges s e m gave.edges_are gave.racks_are i }

  pub tail-rows : {g : List ℕ} → g ≡ joined_rows (replicate 64 0) (pairs (take (length s - 3) (drop 3 s)) 0 e) → g ≡ rows_of (floor_of s)
  unfolding rows_of
  tail-rows is = is ∙ ap (joined_rows (replicate 64 0)) (TailLaws.tail_edges s e m gave.edges_are gave.racks_are)

  counts_are : n ∷ e ∷ m ∷ [] ≡ counts s
  unfolding counts
  counts_are = rw (gave.positions_are, gave.edges_are, gave.racks_are) refl

  module _ {r : Bool}
      (t : r ≡ not (wrong_edges (record { positions = n; edges = pairs (take (length s - 3) (drop 3 s)) 0 e }))) where
    edges_test : r ≡ not (wrong_edges (floor_of s))
    edges_test = t ∙ ap (λ (F : Floor). not (wrong_edges F)) floor_is

    over : edges_answer s ≡ refuse (wrong_edges (floor_of s)) 13 0 (accepted (counts s))
    unfolding edges_answer
    over = pass_up_accepted (head_answer s) _ (n ∷ e ∷ m ∷ []) (sym gave.accepted_is)

    pub edges_wrong : r ≡ false → refused 13 0 ≡ edges_answer s
    edges_wrong f = sym (over ∙ rw (not-false (wrong_edges (floor_of s)) (sym edges_test ∙ f)) refl)

    pub edges_right : r ≡ true → accepted (n ∷ e ∷ m ∷ []) ≡ edges_answer s
    edges_right f = ap accepted counts_are ∙ sym (over ∙ rw (not-true (wrong_edges (floor_of s)) (sym edges_test ∙ f)) refl)

-- a refusal says nothing of the rows
pub none_filled : (s g : List ℕ) (a : Answer) (k place : ℕ) → a ≡ refused k place → FilledRows s a g
none_filled s g a k place down = record { rows_are = λ v up. absurd (never v (sym down ∙ up)) }
  where
    never : (v : List ℕ) → refused k place ≡ accepted v → ⊥
    never v y = let z : ◌≡◌ {A = ℕ} 0 1 = cc in omega arith

-- the starts and the goals of a tail, judged one after the other
module _ (s : List ℕ) (n e m : ℕ) (h₀ h₁ : List ℕ) (r : Bool) (first : r ≡ not (wrong_places n (positions s (6 * (2 * e)) m))) where
  pub starts_refused : r ≡ false → RacksJudged s n e m false h₀ h₁
  starts_refused f =
      record {
        judged = rw (not-false (wrong_places n (positions s (6 * (2 * e)) m)) (sym first ∙ f)) refl;
        starts_are = λ y. absurd (false≢true y);
        goals_are = λ y. absurd (false≢true y);
      }

  pub goals-judged : r ≡ true → (r ≡ true → h₀ ≡ racks_at (positions s (6 * (2 * e)) m)) → (q : Bool)
      → q ≡ not (wrong_places n (positions s (6 * (2 * e + m)) m)) → (q ≡ true → h₁ ≡ racks_at (positions s (6 * (2 * e + m)) m))
      → RacksJudged s n e m q h₀ h₁
  goals-judged t starts q second goals =
      record {
        judged = second ∙ rw (not-true (wrong_places n (positions s (6 * (2 * e)) m)) (sym first ∙ t)) refl;
        starts_are = λ _. starts t;
        goals_are = goals;
      }

pub order_is : (s : List ℕ) → order_answer s ≡ pass_up (edges_answer s) (refuse (wrong_racks (order_of s)) 14 0 (accepted (counts s)))
unfolding order_answer edges_answer head_answer
order_is s =
    chain (wrong_length s) (wrong_positions s) (padding_set s) (wrong_edges (floor_of s))
    (refuse (wrong_racks (order_of s)) 14 0 (accepted (counts s)))
  where
    chain : (a b c d : Bool) (rest : Answer)
        → refuse a 10 0 (refuse b 11 0 (refuse c 12 0 (refuse d 13 0 rest)))
        ≡ pass_up (pass_up (refuse a 10 0 (refuse b 11 0 (refuse c 12 0 (accepted (counts s))))) (refuse d 13 0 (accepted (counts s)))) rest
    chain true b c d rest = refl
    chain false true c d rest = refl
    chain false false true d rest = refl
    chain false false false true rest = refl
    chain false false false false rest = refl

edges_head : (s : List ℕ) (n e m : ℕ) → accepted (n ∷ e ∷ m ∷ []) ≡ edges_answer s → HeadGave s n e m
unfolding edges_answer
edges_head s n e m a = head_gave (ap accepted same ∙ sym head_is)
  where
    low : (w : List ℕ) × (head_answer s ≡ accepted w)
    low = pass_up-low (head_answer s) (refuse (wrong_edges (floor_of s)) 13 0 (accepted (counts s))) (n ∷ e ∷ m ∷ []) (sym a)

    own : accepted (counts s) ≡ accepted low.0
    own = (head_of s low.0 low.1).1

    rest : accepted (counts s) ≡ accepted (n ∷ e ∷ m ∷ [])
    rest =
        refuse_else (wrong_edges (floor_of s)) 13 0 (accepted (counts s)) (n ∷ e ∷ m ∷ [])
        (pass_up-high (head_answer s) (refuse (wrong_edges (floor_of s)) 13 0 (accepted (counts s))) (n ∷ e ∷ m ∷ []) (sym a))

    same : n ∷ e ∷ m ∷ [] ≡ counts s
    same = cc rest

    head_is : head_answer s ≡ accepted (counts s)
    head_is = low.1 ∙ sym own

-- what the edge reader's acceptance with n, e and m tells
pub record EdgesGave (s : List ℕ) (n e m : ℕ) : Type 0 where
  pub accepted_is : accepted (n ∷ e ∷ m ∷ []) ≡ edges_answer s
  pub head : HeadGave s n e m

-- r is what `?` makes of the edge reader's refusal e
pub edges_down : (s : List ℕ) (r : Result Counts Refusal) (e : Refusal) → IsErrAnd r (λ x. x ≡ e)
    → refused_by e.0 e.1 ≡ edges_answer s → answer_of r ≡ order_answer s
edges_down s r e is down = handed_up told_of r e is down _ ∙ sym (order_is s)

pub edges_gave : {s : List ℕ} {n e m : ℕ} → accepted (n ∷ e ∷ m ∷ []) ≡ edges_answer s → EdgesGave s n e m
edges_gave a = record { accepted_is = a; head = edges_head _ _ _ _ a }

module _ {s : List ℕ} {n e m : ℕ} (told : EdgesGave s n e m) where
  gave : HeadGave s n e m
  gave = told.head

  over_edges : order_answer s ≡ refuse (wrong_racks (order_of s)) 14 0 (accepted (counts s))
  over_edges =
      order_is s ∙ pass_up_accepted (edges_answer s) (refuse (wrong_racks (order_of s)) 14 0 (accepted (counts s))) (n ∷ e ∷ m ∷ [])
      (sym told.accepted_is)

  module _ {r : Bool} {h₀ h₁ : List ℕ} (judged : RacksJudged (take (length s - 3) (drop 3 s)) n e m r h₀ h₁) where
    starts_are : positions (take (length s - 3) (drop 3 s)) (6 * (2 * e)) m ≡ starts_of s
    starts_are = TailLaws.tail-starts s e m gave.edges_are gave.racks_are

    goals_are : positions (take (length s - 3) (drop 3 s)) (6 * (2 * e + m)) m ≡ goals_of s
    goals_are = TailLaws.tail-goals s e m gave.edges_are gave.racks_are

    racks_test : r ≡ not (wrong_racks (order_of s))
    unfolding wrong_racks order_of floor_of
    racks_test = judged.judged ∙ rw (gave.positions_are, starts_are, goals_are) refl

    pub racks_wrong : r ≡ false → refused 14 0 ≡ order_answer s
    racks_wrong f = sym (over_edges ∙ rw (not-false (wrong_racks (order_of s)) (sym racks_test ∙ f)) refl)

    module _ (f : r ≡ true) where
      pub racks_right : accepted (n ∷ e ∷ m ∷ []) ≡ order_answer s
      racks_right =
          ap accepted (counts_are gave) ∙ sym (over_edges ∙ rw (not-true (wrong_racks (order_of s)) (sym racks_test ∙ f)) refl)

      pub starts_filled : h₀ ≡ decoded_starts s
      unfolding decoded_starts
      starts_filled = judged.starts_are f ∙ ap racks_at starts_are ∙ ap (λ (x : Answer). unless_refused x
          (racks_at (starts_of s))) racks_right

      pub goals_filled : h₁ ≡ decoded_goals s
      unfolding decoded_goals
      goals_filled = judged.goals_are f ∙ ap racks_at goals_are ∙ ap (λ (x : Answer). unless_refused x (racks_at (goals_of s))) racks_right

      pub rows_filled : {g : List ℕ} → g ≡ rows_of (floor_of s) → g ≡ decoded_rows s
      unfolding decoded_rows
      rows_filled is = is ∙ ap (λ (x : Answer). unless_refused x (rows_of (floor_of s))) racks_right

-- the tables behind a refusal
module _ (s : List ℕ) (k place : ℕ) (down : refused k place ≡ order_answer s) where
  pub no_rows : replicate 64 0 ≡ decoded_rows s
  unfolding decoded_rows
  no_rows = ap (λ (x : Answer). unless_refused x (rows_of (floor_of s))) down

  pub no_starts : replicate 64 0 ≡ decoded_starts s
  unfolding decoded_starts
  no_starts = ap (λ (x : Answer). unless_refused x (racks_at (starts_of s))) down

  pub no_goals : replicate 64 0 ≡ decoded_goals s
  unfolding decoded_goals
  no_goals = ap (λ (x : Answer). unless_refused x (racks_at (goals_of s))) down
