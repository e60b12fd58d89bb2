-- A step turned round by a row: where each move goes is noted by the position that it enters, and the row read in ascending order has the
-- moves turned round, ascending.
--
--     origins_entered, origins_other   what the row has where a move enters, and where none does
--     row_iff                     which moves the row has; row-ascends: they ascend
--     row-turned                  of a step that enters no position twice they are its moves, turned round
--     Noting d w₀ w j             after move j the rest of the moves decides the row; noting_first, noting_next, noting_last
--     origins_low                 a row of moves of positions below 64 is low
--     Listing w all d k p         the table d begins with the k moves of the row w for the positions below p, and is long enough
--     listing_first, listing_none, listing_more, listing_last
-- Assumes nothing.
use Prim.Native.Nat.{ℕ, zero, suc, ◌+◌, ◌-◌, ◌*◌, ◌/◌, ◌%◌, ◌≤◌, ◌<◌}
use mathlib.Core.Path.{◌≡◌, refl, sym, ap, ◌∙◌, subst}
use mathlib.Core.Bool.{not}
use mathlib.Core.List.Pairwise
use mathlib.Core.List.{List, [], ◌∷◌, ◌++◌, Memᴰ}
use mathlib.Core.List.{append-nil, append_assoc}
use mathlib.Core.Logic.{◌↔◌, ◌≢◌, ⊎_elim}
use native.Mathlib.Omega.{arith}
use native.Mathlib.Bridge.{le_prop}
use native.Mathlib.Numerals.{add-one}
use borrow.Author.Tests.{eq-eqb, ne_eqb}
use lib.Dec.{T, T_not}
use lib.ListN.{length, get_or, set, take, replicate, length-set, length-replicate}
use lib.Seq.{get_or-set_same, get_or-set_other, take-suc-set}
use Rattle.field.specs.Bytes.{BelowPairs, none₂, more₂}
use Rattle.motion.specs.StepTests.{Ascends, EnteredOnce}
use Rattle.motion.specs.TurnedStep.{turned, turned_step}
use Rattle.motion.proofs.ListLaws.{by_member, pairwise_more, pairwise_rel}
use Rattle.motion.specs.Step.{enters}
use Rattle.motion.proofs.StepTestsLaws.{enters_iff}
use Rattle.motion.proofs.StepOfLaws.{ascending-same}
use Rattle.motion.proofs.TurnedStepLaws.{turned_iff, turned-ascends}
use Rattle.motion.proofs.Test.{decided, equal?}
use Rattle.tables.proofs.TableLaws.{zeros_at}
use Rattle.chains.specs.StepOn.{moves_of}
use Rattle.chains.proofs.Moves.{Left, left-first, left-next, left_last, moves_from, moves_at, moves_none}
use Rattle.stepping.specs.Judging.{origins_of, OriginsLow, row_moves}

-- the row

pub origins_length : (w : List ℕ) (ms : List (ℕ × ℕ)) → length (origins_of w ms) ≡ length w
unfolding origins_of
origins_length w [] = refl
origins_length w (m ∷ ms) = origins_length (set w m.1 (m.0 + 1)) ms ∙ length-set w m.1 (m.0 + 1)

pub origins_other : (w : List ℕ) (ms : List (ℕ × ℕ)) (q : ℕ) → ((m : ℕ × ℕ) → Memᴰ m ms → m.1 ≢ q)
    → get_or (origins_of w ms) q 0 ≡ get_or w q 0
unfolding origins_of
origins_other w [] q away = refl
origins_other w (m ∷ ms) q away =
    origins_other (set w m.1 (m.0 + 1)) ms q (λ x k. away x (mathlib.Core.List.Memᴰ.tail k))
    ∙ get_or-set_other w m.1 q (m.0 + 1) 0 (λ e. away m (mathlib.Core.List.Memᴰ.head refl) (sym e))

pub origins_entered : (w : List ℕ) (ms : List (ℕ × ℕ)) {m : ℕ × ℕ} → EnteredOnce ms → Memᴰ m ms → m.1 < length w
    → get_or (origins_of w ms) m.1 0 ≡ m.0 + 1
unfolding origins_of
origins_entered w [] o k l = absurd (mathlib.Core.List.Memᴰ.not-nil k)
origins_entered w (x ∷ ms) {m} o k l =
    by_member k
    (λ e.
    rw e
    (origins_other (set w x.1 (x.0 + 1)) ms x.1 (λ y n z. pairwise_rel o n (sym z))
    ∙ get_or-set_same w x.1 (x.0 + 1) 0 (rw e at l)))
    (λ n. origins_entered (set w x.1 (x.0 + 1)) ms (Pairwise.of_cons o) n (rw (length-set w x.1 (x.0 + 1)) l))

pub origins_low : (w : List ℕ) {ms : List (ℕ × ℕ)} → BelowPairs 64 ms → length w ≡ 64 → OriginsLow w → OriginsLow (origins_of w ms)
unfolding origins_of
origins_low w none₂ n low = low
origins_low w (more₂ {p = m} {l = ms} a b r) n low =
    origins_low (set w m.1 (m.0 + 1)) r (length-set w m.1 (m.0 + 1) ∙ n)
    (λ q.
    ⊎_elim
    (λ (e : q ≡ m.1). rw (e, get_or-set_same w m.1 (m.0 + 1) 0 (omega arith)) (omega arith))
    (λ (d : q ≢ m.1). rw (get_or-set_other w m.1 q (m.0 + 1) 0 d) (low q))
    (equal? q m.1))

below_entered : {ms : List (ℕ × ℕ)} → BelowPairs 64 ms → {y : ℕ × ℕ} → Memᴰ y ms → y.1 < 64
below_entered none₂ k = absurd (mathlib.Core.List.Memᴰ.not-nil k)
below_entered (more₂ {p = m} a b r) {y} k = by_member k (λ e. subst (λ (x : ℕ × ℕ). x.1 < 64) (sym e) b) (λ n. below_entered r n)

-- the moves of the row

-- what the row has for the position of a move
abbrev Has : List ℕ → ℕ → ℕ → ℕ × ℕ → Type 0
Has w p k m = (p ≤ m.0) × (m.0 < p + k) × (get_or w m.0 0 ≡ m.1 + 1)

-- the row at its first position
row_none : (w : List ℕ) (p k : ℕ) → get_or w p 0 ≡ 0 → row_moves w p (suc k) ≡ row_moves w (p + 1) k
unfolding row_moves
row_none w p k e = rw (eq-eqb (get_or w p 0) 0 e) refl

row-some : (w : List ℕ) (p k : ℕ) → get_or w p 0 ≢ 0 → row_moves w p (suc k) ≡ (p, get_or w p 0 - 1) ∷ row_moves w (p + 1) k
unfolding row_moves
row-some w p k d = rw (ne_eqb (get_or w p 0) 0 d) refl

row_end : (w : List ℕ) (p : ℕ) → row_moves w p 0 ≡ []
unfolding row_moves
row_end w p = refl

module _ (w : List ℕ) (p k : ℕ) (m : ℕ × ℕ) (rest : Memᴰ m (row_moves w (p + 1) k) ↔ Has w (p + 1) k m) where
  later : (p ≡ m.0 → ⊥) → Has w p (suc k) m → Memᴰ m (row_moves w (p + 1) k)
  later ne h =
      let low : p ≤ m.0 = h.0 in
      let high : m.0 < p + suc k = h.1 in
      rest.1 (omega (arith, ne), omega arith, h.2)

  sooner : Memᴰ m (row_moves w (p + 1) k) → Has w p (suc k) m
  sooner n =
      let h = rest.0 n in
      let low : p + 1 ≤ m.0 = h.0 in
      let high : m.0 < p + 1 + k = h.1 in
      (omega arith, omega arith, h.2)

  is_none : get_or w p 0 ≡ 0 → Memᴰ m (row_moves w (p + 1) k) ↔ Has w p (suc k) m
  is_none e = (
    sooner,
    λ h. later (λ q. let z : 0 ≡ m.1 + 1 = sym e ∙ ap (λ (x : ℕ). get_or w x 0) q ∙ h.2 in omega arith) h,
  )

  is_some : get_or w p 0 ≢ 0 → Memᴰ m ((p, get_or w p 0 - 1) ∷ row_moves w (p + 1) k) ↔ Has w p (suc k) m
  is_some d = (
    λ n.
        by_member n
        (λ e.
        let at : m.0 ≡ p = ap (λ (x : ℕ × ℕ). x.0) e in
        let to : m.1 ≡ get_or w p 0 - 1 = ap (λ (x : ℕ × ℕ). x.1) e in
        let value : get_or w p 0 ≡ m.1 + 1 = omega (arith, d) in
        (omega arith, omega arith, ap (λ (x : ℕ). get_or w x 0) at ∙ value))
        sooner,
    λ h.
        ⊎_elim
        (λ (q : p ≡ m.0).
        let value : get_or w p 0 ≡ m.1 + 1 = ap (λ (x : ℕ). get_or w x 0) q ∙ h.2 in
        let to : m.1 ≡ get_or w p 0 - 1 = omega arith in
        mathlib.Core.List.Memᴰ.head (λ j. (sym q j, to j)))
        (λ (q : p ≢ m.0). mathlib.Core.List.Memᴰ.tail (later q h))
        (equal? p m.0),
  )

pub row_iff : (w : List ℕ) (p k : ℕ) (m : ℕ × ℕ) → Memᴰ m (row_moves w p k) ↔ Has w p k m
row_iff w p zero m = (
  λ n. absurd (mathlib.Core.List.Memᴰ.not-nil (subst (Memᴰ m) (row_end w p) n)),
  λ h. let low : p ≤ m.0 = h.0 in let high : m.0 < p + 0 = h.1 in absurd (omega arith),
)
row_iff w p (suc k) m =
    let rest = row_iff w (p + 1) k m in
    ⊎_elim
    (λ (e : get_or w p 0 ≡ 0). subst (λ (l : List (ℕ × ℕ)). Memᴰ m l ↔ Has w p (suc k) m) (sym (row_none w p k e))
    (is_none w p k m rest e))
    (λ (d : get_or w p 0 ≢ 0). subst (λ (l : List (ℕ × ℕ)). Memᴰ m l ↔ Has w p (suc k) m) (sym (row-some w p k d))
    (is_some w p k m rest d))
    (equal? (get_or w p 0) 0)

pub row-ascends : (w : List ℕ) (p k : ℕ) → Ascends (row_moves w p k)
row-ascends w p zero = subst Ascends (sym (row_end w p)) Pairwise.nil
row-ascends w p (suc k) =
    let rest = row-ascends w (p + 1) k in
    ⊎_elim
    (λ (e : get_or w p 0 ≡ 0). subst Ascends (sym (row_none w p k e)) rest)
    (λ (d : get_or w p 0 ≢ 0).
    subst Ascends (sym (row-some w p k d))
    (pairwise_more (λ x y. le_prop) (λ y n. let low : p + 1 ≤ y.0 = ((row_iff w (p + 1) k y).0 n).0 in omega arith) rest))
    (equal? (get_or w p 0) 0)

module _ {ms : List (ℕ × ℕ)} (small : BelowPairs 64 ms) (once : EnteredOnce ms) where
  abbrev row : List ℕ
  row = origins_of (replicate 64 0) ms

  zeros : length (replicate {A = ℕ} 64 0) ≡ 64
  zeros = length-replicate {A = ℕ} 64 0

  entered_at : {y : ℕ × ℕ} → Memᴰ y ms → get_or row y.1 0 ≡ y.0 + 1
  entered_at k = origins_entered (replicate 64 0) ms once k (rw zeros (below_entered small k))

  -- what the row has comes from a move
  from-move : (q x : ℕ) → get_or row q 0 ≡ x + 1 → Memᴰ (x, q) ms
  from-move q x e =
      ⊎_elim
      (λ (t : T (enters ms q)).
      let w = (enters_iff ms q).0 t in
      let same : w.0.0 ≡ x = omega (arith, entered_at w.1, ap (λ (p : ℕ). get_or row p 0) w.2, e) in
      mathlib.Core.List.Memᴰ.cast (λ j. (sym same j, sym w.2 j)) w.1)
      (λ (t : T (not (enters ms q))).
      let none = origins_other (replicate 64 0) ms q (λ m k f. T_not (enters ms q) t ((enters_iff ms q).1 (m, k, f))) in
      absurd (omega (arith, none, zeros_at 64 q, e)))
      (decided (enters ms q))

  pub row-turned : row_moves row 0 64 ≡ turned_step ms
  row-turned =
      ascending-same (row_moves row 0 64) (turned_step ms) (row-ascends row 0 64) (turned-ascends ms once)
      (λ x. (
        λ k. (turned_iff x ms).1 (unfold turned in from-move x.0 x.1 ((row_iff row 0 64 x).0 k).2),
        λ k.
            let n : Memᴰ (x.1, x.0) ms = (unfold turned in (turned_iff x ms).0 k) in
            (row_iff row 0 64 x).1 (omega arith, below_entered small n, entered_at n),
      ))

-- the loops

module _ (d w₀ : List ℕ) where
  abbrev pub Noting : List ℕ → ℕ → Type 0
  Noting w j = Left origins_of (moves_from d) (moves_of d) w₀ w j

  pub noting_first : Noting w₀ 0
  noting_first = left-first origins_of (moves_from d) (moves_of d) w₀ refl

  pub noting_next : (w : List ℕ) (j a b : ℕ) → Noting w j → j < length d → a ≡ get_or d j 0 / 64 % 64 → b ≡ get_or d j 0 % 64
      → Noting (set w b (a + 1)) (j + 1)
  unfolding origins_of
  noting_next w j a b k h ea eb =
      left-next origins_of (moves_from d) (moves_of d) w₀ w j a b k (moves_at d j a b h ea eb) (set w b (a + 1)) (λ ms. refl)

  pub noting_last : (w : List ℕ) (j : ℕ) → Noting w j → length d ≤ j → w ≡ origins_of w₀ (moves_of d)
  unfolding origins_of
  noting_last w j k h = left_last origins_of (moves_from d) (moves_of d) w₀ w j k (moves_none d j h)

moves_append : (d e : List ℕ) → moves_of (d ++ e) ≡ moves_of d ++ moves_of e
unfolding moves_of
moves_append [] e = refl
moves_append (x ∷ d) e = ap (λ (ms : List (ℕ × ℕ)). (x / 64 % 64, x % 64) ∷ ms) (moves_append d e)

one_move : (x p q : ℕ) → x / 64 % 64 ≡ p → x % 64 ≡ q → moves_of (x ∷ []) ≡ (p, q) ∷ []
unfolding moves_of
one_move x p q first second = rw (first, second) refl

-- the moves of the row in all, and those listed
module _ (w : List ℕ) (all : List (ℕ × ℕ)) where
  pub record Listing (d : List ℕ) (k p : ℕ) : Type 0 where
    pub long : length d ≡ 64
    pub few : k ≤ p
    pub within : p ≤ 64
    pub left : moves_of (take k d) ++ row_moves w p (64 - p) ≡ all

  pub listing_first : (d : List ℕ) → length d ≡ 64 → row_moves w 0 64 ≡ all → Listing d 0 0
  unfolding moves_of
  listing_first d n e = record { long = n; few = omega arith; within = omega arith; left = e }

  module _ (d : List ℕ) (k p : ℕ) (l : Listing d k p) (h : p < 64) where
    one_more : 64 - p ≡ suc (64 - (p + 1))
    one_more = omega arith

    pub listing_none : get_or w p 0 ≡ 0 → Listing d k (p + 1)
    listing_none e =
        record {
          long = l.long;
          few = omega (arith, l.few);
          within = omega arith;
          left =
              ap (λ (r : List (ℕ × ℕ)). moves_of (take k d) ++ r) (sym (ap (row_moves w p) one_more ∙ row_none w p (64 - (p + 1)) e))
              ∙ l.left;
        }

    pub listing_more : (x : ℕ) → get_or w p 0 ≡ x + 1 → x < 64 → Listing (set d k (p * 64 + x)) (k + 1) (p + 1)
    listing_more x e small =
        let d' = set d k (p * 64 + x) in
        let few = l.few in
        let long = l.long in
        let first : (p * 64 + x) / 64 % 64 ≡ p = omega arith in
        let second : (p * 64 + x) % 64 ≡ get_or w p 0 - 1 = omega arith in
        let added : take (k + 1) d' ≡ take k d ++ ((p * 64 + x) ∷ []) = rw (add-one k) (take-suc-set d k (p * 64 + x) (omega arith)) in
        let one = one_move (p * 64 + x) p (get_or w p 0 - 1) first second in
        let more : moves_of (take (k + 1) d') ≡ moves_of (take k d) ++ ((p, get_or w p 0 - 1) ∷ []) =
        ap moves_of added ∙ moves_append (take k d) ((p * 64 + x) ∷ []) ∙ ap (λ (ms : List (ℕ × ℕ)). moves_of (take k d) ++ ms) one in
        let rest = row_moves w (p + 1) (64 - (p + 1)) in
        record {
          long = length-set d k (p * 64 + x) ∙ long;
          few = omega arith;
          within = omega arith;
          left =
              ap (λ (r : List (ℕ × ℕ)). r ++ rest) more
              ∙ append_assoc (moves_of (take k d)) ((p, get_or w p 0 - 1) ∷ []) rest
              ∙ ap (λ (r : List (ℕ × ℕ)). moves_of (take k d) ++ r)
              (sym (ap (row_moves w p) one_more ∙ row-some w p (64 - (p + 1)) (λ z. omega arith)))
              ∙ l.left;
        }

  pub listing_last : (d : List ℕ) (k p : ℕ) → Listing d k p → 64 ≤ p → (k ≤ length d) × (moves_of (take k d) ≡ all)
  listing_last d k p l h =
      let none : 64 - p ≡ 0 = omega arith in (
        omega (arith, l.few, l.within, l.long),
        sym (append-nil (moves_of (take k d)))
            ∙ ap (λ (r : List (ℕ × ℕ)). moves_of (take k d) ++ r) (sym (ap (row_moves w p) none ∙ row_end w p))
            ∙ l.left,
      )
