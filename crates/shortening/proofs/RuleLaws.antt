-- Laws of the rule: what a cancelling pair is, that the function computes the rule, that a move has at most one partner among the earlier
-- moves, and that the rule has one result.
--
--     Cancelling A ms i j, cancelling    what the test says of the moves of index i and j
--     length_without                     a removal takes two moves away
--     shortened_rule                     the function's result is the rule's
--     partner_unique                     the later move's partner is the only one
--     first_unique                       so there is one pair whose later move comes first
--     shortens_unique                    so the rule makes one list of a list
--     shortens_none, shortens_length, shortens_again    what the rule leaves has no cancelling pair, is not longer, and stays as it is
-- Assumes nothing.
use Prim.Native.Nat.{ℕ, zero, suc, ◌+◌, ◌-◌, ◌≤◌, ◌<◌}
use mathlib.Core.Bool.{Bool, true, false, not, ◌&&◌, ◌||◌}
use mathlib.Core.List.{List, [], ◌∷◌, ◌++◌}
use mathlib.Core.Logic.{◌↔◌, inl, inr, ⊎_elim, ◌≢◌}
use mathlib.Core.Path.{◌≡◌, refl, sym, ap, ◌∙◌}
use native.Mathlib.Omega.{arith}
use native.Mathlib.Nat.{le_refl}
use lib.Dec.{T, ltb, eqb, ltb→lt, lt→ltb}
use lib.ListN.{length, get_or, take, drop, length-append, length-drop}
use lib.Seq.{get_or-take, get_or-drop, length-take-le}
use Rattle.sets.specs.First.{first_from}
use Rattle.sets.proofs.FirstLaws.{first_passes, first_least}
use Rattle.order.specs.Floor.{some, is_pair}
use Rattle.order.proofs.EdgeLaws.{is_pair_is, is_pair-same}
use Rattle.motion.specs.Arrangement.{Arrangement}
use Rattle.motion.proofs.Test.{and_parts, or_parts, not_parts, eqb_parts, decided, equal?, cond-true, cond-false}
use Rattle.shortening.specs.Rule.{move_at, rack_of, between, visits, cancels, without, NoPair, FirstPair, Shortens, done, again}
use Rattle.shortening.specs.Rule.{partner, later_move, shorten, shortened}
use Rattle.cancelling.specs.Stack.{Apart}

-- tests

four : (a b c d : Bool) → T (not (a || b || c || d)) ↔ (T (not a) × T (not b) × T (not c) × T (not d))
four true b c d = (λ t. absurd t, λ t. t.0)
four false true c d = (λ t. absurd t, λ t. t.1)
four false false true d = (λ t. absurd t, λ t. t.2)
four false false false d = (λ t. (tt, tt, tt, t), λ t. t.3)

differ : (a b : ℕ) → T (not (eqb a b)) ↔ (a ≢ b)
differ a b = (λ t e. (not_parts (eqb a b)).0 t ((eqb_parts a b).1 e), λ n. (not_parts (eqb a b)).1 (λ t. n ((eqb_parts a b).0 t)))

pub visits-apart : (m x : ℕ × ℕ) → T (not (visits m x)) ↔ Apart m x
unfolding visits
visits-apart m x =
    let parts = four (eqb x.0 m.0) (eqb x.0 m.1) (eqb x.1 m.0) (eqb x.1 m.1) in (
      λ t.
          let u = parts.0 t in
          record {
            left_left = λ e. (differ x.0 m.0).0 u.0 (sym e);
            left_entered = λ e. (differ x.1 m.0).0 u.2 (sym e);
            entered_left = λ e. (differ x.0 m.1).0 u.1 (sym e);
            entered_entered = λ e. (differ x.1 m.1).0 u.3 (sym e);
          },
      λ a.
          parts.1 (
            (differ x.0 m.0).1 (λ e. a.left_left (sym e)),
            (differ x.0 m.1).1 (λ e. a.entered_left (sym e)),
            (differ x.1 m.0).1 (λ e. a.left_entered (sym e)),
            (differ x.1 m.1).1 (λ e. a.entered_entered (sym e)),
          ),
    )

some_to : {X : Type 0} (t : X → Bool) (l : List X) (d : X) → T (not (some t l)) → (n : ℕ) → n < length l → T (not (t (get_or l n d)))
unfolding some
some_to t [] d h n b = absurd (omega arith)
some_to t (x ∷ l) d h zero b =
    (not_parts (t x)).1 (λ u. (not_parts (t x || some t l)).0 h ((or_parts (t x) (some t l)).1 (inl u)))
some_to t (x ∷ l) d h (suc n) b =
    some_to t l d ((not_parts (some t l)).1 (λ u. (not_parts (t x || some t l)).0 h
    ((or_parts (t x) (some t l)).1 (inr u)))) n (omega arith)

some-from : {X : Type 0} (t : X → Bool) (l : List X) (d : X) → ((n : ℕ) → n < length l → T (not (t (get_or l n d)))) → T (not (some t l))
unfolding some
some-from t [] d h = tt
some-from t (x ∷ l) d h =
    (not_parts (t x || some t l)).1
    (λ u. ⊎_elim ((not_parts (t x)).0 (h 0 (omega arith)))
    ((not_parts (some t l)).0 (some-from t l d (λ n b. h (suc n) (omega arith)))) ((or_parts (t x) (some t l)).0 u))

-- a cancelling pair

pub record Cancelling (A : Arrangement) (ms : List (ℕ × ℕ)) (i j : ℕ) : Type 0 where
  pub earlier : i < j
  pub there : j < length ms
  pub undoes : ((move_at ms i).1, (move_at ms i).0) ≡ move_at ms j
  pub same_rack : rack_of A ms i ≡ rack_of A ms j
  pub unvisited : (h : ℕ) → i < h → h < j → Apart (move_at ms i) (move_at ms h)

module _ (ms : List (ℕ × ℕ)) (i j : ℕ) (e : i < j) (h : j < length ms) where
  pub length-between : length (between ms i j) ≡ j - suc i
  unfolding between
  length-between = length-take-le (j - suc i) (drop (suc i) ms) (rw (length-drop (suc i) ms) (omega arith))

  pub between-at : (n : ℕ) → n < j - suc i → get_or (between ms i j) n (0, 0) ≡ move_at ms (suc i + n)
  unfolding between move_at
  between-at n b = get_or-take (j - suc i) (drop (suc i) ms) n (0, 0) b ∙ get_or-drop (suc i) ms n (0, 0)

  pub length_without : suc (suc (length (without ms i j))) ≡ length ms
  unfolding without
  length_without =
      let front : length (take i ms) ≡ i = length-take-le i ms (omega arith) in
      omega (
        arith,
        front,
        length-between,
        length-drop (suc j) ms,
        length-append (take i ms ++ between ms i j) (drop (suc j) ms),
        length-append (take i ms) (between ms i j),
      )

module _ (A : Arrangement) (ms : List (ℕ × ℕ)) (i j : ℕ) where
  up : Bool
  up = ltb i j

  inside : Bool
  inside = ltb j (length ms)

  turns : Bool
  turns = is_pair ((move_at ms i).1, (move_at ms i).0) (move_at ms j)

  racks : Bool
  racks = eqb (rack_of A ms i) (rack_of A ms j)

  free : Bool
  free = not (some (visits (move_at ms i)) (between ms i j))

  pair_test : (b : Bool) → T b → b ≡ true
  pair_test true t = refl
  pair_test false t = absurd t

  test_pair : (b : Bool) → b ≡ true → T b
  test_pair b e = rw e tt

  pub cancelling : T (cancels A ms i j) ↔ Cancelling A ms i j
  unfolding cancels up inside turns racks free
  cancelling = (to, from)
    where
      to : T (up && inside && turns && racks && free) → Cancelling A ms i j
      to t =
          let a = (and_parts (up && inside && turns && racks) free).0 t in
          let b = (and_parts (up && inside && turns) racks).0 a.0 in
          let c = (and_parts (up && inside) turns).0 b.0 in
          let d = (and_parts up inside).0 c.0 in
          let e = ltb→lt i j d.0 in
          let h = ltb→lt j (length ms) d.1 in
          record {
            earlier = e;
            there = h;
            undoes = is_pair_is _ _ (pair_test turns c.1);
            same_rack = (eqb_parts (rack_of A ms i) (rack_of A ms j)).0 b.1;
            unvisited =
                λ x l u.
                let at : suc i + (x - suc i) ≡ x = omega arith in
                let s : T (not (visits (move_at ms i) (get_or (between ms i j) (x - suc i) (0, 0)))) =
                some_to (visits (move_at ms i)) (between ms i j) (0, 0) a.1 (x - suc i) (rw (length-between ms i j e h) (omega arith)) in
                (visits-apart (move_at ms i) (move_at ms x)).0 (rw (between-at ms i j e h (x - suc i) (omega arith), at) at s);
          }

      from : Cancelling A ms i j → T (up && inside && turns && racks && free)
      from c =
          (and_parts (up && inside && turns && racks) free).1 (
            (and_parts (up && inside && turns) racks).1 (
              (and_parts (up && inside) turns).1 (
                (and_parts up inside).1 (lt→ltb i j c.earlier, lt→ltb j (length ms) c.there),
                test_pair turns
                    (ap (is_pair ((move_at ms i).1, (move_at ms i).0)) (sym c.undoes) ∙ is_pair-same ((move_at ms i).1, (move_at ms i).0)),
              ),
              (eqb_parts (rack_of A ms i) (rack_of A ms j)).1 c.same_rack,
            ),
            some-from (visits (move_at ms i)) (between ms i j) (0, 0)
                (λ n b.
                let b' : n < j - suc i = rw (length-between ms i j c.earlier c.there) at b in
                rw (between-at ms i j c.earlier c.there n b')
                ((visits-apart (move_at ms i) (move_at ms (suc i + n))).1 (c.unvisited (suc i + n) (omega arith) (omega arith)))),
          )

-- the function

module _ (A : Arrangement) (ms : List (ℕ × ℕ)) where
  has_partner : ℕ → Bool
  has_partner j = ltb (partner A ms j) j

  partner-cancels : (j : ℕ) → partner A ms j < j → T (cancels A ms (partner A ms j) j)
  unfolding partner
  partner-cancels j l = first_passes (λ i. cancels A ms i j) 0 j (omega (arith, l))

  cancels-partner : (i j : ℕ) → T (cancels A ms i j) → T (has_partner j)
  unfolding partner has_partner
  cancels-partner i j c =
      let first = first_from (λ i. cancels A ms i j) 0 j in
      let l : (i < first → ⊥) = λ u. first_least (λ i. cancels A ms i j) 0 j i (omega arith) u c in
      let below : first < j = omega (arith, ((cancelling A ms i j).0 c).earlier) in
      lt→ltb first j below

  later_pair : later_move A ms < length ms → FirstPair A ms (partner A ms (later_move A ms)) (later_move A ms)
  unfolding later_move has_partner
  later_pair h =
      let j = first_from (λ j. ltb (partner A ms j) j) 0 (length ms) in
      let y : T (ltb (partner A ms j) j) = first_passes (λ j. ltb (partner A ms j) j) 0 (length ms) (omega (arith, h)) in
      record {
        cancel = partner-cancels j (ltb→lt (partner A ms j) j y);
        first = λ i' j' c l. first_least (λ j. ltb (partner A ms j) j) 0 (length ms) j' (omega arith) l (cancels-partner i' j' c);
      }

  later_none : length ms ≤ later_move A ms → NoPair A ms
  unfolding later_move has_partner
  later_none h =
      record {
        none = λ i j c.
            first_least (λ j. ltb (partner A ms j) j) 0 (length ms) j (omega arith) (omega (arith, ((cancelling A ms i j).0 c).there))
            (cancels-partner i j c);
      }

shorten_rule : (A : Arrangement) (n : ℕ) (ms : List (ℕ × ℕ)) → length ms ≤ n → Shortens A ms (shorten A n ms)
unfolding shorten
shorten_rule A zero ms h = done (record { none = λ i j c. omega (arith, ((cancelling A ms i j).0 c).there) })
shorten_rule A (suc n) ms h =
    let j = later_move A ms in
    let i = partner A ms j in
    ⊎_elim
    (λ (y : T (ltb j (length ms))).
    let f = later_pair A ms (ltb→lt j (length ms) y) in
    let c = (cancelling A ms i j).0 f.cancel in
    rw (cond-true (ltb j (length ms)) (shorten A n (without ms i j)) ms y)
    (again f (shorten_rule A n (without ms i j) (omega (arith, length_without ms i j c.earlier c.there)))))
    (λ (y : T (not (ltb j (length ms)))).
    let l : (j < length ms → ⊥) = λ u. (not_parts (ltb j (length ms))).0 y (lt→ltb j (length ms) u) in
    rw (cond-false (ltb j (length ms)) (shorten A n (without ms i j)) ms y) (done (later_none A ms (omega arith))))
    (decided (ltb j (length ms)))

pub shortened_rule : (A : Arrangement) (ms : List (ℕ × ℕ)) → Shortens A ms (shortened A ms)
unfolding shortened
shortened_rule A ms = shorten_rule A (length ms) ms (le_refl (length ms))

-- one partner, one first pair, one result

pub not_both : {A : Arrangement} {ms : List (ℕ × ℕ)} {i i' j : ℕ} → Cancelling A ms i j → Cancelling A ms i' j → i < i' → ⊥
not_both {A} {ms} {i} {i'} {j} c d l =
    let same : (move_at ms i).0 ≡ (move_at ms i').0 = ap (λ (m : ℕ × ℕ). m.1) (c.undoes ∙ sym d.undoes) in
    (c.unvisited i' l d.earlier).left_left same

pub partner_unique : (A : Arrangement) (ms : List (ℕ × ℕ)) (i i' j : ℕ) → T (cancels A ms i j) → T (cancels A ms i' j) → i ≡ i'
partner_unique A ms i i' j c d =
    let p = (cancelling A ms i j).0 c in
    let q = (cancelling A ms i' j).0 d in
    ⊎_elim (λ e. e)
    (λ (n : i ≢ i'). ⊎_elim (λ t. absurd (not_both p q (ltb→lt i i' t)))
    (λ t. absurd (not_both q p (let l : (i < i' → ⊥) = λ u. (not_parts (ltb i i')).0 t (lt→ltb i i' u) in omega arith)))
    (decided (ltb i i')))
    (equal? i i')

pub first_unique : (A : Arrangement) (ms : List (ℕ × ℕ)) (i j i' j' : ℕ) → FirstPair A ms i j → FirstPair A ms i' j' → (i ≡ i') × (j ≡ j')
first_unique A ms i j i' j' p q =
    let l : (j' < j → ⊥) = p.first i' j' q.cancel in
    let u : (j < j' → ⊥) = q.first i j p.cancel in
    let e : j ≡ j' = omega arith in
    (partner_unique A ms i i' j p.cancel (rw e q.cancel), e)

pub shortens_unique : (A : Arrangement) {ms ns ns' : List (ℕ × ℕ)} → Shortens A ms ns → Shortens A ms ns' → ns ≡ ns'
shortens_unique A (done n) (done n') = refl
shortens_unique A (done n) (again f s) = absurd (n.none _ _ f.cancel)
shortens_unique A (again f s) (done n) = absurd (n.none _ _ f.cancel)
shortens_unique A (again {ms = ms} {ns = ns} {i = i} {j = j} f s) (again {ns = ns'} {i = i'} {j = j'} f' s') =
    let e = first_unique A ms i j i' j' f f' in
    let there : Shortens A (without ms i j) ns' = rw (e.0, e.1) s' in
    shortens_unique A s there

-- what the rule leaves

pub shortens_none : (A : Arrangement) {ms ns : List (ℕ × ℕ)} → Shortens A ms ns → NoPair A ns
shortens_none A (done n) = n
shortens_none A (again f s) = shortens_none A s

pub shortens_length : (A : Arrangement) {ms ns : List (ℕ × ℕ)} → Shortens A ms ns → length ns ≤ length ms
shortens_length A (done {ms = ms} n) = le_refl (length ms)
shortens_length A (again {ms = ms} {i = i} {j = j} f s) =
    let c = (cancelling A ms i j).0 f.cancel in
    omega (arith, shortens_length A s, length_without ms i j c.earlier c.there)

pub shortens_again : (A : Arrangement) {ms ns : List (ℕ × ℕ)} → Shortens A ms ns → shortened A ns ≡ ns
shortens_again A {ns = ns} s = shortens_unique A (shortened_rule A ns) (done (shortens_none A s))
