-- The first pass, judged move by move: what is left to judge depends on the lowest position that may be left and on the positions
-- entered so far alone, kept as a flag for each position.
--
--     sound_after g h lowest v ms   the moves ms are sound, leave positions from `lowest` on and enter none whose flag is up in v
--     sound_after_is                from the first move on, with no flag up, that is `sound_moves`
--     too_many                     more than 64 moves are not sound: they do not ascend
--     judge                        that, with the lowest position and the flags as one
--     Judged t r                   what the pass promises of its answer r and the targets t
--     Noting                       what is left to judge and to note decides
--     MoveTold, move-told          a move that is not sound decides: the answer is no; one that is sound leaves the rest
--     noting_first, noting_last    before the first move; after the last the answer is yes
-- Assumes nothing.
use Prim.Native.Nat.{ℕ, ◌+◌, ◌*◌, ◌≤◌, ◌<◌}
use mathlib.Core.Path.{◌≡◌, refl, sym, subst, ◌∙◌}
use mathlib.Core.Bool.{Bool, true, false, not, ◌&&◌, ◌||◌, and_assoc, and-false, false≢true}
use mathlib.Core.List.{List, [], ◌∷◌}
use mathlib.Core.Logic.{⊎_elim, ◌≢◌}
use native.Mathlib.Omega.{arith}
use native.Mathlib.Numerals.{add-one}
use borrow.Author.Tests.{le-leb, lt-leb, eq-eqb, ne_eqb}
use lib.ListN.{length, get_or, set, replicate, length-set, length-replicate}
use lib.Seq.{get_or-set_same, get_or-set_other}
use lib.Dec.{T, leb, eqb, leb-zero, leb→le}
use mir.Facts.{and_yes}
use Rattle.field.specs.Bytes.{BelowPairs, none₂, more₂}
use Rattle.order.specs.Floor.{some}
use Rattle.motion.specs.Step.{every, ascends, enters, entered_once}
use Rattle.motion.proofs.Test.{equal?}
use Rattle.tables.specs.Tables.{edge_at, held_at}
use Rattle.tables.proofs.TableLaws.{zeros_at}
use Rattle.chains.specs.StepOn.{moves_of, sound_moves}
use Rattle.chains.specs.Chains.{noted}
use Rattle.chains.proofs.Moves.{Left, left-first, left_at, left-next, left_last}
use Rattle.chains.proofs.Moves.{moves_from, moves_below, moves_none}

unfoldable pub sound_after : List ℕ → List ℕ → ℕ → List ℕ → List (ℕ × ℕ) → Bool
sound_after g h lowest v [] = true
sound_after g h lowest v (m ∷ ms) =
    leb lowest m.0 && edge_at g m && held_at h m.0 && not (held_at v m.1) && sound_after g h (m.0 + 1) (set v m.1 1) ms

-- the first move leaves a position from `lowest` on
unfoldable starts_at : ℕ → List (ℕ × ℕ) → Bool
starts_at lowest [] = true
starts_at lowest (m ∷ ms) = leb lowest m.0

starts-ascends : (m : ℕ × ℕ) (ms : List (ℕ × ℕ)) → (starts_at (m.0 + 1) ms && ascends ms) ≡ ascends (m ∷ ms)
unfolding starts_at ascends
starts-ascends m [] = refl
starts-ascends m (n ∷ ms) = rw (add-one m.0) refl

flag_set : (v : List ℕ) (p q : ℕ) → p < length v → not (held_at (set v p 1) q) ≡ (not (eqb q p) && not (held_at v q))
unfolding held_at
flag_set v p q h =
    ⊎_elim
    (λ (e : q ≡ p). rw (eq-eqb q p e, e, get_or-set_same v p 1 0 h))
    (λ (d : q ≢ p). rw (ne_eqb q p d, get_or-set_other v p q 1 0 d))
    (equal? q p)

-- no move of the list enters a position whose flag is up
unfoldable unflagged : List ℕ → List (ℕ × ℕ) → Bool
unflagged v ms = every (λ m. not (held_at v m.1)) ms

and_swap : (a b c : Bool) → (a && (b && c)) ≡ (b && (a && c))
and_swap true true c = refl
and_swap true false c = refl
and_swap false true c = refl
and_swap false false c = refl

unflagged-set : (v : List ℕ) (p : ℕ) (ms : List (ℕ × ℕ)) → p < length v → unflagged (set v p 1) ms ≡ (not (enters ms p) && unflagged v ms)
unfolding unflagged every enters some
unflagged-set v p [] h = refl
unflagged-set v p (m ∷ ms) h =
    rw (flag_set v p m.1 h, unflagged-set v p ms h)
    (regroup (eqb m.1 p) (held_at v m.1) (enters ms p) (every (λ m. not (held_at v m.1)) ms))
  where
    regroup : (e f r u : Bool) → (not e && not f && (not r && u)) ≡ (not (e || r) && (not f && u))
    regroup true f r u = refl
    regroup false true true u = refl
    regroup false true false u = refl
    regroup false false r u = refl

regroup : (l e h n a es hs x ns o : Bool)
    → (l && e && h && n && (a && es && hs && ((x && ns) && o))) ≡ (l && a && (e && es) && (h && hs) && ((n && ns) && (x && o)))
regroup l e h n a es hs x ns o = simp (and_assoc, and_swap)

after_is : (g h : List ℕ) (lowest : ℕ) (v : List ℕ) {ms : List (ℕ × ℕ)} → BelowPairs 64 ms → length v ≡ 64
    → sound_after g h lowest v ms ≡
    (starts_at lowest ms && ascends ms && every (edge_at g) ms && every (λ m. held_at h m.0) ms && (unflagged v ms && entered_once ms))
unfolding sound_after starts_at unflagged every entered_once ascends
after_is g h lowest v none₂ n = refl
after_is g h lowest v (more₂ {p = m} {l = ms} k₀ k₁ r) n =
    rw
    (after_is g h (m.0 + 1) (set v m.1 1) r (length-set v m.1 1 ∙ n), starts-ascends m ms, unflagged-set v m.1 ms (omega arith))
    (regroup (leb lowest m.0) (edge_at g m) (held_at h m.0) (not (held_at v m.1)) (ascends (m ∷ ms)) (every (edge_at g) ms)
    (every (λ m. held_at h m.0) ms) (not (enters ms m.1)) (unflagged v ms) (entered_once ms))

none_flagged : (ms : List (ℕ × ℕ)) → unflagged (replicate 64 0) ms ≡ true
unfolding unflagged every held_at
none_flagged [] = refl
none_flagged (m ∷ ms) = rw (zeros_at 64 m.1) (none_flagged ms)

starts_anywhere : (ms : List (ℕ × ℕ)) → starts_at 0 ms ≡ true
unfolding starts_at
starts_anywhere [] = refl
starts_anywhere (m ∷ ms) = leb-zero m.0

pub sound_after_is : (g h : List ℕ) {ms : List (ℕ × ℕ)} → BelowPairs 64 ms → sound_after g h 0 (replicate 64 0) ms ≡ sound_moves g h ms
unfolding sound_moves
sound_after_is g h {ms} b = after_is g h 0 (replicate 64 0) b (length-replicate {A = ℕ} 64 0) ∙ rw
    (starts_anywhere ms, none_flagged ms) refl

-- moves that ascend from `lowest` on leave different positions below 64
ascends_few : (lowest : ℕ) {ms : List (ℕ × ℕ)} → BelowPairs 64 ms → lowest ≤ 64 → T (starts_at lowest ms && ascends ms)
    → lowest + length ms ≤ 64
unfolding starts_at
ascends_few lowest none₂ low u = omega arith
ascends_few lowest (more₂ {p = m} {l = ms} k₀ k₁ r) low u =
    let both = and_yes (leb lowest m.0) (ascends (m ∷ ms)) u in
    let rest = ascends_few (m.0 + 1) r (omega arith) (subst T (sym (starts-ascends m ms)) both.1) in
    let first : lowest ≤ m.0 = leb→le lowest m.0 both.0 in
    omega arith

pub too_many : (g h : List ℕ) {ms : List (ℕ × ℕ)} → BelowPairs 64 ms → 64 < length ms → sound_moves g h ms ≡ false
unfolding sound_moves
too_many g h {ms} b many = rw (not_yes (ascends ms) none) refl
  where
    none : T (ascends ms) → ⊥
    none up =
        let few = ascends_few 0 b (omega arith) (subst (λ (x : Bool). T (x && ascends ms)) (sym (starts_anywhere ms)) up) in
        omega arith

    not_yes : (x : Bool) → (T x → ⊥) → x ≡ false
    not_yes true f = absurd (f tt)
    not_yes false f = refl

-- the loop over the moves of the step d, from the targets t₀ on
module _ (g h d t₀ : List ℕ) where
  unfoldable pub judge : ℕ × List ℕ → List (ℕ × ℕ) → Bool
  judge x ms = sound_after g h x.0 x.1 ms

  abbrev pub Judged : List ℕ → Bool → Type 0
  Judged t r = (r ≡ sound_moves g h (moves_of d)) × (r ≡ true → t ≡ noted t₀ (moves_of d))

  -- at move j, where positions from `lowest` on may be left and those flagged in v have been entered; t has the targets so far
  pub record Noting (lowest : ℕ) (v t : List ℕ) (j : ℕ) : Type 0 where
    pub judging : Left judge (moves_from d) (moves_of d) (0, replicate 64 0) (lowest, v) j
    pub noting : Left noted (moves_from d) (moves_of d) t₀ t j

  -- what the loop's tests tell of move j, from a to b
  pub record MoveTold (lowest : ℕ) (v t : List ℕ) (j a b : ℕ) : Type 0 where
    pub not_ascending : a < lowest → Judged t false
    pub no_edge : get_or g (a * 64 + b) 0 ≡ 0 → Judged t false
    pub no_rack : get_or h a 0 ≡ 0 → Judged t false
    pub entered_twice : (get_or v b 0 ≡ 0 → ⊥) → Judged t false
    pub sound : lowest ≤ a → (get_or g (a * 64 + b) 0 ≡ 0 → ⊥) → (get_or h a 0 ≡ 0 → ⊥) → get_or v b 0 ≡ 0
        → Noting (a + 1) (set v b 1) (set t a (b + 1)) (j + 1)

  pub noting_first : Noting 0 (replicate 64 0) t₀ 0
  noting_first =
      record {
        judging = left-first judge (moves_from d) (moves_of d) (0, replicate 64 0) refl;
        noting = left-first noted (moves_from d) (moves_of d) t₀ refl;
      }

  all_is : judge (0, replicate 64 0) (moves_of d) ≡ sound_moves g h (moves_of d)
  unfolding judge
  all_is = sound_after_is g h (moves_below d)

  module _ (lowest : ℕ) (v t : List ℕ) (j a b : ℕ) (left : Noting lowest v t j)
      (at : moves_from d j ≡ ((a, b) ∷ moves_from d (j + 1))) where
    next : (leb lowest a
        && edge_at g (a, b)
        && held_at h a
        && not (held_at v b)
        && sound_after g h (a + 1) (set v b 1) (moves_from d (j + 1))) ≡ sound_moves g h (moves_of d)
    unfolding judge sound_after
    next = left_at judge (moves_from d) (moves_of d) (0, replicate 64 0) (lowest, v) j a b left.judging at ∙ all_is

    wrong : false ≡ sound_moves g h (moves_of d) → Judged t false
    wrong e = (e, λ r. absurd (false≢true r))

    pub move-told : MoveTold lowest v t j a b
    unfolding judge sound_after edge_at held_at noted
    move-told =
        record {
          not_ascending = λ l. wrong (simp (lt-leb lowest a l) at next);
          no_edge = λ e. wrong (simp (eq-eqb (get_or g (a * 64 + b) 0) 0 e, and-false) at next);
          no_rack = λ e. wrong (simp (eq-eqb (get_or h a 0) 0 e, and-false) at next);
          entered_twice = λ d. wrong (simp (ne_eqb (get_or v b 0) 0 d, and-false) at next);
          sound = λ l e r f.
              record {
                judging =
                    left-next judge (moves_from d) (moves_of d) (0, replicate 64 0) (lowest, v) j a b left.judging at
                    (a + 1, set v b 1)
                    (λ ms.
                    rw (
                      le-leb lowest a l,
                      ne_eqb (get_or g (a * 64 + b) 0) 0 e,
                      ne_eqb (get_or h a 0) 0 r,
                      eq-eqb
                          (get_or v b 0) 0 f,
                    ) refl);
                noting = left-next noted (moves_from d) (moves_of d) t₀ t j a b left.noting at (set t a (b + 1)) (λ ms. refl);
              };
        }

  pub noting_last : (lowest : ℕ) (v t : List ℕ) (j : ℕ) → Noting lowest v t j → length d ≤ j → Judged t true
  unfolding judge sound_after noted
  noting_last lowest v t j left k = (
    left_last judge (moves_from d) (moves_of d) (0, replicate 64 0) (lowest, v) j left.judging (moves_none d j k) ∙ all_is,
    λ r. left_last noted (moves_from d) (moves_of d) t₀ t j left.noting (moves_none d j k),
  )
