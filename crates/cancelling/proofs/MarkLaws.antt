-- The marked moves as a stack, and how the pass takes a move.
--
--     kept?              a move is kept or not
--     stack_kept, stack_skipped, stack_same    the stack of one move more; marks that agree below an index have one stack there
--     taken_off          a mark taken away is a move taken off the stack
--     no_partner         where the latest kept move that touches the next one does not undo it, the next one has no partner
--     since_self, since_fewer, since_next      from where on a position is not touched: nothing, with fewer marks, with one move more
--     link_far, link_near                      the link of a move before the latest 512, and of one of these
--     link_next, link_stays, link_new          the links with one move more: they stay or are dropped, and its own is kept
--     none_kept          zeros mark nothing
--     going_first        before the first move
--     room_for           tables of zeros have room
--     room_less          tables with room for some moves have room for fewer
--     both               a table with two entries set
--     ends_are, from_low    the positions of a move, and where the search for them begins
--     going_looked, going_at    the sets of blocks and groups may be others that cover what is kept; another name of the index
--     going_off          a move that cancels
--     going_on           a move that is kept
-- Assumes nothing.
use Prim.Native.Nat.{ℕ, zero, suc, ◌+◌, ◌-◌, ◌*◌, ◌/◌, ◌%◌, ◌≤◌, ◌<◌, max, min}
use mathlib.Core.Bool.{not}
use mathlib.Core.List.{List, [], ◌∷◌, nil≢cons}
use mathlib.Core.Logic.{◌↔◌, ◌⊎◌, inl, inr, ⊎_elim, ◌≢◌}
use mathlib.Core.Path.{◌≡◌, refl, sym, ap, ◌∙◌}
use native.Mathlib.Omega.{arith}
use native.Mathlib.Nat.{le_refl}
use native.Mathlib.Numerals.{add-one}
use borrow.Author.Tests.{eq-eqb, ne_eqb}
use lib.Dec.{T, ltb, ltb→lt, lt→ltb}
use lib.ListN.{length, get_or, set, replicate, length-set, length-replicate}
use lib.Seq.{get_or-set_same, get_or-set_other}
use Rattle.motion.proofs.Test.{equal?, not_parts, cond-true, cond-false}
use Rattle.sets.specs.Sets.{bit, Has}
use Rattle.sets.proofs.SetLaws.{has_none, has_or_not}
use Rattle.tables.proofs.TableLaws.{zeros_at}
use Rattle.cancelling.proofs.LookingLaws.{below?}
use Rattle.cancelling.specs.Stack.{move_of, Apart, Partner, top, under, Taken, off_top, from_under, cancelled, kept, begun}
use Rattle.cancelling.specs.Stack.{next}
use Rattle.cancelling.specs.Looking.{Kept, Touches, stack_of, Covers, Found, Looked, NoneKept, Room}
use Rattle.cancelling.specs.Looking.{Marks, Unmarks, TakesIn, Since, Bounded, Ends, link_of, Going}

-- stacks

pub kept? : (marks : List ℕ) (i : ℕ) → Kept marks i ⊎ (Kept marks i → ⊥)
kept? marks i =
    ⊎_elim (λ k. inl k) (λ (z : bit (get_or marks (i / 64) 0) (i % 64) ≡ 0). inr (λ k. omega (arith, z, k)))
    (has_or_not (get_or marks (i / 64) 0) (i % 64))

module _ (f : ℕ → ℕ × ℕ × ℕ) (marks : List ℕ) (j : ℕ) where
  pub stack_kept : Kept marks j → stack_of f marks (suc j) ≡ f j ∷ stack_of f marks j
  unfolding stack_of
  stack_kept k = rw (eq-eqb (bit (get_or marks (j / 64) 0) (j % 64)) 1 k)

  pub stack_skipped : (Kept marks j → ⊥) → stack_of f marks (suc j) ≡ stack_of f marks j
  unfolding stack_of
  stack_skipped n = rw (ne_eqb (bit (get_or marks (j / 64) 0) (j % 64)) 1 n)

pub stack_same : (f : ℕ → ℕ × ℕ × ℕ) (marks marks' : List ℕ) (j : ℕ) → ((h : ℕ) → h < j → Kept marks h ↔ Kept marks' h)
    → stack_of f marks j ≡ stack_of f marks' j
unfolding stack_of
stack_same f marks marks' zero same = refl
stack_same f marks marks' (suc j) same =
    let below = stack_same f marks marks' j (λ h l. same h (omega arith)) in
    ⊎_elim
    (λ (k : Kept marks j).
    stack_kept f marks j k ∙ ap (λ (l : List (ℕ × ℕ × ℕ)). f j ∷ l) below ∙ sym (stack_kept f marks' j ((same j (omega arith)).0 k)))
    (λ (k : Kept marks j → ⊥).
    stack_skipped f marks j k ∙ below ∙ sym (stack_skipped f marks' j (λ b. k ((same j (omega arith)).1 b))))
    (kept? marks j)

module _ (f : ℕ → ℕ × ℕ × ℕ) (marks marks' : List ℕ) (m : ℕ × ℕ) (i : ℕ) (here : Kept marks i) (turned : move_of (f i) ≡ (m.1, m.0))
    (less : (h : ℕ) → Kept marks' h ↔ (Kept marks h × (h ≢ i))) where
  pub taken_off : (j : ℕ) → i < j → ((h : ℕ) → i < h → h < j → Kept marks h → Apart (move_of (f h)) m)
      → Taken (stack_of f marks j) m (stack_of f marks' j)
  taken_off zero l a = absurd (omega arith)
  taken_off (suc j) l a =
      ⊎_elim
      (λ (e : i ≡ j).
      let gone : (Kept marks' j → ⊥) = λ k. ((less j).0 k).1 (sym e) in
      let same : stack_of f marks' j ≡ stack_of f marks j =
      stack_same f marks' marks j (λ h b. (λ k. ((less h).0 k).0, λ k. (less h).1 (k, λ q. omega arith))) in
      let last : move_of (f j) ≡ (m.1, m.0) = rw (← e) turned in
      rw (stack_skipped f marks' j gone, same, stack_kept f marks j (rw (← e) here)) (off_top last))
      (λ (e : i ≢ j).
      let t = taken_off j (omega arith) (λ h b c. a h b (omega arith)) in
      ⊎_elim
      (λ (k : Kept marks j).
      rw (stack_kept f marks j k, stack_kept f marks' j ((less j).1 (k, λ q. e (sym q))))
      (from_under (a j (omega arith) (omega arith) k) t))
      (λ (k : Kept marks j → ⊥).
      rw (stack_skipped f marks j k, stack_skipped f marks' j (λ b. k ((less j).0 b).0)) t)
      (kept? marks j))
      (equal? i j)

not_empty : {m : ℕ × ℕ} {K : List (ℕ × ℕ × ℕ)} → Partner K m → K ≡ [] → ⊥
not_empty (top e) z = nil≢cons (sym z)
not_empty (under a p) z = nil≢cons (sym z)

not_turned : {x m : ℕ × ℕ} → Apart x m → x ≡ (m.1, m.0) → ⊥
not_turned a e = a.left_entered (ap (λ (y : ℕ × ℕ). y.0) e)

no_under : {w : ℕ × ℕ × ℕ} {m : ℕ × ℕ} {K : List (ℕ × ℕ × ℕ)} → Partner (w ∷ K) m → (move_of w ≡ (m.1, m.0) → ⊥)
    → Apart (move_of w) m × Partner K m
no_under (top e) n = absurd (n e)
no_under (under a p) n = (a, p)

module _ (f : ℕ → ℕ × ℕ × ℕ) (marks : List ℕ) (m : ℕ × ℕ) (at : ℕ) where
  pub no_partner : (j : ℕ) → at ≤ j → ((h : ℕ) → at ≤ h → h < j → Kept marks h → Apart (move_of (f h)) m)
      → (0 < at → Kept marks (at - 1) × (Apart (move_of (f (at - 1))) m → ⊥) × (move_of (f (at - 1)) ≡ (m.1, m.0) → ⊥))
      → Partner (stack_of f marks j) m → ⊥
  unfolding stack_of
  no_partner zero l a b p = not_empty p refl
  no_partner (suc j) l a b p =
      ⊎_elim
      (λ (e : at ≡ suc j).
      let t = b (omega arith) in
      let last : at - 1 ≡ j = omega arith in
      let k : Kept marks j = rw last at t.0 in
      let q = no_under (rw (stack_kept f marks j k) at p) (λ c. t.2 (rw last c)) in
      t.1 (rw last q.0))
      (λ (e : at ≢ suc j).
      let on = no_partner j (omega arith) (λ h u v. a h u (omega arith)) b in
      ⊎_elim
      (λ (k : Kept marks j).
      let c = a j (omega arith) (omega arith) k in
      on (no_under (rw (stack_kept f marks j k) at p) (not_turned c)).1)
      (λ (k : Kept marks j → ⊥). on (rw (stack_skipped f marks j k) at p))
      (kept? marks j))
      (equal? at (suc j))

-- links

pub since_self : (f : ℕ → ℕ × ℕ × ℕ) (marks : List ℕ) (p h : ℕ) → Since f marks p h h
since_self f marks p h = record { low = le_refl h; none = λ x u v k t. omega arith }

pub since_fewer : (f : ℕ → ℕ × ℕ × ℕ) {marks marks' : List ℕ} {p i h : ℕ} → ((x : ℕ) → x < h → Kept marks' x → Kept marks x)
    → Since f marks p i h → Since f marks' p i h
since_fewer f fewer k = record { low = k.low; none = λ x u v m t. k.none x u v (fewer x v m) t }

pub since_next : (f : ℕ → ℕ × ℕ × ℕ) (marks : List ℕ) (p j : ℕ) {i : ℕ} → (Kept marks j → ⊥)
    → Since f marks p i j → Since f marks p i (j + 1)
since_next f marks p j n k =
    record {
      low = omega (arith, k.low);
      none =
          λ x u v m t.
          ⊎_elim (λ (q : x ≡ j). n (rw (← q) m)) (λ (q : x ≢ j). k.none x u (omega arith) m t) (equal? x j);
    }

pub link_far : (links : List ℕ) (j h : ℕ) → 512 < j - h → h ≡ link_of links j h
unfolding link_of
link_far links j h far = sym (cond-true (ltb 512 (j - h)) h (get_or links (h % 512) 0) (lt→ltb 512 (j - h) far))

pub link_near : (links : List ℕ) (j h : ℕ) → j - h ≤ 512 → get_or links (h % 512) 0 ≡ link_of links j h
unfolding link_of
link_near links j h near =
    let no : T (not (ltb 512 (j - h))) = (not_parts (ltb 512 (j - h))).1 (λ t. let u = ltb→lt 512 (j - h) t in omega arith) in
    sym (cond-false (ltb 512 (j - h)) h (get_or links (h % 512) 0) no)

module _ (f : ℕ → ℕ × ℕ × ℕ) (marks : List ℕ) where
  -- the link of a move that is one further back: it is dropped, or it stays
  link_by : (links links' : List ℕ) (j h p : ℕ) → h < j → (j + 1 - h ≤ 512 → get_or links' (h % 512) 0 ≡ get_or links (h % 512) 0)
      → Since f marks p (link_of links j h) h → Since f marks p (link_of links' (j + 1) h) h
  link_by links links' j h p b same k =
      ⊎_elim
      (λ (near : j + 1 - h ≤ 512). rw (← link_near links' (j + 1) h near, same near, link_near links j h (omega arith)) k)
      (λ (far : 512 < j + 1 - h). rw (← link_far links' (j + 1) h far) (since_self f marks p h))
      (below? (j + 1 - h) 512)

  pub link_next : (links : List ℕ) (j h p : ℕ) → h < j → Since f marks p (link_of links j h) h → Since f marks p (link_of links (j + 1) h) h
  link_next links j h p b k = link_by links links j h p b (λ n. refl) k

  pub link_stays : (links : List ℕ) (j h p x : ℕ) → h < j → Since f marks p (link_of links j h) h
      → Since f marks p (link_of (set links (j % 512) x) (j + 1) h) h
  link_stays links j h p x b k =
      link_by links (set links (j % 512) x) j h p b (λ n. get_or-set_other links (j % 512) (h % 512) x 0 (λ q. omega arith)) k

  pub link_new : (links : List ℕ) (j p x : ℕ) → length links ≡ 512 → Since f marks p x j
      → Since f marks p (link_of (set links (j % 512) x) (j + 1) j) j
  link_new links j p x many k =
      rw (← link_near (set links (j % 512) x) (j + 1) j (omega arith), get_or-set_same links (j % 512) x 0 (omega (arith, many))) k

-- the pass

pub going_first : (f : ℕ → ℕ × ℕ × ℕ) (marks blocks groups : List ℕ) → NoneKept marks
    → Going f 0 marks blocks groups (replicate 64 0) (replicate 512 0) (replicate 512 0)
going_first f marks blocks groups n =
    record {
      looked =
          record {
            by_blocks = record { has = λ i p k. absurd (n.none i k) };
            by_groups = record { has = λ i p k. absurd (n.none i k) };
          };
      places = (length-replicate {A = ℕ} 64 0, length-replicate {A = ℕ} 512 0, length-replicate {A = ℕ} 512 0);
      bounded = record { later = λ i l k. n.none i k; since = λ p. rw (zeros_at 64 p) (since_self f marks p 0) };
      left = λ h k. absurd (n.none h k);
      entered = λ h k. absurd (n.none h k);
      passes = unfold stack_of in begun;
    }

pub going_looked : {f : ℕ → ℕ × ℕ × ℕ} {j : ℕ} {marks blocks groups blocks' groups' bounds lefts enters : List ℕ}
    → Looked f marks blocks' groups' → Going f j marks blocks groups bounds lefts enters
    → Going f j marks blocks' groups' bounds lefts enters
going_looked l g =
    record {
      looked = l;
      places = g.places;
      bounded = g.bounded;
      left = g.left;
      entered = g.entered;
      passes = g.passes;
    }

pub going_at : {f : ℕ → ℕ × ℕ × ℕ} {i j : ℕ} {marks blocks groups bounds lefts enters : List ℕ} → i ≡ j
    → Going f i marks blocks groups bounds lefts enters → Going f j marks blocks groups bounds lefts enters
going_at e g = rw (← e) g

pub none_kept : (n : ℕ) → NoneKept (replicate n 0)
none_kept n = record { none = λ i k. has_none (i % 64) (rw (zeros_at n (i / 64)) at k) }

-- the sets of blocks and groups take the kept move's positions in
covers_more : (f : ℕ → ℕ × ℕ × ℕ) (marks marks' : List ℕ) (a b j size : ℕ) (l r : List ℕ) → move_of (f j) ≡ (a, b) → Marks marks j marks'
    → TakesIn l (j / size) a b r → Covers f marks size l → Covers f marks' size r
covers_more f marks marks' a b j size l r moves more in_r c =
    record {
      has =
          λ i p k t.
          ⊎_elim (λ (x : Kept marks i). (in_r (i / size) p).1 (inl (c.has i p x t)))
          (λ (z : i ≡ j).
          let d : Touches (a, b) p = rw (z, moves) at t in
          (in_r (i / size) p).1 (inr (ap (λ (y : ℕ). y / size) z, ⊎_elim (λ y. inl (sym y)) (λ y. inr (sym y)) d)))
          ((more i).0 k);
    }

-- tables with room for some moves have room for fewer
pub room_less : {k n : ℕ} {marks blocks groups : List ℕ} → k ≤ n → Room n marks blocks groups → Room k marks blocks groups
room_less l r =
    record {
      for_marks = omega (arith, l, r.for_marks);
      for_blocks = omega (arith, l, r.for_blocks);
      for_groups = omega (arith, l, r.for_groups);
    }

-- tables of zeros
pub room_for : {k : ℕ} (a b c : ℕ) → k ≤ 64 * a → k ≤ 256 * b → k ≤ 16384 * c
    → Room k (replicate a 0) (replicate b 0) (replicate c 0)
room_for a b c x y z =
    record {
      for_marks = rw (length-replicate {A = ℕ} a 0) x;
      for_blocks = rw (length-replicate {A = ℕ} b 0) y;
      for_groups = rw (length-replicate {A = ℕ} c 0) z;
    }

-- two positions as a set
pub ends_are : (a b o e : ℕ) → ((p : ℕ) → Has o p ↔ (p ≡ a)) → ((p : ℕ) → Has e p ↔ (Has o p ⊎ (p ≡ b))) → Ends a b e
ends_are a b o e one two =
    record {
      has =
          λ p. (
            λ h. ⊎_elim (λ q. inl ((one p).0 q)) (λ q. inr q) ((two p).0 h),
            λ q. (two p).1 (⊎_elim (λ x. inl ((one p).1 x)) (λ x. inr x) q),
          );
    }

module _ (a b e : ℕ) (ends : Ends a b e) where
  -- a move touches one of the two positions, or has none in common with the move from a to b
  not_apart : (x : ℕ × ℕ) (p : ℕ) → Touches x p → Has e p → Apart x (a, b) → ⊥
  not_apart x p t h d =
      ⊎_elim
      (λ (q : p ≡ a). ⊎_elim (λ u. d.left_left (u ∙ q)) (λ u. d.entered_left (u ∙ q)) t)
      (λ (q : p ≡ b). ⊎_elim (λ u. d.left_entered (u ∙ q)) (λ u. d.entered_entered (u ∙ q)) t)
      ((ends.has p).0 h)

  apart_from : (x : ℕ × ℕ) → ((p : ℕ) → Touches x p → Has e p → ⊥) → Apart x (a, b)
  apart_from x n =
      record {
        left_left = λ q. n a (inl q) ((ends.has a).1 (inl refl));
        left_entered = λ q. n b (inl q) ((ends.has b).1 (inr refl));
        entered_left = λ q. n a (inr q) ((ends.has a).1 (inl refl));
        entered_entered = λ q. n b (inr q) ((ends.has b).1 (inr refl));
      }

  in? : (p : ℕ) → Has e p ⊎ (Has e p → ⊥)
  in? p = ⊎_elim (λ k. inl k) (λ (z : bit e p ≡ 0). inr (λ k. omega (arith, z, k))) (has_or_not e p)

  -- a table in which the entries of the two positions are set
  module _ (small : (a < 64) × (b < 64)) (l : List ℕ) (many : length l ≡ 64) (x y : ℕ) where
    abbrev pub both : List ℕ
    both = set (set l a x) b y

    both-places : length both ≡ 64
    both-places = rw (length-set (set l a x) b y, length-set l a x) many

    both_at : (P : ℕ → ℕ → Type 0) → P a x → P b y → (p : ℕ) → Has e p → P p (get_or both p 0)
    both_at P at_a at_b p h =
        ⊎_elim
        (λ (q : p ≡ b). rw (q, get_or-set_same (set l a x) b y 0 (rw (length-set l a x) (omega (arith, many)))) at_b)
        (λ (q : p ≢ b).
        let c : p ≡ a = ⊎_elim (λ d. d) (λ d. absurd (q d)) ((ends.has p).0 h) in
        rw (get_or-set_other (set l a x) b p y 0 q, c, get_or-set_same l a x 0 (omega (arith, many))) at_a)
        (equal? p b)

    both_other : (p : ℕ) → (Has e p → ⊥) → get_or both p 0 ≡ get_or l p 0
    both_other p n =
        get_or-set_other (set l a x) b p y 0 (λ q. n ((ends.has p).1 (inr q)))
        ∙ get_or-set_other l a p x 0 (λ q. n ((ends.has p).1 (inl q)))

  module _ (f : ℕ → ℕ × ℕ × ℕ) (j : ℕ) (marks bounds : List ℕ) (g : Bounded f j marks bounds) where
    kept-before : (h : ℕ) → Kept marks h → h < j
    kept-before h k = let n : (j ≤ h → ⊥) = λ l. g.later h l k in omega arith

    pub from_low : (r : ℕ) → r ≡ max (get_or bounds a 0) (get_or bounds b 0) → r ≤ j
    from_low r is = omega (arith, is, (g.since a).low, (g.since b).low)

  module _ (f : ℕ → ℕ × ℕ × ℕ) (j : ℕ) (marks blocks groups bounds lefts enters : List ℕ)
      (g : Going f j marks blocks groups bounds lefts enters) (moves : move_of (f j) ≡ (a, b)) (at : ℕ) (found : Found f marks e j at)
      (small : (a < 64) × (b < 64)) where
    above : (h : ℕ) → at ≤ h → Kept marks h → Apart (move_of (f h)) (a, b)
    above h l k = apart_from (move_of (f h)) (λ p t has. found.clear.none h p l k t has)

    -- the two positions have new bounds, and those of the others stay
    next_bounded : (marks' : List ℕ) (x y : ℕ) → ((h : ℕ) → j + 1 ≤ h → Kept marks' h → ⊥) → Since f marks' a x (j + 1)
        → Since f marks' b y (j + 1) → ((p : ℕ) → (Has e p → ⊥) → Since f marks' p (get_or bounds p 0) (j + 1))
        → Bounded f (j + 1) marks' (both small bounds g.places.0 x y)
    next_bounded marks' x y later first second others =
        record {
          later = later;
          since =
              λ p.
              ⊎_elim (λ (h : Has e p). both_at small bounds g.places.0 x y (λ q i. Since f marks' q i (j + 1)) first second p h)
              (λ (n : Has e p → ⊥). rw (both_other small bounds g.places.0 x y p n) (others p n)) (in? p);
        }

    module _ (off : ℕ) (there : at ≡ off + 1) (turned : move_of (f off) ≡ (b, a)) (marks' : List ℕ) (less : Unmarks marks off marks') where
      gone : Kept marks off
      gone = let same : at - 1 ≡ off = omega arith in rw same at (found.touching (omega arith)).kept

      -- below the move that is taken off, its own links count
      passed : (p i : ℕ) → Has e p → Since f marks p i off → Since f marks' p i (j + 1)
      passed p i has known =
          record {
            low = omega (arith, known.low, found.below);
            none =
                λ h u v k t.
                let w = (less h).0 k in
                ⊎_elim (λ (q : at ≤ h). found.clear.none h p q w.0 t has)
                (λ (q : h < at). known.none h u (omega (arith, w.1, there)) w.0 t) (below? at h);
          }

      first : Since f marks' a (link_of enters j off) (j + 1)
      first = passed a _ ((ends.has a).1 (inl refl)) (rw turned at (g.entered off gone))

      second : Since f marks' b (link_of lefts j off) (j + 1)
      second = passed b _ ((ends.has b).1 (inr refl)) (rw turned at (g.left off gone))

      abbrev bounds' : List ℕ
      bounds' = both small bounds g.places.0 (link_of enters j off) (link_of lefts j off)

      pub going_off : Going f (j + 1) marks' blocks groups bounds' lefts enters
      going_off =
          let l : off < j = omega (arith, found.below) in
          let none_here : (Kept marks' j → ⊥) = λ k. g.bounded.later j (le_refl j) ((less j).0 k).0 in
          let taken : Taken (stack_of f marks j) (move_of (f j)) (stack_of f marks' j) =
          rw moves (taken_off f marks marks' (a, b) off gone turned less j l (λ h u v k. above h (omega arith) k)) in
          let fewer : (h : ℕ) → Kept marks' h → Kept marks h = λ h k. ((less h).0 k).0 in
          let before : (h : ℕ) → Kept marks' h → h < j = λ h k. kept-before f j marks bounds g.bounded h (fewer h k) in
          record {
            looked =
                record {
                  by_blocks = record { has = λ h p k t. g.looked.by_blocks.has h p (fewer h k) t };
                  by_groups = record { has = λ h p k t. g.looked.by_groups.has h p (fewer h k) t };
                };
            places = (both-places small bounds g.places.0 _ _, g.places.1, g.places.2);
            bounded =
                next_bounded marks' _ _ (λ h u k. g.bounded.later h (omega arith) (fewer h k)) first second
                (λ p n. since_next f marks' p j none_here (since_fewer f (λ h l k. fewer h k) (g.bounded.since p)));
            left = λ h k. link_next f marks' lefts j h _ (before h k) (since_fewer f (λ i l m. fewer i m) (g.left h (fewer h k)));
            entered =
                λ h k. link_next f marks' enters j h _ (before h k) (since_fewer f (λ i l m. fewer i m) (g.entered h (fewer h k)));
            passes = rw (add-one j, stack_skipped f marks' j none_here) (next g.passes (cancelled taken));
          }

    module _ (not : (h : ℕ) → at ≡ h + 1 → move_of (f h) ≡ (b, a) → ⊥) (marks' blocks' groups' : List ℕ) (more : Marks marks j marks') where
      -- of the marks only that of the next move is new
      old : (h : ℕ) → Kept marks' h → h ≢ j → Kept marks h
      old h k n = ⊎_elim (λ x. x) (λ q. absurd (n q)) ((more h).0 k)

      alone : Partner (stack_of f marks j) (move_of (f j)) → ⊥
      alone =
          rw moves
          (no_partner f marks (a, b) at j (omega (arith, found.below)) (λ h u v k. above h u k)
          (λ some.
          let t = found.touching some in
          (t.kept, (λ d. not_apart (move_of (f (at - 1))) t.place t.touches t.has d), not (at - 1) (omega arith))))

      before : (h : ℕ) → h < j → Kept marks' h → Kept marks h
      before h l k = old h k (λ q. omega arith)

      -- what is known of the positions of the move that is kept: its links
      known : (p : ℕ) → Has e p → Since f marks' p (min (get_or bounds p 0) at) j
      known p has =
          record {
            low = omega (arith, (g.bounded.since p).low);
            none =
                λ h u v k t.
                ⊎_elim (λ (q : at ≤ h). found.clear.none h p q (before h v k) t has)
                (λ (q : h < at). (g.bounded.since p).none h (omega (arith, u)) v (before h v k) t) (below? at h);
          }

      -- the links of one more move: its own is new, and those of the latest others stay
      linked : (which : ℕ × ℕ → ℕ) (links : List ℕ) → length links ≡ 512 → (p : ℕ) → Has e p → which (a, b) ≡ p
          → ((h : ℕ) → Kept marks h → Since f marks (which (move_of (f h))) (link_of links j h) h) → (h : ℕ) → Kept marks' h
          → Since f marks' (which (move_of (f h))) (link_of (set links (j % 512) (min (get_or bounds p 0) at)) (j + 1) h) h
      linked which links many p has is is_linked h k =
          ⊎_elim
          (λ (q : h ≡ j).
          let place : which (move_of (f h)) ≡ p = ap (λ (i : ℕ). which (move_of (f i))) q ∙ ap which moves ∙ is in
          rw (place, q) (link_new f marks' links j p _ many (known p has)))
          (λ (q : h ≢ j).
          let b = kept-before f j marks bounds g.bounded h (old h k q) in
          link_stays f marks' links j h (which (move_of (f h))) _ b
          (since_fewer f (λ i l m. before i (omega arith) m) (is_linked h (old h k q))))
          (equal? h j)

      pub going_on : TakesIn blocks (j / 256) a b blocks' → TakesIn groups (j / 16384) a b groups'
          → Going f (j + 1) marks' blocks' groups' (both small bounds g.places.0 (j + 1) (j + 1))
          (set lefts (j % 512) (min (get_or bounds a 0) at)) (set enters (j % 512) (min (get_or bounds b 0) at))
      going_on by_blocks by_groups =
          let same : stack_of f marks' j ≡ stack_of f marks j =
          stack_same f marks' marks j (λ h u. (λ k. before h u k, λ k. (more h).1 (inl k))) in
          record {
            looked =
                record {
                  by_blocks = covers_more f marks marks' a b j 256 blocks blocks' moves more by_blocks g.looked.by_blocks;
                  by_groups = covers_more f marks marks' a b j 16384 groups groups' moves more by_groups g.looked.by_groups;
                };
            places = (
              both-places small bounds g.places.0 (j + 1) (j + 1),
              rw (length-set lefts (j % 512) (min (get_or bounds a 0) at)) g.places.1,
              rw (length-set enters (j % 512) (min (get_or bounds b 0) at)) g.places.2,
            );
            bounded =
                next_bounded marks' (j + 1) (j + 1) (λ h u k. g.bounded.later h (omega arith) (old h k (λ q. omega arith)))
                (since_self f marks' a (j + 1)) (since_self f marks' b (j + 1)) bounded_other;
            left = linked (λ m. m.0) lefts g.places.1 a ((ends.has a).1 (inl refl)) refl g.left;
            entered = linked (λ m. m.1) enters g.places.2 b ((ends.has b).1 (inr refl)) refl g.entered;
            passes = rw (add-one j, stack_kept f marks' j ((more j).1 (inr refl)), same) (next g.passes (kept alone));
          }
        where
          -- a position of which the move that is kept does not speak
          bounded_other : (p : ℕ) → (Has e p → ⊥) → Since f marks' p (get_or bounds p 0) (j + 1)
          bounded_other p n =
              record {
                low = omega (arith, (g.bounded.since p).low);
                none =
                    λ h u v k t.
                    ⊎_elim
                    (λ (q : h ≡ j).
                    let c : Touches (a, b) p = rw (q, moves) at t in
                    n ((ends.has p).1 (⊎_elim (λ z. inl (sym z)) (λ z. inr (sym z)) c)))
                    (λ (q : h ≢ j). (g.bounded.since p).none h u (omega arith) (old h k q) t)
                    (equal? h j);
              }
