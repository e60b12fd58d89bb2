-- The pass is the rule: taking moves one after another onto the stack makes the same list as removing the pair whose later move comes
-- first, again and again. And the racks that the moves name stay with them: replay from the same arrangement still tells them.
--
--     listed_at l i      the listed move of index i, indices counted from 0
--     reduced_none      on a stack without cancelling moves no pair is left, whatever follows
--     TakenPair, taken_pair    a move taken off the stack and the move that takes it are a pair; without them the stack and the rest stay
--     Reached           the rule comes to the stack with the rest behind it, and that is legal and rightly named
--     reached_first, reached_next    at first, and with one more move taken
--     passes_leads, passes_shortens    so it comes to the stack at the end
--     passes_is         which is what the function gives
--     passes_listed     with the racks that replay tells
-- Assumes nothing.
use Prim.Native.Nat.{ℕ, zero, suc, ◌+◌, ◌-◌, ◌≤◌, ◌<◌}
use mathlib.Core.Bool.{Bool}
use mathlib.Core.List.{List, [], ◌∷◌, ◌++◌}
use mathlib.Core.Logic.{⊎_elim, ◌≢◌}
use mathlib.Core.Path.{◌≡◌, refl, sym, ap, ◌∙◌}
use native.Mathlib.Omega.{arith}
use native.Mathlib.Nat.{le_refl, add-zero}
use lib.Dec.{T}
use lib.ListN.{length, get_or, take, drop, get_or-append}
use lib.Seq.{drop-cons, drop-length, take-append_seam, drop-append-add}
use Rattle.field.specs.Listed.{moves_of, ListedFit, none₃}
use Rattle.field.proofs.ListedLaws.{length-moves_of, moves_of_append}
use Rattle.order.specs.Floor.{Floor}
use Rattle.motion.specs.Arrangement.{Arrangement}
use Rattle.motion.specs.Replay.{listed}
use Rattle.motion.proofs.ListedLaws.{LeadsListed}
use Rattle.motion.proofs.Test.{equal?}
use Rattle.plan.proofs.Listing.{listing}
use Rattle.shortening.specs.Rule.{move_at, between, cancels, without, FirstPair, Shortens, done, again, shortened}
use Rattle.cancelling.specs.Stack.{move_of, Apart, Partner, top, under, Taken, off_top, from_under, Pushed, cancelled, kept}
use Rattle.cancelling.specs.Stack.{Passes, begun, next, laid}
use Rattle.shortening.proofs.RuleLaws.{cancelling, shortens_unique, shortened_rule}
use Rattle.shortening.proofs.RemovalLaws.{Undoing, undoing_cancels}
use Rattle.shortening.proofs.RackLaws.{leads_moves, taken_leads, fit_at, laid_fits, passes_fit}
use Rattle.shortening.proofs.StackLaws.{apart-sym, apart-turned, Reduced, on_top, passes_reduced}
use Rattle.shortening.proofs.StackLaws.{laid-length, laid-at, laid-take, laid-drop, laid_append}

-- listed moves by their indices, and without the racks

unfoldable pub listed_at : List (ℕ × ℕ × ℕ) → ℕ → ℕ × ℕ × ℕ
listed_at l i = get_or l i (0, 0, 0)

abbrev move_in : List (ℕ × ℕ × ℕ) → ℕ → ℕ × ℕ
move_in l i = move_at (moves_of l) i

move_in_lem : (l : List (ℕ × ℕ × ℕ)) (i : ℕ) → move_in l i ≡ move_of (get_or l i (0, 0, 0))
unfolding move_at moves_of move_of
move_in_lem [] i = refl
move_in_lem (w ∷ l) zero = refl
move_in_lem (w ∷ l) (suc i) = move_in_lem l i

take-moves : (n : ℕ) (l : List (ℕ × ℕ × ℕ)) → take n (moves_of l) ≡ moves_of (take n l)
unfolding moves_of
take-moves zero l = refl
take-moves (suc n) [] = refl
take-moves (suc n) (w ∷ l) = ap (λ (x : List (ℕ × ℕ)). (w.0, w.1) ∷ x) (take-moves n l)

drop-moves : (n : ℕ) (l : List (ℕ × ℕ × ℕ)) → drop n (moves_of l) ≡ moves_of (drop n l)
unfolding moves_of
drop-moves zero l = refl
drop-moves (suc n) [] = refl
drop-moves (suc n) (w ∷ l) = drop-moves n l

-- the move that stands first behind a stack
seam : (K : List (ℕ × ℕ × ℕ)) (x : ℕ × ℕ × ℕ) (r : List (ℕ × ℕ × ℕ)) → move_in (laid K (x ∷ r)) (length K) ≡ move_of x
seam K x r = move_in_lem (laid K (x ∷ r)) (length K) ∙ ap move_of (rw (← add-zero (length K)) (laid-at K (x ∷ r) 0 (0, 0, 0)))

partner-from : (K r : List (ℕ × ℕ × ℕ)) (m : ℕ × ℕ) (i : ℕ) → i < length K → move_in (laid K r) i ≡ (m.1, m.0)
    → ((h : ℕ) → i < h → h < length K → Apart (move_in (laid K r) i) (move_in (laid K r) h)) → Partner K m
unfolding laid
partner-from [] r m i l e a = absurd (omega arith)
partner-from (x ∷ K) r m i l e a =
    let here = seam K x r in
    ⊎_elim
    (λ (c : i ≡ length K). top (sym here ∙ ap (move_in (laid K (x ∷ r))) (sym c) ∙ e))
    (λ (c : i ≢ length K).
    let b : Apart (m.1, m.0) (move_of x) = rw (e, here) at (a (length K) (omega arith) (omega arith)) in
    under (apart-sym (apart-turned b)) (partner-from K (x ∷ r) m i (omega arith) e (λ h p q. a h p (omega arith))))
    (equal? i (length K))

pub reduced_none : (K r : List (ℕ × ℕ × ℕ)) (i j : ℕ) → Reduced K → Undoing (moves_of (laid K r)) i j → j < length K → ⊥
unfolding laid
reduced_none [] r i j d u l = omega arith
reduced_none (w ∷ K) r i j (on_top n d) u l =
    ⊎_elim
    (λ (c : j ≡ length K).
    let m = move_of w in
    let here : move_in (laid K (w ∷ r)) j ≡ m = ap (move_in (laid K (w ∷ r))) c ∙ seam K w r in
    let turned : ((move_in (laid K (w ∷ r)) i).1, (move_in (laid K (w ∷ r)) i).0) ≡ m = u.undoes ∙ here in
    let e : move_in (laid K (w ∷ r)) i ≡ (m.1, m.0) = ap (λ (x : ℕ × ℕ). (x.1, x.0)) turned in
    n (partner-from K (w ∷ r) m i (omega (arith, u.earlier)) e (λ h p q. u.unvisited h p (omega arith))))
    (λ (c : j ≢ length K). reduced_none K (w ∷ r) i j d u (omega arith))
    (equal? j (length K))

pub record TakenPair (L : List (ℕ × ℕ × ℕ)) (j : ℕ) (m : ℕ × ℕ) (left : List (ℕ × ℕ × ℕ)) : Type 0 where
  pub index : ℕ
  pub below : index < j
  pub undoes : move_in L index ≡ (m.1, m.0)
  pub unvisited : (h : ℕ) → index < h → h < j → Apart (move_in L h) m
  pub gone : without (moves_of L) index j ≡ moves_of left

module _ (K : List (ℕ × ℕ × ℕ)) (x w : ℕ × ℕ × ℕ) (ys rest : List (ℕ × ℕ × ℕ)) where
  abbrev all : List (ℕ × ℕ × ℕ)
  all = laid K (x ∷ (ys ++ w ∷ rest))

  behind : (n : ℕ) → move_in all (length K + suc n) ≡ move_of (get_or (ys ++ w ∷ rest) n (0, 0, 0))
  behind n = move_in_lem all (length K + suc n) ∙ ap move_of (laid-at K (x ∷ (ys ++ w ∷ rest)) (suc n) (0, 0, 0))

  taken_gone : without (moves_of all) (length K) (length K + suc (length ys)) ≡ moves_of (laid K (ys ++ rest))
  unfolding without between
  taken_gone =
      let size : length K + suc (length ys) - suc (length K) ≡ length ys = omega arith in
      let front : take (length K) (moves_of all) ≡ moves_of (laid K []) =
      take-moves (length K) all ∙ ap moves_of (rw (← add-zero (length K)) (laid-take K (x ∷ (ys ++ w ∷ rest)) 0)) in
      let one : suc (length K) ≡ length K + 1 = omega arith in
      let after : drop (suc (length K)) (moves_of all) ≡ moves_of (ys ++ w ∷ rest) =
      drop-moves (suc (length K)) all ∙ ap moves_of (rw one (laid-drop K (x ∷ (ys ++ w ∷ rest)) 1)) in
      let middle : take (length ys) (moves_of (ys ++ w ∷ rest)) ≡ moves_of ys =
      take-moves (length ys) (ys ++ w ∷ rest) ∙ ap moves_of (take-append_seam ys (w ∷ rest)) in
      let two : suc (length K + suc (length ys)) ≡ length K + suc (suc (length ys)) = omega arith in
      let more : suc (length ys) ≡ length ys + 1 = omega arith in
      let end : drop (suc (length K + suc (length ys))) (moves_of all) ≡ moves_of rest =
      drop-moves (suc (length K + suc (length ys))) all
      ∙ ap moves_of
      (rw two (laid-drop K (x ∷ (ys ++ w ∷ rest)) (suc (suc (length ys))) ∙ rw more (drop-append-add ys (w ∷ rest) 1))) in
      rw (front, size, after, middle, end)
      (sym
      (ap moves_of (sym (ap (λ (l : List (ℕ × ℕ × ℕ)). l ++ rest) (laid_append K [] ys) ∙ laid_append K ys rest))
      ∙ moves_of_append (laid K [] ++ ys) rest
      ∙ ap (λ (l : List (ℕ × ℕ)). l ++ moves_of rest) (moves_of_append (laid K []) ys)))

pub taken_pair : {m : ℕ × ℕ} {K S : List (ℕ × ℕ × ℕ)} → Taken K m S → (w : ℕ × ℕ × ℕ) (ys rest : List (ℕ × ℕ × ℕ))
    → ((n : ℕ) → n < length ys → Apart (move_of (get_or ys n (0, 0, 0))) m)
    → TakenPair (laid K (ys ++ w ∷ rest)) (length K + length ys) m (laid S (ys ++ rest))
unfolding laid
taken_pair {m = m} (off_top {w = x} {K = K} e) w ys rest a =
    let size : suc (length K) + length ys ≡ length K + suc (length ys) = omega arith in
    rw size
    (record {
      index = length K;
      below = omega arith;
      undoes = seam K x (ys ++ w ∷ rest) ∙ e;
      unvisited =
          λ h l u.
          let at : length K + suc (h - suc (length K)) ≡ h = omega arith in
          let inside : h - suc (length K) < length ys = omega arith in
          let is : move_in (laid K (x ∷ (ys ++ w ∷ rest))) h ≡ move_of (get_or ys (h - suc (length K)) (0, 0, 0)) =
          ap (move_in (laid K (x ∷ (ys ++ w ∷ rest)))) (sym at) ∙ behind K x w ys rest (h - suc (length K))
          ∙ ap move_of (get_or-append ys (w ∷ rest) (0, 0, 0) (h - suc (length K)) inside) in
          rw is (a (h - suc (length K)) inside);
      gone = taken_gone K x w ys rest;
    })
taken_pair {m = m} (from_under {w = x} {K = K} {S = S} b t) w ys rest a =
    let size : suc (length K) + length ys ≡ length K + suc (length ys) = omega arith in
    rw size (taken_pair t w (x ∷ ys) rest more)
  where
    more : (n : ℕ) → n < suc (length ys) → Apart (move_of (get_or (x ∷ ys) n (0, 0, 0))) m
    more zero h = b
    more (suc n) h = a n (omega arith)

module _ (F : Floor) (A B : Arrangement) (l : List (ℕ × ℕ × ℕ)) where
  pub record Reached (j : ℕ) (K : List (ℕ × ℕ × ℕ)) : Type 0 where
    pub within : j ≤ length l
    pub leads : LeadsListed F A (laid K (drop j l)) B
    pub on : (ns : List (ℕ × ℕ)) → Shortens A (moves_of (laid K (drop j l))) ns → Shortens A (moves_of l) ns

  pub reached_first : LeadsListed F A l B → Reached 0 []
  unfolding laid
  reached_first p = record { within = omega arith; leads = p; on = λ ns s. s }

  module _ (j : ℕ) (K : List (ℕ × ℕ × ℕ)) (inside : j < length l) (r : Reached j K) (d : Reduced K) where
    abbrev w : ℕ × ℕ × ℕ
    w = listed_at l j

    whole : laid K (drop j l) ≡ laid K (w ∷ drop (suc j) l)
    unfolding listed_at
    whole = ap (laid K) (drop-cons l j (0, 0, 0) inside)

    leads_whole : LeadsListed F A (laid K (w ∷ drop (suc j) l)) B
    leads_whole = rw whole at r.leads

    reached_taken : (S : List (ℕ × ℕ × ℕ)) → Taken K (move_of w) S → Reached (suc j) S
    reached_taken S t =
        let rest = drop (suc j) l in
        let m = move_of w in
        let ms = moves_of (laid K (w ∷ rest)) in
        let none : length K + 0 ≡ length K = add-zero (length K) in
        let v : TakenPair (laid K (w ∷ rest)) (length K) m (laid S rest) =
        rw none at (taken_pair t w [] rest (λ n h. absurd (omega arith))) in
        let i = v.index in
        let at_end : move_at ms (length K) ≡ m = seam K w rest in
        let u : Undoing ms i (length K) =
        record {
          earlier = v.below;
          there = omega (arith, length-moves_of (laid K (w ∷ rest)), laid-length K (w ∷ rest));
          undoes = ap (λ (x : ℕ × ℕ). (x.1, x.0)) v.undoes ∙ sym at_end;
          unvisited = λ h x y. rw v.undoes (apart-turned (apart-sym (v.unvisited h x y)));
        } in
        let c : T (cancels A ms i (length K)) = undoing_cancels F (leads_moves F leads_whole) i (length K) u in
        let f : FirstPair A ms i (length K) =
        record {
          cancel = c;
          first =
              λ i' j' c' x.
              let q = (cancelling A ms i' j').0 c' in
              reduced_none K (w ∷ rest) i' j' d
              (record { earlier = q.earlier; there = q.there; undoes = q.undoes; unvisited = q.unvisited }) x;
        } in
        record {
          within = inside;
          leads = taken_leads F t w refl [] rest (λ n h. absurd (omega arith)) leads_whole;
          on =
              λ ns s.
              let on : Shortens A (without ms i (length K)) ns = rw v.gone s in
              r.on ns (rw whole (again f on));
        }

    pub reached_next : (S : List (ℕ × ℕ × ℕ)) → Pushed K w S → Reached (suc j) S
    unfolding laid
    reached_next S (cancelled t) = reached_taken S t
    reached_next S (kept n) = record { within = inside; leads = leads_whole; on = λ ns s. r.on ns (rw whole s) }

  reached : LeadsListed F A l B → {j : ℕ} {K : List (ℕ × ℕ × ℕ)} → Passes (listed_at l) j K → j ≤ length l → Reached j K
  reached p begun h = reached_first p
  reached p (next {j = j} {K = K} {S = S} q s) h =
      reached_next j K (omega arith) (reached p q (omega arith)) (passes_reduced (listed_at l) q) S s

  module _ (p : LeadsListed F A l B) (K : List (ℕ × ℕ × ℕ)) (q : Passes (listed_at l) (length l) K) where
    pub passes_leads : LeadsListed F A (laid K []) B
    passes_leads = rw (drop-length l) at (reached p q (le_refl (length l))).leads

    pub passes_shortens : Shortens A (moves_of l) (moves_of (laid K []))
    passes_shortens =
        let r = reached p q (le_refl (length l)) in
        let d = passes_reduced (listed_at l) q in
        r.on (moves_of (laid K []))
        (rw (drop-length l)
        (done
        (record {
          none =
              λ i j c.
              let x = (cancelling A (moves_of (laid K [])) i j).0 c in
              reduced_none K [] i j d
              (record { earlier = x.earlier; there = x.there; undoes = x.undoes; unvisited = x.unvisited })
              (omega (arith, x.there, length-moves_of (laid K []), laid-length K []));
        })))

    pub passes_is : moves_of (laid K []) ≡ shortened A (moves_of l)
    passes_is = shortens_unique A passes_shortens (shortened_rule A (moves_of l))

    pub passes_listed : (e : Bool) → ListedFit e l → laid K [] ≡ listed e A (shortened A (moves_of l))
    unfolding listed_at
    passes_listed e f =
        let fits = laid_fits e (passes_fit e (listed_at l) (λ i h. fit_at e f i h) q) none₃ in
        (listing e F fits passes_leads).1 ∙ ap (listed e A) passes_is
