-- Choosing racks. Legality does not look at rack numbers, so an arrangement may be re-indexed by any choice of its racks: the
-- moves of the chosen racks, without those of the others, lead the chosen racks where they would have gone. With every rack
-- chosen this is renaming; with some left out it is dropping: "Vacancies beyond two are filled with stand-in racks whose moves
-- are dropped." (document 01, "Breakdown and planning")
--
--     pick idx A          the racks of A that idx lists by index, in that order
--     Within idx n        idx lists only indices below n
--     Names idx n         and it lists each of them
--     moves_of R ms        those of the moves ms that move a rack of R, told by following the racks of R
--     moves_of_own         a move of a rack of R is kept
--     moves_of_other       a move of another rack is dropped
--     moves_of-length      what is kept is no more than ms
--     moves_of_append      of ms ++ ns: what is kept of ms, then what is kept of ns from where the first lead
--     pick-length         as many racks as indices
--     pick_at             a chosen rack stands where it stood
--     pick-vacant         what is vacant stays so without the others
--     pick-occupied       and with every rack chosen what is occupied does
--     pick-after          choosing before or after moves made all at once is the same
--     pick-move           and so with one move
--     leads_pick          if ms lead from A to B then the chosen racks' moves lead from pick idx A to pick idx B
--     leads_renamed       and if idx names every rack, ms themselves do
--     up_to n              the indices below n, in order
--     up_to-length, up_to-at   there are n, and each stands at its own place
--     pick_front          the first racks are a choice
--     leads_dropped       if ms lead the racks R with stand-ins D to R' and D', then the moves of R alone lead R to R'
-- Assumes nothing.
use Prim.Native.Nat.{ℕ, zero, suc, ◌+◌, ◌<◌, ◌≤◌}
use mathlib.Core.Bool.{cond}
use mathlib.Core.List.{List, [], ◌∷◌, ◌++◌, map}
use mathlib.Core.Logic.{⊎_elim}
use mathlib.Core.Path.{◌≡◌, refl, sym, ap, ◌∙◌}
use native.Mathlib.Omega.{arith}
use lib.Dec.{T}
use lib.ListN.{length, get_or, length-map, length-append, get_or-append}
use lib.Seq.{ext_get_or}
use Rattle.order.specs.Floor.{Floor}
use Rattle.motion.specs.Arrangement.{Arrangement, occupied, vacant}
use Rattle.motion.proofs.ArrangementLaws.{occupied_rack, vacant-racks, occupied_or_vacant}
use Rattle.motion.specs.Move.{goes_to, after, after_move}
use Rattle.motion.proofs.MoveLaws.{map_at, legal_parts, after-length, after-at, move-length, moved_unheld}
use Rattle.motion.proofs.Test.{cond-true, cond-false, cond_either}
use Rattle.motion.proofs.Lawful.{Leads, still, ◌then◌, lawful_none, lawful_first}

unfoldable pub pick : List ℕ → Arrangement → Arrangement
pick idx A = map (λ i. get_or A i 0) idx

pub record Within (idx : List ℕ) (n : ℕ) : Type 0 where
  pub below : (k : ℕ) → k < length idx → get_or idx k 0 < n

pub record Names (idx : List ℕ) (n : ℕ) : Type 0 where
  pub within : Within idx n
  pub each : (i : ℕ) → i < n → (k : ℕ) × (k < length idx) × (get_or idx k 0 ≡ i)

unfoldable pub moves_of : Arrangement → List (ℕ × ℕ) → List (ℕ × ℕ)
moves_of R [] = []
moves_of R (m ∷ ms) = let rest = moves_of (after_move R m) ms in cond (occupied R m.0) (m ∷ rest) rest

pub moves_of_own : (R : Arrangement) (m : ℕ × ℕ) (ms : List (ℕ × ℕ)) → T (occupied R m.0)
    → moves_of R (m ∷ ms) ≡ m ∷ moves_of (after_move R m) ms
unfolding moves_of
moves_of_own R m ms t = cond-true (occupied R m.0) _ _ t

pub moves_of_other : (R : Arrangement) (m : ℕ × ℕ) (ms : List (ℕ × ℕ)) → T (vacant R m.0) → moves_of R (m ∷ ms) ≡ moves_of R ms
unfolding moves_of vacant
moves_of_other R m ms t = cond-false (occupied R m.0) _ _ t ∙ ap (λ (Q : Arrangement). moves_of Q ms) (moved_unheld R m t)

pub moves_of-length : (R : Arrangement) (ms : List (ℕ × ℕ)) → length (moves_of R ms) ≤ length ms
unfolding moves_of
moves_of-length R [] = omega arith
moves_of-length R (m ∷ ms) =
    let h = moves_of-length (after_move R m) ms in
    cond_either (λ (l : List (ℕ × ℕ)). length l ≤ suc (length ms)) (occupied R m.0) (omega arith) (omega arith)

pub moves_of_append : (F : Floor) (R R' : Arrangement) (ms ns : List (ℕ × ℕ)) → Leads F R (moves_of R ms) R'
    → moves_of R (ms ++ ns) ≡ moves_of R ms ++ moves_of R' ns
unfolding moves_of
moves_of_append F R R' [] ns p = let e : R ≡ R' = lawful_none p in rw e
moves_of_append F R R' (m ∷ ms) ns p =
    ⊎_elim
    (λ (o : T (occupied R m.0)).
    let q : Leads F R (m ∷ moves_of (after_move R m) ms) R' = rw (moves_of_own R m ms o) at p in
    rw (moves_of_own R m ms o, moves_of_own R m (ms ++ ns) o)
    (ap (λ (xs : List (ℕ × ℕ)). m ∷ xs) (moves_of_append F (after_move R m) R' ms ns (lawful_first q).1)))
    (λ (v : T (vacant R m.0)).
    let q : Leads F R (moves_of R ms) R' = rw (moves_of_other R m ms v) at p in
    rw (moves_of_other R m ms v, moves_of_other R m (ms ++ ns) v) (moves_of_append F R R' ms ns q))
    (occupied_or_vacant R m.0)

module _ (idx : List ℕ) where
  pub pick-length : (A : Arrangement) → length (pick idx A) ≡ length idx
  unfolding pick
  pick-length A = length-map idx (λ i. get_or A i 0)

  pub pick_at : (A : Arrangement) (k : ℕ) → k < length idx → get_or (pick idx A) k 0 ≡ get_or A (get_or idx k 0) 0
  unfolding pick
  pick_at A k h = map_at (λ i. get_or A i 0) idx k h

  pub pick-vacant : (A : Arrangement) (p : ℕ) → Within idx (length A) → T (vacant A p) → T (vacant (pick idx A) p)
  pick-vacant A p w v =
      (vacant-racks (pick idx A) p).1
      (λ k h. let h' : k < length idx = rw pick-length at h in rw (pick_at A k h') ((vacant-racks A p).0 v (get_or idx k 0) (w.below k h')))

  pub pick-occupied : (A : Arrangement) (p : ℕ) → Names idx (length A) → T (occupied A p) → T (occupied (pick idx A) p)
  pick-occupied A p n o =
      let r = (occupied_rack A p).0 o in
      let k = n.each r.0 r.1 in
      (occupied_rack (pick idx A) p).1 (k.0, rw pick-length k.1, pick_at A k.0 k.1 ∙ ap (λ (i : ℕ). get_or A i 0) k.2 ∙ r.2)

  pub pick-after : (A : Arrangement) (ms : List (ℕ × ℕ)) → Within idx (length A) → after (pick idx A) ms ≡ pick idx (after A ms)
  pick-after A ms w =
      ext_get_or 0 (after (pick idx A) ms) (pick idx (after A ms))
      (after-length (pick idx A) ms ∙ pick-length A ∙ sym (pick-length (after A ms)))
      (λ k h.
      let h' : k < length (pick idx A) = rw after-length at h in
      let h'' : k < length idx = rw pick-length at h' in
      after-at (pick idx A) ms k h' ∙ ap (goes_to ms) (pick_at A k h'') ∙ sym (after-at A ms (get_or idx k 0) (w.below k h''))
      ∙ sym (pick_at (after A ms) k h''))

  pub pick-move : (A : Arrangement) (m : ℕ × ℕ) → Within idx (length A) → after_move (pick idx A) m ≡ pick idx (after_move A m)
  unfolding after_move
  pick-move A m w = pick-after A (m ∷ []) w

  pub leads_pick : (F : Floor) {A B : Arrangement} {ms : List (ℕ × ℕ)} → Within idx (length A) → Leads F A ms B
      → Leads F (pick idx A) (moves_of (pick idx A) ms) (pick idx B)
  unfolding moves_of
  leads_pick F w still = still
  leads_pick F {B = B} w (◌then◌ {A = A} {x = m} {xs = ms} l p) =
      let t = (legal_parts F A m).0 l in
      let e : after_move (pick idx A) m ≡ pick idx (after_move A m) = pick-move A m w in
      let w' : Within idx (length (after_move A m)) = rw move-length w in
      let q : Leads F (after_move (pick idx A) m) (moves_of (after_move (pick idx A) m) ms) (pick idx B) = rw e (leads_pick F w' p) in
      ⊎_elim
      (λ (o : T (occupied (pick idx A) m.0)). rw (moves_of_own (pick idx A) m ms o)
      ((legal_parts F (pick idx A) m).1 (t.0, o, pick-vacant A m.1 w t.2) then q))
      (λ (v : T (vacant (pick idx A) m.0)). rw (moves_of_other (pick idx A) m ms v) (rw (moved_unheld (pick idx A) m v) at q))
      (occupied_or_vacant (pick idx A) m.0)

  -- where every rack is chosen, every move is a chosen rack's
  moves_of-pick : (F : Floor) {A B : Arrangement} {ms : List (ℕ × ℕ)} → Names idx (length A) → Leads F A ms B → moves_of
      (pick idx A) ms ≡ ms
  unfolding moves_of
  moves_of-pick F n still = refl
  moves_of-pick F n (◌then◌ {A = A} {x = m} {xs = ms} l p) =
      let n' : Names idx (length (after_move A m)) = rw move-length n in
      moves_of_own (pick idx A) m ms (pick-occupied A m.0 n ((legal_parts F A m).0 l).1)
      ∙ ap (λ (xs : List (ℕ × ℕ)). m ∷ xs) (rw (pick-move A m n.within) (moves_of-pick F n' p))

  pub leads_renamed : (F : Floor) {A B : Arrangement} {ms : List (ℕ × ℕ)} → Names idx (length A) → Leads F A ms B
      → Leads F (pick idx A) ms (pick idx B)
  leads_renamed F n p = rw (moves_of-pick F n p) at (leads_pick F n.within p)

count_from : ℕ → ℕ → List ℕ
count_from k zero = []
count_from k (suc n) = k ∷ count_from (suc k) n

count_from_length : (k n : ℕ) → length (count_from k n) ≡ n
unfolding count_from
count_from_length k zero = refl
count_from_length k (suc n) = ap suc (count_from_length (suc k) n)

count_from_at : (k n i : ℕ) → i < n → get_or (count_from k n) i 0 ≡ k + i
unfolding count_from
count_from_at k zero i h = absurd (omega arith)
count_from_at k (suc n) zero h = omega arith
count_from_at k (suc n) (suc i) h = count_from_at (suc k) n i (omega arith) ∙ omega arith

unfoldable pub up_to : ℕ → List ℕ
unfolding count_from
up_to n = count_from 0 n

pub up_to-length : (n : ℕ) → length (up_to n) ≡ n
unfolding up_to
up_to-length n = count_from_length 0 n

pub up_to-at : (n i : ℕ) → i < n → get_or (up_to n) i 0 ≡ i
unfolding up_to
up_to-at n i h = count_from_at 0 n i h ∙ omega arith

pub pick_front : (R D : Arrangement) (n : ℕ) → length R ≡ n → pick (up_to n) (R ++ D) ≡ R
pick_front R D n e =
    ext_get_or 0 (pick (up_to n) (R ++ D)) R (pick-length (up_to n) (R ++ D) ∙ up_to-length n ∙ sym e)
    (λ k h.
    let h' : k < length (up_to n) = rw pick-length at h in
    let h'' : k < n = rw up_to-length at h' in
    pick_at (up_to n) (R ++ D) k h' ∙ ap (λ (i : ℕ). get_or (R ++ D) i 0) (up_to-at n k h'') ∙ get_or-append R D 0 k (omega arith))

pub leads_dropped : (F : Floor) (R D R' D' : Arrangement) {ms : List (ℕ × ℕ)} → length R' ≡ length R → Leads F (R ++ D) ms (R' ++ D')
    → Leads F R (moves_of R ms) R'
leads_dropped F R D R' D' {ms} e p =
    let w : Within (up_to (length R)) (length (R ++ D)) =
    record { below = λ k h. let h' : k < length R = rw up_to-length at h in omega (arith, up_to-at (length R) k h', length-append R D) } in
    let q : Leads F (pick (up_to (length R)) (R ++ D)) (moves_of (pick (up_to (length R)) (R ++ D)) ms)
    (pick (up_to (length R)) (R' ++ D')) =
    leads_pick (up_to (length R)) F w p in
    rw (pick_front R D (length R) refl, pick_front R' D' (length R) e) at q
