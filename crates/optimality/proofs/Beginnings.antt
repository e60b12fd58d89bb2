-- Lists of numbers and their beginnings: how often a number stands in one, and which stands last. Two beginnings of one list are compared
-- by their lengths.
--
--     Begins k l         l begins with k
--     begins_itself      a list begins with itself
--     begins_more        with more behind it, it begins as before
--     begins_through     a beginning of a beginning is one
--     begins_compare     of two beginnings of one list the longer begins with the shorter
--     begins_whole       a beginning with nothing behind it is the list
--     begins_same        two beginnings of one list that are of one length are the same
--     times b l          how often b stands in l
--     times_one          once in the list of it alone
--     times_append       in two lists one after the other
--     times_begins       a beginning has it at most as often
--     last_or y l         the last element of l; y where l is empty
--     last_or_append      of two lists one after the other
--     last_stands        the last element stands in the list
--     enters_late        if a position was visited at most as often as before rack r comes to it next, then r has not come to it
--     leaves_late        if rack r has not gone on from p, then p was visited at most as often as before r goes on
--     comes_late         if rack r has not come to p yet, then p was visited less often than before r goes on
-- Assumes nothing.
use Prim.Native.Nat.{ℕ, suc, ◌+◌, ◌≤◌, ◌<◌}
use mathlib.Core.Path.{◌≡◌, refl, sym, ◌∙◌, ap, ap₂}
use mathlib.Core.Bool.{Bool, true, false, cond}
use mathlib.Core.Logic.{dite}
use mathlib.Core.List.{List, [], ◌∷◌, ◌++◌, append-nil, append_assoc, head-eq_of_cons-eq, tail-eq_of_cons-eq}
use native.Mathlib.Omega.{arith}
use native.Mathlib.Decide.{dec_le, dec_lt}
use lib.Dec.{eqb}
use lib.ListN.{length, length-append}
use borrow.Author.Tests.{eq-eqb}
use Rattle.motion.proofs.Test.{cond_either}

pub record Begins (k l : List ℕ) : Type 0 where
  pub rest : List ℕ
  pub whole : l ≡ k ++ rest

pub begins_itself : {l : List ℕ} → Begins l l
begins_itself {l} = record { rest = []; whole = sym (append-nil l) }

pub begins_more : {k l : List ℕ} (m : List ℕ) → Begins k l → Begins k (l ++ m)
begins_more {k} m b =
    record { rest = b.rest ++ m; whole = ap (λ (x : List ℕ). x ++ m) b.whole ∙ append_assoc k b.rest m }

pub begins_through : {k l m : List ℕ} → Begins k l → Begins l m → Begins k m
begins_through {k} a b =
    record {
      rest = a.rest ++ b.rest;
      whole = b.whole ∙ ap (λ (x : List ℕ). x ++ b.rest) a.whole ∙ append_assoc k a.rest b.rest;
    }

compare : (k l a b : List ℕ) → k ++ a ≡ l ++ b → length k ≤ length l → Begins k l
compare [] l a b e h = record { rest = l; whole = refl }
compare (x ∷ k) [] a b e h = absurd (omega arith)
compare (x ∷ k) (y ∷ l) a b e h =
    let w = compare k l a b (tail-eq_of_cons-eq e) (omega arith) in
    record { rest = w.rest; whole = ap₂ (λ (z : ℕ) (m : List ℕ). z ∷ m) (sym (head-eq_of_cons-eq e)) w.whole }

pub begins_compare : {k l w : List ℕ} → Begins k w → Begins l w → length k ≤ length l → Begins k l
begins_compare {k} {l} a b h = compare k l a.rest b.rest (sym a.whole ∙ b.whole) h

pub begins_whole : {k l : List ℕ} (w : Begins k l) → length w.rest ≤ 0 → k ≡ l
begins_whole {k} {l} w h = same w.rest h w.whole
  where
    same : (m : List ℕ) → length m ≤ 0 → l ≡ k ++ m → k ≡ l
    same [] h e = sym (e ∙ append-nil k)
    same (x ∷ m) h e = absurd (omega arith)

pub begins_same : {k l w : List ℕ} → Begins k w → Begins l w → length k ≡ length l → k ≡ l
begins_same {k} {l} a b e =
    let c = begins_compare a b (omega arith) in
    begins_whole c (omega (arith, ap length c.whole ∙ length-append k c.rest))

unfoldable pub times : ℕ → List ℕ → ℕ
times b [] = 0
times b (x ∷ l) = let rest = times b l in cond (eqb x b) (suc rest) rest

pub times_append : (b : ℕ) (k l : List ℕ) → times b (k ++ l) ≡ times b k + times b l
unfolding times
times_append b [] l = omega arith
times_append b (x ∷ k) l = rw (times_append b k l) (chosen (eqb x b))
  where
    chosen : (c : Bool) → cond c (suc (times b k + times b l)) (times b k + times b l) ≡ cond c (suc (times b k)) (times b k) + times b l
    chosen true = omega arith
    chosen false = refl

pub times_one : (b : ℕ) → times b (b ∷ []) ≡ 1
unfolding times
times_one b = rw (eq-eqb b b refl)

pub times_begins : (b : ℕ) {k l : List ℕ} (w : Begins k l) → times b l ≡ times b k + times b w.rest
times_begins b {k} w = ap (times b) w.whole ∙ times_append b k w.rest

unfoldable pub last_or : ℕ → List ℕ → ℕ
last_or y [] = y
last_or y (x ∷ l) = last_or x l

pub last_or_append : (y : ℕ) (k l : List ℕ) → last_or y (k ++ l) ≡ last_or (last_or y k) l
unfolding last_or
last_or_append y [] l = refl
last_or_append y (x ∷ k) l = last_or_append x k l

pub last_stands : (y : ℕ) (l : List ℕ) → 0 < length l → 0 < times (last_or y l) l
unfolding last_or times
last_stands y [] h = absurd (omega arith)
last_stands y (x ∷ []) h = rw (eq-eqb x x refl) (omega arith)
last_stands y (x ∷ z ∷ l) h =
    let later : 0 < times (last_or z l) (z ∷ l) = last_stands x (z ∷ l) (omega arith) in
    cond_either (λ (n : ℕ). 0 < n) (eqb x (last_or z l)) (omega arith) later

-- Of a rack r and a position p: the visitors of p up to some time in a timetable (tv) and up to some move of the plan (pv), both beginnings
-- of one list; and the route of r, up to then in the timetable (rt) and in the plan (rp). Each visit of r at p is one time that p stands in
-- r's route.
module _ (r p : ℕ) (rp : List ℕ) {tv pv all rt R : List ℕ} (tv_begins : Begins tv all) (pv_begins : Begins pv all)
    (same_t : times r tv ≡ times p rt) (same_p : times r pv ≡ times p rp) where
  -- r comes to p next in the plan
  pub enters_late : Begins rt R → Begins (rp ++ p ∷ []) R → length tv ≤ length pv → length rt ≤ length rp
  enters_late rt_begins next few =
      dite (dec_le (length rt) (length rp)) (λ h. h)
      (λ h.
      let far : Begins (rp ++ p ∷ []) rt = begins_compare next rt_begins (omega (arith, length-append rp (p ∷ []))) in
      let v = times_begins r (begins_compare tv_begins pv_begins few) in
      absurd (omega (arith, v, times_begins p far, times_append p rp (p ∷ []), times_one p, same_t, same_p)))

  -- r stands at p in the plan, and has not come so far in the timetable
  pub comes_late : Begins rt R → Begins rp R → last_or 0 rp ≡ p → length rt < length rp → length tv < length pv
  comes_late rt_begins rp_begins at few =
      dite (dec_le (length pv) (length tv))
      (λ h.
      let on : Begins rt rp = begins_compare rt_begins rp_begins (omega arith) in
      let end : last_or (last_or 0 rt) on.rest ≡ p = sym (last_or_append 0 rt on.rest) ∙ ap (last_or 0) (sym on.whole) ∙ at in
      let some : 0 < length on.rest = omega (arith, ap length on.whole ∙ length-append rt on.rest) in
      let again : 0 < times p on.rest = rw end at (last_stands (last_or 0 rt) on.rest some) in
      absurd (omega (arith, times_begins r (begins_compare pv_begins tv_begins h), times_begins p on, again, same_t, same_p)))
      (λ h. omega arith)

  -- or has come so far and not on; if it stands at p there too, it is the last that came
  pub leaves_late : Begins rt R → Begins rp R → last_or 0 rp ≡ p → (last_or 0 rt ≡ p → last_or 0 tv ≡ r) → length rt ≤ length rp
      → length tv ≤ length pv
  leaves_late rt_begins rp_begins at last few =
      dite (dec_lt (length rt) (length rp)) (λ h. omega (arith, comes_late rt_begins rp_begins at h))
      (λ h.
      let same : rt ≡ rp = begins_same rt_begins rp_begins (omega arith) in
      dite (dec_le (length tv) (length pv)) (λ k. k)
      (λ k.
      let more : Begins pv tv = begins_compare pv_begins tv_begins (omega arith) in
      let end : last_or (last_or 0 pv) more.rest ≡ r =
      sym (last_or_append 0 pv more.rest) ∙ ap (last_or 0) (sym more.whole) ∙ last (ap (last_or 0) same ∙ at) in
      let some : 0 < length more.rest = omega (arith, ap length more.whole ∙ length-append pv more.rest) in
      let again : 0 < times r more.rest = rw end at (last_stands (last_or 0 pv) more.rest some) in
      absurd (omega (arith, times_begins r more, ap (times p) same, again, same_t, same_p))))
