-- Laws of the stack, and what it has to do with the rule's indices.
--
--     apart-turned      what has no position in common with a move has none with the move turned round
--     Reduced K         no move of the stack cancels with one below it
--     taken_reduced     a move taken off leaves such a stack
--     pushed_reduced    so does the next move, whether it cancels or not
--     passes_reduced    so no two moves on the stack ever cancel
--     laid-length, laid-at, laid-take, laid-drop, laid_append     a stack in plan order, with moves behind it
-- Assumes nothing.
use Prim.Native.Nat.{ℕ, suc, ◌+◌}
use mathlib.Core.List.{List, [], ◌∷◌, ◌++◌}
use mathlib.Core.Path.{◌≡◌, refl, sym, ◌∙◌}
use native.Mathlib.Omega.{arith}
use lib.ListN.{length, get_or, take, drop}
use Rattle.cancelling.specs.Stack.{move_of, Apart, Partner, top, under, Taken, off_top, from_under, Pushed, cancelled, kept}
use Rattle.cancelling.specs.Stack.{Passes, begun, next, laid}

pub apart-sym : {m x : ℕ × ℕ} → Apart m x → Apart x m
apart-sym a =
    record {
      left_left = λ e. a.left_left (sym e);
      left_entered = λ e. a.entered_left (sym e);
      entered_left = λ e. a.left_entered (sym e);
      entered_entered = λ e. a.entered_entered (sym e);
    }

pub apart-turned : {m x : ℕ × ℕ} → Apart m x → Apart (m.1, m.0) x
apart-turned a =
    record {
      left_left = a.entered_left;
      left_entered = a.entered_entered;
      entered_left = a.left_left;
      entered_entered = a.left_entered;
    }

pub data Reduced : List (ℕ × ℕ × ℕ) → Type 0 where
  empty : Reduced []
  on_top : {w : ℕ × ℕ × ℕ} {K : List (ℕ × ℕ × ℕ)} → (Partner K (move_of w) → ⊥) → Reduced K → Reduced (w ∷ K)

-- a partner of x that is there when another move's partner is gone was there before
still_partner : {x m : ℕ × ℕ} {K S : List (ℕ × ℕ × ℕ)} → Taken K m S → Apart x m → Partner S x → Partner K x
still_partner {x} {m} (off_top {w = y} e) a p = let b : Apart (move_of y) x = rw e (apart-turned (apart-sym a)) in under b p
still_partner (from_under b t) a (top e) = top e
still_partner (from_under b t) a (under c p) = under c (still_partner t a p)

pub taken_reduced : {m : ℕ × ℕ} {K S : List (ℕ × ℕ × ℕ)} → Taken K m S → Reduced K → Reduced S
taken_reduced (off_top e) (on_top n r) = r
taken_reduced (from_under a t) (on_top n r) = on_top (λ p. n (still_partner t a p)) (taken_reduced t r)

pub pushed_reduced : {w : ℕ × ℕ × ℕ} {K S : List (ℕ × ℕ × ℕ)} → Pushed K w S → Reduced K → Reduced S
pushed_reduced (cancelled t) r = taken_reduced t r
pushed_reduced (kept n) r = on_top n r

pub passes_reduced : (f : ℕ → ℕ × ℕ × ℕ) {j : ℕ} {K : List (ℕ × ℕ × ℕ)} → Passes f j K → Reduced K
passes_reduced f begun = empty
passes_reduced f (next p q) = pushed_reduced q (passes_reduced f p)

-- a stack in plan order

pub laid-length : (K l : List (ℕ × ℕ × ℕ)) → length (laid K l) ≡ length K + length l
unfolding laid
laid-length [] l = omega arith
laid-length (x ∷ K) l = laid-length K (x ∷ l) ∙ omega arith

pub laid-at : (K l : List (ℕ × ℕ × ℕ)) (n : ℕ) (d : ℕ × ℕ × ℕ) → get_or (laid K l) (length K + n) d ≡ get_or l n d
unfolding laid
laid-at [] l n d = let e : 0 + n ≡ n = omega arith in rw e
laid-at (x ∷ K) l n d = let e : suc (length K) + n ≡ length K + suc n = omega arith in rw e (laid-at K (x ∷ l) (suc n) d)

pub laid-take : (K l : List (ℕ × ℕ × ℕ)) (n : ℕ) → take (length K + n) (laid K l) ≡ laid K (take n l)
unfolding laid
laid-take [] l n = let e : 0 + n ≡ n = omega arith in rw e
laid-take (x ∷ K) l n = let e : suc (length K) + n ≡ length K + suc n = omega arith in rw e (laid-take K (x ∷ l) (suc n))

pub laid-drop : (K l : List (ℕ × ℕ × ℕ)) (n : ℕ) → drop (length K + n) (laid K l) ≡ drop n l
unfolding laid
laid-drop [] l n = let e : 0 + n ≡ n = omega arith in rw e
laid-drop (x ∷ K) l n = let e : suc (length K) + n ≡ length K + suc n = omega arith in rw e (laid-drop K (x ∷ l) (suc n))

pub laid_append : (K l r : List (ℕ × ℕ × ℕ)) → laid K l ++ r ≡ laid K (l ++ r)
unfolding laid
laid_append [] l r = refl
laid_append (x ∷ K) l r = laid_append K (x ∷ l) r
