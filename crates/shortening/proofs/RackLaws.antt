-- A removal takes no rack from a move: moves that name their racks rightly still do when a pair that cancels is gone.
--
--     leads_moves       listed moves that lead somewhere lead there without the racks
--     listed-later      two listed moves without a common position may change places
--     listed_undone     a listed move and its undoing, with moves between that touch neither position, leave no trace
--     taken_leads       so what is left leads where it did when a move is taken off the stack by the one that undoes it
--     OneFits, fit_at, laid_fits, taken_fits, passes_fit    what lies on the stack fits the fields that it was read from
-- Assumes nothing.
use Prim.Native.Nat.{ℕ, zero, suc, ◌<◌}
use mathlib.Core.Bool.{Bool}
use mathlib.Core.List.{List, [], ◌∷◌, ◌++◌}
use mathlib.Core.Path.{◌≡◌, refl, sym, ap, ◌∙◌, subst}
use native.Mathlib.Omega.{arith}
use lib.Dec.{T}
use lib.ListN.{length, get_or}
use Rattle.field.specs.Listed.{moves_of, RackFits, ListedFit, none₃, more₃}
use Rattle.order.specs.Floor.{Floor}
use Rattle.motion.specs.Arrangement.{Arrangement, rack_at}
use Rattle.motion.specs.Move.{legal_move, after_move, after_listed}
use Rattle.motion.proofs.Lawful.{Leads, still, ◌then◌, lawful_first, lawful_append, lawful_apart}
use Rattle.motion.proofs.ListedLaws.{rightly, legal_listed, LeadsListed}
use Rattle.motion.proofs.MoveLaws.{turned_back}
use Rattle.motion.specs.TurnedStep.{turned}
use Rattle.motion.proofs.Test.{and_parts}
use Rattle.cancelling.specs.Stack.{move_of, Apart, Taken, off_top, from_under, Pushed, cancelled, kept, Passes, begun, next, laid}
use Rattle.shortening.proofs.RemovalLaws.{rack_kept, first_legal, then_legal, alike}
use Rattle.shortening.proofs.StackLaws.{apart-sym, apart-turned, laid_append}

legal_named : (F : Floor) (A : Arrangement) (w : ℕ × ℕ × ℕ) → T (legal_listed F A w)
    → T (legal_move F A (move_of w)) × T (rightly w.2 (rack_at A w.0))
unfolding legal_listed move_of
legal_named F A w t = (and_parts (legal_move F A (w.0, w.1)) (rightly w.2 (rack_at A w.0))).0 t

named_legal : (F : Floor) (A : Arrangement) (w : ℕ × ℕ × ℕ) → T (legal_move F A (move_of w)) → T (rightly w.2 (rack_at A w.0))
    → T (legal_listed F A w)
unfolding legal_listed move_of
named_legal F A w l r = (and_parts (legal_move F A (w.0, w.1)) (rightly w.2 (rack_at A w.0))).1 (l, r)

after-listed : (A : Arrangement) (w : ℕ × ℕ × ℕ) → after_listed A w ≡ after_move A (move_of w)
unfolding after_listed move_of
after-listed A w = refl

pub leads_moves : (F : Floor) {A B : Arrangement} {l : List (ℕ × ℕ × ℕ)} → LeadsListed F A l B → Leads F A (moves_of l) B
unfolding moves_of move_of after_listed
leads_moves F still = still
leads_moves F (◌then◌ {A = A} {x = w} t p) = (legal_named F A w t).0 then leads_moves F p

module _ (F : Floor) (A : Arrangement) (v w : ℕ × ℕ × ℕ) (a : Apart (move_of v) (move_of w)) (t : T (legal_listed F A v))
    (u : T (legal_listed F (after_listed A v) w)) where
  of_v : T (legal_move F A (move_of v)) × T (rightly v.2 (rack_at A v.0))
  of_v = legal_named F A v t

  of_w : T (legal_move F (after_move A (move_of v)) (move_of w)) × T (rightly w.2 (rack_at (after_move A (move_of v)) w.0))
  of_w = rw (after-listed A v) at (legal_named F (after_listed A v) w u)

  first-named : T (legal_listed F A w)
  unfolding move_of
  first-named =
      named_legal F A w (first_legal F A (move_of v) (move_of w) a of_v.0 of_w.0)
      (rw (← rack_kept A (move_of v) w.0 a.left_left a.entered_left) of_w.1)

  then_named : T (legal_listed F (after_listed A w) v)
  unfolding move_of
  then_named =
      rw (after-listed A w)
      (named_legal F (after_move A (move_of w)) v (then_legal F A (move_of v) (move_of w) a of_v.0 of_w.0)
      (rw (rack_kept A (move_of w) v.0 (λ c. a.left_left (sym c)) (λ c. a.left_entered (sym c))) of_v.1))

  alike-listed : after_listed (after_listed A v) w ≡ after_listed (after_listed A w) v
  unfolding after_listed move_of
  alike-listed = alike F A (move_of v) (move_of w) a of_v.0 of_w.0

pub listed-later : (F : Floor) {A B : Arrangement} (v w : ℕ × ℕ × ℕ) {rest : List (ℕ × ℕ × ℕ)} → Apart (move_of v) (move_of w)
    → LeadsListed F A (v ∷ w ∷ rest) B → LeadsListed F A (w ∷ v ∷ rest) B
listed-later F {A} {B} v w {rest} a p =
    let s = lawful_first p in
    let t = lawful_first s.1 in
    let q : LeadsListed F (after_listed (after_listed A w) v) rest B = rw (← alike-listed F A v w a s.0 t.0) t.1 in
    first-named F A v w a s.0 t.0 then then_named F A v w a s.0 t.0 then q

pub listed_undone : (F : Floor) {A B : Arrangement} (v w : ℕ × ℕ × ℕ) (ys zs : List (ℕ × ℕ × ℕ))
    → move_of v ≡ ((move_of w).1, (move_of w).0)
    → ((n : ℕ) → n < length ys → Apart (move_of (get_or ys n (0, 0, 0))) (move_of w))
    → LeadsListed F A (v ∷ (ys ++ w ∷ zs)) B → LeadsListed F A (ys ++ zs) B
listed_undone F {A} {B} v w [] zs e a p =
    let s = lawful_first p in
    let t = lawful_first s.1 in
    let back : ((move_of v).1, (move_of v).0) ≡ move_of w = ap (λ (m : ℕ × ℕ). (m.1, m.0)) e in
    let gone : after_listed (after_listed A v) w ≡ A =
    after-listed (after_listed A v) w
    ∙ rw (after-listed A v, ← back) (unfold turned in turned_back F A (move_of v) (legal_named F A v s.0).0) in
    subst (λ (X : Arrangement). LeadsListed F X zs B) gone t.1
listed_undone F {A} v w (y ∷ ys) zs e a p =
    let away : Apart (move_of v) (move_of y) = rw e (apart-turned (apart-sym (a 0 (omega arith)))) in
    let q = lawful_first (listed-later F v y away p) in
    q.0 then listed_undone F {A = after_listed A y} v w ys zs e (λ n h. a (suc n) (omega arith)) q.1

pub taken_leads : (F : Floor) {A B : Arrangement} {m : ℕ × ℕ} {K S : List (ℕ × ℕ × ℕ)} → Taken K m S → (w : ℕ × ℕ × ℕ) → move_of w ≡ m
    → (ys rest : List (ℕ × ℕ × ℕ)) → ((n : ℕ) → n < length ys → Apart (move_of (get_or ys n (0, 0, 0))) m)
    → LeadsListed F A (laid K (ys ++ w ∷ rest)) B → LeadsListed F A (laid S (ys ++ rest)) B
unfolding laid
taken_leads F {A} {B} (off_top {w = v} {K = K} e) w is ys rest a p =
    let whole : LeadsListed F A (laid K [] ++ (v ∷ (ys ++ w ∷ rest))) B = rw (laid_append K [] (v ∷ (ys ++ w ∷ rest))) p in
    let s = lawful_apart (laid K []) whole in
    let left = listed_undone F v w ys rest (rw is e) (λ n h. rw is (a n h)) s.2 in
    rw (laid_append K [] (ys ++ rest)) at (lawful_append s.1 left)
taken_leads F {m = m} (from_under {w = x} b t) w is ys rest a p = taken_leads F t w is (x ∷ ys) rest more p
  where
    more : (n : ℕ) → n < suc (length ys) → Apart (move_of (get_or (x ∷ ys) n (0, 0, 0))) m
    more zero h = b
    more (suc n) h = a n (omega arith)

-- what is read fits its fields, and so does what is kept of it

abbrev pub OneFits : Bool → ℕ × ℕ × ℕ → Type 0
OneFits e w = (w.0 < 64) × (w.1 < 64) × RackFits e w.2

pub fit_at : (e : Bool) {l : List (ℕ × ℕ × ℕ)} → ListedFit e l → (i : ℕ) → i < length l → OneFits e (get_or l i (0, 0, 0))
fit_at e none₃ i h = absurd (omega arith)
fit_at e (more₃ a b r f) zero h = (a, b, r)
fit_at e (more₃ a b r f) (suc i) h = fit_at e f i (omega arith)

pub laid_fits : (e : Bool) {K l : List (ℕ × ℕ × ℕ)} → ListedFit e K → ListedFit e l → ListedFit e (laid K l)
unfolding laid
laid_fits e none₃ g = g
laid_fits e (more₃ {w = w} a b r f) g = laid_fits e f (more₃ {w = w} a b r g)

pub taken_fits : (e : Bool) {m : ℕ × ℕ} {K S : List (ℕ × ℕ × ℕ)} → Taken K m S → ListedFit e K → ListedFit e S
taken_fits e (off_top q) (more₃ a b r f) = f
taken_fits e (from_under {w = w} d t) (more₃ a b r f) = more₃ {w = w} a b r (taken_fits e t f)

pushed_fits : (e : Bool) {w : ℕ × ℕ × ℕ} {K S : List (ℕ × ℕ × ℕ)} → OneFits e w → Pushed K w S → ListedFit e K → ListedFit e S
pushed_fits e one (cancelled t) f = taken_fits e t f
pushed_fits e one (kept {w = w} n) f = more₃ {w = w} one.0 one.1 one.2 f

pub passes_fit : (e : Bool) (f : ℕ → ℕ × ℕ × ℕ) {j : ℕ} {K : List (ℕ × ℕ × ℕ)} → ((i : ℕ) → i < j → OneFits e (f i)) → Passes f j K
    → ListedFit e K
passes_fit e f fits begun = none₃
passes_fit e f fits (next {j = j} p q) =
    pushed_fits e (fits j (omega arith)) q (passes_fit e f (λ i h. fits i (omega arith)) p)
