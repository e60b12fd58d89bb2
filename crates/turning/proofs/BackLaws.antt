-- Laws of moves that are taken back. The conjugation of a planner: moves lead from A to B, something small is done at B, and the moves
-- taken back lead to A with just that done.
--
--     back_from, back_to      the same between tables that agree
--     back_none               nothing to take back
--     back_skipped            the last move is skipped where the position that it entered is vacant
--     Step, back_taken        else it is taken back
--     back_renamed            moves taken back lead back, racks renamed by f too: exchange by conjugation
--     back_went               moves taken back lead back
--     carried_there, carried-vacant, carried-left, carried_other, carried_same    the table with a rack carried to y: at y; where nothing
--                               stood; where that rack stood; where another stands; of tables that agree
--     Avoids y ms             no move of ms leaves or enters y
--     back_carried            moves taken back where a rack was carried to y meanwhile lead back but for that rack: carry away by
--                             conjugation
--     Taken, went_back        the moves that are made where others are taken back
--     renamed f ws            the written moves ws with racks renamed by f; went_renamed    the same moves with racks renamed
--     kept m h                the table h without stand-ins
--     kept_real, kept_stand_in, kept_same    where a real rack stands; where a stand-in does; of tables that agree
--     went_kept               stand-ins dropped: the written moves alone lead from table to table
-- Assumes nothing.
use Prim.Native.Nat.{ℕ, ◌≤◌, ◌<◌}
use mathlib.Core.Path.{◌≡◌, refl, sym, ap, ◌∙◌}
use mathlib.Core.Bool.{Bool, true, false, cond}
use mathlib.Core.List.{List, [], ◌∷◌}
use mathlib.Core.Logic.{◌≢◌, by_cases}
use native.Mathlib.Decide.{ℕ_discrete, dec_le}
use native.Mathlib.Omega.{arith}
use lib.Dec.{eqb, leb}
use lib.ListN.{length}
use borrow.Author.Tests.{eq-eqb, ne_eqb, le-leb, lt-leb}
use Rattle.field.specs.Listed.{moves_of}
use Rattle.graph.specs.Walk.{Symmetric}
use Rattle.moving.specs.Went.{Same, Move, Went, Within, Back}
use Rattle.moving.specs.Went.Went.{stay, real, stand_in}
use Rattle.moving.specs.Went.Back.{done, skip, back}
use Rattle.moving.proofs.WentLaws.{same_then, move-from, move_back, move-renamed, went_from}
use Rattle.moving.specs.Journey.{onto}
use Rattle.turning.specs.Undone.{carried}

module _ {E : ℕ → ℕ → Type 0} where
  pub back_from : {h i k : ℕ → ℕ} {ms : List (ℕ × ℕ)} → Same i h → Back E h ms k → Back E i ms k
  back_from s (done t) = done (same_then s t)
  back_from s (skip {b = b} v w) = skip (s b ∙ v) (back_from s w)
  back_from s (back x w) = back (move-from s x) w

  pub back_to : {h i k : ℕ → ℕ} {ms : List (ℕ × ℕ)} → Same k i → Back E h ms k → Back E h ms i
  back_to s (done t) = done (same_then t s)
  back_to s (skip v w) = skip v (back_to s w)
  back_to s (back x w) = back x (back_to s w)

  pub back_none : {h k : ℕ → ℕ} → Back E h [] k → Same h k
  back_none (done s) = s

  pub back_skipped : {h k : ℕ → ℕ} {a b : ℕ} {ms : List (ℕ × ℕ)} → h b ≡ 0 → Back E h ((a, b) ∷ ms) k → Back E h ms k
  back_skipped v (skip z w) = w
  back_skipped v (back x w) = absurd (x.held v)

-- one move taken back and then the moves ms
pub record Step (E : ℕ → ℕ → Type 0) (h : ℕ → ℕ) (a b : ℕ) (ms : List (ℕ × ℕ)) (k : ℕ → ℕ) : Type 0 where
  pub between : ℕ → ℕ
  pub move : Move E h b a between
  pub rest : Back E between ms k

module _ {E : ℕ → ℕ → Type 0} where
  pub back_taken : {h k : ℕ → ℕ} {a b : ℕ} {ms : List (ℕ × ℕ)} → h b ≢ 0 → Back E h ((a, b) ∷ ms) k → Step E h a b ms k
  back_taken n (skip z w) = absurd (n z)
  back_taken n (back {i = i} x w) = record { between = i; move = x; rest = w }

  module _ (s : Symmetric E) {m : ℕ} where
    pub back_renamed : {A B i : ℕ → ℕ} {ms past : List (ℕ × ℕ)} {ws : List (ℕ × ℕ × ℕ)} (f : ℕ → ℕ) → f 0 ≡ 0
        → ((r : ℕ) → r ≢ 0 → f r ≢ 0) → Went E m A ms ws B → Back E (λ p. f (A p)) past i → Back E (λ p. f (B p)) (onto ms past) i
    unfolding onto
    back_renamed f zero some (stay t) b = back_from (λ p. ap f (sym (t p))) b
    back_renamed f zero some (real x e l w) b = back_renamed f zero some w (back (move-renamed f zero some (move_back s x)) b)
    back_renamed f zero some (stand_in x l w) b = back_renamed f zero some w (back (move-renamed f zero some (move_back s x)) b)

    pub back_went : {A B i : ℕ → ℕ} {ms past : List (ℕ × ℕ)} {ws : List (ℕ × ℕ × ℕ)} → Went E m A ms ws B → Back E A past i
        → Back E B (onto ms past) i
    back_went w b = back_renamed (λ r. r) refl (λ r x. x) w b

-- A table with rack r carried to y.
module _ (r y : ℕ) (h : ℕ → ℕ) where
  pub carried_there : carried r y h y ≡ r
  carried_there = ap (λ (t : Bool). cond t r (cond (eqb (h y) r) 0 (h y))) (eq-eqb y y refl)

  carried_else : (p : ℕ) → p ≢ y → carried r y h p ≡ cond (eqb (h p) r) 0 (h p)
  carried_else p n = ap (λ (t : Bool). cond t r (cond (eqb (h p) r) 0 (h p))) (ne_eqb p y n)

  pub carried-vacant : (p : ℕ) → p ≢ y → h p ≡ 0 → carried r y h p ≡ 0
  carried-vacant p n v = carried_else p n ∙ either (eqb (h p) r)
    where
      either : (t : Bool) → cond t 0 (h p) ≡ 0
      either true = refl
      either false = v

  pub carried-left : (p : ℕ) → p ≢ y → h p ≡ r → carried r y h p ≡ 0
  carried-left p n e = carried_else p n ∙ ap (λ (t : Bool). cond t 0 (h p)) (eq-eqb (h p) r e)

  pub carried_other : (p : ℕ) → p ≢ y → h p ≢ r → carried r y h p ≡ h p
  carried_other p n e = carried_else p n ∙ ap (λ (t : Bool). cond t 0 (h p)) (ne_eqb (h p) r e)

  pub carried_same : (k : ℕ → ℕ) (p : ℕ) → h p ≡ k p → carried r y h p ≡ carried r y k p
  carried_same k p e = ap (λ (x : ℕ). cond (eqb p y) r (cond (eqb x r) 0 x)) e

abbrev pub Avoids : ℕ → List (ℕ × ℕ) → Type 0
Avoids y ms = Within (λ p. y ≢ p) ms

-- A move that neither leaves nor enters y, where rack r is carried to y: of another rack it is a move still, of r itself it is none.
module _ {E : ℕ → ℕ → Type 0} (r y : ℕ) {h k : ℕ → ℕ} {a b : ℕ} (leaves : y ≢ a) (enters : y ≢ b) (x : Move E h a b k) where
  move-carried : h a ≢ r → Move E (carried r y h) a b (carried r y k)
  move-carried other =
      record {
        edge = x.edge;
        held = λ e. x.held (sym stands ∙ e);
        vacant = carried-vacant r y h b (λ e. enters (sym e)) x.vacant;
        entered = carried_other r y k b (λ e. enters (sym e)) (λ e. other (sym x.entered ∙ e)) ∙ x.entered ∙ sym stands;
        left = carried-vacant r y k a (λ e. leaves (sym e)) x.left;
        others = λ p n o. carried_same r y k h p (x.others p n o);
      }
    where
      stands : carried r y h a ≡ h a
      stands = carried_other r y h a (λ e. leaves (sym e)) other

  move_carries : h a ≡ r → Same (carried r y k) (carried r y h)
  move_carries own p =
      by_cases (ℕ_discrete p a)
      (λ e. carried-vacant r y k p (λ f. leaves (sym f ∙ e)) (ap k e ∙ x.left)
      ∙ sym (carried-left r y h p (λ f. leaves (sym f ∙ e)) (ap h e ∙ own)))
      (λ n. by_cases (ℕ_discrete p b)
      (λ e. carried-left r y k p (λ f. enters (sym f ∙ e)) (ap k e ∙ x.entered ∙ own)
      ∙ sym (carried-vacant r y h p (λ f. enters (sym f ∙ e)) (ap h e ∙ x.vacant)))
      (λ o. carried_same r y k h p (x.others p n o)))

  module _ (s : Symmetric E) where
    carried_back : {i : ℕ → ℕ} {past : List (ℕ × ℕ)} → Back E (carried r y h) past i → Back E (carried r y k) ((a, b) ∷ past) i
    carried_back w =
        by_cases (ℕ_discrete (h a) r)
        (λ e. skip (carried-left r y k b (λ f. enters (sym f)) (x.entered ∙ e)) (back_from (move_carries e) w))
        (λ n. back (move_back s (move-carried n)) w)

pub back_carried : {E : ℕ → ℕ → Type 0} (s : Symmetric E) {m : ℕ} (r y : ℕ) {A B i : ℕ → ℕ} {ms past : List (ℕ × ℕ)} {ws : List (ℕ × ℕ × ℕ)}
    → Avoids y ms → Went E m A ms ws B → Back E (carried r y A) past i → Back E (carried r y B) (onto ms past) i
unfolding onto
back_carried s r y {A} {B} v (stay t) b = back_from (λ p. carried_same r y B A p (sym (t p))) b
back_carried s r y (Within.more u n v) (real x e l w) b = back_carried s r y v w (carried_back r y u n x s b)
back_carried s r y (Within.more u n v) (stand_in x l w) b = back_carried s r y v w (carried_back r y u n x s b)

pub record Taken (E : ℕ → ℕ → Type 0) (m : ℕ) (h : ℕ → ℕ) (past : List (ℕ × ℕ)) (k : ℕ → ℕ) : Type 0 where
  pub moves : List (ℕ × ℕ)
  pub written : List (ℕ × ℕ × ℕ)
  pub went : Went E m h moves written k
  pub few : length moves ≤ length past

unfoldable pub renamed : (ℕ → ℕ) → List (ℕ × ℕ × ℕ) → List (ℕ × ℕ × ℕ)
renamed f [] = []
renamed f (w ∷ ws) = (w.0, w.1, f w.2) ∷ renamed f ws

module _ {E : ℕ → ℕ → Type 0} {m : ℕ} where
  pub went_back : {h k : ℕ → ℕ} {past : List (ℕ × ℕ)} → Back E h past k → Taken E m h past k
  went_back (done s) = record { moves = []; written = []; went = stay s; few = omega arith }
  went_back (skip v w) = let t = went_back w in record { moves = t.moves; written = t.written; went = t.went; few = omega arith }
  went_back {h} (back {a = a} {b = b} x w) =
      let t = went_back w in
      by_cases (dec_le (h b) m)
      (λ l. record { moves = (b, a) ∷ t.moves; written = (b, a, h b) ∷ t.written; went = real x refl l t.went; few = omega arith })
      (λ l. record { moves = (b, a) ∷ t.moves; written = t.written; went = stand_in x (omega arith) t.went; few = omega arith })

  pub went_renamed : {n : ℕ} {h k : ℕ → ℕ} {ms : List (ℕ × ℕ)} {ws : List (ℕ × ℕ × ℕ)} (f : ℕ → ℕ) → f 0 ≡ 0
      → ((r : ℕ) → r ≢ 0 → f r ≢ 0) → ((r : ℕ) → r ≤ m → f r ≤ n) → ((r : ℕ) → m < r → n < f r) → Went E m h ms ws k
      → Went E n (λ p. f (h p)) ms (renamed f ws) (λ p. f (k p))
  unfolding renamed
  went_renamed f zero some low high (stay s) = stay (λ p. ap f (s p))
  went_renamed {h = h} f zero some low high (real {a = a} x e l w) =
      real (move-renamed f zero some x) (ap f e) (low (h a) l) (went_renamed f zero some low high w)
  went_renamed {h = h} f zero some low high (stand_in {a = a} x l w) =
      stand_in (move-renamed f zero some x) (high (h a) l) (went_renamed f zero some low high w)

-- The table without stand-ins. Document 01, "Breakdown and planning": "Vacancies beyond two are filled with stand-in racks whose moves are
-- dropped."
abbrev pub kept : ℕ → (ℕ → ℕ) → ℕ → ℕ
kept m h p = cond (leb (h p) m) (h p) 0

module _ (m : ℕ) where
  pub kept_real : (h : ℕ → ℕ) (p : ℕ) → h p ≤ m → kept m h p ≡ h p
  kept_real h p l = ap (λ (t : Bool). cond t (h p) 0) (le-leb (h p) m l)

  pub kept_stand_in : (h : ℕ → ℕ) (p : ℕ) → m < h p → kept m h p ≡ 0
  kept_stand_in h p l = ap (λ (t : Bool). cond t (h p) 0) (lt-leb (h p) m l)

  pub kept_same : (h k : ℕ → ℕ) (p : ℕ) → h p ≡ k p → kept m h p ≡ kept m k p
  kept_same h k p e = ap (λ (r : ℕ). cond (leb r m) r 0) e

  kept-vacant : (h : ℕ → ℕ) (p : ℕ) → h p ≡ 0 → kept m h p ≡ 0
  kept-vacant h p v = kept_real h p (omega arith) ∙ v

  module _ {E : ℕ → ℕ → Type 0} {h k : ℕ → ℕ} {a b : ℕ} (x : Move E h a b k) where
    move-kept : h a ≤ m → Move E (kept m h) a b (kept m k)
    move-kept l =
        record {
          edge = x.edge;
          held = λ e. x.held (sym (kept_real h a l) ∙ e);
          vacant = kept-vacant h b x.vacant;
          entered = kept_real k b (let e = x.entered in omega arith) ∙ x.entered ∙ sym (kept_real h a l);
          left = kept-vacant k a x.left;
          others = λ p n o. kept_same k h p (x.others p n o);
        }

    move_dropped : m < h a → Same (kept m h) (kept m k)
    move_dropped l p =
        by_cases (ℕ_discrete p a)
        (λ e. kept_stand_in h p (let q = ap h e in omega arith) ∙ sym (kept-vacant k p (ap k e ∙ x.left)))
        (λ n. by_cases (ℕ_discrete p b)
        (λ e. kept-vacant h p (ap h e ∙ x.vacant) ∙ sym (kept_stand_in k p (let q = ap k e in let t = x.entered in omega arith)))
        (λ o. kept_same h k p (sym (x.others p n o))))

pub went_kept : {E : ℕ → ℕ → Type 0} {m : ℕ} {h k : ℕ → ℕ} {ms : List (ℕ × ℕ)} {ws : List (ℕ × ℕ × ℕ)} → Went E m h ms ws k
    → Went E m (kept m h) (moves_of ws) ws (kept m k)
unfolding moves_of
went_kept {m = m} {h} {k} (stay s) = stay (λ p. kept_same m h k p (s p))
went_kept {m = m} {h} (real {a = a} x e l w) =
    let same = kept_real m h a l in
    real (move-kept m x l) (e ∙ sym same) (omega arith) (went_kept w)
went_kept {m = m} (stand_in x l w) = went_from (move_dropped m x l) (went_kept w)
