-- What a sequence of numbers comes to without repeats in a row, told along its places: f 0, f 1, .. f n.
--
--     changed x y        y, if it differs from x
--     changed-same, changed_other   nothing, where they are equal; y, where they differ
--     changes_to f n      the values of f after the first, up to place n, that differ from the one before
--     course f n         the values of f up to place n, without repeats in a row
--     course-next        one place more
--     after_first, after_repeat    the first of a list is its first change, if it is one
--     changes-course     the changes of a list are the course of its elements
--     course-same        two sequences with the same values have the same course
--     trace-course       what is read off the arrangements of a replay, without repeats in a row, is a course
--     course_begins      a course begins with every earlier one
--     course_still       a sequence of one value
--     course_settled     a sequence that keeps one value from some place on has at most that one more
--     course_step        from one place to the next at most one value is added
--     course_last        the last value is that of the last place
--     course-times       how often b comes in the course depends only on the places at which b stands
--     racks_append, racks-times    racks among two lists one after the other; how often a rack is among them
--     racks_come, racks_go   of what changes at a position, who comes is a rack, and that it becomes vacant is none
--     calls f n          the racks in the course of f
--     calls_begins       they begin with every earlier ones
--     calls_step         from one place to the next at most one more comes
--     calls_last         the last of them stands there, if one does
-- Assumes nothing.
use Prim.Native.Nat.{ℕ, zero, suc, ◌+◌, ◌≤◌, ◌<◌}
use mathlib.Core.Path.{◌≡◌, refl, sym, ◌∙◌, ap, ap₂}
use mathlib.Core.Bool.{Bool, true, false, cond}
use mathlib.Core.Logic.{◌≢◌, ⊎_elim, dite}
use mathlib.Core.List.{List, [], ◌∷◌, ◌++◌, map, append-nil, append_assoc}
use native.Mathlib.Omega.{arith}
use native.Mathlib.Decide.{dec_le}
use lib.Dec.{eqb}
use lib.ListN.{length, get_or, length-append, length-map, get_or-map}
use borrow.Author.Tests.{eq-eqb, ne_eqb}
use Rattle.motion.specs.Arrangement.{Arrangement}
use Rattle.motion.specs.Replay.{trace}
use Rattle.motion.proofs.TraceLaws.{trace-length}
use Rattle.motion.proofs.Test.{equal?, cond_either}
use Rattle.optimality.specs.Routes.{changes_after, changes, racks_among}
use Rattle.optimality.proofs.Beginnings.{Begins, begins_itself, begins_more, times, times_append, last_or, last_or_append}

unfoldable pub changed : ℕ → ℕ → List ℕ
changed x y = cond (eqb x y) [] (y ∷ [])

pub changed-same : (x y : ℕ) → x ≡ y → changed x y ≡ []
unfolding changed
changed-same x y e = rw (eq-eqb x y e)

pub changed_other : (x y : ℕ) → x ≢ y → changed x y ≡ y ∷ []
unfolding changed
changed_other x y e = rw (ne_eqb x y e)

unfoldable pub changes_to : (ℕ → ℕ) → ℕ → List ℕ
changes_to f zero = []
changes_to f (suc n) = changes_to f n ++ changed (f n) (f (suc n))

unfoldable pub course : (ℕ → ℕ) → ℕ → List ℕ
course f n = f 0 ∷ changes_to f n

pub course-next : (f : ℕ → ℕ) (n : ℕ) → course f (suc n) ≡ course f n ++ changed (f n) (f (suc n))
unfolding course changes_to
course-next f n = refl

-- the first change comes first
changes_to-first : (f : ℕ → ℕ) (n : ℕ) → changes_to f (suc n) ≡ changed (f 0) (f 1) ++ changes_to (λ i. f (suc i)) n
unfolding changes_to
changes_to-first f zero = sym (append-nil (changed (f 0) (f 1)))
changes_to-first f (suc n) =
    ap (λ (l : List ℕ). l ++ changed (f (suc n)) (f (suc (suc n)))) (changes_to-first f n)
    ∙ append_assoc (changed (f 0) (f 1)) (changes_to (λ i. f (suc i)) n) (changed (f (suc n)) (f (suc (suc n))))

-- the first of a list is the first change
pub after_first : (x y : ℕ) (l : List ℕ) → changes_after x (y ∷ l) ≡ changed x y ++ changes_after y l
unfolding changes_after changed
after_first x y l = chosen (eqb x y)
  where
    chosen : (b : Bool) → cond b (changes_after y l) (y ∷ changes_after y l) ≡ cond b [] (y ∷ []) ++ changes_after y l
    chosen true = refl
    chosen false = refl

pub after_repeat : (y : ℕ) (l : List ℕ) → changes_after y (y ∷ l) ≡ changes_after y l
after_repeat y l = after_first y y l ∙ rw (changed-same y y refl)

module _ (d : ℕ) where
  after-course : (x : ℕ) (l : List ℕ) → changes_after x l ≡ changes_to (λ i. get_or (x ∷ l) i d) (length l)
  unfolding changes_after changes_to
  after-course x [] = refl
  after-course x (y ∷ l) =
      after_first x y l
      ∙ ap (λ (m : List ℕ). changed x y ++ m) (after-course y l)
      ∙ sym (changes_to-first (λ i. get_or (x ∷ y ∷ l) i d) (length l))

  pub changes-course : (x : ℕ) (l : List ℕ) → changes (x ∷ l) ≡ course (λ i. get_or (x ∷ l) i d) (length l)
  unfolding changes course
  changes-course x l = ap (λ (m : List ℕ). x ∷ m) (after-course x l)

pub course-same : (f g : ℕ → ℕ) (n : ℕ) → ((i : ℕ) → i ≤ n → f i ≡ g i) → course f n ≡ course g n
unfolding course changes_to
course-same f g zero e = rw (e 0 (omega arith))
course-same f g (suc n) e =
    ap₂ (λ (k l : List ℕ). k ++ l) (course-same f g n (λ i h. e i (omega arith)))
    (ap₂ changed (e n (omega arith)) (e (suc n) (omega arith)))

module _ (h : Arrangement → ℕ) {X : Type 0} (next : Arrangement → X → Arrangement) where
  read_at : (S : List Arrangement) (n : ℕ) → course (λ i. get_or (map h S) i (h [])) n ≡ course (λ i. h (get_or S i [])) n
  read_at S n = course-same (λ i. get_or (map h S) i (h [])) (λ i. h (get_or S i [])) n (λ i b. get_or-map h S i [])

  pub trace-course : (A : Arrangement) (xs : List X)
      → changes (map h (trace next A xs)) ≡ course (λ i. h (get_or (trace next A xs) i [])) (length xs)
  unfolding trace
  trace-course A [] = changes-course (h []) (h A) [] ∙ read_at (A ∷ []) 0
  trace-course A (x ∷ xs) =
      let rest = trace next (next A x) xs in
      changes-course (h []) (h A) (map h rest)
      ∙ ap (course (λ i. get_or (map h (A ∷ rest)) i (h []))) (length-map rest h ∙ trace-length next (next A x) xs)
      ∙ read_at (A ∷ rest) (suc (length xs))

pub course_begins : (f : ℕ → ℕ) (m n : ℕ) → m ≤ n → Begins (course f m) (course f n)
course_begins f m zero h = let e : m ≡ 0 = omega arith in rw e begins_itself
course_begins f m (suc n) h =
    dite (dec_le m n) (λ l. rw (course-next f n) (begins_more (changed (f n) (f (suc n))) (course_begins f m n l)))
    (λ l. let e : m ≡ suc n = omega arith in rw e begins_itself)

pub course_still : (x n : ℕ) → course (λ i. x) n ≡ x ∷ []
unfolding course changes_to
course_still x zero = refl
course_still x (suc n) = rw (changed-same x x refl) (append-nil (course (λ i. x) n) ∙ course_still x n)

pub course_settled : (f : ℕ → ℕ) (a s n : ℕ) → s < n → ((i : ℕ) → s < i → f i ≡ a) → course f n ≡ course f s ++ changed (f s) a
course_settled f a s zero h e = absurd (omega arith)
course_settled f a s (suc n) h e =
    ⊎_elim
    (λ (c : s ≡ n). course-next f n ∙ rw (← c) (ap (λ (y : ℕ). course f s ++ changed (f s) y) (e (suc s) (omega arith))))
    (λ (c : s ≢ n).
    course-next f n
    ∙ ap (λ (l : List ℕ). course f n ++ l) (changed-same (f n) (f (suc n)) (e n (omega arith) ∙ sym (e (suc n) (omega arith))))
    ∙ append-nil (course f n) ∙ course_settled f a s n (omega arith) e)
    (equal? s n)

pub course_step : (f : ℕ → ℕ) (n : ℕ) → length (course f (suc n)) ≤ suc (length (course f n))
unfolding changed
course_step f n =
    let few : length (changed (f n) (f (suc n))) ≤ 1 =
    cond_either (λ (l : List ℕ). length l ≤ 1) (eqb (f n) (f (suc n))) {x = []} {y = f (suc n) ∷ []} (omega arith) (omega arith) in
    omega (arith, ap length (course-next f n) ∙ length-append (course f n) (changed (f n) (f (suc n))), few)

pub course_last : (f : ℕ → ℕ) (n : ℕ) → last_or 0 (course f n) ≡ f n
unfolding course changes_to last_or
course_last f zero = refl
course_last f (suc n) =
    last_or_append 0 (course f n) (changed (f n) (f (suc n)))
    ∙ ⊎_elim
    (λ (c : f n ≡ f (suc n)). ap (last_or (last_or 0 (course f n))) (changed-same (f n) (f (suc n)) c) ∙ course_last f n ∙ c)
    (λ (c : f n ≢ f (suc n)). ap (last_or (last_or 0 (course f n))) (changed_other (f n) (f (suc n)) c))
    (equal? (f n) (f (suc n)))

-- a value comes into the course where it stands now and did not stand before
changed-times : (b x y : ℕ) → times b (changed x y) ≡ cond (eqb y b) (cond (eqb x b) 0 1) 0
unfolding times
changed-times b x y =
    ⊎_elim
    (λ (c : x ≡ y). rw (changed-same x y c, c) (never (eqb y b)))
    (λ (c : x ≢ y). rw (changed_other x y c) (⊎_elim
    (λ (e : y ≡ b). rw (eq-eqb y b e, ne_eqb x b (λ q. c (q ∙ sym e))))
    (λ (e : y ≢ b). rw (ne_eqb y b e))
    (equal? y b)))
    (equal? x y)
  where
    never : (t : Bool) → ◌≡◌ {A = ℕ} 0 (cond t (cond t 0 1) 0)
    never true = refl
    never false = refl

pub course-times : (f g : ℕ → ℕ) (b c n : ℕ) → ((i : ℕ) → i ≤ n → eqb (f i) b ≡ eqb (g i) c) → times b (course f n) ≡ times c (course g n)
unfolding course changes_to times
course-times f g b c zero h = rw (h 0 (omega arith))
course-times f g b c (suc n) h =
    times_append b (course f n) (changed (f n) (f (suc n)))
    ∙ ap₂ (λ (x y : ℕ). x + y) (course-times f g b c n (λ i k. h i (omega arith)))
    (changed-times b (f n) (f (suc n)) ∙ rw (h n (omega arith), h (suc n) (omega arith)) (sym (changed-times c (g n) (g (suc n)))))
    ∙ sym (times_append c (course g n) (changed (g n) (g (suc n))))

-- racks among numbers

pub racks_append : (k l : List ℕ) → racks_among (k ++ l) ≡ racks_among k ++ racks_among l
unfolding racks_among
racks_append [] l = refl
racks_append (r ∷ k) l = rw (racks_append k l) (chosen (eqb r 0))
  where
    chosen : (b : Bool)
        → cond b (racks_among k ++ racks_among l) (r ∷ (racks_among k ++ racks_among l))
        ≡ cond b (racks_among k) (r ∷ racks_among k) ++ racks_among l
    chosen true = refl
    chosen false = refl

pub racks-times : (r : ℕ) (l : List ℕ) → times (suc r) (racks_among l) ≡ times (suc r) l
unfolding racks_among times
racks-times r [] = refl
racks-times r (zero ∷ l) = rw (ne_eqb 0 (suc r) (λ e. omega arith)) (racks-times r l)
racks-times r (suc x ∷ l) = rw (ne_eqb (suc x) 0 (λ e. omega arith), racks-times r l)

-- of what changes at a position, who comes is told
pub racks_come : (x r : ℕ) → x ≢ suc r → racks_among (changed x (suc r)) ≡ suc r ∷ []
unfolding racks_among
racks_come x r e = rw (changed_other x (suc r) e, ne_eqb (suc r) 0 (λ c. omega arith))

pub racks_go : (x : ℕ) → racks_among (changed x 0) ≡ []
unfolding racks_among changed
racks_go x = gone (eqb x 0)
  where
    gone : (b : Bool) → racks_among (cond b [] (0 ∷ [])) ≡ []
    gone true = refl
    gone false = refl

unfoldable pub calls : (ℕ → ℕ) → ℕ → List ℕ
calls f n = racks_among (course f n)

pub calls_begins : (f : ℕ → ℕ) (m n : ℕ) → m ≤ n → Begins (calls f m) (calls f n)
unfolding calls
calls_begins f m n h =
    let b = course_begins f m n h in
    record { rest = racks_among b.rest; whole = ap racks_among b.whole ∙ racks_append (course f m) b.rest }

pub calls_step : (f : ℕ → ℕ) (n : ℕ) → length (calls f (suc n)) ≤ suc (length (calls f n))
unfolding calls racks_among changed
calls_step f n =
    let few : length (racks_among (changed (f n) (f (suc n)))) ≤ 1 =
    cond_either (λ (l : List ℕ). length (racks_among l) ≤ 1) (eqb (f n) (f (suc n))) {x = []} {y = f (suc n) ∷ []} (omega arith)
    (cond_either (λ (l : List ℕ). length l ≤ 1) (eqb (f (suc n)) 0) {x = []} {y = f (suc n) ∷ []} (omega arith) (omega arith)) in
    omega (
      arith,
      ap (λ (l : List ℕ). length (racks_among l)) (course-next f n)
          ∙ ap length (racks_append (course f n) (changed (f n) (f (suc n))))
          ∙ length-append (racks_among (course f n)) (racks_among (changed (f n) (f (suc n)))),
      few,
    )

pub calls_last : (f : ℕ → ℕ) (n r : ℕ) → f n ≡ suc r → last_or 0 (calls f n) ≡ suc r
unfolding calls course changes_to last_or racks_among
calls_last f zero r e = rw (e, ne_eqb (suc r) 0 (λ q. omega arith))
calls_last f (suc n) r e =
    let before = racks_among (course f n) in
    let more : List ℕ → ℕ = λ l. last_or (last_or 0 before) (racks_among l) in
    ap (last_or 0) (racks_append (course f n) (changed (f n) (f (suc n))))
    ∙ last_or_append 0 before (racks_among (changed (f n) (f (suc n))))
    ∙ ⊎_elim
    (λ (c : f n ≡ f (suc n)). ap more (changed-same (f n) (f (suc n)) c) ∙ calls_last f n r (c ∙ e))
    (λ (c : f n ≢ f (suc n)). ap more (changed_other (f n) (f (suc n)) c) ∙ rw (e, ne_eqb (suc r) 0 (λ q. omega arith)))
    (equal? (f n) (f (suc n)))
