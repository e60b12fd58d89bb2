-- Writing a step: the moves of a row, one after another behind the count, which is written last. The positions that they leave are taken
-- from the row's set, the lowest first.
--
--     part_put, part_room                    a pair put into the part behind the count
--     entry_moves p e                         the move of an entry, if it is one
--     row_next                               the moves of one more entry
--     row_none                               entries that are no moves have none
--     row_most, row_few                      the first p entries have at most as many moves as the row, and as there are entries
--     Writing t i s at p n b                 the buffer b and the count n after p entries of row i, the buffer having been s
--     writing_first, writing_skip            at first; past entries that are no moves
--     entry_fits, count_few, writing_next    at an entry that is one: its move has room, and how it is written
--     Rest t i s at rest n b                 the buffer b and the count n while the moves that leave `rest` are left to write
--     rest-first, rest_small, rest_some, rest_room, rest_few, rest-next, rest_last    how that begins, goes on and ends
--     count-at_most, end_is, length_same, at_inside    after all: at most 64 moves, where the step ends, the same
--                                                      length, and room for the count
-- Assumes nothing.
use Prim.Native.Nat.{ℕ, zero, suc, ◌+◌, ◌-◌, ◌*◌, ◌/◌, ◌≤◌, ◌<◌}
use mathlib.Core.Path.{◌≡◌, refl, sym, ap, ap₂, ◌∙◌}
use mathlib.Core.Bool.{Bool, true, false, cond}
use mathlib.Core.List.{List, [], ◌∷◌, ◌++◌, append_assoc, append-nil}
use mathlib.Core.Logic.{◌↔◌, ◌≢◌, by_cases}
use native.Mathlib.Omega.{arith}
use native.Mathlib.Nat.{add_assoc, zero-add, le_refl}
use native.Mathlib.Numerals.{add-one}
use native.Mathlib.Decide.{ℕ_discrete}
use borrow.Author.Tests.{eq-eqb, ne_eqb}
use lib.ListN.{length, get_or, set, take, drop, length-append, length-drop, drop_of_length-le}
use lib.Seq.{drop-drop, drop_at, take_at, set_at, length-take-le, take-suc}
use lib.Dec.{eqb}
use Rattle.field.proofs.RecordLaws.{rest_is}
use Rattle.field.specs.Packing.{pack, put_pair}
use Rattle.field.proofs.PackingLaws.{length-pack, added, added_is, put_next}
use Rattle.field.specs.Writing.{written, Fits, Wrote}
use Rattle.field.proofs.WritingLaws.{written_none, length-written}
use Rattle.sets.specs.Sets.{Has}
use Rattle.sets.proofs.SetLaws.{has_none}
use Rattle.window.specs.Rows.{row_from, row_moves, step_bytes, Left}

module _ (s : List ℕ) (at n p e : ℕ) where
  pub part_put : (ys : List ℕ) → ys ≡ put_pair (take (length s - (at + 1)) (drop (at + 1) s)) n p e
      → take (at + 1) s ++ (ys ++ drop (length s - (at + 1)) (drop (at + 1) s)) ≡ take (at + 1) s ++ put_pair (drop (at + 1) s) n p e
  part_put ys y =
      let nothing : drop (length s - (at + 1)) (drop (at + 1) s) ≡ [] =
      drop_of_length-le (drop (at + 1) s) {i = length s - (at + 1)} (rw (length-drop (at + 1) s) (le_refl (length s - (at + 1)))) in
      rw (nothing, append-nil ys, y, rest_is (at + 1) s) refl

  pub part_room : at + 1 + (12 * (n + 1) + 7) / 8 ≤ length s
      → (12 * (n + 1) + 7) / 8 ≤ length (take (length s - (at + 1)) (drop (at + 1) s))
  part_room h = rw (rest_is (at + 1) s, length-drop (at + 1) s) (omega arith)

-- the move of an entry, if it is one
unfoldable pub entry_moves : ℕ → ℕ → List (ℕ × ℕ)
entry_moves p e = cond (eqb e 0) [] ((p, e - 1) ∷ [])

pub row_next : (t : List ℕ) (i q k : ℕ) → row_from t i q (suc k) ≡ row_from t i q k ++ entry_moves (q + k) (get_or t (i * 64 + (q + k)) 0)
unfolding row_from entry_moves
row_next t i q zero = let none : q + 0 ≡ q = omega arith in rw none refl
row_next t i q (suc k) =
    let on : q + 1 + k ≡ q + suc k = omega arith in
    rw (row_next t i (q + 1) k, on)
    (by (eqb (get_or t (i * 64 + q) 0) 0) (row_from t i (q + 1) k) (entry_moves (q + suc k) (get_or t (i * 64 + (q + suc k)) 0)))
  where
    by : (b : Bool) (x y : List (ℕ × ℕ))
        → cond b (x ++ y) ((q, get_or t (i * 64 + q) 0 - 1) ∷ (x ++ y)) ≡ cond b x ((q, get_or t (i * 64 + q) 0 - 1) ∷ x) ++ y
    by true x y = refl
    by false x y = refl

-- the moves of the first p entries are among those of the row, in front
row-split : (t : List ℕ) (i q k l : ℕ) → row_from t i q (k + l) ≡ row_from t i q k ++ row_from t i (q + k) l
unfolding row_from
row-split t i q zero l =
    let none : 0 + l ≡ l = zero-add l in
    let here : q + 0 ≡ q = omega arith in
    rw (none, here) refl
row-split t i q (suc k) l =
    let more : suc k + l ≡ suc (k + l) = omega arith in
    let on : q + 1 + k ≡ q + suc k = omega arith in
    rw (more, row-split t i (q + 1) k l, on) (by (eqb (get_or t (i * 64 + q) 0) 0) (row_from t i (q + 1) k) (row_from t i (q + suc k) l))
  where
    by : (b : Bool) (x y : List (ℕ × ℕ))
        → cond b (x ++ y) ((q, get_or t (i * 64 + q) 0 - 1) ∷ (x ++ y)) ≡ cond b x ((q, get_or t (i * 64 + q) 0 - 1) ∷ x) ++ y
    by true x y = refl
    by false x y = refl

pub row_none : (t : List ℕ) (i q k : ℕ) → ((x : ℕ) → q ≤ x → x < q + k → get_or t (i * 64 + x) 0 ≡ 0) → row_from t i q k ≡ []
unfolding row_from
row_none t i q zero none = refl
row_none t i q (suc k) none =
    rw (eq-eqb (get_or t (i * 64 + q) 0) 0 (none q (le_refl q) (omega arith)))
    (row_none t i (q + 1) k (λ x l u. none x (omega arith) (omega arith)))

pub row_most : (t : List ℕ) (i p : ℕ) → p ≤ 64 → length (row_from t i 0 p) ≤ length (row_moves t i)
unfolding row_moves
row_most t i p h =
    let all : 64 ≡ p + (64 - p) = omega arith in
    let whole : row_from t i 0 64 ≡ row_from t i 0 p ++ row_from t i (0 + p) (64 - p) = ap (row_from t i 0) all ∙
    row-split t i 0 p (64 - p) in
    omega (arith, ap length whole, length-append (row_from t i 0 p) (row_from t i (0 + p) (64 - p)))

pub row_few : (t : List ℕ) (i q k : ℕ) → length (row_from t i q k) ≤ k
unfolding row_from
row_few t i q zero = omega arith
row_few t i q (suc k) = by (eqb (get_or t (i * 64 + q) 0) 0) (row_few t i (q + 1) k)
  where
    by : (b : Bool) → length (row_from t i (q + 1) k) ≤ k
        → length (cond b (row_from t i (q + 1) k) ((q, get_or t (i * 64 + q) 0 - 1) ∷ row_from t i (q + 1) k)) ≤ suc k
    by true h = omega arith
    by false h = omega arith

module _ (t : List ℕ) (i : ℕ) (s : List ℕ) (at : ℕ) where
  pub record Writing (p n : ℕ) (b : List ℕ) : Type 0 where
    pub counted : n ≡ length (row_from t i 0 p)
    pub packed : b ≡ written s (at + 1) (pack (row_from t i 0 p))

  pub writing_first : Writing 0 0 s
  writing_first = record { counted = unfold row_from in refl; packed = unfold row_from pack in sym (written_none s (at + 1)) }

  pub writing_skip : (q p n : ℕ) (b : List ℕ) → Writing q n b → q ≤ p → ((x : ℕ) → q ≤ x → x < p → get_or t (i * 64 + x) 0 ≡ 0)
      → Writing p n b
  writing_skip q p n b w l none =
      let parts : p ≡ q + (p - q) = omega arith in
      let nothing : row_from t i (0 + q) (p - q) ≡ [] = row_none t i (0 + q) (p - q) (λ x a z. none x (omega arith) (omega arith)) in
      let same : row_from t i 0 p ≡ row_from t i 0 q =
      ap (row_from t i 0) parts ∙ row-split t i 0 q (p - q) ∙ ap (λ (l : List (ℕ × ℕ)). row_from t i 0 q ++ l) nothing
      ∙ append-nil (row_from t i 0 q) in
      record {
        counted = w.counted ∙ ap length (sym same);
        packed = w.packed ∙ ap (λ (l : List (ℕ × ℕ)). written s (at + 1) (pack l)) (sym same);
      }

  module _ (fits : Fits s at (step_bytes (row_moves t i))) (p n : ℕ) (b : List ℕ) (w : Writing p n b) (h : p < 64)
      (d : get_or t (i * 64 + p) 0 ≢ 0) where
    grows : row_from t i 0 (p + 1) ≡ row_from t i 0 p ++ ((p, get_or t (i * 64 + p) 0 - 1) ∷ [])
    unfolding entry_moves
    grows =
        let on : p + 1 ≡ suc p = add-one p in
        let here : 0 + p ≡ p = zero-add p in
        rw on (row_next t i 0 p ∙ rw (here, ne_eqb (get_or t (i * 64 + p) 0) 0 d) refl)

    count_next : n + 1 ≡ length (row_from t i 0 (p + 1))
    count_next = rw (grows, w.counted) (sym (length-append (row_from t i 0 p) ((p, get_or t (i * 64 + p) 0 - 1) ∷ [])))

    -- the bytes of the moves so far, and of all
    pack_fits : Fits s (at + 1) (pack (row_from t i 0 p))
    unfolding step_bytes
    pack_fits = record {
      room = omega (arith, length-pack (row_from t i 0 p), length-pack (row_moves t i), row_most t i p (omega (arith, h)), fits.room);
    }

    before_is : length (take (at + 1) s) ≡ at + 1
    before_is = length-take-le (at + 1) s (omega (arith, pack_fits.room))

    length-kept : length b ≡ length s
    length-kept = ap length w.packed ∙ length-written s (at + 1) (pack (row_from t i 0 p)) pack_fits

    pub entry_fits : at + 1 + (12 * (n + 1) + 7) / 8 ≤ length b
    unfolding step_bytes
    entry_fits =
        rw (length-kept, count_next) (omega (arith, length-pack (row_moves t i), row_most t i (p + 1) (omega (arith, h)), fits.room))

    pub count_few : n < 64
    count_few = omega (arith, w.counted, row_few t i 0 p, h)

    -- what stands behind the moves so far
    behind : List ℕ
    behind = drop (at + 1 + length (pack (row_from t i 0 p))) s

    part_is : drop (at + 1) b ≡ pack (row_from t i 0 p) ++ behind
    unfolding behind written
    part_is =
        ap (drop (at + 1)) w.packed
        ∙ drop_at (take (at + 1) s) (pack (row_from t i 0 p) ++ drop (at + 1 + length (pack (row_from t i 0 p))) s) (at + 1) before_is

    front_is : take (at + 1) b ≡ take (at + 1) s
    unfolding written
    front_is =
        ap (take (at + 1)) w.packed
        ∙ take_at (take (at + 1) s) (pack (row_from t i 0 p) ++ drop (at + 1 + length (pack (row_from t i 0 p))) s) (at + 1) before_is

    next-length : length (pack (row_from t i 0 (p + 1))) ≡ length (pack (row_from t i 0 p)) + added (length (row_from t i 0 p))
    next-length =
        length-pack (row_from t i 0 (p + 1))
        ∙ ap (λ (k : ℕ). (12 * k + 7) / 8) (ap length grows ∙ length-append (row_from t i 0 p) ((p, get_or t (i * 64 + p) 0 - 1) ∷ []))
        ∙ sym (added_is (length (row_from t i 0 p)))
        ∙ ap (λ (k : ℕ). k + added (length (row_from t i 0 p))) (sym (length-pack (row_from t i 0 p)))

    behind_room : added (length (row_from t i 0 p)) ≤ length behind
    unfolding behind step_bytes
    behind_room =
        rw (length-drop (at + 1 + length (pack (row_from t i 0 p))) s)
        (omega (
          arith,
          next-length,
          length-pack (row_from t i 0 (p + 1)),
          length-pack (row_moves t i),
          row_most t i (p + 1) (omega (arith, h)),
          fits.room,
        ))

    behind-next : drop (added (length (row_from t i 0 p))) behind ≡ drop (at + 1 + length (pack (row_from t i 0 (p + 1)))) s
    unfolding behind
    behind-next =
        drop-drop (added (length (row_from t i 0 p))) (at + 1 + length (pack (row_from t i 0 p))) s
        ∙ ap (λ (k : ℕ). drop k s)
        (add_assoc (at + 1) (length (pack (row_from t i 0 p))) (added (length (row_from t i 0 p)))
        ∙ ap (λ (k : ℕ). at + 1 + k) (sym next-length))

    writes : take (at + 1) b ++ put_pair (drop (at + 1) b) n p (get_or t (i * 64 + p) 0 - 1)
        ≡ written s (at + 1) (pack (row_from t i 0 (p + 1)))
    unfolding written
    writes =
        let e = get_or t (i * 64 + p) 0 - 1 in
        ap₂ (λ (x y : List ℕ). x ++ put_pair y n p e) front_is part_is
        ∙ ap (λ (k : ℕ). take (at + 1) s ++ put_pair (pack (row_from t i 0 p) ++ behind) k p e) w.counted
        ∙ ap (λ (x : List ℕ). take (at + 1) s ++ x)
        (put_next (row_from t i 0 p) behind p e behind_room
        ∙ ap₂ (λ (x : List (ℕ × ℕ)) (y : List ℕ). pack x ++ y) (sym grows) behind-next)

    pub writing_next : (b' : List ℕ) → b' ≡ take (at + 1) b ++ put_pair (drop (at + 1) b) n p (get_or t (i * 64 + p) 0 - 1)
        → Writing (p + 1) (n + 1) b'
    writing_next b' e = record { counted = count_next; packed = e ∙ writes }

  pub record Rest (rest n : ℕ) (b : List ℕ) : Type 0 where
    pub from : ℕ
    pub within : from ≤ 64
    pub writing : Writing from n b
    pub has : (p : ℕ) → Has rest p ↔ ((from ≤ p) × (p < 64) × (get_or t (i * 64 + p) 0 ≢ 0))

  pub rest-first : (m : List ℕ) → Left t m → i < 4096 → Rest (get_or m i 0) 0 s
  rest-first m left h = record {
    from = 0;
    within = omega arith;
    writing = writing_first;
    has = λ p. (λ x. let y = (left.has i p h).0 x in (omega arith, y.0, y.1), λ y. (left.has i p h).1 (y.1, y.2));
  }

  module _ (rest n : ℕ) (b : List ℕ) (r : Rest rest n b) where
    -- an entry that `rest` has not is no move
    none_here : (x : ℕ) → r.from ≤ x → x < 64 → (Has rest x → ⊥) → get_or t (i * 64 + x) 0 ≡ 0
    none_here x l u out = by_cases (ℕ_discrete (get_or t (i * 64 + x) 0) 0) (λ e. e) (λ d. absurd (out ((r.has x).1 (l, u, d))))

    pub rest_last : rest ≡ 0 → Writing 64 n b
    rest_last z = writing_skip r.from 64 n b r.writing r.within (λ x l u. none_here x l u (λ y. has_none x (rw z at y)))

    module _ (p : ℕ) (in_rest : Has rest p) (least : (x : ℕ) → Has rest x → p ≤ x) where
      pub rest_small : p < 64
      rest_small = ((r.has p).0 in_rest).1

      pub rest_some : get_or t (i * 64 + p) 0 ≢ 0
      rest_some = ((r.has p).0 in_rest).2

      rest_here : Writing p n b
      rest_here =
          let small = rest_small in
          writing_skip r.from p n b r.writing ((r.has p).0 in_rest).0
          (λ x l u. none_here x l (omega arith) (λ y. let low = least x y in omega arith))

      module _ (fits : Fits s at (step_bytes (row_moves t i))) where
        pub rest_room : at + 1 + (12 * (n + 1) + 7) / 8 ≤ length b
        rest_room = entry_fits fits p n b rest_here rest_small rest_some

        pub rest_few : n < 64
        rest_few = count_few fits p n b rest_here rest_small rest_some

        module _ (e : ℕ) (entry : e ≡ get_or t (i * 64 + p) 0) (ys : List ℕ)
            (put : ys ≡ put_pair (take (length b - (at + 1)) (drop (at + 1) b)) n p (e - 1))
            (rest' : ℕ) (without : (x : ℕ) → Has rest' x ↔ (Has rest x × (x ≢ p))) where
          b' : List ℕ
          b' = take (at + 1) b ++ (ys ++ drop (length b - (at + 1)) (drop (at + 1) b))

          next : Writing (p + 1) (n + 1) b'
          unfolding b'
          next = writing_next fits p n b rest_here rest_small rest_some _ (part_put b at n p (e - 1) ys put ∙ rw entry refl)

          -- the rest begins behind p
          behind_p : (x : ℕ) → Has rest' x ↔ ((p + 1 ≤ x) × (x < 64) × (get_or t (i * 64 + x) 0 ≢ 0))
          behind_p x = (
            λ y.
                let z = (without x).0 y in
                let old = (r.has x).0 z.0 in
                let low = least x z.0 in
                (by_cases (ℕ_discrete x p) (λ e. absurd (z.1 e)) (λ d. omega arith), old.1, old.2),
            λ y.
                let low = ((r.has p).0 in_rest).0 in
                let up = y.0 in
                (without x).1 ((r.has x).1 (omega arith, y.1, y.2), λ e. omega arith),
          )

          pub rest-next : Rest rest' (n + 1) (take (at + 1) b ++ (ys ++ drop (length b - (at + 1)) (drop (at + 1) b)))
          unfolding b'
          rest-next = record { from = p + 1; within = let small = rest_small in omega arith; writing = next; has = behind_p }

  module _ (fits : Fits s at (step_bytes (row_moves t i))) (n : ℕ) (b : List ℕ) (w : Writing 64 n b) where
    pub count-at_most : n ≤ 64
    count-at_most = omega (arith, w.counted, row_few t i 0 64)

    end_is : at + 1 + (12 * n + 7) / 8 ≡ at + length (step_bytes (row_moves t i))
    unfolding step_bytes row_moves
    end_is = omega (arith, w.counted, length-pack (row_from t i 0 64))

    last_is : set b at n ≡ written s at (step_bytes (row_moves t i))
    unfolding step_bytes row_moves written
    last_is =
        let ms = row_from t i 0 64 in
        let inside : at < length s = omega (arith, fits.room) in
        let on : at + 1 + length (pack ms) ≡ at + suc (length (pack ms)) = omega arith in
        let front : take (at + 1) s ≡ take at s ++ (get_or s at 0 ∷ []) = ap (λ (k : ℕ). take k s) (add-one at) ∙ take-suc s at 0 inside in
        let split : b ≡ take at s ++ get_or s at 0 ∷ (pack ms ++ drop (at + 1 + length (pack ms)) s) =
        w.packed ∙ ap (λ (x : List ℕ). x ++ (pack ms ++ drop (at + 1 + length (pack ms)) s)) front
        ∙ append_assoc (take at s) (get_or s at 0 ∷ []) (pack ms ++ drop (at + 1 + length (pack ms)) s) in
        ap (λ (x : List ℕ). set x at n) split
        ∙ set_at (take at s) (get_or s at 0) (pack ms ++ drop (at + 1 + length (pack ms)) s) n at
        (length-take-le at s (omega (arith, inside)))
        ∙ rw (w.counted, on) refl

    pub writing_last : Wrote s at (step_bytes (row_moves t i)) (set b at n) (at + 1 + (12 * n + 7) / 8)
    writing_last = record { bytes_are = last_is; next_is = end_is }

    pub length_same : length b ≡ length s
    unfolding step_bytes row_moves
    length_same = ap length w.packed ∙ length-written s (at + 1) (pack (row_from t i 0 64)) (record { room = omega (arith, fits.room) })

    pub at_inside : at < length b
    unfolding step_bytes
    at_inside = rw length_same (omega (arith, fits.room))
