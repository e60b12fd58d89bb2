-- Laws of what specs/Listed.antt defines.
--
--     length-listed, length-units         how many moves are read, and how many fields they have
--     size_none, size-next                how many fields none and one move more have
--     listed_next, moves_next             the next of what is left to read
--     room_at                             room for k moves is room for each of them
--     listed_fit, units_below, moves_below, moves-at_below    what is read fits its fields
--     length-moves_of, length-moves, moves_of_append             moves without the racks
--     units-listed                        the fields of the moves read are the positions read
--     units_append                        the fields of two lists of moves
--     listed-from                         moves are known by their fields
--     listed-drop                         the same moves, read from the part that begins at byte b
--     moves-pairs                         the moves of edition one are pairs of positions
--     put_behind-listed                   a move written behind packed ones packs one more, and what stands behind the record stays
-- Assumes nothing.
use Prim.Native.Nat.{ℕ, zero, suc, ◌+◌, ◌-◌, ◌*◌, ◌/◌, ◌%◌, ◌≤◌, ◌<◌}
use mathlib.Core.Path.{◌≡◌, refl, sym, ap, ap₂, subst, ◌∙◌}
use mathlib.Core.Bool.{Bool, true, false}
use mathlib.Core.List.{List, [], ◌∷◌, ◌++◌, append_assoc, append-nil, head-eq_of_cons-eq, tail-eq_of_cons-eq}
use native.Mathlib.Omega.{arith}
use native.Mathlib.Nat.{add_assoc}
use lib.ListN.{length, drop, length-append}
use Rattle.field.specs.Bits.{field, positions, pairs, PairAt, TripleAt}
use Rattle.field.specs.Bytes.{Below, none, more, BelowPairs, none₂, more₂}
use Rattle.field.specs.Packing.{pack_positions, put_position, put_pair, put_positions}
use Rattle.field.specs.Listed.{move_size, rack_field, listed_moves, moves_of, moves_at, units, all_units}
use Rattle.field.specs.Listed.{ListedAt, RackFits, ListedFit, none₃, more₃}
use Rattle.field.specs.Writing.{written}
use Rattle.field.proofs.BitLaws.{field-drop, field_lt}
use Rattle.field.proofs.PackingLaws.{put_behind-all, put_pair_is}

pub length-listed : (e : Bool) (s : List ℕ) (i k : ℕ) → length (listed_moves e s i k) ≡ k
unfolding listed_moves
length-listed e s i zero = refl
length-listed e s i (suc k) = ap suc (length-listed e s (i + 6 * move_size e) k)

pub length_unit : (e : Bool) (w : ℕ × ℕ × ℕ) → length (units e w) ≡ move_size e
unfolding units move_size
length_unit false w = refl
length_unit true w = refl

-- one move more
pub size-next : (e : Bool) (k : ℕ) → move_size e * (k + 1) ≡ move_size e * k + move_size e
unfolding move_size
size-next false k = omega arith
size-next true k = omega arith

-- no move yet
pub size_none : (e : Bool) → 6 * (move_size e * 0) ≡ 0
unfolding move_size
size_none false = refl
size_none true = refl

pub length-units : (e : Bool) (l : List (ℕ × ℕ × ℕ)) → length (all_units e l) ≡ move_size e * length l
unfolding all_units
length-units false [] = unfold move_size in refl
length-units true [] = unfold move_size in refl
length-units e (w ∷ l) =
    length-append (units e w) (all_units e l)
    ∙ rw (length_unit e w, length-units e l) (omega (arith, size-next e (length l)))

pub listed_next : (e : Bool) (s : List ℕ) (j k : ℕ) → j < k
    → listed_moves e s (6 * (move_size e * j)) (k - j)
    ≡ (
      field s (6 * (move_size e * j)) 6,
      field s (6 * (move_size e * j) + 6) 6,
      rack_field e s (6 * (move_size e * j) + 12),
    ) ∷ listed_moves e s (6 * (move_size e * (j + 1))) (k - (j + 1))
unfolding listed_moves
listed_next e s j k h =
    let left : k - j ≡ suc (k - (j + 1)) = omega arith in
    let on : 6 * (move_size e * j) + 6 * move_size e ≡ 6 * (move_size e * (j + 1)) = omega (arith, size-next e j) in
    rw (left, on) refl

pub moves_next : (e : Bool) (s : List ℕ) (j k : ℕ) → j < k
    → moves_at e s (6 * (move_size e * j)) (k - j)
    ≡ (field s (6 * (move_size e * j)) 6, field s (6 * (move_size e * j) + 6) 6) ∷ moves_at e s (6 * (move_size e * (j + 1))) (k - (j + 1))
unfolding moves_at moves_of
moves_next e s j k h = rw (listed_next e s j k h) refl

-- room for k moves is room for each of them
pub room_at : (e : Bool) (j k n : ℕ) → j < k → 6 * (move_size e * k) ≤ n → 6 * (move_size e * (j + 1)) ≤ n
unfolding move_size
room_at false j k n l h = omega arith
room_at true j k n l h = omega arith

rack_fits : (e : Bool) (s : List ℕ) (i : ℕ) → RackFits e (rack_field e s i)
unfolding rack_field
rack_fits false s i = refl
rack_fits true s i = (omega arith, omega (arith, field_lt s i 6))

pub listed_fit : (e : Bool) (s : List ℕ) (i k : ℕ) → ListedFit e (listed_moves e s i k)
unfolding listed_moves
listed_fit e s i zero = none₃
listed_fit e s i (suc k) =
    more₃ (field_lt s i 6) (field_lt s (i + 6) 6) (rack_fits e s (i + 12)) (listed_fit e s (i + 6 * move_size e) k)

pub units_below : (e : Bool) {l : List (ℕ × ℕ × ℕ)} → ListedFit e l → Below 64 (all_units e l)
unfolding all_units units
units_below e none₃ = none
units_below false (more₃ a b r f) = more a (more b (units_below false f))
units_below true (more₃ {w = w} a b r f) = more a (more b (more {x = w.2 - 1} (omega arith) (units_below true f)))

pub moves_below : (e : Bool) {l : List (ℕ × ℕ × ℕ)} → ListedFit e l → BelowPairs 64 (moves_of l)
unfolding moves_of
moves_below e none₃ = none₂
moves_below e (more₃ a b r f) = more₂ a b (moves_below e f)

pub length-moves_of : (l : List (ℕ × ℕ × ℕ)) → length (moves_of l) ≡ length l
unfolding moves_of
length-moves_of [] = refl
length-moves_of (w ∷ l) = ap suc (length-moves_of l)

pub moves_of_append : (l m : List (ℕ × ℕ × ℕ)) → moves_of (l ++ m) ≡ moves_of l ++ moves_of m
unfolding moves_of
moves_of_append [] m = refl
moves_of_append (w ∷ l) m = ap (λ (x : List (ℕ × ℕ)). (w.0, w.1) ∷ x) (moves_of_append l m)

pub units-listed : (e : Bool) (s : List ℕ) (i k : ℕ) → all_units e (listed_moves e s i k) ≡ positions s i (move_size e * k)
unfolding listed_moves all_units units move_size rack_field positions
units-listed false s i zero = refl
units-listed true s i zero = refl
units-listed false s i (suc k) =
    let size : 2 * suc k ≡ suc (suc (2 * k)) = omega arith in
    let on : i + 12 ≡ i + 6 + 6 = omega arith in
    rw (size, units-listed false s (i + 12) k, on) refl
units-listed true s i (suc k) =
    let size : 3 * suc k ≡ suc (suc (suc (3 * k))) = omega arith in
    let on : i + 18 ≡ i + 6 + 6 + 6 = omega arith in
    let third : i + 12 ≡ i + 6 + 6 = omega arith in
    let less : field s (i + 6 + 6) 6 + 1 - 1 ≡ field s (i + 6 + 6) 6 = omega arith in
    rw (size, units-listed true s (i + 18) k, on, third, less) refl

pub units_append : (e : Bool) (l m : List (ℕ × ℕ × ℕ)) → all_units e (l ++ m) ≡ all_units e l ++ all_units e m
unfolding all_units
units_append e [] m = refl
units_append e (w ∷ l) m = rw (units_append e l m) (sym (append_assoc (units e w) (all_units e l) (all_units e m)))

-- moves that fit their fields are known by them
units_known : (e : Bool) {l m : List (ℕ × ℕ × ℕ)} → ListedFit e l → ListedFit e m → all_units e l ≡ all_units e m → l ≡ m
unfolding all_units units
units_known e none₃ none₃ q = refl
units_known false none₃ (more₃ a b r f) q = absurd (let z : ◌≡◌ {A = ℕ} 0 1 = cc in omega arith)
units_known true none₃ (more₃ a b r f) q = absurd (let z : ◌≡◌ {A = ℕ} 0 1 = cc in omega arith)
units_known false (more₃ a b r f) none₃ q = absurd (let z : ◌≡◌ {A = ℕ} 0 1 = cc in omega arith)
units_known true (more₃ a b r f) none₃ q = absurd (let z : ◌≡◌ {A = ℕ} 0 1 = cc in omega arith)
units_known false (more₃ {w = w} a b r f) (more₃ {w = v} a' b' r' f') q =
    let on = tail-eq_of_cons-eq q in
    ap₂ (λ (x : ℕ × ℕ × ℕ) (l : List (ℕ × ℕ × ℕ)). x ∷ l)
    (λ j. (head-eq_of_cons-eq q j, head-eq_of_cons-eq on j, (r ∙ sym r') j))
    (units_known false f f' (tail-eq_of_cons-eq on))
units_known true (more₃ {w = w} a b r f) (more₃ {w = v} a' b' r' f') q =
    let on = tail-eq_of_cons-eq q in
    let last = tail-eq_of_cons-eq on in
    let less : w.2 - 1 ≡ v.2 - 1 = head-eq_of_cons-eq last in
    let same : w.2 ≡ v.2 = omega arith in
    ap₂ (λ (x : ℕ × ℕ × ℕ) (l : List (ℕ × ℕ × ℕ)). x ∷ l)
    (λ j. (head-eq_of_cons-eq q j, head-eq_of_cons-eq on j, same j))
    (units_known true f f' (tail-eq_of_cons-eq last))

pub listed-from : (e : Bool) (s : List ℕ) (i : ℕ) {l : List (ℕ × ℕ × ℕ)} → ListedFit e l
    → positions s i (move_size e * length l) ≡ all_units e l → listed_moves e s i (length l) ≡ l
listed-from e s i {l} f q = units_known e (listed_fit e s i (length l)) f (units-listed e s i (length l) ∙ q)

pub listed-drop : (e : Bool) (s : List ℕ) (b i k : ℕ) → listed_moves e s (8 * b + i) k ≡ listed_moves e (drop b s) i k
unfolding listed_moves rack_field
listed-drop e s b i zero = refl
listed-drop e s b i (suc k) =
    rw (
      field-drop s b i 6,
      add_assoc (8 * b) i 6,
      field-drop s b (i + 6) 6,
      add_assoc (8 * b) i 12,
      rack_drop e,
      add_assoc (8 * b) i (6 * move_size e),
    )
    (ap (λ (m : List (ℕ × ℕ × ℕ)). (field (drop b s) i 6, field (drop b s) (i + 6) 6, rack_field e (drop b s) (i + 12)) ∷ m)
    (listed-drop e s b (i + 6 * move_size e) k))
  where
    rack_drop : (e : Bool) → rack_field e s (8 * b + (i + 12)) ≡ rack_field e (drop b s) (i + 12)
    rack_drop false = refl
    rack_drop true = rw (field-drop s b (i + 12) 6) refl

pub moves-at_below : (e : Bool) (s : List ℕ) (i k : ℕ) → BelowPairs 64 (moves_at e s i k)
unfolding moves_at
moves-at_below e s i k = moves_below e (listed_fit e s i k)

pub length-moves : (e : Bool) (s : List ℕ) (i k : ℕ) → length (moves_at e s i k) ≡ k
unfolding moves_at
length-moves e s i k = length-moves_of (listed_moves e s i k) ∙ length-listed e s i k

pub moves-pairs : (s : List ℕ) (i k : ℕ) → moves_of (listed_moves false s i k) ≡ pairs s i k
unfolding listed_moves moves_of pairs move_size
moves-pairs s i zero = refl
moves-pairs s i (suc k) = ap (λ (l : List (ℕ × ℕ)). (field s i 6, field s (i + 6) 6) ∷ l) (moves-pairs s (i + 12) k)

-- a move in the edition that it is read or written in
module _ (e : Bool) (s : List ℕ) (j x : ℕ) where
  pub listed_triple : e ≡ true → TripleAt s (18 * j) (x / 4096) (x / 64 % 64) (x % 64)
      → ListedAt e s (6 * (move_size e * j)) (x / 64 / 64) (x / 64 % 64) (x % 64 + 1)
  unfolding move_size rack_field
  listed_triple is t =
      let begin : 6 * (3 * j) ≡ 18 * j = omega arith in
      let high : x / 64 / 64 ≡ x / 4096 = omega arith in
      rw is
      (record {
        left_is = rw (begin, high) t.first_is;
        entered_is = rw begin t.second_is;
        rack_is = rw (begin, ← t.third_is) refl;
        left_below = rw high t.first_below;
        entered_below = t.second_below;
        rack_at_most = omega (arith, t.third_below);
      })

  pub listed_pair : e ≡ false → PairAt s (12 * j) (x / 64) (x % 64) → ListedAt e s (6 * (move_size e * j)) (x / 64) (x % 64) 0
  unfolding move_size rack_field
  listed_pair is t =
      let begin : 6 * (2 * j) ≡ 12 * j = omega arith in
      rw is
      (record {
        left_is = rw begin t.first_is;
        entered_is = rw begin t.second_is;
        rack_is = refl;
        left_below = t.first_below;
        entered_below = t.second_below;
        rack_at_most = omega arith;
      })

module _ (e : Bool) (j n : ℕ) where
  pub triple_room : e ≡ true → 6 * (move_size e * (j + 1)) ≤ n → 18 * j + 18 ≤ n
  unfolding move_size
  triple_room is h = let r : 6 * (3 * (j + 1)) ≤ n = rw is at h in omega (arith, r)

  pub pair_room : e ≡ false → 6 * (move_size e * (j + 1)) ≤ n → 12 * j + 12 ≤ n
  unfolding move_size
  pair_room is h = let r : 6 * (2 * (j + 1)) ≤ n = rw is at h in omega (arith, r)

  pub triple_end : e ≡ true → (6 * (move_size e * (j + 1)) + 7) / 8 ≤ n → (18 * (j + 1) + 7) / 8 ≤ n
  unfolding move_size
  triple_end is h = let r : (6 * (3 * (j + 1)) + 7) / 8 ≤ n = rw is at h in omega (arith, r)

  pub pair_end : e ≡ false → (6 * (move_size e * (j + 1)) + 7) / 8 ≤ n → (12 * (j + 1) + 7) / 8 ≤ n
  unfolding move_size
  pair_end is h = let r : (6 * (2 * (j + 1)) + 7) / 8 ≤ n = rw is at h in omega (arith, r)

-- three positions, one after another
pub put_three : (s : List ℕ) (j a b c : ℕ) (t u v : List ℕ) → t ≡ put_position s (3 * j) a → u ≡ put_position t (3 * j + 1) b
    → v ≡ put_position u (3 * j + 2) c → v ≡ put_positions s (3 * j) (a ∷ b ∷ c ∷ [])
unfolding put_positions
put_three s j a b c t u v et eu ev =
    let on : 3 * j + 2 ≡ 3 * j + 1 + 1 = omega arith in
    ev ∙ rw (on, eu, et) refl

module _ (e : Bool) (s : List ℕ) (j a b r : ℕ) where
  pub put_listed_triple : e ≡ true → put_positions s (3 * j) (a ∷ b ∷ (r - 1) ∷ []) ≡ put_positions s (move_size e * j) (units e (a, b, r))
  unfolding move_size units
  put_listed_triple is = rw is refl

  pub put_listed_pair : e ≡ false → put_pair s j a b ≡ put_positions s (move_size e * j) (units e (a, b, r))
  unfolding move_size units put_positions
  put_listed_pair is = rw is (put_pair_is s j a b)

-- a move written behind packed ones packs one more, and what stands behind the record stays
pub put_behind-listed : (e : Bool) (l : List (ℕ × ℕ × ℕ)) (w : ℕ × ℕ × ℕ) (s : List ℕ)
    → (6 * (move_size e * (length l + 1)) + 7) / 8 ≤ length s
    → put_positions (written s 0 (pack_positions (all_units e l))) (move_size e * length l) (units e w)
    ≡ written s 0 (pack_positions (all_units e (l ++ (w ∷ []))))
put_behind-listed e l w s h =
    let old = all_units e l in
    let all : all_units e (l ++ (w ∷ [])) ≡ old ++ units e w =
    units_append e l (w ∷ []) ∙ (unfold all_units in rw (append-nil (units e w)) refl) in
    let before : length old ≡ move_size e * length l = length-units e l in
    let one : length (units e w) ≡ move_size e = length_unit e w in
    let longer : length (old ++ units e w) ≡ move_size e * (length l + 1) =
    length-append old (units e w) ∙ rw (before, one) (sym (size-next e (length l))) in
    put_behind-all old (units e w) s (move_size e * length l) (sym before) (rw longer h) ∙ rw all refl
