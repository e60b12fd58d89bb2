-- The loop of the converter: the moves listed so far, and those of what is left to read, are the plan's.
--
--     Listing s named k h₀ B h b j    with j of the k moves of the tail s listed from the table h₀ in the other edition, the table is h and
--                                     the bytes B have become b
--     listing_first, listing_next, listing_last    how that goes on
--     next_rack_lem, next_room            what a move asks to be written
-- Assumes nothing.
use Prim.Native.Nat.{ℕ, ◌+◌, ◌-◌, ◌*◌, ◌/◌, ◌≤◌, ◌<◌}
use mathlib.Core.Path.{◌≡◌, refl, sym, ap, subst, ◌∙◌}
use mathlib.Core.Bool.{Bool, true, false, not}
use mathlib.Core.List.{List, [], ◌∷◌, ◌++◌, append_assoc, append-nil}
use native.Mathlib.Omega.{arith}
use native.Mathlib.Nat.{sub-zero}
use lib.ListN.{length, get_or, set, length-append}
use Rattle.field.specs.Bits.{PairAt}
use Rattle.field.specs.Listed.{move_size, listed_moves, moves_of, moves_at, units, all_units, RackFits}
use Rattle.field.specs.Packing.{pack_positions, put_positions}
use Rattle.field.specs.Writing.{written}
use Rattle.field.proofs.ListedLaws.{size_none, moves_next, length-units, put_behind-listed}
use Rattle.field.proofs.PackingLaws.{length-packed}
use Rattle.field.proofs.WritingLaws.{written_front, length-written}
use Rattle.tables.specs.Tables.{moved_on}
use Rattle.converting.specs.Listing.{tabled, Held, held_more}

-- room for k moves is room for each of them
room_end : (e : Bool) (j k n : ℕ) → j < k → (6 * (move_size e * k) + 7) / 8 ≤ n → (6 * (move_size e * (j + 1)) + 7) / 8 ≤ n
unfolding move_size
room_end false j k n l h = omega arith
room_end true j k n l h = omega arith

held_parts : {h : List ℕ} {m : ℕ × ℕ} {ms : List (ℕ × ℕ)} → Held h (m ∷ ms)
    → (1 ≤ get_or h m.0 0) × (get_or h m.0 0 ≤ 64) × Held (moved_on h m) ms
held_parts (held_more a b c) = (a, b, c)

module _ (s : List ℕ) (named : Bool) (k : ℕ) (h₀ B : List ℕ) where
  -- the moves from number j + 1 on
  unfoldable pub left : ℕ → List (ℕ × ℕ)
  left j = moves_at named s (6 * (move_size named * j)) (k - j)

  pub record Listing (h b : List ℕ) (j : ℕ) : Type 0 where
    pub done : List (ℕ × ℕ × ℕ)
    pub counted : length done ≡ j
    pub rest_is : done ++ tabled h (left j) ≡ tabled h₀ (moves_at named s 0 k)
    pub bytes_are : b ≡ written B 0 (pack_positions (all_units (not named) done))
    pub long : length b ≡ length B
    pub held : Held h (left j)

  pub listing_first : Held h₀ (moves_at named s 0 k) → Listing h₀ B 0
  unfolding left all_units pack_positions
  listing_first held = record {
    done = [];
    counted = refl;
    rest_is = rw (sub-zero k, size_none named) refl;
    bytes_are = sym (written_front B []);
    long = refl;
    held = rw (sub-zero k, size_none named) held;
  }

  module _ (room : (6 * (move_size (not named) * k) + 7) / 8 ≤ length B) (h b : List ℕ) (j : ℕ) (l : Listing h b j) (less : j < k)
      (x y : ℕ) (at : PairAt s (6 * (move_size named * j)) x y) where
    next-left : left j ≡ (x, y) ∷ left (j + 1)
    unfolding left
    next-left = moves_next named s j k less ∙ rw (at.first_is, at.second_is) refl

    parts : (1 ≤ get_or h x 0) × (get_or h x 0 ≤ 64) × Held (moved_on h (x, y)) (left (j + 1))
    parts = held_parts (subst (Held h) next-left l.held)

    pub next_rack_lem : not named ≡ true → RackFits true (get_or h x 0)
    next_rack_lem e = (parts.0, parts.1)

    pub next_room : (6 * (move_size (not named) * (j + 1)) + 7) / 8 ≤ length b
    next_room = rw l.long (room_end (not named) j k (length B) less room)

    pub listing_next : (e : Bool) → e ≡ not named → (r : ℕ) → r ≡ get_or h x 0 → (c : List ℕ)
        → c ≡ put_positions b (move_size e * j) (units e (x, y, r)) → Listing (set (set h x 0) y (get_or h x 0)) c (j + 1)
    unfolding moved_on tabled
    listing_next e ee r er c ec =
        let w : ℕ × ℕ × ℕ = (x, y, get_or h x 0) in
        let all = l.done in
        let more : length (all ++ (w ∷ [])) ≡ j + 1 = length-append all (w ∷ []) ∙ ap (λ (n : ℕ). n + 1) l.counted in
        let left_is : tabled h (left j) ≡ w ∷ tabled (moved_on h (x, y)) (left (j + 1)) = ap (tabled h) next-left in
        let fits : (6 * (move_size (not named) * (j + 1)) + 7) / 8 ≤ length B = room_end (not named) j k (length B) less room in
        let bytes : c ≡ written B 0 (pack_positions (all_units (not named) (all ++ (w ∷ [])))) =
        ec
        ∙ rw (ee, er, l.bytes_are, ← l.counted) (put_behind-listed (not named) all w B (rw l.counted fits)) in
        let size : length (pack_positions (all_units (not named) (all ++ (w ∷ [])))) ≡ (6 * (move_size (not named) * (j + 1)) + 7) / 8 =
        length-packed (all_units (not named) (all ++ (w ∷ [])))
        ∙ ap (λ (n : ℕ). (6 * n + 7) / 8) (length-units (not named) (all ++ (w ∷ [])) ∙ ap (λ (n : ℕ). move_size (not named) * n) more) in
        record {
          done = all ++ (w ∷ []);
          counted = more;
          rest_is = append_assoc all (w ∷ []) _ ∙ ap (λ (t : List (ℕ × ℕ × ℕ)). all ++ t) (sym left_is) ∙ l.rest_is;
          bytes_are = bytes;
          long = ap length bytes ∙ length-written B 0 _ (record { room = omega (arith, size, fits) });
          held = parts.2;
        }

  pub listing_last : (h b : List ℕ) (j : ℕ) → Listing h b j → k ≤ j
      → b ≡ written B 0 (pack_positions (all_units (not named) (tabled h₀ (moves_at named s 0 k))))
  unfolding left moves_at moves_of listed_moves tabled
  listing_last h b j l h' =
      let none : k - j ≡ 0 = omega arith in
      let all : l.done ≡ tabled h₀ (moves_at named s 0 k) = sym (append-nil l.done) ∙ (rw none at l.rest_is) in
      l.bytes_are ∙ ap (λ (x : List (ℕ × ℕ × ℕ)). written B 0 (pack_positions (all_units (not named) x))) all
