-- The loop that lists the moves along a way: the moves listed so far, and those of what is left, are the way's.
--
--     Listing at k B b j      with j of the k moves along the positions at listed, the bytes B have become b
--     listing_first, listing_next, listing_last    how that goes on
--     next_room               what a move asks to be written
-- Assumes nothing.
use Prim.Native.Nat.{ℕ, suc, ◌+◌, ◌-◌, ◌*◌, ◌/◌, ◌≤◌, ◌<◌}
use mathlib.Core.Path.{◌≡◌, refl, sym, ap, ◌∙◌}
use mathlib.Core.Bool.{true}
use mathlib.Core.List.{List, [], ◌∷◌, ◌++◌, append_assoc, append-nil}
use native.Mathlib.Omega.{arith}
use native.Mathlib.Nat.{sub-zero}
use lib.ListN.{length, get_or, length-append}
use Rattle.field.specs.Listed.{move_size, units, all_units}
use Rattle.field.specs.Packing.{pack_positions, put_positions}
use Rattle.field.specs.Writing.{written}
use Rattle.field.proofs.ListedLaws.{length-units, put_behind-listed}
use Rattle.field.proofs.PackingLaws.{length-packed}
use Rattle.field.proofs.WritingLaws.{written_front, length-written}
use Rattle.carry.specs.Listing.{taken}

module _ (at : List ℕ) (k : ℕ) (B : List ℕ) where
  pub record Listing (b : List ℕ) (j : ℕ) : Type 0 where
    pub done : List (ℕ × ℕ × ℕ)
    pub counted : length done ≡ j
    pub rest_is : done ++ taken at j (k - j) ≡ taken at 0 k
    pub bytes_are : b ≡ written B 0 (pack_positions (all_units true done))
    pub long : length b ≡ length B

  pub listing_first : Listing B 0
  unfolding all_units pack_positions
  listing_first = record {
    done = [];
    counted = refl;
    rest_is = rw (sub-zero k) refl;
    bytes_are = sym (written_front B []);
    long = refl;
  }

  module _ (room : (18 * k + 7) / 8 ≤ length B) (b : List ℕ) (j : ℕ) (l : Listing b j) (less : j < k) where
    fits : (6 * (move_size true * (j + 1)) + 7) / 8 ≤ length B
    unfolding move_size
    fits = omega (arith, room)

    pub next_room : (6 * (move_size true * (j + 1)) + 7) / 8 ≤ length b
    next_room = rw l.long fits

    pub listing_next : (x y : ℕ) → x ≡ get_or at j 0 → y ≡ get_or at (j + 1) 0 → (c : List ℕ)
        → c ≡ put_positions b (move_size true * j) (units true (x, y, 1)) → Listing c (j + 1)
    unfolding taken
    listing_next x y ex ey c ec =
        let w : ℕ × ℕ × ℕ = (x, y, 1) in
        let all = l.done in
        let more : length (all ++ (w ∷ [])) ≡ j + 1 = length-append all (w ∷ []) ∙ ap (λ (n : ℕ). n + 1) l.counted in
        let left : k - j ≡ suc (k - (j + 1)) = omega arith in
        let bytes : c ≡ written B 0 (pack_positions (all_units true (all ++ (w ∷ [])))) =
        ec ∙ rw (l.bytes_are, ← l.counted) (put_behind-listed true all w B (rw l.counted fits)) in
        let size : length (pack_positions (all_units true (all ++ (w ∷ [])))) ≡ (6 * (move_size true * (j + 1)) + 7) / 8 =
        length-packed (all_units true (all ++ (w ∷ [])))
        ∙ ap (λ (n : ℕ). (6 * n + 7) / 8) (length-units true (all ++ (w ∷ [])) ∙ ap (λ (n : ℕ). move_size true * n) more) in
        record {
          done = all ++ (w ∷ []);
          counted = more;
          rest_is = append_assoc all (w ∷ []) _ ∙ rw (ex, ey) (rw left at l.rest_is);
          bytes_are = bytes;
          long = ap length bytes ∙ length-written B 0 _ (record { room = omega (arith, size, fits) });
        }

  pub listing_last : (b : List ℕ) (j : ℕ) → Listing b j → k ≤ j → b ≡ written B 0 (pack_positions (all_units true (taken at 0 k)))
  unfolding taken
  listing_last b j l h =
      let none : k - j ≡ 0 = omega arith in
      let all : l.done ≡ taken at 0 k = sym (append-nil l.done) ∙ (rw none at l.rest_is) in
      l.bytes_are ∙ ap (λ (x : List (ℕ × ℕ × ℕ)). written B 0 (pack_positions (all_units true x))) all
