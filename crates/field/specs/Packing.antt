-- Positions as bytes: four positions take three bytes, and one, two or three left over take as many bytes, the last of which ends in
-- the pad. A pair of positions takes its two places one after the other.
--
--     pack_positions l     the positions l, packed into bytes
--     pack l              the pairs l, packed into bytes
--     put_position l q p   the byte string l with the position p written after its first q positions, and the pad behind it
--     put_positions l q ps the same with the positions ps, one after another
--     put_pair l j a b     the byte string l with the pair a, b written after its first j pairs, and the pad behind it
-- Assumes nothing.
use Rattle.std.specs.Prelude.{ℕ, ◌+◌, ◌*◌, ◌/◌, ◌%◌, cond, List, [], ◌∷◌, get_or, set, eqb}

unfoldable pub pack_positions : List ℕ → List ℕ
pack_positions [] = []
pack_positions (a ∷ []) = (a * 4) ∷ []
pack_positions (a ∷ b ∷ []) = (a * 4 + b / 16) ∷ (b % 16 * 16) ∷ []
pack_positions (a ∷ b ∷ c ∷ []) = (a * 4 + b / 16) ∷ (b % 16 * 16 + c / 4) ∷ (c % 4 * 64) ∷ []
pack_positions (a ∷ b ∷ c ∷ d ∷ l) = (a * 4 + b / 16) ∷ (b % 16 * 16 + c / 4) ∷ (c % 4 * 64 + d) ∷ pack_positions l

unfoldable pub pack : List (ℕ × ℕ) → List ℕ
pack [] = []
pack (p ∷ []) = (p.0 * 4 + p.1 / 16) ∷ (p.1 % 16 * 16) ∷ []
pack (p ∷ q ∷ l) = (p.0 * 4 + p.1 / 16) ∷ (p.1 % 16 * 16 + q.0 / 4) ∷ (q.0 % 4 * 64 + q.1) ∷ pack l

-- the first of four positions begins a byte; each of the others ends the byte that the position before it began
unfoldable pub put_position : List ℕ → ℕ → ℕ → List ℕ
put_position l q p =
    let at = q / 4 * 3 in
    cond (eqb (q % 4) 0) (set l at (p * 4))
    (cond (eqb (q % 4) 1) (set (set l at (get_or l at 0 / 4 * 4 + p / 16)) (at + 1) (p % 16 * 16))
    (cond (eqb (q % 4) 2) (set (set l (at + 1) (get_or l (at + 1) 0 / 16 * 16 + p / 4)) (at + 2) (p % 4 * 64))
    (set l (at + 2) (get_or l (at + 2) 0 / 64 * 64 + p))))

unfoldable pub put_positions : List ℕ → ℕ → List ℕ → List ℕ
put_positions l q [] = l
put_positions l q (p ∷ ps) = put_positions (put_position l q p) (q + 1) ps

-- behind an even number of pairs the pair begins a byte; behind an odd one it ends the byte that the pair before it began
unfoldable pub put_pair : List ℕ → ℕ → ℕ → ℕ → List ℕ
put_pair l j a b =
    let at = j / 2 * 3 in
    cond (eqb (j % 2) 0)
    (set (set l at (a * 4 + b / 16)) (at + 1) (b % 16 * 16))
    (set (set l (at + 1) (get_or l (at + 1) 0 / 16 * 16 + a / 4)) (at + 2) (a % 4 * 64 + b))
