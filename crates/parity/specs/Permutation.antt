-- Request (n): "take the change from start to goal as a permutation with the vacancy included".
--
--     vacancy n A        the vacant position of the n: the first of them, and n where none is
--     goal_of n S G p     where what stands at p by the starts S is to stand by the goals G: the vacancy where the goals' is, a rack at its
--                        goal
--     values_from f i k   f i, f (i + 1), .., k of them
--     change n S G       the permutation: where what stands at 0 is to go, at 1, .., at n - 1
--     smaller x l        how many numbers of the list l are below x
--     inversions l       how many pairs of the list l stand the wrong way round, the greater before the smaller
--     Odd l, Even l      the permutation l is odd, is even
-- Assumes nothing.
use Rattle.std.specs.Prelude.{ℕ, zero, suc, ◌+◌, ◌%◌, ◌≡◌, cond, List, [], ◌∷◌, ltb}
use Rattle.sets.specs.First.{first_from}
use Rattle.motion.specs.Arrangement.{Arrangement, stands, vacant, rack_at}
use Rattle.floor.specs.Sides.{count_of}

unfoldable pub vacancy : ℕ → Arrangement → ℕ
vacancy n A = first_from (vacant A) 0 n

unfoldable pub goal_of : ℕ → Arrangement → Arrangement → ℕ → ℕ
goal_of n S G p = cond (vacant S p) (vacancy n G) (stands G (rack_at S p))

unfoldable pub values_from : (ℕ → ℕ) → ℕ → ℕ → List ℕ
values_from f i zero = []
values_from f i (suc k) = f i ∷ values_from f (suc i) k

unfoldable pub change : ℕ → Arrangement → Arrangement → List ℕ
change n S G = values_from (goal_of n S G) 0 n

abbrev pub smaller : ℕ → List ℕ → ℕ
smaller x l = count_of (λ y. ltb y x) l

unfoldable pub inversions : List ℕ → ℕ
inversions [] = 0
inversions (x ∷ l) = smaller x l + inversions l

-- A permutation is odd if its inversions are an odd number, and even if they are an even one.
abbrev pub Odd : List ℕ → Type 0
Odd l = inversions l % 2 ≡ 1

abbrev pub Even : List ℕ → Type 0
Even l = inversions l % 2 ≡ 0
