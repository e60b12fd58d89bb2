-- Arrangements of racks, from document 01, "The floor": "Racks are numbered from 1 to m. A position holds at most one rack."
-- In the field's terms a rack is an agent (a pebble), and an arrangement is Surynek's function S from agents to vertices.
--
--     Arrangement      the position of each rack: a list, rack 1's position first
--     stands A r       where rack r stands, racks counted from 1
--     occupied A p     some rack stands at p
--     vacant A p       no rack stands at p
--     rack_from r A p   the rack that stands at p, where the first rack of A has the number r; 0 where none does
--     rack_at A p       the rack that stands at p, racks counted from 1; 0 where none does
-- Assumes nothing.
use Rattle.std.specs.Prelude.{ℕ, suc, ◌-◌, Bool, not, cond, List, [], ◌∷◌, get_or, eqb}
use Rattle.order.specs.Floor.{some}

abbrev pub Arrangement : Type 0
Arrangement = List ℕ

unfoldable pub stands : Arrangement → ℕ → ℕ
stands A r = get_or A (r - 1) 0

unfoldable pub occupied : Arrangement → ℕ → Bool
occupied A p = some (λ q. eqb q p) A

unfoldable pub vacant : Arrangement → ℕ → Bool
vacant A p = not (occupied A p)

unfoldable pub rack_from : ℕ → Arrangement → ℕ → ℕ
rack_from r [] p = 0
rack_from r (q ∷ A) p = cond (eqb q p) r (rack_from (suc r) A p)

unfoldable pub rack_at : Arrangement → ℕ → ℕ
rack_at A p = rack_from 1 A p
