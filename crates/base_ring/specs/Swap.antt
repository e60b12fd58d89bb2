-- Moves of two racks by way of a position beside both: what they ask for, and what they do to the table h.
--
--     PassableBy a x b h     a rack stands at a; x and b are vacant, and b is none of the other two
--     JoinsBy a x b g        the rows g have an edge from a to x, and from x to b
--     Swappable x a v b h    racks stand at a and at b; x and v are vacant, and the four are different positions
--     Joined x a v b g       the rows g join x to each of a, v and b, both ways
--     Swapped a b h k        what stood at a stands at b, and what stood at b at a; nothing else moved
-- Assumes nothing.
use Rattle.std.specs.Prelude.{ℕ, ◌<◌, ◌≡◌, List, ◌≢◌}
use Rattle.graph.specs.Walk.{Symmetric}
use Rattle.graph.specs.Rows.{Edge}

pub record PassableBy (a x b : ℕ) (h : ℕ → ℕ) : Type 0 where
  pub leaves : a < 64
  pub passes : x < 64
  pub enters : b < 64
  pub other : a ≢ b
  pub beside : x ≢ b
  pub held : h a ≢ 0
  pub free : h x ≡ 0
  pub vacant : h b ≡ 0

pub record JoinsBy (a x b : ℕ) (g : List ℕ) : Type 0 where
  pub there : Edge g a x
  pub on : Edge g x b

pub record Swappable (x a v b : ℕ) (h : ℕ → ℕ) : Type 0 where
  pub passes : x < 64
  pub first : a < 64
  pub waits : v < 64
  pub second : b < 64
  pub a_v : a ≢ v
  pub a_b : a ≢ b
  pub v_b : v ≢ b
  pub x_v : x ≢ v
  pub free : h x ≡ 0
  pub vacant : h v ≡ 0
  pub held : h a ≢ 0
  pub held_too : h b ≢ 0

pub record Joined (x a v b : ℕ) (g : List ℕ) : Type 0 where
  pub symmetric : Symmetric (Edge g)
  pub first : Edge g x a
  pub waits : Edge g x v
  pub second : Edge g x b

pub record Swapped (a b : ℕ) (h k : ℕ → ℕ) : Type 0 where
  pub first : k a ≡ h b
  pub second : k b ≡ h a
  pub others : (p : ℕ) → p ≢ a → p ≢ b → k p ≡ h p
