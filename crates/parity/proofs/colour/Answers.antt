-- `parity::colour` meets its contract.
-- Assumes nothing.
use Prim.Native.Nat.{ℕ, ◌≤◌}
use mathlib.Core.Bool.{Bool, true, false, false≢true}
use mathlib.Core.Path.{◌≡◌, refl, sym, ◌∙◌}
use mathlib.Core.Logic.{◌↔◌, ⊎_elim}
use native.Mathlib.Omega.{arith}
use mir.Val.{bool_byte}
use Rattle.sets.specs.Sets.{bit, Has}
use Rattle.sets.proofs.SetLaws.{has_or_not}
use Rattle.parity.proofs.colour.Goals as goal

told : (b : Bool) (s p : ℕ) → (b ≡ true) ↔ Has s p → bool_byte b ≡ bit s p
told true s p d = sym (d.0 refl)
told false s p d = ⊎_elim (λ h. absurd (false≢true (d.1 h))) (λ z. sym z) (has_or_not s p)

small : (b : Bool) → bool_byte b ≤ 1
small true = omega arith
small false = omega arith

pub returns : goal.returns
returns c = record {
  value = c.from.ensures ∙ told c.has.result _ _ c.has.ensures;
  upper_bound = rw c.from.ensures (small c.has.result);
}
