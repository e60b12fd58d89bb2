-- Laws of a floor's rows.
--
--     edge_same         an edge is counted alike from both its ends
--     edge_loopless     no edge joins a position to itself
-- Assumes nothing.
use Prim.Native.Nat.{ℕ}
use mathlib.Core.Path.{◌≡◌, refl}
use mathlib.Core.List.{List}
use mathlib.Core.Logic.{⊎_elim}
use native.Mathlib.Omega.{arith}
use lib.ListN.{get_or}
use Rattle.sets.specs.Sets.{bit}
use Rattle.sets.proofs.SetLaws.{has_or_not}
use Rattle.graph.specs.Rows.{Rows}

module _ {n : ℕ} {g : List ℕ} (rows : Rows n g) where
  pub edge_same : (a b : ℕ) → bit (get_or g a 0) b ≡ bit (get_or g b 0) a
  edge_same a b =
      ⊎_elim
      (λ h. let i = rows.symmetric a b h in omega arith)
      (λ h. ⊎_elim (λ i. let j = rows.symmetric b a i in omega arith) (λ i. omega arith) (has_or_not (get_or g b 0) a))
      (has_or_not (get_or g a 0) b)

  pub edge_loopless : (a : ℕ) → bit (get_or g a 0) a ≡ 0
  edge_loopless a = ⊎_elim (λ h. absurd (rows.other a a h refl)) (λ h. h) (has_or_not (get_or g a 0) a)
