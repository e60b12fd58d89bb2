-- The tests of a listed move, one after another, and the size of its fields.
--
--     unnamed, named_there       whether a move names another rack than the one there
--     fault_32, -34, -35, -36, fault_none    the fault by the first test that fails
--     units-named, units_unnamed    how many fields k moves have
--     spare_named, spare_unnamed    an edition's spare bits
-- Assumes nothing.
use Prim.Native.Nat.{ℕ, ◌*◌, ◌^◌, ◌<◌}
use mathlib.Core.Bool.{Bool, true, false, not, cond}
use mathlib.Core.Logic.{◌≢◌}
use mathlib.Core.Path.{◌≡◌, refl, sym, ◌∙◌}
use borrow.Author.Tests.{eq-eqb, ne_eqb}
use native.Mathlib.Omega.{arith}
use lib.Dec.{eqb}
use Rattle.field.specs.Listed.{move_size}
use Rattle.motion.specs.Move.{fault_by, misnamed}
use Rattle.tables.specs.Tables.{entries_fault, listed_entries}
use Rattle.plan.specs.Plan.{spare_bits}

module _ (rack there : ℕ) where
  pub unnamed : rack ≡ 0 → misnamed rack there ≡ cond false 36 0
  unfolding misnamed
  unnamed e = rw (eq-eqb rack 0 e) refl

  pub named_there : rack ≢ 0 → misnamed rack there ≡ cond (not (eqb rack there)) 36 0
  unfolding misnamed
  named_there d = rw (ne_eqb rack 0 d) (by (eqb rack there))
    where
      by : (b : Bool) → ◌≡◌ {A = ℕ} (cond b 0 36) (cond (not b) 36 0)
      by true = refl
      by false = refl

module _ (edge left entered rack : ℕ) where
  pub fault_32 : edge ≡ 0 → 32 ≡ listed_entries edge left entered rack
  unfolding listed_entries entries_fault fault_by
  fault_32 e = rw (eq-eqb edge 0 e) refl

  module _ (joined : edge ≢ 0) where
    pub fault_34 : left ≡ 0 → 34 ≡ listed_entries edge left entered rack
    unfolding listed_entries entries_fault fault_by
    fault_34 e = rw (ne_eqb edge 0 joined, eq-eqb left 0 e) refl

    module _ (holds : left ≢ 0) where
      pub fault_35 : entered ≢ 0 → 35 ≡ listed_entries edge left entered rack
      unfolding listed_entries entries_fault fault_by
      fault_35 e = rw (ne_eqb edge 0 joined, ne_eqb left 0 holds, ne_eqb entered 0 e) refl

      module _ (free : entered ≡ 0) (b : Bool) (is : misnamed rack left ≡ cond b 36 0) where
        named_is : cond b 36 0 ≡ listed_entries edge left entered rack
        unfolding listed_entries entries_fault fault_by
        named_is = rw (ne_eqb edge 0 joined, ne_eqb left 0 holds, eq-eqb entered 0 free) (sym is)

        pub fault_36 : b ≡ true → 36 ≡ listed_entries edge left entered rack
        fault_36 e = let t : ◌≡◌ {A = ℕ} (cond b 36 0) 36 = rw e refl in sym t ∙ named_is

        pub fault_none : b ≡ false → 0 ≡ listed_entries edge left entered rack
        fault_none e = let t : ◌≡◌ {A = ℕ} (cond b 36 0) 0 = rw e refl in sym t ∙ named_is

module _ (e : Bool) (k : ℕ) (few : k < 2 ^ 22) where
  pub units-named : e ≡ true → (3 * k ≡ move_size e * k) × (3 * k < 2 ^ 32)
  unfolding move_size
  units-named is = (rw is refl, omega arith)

  pub units_unnamed : e ≡ false → (2 * k ≡ move_size e * k) × (2 * k < 2 ^ 32)
  unfolding move_size
  units_unnamed is = (rw is refl, omega arith)

module _ (e : Bool) where
  pub spare_named : e ≡ true → (1 ≡ spare_bits e) × (1 < 4)
  unfolding spare_bits
  spare_named is = (rw is refl, omega arith)

  pub spare_unnamed : e ≡ false → (0 ≡ spare_bits e) × (0 < 4)
  unfolding spare_bits
  spare_unnamed is = (rw is refl, omega arith)
