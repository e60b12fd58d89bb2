-- Laws of the parts of a row as sets.
--
--     part_none, part-next, part-all    the state of `part`: nothing yet; one place more; as far as `to`
-- Assumes nothing.
use Prim.Native.Nat.{ℕ, ◌+◌, ◌≤◌, ◌<◌}
use mathlib.Core.Path.{◌≡◌, sym, ap, subst, ◌∙◌}
use mathlib.Core.Logic.{◌↔◌, ◌⊎◌, inl, inr, ⊎_elim, by_cases}
use native.Mathlib.Decide.{ℕ_discrete}
use native.Mathlib.Omega.{arith}
use Rattle.sets.specs.Sets.{Has}
use Rattle.sets.proofs.SetLaws.{has_none}
use Rattle.breakdown.specs.Part.{Part}

pub part_none : (at : ℕ → ℕ) (from i : ℕ) → i ≤ from → Part at from i 0
part_none at from i le p = (λ h. absurd (has_none p h), λ b. absurd (none b.from b.before))
  where
    none : {x : ℕ} → from ≤ x → x < i → ⊥
    none a b = omega arith

pub part-next : (at : ℕ → ℕ) (from i v w : ℕ) → from ≤ i → ((p : ℕ) → Has w p ↔ (Has v p ⊎ (p ≡ at i)))
    → Part at from i v → Part at from (i + 1) w
part-next at from i v w le has s p = (
  λ h. ⊎_elim
      (λ x. let b = (s p).0 x in let l = b.before in record { place = b.place; from = b.from; before = omega arith; is = b.is })
      (λ e. record { place = i; from = le; before = omega arith; is = sym e })
      ((has p).0 h),
  λ b. (has p).1 (let l = b.before in by_cases (ℕ_discrete b.place i)
      (λ e. inr (sym b.is ∙ ap at e))
      (λ e. inl ((s p).1 (record { place = b.place; from = b.from; before = omega arith; is = b.is })))),
)

pub part-all : (at : ℕ → ℕ) (from i to v : ℕ) → to ≤ i → (i ≤ to) ⊎ (i ≡ from) → Part at from i v → Part at from to v
part-all at from i to v done up s =
    ⊎_elim
    (λ l. let same : i ≡ to = omega arith in subst (λ (x : ℕ). Part at from x v) same s)
    (λ e p. (
      λ h. let b = (s p).0 h in absurd (none b.from (let l = b.before in omega arith)),
      λ b. absurd (none b.from (let l = b.before in omega arith)),
    )) up
  where
    none : {x : ℕ} → from ≤ x → x < from → ⊥
    none a b = omega arith
