-- The tables of an order's starts and goals, as crates/planning has them.
--
--     held_by            what a table holds, by its rows
--     held_placed        the table of a sound arrangement has its racks placed
--     held_agree         two tables that hold the same arrangement agree
--     tables-alike       two arrangements with the same table are the same
-- Assumes nothing.
use Prim.Native.Nat.{ℕ, suc, ◌-◌, ◌≤◌, ◌<◌}
use mathlib.Core.Path.{◌≡◌, sym, ap, subst, ◌∙◌}
use mathlib.Core.List.{List}
use mathlib.Core.Logic.{◌≢◌, ⊎_elim, by_cases}
use native.Mathlib.Decide.{ℕ_discrete, dec_lt}
use native.Mathlib.Omega.{arith}
use lib.ListN.{length, get_or, get_or-eq_default}
use Rattle.motion.specs.Arrangement.{Arrangement}
use Rattle.motion.proofs.ArrangementLaws.{occupied_rack, vacant-racks, occupied_or_vacant}
use Rattle.motion.specs.Sound.{Sound}
use Rattle.tables.proofs.TablesLaws.{Holds}
use Rattle.graph.specs.Rows.{row}
use Rattle.solving.specs.Placed.{Placed}
use Rattle.solving.proofs.Held.{HeldBy, held_one, held_same}

module _ {A : Arrangement} {h : List ℕ} (holds : Holds A h) where
  pub held_by : HeldBy A (row h)
  held_by = record { racks = holds.racks; others = λ p out. holds.others p ((vacant-racks A p).1 out) }

  -- what stands at p is a rack of the arrangement
  rack_at_lem : (p : ℕ) → row h p ≢ 0 → (i : ℕ) × (i < length A) × (get_or A i 0 ≡ p)
  rack_at_lem p held =
      ⊎_elim (λ t. (occupied_rack A p).0 t) (λ t. absurd (held (holds.others p t))) (occupied_or_vacant A p)

  pub held_placed : (n m : ℕ) → Sound n A → length A ≡ m → Placed n m (row h)
  held_placed n m sound size =
      record {
        one = λ p q held e.
            let x = rack_at_lem p held in
            let y = rack_at_lem q (λ z. held (e ∙ z)) in
            let a : row h p ≡ suc x.0 = ap (row h) (sym x.2) ∙ holds.racks x.0 x.1 in
            let b : row h q ≡ suc y.0 = ap (row h) (sym y.2) ∙ holds.racks y.0 y.1 in
            let same : x.0 ≡ y.0 = omega arith in
            sym x.2 ∙ ap (λ (i : ℕ). get_or A i 0) same ∙ y.2;
        inside = λ p held. let x = rack_at_lem p held in subst (λ (q : ℕ). q < n) x.2 (sound.below x.0 x.1);
        most = λ p. small p;
        every = λ r some le. (get_or A (r - 1) 0, holds.racks (r - 1) (omega arith) ∙ up r some);
      }
    where
      up : (r : ℕ) → 0 < r → suc (r - 1) ≡ r
      up r l = omega arith

      small : (p : ℕ) → row h p ≤ m
      small p =
          by_cases (ℕ_discrete (row h p) 0)
          (λ e. omega arith)
          (λ e.
          let x = rack_at_lem p e in
          let l = x.1 in
          let a : row h p ≡ suc x.0 = ap (row h) (sym x.2) ∙ holds.racks x.0 x.1 in
          omega arith)

-- two tables that hold the same arrangement agree
pub held_agree : {A : Arrangement} {h k : List ℕ} → Holds A h → Holds A k → (p : ℕ) → row h p ≡ row k p
held_agree {A} {h} {k} a b p =
    ⊎_elim
    (λ t. let x = (occupied_rack A p).0 t in
    ap (row h) (sym x.2) ∙ a.racks x.0 x.1 ∙ sym (b.racks x.0 x.1) ∙ ap (row k) x.2)
    (λ t. a.others p t ∙ sym (b.others p t))
    (occupied_or_vacant A p)

pub tables-alike : (n m : ℕ) {A G : Arrangement} {h k : List ℕ} → Sound n A → Holds A h → Holds G k → length A ≡ m → length G ≡ m
    → ((p : ℕ) → p < 64 → row h p ≡ row k p) → A ≡ G
tables-alike n m {A} {G} {h} {k} sound a g sa sg same =
    held_one A G (row h) (held_placed a n m sound sa).one (sa ∙ sym sg) (held_by a) (held_same (λ p. sym (everywhere p)) (held_by g))
  where
    everywhere : (p : ℕ) → row h p ≡ row k p
    everywhere p =
        by_cases (dec_lt p 64) (same p)
        (λ l.
        get_or-eq_default h 0 (let s = a.size in omega arith)
        ∙ sym (get_or-eq_default k 0 (let s = g.size in omega arith)))
