-- The sets beside a window: for each row the positions that its moves leave.
--
--     left-empty      the empty window's sets are empty
--     left-set        one move more in a row, and its position more in the row's set
-- Assumes nothing.
use Prim.Native.Nat.{ℕ, ◌+◌, ◌*◌, ◌<◌}
use mathlib.Core.Path.{◌≡◌, sym, ap, ◌∙◌}
use mathlib.Core.List.{List}
use mathlib.Core.Logic.{◌↔◌, ◌≢◌, ◌⊎◌, inl, inr, ⊎_elim, by_cases}
use native.Mathlib.Decide.{ℕ_discrete}
use native.Mathlib.Omega.{arith}
use lib.ListN.{get_or, set, replicate, length-set, length-replicate}
use lib.Seq.{get_or-set_same, get_or-set_other}
use Rattle.sets.specs.Sets.{Has}
use Rattle.sets.proofs.SetLaws.{has_none}
use Rattle.tables.proofs.TableLaws.{zeros_at}
use Rattle.window.specs.Rows.{Left}

pub left-empty : Left (replicate 262144 0) (replicate 4096 0)
left-empty = record {
  entries = length-replicate {A = ℕ} 262144 0;
  sets = length-replicate {A = ℕ} 4096 0;
  has = λ i p h. (
    λ some. absurd (has_none p (rw (zeros_at 4096 i) at some)),
    λ some. absurd (some.1 (zeros_at 262144 (i * 64 + p))),
  );
}

module _ (w m : List ℕ) (row a v s : ℕ) (left : Left w m) (h : row < 4096) (k : a < 64) (some : v ≢ 0)
    (with : (p : ℕ) → Has s p ↔ (Has (get_or m row 0) p ⊎ (p ≡ a))) where
  here : get_or (set w (row * 64 + a) v) (row * 64 + a) 0 ≡ v
  here = get_or-set_same w (row * 64 + a) v 0 (omega (arith, left.entries))

  elsewhere : (i p : ℕ) → (i * 64 + p) ≢ (row * 64 + a) → get_or (set w (row * 64 + a) v) (i * 64 + p) 0 ≡ get_or w (i * 64 + p) 0
  elsewhere i p d = get_or-set_other w (row * 64 + a) (i * 64 + p) v 0 d

  -- in the row itself
  in_row_lem : (p : ℕ) → Has s p ↔ ((p < 64) × (get_or (set w (row * 64 + a) v) (row * 64 + p) 0 ≢ 0))
  in_row_lem p =
      by_cases (ℕ_discrete p a)
      (λ e. (
        λ t. (omega (arith, e, k), λ z. some (sym here ∙ ap (λ (x : ℕ). get_or (set w (row * 64 + a) v) (row * 64 + x) 0) (sym e) ∙ z)),
        λ t. (with p).1 (inr e),
      ))
      (λ d.
      let same = elsewhere row p (λ e. d (omega (arith, e))) in (
        λ t. ⊎_elim (λ old. let x = (left.has row p h).0 old in (x.0, λ z. x.1 (sym same ∙ z))) (λ e. absurd (d e)) ((with p).0 t),
        λ t. (with p).1 (inl ((left.has row p h).1 (t.0, λ z. t.1 (same ∙ z)))),
      ))

  other_row : (i p : ℕ) → i < 4096 → i ≢ row → Has (get_or m i 0) p ↔ ((p < 64) × (get_or (set w (row * 64 + a) v) (i * 64 + p) 0 ≢ 0))
  other_row i p l d = (
    λ t.
        let x = (left.has i p l).0 t in
        let small = x.0 in
        (small, λ z. x.1 (sym (elsewhere i p (λ e. d (omega (arith, e, k, small)))) ∙ z)),
    λ t.
        let small = t.0 in
        (left.has i p l).1 (small, λ z. t.1 (elsewhere i p (λ e. d (omega (arith, e, k, small))) ∙ z)),
  )

  pub left-set : Left (set w (row * 64 + a) v) (set m row s)
  left-set = record {
    entries = length-set w (row * 64 + a) v ∙ left.entries;
    sets = length-set m row s ∙ left.sets;
    has = λ i p l.
        by_cases (ℕ_discrete i row)
        (λ e. rw (e, get_or-set_same m row s 0 (omega (arith, left.sets))) (in_row_lem p))
        (λ d. rw (get_or-set_other m row i s 0 d) (other_row i p l d));
  }
