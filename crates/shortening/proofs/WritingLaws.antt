-- Writing the kept moves one after another.
--
--     packed_none     before the first
--     packed-next     one move more at the front
--     write_skipped   a move that is not kept changes nothing
--     write_kept      one that is kept stands behind those before it
--     stack_ahead     moves that are not kept are passed by
--     ahead-word, ahead_mark    past a word without further marks, or to the next mark
--     stack_few       at most as many are kept as there are moves
-- Assumes nothing.
use Prim.Native.Nat.{ℕ, zero, suc, ◌+◌, ◌*◌, ◌/◌, ◌%◌, ◌≤◌, ◌<◌, min}
use mathlib.Core.Bool.{Bool}
use mathlib.Core.List.{List, [], ◌∷◌, ◌++◌}
use mathlib.Core.Logic.{◌↔◌, ◌≢◌, ⊎_elim}
use mathlib.Core.Path.{◌≡◌, refl, sym, ap, ap₂, ◌∙◌}
use native.Mathlib.Omega.{arith}
use native.Mathlib.Nat.{le_refl}
use native.Mathlib.Numerals.{add-one}
use lib.ListN.{length, get_or, length-append}
use Rattle.field.specs.Listed.{move_size, units, all_units}
use Rattle.field.specs.Packing.{pack_positions, put_positions}
use Rattle.field.proofs.ListedLaws.{put_behind-listed}
use Rattle.field.proofs.WritingLaws.{written_none}
use Rattle.cancelling.specs.Stack.{laid}
use Rattle.motion.proofs.Test.{equal?}
use Rattle.sets.specs.Sets.{Has}
use Rattle.sets.proofs.SetLaws.{has_none}
use Rattle.cancelling.specs.Looking.{listed_of, Kept, stack_of, GoesAhead, Packed}
use Rattle.shortening.proofs.StackLaws.{laid_append, laid-length}
use Rattle.cancelling.proofs.MarkLaws.{kept?, stack_kept, stack_skipped}

pub packed_none : (named : Bool) (B : List ℕ) → Packed named B [] 0 B
packed_none named B = record { counted = refl; packed = unfold all_units pack_positions in sym (written_none B 0) }

pub packed-next : (named : Bool) (B : List ℕ) (l : List (ℕ × ℕ × ℕ)) (n : ℕ) (t : List ℕ) (w : ℕ × ℕ × ℕ)
    → (6 * (move_size named * (n + 1)) + 7) / 8 ≤ length B → Packed named B l n t
    → Packed named B (l ++ (w ∷ [])) (n + 1) (put_positions t (move_size named * n) (units named w))
packed-next named B l n t w room p =
    record {
      counted = ap (λ (k : ℕ). k + 1) p.counted ∙ sym (length-append l (w ∷ []));
      packed =
          ap₂ (λ (x : List ℕ) (k : ℕ). put_positions x (move_size named * k) (units named w)) p.packed p.counted
          ∙ put_behind-listed named l w B (rw p.counted at room);
    }

module _ (named : Bool) (s marks : List ℕ) (i : ℕ) (B : List ℕ) (n : ℕ) (t : List ℕ)
    (p : Packed named B (laid (stack_of (listed_of named s) marks i) []) n t) where
  pub write_skipped : (Kept marks i → ⊥) → Packed named B (laid (stack_of (listed_of named s) marks (i + 1)) []) n t
  write_skipped k = rw (add-one i, stack_skipped (listed_of named s) marks i k) p

  pub write_kept : Kept marks i → (w : ℕ × ℕ × ℕ) → listed_of named s i ≡ w → (6 * (move_size named * (n + 1)) + 7) / 8 ≤ length B
      → (u : List ℕ) → u ≡ put_positions t (move_size named * n) (units named w)
      → Packed named B (laid (stack_of (listed_of named s) marks (i + 1)) []) (n + 1) u
  unfolding laid
  write_kept k w is room u e =
      let below = stack_of (listed_of named s) marks i in
      let more = packed-next named B (laid below []) n t w room p in
      rw (add-one i, stack_kept (listed_of named s) marks i k, is, ← laid_append below [] (w ∷ []), e) more

pub stack_ahead : (f : ℕ → ℕ × ℕ × ℕ) (marks : List ℕ) (i r : ℕ) → i ≤ r → ((h : ℕ) → i ≤ h → h < r → Kept marks h → ⊥)
    → stack_of f marks r ≡ stack_of f marks i
stack_ahead f marks i zero l none = let e : i ≡ 0 = omega arith in rw e refl
stack_ahead f marks i (suc r) l none =
    ⊎_elim (λ (e : i ≡ suc r). rw e refl)
    (λ (e : i ≢ suc r).
    stack_skipped f marks r (none r (omega arith) (omega arith))
    ∙ stack_ahead f marks i r (omega arith) (λ h u v. none h u (omega arith)))
    (equal? i (suc r))

module _ (marks : List ℕ) (i k : ℕ) (low : i ≤ k) where
  module _ (rest before : ℕ) (rest_is : (p : ℕ) → Has rest p ↔ (Has (get_or marks (i / 64) 0) p × (Has before p → ⊥)))
      (before_is : (p : ℕ) → Has before p ↔ (p < i % 64)) where
    -- a mark from i on in the same word is one of the rest
    in_rest : (h : ℕ) → i ≤ h → h / 64 ≡ i / 64 → Kept marks h → Has rest (h % 64)
    in_rest h u e m = (rest_is (h % 64)).1 (rw e at m, λ b. let c = (before_is (h % 64)).0 b in omega arith)

    pub ahead-word : rest ≡ 0 → (r : ℕ) → r ≡ min (i / 64 * 64 + 64) k → GoesAhead marks i k r
    ahead-word z r is =
        (omega arith, omega arith, λ h u v m. has_none (h % 64) (rw z at (in_rest h u (omega arith) m)))

    pub ahead_mark : (v : ℕ) → v < 64 → Has rest v → ((p : ℕ) → Has rest p → v ≤ p) → (r : ℕ) → r ≡ min (i / 64 * 64 + v) k
        → GoesAhead marks i k r
    ahead_mark v b has least r is =
        let behind : (v < i % 64 → ⊥) = λ c. ((rest_is v).0 has).1 ((before_is v).1 c) in (
          omega arith,
          omega arith,
          λ h u w m. let c = least (h % 64) (in_rest h u (omega arith) m) in omega arith,
        )

pub stack_few : (f : ℕ → ℕ × ℕ × ℕ) (marks : List ℕ) (j : ℕ) → length (stack_of f marks j) ≤ j
unfolding stack_of
stack_few f marks zero = le_refl 0
stack_few f marks (suc j) =
    ⊎_elim (λ k. rw (stack_kept f marks j k) (omega (arith, stack_few f marks j)))
    (λ k. rw (stack_skipped f marks j k) (omega (arith, stack_few f marks j))) (kept? marks j)

pub packed_few : (named : Bool) (f : ℕ → ℕ × ℕ × ℕ) (marks : List ℕ) (j : ℕ) (B : List ℕ) (n : ℕ) (t : List ℕ)
    → Packed named B (laid (stack_of f marks j) []) n t → n ≤ j
packed_few named f marks j B n t p =
    omega (arith, p.counted, laid-length (stack_of f marks j) [], stack_few f marks j)
