-- Laws of rows copied into a buffer.
--
--     up_to_used, up_to-rest      a byte of a row that is used; one behind those
--     copied_row                  a row is copied by two writes: what is used of it, and zeros behind
--     laid_out                    four rows, one after another
-- Assumes nothing.
use Prim.Native.Nat.{ℕ, ◌+◌, ◌-◌, ◌≤◌, ◌<◌, min}
use mathlib.Core.Bool.{Bool, cond}
use mathlib.Core.Path.{◌≡◌, refl, sym, ap, ap₂, subst, ◌∙◌}
use mathlib.Core.List.{List, ◌++◌}
use native.Mathlib.Decide.{dec_lt}
use native.Mathlib.Omega.{arith}
use borrow.Author.Tests.{lt-ltb, le-ltb}
use borrow.Rule.Slice.PartMut.{put_mid}
use lib.ListN.{length, get_or, take, drop, replicate, length-append, length-drop, length-replicate, get_or-append}
use lib.Seq.{paste, length-take-le, get_or-take, get_or-drop, get_or-append-add}
use Rattle.std.proofs.Math.Nat.{min-le_left, min-le_right, sub-add-min_cancel}
use Rattle.std.proofs.lemmas.List.{get_or-replicate}
use Rattle.std.proofs.lemmas.List.Edits.{paste_all, paste-paste, length-paste}
use Rattle.std.proofs.lemmas.Slice.{put_mid-paste}
use Rattle.graph.specs.Rows.{row}
use Rattle.inspection.specs.Inspection.{up_to, Copied, LaidOut}

pub up_to_used : (row : ℕ → ℕ) (k i : ℕ) → i < k → row i ≡ up_to k row i
up_to_used row k i l = sym (ap (λ (t : Bool). cond t (row i) 0) (lt-ltb i k l))

pub up_to-rest : (row : ℕ → ℕ) (k i : ℕ) → k ≤ i → 0 ≡ up_to k row i
up_to-rest row k i l = sym (ap (λ (t : Bool). cond t (row i) 0) (le-ltb i k l))

-- the row r of 64 bytes, put in from `at` on
module _ (at : ℕ) (old r : List ℕ) (long : length r ≡ 64) (room : at + 64 ≤ length old) where
  abbrev rest : List ℕ
  rest = r ++ drop (at + 64) old

  front : length (take at old) ≡ at
  front = length-take-le at old (omega arith)

  put-in : (i : ℕ) → get_or (take at old ++ rest) (at + i) 0 ≡ get_or rest i 0
  put-in i = ap (λ (j : ℕ). get_or (take at old ++ rest) (j + i) 0) (sym front) ∙ get_or-append-add (take at old) rest i 0

  put-behind : (i : ℕ) → get_or rest (64 + i) 0 ≡ get_or old (at + 64 + i) 0
  put-behind i =
      ap (λ (j : ℕ). get_or rest (j + i) 0) (sym long)
      ∙ get_or-append-add r (drop (at + 64) old) i 0
      ∙ get_or-drop (at + 64) old i 0

  copied_in : (bytes : ℕ → ℕ) → ((i : ℕ) → i < 64 → get_or r i 0 ≡ bytes i) → Copied bytes at 64 old (take at old ++ rest)
  copied_in bytes is = record {
    inside = λ i l. put-in i ∙ get_or-append r (drop (at + 64) old) 0 i (omega (arith, long)) ∙ is i l;
    before = λ i l. get_or-append (take at old) rest 0 i (omega (arith, front)) ∙ get_or-take at old i 0 l;
    after = λ i l.
        let j = i - (at + 64) in
        let e : i ≡ at + (64 + j) = omega arith in
        let b : at + 64 + j ≡ i = omega arith in
        ap (λ (k : ℕ). get_or (take at old ++ rest) k 0) e ∙ put-in (64 + j) ∙ put-behind j ∙ ap (λ (k : ℕ). get_or old k 0) b;
    same_length = omega (
      arith,
      length-append (take at old) rest,
      length-append r (drop (at + 64) old),
      front,
      long,
      length-drop (at + 64) old,
    );
  }

-- the first u bytes of the row b, and zeros behind them
module _ (b : List ℕ) (count u : ℕ) (least : u ≡ min count 64) where
  used : (u ≤ count) × (u ≤ 64) × ((i : ℕ) → u ≤ i → i < 64 → count ≤ i)
  used =
      let l = min-le_left count 64 in
      let r = min-le_right count 64 in
      let m = sub-add-min_cancel count 64 in
      (omega arith, omega arith, λ i h k. omega arith)

  row_used : length (take u b) ≡ u → (i : ℕ) → i < 64 → get_or (take u b ++ replicate (64 - u) 0) i 0 ≡ up_to count (row b) i
  row_used there i l =
      let fits = used in
      elim (dec_lt i u) [
        | yes h ↦ get_or-append (take u b) (replicate (64 - u) 0) 0 i (omega arith) ∙ get_or-take u b i 0 h
            ∙ up_to_used (row b) count i (omega arith)
        | no n ↦
            let h : u ≤ i = omega arith in
            let e : i ≡ length (take u b) + (i - u) = omega arith in
            ap (λ (k : ℕ). get_or (take u b ++ replicate (64 - u) 0) k 0) e
            ∙ get_or-append-add (take u b) (replicate (64 - u) 0) (i - u) 0
            ∙ get_or-replicate (64 - u) (i - u) 0 0 (omega arith)
            ∙ up_to-rest (row b) count i (fits.2 i h l)
      ]

  -- as two writes leave a buffer
  module _ (at : ℕ) (old : List ℕ) (room : at + 64 ≤ length old) where
    pub copied_row : (c z : List ℕ) → c ≡ take u b → length c ≡ length (take (at + u - at) (drop at old))
        → z ≡ replicate (length (take (at + 64 - (at + u)) (drop (at + u) (put_mid at (at + u - at) old c)))) 0
        → Copied (up_to count (row b)) at 64 old
        (put_mid (at + u) (at + 64 - (at + u)) (put_mid at (at + u - at) old c) z)
    copied_row c z is part zeros =
        let fits = used in
        let n = at + 64 - (at + u) in
        let same : u ≡ at + u - at = omega arith in
        let long_c : u ≡ length c = omega (arith, part, length-take-le (at + u - at) (drop at old) (omega (arith, length-drop at old))) in
        let first : put_mid at (at + u - at) old c ≡ paste old at c u = put_mid-paste at (at + u - at) old c c u refl same long_c in
        let kept = ap length first ∙ length-paste old at c u (omega arith) (omega arith) in
        let left : length (take n (drop (at + u) (put_mid at (at + u - at) old c))) ≡ n =
        length-take-le n _ (omega (arith, length-drop (at + u) (put_mid at (at + u - at) old c), kept)) in
        let few : n ≡ 64 - u = omega arith in
        let behind : z ≡ replicate (64 - u) 0 = zeros ∙ ap (λ (k : ℕ). replicate k 0) (left ∙ few) in
        let long_z : n ≡ length z = few ∙ sym (length-replicate (64 - u) 0) ∙ sym (ap length behind) in
        let all : u + n ≡ 64 = omega arith in
        let r = c ++ z in
        let long : length r ≡ 64 = omega (arith, length-append c z) in
        let whole : put_mid (at + u) n (put_mid at (at + u - at) old c) z ≡ take at old ++ (r ++ drop (at + 64) old) =
        put_mid-paste (at + u) n (put_mid at (at + u - at) old c) z z n refl refl long_z
        ∙ ap (λ (x : List ℕ). paste x (at + u) z n) first
        ∙ paste-paste old at c z u n long_c long_z (omega arith)
        ∙ ap (λ (k : ℕ). paste old at r k) all
        ∙ paste_all old at r 64 (sym long) in
        let bytes : r ≡ take u b ++ replicate (64 - u) 0 = ap₂ (λ (x y : List ℕ). x ++ y) is behind in
        subst (λ (x : List ℕ). Copied (up_to count (row b)) at 64 old x) (sym whole)
        (copied_in at old r long room (up_to count (row b))
        (λ i l. ap (λ (x : List ℕ). get_or x i 0) bytes ∙ row_used (ap length (sym is) ∙ sym long_c) i l))

pub laid_out : (order start left right : ℕ → ℕ) (b₀ b₁ b₂ b₃ b₄ : List ℕ)
    → Copied order 0 64 b₀ b₁ → Copied start 64 64 b₁ b₂ → Copied left 128 64 b₂ b₃ → Copied right 192 64 b₃ b₄
    → LaidOut order start left right b₀ b₄
laid_out order start left right b₀ b₁ b₂ b₃ b₄ o s l r = record {
  order_bytes =
      λ i h.
      let z : 0 + i ≡ i = omega arith in
      r.before i (omega arith) ∙ l.before i (omega arith) ∙ s.before i (omega arith) ∙ ap (λ (j : ℕ). get_or b₁ j 0) (sym z)
      ∙ o.inside i h;
  start_bytes = λ i h. r.before (64 + i) (omega arith) ∙ l.before (64 + i) (omega arith) ∙ s.inside i h;
  left_bytes = λ i h. r.before (128 + i) (omega arith) ∙ l.inside i h;
  right_bytes = λ i h. r.inside i h;
  kept = λ i h. r.after i (omega arith) ∙ l.after i (omega arith) ∙ s.after i (omega arith) ∙ o.after i (omega arith);
  same_length = r.same_length ∙ l.same_length ∙ s.same_length ∙ o.same_length;
}
