-- Laws of filling vacancies with stand-ins.
--
--     placed-count         m racks leave n - m positions vacant
--     fill_next            one vacancy more, the lowest, is filled
--     Filling, filling_begin, filling_some, filling_step, filling_next, filling_all, filling_end    the state of `fill`: r racks stand,
-- with
--                          stand-ins
-- Assumes nothing.
use Prim.Native.Nat.{ℕ, zero, suc, ◌+◌, ◌-◌, ◌^◌, ◌≤◌, ◌<◌}
use mathlib.Core.Path.{◌≡◌, refl, sym, ap, subst, ◌∙◌}
use mathlib.Core.List.{List, [], ◌∷◌}
use mathlib.Core.Logic.{◌↔◌, ◌≢◌, ◌⊎◌, inl, inr, ⊎_elim, by_cases}
use native.Mathlib.Decide.{ℕ_discrete}
use native.Mathlib.Omega.{arith}
use lib.Bits.{bit_or}
use lib.Count.{ones}
use lib.ListN.{length, set, length-set}
use lib.Seq.{get_or-set_same, get_or-set_other}
use Rattle.sets.specs.Sets.{Has}
use Rattle.sets.proofs.SetLaws.{has_or, has_only, has_none}
use Rattle.sets.proofs.CountLaws.{ones_least, ones_most, ones_push, ones_pair, ones_third, ones_subset}
use Rattle.graph.specs.Rows.{row}
use Rattle.moving.specs.Table.{Table}
use Rattle.solving.specs.Placed.{Placed, Filled, fill_from, with_stand_ins}

-- The positions that are vacant or hold a rack above r, as a set.
abbrev Above : ℕ → (ℕ → ℕ) → ℕ → ℕ → Type 0
Above n h r v = (p : ℕ) → Has v p ↔ ((p < n) × ((h p ≡ 0) ⊎ (r < h p)))

module _ {n m : ℕ} {h : ℕ → ℕ} (placed : Placed n m h) where
  -- one rack less: its position comes to the set
  above_down : (r v : ℕ) → suc r ≤ m → Above n h (suc r) v → (w : ℕ) × Above n h r w × (ones w ≡ ones v + 1)
  above_down r v le s =
      let x = placed.every (suc r) (omega arith) le in
      let at = x.0 in
      let held : h at ≢ 0 = λ e. clash (sym x.1 ∙ e) in
      let w = bit_or v (2 ^ at) in
      let joined : (p : ℕ) → Has w p ↔ (Has v p ⊎ (p ≡ at)) = λ p.
      let o = has_or v (2 ^ at) p in
      let k = has_only at p in
      (λ y. ⊎_elim (λ z. inl z) (λ z. inr (k.0 z)) (o.0 y), λ y. o.1 (⊎_elim (λ z. inl z) (λ z. inr (k.1 z)) y)) in (
        w,
        λ p. (
          λ y. ⊎_elim
              (λ z. let q = (s p).0 z in (q.0, ⊎_elim (λ e. inl e) (λ l. inr (omega arith)) q.1))
              (λ e. (subst (λ (i : ℕ). i < n) (sym e) (placed.inside at held), inr (let a = ap h e in let b = x.1 in omega arith)))
              ((joined p).0 y),
          λ y. (joined p).1 (⊎_elim
              (λ e. inl ((s p).1 (y.0, inl e)))
              (λ l. by_cases (ℕ_discrete (h p) (suc r))
              (λ e. inr (placed.one p at (λ z. clash (sym e ∙ z)) (e ∙ sym x.1)))
              (λ e. inl ((s p).1 (y.0, inr (omega arith)))))
              y.1),
        ),
        ones_push at v w joined (λ y. let q = (s at).0 y in ⊎_elim (λ e. held e) (λ l. above x.1 l) q.1),
      )
    where
      clash : suc r ≡ 0 → ⊥
      clash e = omega arith

      above : {i : ℕ} → i ≡ suc r → suc r < i → ⊥
      above e l = omega arith

  count_down : (r v : ℕ) → r ≤ m → Above n h r v → ones v + r ≡ n
  count_down zero v le s =
      let low = ones_least n v (λ p l. (s p).1 (l, by_cases (ℕ_discrete (h p) 0) (λ e. inl e) (λ e. inr (omega arith)))) in
      let high = ones_most n v (λ p y. ((s p).0 y).0) in
      omega arith
  count_down (suc r) v le s =
      let d = above_down r v le s in
      let c = count_down r d.0 (omega arith) d.1 in
      let e = d.2 in
      omega arith

  pub placed-count : (v : ℕ) → ((p : ℕ) → Has v p ↔ ((p < n) × (h p ≡ 0))) → ones v + m ≡ n
  placed-count v vacant =
      count_down m v (omega arith) (λ p. (
        λ y. let q = (vacant p).0 y in (q.0, inl q.1),
        λ y. (vacant p).1 (y.0, ⊎_elim (λ e. e) (λ l. absurd (none (placed.most p) l)) y.1),
      ))
    where
      none : {i : ℕ} → i ≤ m → m < i → ⊥
      none a b = omega arith

some : {x : ℕ} → suc x ≡ 0 → ⊥
some e = omega arith

none_below : {q : ℕ} → q < 0 → ⊥
none_below l = omega arith

fill_none : (h : List ℕ) (r : ℕ) → fill_from r 0 h ≡ h
unfolding fill_from
fill_none h r = refl

pub fill_next : (h : List ℕ) (r c p : ℕ) → p < length (fill_from r c h) → row (fill_from r c h) p ≡ 0
    → ((q : ℕ) → q < p → row (fill_from r c h) q ≢ 0)
    → set (fill_from r c h) p (suc (r + c)) ≡ fill_from r (suc c) h
unfolding fill_from
fill_next [] r zero p in_row_lem vacant lowest = absurd (none_below in_row_lem)
fill_next [] r (suc c) p in_row_lem vacant lowest = absurd (none_below in_row_lem)
fill_next (zero ∷ h) r zero zero in_row_lem vacant lowest = let e : suc (r + 0) ≡ suc r = omega arith in ap (λ (x : ℕ). x ∷ h) e
fill_next (zero ∷ h) r zero (suc p) in_row_lem vacant lowest = absurd (lowest 0 (omega arith) refl)
fill_next (zero ∷ h) r (suc c) zero in_row_lem vacant lowest = absurd (some vacant)
fill_next (zero ∷ h) r (suc c) (suc p) in_row_lem vacant lowest =
    let e : suc (r + suc c) ≡ suc (suc r + c) = omega arith in
    ap (λ (x : ℕ). suc r ∷ set (fill_from (suc r) c h) p x) e
    ∙ ap (λ (l : List ℕ). suc r ∷ l) (fill_next h (suc r) c p (omega arith) vacant (λ q l. lowest (suc q) (omega arith)))
fill_next (suc y ∷ h) r zero zero in_row_lem vacant lowest = absurd (some vacant)
fill_next (suc y ∷ h) r zero (suc p) in_row_lem vacant lowest =
    ap (λ (l : List ℕ). suc y ∷ l) (fill_next h r zero p (omega arith) vacant (λ q l. lowest (suc q) (omega arith)))
fill_next (suc y ∷ h) r (suc c) zero in_row_lem vacant lowest = absurd (some vacant)
fill_next (suc y ∷ h) r (suc c) (suc p) in_row_lem vacant lowest =
    ap (λ (l : List ℕ). suc y ∷ l) (fill_next h r (suc c) p (omega arith) vacant (λ q l. lowest (suc q) (omega arith)))

pub record Filling (n m : ℕ) (h k : List ℕ) (r v : ℕ) : Type 0 where
  pub long : length k ≡ 64
  pub from : m ≤ r
  pub room : r + 2 ≤ n
  pub placed : Placed n r (row k)
  pub vacant : (p : ℕ) → Has v p ↔ ((p < n) × (row k p ≡ 0))
  pub count : ones v + r ≡ n
  pub filled : Filled m (row h) (row k)
  pub is : k ≡ fill_from m (r - m) h

module _ {n m : ℕ} {h : List ℕ} where
  pub filling_begin : (v : ℕ) → length h ≡ 64 → m + 2 ≤ n → Placed n m (row h) → ((p : ℕ) → Has v p ↔ ((p < n) × (row h p ≡ 0)))
      → Filling n m h h (m + 1 - 1) v
  filling_begin v long room placed vacant =
      let same : m ≡ m + 1 - 1 = omega arith in
      subst (λ (i : ℕ). Filling n m h h i v) same
      (record {
        long = long;
        from = omega arith;
        room = room;
        placed = placed;
        vacant = vacant;
        count = placed-count placed v vacant;
        filled = record { kept = λ p held. refl; added = λ p e. inl e };
        is = (let none : 0 ≡ m - m = omega arith in sym (fill_none h m) ∙ ap (λ (c : ℕ). fill_from m c h) none);
      })

  pub filling_some : {k : List ℕ} {r v : ℕ} → Filling n m h k r v → 0 < v
  filling_some {v = v} f =
      by_cases (ℕ_discrete v 0)
      (λ e.
      let c = f.count in
      let z = ones_subset v 0 (λ p y. absurd (has_none p (subst (λ (i : ℕ). Has i p) e y))) in
      let o = ones_most 0 0 (λ p y. absurd (has_none p y)) in
      let r = f.room in
      omega arith)
      (λ e. omega arith)

  filling_step : (k : List ℕ) (r v w p : ℕ) → n ≤ 64 → r + 2 < n → Has v p → ((q : ℕ) → Has v q → p ≤ q)
      → ((q : ℕ) → Has w q ↔ (Has v q × (q ≢ p)))
      → Filling n m h k r v → Filling n m h (set k p (r + 1)) (r + 1) w
  filling_step k r v w p small more on lowest less f =
      record {
        long = length-set k p (r + 1) ∙ f.long;
        from = (let x = f.from in omega arith);
        room = omega arith;
        placed = record {
          one = λ a b held e. one a b held e;
          inside =
              λ a held. by_cases (ℕ_discrete a p) (λ e. subst (λ (i : ℕ). i < n) (sym e) at_p.0)
              (λ e. f.placed.inside a (λ z. held (other a e ∙ z)));
          most =
              λ a. by_cases (ℕ_discrete a p) (λ e. let x = here a e in omega arith)
              (λ e. let x = other a e in let y = f.placed.most a in omega arith);
          every = λ a some le. by_cases (ℕ_discrete a (r + 1)) (λ e. (p, here p refl ∙ sym e)) (λ e. old a some (omega arith));
        };
        vacant = λ q. (
          λ y.
              let z = (less q).0 y in
              let s = (f.vacant q).0 z.0 in
              (s.0, other q z.1 ∙ s.1),
          λ y. by_cases (ℕ_discrete q p)
              (λ e. absurd (full q e y.1))
              (λ e. (less q).1 ((f.vacant q).1 (y.0, sym (other q e) ∙ y.1), e)),
        );
        count = (let c = f.count in let e = ones_push p w v joined (λ y. ((less p).0 y).1 refl) in omega arith);
        filled = record {
          kept = λ a held.
              let same = f.filled.kept a held in
              other a (λ e. held (sym same ∙ ap (row k) e ∙ at_p.1)) ∙ same;
          added = λ a z.
              by_cases (ℕ_discrete a p)
              (λ e. inr (let x = here a e in let y = f.from in omega arith))
              (λ e. ⊎_elim (λ x. inl (other a e ∙ x)) (λ x. inr (subst (λ (i : ℕ). m < i) (sym (other a e)) x)) (f.filled.added a z));
        };
        is =
            ap (λ (l : List ℕ). set l p (r + 1)) f.is
            ∙ ap (set (fill_from m (r - m) h) p) (let x = f.from in let e : r + 1 ≡ suc (m + (r - m)) = omega arith in e)
            ∙ fill_next h m (r - m) p in_row_lem (sym (ap (λ (l : List ℕ). row l p) f.is) ∙ at_p.1) below
            ∙ ap (λ (c : ℕ). fill_from m c h) (let x = f.from in let e : suc (r - m) ≡ r + 1 - m = omega arith in e);
      }
    where
      at_p : (p < n) × (row k p ≡ 0)
      at_p = (f.vacant p).0 on

      in_row_lem : p < length (fill_from m (r - m) h)
      in_row_lem = let l = f.long in let e = ap length f.is in let x = at_p.0 in omega arith

      -- every position below the lowest vacancy holds a rack
      below : (q : ℕ) → q < p → row (fill_from m (r - m) h) q ≢ 0
      below q l z =
          let x = at_p.0 in
          over l (lowest q ((f.vacant q).1 (omega arith, ap (λ (i : List ℕ). row i q) f.is ∙ z)))
        where
          over : q < p → p ≤ q → ⊥
          over a b = omega arith

      here : (a : ℕ) → a ≡ p → row (set k p (r + 1)) a ≡ r + 1
      here a e = ap (row (set k p (r + 1))) e ∙ get_or-set_same k p (r + 1) 0 (let n = f.long in let l = at_p.0 in omega arith)

      other : (a : ℕ) → a ≢ p → row (set k p (r + 1)) a ≡ row k a
      other a e = get_or-set_other k p a (r + 1) 0 e

      full : (q : ℕ) → q ≡ p → row (set k p (r + 1)) q ≡ 0 → ⊥
      full q e z = let x = here q e in omega arith

      clash : (a b : ℕ) → a ≡ p → b ≢ p → row (set k p (r + 1)) a ≡ row (set k p (r + 1)) b → ⊥
      clash a b ea eb e = let x = here a ea in let y = other b eb in let z = f.placed.most b in omega arith

      one : (a b : ℕ) → row (set k p (r + 1)) a ≢ 0 → row (set k p (r + 1)) a ≡ row (set k p (r + 1)) b → a ≡ b
      one a b held e =
          by_cases (ℕ_discrete a p)
          (λ ea. by_cases (ℕ_discrete b p) (λ eb. ea ∙ sym eb) (λ eb. absurd (clash a b ea eb e)))
          (λ ea. by_cases (ℕ_discrete b p)
          (λ eb. absurd (clash b a eb ea (sym e)))
          (λ eb. f.placed.one a b (λ z. held (other a ea ∙ z)) (sym (other a ea) ∙ e ∙ other b eb)))

      old : (a : ℕ) → 0 < a → a ≤ r → (q : ℕ) × (row (set k p (r + 1)) q ≡ a)
      old a some le =
          let x = f.placed.every a some le in
          (x.0, other x.0 (λ e. gone a some (sym x.1 ∙ ap (row k) e ∙ at_p.1)) ∙ x.1)
        where
          gone : (a : ℕ) → 0 < a → a ≡ 0 → ⊥
          gone a s z = omega arith

      joined : (q : ℕ) → Has v q ↔ (Has w q ⊎ (q ≡ p))
      joined q = (
        λ y. by_cases (ℕ_discrete q p) (λ e. inr e) (λ e. inl ((less q).1 (y, e))),
        λ y. ⊎_elim (λ z. ((less q).0 z).0) (λ e. subst (Has v) (sym e) on) y,
      )

  -- r is the next stand-in
  pub filling_next : (k : List ℕ) (r v w p : ℕ) → n ≤ 64 → 0 < r → r < n - 1 → Has v p → ((q : ℕ) → Has v q → p ≤ q)
      → ((q : ℕ) → Has w q ↔ (Has v q × (q ≢ p)))
      → Filling n m h k (r - 1) v → Filling n m h (set k p r) (r + 1 - 1) w
  filling_next k r v w p small some more on lowest less f =
      let up : r - 1 + 1 ≡ r = omega arith in
      let same : r ≡ r + 1 - 1 = omega arith in
      subst (λ (i : ℕ). Filling n m h (set k p r) i w) same
      (subst (λ (i : ℕ). Filling n m h (set k p i) i w) up (filling_step k (r - 1) v w p small (omega arith) on lowest less f))

  pub filling_all : (k : List ℕ) (r v : ℕ) → n ≤ r + 2 → Filling n m h k r v → k ≡ with_stand_ins n m h
  filling_all k r v done f =
      let room = f.room in
      let e : r - m ≡ n - 2 - m = omega arith in
      f.is ∙ ap (λ (c : ℕ). fill_from m c h) e

  pub filling_end : (k : List ℕ) (r v : ℕ) → n ≤ r + 2 → Filling n m h k r v → Table n (row k)
  filling_end k r v done f =
      let room = f.room in
      let count = f.count in
      let pair = ones_pair v (omega arith) in
      let up = pair.up in
      let a = (f.vacant pair.one).0 pair.has_one in
      let b = (f.vacant pair.two).0 pair.has_two in
      record {
        one = f.placed.one;
        inside = f.placed.inside;
        most = λ p. let x = f.placed.most p in omega arith;
        every = λ x some few. f.placed.every x some (omega arith);
        first = pair.one;
        second = pair.two;
        differ = omega arith;
        first_inside = a.0;
        second_inside = b.0;
        first_vacant = a.1;
        second_vacant = b.1;
        only =
            λ p l z. ones_third v pair.one pair.two p (omega arith) (omega arith) pair.has_one pair.has_two
            ((f.vacant p).1 (l, z));
      }
