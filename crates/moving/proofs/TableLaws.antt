-- Laws of tables with two vacancies.
--
--     table_same       a table that agrees with one is one
--     table-move       a move along an edge of the floor makes one of one
--     table_went       so do moves
--     table_other      beside a vacancy there is another
--     table_rack       a rack stands at a position of the floor
-- Assumes nothing.
use Prim.Native.Nat.{ℕ, ◌+◌, ◌≤◌, ◌<◌}
use mathlib.Core.Path.{◌≡◌, refl, sym, ap, subst, ◌∙◌}
use mathlib.Core.List.{List}
use mathlib.Core.Logic.{◌≢◌, ◌⊎◌, inl, inr, ⊎_elim, by_cases}
use native.Mathlib.Decide.{ℕ_discrete}
use native.Mathlib.Omega.{arith}
use Rattle.moving.specs.Went.{Same, Move, Went}
use Rattle.moving.specs.Went.Went.{stay, real, stand_in}
use Rattle.moving.specs.Table.{Table, Stands}

pub table_same : {n : ℕ} {h k : ℕ → ℕ} → Same h k → Table n h → Table n k
table_same {n} {h} {k} s t =
    record {
      one = λ p q held e. t.one p q (λ z. held (sym (s p) ∙ z)) (s p ∙ e ∙ sym (s q));
      inside = λ p held. t.inside p (λ z. held (sym (s p) ∙ z));
      most = λ p. subst (λ (r : ℕ). r + 2 ≤ n) (s p) (t.most p);
      every = λ r some few. let x = t.every r some few in (x.0, sym (s x.0) ∙ x.1);
      first = t.first;
      second = t.second;
      differ = t.differ;
      first_inside = t.first_inside;
      second_inside = t.second_inside;
      first_vacant = sym (s t.first) ∙ t.first_vacant;
      second_vacant = sym (s t.second) ∙ t.second_vacant;
      only = λ p l z. t.only p l (s p ∙ z);
    }

-- one of two numbers, by a decision
abbrev pick : {A : Type 0} → Dec A → ℕ → ℕ → ℕ
pick (yes e) x y = x
pick (no f) x y = y

module _ {n : ℕ} {E : ℕ → ℕ → Type 0} (inside : (a b : ℕ) → E a b → (a < n) × (b < n)) where
  module _ {h k : ℕ → ℕ} {a b : ℕ} (m : Move E h a b k) (t : Table n h) where
    below_a : a < n
    below_a = (inside a b m.edge).0

    below_b : b < n
    below_b = (inside a b m.edge).1

    -- where the rack at p stands before the move
    before : (p : ℕ) → k p ≢ 0 → (q : ℕ) × (k p ≡ h q) × ((q ≡ p) ⊎ ((q ≡ a) × (p ≡ b)))
    before p held =
        by_cases (ℕ_discrete p b)
        (λ e. (a, ap k e ∙ m.entered, inr (refl, e)))
        (λ e. by_cases (ℕ_discrete p a)
        (λ f. absurd (held (ap k f ∙ m.left)))
        (λ f. (p, m.others p f e, inl refl)))

    -- the vacancy b is gone, a has come
    vacancy : ℕ → ℕ
    vacancy z = pick (ℕ_discrete z b) a z

    vacancy_is : (z : ℕ) → h z ≡ 0 → ((vacancy z ≡ a) × (z ≡ b)) ⊎ ((vacancy z ≡ z) × (z ≢ b))
    unfolding vacancy
    vacancy_is z vacant = by (ℕ_discrete z b)
      where
        by : (d : Dec (z ≡ b)) → ((pick d a z ≡ a) × (z ≡ b)) ⊎ ((pick d a z ≡ z) × (z ≢ b))
        by (yes e) = inl (refl, e)
        by (no f) = inr (refl, f)

    stays_vacant : (z : ℕ) → h z ≡ 0 → z ≢ b → k z ≡ 0
    stays_vacant z vacant other = m.others z (λ e. m.held (ap h (sym e) ∙ vacant)) other ∙ vacant

    vacancy-vacant : (z : ℕ) → h z ≡ 0 → k (vacancy z) ≡ 0
    vacancy-vacant z vacant =
        ⊎_elim (λ x. ap k x.0 ∙ m.left) (λ x. ap k x.0 ∙ stays_vacant z vacant x.1) (vacancy_is z vacant)

    vacancy_inside : (z : ℕ) → h z ≡ 0 → z < n → vacancy z < n
    vacancy_inside z vacant l =
        ⊎_elim (λ x. subst (λ (y : ℕ). y < n) (sym x.0) below_a) (λ x. subst (λ (y : ℕ). y < n) (sym x.0) l) (vacancy_is z vacant)

    pub table-move : Table n k
    table-move =
        record {
          one = λ p q held e.
              let x = before p held in
              let y = before q (λ z. held (e ∙ z)) in
              let same : x.0 ≡ y.0 = t.one x.0 y.0 (λ z. held (x.1 ∙ z)) (sym x.1 ∙ e ∙ y.1) in
              unmoved p q x.0 y.0 same x.2 y.2 held (λ z. held (e ∙ z));
          inside = λ p held.
              let x = before p held in
              ⊎_elim (λ y. t.inside p (λ z. held (x.1 ∙ ap h (y) ∙ z))) (λ y. subst (λ (q : ℕ). q < n) (sym y.1) below_b) x.2;
          most = λ p. small p;
          every = λ r some few. moved r some (t.every r some few);
          first = vacancy t.first;
          second = vacancy t.second;
          differ = differ;
          first_inside = vacancy_inside t.first t.first_vacant t.first_inside;
          second_inside = vacancy_inside t.second t.second_vacant t.second_inside;
          first_vacant = vacancy-vacant t.first t.first_vacant;
          second_vacant = vacancy-vacant t.second t.second_vacant;
          only = λ p l z. only p l z;
        }
      where
        unmoved : (p q x y : ℕ) → x ≡ y → (x ≡ p) ⊎ ((x ≡ a) × (p ≡ b)) → (y ≡ q) ⊎ ((y ≡ a) × (q ≡ b)) → k p ≢ 0 → k q ≢ 0 → p ≡ q
        unmoved p q x y same u v hp hq =
            ⊎_elim
            (λ e. ⊎_elim
            (λ f. sym e ∙ same ∙ f)
            (λ f. absurd (hp (ap k (sym e ∙ same ∙ f.0) ∙ m.left))) v)
            (λ e. ⊎_elim
            (λ f. absurd (hq (ap k (sym f ∙ sym same ∙ e.0) ∙ m.left)))
            (λ f. e.1 ∙ sym f.1) v) u

        small : (p : ℕ) → k p + 2 ≤ n
        small p =
            by_cases (ℕ_discrete (k p) 0)
            (λ e. let x = t.most a in omega arith)
            (λ e. let x = before p e in let y = t.most x.0 in let w = x.1 in omega arith)

        moved : (r : ℕ) → 0 < r → (p : ℕ) × (h p ≡ r) → (p : ℕ) × (k p ≡ r)
        moved r some x =
            by_cases (ℕ_discrete x.0 a)
            (λ e. (b, m.entered ∙ ap h (sym e) ∙ x.1))
            (λ e. (x.0, m.others x.0 e (λ f. clash r some (sym x.1 ∙ ap h f ∙ m.vacant)) ∙ x.1))
          where
            clash : (r : ℕ) → 0 < r → r ≡ 0 → ⊥
            clash r s z = omega arith

        differ : vacancy t.first ≢ vacancy t.second
        differ e =
            ⊎_elim
            (λ x. ⊎_elim
            (λ y. t.differ (x.1 ∙ sym y.1))
            (λ y. m.held (ap h (sym x.0 ∙ e ∙ y.0) ∙ t.second_vacant)) (vacancy_is t.second t.second_vacant))
            (λ x. ⊎_elim
            (λ y. m.held (ap h (sym y.0 ∙ sym e ∙ x.0) ∙ t.first_vacant))
            (λ y. t.differ (sym x.0 ∙ e ∙ y.0)) (vacancy_is t.second t.second_vacant))
            (vacancy_is t.first t.first_vacant)

        -- b is one of the two, and a stands in its place
        here : (p : ℕ) → p ≡ a → (b ≡ t.first) ⊎ (b ≡ t.second) → (p ≡ vacancy t.first) ⊎ (p ≡ vacancy t.second)
        here p e w =
            ⊎_elim
            (λ f. inl (e ∙ sym (gone t.first t.first_vacant (sym f))))
            (λ f. inr (e ∙ sym (gone t.second t.second_vacant (sym f))))
            w
          where
            gone : (z : ℕ) → h z ≡ 0 → z ≡ b → vacancy z ≡ a
            gone z vacant f = ⊎_elim (λ x. x.0) (λ x. absurd (x.1 f)) (vacancy_is z vacant)

        there : (p z : ℕ) → h z ≡ 0 → p ≡ z → p ≢ b → p ≡ vacancy z
        there p z vacant e other = ⊎_elim (λ x. absurd (other (e ∙ x.1))) (λ x. e ∙ sym x.0) (vacancy_is z vacant)

        only : (p : ℕ) → p < n → k p ≡ 0 → (p ≡ vacancy t.first) ⊎ (p ≡ vacancy t.second)
        only p l z =
            by_cases (ℕ_discrete p a)
            (λ e. here p e (t.only b below_b m.vacant))
            (λ e. by_cases (ℕ_discrete p b)
            (λ f. absurd (m.held (sym m.entered ∙ ap k (sym f) ∙ z)))
            (λ f. ⊎_elim
            (λ x. inl (there p t.first t.first_vacant x f))
            (λ x. inr (there p t.second t.second_vacant x f))
            (t.only p l (sym (m.others p e f) ∙ z))))

  pub table_went : {m : ℕ} {h k : ℕ → ℕ} {ms : List (ℕ × ℕ)} {ws : List (ℕ × ℕ × ℕ)} → Went E m h ms ws k → Table n h → Table n k
  table_went (stay s) t = table_same s t
  table_went (real x e l w) t = table_went w (table-move x t)
  table_went (stand_in x l w) t = table_went w (table-move x t)

pub table_other : {n : ℕ} {h : ℕ → ℕ} → Table n h → (z : ℕ) → (x : ℕ) × (x < n) × (x ≢ z) × (h x ≡ 0)
table_other t z =
    by_cases (ℕ_discrete t.first z)
    (λ e. (t.second, t.second_inside, λ f. t.differ (e ∙ sym f), t.second_vacant))
    (λ e. (t.first, t.first_inside, e, t.first_vacant))

pub table_rack : {n : ℕ} {h : ℕ → ℕ} → Table n h → (r : ℕ) → 0 < r → r + 2 ≤ n → Stands n r h
table_rack {n} {h} t r some few =
    let x = t.every r some few in
    (x.0, record { inside = t.inside x.0 (λ z. clash (sym x.1 ∙ z)); there = x.1 })
  where
    clash : r ≡ 0 → ⊥
    clash e = omega arith
