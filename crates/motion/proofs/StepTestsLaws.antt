-- Laws of what specs/StepTests.antt defines.
--
--     left m, entered m      the position that the move m leaves, and the one that it enters
--     or_left, or_right      a test joined by "or" passes if one of the two passes
--     some_iff               some t l: some element of l passes t
--     occupied_iff           occupied A p: p is one of the positions of A
--     vacant_iff             vacant A p: p is none of them
--     leaves_iff             leaves ms p: some move of ms leaves p
--     enters_iff             enters ms p: some move of ms enters p
--     every_iff              every t l: each element of l passes t
--     ascends_one, ascends_more   one move ascends; so do ascending moves with one more in front that leaves a lower position
--     ascends_iff            ascends ms: Ascends ms
--     entered_once_iff        entered_once ms: EnteredOnce ms
--     on_floor_iff            on_floor F m: OnFloor F m
--     left-differ            where positions left ascend, they are without repetition
--     Goes ms p              a move leaves p and takes a rack there along, or none leaves p and a rack there stays
--     goes_to_cases           one of the two holds
--     goes_to_stays           a rack at a position that no move leaves stays
--     goes_to_takes           where positions left ascend, each move takes the rack at the position left to the position entered
-- Assumes nothing.
use Prim.Native.Nat.{ℕ, ◌<◌}
use mathlib.Core.Path.{◌≡◌, refl, sym, ◌∙◌, ap, subst}
use mathlib.Core.Bool.{Bool, true, false, not, ◌||◌}
use mathlib.Core.Logic.{◌↔◌, ◌≢◌, ⊎_elim, dite}
use mathlib.Core.HLevel.{¬_prop}
use mathlib.Core.List.Memᴰ
use mathlib.Core.List.Pairwise
use mathlib.Core.List.{List, [], ◌∷◌, Memᴰ}
use native.Mathlib.Omega.{arith}
use native.Mathlib.Bridge.{le_prop}
use native.Mathlib.Decide.{ℕ_discrete}
use native.Mathlib.Nat.{lt_irrefl}
use lib.Dec.{T, ltb, eqb, ltb→lt, lt→ltb, eqb→eq, eqb_refl, T_not, not_T}
use mir.Facts.{and_yes, yes_and, or_yes}
use borrow.Author.Tests.{eq-eqb, ne_eqb}
use Rattle.order.specs.Floor.{Floor, some}
use Rattle.motion.specs.Arrangement.{Arrangement, occupied, vacant}
use Rattle.motion.specs.Move.{on_floor, goes_to}
use Rattle.motion.proofs.MoveLaws.{on_floor_parts}
use Rattle.motion.specs.Step.{every, ascends, leaves, enters, entered_once}
use Rattle.motion.proofs.ListLaws.{by_member, pairwise_more, pairwise_rel, keys_same, KeysDiffer}
use Rattle.motion.specs.StepTests.{Ascends, EnteredOnce, OnFloor}

abbrev pub left : ℕ × ℕ → ℕ
left m = m.0

abbrev pub entered : ℕ × ℕ → ℕ
entered m = m.1

pub or_left : (a b : Bool) → T a → T (a || b)
or_left true b t = tt
or_left false b t = absurd t

pub or_right : (a b : Bool) → T b → T (a || b)
or_right true b t = tt
or_right false b t = t

pub some_iff : {X : Type 0} (t : X → Bool) (l : List X) → T (some t l) ↔ ((x : X) × Memᴰ x l × T (t x))
unfolding some
some_iff t [] = (λ u. absurd u, λ w. Memᴰ.not-nil w.1)
some_iff {X} t (y ∷ l) = (
  λ u.
      ⊎_elim {C = (x : X) × Memᴰ x (y ∷ l) × T (t x)} (λ h. (y, Memᴰ.head refl, h))
      (λ o. let w = (some_iff t l).0 o in (w.0, Memᴰ.tail w.1, w.2)) (or_yes (t y) (some t l) u),
  λ w.
      by_member w.1 (λ e. or_left (t y) (some t l) (subst (λ (x : X). T (t x)) e w.2))
      (λ k. or_right (t y) (some t l) ((some_iff t l).1 (w.0, k, w.2))),
)

-- some element of the list has the key p: `occupied`, `leaves` and `enters` are this test, with three keys
key_iff : {X : Type 0} (key : X → ℕ) (l : List X) (p : ℕ) → T (some (λ x. eqb (key x) p) l) ↔ ((x : X) × Memᴰ x l × (key x ≡ p))
key_iff key l p =
    let s = some_iff (λ x. eqb (key x) p) l in (
      λ u. let w = s.0 u in (w.0, w.1, eqb→eq (key w.0) p w.2),
      λ w. s.1 (w.0, w.1, subst (λ (k : ℕ). T (eqb (key w.0) k)) w.2 (eqb_refl (key w.0))),
    )

pub occupied_iff : (A : Arrangement) (p : ℕ) → T (occupied A p) ↔ Memᴰ p A
unfolding occupied
occupied_iff A p = let f = key_iff (λ (q : ℕ). q) A p in (λ t. let w = f.0 t in Memᴰ.cast (sym w.2) w.1, λ k. f.1 (p, k, refl))

pub vacant_iff : (A : Arrangement) (p : ℕ) → T (vacant A p) ↔ (Memᴰ p A → ⊥)
unfolding vacant
vacant_iff A p = (λ t k. T_not (occupied A p) t ((occupied_iff A p).1 k), λ h. not_T (occupied A p) (λ t. h ((occupied_iff A p).0 t)))

pub leaves_iff : (ms : List (ℕ × ℕ)) (p : ℕ) → T (leaves ms p) ↔ ((m : ℕ × ℕ) × Memᴰ m ms × (m.0 ≡ p))
unfolding leaves
leaves_iff ms p = key_iff left ms p

pub enters_iff : (ms : List (ℕ × ℕ)) (p : ℕ) → T (enters ms p) ↔ ((m : ℕ × ℕ) × Memᴰ m ms × (m.1 ≡ p))
unfolding enters
enters_iff ms p = key_iff entered ms p

pub every_iff : {X : Type 0} (t : X → Bool) (l : List X) → T (every t l) ↔ ((x : X) → Memᴰ x l → T (t x))
unfolding every
every_iff t [] = (λ h x k. absurd (Memᴰ.not-nil k), λ h. tt)
every_iff {X} t (y ∷ l) = (
  λ h x k.
      let b = and_yes (t y) (every t l) h in
      by_member k (λ e. subst (λ (z : X). T (t z)) (sym e) b.0) (λ n. (every_iff t l).0 b.1 x n),
  λ h. yes_and (t y) (every t l) (h y (Memᴰ.head refl)) ((every_iff t l).1 (λ x k. h x (Memᴰ.tail k))),
)

pub ascends_one : {m : ℕ × ℕ} → Ascends (m ∷ [])
ascends_one = pairwise_more (λ x y. le_prop) (λ y k. absurd (Memᴰ.not-nil k)) Pairwise.nil

pub ascends_more : {m m' : ℕ × ℕ} {ms : List (ℕ × ℕ)} → m.0 < m'.0 → Ascends (m' ∷ ms) → Ascends (m ∷ m' ∷ ms)
ascends_more {m} {m'} h up =
    pairwise_more (λ x y. le_prop)
    (λ y k.
    by_member k (λ e. subst (λ (z : ℕ × ℕ). m.0 < z.0) (sym e) h) (λ n. let l : m'.0 < y.0 = pairwise_rel up n in omega arith))
    up

pub ascends_iff : (ms : List (ℕ × ℕ)) → T (ascends ms) ↔ Ascends ms
unfolding ascends
ascends_iff [] = (λ t. Pairwise.nil, λ p. tt)
ascends_iff (m ∷ []) = (λ t. ascends_one, λ p. tt)
ascends_iff (m ∷ m' ∷ ms) = (
  λ t.
      let b = and_yes (ltb m.0 m'.0) (ascends (m' ∷ ms)) t in
      ascends_more (ltb→lt m.0 m'.0 b.0) ((ascends_iff (m' ∷ ms)).0 b.1),
  λ p.
      yes_and (ltb m.0 m'.0) (ascends (m' ∷ ms)) (lt→ltb m.0 m'.0 (pairwise_rel p (Memᴰ.head refl)))
      ((ascends_iff (m' ∷ ms)).1 (Pairwise.of_cons p)),
)

pub entered_once_iff : (ms : List (ℕ × ℕ)) → T (entered_once ms) ↔ EnteredOnce ms
unfolding entered_once
entered_once_iff [] = (λ t. Pairwise.nil, λ p. tt)
entered_once_iff (m ∷ ms) = (
  λ t.
      let b = and_yes (not (enters ms m.1)) (entered_once ms) t in
      pairwise_more (λ x y. ¬_prop) (λ y k e. T_not (enters ms m.1) b.0 ((enters_iff ms m.1).1 (y, k, sym e)))
      ((entered_once_iff ms).0 b.1),
  λ p.
      let others : T (enters ms m.1) → ⊥ = λ t. let w = (enters_iff ms m.1).0 t in pairwise_rel p w.1 (sym w.2) in
      yes_and (not (enters ms m.1)) (entered_once ms) (not_T (enters ms m.1) others) ((entered_once_iff ms).1 (Pairwise.of_cons p)),
)

pub on_floor_iff : (F : Floor) (m : ℕ × ℕ) → T (on_floor F m) ↔ OnFloor F m
on_floor_iff F m =
    let p = on_floor_parts F m in (
      λ t. let u = p.0 t in record { left_below = u.0; entered_below = u.1; edge = u.2 },
      λ o. p.1 (o.left_below, o.entered_below, o.edge),
    )

pub left-differ : {ms : List (ℕ × ℕ)} → Ascends ms → KeysDiffer left ms
left-differ p = Pairwise.imp (λ m m' l e. lt_irrefl m'.0 (subst (λ (k : ℕ). k < m'.0) e l)) p

-- where a rack at p goes
pub data Goes (ms : List (ℕ × ℕ)) (p : ℕ) : Type 0 where
  taken : (m : ℕ × ℕ) → Memᴰ m ms → m.0 ≡ p → goes_to ms p ≡ m.1 → Goes ms p
  stays : ((m : ℕ × ℕ) → Memᴰ m ms → m.0 ≢ p) → goes_to ms p ≡ p → Goes ms p

pub goes_to_cases : (ms : List (ℕ × ℕ)) (p : ℕ) → Goes ms p
unfolding goes_to
goes_to_cases [] p = stays (λ m k. absurd (Memᴰ.not-nil k)) refl
goes_to_cases (m ∷ ms) p = dite (ℕ_discrete p m.0) first (λ ne. later ne (goes_to_cases ms p))
  where
    first : p ≡ m.0 → Goes (m ∷ ms) p
    first e = taken m (Memᴰ.head refl) (sym e) (rw (eq-eqb p m.0 e) refl)

    later : p ≢ m.0 → Goes ms p → Goes (m ∷ ms) p
    later ne (taken m' k e g) = taken m' (Memᴰ.tail k) e (rw (ne_eqb p m.0 ne) g)
    later ne (stays h g) =
        stays (λ m' k e. by_member k (λ q. ne (sym e ∙ ap left q)) (λ n. h m' n e)) (rw (ne_eqb p m.0 ne) g)

pub goes_to_stays : (ms : List (ℕ × ℕ)) (p : ℕ) → ((m : ℕ × ℕ) → Memᴰ m ms → m.0 ≢ p) → goes_to ms p ≡ p
goes_to_stays ms p h = go (goes_to_cases ms p)
  where
    go : Goes ms p → goes_to ms p ≡ p
    go (taken m k e g) = absurd (h m k e)
    go (stays _ g) = g

pub goes_to_takes : {ms : List (ℕ × ℕ)} {m : ℕ × ℕ} → Ascends ms → Memᴰ m ms → goes_to ms m.0 ≡ m.1
goes_to_takes {ms} {m} p k = go (goes_to_cases ms m.0)
  where
    go : Goes ms m.0 → goes_to ms m.0 ≡ m.1
    go (taken m' k' e g) = g ∙ ap entered (keys_same left ms (left-differ p) k' k e)
    go (stays h _) = absurd (h m k refl)
