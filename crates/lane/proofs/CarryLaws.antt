-- Laws of carrying a rack out of a handle: it goes along the handle to v, with y vacant beside v, and everything else is free to give way.
--
--     carry_rounds, carry-all, carry_few    the moves of i - q rounds, and of one more; of all; how few those are
--     Free at e y i          what may move while the rack stands at place i: the places before e without y and place i
--     free_has               that as a set
--     two_vacant             two vacancies are the only ones
--     Carrying               the state of `carry`: the rack stands at place i, or at v where i is e; y is vacant; every vacancy is at a
--                            place before e
--     among_more, among_floor    what is in the stage is at a place before e; what is there is on the floor
--     off                    a position of the stage is none of the handle
--     carrying_begin         the first state
--     carry_edge, carry-next    the next position of the rack: beside it; free
--     carry-reaches          from there a walk leads to a vacancy that is not y
--     carry_movable          the rack stays while the next position is cleared, and can move there
--     carrying_step          the next state
--     carry_last, carry_away    the rack can move from v to y; it is moved
--     carry_undoing, carry-entries, carry_space    what else was moved can be taken back: the log has it, and there is room for that
-- Assumes nothing.
use Prim.Native.Nat.{ℕ, suc, ◌+◌, ◌-◌, ◌*◌, ◌≤◌, ◌<◌}
use mathlib.Core.Path.{◌≡◌, refl, sym, ap, subst, ◌∙◌}
use mathlib.Core.List.{List, []}
use mathlib.Core.Logic.{◌↔◌, ◌≢◌, ◌⊎◌, inl, inr, ⊎_elim, by_cases}
use native.Mathlib.Decide.{ℕ_discrete, dec_lt}
use native.Mathlib.Nat.{mul-suc, mul_comm, mul-le-mul, mul-le-mul_right}
use native.Mathlib.Omega.{arith}
use Rattle.sets.specs.Sets.{Has}
use Rattle.graph.specs.Walk.{Symmetric}
use Rattle.graph.proofs.WalkLaws.{walk_inside}
use Rattle.graph.specs.Connected.{Whole, Except}
use Rattle.graph.proofs.ConnectedLaws.{whole_same}
use Rattle.graph.specs.Rows.{row, Edge}
use Rattle.breakdown.specs.Breakdown.{Among, Between}
use Rattle.breakdown.proofs.StageLaws.{Both, whole-left, whole-right}
use Rattle.moving.specs.Went.{Same}
use Rattle.moving.specs.Went.Back.{done}
use Rattle.moving.proofs.WentLaws.{same_refl}
use Rattle.moving.specs.declared.State.{State}
use Rattle.moving.specs.Journey.{onto, Trail, Space, Journey, JourneyIn}
use Rattle.moving.specs.Journey.Trail.{start}
use Rattle.moving.proofs.JourneyLaws.{journey_trail, space_then, space_less}
use Rattle.turning.specs.Undone.{carried, Entries, Undoing}
use Rattle.turning.proofs.BackLaws.{back_from, back_carried, carried_there, carried-left, carried_other}
use Rattle.moving.specs.OnePlace.{Movable, Passed}
use Rattle.shunting.specs.Distance.{Reaches, AtMost}
use Rattle.shunting.proofs.DistanceLaws.{at_most_less, at_most_more, at_most_except, reaches_back}
use Rattle.shunting.specs.Cleared.{Cleared}
use Rattle.moving.specs.Table.{Table}
use Rattle.moving.proofs.TableLaws.{table_other}
use Rattle.lane.specs.Lane.{HandleOn, BesideEnd, After}
use Rattle.lane.proofs.StageLaws.{apart, between_among, among_between, among_few}

pub carry_rounds : (c i q : ℕ) → q ≤ i → c * (i - q) + c ≡ c * (i + 1 - q)
carry_rounds c i q le =
    let next : i + 1 - q ≡ suc (i - q) = omega arith in
    let e : c * (i + 1 - q) ≡ c * suc (i - q) = ap (λ (x : ℕ). c * x) next in
    let f = mul-suc c (i - q) in
    omega arith

pub carry-all : (c n i q : ℕ) → i ≤ n → 3 ≤ q → c * (i - q) ≤ c * (n - 3)
carry-all c n i q le three =
    let x = mul-le-mul_right c (let d : i - q ≤ n - 3 = omega arith in d) in
    let e = mul_comm c (i - q) in
    let f = mul_comm c (n - 3) in
    omega arith

pub carry_few : (n : ℕ) → n ≤ 64 → (n - 2) * (n - 3) ≤ 3782
carry_few n le = mul-le-mul (let a : n - 2 ≤ 62 = omega arith in a) (let b : n - 3 ≤ 61 = omega arith in b)

pub record Free (at : ℕ → ℕ) (e y i p : ℕ) : Type 0 where
  pub there : Among at e p
  pub other : p ≢ y
  pub away : p ≢ at i

pub free_has : {at : ℕ → ℕ} {e y i : ℕ} (a b c : ℕ) → ((p : ℕ) → Has a p ↔ Between at 0 e p) → ((p : ℕ) → Has b p ↔ (Has a p × (p ≢ y)))
    → ((p : ℕ) → Has c p ↔ (Has b p × (p ≢ at i))) → (p : ℕ) → Has c p ↔ Free at e y i p
free_has a b c ha hb hc p = (
  λ h. let x = (hc p).0 h in let z = (hb p).0 x.0 in record { there = between_among ((ha p).0 z.0); other = z.1; away = x.1 },
  λ f. (hc p).1 ((hb p).1 ((ha p).1 (among_between f.there), f.other), f.away),
)

pub two_vacant : {n : ℕ} {h : ℕ → ℕ} → Table n h → (a b p : ℕ) → a ≢ b → a < n → b < n → p < n → h a ≡ 0 → h b ≡ 0
    → h p ≡ 0 → (p ≡ a) ⊎ (p ≡ b)
two_vacant t a b p differ la lb lp za zb zp =
    ⊎_elim
    (λ x. ⊎_elim
    (λ y. inl (x ∙ sym y))
    (λ y. ⊎_elim (λ z. inr (x ∙ sym z)) (λ z. absurd (differ (y ∙ sym z))) (t.only b lb zb)) (t.only a la za))
    (λ x. ⊎_elim
    (λ y. ⊎_elim (λ z. absurd (differ (y ∙ sym z))) (λ z. inr (x ∙ sym z)) (t.only b lb zb))
    (λ y. inl (x ∙ sym y)) (t.only a la za))
    (t.only p lp zp)

pub record Carrying (n : ℕ) (at : ℕ → ℕ) (e v y q : ℕ) (h cur : ℕ → ℕ) (i : ℕ) : Type 0 where
  pub from : q ≤ i
  pub most : i ≤ e
  pub table : Table n cur
  pub beside : cur y ≡ 0
  pub below : (p : ℕ) → p < n → cur p ≡ 0 → Among at e p
  pub there : i < e → cur (at i) ≡ h (at q)
  pub end : e ≤ i → cur v ≡ h (at q)

module _ {n : ℕ} {E : ℕ → ℕ → Type 0} {at : ℕ → ℕ} {s e u v y : ℕ} (lane : HandleOn n E at s e u v) (near : BesideEnd E at s u v y) where
  pub among_more : {p : ℕ} → Among at s p → Among at e p
  among_more a = let b = a.before in let inner = lane.handle.inner in record { place = a.place; before = omega arith; is = a.is }

  pub among_floor : {p : ℕ} → Among at e p → p < n
  among_floor a = let b = a.before in let within = lane.within in subst (λ (q : ℕ). q < n) a.is (lane.below a.place (omega arith))

  -- a position of the near.there stands at no place of the handle
  pub off : {p : ℕ} → Among at s p → (i : ℕ) → s ≤ i → i < e → p ≢ at i
  off a i le lt z =
      let b = a.before in
      let within = lane.within in
      apart lane a.place i (omega arith) (omega arith) (omega arith) (a.is ∙ z)

  pub carrying_begin : {q : ℕ} {h : ℕ → ℕ} → q < e → Table n h → h v ≡ 0 → h y ≡ 0 → Carrying n at e v y q h h q
  carrying_begin {q} lt t zv zy =
      record {
        from = omega arith;
        most = omega arith;
        table = t;
        beside = zy;
        below = λ p l z. ⊎_elim
            (λ x. subst (Among at e) (sym x) end)
            (λ x. subst (Among at e) (sym x) (among_more near.there))
            (two_vacant t v y p near.right (among_floor end) (among_floor (among_more near.there)) l zv zy z);
        there = λ l. refl;
        end = λ l. absurd (none l);
      }
    where
      end : Among at e v
      end = among_more lane.handle.right

      none : e ≤ q → ⊥
      none l = omega arith

  module _ {q i next : ℕ} {h cur : ℕ → ℕ} (from : s ≤ q) (more : i < e) (rack : h (at q) ≢ 0) (state : Carrying n at e v y q h cur i)
      (after : After at e v i next) where
    low : s ≤ i
    low = let f = state.from in omega arith

    pub carry_edge : E (at i) next
    carry_edge =
        by_cases (dec_lt (i + 1) e)
        (λ l. subst (E (at i)) (sym (after.inner l)) (lane.handle.joined i low l))
        (λ l.
        let last : e - 1 ≡ i = omega arith in
        subst (E (at i)) (sym (after.last (omega arith))) (subst (λ (j : ℕ). E (at j) v) last lane.handle.last))

    pub carry-next : Free at e y i next
    carry-next =
        by_cases (dec_lt (i + 1) e)
        (λ l. subst (Free at e y i) (sym (after.inner l))
        (let within = lane.within in
        record {
          there = record { place = i + 1; before = l; is = refl };
          other = λ z. off near.there (i + 1) (let x = low in omega arith) l (sym z);
          away = apart lane (i + 1) i (omega arith) (omega arith) (omega arith);
        }))
        (λ l. subst (Free at e y i) (sym (after.last (omega arith)))
        (record { there = among_more lane.handle.right; other = near.right; away = off lane.handle.right i low more }))

    -- two positions of the floor are held
    pub carry_most : {P : ℕ → Type 0} → ((p : ℕ) → P p → Free at e y i p) → AtMost (suc (n - 3)) P
    carry_most free =
        let within = lane.within in
        let three = lane.three in
        let inner = lane.handle.inner in
        let held : Except (Among at e) y (at i) =
        record { there = record { place = i; before = more; is = refl }; other = λ z. off near.there i low more (sym z) } in
        at_most_less
        (λ p x. record { there = record { there = (free p x).there; other = (free p x).other }; other = (free p x).away })
        (at_most_except held (at_most_except (among_more near.there) (at_most_more (suc (suc (suc (n - 3)))) (omega arith) among_few)))

    pub carry-reaches : {P : ℕ → Type 0} → Symmetric E → ((p : ℕ) → Free at e y i p → P p) → Reaches E P cur next
    carry-reaches sy into =
        let z = table_other state.table y in
        let vacancy : Free at e y i z.0 =
        record {
          there = state.below z.0 z.1 z.3;
          other = z.2;
          away = λ x. rack (sym (state.there more) ∙ ap cur (sym x) ∙ z.3);
        }
        in
        let way = whole next z.0 carry-next vacancy in
        reaches_back sy z.0 way.size z.3 (walk_inside into way.walk)
      where
        -- the handle's places before i hang on its left end, those after i on its right end
        split : Whole E (Both (Both (Except (Among at s) y) (Between at s i)) (Between at (i + 1) e))
        split =
            whole-right at s e u v (i + 1) sy lane.handle (let l = low in omega arith)
            (whole-left at s e u v i sy lane.handle (omega arith) (lane.robust.without y near.there)
            (record { there = lane.handle.left; other = near.left }))
            (inl (record { there = lane.handle.right; other = near.right }))

        -- another place of the handle
        inner : {p : ℕ} (j : ℕ) → s ≤ j → j < e → j ≢ i → at j ≡ p → Free at e y i p
        inner j le lt ne is =
            let within = lane.within in
            subst (Free at e y i) is
            (record {
              there = record { place = j; before = lt; is = refl };
              other = λ z. off near.there j le lt (sym z);
              away = apart lane j i (omega arith) (omega arith) ne;
            })

        to : (p : ℕ) → Both (Both (Except (Among at s) y) (Between at s i)) (Between at (i + 1) e) p → Free at e y i p
        to p x =
            ⊎_elim
            (λ a. ⊎_elim
            (λ b. record { there = among_more b.there; other = b.other; away = off b.there i low more })
            (λ b. let l = b.before in inner b.place b.from (omega arith) (omega arith) b.is) a)
            (λ a. let l = a.from in let f = low in inner a.place (omega arith) a.before (omega arith) a.is) x

        back : (p : ℕ) → Free at e y i p → Both (Both (Except (Among at s) y) (Between at s i)) (Between at (i + 1) e) p
        back p f =
            let a = f.there in
            by_cases (dec_lt a.place s)
            (λ l. inl (inl (record { there = record { place = a.place; before = l; is = a.is }; other = f.other })))
            (λ l. by_cases (dec_lt a.place i)
            (λ k. inl (inr (record { place = a.place; from = omega arith; before = k; is = a.is })))
            (λ k.
            let ne : a.place ≢ i = λ z. f.away (sym a.is ∙ ap at z) in
            inr (record { place = a.place; from = omega arith; before = a.before; is = a.is })))

        whole : Whole E (Free at e y i)
        whole = whole_same to back split

    module _ {P : ℕ → Type 0} {mid : ℕ → ℕ} (free : (p : ℕ) → P p → Free at e y i p) (cleared : Cleared P next cur mid) where
      carry_held : mid (at i) ≡ h (at q)
      carry_held = cleared.outside (at i) (λ x. (free (at i) x).away refl) ∙ state.there more

      carry_beside : mid y ≡ 0
      carry_beside = cleared.outside y (λ x. (free y x).other refl) ∙ state.beside

      pub carry_movable : n ≤ 64 → Movable (at i) next mid
      carry_movable small =
          let within = lane.within in
          record {
            leaves = (let b = lane.below i (omega arith) in omega arith);
            enters = (let b = among_floor carry-next.there in omega arith);
            held = λ z. rack (sym carry_held ∙ z);
            vacant = cleared.vacant;
          }

      pub carrying_step : {cur' : ℕ → ℕ} → Table n cur' → Passed (at i) next mid cur' → Carrying n at e v y q h cur' (i + 1)
      carrying_step {cur'} table passed =
          record {
            from = (let f = state.from in omega arith);
            most = omega arith;
            table = table;
            beside = passed.others y (off near.there i low more) (λ z. carry-next.other (sym z)) ∙ carry_beside;
            below = λ p l z. low_down p l z (lane.every p l);
            there = λ l. ap cur' (sym (after.inner l)) ∙ passed.entered ∙ carry_held;
            end = λ l. ap cur' (sym (after.last l)) ∙ passed.entered ∙ carry_held;
          }
        where
          -- a place from e on holds what it held
          behind : (p : ℕ) → (Among at e p → ⊥) → cur' p ≡ cur p
          behind p none =
              passed.others p (λ z. none (record { place = i; before = more; is = sym z }))
              (λ z. none (subst (Among at e) (sym z) carry-next.there))
              ∙ cleared.outside p (λ x. none (free p x).there)

          low_down : (p : ℕ) → p < n → cur' p ≡ 0 → Among at n p → Among at e p
          low_down p l z a =
              by_cases (dec_lt a.place e)
              (λ k. record { place = a.place; before = k; is = a.is })
              (λ k.
              let b = a.before in
              let none : Among at e p → ⊥ =
              λ x. let d = x.before in apart lane x.place a.place (omega arith) b (omega arith) (x.is ∙ sym a.is) in
              state.below p l (sym (behind p none) ∙ z))

  module _ {q i : ℕ} {h cur : ℕ → ℕ} (rack : h (at q) ≢ 0) (gone : e ≤ i) (state : Carrying n at e v y q h cur i) where
    pub carry_last : n ≤ 64 → Movable v y cur
    carry_last small =
        record {
          leaves = (let b = among_floor (among_more lane.handle.right) in omega arith);
          enters = (let b = among_floor (among_more near.there) in omega arith);
          held = λ z. rack (sym (state.end gone) ∙ z);
          vacant = state.beside;
        }

    pub carry_away : {cur' : ℕ → ℕ} → Passed v y cur cur' → Same cur' (carried (h (at q)) y cur)
    carry_away {cur'} passed p =
        by_cases (ℕ_discrete p y)
        (λ x. subst (λ (z : ℕ). cur' z ≡ carried (h (at q)) y cur z) (sym x)
        (passed.entered ∙ state.end gone ∙ sym (carried_there (h (at q)) y cur)))
        (λ x. by_cases (ℕ_discrete p v)
        (λ z. ap cur' z ∙ passed.left ∙ sym (carried-left (h (at q)) y cur p x (ap cur z ∙ state.end gone)))
        (λ z. passed.others p z x ∙ sym (carried_other (h (at q)) y cur p x (λ w. z (sole p w)))))
      where
        -- no other position holds the rack
        sole : (p : ℕ) → cur p ≡ h (at q) → p ≡ v
        sole p w = state.table.one p v (λ z. rack (sym w ∙ z)) (w ∙ sym (state.end gone))

-- The journey to v, one move more, and then the journey taken back. The log was begun anew.
module _ {g : List ℕ} {c : ℕ} {x x' : State} {l t l' t' : List ℕ} (anew : x.logged ≡ 0) where
  pub carry_undoing : {x'' : State} {l'' t'' : List ℕ} (r y : ℕ) → Symmetric (Edge g) → (a : JourneyIn (λ p. y ≢ p) g c x l t x' l' t')
      → Journey g 1 x' l' t' x'' l'' t'' → Same (row x''.racks) (carried r y (row x'.racks))
      → Undoing g x''.racks l'' 0 x'.logged (onto a.journey.trip.moves []) (carried r y (row x.racks))
  carry_undoing r y sy a b same =
      record {
        trail =
            journey_trail b 0 (onto a.journey.trip.moves []) (omega arith)
            (a.journey.trail 0 [] (omega arith) (subst (λ (j : ℕ). Trail l 0 j []) (sym anew) start));
        back = back_from same (back_carried sy r y a.within a.journey.trip.went (done (same_refl (carried r y (row x.racks)))));
      }

  pub carry-entries : c ≤ 8256 → Journey g c x l t x' l' t' → Entries 0 x'.logged
  carry-entries few a =
      let made = a.logged in
      let most = a.trip.few in
      record { ordered = omega arith; within = omega arith }

  pub carry_space : {x'' : State} {l'' t'' : List ℕ} {d : ℕ} → Space x t d → c + (1 + c) ≤ d → Journey g c x l t x' l' t'
      → Journey g 1 x' l' t' x'' l'' t'' → Space x'' t'' (x'.logged - 0)
  carry_space space le a b =
      let made = a.logged in
      let most = a.trip.few in
      space_less (x'.logged - 0) (omega arith) (space_then (space_then (space_less (c + (1 + c)) le space) a.trip) b.trip)
