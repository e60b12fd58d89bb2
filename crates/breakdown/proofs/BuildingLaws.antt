-- Laws of a breakdown in the making.
--
--     settled_none        with nothing settled the row is empty
--     settled_most        the row has at most 64 positions
--     settled_room        where a position is not settled the row is not full
--     settled_push        one position more, settled and in the row
--     extended_none, extended_push    the row extended by none, and by one more
--     fresh_front, extended_front    the first k of a list, as a list of their own: they can be put into the row, and are in it
--     handle_same         a handle in a row stays one in a row that agrees with it
--     building_ring       a base ring in the row
--     building_full       the row has at most 64 positions
--     building_few        each handle has one of them at least, and the base ring three
--     building_add        one handle more
--     building_all, building_every    a row of n positions or more has all n of them
--     building_done       a row with n positions is a breakdown
-- Assumes nothing.
use Prim.Native.Nat.{ℕ, zero, suc, ◌+◌, ◌-◌, ◌≤◌, ◌<◌}
use mathlib.Core.Path.{◌≡◌, refl, sym, subst, subst₂, ap, ◌∙◌}
use mathlib.Core.List.{List}
use mathlib.Core.Logic.{◌↔◌, ◌≢◌, ◌⊎◌, inl, inr, ⊎_elim, by_cases}
use native.Mathlib.Decide.{ℕ_discrete, dec_lt}
use native.Mathlib.Nat.{add-zero}
use native.Mathlib.Omega.{arith}
use lib.ListN.{set, length, length-set, take}
use lib.Seq.{get_or-set_same, get_or-set_other}
use Rattle.std.proofs.lemmas.List.{get_or-take, length-take-le}
use Rattle.sets.specs.Sets.{Has}
use Rattle.sets.proofs.SetLaws.{has_none}
use Rattle.sets.proofs.CountLaws.{ones_push, ones_most, ones-all}
use Rattle.graph.specs.Walk.{Path}
use Rattle.graph.specs.Connected.{Except, Below}
use Rattle.graph.specs.Nearest.{Nearest}
use Rattle.breakdown.specs.Breakdown.{Among, Handle, Breakdown}
use Rattle.breakdown.specs.Choice.{Beside, Leaves}
use Rattle.graph.specs.Rows.{row}
use Rattle.breakdown.specs.Building.{Settled, Fresh, Extended, Building}

pub settled_none : (o : List ℕ) (s : ℕ) → length o ≡ 64 → s ≡ 0 → Settled 0 o s
settled_none o s long empty =
    record {
      long = long;
      small = λ i l. absurd (none l);
      distinct = λ i j l k. absurd (none k);
      marked = λ i l. absurd (none l);
      among = λ p h. absurd (clear p h);
      count = let m = ones_most 0 s (λ p h. absurd (clear p h)) in omega arith;
    }
  where
    none : {x : ℕ} → x < 0 → ⊥
    none h = omega arith

    clear : (p : ℕ) → Has s p → ⊥
    clear p h = has_none p (subst (λ (x : ℕ). Has x p) empty h)

module _ {m : ℕ} {o : List ℕ} {s : ℕ} (r : Settled m o s) where
  settled_below : (p : ℕ) → Has s p → p < 64
  settled_below p h = let a = r.among p h in let b = r.small a.place a.before in let e = a.is in omega arith

  pub settled_most : m ≤ 64
  settled_most = let l = ones_most 64 s settled_below in let c = r.count in omega arith

  module _ (p : ℕ) (small : p < 64) (new : Has s p → ⊥) where
    pub settled_room : m < 64
    settled_room =
        let l = settled_most in
        by_cases (ℕ_discrete m 64) (λ e. absurd (new (ones-all 64 s settled_below (r.count ∙ e) p small))) (λ e. omega arith)

    pub settled_push : (s' : ℕ) → ((q : ℕ) → Has s' q ↔ (Has s q ⊎ (q ≡ p))) → Settled (m + 1) (set o m p) s'
    settled_push s' with_p =
        record {
          long = length-set o m p ∙ r.long;
          small = λ i l.
              by_cases (ℕ_discrete i m)
              (λ e. let h = here i e in omega arith)
              (λ e. let h = there i e in let b = r.small i (omega arith) in omega arith);
          distinct = λ i j l k.
              by_cases (ℕ_discrete j m)
              (λ e. λ q. other i (omega arith) (sym (there i (omega arith)) ∙ q ∙ here j e))
              (λ e. λ q. r.distinct i j l (omega arith) (sym (there i (omega arith)) ∙ q ∙ there j e));
          marked = λ i l.
              by_cases (ℕ_discrete i m)
              (λ e. (with_p (row (set o m p) i)).1 (inr (here i e)))
              (λ e. (with_p (row (set o m p) i)).1 (inl (subst (Has s) (sym (there i e)) (r.marked i (omega arith)))));
          among = λ q h. ⊎_elim
              (λ old.
              let a = r.among q old in
              let b = a.before in
              record { place = a.place; before = omega arith; is = there a.place (omega arith) ∙ a.is })
              (λ e. record { place = m; before = omega arith; is = here m refl ∙ sym e })
              ((with_p q).0 h);
          count = let f = ones_push p s s' with_p new in let c = r.count in omega arith;
        }
      where
        here : (i : ℕ) → i ≡ m → row (set o m p) i ≡ p
        here i e = ap (λ (x : ℕ). row (set o m p) x) e ∙ get_or-set_same o m p 0 (let l = r.long in let k = settled_room in omega arith)

        there : (i : ℕ) → i ≢ m → row (set o m p) i ≡ row o i
        there i e = get_or-set_other o m i p 0 e

        other : (i : ℕ) → i < m → row o i ≢ p
        other i l e = new (subst (Has s) e (r.marked i l))

pub extended_none : (f : List ℕ) (m : ℕ) (o : List ℕ) (s : ℕ) → Settled m o s → Extended f 0 m o o s
extended_none f m o s r =
    record {
      settled = subst (λ (x : ℕ). Settled x o s) (sym (add-zero m)) r;
      kept = λ i l. refl;
      new = λ i l. omega arith;
    }

pub extended_push : (f : List ℕ) (i m : ℕ) (o o' : List ℕ) (s s' : ℕ) → row f i < 64 → (Has s (row f i) → ⊥)
    → ((q : ℕ) → Has s' q ↔ (Has s q ⊎ (q ≡ row f i))) → Extended f i m o o' s → Extended f (i + 1) m o (set o' (m + i) (row f i)) s'
extended_push f i m o o' s s' small new with_it x =
    let same : m + i + 1 ≡ m + (i + 1) = omega arith in
    record {
      settled = subst (λ (k : ℕ). Settled k (set o' (m + i) (row f i)) s') same (settled_push x.settled (row f i) small new s' with_it);
      kept = λ j l. get_or-set_other o' (m + i) j (row f i) 0 (omega arith) ∙ x.kept j l;
      new = λ j l.
          by_cases (ℕ_discrete j i)
          (λ e.
          ap (λ (y : ℕ). row (set o' (m + i) (row f i)) (m + y)) e
          ∙ get_or-set_same o' (m + i) (row f i) 0
          (let r = settled_room x.settled (row f i) small new in let w = x.settled.long in omega arith)
          ∙ ap (row f) (sym e))
          (λ e. get_or-set_other o' (m + i) (m + j) (row f i) 0 (omega arith) ∙ x.new j (omega arith));
    }

module _ (f : List ℕ) (k : ℕ) (within : k ≤ length f) where
  long_front : length (take k f) ≡ k
  long_front = length-take-le k f within

  pub fresh_front : (s : ℕ) → Fresh f k s → Fresh (take k f) (length (take k f)) s
  fresh_front s fresh =
      let long = long_front in
      record {
        small = λ i l. subst (λ (x : ℕ). x < 64) (sym (get_or-take k f i 0 (omega arith))) (fresh.small i (omega arith));
        new = λ i l h. fresh.new i (omega arith) (subst (Has s) (get_or-take k f i 0 (omega arith)) h);
        distinct = λ i j l h e.
            fresh.distinct i j l (omega arith)
            (sym (get_or-take k f i 0 (omega arith)) ∙ e ∙ get_or-take k f j 0 (omega arith));
      }

  pub extended_front : (m : ℕ) (o o' : List ℕ) (s' : ℕ) → Extended (take k f) (length (take k f)) m o o' s' → Extended f k m o o' s'
  extended_front m o o' s' x =
      record {
        settled = subst (λ (j : ℕ). Settled (m + j) o' s') long_front x.settled;
        kept = x.kept;
        new = λ i l. let long = long_front in x.new i (omega arith) ∙ get_or-take k f i 0 l;
      }

pub among_same : {at at' : ℕ → ℕ} {m p : ℕ} → ((i : ℕ) → i < m → at' i ≡ at i) → Among at m p → Among at' m p
among_same same a = record { place = a.place; before = a.before; is = same a.place a.before ∙ a.is }

pub handle_same : {E : ℕ → ℕ → Type 0} {at at' : ℕ → ℕ} {s e u v : ℕ} → ((i : ℕ) → i < e → at' i ≡ at i) → Handle E at s e u v
    → Handle E at' s e u v
handle_same {E} {at} {at'} {s} {e} {u} {v} same h =
    let inner = h.inner in
    record {
      inner = inner;
      first = subst (E u) (sym (same s inner)) h.first;
      joined = λ j l k. subst₂ E (sym (same j (omega arith))) (sym (same (j + 1) k)) (h.joined j l k);
      last = subst (λ (x : ℕ). E x v) (sym (same (e - 1) (omega arith))) h.last;
      ends = h.ends;
      left = among_same (λ i l. same i (omega arith)) h.left;
      right = among_same (λ i l. same i (omega arith)) h.right;
    }

-- The way round from b, avoiding a, and then a: in the row as a ring.
pub building_ring : {n : ℕ} {E : ℕ → ℕ → Type 0} (a b k : ℕ) (f o start left right : List ℕ) (s : ℕ) → E a b → a < n → a ≢ b
    → Nearest E (Except (Below n) a) (Beside E a b) b k (row f) → 0 < k → ((x y : ℕ) → E x y → E y x)
    → Settled (k + 1) o s → ((i : ℕ) → i < k → row o i ≡ row f i) → row o k ≡ a
    → row start 0 ≡ k + 1 → length start ≡ 64 → length left ≡ 64 → length right ≡ 64
    → Building n E (k + 1) 0 o start left right s
building_ring {n} {E} a b k f o start left right s edge below other nearest some sy settled way end begins starts lefts rights =
    record {
      settled = subst (λ (x : ℕ). Settled x o s) (sym begins) settled;
      below = λ i l.
          by_cases (ℕ_discrete i k)
          (λ e. let q : row o i ≡ a = ap (row o) e ∙ end in omega arith)
          (λ e. let q = way i (omega arith) in let r = (path.inside i (omega arith)).there in omega arith);
      room = omega arith;
      ring_three = let t = two in omega arith;
      ring_joined = λ i l.
          by_cases (ℕ_discrete (i + 1) k)
          (λ e.
          let last : row o i ≡ row f (k - 1) = way i (omega arith) ∙ ap (row f) (omega arith) in
          subst₂ E (sym last) (sym (ap (row o) e ∙ end)) (sy _ _ (nearest.target some).edge))
          (λ e. subst₂ E (sym (way i (omega arith))) (sym (way (i + 1) (omega arith))) (path.joined i (omega arith)));
      ring_closed =
          let last : k + 1 - 1 ≡ k = omega arith in
          subst₂ E (sym (ap (row o) last ∙ end)) (sym (way 0 some ∙ path.first)) edge;
      begins = begins;
      handle = λ i l. absurd (none l);
      starts = starts;
      lefts = lefts;
      rights = rights;
    }
  where
    none : {x : ℕ} → x < 0 → ⊥
    none h = omega arith

    path : Path E (Except (Below n) a) b (row f (k - 1)) k (row f)
    path = nearest.path some

    -- b is not its own target, so that the way goes on
    two : 1 < k
    two =
        by_cases (ℕ_discrete k 1)
        (λ e.
        let only : row f (k - 1) ≡ b = ap (row f) (omega arith) ∙ path.first in
        absurd ((nearest.target some).other only))
        (λ e. omega arith)

module _ {n : ℕ} {E : ℕ → ℕ → Type 0} {r c : ℕ} {o start left right : List ℕ} {s : ℕ} (b : Building n E r c o start left right s) where
  starts_ascend : (d i : ℕ) → i + d ≡ c → row start i ≤ row start c
  starts_ascend zero i e = let same : row start i ≡ row start c = ap (row start) (omega arith) in omega arith
  starts_ascend (suc d) i e =
      let inner = (b.handle i (omega arith)).inner in
      let later = starts_ascend d (i + 1) (omega arith) in
      omega arith

  pub building_full : row start c ≤ 64
  building_full = settled_most b.settled

  pub building_few : c + 3 ≤ 64
  building_few = let f = building_full in let p = b.room in let t = b.ring_three in omega arith

  pub building_add : (u w k : ℕ) (f o' : List ℕ) (s' : ℕ) → u < n → Leaves E s u w
      → Nearest E (Except (Below n) u) (Has s) w k (row f) → 0 < k
      → Extended f (k - 1) (row start c) o o' s'
      → Building n E r (c + 1) o' (set start (c + 1) (row start c + (k - 1))) (set left c u) (set right c (row f (k - 1))) s'
      × (row start c < row (set start (c + 1) (row start c + (k - 1))) (c + 1))
  building_add u w k f o' s' below leaves nearest some x = (
    record {
      settled = subst (λ (y : ℕ). Settled y o' s') (sym stop) x.settled;
      below = λ i l.
          by_cases (dec_lt i (row start c))
          (λ h. let q = x.kept i h in let p = b.below i h in omega arith)
          (λ h.
          let e = stop in
          let q = at_new i (omega arith) (omega arith) in
          let p = (path.inside (i - row start c) (omega arith)).there in
          omega arith);
      room = let e = stop in let t = two in let p = b.room in omega arith;
      ring_three = b.ring_three;
      ring_joined = λ i l.
          let p = b.room in
          subst₂ E (sym (x.kept i (omega arith))) (sym (x.kept (i + 1) (omega arith))) (b.ring_joined i l);
      ring_closed =
          let p = b.room in
          let t = b.ring_three in
          subst₂ E (sym (x.kept (r - 1) (omega arith))) (sym (x.kept 0 (omega arith))) b.ring_closed;
      begins = start_old 0 (omega arith) ∙ b.begins;
      handle = handle;
      starts = length-set start (c + 1) _ ∙ b.starts;
      lefts = length-set left c _ ∙ b.lefts;
      rights = length-set right c _ ∙ b.rights;
    },
    let e = stop in let t = two in omega arith,
  )
    where
      path : Path E (Except (Below n) u) w (row f (k - 1)) k (row f)
      path = nearest.path some

      -- w is not settled, so that the way goes on
      two : 1 < k
      two =
          by_cases (ℕ_discrete k 1)
          (λ e.
          let only : row f (k - 1) ≡ w = ap (row f) (omega arith) ∙ path.first in
          absurd (leaves.new (subst (Has s) only (nearest.target some))))
          (λ e. omega arith)

      stop : row (set start (c + 1) (row start c + (k - 1))) (c + 1) ≡ row start c + (k - 1)
      stop =
          get_or-set_same start (c + 1) (row start c + (k - 1)) 0
          (let l = b.starts in let q = building_few in omega arith)

      start_old : (i : ℕ) → i < c + 1 → row (set start (c + 1) (row start c + (k - 1))) i ≡ row start i
      start_old i l = get_or-set_other start (c + 1) i (row start c + (k - 1)) 0 (omega arith)

      left_old : (i : ℕ) → i < c → row (set left c u) i ≡ row left i
      left_old i l = get_or-set_other left c i u 0 (omega arith)

      right_old : (i : ℕ) → i < c → row (set right c (row f (k - 1))) i ≡ row right i
      right_old i l = get_or-set_other right c i (row f (k - 1)) 0 (omega arith)

      left_new : row (set left c u) c ≡ u
      left_new = get_or-set_same left c u 0 (let l = b.lefts in let q = building_few in omega arith)

      right_new : row (set right c (row f (k - 1))) c ≡ row f (k - 1)
      right_new = get_or-set_same right c (row f (k - 1)) 0 (let l = b.rights in let q = building_few in omega arith)

      at_new : (i : ℕ) → row start c ≤ i → i < row start c + (k - 1) → row o' i ≡ row f (i - row start c)
      at_new i l h = ap (row o') (omega arith) ∙ x.new (i - row start c) (omega arith)

      newest : Handle E (row o') (row start c) (row start c + (k - 1)) u (row f (k - 1))
      newest =
          let t = two in
          record {
            inner = omega arith;
            first =
                subst (E u) (sym (at_new (row start c) (omega arith) (omega arith) ∙ ap (row f) (omega arith) ∙ path.first))
                leaves.edge;
            joined = λ j l h.
                subst₂ E (sym (at_new j l (omega arith))) (sym (at_new (j + 1) (omega arith) h ∙ ap (row f) (omega arith)))
                (path.joined (j - row start c) (omega arith));
            last =
                subst₂ E (sym (at_new (row start c + (k - 1) - 1) (omega arith) (omega arith) ∙ ap (row f) (omega arith)))
                (ap (row f) (omega arith))
                (path.joined (k - 2) (omega arith));
            ends = λ e. (path.inside (k - 1) (omega arith)).other (sym e);
            left = among_same x.kept (b.settled.among u leaves.settled);
            right = among_same x.kept (b.settled.among (row f (k - 1)) (nearest.target some));
          }

      handle : (i : ℕ) → i < c + 1
          → Handle E (row o') (row (set start (c + 1) (row start c + (k - 1))) i) (row (set start (c + 1) (row start c + (k - 1))) (i + 1))
          (row (set left c u) i) (row (set right c (row f (k - 1))) i)
      handle i l =
          by_cases (ℕ_discrete i c)
          (λ e.
          subst (λ (j : ℕ). Handle E (row o') (row (set start (c + 1) (row start c + (k - 1))) j)
          (row (set start (c + 1) (row start c + (k - 1))) (j + 1))
          (row (set left c u) j) (row (set right c (row f (k - 1))) j)) (sym e)
          (subst₂ (λ (p q : ℕ). Handle E (row o') p q (row (set left c u) c) (row (set right c (row f (k - 1))) c))
          (sym (start_old c (omega arith))) (sym stop)
          (subst₂ (Handle E (row o') (row start c) (row start c + (k - 1))) (sym left_new) (sym right_new) newest)))
          (λ e.
          let upto = starts_ascend (c - (i + 1)) (i + 1) (omega arith) in
          subst₂ (λ (p q : ℕ). Handle E (row o') p q (row (set left c u) i) (row (set right c (row f (k - 1))) i))
          (sym (start_old i l)) (sym (start_old (i + 1) (omega arith)))
          (subst₂ (Handle E (row o') (row start i) (row start (i + 1))) (sym (left_old i (omega arith))) (sym (right_old i (omega arith)))
          (handle_same (λ j h. x.kept j (omega arith)) (b.handle i (omega arith)))))

  settled_inside : (p : ℕ) → Has s p → p < n
  settled_inside p h = let a = b.settled.among p h in let q = b.below a.place a.before in let i = a.is in omega arith

  pub building_all : n ≤ row start c → row start c ≡ n
  building_all full = let m = ones_most n s settled_inside in let t = b.settled.count in omega arith

  pub building_every : n ≤ row start c → (p : ℕ) → p < n → Among (row o) n p
  building_every full p l =
      let all = building_all full in
      subst (λ (m : ℕ). Among (row o) m p) all (b.settled.among p (ones-all n s settled_inside (b.settled.count ∙ all) p l))

  pub building_done : n ≤ row start c → r < n → Breakdown n E r c (row o) (row start) (row left) (row right)
  building_done full less =
      let all = building_all full in
      record {
        ring_three = b.ring_three;
        ring_less = less;
        ring_joined = b.ring_joined;
        ring_closed = b.ring_closed;
        begins = b.begins;
        handle = b.handle;
        stops = all;
        below = λ i l. b.below i (omega arith);
        distinct = λ i j l k. b.settled.distinct i j l (omega arith);
        every = building_every full;
      }
