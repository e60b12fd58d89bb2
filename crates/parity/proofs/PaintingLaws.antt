-- Two colours, found by spreading from position 0: the state of the loop, and what it ends with. Over the rows g of a connected floor of n.
--
--     Painting g n light dark rest    0 is light; by any two colours the light positions have 0's colour and the dark ones the other; each
--                           position that is no more in `rest` is light with all that it is joined to dark, or the other way round
--     painting_begin, painting_light, painting_dark    the state at the start, and after a turn
--     painting_done         where nothing light or dark is left in `rest`, all positions are one or the other
--     painting_two, painting_none    so there are two colours where no position is both, and else there are not
-- Assumes nothing.
use Prim.Native.Nat.{ℕ, ◌<◌}
use mathlib.Core.Path.{◌≡◌, refl, sym, ap, subst, ◌∙◌}
use mathlib.Core.Bool.{Bool, true, false, false≢true}
use mathlib.Core.List.{List}
use mathlib.Core.Logic.{◌≢◌, ◌↔◌, ◌⊎◌, inl, inr, ⊎_elim, by_cases}
use native.Mathlib.Decide.{ℕ_discrete}
use native.Mathlib.Omega.{arith}
use borrow.Author.Tests.{eq-eqb, ne_eqb}
use lib.Bits.{bit_and, bit_or}
use lib.ListN.{get_or}
use Rattle.sets.specs.Sets.{bit, Has}
use Rattle.sets.proofs.SetLaws.{has_none, has_and, has_or, has_some}
use Rattle.graph.specs.Walk.{Walk}
use Rattle.graph.specs.Walk.Walk.{alone, step}
use Rattle.graph.specs.Connected.{Below, Connected}
use Rattle.graph.specs.Rows.{Edge, Rows}
use Rattle.parity.specs.Colours.{TwoColours, Coloured}
use Rattle.parity.specs.Work.{is_in}
use Rattle.parity.proofs.ColourLaws.{third_colour}

-- the colours that the search gives out are those that any two colours have, up to their names
pub record Forced (c : ℕ → Bool) (light dark : ℕ) : Type 0 where
  pub as_first : (p : ℕ) → Has light p → c p ≡ c 0
  pub other : (p : ℕ) → Has dark p → c p ≢ c 0

pub record Painting (g : List ℕ) (n light dark rest : ℕ) : Type 0 where
  pub first : Has light 0
  pub light_below : (p : ℕ) → Has light p → p < n
  pub dark_below : (p : ℕ) → Has dark p → p < n
  pub forced : (c : ℕ → Bool) → TwoColours n (Edge g) c → Forced c light dark
  pub done : (p : ℕ) → p < n → (Has rest p → ⊥)
      → (Has light p × ((q : ℕ) → Edge g p q → Has dark q)) ⊎ (Has dark p × ((q : ℕ) → Edge g p q → Has light q))

pub painting_begin : (g : List ℕ) (n light rest : ℕ) → 0 < n → ((p : ℕ) → Has light p ↔ (p ≡ 0)) → ((p : ℕ) → Has rest p ↔ (p < n))
    → Painting g n light 0 rest
painting_begin g n light rest some only all =
    record {
      first = (only 0).1 refl;
      light_below = λ p h. let e = (only p).0 h in omega arith;
      dark_below = λ p h. absurd (has_none p h);
      forced = λ c two. record { as_first = λ p h. ap c ((only p).0 h); other = λ p h. absurd (has_none p h) };
      done = λ p l h. absurd (h ((all p).1 l));
    }

module _ (g : List ℕ) (n : ℕ) (rows : Rows n g) (light dark rest rest' p : ℕ) (s : Painting g n light dark rest)
    (less : (q : ℕ) → Has rest' q ↔ (Has rest q × (q ≢ p))) where
  -- what is no more in the rest: p, or what was not in it
  gone : (q : ℕ) → (Has rest' q → ⊥) → (q ≡ p) ⊎ (Has rest q → ⊥)
  gone q h = by_cases (ℕ_discrete q p) (λ e. inl e) (λ d. inr (λ i. h ((less q).1 (i, d))))

  pub painting_light : Has light p → Painting g n light (bit_or dark (get_or g p 0)) rest'
  painting_light h =
      record {
        first = s.first;
        light_below = s.light_below;
        dark_below = λ q i. ⊎_elim (s.dark_below q) (λ e. (rows.inside p q e).1) ((joined q).0 i);
        forced = λ c two.
            let f = s.forced c two in
            record {
              as_first = f.as_first;
              other =
                  λ q i. ⊎_elim (f.other q)
                  (λ e z. two p q (rows.inside p q e).0 (rows.inside p q e).1 e (f.as_first p h ∙ sym z)) ((joined q).0 i);
            };
        done = λ q l i. ⊎_elim
            (λ e. inl (subst (Has light) (sym e) h, λ r t. (joined r).1 (inr (subst (λ (x : ℕ). Edge g x r) e t))))
            (λ k. ⊎_elim (λ w. inl (w.0, λ r t. (joined r).1 (inl (w.1 r t)))) (λ w. inr ((joined q).1 (inl w.0), w.1)) (s.done q l k))
            (gone q i);
      }
    where
      joined : (q : ℕ) → Has (bit_or dark (get_or g p 0)) q ↔ (Has dark q ⊎ Has (get_or g p 0) q)
      joined = has_or dark (get_or g p 0)

  pub painting_dark : Has dark p → Painting g n (bit_or light (get_or g p 0)) dark rest'
  painting_dark h =
      record {
        first = (joined 0).1 (inl s.first);
        light_below = λ q i. ⊎_elim (s.light_below q) (λ e. (rows.inside p q e).1) ((joined q).0 i);
        dark_below = s.dark_below;
        forced = λ c two.
            let f = s.forced c two in
            record {
              as_first =
                  λ q i. ⊎_elim (f.as_first q)
                  (λ e. third_colour (c q) (c p) (c 0)
                  (λ z. two p q (rows.inside p q e).0 (rows.inside p q e).1 e (sym z)) (f.other p h))
                  ((joined q).0 i);
              other = f.other;
            };
        done = λ q l i. ⊎_elim
            (λ e. inr (subst (Has dark) (sym e) h, λ r t. (joined r).1 (inr (subst (λ (x : ℕ). Edge g x r) e t))))
            (λ k. ⊎_elim (λ w. inl ((joined q).1 (inl w.0), w.1)) (λ w. inr (w.0, λ r t. (joined r).1 (inl (w.1 r t)))) (s.done q l k))
            (gone q i);
      }
    where
      joined : (q : ℕ) → Has (bit_or light (get_or g p 0)) q ↔ (Has light q ⊎ Has (get_or g p 0) q)
      joined = has_or light (get_or g p 0)

module _ (g : List ℕ) (n : ℕ) (some : 0 < n) (connected : Connected n (Edge g)) (light dark rest : ℕ) (s : Painting g n light dark rest)
    (none : bit_and (bit_or light dark) rest ≡ 0) where
  abbrev Coloured_one : ℕ → Type 0
  Coloured_one p = Has light p ⊎ Has dark p

  -- a position with a colour is no more in the rest
  all-round : (p : ℕ) → Coloured_one p
      → (Has light p × ((q : ℕ) → Edge g p q → Has dark q)) ⊎ (Has dark p × ((q : ℕ) → Edge g p q → Has light q))
  all-round p h =
      s.done p (⊎_elim (s.light_below p) (s.dark_below p) h)
      (λ r. has_none p (subst (λ (x : ℕ). Has x p) none ((has_and (bit_or light dark) rest p).1 ((has_or light dark p).1 h, r))))

  along : {p q k : ℕ} → Walk (Edge g) (Below n) p q k → Coloured_one p → Coloured_one q
  along (alone l) h = h
  along (step {a = p} {b = m} l e w) h =
      along w (⊎_elim (λ t. inr (t.1 m e)) (λ t. inl (t.1 m e)) (all-round p h))

  pub painting_done : (p : ℕ) → p < n → Coloured_one p
  painting_done p l = along (connected 0 p some l).walk (inl s.first)

  module _ (apart : bit_and light dark ≡ 0) where
    never_both : (p : ℕ) → Has light p → Has dark p → ⊥
    never_both p h k = has_none p (subst (λ (x : ℕ). Has x p) apart ((has_and light dark p).1 (h, k)))

    off : (p : ℕ) → Has dark p → is_in light p ≡ false
    off p h = ne_eqb (bit light p) 1 (λ e. never_both p e h)

    on : (p : ℕ) → Has light p → is_in light p ≡ true
    on p h = eq-eqb (bit light p) 1 h

    pub painting_two : TwoColours n (Edge g) (is_in light)
    painting_two a b la lb e same =
        ⊎_elim
        (λ t. false≢true (sym (off b (t.1 b e)) ∙ sym same ∙ on a t.0))
        (λ t. false≢true (sym (off a t.0) ∙ same ∙ on b (t.1 b e)))
        (all-round a (painting_done a la))

  pub painting_none : (bit_and light dark ≡ 0 → ⊥) → Coloured n (Edge g) → ⊥
  painting_none both k =
      let w = has_some (bit_and light dark) (omega arith) in
      let t = (has_and light dark w.0).0 w.1 in
      let f = s.forced k.colour k.joins_both in
      f.other w.0 t.1 (f.as_first w.0 t.0)
