-- How a season is gone through, pair by pair.
--
--     no_order, no_timetable, pair_found    what finding a pair tells, by where it stops
--     order_room, within                    and that it stays inside
--     count_accepted, count_refused         the totals with one pair more, by the checker's verdict
--     within_accepted, within_refused       and how large they can be
--     parallelism_of                        the quotient, where there are steps
--     season_over, season_full, season_cut, season_next    the answer for what is left, by what it begins with
--     order_is, timetable_is, behind_is     the parts of a pair that was found
--     Left s t q at                         what is left of the season s behind q pairs of the totals t, which end at byte `at`
--     begins, over, full, cut, next         the same of it: at the start, at the end, with too many pairs, cut short, and a pair further
-- Assumes nothing.
use Prim.Native.Nat.{ℕ, zero, suc, ◌+◌, ◌-◌, ◌*◌, ◌/◌, ◌^◌, ◌≤◌, ◌<◌}
use mathlib.Core.Path.{◌≡◌, refl, sym, ap, ap₂, subst, ◌∙◌}
use mathlib.Core.Bool.{true, false, or-true}
use mathlib.Core.List.{List, [], ◌∷◌}
use native.Mathlib.Numerals.{add-one}
use native.Mathlib.Decide.{dec_le}
use native.Mathlib.Nat.{lt_of_not-le}
use native.Mathlib.Omega.{arith}
use borrow.Author.Tests.{eq-eqb, ne_eqb}
use lib.ListN.{length, take, drop, length-drop}
use lib.Seq.{drop-drop}
use lib.Dec.{eqb}
use Rattle.std.specs.Prelude.{None, Some}
use Rattle.answers.specs.Answer.{Answer, accepted, refused}
use Rattle.answers.specs.Found.{found}
use Rattle.answers.proofs.AnswerLaws.{some_found, none_found}
use Rattle.field.proofs.RecordLaws.{rest_is}
use Rattle.order.specs.RecordLength.{whole_order_length}
use Rattle.order.proofs.RecordLengthLaws.{order_length_found}
use Rattle.timetable.specs.RecordLength.{whole_timetable_length}
use Rattle.timetable.specs.Timetable.{timetable_answer}
use Rattle.timetable.proofs.RecordLengthLaws.{timetable-length_found}
use Rattle.season.specs.Season.{pair_order, behind_order, pair_timetable, behind_pair, cut_short, no_totals, counted, parallelism}
use Rattle.season.specs.Season.{reported, season_from, season_answer}
use Rattle.season.specs.Pair.{PairEnds, Within}
use Rattle.season.specs.declared.Totals.{Totals}

-- the part of a byte string from byte k on, as a part `&s[k..]` has it
abbrev pub from : ℕ → List ℕ → List ℕ
from k s = take (length s - k) (drop k s)

pub order_inside : (s : List ℕ) → whole_order_length s ≤ length s
order_inside s = elim (dec_le 1 (whole_order_length s)) [
  | yes h ↦ ((order_length_found s).some h).0
  | no f ↦ let z = lt_of_not-le f in omega arith
]

pub timetable_inside : (s : List ℕ) → whole_timetable_length s ≤ length s
timetable_inside s = elim (dec_le 1 (whole_timetable_length s)) [
  | yes h ↦ ((timetable-length_found s).some h).0
  | no f ↦ let z = lt_of_not-le f in omega arith
]

module _ (s : List ℕ) where
  pub no_order : None ≡ found (whole_order_length s) → cut_short s ≡ true
  unfolding cut_short
  no_order e = rw (eq-eqb (whole_order_length s) 0 (none_found _ e)) refl

  module _ (a : ℕ) (is : Some a ≡ found (whole_order_length s)) where
    order_ends : a ≡ whole_order_length s
    order_ends = (some_found _ _ is).0

    pub order_room : a ≤ length s
    order_room = rw order_ends (order_inside s)

    rest : from a s ≡ behind_order s
    unfolding behind_order
    rest = rest_is a s ∙ ap (λ (k : ℕ). drop k s) order_ends

    pub no_timetable : None ≡ found (whole_timetable_length (from a s)) → cut_short s ≡ true
    unfolding cut_short
    no_timetable e =
        let none : whole_timetable_length (behind_order s) ≡ 0 = ap whole_timetable_length (sym rest) ∙ none_found _ e in
        rw (eq-eqb (whole_timetable_length (behind_order s)) 0 none) (or-true (eqb (whole_order_length s) 0))

    module _ (t : ℕ) (ends : Some t ≡ found (whole_timetable_length (from a s))) where
      length_is : t ≡ whole_timetable_length (behind_order s)
      length_is = (some_found _ _ ends).0 ∙ ap whole_timetable_length rest

      pub within : a + t ≤ length s
      within = omega (arith, order_room, (some_found _ _ ends).0, timetable_inside (from a s), ap length (rest_is a s), length-drop a s)

      pub pair_found : PairEnds s a (a + t)
      pair_found =
          let some = (some_found _ _ is).1 in
          let more = (some_found _ _ ends).1 in
          record {
            some = omega (arith, order_ends);
            whole = unfold cut_short in
                rw (
                  ne_eqb (whole_order_length s) 0 (λ z. omega (arith, order_ends)),
                  ne_eqb (whole_timetable_length (behind_order s)) 0 (λ z. omega (arith, length_is, (some_found _ _ ends).0)),
                )
                refl;
            order_ends = order_ends;
            timetable_ends = ap (λ (k : ℕ). a + k) length_is;
            ordered = omega arith;
            inside = within;
          }

module _ (t : Totals) {answer : Answer} where
  pub count_accepted : {n m : ℕ} → accepted (n ∷ m ∷ []) ≡ answer
      → record { accepted = t.accepted + 1; refused = t.refused; steps = t.steps + n; moves = t.moves + m } ≡ counted t answer
  unfolding counted
  count_accepted e = ap (counted t) e

  pub count_refused : {number place : ℕ} → refused number place ≡ answer
      → record { accepted = t.accepted; refused = t.refused + 1; steps = t.steps; moves = t.moves } ≡ counted t answer
  unfolding counted
  count_refused e = ap (counted t) e

module _ (q : ℕ) (t : Totals) (w : Within q t) where
  pub within_accepted : (n m : ℕ) → n < 2 ^ 22 → m < 2 ^ 30
      → Within (q + 1) (record { accepted = t.accepted + 1; refused = t.refused; steps = t.steps + n; moves = t.moves + m })
  within_accepted n m f g =
      let p = w.pairs in
      let a = w.steps in
      let b = w.moves in
      record { pairs = omega arith; steps = omega arith; moves = omega arith }

  pub within_refused : Within (q + 1) (record { accepted = t.accepted; refused = t.refused + 1; steps = t.steps; moves = t.moves })
  within_refused =
      let p = w.pairs in
      let a = w.steps in
      let b = w.moves in
      record { pairs = omega arith; steps = omega arith; moves = omega arith }

pub parallelism_of : (steps moves : ℕ) → (steps ≡ 0 → ⊥) → 1000 * moves / steps ∷ [] ≡ parallelism steps moves
unfolding parallelism
parallelism_of zero moves d = absurd (d refl)
parallelism_of (suc steps) moves d = refl

pub season_over : (k q : ℕ) (t : Totals) (s : List ℕ) → length s ≡ 0 → season_from k q t s ≡ accepted (reported t)
unfolding season_from
season_over zero q t [] z = refl
season_over (suc k) q t [] z = refl
season_over k q t (b ∷ s) z = absurd (omega arith)

pub season_full : (q : ℕ) (t : Totals) (s : List ℕ) → 0 < length s → season_from 0 q t s ≡ refused 47 q
unfolding season_from
season_full q t [] h = absurd (omega arith)
season_full q t (b ∷ s) h = refl

pub season_cut : (k q : ℕ) (t : Totals) (s : List ℕ) → 0 < length s → cut_short s ≡ true → season_from (suc k) q t s ≡ refused 46 (suc q)
unfolding season_from
season_cut k q t [] h c = absurd (omega arith)
season_cut k q t (b ∷ s) h c = rw c refl

pub season_next : (k q : ℕ) (t : Totals) (s : List ℕ) → 0 < length s → cut_short s ≡ false
    → season_from (suc k) q t s ≡ season_from k (suc q) (counted t (timetable_answer (pair_order s) (pair_timetable s))) (behind_pair s)
unfolding season_from
season_next k q t [] h c = absurd (omega arith)
season_next k q t (b ∷ s) h c = rw c refl

-- the parts of a pair that was found
module _ (s : List ℕ) {a e : ℕ} (p : PairEnds s a e) where
  behind_order_lem : drop a s ≡ behind_order s
  behind_order_lem = unfold behind_order in ap (λ (k : ℕ). drop k s) p.order_ends

  size : e - a ≡ whole_timetable_length (behind_order s)
  size = let ends = p.timetable_ends in omega arith

  pub order_is : take a s ≡ pair_order s
  order_is = unfold pair_order in ap (λ (k : ℕ). take k s) p.order_ends

  pub timetable_is : take (e - a) (drop a s) ≡ pair_timetable s
  timetable_is = unfold pair_timetable in ap₂ take size behind_order_lem

  pub behind_is : drop e s ≡ behind_pair s
  behind_is =
      let o = p.ordered in
      let all : a + (e - a) ≡ e = omega arith in
      let one : drop (e - a) (drop a s) ≡ drop e s = drop-drop (e - a) a s ∙ ap (λ (k : ℕ). drop k s) all in
      let two : drop (e - a) (drop a s) ≡ behind_pair s = unfold behind_pair in ap₂ drop size behind_order_lem in
      sym one ∙ two

pub record Left (s : List ℕ) (t : Totals) (q at : ℕ) : Type 0 where
  pub few : q ≤ 65535
  pub inside : at ≤ length s
  pub within : Within q t
  pub answers : season_from (65535 - q) q t (drop at s) ≡ season_answer s

pub begins : (s : List ℕ) → Left s (record { accepted = 0; refused = 0; steps = 0; moves = 0 }) 0 0
unfolding season_answer no_totals
begins s = record {
  few = omega arith;
  inside = omega arith;
  within = record { pairs = refl; steps = omega arith; moves = omega arith };
  answers = refl;
}

module _ {s : List ℕ} {t : Totals} {q at : ℕ} (l : Left s t q at) where
  pub over : length s ≤ at → {p : List ℕ} → p ≡ parallelism t.steps t.moves
      → accepted (t.accepted ∷ t.refused ∷ t.steps ∷ t.moves ∷ p) ≡ season_answer s
  over h e =
      let i = l.inside in
      ap (λ (p : List ℕ). accepted (t.accepted ∷ t.refused ∷ t.steps ∷ t.moves ∷ p)) e
      ∙ sym (season_over (65535 - q) q t (drop at s) (length-drop at s ∙ omega arith))
      ∙ l.answers

  -- what the parallelism is computed from
  pub thousandfold : 1000 * t.moves < 2 ^ 64
  thousandfold =
      let f = l.few in
      let w = l.within.moves in
      omega arith

  module _ (h : at < length s) where
    some : 0 < length (drop at s)
    some = omega (arith, length-drop at s)

    pub full : q ≡ 65535 → refused 47 65535 ≡ season_answer s
    full e =
        let none : 65535 - q ≡ 0 = omega arith in
        ap (refused 47) (sym e)
        ∙ sym (season_full q t (drop at s) some)
        ∙ subst (λ (k : ℕ). season_from k q t (drop at s) ≡ season_answer s) none l.answers

    module _ (d : q ≡ 65535 → ⊥) where
      turn : season_from (suc (65535 - (q + 1))) q t (drop at s) ≡ season_answer s
      turn =
          let f = l.few in
          let k : 65535 - q ≡ suc (65535 - (q + 1)) = omega arith in
          subst (λ (k : ℕ). season_from k q t (drop at s) ≡ season_answer s) k l.answers

      pub cut : cut_short (from at s) ≡ true → refused 46 (q + 1) ≡ season_answer s
      cut z =
          ap (refused 46) (add-one q)
          ∙ sym (season_cut (65535 - (q + 1)) q t (drop at s) some (ap cut_short (sym (rest_is at s)) ∙ z))
          ∙ turn

      module _ {a e : ℕ} (p : PairEnds (from at s) a e) where
        there : PairEnds (drop at s) a e
        there = subst (λ (r : List ℕ). PairEnds r a e) (rest_is at s) p

        pub next : (r : Totals) → Within (q + 1) r
            → r ≡ counted t (timetable_answer (take a (from at s)) (take (e - a) (drop a (from at s)))) → Left s r (q + 1) (at + e)
        next r w is = record {
          few = let f = l.few in omega arith;
          inside = omega (arith, there.inside, length-drop at s);
          within = w;
          answers =
              ap (λ (k : ℕ). season_from (65535 - (q + 1)) k r (drop (at + e) s)) (add-one q)
              ∙ ap₂ (season_from (65535 - (q + 1)) (suc q)) same behind
              ∙ sym (season_next (65535 - (q + 1)) q t (drop at s) some there.whole)
              ∙ turn;
        }
          where
            same : r ≡ counted t (timetable_answer (pair_order (drop at s)) (pair_timetable (drop at s)))
            same =
                (rw (rest_is at s) at is)
                ∙ ap₂ (λ (x y : List ℕ). counted t (timetable_answer x y)) (order_is (drop at s) there) (timetable_is (drop at s) there)

            behind : drop (at + e) s ≡ behind_pair (drop at s)
            behind = sym (drop-drop e at s) ∙ behind_is (drop at s) there
