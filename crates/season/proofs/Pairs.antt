-- The pairs of a season are the records that it is made of (specs/Theorems.antt).
--
--     one_pair     of every byte string, so that a pair which is whole never meets 10 or 40
--     read-back    a season that begins with two records is reported on pair by pair: this one, and then the rest
-- Assumes nothing.
use Prim.Native.Nat.{ℕ, suc, ◌≤◌, ◌<◌}
use mathlib.Core.Path.{◌≡◌, refl, sym, ap, ap₂, ◌∙◌}
use mathlib.Core.Bool.{false, ◌||◌}
use mathlib.Core.List.{List, ◌++◌}
use native.Mathlib.Decide.{dec_le}
use native.Mathlib.Nat.{lt_of_not-le}
use native.Mathlib.Omega.{arith}
use borrow.Author.Tests.{eqb-false, ne_eqb}
use lib.ListN.{length, take, drop, take-append-drop}
use lib.Seq.{take-append_seam, drop-append_seam}
use lib.Dec.{eqb}
use Rattle.field.proofs.UnitLaws.{or_left, or_right}
use Rattle.order.specs.RecordLength.{whole_order_length}
use Rattle.order.proofs.RecordLengthLaws.{order_length_found}
use Rattle.timetable.specs.RecordLength.{whole_timetable_length}
use Rattle.timetable.specs.Timetable.{timetable_answer}
use Rattle.timetable.proofs.RecordLengthLaws.{timetable-length_found}
use Rattle.season.specs.Season.{pair_order, behind_order, pair_timetable, behind_pair, cut_short, counted, season_from}
use Rattle.season.specs.Theorems.{BeginsWith, OnePair}
use Rattle.season.specs.declared.Totals.{Totals}
use Rattle.season.proofs.SeasonLaws.{season_next}

some : (n : ℕ) → eqb n 0 ≡ false → 1 ≤ n
some n f = elim (dec_le 1 n) [
  | yes h ↦ h
  | no g ↦ let z = lt_of_not-le g in absurd (eqb-false n 0 f (omega arith))
]

module _ (s : List ℕ) where
  module _ (w : cut_short s ≡ false) where
    apart : (eqb (whole_order_length s) 0 ≡ false) × (eqb (whole_timetable_length (behind_order s)) 0 ≡ false)
    apart =
        let both : eqb (whole_order_length s) 0 || eqb (whole_timetable_length (behind_order s)) 0 ≡ false = unfold cut_short in w in
        (or_left _ _ both, or_right (eqb (whole_order_length s) 0) _ both)

    begins : BeginsWith s (pair_order s) (pair_timetable s) (behind_pair s)
    unfolding pair_order pair_timetable behind_pair behind_order
    begins =
        let o = whole_order_length s in
        let rest = drop o s in
        record {
          is = sym (ap (λ (r : List ℕ). take o s ++ r) (take-append-drop (whole_timetable_length rest) rest) ∙ take-append-drop o s);
          order_right = ((order_length_found s).some (some _ apart.0)).1;
          timetable_right = ((timetable-length_found rest).some (some _ apart.1)).1;
        }

  module _ (o t rest : List ℕ) (b : BeginsWith s o t rest) where
    order_length_lem : whole_order_length s ≡ length o
    order_length_lem = (order_length_found s).only o (t ++ rest) b.is b.order_right

    behind : behind_order s ≡ t ++ rest
    unfolding behind_order
    behind = ap₂ drop order_length_lem b.is ∙ drop-append_seam o (t ++ rest)

    timetable-length : whole_timetable_length (behind_order s) ≡ length t
    timetable-length = (timetable-length_found (behind_order s)).only t rest behind b.timetable_right

    whole : cut_short s ≡ false
    unfolding cut_short
    whole =
        rw (
          ne_eqb (whole_order_length s) 0 (λ z. (order_length_found s).none z o (t ++ rest) b.is b.order_right),
          ne_eqb (whole_timetable_length (behind_order s)) 0
              (λ z. (timetable-length_found (behind_order s)).none z t rest behind b.timetable_right),
        )
        refl

    order_is : pair_order s ≡ o
    unfolding pair_order
    order_is = ap₂ take order_length_lem b.is ∙ take-append_seam o (t ++ rest)

    timetable_is : pair_timetable s ≡ t
    unfolding pair_timetable
    timetable_is = ap₂ take timetable-length behind ∙ take-append_seam t rest

    rest_is : behind_pair s ≡ rest
    unfolding behind_pair
    rest_is = ap₂ drop timetable-length behind ∙ drop-append_seam t rest

  pub one_pair : OnePair s
  one_pair =
      record {
        found = begins;
        only = λ o t rest b. (whole o t rest b, order_is o t rest b, timetable_is o t rest b, rest_is o t rest b);
      }

pub read_back : (k q : ℕ) (u : Totals) (s o t rest : List ℕ) → 0 < length s → BeginsWith s o t rest
    → season_from (suc k) q u s ≡ season_from k (suc q) (counted u (timetable_answer o t)) rest
read_back k q u s o t rest h b =
    season_next k q u s h (whole s o t rest b)
    ∙ ap₂ (season_from k (suc q))
    (ap₂ (λ (x y : List ℕ). counted u (timetable_answer x y)) (order_is s o t rest b) (timetable_is s o t rest b))
    (rest_is s o t rest b)
