-- Laws of what specs/Accepted.antt defines.
--
--     places_sound       starts or goals that 14 passes stand at different positions below n
--     WellPlaced o, well_placed   of a well-formed order: few positions, edges and racks of positions below 64, sound starts and goals
--     OrderGave o n e m, order_gave, order_accepted   what the order reader's acceptance with n, e and m tells
--     gave_accepted      and that it accepted
-- Assumes nothing.
use Prim.Native.Nat.{ℕ, ◌+◌, ◌*◌, ◌≤◌}
use mathlib.Core.Path.{◌≡◌, refl, sym, ◌∙◌}
use mathlib.Core.Bool.{false, ◌&&◌}
use mathlib.Core.List.{List, [], ◌∷◌}
use mathlib.Core.Logic.{⊎_elim, ◌≢◌}
use native.Mathlib.Omega.{arith}
use borrow.Author.Tests.{eq-eqb, ne_eqb, leb-false}
use lib.ListN.{length}
use lib.Dec.{T, leb, eqb, ltb, lt→ltb}
use Rattle.answers.specs.Answer.{accepted}
use Rattle.field.specs.Bits.{field}
use Rattle.field.proofs.BitLaws.{field_lt}
use Rattle.field.proofs.RecordLaws.{length-positions, pairs_lt}
use Rattle.field.proofs.UnitLaws.{or_left, or_right, fitting}
use Rattle.order.specs.Floor.{some}
use Rattle.order.specs.Order.{position_count, edge_count, rack_count, floor_of, starts_of, goals_of, order_of, repeats, wrong_places}
use Rattle.order.specs.Order.{wrong_racks, wrong_length, unit_count, counts, order_answer, WellFormed}
use Rattle.order.proofs.OrderLaws.{right_order, formed_head, well_formed}
use Rattle.order.proofs.TailLaws.{tail_room}
use Rattle.motion.specs.Arrangement.{occupied, vacant}
use Rattle.motion.specs.Sound.{Sound}
use Rattle.motion.proofs.SoundLaws.{is_sound, is_sound_sound, sound_length}
use Rattle.motion.proofs.PebbleLaws.{invertible_sound}
use Rattle.motion.proofs.Test.{and_parts, equal?}
use Rattle.tables.specs.Accepted.{WellPlaced, OrderGave}

eqb_comm : (a b : ℕ) → eqb a b ≡ eqb b a
eqb_comm a b =
    ⊎_elim
    (λ (e : a ≡ b). eq-eqb a b e ∙ sym (eq-eqb b a (sym e)))
    (λ (d : a ≢ b). ne_eqb a b d ∙ sym (ne_eqb b a (λ e. d (sym e))))
    (equal? a b)

some-occupied : (p : ℕ) (l : List ℕ) → some (eqb p) l ≡ occupied l p
unfolding some occupied
some-occupied p [] = refl
some-occupied p (q ∷ l) = rw (eqb_comm p q, some-occupied p l)

places-is_sound : (n : ℕ) (l : List ℕ) → some (leb n) l ≡ false → repeats l ≡ false → T (is_sound n l)
unfolding some repeats is_sound vacant
places-is_sound n [] b r = tt
places-is_sound n (p ∷ l) b r = (and_parts (ltb p n && vacant l p) (is_sound n l)).1 (
  (and_parts (ltb p n) (vacant l p)).1 (
    lt→ltb p n (leb-false n p (or_left (leb n p) (some (leb n) l) b)),
    rw (← some-occupied p l, or_left (some (eqb p) l) (repeats l) r) tt,
  ),
  places-is_sound n l (or_right (leb n p) (some (leb n) l) b) (or_right (some (eqb p) l) (repeats l) r),
)

pub places_sound : (n : ℕ) (l : List ℕ) → wrong_places n l ≡ false → Sound n l
unfolding wrong_places
places_sound n l w =
    (is_sound_sound n l).0 (places-is_sound n l (or_left (some (leb n) l) (repeats l) w) (or_right (some (leb n) l) (repeats l) w))

module _ (o : List ℕ) (w : WellFormed o) where
  few : position_count o ≤ 64
  few = (formed_head o w).few_positions

  starts : Sound (position_count o) (starts_of o)
  unfolding wrong_racks order_of floor_of
  starts =
      places_sound (position_count o) (starts_of o)
      (or_left (wrong_places (position_count o) (starts_of o)) (wrong_places (position_count o) (goals_of o)) (right_order o w).racks_right)

  goals : Sound (position_count o) (goals_of o)
  unfolding wrong_racks order_of floor_of
  goals =
      places_sound (position_count o) (goals_of o)
      (or_right (wrong_places (position_count o) (starts_of o)) (wrong_places (position_count o) (goals_of o))
      (right_order o w).racks_right)

  starts-count : length (starts_of o) ≡ rack_count o
  unfolding starts_of
  starts-count = length-positions o (24 + 12 * edge_count o) (rack_count o)

  goals-count : length (goals_of o) ≡ rack_count o
  unfolding goals_of
  goals-count = length-positions o (24 + 12 * edge_count o + 6 * rack_count o) (rack_count o)

  fewer : rack_count o ≤ position_count o
  fewer = omega (arith, sound_length (position_count o) (starts_of o) starts, starts-count)

  pub well_placed : WellPlaced o
  unfolding floor_of
  well_placed =
      record {
        few_positions = few;
        few_racks = omega (arith, few, fewer);
        edges_below = pairs_lt o 24 (edge_count o);
        edges_right = (right_order o w).edges_right;
        starts_sound = starts;
        goals_sound = goals;
        starts_length = starts-count;
        goals_length = goals-count;
        task = record {
          fewer = fewer;
          initial = (invertible_sound (floor_of o) (rack_count o) (starts_of o)).1 (starts-count, starts);
          goal = (invertible_sound (floor_of o) (rack_count o) (goals_of o)).1 (goals-count, goals);
        };
      }

pub order_gave : (o : List ℕ) (n e m : ℕ) → accepted (n ∷ e ∷ m ∷ []) ≡ order_answer o → OrderGave o n e m
unfolding counts floor_of edge_count wrong_length
order_gave o n e m a =
    let w = well_formed o (n ∷ e ∷ m ∷ []) (sym a) in
    let same : accepted (n ∷ e ∷ m ∷ []) ≡ accepted (counts o) = a ∙ w in
    let es : e ≡ field o 7 8 = cc same in
    let ms : m ≡ rack_count o = cc same in
    let g = well_placed o w in
    let fit = fitting o (unit_count o) (right_order o w).length_right in
    record {
      right = w;
      placed_well = g;
      positions_are = cc same;
      edges_are = es;
      racks_are = ms;
      few_edges = omega (arith, field_lt o 7 8);
      few_racks = omega (arith, g.few_racks);
      head_there = fit.head_there;
      room = tail_room o e m es ms fit;
    }

pub order_accepted : {o : List ℕ} {n e m : ℕ} → accepted (n ∷ e ∷ m ∷ []) ≡ order_answer o → OrderGave o n e m
order_accepted told = order_gave _ _ _ _ told

pub gave_accepted : {o : List ℕ} {n e m : ℕ} → OrderGave o n e m → accepted (n ∷ e ∷ m ∷ []) ≡ order_answer o
unfolding counts floor_of
gave_accepted {o} g = rw (g.positions_are, g.edges_are, g.racks_are) (sym g.right)
