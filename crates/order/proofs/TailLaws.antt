-- The order's tail, the part of the record from its fourth byte on: where its edges, starts and goals stand in it, for layers that are
-- handed the tail as a part `&order[3..]` and the counts e and m.
--
--     tail_edges, tail-starts, tail-goals    what is read from the tail is what the record describes
--     tail_room                              the tail has room for them
-- Assumes nothing.
use Prim.Native.Nat.{ℕ, ◌+◌, ◌-◌, ◌*◌, ◌≤◌}
use mathlib.Core.Path.{◌≡◌, refl, sym, ap}
use mathlib.Core.List.{List}
use native.Mathlib.Omega.{arith}
use native.Mathlib.Nat.{add_assoc}
use lib.ListN.{length, take, drop}
use Rattle.field.specs.Bits.{pairs, positions}
use Rattle.field.proofs.RecordLaws.{rest_is, pairs-drop, positions-drop}
use Rattle.field.proofs.UnitLaws.{Fitting, tail-units}
use Rattle.order.specs.Order.{edge_count, rack_count, unit_count, floor_of, starts_of, goals_of}

module _ (s : List ℕ) (e m : ℕ) (edges_are : e ≡ edge_count s) (racks_are : m ≡ rack_count s) where
  pub tail_edges : pairs (take (length s - 3) (drop 3 s)) 0 e ≡ (floor_of s).edges
  unfolding floor_of
  tail_edges = rw (rest_is 3 s, ← pairs-drop s 3 0 e, edges_are) refl

  pub tail-starts : positions (take (length s - 3) (drop 3 s)) (6 * (2 * e)) m ≡ starts_of s
  unfolding starts_of
  tail-starts =
      let at : 6 * (2 * e) ≡ 12 * edge_count s = omega arith in
      rw (rest_is 3 s, at, ← positions-drop s 3 (12 * edge_count s) m, racks_are) refl

  pub tail-goals : positions (take (length s - 3) (drop 3 s)) (6 * (2 * e + m)) m ≡ goals_of s
  unfolding goals_of
  tail-goals =
      let at : 6 * (2 * e + m) ≡ 12 * edge_count s + 6 * rack_count s = omega arith in
      rw (rest_is 3 s, at, ← positions-drop s 3 (12 * edge_count s + 6 * rack_count s) m, racks_are)
      (ap (λ (i : ℕ). positions s i (rack_count s)) (sym (add_assoc 24 (12 * edge_count s) (6 * rack_count s))))

  pub tail_room : Fitting s (unit_count s) → 12 * (e + m) ≤ 8 * length (take (length s - 3) (drop 3 s))
  unfolding unit_count
  tail_room fit = omega (arith, tail-units s (unit_count s) fit)
