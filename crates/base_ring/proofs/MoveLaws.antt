-- Laws of a few moves one after another.
--
--     passed-by             a rack moved to x, and from there on
--     swap-first, swap-second, swap_third    what the three parts of a swap ask for, each after those before it
--     swap-done             the three parts
--     fits_by               room after a rack moved to x and from there on, whatever the rows are
-- Assumes nothing.
use Prim.Native.Nat.{ℕ, ◌+◌, ◌-◌, ◌^◌, ◌<◌}
use mathlib.Core.Path.{sym, ap, subst, ◌∙◌}
use mathlib.Core.List.{List}
use mathlib.Core.Logic.{◌≢◌, by_cases}
use native.Mathlib.Decide.{ℕ_discrete}
use lib.ListN.{replicate, get_or-replicate}
use Rattle.sets.specs.Sets.{Has}
use Rattle.sets.proofs.SetLaws.{has_first}
use Rattle.graph.specs.Rows.{row, Edge}
use Rattle.moving.specs.declared.State.{State}
use Rattle.moving.specs.Journey.{Fits, JourneyOn}
use Rattle.moving.specs.OnePlace.{Passed}
use Rattle.moving.proofs.JourneyLaws.{fits_then}
use Rattle.base_ring.specs.Swap.{PassableBy, JoinsBy, Swappable, Swapped}

pub passed-by : {h i k : ℕ → ℕ} {a x b : ℕ} → PassableBy a x b h → Passed a x h i → Passed x b i k → Passed a b h k
passed-by {h} {i} {k} {a} {x} {b} p m n =
    let a_x : a ≢ x = λ e. p.held (ap h e ∙ p.free) in
    record {
      left = n.others a a_x p.other ∙ m.left;
      entered = n.entered ∙ m.entered;
      others = λ q qa qb. by_cases (ℕ_discrete q x)
          (λ e. ap k e ∙ n.left ∙ sym (ap h e ∙ p.free))
          (λ e. n.others q e qb ∙ m.others q qa e);
    }

-- The racks at a and b are exchanged by way of x: a to v, b to a, v to b.
module _ {h : ℕ → ℕ} {x a v b : ℕ} (s : Swappable x a v b h) where
  x_a : x ≢ a
  x_a e = s.held (ap h (sym e) ∙ s.free)

  x_b : x ≢ b
  x_b e = s.held_too (ap h (sym e) ∙ s.free)

  pub swap-first : PassableBy a x v h
  swap-first =
      record {
        leaves = s.first;
        passes = s.passes;
        enters = s.waits;
        other = s.a_v;
        beside = s.x_v;
        held = s.held;
        free = s.free;
        vacant = s.vacant;
      }

  module _ {i : ℕ → ℕ} (m : Passed a v h i) where
    pub swap-second : PassableBy b x a i
    swap-second =
        record {
          leaves = s.second;
          passes = s.passes;
          enters = s.first;
          other = λ e. s.a_b (sym e);
          beside = x_a;
          held = λ e. s.held_too (sym (m.others b (λ z. s.a_b (sym z)) (λ z. s.v_b (sym z))) ∙ e);
          free = m.others x x_a s.x_v ∙ s.free;
          vacant = m.left;
        }

    module _ {j : ℕ → ℕ} (n : Passed b a i j) where
      v_a : v ≢ a
      v_a e = s.a_v (sym e)

      pub swap_third : PassableBy v x b j
      swap_third =
          record {
            leaves = s.waits;
            passes = s.passes;
            enters = s.second;
            other = s.v_b;
            beside = x_b;
            held = λ e. s.held (sym m.entered ∙ sym (n.others v s.v_b v_a) ∙ e);
            free = n.others x x_b x_a ∙ m.others x x_a s.x_v ∙ s.free;
            vacant = n.left;
          }

      pub swap-done : {k : ℕ → ℕ} → Passed v b j k → Swapped a b h k
      swap-done {k} o =
          record {
            first =
                o.others a s.a_v s.a_b ∙ n.entered ∙ m.others b (λ e. s.a_b (sym e)) (λ e. s.v_b (sym e));
            second = o.entered ∙ n.others v s.v_b v_a ∙ m.entered;
            others = λ p pa pb. by_cases (ℕ_discrete p v)
                (λ e. ap k e ∙ o.left ∙ sym (ap h e ∙ s.vacant))
                (λ e. o.others p e pb ∙ n.others p pb pa ∙ m.others p pa e);
          }

-- Rows with an edge from each position to each, so that what holds of moves along edges of any rows holds of some.
edge_of : (a b : ℕ) → a < 64 → b < 64 → Edge (replicate 64 (2 ^ 64 - 1)) a b
edge_of a b ha hb = subst (λ (s : ℕ). Has s b) (sym (get_or-replicate 64 a (2 ^ 64 - 1) 0 ha)) ((has_first 64 b).1 hb)

pub fits_by : {s s' : State} {l t l' t' : List ℕ} {a x b : ℕ} (d : ℕ) → PassableBy a x b (row s.racks) → Fits s l t (2 + d)
    → JourneyOn (JoinsBy a x b) 2 s l t s' l' t' → Fits s' l' t' d
fits_by {a = a} {x = x} {b = b} d p f made =
    fits_then f
    (made (replicate 64 (2 ^ 64 - 1))
    (record { there = edge_of a x p.leaves p.passes; on = edge_of x b p.passes p.enters }))
