-- Laws of two colours.
--
--     third_colour         of two colours the one that is not m, where m is not x, is x
--     other_colours        along a walk two colourings change together
--     same-by-all          on a connected floor two positions have the same colour by each colouring or by none
--     contrary_by-all      so a change that is contrary by one colouring is so by each
--     impossible_by        with one colouring at hand: impossible is contrary by it
-- Assumes nothing.
use Prim.Native.Nat.{ℕ, ◌<◌}
use mathlib.Core.Path.{◌≡◌, refl, sym, ◌∙◌}
use mathlib.Core.Bool.{Bool, true, false}
use mathlib.Core.Logic.{◌≢◌, ◌↔◌, inl, inr}
use Rattle.order.specs.Floor.{Floor}
use Rattle.motion.specs.Arrangement.{Arrangement}
use Rattle.graph.specs.Walk.{Walk}
use Rattle.graph.specs.Walk.Walk.{alone, step}
use Rattle.graph.specs.Connected.{Below, Connected}
use Rattle.graph.proofs.WalkLaws.{walk_first}
use Rattle.floor.specs.FloorAnswer.{Joins}
use Rattle.parity.specs.Colours.{TwoColours}
use Rattle.parity.specs.Permutation.{vacancy}
use Rattle.parity.specs.Impossible.{Contrary, Impossible}

pub third_colour : (a m x : Bool) → a ≢ m → m ≢ x → a ≡ x
third_colour true true x d e = absurd (d refl)
third_colour true false true d e = refl
third_colour true false false d e = absurd (e refl)
third_colour false true true d e = absurd (e refl)
third_colour false true false d e = refl
third_colour false false x d e = absurd (d refl)

-- colours that differ from two others, or agree with them
step_colours : (a m x b n y : Bool) → a ≢ m → b ≢ n → ((m ≡ x) ↔ (n ≡ y)) → ((a ≡ x) ↔ (b ≡ y))
step_colours a m x b n y d e h = (
  λ s. third_colour b n y e (λ t. d (s ∙ sym (h.1 t))),
  λ s. third_colour a m x d (λ t. e (s ∙ sym (h.0 t))),
)

module _ {n : ℕ} {E : ℕ → ℕ → Type 0} {c d : ℕ → Bool} (two : TwoColours n E c) (also : TwoColours n E d) where
  pub other_colours : {u v k : ℕ} → Walk E (Below n) u v k → (c u ≡ c v) ↔ (d u ≡ d v)
  other_colours (alone p) = (λ e. refl, λ e. refl)
  other_colours (step {a = u} {b = m} {c = v} p e w) =
      let q = walk_first w in
      step_colours (c u) (c m) (c v) (d u) (d m) (d v) (two u m p q e) (also u m p q e) (other_colours w)

  module _ (connected : Connected n E) where
    pub same-by-all : (u v : ℕ) → u < n → v < n → (c u ≡ c v) ↔ (d u ≡ d v)
    same-by-all u v lu lv = other_colours (connected u v lu lv).walk

    pub contrary_by-all : (S G : Arrangement) → vacancy n S < n → vacancy n G < n → Contrary n S G c → Contrary n S G d
    contrary_by-all S G v w (inl h) = inl (h.0, (same-by-all (vacancy n S) (vacancy n G) v w).0 h.1)
    contrary_by-all S G v w (inr h) = inr (h.0, λ e. h.1 ((same-by-all (vacancy n S) (vacancy n G) v w).1 e))

pub impossible_by : (F : Floor) (S G : Arrangement) → Connected F.positions (Joins F) → vacancy F.positions S < F.positions
    → vacancy F.positions G < F.positions → (c : ℕ → Bool) → TwoColours F.positions (Joins F) c
    → Impossible F S G ↔ Contrary F.positions S G c
impossible_by F S G connected v w c two = (
  λ i. contrary_by-all i.joins_both two connected S G v w i.contrary,
  λ h. record { colour = c; joins_both = two; contrary = h },
)
