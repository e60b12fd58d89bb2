-- The layers of the short order's judge: its answer from what the code's calls and tests leave.
--
--     not_length, not_spare, pad_room, not_pad, well_packed    50, from the second byte and the pad
--     ShortHead s x b, read_head    x and b are the two bytes of the head
--     Known s x, known_model   what 51 leaves
--     judged_50, passed_50, judged_none, judged_many    50 and 51
--     racks_room, judged-racks    14
--     judged_short             52
--     judged_sound             accepted, with the length of the full record
-- Assumes nothing.
use mir.Val.{Fits}
use mir.Syntax.{w8}
use Prim.Native.Nat.{ℕ, ◌+◌, ◌-◌, ◌*◌, ◌/◌, ◌%◌, ◌≤◌, ◌<◌}
use mathlib.Core.Path.{◌≡◌, refl, sym, ap, ap₂, subst, ◌∙◌}
use mathlib.Core.Bool.{Bool, true, false, not}
use mathlib.Core.List.{List, [], ◌∷◌}
use native.Mathlib.Omega.{arith}
use borrow.Author.Tests.{not-false, not-true}
use lib.ListN.{length, get_or, take, drop, length-drop}
use Rattle.answers.specs.Answer.{accepted, refused}
use Rattle.field.specs.Bits.{field, pad}
use Rattle.field.proofs.BitLaws.{field_lt}
use Rattle.field.proofs.RecordLaws.{rest_is}
use Rattle.order.specs.Order.{wrong_racks}
use Rattle.order.specs.Readers.{RacksJudged}
use Rattle.models.specs.Grid.{rows_of, columns_of, unknown_model, grid, model_floor}
use Rattle.models.specs.ShortOrder.{model_code, short_racks, wrong_short}
use Rattle.models.specs.Expansion.{full_order, expanded, expand_answer}
use Rattle.models.specs.Writing.{SizeOf}
use Rattle.models.proofs.GridLaws.{known_is, unknown_zero, unknown_many}
use Rattle.models.proofs.ExpansionLaws.{model_is, racks_is, spare_is}
use Rattle.models.proofs.ExpansionLaws.{short_fits, wrong_length_lem, spare_set, pad-set, packed}
use Rattle.models.proofs.ExpansionLaws.{tail-pad, tail_room, tail-starts, tail-goals, length-expanded}
use Rattle.models.proofs.ExpansionLaws.{meets_50, no_model, bad_racks, too_long, sound}

module _ (s : List ℕ) where
  abbrev tail : List ℕ
  tail = take (length s - 2) (drop 2 s)

  module _ (b : ℕ) (two : 2 ≤ length s) (is : b ≡ get_or s 1 0) (byte : b < 256) where
    racks : b / 2 ≡ short_racks s
    racks = let r = racks_is s two (omega arith) in omega arith

    pub not_length : (length s ≡ 2 + (12 * (b / 2) + 7) / 8 → ⊥) → false ≡ not (wrong_short s)
    not_length d = wrong_length_lem s (λ e. let r = racks in d (rw r e))

    pub not_spare : (b % 2 ≡ 0 → ⊥) → false ≡ not (wrong_short s)
    not_spare d = spare_set s (λ e. let r = spare_is s two in d (omega arith))

    module _ (long : length s ≡ 2 + (12 * (b / 2) + 7) / 8) where
      -- 2 × m positions
      twice : 6 * (2 * (b / 2)) ≡ 12 * (b / 2)
      twice = omega arith

      pub pad_room : 6 * (2 * (b / 2)) + pad (6 * (2 * (b / 2))) ≤ 8 * length tail
      pad_room = rw twice (tail_room s (b / 2) racks long)

      module _ (p : ℕ) (at : p ≡ field tail (6 * (2 * (b / 2))) (pad (6 * (2 * (b / 2))))) where
        pad_is : p ≡ field s (16 + 12 * short_racks s) (pad (12 * short_racks s))
        pad_is = at ∙ ap (λ (k : ℕ). field tail k (pad k)) twice ∙ tail-pad s (b / 2) racks

        pub not_pad : (p ≡ 0 → ⊥) → false ≡ not (wrong_short s)
        not_pad d = pad-set s (λ e. d (pad_is ∙ e))

        pub well_packed : b % 2 ≡ 0 → p ≡ 0 → true ≡ not (wrong_short s)
        well_packed spare none =
            let r = racks in
            let bit = spare_is s two in
            packed s
            (record {
              head_there = two;
              length_is = rw (← r) long;
              spare_clear = omega arith;
              pad_clear = sym pad_is ∙ none;
            })

pub record ShortHead (s : List ℕ) (x b : ℕ) : Type 0 where
  pub model_byte : x ≡ get_or s 0 0
  pub model_small : x < 256
  pub racks_byte : b ≡ get_or s 1 0
  pub racks_small : b < 256

pub read_head : {s : List ℕ} {x b : ℕ} → ((i : ℕ) → Fits w8 (get_or s i 0)) → x ≡ get_or s 0 0 → b ≡ get_or s 1 0 → ShortHead s x b
read_head bytes m r =
    record {
      model_byte = m;
      model_small = omega (arith, bytes 0);
      racks_byte = r;
      racks_small = omega (arith, bytes 1);
    }

-- the order passed 50, and its model is in the table
pub record Known (s : List ℕ) (x m : ℕ) : Type 0 where
  pub right : wrong_short s ≡ false
  pub model : x ≡ model_code s
  pub racks : m ≡ short_racks s
  pub known : unknown_model x ≡ false

-- n₀ is how many bytes are lent
module _ (n₀ : ℕ) (s : List ℕ) (w : Bool) (t : w ≡ not (wrong_short s)) where
  pub judged_50 : w ≡ false → refused 50 0 ≡ expand_answer s n₀
  judged_50 e = meets_50 s n₀ (sym e ∙ t)

  pub passed_50 : w ≡ true → wrong_short s ≡ false
  passed_50 o = not-true (wrong_short s) (sym t ∙ o)

module _ (n₀ : ℕ) {s : List ℕ} {x b : ℕ} (right : wrong_short s ≡ false) (h : ShortHead s x b) where
  there : 2 ≤ length s
  there = (short_fits s right).head_there

  code : x ≡ model_code s
  code =
      let l = there in
      let byte = h.model_byte in
      let small = h.model_small in
      let r = model_is s l (omega arith) in
      omega arith

  pub judged_none : x ≡ 0 → refused 51 0 ≡ expand_answer s n₀
  judged_none e = no_model s n₀ right (subst (λ (k : ℕ). unknown_model k ≡ true) code (unknown_zero x e))

  pub judged_many : 5 < x → refused 51 0 ≡ expand_answer s n₀
  judged_many l = no_model s n₀ right (subst (λ (k : ℕ). unknown_model k ≡ true) code (unknown_many x l))

  pub known_model : (x ≡ 0 → ⊥) → x ≤ 5 → Known s x (b / 2)
  known_model d l =
      record {
        right = right;
        model = code;
        racks = racks s b there h.racks_byte h.racks_small;
        known = known_is x d l;
      }

module _ (n₀ : ℕ) {s : List ℕ} {x m : ℕ} (k : Known s x m) {r c : ℕ} (size : SizeOf x r c) where
  known : unknown_model (model_code s) ≡ false
  known = subst (λ (y : ℕ). unknown_model y ≡ false) k.model k.known

  positions_are : r * c ≡ (model_floor (model_code s)).positions
  unfolding model_floor grid
  positions_are =
      ap₂ ◌*◌ size.rows_are size.columns_are ∙ ap (λ (y : ℕ). rows_of y * columns_of y) k.model

  racks_there : 12 * m ≤ 8 * length (take (length s - 2) (drop 2 s))
  racks_there =
      let l = (short_fits s k.right).length_is in
      let n = k.racks in
      rw (rest_is 2 s, length-drop 2 s) (omega arith)

  pub racks_room : (r * c ≤ 64) × (m < 128) × (12 * (0 + m) ≤ 8 * length (take (length s - 2) (drop 2 s)))
  racks_room =
      let l = racks_there in
      let is = k.racks in
      let few : short_racks s < 128 = unfold short_racks in field_lt s 8 7 in
      (size.few, omega arith, omega arith)

  module _ {p : Bool} {h₀ h₁ : List ℕ} (u : RacksJudged (take (length s - 2) (drop 2 s)) (r * c) 0 m p h₀ h₁) where
    racks_test : p ≡ not (wrong_racks (full_order s))
    unfolding wrong_racks full_order
    racks_test =
        let at : 6 * (2 * 0 + m) ≡ 6 * m = omega arith in
        u.judged
        ∙ rw (at, positions_are, tail-starts s m k.racks, tail-goals s m k.racks) refl

    pub judged-racks : p ≡ false → refused 14 0 ≡ expand_answer s n₀
    judged-racks e = bad_racks s n₀ k.right known (not-false _ (sym racks_test ∙ e))

    module _ (e : p ≡ true) where
      long : 3 + (12 * (2 * (r * c) - (r + c) + m) + 7) / 8 ≡ length (expanded s)
      long =
          let count = size.edges_are in
          let same : length (model_floor x).edges ≡ length (model_floor (model_code s)).edges =
          ap (λ (y : ℕ). length (model_floor y).edges) k.model in
          let edges : 2 * (r * c) - (r + c) ≡ length (model_floor (model_code s)).edges = omega arith in
          rw (edges, k.racks) (sym (length-expanded s))

      right-racks : wrong_racks (full_order s) ≡ false
      right-racks = not-true _ (sym racks_test ∙ e)

      pub judged_short : n₀ < 3 + (12 * (2 * (r * c) - (r + c) + m) + 7) / 8 → refused 52 0 ≡ expand_answer s n₀
      judged_short h = too_long s n₀ k.right known _ long right-racks h

      pub judged_sound : 3 + (12 * (2 * (r * c) - (r + c) + m) + 7) / 8 ≤ n₀
          → accepted ((3 + (12 * (2 * (r * c) - (r + c) + m) + 7) / 8) ∷ []) ≡ expand_answer s n₀
      judged_sound h = sound s n₀ k.right known _ long right-racks h
