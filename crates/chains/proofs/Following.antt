-- The second pass: a chain followed from a mover to the move that it follows, and its train's length kept.
--
--     unvisited_less     a move that is marked is one unvisited move less
--     chain_leads        a move into a vacant position leads: a train of 1
--     chain_on, chain_falls    the chain goes on where the move that leaves p enters, and fewer moves are unvisited
--     chain_ended        a train from there is one move longer from p, and its length is no mark of a chain being followed
--     leaders_next       a loop that marks where a move leads
--     judge              whether each of the moves is led
--     Leading            a loop over a step's moves: what is left to judge decides
--     leading_first, leading_chain    before the first move; a chain may be followed from each move
--     not_led, too_long, leading_next    a move without a leader decides, and so does one whose train is too long; any other leaves
--                        the rest, and who follows it is in a train one move longer
--     leading_last       after the last the answer is yes
-- Assumes nothing.
use Prim.Native.Nat.{ℕ, zero, suc, ◌+◌, ◌-◌, ◌≤◌, ◌<◌}
use mathlib.Core.Path.{◌≡◌, refl, sym, ap, ◌∙◌, subst}
use mathlib.Core.Bool.{Bool, true, false}
use mathlib.Core.List.{List, [], ◌∷◌}
use mathlib.Core.Logic.{⊎_elim, ◌≢◌, dite}
use native.Mathlib.Omega.{arith}
use native.Mathlib.Decide.{dec_lt}
use borrow.Author.Tests.{eq-eqb, ne_eqb}
use native.Mathlib.Numerals.{add-one}
use lib.ListN.{length, get_or, set, length-set, get_or-eq_default}
use lib.Seq.{get_or-set_same, get_or-set_other}
use Rattle.motion.proofs.Test.{equal?}
use Rattle.motion.specs.LegalStep.{longest_train}
use Rattle.motion.specs.Step.{every}
use Rattle.chains.specs.StepOn.{moves_of, led_on, all_led}
use Rattle.tables.specs.Simulation.{Each, each_more}
use Rattle.chains.specs.Chains.{Targets, Taking, Led, leads, follows, Marks, leader_mark, LeadersMarked, NonePassed, Chain, Train}
use Rattle.chains.proofs.ChainsLaws.{unvisited}
use Rattle.chains.proofs.ChainLaws.{led_short, led_on_lem, unled_on, long_on}
use Rattle.chains.proofs.Moves.{Left, left-first, left_at, left-next, left_last}
use Rattle.chains.proofs.Moves.{moves_from, moves_none, moves-length}

pub unvisited_less : (t v : List ℕ) (p : ℕ) → get_or t p 0 ≢ 0 → get_or v p 0 ≡ 0 → p < length v → unvisited t (set v p 255) < unvisited t v
unfolding unvisited
unvisited_less [] v p m f h = absurd (m refl)
unvisited_less (x ∷ t) [] p m f h = absurd (omega arith)
unvisited_less (x ∷ t) (y ∷ v) zero m f h = rw (ne_eqb x 0 m, eq-eqb y 0 f) (omega arith)
unvisited_less (x ∷ t) (y ∷ v) (suc p) m f h = let less = unvisited_less t v p m f (omega arith) in omega arith

-- a train's length as a mark
led-marked : (t h w : List ℕ) (p n : ℕ) → p < 64 → Marks t h w → Led t h n p → Marks t h (set w p n)
led-marked t h w p n room m l =
    record {
      size = length-set w p n ∙ m.size;
      known = λ q x y.
          ⊎_elim
          (λ (s : q ≡ p). subst (λ (i : ℕ). Led t h (get_or (set w p n) i 0) i) (sym s) at_p)
          (λ (d : q ≢ p).
          let same : get_or (set w p n) q 0 ≡ get_or w q 0 = get_or-set_other w p q n 0 d in
          rw same (m.known q (λ z. x (same ∙ z)) (λ z. y (same ∙ z))))
          (equal? q p);
    }
  where
    at_p : Led t h (get_or (set w p n) p 0) p
    at_p = rw (get_or-set_same w p n 0 (omega (arith, m.size))) l

module _ (t h v : List ℕ) (p : ℕ) (chain : Chain t h v p) where
  ended : (n : ℕ) → Led t h n p → Train t h v v p n
  ended n l = record { led = l; marks = chain.marks; passed = λ q e. e }

  pub chain_leads : get_or h p 0 ≡ 0 → Train t h v v p 1
  chain_leads e = ended 1 (leads e)

  module _ (held : get_or h p 0 ≢ 0) where
    module _ (room : p < 64) (fresh : get_or v p 0 ≡ 0) (next : ℕ) (is : next + 1 ≡ get_or t p 0) where
      back : get_or t p 0 - 1 ≡ next
      back = omega (arith, is)

      moves : get_or t p 0 ≢ 0
      moves z = omega (arith, is, z)

      -- what is left of a chain from p is one from where it goes on
      on : {n : ℕ} → Led t h n p → (k : ℕ) × (k < n) × Led t h k next
      on (leads z) = absurd (held z)
      on (follows {n = k} o m l) = (k, omega arith, subst (Led t h k) back l)

      wide : p < length v
      wide = omega (arith, chain.marks.size)

      at_p : get_or (set v p 255) p 0 ≡ 255
      at_p = get_or-set_same v p 255 0 wide

      pub chain_on : Chain t h (set v p 255) next
      chain_on =
          record {
            marks = record {
              size = length-set v p 255 ∙ chain.marks.size;
              known = λ q a b.
                  let away : q ≢ p = λ e. b (ap (λ (i : ℕ). get_or (set v p 255) i 0) e ∙ at_p) in
                  let same : get_or (set v p 255) q 0 ≡ get_or v q 0 = get_or-set_other v p q 255 0 away in
                  rw same (chain.marks.known q (λ e. a (same ∙ e)) (λ e. b (same ∙ e)));
            };
            passed = λ q e n l.
                ⊎_elim
                (λ (s : q ≡ p). on (subst (λ (i : ℕ). Led t h n i) s l))
                (λ (d : q ≢ p).
                let w = chain.passed q (sym (get_or-set_other v p q 255 0 d) ∙ e) n l in
                let u = on w.2 in
                (u.0, omega (arith, w.1, u.1), u.2))
                (equal? q p);
            below = chain.below;
            short = chain.short;
          }

      pub chain_falls : unvisited t (set v p 255) < unvisited t v
      chain_falls = unvisited_less t v p moves fresh wide

      -- the train from where the chain goes on
      module _ (w : List ℕ) (r : ℕ) (train : Train t h (set v p 255) w next r) where
        chain_room : r ≤ 65
        chain_room = chain.short r next train.led

        whole : Led t h (r + 1) p
        whole = rw (add-one r) (follows held moves (subst (Led t h r) (sym back) train.led))

        pub chain_ended : Train t h v (set w p (r + 1)) p (r + 1)
        chain_ended =
            record {
              led = whole;
              marks = led-marked t h w p (r + 1) room train.marks whole;
              passed = λ q z.
                  let away : q ≢ p = λ s. counted z s in
                  sym (get_or-set_other v p q 255 0 away) ∙ train.passed q (sym (get_or-set_other w p q (r + 1) 0 away) ∙ z);
            }
          where
            counted : {q : ℕ} → get_or (set w p (r + 1)) q 0 ≡ 255 → q ≢ p
            counted {q} z s =
                let here : get_or (set w p (r + 1)) p 0 ≡ r + 1 = get_or-set_same w p (r + 1) 0 (omega (arith, train.marks.size)) in
                let there : get_or (set w p (r + 1)) p 0 ≡ 255 = ap (λ (i : ℕ). get_or (set w p (r + 1)) i 0) (sym s) ∙ z in
                omega (arith, here, there, chain_room)

-- marks before any chain is followed

pub leaders_next : (h v : List ℕ) (j x : ℕ) → j < 64 → x ≡ leader_mark (get_or h j 0) → LeadersMarked h v j
    → LeadersMarked h (set v j x) (j + 1)
leaders_next h v j x room e m =
    record {
      size = length-set v j x ∙ m.size;
      leaders = λ q l.
          ⊎_elim
          (λ (s : q ≡ j).
          subst (λ (i : ℕ). get_or (set v j x) i 0 ≡ leader_mark (get_or h i 0)) (sym s)
          (get_or-set_same v j x 0 (omega (arith, m.size)) ∙ e))
          (λ (d : q ≢ j). get_or-set_other v j q x 0 d ∙ m.leaders q (omega arith))
          (equal? q j);
    }

leader_mark_lem : (x : ℕ) → leader_mark x ≢ 0 → (x ≡ 0) × (leader_mark x ≡ 1)
unfolding leader_mark
leader_mark_lem x m =
    ⊎_elim
    (λ (e : x ≡ 0). (e, rw (eq-eqb x 0 e) refl))
    (λ (d : x ≢ 0). absurd (m (rw (ne_eqb x 0 d) refl)))
    (equal? x 0)

leader_marks : (h v : List ℕ) → LeadersMarked h v 64 → (q : ℕ) → get_or v q 0 ≢ 0 → (get_or h q 0 ≡ 0) × (get_or v q 0 ≡ 1)
leader_marks h v marked q a =
    dite (dec_lt q 64)
    (λ l.
    let is = marked.leaders q l in
    let w = leader_mark_lem (get_or h q 0) (λ z. a (is ∙ z)) in
    (w.0, is ∙ w.1))
    (λ l. absurd (a (get_or-eq_default v 0 {n = q} (omega (arith, marked.size)))))

each_first : {X : Type 0} {P : X → Type 0} {x : X} {xs : List X} → Each P (x ∷ xs) → P x × Each P xs
each_first (each_more p ps) = (p, ps)

-- the loop over the moves of the step d, by the targets t and the table h
module _ (d t h : List ℕ) where
  unfoldable pub judge : Unit {0} → List (ℕ × ℕ) → Bool
  judge u ms = every (λ m. led_on (longest_train - 1) (moves_of d) h m.1) ms

  -- at move j, where the marks v are lengths of trains
  pub record Leading (v : List ℕ) (j : ℕ) : Type 0 where
    pub judging : Left judge (moves_from d) (moves_of d) tt tt j
    pub marks : Marks t h v
    pub none_passed : NonePassed v
    pub taking : Each (Taking t h) (moves_from d j)

  pub leading_first : (v : List ℕ) → LeadersMarked h v 64 → Each (Taking t h) (moves_of d) → Leading v 0
  leading_first v marked each =
      record {
        judging = left-first judge (moves_from d) (moves_of d) tt refl;
        marks =
            record {
              size = marked.size;
              known = λ q a b. let w = leader_marks h v marked q a in subst (λ (n : ℕ). Led t h n q) (sym w.1) (leads w.0);
            };
        none_passed = λ q e. let w = leader_marks h v marked q (λ z. omega (arith, e, z)) in omega (arith, e, w.1);
        taking = each;
      }

  module _ (few : length d ≤ 64) (targets : Targets (moves_of d) t) where
    short : (n q : ℕ) → Led t h n q → n ≤ 65
    short n q l = omega (arith, led_short (moves_of d) t h targets n q l, moves-length d)

    pub leading_chain : (v : List ℕ) (j b : ℕ) → Leading v j → Chain t h v b
    leading_chain v j b left =
        record { marks = left.marks; passed = λ q e. absurd (left.none_passed q e); below = targets.below; short = short }

    module _ (v : List ℕ) (j a b : ℕ) (left : Leading v j) (at : moves_from d j ≡ ((a, b) ∷ moves_from d (j + 1))) where
      pub not_led : ((n : ℕ) → Led t h n b → ⊥) → false ≡ all_led h (moves_of d)
      unfolding judge every all_led
      not_led none =
          rw (unled_on (moves_of d) t h targets b none)
          at (left_at judge (moves_from d) (moves_of d) tt tt j a b left.judging at)

      here : Taking t h (a, b) × Each (Taking t h) (moves_from d (j + 1))
      here = each_first (subst (Each (Taking t h)) at left.taking)

      module _ (w : List ℕ) (r : ℕ) (train : Train t h v w b r) where
        pub too_long : longest_train < r → false ≡ all_led h (moves_of d)
        unfolding judge every all_led
        too_long s =
            rw (long_on (moves_of d) t h targets r b s train.led)
            at (left_at judge (moves_from d) (moves_of d) tt tt j a b left.judging at)

        -- who enters the position that the move leaves follows it
        behind : Led t h (r + 1) a
        behind =
            let taken = here.0 in
            let back : get_or t a 0 - 1 ≡ b = omega (arith, taken.1) in
            rw (add-one r) (follows taken.0 (λ z. omega (arith, taken.1, z)) (subst (Led t h r) (sym back) train.led))

        pub leading_next : r ≤ longest_train → a < 64 → Leading (set w a (r + 1)) (j + 1)
        unfolding judge every
        leading_next within room =
            record {
              judging = left-next judge (moves_from d) (moves_of d) tt tt j a b left.judging at tt
                  (λ ms. rw (led_on_lem (moves_of d) t h targets r b within train.led) refl);
              marks = led-marked t h w a (r + 1) room train.marks behind;
              none_passed = λ q z.
                  ⊎_elim
                  (λ (s : q ≡ a).
                  let there = get_or-set_same w a (r + 1) 0 (omega (arith, train.marks.size)) in
                  omega (arith, there, within, ap (λ (i : ℕ). get_or (set w a (r + 1)) i 0) (sym s) ∙ z))
                  (λ (d : q ≢ a). left.none_passed q (train.passed q (sym (get_or-set_other w a q (r + 1) 0 d) ∙ z)))
                  (equal? q a);
              taking = here.1;
            }

  pub leading_last : (v : List ℕ) (j : ℕ) → Leading v j → length d ≤ j → true ≡ all_led h (moves_of d)
  unfolding judge every all_led
  leading_last v j left k = left_last judge (moves_from d) (moves_of d) tt tt j left.judging (moves_none d j k)
