-- Why `is_contrary` is right: on the tables of two arrangements with one vacancy each.
--
--     stands_seats      the table of an arrangement with one vacancy has different numbers below n
--     vacancy-home      a table turned round has the vacancy at 0
--     sent_goal         what is looked up at a position is where what stands there is to go
--     sent_change       so the entries are the change
--     parity_contrary   an odd sum of the inversions and the two colours, as numbers, is: contrary
--     contrary_on       so the test of that sum decides
-- Assumes nothing.
use Prim.Native.Nat.{ℕ, suc, ◌+◌, ◌%◌, ◌<◌}
use mathlib.Core.Path.{◌≡◌, sym, ap, ◌∙◌}
use mathlib.Core.List.{List}
use mathlib.Core.Logic.{◌≢◌, ◌↔◌, inl, inr, ⊎_elim, by_cases}
use native.Mathlib.Decide.{ℕ_discrete}
use native.Mathlib.Omega.{arith}
use borrow.Author.Tests.{eq-eqb, eqb-true}
use lib.ListN.{length, get_or}
use lib.Dec.{T, eqb}
use Rattle.sets.specs.Sets.{bit}
use Rattle.sets.proofs.SetLaws.{bit_two}
use Rattle.order.specs.Tables.{racks_at}
use Rattle.motion.specs.Arrangement.{Arrangement, occupied, vacant}
use Rattle.motion.proofs.ArrangementLaws.{occupied_rack, occupied_or_vacant}
use Rattle.tables.proofs.TableLaws.{placed-holds}
use Rattle.tables.proofs.TablesLaws.{Holds}
use Rattle.parity.specs.Permutation.{vacancy, goal_of, change, inversions}
use Rattle.parity.specs.Impossible.{Contrary}
use Rattle.parity.specs.Work.{entries, Seats, Homes, Sent, is_in, Stands, ContraryOn}
use Rattle.parity.proofs.InversionLaws.{values_same}
use Rattle.parity.proofs.VacancyLaws.{vacancy_below, vacancy-vacant, vacancy_only}
use Rattle.parity.proofs.ChangeLaws.{goal_rack, goal-vacant}

-- the table has the racks, each where it stands
held : (n : ℕ) (A : Arrangement) (h : List ℕ) → Stands n A h → Holds A h
unfolding racks_at
held n A h s = rw s.are (placed-holds n A s.few s.sound)

pub stands_seats : (n : ℕ) (A : Arrangement) (h : List ℕ) → Stands n A h → Seats n h
stands_seats n A h s = record { few = s.few; below = below; apart = apart }
  where
    all : length A + 1 ≡ n
    all = s.one

    table : Holds A h
    table = held n A h s

    -- what the table has where a rack stands
    number : (p : ℕ) → T (occupied A p) → (i : ℕ) × (i < length A) × (get_or A i 0 ≡ p) × (get_or h p 0 ≡ suc i)
    number p o =
        let r = (occupied_rack A p).0 o in
        (r.0, r.1, r.2, ap (λ (q : ℕ). get_or h q 0) (sym r.2) ∙ table.racks r.0 r.1)

    below : (p : ℕ) → p < n → get_or h p 0 < n
    below p l =
        ⊎_elim
        (λ o. let r = number p o in omega (arith, all, r.1, r.3))
        (λ v. omega (arith, all, table.others p v))
        (occupied_or_vacant A p)

    apart : (p q : ℕ) → p < n → q < n → get_or h p 0 ≡ get_or h q 0 → p ≡ q
    apart p q lp lq e =
        ⊎_elim
        (λ (o : T (occupied A p)).
        let r = number p o in
        ⊎_elim
        (λ (u : T (occupied A q)).
        let t = number q u in
        let i : r.0 ≡ t.0 = omega (arith, r.3, t.3) in
        sym r.2 ∙ ap (λ (k : ℕ). get_or A k 0) i ∙ t.2)
        (λ (v : T (vacant A q)). absurd (omega (arith, r.3, table.others q v)))
        (occupied_or_vacant A q))
        (λ (v : T (vacant A p)).
        ⊎_elim
        (λ (u : T (occupied A q)). let t = number q u in absurd (omega (arith, t.3, table.others p v)))
        (λ (u : T (vacant A q)). vacancy_only A n s.sound all p lp v ∙ sym (vacancy_only A n s.sound all q lq u))
        (occupied_or_vacant A q))
        (occupied_or_vacant A p)

pub vacancy-home : (n : ℕ) (A : Arrangement) (h r : List ℕ) → Stands n A h → Homes n h r → get_or r 0 0 ≡ vacancy n A
vacancy-home n A h r s back =
    let v = vacancy n A in
    ap (λ (x : ℕ). get_or r x 0) (sym ((held n A h s).others v (vacancy-vacant A n s.sound s.one)))
    ∙ back.back v (vacancy_below A n s.sound s.one)

module _ (n : ℕ) (S G : Arrangement) (h k r s : List ℕ) (starts : Stands n S h) (goals : Stands n G k) (back : Homes n k r)
    (sent : Sent n h r s) where
  same-racks : length S ≡ length G
  same-racks = let a = starts.one in let b = goals.one in omega arith

  pub sent_goal : (p : ℕ) → p < n → get_or s p 0 ≡ goal_of n S G p
  sent_goal p l =
      sent p l
      ∙ ⊎_elim
      (λ (o : T (occupied S p)).
      let i = (occupied_rack S p).0 o in
      let there : i.0 < length G = rw same-racks at i.1 in
      ap (λ (x : ℕ). get_or r (get_or h x 0) 0) (sym i.2)
      ∙ ap (λ (x : ℕ). get_or r x 0) ((held n S h starts).racks i.0 i.1 ∙ sym ((held n G k goals).racks i.0 there))
      ∙ back.back (get_or G i.0 0) (goals.sound.below i.0 there)
      ∙ sym (goal_rack n G S starts.sound i.0 p i.1 i.2))
      (λ (v : T (vacant S p)).
      ap (λ (x : ℕ). get_or r x 0) ((held n S h starts).others p v)
      ∙ vacancy-home n G k r goals back
      ∙ sym (goal-vacant n G S starts.sound p v))
      (occupied_or_vacant S p)

  pub sent_change : entries s 0 n ≡ change n S G
  unfolding change
  sent_change = values_same (λ p. get_or s p 0) (goal_of n S G) 0 n (λ p a b. sent_goal p (omega arith))

-- colours as numbers and as tests
same_colour : (s p q : ℕ) → bit s p ≡ bit s q → is_in s p ≡ is_in s q
same_colour s p q e = ap (λ (x : ℕ). eqb x 1) e

other_colour : (s p q : ℕ) → bit s p ≢ bit s q → is_in s p ≢ is_in s q
other_colour s p q d e =
    let a = bit_two s p in
    let b = bit_two s q in
    by_cases (ℕ_discrete (bit s p) 1)
    (λ x. let y = eqb-true (bit s q) 1 (sym e ∙ eq-eqb (bit s p) 1 x) in omega arith)
    (λ x. by_cases (ℕ_discrete (bit s q) 1)
    (λ y. x (eqb-true (bit s p) 1 (e ∙ eq-eqb (bit s q) 1 y)))
    (λ y. omega arith))

module _ (n : ℕ) (S G : Arrangement) (light : ℕ) where
  abbrev total : ℕ
  total = inversions (change n S G) + (bit light (vacancy n S) + bit light (vacancy n G))

  pub parity_contrary : (total % 2 ≡ 1) ↔ Contrary n S G (is_in light)
  parity_contrary = (to, from)
    where
      to : total % 2 ≡ 1 → Contrary n S G (is_in light)
      to e =
          let a = bit_two light (vacancy n S) in
          let b = bit_two light (vacancy n G) in
          by_cases (ℕ_discrete (bit light (vacancy n S)) (bit light (vacancy n G)))
          (λ s. inl (omega arith, same_colour light (vacancy n S) (vacancy n G) s))
          (λ d. inr (omega arith, other_colour light (vacancy n S) (vacancy n G) d))

      from : Contrary n S G (is_in light) → total % 2 ≡ 1
      from (inl c) =
          let a = bit_two light (vacancy n S) in
          let b = bit_two light (vacancy n G) in
          let o = c.0 in
          by_cases (ℕ_discrete (bit light (vacancy n S)) (bit light (vacancy n G)))
          (λ s. omega arith)
          (λ d. absurd (other_colour light (vacancy n S) (vacancy n G) d c.1))
      from (inr c) =
          let a = bit_two light (vacancy n S) in
          let b = bit_two light (vacancy n G) in
          let o = c.0 in
          by_cases (ℕ_discrete (bit light (vacancy n S)) (bit light (vacancy n G)))
          (λ s. absurd (c.1 (same_colour light (vacancy n S) (vacancy n G) s)))
          (λ d. omega arith)

pub contrary_on : (n : ℕ) (h k left reached sent : List ℕ) (light x a b : ℕ) → Homes n h left → Homes n k reached → Sent n h reached sent
    → x ≡ inversions (entries sent 0 n) → a ≡ bit light (get_or left 0 0) → b ≡ bit light (get_or reached 0 0)
    → ContraryOn n h k light (eqb ((x + (a + b)) % 2) 1)
contrary_on n h k left reached sent light x a b leaves reaches sends xs ls bs =
    record {
      decides = λ S G starts goals.
          let p = parity_contrary n S G light in
          let x' = xs ∙ ap inversions (sent_change n S G h k reached sent starts goals reaches sends) in
          let a' = ls ∙ ap (bit light) (vacancy-home n S h left starts leaves) in
          let b' = bs ∙ ap (bit light) (vacancy-home n G k reached goals reaches) in
          let sum : x + (a + b) ≡ total n S G light = omega arith in
          let same : (x + (a + b)) % 2 ≡ total n S G light % 2 = ap (λ (y : ℕ). y % 2) sum in
          (λ e. p.0 (sym same ∙ eqb-true ((x + (a + b)) % 2) 1 e), λ c. eq-eqb ((x + (a + b)) % 2) 1 (same ∙ p.1 c));
    }
