-- From tables to arrangements: moves that lead from table to table are legal moves on the floor, and lead from arrangement to arrangement.
--
--     HeldBy A f       the table f says where the racks of the arrangement A stand: rack i + 1 is the one of index i
--     held_same        tables that agree say the same
--     held_racks       such a table has the rack of each position
--     held_move        a move on the table is a legal move, and is held
--     Led, went_led    moves on the table, each legal at its turn, lead to an arrangement that the last table holds
--     held_one         a table holds one arrangement only
--     went_replayed    so the replay of moves that lead from the starts' table to the goals' ends at the goals
--     went_listed      where every move is written, the written moves are the moves as a plan lists them
-- Assumes nothing.
use Prim.Native.Nat.{ℕ, suc, ◌<◌}
use mathlib.Core.Path.{◌≡◌, refl, sym, ap, ap₂, subst, ◌∙◌}
use mathlib.Core.Bool.{true}
use mathlib.Core.List.{List, [], ◌∷◌}
use mathlib.Core.Logic.{◌≢◌, ⊎_elim, by_cases}
use native.Mathlib.Decide.{ℕ_discrete}
use native.Mathlib.Omega.{arith}
use lib.Dec.{T}
use lib.ListN.{length, get_or}
use Rattle.order.specs.Floor.{Floor, joined}
use Rattle.motion.specs.Arrangement.{Arrangement, occupied, rack_at}
use Rattle.motion.proofs.ArrangementLaws.{occupied_rack, vacant-racks, occupied_or_vacant, rack_at_finds, rack_at_none}
use Rattle.motion.specs.Move.{legal_move, after_move}
use Rattle.motion.proofs.MoveLaws.{on_floor_parts, legal_parts, move-length, moved_rack, moved_other}
use Rattle.motion.proofs.Lawful.{Leads, replay_moves_ended}
use Rattle.motion.proofs.Lawful.Lawful.{still, ◌then◌}
use Rattle.motion.specs.Replay.{ended, replay_moves, listed}
use Rattle.moving.specs.Went.{Same, Move, Went}
use Rattle.moving.specs.Went.Went.{stay, real, stand_in}
use Rattle.moving.proofs.JourneyLaws.{went_written}

pub record HeldBy (A : Arrangement) (f : ℕ → ℕ) : Type 0 where
  pub racks : (i : ℕ) → i < length A → f (get_or A i 0) ≡ suc i
  pub others : (p : ℕ) → ((i : ℕ) → i < length A → get_or A i 0 ≢ p) → f p ≡ 0

pub held_same : {A : Arrangement} {f k : ℕ → ℕ} → Same f k → HeldBy A f → HeldBy A k
held_same {A} s h = record { racks = λ i l. sym (s (get_or A i 0)) ∙ h.racks i l; others = λ p out. sym (s p) ∙ h.others p out }

pub held_racks : {A : Arrangement} {f : ℕ → ℕ} → HeldBy A f → (p : ℕ) → f p ≡ rack_at A p
held_racks {A} {f} h p =
    ⊎_elim
    (λ o. let r = rack_at_finds A p o in ap f (sym r.2) ∙ h.racks r.0 r.1 ∙ sym r.3)
    (λ v. h.others p ((vacant-racks A p).0 v) ∙ sym (rack_at_none A p v))
    (occupied_or_vacant A p)

module _ (F : Floor) {E : ℕ → ℕ → Type 0} (joins : (a b : ℕ) → E a b → (a < F.positions) × (b < F.positions) × T (joined F a b)) where
  module _ (A : Arrangement) {f k : ℕ → ℕ} {a b : ℕ} (h : HeldBy A f) (m : Move E f a b k) where
    leaves : T (occupied A a)
    leaves = ⊎_elim (λ t. t) (λ t. absurd (m.held (h.others a ((vacant-racks A a).0 t)))) (occupied_or_vacant A a)

    never : (i : ℕ) → i < length A → get_or A i 0 ≢ b
    never i l e = clash (sym (h.racks i l) ∙ ap f e ∙ m.vacant)
      where
        clash : suc i ≡ 0 → ⊥
        clash z = omega arith

    pub held_legal : T (legal_move F A (a, b))
    held_legal =
        (legal_parts F A (a, b)).1 ((on_floor_parts F (a, b)).1 (joins a b m.edge), leaves, (vacant-racks A b).1 never)

    pub held_move : HeldBy (after_move A (a, b)) k
    held_move =
        record {
          racks = λ i l. after i (subst (λ (n : ℕ). i < n) (move-length A (a, b)) l);
          others = λ p out. vacated p (λ i l. out i (subst (λ (n : ℕ). i < n) (sym (move-length A (a, b))) l));
        }
      where
        after : (i : ℕ) → i < length A → k (get_or (after_move A (a, b)) i 0) ≡ suc i
        after i l =
            by_cases (ℕ_discrete (get_or A i 0) a)
            (λ e. ap k (moved_rack A (a, b) i l e) ∙ m.entered ∙ ap f (sym e) ∙ h.racks i l)
            (λ e. ap k (moved_other A (a, b) i l e) ∙ m.others (get_or A i 0) e (never i l) ∙ h.racks i l)

        vacated : (p : ℕ) → ((i : ℕ) → i < length A → get_or (after_move A (a, b)) i 0 ≢ p) → k p ≡ 0
        vacated p out =
            by_cases (ℕ_discrete p a) (λ e. ap k e ∙ m.left)
            (λ e. by_cases (ℕ_discrete p b)
            (λ g.
            let r = (occupied_rack A a).0 leaves in
            absurd (out r.0 r.1 (moved_rack A (a, b) r.0 r.1 r.2 ∙ sym g)))
            (λ g. m.others p e g ∙ h.others p (λ i l c. out i l (moved_other A (a, b) i l (λ d. e (sym c ∙ d)) ∙ c))))

  pub record Led (A : Arrangement) (ms : List (ℕ × ℕ)) (k : ℕ → ℕ) : Type 0 where
    pub to : Arrangement
    pub leads : Leads F A ms to
    pub holds : HeldBy to k
    pub size : length to ≡ length A

  led_then : {f i k : ℕ → ℕ} {a b : ℕ} {ms : List (ℕ × ℕ)} (A : Arrangement) → HeldBy A f → Move E f a b i
      → Led (after_move A (a, b)) ms k → Led A ((a, b) ∷ ms) k
  led_then {a = a} {b = b} A h x r =
      record { to = r.to; leads = held_legal A h x then r.leads; holds = r.holds; size = r.size ∙ move-length A (a, b) }

  pub went_led : {m : ℕ} {f k : ℕ → ℕ} {ms : List (ℕ × ℕ)} {ws : List (ℕ × ℕ × ℕ)} (A : Arrangement) → HeldBy A f → Went E m f ms ws k
      → Led A ms k
  went_led A h (stay s) = record { to = A; leads = still; holds = held_same s h; size = refl }
  went_led A h (real {a = a} {b = b} x e l w) = led_then A h x (went_led (after_move A (a, b)) (held_move A h x) w)
  went_led A h (stand_in {a = a} {b = b} x l w) = led_then A h x (went_led (after_move A (a, b)) (held_move A h x) w)

  -- where every move is written no rack is a stand-in, and each is the one that replay has at the position left
  pub went_listed : {m : ℕ} {f k : ℕ → ℕ} {ms : List (ℕ × ℕ)} {ws : List (ℕ × ℕ × ℕ)} (A : Arrangement) → HeldBy A f → Went E m f ms ws k
      → length ms ≡ length ws → ws ≡ listed true A ms
  unfolding listed
  went_listed A h (stay s) all = refl
  went_listed A h (real {a = a} {b} {ws = ws} x e l w) all =
      let next = after_move A (a, b) in
      ap (λ (r : ℕ). (a, b, r) ∷ ws) (e ∙ held_racks h a)
      ∙ ap (λ (l : List (ℕ × ℕ × ℕ)). (a, b, rack_at A a) ∷ l) (went_listed next (held_move A h x) w (omega arith))
  went_listed A h (stand_in x l w) all = let few = went_written w in absurd (omega arith)

same_list_lem : (A B : List ℕ) → length A ≡ length B → ((i : ℕ) → i < length A → get_or A i 0 ≡ get_or B i 0) → A ≡ B
same_list_lem [] [] e same = refl
same_list_lem [] (y ∷ B) e same = absurd (clash e)
  where
    clash : {n : ℕ} → 0 ≡ suc n → ⊥
    clash z = omega arith
same_list_lem (x ∷ A) [] e same = absurd (clash e)
  where
    clash : {n : ℕ} → suc n ≡ 0 → ⊥
    clash z = omega arith
same_list_lem (x ∷ A) (y ∷ B) e same =
    ap₂ (λ (z : ℕ) (l : List ℕ). z ∷ l) (same 0 (omega arith)) (same_list_lem A B (omega arith) (λ i l. same (suc i) (omega arith)))

pub held_one : (A B : Arrangement) (f : ℕ → ℕ) → ((p q : ℕ) → f p ≢ 0 → f p ≡ f q → p ≡ q) → length A ≡ length B → HeldBy A f
    → HeldBy B f → A ≡ B
held_one A B f one size a b =
    same_list_lem A B size (λ i l.
    let x = a.racks i l in
    let y = b.racks i (subst (λ (n : ℕ). i < n) size l) in
    one (get_or A i 0) (get_or B i 0) (λ z. clash (sym x ∙ z)) (x ∙ sym y))
  where
    clash : {i : ℕ} → suc i ≡ 0 → ⊥
    clash z = omega arith

pub went_replayed : (F : Floor) {E : ℕ → ℕ → Type 0} → ((a b : ℕ) → E a b → (a < F.positions) × (b < F.positions) × T (joined F a b))
    → {m : ℕ} {f k : ℕ → ℕ} {ms : List (ℕ × ℕ)} {ws : List (ℕ × ℕ × ℕ)} (A G : Arrangement)
    → ((p q : ℕ) → k p ≢ 0 → k p ≡ k q → p ≡ q) → length A ≡ length G → HeldBy A f → HeldBy G k → Went E m f ms ws k
    → replay_moves F A ms ≡ ended G
went_replayed F joins {k = k} {ms = ms} A G one size a g w =
    let r = went_led F joins A a w in
    let same = held_one r.to G k one (r.size ∙ size) r.holds g in
    (replay_moves_ended F A ms G).1 (subst (λ (B : Arrangement). Leads F A ms B) same r.leads)
