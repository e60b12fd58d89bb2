-- What the tests see of a position cleared by the nearest vacancy: on an order's floor, with its racks at their starts and no stand-ins
-- among them. Request (b), "Clear a position by the nearest vacancy".
--
--     Loose o held           the positions of the order's floor that are not held
--     unheld?                a position is one of them or not
--     away o held p          how far p is from the nearest vacancy, or that no vacancy has a way to it
--     told x                 0 for "no way", else one more than the moves
--     if_accepted a r        the number r behind an acceptance, 0 behind a refusal
--     clear_number o held p b    the answer
--     ClearLeft o held p old new    the buffer afterwards: as many legal moves as p is away lead from the starts to what it shows, p is
--                            vacant then, and nothing held moved; where the answer is 0, nothing changed
-- Assumes nothing.
use Rattle.std.specs.Prelude.{ℕ, suc, ◌≡◌, cond, List, ltb, length}
use Rattle.std.proofs.Common.{inl, inr}
use Rattle.std.proofs.Math.Logic.{dite}
use Rattle.std.proofs.Math.Decide.{ℕ_discrete, dec_lt}
use Rattle.answers.specs.Answer.{Answer, accepted, refused}
use Rattle.field.specs.Writing.{written}
use Rattle.sets.specs.Sets.{bit, Has}
use Rattle.order.specs.Floor.{joined}
use Rattle.order.specs.Order.{floor_of, starts_of, order_answer}
use Rattle.order.specs.Tables.{racks_at}
use Rattle.motion.specs.Arrangement.{Arrangement, rack_at}
use Rattle.motion.specs.Replay.{ended, replay_moves}
use Rattle.graph.proofs.WayDecision.{alike?}
use Rattle.floor.specs.FloorAnswer.{Joins, passes?}
use Rattle.shunting.specs.Distance.{Unheld}
use Rattle.shunting.proofs.NearestDecision.{Found, nearest?}

abbrev pub Loose : List ℕ → ℕ → ℕ → Type 0
Loose o held = Unheld (floor_of o).positions held

pub unheld? : (n held p : ℕ) → Dec (Unheld n held p)
unheld? n held p =
    dite (ℕ_discrete (bit held p) 1)
    (λ h. no (λ x. x.loose h))
    (λ f. alike? (λ l. record { inside = l; loose = f }) (λ x. x.inside) (dec_lt p n))

pub away : (o : List ℕ) (held p : ℕ) → Found (Joins (floor_of o)) (Loose o held) (rack_at (starts_of o)) p
away o held p =
    nearest? (Joins (floor_of o)) (Loose o held) (floor_of o).positions (λ q x. x.inside) (λ a b. passes? (joined (floor_of o) a b))
    (unheld? (floor_of o).positions held) (rack_at (starts_of o)) p

abbrev pub told : {E : ℕ → ℕ → Type 0} {P : ℕ → Type 0} {h : ℕ → ℕ} {p : ℕ} → Found E P h p → ℕ
told (inl x) = suc x.0
told (inr none) = 0

abbrev pub if_accepted : Answer → ℕ → ℕ
if_accepted (accepted counts) r = r
if_accepted (refused number place) r = 0

-- "that number is reported. [..] If no vacancy has a way, the answer says so": 0 for that, and for a refused order and a buffer of fewer
-- than 64 bytes too
unfoldable pub clear_number : List ℕ → ℕ → ℕ → ℕ → ℕ
clear_number o held p b = cond (ltb b 64) 0 (if_accepted (order_answer o) (told (away o held p)))

-- "it shall take as many moves as the shortest way [..] and nothing moves"
pub data ClearLeft (o : List ℕ) (held p : ℕ) (old : List ℕ) : List ℕ → Type 0 where
  cleared : (ms : List (ℕ × ℕ)) (A : Arrangement) → clear_number o held p (length old) ≡ suc (length ms)
      → replay_moves (floor_of o) (starts_of o) ms ≡ ended A → rack_at A p ≡ 0
      → ((q : ℕ) → Has held q → rack_at A q ≡ rack_at (starts_of o) q)
      → ClearLeft o held p old (written old 0 (racks_at A))
  nothing : clear_number o held p (length old) ≡ 0 → ClearLeft o held p old old
