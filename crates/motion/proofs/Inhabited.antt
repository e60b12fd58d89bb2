-- Inhabitants: each hypothesis of the laws of moves holds of something, computed on the floor of document 01's case book ("F is
-- that order's floor: n = 4, edges 0-1, 0-2, 1-2, 1-3, 2-3") with its first case's plan, which exchanges the racks at 0 and 3.
--
--     floor_f, starts, goals, plan    the case book's floor, and its first case's starts, goals and plan
--     plan_replayed, plan_leads      the plan's replay ends at the goals, so it leads there
--     plan_stopped, plan_stops       with a move into rack 2 behind the first, and then one along no edge, replay stops at move 2
--     starts_sound, goals_sound      the starts and the goals are sound
--     full_sound                     and so is a full floor
--     plan_undone                    reversal: the plan undone leads back
--     pebble_instance, plan_solution, plan_only   Definition 1: an instance, a solution, and its one list of moves
--     names_exchanged, plan-renamed  renaming: the plan leads two renamed racks
--     aside_leads, exchange_conjugated   conjugation: the racks at 1 and 3 exchanged by way of 0
--     detour_leads, carried_away     conjugation: rack 1 carried to position 2 while rack 2 went to and fro
--     untouched_kept                 what a move leaves alone
--     plan_dropped                   dropping: with rack 2 a stand-in, two moves are left
-- Assumes nothing.
use Prim.Native.Nat.{ℕ}
use mathlib.Core.List.{List, [], ◌∷◌}
use mathlib.Core.Path.{◌≡◌, refl}
use lib.Dec.{T, lit<, lit≤}
use lib.ListN.{get_or}
use Rattle.order.specs.Floor.{Floor, some, is_pair, joined}
use Rattle.motion.specs.Arrangement.{Arrangement, occupied, vacant}
use Rattle.motion.specs.Move.{on_floor, legal_move, fault_by, move_fault, goes_to, after, after_move}
use Rattle.motion.specs.Step.{leaves, enters}
use Rattle.motion.specs.Replay.{ended, stopped, replay_from, replay_moves, trace}
use Rattle.motion.proofs.Lawful.{Leads, Stops, replay_moves_ended, replay_moves_stopped}
use Rattle.motion.specs.TurnedStep.{turned}
use Rattle.motion.proofs.Reversal.{undo, leads_undo}
use Rattle.motion.specs.Sound.{Sound}
use Rattle.motion.proofs.SoundLaws.{is_sound, is_sound_sound}
use Rattle.motion.specs.Pebble.{Instance, Solution}
use Rattle.motion.proofs.PebbleLaws.{invertible_sound, OnlyMoves, pebble_replay}
use Rattle.motion.proofs.Choice.{pick, Names, moves_of, leads_renamed, leads_dropped, up_to}
use Rattle.motion.proofs.Exchange.{exchange, exchange_names}
use Rattle.motion.proofs.Untouched.{rack_stays, vacant-before}
use Rattle.motion.proofs.Conjugation.{conjugate_exchange, others_moves, conjugate_carry}

abbrev pub floor_f : Floor
floor_f = record { positions = 4; edges = (0, 1) ∷ (0, 2) ∷ (1, 2) ∷ (1, 3) ∷ (2, 3) ∷ [] }

abbrev pub starts : Arrangement
starts = 0 ∷ 3 ∷ []

abbrev pub goals : Arrangement
goals = 3 ∷ 0 ∷ []

abbrev pub plan : List (ℕ × ℕ)
plan = (0, 1) ∷ (3, 2) ∷ (2, 0) ∷ (1, 3) ∷ []

pub plan_replayed : replay_moves floor_f starts plan ≡ ended goals
unfolding replay_moves replay_from move_fault fault_by on_floor joined some is_pair occupied vacant after_move after goes_to
plan_replayed = refl

pub plan_leads : Leads floor_f starts plan goals
plan_leads = (replay_moves_ended floor_f starts plan goals).0 plan_replayed

pub plan_stopped : replay_moves floor_f starts ((0, 1) ∷ (1, 3) ∷ (0, 3) ∷ []) ≡ stopped 35 2
unfolding replay_moves replay_from move_fault fault_by on_floor joined some is_pair occupied vacant after_move after goes_to
plan_stopped = refl

pub plan_stops : Stops (move_fault floor_f) (legal_move floor_f) after_move 1 starts ((0, 1) ∷ (1, 3) ∷ (0, 3) ∷ []) 35 2
plan_stops = (replay_moves_stopped floor_f starts ((0, 1) ∷ (1, 3) ∷ (0, 3) ∷ []) 35 2).0 plan_stopped

pub starts_sound : Sound 4 starts
unfolding is_sound occupied some vacant
starts_sound = (is_sound_sound 4 starts).0 tt

pub goals_sound : Sound 4 goals
unfolding is_sound occupied some vacant
goals_sound = (is_sound_sound 4 goals).0 tt

pub full_sound : Sound 4 (0 ∷ 1 ∷ 2 ∷ 3 ∷ [])
unfolding is_sound occupied some vacant
full_sound = (is_sound_sound 4 (0 ∷ 1 ∷ 2 ∷ 3 ∷ [])).0 tt

pub plan_undone : Leads floor_f goals ((3, 1) ∷ (0, 2) ∷ (2, 3) ∷ (1, 0) ∷ []) starts
unfolding undo turned
plan_undone = leads_undo floor_f plan_leads

pub pebble_instance : Instance floor_f 2 starts goals
pebble_instance =
    record {
      fewer = lit≤ tt;
      initial = (invertible_sound floor_f 2 starts).1 (refl, starts_sound);
      goal = (invertible_sound floor_f 2 goals).1 (refl, goals_sound);
    }

pub plan_solution : Solution floor_f 2 starts goals 4 ((0 ∷ 3 ∷ []) ∷ (1 ∷ 3 ∷ []) ∷ (1 ∷ 2 ∷ []) ∷ (1 ∷ 0 ∷ []) ∷ (3 ∷ 0 ∷ []) ∷ [])
unfolding trace after_move after goes_to
plan_solution = ((pebble_replay floor_f 2 starts goals pebble_instance).0 plan).0 plan_replayed

pub plan_only : OnlyMoves floor_f starts goals 4 ((0 ∷ 3 ∷ []) ∷ (1 ∷ 3 ∷ []) ∷ (1 ∷ 2 ∷ []) ∷ (1 ∷ 0 ∷ []) ∷ (3 ∷ 0 ∷ []) ∷ [])
plan_only = (pebble_replay floor_f 2 starts goals pebble_instance).1 4 _ plan_solution

pub names_exchanged : Names (1 ∷ 0 ∷ []) 2
unfolding exchange up_to
names_exchanged = exchange_names 0 1 2 (lit< tt) (lit< tt)

pub plan-renamed : Leads floor_f goals plan starts
unfolding pick
plan-renamed = leads_renamed (1 ∷ 0 ∷ []) floor_f names_exchanged plan_leads

pub aside_leads : Leads floor_f (1 ∷ 3 ∷ []) ((1, 0) ∷ []) starts
unfolding replay_moves replay_from move_fault fault_by on_floor joined some is_pair occupied vacant after_move after goes_to
aside_leads = (replay_moves_ended floor_f (1 ∷ 3 ∷ []) ((1, 0) ∷ []) starts).0 refl

-- the racks at 1 and 3 exchanged: rack 1 moves to 0, then the plan, then back
pub exchange_conjugated : Leads floor_f (1 ∷ 3 ∷ []) ((1, 0) ∷ (0, 1) ∷ (3, 2) ∷ (2, 0) ∷ (1, 3) ∷ (0, 1) ∷ []) (3 ∷ 1 ∷ [])
unfolding exchange undo turned
exchange_conjugated = conjugate_exchange floor_f 0 1 (lit< tt) (lit< tt) aside_leads plan_leads

pub detour_leads : Leads floor_f starts ((3, 1) ∷ (1, 3) ∷ (0, 1) ∷ []) (1 ∷ 3 ∷ [])
unfolding replay_moves replay_from move_fault fault_by on_floor joined some is_pair occupied vacant after_move after goes_to
detour_leads = (replay_moves_ended floor_f starts ((3, 1) ∷ (1, 3) ∷ (0, 1) ∷ []) (1 ∷ 3 ∷ [])).0 refl

pub carried_away : Leads floor_f starts ((3, 1) ∷ (1, 3) ∷ (0, 1) ∷ (1, 2) ∷ (3, 1) ∷ (1, 3) ∷ []) (2 ∷ 3 ∷ [])
unfolding others_moves undo turned enters some joined is_pair occupied vacant after_move after goes_to
carried_away = conjugate_carry floor_f 0 2 starts_sound (lit< tt) tt tt detour_leads (lit< tt) tt

pub untouched_kept : (get_or starts 1 0 ≡ 3) × T (vacant (1 ∷ 3 ∷ []) 2)
unfolding leaves enters some occupied vacant
untouched_kept = (rack_stays floor_f 1 aside_leads (lit< tt) tt, vacant-before floor_f 2 aside_leads tt tt)

pub plan_dropped : Leads floor_f (0 ∷ []) ((0, 1) ∷ (1, 3) ∷ []) (3 ∷ [])
unfolding moves_of occupied some after_move after goes_to
plan_dropped = leads_dropped floor_f (0 ∷ []) (3 ∷ []) (3 ∷ []) (0 ∷ []) refl plan_leads
