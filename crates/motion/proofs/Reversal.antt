-- Reversal: moves can be taken back. What led from A to B, turned round and last first, leads from B to A.
--
--     undo ms          the moves ms taken back: each turned round, the last first
--     undo_cons        the first move is taken back last
--     undo_append      of two lists the second is taken back first
--     undo-undo        taking back twice is nothing
--     undo-length      as many moves
--     leads_undo       if ms lead from A to B then undo ms lead from B to A
-- Assumes nothing.
use Prim.Native.Nat.{ℕ}
use mathlib.Core.List.{List, [], ◌∷◌, ◌++◌, map, reverse, reverse-cons, append_assoc, append-nil}
use mathlib.Core.Path.{◌≡◌, refl, sym, ap, ◌∙◌}
use lib.ListN.{length, length-map, length-reverse}
use Rattle.order.specs.Floor.{Floor}
use Rattle.motion.specs.Arrangement.{Arrangement}
use Rattle.motion.specs.TurnedStep.{turned}
use Rattle.motion.proofs.MoveLaws.{turned_legal, turned_back}
use Rattle.motion.proofs.Lawful.{Leads, still, ◌then◌, lawful_one, lawful_append}

unfoldable pub undo : List (ℕ × ℕ) → List (ℕ × ℕ)
undo ms = reverse (map turned ms)

pub undo_cons : (m : ℕ × ℕ) (ms : List (ℕ × ℕ)) → undo (m ∷ ms) ≡ undo ms ++ turned m ∷ []
unfolding undo
undo_cons m ms = reverse-cons (turned m) (map turned ms)

pub undo_append : (ms ns : List (ℕ × ℕ)) → undo (ms ++ ns) ≡ undo ns ++ undo ms
unfolding undo
undo_append [] ns = sym (append-nil (undo ns))
undo_append (m ∷ ms) ns = undo_cons m (ms ++ ns) ∙ rw (undo_append ms ns, undo_cons m ms, append_assoc)

pub undo-undo : (ms : List (ℕ × ℕ)) → undo (undo ms) ≡ ms
unfolding undo turned
undo-undo [] = refl
undo-undo (m ∷ ms) = ap undo (undo_cons m ms) ∙ undo_append (undo ms) (turned m ∷ []) ∙ ap (λ (l : List (ℕ × ℕ)). m ∷ l) (undo-undo ms)

pub undo-length : (ms : List (ℕ × ℕ)) → length (undo ms) ≡ length ms
unfolding undo
undo-length ms = length-reverse (map turned ms) ∙ length-map ms turned

pub leads_undo : (F : Floor) {A B : Arrangement} {ms : List (ℕ × ℕ)} → Leads F A ms B → Leads F B (undo ms) A
unfolding undo
leads_undo F still = still
leads_undo F (◌then◌ {A = A} {x = m} {xs = ms} l p) =
    rw (undo_cons m ms) (lawful_append (leads_undo F p) (lawful_one (turned_legal F A m l) (turned_back F A m l)))
