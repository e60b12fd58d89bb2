-- What the breakdown function yields, for every floor.
--
--     Handled n E r c o start left right    the handles on a base ring: a breakdown; or none, a ring of 0, and then the floor is not
--                                           bi-connected
--     Answer n g r c o start left right     a breakdown exactly where the floor is bi-connected and no ring; else none, a ring of 0.
--                                           Document 01, "Breakdown and planning": "Such a breakdown is found for every floor that passes
--                                           20 to 22."
--     BreaksDown, HandledOf, AnswerOf       a breakdown, and these two, of the parts as the code has them; where there are none, of a ring
--                                           of 0
-- Assumes nothing.
use Rattle.std.specs.Prelude.{ℕ, ◌<◌, ◌≡◌, List, [], Option, Some, None, ◌↔◌}
use Rattle.graph.specs.Connected.{BiConnected, Ring}
use Rattle.graph.specs.Rows.{row, Edge}
use Rattle.graph.specs.EdgeCount.{edge_count}
use Rattle.breakdown.specs.Breakdown.{Breakdown}
use Rattle.breakdown.specs.declared.Breakdown.{Breakdown as Parts}

abbrev pub BreaksDown : ℕ → (ℕ → ℕ → Type 0) → Parts → Type 0
BreaksDown n E b = Breakdown n E b.ring b.handles (row b.order) (row b.start) (row b.left) (row b.right)

pub record Handled (n : ℕ) (E : ℕ → ℕ → Type 0) (r c : ℕ) (o start left right : List ℕ) : Type 0 where
  pub found : 0 < r → Breakdown n E r c (row o) (row start) (row left) (row right)
  pub none : r ≡ 0 → BiConnected n E → ⊥

pub record Answer (n : ℕ) (g : List ℕ) (r c : ℕ) (o start left right : List ℕ) : Type 0 where
  pub found : 0 < r → Breakdown n (Edge g) r c (row o) (row start) (row left) (row right)
  pub exactly : (0 < r) ↔ (BiConnected n (Edge g) × (Ring n (Edge g) (edge_count g n) → ⊥))

abbrev pub HandledOf : ℕ → (ℕ → ℕ → Type 0) → Option Parts → Type 0
HandledOf n E None = Handled n E 0 0 [] [] [] []
HandledOf n E (Some b) = (0 < b.ring) × Handled n E b.ring b.handles b.order b.start b.left b.right

abbrev pub AnswerOf : ℕ → List ℕ → Option Parts → Type 0
AnswerOf n g None = Answer n g 0 0 [] [] [] []
AnswerOf n g (Some b) = (0 < b.ring) × Answer n g b.ring b.handles b.order b.start b.left b.right
