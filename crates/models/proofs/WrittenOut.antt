-- A short order written out: the tail's pairs and the head are the full order's record.
--
--     units s            the pairs behind the head of the full order: the grid's edges, and the racks' places, two by two
--     racks-bits         the racks' places as bits, two by two and one by one
--     expanded_is        the full record is its head and these pairs
--     racks_room, units_room     they can be read, and have room
--     edges_written      how many edges were written
--     written_out        what the tail's writer and the head's leave is the record at the front
--     Begun s B x b      what the writer is given and has read
--     out_known, out_racks, out_room, out_counts, out_written    the same, of what it has read and called
-- Assumes nothing.
use Prim.Native.Nat.{ℕ, ◌+◌, ◌-◌, ◌*◌, ◌/◌, ◌≤◌, ◌<◌}
use mathlib.Core.Path.{◌≡◌, refl, sym, ap, ap₂, subst, ◌∙◌}
use mathlib.Core.Bool.{false}
use mathlib.Core.List.{List, [], ◌∷◌, ◌++◌, append_assoc}
use native.Mathlib.Omega.{arith}
use lib.ListN.{length, take, drop, length-append, length-drop}
use lib.Seq.{take-add, drop-drop}
use Rattle.field.specs.Bits.{bits, bits_of, pairs, pair_bits, position_bits}
use Rattle.field.specs.Bytes.{BelowPairs, none₂, more₂}
use Rattle.field.specs.Packing.{pack}
use Rattle.field.specs.Writing.{written}
use Rattle.field.proofs.BitLaws.{field_lt}
use Rattle.field.proofs.RecordLaws.{bits-pairs, bits-positions, pairs-drop, pairs_lt, length_pairs, rest_is}
use Rattle.field.proofs.PackingLaws.{length-pack}
use Rattle.recording.proofs.HeadLaws.{record_written}
use Rattle.field.proofs.WritingLaws.{written_front}
use Rattle.models.specs.Grid.{rows_of, columns_of, unknown_model, grid_edges, grid, model_floor}
use Rattle.models.specs.ShortOrder.{model_code, short_racks, short_starts, short_goals, wrong_short}
use Rattle.models.specs.Expansion.{full_order, expanded}
use Rattle.models.specs.Writing.{SizeOf, tail_pairs, order_head, Room, Put}
use Rattle.models.proofs.GridLaws.{ModelSize, model_size, model_below}
use Rattle.models.proofs.ExpansionLaws.{ShortFits, short_fits, model_is, racks_is, length-starts}
use Rattle.models.proofs.JudgeLaws.{ShortHead}
use Rattle.models.proofs.PutLaws.{put_front, order_is}

-- the part of a byte string from byte k on, as a part `&s[k..]` has it
abbrev part : ℕ → List ℕ → List ℕ
part k l = take (length l - k) (drop k l)

pair_bits_append : (l k : List (ℕ × ℕ)) → pair_bits (l ++ k) ≡ pair_bits l ++ pair_bits k
unfolding pair_bits
pair_bits_append [] k = refl
pair_bits_append (p ∷ l) k = rw (pair_bits_append l k) (sym (append_assoc (bits 6 p.0 ++ bits 6 p.1) (pair_bits l) (pair_bits k)))

below_both : {b : ℕ} {l k : List (ℕ × ℕ)} → BelowPairs b l → BelowPairs b k → BelowPairs b (l ++ k)
below_both none₂ h = h
below_both (more₂ x y g) h = more₂ x y (below_both g h)

module _ (s : List ℕ) where
  abbrev m : ℕ
  m = short_racks s

  abbrev r : ℕ
  r = rows_of (model_code s)

  abbrev c : ℕ
  c = columns_of (model_code s)

  abbrev pub units : List (ℕ × ℕ)
  units = tail_pairs r c (part 2 s) m

  abbrev few_bits : m < 128
  few_bits = unfold short_racks in field_lt s 8 7

  length-units : length units ≡ length (grid_edges r c) + m
  length-units =
      length-append (grid_edges r c) (pairs (part 2 s) 0 m) ∙ ap (λ (k : ℕ). length (grid_edges r c) + k) (length_pairs (part 2 s) 0 m)

  module _ (fits : ShortFits s) where
    enough_bits : 16 + 12 * m ≤ 8 * length s
    enough_bits = let l = fits.length_is in omega arith

    pub racks_room : 12 * m ≤ 8 * length (part 2 s)
    racks_room = let l = fits.length_is in rw (rest_is 2 s, length-drop 2 s) (omega arith)

    racks-bits : pair_bits (pairs (part 2 s) 0 m) ≡ position_bits (short_starts s) ++ position_bits (short_goals s)
    unfolding short_starts short_goals
    racks-bits =
        let l = enough_bits in
        let same : pairs (part 2 s) 0 m ≡ pairs s 16 m = rw (rest_is 2 s) (sym (pairs-drop s 2 0 m)) in
        let starts = bits-positions s 16 m (omega arith) in
        let goals = bits-positions s (16 + 6 * m) m (omega arith) in
        let all : 12 * m ≡ 6 * m + 6 * m = omega arith in
        ap pair_bits same
        ∙ bits-pairs s 16 m l
        ∙ ap (λ (w : ℕ). take w (drop 16 (bits_of s))) all
        ∙ take-add (6 * m) (6 * m) (drop 16 (bits_of s))
        ∙ ap₂ ◌++◌ (sym starts) (ap (take (6 * m)) (drop-drop (6 * m) 16 (bits_of s)) ∙ sym goals)

    module _ (known : unknown_model (model_code s) ≡ false) where
      sized : ModelSize (model_floor (model_code s))
      sized = model_size (model_code s) known

      few_positions : r * c ≤ 64
      few_positions = unfold model_floor grid in sized.few_positions

      few_edges : length (grid_edges r c) ≤ 255
      few_edges = unfold model_floor grid in sized.few_edges

      edges_small : BelowPairs 64 (grid_edges r c)
      edges_small = unfold model_floor grid in model_below (model_code s) known

      expanded_is : expanded s ≡ order_head (r * c) (length (grid_edges r c)) m ++ pack units
      unfolding expanded full_order model_floor grid
      expanded_is =
          let p = few_positions in
          let e = few_edges in
          let l = length-starts s in
          let q = few_bits in
          order_is (full_order s) units (omega arith) (omega arith) (omega arith)
          (below_both edges_small (pairs_lt (part 2 s) 0 m))
          (pair_bits_append (grid_edges r c) (pairs (part 2 s) 0 m)
          ∙ ap (λ (x : List ℕ). pair_bits (grid_edges r c) ++ x) racks-bits)
          ∙ ap (λ (k : ℕ). order_head (r * c) (length (grid_edges r c)) k ++ pack units) l

      module _ (B : List ℕ) (enough : length (expanded s) ≤ length B) where
        record_room : 3 + length (pack units) ≤ length B
        unfolding order_head
        record_room =
            let both = length-append (order_head (r * c) (length (grid_edges r c)) m) (pack units) in
            let all : length (expanded s) ≡ length (order_head (r * c) (length (grid_edges r c)) m ++ pack units) = ap length expanded_is in
            omega arith

        pub units_room : Room (part 3 B) 0 units
        units_room =
            let l = length-pack units in
            let h = record_room in
            record { room = rw (rest_is 3 B, length-drop 3 B) (omega arith) }

        module _ (t : List ℕ) (e : ℕ) (w : Put (part 3 B) 0 units t (e + m)) where
          pub edges_written : e ≡ length (grid_edges r c)
          edges_written = let n = w.next_is in let l = length-units in omega arith

          pub written_out : (x : List ℕ) → x ≡ written (take 3 B ++ (t ++ drop (length B - 3) (drop 3 B))) 0 (order_head (r * c) e m)
              → x ≡ written B 0 (expanded s)
          unfolding order_head
          written_out x is =
              is
              ∙ ap (λ (k : ℕ). written (take 3 B ++ (t ++ drop (length B - 3) (drop 3 B))) 0 (order_head (r * c) k m)) edges_written
              ∙ record_written B (order_head (r * c) (length (grid_edges r c)) m) (pack units) t refl record_room
              (w.bytes_are ∙ put_front (part 3 B) units units_room ∙ sym (written_front (part 3 B) (pack units)))
              ∙ ap (written B 0) (sym expanded_is)

-- the writer's own names: the order s passed 50 and 51, the buffer B has room, and x and b are the head's two bytes
pub record Begun (s B : List ℕ) (x b : ℕ) : Type 0 where
  pub right : wrong_short s ≡ false
  pub known : unknown_model (model_code s) ≡ false
  pub enough : length (expanded s) ≤ length B
  pub head : ShortHead s x b

module _ {s B : List ℕ} {x b : ℕ} (o : Begun s B x b) where
  fits : ShortFits s
  fits = short_fits s o.right

  model : x ≡ model_code s
  model =
      let l = fits.head_there in
      let byte = o.head.model_byte in
      let small = o.head.model_small in
      let is = model_is s l (omega arith) in
      omega arith

  racks : b / 2 ≡ short_racks s
  racks =
      let l = fits.head_there in
      let byte = o.head.racks_byte in
      let small = o.head.racks_small in
      let is = racks_is s l (omega arith) in
      omega arith

  pub out_known : unknown_model x ≡ false
  out_known = subst (λ (k : ℕ). unknown_model k ≡ false) (sym model) o.known

  -- and the size is the model's
  module _ {rows columns : ℕ} (size : SizeOf x rows columns) where
    rows_are : rows ≡ rows_of (model_code s)
    rows_are = size.rows_are ∙ ap rows_of model

    columns_are : columns ≡ columns_of (model_code s)
    columns_are = size.columns_are ∙ ap columns_of model

    same_units : tail_pairs rows columns (part 2 s) (b / 2) ≡ units s
    same_units = rw (rows_are, columns_are, racks) refl

    pub out_racks : 12 * (b / 2) ≤ 8 * length (part 2 s)
    out_racks = rw racks (racks_room s fits)

    pub out_room : Room (part 3 B) 0 (tail_pairs rows columns (part 2 s) (b / 2))
    out_room = subst (Room (part 3 B) 0) (sym same_units) (units_room s fits o.known B o.enough)

    module _ {t : List ℕ} (e : ℕ) (w : Put (part 3 B) 0 (tail_pairs rows columns (part 2 s) (b / 2)) t (e + b / 2)) where
      put : Put (part 3 B) 0 (units s) t (e + short_racks s)
      put =
          subst (λ (m : ℕ). Put (part 3 B) 0 (units s) t (e + m)) racks
          (subst (λ (us : List (ℕ × ℕ)). Put (part 3 B) 0 us t (e + b / 2)) same_units w)

      pub out_counts : (rows * columns < 128) × (e < 256) × (b / 2 < 128)
      out_counts =
          let few = size.few in
          let count = edges_written s fits o.known B o.enough t e put in
          let most = few_edges s fits o.known in
          let is = racks in
          let q = few_bits s in
          (omega arith, omega arith, omega arith)

      pub out_written : {y : List ℕ}
          → y ≡ written (take 3 B ++ (t ++ drop (length B - 3) (drop 3 B))) 0 (order_head (rows * columns) e (b / 2))
          → y ≡ written B 0 (expanded s)
      out_written {y} is =
          written_out s fits o.known B o.enough t e put y
          (is ∙ (rw (rows_are, columns_are, racks) refl))
