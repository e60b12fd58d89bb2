-- `reading::read_full`: a read puts its bytes behind those that were read before. Assumes nothing.
use Rattle.std.proofs.Common.{◌≡◌, ◌+◌, ◌-◌, ◌++◌, length, take, ap, ap₂, sym, subst, ◌∙◌, rules, le_refl, drop_at, length-take-le}
use Rattle.std.proofs.KnownBytes.{Consumes-trans}
use Rattle.std.proofs.lemmas.Slice.{take-put_mid_below}
use Rattle.std.specs.Io.KnownBytes.{Consumes}
use borrow.Rule.Slice.PartMut.{put_mid, post_of}
use lib.Seq.{take-add, take-append-le}
use Rattle.reading.proofs.read_full.Goals as goal

pub loop-done-preserved : goal.loop-done-preserved
loop-done-preserved g c =
    let old = c.loop-done.buf in
    let within = c.loop-done.invariant.1 in
    let from = c.loop-done.done in
    let room = length old - from in
    let count = c.in_ok-count.count in
    let given = c.read.new.buf in
    let new = put_mid from room old given in
    let after = post_of from room old in
    let front = take-put_mid_below from room old given from (le_refl _) within in
    let behind = ap (take count) (drop_at (take from old) (given ++ after) from (length-take-le from old within))
    ∙ take-append-le count given after c.in_ok-count.ensures.bound.0 in
    let joined : take (from + count) new ≡ take from old ++ take count given = take-add from count new ∙ ap₂
    (λ xs ys. xs ++ ys) front behind in (
      search rules,
      search rules,
      subst (Consumes _ _) (sym joined) (Consumes-trans _ _ _ _ _ c.loop-done.invariant.2
          c.in_ok-count.ensures.bytes.0),
    )
