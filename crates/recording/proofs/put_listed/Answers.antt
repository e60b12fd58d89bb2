-- `recording::put_listed` meets its contract: by the test, a move is three positions or two. Assumes nothing.
use mathlib.Core.Path.{◌∙◌}
use native.Mathlib.Omega.{arith}
use Rattle.field.proofs.ListedLaws.{triple_end, pair_end, put_listed_triple, put_listed_pair}
use Rattle.recording.proofs.put_listed.Goals as goal

pub overflow_sub-rack : goal.overflow_sub-rack
overflow_sub-rack c =
    (c.requires.a_bound.2 c.if-named.true).0

pub put_triple-requires : goal.put_triple-requires
put_triple-requires c =
    let fits = c.requires.a_bound.2 c.if-named.true in (
      c.requires.a_bound.0,
      c.requires.a_bound.1,
      omega (arith, fits.0, fits.1),
      triple_end c.args.named c.args.j _
          c.if-named.true c.requires.j_in_bounds,
    )

pub returns-then-named : goal.returns-then-named
returns-then-named c =
    c.put_triple.ensures ∙ put_listed_triple c.args.named c.args.s.now c.args.j c.args.a c.args.b c.args.rack c.if-named.true

pub put_pair-requires : goal.put_pair-requires
put_pair-requires c =
    (c.requires.a_bound.0, c.requires.a_bound.1, pair_end c.args.named c.args.j _ c.if-named.false c.requires.j_in_bounds)

pub returns : goal.returns
returns c =
    c.put_pair.ensures ∙ put_listed_pair c.args.named c.args.s.now c.args.j c.args.a c.args.b c.args.rack c.if-named.false
