use Rattle.irtext_tokens.proofs.Exits.{propagated}
use Rattle.irtext_grammar.specs.Heads.{name_at}
use Rattle.irtext_parse_pieces.specs.Named.{whole}
use Rattle.irtext_grammar.specs.Parsed.{Represents, Each}
use Rattle.irtext_parse_pieces.proofs.Meanings.{names_none, names_more, read_mean, names_still_represent}
use Rattle.irtext_parse_pieces.proofs.Listings.{listing_starts, turn_falls, turn_more, turn_keeps, turn_ends}
use Rattle.irtext_parse_pieces.proofs.Looks.{passed_here, next_unlooked}
use Rattle.irtext_parse_pieces.proofs.Lenses.{lens_of}
use Rattle.irtext_parse_pieces.proofs.results.more_results.Goals as goal

pub loop-stream-init : goal.loop-stream-init
loop-stream-init g c =
    (names_none c.args.names.now, λ name means fine. listing_starts (lens_of g.world g.met.S.CharStream) name_at name c.args.first c.args.stream.now c.one-found.ensures fine means)

pub returns-in-Err-clause-looks : goal.returns-in-Err-clause-looks
returns-in-Err-clause-looks g c = λ name means fine.
    next_unlooked (lens_of g.world g.met.S.CharStream) c.name_parse.new.names.names c.unless_committed.result c.loop-stream-test.ensures (c.loop-stream.invariant.1 name means fine) c.in-Err.ensures.read c.unless_committed.ensures

pub returns-in-Err-clause-names : goal.returns-in-Err-clause-names
returns-in-Err-clause-names g c = names_more _ _ _ c.loop-stream.invariant.0 c.name_parse.ensures.names

pub returns-in_err-found-clause-looks : goal.returns-in_err-found-clause-looks
returns-in_err-found-clause-looks g c = λ name means fine.
    let l = lens_of g.world g.met.S.CharStream in
    let a = c.in_err-found.ensures in
    let q = turn_more {A = g.row.A.Denot} l name_at c.loop-stream-test.ensures (Represents c.loop-stream.names.names) (Represents c.name_parse.new.names.names) (names_still_represent c.name_parse.ensures.names) (read_mean l c.in-Ok.ensures.read) (c.loop-stream.invariant.1 name means fine) a.spaced in
    rw (propagated c.from_residual.result c.from_residual.ensures.1) (passed_here l q.so_far.passed a.appended)

pub returns-in_err-found-clause-names : goal.returns-in_err-found-clause-names
returns-in_err-found-clause-names g c = names_more _ _ _ c.loop-stream.invariant.0 c.name_parse.ensures.names

pub loop-stream-preserved : goal.loop-stream-preserved
loop-stream-preserved g c = (
  names_more _ _ _ c.loop-stream.invariant.0 c.name_parse.ensures.names,
  λ name means fine.
      let l = lens_of g.world g.met.S.CharStream in
      turn_keeps {A = g.row.A.Denot} l name_at c.loop-stream-test.ensures (Represents c.loop-stream.names.names) (Represents c.name_parse.new.names.names) (names_still_represent c.name_parse.ensures.names) (read_mean l c.in-Ok.ensures.read) (c.loop-stream.invariant.1 name means fine) c.in_ok-found.ensures,
)

pub loop-stream-smaller : goal.loop-stream-smaller
loop-stream-smaller g c =
    let l = lens_of g.world g.met.S.CharStream in
    turn_falls {A = g.row.A.Denot} l name_at c.loop-stream-test.ensures (read_mean l c.in-Ok.ensures.read) c.in_ok-found.ensures

pub returns-clause-looks : goal.returns-clause-looks
returns-clause-looks g c = λ name means fine.
    let l = lens_of g.world g.met.S.CharStream in
    let p = c.loop-stream.invariant.1 name means fine in
    turn_ends {A = g.row.A.Denot} l name_at (Each (Represents c.loop-stream.names.names (whole (l.view c.args.stream.now)))) c.loop-stream.found c.loop-stream-test.ensures p p.each
