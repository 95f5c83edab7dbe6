use Rattle.irtext_parse_pieces.specs.Kinds.{named_at}
use Rattle.irtext_parse_pieces.specs.Named.{whole}
use Rattle.irtext_grammar.specs.Parsed.{Represents, Each}
use Rattle.irtext_parse_pieces.proofs.Meanings.{names_none, names_more, names_still_represent}
use Rattle.irtext_parse_pieces.proofs.Listings.{listing_starts, turn_kept, turn_unkept, kept_falls, turn_ends}
use Rattle.irtext_parse_pieces.proofs.Lenses.{lens_of}
use Rattle.irtext_parse_pieces.proofs.lists.more_names.Goals as goal

pub loop-kind-init : goal.loop-kind-init
loop-kind-init g c = (names_none c.args.names.now, λ name means fine. listing_starts (lens_of g.world g.met.S.CharStream) (named_at c.args.kind c.args.inside) name c.args.first c.args.stream.now c.one-found.ensures fine means)

pub returns-in-Err-clause-read : goal.returns-in-Err-clause-read
returns-in-Err-clause-read g c = λ name means fine.
    turn_unkept (lens_of g.world g.met.S.CharStream) (named_at c.args.kind c.args.inside) c.loop-kind-test.ensures (Represents c.loop-kind.names.names) (Represents c.named_parse-answer.new.names.names)
    (names_still_represent c.named_parse-answer.ensures.names) c.named_parse-answer.result c.named_parse-answer.ensures.read (c.loop-kind.invariant.1 name means fine) c.in-Err.ensures

pub loop-kind-preserved : goal.loop-kind-preserved
loop-kind-preserved g c = (
  names_more _ _ _ c.loop-kind.invariant.0 c.named_parse-answer.ensures.names,
  λ name means fine.
      turn_kept (lens_of g.world g.met.S.CharStream) (named_at c.args.kind c.args.inside) c.loop-kind-test.ensures (Represents c.loop-kind.names.names) (Represents c.named_parse-answer.new.names.names)
      (names_still_represent c.named_parse-answer.ensures.names) c.named_parse-answer.result c.named_parse-answer.ensures.read (c.loop-kind.invariant.1 name means fine) c.in-Ok.ensures,
)

pub loop-kind-smaller : goal.loop-kind-smaller
loop-kind-smaller g c =
    kept_falls (lens_of g.world g.met.S.CharStream) (named_at c.args.kind c.args.inside) c.loop-kind-test.ensures c.named_parse-answer.result c.named_parse-answer.ensures.read c.in-Ok.ensures

pub returns-clause-read : goal.returns-clause-read
returns-clause-read g c = λ name means fine.
    let l = lens_of g.world g.met.S.CharStream in
    let p = c.loop-kind.invariant.1 name means fine in
    turn_ends l (named_at c.args.kind c.args.inside) (Each (Represents c.loop-kind.names.names (whole (l.view c.args.stream.now)))) c.loop-kind.found c.loop-kind-test.ensures p p.each

pub returns-in-Err-clause-names : goal.returns-in-Err-clause-names
returns-in-Err-clause-names g c = names_more _ _ _ c.loop-kind.invariant.0 c.named_parse-answer.ensures.names

pub returns-clause-names : goal.returns-clause-names
returns-clause-names g c = c.loop-kind.invariant.0
