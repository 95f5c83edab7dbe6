use Rattle.irtext_tokens.specs.AttrTexts.{attr_at}
use Rattle.irtext_grammar.specs.Heads.{argument_at}
use Rattle.irtext_parse_pieces.specs.Arguments.{IsArgument}
use Rattle.irtext_parse_pieces.specs.Named.{whole}
use Rattle.irtext_grammar.specs.Parsed.{Each}
use Rattle.irtext_parse_pieces.proofs.Meanings.{names_none, names_more, names_still_represent}
use Rattle.irtext_parse_pieces.proofs.Listings.{listing_starts, turn_kept, turn_unkept, kept_falls, turn_ends}
use Rattle.irtext_parse_pieces.proofs.Lenses.{lens_of}
use Rattle.irtext_parse_pieces.proofs.arguments.more_arguments.Goals as goal

pub loop-stream-init : goal.loop-stream-init
loop-stream-init g c =
    (names_none c.args.names.now, λ name means fine. listing_starts (lens_of g.world g.met.S.CharStream) (argument_at g.T.IrText.reading (attr_at g.A.IrText.reading)) name c.args.first c.args.stream.now c.one-found.ensures fine means)

pub returns-in-Err-clause-read : goal.returns-in-Err-clause-read
returns-in-Err-clause-read g c = λ name means fine.
    turn_unkept (lens_of g.world g.met.S.CharStream) (argument_at g.T.IrText.reading (attr_at g.A.IrText.reading)) c.loop-stream-test.ensures (IsArgument c.loop-stream.names.names) (IsArgument c.argument_parse-answer.new.names.names)
    (λ y x k. (names_still_represent c.argument_parse-answer.ensures.names y.0 x.0 k.0, k.1)) c.argument_parse-answer.result c.argument_parse-answer.ensures.read (c.loop-stream.invariant.1 name means fine) c.in-Err.ensures

pub loop-stream-preserved : goal.loop-stream-preserved
loop-stream-preserved g c = (
  names_more _ _ _ c.loop-stream.invariant.0 c.argument_parse-answer.ensures.names,
  λ name means fine.
      turn_kept (lens_of g.world g.met.S.CharStream) (argument_at g.T.IrText.reading (attr_at g.A.IrText.reading)) c.loop-stream-test.ensures (IsArgument c.loop-stream.names.names) (IsArgument c.argument_parse-answer.new.names.names)
      (λ y x k. (names_still_represent c.argument_parse-answer.ensures.names y.0 x.0 k.0, k.1)) c.argument_parse-answer.result c.argument_parse-answer.ensures.read (c.loop-stream.invariant.1 name means fine) c.in-Ok.ensures,
)

pub loop-stream-smaller : goal.loop-stream-smaller
loop-stream-smaller g c =
    kept_falls (lens_of g.world g.met.S.CharStream) (argument_at g.T.IrText.reading (attr_at g.A.IrText.reading)) c.loop-stream-test.ensures c.argument_parse-answer.result c.argument_parse-answer.ensures.read c.in-Ok.ensures

pub returns-clause-read : goal.returns-clause-read
returns-clause-read g c = λ name means fine.
    let l = lens_of g.world g.met.S.CharStream in
    let p = c.loop-stream.invariant.1 name means fine in
    turn_ends l (argument_at g.T.IrText.reading (attr_at g.A.IrText.reading)) (Each (IsArgument c.loop-stream.names.names (whole (l.view c.args.stream.now)))) c.loop-stream.found c.loop-stream-test.ensures p p.each

pub returns-in-Err-clause-names : goal.returns-in-Err-clause-names
returns-in-Err-clause-names g c = names_more _ _ _ c.loop-stream.invariant.0 c.argument_parse-answer.ensures.names

pub returns-clause-names : goal.returns-clause-names
returns-clause-names g c = c.loop-stream.invariant.0
