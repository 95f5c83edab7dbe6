use Rattle.std.proofs.Common.{◌≡◌, refl}
use Rattle.irtext_grammar.specs.Parsed.{Each}
use Rattle.irtext_parse_pieces.proofs.Listings.{listing_starts, turn_kept, turn_unkept, kept_falls, turn_ends}
use Rattle.irtext_parse_pieces.proofs.Lenses.{lens_of}
use Rattle.irtext_parse_pieces.proofs.types.more_types.Goals as goal

pub loop-stream-init : goal.loop-stream-init
loop-stream-init g c = λ fine. listing_starts (lens_of g.world g.met.S.CharStream) g.T.IrText.reading c.args.first c.args.first c.args.stream.now c.one-found.ensures fine refl

pub returns-in-Err : goal.returns-in-Err
returns-in-Err g c = λ fine.
    turn_unkept (lens_of g.world g.met.S.CharStream) g.T.IrText.reading c.loop-stream-test.ensures (λ text. ◌≡◌) (λ text. ◌≡◌) (λ y x k. k) c.type_parse-answer.result c.type_parse-answer.ensures (c.loop-stream.invariant fine) c.in-Err.ensures

pub loop-stream-preserved : goal.loop-stream-preserved
loop-stream-preserved g c = λ fine.
    turn_kept (lens_of g.world g.met.S.CharStream) g.T.IrText.reading c.loop-stream-test.ensures (λ text. ◌≡◌) (λ text. ◌≡◌) (λ y x k. k) c.type_parse-answer.result c.type_parse-answer.ensures (c.loop-stream.invariant fine) c.in-Ok.ensures

pub loop-stream-smaller : goal.loop-stream-smaller
loop-stream-smaller g c =
    kept_falls (lens_of g.world g.met.S.CharStream) g.T.IrText.reading c.loop-stream-test.ensures c.type_parse-answer.result c.type_parse-answer.ensures c.in-Ok.ensures

pub returns : goal.returns
returns g c = λ fine.
    let p = c.loop-stream.invariant fine in
    turn_ends (lens_of g.world g.met.S.CharStream) g.T.IrText.reading (Each ◌≡◌) c.loop-stream.found c.loop-stream-test.ensures p p.each
