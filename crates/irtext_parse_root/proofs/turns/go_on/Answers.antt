use Rattle.std.proofs.Common.{Option, Some, None, slice_get}
use Rattle.irtext_base.specs.Faults.{id_of}
use Rattle.irtext_tokens.specs.AttrTexts.{attr_at}
use Rattle.irtext_grammar.specs.Heads.{Step}
use Rattle.irtext_grammar.specs.Reached.{steps_in}
use Rattle.irtext_parse_nested.specs.Later.{IsFlatNext}
use Rattle.irtext_parse_pieces.specs.Coming.{IsStep}
use Rattle.irtext_parse_pieces.specs.declared.coming.Coming.TheVariants as comes
use Rattle.irtext_parse_root.proofs.Handing.{goes_given, spares_same}
use Rattle.irtext_parse_root.proofs.turns.go_on.Goals as goal

flat_here : (o : Option Step) → IsStep comes.Piece o → IsFlatNext o
flat_here None h = absurd h
flat_here (Some step) h = h

pub operation_piece-requires-clause-tied : goal.operation_piece-requires-clause-tied
operation_piece-requires-clause-tied g c = c.requires.steady.sound.sound.tied

pub operation_piece-requires-clause-step : goal.operation_piece-requires-clause-step
operation_piece-requires-clause-step g c = flat_here (slice_get (steps_in c.args.s.now.state.ctx.now.dialects (id_of c.args.begun.now.id)) c.args.begun.now.step) c.requires.step

pub returns-clause-goes_on : goal.returns-clause-goes_on
returns-clause-goes_on g c =
    let e = c.operation_piece.ensures in
    goes_given g.T.IrText.reading (attr_at g.A.IrText.reading) c.args.names.now c.args.s.now c.operation_piece.new.names c.operation_piece.new.s e.rest c.args.begun.now c.operation_piece.new.begun c.operation_piece.result e.names.kept e.names.values e.names.labels e.marks e.moves e.goes_on e.spares e.lasts e.sound

pub returns-clause-spares : goal.returns-clause-spares
returns-clause-spares g c =
    let e = c.operation_piece.ensures in
    spares_same g.T.IrText.reading (attr_at g.A.IrText.reading) c.args.names.now c.args.s.now c.operation_piece.new.names c.operation_piece.new.s e.rest c.operation_piece.result e.names.kept e.marks e.kept
