use Rattle.std.proofs.Common.{refl, subst}
use Rattle.irtext_grammar.specs.Contexts.Held.{whole}
use Rattle.irtext_tokens.specs.AttrTexts.{attr_at}
use Rattle.irtext_parse_nested.specs.Later.{NotStored, StoresPiece}
use Rattle.irtext_parse_nested.specs.Ends.{WritesAttributes}
use Rattle.irtext_parse_nested.proofs.Depths.{depths_read}
use Rattle.irtext_parse_nested.proofs.LaterRead.{next_missing, next_commits, next_moves, next_whole, next_goes_on, next_unstored, unstored_commits, piece_lasts, piece_spares, piece_keeps, piece_sound}
use Rattle.irtext_names.proofs.Outcomes.{on_ok, if_err}
use Rattle.irtext_parse_nested.proofs.Marking.{on_both, always_ok}
use Rattle.irtext_parse_nested.proofs.later.operation_piece.Goals as goal

-- ---- no piece could be parsed
pub returns-in-Err-clause-refused : goal.returns-in-Err-clause-refused
returns-in-Err-clause-refused g c = (next_missing g.T.IrText.reading (attr_at g.A.IrText.reading) c.args.s.now c.args.names.now c.args.names.now c.args.begun.now c.requires.fine g.met.T.IrText.sincere g.A.IrText.reading refl g.met.A.IrText.sincere c.in-Err.ensures.read)

pub returns-in-Err-clause-committed : goal.returns-in-Err-clause-committed
returns-in-Err-clause-committed g c = (next_commits g.T.IrText.reading (attr_at g.A.IrText.reading) c.args.s.now c.args.names.now c.args.names.now c.args.begun.now c.requires.fine c.requires.step c.in-Err.ensures.read)

pub returns-in-Err-clause-moves : goal.returns-in-Err-clause-moves
returns-in-Err-clause-moves g c = tt

pub returns-in-Err-clause-goes_on : goal.returns-in-Err-clause-goes_on
returns-in-Err-clause-goes_on g c = tt

pub returns-in-Err-clause-spares : goal.returns-in-Err-clause-spares
returns-in-Err-clause-spares g c = tt

pub returns-in-Err-clause-lasts : goal.returns-in-Err-clause-lasts
returns-in-Err-clause-lasts g c = tt

pub returns-in-Err-clause-sound : goal.returns-in-Err-clause-sound
returns-in-Err-clause-sound g c = tt

pub returns-in-Err-clause-names : goal.returns-in-Err-clause-names
returns-in-Err-clause-names g c = depths_read c.args.names.now c.piece_read.new.names c.in-Err.ensures.names

-- ---- the piece is stored, or not
pub returns-clause-moves : goal.returns-clause-moves
returns-clause-moves g c = on_ok c.piece_done.result (λ same. next_moves g.T.IrText.reading (attr_at g.A.IrText.reading) c.args.s.now c.args.names.now c.piece_read.new.names c.args.begun.now c.in-Ok.ensures.names c.keeps_names.ensures
    c.in-Ok.piece c.piece_read.new.stream c.in-Ok.ensures.read _ same c.requires.step) c.piece_done.ensures.stream

pub returns-clause-goes_on : goal.returns-clause-goes_on
returns-clause-goes_on g c = on_both c.piece_done.result (λ stores same. next_goes_on g.T.IrText.reading (attr_at g.A.IrText.reading) c.args.s.now c.args.names.now c.piece_read.new.names c.args.begun.now c.in-Ok.ensures.names c.keeps_names.ensures
    c.in-Ok.piece c.piece_read.new.stream c.in-Ok.ensures.read c.piece_done.new.s c.piece_read.new.begun c.in-Ok.ensures.following same c.piece_done.ensures.marks c.requires.tied (subst (λ b. StoresPiece c.in-Ok.piece c.args.s.now.state.ctx.now c.piece_done.new.s.state.ctx.now b.op) c.in-Ok.ensures.following stores)) c.piece_done.ensures.stores c.piece_done.ensures.stream

pub returns-clause-refused : goal.returns-clause-refused
returns-clause-refused g c = if_err c.piece_done.result (λ fault n. next_unstored g.T.IrText.reading (attr_at g.A.IrText.reading) c.args.s.now c.args.names.now c.piece_read.new.names c.args.begun.now c.in-Ok.ensures.names c.keeps_names.ensures
    c.in-Ok.piece c.piece_read.new.stream c.in-Ok.ensures.read fault (subst (λ t. NotStored c.in-Ok.piece c.piece_read.new.names.names t fault) (next_whole g.T.IrText.reading (attr_at g.A.IrText.reading) c.args.s.now c.args.names.now c.piece_read.new.names c.args.begun.now c.in-Ok.ensures.names c.keeps_names.ensures
    c.in-Ok.piece c.piece_read.new.stream c.in-Ok.ensures.read c.requires.step) n)) c.piece_done.ensures.refused

pub returns-clause-committed : goal.returns-clause-committed
returns-clause-committed g c = if_err c.piece_done.result (λ fault n. unstored_commits c.in-Ok.piece c.piece_read.new.names.names (whole c.piece_read.new.stream) fault n) c.piece_done.ensures.refused

pub returns-clause-spares : goal.returns-clause-spares
returns-clause-spares g c = always_ok c.piece_done.result (piece_spares _ _ c.args.begun.now.op (subst (λ b. WritesAttributes c.args.s.now.state.ctx.now c.piece_done.new.s.state.ctx.now b.op) c.in-Ok.ensures.following c.piece_done.ensures.writes))

pub returns-clause-lasts : goal.returns-clause-lasts
returns-clause-lasts g c = always_ok c.piece_done.result (piece_lasts _ _ c.args.begun.now.op (subst (λ b. WritesAttributes c.args.s.now.state.ctx.now c.piece_done.new.s.state.ctx.now b.op) c.in-Ok.ensures.following c.piece_done.ensures.writes))

pub returns-clause-sound : goal.returns-clause-sound
returns-clause-sound g c = always_ok c.piece_done.result (λ m le h. piece_sound c.args.names.now c.piece_read.new.names c.args.s.now c.piece_done.new.s c.args.begun.now.op c.in-Ok.ensures.names (subst (λ b. WritesAttributes c.args.s.now.state.ctx.now c.piece_done.new.s.state.ctx.now b.op) c.in-Ok.ensures.following c.piece_done.ensures.writes) m h)

pub returns-clause-names : goal.returns-clause-names
returns-clause-names g c = depths_read c.args.names.now c.piece_read.new.names c.in-Ok.ensures.names

pub returns-clause-kept : goal.returns-clause-kept
returns-clause-kept g c = λ m le new. piece_keeps _ _ c.args.begun.now.op (subst (λ b. WritesAttributes c.args.s.now.state.ctx.now c.piece_done.new.s.state.ctx.now b.op) c.in-Ok.ensures.following c.piece_done.ensures.writes) m new
