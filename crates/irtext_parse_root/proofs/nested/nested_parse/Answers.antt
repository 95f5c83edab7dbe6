use Rattle.std.proofs.Common.{arith}
use Rattle.irtext_tokens.proofs.Exits.{propagated}
use Rattle.irtext_graph.specs.declared.object.Object.TheVariants.{TheOperation}
use Rattle.irtext_parse_root.proofs.Chains.{never_open, carries_both, remains_on}
use Rattle.irtext_parse_root.proofs.Nesting.{root_is_here, nested_reads, nested_stops, none_begins}
use Rattle.irtext_parse_root.proofs.Sparing.{fine_after, sound_after, spares_as, spares_then}
use Rattle.irtext_parse_root.proofs.nested.nested_parse.Goals as goal

pub begin-requires-clause-steady : goal.begin-requires-clause-steady
begin-requires-clause-steady g c = record { fine = c.requires.fine; sound = c.requires.sound }

-- ---- the operation was not begun
pub returns-in_err-begun-clause-refused : goal.returns-in_err-begun-clause-refused
returns-in_err-begun-clause-refused g c = rw (propagated c.from_residual.result c.from_residual.ensures.1) (none_begins g.T.IrText.reading g.A.IrText.reading g.met.T.IrText.sincere.reads g.met.A.IrText.sincere.reads c.args.names.now c.args.s.now _ c.in_err-begun.ensures.refused)

pub returns-in_err-begun-clause-unread : goal.returns-in_err-begun-clause-unread
returns-in_err-begun-clause-unread g c = rw (propagated c.from_residual.result c.from_residual.ensures.1) c.in_err-begun.ensures.unread

pub returns-in_err-begun-clause-rest : goal.returns-in_err-begun-clause-rest
returns-in_err-begun-clause-rest g c = c.in_err-begun.ensures.spares.remains.rest

pub returns-in_err-begun-clause-spares : goal.returns-in_err-begun-clause-spares
returns-in_err-begun-clause-spares g c =
    let e = c.in_err-begun.ensures.spares in
    rw (propagated c.from_residual.result c.from_residual.ensures.1) (spares_as _ (λ m all. tt) e.remains e)

-- ---- the rest of its text was not parsed
pub items_parse-requires : goal.items_parse-requires
items_parse-requires g c =
    let b = c.in_ok-begun.ensures.begins in
    record { ready = record { steady = record { fine = fine_after c.requires.fine b.carries.moves; sound = sound_after c.requires.sound b.carries }; here = root_is_here g.T.IrText.reading g.A.IrText.reading g.met.T.IrText.sincere.reads g.met.A.IrText.sincere.reads c.args.names.now c.args.s.now c.in_ok-begun.begun c.begin.new.names c.begin.new.s b } }

pub returns-in_err-items_parse-clause-refused : goal.returns-in_err-items_parse-clause-refused
returns-in_err-items_parse-clause-refused g c =
    rw (propagated c.from_residual-in_err-items_parse.result c.from_residual-in_err-items_parse.ensures.1)
    (nested_stops g.T.IrText.reading g.A.IrText.reading g.met.T.IrText.sincere.reads g.met.A.IrText.sincere.reads c.args.names.now c.args.s.now c.in_ok-begun.begun c.begin.new.names c.begin.new.s c.in_ok-begun.ensures.begins _ c.in_err-items_parse.ensures.stops)

pub returns-in_err-items_parse-clause-unread : goal.returns-in_err-items_parse-clause-unread
returns-in_err-items_parse-clause-unread g c =
    rw (propagated c.from_residual-in_err-items_parse.result c.from_residual-in_err-items_parse.ensures.1) (never_open _ c.in_err-items_parse.ensures.stops.committed)

pub returns-in_err-items_parse-clause-rest : goal.returns-in_err-items_parse-clause-rest
returns-in_err-items_parse-clause-rest g c = (remains_on c.in_ok-begun.ensures.begins.carries c.in_err-items_parse.ensures.spares.remains).rest

pub returns-in_err-items_parse-clause-spares : goal.returns-in_err-items_parse-clause-spares
returns-in_err-items_parse-clause-spares g c =
    let b = c.in_ok-begun.ensures in
    rw (propagated c.from_residual-in_err-items_parse.result c.from_residual-in_err-items_parse.ensures.1)
    (spares_then c.args.s.now c.begin.new.s _ b.begins.carries (λ m all. tt) (λ m le all. (b.begins.fresh m le, tt)) c.in_err-items_parse.ensures.spares.remains b.spares c.in_err-items_parse.ensures.spares)

-- ---- it was parsed
pub returns-clause-read : goal.returns-clause-read
returns-clause-read g c = nested_reads g.T.IrText.reading g.A.IrText.reading g.met.T.IrText.sincere.reads g.met.A.IrText.sincere.reads c.args.names.now c.args.s.now c.in_ok-begun.begun c.begin.new.names c.begin.new.s c.in_ok-begun.ensures.begins c.items_parse.new.names c.items_parse.new.s c.in_ok-items_parse.ensures.finishes

pub returns-clause-carries : goal.returns-clause-carries
returns-clause-carries g c = carries_both c.in_ok-begun.ensures.begins.carries c.in_ok-items_parse.ensures.finishes.carries

pub returns-clause-new : goal.returns-clause-new
returns-clause-new g c m le =
    let b = c.in_ok-begun.ensures.begins in
    let up = b.carries.lasts.made in
    c.in_ok-items_parse.ensures.finishes.carries.lasts.newer m (TheOperation c.in_ok-begun.begun.op) (omega (arith, le, up)) (b.fresh m le)

pub returns-clause-rest : goal.returns-clause-rest
returns-clause-rest g c = (carries_both c.in_ok-begun.ensures.begins.carries c.in_ok-items_parse.ensures.finishes.carries).rest

pub returns-clause-spares : goal.returns-clause-spares
returns-clause-spares g c =
    let b = c.in_ok-begun.ensures in
    spares_then c.args.s.now c.begin.new.s _ b.begins.carries (λ m all. tt) (λ m le all. (b.begins.fresh m le, tt)) tt b.spares c.in_ok-items_parse.ensures.spares
