use Rattle.std.proofs.Common.{◌≡◌, Some, refl, length, option_map}
use Rattle.irtext_base.specs.FormatViews.{directives_of}
use Rattle.irtext_grammar.specs.Contexts.Formats.{format_of, isolated}
use Rattle.irtext_graph.specs.Parts.{regions}
use Rattle.irtext_print_ops.specs.Fits.{FitsOwn, IsFirstReason, format_by}
use Rattle.irtext_print_ops.specs.Names.{printing_by}
use Rattle.irtext_print_ops.specs.Heads as heads
use Rattle.irtext_print_ops.proofs.Fronts.{directives_by, canonical_by}
use Rattle.irtext_print_ops.proofs.Seen.{own_holds}
use Rattle.irtext_print_ops.proofs.front.find_directives.Goals as goal

pub returns-in-Ok : goal.returns-in-Ok
returns-in-Ok g c =
    let ctx = c.args.ctx.now in
    let C = printing_by {T = g.row.T.Denot} g.A.AttrText g.A.PartialEq.eq ctx in
    let form = format_of ctx.dialects (heads.operation_at g.T.IrText g.A.IrText g.A.AttrText g.A.PartialEq.eq ctx c.args.op).id in
    let known : form ≡ Some (format_by (option_map (λ ds. directives_of ds.now) c.in-Ok.directives)) =
    own_holds g.A.IrText.written ctx c.args.op (λ o. format_of ctx.dialects o.id ≡ Some (format_by (option_map (λ ds. directives_of ds.now) c.in-Ok.directives))) c.requires.live c.in-Ok.ensures.format in
    record {
      found = directives_by form (option_map (λ ds. directives_of ds.now) c.in-Ok.directives) known;
      form = canonical_by form c.in-Ok.directives known;
      fits = own_holds g.A.IrText.written ctx c.args.op (λ o. FitsOwn C (isolated ctx.dialects) o (length (regions ctx.graph c.args.op))) c.requires.live c.in-Ok.ensures.fits;
      refused = tt;
    }

pub returns-in-Err : goal.returns-in-Err
returns-in-Err g c =
    let ctx = c.args.ctx.now in
    let C = printing_by {T = g.row.T.Denot} g.A.AttrText g.A.PartialEq.eq ctx in
    record {
      found = tt;
      form = tt;
      fits = tt;
      refused = (refl, (own_holds g.A.IrText.written ctx c.args.op (λ o. IsFirstReason C (isolated ctx.dialects) o (length (regions ctx.graph c.args.op)) c.in-Err.field-0) c.requires.live c.in-Err.ensures.fault).unfit);
    }
