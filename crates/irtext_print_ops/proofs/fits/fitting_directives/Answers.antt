use Rattle.std.proofs.Common.{◌∙◌, Some, None, sym, ap, subst, length}
use Rattle.irtext_base.specs.Format as format
use Rattle.irtext_base.specs.Format.{Accepted}
use Rattle.irtext_base.specs.FormatViews.{directives_of, format_of}
use Rattle.irtext_graph.specs.Parts.{regions}
use Rattle.irtext_grammar.specs.Contexts.Formats.{isolated}
use Rattle.irtext_grammar.specs.Contexts.Nested.{seen_own}
use Rattle.irtext_print.proofs.Printers.FitFaults.{format_found}
use Rattle.irtext_print_ops.specs.Names.{printing_by}
use Rattle.irtext_print_ops.proofs.FitTexts.{given, canonical_fits, unregistered, Answers}
use Rattle.irtext_print_ops.proofs.FitsKnown.{has_format, checked}
use Rattle.irtext_print_ops.proofs.fits.fitting_directives.Goals as goal

pub returns-in-Canonical : goal.returns-in-Canonical
returns-in-Canonical g c =
    let C = printing_by {T = g.row.T.Denot} g.A.AttrText g.A.PartialEq.eq c.args.ctx.now in
    let all = has_format C g.A.IrText.written c.args.ctx.now c.args.op c.get_opid.result.now c.get_opid.ensures (Some format.canonical) (format_found c.op_info.ensures.found c.in-Some.is ∙ ap (λ z. Some (format_of z)) c.in-Canonical.is) in
    record {
      format = all;
      fits = canonical_fits C (isolated c.args.ctx.now.dialects) (length (regions c.args.ctx.now.graph c.args.op)) (seen_own g.A.IrText.written c.args.ctx.now c.args.op) all;
      fault = tt;
    }

pub returns-in_default-clause-fault : goal.returns-in_default-clause-fault
returns-in_default-clause-fault g c =
    let C = printing_by {T = g.row.T.Denot} g.A.AttrText g.A.PartialEq.eq c.args.ctx.now in
    unregistered C (isolated c.args.ctx.now.dialects) (length (regions c.args.ctx.now.graph c.args.op)) (seen_own g.A.IrText.written c.args.ctx.now c.args.op)
    (has_format C g.A.IrText.written c.args.ctx.now c.args.op c.get_opid.result.now c.get_opid.ensures None (format_found c.op_info.ensures.found c.in_default.is))

pub returns-in-Ok : goal.returns-in-Ok
returns-in-Ok g c =
    let C = printing_by {T = g.row.T.Denot} g.A.AttrText g.A.PartialEq.eq c.args.ctx.now in
    let known = checked C g.A.IrText.written c.args.ctx.now c.args.op c.get_opid.result.now c.get_opid.ensures (format_of c.in-Some.info.now.format) (directives_of c.as_slice-directives.result.now) c.count_parts-counts.result c.attributes.result.now c.check_parts.result (format_found c.op_info.ensures.found c.in-Some.is) (ap format_of c.in-Custom.is ∙ ap (λ items. format.custom (directives_of items)) (sym c.as_slice-directives.ensures.value)) (given (λ info. Accepted (format_of info.now.format)) c.op_info.result c.in-Some.info c.in-Some.is c.op_info.ensures.accepted) c.count_parts-counts.ensures c.attributes.ensures c.check_parts.ensures.first c.check_parts.ensures.names in
    record { format = known.format; fits = (subst (Answers C (isolated c.args.ctx.now.dialects) (length (regions c.args.ctx.now.graph c.args.op)) (seen_own g.A.IrText.written c.args.ctx.now c.args.op)) c.in-Ok.is known.answers).fits; fault = tt }

pub returns-in-Err : goal.returns-in-Err
returns-in-Err g c =
    let C = printing_by {T = g.row.T.Denot} g.A.AttrText g.A.PartialEq.eq c.args.ctx.now in
    let known = checked C g.A.IrText.written c.args.ctx.now c.args.op c.get_opid.result.now c.get_opid.ensures (format_of c.in-Some.info.now.format) (directives_of c.as_slice-directives.result.now) c.count_parts-counts.result c.attributes.result.now c.check_parts.result (format_found c.op_info.ensures.found c.in-Some.is) (ap format_of c.in-Custom.is ∙ ap (λ items. format.custom (directives_of items)) (sym c.as_slice-directives.ensures.value)) (given (λ info. Accepted (format_of info.now.format)) c.op_info.result c.in-Some.info c.in-Some.is c.op_info.ensures.accepted) c.count_parts-counts.ensures c.attributes.ensures c.check_parts.ensures.first c.check_parts.ensures.names in
    record { format = tt; fits = tt; fault = (subst (Answers C (isolated c.args.ctx.now.dialects) (length (regions c.args.ctx.now.graph c.args.op)) (seen_own g.A.IrText.written c.args.ctx.now c.args.op)) c.in-Err.is known.answers).fault }
