use Rattle.std.proofs.Common.{Some, None, Ok, refl}
use Rattle.irtext_base.specs.FormatViews.{format_of}
use Rattle.irtext_print.proofs.Printers.FitFaults.{format_found}
use Rattle.irtext_formatter.proofs.Keying.{keyed}
use Rattle.irtext_formatter.proofs.misfit.mistaken_in.Goals as goal

pub returns-in-Some : goal.returns-in-Some
returns-in-Some g c =
    keyed c.args.ctx.now c.args.op c.get_opid.result.now c.attributes-attributes.result.now c.args.fault c.get_opid.ensures c.attributes-attributes.ensures (Some (format_of c.in-Some.info.now.format)) (format_found c.op_info.ensures.found c.in-Some.is) c.mistaken_key.result c.mistaken_key.ensures

pub returns-in-None : goal.returns-in-None
returns-in-None g c =
    keyed c.args.ctx.now c.args.op c.get_opid.result.now c.attributes-attributes.result.now c.args.fault c.get_opid.ensures c.attributes-attributes.ensures None (format_found c.op_info.ensures.found c.in-None.is) (Ok None) refl
