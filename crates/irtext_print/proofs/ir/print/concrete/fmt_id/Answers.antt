use Rattle.std.proofs.Common.{◌++◌, codes, refl, string_bytes}
use Rattle.irtext_print.proofs.Printers.Locations.{more, worded}
use Rattle.irtext_print.proofs.Printers.PieceTexts.{identifier_appended}
use Rattle.irtext_print.proofs.ir.print.concrete.fmt_id.Goals as goal

pub returns-clause-text : goal.returns-clause-text
returns-clause-text c =
    let id = c.args.id.now in
    let old = string_bytes c.args.f.now in
    let first = string_bytes c.push_str.new.text in
    let second = string_bytes c.push_str-2.new.text in
    let new = string_bytes c.push_str-3.new.text in
    more old first new id.dialect (codes "." ++ id.name) (identifier_appended id.dialect c.as_str.result.now old first c.as_str.ensures.fits c.as_str.ensures.text c.in_ok-push_str.ensures.bytes)
    (worded first second new (codes ".") id.name refl c.in_ok-push_str-2.ensures.bytes (identifier_appended id.name c.as_str-2.result.now second new c.as_str-2.ensures.fits c.as_str-2.ensures.text c.in_ok-push_str-3.ensures.bytes))
