use Rattle.std.proofs.Common.{◌++◌, [], None, Some, refl}
use Rattle.std.specs.Prelude.{codes, false}
use Rattle.std.specs.Fmt.{digits, digits_output}
use Rattle.irtext_diagnostics.specs.declared.messages.Severity.TheVariants.{Error}
use Rattle.irtext_tool.specs.Reports.{said_bytes}
use Rattle.irtext_tool.specs.Told.{TellsNotUtf8}
use Rattle.irtext_tool.proofs.Telling.{writes, is_made, with_digits}
use Rattle.irtext_tool.proofs.report.report_bytes.Goals as goal

pub returns : goal.returns
returns g c =
    let form = c.args.scene.form in
    let path = c.args.scene.path.now in
    let found = c.in-Some.found in
    let place = c.place_in-place.result in
    let message = c.made_or.result.now in
    let short = codes "the text is not UTF-8" in
    let front = codes "the text is not UTF-8: byte 0x" in
    let number = digits 16 false found.byte in
    writes (g.E.Write.contents c.args.errors.now) (g.E.Write.contents c.write_report.new.errors) c.write_report.result
    (said_bytes form Error path place message (codes "not-utf8") None []) (TellsNotUtf8 form path c.args.bytes.now) c.write_report.ensures
    (λ other. record {
      valid = found.valid.now;
      position = found.position;
      byte = found.byte;
      rejected = c.in-Some.ensures;
      error = record {
        place = place;
        placed = c.place_in-place.ensures;
        name = None;
        notes = [];
        error = record {
          message = message;
          says = is_made c.format-message.result (front ++ number) short message (with_digits c.format-message.result front number (digits_output c.in_radix.result) c.in_radix.ensures c.format-message.ensures.ok) c.made_or.ensures;
          is = refl;
        };
      };
    })
