use Rattle.std.proofs.Common.{◌++◌, codes, refl, string_bytes}
use Rattle.std.specs.Fmt.{decimal}
use Rattle.irtext_print.proofs.Printers.Appended.{then}
use Rattle.irtext_print.proofs.Printers.Locations.{unworded}
use Rattle.irtext_print_ops.proofs.NamesWritten.{named_value}
use Rattle.irtext_print_ops.proofs.names.fmt_numbered.Goals as goal

pub returns-in_ok-push_str-in-Some-clause-text : goal.returns-in_ok-push_str-in-Some-clause-text
returns-in_ok-push_str-in-Some-clause-text c =
    rw c.in-Some.is (then c.fmt_suffix.result (λ q. named_value c.in-Some.name.now c.as_str.result.now c.args.number (string_bytes c.args.f.now) (string_bytes c.push_str.new.text) (string_bytes c.push_str.new.text ++ codes "_v") (string_bytes c.fmt_suffix.new.f)
    c.as_str.ensures.fits c.as_str.ensures.text c.in_ok-push_str-in-Some.ensures.bytes refl (unworded (string_bytes c.push_str.new.text) (string_bytes c.fmt_suffix.new.f) (codes "_v") (decimal c.args.number) refl q)) c.fmt_suffix.ensures.text)

pub returns-in-None-clause-text : goal.returns-in-None-clause-text
returns-in-None-clause-text c = rw c.in-None.is c.fmt_led_number.ensures.text
