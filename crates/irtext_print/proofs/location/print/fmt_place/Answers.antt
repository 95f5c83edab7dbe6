use Rattle.std.proofs.Common.{◌∙◌, ◌++◌, ap, append_assoc, codes, string_bytes}
use Rattle.std.specs.Fmt.{signed_decimal}
use Rattle.std.specs.Str.{encode_utf8_all}
use Rattle.irtext_base.specs.Paths.{path_of}
use Rattle.irtext_grammar.specs.Spelling.Locations.{source_text}
use Rattle.irtext_print.proofs.Printers.Appended.{then}
use Rattle.irtext_print.proofs.Printers.Locations.{more}
use Rattle.irtext_print.proofs.location.print.fmt_place.Goals as goal

pub returns-clause-text : goal.returns-clause-text
returns-clause-text g c =
    let source = source_text (path_of c.args.ctx.now.paths c.args.src) in
    let numbers = signed_decimal c.args.pos.now.line ++ (codes ", column: " ++ signed_decimal c.args.pos.now.column) in
    then c.fmt_numbers.result (λ w. more (string_bytes c.args.f.now) (string_bytes c.fmt_front.new.f) (string_bytes c.fmt_numbers.new.f) (source ++ codes ": line: ") numbers c.in_ok-fmt_front.ensures.text w
    ∙ ap (λ z. string_bytes c.args.f.now ++ encode_utf8_all z) (append_assoc source (codes ": line: ") numbers)) c.fmt_numbers.ensures.text
