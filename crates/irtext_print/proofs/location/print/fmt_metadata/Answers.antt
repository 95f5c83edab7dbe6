use Rattle.std.proofs.Common.{refl, codes, string_bytes}
use Rattle.irtext_base.specs.Locations.{attr_view}
use Rattle.irtext_grammar.specs.Spelling.AttrText.{attr_text}
use Rattle.irtext_print.proofs.Printers.Locations.{enclosed}
use Rattle.irtext_print.proofs.location.print.fmt_metadata.Goals as goal

pub returns-in_ok-push_str-2-clause-text : goal.returns-in_ok-push_str-2-clause-text
returns-in_ok-push_str-2-clause-text g c =
    rw c.in-Some.is (enclosed (codes "<") (attr_text g.A.IrText.written (attr_view c.in-Some.attr)) (codes ">") (string_bytes c.args.f.now) (string_bytes c.push_str.new.text) (string_bytes c.fmt_attr.new.f)
    (string_bytes c.push_str-in-Some.new.text) refl refl c.in_ok-push_str.ensures.bytes c.in_ok-fmt_attr.ensures.text c.in_ok-push_str-2.ensures.bytes)
