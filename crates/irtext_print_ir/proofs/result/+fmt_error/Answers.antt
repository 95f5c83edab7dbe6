use Rattle.std.proofs.Common.{◌≡◌, ◌++◌, codes, string_bytes, sym, ap, ◌∙◌}
use Rattle.irtext_print.proofs.Printers.Appended.{then, error_appended, located_cause-plain}
use Rattle.irtext_grammar.specs.Spelling.Locations.{known_text}
use Rattle.irtext_print.specs.Errors.Located.{framed, located_cause, located_error}
use Rattle.irtext_print_ir.proofs.result.+fmt_error.Goals as goal

pub returns-in-Nested-clause-text : goal.returns-in-Nested-clause-text
returns-in-Nested-clause-text g t c =
    let error = c.args.error.now in
    let paths = c.args.ctx.now.paths in
    let nested : located_cause g.A.IrText.written paths error.err ≡ located_error g.A.IrText.written paths c.deref.result.now
    = ap (located_cause g.A.IrText.written paths) c.in-Nested.is ∙ ap (located_error g.A.IrText.written paths) (sym c.deref.ensures) in
    then c.fmt_error.result (λ p. error_appended (framed (codes "[") (codes "] ") (known_text g.A.IrText.written paths error.loc)) error.kind (located_cause g.A.IrText.written paths error.err)
    (string_bytes c.args.f.now) (string_bytes c.fmt_known.new.f) (string_bytes c.fmt_kind.new.f) (string_bytes c.fmt_error.new.f) c.in_ok-fmt_known.ensures.text c.in_ok-fmt_kind.ensures.text
    (p ∙ ap (λ z. string_bytes c.fmt_kind.new.f ++ z) (sym nested))) c.fmt_error.ensures.text

pub returns-in_default-clause-text : goal.returns-in_default-clause-text
returns-in_default-clause-text g t c =
    let error = c.args.error.now in
    let paths = c.args.ctx.now.paths in
    then c.fmt_cause.result (λ p. error_appended (framed (codes "[") (codes "] ") (known_text g.A.IrText.written paths error.loc)) error.kind (located_cause g.A.IrText.written paths error.err)
    (string_bytes c.args.f.now) (string_bytes c.fmt_known.new.f) (string_bytes c.fmt_kind.new.f) (string_bytes c.fmt_cause.new.f) c.in_ok-fmt_known.ensures.text c.in_ok-fmt_kind.ensures.text
    (p ∙ ap (λ z. string_bytes c.fmt_kind.new.f ++ z) (sym (located_cause-plain g.A.IrText.written paths error.err c.in_default.not-Nested)))) c.fmt_cause.ensures.text
