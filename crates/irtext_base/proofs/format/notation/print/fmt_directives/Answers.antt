use Rattle.std.proofs.Common.{rules, sym, ap, ◌∙◌}
use Rattle.std.proofs.Output.{has_written_append, has_written_of_eq, writes_in_calls_nil}
use Rattle.std.specs.Prelude.{codes}
use Rattle.std.specs.List.{join_by}
use Rattle.std.specs.Str.{encode_utf8_all}
use Rattle.irtext_base.specs.FormatViews.{directives_of}
use Rattle.irtext_base.specs.Notation.{directive_text}
use Rattle.irtext_base.proofs.NotationPrint.{directives_bytes, none_bytes}
use Rattle.irtext_base.proofs.format.notation.print.fmt_directives.Goals as goal

pub returns-in_default : goal.returns-in_default
returns-in_default g c plain ok = has_written_of_eq _ _ _ _ _ (none_bytes c.args.directives.now c.in_default.ensures.cases) (record { wrote = writes_in_calls_nil _ _; plain = plain })

pub returns : goal.returns
returns g c plain ok =
    let one = c.write.ensures.writes plain (search rules) in
    let two = c.fmt_more.ensures one.plain ok in
    let q = directives_bytes c.in-Some.first.now c.in-Some.rest.now in
    let whole = ap (λ ds. encode_utf8_all (join_by directive_text (codes " ") (directives_of ds))) c.in-Some.ensures.cases.0 in
    has_written_of_eq _ _ _ _ _ (sym (whole ∙ q)) (has_written_append _ _ _ _ _ _ one two)
