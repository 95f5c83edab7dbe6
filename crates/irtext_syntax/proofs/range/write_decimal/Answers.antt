use Rattle.std.proofs.Common.{◌∙◌, ◌++◌, ap, string_bytes}
use Rattle.irtext_syntax.proofs.range.write_decimal.Goals as goal

pub returns-clause-text : goal.returns-clause-text
returns-clause-text c = c.in_ok-push_str.ensures.bytes ∙ ap (λ z. string_bytes c.args.f.now ++ z) c.format.ensures.text
