use Rattle.std.proofs.Common.{◌∙◌, ap}
use Rattle.irtext_tokens.proofs.irfmt.parsers.digits.Radix.has.Goals as goal

pub returns : goal.returns
returns c = c.has.ensures ∙ ap (λ is_digit. is_digit c.args.c) c.class.ensures
