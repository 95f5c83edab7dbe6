use Rattle.std.proofs.Common.{◌≡◌, ◌∙◌, true, sym}
use Rattle.std.specs.Char.{is_ascii_digit}
use Rattle.irtext_base.specs.Text.{begins}
use Rattle.irtext_parts.proofs.literals.is_digits.Goals as goal

pub returns : goal.returns
returns c = let b : begins is_ascii_digit c.args.text.now ≡ true = sym c.begins_digit.ensures ∙ c.if-not-begins_digit.false in rw b c.all_digits.ensures
