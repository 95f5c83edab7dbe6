use Rattle.std.proofs.Common.{refl}
use Rattle.irtext_tokens.specs.QuotedTexts.{unit_at, quoted_at}
use Rattle.irtext_tests_names.proofs.location_rows.space_in_locations.Goals as goal

pub returns : goal.returns
unfolding unit_at quoted_at
returns c = record { several = refl; before_bracket = refl; call = refl; in_parentheses = refl; none = refl }
