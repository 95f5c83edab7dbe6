use Rattle.std.proofs.Common.{refl}
use Rattle.std.specs.Fmt.{digits}
use Rattle.std.specs.Str.{chars}
use lib.Utf8.{encode}
use Rattle.irtext_tokens.specs.Tokens.{integer_at}
use Rattle.irtext_tokens.specs.QuotedTexts.{unit_at, quoted_at}
use Rattle.irtext_tests_names.proofs.location_rows.texts_of_locations.Goals as goal

pub returns : goal.returns
unfolding chars digits integer_at unit_at quoted_at encode
returns c = record { file = (refl, refl); escaped_file = (refl, refl); memory = (refl, refl); name = (refl, refl); escaped_name = (refl, refl); several = (refl, refl); with_metadata = (refl, refl); call = (refl, refl); inside = (refl, refl); none = (refl, refl) }
