use Rattle.std.proofs.Common.{sym, ◌∙◌}
use Rattle.irtext_base.specs.Format.{given_names_key}
use Rattle.irtext_grammar.proofs.Lists.SameText.{same_text-bytes_eq}
use Rattle.irtext_parse_locations.proofs.rules.is_names_key.Goals as goal

pub returns : goal.returns
returns c = (rw c.as_str.ensures.text at c.eq.ensures) ∙ sym (same_text-bytes_eq c.args.key.now given_names_key)
