use Rattle.std.proofs.Common.{◌∙◌, ap}
use Rattle.std.proofs.lemmas.Str.{IsUtf8-string_bytes}
use Rattle.irtext_parts.specs.Spellings.{is_spelled}
use Rattle.irtext_parts.proofs.SpelledRead.{spelled_chars}
use Rattle.irtext_parts.proofs.spelled.Spelled.kept.Goals as goal

pub invariant_of-result : goal.invariant_of-result
invariant_of-result g c =
    let rules = g.K.Spelling.rules in
    record { spelled = ap (is_spelled rules) (c.new.ensures ∙ spelled_chars rules g.met.K.Spelling.law _ (IsUtf8-string_bytes c.args.text) c.requires) ∙ c.requires }

pub returns : goal.returns
returns g c = c.new.ensures ∙ spelled_chars g.K.Spelling.rules g.met.K.Spelling.law _ (IsUtf8-string_bytes c.args.text) c.requires
