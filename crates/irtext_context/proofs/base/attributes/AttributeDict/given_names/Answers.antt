use Rattle.std.proofs.Common.{refl, ◌∙◌, ap}
use Rattle.std.specs.Map.{lookup}
use Rattle.std.specs.Str.{bytes_eq}
use Rattle.irtext_base.specs.Format.{given_names_key}
use Rattle.irtext_context.proofs.Dictionaries
use Rattle.irtext_context.proofs.base.attributes.AttributeDict.given_names.Goals as goal

pub returns : goal.returns
returns g c =
    c.given_attr.ensures
    ∙ Dictionaries.get-hit given_names_key c.self.inside.given c.self.inside.others c.self.invariant refl
    ∙ ap (lookup (bytes_eq given_names_key)) c.self.view_is
