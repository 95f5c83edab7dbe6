use Rattle.std.proofs.Common.{sym, ◌∙◌, ap}
use Rattle.std.specs.Map.{lookup}
use Rattle.std.specs.Str.{bytes_eq}
use Rattle.irtext_context.proofs.Dictionaries
use Rattle.irtext_context.proofs.base.attributes.AttributeDict.get_str.Goals as goal

pub returns-then-is_reserved_text : goal.returns-then-is_reserved_text
returns-then-is_reserved_text g c =
    c.given_attr.ensures
    ∙ Dictionaries.get-hit c.args.key.now c.self.inside.given c.self.inside.others c.self.invariant (sym c.is_reserved_text.ensures ∙ c.if-is_reserved_text.true)
    ∙ ap (lookup (bytes_eq c.args.key.now)) c.self.view_is

pub returns : goal.returns
returns g c =
    c.get.ensures
    ∙ sym (Dictionaries.get-miss c.args.key.now c.self.inside.given c.self.inside.others c.self.invariant (sym c.is_reserved_text.ensures ∙ c.if-is_reserved_text.false))
    ∙ ap (lookup (bytes_eq c.args.key.now)) c.self.view_is
