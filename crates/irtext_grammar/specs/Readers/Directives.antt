-- Between functions: what a text is to the parser of an attribute, in the form that trees use.
use Rattle.irtext_base.specs.Text.{Text}
use Rattle.irtext_base.specs.Answers.{Outcome}
use Rattle.irtext_base.specs.Locations.{AttrView}
use Rattle.irtext_tokens.specs.Infix.{◌⇒◌}
use Rattle.irtext_grammar.specs.Spelling.AttrText.{attr_tree}
use Rattle.irtext_grammar.specs.Grammar.Tree.{Attribute}

module _ {A : Type 0} (attr : Text → Outcome (AttrView A)) where
  -- an attribute
  abbrev pub attribute_at : Text → Outcome (Attribute A)
  attribute_at = attr ⇒ attr_tree
