-- For callers: the text of an attribute.
use Rattle.std.specs.Prelude.{◌++◌, map, codes, ⊤}
use Rattle.irtext_base.specs.Text.{Text}
use Rattle.irtext_base.specs.Locations.{AttrView, given_names, ident, own}
use Rattle.irtext_grammar.specs.Spelling.Spell.{joined, comma, or_question}
use Rattle.irtext_grammar.specs.Spelling.Spellable.{Each, IsIdentifier, IsGiven}
use Rattle.irtext_grammar.specs.Grammar.Tree as tree

-- given names in brackets or an identifier, each after its keyword, or the text of the caller's attribute
abbrev pub attr_text : {A : Type 0} → (A → Text) → AttrView A → Text
attr_text written (given_names ns) = codes "builtin.given_names [" ++ (joined comma (map or_question ns) ++ codes "]")
attr_text written (ident n) = codes "builtin.identifier " ++ n
attr_text written (own a) = written a

-- the names in an attribute are identifiers
abbrev pub IsSpellableAttr : {A : Type 0} → AttrView A → Type 0
IsSpellableAttr (given_names ns) = Each IsGiven ns
IsSpellableAttr (ident n) = IsIdentifier n
IsSpellableAttr (own a) = ⊤

-- the attribute, in the form that trees use
abbrev pub attr_tree : {A : Type 0} → AttrView A → tree.Attribute A
attr_tree (given_names ns) = tree.given_names ns
attr_tree (ident n) = tree.ident n
attr_tree (own a) = tree.own a
