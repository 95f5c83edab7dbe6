-- Attributes: the outcome of their parser on a text, given the outcome of the caller's own parser.
use Rattle.std.specs.Prelude.{◌≡◌, true, false, Bool, List, Option, Some, None, codes}
use Rattle.std.specs.Str.{bytes_eq}
use Rattle.irtext_base.specs.Text.{Text, begins, front, after, in_dotted}
use Rattle.irtext_base.specs.Reading.{the}
use Rattle.irtext_base.specs.Answers.{Outcome, Takes}
use Rattle.irtext_base.specs.Stream.{StreamView}
use Rattle.irtext_base.specs.Locations.{AttrView, given_names, ident, own}
use Rattle.irtext_tokens.specs.Tokens.{space_at, word, identifier_at}
use Rattle.irtext_tokens.specs.Infix.{Reader, ◌▷◌, ◌◁◌, ◌⇒◌, either}
use Rattle.irtext_tokens.specs.ListOutcomes.{separated_at}
use Rattle.irtext_tokens.specs.declared.irfmt.parsers.attributes.Lead.{Lead}
use Rattle.irtext_tokens.specs.declared.irfmt.parsers.attributes.Lead.TheVariants as lead

-- whether the dotted word at the beginning of the text is this one
abbrev pub leads : Text → Text → Bool
leads word text = bytes_eq (front in_dotted text) word

-- a given name, or `?` for a missing one
abbrev pub given_name_at : Reader (Option Text)
given_name_at = either (begins (the 63)) (word (codes "?") ⇒ λ _. None) (identifier_at ⇒ Some)

-- given names, separated by `,`
abbrev pub names_at : Reader (List (Option Text))
names_at = separated_at 44 given_name_at

-- given names in brackets
abbrev pub bracketed_names_at : Reader (List (Option Text))
bracketed_names_at = space_at ▷ word (codes "[") ▷ space_at ▷ names_at ◁ word (codes "]")

-- given names in brackets, after their word
unfoldable pub given_names_at : Reader (List (Option Text))
given_names_at = word (codes "builtin.given_names") ▷ bracketed_names_at

-- an identifier after white space
abbrev pub spaced_identifier_at : Reader Text
spaced_identifier_at = space_at ▷ identifier_at

-- an identifier after its word
unfoldable pub ident_at : Reader Text
ident_at = word (codes "builtin.identifier") ▷ spaced_identifier_at

module _ {A : Type 0} (reading : Text → Outcome A) where
  -- given names or an identifier if their word comes first, and otherwise an attribute of the caller
  unfoldable pub attr_at : Reader (AttrView A)
  attr_at = either (leads (codes "builtin.given_names")) (given_names_at ⇒ given_names) (either (leads (codes "builtin.identifier")) (ident_at ⇒ ident) (reading ⇒ own))

module _ {S : Type 0} (view : S → StreamView) (at : S → StreamView → S) where
  -- the word that introduces given names or an identifier was consumed, or no such word comes next and the stream is unchanged
  abbrev pub Led : S → Lead → S → Type 0
  Led old lead.GivenNames new = (leads (codes "builtin.given_names") (view old).rest ≡ true)
      × Takes view at (codes "builtin.given_names") (after in_dotted (view old).rest) old new
  Led old lead.Ident new = (leads (codes "builtin.given_names") (view old).rest ≡ false)
      × (leads (codes "builtin.identifier") (view old).rest ≡ true)
      × Takes view at (codes "builtin.identifier") (after in_dotted (view old).rest) old new
  Led old lead.Own new = (leads (codes "builtin.given_names") (view old).rest ≡ false)
      × (leads (codes "builtin.identifier") (view old).rest ≡ false)
      × (new ≡ old)
