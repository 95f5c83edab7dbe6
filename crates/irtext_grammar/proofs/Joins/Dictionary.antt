-- What the parser of an attribute returns, and the grammar's reading of it; and where an identifier is missing.
use Rattle.std.proofs.Common.{◌≡◌, ℕ, false, Option, refl, ap, subst}
use Rattle.irtext_base.specs.Text.{Text, begins, begins_word}
use Rattle.irtext_base.specs.Format.{Id, Format}
use Rattle.irtext_base.specs.Faults.{Fault, AnIdentifier}
use Rattle.irtext_base.specs.Faults as fault
use Rattle.irtext_base.specs.Answers.{Outcome, Read, Missing, mapped}
use Rattle.irtext_base.specs.Locations as view
use Rattle.irtext_base.specs.Stream.{first_of}
use Rattle.irtext_base.specs.Own.{Texts, Language, language, verdict}
use Rattle.irtext_base.proofs.Characters.{is_false}
use Rattle.irtext_tokens.specs.AttrTexts.{attr_at}
use Rattle.irtext_tokens.specs.Tokens.{identifier_at, word_at}
use Rattle.irtext_grammar.specs.Spelling.AttrText.{attr_tree}
use Rattle.irtext_grammar.specs.Readers.Directives.{attribute_at}
use Rattle.irtext_grammar.specs.Grammar.Reads as reads
use Rattle.irtext_grammar.specs.Grammar.Tree as tree
use Rattle.irtext_grammar.specs.Grammar.Tree.{Attribute}
use Rattle.irtext_grammar.proofs.Joins.Answers.{mapped_read, Splits, splits_mapped}
use Rattle.irtext_grammar.proofs.Joins.Attributes.{attribute_read, attribute-reads, splits_attr}

-- ---- what is put in

-- no word begins where an identifier is missing
pub word_missing : (text : Text) (cause : Fault) → identifier_at text ≡ Missing cause → begins begins_word text ≡ false
unfolding word_at
word_missing text cause e = is_false (begins begins_word text) (λ b. let q = rw b at e in cc q)

-- where no word begins, an identifier is missing
pub missing_word : (text : Text) → begins begins_word text ≡ false → (cause : Fault) × (identifier_at text ≡ Missing cause)
unfolding word_at
missing_word text b = (fault.Unexpected (first_of text) AnIdentifier, rw b refl)

module _ {T A : Type 0} (reading : Text → Outcome A) (types : Texts T) (owns : Texts A) (formats : Id → Option Format) (same : (text : Text) → owns.outcome text ≡ verdict (reading text)) where
  -- the language of the parsers
  abbrev pub l : Language ℕ T A
  l = language types owns formats

  -- ---- an attribute
  pub tree_read : (a : Attribute A) (text taken rest : Text) → attribute_at (attr_at reading) text ≡ Read a taken rest → reads.attribute l a text rest
  tree_read a text taken rest e =
      let m = mapped_read attr_tree (attr_at reading text) a taken rest e in
      subst (λ a. reads.attribute l a text rest) m.2 (attribute_read reading l same m.0 text taken rest m.1)

  -- an attribute that the grammar parses is accepted
  pub tree_found : (a : Attribute A) (text rest : Text) → reads.attribute l a text rest → (taken : Text) × (attribute_at (attr_at reading) text ≡ Read a taken rest)
  tree_found (tree.given_names ns) text rest r = let k = attribute-reads reading l same (view.given_names ns) text rest r in (k.0, ap (mapped attr_tree) k.1)
  tree_found (tree.ident n) text rest r = let k = attribute-reads reading l same (view.ident n) text rest r in (k.0, ap (mapped attr_tree) k.1)
  tree_found (tree.own a) text rest r = let k = attribute-reads reading l same (view.own a) text rest r in (k.0, ap (mapped attr_tree) k.1)

  -- what is taken of an attribute and what is left make up the text
  pub splits_tree : Splits reading → Splits (attribute_at (attr_at reading))
  splits_tree h = splits_mapped attr_tree (attr_at reading) (splits_attr reading h)
