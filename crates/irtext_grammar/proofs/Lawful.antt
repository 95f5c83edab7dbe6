-- The same over types and attributes that keep the law of their texts.
use Rattle.std.proofs.Common.{◌≡◌, ℕ, Option, [], List, ◌++◌, subst}
use Rattle.irtext_base.specs.Text.{Text}
use Rattle.irtext_base.specs.Format.{Id, Format}
use Rattle.irtext_base.specs.Answers.{Outcome, Read}
use Rattle.irtext_base.specs.Own.{Texts, Lawful, Sincere, language, texts_of}
use Rattle.irtext_base.specs.Paths.{Written}
use Rattle.irtext_base.proofs.Sincere.{Of, of_sincere}
use Rattle.irtext_tokens.specs.AttrTexts.{attr_at}
use Rattle.irtext_tokens.proofs.Honest.{honest_attr}
use Rattle.irtext_grammar.specs.Grammar.Section.{Entry, section}
use Rattle.irtext_grammar.specs.Names.Acts.{Rule}
use Rattle.irtext_grammar.specs.Promises.Supported.{location_verdict}
use Rattle.irtext_grammar.proofs.Joins.Answers.{Splits}
use Rattle.irtext_grammar.proofs.Exact.Attributes.{lawful_needs_word}
use Rattle.irtext_grammar.specs.Entries.{section_at}
use Rattle.irtext_grammar.specs.Agrees.{refused, ReadOrStops}
use Rattle.irtext_grammar.proofs.SectionWhole as whole

-- an attribute takes a front of its text
pub splits_attr : {A : Type 0} (reading : Text → Outcome A) → Sincere reading → Splits (attr_at reading)
splits_attr reading s text x taken rest e = (subst (Of text) e ((honest_attr (record { of = of_sincere reading s })).of text)).says

module _ {T A : Type 0} (types : Texts T) (reading : Text → Outcome A) (written : A → Text) (formats : Id → Option Format) (sincere : Sincere reading) (lawful : Lawful A (texts_of reading written)) (marks : List ℕ) (rules : ℕ → Rule A) where
  -- a section that is accepted the grammar parses, and it has no failure
  pub section_read : (text : Text) (es : List (Entry ℕ A (Written A))) (taken rest : Text) → section_at (attr_at reading) marks rules text ≡ Read es taken rest
      → section (language types (texts_of reading written) formats) (location_verdict (attr_at reading)) es text rest × (taken ++ rest ≡ text) × (refused marks rules es ≡ [])
  section_read = whole.section_read types reading written formats sincere.reads (lawful_needs_word reading written lawful) (splits_attr reading sincere) marks rules

  -- a section that the grammar parses is accepted, or rejected at the first failure
  pub section_found : (text : Text) (es : List (Entry ℕ A (Written A))) (rest : Text) → section (language types (texts_of reading written) formats) (location_verdict (attr_at reading)) es text rest
      → ReadOrStops text (section_at (attr_at reading) marks rules text) es rest (refused marks rules es)
  section_found = whole.section_found types reading written formats sincere.reads (lawful_needs_word reading written lawful) (splits_attr reading sincere) marks rules
